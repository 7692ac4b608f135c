-- A change of one of its ends keeps a packet's length.
use Rattle.std.proofs.Common.{◌≡◌, ℕ, List, length, refl}
use Rattle.ftc_base.specs.declared.ask.Change.{Change}
use Rattle.ftc_base.specs.declared.ask.Change.TheVariants.{Keep, Source, Destination}
use Rattle.ftc_packet.specs.Rewrite.{with_end, with_source, with_destination}
use Rattle.ftc_packet.proofs.WordEdits.{length-with_word}
use Rattle.ftc_mbox.specs.Change.{changed_packet}

source_length : (bytes : List ℕ) (address port : ℕ) → length (with_source bytes address port) ≡ length bytes
unfolding with_end
source_length bytes address port = simp length-with_word

destination_length : (bytes : List ℕ) (address port : ℕ) → length (with_destination bytes address port) ≡ length bytes
unfolding with_end
destination_length bytes address port = simp length-with_word

pub changed_length : (bytes : List ℕ) (change : Change) → length (changed_packet bytes change) ≡ length bytes
changed_length bytes Keep = refl
changed_length bytes (Source address port) = source_length bytes address port
changed_length bytes (Destination address port) = destination_length bytes address port

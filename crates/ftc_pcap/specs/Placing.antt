-- The refusal of a record, and its place in the text.
use Rattle.std.specs.Prelude.{◌≡◌, ℕ, Bool, List, Some}
use Rattle.ftc_base.specs.declared.refusal.Refuse.{Refuse}
use Rattle.ftc_base.specs.declared.refusal.Refuse.TheVariants.{Bad, NoMemory}
use Rattle.ftc_pcap.specs.Grammar.{record_cause}
use Rattle.ftc_pcap.specs.declared.capture.CaptureCause.{CaptureCause}
use Rattle.ftc_pcap.specs.declared.capture.CaptureFault.{CaptureFault}

-- a refusal of the record at the front of the bytes, behind so many others
abbrev pub RefusesRecord : Bool → ℕ → List ℕ → Refuse CaptureCause → Type 0
RefusesRecord big count bytes (Bad cause) = record_cause big count bytes ≡ Some cause
RefusesRecord big count bytes NoMemory = Unit {0}

-- the same refusal, at that byte of the text
abbrev pub placed_at : ℕ → Refuse CaptureCause → Refuse CaptureFault
placed_at at (Bad cause) = Bad (record { at = at; cause = cause })
placed_at at NoMemory = NoMemory

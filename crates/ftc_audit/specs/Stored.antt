-- What a translator's store says of outside ports.
use Rattle.std.specs.Prelude.{ℕ, Bool, true, false, ◌==◌, ◌&&◌, List, length, slice_index, take, drop, Option, Some}
use Rattle.std.specs.Prelude.{None, if◌then◌else◌}
use Rattle.std.specs.Int.{w16, w32, from_be_bytes}
use Rattle.ftc_mbox.specs.declared.rule.Rule.{Rule}
use Rattle.ftc_mbox.specs.declared.rule.Rule.TheVariants.{Pass, Monitor, Nat, Firewall, Balance}
use Rattle.ftc_store.specs.declared.pairs.Pair.{Pair}
use Rattle.ftc_audit.specs.declared.line.PortLine.{PortLine}

-- At `f`, a protocol, an address and a port stands the outside port of that endpoint. Other pairs say nothing of one.
abbrev pub line_at : List ℕ → List ℕ → Option PortLine
line_at key value =
    if length key == 8 && slice_index key 0 == 102 && length value == 2
    then Some (record {
      outside = from_be_bytes w16 value;
      protocol = slice_index key 1;
      address = from_be_bytes w32 (take 4 (drop 2 key));
      port = from_be_bytes w16 (drop 6 key);
    })
    else None

abbrev pub line_in : Pair → Option PortLine
line_in pair = line_at pair.key pair.value

-- it is a translator's rule
abbrev pub is_nat : Option Rule → Bool
is_nat (Some (Nat rule)) = true
is_nat (Some Pass) = false
is_nat (Some (Monitor groups)) = false
is_nat (Some (Firewall rule)) = false
is_nat (Some (Balance rule)) = false
is_nat None = false

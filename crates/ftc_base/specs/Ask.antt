-- What a rule asks, by short names, and what an answered value says as a number.
use Rattle.std.specs.Prelude.{ℕ, ◌==◌, List, [], length, Option, Some, None, if◌then◌else◌}
use Rattle.std.specs.Int.{Width, byte_len, from_be_bytes}
use Rattle.ftc_base.specs.declared.ask.Write.{Write}
use Rattle.ftc_base.specs.declared.ask.Change.{Change}
use Rattle.ftc_base.specs.declared.ask.Change.TheVariants.{Keep}
use Rattle.ftc_base.specs.declared.ask.Verdict.{Verdict}
use Rattle.ftc_base.specs.declared.ask.Verdict.TheVariants.{Forward, Filter}
use Rattle.ftc_base.specs.declared.ask.Ask.{Ask}
use Rattle.ftc_base.specs.declared.ask.Ask.TheVariants.{Finish}

-- a value is put at a key
abbrev pub put : List ℕ → List ℕ → Write
put key value = record { key = key; value = Some value }

-- the end of a visit
abbrev pub finish : List Write → Verdict → Ask
finish writes verdict = Finish (record { writes = record { items = writes }; verdict = verdict })

-- the packet goes on as it is, after these writes
abbrev pub forward : List Write → Ask
forward writes = finish writes (Forward Keep)

-- the packet goes on, rewritten
abbrev pub forward_changed : List Write → Change → Ask
forward_changed writes change = finish writes (Forward change)

-- the packet is dropped, and nothing is written
abbrev pub filter_out : Ask
filter_out = finish [] Filter

-- the number that an answered value says, where it has just so many bits
abbrev pub number_in : Width → Option (List ℕ) → Option ℕ
number_in width None = None
number_in width (Some value) = if length value == byte_len width then Some (from_be_bytes width value) else None

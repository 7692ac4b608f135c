-- The rule of a monitor, which counts packets by groups of source addresses.
use Rattle.std.specs.Prelude.{ℕ, ◌+◌, ◌%◌, min, List, [], ◌∷◌, ◌++◌, sum, codes, true, unwrap_or}
use Rattle.std.specs.Int.{w16, w32, w64, to_be_bytes}
use Rattle.ftc_base.specs.declared.ask.Answer.{Answer}
use Rattle.ftc_base.specs.declared.ask.Ask.{Ask}
use Rattle.ftc_base.specs.declared.ask.Ask.TheVariants.{Read}
use Rattle.ftc_base.specs.Ask.{number_in, forward, put}
use Rattle.ftc_packet.specs.declared.flow.Flow.{Flow}

-- the group of a flow: the sum of the four bytes of its source address, modulo the count of groups
abbrev pub group_of : ℕ → Flow → ℕ
group_of groups flow = sum (to_be_bytes w32 flow.source) % groups

-- the key of a group: `m` and the group in 16 bits
abbrev pub group_key : ℕ → List ℕ
group_key group = codes "m" ++ to_be_bytes w16 group

-- one more, up to the greatest number of 64 bits
abbrev pub next_count : ℕ → ℕ
next_count count = min (count + 1) 18446744073709551615

-- it reads the count, 0 where there is none, of the flow's group, and writes one more
abbrev pub monitor_ask : ℕ → Flow → List Answer → Ask
monitor_ask groups flow [] = Read (group_key (group_of groups flow)) true
monitor_ask groups flow (answer ∷ answers) =
    forward (put (group_key (group_of groups flow))
    (to_be_bytes w64 (next_count (unwrap_or (number_in w64 answer.value) 0))) ∷ [])

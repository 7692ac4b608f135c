-- The rule of a translator.
use Rattle.std.specs.Prelude.{ℕ, ◌+◌, ◌==◌, ◌&&◌, nat_lt, not, List, [], ◌∷◌, ◌++◌, length, Option, Some, None}
use Rattle.std.specs.Prelude.{if◌then◌else◌, codes, true, false, take, drop, Bool, unwrap_or}
use Rattle.std.specs.Int.{w16, w32, to_be_bytes, from_be_bytes}
use Rattle.ftc_base.specs.declared.ask.Answer.{Answer}
use Rattle.ftc_base.specs.declared.ask.Ask.{Ask}
use Rattle.ftc_base.specs.declared.ask.Ask.TheVariants.{Read}
use Rattle.ftc_base.specs.declared.ask.Change.TheVariants.{Source, Destination}
use Rattle.ftc_base.specs.Ask.{number_in, forward, forward_changed, filter_out, put}
use Rattle.ftc_base.specs.Endpoint.{contains, endpoint}
use Rattle.ftc_packet.specs.declared.flow.Flow.{Flow}
use Rattle.ftc_nat.specs.declared.rule.NatRule.{NatRule}

-- `f`, a protocol and an inside endpoint: the key at which the endpoint's outside port stands, in 16 bits.
abbrev pub outside_port_key : ℕ → ℕ → ℕ → List ℕ
outside_port_key protocol address port = codes "f" ++ protocol ∷ endpoint address port

-- `n`: the key at which the next outside port stands, in 32 bits.
abbrev pub next_port_key : List ℕ
next_port_key = codes "n"

-- `r`, a protocol and an outside port: the key at which the inside endpoint of that port stands.
abbrev pub inside_key : ℕ → ℕ → List ℕ
inside_key protocol port = codes "r" ++ protocol ∷ to_be_bytes w16 port

-- A flow that leaves the inside net.
abbrev pub leaves : NatRule → Flow → Bool
leaves rule flow = contains rule.inside flow.source && not (contains rule.inside flow.destination)

-- A port that is drawn for an endpoint: its reverse key is read too, and then the two keys and the next port are
-- written.
abbrev pub drawing : NatRule → Flow → ℕ → List Answer → Ask
drawing rule flow port [] = Read (inside_key flow.protocol port) true
drawing rule flow port (reverse ∷ answers) =
    forward_changed
    (put (outside_port_key flow.protocol flow.source flow.source_port) (to_be_bytes w16 port)
    ∷ put next_port_key (to_be_bytes w32 (port + 1))
    ∷ put (inside_key flow.protocol port) (endpoint flow.source flow.source_port)
    ∷ [])
    (Source rule.outside port)

-- An endpoint without an outside port draws the next one, which is the first where none is written yet, unless the last
-- has been drawn.
abbrev pub unknown : NatRule → Flow → List Answer → Ask
unknown rule flow [] = Read next_port_key true
unknown rule flow (next ∷ answers) =
    let port = unwrap_or (number_in w32 next.value) rule.first in
    if nat_lt rule.last port then filter_out else drawing rule flow port answers

-- What is known of an endpoint's outside port.
abbrev pub known_or_not : NatRule → Flow → Option ℕ → List Answer → Ask
known_or_not rule flow (Some port) answers = forward_changed [] (Source rule.outside port)
known_or_not rule flow None answers = unknown rule flow answers

-- A packet from inside to outside.
abbrev pub outgoing : NatRule → Flow → List Answer → Ask
outgoing rule flow [] = Read (outside_port_key flow.protocol flow.source flow.source_port) true
outgoing rule flow (port ∷ answers) = known_or_not rule flow (number_in w16 port.value) answers

-- To the inside endpoint that a value of 48 bits says; dropped where there is none.
abbrev pub to_inside : Option (List ℕ) → Ask
to_inside None = filter_out
to_inside (Some value) =
    if length value == 6
    then forward_changed [] (Destination (from_be_bytes w32 (take 4 value)) (from_be_bytes w16 (drop 4 value)))
    else filter_out

-- A packet to an outside port.
abbrev pub incoming : Flow → List Answer → Ask
incoming flow [] = Read (inside_key flow.protocol flow.destination_port) false
incoming flow (inside ∷ answers) = to_inside inside.value

-- What a translator asks next of a flow's packet.
abbrev pub nat_ask : NatRule → Flow → List Answer → Ask
nat_ask rule flow answers =
    if leaves rule flow then outgoing rule flow answers
    else if flow.destination == rule.outside then incoming flow answers
    else forward []

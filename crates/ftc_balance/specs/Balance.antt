-- The rule of a balancer.
use Rattle.std.specs.Prelude.{ℕ, ◌+◌, ◌%◌, ◌==◌, ◌&&◌, nat_lt, List, [], ◌∷◌, ◌++◌, length, Option, Some, None}
use Rattle.std.specs.Prelude.{if◌then◌else◌, codes, true, false, slice_index, unwrap_or}
use Rattle.std.specs.List.{list_any}
use Rattle.std.specs.Int.{w16, w32, to_be_bytes}
use Rattle.ftc_base.specs.declared.ask.Answer.{Answer}
use Rattle.ftc_base.specs.declared.ask.Ask.{Ask}
use Rattle.ftc_base.specs.declared.ask.Ask.TheVariants.{Read}
use Rattle.ftc_base.specs.declared.ask.Change.TheVariants.{Source, Destination}
use Rattle.ftc_base.specs.Ask.{number_in, forward, forward_changed, put}
use Rattle.ftc_packet.specs.declared.flow.Flow.{Flow}
use Rattle.ftc_balance.specs.declared.rule.BalanceRule.{BalanceRule}

-- `c`, a protocol and a client's endpoint: the key at which the address of its backend stands, in 32 bits.
abbrev pub client_key : ℕ → ℕ → ℕ → List ℕ
client_key protocol address port = codes "c" ++ protocol ∷ (to_be_bytes w32 address ++ to_be_bytes w16 port)

-- `t`: the key at which the index of the backend whose turn it is stands, in 32 bits.
abbrev pub turn_key : List ℕ
turn_key = codes "t"

-- The index of the backend whose turn it is; an index that no backend has counts as 0, and so does none.
abbrev pub turn_in : ℕ → Option (List ℕ) → ℕ
turn_in count value =
    let index = unwrap_or (number_in w32 value) 0 in
    if nat_lt index count then index else 0

-- A client without a backend gets the one whose turn it is.
abbrev pub new_client : BalanceRule → Flow → List Answer → Ask
new_client rule flow [] = Read turn_key true
new_client rule flow (turn ∷ answers) =
    let index = turn_in (length rule.backends) turn.value in
    let backend = slice_index rule.backends index in
    forward_changed
    (put (client_key flow.protocol flow.source flow.source_port) (to_be_bytes w32 backend)
    ∷ put turn_key (to_be_bytes w32 ((index + 1) % length rule.backends))
    ∷ [])
    (Destination backend flow.destination_port)

abbrev pub known_or_not : BalanceRule → Flow → Option ℕ → List Answer → Ask
known_or_not rule flow (Some backend) answers = forward_changed [] (Destination backend flow.destination_port)
known_or_not rule flow None answers = new_client rule flow answers

-- A packet of a client.
abbrev pub from_client : BalanceRule → Flow → List Answer → Ask
from_client rule flow [] = Read (client_key flow.protocol flow.source flow.source_port) true
from_client rule flow (backend ∷ answers) = known_or_not rule flow (number_in w32 backend.value) answers

-- A reply of the client's own backend comes from the balancer's address and port.
abbrev pub replied : BalanceRule → Flow → Option ℕ → Ask
replied rule flow None = forward []
replied rule flow (Some backend) =
    if backend == flow.source then forward_changed [] (Source rule.address rule.port) else forward []

-- A packet from a backend's address and the balanced port.
abbrev pub from_backend : BalanceRule → Flow → List Answer → Ask
from_backend rule flow [] = Read (client_key flow.protocol flow.destination flow.destination_port) false
from_backend rule flow (backend ∷ answers) = replied rule flow (number_in w32 backend.value)

-- What a balancer asks next of a flow's packet.
abbrev pub balance_ask : BalanceRule → Flow → List Answer → Ask
balance_ask rule flow answers =
    if flow.destination == rule.address && flow.destination_port == rule.port then from_client rule flow answers
    else if list_any (λ backend. backend == flow.source) rule.backends && flow.source_port == rule.port
    then from_backend rule flow answers
    else forward []

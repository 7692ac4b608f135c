-- What a server knows, and when a message is ready and a packet due.
use Rattle.std.specs.Prelude.{ℕ, ◌≡◌, ◌-◌, ◌&&◌, ◌||◌, true, Some}
use Rattle.ftc_protocol.specs.Setting.{Setting, servers, is_tail}
use Rattle.ftc_protocol.specs.Visits.{Visits, In}
use Rattle.ftc_protocol.specs.Trace.{Has}
use Rattle.ftc_protocol.specs.State.{Message, Withheld, ChainState}

-- the server has a visit
abbrev pub ServerHas : Setting → ChainState → ℕ → ℕ → ℕ → Type 0
ServerHas setting state server group packet = Has setting.partitions state.trace (state.lists server) group packet

-- a message is ready at a server that has all its logs
abbrev pub IsReady : Setting → ChainState → ℕ → Message → Type 0
IsReady setting state server message =
    (group packet : ℕ) → In message.logs group packet → ServerHas setting state server group packet

-- what a server knows to be at the tails: of a group whose tail it is, at least its own list
abbrev pub knows : Setting → ChainState → ℕ → Visits
knows setting state server group packet =
    state.known server group packet || (is_tail setting group server && state.lists server group packet)

-- a withheld packet is due where the last server knows each of its needs to be at its tail
abbrev pub IsDue : Setting → ChainState → ℕ → Withheld → Type 0
IsDue setting state packet withheld =
    (state.withheld packet ≡ Some withheld)
    × ((group : ℕ) → withheld.needs group ≡ true
    → Has setting.partitions state.trace (knows setting state (servers setting - 1)) group packet)

-- What a new server gets when it takes the place of one that is down, and what that undoes.
use Rattle.std.specs.Prelude.{ℕ, zero, suc, Bool, ◌==◌, ◌&&◌, ◌||◌, nat_lt, not, List, [], ◌∷◌, ◌++◌, unwrap_or}
use Rattle.std.specs.Prelude.{if◌then◌else◌}
use Rattle.ftc_journal.specs.declared.event.VisitName.{VisitName}
use Rattle.ftc_serial.specs.Serial.{Entry, Visited, Given}
use Rattle.ftc_ring.specs.Ring.{apart, next_of}
use Rattle.ftc_ring.specs.Live.{live_before_of, live_after_of, source_between, span}
use Rattle.ftc_protocol.specs.Setting.{Setting, servers, is_member}
use Rattle.ftc_protocol.specs.Visits.{Visits}
use Rattle.ftc_protocol.specs.Trace.{has_each, lacked_by}
use Rattle.ftc_protocol.specs.State.{Where, Held, Queued, Message, ChainState}

-- the nearest live server before, and the nearest after
abbrev pub previous_live : Setting → ChainState → ℕ → ℕ
previous_live setting state server = unwrap_or (live_before_of (servers setting) state.up server) server

abbrev pub following_live : Setting → ChainState → ℕ → ℕ
following_live setting state server = unwrap_or (live_after_of (servers setting) state.up server) server

-- The list that the new server gets of a group: that of the live server before where the group's head lies up to that
-- server, and that of the live server after where the head lies behind it.
abbrev pub list_got : Setting → ChainState → ℕ → ℕ → ℕ → Visits
list_got setting state server previous following group packet =
    is_member setting group server
    && state.lists (source_between (servers setting) previous following group server) group packet

-- a head lies strictly between the two live servers: where they are one, every other head does
abbrev pub is_between : ℕ → ℕ → ℕ → ℕ → Bool
is_between size previous following head =
    nat_lt 0 (apart size previous head) && nat_lt (apart size previous head) (span size previous following)

-- A visit is undone by itself where it touches something, its head lies between, and the live server after lacks it.
abbrev pub is_undone_itself : Setting → ChainState → ℕ → ℕ → Visits
is_undone_itself setting state previous following group packet =
    is_between (servers setting) previous following group
    && lacked_by setting.partitions state.trace (state.lists following) group packet

-- the test is true at a number up to that one
abbrev pub is_up_to : (ℕ → Bool) → ℕ → Bool
is_up_to test zero = test 0
is_up_to test (suc most) = test (suc most) || is_up_to test most

-- with it the later visits of its packet
abbrev pub is_undone : Setting → ChainState → ℕ → ℕ → Visits
is_undone setting state previous following group packet =
    is_up_to (λ earlier. is_undone_itself setting state previous following earlier packet) group

-- those visits of the trace, in its order
abbrev pub in_order : Visits → List Entry → List VisitName
in_order visits [] = []
in_order visits (Visited server packet outcome ∷ older) =
    if visits server packet then in_order visits older ++ record { server = server; packet = packet } ∷ []
    else in_order visits older
in_order visits (Given packet bytes ∷ older) = in_order visits older

-- the visits of a trace, the first of them first
abbrev pub visits_in : List Entry → List VisitName
visits_in [] = []
visits_in (Visited server packet outcome ∷ older) = visits_in older ++ record { server = server; packet = packet } ∷ []
visits_in (Given packet bytes ∷ older) = visits_in older

-- the visits that the recovery of a server undoes, each once, in trace order
abbrev pub undone_visits : Setting → ChainState → ℕ → List VisitName
undone_visits setting state server =
    in_order (is_undone setting state (previous_live setting state server)
    (following_live setting state server)) state.trace

-- With a recovery go the messages that are queued to the live server after, and those that it holds and that aren't
-- ready there.
abbrev pub is_dropped_at : Setting → ChainState → ℕ → Visits → Where → Bool
is_dropped_at setting state following logs (Held server visited by_ring) =
    (server == following) && not (has_each setting.partitions state.trace (state.lists following) logs)
is_dropped_at setting state following logs (Queued link) = next_of (servers setting) link == following

abbrev pub is_dropped : Setting → ChainState → ℕ → Message → Bool
is_dropped setting state following message = is_dropped_at setting state following message.logs message.place

-- the links into a server and out of it get gaps
abbrev pub gaps_at : Setting → (ℕ → Bool) → ℕ → ℕ → Bool
gaps_at setting gap server link = gap link || (link == server) || (next_of (servers setting) link == server)

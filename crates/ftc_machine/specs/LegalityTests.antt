-- When the machine takes an event to be legal: tests of what it keeps.
use Rattle.std.specs.Prelude.{ℕ, ◌+◌, ◌==◌, ◌&&◌, ◌||◌, nat_lt, not, Bool, true, false, List, [], ◌∷◌, drop, is_some}
use Rattle.std.specs.Prelude.{is_none, Option, Some, None}
use Rattle.std.specs.List.{list_all, list_any, range_with_len}
use Rattle.std.specs.Option.{option_map_or}
use Rattle.ftc_base.specs.Sets.{has}
use Rattle.ftc_vector.specs.Commits.{vector_of}
use Rattle.ftc_ring.specs.Ring.{RingShape, next_of}
use Rattle.ftc_ring.specs.Live.{is_live}
use Rattle.ftc_journal.specs.declared.event.VisitName.{VisitName}
use Rattle.ftc_script.specs.declared.line.ScriptLine.{ScriptLine}
use Rattle.ftc_script.specs.declared.line.ScriptLine.TheVariants.{Crash, Recover}
use Rattle.ftc_script.specs.Script.{ScriptShape, loses_of}
use Rattle.ftc_script.specs.Steps.{at_of}
use Rattle.ftc_serial.specs.Trace.{names}
use Rattle.ftc_machine.specs.declared.state.footprint.Footprint.{Footprint}
use Rattle.ftc_machine.specs.declared.state.MachineState.{MachineState}
use Rattle.ftc_machine.specs.declared.state.message.Message.{Message}
use Rattle.ftc_machine.specs.declared.state.message.Place.{Place}
use Rattle.ftc_machine.specs.declared.state.message.Place.TheVariants.{Held, Queued}
use Rattle.ftc_machine.specs.declared.state.message.Withheld.{Withheld}
use Rattle.ftc_protocol.specs.Changes.{is_some_list}
use Rattle.ftc_machine.specs.Slots.{slot_at, has_such}
use Rattle.ftc_machine.specs.Frontier.{Footprints, has_changed, contains, follows, is_had_by}
use Rattle.ftc_machine.specs.Represents.{footprints_in, frontiers_of}

-- ---- sets of visits

-- a set that reaches so far has the visit
abbrev pub has_named : Footprints → List (List ℕ) → VisitName → Bool
has_named footprints reach name =
    option_map_or (λ (footprint : Footprint). is_had_by footprint (vector_of reach name.server))
    (footprints name.server name.packet) true

abbrev pub has_all : Footprints → List (List ℕ) → List VisitName → Bool
has_all footprints reach names = list_all (has_named footprints reach) names

abbrev pub footprints_of : MachineState → Footprints
footprints_of machine = footprints_in machine.visits.items

abbrev pub list_of : MachineState → ℕ → List (List ℕ)
list_of machine server = frontiers_of machine.lists.items server

-- ---- messages

abbrev pub is_held : ℕ → Place → Bool
is_held server (Held other visited by_ring) = other == server
is_held server (Queued link known) = false

abbrev pub is_unvisited : ℕ → Place → Bool
is_unvisited server (Held other visited by_ring) = other == server && not visited
is_unvisited server (Queued link known) = false

-- it may be sent on, if it is ready
abbrev pub may_go : ℕ → Bool → Place → Bool
may_go server bare (Held other visited by_ring) = other == server && not by_ring && (visited || bare)
may_go server bare (Queued link known) = false

abbrev pub came_by_ring : Place → Bool
came_by_ring (Held other visited by_ring) = other == 0 && by_ring
came_by_ring (Queued link known) = false

abbrev pub is_begun : Place → Bool
is_begun (Held other visited by_ring) = other == 0 && not by_ring
is_begun (Queued link known) = false

abbrev pub is_queued : ℕ → Place → Bool
is_queued link (Held server visited by_ring) = false
is_queued link (Queued other known) = other == link

abbrev pub is_ready : MachineState → ℕ → Message → Bool
is_ready machine server message = has_all (footprints_of machine) (list_of machine server) message.logs

abbrev pub is_older : ℕ → ℕ → Message → Bool
is_older link since message = is_queued link message.place && nat_lt message.since since

-- ---- events

abbrev pub lines_left : MachineState → ScriptShape → List ScriptLine
lines_left machine script = drop machine.done script.steps

abbrev pub may_enter : MachineState → ScriptShape → ℕ → ℕ → Bool
may_enter machine script count packet =
    packet == machine.entered && nat_lt packet count
    && not (list_any (λ line. at_of line == packet) (lines_left machine script))

abbrev pub may_take : MachineState → ℕ → ℕ → Bool
may_take machine link origin =
    has_such (λ message. is_queued link message.place
    && not (list_any (has_such (is_older link message.since)) machine.messages)) (slot_at machine.messages origin)

-- a log may be added to a list that reaches so far at its middlebox
abbrev pub may_add : List ℕ → Footprint → Bool
may_add vector footprint = has_changed footprint && not (contains footprint vector) && follows footprint vector

-- of the logs of that packet, those of smaller groups are had
abbrev pub is_in_turn : MachineState → ℕ → ℕ → ℕ → VisitName → Bool
is_in_turn machine server group packet name =
    not (name.packet == packet && nat_lt name.server group)
    || has_named (footprints_of machine) (list_of machine server) name

abbrev pub carries : MachineState → ℕ → ℕ → ℕ → ℕ → Bool
carries machine server origin group packet =
    has_such (λ message. is_held server message.place && names message.logs group packet
    && list_all (is_in_turn machine server group packet) message.logs) (slot_at machine.messages origin)

abbrev pub may_apply : MachineState → ℕ → ℕ → ℕ → ℕ → Bool
may_apply machine server origin group packet =
    carries machine server origin group packet
    && has_such (may_add (vector_of (list_of machine server) group)) (footprints_of machine group packet)

abbrev pub may_visit : MachineState → ℕ → ℕ → Bool
may_visit machine server packet =
    has_such (λ message. is_unvisited server message.place && is_some message.packet && is_ready machine server message)
    (slot_at machine.messages packet)

abbrev pub may_leave : MachineState → ℕ → ℕ → Bool
may_leave machine server origin =
    has_such (λ message. may_go server (is_none message.packet) message.place && is_ready machine server message)
    (slot_at machine.messages origin)

abbrev pub sends : RingShape → ℕ → Bool
sends ring server = not (server + 1 == ring.servers) || nat_lt 0 ring.failures

abbrev pub may_pass : MachineState → ScriptShape → ℕ → ℕ → Bool
may_pass machine script server origin =
    may_leave machine server origin && (is_none (loses_of script.loses server origin)
    || not (sends machine.ring server))

abbrev pub may_lose : MachineState → ScriptShape → ℕ → ℕ → Bool
may_lose machine script server origin =
    may_leave machine server origin && sends machine.ring server && is_some (loses_of script.loses server origin)

abbrev pub may_carry : MachineState → ℕ → Bool
may_carry machine origin =
    has_such (λ message. came_by_ring message.place && is_ready machine 0 message) (slot_at machine.messages origin)

abbrev pub first_of : List ScriptLine → Option ScriptLine
first_of [] = None
first_of (line ∷ lines) = Some line

abbrev pub is_crash : ℕ → ℕ → ScriptLine → Bool
is_crash entered server (Crash at other) = at == entered && other == server
is_crash entered server (Recover at other) = false

abbrev pub is_recovery : ℕ → ℕ → ScriptLine → Bool
is_recovery entered server (Crash at other) = false
is_recovery entered server (Recover at other) = at == entered && other == server

abbrev pub may_crash : MachineState → ScriptShape → ℕ → Bool
may_crash machine script server = has_such (is_crash machine.entered server) (first_of (lines_left machine script))

abbrev pub may_recover : MachineState → ScriptShape → ℕ → Bool
may_recover machine script server = has_such (is_recovery machine.entered server) (first_of (lines_left machine script))

abbrev pub may_pull : MachineState → ℕ → Bool
may_pull machine link = nat_lt link machine.ring.servers && is_live machine.down link
    && is_live machine.down (next_of machine.ring.servers link) && has machine.gaps link

abbrev pub all_below : ℕ → (ℕ → Bool) → Bool
all_below count test = list_all test (range_with_len 0 count)

abbrev pub is_stalled : MachineState → Bool
is_stalled machine =
    not (list_any (has_such (λ (message : Message). true)) machine.messages)
    && all_below machine.ring.servers (λ link. not (has machine.gaps link))
    && list_any (has_such (λ (withheld : Withheld). true)) machine.buffer

abbrev pub may_propagate : MachineState → ℕ → ℕ → Bool
may_propagate machine count origin =
    machine.entered == count && all_below machine.ring.servers (is_live machine.down)
    && not (list_any (has_such (λ (message : Message). is_begun message.place)) machine.messages)
    && (is_some_list machine.forwarder || is_stalled machine) && origin == count + machine.propagates

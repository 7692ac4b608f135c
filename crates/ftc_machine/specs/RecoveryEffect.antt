-- What a recovery does, by what is kept.
use Rattle.std.specs.Prelude.{ℕ, ◌≡◌, ◌+◌, ◌==◌, ◌&&◌, ◌||◌, not, nat_lt, nat_le, Bool, List, [], Option, Some, None}
use Rattle.std.specs.Prelude.{unwrap_or, if◌then◌else◌}
use Rattle.std.specs.List.{list_any, range_with_len}
use Rattle.ftc_base.specs.declared.ask.Write.{Write}
use Rattle.ftc_journal.specs.declared.event.Event.{Event}
use Rattle.ftc_journal.specs.declared.event.VisitName.{VisitName}
use Rattle.ftc_ring.specs.Ring.{apart, next_of}
use Rattle.ftc_ring.specs.Live.{is_live, live_before_of, live_after_of, source_between}
use Rattle.ftc_serial.specs.Trace.{names}
use Rattle.ftc_store.specs.Store.{Content, written}
use Rattle.ftc_vector.specs.Vector.{by_partition, merged}
use Rattle.ftc_vector.specs.Commits.{vector_of, all_merged, group_raised}
use Rattle.ftc_machine.specs.declared.state.footprint.Footprint.{Footprint}
use Rattle.ftc_machine.specs.declared.state.MachineState.{MachineState}
use Rattle.ftc_machine.specs.declared.state.message.Message.{Message}
use Rattle.ftc_machine.specs.declared.state.message.Place.{Place}
use Rattle.ftc_machine.specs.declared.state.message.Place.TheVariants.{Held, Queued}
use Rattle.ftc_protocol.specs.Changes.{is_some_list}
use Rattle.ftc_machine.specs.Lawful.{AreLawful}
use Rattle.ftc_machine.specs.Represents.{frontiers_of}
use Rattle.ftc_machine.specs.Frontier.{Footprints, is_had_by}
use Rattle.ftc_protocol.specs.Recovery.{is_between}
use Rattle.ftc_protocol.specs.Run.{IsRun, state_after}
use Rattle.ftc_protocol.specs.Setting.{Setting, IsSetting}
use Rattle.ftc_machine.specs.Slots.{has_such}
use Rattle.ftc_ring.specs.Groups.{group_ending_at}
use Rattle.ftc_protocol.specs.State.{ChainState, opening}
use Rattle.ftc_machine.specs.LegalityTests.{footprints_of, list_of, is_ready}

-- a run leads to the state
pub record IsLawfulRun (setting : Setting) (state : ChainState) : Type 0 where
  pub supposed : IsSetting setting
  pub journal : List Event
  pub run : IsRun setting journal
  pub leads : state_after setting (opening setting) journal ≡ state
  pub laws : AreLawful setting

-- the nearest other live server before, and the nearest after, or the server itself where there is none
abbrev pub kept_previous : MachineState → ℕ → ℕ
kept_previous machine server = unwrap_or (live_before_of machine.ring.servers (is_live machine.down) server) server

abbrev pub kept_following : MachineState → ℕ → ℕ
kept_following machine server = unwrap_or (live_after_of machine.ring.servers (is_live machine.down) server) server

-- the visit touches something, and a set that reaches so far at its middlebox lacks it
abbrev pub is_lacked : List ℕ → Footprint → Bool
is_lacked vector footprint = is_some_list footprint.touched.items && not (is_had_by footprint vector)

-- a visit is undone by itself where its head lies between and the live server after lacks it
abbrev pub is_undone_alone : MachineState → ℕ → ℕ → ℕ → ℕ → Bool
is_undone_alone machine previous following packet group =
    is_between machine.ring.servers previous following group
    && has_such (is_lacked (vector_of (list_of machine following) group)) (footprints_of machine group packet)

-- and with it the later visits of its packet
abbrev pub is_undone_kept : MachineState → ℕ → ℕ → VisitName → Bool
is_undone_kept machine previous following name =
    list_any (is_undone_alone machine previous following name.packet) (range_with_len 0 (name.server + 1))

-- ---- what the new server gets

-- the vector that it gets of a group: that of the live server from which it gets the group's list, where it is a member
abbrev pub got_vector : MachineState → ℕ → ℕ → ℕ → ℕ → List ℕ
got_vector machine server previous following group =
    if nat_lt group machine.ring.servers && nat_le (apart machine.ring.servers group server) machine.ring.failures
    then merged (by_partition (λ _. 0)) (vector_of
    (list_of machine (source_between machine.ring.servers previous following group server)) group)
    else by_partition (λ _. 0)

-- to what is known the list of that group is added
abbrev pub tail_added : MachineState → ℕ → List (List ℕ) → List (List ℕ)
tail_added machine server known =
    group_raised known (group_ending_at machine.ring server)
    (vector_of (list_of machine server) (group_ending_at machine.ring server))

-- what two servers know to be at the tails
abbrev pub both_known : MachineState → ℕ → ℕ → List (List ℕ)
both_known machine one other =
    tail_added machine other (tail_added machine one
    (all_merged (frontiers_of machine.known.items one) (frontiers_of machine.known.items other)))

-- the visits that stay
abbrev pub is_left : List VisitName → VisitName → Bool
is_left undone name = not (names undone name.server name.packet)

-- what a visit wrote
abbrev pub writes_kept : Option Footprint → List Write
writes_kept None = []
writes_kept (Some footprint) = footprint.writes.items

-- the content of a server's middlebox behind one more visit
abbrev pub rewritten : Footprints → ℕ → Content → VisitName → Content
rewritten footprints server content name =
    if name.server == server then written (writes_kept (footprints name.server name.packet)) content else content

-- ---- what goes

-- a message that is queued to the live server after, or that it holds and isn't ready there
abbrev pub is_dropped_from : MachineState → ℕ → Message → Place → Bool
is_dropped_from machine following message (Held server visited by_ring) =
    server == following && not (is_ready machine following message)
is_dropped_from machine following message (Queued link known) = next_of machine.ring.servers link == following

abbrev pub is_dropped_kept : MachineState → ℕ → Message → Bool
is_dropped_kept machine following message = is_dropped_from machine following message message.place

-- the links into a server and out of it get gaps
abbrev pub gaps_through : ℕ → (ℕ → Bool) → ℕ → ℕ → Bool
gaps_through count gap server link = gap link || (link == server) || (next_of count link == server)

-- What is kept after a message leaves a server, part by part.
use Rattle.std.proofs.Common.{◌≡◌, ℕ, ◌+◌, ◌<◌, ◌==◌, ◌&&◌, ◌||◌, Bool, true, false, not, is_some, nat_lt}
use Rattle.std.proofs.Common.{if◌then◌else◌, List, [], Option, Some, None, length, slice_set, refl, sym, ◌∙◌, ap, subst}
use Rattle.std.proofs.Common.{eq-eqb}
use Rattle.std.proofs.Math.Bool.{or_comm}
use Rattle.std.proofs.lemmas.Bool.{ne_eqb}
use Rattle.std.specs.Option.{option_map_or}
use Rattle.ftc_base.specs.Sets.{has}
use Rattle.ftc_journal.specs.declared.event.Event.{Event}
use Rattle.ftc_journal.specs.declared.event.VisitName.{VisitName}
use Rattle.ftc_ring.specs.Live.{is_live}
use Rattle.ftc_ring.specs.Ring.{RingShape, next_of}
use Rattle.ftc_ring.proofs.Geometry.{next_within}
use Rattle.ftc_serial.specs.Trace.{names}
use Rattle.ftc_serial.specs.Words.{with_at}
use Rattle.ftc_serial.proofs.Functions.{with_at_cases}
use Rattle.ftc_protocol.specs.declared.fate.Fate.{Fate}
use Rattle.ftc_protocol.specs.declared.fate.Fate.TheVariants.{Inside, Lost}
use Rattle.ftc_machine.specs.declared.state.MachineState.{MachineState}
use Rattle.ftc_machine.specs.declared.state.message.Message.{Message as MessageOfMachine}
use Rattle.ftc_machine.specs.declared.state.message.Place.{Place}
use Rattle.ftc_machine.specs.declared.state.message.Place.TheVariants as place
use Rattle.ftc_machine.specs.declared.state.message.Withheld.{Withheld as WithheldOfMachine}
use Rattle.ftc_machine.specs.Simulation.{logs_in, sending}
use Rattle.ftc_machine.specs.Represents.{Represents, IsMessageSlot, IsPlace, IsWithheldSlot, FollowsRun, fate_in}
use Rattle.ftc_machine.specs.Represents.{footprints_in}
use Rattle.ftc_protocol.specs.Known.{knows}
use Rattle.ftc_protocol.specs.Legal.{MayHappen, MayLeave, is_sent}
use Rattle.ftc_protocol.specs.Next.{next, is_away, has_packet, logs_of, sent_message, sent_on, withheld_of}
use Rattle.ftc_protocol.specs.Next.{withheld_packet}
use Rattle.ftc_machine.specs.Frontier.{AreFrontiers, numbers_of}
use Rattle.ftc_protocol.specs.Setting.{Setting, servers, is_tail}
use Rattle.ftc_machine.specs.Slots.{slot_at}
use Rattle.ftc_protocol.specs.State.{ChainState, Message, Withheld, Queued}
use Rattle.ftc_ring.specs.Groups.{group_ending_at}
use Rattle.ftc_machine.specs.Tails.{known_at}
use Rattle.ftc_machine.specs.LegalityTests.{sends}
use Rattle.ftc_machine.proofs.OnwardLogs.{logs_go_on}
use Rattle.ftc_machine.proofs.MovedMessages.{kept_message}
use Rattle.ftc_machine.proofs.ReplacedPlaces.{changed_if, others_left, none_there}
use Rattle.ftc_machine.proofs.GroupTails.{knows_reaches}

-- a packet goes away that isn't the last server's, where something is sent from every other
sent_away : (last more away : Bool) → (((not last || more) && away) && not last) ≡ (away && not last)
sent_away true true true = refl
sent_away true true false = refl
sent_away true false true = refl
sent_away true false false = refl
sent_away false more away = refl

-- both events of sending, by one
pub after_sending : (c : Setting) (s : ChainState) (server origin : ℕ) (lost : Bool) (new : MachineState) →
    Represents c (record (sent_on c s server origin lost) { events = s.events + 1 }) new →
    Represents c (next c s (sending lost server origin)) new
after_sending c s server origin true new is = is
after_sending c s server origin false new is = is

pub leaves : (c : Setting) (s : ChainState) (server origin : ℕ) (lost : Bool) →
    MayHappen c s (sending lost server origin) → (message : Message) × MayLeave c s server origin message
leaves c s server origin true happens = (happens.0, happens.1)
leaves c s server origin false happens = (happens.0, happens.1)

module _ (c : Setting) (s : ChainState) (k : MachineState) (is : Represents c s k) (server : ℕ) (lost : Bool)
    (below : server < servers c) where
  pub last_is : (server + 1 == k.ring.servers) ≡ (server + 1 == servers c)
  last_is = ap (λ (ring : RingShape). server + 1 == ring.servers) is.ring

  pub sends_is : sends k.ring server ≡ is_sent c server
  sends_is = ap (λ (ring : RingShape). sends ring server) is.ring

  pub away_is : (lost || not (is_live k.down (next_of k.ring.servers server))) ≡ is_away c s server lost
  away_is =
      ap (λ (ring : RingShape). lost || not (is_live k.down (next_of ring.servers server))) is.ring
      ∙ ap (λ b. lost || not b) (sym (is.up (next_of (servers c) server) (next_within (servers c) server below)))

  pub queued_is : (sends k.ring server && not (lost || not (is_live k.down (next_of k.ring.servers server))))
      ≡ (is_sent c server && not (is_away c s server lost))
  queued_is = ap (λ b. b && not (lost || not (is_live k.down (next_of k.ring.servers server)))) sends_is ∙ ap
      (λ b. is_sent c server && not b) away_is

  pub gap_is : (sends k.ring server && (lost || not (is_live k.down (next_of k.ring.servers server))))
      ≡ (is_sent c server && is_away c s server lost)
  gap_is = ap (λ b. b && (lost || not (is_live k.down (next_of k.ring.servers server)))) sends_is ∙ ap
      (λ b. is_sent c server && b) away_is

  -- the gaps
  pub gaps_kept : (gaps : ℕ) (gap : Bool) → gap ≡ (is_sent c server && is_away c s server lost) →
      ((link : ℕ) → has gaps link ≡ ((link == server && gap) || has k.gaps link))
      → (link : ℕ) → link < servers c →
      has gaps link ≡ with_at s.gap server (s.gap server || (is_sent c server && is_away c s server lost)) link
  gaps_kept gaps gap test are link within =
      with_at_cases (λ v. has gaps link ≡ v) s.gap server (s.gap server
      || (is_sent c server && is_away c s server lost)) link
      (λ e.
      are link ∙ ap (λ b. (b && gap) || has k.gaps link) (eq-eqb link server e) ∙ or_comm gap (has k.gaps link)
      ∙ ap (λ b. b || gap) (is.gaps link within ∙ ap s.gap e) ∙ ap (λ b. s.gap server || b) test)
      (λ ne. are link ∙ ap (λ b. (b && gap) || has k.gaps link) (ne_eqb link server ne) ∙ is.gaps link within)

  -- the forwarder
  pub forwarder_kept : (list : List VisitName) → list ≡ (if server == 0 then [] else k.forwarder) → (group packet : ℕ) →
      names list group packet ≡ (not (server == 0) && s.forwarder group packet)
  forwarder_kept list left group packet =
      ap (λ (visits : List VisitName). names visits group packet) left ∙ by_test (server == 0)
    where
      by_test : (b : Bool) → names (if b then [] else k.forwarder) group packet ≡ (not b && s.forwarder group packet)
      by_test true = refl
      by_test false = is.forwarder group packet

  module _ (origin now : ℕ) (clock : now ≡ s.events) (message : Message) (kept : MessageOfMachine)
      (there : s.message origin ≡ Some message) (slot : slot_at k.messages origin ≡ Some kept) where
    same_packet : kept.packet ≡ message.packet
    same_packet = (kept_message c s k is origin message kept there slot).packet

    same_needs : (group : ℕ) → has kept.needs group ≡ message.needs group
    same_needs = (kept_message c s k is origin message kept there slot).needs

    -- the buffer
    entry : (o : Option (List ℕ)) →
        IsWithheldSlot origin (withheld_packet s message o) (if is_some o then
        Some (record { packet = origin; since = now; needs = kept.needs }) else None)
    entry None = tt
    entry (Some bytes) = record { packet_is = refl; since = clock; needs = same_needs }

    pub buffer_kept : (room new : List (Option WithheldOfMachine)) (last : Bool) (item : Option WithheldOfMachine) →
        last ≡ (server + 1 == servers c)
        → item ≡ (if is_some kept.packet then Some (record { packet = origin; since = now; needs = kept.needs })
        else None)
        → new ≡ (if last then slice_set room origin item else room) → origin < length room →
        ((other : ℕ) → slot_at room other ≡ slot_at k.buffer other)
        → (packet : ℕ) → IsWithheldSlot packet (with_at s.withheld origin (if server + 1 == servers c then
        withheld_of s (s.message origin) else s.withheld origin) packet) (slot_at new packet)
    buffer_kept room new last item test item_is set within same =
        changed_if (λ packet (o : Option Withheld)
        (found : Option WithheldOfMachine). IsWithheldSlot packet o found) s.withheld k.buffer room new origin last
        (server + 1 == servers c)
        (withheld_of s (s.message origin)) (s.withheld origin) item test set within (λ other _. same other)
        (subst (λ (found : Option WithheldOfMachine). IsWithheldSlot origin (withheld_of s (s.message origin)) found)
        (sym (item_is ∙ ap (λ (o : Option (List ℕ)). if is_some o then
        Some (record { packet = origin; since = now; needs = kept.needs }) else None) same_packet))
        (subst (λ (o : Option Message). IsWithheldSlot origin (withheld_of s o) (if is_some message.packet then
        Some (record { packet = origin; since = now; needs = kept.needs }) else None)) (sym there)
        (entry message.packet)))
        (subst (λ (found : Option WithheldOfMachine). IsWithheldSlot origin (s.withheld origin) found)
        (sym (same origin)) (is.buffer origin)) is.buffer

    -- the fates
    pub fates_kept : (room new : List (Option Fate)) (last gap goes : Bool) → last ≡ (server + 1 == servers c) →
        gap ≡ (is_sent c server && is_away c s server lost) → goes ≡ (gap && not last && is_some kept.packet)
        → new ≡ (if goes then slice_set room origin (Some (Lost now)) else room) → origin < length room →
        ((other : ℕ) → slot_at room other ≡ slot_at k.fates other)
        → (packet : ℕ) → fate_in new packet
        ≡ with_at s.fate origin (if is_away c s server lost && not (server + 1 == servers c)
        && has_packet (s.message origin) then Lost s.events else s.fate origin) packet
    fates_kept room new last gap goes last_test gap_test goes_test set within same =
        changed_if (λ _ (fate : Fate) (found : Option Fate). option_map_or (λ (is_fate : Fate). is_fate) found Inside
        ≡ fate) s.fate k.fates room new origin goes
        (is_away c s server lost && not (server + 1 == servers c) && has_packet (s.message origin)) (Lost s.events)
        (s.fate origin) (Some (Lost now)) test set within (λ other _. same other)
        (ap Lost clock) (ap (λ (found : Option Fate). option_map_or (λ (is_fate : Fate). is_fate) found Inside)
        (same origin) ∙ is.fates origin) is.fates
      where
        test : goes ≡ (is_away c s server lost && not (server + 1 == servers c) && has_packet (s.message origin))
        test =
            goes_test ∙ ap (λ b. b && not last
            && is_some kept.packet) gap_test ∙ ap (λ b. (is_sent c server && is_away c s server lost) && not b
            && is_some kept.packet) last_test
            ∙ ap (λ b. b && is_some kept.packet)
            (sent_away (server + 1 == servers c) (nat_lt 0 c.failures) (is_away c s server lost))
            ∙ ap (λ (o : Option (List ℕ)). is_away c s server lost && not (server + 1 == servers c)
            && is_some o) same_packet
            ∙ sym (ap (λ (o : Option Message). is_away c s server lost && not (server + 1 == servers c)
            && has_packet o) there)

    -- the message on the link
    pub sent_kept : (event : Event) → FollowsRun c s event → (sent : MessageOfMachine) (last : Bool) (known : _) →
        last ≡ (server + 1 == servers c) → sent.place ≡ place.Queued server known → known.value ≡ known_at k server
        → sent.since ≡ now → sent.packet ≡ (if last then None else kept.packet) →
        ((group : ℕ) → has sent.needs group ≡ (not last && has kept.needs group))
        → ((group packet : ℕ) → names sent.logs group packet
        ≡ ((names (logs_in (slot_at k.messages origin)) group packet && not (group == group_ending_at k.ring server))
        || ((server == 0) && names k.forwarder group packet)))
        → IsMessageSlot c.partitions s.trace (numbers_of (footprints_in k.visits.items))
        (sent_message c s server (s.message origin)) (Some sent)
    sent_kept event may sent last known last_test at knows_all since packet needs logs =
        subst (λ (o : Option Message). IsMessageSlot c.partitions s.trace (numbers_of (footprints_in k.visits.items))
        (sent_message c s server o) (Some sent)) (sym there) (record {
          place = subst (λ (where_it_is : Place). IsPlace c.partitions s.trace
              (numbers_of (footprints_in k.visits.items)) (knows c s server) (Queued server) where_it_is) (sym at) (
                refl,
                subst (λ (reach : List (List ℕ)). AreFrontiers c.partitions s.trace
                    (numbers_of (footprints_in k.visits.items)) (knows c s server) reach) (sym knows_all)
                    (knows_reaches c s event may k is server below),
              );
          since = since ∙ clock;
          packet = packet ∙ ap (λ b. if b then None
              else kept.packet) last_test ∙ ap (λ (o : Option (List ℕ)). if server + 1 == servers c then None
              else o) same_packet;
          logs = λ group number. logs_go_on c s event may k is server origin below sent.logs logs group number ∙ ap
              (λ (o : Option Message). (logs_of o group number && not (is_tail c group server))
              || ((server == 0) && s.forwarder group number)) there;
          needs = λ group. needs group ∙ ap (λ b. not b
              && has kept.needs group) last_test ∙ ap (λ b. not (server + 1 == servers c) && b) (same_needs group);
        })

    pub messages_kept : (room new : List (Option MessageOfMachine)) (queued : Bool) (sent : MessageOfMachine) →
        queued ≡ (is_sent c server && not (is_away c s server lost))
        → IsMessageSlot c.partitions s.trace (numbers_of (footprints_in k.visits.items))
        (sent_message c s server (s.message origin)) (Some sent)
        → room ≡ slice_set k.messages origin None → new ≡ (if queued then slice_set room origin (Some sent) else room) →
        origin < length room
        → (number : ℕ) → IsMessageSlot c.partitions s.trace (numbers_of (footprints_in k.visits.items))
        (with_at s.message origin (if is_sent c server && not (is_away c s server lost) then
        sent_message c s server (s.message origin) else None) number) (slot_at new number)
    messages_kept room new queued sent test here taken set within =
        changed_if (λ _ (o : Option Message) (found : Option MessageOfMachine). IsMessageSlot c.partitions s.trace
        (numbers_of (footprints_in k.visits.items)) o found) s.message k.messages room new origin queued
        (is_sent c server && not (is_away c s server lost)) (sent_message c s server (s.message origin)) None
        (Some sent) test set within (others_left k.messages room origin taken) here
        (subst (λ (found : Option MessageOfMachine). IsMessageSlot c.partitions s.trace
        (numbers_of (footprints_in k.visits.items)) None found)
        (sym (ap (λ (slots : List
        (Option MessageOfMachine)). slot_at slots origin) taken ∙ none_there k.messages origin)) tt)
        is.sets.messages

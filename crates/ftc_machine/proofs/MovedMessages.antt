-- A message as it is kept, and what of it stays where it moves.
use Rattle.std.proofs.Common.{◌≡◌, ℕ, ◌+◌, ◌<◌, ◌==◌, false, List, [], Option, Some, None, slice_set, refl, sym, ◌∙◌}
use Rattle.std.proofs.Common.{ap, subst, arith}
use Rattle.ftc_base.specs.Sets.{has}
use Rattle.ftc_journal.specs.declared.event.VisitName.{VisitName}
use Rattle.ftc_ring.specs.Ring.{RingShape, next_of}
use Rattle.ftc_serial.specs.Serial.{Entry}
use Rattle.ftc_serial.specs.Trace.{names}
use Rattle.ftc_serial.specs.Words.{with_at}
use Rattle.ftc_vector.specs.Commits.{all_merged}
use Rattle.ftc_machine.specs.declared.state.MachineState.{MachineState}
use Rattle.ftc_machine.specs.declared.state.message.Message.{Message as MessageOfMachine}
use Rattle.ftc_machine.specs.declared.state.message.Place.{Place}
use Rattle.ftc_machine.specs.declared.state.message.Place.TheVariants as place
use Rattle.ftc_machine.specs.Represents.{Represents, IsMessage, IsMessageSlot, IsPlace, footprints_in, frontiers_of}
use Rattle.ftc_protocol.specs.Next.{taken_message}
use Rattle.ftc_machine.specs.Frontier.{Numbers, AreFrontiers, numbers_of}
use Rattle.ftc_protocol.specs.Setting.{Setting, servers}
use Rattle.ftc_machine.specs.Slots.{slot_at}
use Rattle.ftc_protocol.specs.State.{ChainState, Message, Where, Held, Queued}
use Rattle.ftc_protocol.specs.Visits.{Visits, union}
use Rattle.ftc_machine.proofs.MergedFrontiers.{AreWithin, merged_reaches}
use Rattle.ftc_machine.proofs.ReplacedPlaces.{row_replaced}

-- a message stands where what it carries reaches as far after as before
module _ (partitions : ℕ) (trace after : List Entry) (numbers others : Numbers) where
  place_moves : (known : Visits) (at : Where) (kept : Place) →
      ((reach : List (List ℕ)) → AreFrontiers partitions trace numbers known reach →
      AreFrontiers partitions after others known reach) → IsPlace partitions trace numbers known at kept →
      IsPlace partitions after others known at kept
  place_moves known (Held server visited by_ring) (place.Held other said by) moves is = is
  place_moves known (Held server visited by_ring) (place.Queued other reach) moves is = is
  place_moves known (Queued link) (place.Held other said by) moves is = is
  place_moves known (Queued link) (place.Queued other reach) moves is = (is.0, moves reach.value is.1)

  pub slot_moves : (o : Option Message) (slot : Option MessageOfMachine) →
      ((message : Message) → o ≡ Some message → (reach : List (List ℕ)) →
      AreFrontiers partitions trace numbers message.known reach →
      AreFrontiers partitions after others message.known reach) → IsMessageSlot partitions trace numbers o slot →
      IsMessageSlot partitions after others o slot
  slot_moves None None moves is = is
  slot_moves None (Some kept) moves is = is
  slot_moves (Some message) None moves is = is
  slot_moves (Some message) (Some kept) moves is = record {
    place = place_moves message.known message.place kept.place (moves message refl) is.place;
    since = is.since;
    packet = is.packet;
    logs = is.logs;
    needs = is.needs;
  }

-- a message as it is kept beside one trace, beside another
module _ (partitions : ℕ) (trace after : List Entry) (numbers others : Numbers)
    (moves : (visits : Visits) (reach : List (List ℕ)) → AreFrontiers partitions trace numbers visits reach →
    AreFrontiers partitions after others visits reach) where
  pub slot_stays : (o : Option Message) (slot : Option MessageOfMachine) →
      IsMessageSlot partitions trace numbers o slot → IsMessageSlot partitions after others o slot
  slot_stays o slot =
      slot_moves partitions trace after numbers others o slot (λ message _ reach. moves message.known reach)

module _ (partitions : ℕ) (trace : List Entry) (numbers : Numbers) where
  -- the message that is there stands for the one that is kept
  pub there : (o : Option Message) (slot : Option MessageOfMachine) (message : Message) (kept : MessageOfMachine) →
      o ≡ Some message → slot ≡ Some kept → IsMessageSlot partitions trace numbers o slot
      → IsMessage partitions trace numbers message kept
  there o slot message kept is at here =
      subst (λ (found : Option MessageOfMachine). IsMessageSlot partitions trace numbers (Some message) found) at
      (subst (λ (found : Option Message). IsMessageSlot partitions trace numbers found slot) is here)

  -- what a queued message carries
  pub carried : (message : Message) (kept : MessageOfMachine) (link other : ℕ) (known : _) →
      message.place ≡ Queued link → kept.place ≡ place.Queued other known →
      IsMessage partitions trace numbers message kept
      → AreFrontiers partitions trace numbers message.known known.value
  carried message kept link other known queued is kept_is =
      let both : IsPlace partitions trace numbers message.known (Queued link) (place.Queued other known) =
      subst (λ (at : Place). IsPlace partitions trace numbers message.known (Queued link) at) is
      (subst (λ (where_it_is : Where). IsPlace partitions trace numbers message.known where_it_is kept.place) queued
      kept_is.place) in
      both.1

module _ (c : Setting) (s : ChainState) (k : MachineState) (is : Represents c s k) where
  -- what is kept of the message
  pub kept_message : (origin : ℕ) (message : Message) (kept : MessageOfMachine) → s.message origin ≡ Some message →
      slot_at k.messages origin ≡ Some kept
      → IsMessage c.partitions s.trace (numbers_of (footprints_in k.visits.items)) message kept
  kept_message origin message kept there_is at =
      there c.partitions s.trace (numbers_of (footprints_in k.visits.items)) (s.message origin)
      (slot_at k.messages origin) message kept there_is at (is.sets.messages origin)

  -- the receiver holds a message that is taken
  pub taken_kept : (origin link : ℕ) (message : Message) (kept new : MessageOfMachine) →
      s.message origin ≡ Some message → slot_at k.messages origin ≡ Some kept
      → IsPlace c.partitions s.trace (numbers_of (footprints_in k.visits.items)) message.known
      (Held (next_of (servers c) link) false (link + 1 == servers c)) new.place
      → new.since ≡ s.events → new.packet ≡ kept.packet → new.logs ≡ kept.logs → new.needs ≡ kept.needs
      → IsMessageSlot c.partitions s.trace (numbers_of (footprints_in k.visits.items))
      (taken_message c s link (s.message origin)) (Some new)
  taken_kept origin link message kept new there_is at place since packet logs needs =
      let old = kept_message origin message kept there_is at in
      subst (λ (o : Option Message). IsMessageSlot c.partitions s.trace (numbers_of (footprints_in k.visits.items))
      (taken_message c s link o) (Some new)) (sym there_is) (record {
        place = place;
        since = since;
        packet = packet ∙ old.packet;
        logs = λ server number. ap (λ (list : List VisitName). names list server number) logs ∙ old.logs server number;
        needs = λ server. ap (λ set. has set server) needs ∙ old.needs server;
      })

  -- a server knows more
  pub known_merges : AreWithin c.partitions s.trace →
      (receiver place : ℕ) (other : Visits) (reach : List (List ℕ)) (after : List (List ℕ)) (new : List (List (List ℕ)))
      → AreFrontiers c.partitions s.trace (numbers_of (footprints_in k.visits.items)) other reach →
      receiver < servers c → place ≡ receiver
      → after ≡ all_merged (frontiers_of k.known.items place) reach → new ≡ slice_set k.known.items place after
      → (server : ℕ) → server < servers c
      → AreFrontiers c.partitions s.trace (numbers_of (footprints_in k.visits.items))
      (with_at s.known receiver (union (s.known receiver) other) server) (frontiers_of new server)
  known_merges few receiver place other reach after new reaches below at merges is_new =
      row_replaced (λ server (visits : Visits) (row : List (List ℕ)). server < servers c →
      AreFrontiers c.partitions s.trace (numbers_of (footprints_in k.visits.items)) visits row)
      s.known [] k.known.items k.known.items new receiver (union (s.known receiver) other) after
      (is_new ∙ ap (λ p. slice_set k.known.items p after) at)
      (let long = k.each_known in let size = ap (λ (ring : RingShape). ring.servers) is.ring in
      omega arith) (λ _ _. refl)
      (λ within.
      subst (λ (row : List (List ℕ)). AreFrontiers c.partitions s.trace (numbers_of (footprints_in k.visits.items))
      (union (s.known receiver) other) row)
      (sym (merges ∙ ap (λ p. all_merged (frontiers_of k.known.items p) reach) at))
      (merged_reaches c.partitions s.trace (numbers_of (footprints_in k.visits.items)) few (s.known receiver) other
      (frontiers_of k.known.items receiver) reach (is.sets.known receiver within) reaches))
      is.sets.known

-- What stands for a state stands for the state after an event that neither makes nor undoes a visit, part by part.
use Rattle.std.proofs.Common.{◌≡◌, ◌≢◌, ◌+◌, ◌<◌, ◌∙◌, ℕ, true, List, Option, length, slice_set, drop, ap, subst, arith}
use Rattle.std.proofs.Common.{sym}
use Rattle.std.specs.Option.{option_map_or}
use Rattle.ftc_base.specs.Sets.{has}
use Rattle.ftc_ring.specs.Live.{is_live}
use Rattle.ftc_serial.specs.Contents.{content_at}
use Rattle.ftc_serial.specs.Trace.{names}
use Rattle.ftc_serial.specs.Words.{with_at}
use Rattle.ftc_protocol.specs.Setting.{Setting, servers}
use Rattle.ftc_protocol.specs.State.{ChainState, Message}
use Rattle.ftc_protocol.specs.Trace.{content_of}
use Rattle.ftc_protocol.specs.declared.fate.Fate.{Fate}
use Rattle.ftc_protocol.specs.declared.fate.Fate.TheVariants.{Inside}
use Rattle.ftc_machine.specs.declared.state.footprint.Footprint.{Footprint}
use Rattle.ftc_machine.specs.declared.state.MachineState.{MachineState}
use Rattle.ftc_machine.specs.declared.state.message.Message.{Message as MessageOfMachine}
use Rattle.ftc_machine.specs.Frontier.{AreFootprints, AreFrontiers, AreRising, numbers_of}
use Rattle.ftc_machine.specs.Represents.{Represents, IsMessageSlot, IsWithheldSlot, fate_in, footprints_in}
use Rattle.ftc_machine.specs.Represents.{frontiers_of, visits_in}
use Rattle.ftc_machine.specs.Slots.{slot_at}
use Rattle.ftc_machine.proofs.ReplacedPlaces.{replaced}
use Rattle.ftc_machine.proofs.RisingNumbers.{rising_more}

-- the parts that such an event leaves as they were; it counts as an event
pub record AreLeft (s after : ChainState) (k new : MachineState) : Type 0 where
  pub trace : after.trace ≡ s.trace
  pub up : after.up ≡ s.up
  pub lines : after.lines ≡ s.lines
  pub counted : after.events ≡ s.events + 1
  pub ring : new.ring ≡ k.ring
  pub partitions : new.partitions ≡ k.partitions
  pub down : new.down ≡ k.down
  pub visits : new.visits.items ≡ k.visits.items
  pub order : new.order ≡ k.order
  pub done : new.done ≡ k.done

module _ {c : Setting} {s : ChainState} {k : MachineState} (is : Represents c s k) where
  -- the other parts are handed in as they are after the event
  pub goes_on : {after : ChainState} {new : MachineState} → AreLeft s after k new →
      ((server : ℕ) → server < servers c → AreFrontiers c.partitions after.trace
      (numbers_of (footprints_in new.visits.items)) (after.lists server) (frontiers_of new.lists.items server)) →
      ((server : ℕ) → server < servers c → AreFrontiers c.partitions after.trace
      (numbers_of (footprints_in new.visits.items)) (after.known server) (frontiers_of new.known.items server)) →
      ((origin : ℕ) → IsMessageSlot c.partitions after.trace (numbers_of (footprints_in new.visits.items))
      (after.message origin) (slot_at new.messages origin)) →
      ((server : ℕ) → server < servers c → after.up server ≡ true →
      content_at new.stores.items server ≡ content_of after.trace (after.lists server server) server) →
      ((server packet : ℕ) → names new.forwarder server packet ≡ after.forwarder server packet) →
      ((packet : ℕ) → IsWithheldSlot packet (after.withheld packet) (slot_at new.buffer packet)) →
      ((link : ℕ) → link < servers c → has new.gaps link ≡ after.gap link) → new.entered ≡ after.entered →
      new.propagates ≡ after.propagates → ((packet : ℕ) → fate_in new.fates packet ≡ after.fate packet) →
      Represents c after new
  goes_on {after = after} {new = new} as_left lists known messages stores forwarder buffer gaps entered propagates
      fates =
      let rows : List (List (Option Footprint)) = k.visits.items in
      let rising : AreRising (numbers_of (footprints_in rows)) (after.events + 1) s.trace =
      let counted = as_left.counted in
      rising_more (numbers_of (footprints_in rows)) (s.events + 1) (after.events + 1) s.trace (omega arith)
      is.sets.rising in
      record {
        ring = as_left.ring ∙ is.ring;
        partitions = as_left.partitions ∙ is.partitions;
        up = λ server below. ap (λ (up : ℕ → _). up server) as_left.up ∙ is.up server below
            ∙ ap (λ down. is_live down server) (sym as_left.down);
        sets = record {
          rising = subst (λ (visits : List (List (Option Footprint))). AreRising (numbers_of (footprints_in visits))
              (after.events + 1) after.trace) (sym as_left.visits)
              (subst (AreRising (numbers_of (footprints_in rows)) (after.events + 1)) (sym as_left.trace) rising);
          footprints = subst (λ (visits : List (List (Option Footprint))). AreFootprints c.partitions
              (footprints_in visits) after.trace) (sym as_left.visits)
              (subst (AreFootprints c.partitions (footprints_in rows)) (sym as_left.trace) is.sets.footprints);
          order = as_left.order ∙ is.sets.order ∙ ap visits_in (sym as_left.trace);
          lists = lists;
          known = known;
          messages = messages;
          stores = stores;
        };
        forwarder = forwarder;
        buffer = buffer;
        gaps = gaps;
        lines = as_left.lines ∙ is.lines ∙ ap (λ done. drop done c.lines) (sym as_left.done);
        entered = entered;
        propagates = propagates;
        fates = fates;
      }

  -- a message is put in a place in which there is room
  pub message_put : (room new : List (Option MessageOfMachine)) (origin : ℕ) (o : Option Message)
      (slot : Option MessageOfMachine) → new ≡ slice_set room origin slot → origin < length room →
      ((other : ℕ) → other ≢ origin → slot_at room other ≡ slot_at k.messages other) →
      IsMessageSlot c.partitions s.trace (numbers_of (footprints_in k.visits.items)) o slot → (number : ℕ) →
      IsMessageSlot c.partitions s.trace (numbers_of (footprints_in k.visits.items))
      (with_at s.message origin o number) (slot_at new number)
  message_put room new origin o slot put within same here =
      replaced (λ _ (o : Option Message) (slot : Option MessageOfMachine). IsMessageSlot c.partitions s.trace
      (numbers_of (footprints_in k.visits.items)) o slot) s.message k.messages room new origin o slot put within same
      here is.sets.messages

  -- what became of a packet is put in its place
  pub fate_put : (room new : List (Option Fate)) (packet : ℕ) (fate : Fate) (slot : Option Fate) →
      new ≡ slice_set room packet slot → packet < length room →
      ((other : ℕ) → slot_at room other ≡ slot_at k.fates other) →
      option_map_or (λ (found : Fate). found) slot Inside ≡ fate → (other : ℕ) →
      fate_in new other ≡ with_at s.fate packet fate other
  fate_put room new packet fate slot put within same here =
      replaced (λ _ (fate : Fate) (slot : Option Fate). option_map_or (λ (found : Fate). found) slot Inside ≡ fate)
      s.fate k.fates room new packet fate slot put within (λ other _. same other) here is.fates

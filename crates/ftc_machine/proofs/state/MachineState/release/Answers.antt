use Rattle.std.proofs.Common.{◌+◌, ◌∷◌, Option, Some, None, refl, arith}
use Rattle.ftc_serial.specs.Serial.{Given}
use Rattle.ftc_protocol.specs.declared.fate.Fate.TheVariants.{Released}
use Rattle.ftc_machine.specs.declared.state.message.Withheld.{Withheld as WithheldOfMachine}
use Rattle.ftc_machine.specs.Represents.{IsWithheldSlot, footprints_in, frontiers_of}
use Rattle.ftc_protocol.specs.Next.{bytes_withheld}
use Rattle.ftc_machine.specs.Frontier.{numbers_of}
use Rattle.ftc_machine.specs.Slots.{slot_at}
use Rattle.ftc_protocol.specs.State.{Withheld}
use Rattle.ftc_machine.proofs.MovedMessages.{slot_stays}
use Rattle.ftc_machine.proofs.MergedFrontiers.{given_reaches}
use Rattle.ftc_machine.proofs.NextParts.{fate_put}
use Rattle.ftc_machine.proofs.ReplacedPlaces.{replaced}
use Rattle.ftc_machine.proofs.RisingNumbers.{rising_more}
use Rattle.ftc_machine.proofs.state.MachineState.release.Goals as goal

pub returns-clause-ok : goal.returns-clause-ok
returns-clause-ok c setting s may is =
    let k = c.args.self.now in
    let numbers = numbers_of (footprints_in k.visits.items) in
    let packet = c.args.packet in
    let bytes = bytes_withheld (s.withheld packet) in
    let stays = given_reaches setting.partitions s.trace numbers packet bytes in
    record {
      ring = is.ring;
      partitions = is.partitions;
      up = is.up;
      sets = record {
        rising = rising_more numbers (s.events + 1) (s.events + 1 + 1) s.trace (omega arith) is.sets.rising;
        footprints = is.sets.footprints;
        order = is.sets.order;
        lists = λ server below. stays (s.lists server) (frontiers_of k.lists.items server) (is.sets.lists server below);
        known = λ server below. stays (s.known server) (frontiers_of k.known.items server) (is.sets.known server below);
        messages = λ origin. slot_stays setting.partitions s.trace (Given packet bytes ∷ s.trace) numbers numbers stays
            (s.message origin) (slot_at k.messages origin) (is.sets.messages origin);
        stores = is.sets.stores;
      };
      forwarder = is.forwarder;
      buffer = replaced (λ place (o : Option Withheld)
          (slot : Option WithheldOfMachine). IsWithheldSlot place o slot) s.withheld k.buffer c.make_room.new.self
          c.clear.new.self packet None None
          c.clear.ensures c.in_ok-make_room.ensures.room (λ other _. c.in_ok-make_room.ensures.same other) tt is.buffer;
      gaps = is.gaps;
      lines = is.lines;
      entered = is.entered;
      propagates = is.propagates;
      fates = fate_put is c.make_room-2.new.self c.put.new.self packet Released (Some Released)
          c.put.ensures c.in_ok-make_room-2.ensures.room c.in_ok-make_room-2.ensures.same refl;
    }

use Rattle.std.proofs.Common.{◌≡◌, ◌<◌, ◌∙◌, ◌+◌, ◌==◌, ◌&&◌, ◌||◌, if◌then◌else◌, not, length, Bool, Option, None}
use Rattle.std.proofs.Common.{is_some, refl, sym, ap, subst, arith}
use Rattle.std.specs.Option.{option_map_or}
use Rattle.ftc_ring.specs.Ring.{RingShape}
use Rattle.ftc_base.specs.Sets.{has}
use Rattle.ftc_serial.specs.Contents.{content_at}
use Rattle.ftc_serial.specs.Trace.{names}
use Rattle.ftc_machine.specs.declared.state.message.Withheld.{Withheld as WithheldOfMachine}
use Rattle.ftc_protocol.specs.declared.fate.Fate.{Fate}
use Rattle.ftc_protocol.specs.declared.fate.Fate.TheVariants.{Inside, Lost}
use Rattle.ftc_machine.specs.declared.state.message.Message.{Message as MessageOfMachine}
use Rattle.ftc_machine.specs.Represents.{IsMessage, IsMessageSlot, IsWithheldSlot, footprints_in}
use Rattle.ftc_machine.specs.LostPackets.{loses_kept, fate_lost, is_kept_at}
use Rattle.ftc_protocol.specs.Next.{drop_if, loses_packet, is_at, lines_behind}
use Rattle.ftc_machine.specs.Frontier.{numbers_of}
use Rattle.ftc_protocol.specs.Setting.{servers}
use Rattle.ftc_machine.specs.Slots.{slot_at}
use Rattle.ftc_protocol.specs.State.{Message}
use Rattle.ftc_machine.proofs.AfterCrash.{rows_emptied, up_without, stores_without}
use Rattle.ftc_machine.proofs.DroppedPlaces.{lines_left_behind, at_same, drops, loses_same, withheld_same}
use Rattle.ftc_machine.proofs.DroppedPlaces.{withheld_emptied, lost_either}
use Rattle.ftc_machine.proofs.RisingNumbers.{rising_more}
use Rattle.ftc_machine.proofs.state.MachineState.crash.Goals as goal

pub returns-clause-ok : goal.returns-clause-ok
returns-clause-ok c setting s now may is =
    let k = c.args.self.now in
    let server = c.args.server in
    let numbers = numbers_of (footprints_in k.visits.items) in
    let place : c.from-place.result ≡ server = c.from-place.ensures ∙ c.number.ensures.same in
    let within : server < k.ring.servers = c.requires.within in
    let each_list : length k.lists.items ≡ k.ring.servers = k.each_list in
    let each_known : length k.known.items ≡ k.ring.servers = k.each_known in
    let servers_are : c.servers-servers.result ≡ servers setting =
    c.servers-servers.ensures.same ∙ ap (λ (ring : RingShape). ring.servers) is.ring in
    let last : (c.number-3.result + 1 == c.servers-servers.result) ≡ (server + 1 == servers setting) =
    ap (λ n. n + 1 == c.servers-servers.result) c.number-3.ensures.same ∙ ap (λ n. server + 1 == n) servers_are in
    let kept_test : MessageOfMachine → Bool = λ message. is_kept_at c.servers-servers.result server message.place in
    let test : Message → Bool = λ message. is_at setting server message.place in
    let same : (message : Message) (kept : MessageOfMachine) →
    IsMessage setting.partitions s.trace numbers message kept → kept_test kept ≡ test message =
    λ message kept at. ap (λ n. is_kept_at n server kept.place) servers_are ∙ at_same setting.partitions s.trace numbers
    setting server message.known message.place kept.place at.place in
    record {
      ring = is.ring;
      partitions = is.partitions;
      up = λ other below. up_without s.up server other k.down c.with-self.result (is.up other below)
          (c.with-self.ensures other ∙ ap (λ n. other == n || has k.down other) c.number-2.ensures.same);
      sets = record {
        rising = rising_more numbers (s.events + 1) (s.events + 1 + 1) s.trace (omega arith) is.sets.rising;
        footprints = is.sets.footprints;
        order = is.sets.order;
        lists = rows_emptied setting.partitions s.trace numbers (s.events + 1) is.sets.rising
            (servers setting) s.lists k.lists.items _ c.from-place.result server c.new.result c.new.ensures refl place
            (omega arith) is.sets.lists;
        known = rows_emptied setting.partitions s.trace numbers (s.events + 1) is.sets.rising
            (servers setting) s.known k.known.items _ c.from-place.result server c.new-2.result c.new-2.ensures refl
            place (omega arith) is.sets.known;
        messages = λ origin. subst (λ (slot : Option MessageOfMachine). IsMessageSlot setting.partitions s.trace numbers
            (drop_if test (s.message origin)) slot) (sym (c.lose_at.ensures.messages origin))
            (drops setting.partitions s.trace numbers test kept_test (s.message origin) (slot_at k.messages origin)
            (λ message kept _ _. same message kept) (is.sets.messages origin));
        stores = λ other below. stores_without s.up s.lists s.trace server other (content_at k.stores.items other)
            (is.sets.stores other below);
      };
      forwarder = λ group packet. c.lose_forwarder.ensures group packet ∙
          (ap (λ n. not (n == 0) && names k.forwarder group packet) c.number-4.ensures.same ∙ ap (λ b. not (server == 0)
          && b) (is.forwarder group packet));
      buffer = λ packet. subst (λ (slot : Option WithheldOfMachine). IsWithheldSlot packet (if server
          + 1 == servers setting then None else s.withheld packet) slot) (sym (c.lose_withheld.ensures.buffer packet))
          (subst (λ b. IsWithheldSlot packet (if server + 1 == servers setting then None
          else s.withheld packet) (if b then None else slot_at k.buffer packet)) (sym last)
          (withheld_emptied (server + 1 == servers setting) packet (s.withheld packet) (slot_at k.buffer packet)
          (is.buffer packet)));
      gaps = is.gaps;
      lines = ap lines_behind is.lines ∙ lines_left_behind k.done setting.lines;
      entered = is.entered;
      propagates = is.propagates;
      fates = λ packet.
          let one : loses_kept kept_test (slot_at k.messages packet) ≡ loses_packet test (s.message packet) =
          loses_same setting.partitions s.trace numbers test kept_test (s.message packet) (slot_at k.messages packet)
          (λ message kept _ _. same message kept) (is.sets.messages packet) in
          let other : ((c.number-3.result + 1 == c.servers-servers.result) && is_some (slot_at k.buffer packet))
          ≡ ((server + 1 == servers setting) && is_some (s.withheld packet)) =
          ap (λ b. b && is_some (slot_at k.buffer packet)) last ∙ ap (λ b. (server + 1 == servers setting)
          && b) (withheld_same packet (s.withheld packet) (slot_at k.buffer packet) (is.buffer packet)) in
          ap (λ (slot : Option Fate). option_map_or (λ (found : Fate). found) slot Inside)
          (c.lose_withheld.ensures.fates packet ∙ ap
          (λ (slot : Option Fate). fate_lost ((c.number-3.result + 1 == c.servers-servers.result)
          && is_some (slot_at k.buffer packet)) c.args.now slot)
          (c.lose_at.ensures.fates packet ∙ ap
          (λ (slot : Option Fate). fate_lost (loses_kept kept_test (slot_at k.messages packet)) c.args.now slot)
          (c.in_ok-make_room.ensures.same packet)))
          ∙ (lost_either (loses_kept kept_test (slot_at k.messages packet))
          ((c.number-3.result + 1 == c.servers-servers.result) && is_some (slot_at k.buffer packet)) c.args.now
          (slot_at k.fates packet) (s.fate packet) (is.fates packet)
          ∙ (ap (λ b. if b || ((c.number-3.result + 1 == c.servers-servers.result)
          && is_some (slot_at k.buffer packet)) then Lost c.args.now else s.fate packet) one
          ∙ (ap (λ b. if loses_packet test (s.message packet) || b then Lost c.args.now else s.fate packet) other
          ∙ ap (λ event. if loses_packet test (s.message packet)
          || ((server + 1 == servers setting) && is_some (s.withheld packet)) then Lost event
          else s.fate packet) now)));
    }

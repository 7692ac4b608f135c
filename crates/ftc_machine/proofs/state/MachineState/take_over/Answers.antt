use Rattle.std.proofs.Common.{◌≡◌, ◌<◌, ◌∙◌, ◌==◌, ◌&&◌, ◌||◌, if◌then◌else◌, not, length, List, Option, refl, ap}
use Rattle.std.proofs.Common.{slice_set, arith}
use Rattle.ftc_base.specs.Sets.{has}
use Rattle.ftc_ring.specs.Ring.{RingShape, next_of}
use Rattle.ftc_serial.specs.Contents.{content_at}
use Rattle.ftc_protocol.specs.declared.fate.Fate.{Fate}
use Rattle.ftc_protocol.specs.declared.fate.Fate.TheVariants.{Lost}
use Rattle.ftc_machine.specs.declared.state.message.Message.{Message as MessageOfMachine}
use Rattle.ftc_machine.specs.Represents.{fate_in}
use Rattle.ftc_machine.specs.LostPackets.{drop_kept, loses_kept, fate_lost}
use Rattle.ftc_protocol.specs.Next.{lines_behind, is_undone_drop}
use Rattle.ftc_protocol.specs.Recovery.{previous_live, following_live}
use Rattle.ftc_machine.specs.RecoveryEffect.{is_dropped_kept, gaps_through}
use Rattle.ftc_protocol.specs.Setting.{servers}
use Rattle.ftc_machine.specs.Slots.{slot_at}
use Rattle.ftc_machine.proofs.SameParts.{content_put}
use Rattle.ftc_machine.proofs.DroppedPlaces.{lines_left_behind}
use Rattle.ftc_machine.proofs.AfterRecovery.{up_with, rising_after, footprints_after, order_after, lists_after}
use Rattle.ftc_machine.proofs.AfterRecovery.{known_after, stores_after, messages_after, fates_after}
use Rattle.ftc_machine.proofs.UndoneTests.{previous_is, following_is}
use Rattle.ftc_machine.proofs.state.MachineState.take_over.Goals as goal

pub returns : goal.returns
returns c setting s now order store may is =
    let k = c.args.self.now in
    let server = c.args.server in
    let undone = c.args.undone.now in
    let within : server < k.ring.servers = c.requires.within in
    let each_store : length k.stores.items ≡ k.ring.servers = k.each_store in
    let servers_are : k.ring.servers ≡ servers setting = ap (λ (ring : RingShape). ring.servers) is.ring in
    let place : c.from-place.result ≡ server = c.from-place.ensures ∙ c.number.ensures.same in
    let previous : c.previous_live-previous.result ≡ previous_live setting s server =
    c.previous_live-previous.ensures.same ∙ previous_is setting s k is server (omega arith) in
    let following : c.following_live-following.result ≡ following_live setting s server =
    c.following_live-following.ensures.same ∙ following_is setting s k is server (omega arith) in
    let next = c.following_live-following.result in
    let stores = content_put k.stores.items c.from-place.result server c.args.store place (omega arith) in
    record {
      ring = is.ring;
      partitions = is.partitions;
      up = λ other below. up_with s.up server other k.down c.without-self.result (is.up other below)
          (c.without-self.ensures other ∙ ap (λ n. not (other == n) && has k.down other) c.number-2.ensures.same);
      sets = record {
        rising = rising_after setting s server undone may k is;
        footprints = footprints_after setting s server undone may k is;
        order = order_after setting s server undone may k is c.args.order order;
        lists = lists_after setting s server undone may k is c.previous_live-previous.result next c.from-place.result
            c.list_got-list.result _ previous following
            c.list_got-list.ensures.size c.list_got-list.ensures.rows refl place;
        known = known_after setting s server undone may k is c.previous_live-previous.result next c.from-place.result
            c.both_know-known.result _ previous following c.both_know-known.ensures refl place;
        messages = messages_after setting s server undone may k is next following c.drop_messages.new.messages
            (λ origin. c.drop_messages.ensures.messages origin ∙ ap
            (λ (slots : List (Option MessageOfMachine)). drop_kept (is_dropped_kept k next)
            (slot_at slots origin)) c.replace-messages.ensures.value);
        stores = stores_after setting s server undone may k is
            (content_at (slice_set k.stores.items c.from-place.result c.args.store)) c.args.order order
            (stores.0 ∙ store) stores.1;
      };
      forwarder = is.forwarder;
      buffer = is.buffer;
      gaps = λ link below. c.gaps_behind-gaps.ensures link (omega arith)
          ∙ (ap (λ n. gaps_through n (gaps_through n (has k.gaps) server) next link) servers_are
          ∙ (ap (λ t. gaps_through (servers setting)
          (gaps_through (servers setting) (has k.gaps) server) t link) following
          ∙ ap (λ b. (((b || (link == server)) || (next_of (servers setting) link == server))
          || (link == following_live setting s server))
          || (next_of (servers setting) link == following_live setting s server))
          (is.gaps link below)));
      lines = ap lines_behind is.lines ∙ lines_left_behind k.done setting.lines;
      entered = is.entered;
      propagates = is.propagates;
      fates = λ packet. fates_after setting s server undone may k is next following c.args.now now
          c.lose_filtered.new.fates c.drop_messages.new.fates packet
          (c.drop_messages.ensures.fates packet ∙ ap
          (λ (slots : List (Option MessageOfMachine)). fate_lost
          (loses_kept (is_dropped_kept k next) (slot_at slots packet)) c.args.now
          (slot_at c.lose_filtered.new.fates packet)) c.replace-messages.ensures.value)
          (c.lose_filtered.ensures.fates packet ∙ ap
          (λ (slots : List (Option Fate)). if is_undone_drop undone packet (fate_in slots packet) then
          Lost c.args.now else fate_in slots packet) c.replace-fates.ensures.value);
    }

use Rattle.std.proofs.Common.{◌≡◌, ◌≤◌, length, ap, subst, ◌∙◌, arith}
use Rattle.ftc_base.specs.declared.limits.TheConstants.{MOST_SERVERS}
use Rattle.ftc_ring.specs.Ring.{RingShape}
use Rattle.ftc_watch.proofs.Sizes.{kept_few}
use Rattle.ftc_watch.proofs.watching.watch.Goals as goal

pub overflow_cast-result : goal.overflow_cast-result
overflow_cast-result c =
    let is = c.ticks.ensures.accepted in
    let small : c.args.ring.now.servers ≤ MOST_SERVERS = subst
    (λ (ring : RingShape). ring.servers ≤ MOST_SERVERS) c.requires.ring is.ring.servers in
    let few = kept_few c.args.ring.now c.args.limit c.args.packets c.ticks.result.now c.args.beats.now.ticks
    c.in_ok-watcher.watcher c.in_ok-watcher-2.watcher small is.few c.ticks.ensures.same c.in_ok-watcher.ensures
    c.in_ok-watcher-2.ensures in
    let size : length c.as_slice-3.result.now ≡ length c.in_ok-watcher-2.watcher.script = ap length
    (c.as_slice-3.ensures ∙ c.into_parts-script.ensures.script) in
    omega (arith, few, size, c.crashes_in.ensures.few)

pub overflow_cast-result-2 : goal.overflow_cast-result-2
overflow_cast-result-2 c =
    let is = c.ticks.ensures.accepted in
    let small : c.args.ring.now.servers ≤ MOST_SERVERS = subst
    (λ (ring : RingShape). ring.servers ≤ MOST_SERVERS) c.requires.ring is.ring.servers in
    let few = kept_few c.args.ring.now c.args.limit c.args.packets c.ticks.result.now c.args.beats.now.ticks
    c.in_ok-watcher.watcher c.in_ok-watcher-2.watcher small is.few c.ticks.ensures.same c.in_ok-watcher.ensures
    c.in_ok-watcher-2.ensures in
    let size : length c.into_parts-script.result.1 ≡ length c.in_ok-watcher-2.watcher.held =
    ap length c.into_parts-script.ensures.held in
    omega (arith, few, size, c.len.ensures)

use Rattle.std.proofs.Common.{◌≡◌, ◌∙◌, ◌≤◌, ◌<◌, ◌++◌, ℕ, List, sym, ap, subst, arith}
use Rattle.ftc_protocol.specs.Setting.{servers}
use Rattle.ftc_ring.specs.Ring.{RingShape}
use Rattle.ftc_network.specs.Parts.{link_in}
use Rattle.ftc_chain.specs.Frames.{IsOldestFrame}
use Rattle.ftc_chain.proofs.LinkFrames.{none_past, some_frame}
use Rattle.ftc_chain.proofs.frames.frame_at.Goals as goal

pub returns-then-number-servers : goal.returns-then-number-servers
returns-then-number-servers c setting state run is =
    let size : c.args.network.now.ring.servers ≡ servers setting = ap (λ (ring : RingShape). ring.servers) is.ring in
    let past : servers setting ≤ c.args.link = omega (arith, size, c.number.ensures, c.servers.ensures) in
    none_past setting state c.args.link (c.order_of_a_state.ensures setting state run) past

pub returns : goal.returns
returns c setting state run is =
    let network = c.args.network.now in
    let link = c.args.link in
    let size : network.ring.servers ≡ servers setting = ap (λ (ring : RingShape). ring.servers) is.ring in
    let below : link < servers setting = omega (arith, size, c.number.ensures, c.servers.ensures) in
    subst (IsOldestFrame setting state link)
    (sym (c.in_ok-append.ensures.ok ∙ ap (λ (front : List ℕ). front ++ c.in-Some.frame.now) c.new-copy.ensures))
    (some_frame setting state link (link_in network.links.items link) (is.links_are link below) c.in-Some.frame.now
    c.in-Some.ensures)

-- The link that a message leaves a server by.
use Rattle.std.proofs.Common.{◌≡◌, ◌≢◌, ◌<◌, ◌∙◌, ◌+◌, ◌==◌, ◌&&◌, ◌||◌, ◌++◌, ◌∷◌, ℕ, Bool, true, false, not, []}
use Rattle.std.proofs.Common.{Option, Some, None, refl, sym, ap, cond, arith}
use Rattle.std.proofs.lemmas.Bool.{eq-eqb}
use Rattle.std.proofs.lemmas.Bool.Decides.{nat_tests}
use Rattle.std.specs.Prelude.{nat_lt, is_some}
use Rattle.std.proofs.Math.Bool.{or-true, or-false}
use Rattle.std.specs.Option.{option_map}
use Rattle.ftc_journal.specs.declared.event.Event.TheVariants as event
use Rattle.ftc_link.specs.Queue.{Queue}
use Rattle.ftc_message.specs.declared.message.Message.{Message as SentMessage}
use Rattle.ftc_ring.specs.Ring.{RingShape, next_of}
use Rattle.ftc_serial.specs.Words.{with_at}
use Rattle.ftc_protocol.specs.Setting.{Setting, servers, shape}
use Rattle.ftc_protocol.specs.State.{ChainState}
use Rattle.ftc_protocol.specs.Legal.{IsLegal, is_sent}
use Rattle.ftc_protocol.specs.Next.{next, is_away}
use Rattle.ftc_protocol.specs.Run.{IsRunState}
use Rattle.ftc_server.specs.declared.held.HeldMessage.{HeldMessage}
use Rattle.ftc_server.specs.declared.server.Server.{Server}
use Rattle.ftc_server.specs.Holding.{found}
use Rattle.ftc_server.specs.Looks.{sent, sent_in}
use Rattle.ftc_server.specs.Standing.{is_last}
use Rattle.ftc_standing.specs.Stand.{IsLink}
use Rattle.ftc_standing.specs.View.{leaving, IsBesideServer, IsBesideLink}
use Rattle.ftc_refinement.specs.Contents.{IsServerAt}
use Rattle.ftc_network.specs.Sending.{queue_after}
use Rattle.ftc_network.specs.declared.network.Network.{Network}
use Rattle.ftc_network.specs.Events.{IsAllowed}
use Rattle.ftc_network.specs.Stand.{AreCounts}
use Rattle.ftc_network.proofs.Untold.{is_below}

-- what holds where a message is passed on and where it is lost
pub either_way : (Fact : Type 0) (setting : Setting) (state : ChainState) (server origin : ℕ) (lost : Bool) →
    (IsLegal setting state (event.Pass server origin) → Fact) →
    (IsLegal setting state (event.Lose server origin) → Fact) →
    IsLegal setting state (leaving lost server origin) → Fact
either_way Fact setting state server origin false passed lost legal = passed legal
either_way Fact setting state server origin true passed lost legal = lost legal

-- servers stay up
pub up_after : (setting : Setting) (state : ChainState) (lost : Bool) (server origin number : ℕ) →
    (next setting state (leaving lost server origin)).up number ≡ state.up number
up_after setting state false server origin number = refl
up_after setting state true server origin number = refl

gap_with : (gap : ℕ → Bool) (link : ℕ) (new : Bool) → with_at gap link new link ≡ new
gap_with gap link new = ap (λ (b : Bool). cond b new (gap link)) (eq-eqb link link refl)

-- the link has a gap where it had one, and where the message is sent and goes away
pub gap_after : (setting : Setting) (state : ChainState) (lost : Bool) (server origin : ℕ) →
    (next setting state (leaving lost server origin)).gap server
    ≡ (state.gap server || (is_sent setting server && is_away setting state server lost))
gap_after setting state false server origin =
    gap_with state.gap server (state.gap server || (is_sent setting server && is_away setting state server false))
gap_after setting state true server origin =
    gap_with state.gap server (state.gap server || (is_sent setting server && is_away setting state server true))

-- where a server sends something, something is to be sent
isnt_silent : (silent : Bool) (old : Server) (held : Option HeldMessage) (message : SentMessage) →
    cond silent None (option_map (sent old) held) ≡ Some message → silent ≡ false
isnt_silent true old held message is = absurd cc
isnt_silent false old held message is = refl

some_sent : (last : Bool) (failures : ℕ) → last && (failures == 0) ≡ false → not last || nat_lt 0 failures ≡ true
some_sent last failures is = grind (arith, nat_tests, is)

pub is_sent_where : (setting : Setting) (state : ChainState) (server origin : ℕ) (old : Server)
    (message : SentMessage) →
    IsServerAt setting state server old → sent_in old origin ≡ Some message → is_sent setting server ≡ true
is_sent_where setting state server origin old message is sends =
    some_sent (server + 1 == servers setting) setting.failures
    (ap (λ (n : ℕ). is_last (shape setting) n && (setting.failures == 0)) (sym is.number_is)
    ∙ (ap (λ (r : RingShape). is_last r old.id && (r.failures == 0)) (sym is.ring)
    ∙ isnt_silent (is_last old.ring old.id
    && (old.ring.failures == 0)) old (found origin old.held.items) message sends))

-- the link stands for what is there after it, where each way of leaving is known
module _ (setting : Setting) (state : ChainState) (server origin : ℕ) (queue : Queue)
    (link : IsLink setting state server queue) where
  abbrev Stands : Bool → Queue → Type 0
  Stands lost after = IsLink setting (next setting state (leaving lost server origin)) server after

  abbrev is_queued : Bool → Bool
  is_queued lost = is_sent setting server && not (is_away setting state server lost)

  abbrev GoesAway : Bool → Type 0
  GoesAway lost = (gap : Bool) → is_queued lost ≡ false →
      gap ≡ (next setting state (leaving lost server origin)).gap server → Stands lost (record queue { gap = gap })

  nothing : (lost : Bool) → is_sent setting server ≡ false → GoesAway lost → Stands lost queue
  nothing lost silent away =
      away queue.gap (ap (λ b. b && not (is_away setting state server lost)) silent)
      (link.gap ∙ sym (gap_after setting state lost server origin
      ∙ (ap (λ b. state.gap server || (b && is_away setting state server lost)) silent ∙ or-false (state.gap server))))

  gone : (lost : Bool) → is_sent setting server ≡ true → is_away setting state server lost ≡ true → GoesAway lost →
      Stands lost (record queue { gap = true })
  gone lost sends is away =
      away true (ap (λ b. b && not (is_away setting state server lost)) sends ∙ ap not is)
      (sym (gap_after setting state lost server origin
      ∙ (ap (λ b. state.gap server || (b && is_away setting state server lost)) sends
      ∙ (ap (λ b. state.gap server || b) is ∙ or-true (state.gap server)))))

  pub after_sending : (lost : Option ℕ) (up : Bool) (message : Option SentMessage) →
      up ≡ state.up (next_of (servers setting) server) →
      (message ≡ None → is_sent setting server ≡ false) →
      ((sent : SentMessage) → message ≡ Some sent → is_sent setting server ≡ true) →
      ((sent : SentMessage) → message ≡ Some sent → is_queued (is_some lost) ≡ true →
      Stands (is_some lost) (record queue { messages = queue.messages ++ sent ∷ [] })) →
      GoesAway (is_some lost) →
      Stands (is_some lost) (queue_after lost up message queue)
  after_sending lost up None same silent sends queued away = nothing (is_some lost) (silent refl) away
  after_sending (Some line) up (Some sent) same silent sends queued away = gone true (sends sent refl) refl away
  after_sending None true (Some sent) same silent sends queued away =
      queued sent refl (ap (λ b. b && not (not (state.up (next_of (servers setting) server)))) (sends sent refl)
      ∙ ap (λ b. not (not b)) (sym same))
  after_sending None false (Some sent) same silent sends queued away =
      gone false (sends sent refl) (ap not (sym same)) away

-- the other servers and links have no part in it, and counts stay
pub other_server : (setting : Setting) (state : ChainState) (lost : Bool) (server origin other : ℕ) → other ≢ server →
    IsBesideServer setting state (leaving lost server origin) other
other_server setting state false server origin other differs = differs
other_server setting state true server origin other differs = differs

pub other_link : (setting : Setting) (state : ChainState) (lost : Bool) (server origin other : ℕ) → other ≢ server →
    IsBesideLink setting state (leaving lost server origin) other
other_link setting state false server origin other differs = differs
other_link setting state true server origin other differs = differs

pub counts_after : (setting : Setting) (state : ChainState) (lost : Bool) (server origin entered done propagates : ℕ) →
    AreCounts setting state entered done propagates →
    AreCounts setting (next setting state (leaving lost server origin)) entered done propagates
counts_after setting state false server origin entered done propagates are =
    record { entered_is = are.entered_is; lines = are.lines; propagates_is = are.propagates_is }
counts_after setting state true server origin entered done propagates are =
    record { entered_is = are.entered_is; lines = are.lines; propagates_is = are.propagates_is }

-- the server is one of the chain
module _ (at_pass : (setting : Setting) (state : ChainState) (server origin : ℕ) → IsRunState setting state →
    IsLegal setting state (event.Pass server origin) → (server < servers setting) × (state.up server ≡ true))
    (at_loss : (setting : Setting) (state : ChainState) (server origin : ℕ) → IsRunState setting state →
    IsLegal setting state (event.Lose server origin) → (server < servers setting) × (state.up server ≡ true)) where
  pub leaver_below : (setting : Setting) (state : ChainState) (lost : Bool) (server origin : ℕ) →
      IsRunState setting state →
      IsLegal setting state (leaving lost server origin) → server < servers setting
  leaver_below setting state lost server origin run legal =
      either_way (server < servers setting) setting state server origin lost
      (λ passes. (at_pass setting state server origin run passes).0)
      (λ loses. (at_loss setting state server origin run loses).0) legal

  pub leaver_inside : (network : Network) (lost : Bool) (server origin : ℕ) →
      ∥ IsAllowed (leaving lost server origin) network ∥₁ → server < network.ring.servers
  leaver_inside network lost server origin some =
      is_below server network.ring.servers some (λ allowed.
      let size : network.ring.servers ≡ servers allowed.setting =
      ap (λ (ring : RingShape). ring.servers) allowed.stands.ring in
      let below : server < servers allowed.setting =
      leaver_below allowed.setting allowed.state lost server origin allowed.run allowed.legal in
      omega (arith, size, below))

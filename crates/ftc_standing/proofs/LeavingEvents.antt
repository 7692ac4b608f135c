-- The event by which a message leaves its server, whether the link loses it or not.
use Rattle.std.proofs.Common.{◌≡◌, ◌+◌, ℕ, Bool, true, false, refl}
use Rattle.ftc_protocol.specs.Setting.{Setting}
use Rattle.ftc_protocol.specs.State.{ChainState, Message}
use Rattle.ftc_protocol.specs.Legal.{IsLegal, MayLeave}
use Rattle.ftc_protocol.specs.Next.{next, sent_on}
use Rattle.ftc_ties.specs.Servers.{IsElsewhere}
use Rattle.ftc_standing.specs.View.{leaving}

module _ (c : Setting) (s : ChainState) where
  -- what is legal of it, what comes of it, and that it changes no replica
  pub may_leave : (lost : Bool) (k p : ℕ) → IsLegal c s (leaving lost k p) →
      (message : Message) × MayLeave c s k p message
  may_leave false k p legal = (legal.0.0, legal.0.1)
  may_leave true k p legal = (legal.0.0, legal.0.1)

  pub next_leaving : (lost : Bool) (k p : ℕ) →
      next c s (leaving lost k p) ≡ record (sent_on c s k p lost) { events = s.events + 1 }
  next_leaving false k p = refl
  next_leaving true k p = refl

  pub leaving_beside : (lost : Bool) (k p server group : ℕ) → IsElsewhere c (leaving lost k p) server group
  leaving_beside false k p server group = tt
  leaving_beside true k p server group = tt

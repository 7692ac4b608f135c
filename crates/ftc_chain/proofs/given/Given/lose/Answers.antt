use Rattle.std.proofs.Common.{◌≡◌, ◌∙◌, Bool, is_some, true, refl, ap, Option, ℕ}
use Rattle.ftc_standing.specs.View.{leaving}
use Rattle.ftc_chain.proofs.Permitted.{done, is_true, may_leave}
use Rattle.ftc_chain.proofs.given.Given.lose.Goals.{After-loses-line}
use Rattle.ftc_chain.proofs.given.Given.lose.Goals as goal

-- the link loses the message
is_lost : (c : After-loses-line) → is_some c.loses-line.result ≡ true
is_lost c = is_true c.requires (is_some c.loses-line.result)
    (λ given. ap (λ (line : Option ℕ). is_some line) c.loses-line.ensures ∙ given.legal.0.3)

pub leave-requires : goal.leave-requires
leave-requires c = may_leave c.requires (is_lost (goal.at.leave-requires c).After-loses-line)

pub returns-clause-ok : goal.returns-clause-ok
returns-clause-ok c =
    let lost = is_lost (goal.at.returns-clause-ok c).After-loses-line in
    done c.requires refl (λ state. ap (λ (b : Bool). leaving b c.args.server c.args.origin) lost) c.leave.result
    c.leave.new.self c.leave.ensures.ok

use Rattle.std.proofs.Common.{refl}
use Rattle.ftc_chain.specs.Members.{IsVectorAt}
use Rattle.ftc_chain.proofs.LiveMembers.{none_live, vector_at}
use Rattle.ftc_chain.proofs.Made.{seen_at_rest}
use Rattle.ftc_chain.proofs.chain.Chain.vector_of.Goals as goal

pub returns-in_err-member-clause-none : goal.returns-in_err-member-clause-none
returns-in_err-member-clause-none c none =
    none_live c.self.inside.given c.self.inside.course c.args.self.now c.self.view_is c.self.invariant.1 c.args.server
    c.args.group (c.in_err-member.ensures.none refl)

pub returns-clause-some : goal.returns-clause-some
returns-clause-some c =
    seen_at_rest (λ setting state. IsVectorAt setting state c.args.server c.args.group c.vector_of.result.now)
    c.self.inside.given c.self.inside.course c.args.self.now c.self.view_is c.self.invariant.1 (λ resting.
    vector_at _ _ _ resting.course_is.stands c.args.server c.args.group c.in_ok-member.member.now
    c.in_ok-member.ensures.some c.vector_of.result.now c.vector_of.ensures)

use Rattle.std.proofs.Common.{◌∙◌, subst, sym}
use Rattle.std.proofs.lemmas.Bool.{false≢true}
use Rattle.std.proofs.Math.Logic.{∥∥₁_map, ∥∥₁_elim}
use Rattle.ftc_chain.specs.ChainRun.{ChainRun, setting_in, chain_state}
use Rattle.ftc_protocol.specs.Jobs.{IsLegalJob}
use Rattle.ftc_chain.proofs.AtRest.{at_rest, none_is}
use Rattle.ftc_chain.proofs.chain.Chain.legal.Goals as goal

pub returns-clause-yes : goal.returns-clause-yes
returns-clause-yes c is =
    let given = c.self.inside.given in
    subst (λ (run : ChainRun). ∥ IsLegalJob (setting_in run) (chain_state run) c.args.job.now ∥₁) c.self.view_is
    (∥∥₁_map c.self.invariant.1 (λ resting. (c.is_legal.ensures.legal _ _
    (at_rest given c.self.inside.course _ c.len-packets.ensures.same c.len-packets.ensures.few c.few_propagates.ensures
    (c.accepted.ensures.few given.spec.now _ given.script.now c.ring.ensures.accepted)
    resting)).0
    is))

pub returns-clause-no : goal.returns-clause-no
returns-clause-no c not =
    let given = c.self.inside.given in
    subst (λ (run : ChainRun). IsLegalJob (setting_in run) (chain_state run) c.args.job.now → ⊥) c.self.view_is
    (λ legal. ∥∥₁_elim c.self.invariant.1 none_is (λ resting.
    absurd (false≢true (sym not ∙ (c.is_legal.ensures.legal _ _
    (at_rest given c.self.inside.course _ c.len-packets.ensures.same c.len-packets.ensures.few c.few_propagates.ensures
    (c.accepted.ensures.few given.spec.now _ given.script.now c.ring.ensures.accepted)
    resting)).1
    legal))))

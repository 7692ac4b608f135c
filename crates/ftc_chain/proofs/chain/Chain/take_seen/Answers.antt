use Rattle.std.proofs.Common.{◌∙◌, ℕ, sym, subst}
use Rattle.std.proofs.lemmas.Option.{same_Some}
use Rattle.std.proofs.Math.Logic.{∥∥₁_elim}
use Rattle.std.proofs.lemmas.Result.{on_ok_weaker}
use Rattle.ftc_base.specs.declared.limits.TheConstants.{FINISHING_SLOT}
use Rattle.ftc_journal.specs.declared.job.Job.TheVariants.{Take}
use Rattle.ftc_chain.specs.Course.{HasMade}
use Rattle.ftc_chain.proofs.AtRest.{none_is}
use Rattle.ftc_chain.proofs.chain.Chain.take_seen.Goals as goal

pub unreachable-requires : goal.unreachable-requires
unreachable-requires c = ∥∥₁_elim c.requires none_is (λ there.
    c.in_default.not-Some there.0 (c.oldest.ensures.only there.0 there.1))

pub returns-clause-ok : goal.returns-clause-ok
returns-clause-ok c = on_ok_weaker c.make.result (λ made origin legal.
    subst (λ (o : ℕ). ∥ HasMade FINISHING_SLOT (Take c.args.link o) c.args.self.now c.make.new.self ∥₁)
    (same_Some c.in-Some.origin origin (sym c.in-Some.is ∙ c.oldest.ensures.only origin legal)) made) c.make.ensures.ok

pub returns-clause-heads : goal.returns-clause-heads
returns-clause-heads c = on_ok_weaker c.make.result (λ stay origin. stay) c.make.ensures.heads

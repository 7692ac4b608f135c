use Rattle.std.proofs.Common.{◌≡◌, ◌∷◌, [], Some, sym, subst, ◌∙◌, ℕ}
use Rattle.std.proofs.Math.Logic.{∥∥₁_map₂}
use Rattle.std.proofs.lemmas.Option.{same_Some}
use Rattle.ftc_base.proofs.Results.{on_ok_map}
use Rattle.ftc_journal.specs.declared.job.Job.{Job}
use Rattle.ftc_journal.specs.Job.{job_of}
use Rattle.ftc_chain.specs.ChainRun.{ChainRun, setting_in, chain_state}
use Rattle.ftc_protocol.specs.Jobs.{IsLegalJob}
use Rattle.ftc_chain.specs.Course.{HasMade}
use Rattle.ftc_alone.specs.Alone.{HasPlayed}
use Rattle.ftc_alone.proofs.PlayedParts.{played_one, passed_over}
use Rattle.ftc_alone.proofs.playing.play_one.Goals as goal

pub returns-then-legal-clause-ok : goal.returns-then-legal-clause-ok
returns-then-legal-clause-ok c =
    let old : ChainRun = c.args.chain.now in let new : ChainRun = c.make.new.chain in let job : Job = c.in-Some.job in
    let is : job_of c.args.event.now ≡ Some job = sym c.job_of.ensures ∙ c.in-Some.is in
    let legal : ∥ IsLegalJob (setting_in old) (chain_state old) job ∥₁ = c.legal.ensures.yes c.if-legal.true in
    on_ok_map c.make.result (∥ HasMade c.slot_of.result job old new ∥₁) (∥ HasPlayed (c.args.event.now ∷ []) old new ∥₁)
    (λ made. ∥∥₁_map₂ legal (subst (λ (slot : ℕ). ∥ HasMade slot job old new ∥₁) c.slot_of.ensures made)
    (played_one c.args.event.now job old new is))
    c.make.ensures.ok

pub returns-else-legal-clause-ok : goal.returns-else-legal-clause-ok
returns-else-legal-clause-ok c =
    let old : ChainRun = c.args.chain.now in
    let is : job_of c.args.event.now ≡ Some c.in-Some.job = sym c.job_of.ensures ∙ c.in-Some.is in
    ∣ passed_over c.args.event.now old
    (λ job same legal. c.legal.ensures.no c.if-legal.false
    (subst (IsLegalJob (setting_in old) (chain_state old)) (same_Some job c.in-Some.job (sym same ∙ is)) legal)) ∣₁

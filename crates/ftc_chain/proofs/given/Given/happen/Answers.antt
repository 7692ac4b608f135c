use Rattle.std.proofs.Common.{◌≡◌, sym, subst}
use Rattle.ftc_base.specs.declared.limits.TheConstants.{FINISHING_SLOT}
use Rattle.ftc_journal.specs.declared.event.Event.{Event}
use Rattle.ftc_journal.specs.declared.event.Event.TheVariants as event
use Rattle.ftc_journal.specs.declared.job.Job.{Job}
use Rattle.ftc_protocol.specs.Jobs.{event_of}
use Rattle.ftc_protocol.specs.Next.{next}
use Rattle.ftc_network.specs.Stand.{IsNetwork}
use Rattle.ftc_chain.specs.Doing.{setting_by, HasDone}
use Rattle.ftc_chain.proofs.given.Given.happen.Goals as goal

pub returns : goal.returns
returns c =
    let setting = setting_by c.args.self.now in
    record {
      ok = λ state run legal is.
          let same : c.in-Some.event ≡ event_of setting state FINISHING_SLOT c.args.job.now =
          c.in-Some.ensures.event setting state FINISHING_SLOT in (
            same,
            subst (λ (e : Event). ∥ IsNetwork setting (next setting state e) c.happen_plainly.new.network ∥₁) (sym same)
                (c.in_ok-happen_plainly.ensures.ok state run legal is),
          );
      err = tt;
      withheld = c.in_ok-happen_plainly.ensures.withheld;
      heads = c.in_ok-happen_plainly.ensures.heads;
      same = tt;
    }

pub returns-in-Recover-clause-ok : goal.returns-in-Recover-clause-ok
returns-in-Recover-clause-ok c =
    subst (λ (job : Job). HasDone (setting_by c.args.self.now) FINISHING_SLOT job
    (event.Recover c.in-Recover.server c.in_ok-undone.undone) c.args.network.now c.recover.new.network)
    (sym c.in-Recover.is) c.in_ok-undone.ensures.ok

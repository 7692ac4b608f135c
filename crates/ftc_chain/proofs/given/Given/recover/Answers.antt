use Rattle.std.proofs.Common.{◌≡◌, ◌∙◌, ℕ, List, length, get_or, slice_get, Some, refl, sym, ap, subst, arith}
use Rattle.std.proofs.Math.Logic.{∥∥₁_map}
use Rattle.std.proofs.lemmas.Option.{get_or_from_slice_get}
use Rattle.std.proofs.lemmas.Result.{IfOk-weaker}
use Rattle.ftc_journal.specs.declared.event.Event.TheVariants as event
use Rattle.ftc_journal.specs.declared.job.Job.TheVariants as job
use Rattle.ftc_mbox.specs.declared.rule.Rule.{Rule}
use Rattle.ftc_mbox.specs.declared.rule.Rule.TheVariants.{Pass}
use Rattle.ftc_protocol.specs.Setting.{servers}
use Rattle.ftc_script.specs.declared.line.ScriptLine.TheVariants.{Recover}
use Rattle.ftc_chain.specs.Doing.{setting_by}
use Rattle.ftc_chain.proofs.Permitted.{is_below, within_of}
use Rattle.ftc_chain.proofs.Rooms.{line_there}
use Rattle.ftc_chain.proofs.given.Given.recover.Goals.{After-at-rule}
use Rattle.ftc_chain.proofs.given.Given.recover.Goals as goal

pub at-rule-requires : goal.at-rule-requires
at-rule-requires c =
    let setting = setting_by c.args.self.now in
    let job = job.Recover c.args.server in
    let below = is_below c.requires c.args.server (servers setting) (λ given.
    within_of setting given.state job given.run
    (λ journal right run. c.jobs_of_events.ensures.within setting right journal run job) given.legal) in
    let size = ap (λ (rules : List Rule). length rules) c.rules.ensures.same in
    omega (arith, below, size, c.from.ensures, c.number.ensures.same)

-- the rule that was read is the server's
rule_read : (c : After-at-rule) →
    c.at-rule.result.now ≡ get_or (setting_by c.args.self.now).rules c.args.server Pass
rule_read c =
    let setting = setting_by c.args.self.now in
    let place : c.from.result ≡ c.args.server = c.from.ensures ∙ c.number.ensures.same in
    sym (get_or_from_slice_get setting.rules c.args.server c.at-rule.result.now Pass
    (subst (λ (n : ℕ). slice_get setting.rules n ≡ Some c.at-rule.result.now) place
    (subst (λ (rules : List Rule). slice_get rules c.from.result ≡ Some c.at-rule.result.now) c.rules.ensures.same
    c.at-rule.ensures)))

pub recover-requires-clause-allowed : goal.recover-requires-clause-allowed
recover-requires-clause-allowed c =
    let setting = setting_by c.args.self.now in
    ∥∥₁_map c.requires (λ given. record {
      setting = setting;
      state = given.state;
      run = given.run;
      line = given.legal.0.0;
      none_due = given.legal.1 refl;
      rule_is = rule_read (goal.at.recover-requires-clause-allowed c).After-at-rule;
      few = given.few;
      stands = given.stands;
    })

pub recover-requires-clause-room : goal.recover-requires-clause-room
recover-requires-clause-room c =
    let setting = setting_by c.args.self.now in
    let old = c.args.network.now in
    is_below c.requires old.done 18446744073709551615 (λ given.
    let line = line_there setting.lines given.state.lines old.done (Recover given.state.entered c.args.server)
    given.stands.counts.lines given.legal.0.0 in
    omega (arith, line, c.steps.ensures))

pub returns-clause-ok : goal.returns-clause-ok
returns-clause-ok c =
    let setting = setting_by c.args.self.now in
    IfOk-weaker c.recover.result _ _ (λ undone follows state run legal is.
    let has = follows setting state run (legal.1 refl) legal.0.0
    (rule_read (goal.at.returns-clause-ok c).After-at-rule) is in
    (ap (event.Recover c.args.server) has.undone_is, ∣ has.stands ∣₁)) c.recover.ensures.ok

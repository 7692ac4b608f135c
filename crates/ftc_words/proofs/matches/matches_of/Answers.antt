use Rattle.std.proofs.Common.{rules, ap, ap₂, map, ◌≡◌, ◌∙◌}
use Rattle.std.proofs.lemmas.Result.{IfErr-weaker}
use Rattle.clap.specs.Words.{App, app_of, rule_of, takes, with_rule}
use Rattle.ftc_words.proofs.Takes.{workers, alone, names, app, takes_form}
use Rattle.ftc_words.proofs.matches.matches_of.Goals as goal

pub returns : goal.returns
returns c =
    let workers_is : rule_of c.action-workers.result ≡ workers = search rules in
    let alone_is : rule_of c.action-alone.result ≡ alone = search rules in
    let names_is : rule_of c.action-names.result ≡ names = search rules in
    let app_is : app_of c.in_ok-command.command ≡ app = c.in_ok-command.ensures.shape (search rules)
    ∙ ap₂ with_rule (c.in_ok-arg-2.ensures.shape (search rules)
    ∙ ap₂ with_rule (c.in_ok-arg.ensures.shape
    (search rules) ∙ ap₂ with_rule c.new-4.ensures.app workers_is) alone_is) names_is in
    let parse = c.try_get_matches_from in
    record {
      err = IfErr-weaker parse.result _ _
          (λ e h. h (ap (λ (a : App). takes a (map (λ s. s.now) c.args.words.now)) app_is ∙ takes_form
          (map (λ w. w.now) c.args.words.now) c.requires.form)) parse.ensures.passes;
    }

use Rattle.std.proofs.Common.{◌∙◌, sym, ap}
use Rattle.std.specs.Option.{option_copied}
use Rattle.std.proofs.lemmas.Bool.{true≢false}
use Rattle.ftc_jobs.proofs.Standing.{down_holds_none, is_up_there}
use Rattle.ftc_jobs.proofs.applies.may_apply.Goals as goal

pub returns-in-Some : goal.returns-in-Some
returns-in-Some c setting state rest =
    let network = c.args.network.now in
    let server = c.args.server in
    let live = c.in-Some.live.now in
    let up = is_up_there setting state network rest server live
    (sym c.server_at.ensures ∙ ap (λ o. option_copied o) c.in-Some.is) in
    let says = c.which_applies.ensures setting state server c.args.origin c.args.group c.args.packet live rest.run
    rest.none_due up.at in
    ((λ test. says.0 (sym c.may_apply_now.ensures ∙ test)), (λ legal. c.may_apply_now.ensures ∙ says.1 legal))

pub returns-in-None : goal.returns-in-None
returns-in-None c setting state rest =
    let server = c.args.server in (
      (λ test. absurd (true≢false (sym test))),
      (λ legal.
          absurd (down_holds_none setting state c.args.network.now rest server
          (c.held_in_turn.ensures.holder setting state server c.args.origin legal.0.0 rest.run legal.0.1)
          (sym c.server_at.ensures ∙ ap (λ o. option_copied o) c.in-None.is))),
    )

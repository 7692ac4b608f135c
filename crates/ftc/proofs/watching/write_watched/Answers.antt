use Rattle.std.proofs.Common.{◌∙◌, List, ℕ, subst}
use Rattle.std.proofs.lemmas.Result.{on_ok_weaker}
use Rattle.ftc_outside.specs.Desk.{Files, GrewAt}
use Rattle.ftc_watch.specs.Lines.{summary}
use Rattle.ftc.specs.Watching.{standard_output}
use Rattle.ftc.proofs.WatchLemmas.{made_all}
use Rattle.ftc.proofs.watching.write_watched.Goals as goal

pub returns-clause-written : goal.returns-clause-written
returns-clause-written g c = λ t.
    let old : Files = g.D.Desk.file c.args.desk.now in
    let mid : Files = g.D.Desk.file c.write_text.new.desk in
    let new : Files = g.D.Desk.file c.append.new.self in
    let watched = c.args.watched.now in
    let told : List ℕ = summary watched.fenced watched.refused watched.held in
    let t-mid = c.write_text.ensures.served.tells_on t in
    on_ok_weaker c.append.result
    (λ grown. made_all c.args.name.now watched.script told c.requires.apart old mid new
    (c.in_ok-write_text.ensures.written t) (c.write_text.ensures.others t) (c.append.ensures.others t-mid)
    (subst (λ (bytes : List ℕ). GrewAt standard_output bytes mid new) (c.as_slice.ensures
    ∙ c.in_ok-told.ensures) grown))
    (c.append.ensures.grown t-mid)

use Rattle.std.proofs.Common.{◌≡◌, subst, Option, Some}
use Rattle.std.specs.Option.{option_map}
use Rattle.ftc_words.specs.declared.command.Command.{Command}
use Rattle.ftc_words.specs.Shown.{shown}
use Rattle.ftc.specs.Ended.{asked}
use Rattle.ftc.proofs.Unread.{no_memory_answered, no_memory_ended, usage_without_command}
use Rattle.ftc.proofs.top.run.Goals as goal

pub returns-in-Err-clause-answer : goal.returns-in-Err-clause-answer
returns-in-Err-clause-answer g c = no_memory_answered (asked c.args.words.now)

pub returns-in-Err-clause-ends : goal.returns-in-Err-clause-ends
returns-in-Err-clause-ends g c =
    λ tells. no_memory_ended (g.D.Desk.sound c.args.desk.now) (asked c.args.words.now) _ _
    (g.D.Desk.file c.args.desk.now)

pub returns-in-Some-clause-usage : goal.returns-in-Some-clause-usage
returns-in-Some-clause-usage g c =
    let is : Some (shown c.in-Some.command) ≡ asked c.args.words.now =
    subst (λ (read : Option Command). option_map shown read ≡ asked c.args.words.now) c.in-Some.is
    c.in-Ok.ensures.command in
    usage_without_command (asked c.args.words.now) (shown c.in-Some.command) _ is c.run_command.ensures.answer

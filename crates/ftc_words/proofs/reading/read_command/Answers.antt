use Rattle.std.proofs.Common.{rules, ◌≡◌, ◌≢◌, ◌∙◌, ap, None}
use Rattle.ftc_words.specs.Given.{texts_of}
use Rattle.ftc_words.specs.Form.{has_form, handed}
use Rattle.ftc_words.specs.Command.{command_of}
use Rattle.ftc_words.proofs.Formed.{command_formed}
use Rattle.ftc_words.proofs.reading.read_command.Goals as goal

pub take_all-requires : goal.take_all-requires
take_all-requires c =
    let some : command_of (texts_of c.args.words.now) ≢ None = search rules in
    let same : texts_of c.deref.result.now ≡ handed (texts_of c.args.words.now) = search rules in
    ap has_form same ∙ command_formed (texts_of c.args.words.now) some

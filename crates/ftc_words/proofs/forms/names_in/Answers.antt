use Rattle.std.proofs.Common.{arith}
use Rattle.ftc_words.proofs.Six.{six_words}
use Rattle.ftc_words.proofs.forms.names_in.Goals as goal

pub returns-in-len6-clause-all : goal.returns-in-len6-clause-all
returns-in-len6-clause-all c = six_words c.args.words.now _ (omega arith)

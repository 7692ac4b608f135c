use Rattle.std.proofs.Common.{refl}
use Rattle.ftc_journal.specs.declared.form.Version.TheVariants as version
use Rattle.ftc_journal.proofs.Again as again
use Rattle.ftc_journal.proofs.laws.spellings.Goals as goal

pub returns-clause-one : goal.returns-clause-one
returns-clause-one c = again.one

pub returns-clause-printed : goal.returns-clause-printed
returns-clause-printed c = λ events bounds. record { version = version.Second; bounds = bounds; spelled = refl }

use Rattle.ftc_conf.proofs.Fitting as fitting
use Rattle.ftc_conf.proofs.laws.fits.Goals as goal

pub returns-clause-servers : goal.returns-clause-servers
returns-clause-servers c = λ most text chain is. (fitting.fits most text chain is).0

pub returns-clause-failures : goal.returns-clause-failures
returns-clause-failures c = λ most text chain is. (fitting.fits most text chain is).1

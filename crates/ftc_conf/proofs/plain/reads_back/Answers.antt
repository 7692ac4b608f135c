use Rattle.ftc_conf.proofs.ReadBack as again
use Rattle.ftc_conf.proofs.plain.reads_back.Goals as goal

pub returns-clause-within : goal.returns-clause-within
returns-clause-within c = again.reads_back

pub returns-clause-whole : goal.returns-clause-whole
returns-clause-whole c = again.reads_back_whole

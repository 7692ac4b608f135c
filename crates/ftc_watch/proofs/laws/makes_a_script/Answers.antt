use Rattle.ftc_watch.proofs.Making.{made_reads, made_is_script}
use Rattle.ftc_watch.proofs.laws.makes_a_script.Goals as goal

pub returns-clause-reads : goal.returns-clause-reads
returns-clause-reads c = made_reads

pub returns-clause-is : goal.returns-clause-is
returns-clause-is c = made_is_script

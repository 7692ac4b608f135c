use Rattle.ftc_pcap.proofs.Unique.{no_fault, one_fault}
use Rattle.ftc_pcap.proofs.laws.one_fault.Goals as goal

pub returns-clause-one : goal.returns-clause-one
returns-clause-one c = one_fault

pub returns-clause-none : goal.returns-clause-none
returns-clause-none c = no_fault

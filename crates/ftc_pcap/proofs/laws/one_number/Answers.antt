use Rattle.ftc_pcap.proofs.Numbers.{number_of_bytes}
use Rattle.ftc_pcap.proofs.laws.one_number.Goals as goal

pub returns : goal.returns
returns c = number_of_bytes

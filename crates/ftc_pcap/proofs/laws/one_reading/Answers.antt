use Rattle.ftc_pcap.proofs.Unique.{one_capture}
use Rattle.ftc_pcap.proofs.laws.one_reading.Goals as goal

pub returns : goal.returns
returns c = λ text one other is_one is_other. one_capture text one other is_one.right is_other.right is_one.whole
    is_other.whole

use Rattle.std.proofs.Common.{refl}
use Rattle.ftc_pcap.specs.Grammar.{capture_bytes}
use Rattle.ftc_pcap.proofs.Unique.{one_capture}
use Rattle.ftc_pcap.proofs.laws.round_trip.Goals as goal

pub returns-clause-spelled : goal.returns-clause-spelled
returns-clause-spelled c = λ capture right size. record { right = right; whole = refl; size = size }

pub returns-clause-reads_back : goal.returns-clause-reads_back
returns-clause-reads_back c =
    λ capture read right is. one_capture (capture_bytes capture) read capture is.right right is.whole refl

use Rattle.std.proofs.Common.{arith}
use Rattle.std.proofs.lemmas.List.{take_min}
use Rattle.std.proofs.lemmas.Result.{err_from_is_err_and}
use Rattle.ftc_pcap.proofs.Faults.{front_fault}
use Rattle.ftc_pcap.proofs.reading.split_header.Goals as goal

pub returns-in_err-big-clause-fault : goal.returns-in_err-big-clause-fault
returns-in_err-big-clause-fault c =
    let exit = err_from_is_err_and c.from_residual.result c.from_residual.ensures.1 in
    let front = rw (c.min.ensures, take_min 24 c.args.text.now) at c.split_at.ensures.front in
    rw (exit.1, exit.2) (front_fault c.args.text.now _ _ (omega arith) front c.in_err-big.ensures.wrong)

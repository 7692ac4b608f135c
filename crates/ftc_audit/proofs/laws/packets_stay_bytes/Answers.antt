use Rattle.ftc_audit.proofs.ByteRuns.{stay_bytes}
use Rattle.ftc_audit.proofs.laws.packets_stay_bytes.Goals as goal

pub returns : goal.returns
returns c = stay_bytes

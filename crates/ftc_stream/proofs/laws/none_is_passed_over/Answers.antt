use Rattle.ftc_stream.proofs.Meanings.{all_writable}
use Rattle.ftc_stream.proofs.laws.none_is_passed_over.Goals as goal

pub returns : goal.returns
returns c = all_writable

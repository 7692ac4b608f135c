use Rattle.ftc_message.proofs.Fields.{wide_4, wide_8}
use Rattle.ftc_message.proofs.laws.numbers.Goals as goal

pub returns : goal.returns
returns c = record { four = wide_4.back; four_again = wide_4.again; eight = wide_8.back; eight_again = wide_8.again }

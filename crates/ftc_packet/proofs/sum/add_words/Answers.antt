use Rattle.std.proofs.Common.{◌∙◌, arith}
use Rattle.ftc_packet.proofs.WordSums.{sum_done, sum_last, sum_more}
use Rattle.ftc_packet.proofs.sum.add_words.Goals as goal

pub loop-rest-preserved : goal.loop-rest-preserved
loop-rest-preserved c = (
  sum_more c.loop-rest.sum c.add-sum.result c.from_be_bytes.result c.loop-rest.rest.now
      (omega arith) (omega arith) c.add-sum.ensures ∙ c.loop-rest.invariant.0,
  omega arith,
)

pub returns-in-len1 : goal.returns-in-len1
returns-in-len1 c =
    c.add.ensures
    ∙ sum_last c.loop-rest.sum c.from_be_bytes-in-len1.result c.loop-rest.rest.now (omega arith) (omega arith)
    ∙ c.loop-rest.invariant.0

pub returns-in_default-rest : goal.returns-in_default-rest
returns-in_default-rest c =
    sum_done c.loop-rest.sum c.loop-rest.rest.now (omega arith) c.loop-rest.invariant.1 ∙ c.loop-rest.invariant.0

use Rattle.ftc_base.proofs.Members.{no_member}
use Rattle.ftc_message.proofs.parts.Parts.new.Goals as goal

pub returns : goal.returns
returns c = λ i. record { before = c.new.ensures i; changed = no_member c.new-2.result c.new-2.ensures i }

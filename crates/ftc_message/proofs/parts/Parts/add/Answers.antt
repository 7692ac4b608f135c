use Rattle.std.proofs.Common.{◌≡◌}
use Rattle.ftc_message.specs.Reading.{changed_by}
use Rattle.ftc_message.proofs.Members.{added}
use Rattle.ftc_message.proofs.parts.Parts.add.Goals as goal

pub returns-then-part : goal.returns-then-part
returns-then-part c =
    let more : c.with-self.result ≡ changed_by c.args.part c.args.self.now.changed =
    rw c.if-part.true (added c.args.self.now.changed c.with-self.result c.args.part.partition c.with-self.ensures)
    in
    λ i. record { before = c.set.ensures i; changed = more i }

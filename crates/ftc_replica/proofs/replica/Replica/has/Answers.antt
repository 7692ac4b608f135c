use Rattle.std.proofs.Common.{◌≡◌, ◌∙◌, sym, ap}
use Rattle.ftc_vector.specs.Vector.{need_of}
use Rattle.ftc_replica.specs.Kept.{covers}
use Rattle.ftc_replica.specs.Held.{Held}
use Rattle.ftc_replica.proofs.Needed.{covered}
use Rattle.ftc_replica.proofs.replica.Replica.has.Goals as goal

pub returns : goal.returns
returns c =
    let need = need_of c.args.log.now.before c.args.log.now.changed in
    let law = covered c.args.self.now.vector need in
    let same : c.covers_log.result ≡ covers c.args.self.now.vector need =
    c.covers_log.ensures ∙ ap (λ (held : Held). covers held.vector need) c.self.view_is in
    (λ is. law.0 (sym same ∙ is), λ is. same ∙ law.1 is)

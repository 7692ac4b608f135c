use Rattle.std.proofs.Common.{◌≡◌, ◌∙◌, ◌++◌, ℕ, List, append_assoc, refl}
use Rattle.std.specs.Prelude.{codes, decimal}
use Rattle.std.proofs.lemmas.Result.{IfOk-weaker}
use Rattle.ftc.specs.Status.{fault_line}
use Rattle.ftc.proofs.status.fault_words.Goals as goal

grouped : (kind : List ℕ) (place cause : ℕ) →
    kind ++ (codes " " ++ (decimal place ++ (codes ": cause " ++ decimal cause))) ≡ fault_line kind place cause
grouped kind place cause = simp append_assoc refl

pub returns : goal.returns
returns c = IfOk-weaker c.format.result _ _
    (λ text is. is ∙ grouped c.args.kind.now c.args.place c.args.cause) c.format.ensures.ok

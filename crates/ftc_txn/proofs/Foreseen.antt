-- What a commit logs is what was foreseen.
use Rattle.std.proofs.Common.{◌≡◌, ◌∙◌, ℕ, List, [], Option, Some, None, true, false, refl, sym}
use Rattle.std.specs.Prelude.{◌↔◌, IsNone, IfSome}
use Rattle.ftc_base.specs.declared.ask.Answer.{Answer}
use Rattle.ftc_base.specs.declared.ask.Write.{Write}
use Rattle.ftc_base.proofs.Members.{same}
use Rattle.ftc_message.specs.Logged.{Logged}
use Rattle.ftc_txn.specs.Logs.{IsLogOf}

module _ (group partitions : ℕ) (vector : List ℕ) (packet : ℕ) (answers : List Answer) (writes : List Write) where
  abbrev IsLog : Logged → Type 0
  IsLog log = IsLogOf group partitions vector packet answers writes log

  one_log : (made foreseen : Logged) → IsLog made → IsLog foreseen → made ≡ foreseen
  one_log made foreseen one other = λ i. record {
    group = (one.group ∙ sym other.group) i;
    origin = (one.origin ∙ sym other.origin) i;
    before = (one.before ∙ sym other.before) i;
    changed = same made.changed foreseen.changed (λ partition. one.changed partition ∙ sym (other.changed partition)) i;
    writes = (one.writes ∙ sym other.writes) i;
  }

  pub as_foreseen : (made foreseen : Option Logged) → IsNone made ↔ (answers ≡ []) → IfSome made IsLog
      → IsNone foreseen ↔ (answers ≡ []) → IfSome foreseen IsLog → made ≡ foreseen
  as_foreseen None None none is no_other other = refl
  as_foreseen None (Some foreseen) none is no_other other = let clash : true ≡ false = no_other.1 (none.0 refl) in
      absurd cc
  as_foreseen (Some made) None none is no_other other = let clash : true ≡ false = none.1 (no_other.0 refl) in absurd cc
  as_foreseen (Some made) (Some foreseen) none is no_other other =
      let e = one_log made foreseen is other in λ i. Some (e i)

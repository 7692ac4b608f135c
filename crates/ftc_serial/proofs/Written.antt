-- A visit writes only at keys that it read.
use Rattle.std.proofs.Common.{◌≡◌, ℕ, zero, suc, Bool, true, false, if◌then◌else◌, List, [], ◌∷◌, ◌++◌, ◌⊎◌, inl, inr}
use Rattle.std.proofs.Common.{refl, sym, ap, subst, ◌∙◌, arith, Option, append-nil}
use Rattle.std.specs.List.{AllByRecursion, Contains}
use Rattle.ftc_base.specs.declared.ask.Answer.{Answer}
use Rattle.ftc_base.specs.declared.ask.Write.{Write}
use Rattle.ftc_base.specs.declared.ask.Ask.{Ask}
use Rattle.ftc_base.specs.declared.ask.Ask.TheVariants.{Read, Finish}
use Rattle.ftc_base.proofs.EachOf.{all-weaker}
use Rattle.ftc_mbox.specs.declared.rule.Rule.{Rule}
use Rattle.ftc_mbox.specs.Ask.{ask}
use Rattle.ftc_mbox.specs.Visit.{ReadsAndWrites}
use Rattle.ftc_mbox.specs.Visit as visit
use Rattle.ftc_mbox.proofs.Visits.{rules_are_bounded}
use Rattle.ftc_store.specs.Store.{Content}
use Rattle.ftc_mbox.proofs.InTurn.{first_or_before}
use Rattle.ftc_serial.specs.declared.visit.Asked.{Asked}
use Rattle.ftc_serial.specs.Words.{AnyOf}
use Rattle.ftc_serial.specs.Take.{asked_from, asked, answer_at, stopped, ended, taken}
use Rattle.ftc_serial.specs.Reads.{IsRead}
use Rattle.ftc_serial.proofs.AnyOf.{any_front, any_last}

joined : {A : Type 0} (xs : List A) (x : A) (ys : List A) → (xs ++ x ∷ []) ++ ys ≡ xs ++ x ∷ ys
joined [] x ys = refl
joined (y ∷ xs) x ys = ap (λ l. y ∷ l) (joined xs x ys)

-- the keys with leave are among those that were read
abbrev AreRead : List (List ℕ) → List Answer → Type 0
AreRead leave answers = (key : List ℕ) → Contains leave key → IsRead answers key

abbrev AreWritten : Asked → Type 0
AreWritten told = AllByRecursion (λ (write : Write). IsRead told.answers.items write.key) told.end.writes.items

in_leave : (leave : List (List ℕ)) (answers : List Answer) → AreRead leave answers → (writes : List Write) →
    visit.WritesAt leave writes → AllByRecursion (λ (write : Write). IsRead answers write.key) writes
in_leave leave answers within writes all =
    all-weaker (λ (write : Write). Contains leave write.key) (λ (write : Write). IsRead answers write.key)
    (λ write at. within write.key at) writes all

written_from : (rule : Rule) (packet : List ℕ) (content : Content) (left : ℕ) (read leave : List (List ℕ))
    (asks : List Answer → Ask) (answers : List Answer)
    → ReadsAndWrites left read leave asks → ((more : List Answer) → asks more ≡ ask rule packet (answers ++ more)) →
    AreRead leave answers
    → AreWritten (asked_from rule packet content left answers)
unfolding asked_from
written_from rule packet content zero read leave asks answers bounded same within =
    elim (asks []) as (λ a. (elim a as (λ asked. Type 0) [
      | Read key change ↦ ⊥
      | Finish end ↦
          visit.WritesAt leave end.writes.items
    ]) → a ≡ ask rule packet answers →
    AreWritten (stopped answers (ask rule packet answers))) [
      | Read key change ↦ λ no is. absurd no
      | Finish end ↦ λ at is. subst (λ a. AreWritten (stopped answers a)) is
          (in_leave leave answers within end.writes.items at)
    ] bounded (same [] ∙ ap (ask rule packet) (append-nil answers))
written_from rule packet content (suc left) read leave asks answers bounded same within =
    let at : Ask → Asked = λ a. elim a [
      | Read key change ↦ asked_from rule packet content left (answers ++ answer_at content key ∷ [])
      | Finish end ↦ ended answers end
    ] in
    elim (asks []) as (λ a. (elim a as (λ asked. Type 0) [
      | Read key change ↦ AllByRecursion (λ earlier. key ≡ earlier → ⊥) read
          × ((value : Option (List ℕ)) →
          ReadsAndWrites left (key ∷ read) (if change then key ∷ leave
          else leave) (λ more. asks (record { key = key; value = value } ∷ more)))
      | Finish end ↦ visit.WritesAt leave end.writes.items
    ]) → a ≡ ask rule packet answers → AreWritten (at (ask rule packet answers))) [
      | Read key change ↦ λ goes is. subst (λ a. AreWritten (at a)) is
          (let answer = answer_at content key in
          written_from rule packet content left (key ∷ read) (if change then key ∷ leave
          else leave) (λ more. asks (answer ∷ more)) (answers ++ answer ∷ [])
          (goes.1 answer.value)
          (λ more. same (answer ∷ more) ∙ ap (ask rule packet) (sym (joined answers answer more)))
          (with_leave answers answer leave within change))
      | Finish end ↦ λ all is. subst (λ a. AreWritten (at a)) is (in_leave leave answers within end.writes.items all)
    ] bounded (same [] ∙ ap (ask rule packet) (append-nil answers))
  where
    with_leave : (answers : List Answer) (answer : Answer) (leave : List (List ℕ)) → AreRead leave answers →
        (change : Bool) → AreRead (if change then answer.key ∷ leave else leave) (answers ++ answer ∷ [])
    with_leave answers answer leave within true key at = elim (first_or_before answer.key key leave at) [
      | inl same ↦ any_last (λ (a : Answer). a.key ≡ key) answers answer (sym same)
      | inr more ↦ any_front (λ (a : Answer). a.key ≡ key) answers (answer ∷ []) (within key more)
    ]
    with_leave answers answer leave within false key at =
        any_front (λ (a : Answer). a.key ≡ key) answers (answer ∷ []) (within key at)

-- the law
pub written_read : (rule : Rule) (packet : List ℕ) (content : Content) →
    AllByRecursion (λ (write : Write). IsRead (taken rule packet content).answers write.key)
    (taken rule packet content).writes
unfolding asked
written_read rule packet content =
    written_from rule packet content 8 [] [] (ask rule packet) [] (rules_are_bounded rule packet) (λ more. refl)
    (λ key at. absurd (empty key at))
  where
    empty : (key : List ℕ) → Contains [] key → ⊥
    empty key (i, less, is) = grind (arith)

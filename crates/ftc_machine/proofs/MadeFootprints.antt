-- A footprint that is made of answers and writes is that of their visit.
use Rattle.std.proofs.Common.{◌≡◌, ℕ, ◌+◌, ◌<◌, ◌↔◌, ◌==◌, true, List, [], ◌∷◌, ◌++◌, length, take, get_or, map, inl}
use Rattle.std.proofs.Common.{inr, refl, sym, ap, subst, ◌∙◌, eqb-true, eq-eqb}
use Rattle.std.specs.List.{AllByRecursion}
use Rattle.std.proofs.lemmas.Bool.{true≢false, or_cases, or_left, or_right}
use Rattle.std.proofs.lemmas.List.{take_more}
use Rattle.ftc_base.specs.Partition.{partition_of}
use Rattle.ftc_base.specs.declared.ask.Answer.{Answer}
use Rattle.ftc_base.specs.declared.ask.Write.{Write}
use Rattle.ftc_base.proofs.EachOf.{all-weaker}
use Rattle.ftc_vector.specs.Vector.{number_at}
use Rattle.ftc_serial.specs.Words.{AnyOf}
use Rattle.ftc_serial.specs.Take.{Outcome}
use Rattle.ftc_serial.specs.Entries.{Touches}
use Rattle.ftc_serial.specs.Serial.{Entry}
use Rattle.ftc_machine.specs.declared.state.footprint.Touched.{Touched}
use Rattle.ftc_machine.specs.declared.state.footprint.Footprint.{Footprint}
use Rattle.ftc_protocol.specs.Changes.{Changes, changes}
use Rattle.ftc_machine.specs.Frontier.{Numbers, IsLast, IsFootprint}
use Rattle.ftc_machine.specs.FootprintMaking.{is_written, IsTouched, IsFootprintMade}

-- ---- one more

map_push : {A B : Type 0} (f : A → B) (xs : List A) (x : A) → map f (xs ++ x ∷ []) ≡ map f xs ++ f x ∷ []
map_push f [] x = refl
map_push f (y ∷ ys) x = ap (λ rest. f y ∷ rest) (map_push f ys x)

pub partitions_more : (partitions : ℕ) (touched : List Touched) (next : Touched) (answers : List Answer) (i : ℕ)
    (answer : Answer) → i < length answers → get_or answers i answer ≡ answer
    → next.partition ≡ partition_of partitions answer.key
    → map (λ (each : Touched). each.partition) touched
    ≡ map (λ (each : Answer). partition_of partitions each.key) (take i answers)
    → map (λ (each : Touched). each.partition) (touched ++ next ∷ [])
    ≡ map (λ (each : Answer). partition_of partitions each.key) (take (i + 1) answers)
partitions_more partitions touched next answers i answer within is same so_far =
    let part = λ (each : Answer). partition_of partitions each.key in
    map_push (λ (each : Touched). each.partition) touched next
    ∙ (ap (λ front. front ++ next.partition ∷ []) so_far
    ∙ (ap (λ last. map part (take i answers) ++ last ∷ []) (same ∙ ap part (sym is))
    ∙ (sym (map_push part (take i answers) (get_or answers i answer))
    ∙ ap (map part) (sym (take_more answers i answer within)))))

-- ---- what is written is changed

written_says : (partitions : ℕ) (writes : List Write) (partition : ℕ) → is_written partitions writes partition ≡ true →
    AnyOf (λ (changed : ℕ). changed ≡ partition) (map (λ (write : Write). partition_of partitions write.key) writes)
written_says partitions [] partition is = absurd (true≢false (sym is))
written_says partitions (write ∷ writes) partition is =
    elim (or_cases (partition_of partitions write.key == partition) (is_written partitions writes partition) is) [
      | inl here ↦ inl (eqb-true (partition_of partitions write.key) partition here)
      | inr there ↦ inr (written_says partitions writes partition there)
    ]

says_written : (partitions : ℕ) (writes : List Write) (partition : ℕ) →
    AnyOf (λ (changed : ℕ). changed ≡ partition) (map (λ (write : Write). partition_of partitions write.key) writes) →
    is_written partitions writes partition ≡ true
says_written partitions [] partition any = absurd any
says_written partitions (write ∷ writes) partition any = elim any [
  | inl here ↦ or_left (partition_of partitions write.key == partition) (is_written partitions writes partition)
      (eq-eqb (partition_of partitions write.key) partition here)
  | inr there ↦ or_right (partition_of partitions write.key == partition) (is_written partitions writes partition)
      (says_written partitions writes partition there)
]

pub written_changes : (partitions : ℕ) (outcome : Outcome) (partition : ℕ) →
    (is_written partitions outcome.writes partition ≡ true) ↔ Changes partitions outcome partition
unfolding changes
written_changes partitions outcome partition =
    (written_says partitions outcome.writes partition, says_written partitions outcome.writes partition)

-- a footprint that is made where the vector has the last changes of the older visits
pub footprint_of : (partitions : ℕ) (older : List Entry) (numbers : Numbers) (server : ℕ) (outcome : Outcome)
    (vector : List ℕ) (footprint : Footprint)
    → IsFootprintMade partitions outcome.answers outcome.writes vector footprint
    → ((partition : ℕ) → IsLast partitions older numbers server partition (number_at vector partition))
    → ((partition : ℕ) → Changes partitions outcome partition → Touches partitions outcome partition)
    → IsFootprint partitions older numbers server outcome footprint
footprint_of partitions older numbers server outcome vector footprint made last reads = record {
  touched = made.touched;
  changed = all-weaker (IsTouched partitions outcome.writes vector) (λ (touched : Touched). (touched.changed ≡ true)
      ↔ Changes partitions outcome touched.partition)
      (λ touched is. let both = written_changes partitions outcome touched.partition in (
        λ changed. both.0 (sym is.changed ∙ changed),
        λ changes. is.changed ∙ both.1 changes,
      )) footprint.touched.items made.each;
  before = all-weaker (IsTouched partitions outcome.writes vector)
      (λ (touched : Touched). IsLast partitions older numbers server touched.partition touched.before)
      (λ touched is. subst (IsLast partitions older numbers server touched.partition) (sym is.before)
      (last touched.partition)) footprint.touched.items made.each;
  writes = made.written;
  reads = reads;
}

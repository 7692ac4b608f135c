-- The two laws of what a visit changes.
use Rattle.std.proofs.Common.{◌≡◌, ◌↔◌, ℕ, List, [], ◌∷◌, inl, inr, map, refl, ap, ◌∙◌}
use Rattle.ftc_base.specs.Partition.{partition_of}
use Rattle.ftc_base.specs.declared.ask.Write.{Write}
use Rattle.std.specs.List.{AllByRecursion}
use Rattle.ftc_serial.specs.Words.{AnyOf}
use Rattle.ftc_serial.specs.Take.{Outcome, taken}
use Rattle.ftc_serial.specs.Entries.{Touches, WritesIn}
use Rattle.ftc_serial.specs.Reads.{IsRead}
use Rattle.ftc_serial.proofs.Written.{written_read}
use Rattle.ftc_base.specs.declared.ask.Answer.{Answer}
use Rattle.ftc_mbox.specs.declared.rule.Rule.{Rule}
use Rattle.ftc_store.specs.Store.{Content}
use Rattle.ftc_serial.proofs.AnyOf.{any_unmap}
use Rattle.ftc_protocol.specs.Changes.{changes, Changes}

pub any_mapped : {A B : Type 0} (P : B → Type 0) (f : A → B) (xs : List A) → AnyOf (λ (x : A). P (f x)) xs →
    AnyOf P (map f xs)
any_mapped P f [] any = any
any_mapped P f (x ∷ xs) any = elim any [ inl here ↦ inl here | inr there ↦ inr (any_mapped P f xs there) ]

-- the partitions that a visit changes are those of the written keys
pub changed_written : (partitions : ℕ) (outcome : Outcome) (i : ℕ) →
    Changes partitions outcome i ↔ WritesIn partitions outcome i
unfolding changes
changed_written partitions outcome i = (
  any_unmap (λ (changed : ℕ). changed ≡ i) (λ (write : Write). partition_of partitions write.key) outcome.writes,
  any_mapped (λ (changed : ℕ). changed ≡ i) (λ (write : Write). partition_of partitions write.key) outcome.writes,
)

-- a partition of a written key is changed
pub written_changed : (partitions : ℕ) (outcome : Outcome) (i : ℕ) → WritesIn partitions outcome i →
    Changes partitions outcome i
unfolding changes
written_changed partitions outcome i written =
    any_mapped (λ (changed : ℕ). changed
    ≡ i) (λ (write : Write). partition_of partitions write.key) outcome.writes written

-- so each write's partition is changed
pub all_changed : (partitions : ℕ) (outcome : Outcome) →
    AllByRecursion (λ (write : Write). Changes partitions outcome (partition_of partitions write.key)) outcome.writes
all_changed partitions outcome = each outcome.writes (λ write there. there)
  where
    each : (writes : List Write) →
        ((write : Write) → AnyOf (λ (other : Write). other ≡ write) writes →
        AnyOf (λ (other : Write). other ≡ write) outcome.writes)
        → AllByRecursion (λ (write : Write). Changes partitions outcome (partition_of partitions write.key)) writes
    each [] within = tt
    each (write ∷ writes) within = (
      written_changed partitions outcome (partition_of partitions write.key)
          (found outcome.writes write (within write (inl refl))),
      each writes (λ other there. within other (inr there)),
    )
      where
        found : (writes : List Write) (write : Write) → AnyOf (λ (other : Write). other ≡ write) writes →
            AnyOf (λ (other : Write). partition_of partitions other.key ≡ partition_of partitions write.key) writes
        found [] write any = absurd any
        found (first ∷ rest) write any =
            elim any [
              | inl here ↦ inl (ap (λ (w : Write). partition_of partitions w.key) here)
              | inr there ↦
                  inr (found rest write there)
            ]

-- ---- and each is touched

same_partition : (partitions i : ℕ) (key other : List ℕ) → other ≡ key → partition_of partitions key ≡ i →
    partition_of partitions other ≡ i
same_partition partitions i key other same at = ap (partition_of partitions) same ∙ at

read : (partitions i : ℕ) (key : List ℕ) → partition_of partitions key ≡ i → (answers : List Answer) →
    IsRead answers key → AnyOf (λ (answer : Answer). partition_of partitions answer.key ≡ i) answers
read partitions i key at [] is = absurd is
read partitions i key at (answer ∷ answers) is =
    elim is [
      | inl here ↦ inl (same_partition partitions i key answer.key here at)
      | inr more ↦
          inr (read partitions i key at answers more)
    ]

touches : (partitions : ℕ) (o : Outcome) (i : ℕ) (writes : List Write) →
    AllByRecursion (λ (write : Write). IsRead o.answers write.key) writes
    → AnyOf (λ (changed : ℕ). changed ≡ i) (changes partitions (record o { writes = writes })) → Touches partitions o i
unfolding changes
touches partitions o i [] all any = absurd any
touches partitions o i (write ∷ writes) all any =
    elim any [
      | inl here ↦ read partitions i write.key here o.answers all.0
      | inr more ↦
          touches partitions o i writes all.1 more
    ]

-- a visit changes only partitions that it touches, for it writes only at keys that it read
pub changed_touched : (partitions : ℕ) (rule : Rule) (bytes : List ℕ) (content : Content) (i : ℕ) →
    Changes partitions (taken rule bytes content) i → Touches partitions (taken rule bytes content) i
changed_touched partitions rule bytes content i =
    touches partitions (taken rule bytes content) i (taken rule bytes content).writes (written_read rule bytes content)

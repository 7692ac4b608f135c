-- Numbers in their bounds are refused for a bound alone.
use Rattle.std.proofs.Common.{ℕ, true, false, nat_lt, List, [], ◌∷◌, Ok, Err, Option, Some, None, Result, if◌then◌else◌}
use Rattle.ftc_base.specs.Reading.{◌>>=◌}
use Rattle.ftc_base.specs.declared.limits.TheConstants.{MOST_SLOTS}
use Rattle.ftc_journal.specs.declared.fault.JournalCause.{JournalCause}
use Rattle.ftc_journal.specs.declared.fault.JournalCause.TheVariants.{Range}
use Rattle.ftc_journal.specs.declared.numerals.NameFigures.{NameFigures}
use Rattle.ftc_journal.specs.declared.form.Version.{Version}
use Rattle.ftc_journal.specs.declared.form.Single.{Single}
use Rattle.ftc_journal.specs.declared.form.Single.TheVariants as single
use Rattle.ftc_journal.specs.declared.form.Double.{Double}
use Rattle.ftc_journal.specs.Reading.{number_in, below, name_in, undone_in, single_in, double_in, visit_in, apply_in}
use Rattle.ftc_journal.specs.Reading.{recovery}
use Rattle.ftc_journal.specs.Spelling.{servers_of}

-- a reading that is refused for none of its words
abbrev pub IsFit : {A : Type 0} → Result A JournalCause → Type 0
IsFit (Ok value) = Unit {0}
IsFit (Err Range) = Unit {0}
IsFit (Err other) = ⊥

then_fit : {A B : Type 0} (first : Result A JournalCause) (next : A → Result B JournalCause) → IsFit first →
    ((a : A) → IsFit (next a)) → IsFit (first >>= next)
then_fit (Ok a) next fit more = more a
then_fit (Err Range) next fit more = tt
then_fit (Err cause) next fit more = absurd fit

below_fit : (bound : ℕ) (figure : Option ℕ) → IsFit (below bound figure)
below_fit bound None = tt
below_fit bound (Some n) =
    elim (nat_lt n bound) as (λ t. IsFit (if t then Ok n else Err Range)) [ true ↦ tt | false ↦ tt ]

number_fit : (figure : Option ℕ) → IsFit (number_in figure)
number_fit None = tt
number_fit (Some n) = tt

-- a number in its bounds, and what is made of it
number_then : {B : Type 0} (figure : Option ℕ) (next : ℕ → Result B JournalCause) → ((n : ℕ) → IsFit (next n)) →
    IsFit (number_in figure >>= next)
number_then figure next more = then_fit (number_in figure) next (number_fit figure) more

below_then : {B : Type 0} (bound : ℕ) (figure : Option ℕ) (next : ℕ → Result B JournalCause) →
    ((n : ℕ) → IsFit (next n)) → IsFit (below bound figure >>= next)
below_then bound figure next more = then_fit (below bound figure) next (below_fit bound figure) more

pub single_fit : (v : Version) (kind : Single) (a : Option ℕ) → IsFit (single_in v kind a)
single_fit v single.Enter a = number_then a _ (λ n. tt)
single_fit v single.Carry a = number_then a _ (λ n. tt)
single_fit v single.Crash a = below_then (servers_of v) a _ (λ n. tt)
single_fit v single.Pull a = below_then (servers_of v) a _ (λ n. tt)
single_fit v single.Propagate a = number_then a _ (λ n. tt)
single_fit v single.Release a = number_then a _ (λ n. tt)

pub double_fit : (v : Version) (kind : Double) (a b : Option ℕ) → IsFit (double_in v kind a b)
double_fit v kind a b = below_then (servers_of v) a _ (λ s. number_then b _ (λ o. tt))

pub visit_fit : (v : Version) (a b c : Option ℕ) → IsFit (visit_in v a b c)
visit_fit v a b c = below_then (servers_of v) a _ (λ s. number_then b _ (λ p. below_then MOST_SLOTS c _ (λ w. tt)))

pub apply_fit : (v : Version) (a b c d : Option ℕ) → IsFit (apply_in v a b c d)
apply_fit v a b c d =
    below_then (servers_of v) a _ (λ s. number_then b _ (λ o.
    below_then (servers_of v) c _ (λ g. number_then d _ (λ p. tt))))

name_fit : (v : Version) (name : NameFigures) → IsFit (name_in v name)
name_fit v name = below_then (servers_of v) name.server _ (λ s. number_then name.packet _ (λ p. tt))

undone_fit : (v : Version) (names : List NameFigures) → IsFit (undone_in v names)
undone_fit v [] = tt
undone_fit v (name ∷ names) =
    then_fit (name_in v name) _ (name_fit v name) (λ visit.
    then_fit (undone_in v names) _ (undone_fit v names) (λ visits. tt))

pub recovery_fit : (v : Version) (figure : Option ℕ) (names : List NameFigures) → IsFit (recovery v figure names)
recovery_fit v figure names =
    below_then (servers_of v) figure _ (λ s. then_fit (undone_in v names) _ (undone_fit v names) (λ undone. tt))

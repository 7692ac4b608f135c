-- Lists of jobs that are legal and that no slot runs, one behind another.
use Rattle.std.proofs.Common.{◌≡◌, ◌↔◌, Option, Some, None, ◌∙◌, ◌++◌, ◌⊎◌, ◌+◌, ◌<◌, ℕ}
use Rattle.std.proofs.Common.{zero, suc, Bool, true, false, List, [], ◌∷◌, inl, inr, refl, sym, ap, subst, arith}
use Rattle.std.proofs.Common.{append_assoc, append-nil, if◌then◌else◌, length, take, drop, get_or}
use Rattle.std.proofs.lemmas.Bool.{cases_eq}
use Rattle.std.proofs.lemmas.Option.{none-some, same_Some}
use Rattle.ftc_journal.specs.declared.job.Job.{Job}
use Rattle.ftc_serial.specs.Words.{AnyOf}
use Rattle.ftc_serial.proofs.AnyOf.{any_front, any_behind, any_either}
use Rattle.ftc_protocol.specs.Jobs.{IsLegalJob}
use Rattle.ftc_protocol.specs.Setting.{Setting}
use Rattle.ftc_protocol.specs.State.{ChainState}
use Rattle.ftc_jobs.specs.All.{HasJobsOf, IsUntaken}
use Rattle.ftc_jobs.proofs.Joined.{once_both}

-- ---- lists

-- the item of which it is so, with those before it and behind it
pub record IsSome (A : Type 0) (P : A → Type 0) (items : List A) : Type 0 where
  pub before : List A
  pub item : A
  pub after : List A
  pub parts : items ≡ before ++ item ∷ after
  pub is : P item

pub some_of : {A : Type 0} (P : A → Type 0) (items : List A) → AnyOf P items → IsSome A P items
some_of P [] any = absurd any
some_of P (x ∷ items) (inl here) = record { before = []; item = x; after = items; parts = refl; is = here }
some_of P (x ∷ items) (inr there) =
    let rest = some_of P items there in
    record {
      before = x ∷ rest.before;
      item = rest.item;
      after = rest.after;
      parts = ap (λ list. x ∷ list) rest.parts;
      is = rest.is;
    }

-- one item more
pub one_taken : {A : Type 0} (items : List A) (place : ℕ) (item : A) → place < length items →
    item ≡ get_or items place item →
    take (place + 1) items ≡ take place items ++ item ∷ []
one_taken items place item below is =
    let one : suc place ≡ place + 1 = omega arith in
    subst (λ (n : ℕ). take n items ≡ take place items ++ item ∷ []) one (taken items place item below is)
  where
    taken : {A : Type 0} (items : List A) (place : ℕ) (item : A) → place < length items →
        item ≡ get_or items place item →
        take (suc place) items ≡ take place items ++ item ∷ []
    taken [] place item below is = absurd (omega arith)
    taken (first ∷ items) zero item below is = ap (λ x. x ∷ []) (sym is)
    taken (first ∷ items) (suc place) item below is =
        ap (λ list. first ∷ list) (taken items place item (omega arith) is)

pub items_around : {A : Type 0} (items : List A) (place : ℕ) (item : A) → place < length items →
    item ≡ get_or items place item → items ≡ take place items ++ item ∷ drop (suc place) items
items_around [] place item below is = absurd (omega arith)
items_around (first ∷ items) zero item below is = ap (λ x. x ∷ items) (sym is)
items_around (first ∷ items) (suc place) item below is =
    ap (λ list. first ∷ list) (items_around items place item (omega arith) is)

module _ (runs : ℕ → ℕ → Bool) (setting : Setting) (state : ChainState) where
  abbrev Legal : Job → Type 0
  Legal job = IsLegalJob setting state job × IsUntaken runs job

  abbrev Adds : (Job → Type 0) → List Job → List Job → Type 0
  Adds Of old new = HasJobsOf Of runs setting state old new

  abbrev IsIn : List Job → Job → Type 0
  IsIn jobs job = AnyOf (λ (other : Job). other ≡ job) jobs

  -- nothing is added
  pub adds_none : (Of : Job → Type 0) (old new : List Job) → new ≡ old → ((job : Job) → Of job → Legal job → ⊥) →
      Adds Of old new
  adds_none Of old new same none = record {
    more = [];
    grown = same ∙ sym (append-nil old);
    are = record { each = λ job. ((λ is. absurd is), (λ both. absurd (none job both.0 both.1))); once = tt };
  }

  -- the only one is added
  pub adds_one : (Of : Job → Type 0) (old new : List Job) (one : Job) → new ≡ old ++ one ∷ [] → Of one → Legal one →
      ((job : Job) → Of job → Legal job → one ≡ job) → Adds Of old new
  adds_one Of old new one grown of legal only = record {
    more = one ∷ [];
    grown = grown;
    are = record {
      each = λ job. (
        (λ is. elim is [
          | inl same ↦ subst (λ (j : Job). Of j × Legal j) same (of, legal)
          | inr none ↦ absurd none
        ]),
        (λ both. inl (only job both.0 both.1)),
      );
      once = (tt, tt);
    };
  }

  -- the only one is added where it is legal
  pub adds_if : (Of : Job → Type 0) (old new : List Job) (test : Bool) (one : Job) →
      new ≡ old ++ (if test then one ∷ [] else []) → (test ≡ true → Of one × Legal one) →
      ((job : Job) → Of job → Legal job → (one ≡ job) × (test ≡ true)) → Adds Of old new
  adds_if Of old new true one grown so only =
      adds_one Of old new one grown (so refl).0 (so refl).1 (λ job of legal. (only job of legal).0)
  adds_if Of old new false one grown so only =
      adds_none Of old new (grown ∙ append-nil old) (λ job of legal.
      let untrue : false ≡ true = (only job of legal).1 in absurd cc)

  -- a job that no slot runs is added where it is legal
  pub adds_itself : (old new : List Job) (test : Bool) (one : Job) → IsUntaken runs one →
      new ≡ old ++ (if test then one ∷ [] else []) → (test ≡ true) ↔ IsLegalJob setting state one →
      Adds (λ job. one ≡ job) old new
  adds_itself old new test one untaken grown says =
      adds_if (λ job. one ≡ job) old new test one grown (λ so. (refl, (says.0 so, untaken)))
      (λ job of legal. (of, says.1 (subst (IsLegalJob setting state) (sym of) legal.0)))

  -- those of two kinds, one behind the other
  pub adds_then : (P Q : Job → Type 0) (old mid new : List Job) → Adds P old mid → Adds Q mid new →
      ((job : Job) → P job → Q job → ⊥) → Adds (λ job. P job ⊎ Q job) old new
  adds_then P Q old mid new first second apart = record {
    more = first.more ++ second.more;
    grown = second.grown
        ∙ (ap (λ (list : List Job). list ++ second.more) first.grown ∙ append_assoc old first.more second.more);
    are = record {
      each = λ job. (
        (λ is. elim (any_either (λ (other : Job). other ≡ job) first.more second.more is) [
          | inl one ↦ let both = (first.are.each job).0 one in (inl both.0, both.1)
          | inr other ↦ let both = (second.are.each job).0 other in (inr both.0, both.1)
        ]),
        (λ both. in_both job both.0 both.1),
      );
      once = once_both first.more second.more first.are.once second.are.once (λ job one other.
          apart job ((first.are.each job).0 one).0 ((second.are.each job).0 other).0);
    };
  }
    where
      in_both : (job : Job) → P job ⊎ Q job → Legal job → IsIn (first.more ++ second.more) job
      in_both job (inl of) legal =
          any_front (λ (other : Job). other ≡ job) first.more second.more ((first.are.each job).1 (of, legal))
      in_both job (inr of) legal =
          any_behind (λ (other : Job). other ≡ job) first.more second.more ((second.are.each job).1 (of, legal))

  -- a kind that is another, as far as legal jobs go
  pub adds_as : (P Q : Job → Type 0) (old new : List Job) → ((job : Job) → Legal job → P job → Q job) →
      ((job : Job) → Legal job → Q job → P job) → Adds P old new → Adds Q old new
  adds_as P Q old new to back has = record {
    more = has.more;
    grown = has.grown;
    are = record {
      each = λ job. (
        (λ is. let both = (has.are.each job).0 is in (to job both.1 both.0, both.1)),
        (λ both. (has.are.each job).1 (back job both.1 both.0, both.1)),
      );
      once = has.are.once;
    };
  }

  -- those of the items before a place, and of the item there
  pub adds_item : {A : Type 0} (Of : A → Job → Type 0) (items : List A) (place : ℕ) (item : A)
      (old mid new : List Job) → place < length items → item ≡ get_or items place item →
      ((job : Job) → AnyOf (λ (other : A). Of other job) (take place items) → Of item job → ⊥) →
      Adds (λ job. AnyOf (λ (other : A). Of other job) (take place items)) old mid → Adds (Of item) mid new →
      Adds (λ job. AnyOf (λ (other : A). Of other job) (take (place + 1) items)) old new
  adds_item {A} Of items place item old mid new below is apart first second =
      subst (λ (list : List A). Adds (λ job. AnyOf (λ (other : A). Of other job) list) old new)
      (sym (one_taken items place item below is))
      (adds_as (λ job. AnyOf (λ (other : A). Of other job) (take place items) ⊎ Of item job)
      (λ job. AnyOf (λ (other : A). Of other job) (take place items ++ item ∷ [])) old new
      (λ job legal. to job) (λ job legal. from job)
      (adds_then (λ job. AnyOf (λ (other : A). Of other job) (take place items)) (Of item) old mid new first second
      apart))
    where
      to : (job : Job) → AnyOf (λ (other : A). Of other job) (take place items) ⊎ Of item job →
          AnyOf (λ (other : A). Of other job) (take place items ++ item ∷ [])
      to job (inl of) = any_front _ (take place items) (item ∷ []) of
      to job (inr own) = any_behind _ (take place items) (item ∷ []) (inl own)

      from : (job : Job) → AnyOf (λ (other : A). Of other job) (take place items ++ item ∷ []) →
          AnyOf (λ (other : A). Of other job) (take place items) ⊎ Of item job
      from job of = elim (any_either _ (take place items) (item ∷ []) of) [
        | inl before ↦ inl before
        | inr last ↦ elim last [ inl own ↦ inr own | inr none ↦ absurd none ]
      ]

  -- the one that was found, and none where none was, of a kind that slots don't run
  pub adds_found : (make : ℕ → Job) (found : Option ℕ) → ((number : ℕ) → IsUntaken runs (make number)) →
      ((number : ℕ) → (found ≡ Some number) ↔ IsLegalJob setting state (make number)) →
      (old new : List Job) (one : ℕ) → found ≡ Some one → new ≡ old ++ make one ∷ [] →
      Adds (λ job. (number : ℕ) × (job ≡ make number)) old new
  adds_found make found untaken says old new one is grown =
      adds_one (λ job. (number : ℕ) × (job ≡ make number)) old new (make one) grown (one, refl)
      ((says one).0 is, untaken one) (λ job of legal.
      let other = (says of.0).1 (subst (IsLegalJob setting state) of.1 legal.0) in
      ap make (same_Some one of.0 (sym is ∙ other)) ∙ sym of.1)

  pub adds_not_found : (make : ℕ → Job) (found : Option ℕ) →
      ((number : ℕ) → (found ≡ Some number) ↔ IsLegalJob setting state (make number)) →
      (old : List Job) → found ≡ None → Adds (λ job. (number : ℕ) × (job ≡ make number)) old old
  adds_not_found make found says old none =
      adds_none (λ job. (number : ℕ) × (job ≡ make number)) old old refl (λ job of legal.
      none-some of.0 (sym none ∙ (says of.0).1 (subst (IsLegalJob setting state) of.1 legal.0)))

  -- those of the numbers below one more
  pub adds_next : (Of : ℕ → Job → Type 0) → ((one other : ℕ) (job : Job) → Of one job → Of other job → one ≡ other) →
      (number own more : ℕ) → own ≡ number → more ≡ number + 1 → (old mid new : List Job) →
      Adds (λ job. (place : ℕ) × (place < number) × Of place job) old mid → Adds (Of own) mid new →
      Adds (λ job. (place : ℕ) × (place < more) × Of place job) old new
  adds_next Of same number own more is more_is old mid new first second =
      adds_as (λ job. ((place : ℕ) × (place < number) × Of place job) ⊎ Of own job)
      (λ job. (place : ℕ) × (place < more) × Of place job) old new
      (λ job legal. to job) (λ job legal of. elim (cases_eq of.0 own) [
        | inl here ↦ inr (subst (λ (n : ℕ). Of n job) here of.2)
        | inr differs ↦ let less = of.1 in inl (of.0, omega (arith, less, differs, is, more_is), of.2)
      ])
      (adds_then (λ job. (place : ℕ) × (place < number) × Of place job) (Of own) old mid new first second
      (λ job below of. let less = below.1 in let at = same below.0 own job below.2 of in omega (arith, less, at, is)))
    where
      to : (job : Job) → ((place : ℕ) × (place < number) × Of place job) ⊎ Of own job →
          (place : ℕ) × (place < more) × Of place job
      to job (inl below) = let less = below.1 in (below.0, omega (arith, less, more_is), below.2)
      to job (inr of) = (own, omega (arith, is, more_is), of)

  -- of no number that is as great a job is legal
  pub adds_every : (Of : ℕ → Job → Type 0) (number : ℕ) →
      ((place : ℕ) (job : Job) → Legal job → Of place job → place < number) → (old new : List Job) →
      Adds (λ job. (place : ℕ) × (place < number) × Of place job) old new →
      Adds (λ job. (place : ℕ) × Of place job) old new
  adds_every Of number bound old new = adds_as (λ job. (place : ℕ) × (place < number) × Of place job)
      (λ job. (place : ℕ) × Of place job) old new (λ job legal of. (of.0, of.2))
      (λ job legal of. (of.0, bound of.0 job legal of.1, of.1))

  pub adds_no_place : (Of : ℕ → Job → Type 0) (old : List Job) →
      Adds (λ job. (place : ℕ) × (place < 0) × Of place job) old old
  adds_no_place Of old = adds_none (λ job. (place : ℕ) × (place < 0) × Of place job) old old refl
      (λ job of legal. let less = of.1 in omega (arith, less))

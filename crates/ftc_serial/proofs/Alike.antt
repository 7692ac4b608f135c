-- Stores that answer alike at some keys: what is read from them, and what writes leave.
use Rattle.std.proofs.Common.{◌≡◌, ℕ, zero, suc, Bool, true, false, cond, List, [], ◌∷◌, ◌++◌, ◌⊎◌, inl, inr, refl, sym}
use Rattle.std.proofs.Common.{ap, ◌∙◌, Option, Some, None, Less, Equal, Greater, is_eq, nat_cmp}
use Rattle.std.specs.List.{AllByRecursion}
use Rattle.std.specs.FinMap.{get, get-insert, get-remove, nat_cmp-IsAntisymmetric, slice_cmp-IsAntisymmetric}
use Rattle.std.specs.Ordering.{eq_by_cmp}
use Rattle.std.specs.Cmp.Lexicographic.{slice_cmp, nat_list_cmp_total}
use Rattle.std.proofs.lemmas.Bool.{cases_eq}
use Rattle.ftc_base.specs.Partition.{partition_of}
use Rattle.ftc_base.specs.declared.ask.Answer.{Answer}
use Rattle.ftc_base.specs.declared.ask.Write.{Write}
use Rattle.ftc_base.specs.declared.ask.Ask.{Ask}
use Rattle.ftc_base.specs.declared.ask.Ask.TheVariants.{Read, Finish}
use Rattle.ftc_base.proofs.EachOf.{all-front}
use Rattle.ftc_mbox.specs.declared.rule.Rule.{Rule}
use Rattle.ftc_mbox.specs.Ask.{ask}
use Rattle.ftc_store.specs.Store.{Content, changed, written}
use Rattle.ftc_serial.specs.declared.visit.Asked.{Asked}
use Rattle.ftc_serial.specs.Words.{AnyOf}
use Rattle.ftc_serial.specs.Take.{asked_from, asked, answer_at, stopped, ended, taken}

-- the stores answer alike at this key
abbrev pub SameAt : Content → Content → List ℕ → Type 0
SameAt one other key = get one key ≡ get other key

abbrev pub SameAnswers : Content → Content → List Answer → Type 0
SameAnswers one other answers = AllByRecursion (λ (answer : Answer). SameAt one other answer.key) answers

all_last : {A : Type 0} (P : A → Type 0) (xs : List A) (x : A) → AllByRecursion P (xs ++ x ∷ []) → P x
all_last P [] x all = all.0
all_last P (y ∷ ys) x all = all_last P ys x all.1

-- the answers of a rule that is asked on begin with those so far
answers_so_far : (P : Answer →
    Type 0) (rule : Rule) (packet : List ℕ) (content : Content) (left : ℕ) (answers : List Answer)
    → AllByRecursion P (asked_from rule packet content left answers).answers.items → AllByRecursion P answers
unfolding asked_from
answers_so_far P rule packet content zero answers =
    elim (ask rule packet answers) as (λ a. AllByRecursion P (stopped answers a).answers.items →
    AllByRecursion P answers) [
      | Read key change ↦ λ all. all
      | Finish end ↦ λ all. all
    ]
answers_so_far P rule packet content (suc left) answers =
    let at : Ask → Asked = λ a. elim a [
      | Read key change ↦ asked_from rule packet content left (answers ++ answer_at content key ∷ [])
      | Finish end ↦ ended answers end
    ] in
    elim (ask rule packet answers) as (λ a. AllByRecursion P (at a).answers.items → AllByRecursion P answers) [
      | Read key change ↦ λ all. all-front P answers (answer_at content key
          ∷ []) (answers_so_far P rule packet content left (answers ++ answer_at content key ∷ []) all)
      | Finish end ↦ λ all. all
    ]

-- a rule is asked alike over stores that answer alike at each key that it reads
asked_alike : (rule : Rule) (packet : List ℕ) (one other : Content) (left : ℕ) (answers : List Answer)
    → SameAnswers one other (asked_from rule packet one left answers).answers.items
    → asked_from rule packet one left answers ≡ asked_from rule packet other left answers
unfolding asked_from
asked_alike rule packet one other zero answers = λ same. refl
asked_alike rule packet one other (suc left) answers =
    let at : Content → Ask → Asked = λ content a. elim a [
      | Read key change ↦ asked_from rule packet content left (answers ++ answer_at content key ∷ [])
      | Finish end ↦ ended answers end
    ] in
    elim (ask rule packet answers) as (λ a. SameAnswers one other (at one a).answers.items → at one a ≡ at other a) [
      | Read key change ↦ λ same.
          let here : SameAt one other key =
          all_last (λ (answer : Answer). SameAt one other answer.key) answers (answer_at one key)
          (answers_so_far (λ (answer : Answer). SameAt one other answer.key) rule packet one left (answers
          ++ answer_at one key ∷ []) same) in
          asked_alike rule packet one other left (answers ++ answer_at one key ∷ []) same
          ∙ ap (λ (value : Option (List ℕ)). asked_from rule packet other left (answers
          ++ record { key = key; value = value } ∷ [])) here
      | Finish end ↦ λ same. refl
    ]

-- a visit over stores that answer alike at each key that it reads is the same
pub taken_alike : (rule : Rule) (packet : List ℕ) (one other : Content) →
    SameAnswers one other (taken rule packet one).answers → taken rule packet one ≡ taken rule packet other
unfolding asked
taken_alike rule packet one other same =
    ap (λ (told : Asked). record {
      answers = told.answers.items;
      writes = told.end.writes.items;
      packet = Rattle.ftc_mbox.specs.Change.packet_after packet told.end.verdict;
    })
    (asked_alike rule packet one other 8 [] same)

pub eq_same : (x y : List ℕ) → eq_by_cmp (slice_cmp nat_cmp) x y ≡ true → x ≡ y
eq_same x y e =
    elim (slice_cmp nat_cmp x y) as (λ r. slice_cmp nat_cmp x y ≡ r → is_eq r ≡ true → x ≡ y) [
      | Less ↦ λ is t. cc
      | Equal ↦ λ is t. slice_cmp-IsAntisymmetric nat_cmp-IsAntisymmetric x y is
      | Greater ↦ λ is t. cc
    ] refl e

-- one write of stores that are alike at a key leaves them alike there
changed_alike : (one other : Content) (k : List ℕ) (value : Option (List ℕ)) (key : List ℕ) → SameAt one other key →
    SameAt (changed one k value) (changed other k value) key
changed_alike one other k None key same =
    get-remove nat_list_cmp_total one k key ∙ ap (cond (eq_by_cmp (slice_cmp nat_cmp) key k) None) same ∙ sym
    (get-remove nat_list_cmp_total other k key)
changed_alike one other k (Some value) key same =
    get-insert nat_list_cmp_total one k value key ∙ ap
    (cond (eq_by_cmp (slice_cmp nat_cmp) key k) (Some value)) same ∙ sym
    (get-insert nat_list_cmp_total other k value key)

pub written_alike : (writes : List Write) (one other : Content) (key : List ℕ) → SameAt one other key →
    SameAt (written writes one) (written writes other) key
written_alike [] one other key same = same
written_alike (write ∷ writes) one other key same =
    written_alike writes _ _ key (changed_alike one other write.key write.value key same)

-- a write at another key leaves what is at this one
changed_other : (content : Content) (k : List ℕ) (value : Option (List ℕ)) (key : List ℕ) (same : Bool) →
    eq_by_cmp (slice_cmp nat_cmp) key k ≡ same → same ≡ false → get (changed content k value) key ≡ get content key
changed_other content k None key same e isnt =
    get-remove nat_list_cmp_total content k key ∙ ap (λ c. cond c None (get content key)) (e ∙ isnt)
changed_other content k (Some value) key same e isnt =
    get-insert nat_list_cmp_total content k value key ∙ ap (λ c. cond c (Some value) (get content key)) (e ∙ isnt)

elsewhere : (partitions : ℕ) (k key : List ℕ) → (partition_of partitions k ≡ partition_of partitions key → ⊥) →
    (same : Bool) → eq_by_cmp (slice_cmp nat_cmp) key k ≡ same → same ≡ false
elsewhere partitions k key apart true e = absurd (apart (ap (partition_of partitions) (sym (eq_same key k e))))
elsewhere partitions k key apart false e = refl

-- what is in a partition in which nothing is written stays
pub written_elsewhere : (partitions : ℕ) (writes : List Write) (content : Content) (key : List ℕ)
    → (AnyOf (λ (write : Write). partition_of partitions write.key ≡ partition_of partitions key) writes → ⊥) →
    get (written writes content) key ≡ get content key
written_elsewhere partitions [] content key none_there = refl
written_elsewhere partitions (write ∷ writes) content key none_there =
    written_elsewhere partitions writes (changed content write.key write.value) key (λ a. none_there (inr a))
    ∙ changed_other content write.key write.value key _ refl
    (elsewhere partitions write.key key (λ e. none_there (inl e)) _ refl)

-- something is written in the partition, or nothing is
pub writes_or_not : (partitions partition : ℕ) (writes : List Write) →
    AnyOf (λ (write : Write). partition_of partitions write.key ≡ partition) writes
    ⊎ (AnyOf (λ (write : Write). partition_of partitions write.key ≡ partition) writes → ⊥)
writes_or_not partitions partition [] = inr (λ h. h)
writes_or_not partitions partition (write ∷ writes) =
    elim (cases_eq (partition_of partitions write.key) partition) [
      | inl e ↦ inl (inl e)
      | inr n ↦ elim (writes_or_not partitions partition writes) [
        | inl a ↦ inl (inr a)
        | inr m ↦ inr (λ h. elim h [ inl e ↦ n e | inr a ↦ m a ])
      ]
    ]

-- The first job by its place is the first in the order's own words.
use Rattle.std.proofs.Common.{◌≡◌, ℕ, ◌<◌, ◌≤◌, Bool, true, false, List, [], ◌∷◌, ◌⊎◌, inl, inr, refl, sym, ap, subst}
use Rattle.std.proofs.Common.{◌∙◌, arith, Some, None}
use Rattle.std.proofs.lemmas.Bool.{true≢false}
use Rattle.std.proofs.lemmas.Option.{none-some, same_Some}
use Rattle.ftc_journal.specs.declared.job.Job.{Job}
use Rattle.ftc_journal.specs.declared.job.Job.TheVariants as job
use Rattle.ftc_script.specs.declared.line.ScriptLine.{ScriptLine}
use Rattle.ftc_script.specs.declared.line.ScriptLine.TheVariants as line
use Rattle.ftc_protocol.specs.Setting.{Setting, servers}
use Rattle.ftc_protocol.specs.State.{ChainState, Message, Held}
use Rattle.ftc_protocol.specs.Legal.{IsHeld, IsNextLine, MayLeave}
use Rattle.ftc_protocol.specs.Measure.{IsBelow}
use Rattle.ftc_protocol.specs.Jobs.{since_of, place_of, IsLegalJob, IsEarlier, IsFirstJob, IsNoApply, IsNoVisit, IsWork}
use Rattle.ftc_protocol.specs.Jobs.{IsNoWork, IsNoPull, AreIdleBefore, AreIdle, IsNoTake, IsNoLine, IsNoEnter, IsInTurn}
use Rattle.ftc_protocol.specs.Known.{IsReady}
use Rattle.ftc_protocol.proofs.InsidePackets.{AreFated, IsPast}
use Rattle.ftc_protocol.proofs.ArrivalTimes.{IsDated}
use Rattle.ftc_protocol.proofs.JobOrder.{not_below_itself, ordered}

behind_first : (x : ℕ) (xs ys : List ℕ) → IsBelow (x ∷ xs) (x ∷ ys) → IsBelow xs ys
behind_first x xs ys before = elim before [ inl less ↦ absurd (omega arith) | inr same ↦ same.1 ]

-- the first number of a place is above that, and above that of another place
abbrev StartsAbove : ℕ → List ℕ → Type 0
StartsAbove one [] = ⊥
StartsAbove one (other ∷ others) = one < other

abbrev StartsBelow : List ℕ → List ℕ → Type 0
StartsBelow [] others = ⊥
StartsBelow (one ∷ ones) others = StartsAbove one others

starts_below : (xs ys : List ℕ) → StartsBelow xs ys → IsBelow xs ys
starts_below [] ys less = less
starts_below (x ∷ xs) [] less = less
starts_below (x ∷ xs) (y ∷ ys) less = inl less

too_early : (xs ys : List ℕ) → StartsBelow ys xs → IsBelow xs ys → ⊥
too_early [] [] less before = before
too_early [] (y ∷ ys) less before = before
too_early (x ∷ xs) [] less before = before
too_early (x ∷ xs) (y ∷ ys) less before = elim before [
  | inl sooner ↦ omega arith
  | inr same ↦ let e : x ≡ y = same.0 in omega arith
]

three_parts : (k i t u : ℕ) (xs ys : List ℕ) → IsBelow (2 ∷ k ∷ t ∷ xs) (2 ∷ i ∷ u ∷ ys) →
    (k < i) ⊎ (((k ≡ i) × (t < u)) ⊎ ((k ≡ i) × (t ≡ u) × IsBelow xs ys))
three_parts k i t u xs ys before = elim (behind_first 2 (k ∷ t ∷ xs) (i ∷ u ∷ ys) before) [
  | inl less ↦ inl less
  | inr same ↦ elim same.1 [ inl sooner ↦ inr (inl (same.0, sooner)) | inr both ↦ inr (inr (same.0, both.0, both.1)) ]
]

module _ (c : Setting) (s : ChainState) where
  -- the message of a legal job
  apply_held : (k p j q : ℕ) → IsLegalJob c s (job.Apply k p j q) → (m : Message) × IsHeld s k p m
  apply_held k p j q legal = (legal.0.0, legal.0.1)

  visit_held : (k p : ℕ) → IsLegalJob c s (job.Visit k p) → (m : Message) × IsHeld s k p m
  visit_held k p legal = (legal.0.0, (legal.0.3, false, legal.0.2, legal.0.4))

  pass_held : (k p : ℕ) → IsLegalJob c s (job.Pass k p) → (m : Message) × IsHeld s k p m
  pass_held k p legal = (legal.0.0, (legal.0.1.there, legal.0.1.visited, false, legal.0.1.held))

  lose_held : (k p : ℕ) → IsLegalJob c s (job.Lose k p) → (m : Message) × IsHeld s k p m
  lose_held k p legal = (legal.0.0, (legal.0.1.there, legal.0.1.visited, false, legal.0.1.held))

  carry_held : (p : ℕ) → IsLegalJob c s (job.Carry p) → (m : Message) × IsHeld s 0 p m
  carry_held p legal = (legal.0.0, (legal.0.1, legal.0.2, true, legal.0.3))

  one_message : (p : ℕ) (m n : Message) → s.message p ≡ Some m → s.message p ≡ Some n → m ≡ n
  one_message p m n a b = same_Some m n (sym a ∙ b)

  -- a message is carried or passed, and passed or lost
  not_both : (p k : ℕ) → IsLegalJob c s (job.Carry p) → (m : Message) → s.message p ≡ Some m → (v : Bool) →
      m.place ≡ Held k v false → ⊥
  not_both p k legal m there v held =
      let same = one_message p legal.0.0 m legal.0.1 there in
      let ring : Held 0 legal.0.2 true ≡ Held k v false = sym legal.0.3 ∙ (ap (λ (x : Message). x.place) same ∙ held) in
      absurd (cc)

  not_lost : (k p : ℕ) → IsLegalJob c s (job.Pass k p) → IsLegalJob c s (job.Lose k p) → ⊥
  not_lost k p pass lose = elim pass.0.2 [
    | inl kept ↦ true≢false (sym lose.0.3 ∙ kept)
    | inr unsent ↦ true≢false (sym lose.0.2 ∙ unsent)
  ]

  -- ---- from the order's words to the place

  -- what of the same message is not before that place
  record IsLast (k p : ℕ) (t : List ℕ) : Type 0 where
    pub apply : (j q : ℕ) → IsLegalJob c s (job.Apply k p j q) → IsBelow (1 ∷ q ∷ j ∷ p ∷ []) t → ⊥
    pub visit : IsLegalJob c s (job.Visit k p) → IsBelow (2 ∷ 0 ∷ 0 ∷ p ∷ []) t → ⊥
    pub pass : IsLegalJob c s (job.Pass k p) → IsBelow (3 ∷ 0 ∷ 0 ∷ p ∷ []) t → ⊥
    pub lose : IsLegalJob c s (job.Lose k p) → IsBelow (3 ∷ 1 ∷ 0 ∷ p ∷ []) t → ⊥
    pub carry : k ≡ 0 → IsLegalJob c s (job.Carry p) → IsBelow (3 ∷ 2 ∷ 0 ∷ p ∷ []) t → ⊥

  module _ (d : IsDated s) (k p : ℕ) (m : Message) (there : s.message p ≡ Some m) (no_pull : IsNoPull c s)
      (idle : AreIdleBefore c s k p) (t : List ℕ) (last : IsLast k p t) where
    -- a message that came as early at this server is this one
    same_origin : (q : ℕ) (n : Message) → s.message q ≡ Some n → since_of (s.message q) ≡ since_of (s.message p) → q ≡ p
    same_origin q n other same =
        d.messages.apart q p n m other there (sym (ap since_of other) ∙ (same ∙ ap since_of there))

    -- a sooner job of a message that has no work, or of this message
    none_sooner : (i q : ℕ) → (n : Message) × IsHeld s i q n → (xs : List ℕ) →
        IsBelow (2 ∷ i ∷ since_of (s.message q) ∷ xs) (2 ∷ k ∷ since_of (s.message p) ∷ t)
        → (IsNoWork c s i q → ⊥) → (IsLast i q t → IsBelow xs t → ⊥) → ⊥
    none_sooner i q held xs before none here =
        elim (three_parts i k (since_of (s.message q)) (since_of (s.message p)) xs t before) [
          | inl less ↦ none (idle i q held.0 held.1 (inl less))
          | inr rest ↦ elim rest [
            | inl sooner ↦ none (idle i q held.0 held.1
                (inr (sooner.0, subst (λ x. x < since_of (s.message p)) (ap since_of held.1.0) sooner.1)))
            | inr same ↦ here
                (subst (λ v. IsLast v q t) (sym same.0)
                (subst (λ v. IsLast k v t) (sym (same_origin q held.0 held.1.0 same.1)) last)) same.2
          ]
        ]

    late : (j : Job) → StartsAbove 2 (place_of s j) →
        IsBelow (place_of s j) (2 ∷ k ∷ since_of (s.message p) ∷ t) → ⊥
    late j above before = too_early (place_of s j) (2 ∷ k ∷ since_of (s.message p) ∷ t) above before

    work_least : (j : Job) → IsLegalJob c s j → IsBelow (place_of s j) (2 ∷ k ∷ since_of (s.message p) ∷ t) → ⊥
    work_least (job.Pull l) legal before = no_pull l legal
    work_least (job.Apply i q g x) legal before =
        none_sooner i q (apply_held i q g x legal) (1 ∷ x ∷ g ∷ q ∷ []) before
        (λ none. none.apply g x legal) (λ here. here.apply g x legal)
    work_least (job.Visit i q) legal before =
        none_sooner i q (visit_held i q legal) (2 ∷ 0 ∷ 0 ∷ q ∷ []) before
        (λ none. none.visit legal) (λ here. here.visit legal)
    work_least (job.Pass i q) legal before =
        none_sooner i q (pass_held i q legal) (3 ∷ 0 ∷ 0 ∷ q ∷ []) before
        (λ none. none.pass legal) (λ here. here.pass legal)
    work_least (job.Lose i q) legal before =
        none_sooner i q (lose_held i q legal) (3 ∷ 1 ∷ 0 ∷ q ∷ []) before
        (λ none. none.lose legal) (λ here. here.lose legal)
    work_least (job.Carry q) legal before =
        none_sooner 0 q (carry_held q legal) (3 ∷ 2 ∷ 0 ∷ q ∷ []) before
        (λ none. none.carry refl legal) (λ here. here.carry refl legal)
    work_least (job.Take l q) legal before = late (job.Take l q) (omega arith) before
    work_least (job.Crash i) legal before = late (job.Crash i) (omega arith) before
    work_least (job.Recover i) legal before = late (job.Recover i) (omega arith) before
    work_least (job.Enter q) legal before = late (job.Enter q) (omega arith) before
    work_least (job.Propagate q) legal before = late (job.Propagate q) (omega arith) before

  no_sooner : (one other : Job) → StartsBelow (place_of s other) (place_of s one) → IsEarlier s one other → ⊥
  no_sooner one other = too_early (place_of s one) (place_of s other)

  pull_least : (l : ℕ) → ((other : ℕ) → other < l → IsLegalJob c s (job.Pull other) → ⊥) → (j : Job) →
      IsLegalJob c s j → IsEarlier s j (job.Pull l) → ⊥
  pull_least l smaller (job.Pull i) legal before =
      elim (behind_first 1 (i ∷ 0 ∷ 0 ∷ 0 ∷ 0 ∷ 0 ∷ []) (l ∷ 0 ∷ 0 ∷ 0 ∷ 0 ∷ 0 ∷ []) before) [
        | inl less ↦ smaller i less legal
        | inr same ↦ not_below_itself (0 ∷ 0 ∷ 0 ∷ 0 ∷ 0 ∷ []) same.1
      ]
  pull_least l smaller (job.Apply i q g x) legal before =
      no_sooner (job.Apply i q g x) (job.Pull l) (omega arith) before
  pull_least l smaller (job.Visit i q) legal before = no_sooner (job.Visit i q) (job.Pull l) (omega arith) before
  pull_least l smaller (job.Pass i q) legal before = no_sooner (job.Pass i q) (job.Pull l) (omega arith) before
  pull_least l smaller (job.Lose i q) legal before = no_sooner (job.Lose i q) (job.Pull l) (omega arith) before
  pull_least l smaller (job.Carry q) legal before = no_sooner (job.Carry q) (job.Pull l) (omega arith) before
  pull_least l smaller (job.Take i q) legal before = no_sooner (job.Take i q) (job.Pull l) (omega arith) before
  pull_least l smaller (job.Crash i) legal before = no_sooner (job.Crash i) (job.Pull l) (omega arith) before
  pull_least l smaller (job.Recover i) legal before = no_sooner (job.Recover i) (job.Pull l) (omega arith) before
  pull_least l smaller (job.Enter q) legal before = no_sooner (job.Enter q) (job.Pull l) (omega arith) before
  pull_least l smaller (job.Propagate q) legal before = no_sooner (job.Propagate q) (job.Pull l) (omega arith) before

  module _ (no_pull : IsNoPull c s) (idle : AreIdle c s) where
    -- where no pull is legal and no message has work, the other jobs are left
    abbrev LeftFor : (Job → Type 0) → Type 0
    LeftFor P = ((l q : ℕ) → IsLegalJob c s (job.Take l q) → P (job.Take l q))
        × ((k : ℕ) → IsLegalJob c s (job.Crash k) → P (job.Crash k))
        × ((k : ℕ) → IsLegalJob c s (job.Recover k) → P (job.Recover k))
        × ((q : ℕ) → IsLegalJob c s (job.Enter q) → P (job.Enter q))
        × ((q : ℕ) → IsLegalJob c s (job.Propagate q) → P (job.Propagate q))

    left_for : (P : Job → Type 0) → LeftFor P → (j : Job) → IsLegalJob c s j → P j
    left_for P left (job.Pull l) legal = absurd (no_pull l legal)
    left_for P left (job.Apply i q g x) legal =
        absurd (let h = apply_held i q g x legal in (idle i q h.0 h.1).apply g x legal)
    left_for P left (job.Visit i q) legal = absurd (let h = visit_held i q legal in (idle i q h.0 h.1).visit legal)
    left_for P left (job.Pass i q) legal = absurd (let h = pass_held i q legal in (idle i q h.0 h.1).pass legal)
    left_for P left (job.Lose i q) legal = absurd (let h = lose_held i q legal in (idle i q h.0 h.1).lose legal)
    left_for P left (job.Carry q) legal = absurd (let h = carry_held q legal in (idle 0 q h.0 h.1).carry refl legal)
    left_for P left (job.Take l q) legal = left.0 l q legal
    left_for P left (job.Crash i) legal = left.1 i legal
    left_for P left (job.Recover i) legal = left.2 i legal
    left_for P left (job.Enter q) legal = left.3 q legal
    left_for P left (job.Propagate q) legal = left.4 q legal

  -- what is said of a line, a packet and a propagate is said of one
  take_same : IsDated s → (l p q : ℕ) → IsLegalJob c s (job.Take l p) → IsLegalJob c s (job.Take l q) → p ≡ q
  take_same d l p q a b =
      let one : a.0.0.since ≤ b.0.0.since = a.0.3 q b.0.0 b.0.1 b.0.2 in
      let other : b.0.0.since ≤ a.0.0.since = b.0.3 p a.0.0 a.0.1 a.0.2 in
      d.messages.apart p q a.0.0 b.0.0 a.0.1 b.0.1 (omega arith)

  line_same : (lines : List ScriptLine) (a b : ScriptLine) → IsNextLine lines a → IsNextLine lines b → a ≡ b
  line_same [] a b x y = absurd x
  line_same (line ∷ lines) a b x y = sym x ∙ y

  crash_same : (k i : ℕ) → IsLegalJob c s (job.Crash k) → IsLegalJob c s (job.Crash i) → k ≡ i
  crash_same k i a b = let same : line.Crash s.entered k ≡ line.Crash s.entered i =
      line_same s.lines (line.Crash s.entered k) (line.Crash s.entered i) a.0 b.0 in cc

  recover_same : (k i : ℕ) → IsLegalJob c s (job.Recover k) → IsLegalJob c s (job.Recover i) → k ≡ i
  recover_same k i a b = let same : line.Recover s.entered k ≡ line.Recover s.entered i =
      line_same s.lines (line.Recover s.entered k) (line.Recover s.entered i) a.0.0 b.0.0 in cc

  crash_or_recover : (k i : ℕ) → IsLegalJob c s (job.Crash k) → IsLegalJob c s (job.Recover i) → ⊥
  crash_or_recover k i a b = let same : line.Crash s.entered k ≡ line.Recover s.entered i =
      line_same s.lines (line.Crash s.entered k) (line.Recover s.entered i) a.0 b.0.0 in absurd (cc)

  itself : (a b : Job) → a ≡ b → IsEarlier s a b → ⊥
  itself a b same before = not_below_itself (place_of s b) (subst (λ x. IsEarlier s x b) same before)

  module _ (d : IsDated s) (no_pull : IsNoPull c s) (idle : AreIdle c s) where
    take_least : (l p : ℕ) → IsLegalJob c s (job.Take l p) →
        ((other another : ℕ) → other < l → IsLegalJob c s (job.Take other another) → ⊥) → (j : Job) → IsLegalJob c s j →
        IsEarlier s j (job.Take l p) → ⊥
    take_least l p own smaller = left_for no_pull idle (λ j. IsEarlier s j (job.Take l p) → ⊥) (
      (λ i q legal before. elim (behind_first 3 (i ∷ 0 ∷ 0 ∷ 0 ∷ 0 ∷ q ∷ []) (l ∷ 0 ∷ 0 ∷ 0 ∷ 0 ∷ p ∷ []) before) [
        | inl less ↦ smaller i q less legal
        | inr same ↦
            let legal' : IsLegalJob c s (job.Take l q) = subst (λ v. IsLegalJob c s (job.Take v q)) same.0 legal in
            itself (job.Take i q) (job.Take l p)
            (ap (λ v. job.Take v q) same.0 ∙ ap (job.Take l) (take_same d l q p legal' own)) before
      ]),
      (λ k legal before. no_sooner (job.Crash k) (job.Take l p) (omega arith) before),
      (λ k legal before. no_sooner (job.Recover k) (job.Take l p) (omega arith) before),
      (λ q legal before. no_sooner (job.Enter q) (job.Take l p) (omega arith) before),
      (λ q legal before. no_sooner (job.Propagate q) (job.Take l p) (omega arith) before),
    )

    module _ (no_take : IsNoTake c s) where
      crash_least : (i : ℕ) → IsLegalJob c s (job.Crash i) → (j : Job) → IsLegalJob c s j →
          IsEarlier s j (job.Crash i) → ⊥
      crash_least i own = left_for no_pull idle (λ j. IsEarlier s j (job.Crash i) → ⊥) (
        (λ l q legal before. no_take l q legal),
        (λ k legal before. itself (job.Crash k) (job.Crash i) (ap job.Crash (crash_same k i legal own)) before),
        (λ k legal before. crash_or_recover i k own legal),
        (λ q legal before. no_sooner (job.Enter q) (job.Crash i) (omega arith) before),
        (λ q legal before. no_sooner (job.Propagate q) (job.Crash i) (omega arith) before),
      )

      recover_least : (i : ℕ) → IsLegalJob c s (job.Recover i) → (j : Job) → IsLegalJob c s j →
          IsEarlier s j (job.Recover i) → ⊥
      recover_least i own = left_for no_pull idle (λ j. IsEarlier s j (job.Recover i) → ⊥) (
        (λ l q legal before. no_take l q legal),
        (λ k legal before. crash_or_recover k i legal own),
        (λ k legal before. itself (job.Recover k) (job.Recover i) (ap job.Recover (recover_same k i legal own)) before),
        (λ q legal before. no_sooner (job.Enter q) (job.Recover i) (omega arith) before),
        (λ q legal before. no_sooner (job.Propagate q) (job.Recover i) (omega arith) before),
      )

      module _ (no_line : IsNoLine c s) where
        enter_least : (p : ℕ) → IsLegalJob c s (job.Enter p) → (j : Job) → IsLegalJob c s j →
            IsEarlier s j (job.Enter p) → ⊥
        enter_least p own = left_for no_pull idle (λ j. IsEarlier s j (job.Enter p) → ⊥) (
          (λ l q legal before. no_take l q legal),
          (λ k legal before. no_line k (inl legal)),
          (λ k legal before. no_line k (inr legal)),
          (λ q legal before. itself (job.Enter q) (job.Enter p) (ap job.Enter (legal.0.0 ∙ sym own.0.0)) before),
          (λ q legal before. no_sooner (job.Propagate q) (job.Enter p) (omega arith) before),
        )

        propagate_least : IsNoEnter c s → (p : ℕ) → IsLegalJob c s (job.Propagate p) → (j : Job) → IsLegalJob c s j →
            IsEarlier s j (job.Propagate p) → ⊥
        propagate_least no_enter p own = left_for no_pull idle (λ j. IsEarlier s j (job.Propagate p) → ⊥) (
          (λ l q legal before. no_take l q legal),
          (λ k legal before. no_line k (inl legal)),
          (λ k legal before. no_line k (inr legal)),
          (λ q legal before. no_enter q legal),
          (λ q legal before. itself (job.Propagate q) (job.Propagate p)
              (ap job.Propagate (legal.0.4 ∙ sym own.0.4)) before),
        )

  -- what of the same message is not before its work
  apply_last : (k p g x : ℕ) →
      ((other another : ℕ) → IsLegalJob c s (job.Apply k p other another) →
      ((another < x) ⊎ ((another ≡ x) × (other < g))) → ⊥) → IsLast k p (1 ∷ x ∷ g ∷ p ∷ [])
  apply_last k p g x smaller = record {
    apply = λ j q legal before. elim (behind_first 1 (q ∷ j ∷ p ∷ []) (x ∷ g ∷ p ∷ []) before) [
      | inl less ↦ smaller j q legal (inl less)
      | inr same ↦ elim same.1 [
        | inl less ↦ smaller j q legal (inr (same.0, less))
        | inr both ↦
            not_below_itself (p ∷ []) both.1
      ]
    ];
    visit = λ legal before. too_early (2 ∷ 0 ∷ 0 ∷ p ∷ []) (1 ∷ x ∷ g ∷ p ∷ []) (omega arith) before;
    pass = λ legal before. too_early (3 ∷ 0 ∷ 0 ∷ p ∷ []) (1 ∷ x ∷ g ∷ p ∷ []) (omega arith) before;
    lose = λ legal before. too_early (3 ∷ 1 ∷ 0 ∷ p ∷ []) (1 ∷ x ∷ g ∷ p ∷ []) (omega arith) before;
    carry = λ at_0 legal before. too_early (3 ∷ 2 ∷ 0 ∷ p ∷ []) (1 ∷ x ∷ g ∷ p ∷ []) (omega arith) before;
  }

  visit_last : (k p : ℕ) → IsNoApply c s k p → IsLast k p (2 ∷ 0 ∷ 0 ∷ p ∷ [])
  visit_last k p no_apply = record {
    apply = λ j q legal before. no_apply j q legal;
    visit = λ legal before. not_below_itself (2 ∷ 0 ∷ 0 ∷ p ∷ []) before;
    pass = λ legal before. too_early (3 ∷ 0 ∷ 0 ∷ p ∷ []) (2 ∷ 0 ∷ 0 ∷ p ∷ []) (omega arith) before;
    lose = λ legal before. too_early (3 ∷ 1 ∷ 0 ∷ p ∷ []) (2 ∷ 0 ∷ 0 ∷ p ∷ []) (omega arith) before;
    carry = λ at_0 legal before. too_early (3 ∷ 2 ∷ 0 ∷ p ∷ []) (2 ∷ 0 ∷ 0 ∷ p ∷ []) (omega arith) before;
  }

  pass_last : (k p : ℕ) → IsNoApply c s k p → IsNoVisit c s k p → IsLast k p (3 ∷ 0 ∷ 0 ∷ p ∷ [])
  pass_last k p no_apply no_visit = record {
    apply = λ j q legal before. no_apply j q legal;
    visit = λ legal before. no_visit legal;
    pass = λ legal before. not_below_itself (3 ∷ 0 ∷ 0 ∷ p ∷ []) before;
    lose = λ legal before. too_early (1 ∷ 0 ∷ p ∷ []) (0 ∷ 0 ∷ p ∷ []) (omega arith)
        (behind_first 3 (1 ∷ 0 ∷ p ∷ []) (0 ∷ 0 ∷ p ∷ []) before);
    carry = λ at_0 legal before. too_early (2 ∷ 0 ∷ p ∷ []) (0 ∷ 0 ∷ p ∷ []) (omega arith)
        (behind_first 3 (2 ∷ 0 ∷ p ∷ []) (0 ∷ 0 ∷ p ∷ []) before);
  }

  lose_last : (k p : ℕ) → IsNoApply c s k p → IsNoVisit c s k p → IsLegalJob c s (job.Lose k p) →
      IsLast k p (3 ∷ 1 ∷ 0 ∷ p ∷ [])
  lose_last k p no_apply no_visit own = record {
    apply = λ j q legal before. no_apply j q legal;
    visit = λ legal before. no_visit legal;
    pass = λ legal before. not_lost k p legal own;
    lose = λ legal before. not_below_itself (3 ∷ 1 ∷ 0 ∷ p ∷ []) before;
    carry = λ at_0 legal before. too_early (2 ∷ 0 ∷ p ∷ []) (1 ∷ 0 ∷ p ∷ []) (omega arith)
        (behind_first 3 (2 ∷ 0 ∷ p ∷ []) (1 ∷ 0 ∷ p ∷ []) before);
  }

  carry_last : (p : ℕ) → IsNoApply c s 0 p → IsNoVisit c s 0 p → IsLegalJob c s (job.Carry p) →
      IsLast 0 p (3 ∷ 2 ∷ 0 ∷ p ∷ [])
  carry_last p no_apply no_visit own = record {
    apply = λ j q legal before. no_apply j q legal;
    visit = λ legal before. no_visit legal;
    pass = λ legal before. not_both p 0 own legal.0.0 legal.0.1.there legal.0.1.visited legal.0.1.held;
    lose = λ legal before. not_both p 0 own legal.0.0 legal.0.1.there legal.0.1.visited legal.0.1.held;
    carry = λ at_0 legal before. not_below_itself (3 ∷ 2 ∷ 0 ∷ p ∷ []) before;
  }

  -- the place of a message's work
  record IsPlaced (k p : ℕ) (j : Job) : Type 0 where
    pub tail : List ℕ
    pub placed : place_of s j ≡ (2 ∷ k ∷ since_of (s.message p) ∷ tail)
    pub last : IsLast k p tail
    pub not_before : (t : List ℕ) → IsLast k p t → IsBelow tail t → ⊥

  same_place : (i k q p : ℕ) (tail : ℕ → List ℕ) → i ≡ k → q ≡ p →
      2 ∷ i ∷ since_of (s.message q) ∷ tail q ≡ 2 ∷ k ∷ since_of (s.message p) ∷ tail p
  same_place i k q p tail at own =
      ap (λ v. 2 ∷ v ∷ since_of (s.message q) ∷ tail q) at ∙ ap (λ v. 2 ∷ k ∷ since_of (s.message v) ∷ tail v) own

  placed : (k p : ℕ) (j : Job) → IsWork c s k p j → IsPlaced k p j
  placed k p (job.Apply i q g x) w = record {
    tail = 1 ∷ x ∷ g ∷ p ∷ [];
    placed = same_place i k q p (λ v. 1 ∷ x ∷ g ∷ v ∷ []) w.0 w.1;
    last = apply_last k p g x w.3;
    not_before = λ t l. l.apply g x w.2;
  }
  placed k p (job.Visit i q) w = record {
    tail = 2 ∷ 0 ∷ 0 ∷ p ∷ [];
    placed = same_place i k q p (λ v. 2 ∷ 0 ∷ 0 ∷ v ∷ []) w.0 w.1;
    last = visit_last k p w.2;
    not_before = λ t l. l.visit w.3;
  }
  placed k p (job.Pass i q) w = record {
    tail = 3 ∷ 0 ∷ 0 ∷ p ∷ [];
    placed = same_place i k q p (λ v. 3 ∷ 0 ∷ 0 ∷ v ∷ []) w.0 w.1;
    last = pass_last k p w.2 w.3;
    not_before = λ t l. l.pass w.4;
  }
  placed k p (job.Lose i q) w = record {
    tail = 3 ∷ 1 ∷ 0 ∷ p ∷ [];
    placed = same_place i k q p (λ v. 3 ∷ 1 ∷ 0 ∷ v ∷ []) w.0 w.1;
    last = lose_last k p w.2 w.3 w.4;
    not_before = λ t l. l.lose w.4;
  }
  placed k p (job.Carry q) w = record {
    tail = 3 ∷ 2 ∷ 0 ∷ p ∷ [];
    placed = same_place 0 k q p (λ v. 3 ∷ 2 ∷ 0 ∷ v ∷ []) (sym w.0) w.1;
    last = subst (λ v. IsLast v p (3 ∷ 2 ∷ 0 ∷ p ∷ [])) (sym w.0)
        (carry_last p (subst (λ v. IsNoApply c s v p) w.0 w.2) (subst (λ v. IsNoVisit c s v p) w.0 w.3) w.4);
    not_before = λ t l. l.carry w.0 w.4;
  }
  placed k p (job.Enter q) w = absurd w
  placed k p (job.Take l q) w = absurd w
  placed k p (job.Crash i) w = absurd w
  placed k p (job.Recover i) w = absurd w
  placed k p (job.Pull l) w = absurd w
  placed k p (job.Propagate q) w = absurd w

  work_is_first : IsDated s → (k p : ℕ) (j : Job) → (m : Message) × IsHeld s k p m → IsLegalJob c s j →
      IsNoPull c s × AreIdleBefore c s k p × IsWork c s k p j → IsFirstJob c s j
  work_is_first d k p j held legal turn =
      let at = placed k p j turn.2 in
      record {
        legal = legal;
        least = λ other is before. work_least d k p held.0 held.1.0 turn.0 turn.1 at.tail at.last other is
            (subst (IsBelow (place_of s other)) at.placed before);
      }

  pub turn_is_first : IsDated s → (j : Job) → IsInTurn c s j → IsFirstJob c s j
  turn_is_first d (job.Pull l) turn = record { legal = turn.0; least = pull_least l turn.1 }
  turn_is_first d (job.Apply k p g x) turn =
      work_is_first d k p (job.Apply k p g x) (apply_held k p g x turn.2.2) turn.2.2 turn
  turn_is_first d (job.Visit k p) turn = work_is_first d k p (job.Visit k p) (visit_held k p turn.2.3) turn.2.3 turn
  turn_is_first d (job.Pass k p) turn = work_is_first d k p (job.Pass k p) (pass_held k p turn.2.4) turn.2.4 turn
  turn_is_first d (job.Lose k p) turn = work_is_first d k p (job.Lose k p) (lose_held k p turn.2.4) turn.2.4 turn
  turn_is_first d (job.Carry p) turn = work_is_first d 0 p (job.Carry p) (carry_held p turn.2.4) turn.2.4 turn
  turn_is_first d (job.Take l p) turn = record { legal = turn.2; least = take_least d turn.0 turn.1 l p turn.2 turn.3 }
  turn_is_first d (job.Crash k) turn = record { legal = turn.3; least = crash_least d turn.0 turn.1 turn.2 k turn.3 }
  turn_is_first d (job.Recover k) turn =
      record { legal = turn.3; least = recover_least d turn.0 turn.1 turn.2 k turn.3 }
  turn_is_first d (job.Enter p) turn =
      record { legal = turn.4; least = enter_least d turn.0 turn.1 turn.2 turn.3 p turn.4 }
  turn_is_first d (job.Propagate p) turn =
      record { legal = turn.5; least = propagate_least d turn.0 turn.1 turn.2 turn.3 turn.4 p turn.5 }

  -- ---- a legal visit, pass, lose or carry is its message's work

  no_apply_ready : (k p : ℕ) (m : Message) → IsHeld s k p m → IsReady c s k m → IsNoApply c s k p
  no_apply_ready k p m held ready g x legal =
      let same = one_message p legal.0.0 m legal.0.1.0 held.0 in
      let had = (ready g x (subst (λ (v : Message). v.logs g x ≡ true) same legal.0.2)).changing legal.0.3 in
      true≢false (sym had ∙ legal.0.4)

  no_visit_done : (k p : ℕ) (m : Message) → s.message p ≡ Some m → (v : Bool) → m.place ≡ Held k v false →
      (v ≡ true) ⊎ (m.packet ≡ None) → IsNoVisit c s k p
  no_visit_done k p m there v held done legal =
      let same = one_message p legal.0.0 m legal.0.3 there in
      elim done [
        | inl already ↦
            let both : Held k false legal.0.2 ≡ Held k v false =
            sym legal.0.4 ∙ (ap (λ (x : Message). x.place) same ∙ held) in
            let flag : false ≡ v = cc in true≢false (sym (flag ∙ already))
        | inr none ↦ none-some legal.0.1 (sym none ∙ (ap (λ (x : Message). x.packet) (sym same) ∙ legal.0.5))
      ]

  pub visit_works : (k p : ℕ) → IsLegalJob c s (job.Visit k p) → IsWork c s k p (job.Visit k p)
  visit_works k p legal =
      (refl, refl, no_apply_ready k p legal.0.0 (legal.0.3, false, legal.0.2, legal.0.4) legal.0.6, legal)

  -- a message that may leave has no more to do
  may_leave : (k p : ℕ) (m : Message) → MayLeave c s k p m → IsNoApply c s k p × IsNoVisit c s k p
  may_leave k p m leaves = (
    no_apply_ready k p m (leaves.there, leaves.visited, false, leaves.held) leaves.ready,
    no_visit_done k p m leaves.there leaves.visited leaves.held leaves.done,
  )

  pub pass_works : (k p : ℕ) → IsLegalJob c s (job.Pass k p) → IsWork c s k p (job.Pass k p)
  pass_works k p legal = let done = may_leave k p legal.0.0 legal.0.1 in (refl, refl, done.0, done.1, legal)

  pub lose_works : (k p : ℕ) → IsLegalJob c s (job.Lose k p) → IsWork c s k p (job.Lose k p)
  lose_works k p legal = let done = may_leave k p legal.0.0 legal.0.1 in (refl, refl, done.0, done.1, legal)

  pub carry_works : AreFated c s → (p : ℕ) → IsLegalJob c s (job.Carry p) → IsWork c s 0 p (job.Carry p)
  carry_works fated p legal = (
    refl,
    refl,
    no_apply_ready 0 p legal.0.0 (legal.0.1, legal.0.2, true, legal.0.3) legal.0.4,
    (λ visit.
        let same = one_message p visit.0.0 legal.0.0 visit.0.3 legal.0.1 in
        let bare = fated.bare p legal.0.0 legal.0.1 (subst (IsPast (servers c)) (sym legal.0.3) refl) in
        none-some visit.0.1 (sym bare ∙ (ap (λ (x : Message). x.packet) (sym same) ∙ visit.0.5))),
    legal,
  )

  -- ---- from the place to the order's words

  ahead_below : (i k t u : ℕ) (xs ys : List ℕ) → ((i < k) ⊎ ((i ≡ k) × (t < u))) →
      IsBelow (2 ∷ i ∷ t ∷ xs) (2 ∷ k ∷ u ∷ ys)
  ahead_below i k t u xs ys ahead =
      elim ahead [ inl less ↦ inr (refl, inl less) | inr sooner ↦ inr (refl, inr (sooner.0, inl sooner.1)) ]

  module _ (j : Job) (first : IsFirstJob c s j) where
    open first use {least}

    sooner_none : (other : Job) → StartsBelow (place_of s other) (place_of s j) → IsLegalJob c s other → ⊥
    sooner_none other less legal = least other legal (starts_below (place_of s other) (place_of s j) less)

    pull_none : StartsAbove 1 (place_of s j) → IsNoPull c s
    pull_none above l = sooner_none (job.Pull l) above

    work_none : StartsAbove 2 (place_of s j) → AreIdle c s
    work_none above k p m held = record {
      apply = λ g x. sooner_none (job.Apply k p g x) above;
      visit = sooner_none (job.Visit k p) above;
      pass = sooner_none (job.Pass k p) above;
      lose = sooner_none (job.Lose k p) above;
      carry = λ at_0. sooner_none (job.Carry p) above;
    }

    take_none : StartsAbove 3 (place_of s j) → IsNoTake c s
    take_none above l p = sooner_none (job.Take l p) above

    line_none : StartsAbove 4 (place_of s j) → IsNoLine c s
    line_none above k which = elim which [
      | inl legal ↦ sooner_none (job.Crash k) above legal
      | inr legal ↦ sooner_none (job.Recover k) above legal
    ]

    before_none : (k p : ℕ) (ys : List ℕ) → place_of s j ≡ (2 ∷ k ∷ since_of (s.message p) ∷ ys) → AreIdleBefore c s k p
    before_none k p ys at i q m held ahead = record {
      apply = λ g x legal. least (job.Apply i q g x) legal (below (1 ∷ x ∷ g ∷ q ∷ []));
      visit = λ legal. least (job.Visit i q) legal (below (2 ∷ 0 ∷ 0 ∷ q ∷ []));
      pass = λ legal. least (job.Pass i q) legal (below (3 ∷ 0 ∷ 0 ∷ q ∷ []));
      lose = λ legal. least (job.Lose i q) legal (below (3 ∷ 1 ∷ 0 ∷ q ∷ []));
      carry = λ at_0 legal. least (job.Carry q) legal
          (subst (λ v. IsBelow (2 ∷ v ∷ since_of (s.message q) ∷ 3 ∷ 2 ∷ 0 ∷ q ∷ []) (place_of s j)) at_0
          (below (3 ∷ 2 ∷ 0 ∷ q ∷ [])));
    }
      where
        below : (xs : List ℕ) → IsBelow (2 ∷ i ∷ since_of (s.message q) ∷ xs) (place_of s j)
        below xs = subst (IsBelow (2 ∷ i ∷ since_of (s.message q) ∷ xs)) (sym at)
            (ahead_below i k (since_of (s.message q)) (since_of (s.message p)) xs ys
            (subst (λ t. (i < k) ⊎ ((i ≡ k) × (t < since_of (s.message p)))) (sym (ap since_of held.0)) ahead))

  pub first_is_turn : (j : Job) → IsFirstJob c s j → IsInTurn c s j
  first_is_turn (job.Pull l) first =
      (first.legal, λ other less legal. first.least (job.Pull other) legal (inr (refl, inl less)))
  first_is_turn (job.Apply k p g x) first = let j = job.Apply k p g x in (
    pull_none j first (omega arith),
    before_none j first k p _ refl,
    (
      refl,
      refl,
      first.legal,
      λ other another legal less. first.least (job.Apply k p other another) legal
          (inr (
            refl,
            inr (
              refl,
              inr (
                refl,
                inr (refl, (elim less [ inl low ↦ inl low | inr same ↦ inr (same.0, inl same.1) ])),
              ),
            ),
          )),
    ),
  )
  first_is_turn (job.Visit k p) first = let j = job.Visit k p in
      (pull_none j first (omega arith), before_none j first k p _ refl, visit_works k p first.legal)
  first_is_turn (job.Pass k p) first = let j = job.Pass k p in
      (pull_none j first (omega arith), before_none j first k p _ refl, pass_works k p first.legal)
  first_is_turn (job.Lose k p) first = let j = job.Lose k p in
      (pull_none j first (omega arith), before_none j first k p _ refl, lose_works k p first.legal)
  first_is_turn (job.Carry p) first = let j = job.Carry p in let legal = first.legal.0 in (
    pull_none j first (omega arith),
    before_none j first 0 p _ refl,
    (
      refl,
      refl,
      no_apply_ready 0 p legal.0 (legal.1, legal.2, true, legal.3) legal.4,
      (λ visit. first.least (job.Visit 0 p) visit (inr (refl, inr (refl, inr (refl, inl (omega arith)))))),
      first.legal,
    ),
  )
  first_is_turn (job.Take l p) first = let j = job.Take l p in (
    pull_none j first (omega arith),
    work_none j first (omega arith),
    first.legal,
    λ other another less legal. first.least (job.Take other another) legal (inr (refl, inl less)),
  )
  first_is_turn (job.Crash k) first = let j = job.Crash k in
      (pull_none j first (omega arith), work_none j first (omega arith), take_none j first (omega arith), first.legal)
  first_is_turn (job.Recover k) first = let j = job.Recover k in
      (pull_none j first (omega arith), work_none j first (omega arith), take_none j first (omega arith), first.legal)
  first_is_turn (job.Enter p) first = let j = job.Enter p in (
    pull_none j first (omega arith),
    work_none j first (omega arith),
    take_none j first (omega arith),
    line_none j first (omega arith),
    first.legal,
  )
  first_is_turn (job.Propagate p) first = let j = job.Propagate p in (
    pull_none j first (omega arith),
    work_none j first (omega arith),
    take_none j first (omega arith),
    line_none j first (omega arith),
    (λ q legal. first.least (job.Enter q) legal (inl (omega arith))),
    first.legal,
  )

  -- where no stage has a job there is none
  pub none_in_turn : IsNoPull c s → AreIdle c s → IsNoTake c s → IsNoLine c s → IsNoEnter c s →
      ((p : ℕ) → IsLegalJob c s (job.Propagate p) → ⊥) → (j : Job) → IsLegalJob c s j → ⊥
  none_in_turn no_pull idle no_take no_line no_enter no_propagate = left_for no_pull idle (λ j. ⊥) (
    (λ l q legal. no_take l q legal),
    (λ k legal. no_line k (inl legal)),
    (λ k legal. no_line k (inr legal)),
    (λ q legal. no_enter q legal),
    (λ q legal. no_propagate q legal),
  )

  -- ---- a message has one work at most

  not_sooner : (k p : ℕ) (a b : Job) → IsWork c s k p a → IsWork c s k p b → IsEarlier s a b → ⊥
  not_sooner k p a b wa wb before =
      let pa = placed k p a wa in let pb = placed k p b wb in
      let t = since_of (s.message p) in
      let both : IsBelow (2 ∷ k ∷ t ∷ pa.tail) (2 ∷ k ∷ t ∷ pb.tail) =
      subst (λ v. IsBelow v (2 ∷ k ∷ t ∷ pb.tail)) pa.placed (subst (IsBelow (place_of s a)) pb.placed before) in
      pa.not_before pb.tail pb.last
      (behind_first t pa.tail pb.tail
      (behind_first k (t ∷ pa.tail) (t ∷ pb.tail) (behind_first 2 (k ∷ t ∷ pa.tail) (k ∷ t ∷ pb.tail) both)))

  pub one_work : (k p : ℕ) (a b : Job) → IsWork c s k p a → IsWork c s k p b → a ≡ b
  one_work k p a b wa wb = elim (ordered s a b) [
    | inl before ↦ absurd (not_sooner k p a b wa wb before)
    | inr rest ↦ elim rest [ inl same ↦ same | inr after ↦ absurd (not_sooner k p b a wb wa after) ]
  ]

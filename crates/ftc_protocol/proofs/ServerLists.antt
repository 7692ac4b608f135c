-- Lists hold changing visits of the trace, a live head has all of its middlebox, and lists are closed under `before`.
use Rattle.std.proofs.Common.{◌≡◌, ℕ, Bool, true, false, List, ◌∷◌, ◌⊎◌, inl, inr, refl, sym, subst}
use Rattle.std.proofs.lemmas.Bool.{true≢false}
use Rattle.ftc_serial.specs.Serial.{Entry, Given, Visited}
use Rattle.ftc_protocol.specs.Visits.{In, Visits, just, no_visits, union}
use Rattle.ftc_protocol.specs.Trace.{IsBefore, IsChanging, IsInTrace}
use Rattle.ftc_serial.specs.Take.{Outcome}
use Rattle.ftc_protocol.specs.Setting.{Setting}
use Rattle.ftc_protocol.proofs.Sets.{gained, kept, gets}
use Rattle.ftc_protocol.proofs.TraceLemmas.{before_last, before_left, meets_changing, stands_map, visit_left}
use Rattle.ftc_protocol.proofs.TraceLemmas.{visit_stood}
use Rattle.ftc_protocol.specs.Changes.{is_changing}
use Rattle.ftc_serial.specs.Removal.{left_of}
use Rattle.ftc_serial.specs.Words.{with_at}
use Rattle.ftc_serial.proofs.Functions.{with_at_cases}

-- The lists of a state, by its trace, its live servers and its lists alone.
pub record AreLists (c : Setting) (trace : List Entry) (up : ℕ → Bool) (has : ℕ → Visits) : Type 0 where
  -- what is in a list is a changing visit of the trace, and the server is up
  pub listed : (k j p : ℕ) → In (has k) j p → (up k ≡ true) × IsChanging c.partitions trace j p
  -- a live head has every changing visit of its middlebox
  pub heads : (j p : ℕ) → up j ≡ true → IsChanging c.partitions trace j p → In (has j) j p
  -- with a visit a list has each that is before it
  pub closed : (k j p q : ℕ) → In (has k) j q → IsBefore c.partitions trace j p q → In (has k) j p

module _ (c : Setting) where
  -- a visit at middlebox k, of a packet that wasn't there
  pub visits : (trace : List Entry) (up : ℕ → Bool) (has : ℕ → Visits) (k p : ℕ) (o : Outcome)
      → up k ≡ true → (IsInTrace (λ o. Unit {0}) trace k p → ⊥) → AreLists c trace up has
      → AreLists c (Visited k p o ∷ trace) up (with_at has k (union (has k) (just k p (is_changing c.partitions o))))
  visits trace up has k p o awake fresh h =
      let new : (x q : ℕ) → In (has x) k q → q ≡ p → ⊥ =
      λ x q i e. fresh (stands_map _ (λ o. Unit {0}) (λ u t. tt) trace k p
      (subst (λ y. IsChanging c.partitions trace k y) e (h.listed x k q i).1)) in
      record {
        listed = λ x j q i. elim (gained has k k p (is_changing c.partitions o) x j q i) [
          | inl old ↦ ((h.listed x j q old).0, inr (h.listed x j q old).1)
          | inr n ↦ (subst (λ y. up y ≡ true) (sym n.0) awake, inl (n.1, sym n.2, n.3))
        ];
        heads = λ j q live changing. elim changing [
          | inl here ↦ let b : is_changing c.partitions o ≡ true = here.2 in
              subst (λ y. In (with_at has k (union (has k) (just k p (is_changing c.partitions o))) y) j q) here.0
              (subst (λ y. In (with_at has k (union (has k) (just k p (is_changing c.partitions o))) k) y q) here.0
              (subst (λ y. In (with_at has k (union (has k) (just k p (is_changing c.partitions o))) k) k y) here.1
              (gets has k k p (is_changing c.partitions o) b)))
          | inr there ↦ kept has k k p (is_changing c.partitions o) j j q (h.heads j q live there)
        ];
        closed = λ x j a b i before. kept has k k p (is_changing c.partitions o) x j a (elim before [
          | inl here ↦
              let first : IsChanging c.partitions trace j a = meets_changing c.partitions o trace j a here.1.1 in
              elim (gained has k k p (is_changing c.partitions o) x j b i) [
                | inl old ↦ absurd (new x b (subst (λ y. In (has x) y b) (sym here.1.0) old) (sym here.0))
                | inr n ↦ let own : In (has k) k a =
                    h.heads k a awake (subst (λ y. IsChanging c.partitions trace y a) (sym n.1) first) in
                    subst (λ y. In (has y) j a) (sym n.0) (subst (λ y. In (has k) y a) n.1 own)
              ]
          | inr there ↦ elim (gained has k k p (is_changing c.partitions o) x j b i) [
            | inl old ↦ h.closed x j a b old there
            | inr n ↦ absurd (fresh (subst (λ y. IsInTrace (λ o. Unit {0}) trace k y) n.2
                (subst (λ y. IsInTrace (λ o. Unit {0}) trace y b) (sym n.1)
                (before_last c.partitions trace j a b there))))
          ]
        ]);
      }

  -- a changing visit that joins a list that has all before it
  pub applies : (trace : List Entry) (up : ℕ → Bool) (has : ℕ → Visits) (k i q : ℕ) → up k ≡ true →
      IsChanging c.partitions trace i q
      → ((a : ℕ) → IsBefore c.partitions trace i a q → In (has k) i a) → AreLists c trace up has →
      AreLists c trace up (with_at has k (union (has k) (just i q true)))
  applies trace up has k i q awake changing before h = record {
    listed = λ x j p m. elim (gained has k i q true x j p m) [
      | inl old ↦ h.listed x j p old
      | inr n ↦ (
        subst (λ y. up y ≡ true) (sym n.0) awake,
        subst (λ y. IsChanging c.partitions trace y p) n.1
            (subst (λ y. IsChanging c.partitions trace i y) (sym n.2) changing),
      )
    ];
    heads = λ j p live changing. kept has k i q true j j p (h.heads j p live changing);
    closed = λ x j a b m is. kept has k i q true x j a (elim (gained has k i q true x j b m) [
      | inl old ↦ h.closed x j a b old is
      | inr n ↦ subst (λ y. In (has y) j a) (sym n.0) (subst (λ y. In (has k) y a) n.1
          (before a (subst (λ y. IsBefore c.partitions trace i a y) n.2
          (subst (λ y. IsBefore c.partitions trace y a b) (sym n.1) is))))
    ]);
  }

  -- a release adds nothing that touches
  pub gives : (trace : List Entry) (up : ℕ → Bool) (has : ℕ → Visits) (p : ℕ) (bytes : _) → AreLists c trace up has →
      AreLists c (Given p bytes ∷ trace) up has
  gives trace up has p bytes h = record {
    listed = λ k j q i. ((h.listed k j q i).0, inr (h.listed k j q i).1);
    heads = λ j q live changing. elim changing [ inl here ↦ absurd here | inr there ↦ h.heads j q live there ];
    closed = λ k j a b i before. elim before [ inl here ↦ absurd here.0 | inr there ↦ h.closed k j a b i there ];
  }

  -- a server goes down, and its lists with it
  pub goes_down : (trace : List Entry) (up : ℕ → Bool) (has : ℕ → Visits) (k : ℕ) → AreLists c trace up has →
      AreLists c trace (with_at up k false) (with_at has k no_visits)
  goes_down trace up has k h = record {
    listed = λ x j p. with_at_cases (λ (v : Visits). In v j p →
        (with_at up k false x ≡ true) × IsChanging c.partitions trace j p) has k no_visits x
        (λ e i. absurd (true≢false (sym i)))
        (λ ne i. (
          with_at_cases (λ b. b ≡ true) up k false x (λ e. absurd (ne e)) (λ _. (h.listed x j p i).0),
          (h.listed x j p i).1,
        ));
    heads = λ j p live changing. with_at_cases (λ (v : Visits). In v j p) has k no_visits j
        (λ e. absurd (true≢false
        (sym (with_at_cases (λ b. b ≡ true → false ≡ true) up k false j (λ _ t. t) (λ ne t. absurd (ne e)) live))))
        (λ ne. h.heads j p (with_at_cases (λ b. b ≡ true →
        up j ≡ true) up k false j (λ e. absurd (ne e)) (λ _ t. t) live) changing);
    closed = λ x j a b. with_at_cases (λ (v : Visits). In v j b → IsBefore c.partitions trace j a b →
        In v j a) has k no_visits x
        (λ e i. absurd (true≢false (sym i)))
        (λ ne i before. h.closed x j a b i before);
  }

  -- Server m gets lists that are, group by group, those of live servers or its own, and visits that no list has leave
  -- the trace.
  pub copies : (trace : List Entry) (up : ℕ → Bool) (has : ℕ → Visits) (m : ℕ) (new : Visits) (gone : Visits)
      → ((j : ℕ) → ((x : ℕ) × ((p : ℕ) → In new j p → In (has x) j p) × ((p : ℕ) → In (has x) j p → In new j p))
      ⊎ ((p : ℕ) → In new j p → ⊥))
      → ((p : ℕ) → IsChanging c.partitions trace m p → gone m p ≡ false → In new m p)
      → ((x j p : ℕ) → In (has x) j p → gone j p ≡ false)
      → AreLists c trace up has → AreLists c (left_of gone trace) (with_at up m true) (with_at has m new)
  copies trace up has m new gone from own stay h =
      let unlisted : (j p : ℕ) → In new j p → (gone j p ≡ false) × IsChanging c.partitions trace j p =
      λ j p i. elim (from j) [
        | inl x ↦ (stay x.0 j p (x.1 p i), (h.listed x.0 j p (x.1 p i)).1)
        | inr none_of ↦ absurd (none_of p i)
      ] in
      record {
        listed = λ x j p. with_at_cases (λ (v : Visits). In v j p →
            (with_at up m true x ≡ true) × IsChanging c.partitions (left_of gone trace) j p) has m new x
            (λ e i. (
              with_at_cases (λ b. b ≡ true) up m true x (λ _. refl) (λ ne. absurd (ne e)),
              visit_left gone _ trace j p (unlisted j p i).1 (unlisted j p i).0,
            ))
            (λ ne i. (
              with_at_cases (λ b. b ≡ true) up m true x (λ _. refl) (λ _. (h.listed x j p i).0),
              visit_left gone _ trace j p (h.listed x j p i).1 (stay x j p i),
            ));
        heads = λ j p live changing. let was =
            visit_stood gone (λ o. is_changing c.partitions o ≡ true) trace j p changing in
            with_at_cases (λ (v : Visits). In v j p) has m new j
            (λ e. subst (λ y. In new y p) (sym e)
            (own p (subst (λ y. IsChanging c.partitions trace y p) e was.0)
            (subst (λ y. gone y p ≡ false) e was.1)))
            (λ ne. h.heads j p (with_at_cases (λ b. b ≡ true →
            up j ≡ true) up m true j (λ e. absurd (ne e)) (λ _ t. t) live) was.0);
        closed = λ x j a b. with_at_cases (λ (v : Visits). In v j b → IsBefore c.partitions (left_of gone trace) j a b →
            In v j a) has m new x
            (λ e i before. elim (from j) [
              | inl y ↦ y.2 a (h.closed y.0 j a b (y.1 b i) (before_left gone c.partitions trace j a b before))
              | inr none_of ↦ absurd (none_of b i)
            ])
            (λ ne i before. h.closed x j a b i (before_left gone c.partitions trace j a b before));
      }

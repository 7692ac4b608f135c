-- Visits taken out of a history, whose last entry is first.
use Rattle.std.proofs.Common.{◌≡◌, ℕ, true, false, cond, not, List, [], ◌∷◌, ◌++◌, ◌⊎◌, inl, inr, refl, sym, ap, subst}
use Rattle.std.proofs.Common.{◌∙◌, length}
use Rattle.std.specs.List.{AllByRecursion}
use Rattle.std.proofs.lemmas.Bool.{true≢false}
use Rattle.ftc_base.specs.Partition.{partition_of}
use Rattle.ftc_base.specs.declared.ask.Answer.{Answer}
use Rattle.ftc_mbox.specs.declared.rule.Rule.{Rule}
use Rattle.ftc_store.specs.Store.{Content}
use Rattle.ftc_serial.specs.Words.{AnyOf}
use Rattle.ftc_serial.specs.Take.{Outcome, taken}
use Rattle.ftc_serial.specs.Serial.{State, Entry, Visited, Given, after}
use Rattle.ftc_serial.specs.Entries.{IsRightEntry, Touches, WritesAt}
use Rattle.ftc_serial.specs.Removal.{Taken, is_taken, IsTakenOut, IsEntryBefore, Takes, left_of, IsLost}
use Rattle.ftc_serial.specs.History.{serial_state_after, IsHistory, IsClosedHistory, IsCut, IsAlike, IsRemovedHistory}
use Rattle.ftc_serial.proofs.Functions.{with_at_cases, with_at_both, any_of_all}
use Rattle.ftc_serial.proofs.Alike.{SameAt, SameAnswers, taken_alike, written_alike, written_elsewhere, writes_or_not}
use Rattle.ftc_serial.proofs.Legal.{IsVisitLegal, legal_visit, visit_legal, legal_release, release_legal}

-- stores that are alike in each touched partition answer alike
pub answers_alike : (partitions : ℕ) (one other : Content) (answers : List Answer) →
    ((key : List ℕ) → AnyOf (λ (answer : Answer). partition_of partitions answer.key
    ≡ partition_of partitions key) answers → SameAt one other key) → SameAnswers one other answers
answers_alike partitions one other [] f = tt
answers_alike partitions one other (answer ∷ answers) f =
    (f answer.key (inl refl), answers_alike partitions one other answers (λ k a. f k (inr a)))

-- a visit that was legal is legal in a state that is alike where it looks
pub visit_alike : (rules : List Rule) (partitions : ℕ) (s t : State) (server packet : ℕ) (outcome : Outcome) →
    IsVisitLegal rules s server packet outcome → s.place packet ≡ t.place packet
    → ((key : List ℕ) → Touches partitions outcome (partition_of partitions key) →
    SameAt (s.maps server) (t.maps server) key) → IsRightEntry rules t (Visited server packet outcome)
visit_alike rules partitions s t server packet outcome legal place same =
    let alike : SameAnswers (s.maps server) (t.maps server) (taken legal.rule legal.bytes (s.maps server)).answers =
    subst (λ (u : Outcome). SameAnswers (s.maps server) (t.maps server) u.answers) legal.is
    (answers_alike partitions (s.maps server) (t.maps server) outcome.answers same) in
    legal_visit rules t server packet outcome (record {
      bytes = legal.bytes;
      rule = legal.rule;
      waits = sym place ∙ legal.waits;
      known = legal.known;
      is = legal.is ∙ taken_alike legal.rule legal.bytes (s.maps server) (t.maps server) alike;
    })

module _ (rules : List Rule) (partitions : ℕ) (out : Taken) where
  n : ℕ
  n = length rules

  -- what is not taken out looks at nothing that was
  legal_kept : (s t : State) (entry : Entry) (older : List Entry) → IsAlike partitions out s t older →
      AllByRecursion (λ earlier. Takes partitions out earlier entry) older → is_taken out entry ≡ false →
      IsRightEntry rules s entry → IsRightEntry rules t entry
  legal_kept s t (Given packet bytes) older alike takes stays legal =
      elim (alike.place packet) [
        | inl same ↦ legal_release rules t packet bytes (sym same ∙ release_legal rules s packet bytes legal)
        | inr cut ↦ absurd (any_of_all _ _ older (λ v is takes. true≢false (sym (takes is.0 (inr is.1)))) cut takes)
      ]
  legal_kept s t (Visited server packet outcome) older alike takes stays legal =
      let place : s.place packet ≡ t.place packet = elim (alike.place packet) [
        | inl same ↦ same
        | inr cut ↦ absurd (any_of_all _ _ older
            (λ v is takes. true≢false (sym (takes is.0 (inr is.1)) ∙ stays)) cut takes)
      ] in
      let same : (key : List ℕ) → Touches partitions outcome (partition_of partitions key) →
      SameAt (s.maps server) (t.maps server) key = λ key touches. elim (alike.maps server key) [
        | inl same ↦ same
        | inr wrote ↦ absurd (any_of_all _ _ older
            (λ v is takes. true≢false (sym (takes is.0 (inl (writer key touches v is.1))) ∙ stays)) wrote takes)
      ] in
      visit_alike rules partitions s t server packet outcome
      (visit_legal rules s server packet outcome legal) place same
    where
      writer : (key : List ℕ) → Touches partitions outcome (partition_of partitions key) → (v : Entry) →
          WritesAt partitions server (partition_of partitions key) v →
          IsEntryBefore partitions v (Visited server packet outcome)
      writer key touches (Visited k q u) writes = (partition_of partitions key, writes.1, (sym writes.0, touches))
      writer key touches (Given q bytes) writes = absurd writes

  after_kept : (s t : State) (entry : Entry) (older : List Entry) → IsAlike partitions out s t older →
      IsAlike partitions out (after (length rules) s entry) (after (length rules) t entry) (entry ∷ older)
  after_kept s t (Given packet bytes) older alike = record {
    maps = λ server key. elim (alike.maps server key) [ inl same ↦ inl same | inr wrote ↦ inr (inr wrote) ];
    place = λ q. with_at_both (λ x y. (x ≡ y) ⊎ IsCut out q (Given packet bytes ∷ older)) s.place t.place packet _ _ q
        (λ e. inl refl)
        (λ ne. elim (alike.place q) [ inl same ↦ inl same | inr cut ↦ inr (inr cut) ]);
    released = ap (λ r. r ++ record { packet = packet; bytes = bytes } ∷ []) alike.released;
  }
  after_kept s t (Visited server packet outcome) older alike = record {
    maps = λ q key. with_at_both (λ x y. SameAt x y key
        ⊎ IsLost partitions out q (partition_of partitions key) (Visited server packet outcome
        ∷ older)) s.maps t.maps server _ _ q
        (λ e. elim (alike.maps q key) [
          | inl same ↦ inl (written_alike outcome.writes (s.maps server) (t.maps server) key
              (subst (λ i. SameAt (s.maps i) (t.maps i) key) e same))
          | inr wrote ↦ inr (inr wrote)
        ])
        (λ ne. elim (alike.maps q key) [ inl same ↦ inl same | inr wrote ↦ inr (inr wrote) ]);
    place = λ q. with_at_both (λ x y. (x ≡ y)
        ⊎ IsCut out q (Visited server packet outcome ∷ older)) s.place t.place packet _ _ q (λ e. inl refl)
        (λ ne. elim (alike.place q) [ inl same ↦ inl same | inr cut ↦ inr (inr cut) ]);
    released = alike.released;
  }

  after_gone : (s t : State) (entry : Entry) (older : List Entry) → IsAlike partitions out s t older →
      IsTakenOut out entry → IsAlike partitions out (after (length rules) s entry) t (entry ∷ older)
  after_gone s t (Given packet bytes) older alike goes = absurd (true≢false (sym goes))
  after_gone s t (Visited server packet outcome) older alike goes = record {
    maps = λ q key. with_at_cases (λ x. SameAt x (t.maps q) key
        ⊎ IsLost partitions out q (partition_of partitions key) (Visited server packet outcome
        ∷ older)) s.maps server _ q
        (λ e. elim (writes_or_not partitions (partition_of partitions key) outcome.writes) [
          | inl writes ↦ inr (inl (goes, (sym e, writes)))
          | inr not_written ↦ elim (alike.maps q key) [
            | inl same ↦ inl (written_elsewhere partitions outcome.writes (s.maps server) key not_written ∙ subst
                (λ i. SameAt (s.maps i) (t.maps q) key) e same)
            | inr wrote ↦ inr (inr wrote)
          ]
        ])
        (λ ne. elim (alike.maps q key) [ inl same ↦ inl same | inr wrote ↦ inr (inr wrote) ]);
    place = λ q. with_at_cases (λ x. (x ≡ t.place q)
        ⊎ IsCut out q (Visited server packet outcome ∷ older)) s.place packet _ q
        (λ e. inr (inl (goes, sym e)))
        (λ ne. elim (alike.place q) [ inl same ↦ inl same | inr cut ↦ inr (inr cut) ]);
    released = alike.released;
  }

  taken_out : (start : State) (history : List Entry) → IsHistory rules start history →
      IsClosedHistory partitions out history
      → IsHistory rules start (left_of out history)
      × IsAlike partitions out (serial_state_after rules start history)
      (serial_state_after rules start (left_of out history)) history
  taken_out start [] is closed = (tt, record { maps = λ server key. inl refl; place = λ p. inl refl; released = refl })
  taken_out start (entry ∷ older) is closed =
      let rest = taken_out start older is.1 closed.1 in
      let s = serial_state_after rules start older in let t = serial_state_after rules start (left_of out older) in
      let Good : List Entry → Type 0 =
      λ left. IsHistory rules start left
      × IsAlike partitions out (after (length rules) s entry) (serial_state_after rules start left) (entry
      ∷ older) in
      elim (is_taken out entry) as (λ b. is_taken out entry ≡ b →
      Good (cond (not b) (entry ∷ left_of out older) (left_of out older))) [
        | true ↦ λ goes. (rest.0, after_gone s t entry older rest.1 goes)
        | false ↦ λ stays. (
          (legal_kept s t entry older rest.1 closed.0 stays is.0, rest.0),
          after_kept s t entry older rest.1,
        )
      ] refl

pub removed_history : (rules : List Rule) (partitions : ℕ) (out : Taken) (start : State) (history : List Entry) →
    IsHistory rules start history → IsClosedHistory partitions out history →
    IsRemovedHistory rules partitions out start history
removed_history rules partitions out start history is closed =
    let both = taken_out rules partitions out start history is closed in
    record { exists = both.0; alike = both.1 }

-- Along a group lists are nested: what a member has, each live member before it has.
use Rattle.std.proofs.Common.{◌≡◌, ◌≢◌, ℕ, ◌<◌, ◌≤◌, ◌==◌, ◌&&◌, if◌then◌else◌, Bool, true, false, not, ◌⊎◌, inl, inr}
use Rattle.std.proofs.Common.{refl, sym, subst, ◌∙◌, arith, nat_le, leb-true, leb-false, le-leb}
use Rattle.std.proofs.lemmas.Bool.{true≢false, eqb-false, cases_eq, cases_lt, and_parts, and_from, not-true}
use Rattle.ftc_protocol.specs.State.{ChainState}
use Rattle.ftc_protocol.specs.Visits.{In, Visits, just, no_visits, union}
use Rattle.ftc_protocol.proofs.RingDistances.{IsLastLive, IsNextLive, apart_after, apart_cases}
use Rattle.ftc_protocol.specs.Setting.{Setting, is_member, servers}
use Rattle.ftc_serial.specs.Serial.{after}
use Rattle.ftc_ring.specs.Ring.{apart, next_of}
use Rattle.ftc_protocol.proofs.Sets.{in_both, in_left, in_one}
use Rattle.ftc_protocol.specs.Recovery.{list_got}
use Rattle.ftc_protocol.specs.Next.{pulled_list}
use Rattle.ftc_serial.specs.Words.{with_at}
use Rattle.ftc_serial.proofs.Functions.{with_at_cases}

pub record IsNested (c : Setting) (up : ℕ → Bool) (has : ℕ → Visits) : Type 0 where
  -- who has a visit is up and a member of its group
  pub member : (k j p : ℕ) → In (has k) j p → (up k ≡ true) × (k < (servers c)) × (j < (servers c))
      × (apart (servers c) j k ≤ c.failures)
  pub nested : (j i k p : ℕ) → i < (servers c) → up i ≡ true → apart (servers c) j i ≤ apart (servers c) j k →
      In (has k) j p → In (has i) j p

pub member_le : (c : Setting) (j k : ℕ) → is_member c j k ≡ true → apart (servers c) j k ≤ c.failures
member_le c j k h = leb-true _ _ h

module _ (c : Setting) (up : ℕ → Bool) (has : ℕ → Visits) (h : IsNested c up has) where
  -- the list of server m is changed
  replaced : (m : ℕ) (new : Visits) (up' : ℕ → Bool) → ((i : ℕ) → i ≢ m → up' i ≡ up i)
      → ((j p : ℕ) → In new j p → (up' m ≡ true) × (m < (servers c)) × (j < (servers c))
      × (apart (servers c) j m ≤ c.failures))
      → ((i j p : ℕ) → i ≢ m → i < (servers c) → up i ≡ true → apart (servers c) j i ≤ apart (servers c) j m →
      In new j p → In (has i) j p)
      → ((k j p : ℕ) → k ≢ m → up' m ≡ true → m < (servers c) → apart (servers c) j m ≤ apart (servers c) j k →
      In (has k) j p → In new j p)
      → IsNested c up' (with_at has m new)
  replaced m new up' others in_new before behind = record {
    member = λ k j p. with_at_cases (λ (v : Visits). In v j p → (up' k ≡ true) × (k < (servers c)) × (j < (servers c))
        × (apart (servers c) j k ≤ c.failures)) has m new k
        (λ e i. subst (λ x. (up' x ≡ true) × (x < (servers c)) × (j < (servers c))
        × (apart (servers c) j x ≤ c.failures)) (sym e) (in_new j p i))
        (λ ne i. let a = h.member k j p i in (others k ne ∙ a.0, a.1, a.2, a.3));
    nested = λ j i k p below live le. with_at_cases (λ (v : Visits). In v j p →
        In (with_at has m new i) j p) has m new k
        (λ e here. with_at_cases (λ (v : Visits). In v j p) has m new i (λ _. here)
        (λ ne. before i j p ne below (sym (others i ne) ∙ live)
        (subst (λ x. apart (servers c) j i ≤ apart (servers c) j x) e le) here))
        (λ ne there. with_at_cases (λ (v : Visits). In v j p) has m new i
        (λ e. behind k j p ne (subst (λ x. up' x ≡ true) e live) (subst (λ x. x < (servers c)) e below)
        (subst (λ x. apart (servers c) j x ≤ apart (servers c) j k) e le) there)
        (λ ni. h.nested j i k p below (sym (others i ni) ∙ live) le there));
  }

  -- a member gets a visit that all live members before it have
  pub gains : (k j q : ℕ) (b : Bool) → k < (servers c) → j < (servers c) → up k ≡ true →
      apart (servers c) j k ≤ c.failures
      → ((i : ℕ) → i < (servers c) → up i ≡ true → apart (servers c) j i < apart (servers c) j k → b ≡ true →
      In (has i) j q)
      → IsNested c up (with_at has k (union (has k) (just j q b)))
  gains k j q b below jb live member behind = replaced k (union (has k) (just j q b)) up (λ i ne. refl)
      (λ a p i. elim (in_both (has k) (just j q b) a p i) [
        | inl old ↦ let w = h.member k a p old in (live, below, w.2, w.3)
        | inr new ↦ let e = in_one j q b a p new in (
          live,
          below,
          subst (λ x. x < (servers c)) e.0 jb,
          subst (λ x. apart (servers c) x k ≤ c.failures) e.0 member,
        )
      ])
      (λ i a p ne lt up_i le is. elim (in_both (has k) (just j q b) a p is) [
        | inl old ↦ h.nested a i k p lt up_i le old
        | inr new ↦ let e = in_one j q b a p new in
            let le' : apart (servers c) j i ≤ apart (servers c) j k =
            subst (λ x. apart (servers c) x i ≤ apart (servers c) x k) (sym e.0) le in
            let ai = apart_cases (servers c) j i jb lt in let ak = apart_cases (servers c) j k jb below in
            let less : apart (servers c) j i < apart (servers c) j k = omega arith in
            subst (λ x. In (has i) x p) e.0 (subst (λ x. In (has i) j x) (sym e.1) (behind i lt up_i less e.2))
      ])
      (λ m a p ne live' lt le is. in_left (has k) (just j q b) a p (h.nested a k m p below live le is))

  pub goes_down : (k : ℕ) → IsNested c (with_at up k false) (with_at has k no_visits)
  goes_down k = replaced k no_visits (with_at up k false)
      (λ i ne. with_at_cases (λ b. b ≡ up i) up k false i (λ e. absurd (ne e)) (λ _. refl))
      (λ j p i. absurd (true≢false (sym i)))
      (λ i j p ne lt live le is. absurd (true≢false (sym is)))
      (λ m j p ne live lt le is. absurd
      (true≢false (sym live ∙ with_at_cases (λ b. b ≡ false) up k false k (λ _. refl) (λ e. absurd (e refl)))))

module _ (c : Setting) (s : ChainState) (h : IsNested c s.up s.lists) where
  open h use {member, nested}

  -- a pull by the receiver of link l
  pub pulls : (servers c) ≢ 1 → (l : ℕ) → l < (servers c) → s.up l ≡ true → s.up (next_of (servers c) l) ≡ true
      → IsNested c s.up (with_at s.lists (next_of (servers c) l) (pulled_list c s l (next_of (servers c) l)))
  pulls several l lt live_l live =
      let n = (servers c) in let m = next_of n l in
      let from : (j p : ℕ) → In (pulled_list c s l m) j p →
      (In (s.lists l) j p × (is_member c j l && is_member c j m && not (j == m) ≡ true)) ⊎ In (s.lists m) j p =
      λ j p. elim (is_member c j l && is_member c j m && not (j == m)) as (λ b. (if b then s.lists l j p
      else s.lists m j p) ≡ true → (In (s.lists l) j p × (b ≡ true)) ⊎ In (s.lists m) j p) [
        | true ↦
            λ i. inl (i, refl)
        | false ↦ λ i. inr i
      ] in
      let to : (j p : ℕ) → (not (j == m) ≡ true → In (s.lists l) j p) → In (s.lists m) j p →
      In (pulled_list c s l m) j p =
      λ j p a b. elim (is_member c j l && is_member c j m && not (j == m)) as (λ t. is_member c j l && is_member c j m
      && not (j == m) ≡ t → (if t then s.lists l j p else s.lists m j p) ≡ true) [
        | true ↦ λ is. a (and_parts _ _ is).1
        | false ↦ λ is. b
      ] refl in
      elim (apart_after n l lt) [
        | inr just ↦ absurd (several just)
        | inl step ↦ replaced c s.up s.lists h m (pulled_list c s l m) s.up (λ i ne. refl)
            (λ j p i. elim (from j p i) [
              | inl a ↦ let w = member l j p a.0 in let t =
                  and_parts _ _ a.1 in (live, step.1, w.2, member_le c j m (and_parts _ _ t.0).1)
              | inr b ↦ let w = member m j p b in (live, step.1, w.2, w.3)
            ])
            (λ i j p ne below live_i le is. elim (from j p is) [
              | inl a ↦
                  let jb = (member l j p a.0).2 in
                  let ap_i = apart_cases n j i jb below in let ap_m = apart_cases n j m jb step.1 in let ap_l =
                  apart_cases n j l jb lt in let ap_s = step.0 in
                  let own : j ≢ m = eqb-false j m (not-true _ (and_parts _ _ a.1).1) in
                  nested j i l p below live_i (omega arith) a.0
              | inr b ↦ nested j i m p below live_i le b
            ])
            (λ k j p ne live_m below le is.
            let jb = (member k j p is).2 in let kb = (member k j p is).1 in
            let here : In (s.lists m) j p = nested j m k p below live_m le is in
            elim (cases_eq j m) [
              | inl own ↦ to j p (λ t. absurd (eqb-false j m (not-true _ t) own)) here
              | inr other ↦
                  let ap_m = apart_cases n j m jb step.1 in let ap_l = apart_cases n j l jb lt in let ap_s = step.0 in
                  to j p (λ _. nested j l k p lt live_l (omega arith) is) here
            ])
      ]

  -- the recovery of server m, between live servers r and t
  pub recovers : (m r t : ℕ) → m < (servers c) → IsLastLive (servers c) s.up m r → IsNextLive (servers c) s.up m t
      → IsNested c (with_at s.up m true) (with_at s.lists m (list_got c s m r t))
  recovers m r t lt before after =
      let n = (servers c) in
      let from : (j p : ℕ) → In (list_got c s m r t) j p →
      (apart n j m ≤ c.failures)
      × ((In (s.lists r) j p × (apart n r m ≤ apart n j m)) ⊎ (In (s.lists t) j p × (apart n j m < apart n r m))) =
      λ j p i. let a = and_parts _ _ i in (
        member_le c j m a.0,
        elim (nat_le (apart n r m) (apart n j m)) as (λ b. nat_le (apart n r m) (apart n j m) ≡ b →
            (s.lists (if b then r else t) j p) ≡ true
            → (In (s.lists r) j p × (apart n r m ≤ apart n j m)) ⊎ (In (s.lists t) j p × (apart n j m < apart n r m))) [
              | true ↦ λ is h. inl (h, leb-true _ _ is)
              | false ↦ λ is h. inr (h, leb-false _ _ is)
            ] refl a.1,
      ) in
      let to : (j p : ℕ) → apart n j m ≤ c.failures → (apart n r m ≤ apart n j m → In (s.lists r) j p) →
      (apart n j m < apart n r m → In (s.lists t) j p) → In (list_got c s m r t) j p =
      λ j p le a b. and_from _ _ (le-leb _ _ le)
      (elim (nat_le (apart n r m) (apart n j m)) as (λ t'. nat_le (apart n r m) (apart n j m) ≡ t' →
      (s.lists (if t' then r else t) j p) ≡ true) [
        | true ↦ λ is. a (leb-true _ _ is)
        | false ↦ λ is. b (leb-false _ _ is)
      ] refl) in
      let rm = apart_cases n r m before.below lt in let mt = apart_cases n m t lt after.below in
      replaced c s.up s.lists h m (list_got c s m r t) (with_at s.up m true)
      (λ i ne. with_at_cases (λ b. b ≡ s.up i) s.up m true i (λ e. absurd (ne e)) (λ _. refl))
      (λ j p i. let f = from j p i in (
        with_at_cases (λ b. b ≡ true) s.up m true m (λ _. refl) (λ ne. absurd (ne refl)),
        lt,
        elim f.1 [ inl a ↦ (member r j p a.0).2 | inr b ↦ (member t j p b.0).2 ],
        f.0,
      ))
      (λ i j p ne below live_i le is. let f = from j p is in
      let jb : j < n = elim f.1 [ inl a ↦ (member r j p a.0).2 | inr b ↦ (member t j p b.0).2 ] in
      let ji = apart_cases n j i jb below in let jm = apart_cases n j m jb lt in let im = apart_cases n i m below lt in
      let jr = apart_cases n j r jb before.below in
      let far : apart n i m < apart n r m → ⊥ =
      λ less. true≢false (sym live_i ∙ before.between i below (omega arith) less) in
      elim f.1 [
        | inl a ↦ nested j i r p below live_i (omega arith) a.0
        | inr b ↦ absurd (far (omega arith))
      ])
      (λ k j p ne live below le is.
      let w = member k j p is in
      let jk = apart_cases n j k w.2 w.1 in let jm = apart_cases n j m w.2 lt in let mk = apart_cases n m k lt w.1 in
      let jr = apart_cases n j r w.2 before.below in let jt = apart_cases n j t w.2 after.below in
      let far : apart n m k < apart n m t → ⊥ = λ less. true≢false (sym w.0 ∙ after.between k w.1 (omega arith) less) in
      to j p (omega arith) (λ head. nested j r k p before.below before.live (omega arith) is)
      (λ head. elim (cases_lt (apart n m k) (apart n m t)) [
        | inl less ↦ absurd (far less)
        | inr more ↦
            nested j t k p after.below after.live (omega arith) is
      ]))

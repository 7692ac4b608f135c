-- A recovery of server m between the nearest live servers r and t.
use Rattle.std.proofs.Common.{◌≡◌, ℕ, ◌+◌, ◌-◌, ◌<◌, ◌≤◌, if◌then◌else◌, true, false, ◌⊎◌, inl, inr, sym}
use Rattle.std.proofs.Common.{subst, ◌∙◌, arith, le-leb}
use Rattle.std.proofs.lemmas.Bool.{true≢false, cases_lt, and_from, cases_order, lt-leb}
use Rattle.ftc_protocol.proofs.CarriedLogs.{AreCarried}
use Rattle.ftc_protocol.specs.State.{ChainState}
use Rattle.ftc_protocol.specs.Trace.{Has, IsTouching}
use Rattle.ftc_protocol.specs.Visits.{In, Visits}
use Rattle.ftc_protocol.proofs.Premises.{IsAdmissible}
use Rattle.ftc_protocol.proofs.RingDistances.{IsLastLive, IsNextLive, apart_cases}
use Rattle.ftc_protocol.specs.Setting.{Setting, servers}
use Rattle.ftc_ring.specs.Ring.{apart}
use Rattle.ftc_protocol.specs.Recovery.{list_got}

-- strictly between the two
abbrev pub IsBetween : ℕ → ℕ → ℕ → ℕ → Type 0
IsBetween n r t z = (0 < apart n r z) × ((r ≡ t) ⊎ (apart n r z < apart n r t))

module _ (c : Setting) (s : ChainState) (m r t : ℕ) (inside : m < (servers c)) (down : s.up m ≡ false)
    (before : IsLastLive (servers c) s.up m r) (after : IsNextLive (servers c) s.up m t) where
  pub between_down : (z : ℕ) → z < (servers c) → IsBetween (servers c) r t z → s.up z ≡ false
  between_down z lt between =
      let n = (servers c) in
      let rz = apart_cases n r z before.below lt in let rm = apart_cases n r m before.below inside in let zm =
      apart_cases n z m lt inside in
      let mz = apart_cases n m z inside lt in let mt = apart_cases n m t inside after.below in let rt =
      apart_cases n r t before.below after.below in
      let pos : 0 < apart n r z = between.0 in
      let pr : 0 < apart n r m = before.before in
      let pt : 0 < apart n m t = after.after in
      elim (cases_order (apart n r z) (apart n r m)) [
        | inl same ↦ let e : z ≡ m = omega arith in subst (λ v. s.up v ≡ false) (sym e) down
        | inr other ↦ elim other [
          | inl less ↦ before.between z lt (omega arith) (omega arith)
          | inr more ↦ after.between z lt (omega arith) (elim between.1 [
            | inl same ↦ omega arith
            | inr less ↦
                omega arith
          ])
        ]
      ]

  -- the live server t is the first live one from a head between
  pub first_after : (i z : ℕ) → i < (servers c) → IsBetween (servers c) r t i → z < (servers c) → s.up z ≡ true →
      apart (servers c) i t ≤ apart (servers c) i z
  first_after i z il between lt live =
      let n = (servers c) in
      elim (cases_lt (apart n i z) (apart n i t)) [
        | inr more ↦ more
        | inl less ↦
            let ri = apart_cases n r i before.below il in let iz = apart_cases n i z il lt in let it =
            apart_cases n i t il after.below in
            let rz = apart_cases n r z before.below lt in let rt = apart_cases n r t before.below after.below in
            let pos : 0 < apart n r i = between.0 in
            let zb : IsBetween n r t z =
            elim between.1 [ inl same ↦ (omega arith, inl same) | inr nearer ↦ (omega arith, inr (omega arith)) ] in
            absurd (true≢false (sym live ∙ between_down z lt zb))
      ]

  pub member_after : IsAdmissible c s.up → (i : ℕ) → i < (servers c) → IsBetween (servers c) r t i →
      apart (servers c) i t ≤ c.failures
  member_after admissible i il between = let z = admissible i il in let le = first_after i z.0 il between z.1 z.2 in
      omega (arith, z.3)

  -- What is carried to a live server x that isn't dropped: t has all of it whose head lies between.
  pub carried_had : IsAdmissible c s.up → (logs : Visits) (x : ℕ) → x < (servers c) → s.up x ≡ true →
      (x ≡ t → (j q : ℕ) → In logs j q → Has c.partitions s.trace (s.lists t) j q)
      → AreCarried c s.trace s.up s.lists logs x → (i j q : ℕ) → In logs j q → i ≤ j → IsTouching s.trace i q →
      IsBetween (servers c) r t i → Has c.partitions s.trace (s.lists t) i q
  carried_had admissible logs x xl live ready h i j q is le touching between =
      let n = (servers c) in
      let jl : j < n = (h.member j q is).0 in
      let il : i < n = omega arith in
      let member : apart n i t ≤ c.failures = member_after admissible i il between in
      elim (cases_lt (apart n i t) ((j - i) + apart n j x)) [
        | inl behind ↦ h.wake i j q is le touching t after.below after.live member behind
        | inr ahead ↦
            let first : apart n i t ≤ apart n i x = first_after i x il between xl live in
            let it = apart_cases n i t il after.below in let ix = apart_cases n i x il xl in let jx =
            apart_cases n j x jl xl in
            let same : x ≡ t = omega arith in
            ready same i q (h.together i j q is le touching (omega arith))
      ]

  pub fetched_r : (j p : ℕ) → apart (servers c) j m ≤ c.failures → apart (servers c) r m ≤ apart (servers c) j m →
      In (s.lists r) j p → In (list_got c s m r t) j p
  fetched_r j p member head h =
      and_from _ _ (le-leb _ _ member)
      (subst (λ b. (s.lists (if b then r else t) j p)
      ≡ true) (sym (le-leb (apart (servers c) r m) (apart (servers c) j m) head)) h)

  pub fetched_t : (j p : ℕ) → apart (servers c) j m ≤ c.failures → apart (servers c) j m < apart (servers c) r m →
      In (s.lists t) j p → In (list_got c s m r t) j p
  fetched_t j p member head h =
      and_from _ _ (le-leb _ _ member)
      (subst (λ b. (s.lists (if b then r else t) j p)
      ≡ true) (sym (lt-leb (apart (servers c) r m) (apart (servers c) j m) head)) h)

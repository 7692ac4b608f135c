-- Where packets were lost, and what the tests of standing and of undone visits say.
use Rattle.std.proofs.Common.{◌≡◌, ◌≢◌, ◌↔◌, ℕ, ◌+◌, ◌<◌, ◌==◌, true, false, List, [], ◌∷◌, ◌++◌, length, refl, sym, ap}
use Rattle.std.proofs.Common.{subst, ◌∙◌, arith, inl, inr, ◌⊎◌, if◌then◌else◌, eqb-true, leb-true}
use Rattle.std.proofs.lemmas.Bool.{true≢false, cases_lt, eqb-false, false_from_ne_true}
use Rattle.ftc_journal.specs.declared.event.Event.{Event}
use Rattle.ftc_journal.specs.declared.event.Event.TheVariants.{Recover}
use Rattle.ftc_journal.specs.declared.event.VisitName.{VisitName}
use Rattle.ftc_serial.specs.Trace.{names}
use Rattle.ftc_ring.specs.Ring.{apart}
use Rattle.ftc_ring.specs.Live.{IsBetween, IsFirstLive}
use Rattle.ftc_protocol.specs.declared.fate.Fate.TheVariants.{Lost}
use Rattle.ftc_protocol.specs.Setting.{Setting, servers, shape, IsSetting}
use Rattle.ftc_protocol.specs.Visits.{In}
use Rattle.ftc_protocol.specs.State.{ChainState, opening}
use Rattle.ftc_protocol.specs.Next.{next}
use Rattle.ftc_protocol.specs.Recovery.{previous_live, following_live}
use Rattle.ftc_protocol.specs.Run.{IsRun, IsRunState, state_after}
use Rattle.ftc_protocol.specs.Trace.{IsBefore}
use Rattle.ftc_protocol.specs.Legal.{MayHappen}
use Rattle.ftc_protocol.specs.Fates.{MayLose}
use Rattle.ftc_protocol.specs.Orderly.{IsLostAt, IsUndone, IsStanding}
use Rattle.ftc_script.specs.declared.line.ScriptLine.TheVariants as line
use Rattle.ftc_protocol.proofs.AcceptedSettings.{is_good, opens_fit}
use Rattle.ftc_protocol.proofs.Induction.{always}
use Rattle.ftc_protocol.proofs.SmallEvents.{fit_next, fit_now}
use Rattle.ftc_protocol.proofs.RingDistances.{IsLastLive, IsNextLive, last_live, next_live, apart_cases}
use Rattle.ftc_protocol.proofs.Premises.{IsGood}
use Rattle.ftc_protocol.proofs.Invariant.{Inv}
use Rattle.ftc_protocol.proofs.StatesOfRuns.{reached_of}
use Rattle.ftc_protocol.proofs.UndoneRemoval.{undone_before}
use Rattle.ftc_protocol.proofs.ListStores.{stands_below}
use Rattle.ftc_protocol.specs.Moment.{Stands, has_fallen}
use Rattle.ftc_protocol.proofs.FirstLive.{IsFirst, first_by}
use Rattle.ftc_protocol.proofs.HavingVisits.{has_stable}
use Rattle.ftc_protocol.proofs.Soundness.{fallen_exact}
use Rattle.ftc_protocol.proofs.LossEvents.{lost_by}
use Rattle.ftc_protocol.proofs.OrderlyStates.{undoes}

record Found (c : Setting) (s : ChainState) (es : List Event) (number : ℕ) : Type 0 where
  before : List Event
  event : Event
  after : List Event
  parts : es ≡ before ++ event ∷ after
  number_is : number ≡ s.events + length before
  may : MayLose c (state_after c s before) event

lost_in : (c : Setting) (es : List Event) (s : ChainState) (p number : ℕ) → (state_after c s es).fate p ≡ Lost number →
    (s.fate p ≡ Lost number) ⊎ Found c s es number
lost_in c [] s p number is = inl is
lost_in c (e ∷ es) s p number is = elim (lost_in c es (next c s e) p number is) [
  | inl now ↦ elim (lost_by c s e p number now) [
    | inl old ↦ inl old
    | inr new ↦ let same : number ≡ s.events =
        new.0 in inr (record { before = []; event = e; after = es; parts = refl; number_is = omega arith; may = new.1 })
  ]
  | inr found ↦
      let at : number ≡ (s.events + 1) + length found.before = found.number_is in
      inr (record {
        before = e ∷ found.before;
        event = found.event;
        after = found.after;
        parts = ap (λ (x : List Event). e ∷ x) found.parts;
        number_is = omega arith;
        may = found.may;
      })
]

pub lost_at : (c : Setting) (journal : List Event) (p number : ℕ) →
    (state_after c (opening c) journal).fate p ≡ Lost number → IsLostAt c journal number
lost_at c journal p number is = elim (lost_in c journal (opening c) p number is) [
  | inl never ↦ absurd (cc)
  | inr found ↦ let at : number ≡ 0 + length found.before = found.number_is in
      record {
        before = found.before;
        event = found.event;
        after = found.after;
        parts = found.parts;
        number_is = omega arith;
        may = found.may;
      }
]

to_between : (n r t i : ℕ) → 0 < apart n r i → ((r ≡ t) ⊎ (apart n r i < apart n r t)) → i < n → r < n →
    IsBetween n r t i
to_between n r t i some far il rl =
    elim (r == t) as (λ b. r == t ≡ b → apart n r i < (if b then n else apart n r t) → IsBetween n r t i) [
      | true ↦ λ e less. record {
        behind = some;
        ahead = subst (λ b. apart n r i < (if b then n else apart n r t)) (sym e) less;
      }
      | false ↦ λ e less. record {
        behind = some;
        ahead = subst (λ b. apart n r i < (if b then n else apart n r t)) (sym e) less;
      }
    ] refl (elim (r == t) as (λ b. r == t ≡ b → apart n r i < (if b then n else apart n r t)) [
      | true ↦ λ e. let d = apart_cases n r i rl il in omega (arith, d)
      | false ↦ λ e. elim far [ inl same ↦ absurd (eqb-false r t e same) | inr less ↦ less ]
    ] refl)

from_between : (n r t i : ℕ) → IsBetween n r t i → (0 < apart n r i) × ((r ≡ t) ⊎ (apart n r i < apart n r t))
from_between n r t i is = (
  is.behind,
  elim (r == t) as (λ b. r == t ≡ b → apart n r i < (if b then n else apart n r t) →
      (r ≡ t) ⊎ (apart n r i < apart n r t)) [
        | true ↦ λ e less. inl (eqb-true r t e)
        | false ↦ λ e less. inr less
      ] refl is.ahead,
)

module _ (c : Setting) (s : ChainState) (run : IsRunState c s) (k : ℕ) (undone : List VisitName)
    (legal : MayHappen c s (Recover k undone)) where
  good : IsGood c
  good = is_good c run.right

  h : Inv c s
  h = let r = reached_of c s run in let live = r.live in live.inv

  fit : (k < servers c) × (false ≡ false → s.up k ≡ false)
  fit = let f = fit_next c s.up s.lines (line.Recover s.entered k) legal.0 h.fit in (f.0, λ e. f.1 refl)

  found : (z : ℕ) × (z < servers c) × (s.up z ≡ true) × (z ≢ k)
  found =
      let z = fit_now c s.up s.lines h.fit k fit.0 in
      (z.0, z.1, z.2, λ e. true≢false (sym z.2 ∙ subst (λ v. s.up v ≡ false) (sym e) (fit.1 refl)))

  before : IsLastLive (servers c) s.up k (previous_live c s k)
  before = last_live (servers c) s.up k fit.0 found.0 found.1 found.2 found.3

  after : IsNextLive (servers c) s.up k (following_live c s k)
  after = next_live (servers c) s.up k fit.0 found.0 found.1 found.2 found.3

  pub undone_means : (j p : ℕ) → In (names undone) j p ↔ IsUndone c s k j p
  undone_means j p =
      let n = servers c in
      let exact = undoes c good s h k undone legal j p in (
        λ is.
            let u = exact.0 is in
            let il : u.0 < n = stands_below c good.some (λ o. Rattle.ftc_protocol.specs.Changes.is_touching o
            ≡ true) s.trace h.world.serial u.0 p u.2.0 in
            record {
              there = u.3;
              earlier = u.0;
              before = u.1;
              touching = u.2.0;
              between = to_between n (previous_live c s k) (following_live c s k) u.0 u.2.1 u.2.2 il before.below;
              lacked = u.2.3;
            },
        λ u.
            let far = from_between n (previous_live c s k) (following_live c s k) u.earlier u.between in
            exact.1 (u.earlier, u.before, (u.touching, far.0, far.1, u.lacked), u.there),
      )

  -- with a visit each is undone that it is before
  pub undone_closed : (j p q : ℕ) → In (names undone) j p → IsBefore c.partitions s.trace j p q → In (names undone) j q
  undone_closed j p q is earlier =
      let w = h.world in
      (undoes c good s h k undone legal j q).1
      (undone_before c s good.some good.sound w.lists w.nest w.serial w.passed w.earlier w.released
      (fit_now c s.up s.lines h.fit) k (previous_live c s k) (following_live c s k)
      fit.0 (fit.1 refl) before after j p q ((undoes c good s h k undone legal j p).0 is) earlier)

first_live_of_first : (c : Setting) (s : ChainState) (j k : ℕ) → IsFirst c s j k → IsFirstLive (shape c) s.up j k
first_live_of_first c s j k is = record {
  within = is.inside;
  member = leb-true _ _ is.member;
  up = is.up;
  nearest = λ other below up. elim (cases_lt (apart (servers c) j other) (apart (servers c) j k)) [
    | inl less ↦ absurd (true≢false (sym up ∙ is.first other below less))
    | inr far ↦ omega arith
  ];
}

pub stands_means : (c : Setting) → IsSetting c → (journal : List Event) → IsRun c journal → (j p : ℕ)
    → Stands c (state_after c (opening c) journal) j p ↔ IsStanding c (state_after c (opening c) journal) j p
stands_means c setting journal run j p =
    let s : ChainState = state_after c (opening c) journal in
    let good = is_good c setting in
    let h = always c good (opens_fit c setting) journal run in
    let exact = fallen_exact c good setting.ring s h in (
      λ is. record {
        there = is.there;
        had = λ i k le touching first. has_stable c.partitions s.trace (s.lists k) i p (λ lacks.
            true≢false (sym ((exact j p is.there).1
            (λ standing. lacks (standing i k le touching (first_by c s i k first)))) ∙ is.standing));
      },
      λ is. record {
        there = is.there;
        standing = false_from_ne_true (has_fallen c s j p)
            (λ fell. (exact j p is.there).0 fell
            (λ i k le touching first. is.had i k le touching (first_live_of_first c s i k first)));
      },
    )

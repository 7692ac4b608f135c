-- In each state of a run a release is due, or there is a first job, or the run is finished. So the finish and the drive
-- of each schedule exist.
use Rattle.std.proofs.Common.{◌≡◌, ℕ, zero, suc, ◌+◌, ◌<◌, ◌≤◌, length, Bool, true, false, List, [], ◌∷◌, ◌++◌, ◌⊎◌}
use Rattle.std.proofs.Common.{inl, inr, refl, sym, ap, subst, ◌∙◌, arith, if◌then◌else◌, Some, None}
use Rattle.std.proofs.lemmas.Bool.{true≢false, cases_eq, ne_eqb}
use Rattle.std.proofs.lemmas.Option.{none-some, same_Some}
use Rattle.ftc_base.specs.declared.limits.TheConstants.{FINISHING_SLOT}
use Rattle.ftc_ring.specs.Ring.{next_of}
use Rattle.ftc_journal.specs.declared.event.Event.{Event}
use Rattle.ftc_journal.specs.declared.event.Event.TheVariants as event
use Rattle.ftc_journal.specs.declared.job.Job.{Job}
use Rattle.ftc_journal.specs.declared.job.Job.TheVariants as job
use Rattle.ftc_journal.specs.Job.{job_of}
use Rattle.ftc_script.specs.declared.line.ScriptLine.TheVariants as line
use Rattle.ftc_serial.specs.Words.{AnyOf, each_below}
use Rattle.ftc_protocol.specs.Setting.{Setting, servers, count, IsSetting}
use Rattle.ftc_protocol.specs.State.{ChainState, Message, Held, Queued, opening}
use Rattle.ftc_protocol.specs.Legal.{IsLegal}
use Rattle.ftc_protocol.specs.Changes.{is_changing}
use Rattle.ftc_protocol.specs.Next.{next}
use Rattle.ftc_protocol.specs.Run.{AreLegal, IsRun, IsFinished, state_after}
use Rattle.ftc_protocol.specs.Measure.{most_messages, work_left}
use Rattle.ftc_protocol.specs.Jobs.{event_of, slot_of, place_of, IsLegalJob, IsEarlier, IsFirstJob, IsWithin}
use Rattle.ftc_protocol.specs.Drive.{IsNoneDue, AreReleases, IsNextEvent, AreFinish, IsFinish, IsPassedOver, IsPlay}
use Rattle.ftc_protocol.specs.Drive.{IsDrive}
use Rattle.ftc_protocol.proofs.JobOrder.{below_both, not_below_itself, ordered}
use Rattle.ftc_protocol.proofs.BoundedSearch.{among, among_each}
use Rattle.ftc_protocol.proofs.DecidedJobs.{numbered, visited_packet, is_legal, release_or_none}
use Rattle.ftc_protocol.proofs.UniqueDrive.{does, any_slot, next_legal}
use Rattle.ftc_protocol.proofs.SmallEvents.{fit_next}
use Rattle.ftc_protocol.proofs.ListStores.{stands_below}
use Rattle.ftc_protocol.proofs.LiveHolders.{IsUp}
use Rattle.ftc_protocol.proofs.FewPropagates.{IsCounted, most, keeps_counts, opens_counted, counted_on}
use Rattle.ftc_protocol.proofs.RunLists.{joined_legal, state_on}
use Rattle.ftc_protocol.proofs.MeasureNumber.{work_falls}

-- ---- all jobs with numbers below a bound

abbrev pub singles : ℕ → List Job
singles b = each_below (λ x. job.Pull x ∷ job.Enter x ∷ job.Carry x ∷ job.Crash x ∷ job.Recover x ∷ job.Propagate x
    ∷ []) b

abbrev pub pairs : ℕ → List Job
pairs b = each_below (λ x. each_below (λ y. job.Take x y ∷ job.Visit x y ∷ job.Pass x y ∷ job.Lose x y ∷ []) b) b

abbrev pub applies : ℕ → List Job
applies b = each_below (λ k. each_below (λ p. each_below (λ j. each_below (λ q. job.Apply k p j q ∷ []) b) b) b) b

abbrev pub jobs_below : ℕ → List Job
jobs_below b = singles b ++ (pairs b ++ applies b)

abbrev pub IsSmall : ℕ → Job → Type 0
IsSmall b (job.Enter p) = p < b
IsSmall b (job.Take l p) = (l < b) × (p < b)
IsSmall b (job.Apply k p j q) = (k < b) × (p < b) × (j < b) × (q < b)
IsSmall b (job.Visit k p) = (k < b) × (p < b)
IsSmall b (job.Pass k p) = (k < b) × (p < b)
IsSmall b (job.Lose k p) = (k < b) × (p < b)
IsSmall b (job.Carry p) = p < b
IsSmall b (job.Crash k) = k < b
IsSmall b (job.Recover k) = k < b
IsSmall b (job.Pull l) = l < b
IsSmall b (job.Propagate p) = p < b

module _ (P : Job → Type 0) (b : ℕ) where
  single : (x : ℕ) → x < b →
      AnyOf P (job.Pull x ∷ job.Enter x ∷ job.Carry x ∷ job.Crash x ∷ job.Recover x ∷ job.Propagate x ∷ []) →
      AnyOf P (jobs_below b)
  single x less there = among Job P (singles b) (pairs b ++ applies b)
      (inl (among_each Job P (λ x. job.Pull x ∷ job.Enter x ∷ job.Carry x ∷ job.Crash x ∷ job.Recover x
      ∷ job.Propagate x ∷ []) b x less there))

  pair : (x y : ℕ) → x < b → y < b → AnyOf P (job.Take x y ∷ job.Visit x y ∷ job.Pass x y ∷ job.Lose x y ∷ []) →
      AnyOf P (jobs_below b)
  pair x y less also there = among Job P (singles b) (pairs b ++ applies b) (inr (among Job P (pairs b) (applies b)
      (inl (among_each Job P (λ x. each_below (λ y. job.Take x y ∷ job.Visit x y ∷ job.Pass x y ∷ job.Lose x y
      ∷ []) b) b x less
      (among_each Job P (λ y. job.Take x y ∷ job.Visit x y ∷ job.Pass x y ∷ job.Lose x y ∷ []) b y also there)))))

  pub small_there : (j : Job) → IsSmall b j → P j → AnyOf P (jobs_below b)
  small_there (job.Pull l) small is = single l small (inl is)
  small_there (job.Enter p) small is = single p small (inr (inl is))
  small_there (job.Carry p) small is = single p small (inr (inr (inl is)))
  small_there (job.Crash k) small is = single k small (inr (inr (inr (inl is))))
  small_there (job.Recover k) small is = single k small (inr (inr (inr (inr (inl is)))))
  small_there (job.Propagate p) small is = single p small (inr (inr (inr (inr (inr (inl is))))))
  small_there (job.Take l p) small is = pair l p small.0 small.1 (inl is)
  small_there (job.Visit k p) small is = pair k p small.0 small.1 (inr (inl is))
  small_there (job.Pass k p) small is = pair k p small.0 small.1 (inr (inr (inl is)))
  small_there (job.Lose k p) small is = pair k p small.0 small.1 (inr (inr (inr (inl is))))
  small_there (job.Apply k p j q) small is =
      among Job P (singles b) (pairs b ++ applies b) (inr (among Job P (pairs b) (applies b)
      (inr (among_each Job P (λ k. each_below
      (λ p. each_below (λ j. each_below (λ q. job.Apply k p j q ∷ []) b) b) b) b k small.0
      (among_each Job P (λ p. each_below (λ j. each_below (λ q. job.Apply k p j q ∷ []) b) b) b p small.1
      (among_each Job P (λ j. each_below (λ q. job.Apply k p j q ∷ []) b) b j small.2
      (among_each Job P (λ q. job.Apply k p j q ∷ []) b q small.3 (inl is))))))))

-- ---- the first of a list

-- the first legal one of these jobs, or none is legal
abbrev IsLeast : Setting → ChainState → List Job → Job → Type 0
IsLeast c s jobs j = IsLegalJob c s j × ((other : Job) → AnyOf (λ x. x ≡ other) jobs → IsLegalJob c s other →
    IsEarlier s other j → ⊥)

abbrev AreIllegal : Setting → ChainState → List Job → Type 0
AreIllegal c s jobs = (other : Job) → AnyOf (λ x. x ≡ other) jobs → IsLegalJob c s other → ⊥

module _ (c : Setting) (is : IsSetting c) (s : ChainState) (n : IsCounted c s) where
  open n use {reached}

  -- the first of these is the first with one more before them, where that isn't earlier
  least_still : (x : Job) (jobs : List Job) (l : (j : Job) × IsLeast c s jobs j) →
      (IsLegalJob c s x → IsEarlier s x l.0 → ⊥) → (j : Job) × IsLeast c s (x ∷ jobs) j
  least_still x jobs l later = (
    l.0,
    (
      l.1.0,
      λ other there legal before. elim there [
        | inl e ↦ later (subst (IsLegalJob c s) (sym e) legal) (subst (λ v. IsEarlier s v l.0) (sym e) before)
        | inr more ↦ l.1.1 other more legal before
      ],
    ),
  )

  least_now : (x : Job) (jobs : List Job) → IsLegalJob c s x →
      ((other : Job) → AnyOf (λ y. y ≡ other) jobs → IsLegalJob c s other → IsEarlier s other x → ⊥) →
      (j : Job) × IsLeast c s (x ∷ jobs) j
  least_now x jobs can later = (
    x,
    (
      can,
      λ other there legal before. elim there [
        | inl e ↦ not_below_itself (place_of s x) (subst (λ v. IsEarlier s v x) (sym e) before)
        | inr more ↦ later other more legal before
      ],
    ),
  )

  least_of : (jobs : List Job) → ((j : Job) × IsLeast c s jobs j) ⊎ AreIllegal c s jobs
  least_of [] = inr (λ other there. absurd there)
  least_of (x ∷ jobs) = elim (is_legal c is s n x) [
    | inr isnt ↦ elim (least_of jobs) [
      | inl l ↦ inl (least_still x jobs l (λ legal before. isnt legal))
      | inr none ↦ inr (λ other there legal. elim there [
        | inl e ↦ isnt (subst (IsLegalJob c s) (sym e) legal)
        | inr more ↦ none other more legal
      ])
    ]
    | inl can ↦ elim (least_of jobs) [
      | inr none ↦ inl (least_now x jobs can (λ other more legal before. none other more legal))
      | inl l ↦ elim (ordered s x l.0) [
        | inl first ↦ inl (least_now x jobs can (λ other more legal before.
            l.1.1 other more legal (below_both (place_of s other) (place_of s x) (place_of s l.0) before first)))
        | inr rest ↦ inl (least_still x jobs l (λ legal before. elim rest [
          | inl same ↦ not_below_itself (place_of s l.0) (subst (λ v. IsEarlier s v l.0) same before)
          | inr later ↦ not_below_itself (place_of s l.0)
              (below_both (place_of s l.0) (place_of s x) (place_of s l.0) later before)
        ]))
      ]
    ]
  ]

  -- ---- legal jobs have small numbers

  held_below : (p k : ℕ) (m : Message) (v r : Bool) → s.message p ≡ Some m → m.place ≡ Held k v r → k < servers c
  held_below p k m v r there at =
      reached.live.inv.world.inside k (subst (IsUp (servers c) s.up) at (reached.live.inv.awake p m there))

  queued_below : (p l : ℕ) (m : Message) → s.message p ≡ Some m → m.place ≡ Queued l → l < servers c
  queued_below p l m there at =
      let low : next_of (servers c) l < servers c =
      reached.live.inv.world.inside (next_of (servers c) l)
      (subst (IsUp (servers c) s.up) at (reached.live.inv.awake p m there)) in
      elim (cases_eq (l + 1) (servers c)) [
        | inl last ↦ omega arith
        | inr more ↦ let e : next_of (servers c) l ≡ l + 1 =
            ap (λ v. if v then 0 else l + 1) (ne_eqb (l + 1) (servers c) more) in omega arith
      ]

  pub within : (j : Job) → IsLegalJob c s j → IsWithin c j
  within (job.Enter p) legal = legal.0.1
  within (job.Take l p) legal =
      (queued_below p l legal.0.0 legal.0.1 legal.0.2, numbered c is s n p legal.0.0 legal.0.1)
  within (job.Apply k p j q) legal = (
    held_below p k legal.0.0 legal.0.1.1 legal.0.1.2 legal.0.1.0 legal.0.1.3,
    numbered c is s n p legal.0.0 legal.0.1.0,
    stands_below c is.ring.some (λ o. is_changing c.partitions o
        ≡ true) s.trace reached.live.inv.world.serial j q legal.0.3,
    visited_packet c is s n (λ o. is_changing c.partitions o ≡ true) j q legal.0.3,
  )
  within (job.Visit k p) legal =
      (held_below p k legal.0.0 false legal.0.2 legal.0.3 legal.0.4, numbered c is s n p legal.0.0 legal.0.3)
  within (job.Pass k p) legal = (
    held_below p k legal.0.0 legal.0.1.visited false legal.0.1.there legal.0.1.held,
    numbered c is s n p legal.0.0 legal.0.1.there,
  )
  within (job.Lose k p) legal = (
    held_below p k legal.0.0 legal.0.1.visited false legal.0.1.there legal.0.1.held,
    numbered c is s n p legal.0.0 legal.0.1.there,
  )
  within (job.Carry p) legal = numbered c is s n p legal.0.0 legal.0.1
  within (job.Crash k) legal = let fit =
      fit_next c s.up s.lines (line.Crash s.entered k) legal.0 reached.live.inv.fit in fit.0
  within (job.Recover k) legal = let fit =
      fit_next c s.up s.lines (line.Recover s.entered k) legal.0.0 reached.live.inv.fit in fit.0
  within (job.Pull l) legal = reached.live.inv.world.inside l legal.0.0
  within (job.Propagate p) legal = let same : p ≡ count c + s.propagates = legal.0.4 in
      let bound : s.propagates + 1 ≤ count c + length c.lines + 1 =
      most c is (next c s (event.Propagate p)) (keeps_counts c is s n (event.Propagate p) legal) in omega arith

  small_within : (j : Job) → IsWithin c j → IsSmall (servers c + most_messages c + 1) j
  small_within (job.Enter p) w = omega arith
  small_within (job.Take l p) w = let a = w.0 in let b = w.1 in (omega arith, omega arith)
  small_within (job.Apply k p j q) w = let a = w.0 in let b = w.1 in let d = w.2 in let e =
      w.3 in (omega arith, omega arith, omega arith, omega arith)
  small_within (job.Visit k p) w = let a = w.0 in let b = w.1 in (omega arith, omega arith)
  small_within (job.Pass k p) w = let a = w.0 in let b = w.1 in (omega arith, omega arith)
  small_within (job.Lose k p) w = let a = w.0 in let b = w.1 in (omega arith, omega arith)
  small_within (job.Carry p) w = omega arith
  small_within (job.Crash k) w = omega arith
  small_within (job.Recover k) w = omega arith
  small_within (job.Pull l) w = omega arith
  small_within (job.Propagate p) w = omega arith

  pub small_legal : (j : Job) → IsLegalJob c s j → IsSmall (servers c + most_messages c + 1) j
  small_legal j legal = small_within j (within j legal)

  listed : (j : Job) → IsLegalJob c s j → AnyOf (λ x. x ≡ j) (jobs_below (servers c + most_messages c + 1))
  listed j legal = small_there (λ x. x ≡ j) (servers c + most_messages c + 1) j (small_legal j legal) refl

  -- there is a first job, or no job is legal
  pub first_or_none : ((j : Job) × IsFirstJob c s j) ⊎ ((j : Job) → IsLegalJob c s j → ⊥)
  first_or_none = elim (least_of (jobs_below (servers c + most_messages c + 1))) [
    | inl l ↦ inl (
      l.0,
      record {
        legal = l.1.0;
        least = λ other legal before. l.1.1 other (listed other legal) legal before;
      },
    )
    | inr none ↦ inr (λ j legal. none j (listed j legal) legal)
  ]

  -- where no release is due and no job is legal, the run is finished
  pub none_finished : IsNoneDue c s → ((j : Job) → IsLegalJob c s j → ⊥) → IsFinished c s
  none_finished no_due none e legal = elim (does c s e legal) [
    | inl release ↦ Rattle.ftc_protocol.proofs.UniqueDrive.one_due c s e release legal no_due
    | inr d ↦ none d.job d.legal
  ]

  pub first_or_finished : IsNoneDue c s → ((j : Job) × IsFirstJob c s j) ⊎ IsFinished c s
  first_or_finished no_due = elim first_or_none [ inl first ↦ inl first | inr none ↦ inr (none_finished no_due none) ]

  pub next_or_finished : ((e : Event) × IsNextEvent c s e) ⊎ IsFinished c s
  next_or_finished = elim (release_or_none c is s n) [
    | inl r ↦ inl (event.Release r.0, inl (refl, (r.1, λ not_release. absurd (true≢false not_release))))
    | inr no_due ↦ elim (first_or_finished no_due) [
      | inl f ↦ inl (event_of c s FINISHING_SLOT f.0, inr (f.0, f.1, refl))
      | inr finished ↦ inr finished
    ]
  ]

-- ---- all of it ends

pub releases_legal : (c : Setting) (es : List Event) (s : ChainState) → AreReleases c s es → AreLegal c s es
releases_legal c [] s a = tt
releases_legal c (e ∷ es) s a = (a.1, releases_legal c es (next c s e) a.2)

pub releases_end : (c : Setting) (es : List Event) (s : ChainState) → AreReleases c s es →
    IsNoneDue c (state_after c s es)
releases_end c [] s a = a
releases_end c (e ∷ es) s a = releases_end c es (next c s e) a.2

-- what is played is legal
pub played_legal : (c : Setting) (schedule : List Event) (s : ChainState) (es : List Event) → IsPlay c s schedule es →
    AreLegal c s es
played_legal c [] s es a = subst (AreLegal c s) (sym a) tt
played_legal c (e ∷ schedule) s es a = elim a [
  | inr over ↦ played_legal c schedule s es over.1
  | inl x ↦
      let made : Event = event_of c s (slot_of e) x.0 in
      let rest = played_legal c schedule (state_after c (next c s made) x.1) x.2 x.7 in
      let legal : AreLegal c s (made ∷ (x.1 ++ x.2)) = (
        any_slot c s FINISHING_SLOT (slot_of e) x.0 x.4,
        joined_legal c x.1 x.2 (next c s made) (releases_legal c x.1 (next c s made) x.5) rest,
      ) in
      subst (AreLegal c s) (sym x.6) legal
]

module _ (c : Setting) (is : IsSetting c) where
  pub counted_at : (journal : List Event) → IsRun c journal → IsCounted c (state_after c (opening c) journal)
  counted_at journal run = counted_on c is journal (opening c) (opens_counted c is) run

  run_on : (journal : List Event) (e : Event) → IsRun c journal → IsLegal c (state_after c (opening c) journal) e →
      IsRun c (journal ++ e ∷ [])
  run_on journal e run legal = joined_legal c journal (e ∷ []) (opening c) run (legal, tt)

  after_on : (journal : List Event) (e : Event) →
      state_after c (opening c) (journal ++ e ∷ []) ≡ next c (state_after c (opening c) journal) e
  after_on journal e = state_on c journal (e ∷ []) (opening c)

  pub releases_exist : (fuel : ℕ) (journal : List Event) → IsRun c journal →
      work_left c (state_after c (opening c) journal) < fuel →
      (es : List Event) × AreReleases c (state_after c (opening c) journal) es
  releases_exist zero journal run less = absurd (omega arith)
  releases_exist (suc fuel) journal run less =
      elim (release_or_none c is (state_after c (opening c) journal) (counted_at journal run)) [
        | inr none ↦ ([], none)
        | inl r ↦
            let e : Event = event.Release r.0 in
            let legal : IsLegal c (state_after c (opening c) journal) e =
            (r.1, λ not_release. absurd (true≢false not_release)) in
            let run' = run_on journal e run legal in
            let falls = work_falls c is journal e run' in
            let rest = releases_exist fuel (journal ++ e ∷ []) run' (omega arith) in
            (e ∷ rest.0, (refl, legal, subst (λ t. AreReleases c t rest.0) (after_on journal e) rest.1))
      ]

  pub finish_exists : (fuel : ℕ) (journal : List Event) → IsRun c journal →
      work_left c (state_after c (opening c) journal) < fuel →
      (es : List Event) × AreFinish c (state_after c (opening c) journal) es
  finish_exists zero journal run less = absurd (omega arith)
  finish_exists (suc fuel) journal run less =
      elim (next_or_finished c is (state_after c (opening c) journal) (counted_at journal run)) [
        | inr finished ↦ ([], finished)
        | inl x ↦
            let e = x.0 in
            let legal = next_legal c (state_after c (opening c) journal) e x.1 in
            let run' = run_on journal e run legal in
            let falls = work_falls c is journal e run' in
            let rest = finish_exists fuel (journal ++ e ∷ []) run' (omega arith) in
            (e ∷ rest.0, (x.1, subst (λ t. AreFinish c t rest.0) (after_on journal e) rest.1))
      ]

  pub releases_of : (journal : List Event) → IsRun c journal →
      (es : List Event) × AreReleases c (state_after c (opening c) journal) es
  releases_of journal run = releases_exist (suc (work_left c (state_after c (opening c) journal))) journal run
      (omega arith)

  pub finish_of : (journal : List Event) → IsRun c journal → (whole : List Event) × IsFinish c journal whole
  finish_of journal run = let f =
      finish_exists (suc (work_left c (state_after c (opening c) journal))) journal run (omega arith) in
      (journal ++ f.0, record { rest = f.0; parts = refl; finish = f.1 })

  -- whether an event's job is legal
  job_legal : (journal : List Event) → IsRun c journal → (e : Event) →
      ((j : Job) × (job_of e ≡ Some j) × IsLegalJob c (state_after c (opening c) journal) j)
      ⊎ IsPassedOver c (state_after c (opening c) journal) e
  job_legal journal run e = elim (job_of e) as (λ o. job_of e ≡ o →
      ((j : Job) × (job_of e ≡ Some j) × IsLegalJob c (state_after c (opening c) journal) j)
      ⊎ IsPassedOver c (state_after c (opening c) journal) e) [
        | None ↦ λ of. inr (λ j other legal. none-some j (sym of ∙ other))
        | Some j ↦ λ of. elim (is_legal c is (state_after c (opening c) journal) (counted_at journal run) j) [
          | inl legal ↦ inl (j, of, legal)
          | inr isnt ↦ inr (λ i other legal. isnt
              (subst (IsLegalJob c (state_after c (opening c) journal)) (sym (same_Some j i (sym of ∙ other))) legal))
        ]
      ] refl

  pub play_of : (schedule journal : List Event) → IsRun c journal →
      (es : List Event) × IsPlay c (state_after c (opening c) journal) schedule es
  play_of [] journal run = ([], refl)
  play_of (e ∷ schedule) journal run = elim (job_legal journal run e) [
    | inr over ↦ let rest = play_of schedule journal run in (rest.0, inr (over, rest.1))
    | inl x ↦
        let s : ChainState = state_after c (opening c) journal in
        let made : Event = event_of c s (slot_of e) x.0 in
        let legal : IsLegal c s made = any_slot c s FINISHING_SLOT (slot_of e) x.0 x.2 in
        let run' = run_on journal made run legal in
        let rs = releases_of (journal ++ made ∷ []) run' in
        let at : state_after c (opening c) (journal ++ made ∷ []) ≡ next c s made = after_on journal made in
        let released : AreReleases c (next c s made) rs.0 = subst (λ t. AreReleases c t rs.0) at rs.1 in
        let run'' = joined_legal c (journal
        ++ made ∷ []) rs.0 (opening c) run'
        (releases_legal c rs.0 (state_after c (opening c) (journal ++ made ∷ [])) rs.1) in
        let rest = play_of schedule ((journal ++ made ∷ []) ++ rs.0) run'' in
        let end : state_after c (opening c) ((journal ++ made ∷ []) ++ rs.0) ≡ state_after c (next c s made) rs.0 =
        state_on c (journal ++ made ∷ []) rs.0 (opening c) ∙ ap (λ t. state_after c t rs.0) at in (
          made ∷ (rs.0 ++ rest.0),
          inl (x.0, rs.0, rest.0, x.1, x.2, released, refl, subst (λ t. IsPlay c t schedule rest.0) end rest.1),
        )
  ]

  pub drive_of : (schedule : List Event) → (whole : List Event) × IsDrive c schedule whole
  drive_of schedule =
      let play = play_of schedule [] tt in
      let run = played_legal c schedule (opening c) play.0 play.1 in
      let finish = finish_of play.0 run in
      (finish.0, record { played = play.0; play = play.1; finish = finish.1 })

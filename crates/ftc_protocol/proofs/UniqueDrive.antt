-- What is done where nobody chooses is one: releases, the finish, and the drive of a schedule.
use Rattle.std.proofs.Common.{◌≡◌, ℕ, ◌≤◌, true, false, List, [], ◌∷◌, ◌++◌, ◌⊎◌, inl, inr, refl, sym, ap, subst, ◌∙◌}
use Rattle.std.proofs.Common.{arith, append_assoc, append-nil, Some}
use Rattle.std.proofs.lemmas.Bool.{true≢false}
use Rattle.std.proofs.lemmas.Option.{same_Some}
use Rattle.ftc_base.specs.declared.limits.TheConstants.{FINISHING_SLOT}
use Rattle.ftc_journal.specs.declared.event.Event.{Event}
use Rattle.ftc_journal.specs.declared.event.Event.TheVariants as event
use Rattle.ftc_journal.specs.declared.job.Job.{Job}
use Rattle.ftc_journal.specs.declared.job.Job.TheVariants as job
use Rattle.ftc_journal.specs.Job.{job_of}
use Rattle.ftc_protocol.specs.Setting.{Setting}
use Rattle.ftc_protocol.specs.State.{ChainState, opening}
use Rattle.ftc_protocol.specs.Legal.{IsLegal, is_release}
use Rattle.ftc_protocol.specs.Next.{next}
use Rattle.ftc_protocol.specs.Run.{AreLegal, IsFinished, state_after}
use Rattle.ftc_protocol.specs.Jobs.{event_of, slot_of, IsLegalJob, IsFirstJob}
use Rattle.ftc_protocol.specs.Drive.{IsNoneDue, AreReleases, IsNextEvent, AreFinish, IsFinish, IsPassedOver, IsPlay}
use Rattle.ftc_protocol.specs.Drive.{IsDrive}
use Rattle.ftc_protocol.proofs.JobOrder.{one_first}
use Rattle.ftc_protocol.proofs.ArrivalTimes.{IsDated, keeps_dated, opens_dated, dated_on_all}
use Rattle.ftc_protocol.proofs.RunLists.{state_on}

-- ---- events and jobs

-- a job is no release
pub no_release : (c : Setting) (s : ChainState) (slot : ℕ) (j : Job) → is_release (event_of c s slot j) ≡ false
no_release c s slot (job.Enter p) = refl
no_release c s slot (job.Take l p) = refl
no_release c s slot (job.Apply k p i q) = refl
no_release c s slot (job.Visit k p) = refl
no_release c s slot (job.Pass k p) = refl
no_release c s slot (job.Lose k p) = refl
no_release c s slot (job.Carry p) = refl
no_release c s slot (job.Crash k) = refl
no_release c s slot (job.Recover k) = refl
no_release c s slot (job.Pull l) = refl
no_release c s slot (job.Propagate p) = refl

-- a job may be done in whatever slot
pub any_slot : (c : Setting) (s : ChainState) (one other : ℕ) (j : Job) → IsLegal c s (event_of c s one j) →
    IsLegal c s (event_of c s other j)
any_slot c s one other (job.Enter p) legal = legal
any_slot c s one other (job.Take l p) legal = legal
any_slot c s one other (job.Apply k p i q) legal = legal
any_slot c s one other (job.Visit k p) legal = legal
any_slot c s one other (job.Pass k p) legal = legal
any_slot c s one other (job.Lose k p) legal = legal
any_slot c s one other (job.Carry p) legal = legal
any_slot c s one other (job.Crash k) legal = legal
any_slot c s one other (job.Recover k) legal = legal
any_slot c s one other (job.Pull l) legal = legal
any_slot c s one other (job.Propagate p) legal = legal

-- what a legal event does: a release, or its job in its slot
pub record IsDoing (c : Setting) (s : ChainState) (e : Event) : Type 0 where
  pub job : Job
  pub of : job_of e ≡ Some job
  pub same : e ≡ event_of c s (slot_of e) job
  pub legal : IsLegalJob c s job

pub does : (c : Setting) (s : ChainState) (e : Event) → IsLegal c s e → (is_release e ≡ true) ⊎ IsDoing c s e
does c s (event.Enter p) legal = inr (record { job = job.Enter p; of = refl; same = refl; legal = legal })
does c s (event.Take l p) legal = inr (record { job = job.Take l p; of = refl; same = refl; legal = legal })
does c s (event.Apply k p j q) legal = inr (record { job = job.Apply k p j q; of = refl; same = refl; legal = legal })
does c s (event.Visit k p w) legal = inr (record { job = job.Visit k p; of = refl; same = refl; legal = legal })
does c s (event.Pass k p) legal = inr (record { job = job.Pass k p; of = refl; same = refl; legal = legal })
does c s (event.Lose k p) legal = inr (record { job = job.Lose k p; of = refl; same = refl; legal = legal })
does c s (event.Carry p) legal = inr (record { job = job.Carry p; of = refl; same = refl; legal = legal })
does c s (event.Crash k) legal = inr (record { job = job.Crash k; of = refl; same = refl; legal = legal })
does c s (event.Recover k undone) legal = inr (record {
  job = job.Recover k;
  of = refl;
  same = ap (event.Recover k) legal.0.1;
  legal = ((legal.0.0, refl), legal.1);
})
does c s (event.Pull l) legal = inr (record { job = job.Pull l; of = refl; same = refl; legal = legal })
does c s (event.Propagate p) legal = inr (record { job = job.Propagate p; of = refl; same = refl; legal = legal })
does c s (event.Release p) legal = inl refl

-- ---- releases

released_packet : (e : Event) → is_release e ≡ true → (p : ℕ) × (e ≡ event.Release p)
released_packet (event.Enter p) is = absurd (true≢false (sym is))
released_packet (event.Take l p) is = absurd (true≢false (sym is))
released_packet (event.Apply k p j q) is = absurd (true≢false (sym is))
released_packet (event.Visit k p w) is = absurd (true≢false (sym is))
released_packet (event.Pass k p) is = absurd (true≢false (sym is))
released_packet (event.Lose k p) is = absurd (true≢false (sym is))
released_packet (event.Carry p) is = absurd (true≢false (sym is))
released_packet (event.Crash k) is = absurd (true≢false (sym is))
released_packet (event.Recover k undone) is = absurd (true≢false (sym is))
released_packet (event.Pull l) is = absurd (true≢false (sym is))
released_packet (event.Propagate p) is = absurd (true≢false (sym is))
released_packet (event.Release p) is = (p, refl)

module _ (c : Setting) where
  two_releases : (s : ChainState) → IsDated s → (p q : ℕ) → IsLegal c s (event.Release p) →
      IsLegal c s (event.Release q) → p ≡ q
  two_releases s d p q a b =
      let v = a.0.0 in let w = b.0.0 in
      let one : v.since ≤ w.since = a.0.2 q w b.0.1 in
      let other : w.since ≤ v.since = b.0.2 p v a.0.1 in
      d.withheld.apart p q v w a.0.1.0 b.0.1.0 (omega arith)

  pub one_release : (s : ChainState) → IsDated s → (e f : Event) → is_release e ≡ true → is_release f ≡ true →
      IsLegal c s e → IsLegal c s f → e ≡ f
  one_release s d e f is_e is_f a b =
      let x = released_packet e is_e in let y = released_packet f is_f in
      x.1 ∙ (ap event.Release (two_releases s d x.0 y.0 (subst (IsLegal c s) x.1 a)
      (subst (IsLegal c s) y.1 b)) ∙ sym y.1)

  -- a legal release is due
  pub one_due : (s : ChainState) (e : Event) → is_release e ≡ true → IsLegal c s e → IsNoneDue c s → ⊥
  one_due s e is legal none_due =
      let x = released_packet e is in
      let at = subst (IsLegal c s) x.1 legal in
      none_due x.0 at.0.0 at.0.1

  pub one_releases : (s : ChainState) → IsDated s → (es fs : List Event) → AreReleases c s es → AreReleases c s fs →
      es ≡ fs
  one_releases s d [] [] a b = refl
  one_releases s d [] (f ∷ fs) a b = absurd (one_due s f b.0 b.1 a)
  one_releases s d (e ∷ es) [] a b = absurd (one_due s e a.0 a.1 b)
  one_releases s d (e ∷ es) (f ∷ fs) a b =
      let same : e ≡ f = one_release s d e f a.0 b.0 a.1 b.1 in
      let rest : es ≡ fs = one_releases (next c s e) (keeps_dated c s d e) es fs a.2
      (subst (λ x. AreReleases c (next c s x) fs) (sym same) b.2) in
      cc

  -- ---- the finish

  pub job_none_due : (s : ChainState) (slot : ℕ) (j : Job) → IsLegal c s (event_of c s slot j) → IsNoneDue c s
  job_none_due s slot j legal = legal.1 (no_release c s slot j)

  pub one_next : (s : ChainState) → IsDated s → (e f : Event) → IsNextEvent c s e → IsNextEvent c s f → e ≡ f
  one_next s d e f a b = elim a [
    | inl r ↦ elim b [
      | inl q ↦ one_release s d e f r.0 q.0 r.1 q.1
      | inr j ↦ absurd (one_due s e r.0 r.1 (job_none_due s FINISHING_SLOT j.0 j.1.legal))
    ]
    | inr i ↦ elim b [
      | inl q ↦ absurd (one_due s f q.0 q.1 (job_none_due s FINISHING_SLOT i.0 i.1.legal))
      | inr j ↦ i.2 ∙ (ap (event_of c s FINISHING_SLOT) (one_first c s i.0 j.0 i.1 j.1) ∙ sym j.2)
    ]
  ]

  pub next_legal : (s : ChainState) (e : Event) → IsNextEvent c s e → IsLegal c s e
  next_legal s e a = elim a [ inl r ↦ r.1 | inr j ↦ subst (IsLegal c s) (sym j.2) j.1.legal ]

  pub one_finish : (s : ChainState) → IsDated s → (es fs : List Event) → AreFinish c s es → AreFinish c s fs → es ≡ fs
  one_finish s d [] [] a b = refl
  one_finish s d [] (f ∷ fs) a b = absurd (a f (next_legal s f b.0))
  one_finish s d (e ∷ es) [] a b = absurd (b e (next_legal s e a.0))
  one_finish s d (e ∷ es) (f ∷ fs) a b =
      let same : e ≡ f = one_next s d e f a.0 b.0 in
      let rest : es ≡ fs = one_finish (next c s e) (keeps_dated c s d e) es fs a.1
      (subst (λ x. AreFinish c (next c s x) fs) (sym same) b.1) in
      cc

  pub finish_legal : (s : ChainState) (es : List Event) → AreFinish c s es → AreLegal c s es
  finish_legal s [] a = tt
  finish_legal s (e ∷ es) a = (next_legal s e a.0, finish_legal (next c s e) es a.1)

  pub finish_ends : (s : ChainState) (es : List Event) → AreFinish c s es → IsFinished c (state_after c s es)
  finish_ends s [] a = a
  finish_ends s (e ∷ es) a = finish_ends (next c s e) es a.1

  -- the releases that are due, and then a finish
  pub finish_after : (s : ChainState) (rs es : List Event) → AreReleases c s rs → AreFinish c (state_after c s rs) es →
      AreFinish c s (rs ++ es)
  finish_after s [] es a f = f
  finish_after s (r ∷ rs) es a f = (inl (a.0, a.1), finish_after (next c s r) rs es a.2 f)

  -- a turn: the first job, the releases that are due after it, and then a finish
  pub turn : (s : ChainState) (j : Job) (rs es : List Event) → IsFirstJob c s j →
      AreReleases c (next c s (event_of c s FINISHING_SLOT j)) rs
      → AreFinish c (state_after c (next c s (event_of c s FINISHING_SLOT j)) rs) es →
      AreFinish c s (event_of c s FINISHING_SLOT j ∷ (rs ++ es))
  turn s j rs es first a f = (inr (j, first, refl), finish_after (next c s (event_of c s FINISHING_SLOT j)) rs es a f)

  -- ---- the drive

  -- a turn of a schedule, where the rest of the schedule has one drive
  same_turn : (schedule : List Event) (s : ChainState) → IsDated s → (slot : ℕ)
      → ((t : ChainState) → IsDated t → (xs ys : List Event) → IsPlay c t schedule xs → IsPlay c t schedule ys →
      xs ≡ ys)
      → (i j : Job) → i ≡ j → (rs qs xs ys es fs : List Event)
      → AreReleases c (next c s (event_of c s slot i)) rs → AreReleases c (next c s (event_of c s slot j)) qs
      → es ≡ event_of c s slot i ∷ (rs ++ xs) → fs ≡ event_of c s slot j ∷ (qs ++ ys)
      → IsPlay c (state_after c (next c s (event_of c s slot i)) rs) schedule xs
      → IsPlay c (state_after c (next c s (event_of c s slot j)) qs) schedule ys → es ≡ fs
  same_turn schedule s d slot again i j same rs qs xs ys es fs ra rb is_e is_f pa pb =
      let f : Event = event_of c s slot j in
      let d' = keeps_dated c s d f in
      let ra' : AreReleases c (next c s f) rs =
      subst (λ v. AreReleases c (next c s (event_of c s slot v)) rs) same ra in
      let pa' : IsPlay c (state_after c (next c s f) rs) schedule xs =
      subst (λ v. IsPlay c (state_after c (next c s (event_of c s slot v)) rs) schedule xs) same pa in
      let same_rs : rs ≡ qs = one_releases (next c s f) d' rs qs ra' rb in
      let pa'' : IsPlay c (state_after c (next c s f) qs) schedule xs =
      subst (λ v. IsPlay c (state_after c (next c s f) v) schedule xs) same_rs pa' in
      let same_xs : xs ≡ ys = again (state_after c (next c s f) qs) (dated_on_all c qs (next c s f) d') xs ys pa'' pb in
      let same_e : event_of c s slot i ≡ f = ap (event_of c s slot) same in
      let whole : (event_of c s slot i ∷ (rs ++ xs)) ≡ (f ∷ (qs ++ ys)) = cc in
      is_e ∙ (whole ∙ sym is_f)

  pub one_played : (schedule : List Event) (s : ChainState) → IsDated s → (es fs : List Event) →
      IsPlay c s schedule es → IsPlay c s schedule fs → es ≡ fs
  one_played [] s d es fs a b = a ∙ sym b
  one_played (e ∷ schedule) s d es fs a b = elim a [
    | inl x ↦ elim b [
      | inl y ↦ same_turn schedule s d (slot_of e) (one_played schedule) x.0 y.0
          (same_Some x.0 y.0 (sym x.3 ∙ y.3)) x.1 y.1 x.2 y.2 es fs x.5 y.5 x.6 y.6 x.7 y.7
      | inr y ↦ absurd (y.0 x.0 x.3 x.4)
    ]
    | inr x ↦ elim b [
      | inl y ↦ absurd (x.0 y.0 y.3 y.4)
      | inr y ↦ one_played schedule s d es fs x.1 y.1
    ]
  ]

pub finish_is_one : (c : Setting) (journal whole other : List Event) → IsFinish c journal whole →
    IsFinish c journal other → whole ≡ other
finish_is_one c journal whole other a b =
    let same : a.rest ≡ b.rest =
    one_finish c (state_after c (opening c) journal)
    (dated_on_all c journal (opening c) (opens_dated c)) a.rest b.rest a.finish b.finish in
    a.parts ∙ (ap (λ (x : List Event). journal ++ x) same ∙ sym b.parts)

pub play_is_one : (c : Setting) (schedule one other : List Event) → IsPlay c (opening c) schedule one →
    IsPlay c (opening c) schedule other → one ≡ other
play_is_one c schedule one other a b = one_played c schedule (opening c) (opens_dated c) one other a b

pub drive_is_one : (c : Setting) (schedule whole other : List Event) → IsDrive c schedule whole →
    IsDrive c schedule other → whole ≡ other
drive_is_one c schedule whole other a b =
    let same : a.played ≡ b.played = play_is_one c schedule a.played b.played a.play b.play in
    finish_is_one c b.played whole other (subst (λ x. IsFinish c x whole) same a.finish) b.finish

-- a schedule in two parts
pub play_on : (c : Setting) (schedule more : List Event) (s : ChainState) (played then_played : List Event) →
    IsPlay c s schedule played → IsPlay c (state_after c s played) more then_played
    → IsPlay c s (schedule ++ more) (played ++ then_played)
play_on c [] more s played then_played none play =
    subst (λ (x : List Event). IsPlay c s more (x ++ then_played)) (sym none)
    (subst (λ (x : List Event). IsPlay c (state_after c s x) more then_played) none play)
play_on c (f ∷ schedule) more s played then_played before play = elim before [
  | inr passed ↦ inr (passed.0, play_on c schedule more s played then_played passed.1 play)
  | inl x ↦
      let made : Event = event_of c s (slot_of f) x.0 in
      let t : ChainState = state_after c (next c s made) x.1 in
      let at : state_after c s played ≡ state_after c t x.2 =
      ap (state_after c s) x.6 ∙ state_on c x.1 x.2 (next c s made) in
      let rest = play_on c schedule more t x.2 then_played x.7 (subst (λ v. IsPlay c v more then_played) at play) in
      let whole : (played ++ then_played) ≡ (made ∷ (x.1 ++ (x.2 ++ then_played))) =
      ap (λ (v : List Event). v ++ then_played) x.6 ∙ ap (λ (v : List Event). made
      ∷ v) (append_assoc x.1 x.2 then_played) in
      inl (x.0, x.1, x.2 ++ then_played, x.3, x.4, x.5, whole, rest)
]

-- a schedule with one event more
pub play_more : (c : Setting) (schedule : List Event) (s : ChainState) (played : List Event) (e : Event) (j : Job)
    (rs : List Event) → IsPlay c s schedule played
    → job_of e ≡ Some j → IsLegalJob c (state_after c s played) j
    → AreReleases c (next c (state_after c s played) (event_of c (state_after c s played) (slot_of e) j)) rs
    → IsPlay c s (schedule ++ e ∷ []) (played ++ event_of c (state_after c s played) (slot_of e) j ∷ rs)
play_more c schedule s played e j rs play of legal released =
    let made : Event = event_of c (state_after c s played) (slot_of e) j in
    play_on c schedule (e ∷ []) s played (made ∷ rs) play
    (inl (j, rs, [], of, legal, released, ap (λ (x : List Event). made ∷ x) (sym (append-nil rs)), refl))

pub play_over : (c : Setting) (schedule : List Event) (s : ChainState) (played : List Event) (e : Event) →
    IsPlay c s schedule played → IsPassedOver c (state_after c s played) e → IsPlay c s (schedule ++ e ∷ []) played
play_over c schedule s played e play over =
    subst (IsPlay c s (schedule ++ e ∷ [])) (append-nil played)
    (play_on c schedule (e ∷ []) s played [] play (inr (over, refl)))

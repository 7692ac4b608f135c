-- The steps of a finish: what a made job is in any slot, that it leads nearer to the end, and that the finish of the
-- run after a first job is that of the run before it.
use Rattle.std.proofs.Common.{◌≡◌, ◌<◌, ◌++◌, ℕ, false, List, [], ◌∷◌, refl, sym, ap, subst, ◌∙◌, arith}
use Rattle.std.proofs.lemmas.List.{append_assoc}
use Rattle.ftc_base.specs.declared.limits.TheConstants.{FINISHING_SLOT}
use Rattle.ftc_journal.specs.declared.event.Event.{Event}
use Rattle.ftc_journal.specs.declared.job.Job.{Job}
use Rattle.ftc_journal.specs.declared.job.Job.TheVariants as job
use Rattle.ftc_chain.specs.ChainRun.{ChainRun, setting_in, chain_state}
use Rattle.ftc_protocol.proofs.RunLists.{state_on}
use Rattle.ftc_protocol.specs.Drive.{event_after, AreReleases, IsFinish}
use Rattle.ftc_protocol.specs.Jobs.{event_of, IsFirstJob}
use Rattle.ftc_protocol.specs.Measure.{work_left}
use Rattle.ftc_protocol.specs.Next.{next}
use Rattle.ftc_protocol.specs.Run.{IsRun, IsFinished, state_after}
use Rattle.ftc_protocol.specs.Setting.{Setting, IsSetting}
use Rattle.ftc_protocol.specs.State.{ChainState, opening}
use Rattle.ftc_chain.specs.Course.{state_by, HasMade}
use Rattle.ftc_chain.specs.Doing.{is_visit}
use Rattle.ftc_chain.specs.Slots.{IsButHeads}
use Rattle.ftc_alone.specs.Alone.{IsSameGiven, IsInFinish}

-- ---- slots

-- only a visit has a slot
any_slot : (c : Setting) (s : ChainState) (slot other : ℕ) (job : Job) → is_visit job ≡ false →
    event_of c s slot job ≡ event_of c s other job
any_slot c s slot other (job.Visit server packet) not = absurd (cc)
any_slot c s slot other (job.Enter packet) not = refl
any_slot c s slot other (job.Take link origin) not = refl
any_slot c s slot other (job.Apply server origin group packet) not = refl
any_slot c s slot other (job.Pass server origin) not = refl
any_slot c s slot other (job.Lose server origin) not = refl
any_slot c s slot other (job.Carry origin) not = refl
any_slot c s slot other (job.Crash server) not = refl
any_slot c s slot other (job.Recover server) not = refl
any_slot c s slot other (job.Pull link) not = refl
any_slot c s slot other (job.Propagate origin) not = refl

pub isnt_visit : (done : Job) → ((server packet : ℕ) → done ≡ job.Visit server packet → ⊥) → is_visit done ≡ false
isnt_visit (job.Visit server packet) not = absurd (not server packet refl)
isnt_visit (job.Enter packet) not = refl
isnt_visit (job.Take link origin) not = refl
isnt_visit (job.Apply server origin group packet) not = refl
isnt_visit (job.Pass server origin) not = refl
isnt_visit (job.Lose server origin) not = refl
isnt_visit (job.Carry origin) not = refl
isnt_visit (job.Crash server) not = refl
isnt_visit (job.Recover server) not = refl
isnt_visit (job.Pull link) not = refl
isnt_visit (job.Propagate origin) not = refl

pub made_in : (slot other : ℕ) (job : Job) (old new : ChainRun) → is_visit job ≡ false → HasMade slot job old new →
    HasMade other job old new
made_in slot other job old new not made =
    let same = any_slot (setting_in old) (chain_state old) slot other job not in
    record {
      releases = made.releases;
      due = subst (λ (e : Event). AreReleases (setting_in old)
          (next (setting_in old) (chain_state old) e) made.releases) same made.due;
      grown = made.grown
          ∙ ap (λ (e : Event). record old { journal = old.journal ++ e ∷ made.releases; heads = new.heads }) same;
    }

-- what is made leaves what was given
pub given_made : (slot : ℕ) (job : Job) (old new : ChainRun) → HasMade slot job old new → IsSameGiven old new
given_made slot job old new made = made.grown
    ∙ ap (λ (events : List Event). record old { journal = events; heads = new.heads })
    (ap (λ (run : ChainRun). run.journal) (sym made.grown))

pub given_on : (first now new : ChainRun) → IsSameGiven first now → IsSameGiven now new → IsSameGiven first new
given_on first now new one other =
    other ∙ ap (λ (run : ChainRun). record run { journal = new.journal; heads = new.heads }) one

-- where nothing but heads differs, what was given is the same
pub given_heads : (old new : ChainRun) → IsButHeads old new → IsSameGiven old new
given_heads old new is =
    let journal : new.journal ≡ old.journal = ap (λ (run : ChainRun). run.journal) is in
    is ∙ ap (λ (events : List Event). record old { journal = events; heads = new.heads }) (sym journal)

-- ---- nearer to the end

module _ (c : Setting) (falls : (before : List Event) (event : Event) → IsRun c (before ++ event ∷ []) →
    work_left c (state_by c (before ++ event ∷ [])) < work_left c (state_by c before))
    (front : (before after : List Event) → IsRun c (before ++ after) → IsRun c before) where
  less : (before : List Event) (event : Event) (events : List Event) → IsRun c (before ++ event ∷ events) →
      work_left c (state_by c (before ++ event ∷ events)) < work_left c (state_by c before)
  less before event [] run = falls before event run
  less before event (another ∷ events) run =
      let same : (before ++ event ∷ []) ++ another ∷ events ≡ before ++ event ∷ another ∷ events =
      append_assoc before (event ∷ []) (another ∷ events) in
      let on : IsRun c ((before ++ event ∷ []) ++ another ∷ events) = subst (IsRun c) (sym same) run in
      let far : work_left c (state_by c ((before ++ event ∷ []) ++ another ∷ events)) < work_left c
      (state_by c (before ++ event ∷ [])) = less (before ++ event ∷ []) another events on in
      let near : work_left c (state_by c (before ++ event ∷ [])) < work_left c (state_by c before) =
      falls before event (front (before ++ event ∷ []) (another ∷ events) on) in
      let there : work_left c (state_by c (before ++ event ∷ another ∷ events)) < work_left c
      (state_by c (before ++ event ∷ [])) =
      subst (λ (es : List Event). work_left c (state_by c es) < work_left c
      (state_by c (before ++ event ∷ []))) same far in
      omega (arith, there, near)

pub nearer : (slot : ℕ) (job : Job) (old new : ChainRun) → HasMade slot job old new
    → ((c : Setting) → IsSetting c → (before : List Event) (event : Event) → IsRun c (before ++ event ∷ []) →
    work_left c (state_after c (opening c) (before ++ event ∷ [])) < work_left c (state_after c (opening c) before))
    → ((c : Setting) (before after : List Event) → IsRun c (before ++ after) → IsRun c before)
    → IsSetting (setting_in old) → IsRun (setting_in new) new.journal →
    work_left (setting_in new) (chain_state new) < work_left (setting_in old) (chain_state old)
nearer slot job old new made falls front right =
    subst (λ (run : ChainRun). IsRun (setting_in run) run.journal →
    work_left (setting_in run) (chain_state run) < work_left (setting_in old) (chain_state old)) (sym made.grown)
    (less (setting_in old) (falls (setting_in old) right) (front (setting_in old)) old.journal
    (event_of (setting_in old) (chain_state old) slot job) made.releases)

-- ---- back from the end

-- a finish of the later run is one of the first
abbrev pub LeadsBack : ChainRun → ChainRun → Type 0
LeadsBack first now = (whole : List Event) → IsFinish (setting_in first) now.journal whole →
    IsFinish (setting_in first) first.journal whole

abbrev pub Begins : Type 0
Begins = (c : Setting) (journal whole : List Event) (job : Job) (releases : List Event)
    → IsFirstJob c (state_after c (opening c) journal) job
    → AreReleases c (state_after c (opening c) (journal ++ event_after c journal job ∷ [])) releases
    → IsFinish c ((journal ++ event_after c journal job ∷ []) ++ releases) whole
    → IsFinish c journal whole

pub back_one : Begins → (job : Job) (now new : ChainRun) → IsFirstJob (setting_in now) (chain_state now) job →
    HasMade FINISHING_SLOT job now new → LeadsBack now new
back_one begun job now new first made whole finish =
    let c : Setting = setting_in now in let event : Event = event_after c now.journal job in
    let on : state_by c (now.journal ++ event ∷ []) ≡ next c (chain_state now) event =
    state_on c now.journal (event ∷ []) (opening c) in
    let due : AreReleases c (state_by c (now.journal ++ event ∷ [])) made.releases =
    subst (λ (s : ChainState). AreReleases c s made.releases) (sym on) made.due in
    let grown : new.journal ≡ (now.journal ++ event ∷ []) ++ made.releases =
    ap (λ (run : ChainRun). run.journal) made.grown ∙ sym (append_assoc now.journal (event ∷ []) made.releases) in
    begun c now.journal whole job made.releases first due
    (subst (λ (events : List Event). IsFinish c events whole) grown finish)

pub back_on : (first now new : ChainRun) → IsSameGiven first now → LeadsBack first now → LeadsBack now new →
    LeadsBack first new
back_on first now new same back one whole finish =
    let settings : setting_in now ≡ setting_in first = ap setting_in same in
    back whole (subst (λ (c : Setting). IsFinish c new.journal whole →
    IsFinish c now.journal whole) settings (one whole) finish)

-- at the end the run is the finish
pub at_end : (first now : ChainRun) → IsSameGiven first now → LeadsBack first now
    → ((c : Setting) (journal : List Event) → IsFinished c (state_after c (opening c) journal) →
    IsFinish c journal journal)
    → IsFinished (setting_in now) (chain_state now) → IsFinish (setting_in first) first.journal now.journal
at_end first now same back ended finished =
    let settings : setting_in now ≡ setting_in first = ap setting_in same in
    back now.journal (subst (λ (c : Setting). IsFinish c now.journal now.journal) settings
    (ended (setting_in now) now.journal finished))

-- a run that was on the way to the finish has a front of it
pub in_finish : (first now : ChainRun) → IsSameGiven first now → LeadsBack first now
    → ((c : Setting) → IsSetting c → (journal : List Event) → IsRun c journal →
    (whole : List Event) × IsFinish c journal whole)
    → IsSetting (setting_in now) → IsRun (setting_in now) now.journal →
    IsInFinish (setting_in first) first.journal now.journal
in_finish first now same back exists right run =
    let settings : setting_in now ≡ setting_in first = ap setting_in same in
    let some = exists (setting_in now) right now.journal run in
    record {
      whole = some.0;
      finish = back some.0 (subst (λ (c : Setting). IsFinish c now.journal some.0) settings some.1);
      front = record { rest = some.1.rest; parts = some.1.parts };
    }

-- The laws of the first job, the releases, the finish and the drive.
use Rattle.std.proofs.Common.{◌≡◌, ℕ, List, [], ◌∷◌, ◌++◌, ◌⊎◌, ◌↔◌, true, inl, inr, refl, sym, ap, subst, ◌∙◌}
use Rattle.std.proofs.Common.{append_assoc, append-nil, Some}
use Rattle.std.proofs.lemmas.Bool.{true≢false}
use Rattle.std.proofs.lemmas.Option.{none-some, same_Some}
use Rattle.ftc_base.specs.declared.limits.TheConstants.{FINISHING_SLOT}
use Rattle.ftc_journal.specs.declared.event.Event.{Event}
use Rattle.ftc_journal.specs.declared.event.Event.TheVariants as event
use Rattle.ftc_journal.specs.declared.job.Job.{Job}
use Rattle.ftc_journal.specs.Job.{job_of}
use Rattle.ftc_serial.specs.Drive.{IsDriven}
use Rattle.ftc_serial.specs.Serial.{State}
use Rattle.ftc_protocol.specs.Setting.{Setting, IsSetting}
use Rattle.ftc_protocol.specs.State.{ChainState, Message, Withheld, opening}
use Rattle.ftc_protocol.specs.Legal.{IsLegal, is_release}
use Rattle.ftc_protocol.specs.Next.{next}
use Rattle.ftc_protocol.specs.Quiet.{IsQuiet}
use Rattle.ftc_protocol.specs.Run.{AreLegal, IsRun, IsFinished, state_after}
use Rattle.ftc_protocol.specs.Jobs.{event_of, slot_of, IsLegalJob, IsFirstJob, IsInTurn}
use Rattle.ftc_protocol.specs.Drive.{IsNoneDue, AreReleases, AreFinish, IsFinish, IsPlay, IsDrive}
use Rattle.ftc_protocol.proofs.UniqueDrive.{play_on, play_is_one, does, any_slot, one_releases, finish_legal}
use Rattle.ftc_protocol.proofs.UniqueDrive.{finish_ends, turn, finish_is_one}
use Rattle.ftc_protocol.proofs.DecidedJobs.{release_or_none}
use Rattle.ftc_protocol.proofs.ArrivalTimes.{opens_dated, dated_on_all}
use Rattle.ftc_protocol.proofs.FirstJobExists.{play_of, counted_at, first_or_finished, none_finished}
use Rattle.ftc_protocol.proofs.FirstJobExists.{releases_legal, played_legal}
use Rattle.ftc_protocol.proofs.RunLists.{state_on, joined_legal}
use Rattle.ftc_protocol.proofs.FirstJobInTurn.{turn_is_first, first_is_turn}
use Rattle.ftc_protocol.proofs.PlainRun.{plain_drives}

no_job : (e : Event) → is_release e ≡ true → (j : Job) → job_of e ≡ Some j → ⊥
no_job (event.Release p) release j of = none-some j of
no_job (event.Enter p) release j of = true≢false (sym release)
no_job (event.Take l p) release j of = true≢false (sym release)
no_job (event.Apply k p i q) release j of = true≢false (sym release)
no_job (event.Visit k p w) release j of = true≢false (sym release)
no_job (event.Pass k p) release j of = true≢false (sym release)
no_job (event.Lose k p) release j of = true≢false (sym release)
no_job (event.Carry p) release j of = true≢false (sym release)
no_job (event.Crash k) release j of = true≢false (sym release)
no_job (event.Recover k undone) release j of = true≢false (sym release)
no_job (event.Pull l) release j of = true≢false (sym release)
no_job (event.Propagate p) release j of = true≢false (sym release)

pub job_of_event : (c : Setting) (s : ChainState) (e : Event) (j : Job) → IsLegal c s e → job_of e ≡ Some j →
    (e ≡ event_of c s (slot_of e) j) × IsLegalJob c s j
job_of_event c s e j legal of = elim (does c s e legal) [
  | inl release ↦ absurd (no_job e release j of)
  | inr d ↦
      let same : d.job ≡ j = same_Some d.job j (sym d.of ∙ of) in
      (d.same ∙ ap (event_of c s (slot_of e)) same, subst (IsLegalJob c s) same d.legal)
]

pub any_slot_legal : (c : Setting) (s : ChainState) (slot : ℕ) (j : Job) →
    IsLegal c s (event_of c s slot j) ↔ IsLegalJob c s j
any_slot_legal c s slot j = (any_slot c s slot FINISHING_SLOT j, any_slot c s FINISHING_SLOT slot j)

pub first_exists : (c : Setting) → IsSetting c → (journal : List Event) → IsRun c journal →
    IsNoneDue c (state_after c (opening c) journal)
    → ((j : Job) × IsFirstJob c (state_after c (opening c) journal) j)
    ⊎ IsFinished c (state_after c (opening c) journal)
first_exists c is journal run none =
    first_or_finished c is (state_after c (opening c) journal) (counted_at c is journal run) none

pub none_is_finished : (c : Setting) → IsSetting c → (journal : List Event) → IsRun c journal →
    IsNoneDue c (state_after c (opening c) journal)
    → ((j : Job) → IsLegalJob c (state_after c (opening c) journal) j → ⊥) →
    IsFinished c (state_after c (opening c) journal)
none_is_finished c is journal run none no_job =
    none_finished c is (state_after c (opening c) journal) (counted_at c is journal run) none no_job

pub messages_apart : (c : Setting) (journal : List Event) (p q : ℕ) (m n : Message) →
    (state_after c (opening c) journal).message p ≡ Some m
    → (state_after c (opening c) journal).message q ≡ Some n → m.since ≡ n.since → p ≡ q
messages_apart c journal p q m n = (dated_on_all c journal (opening c) (opens_dated c)).messages.apart p q m n

pub withheld_apart : (c : Setting) (journal : List Event) (p q : ℕ) (v w : Withheld) →
    (state_after c (opening c) journal).withheld p ≡ Some v
    → (state_after c (opening c) journal).withheld q ≡ Some w → v.since ≡ w.since → p ≡ q
withheld_apart c journal p q v w = (dated_on_all c journal (opening c) (opens_dated c)).withheld.apart p q v w

pub releases_one : (c : Setting) (journal one other : List Event) →
    AreReleases c (state_after c (opening c) journal) one → AreReleases c (state_after c (opening c) journal) other →
    one ≡ other
releases_one c journal one other =
    one_releases c (state_after c (opening c) journal) (dated_on_all c journal (opening c) (opens_dated c)) one other

pub releases_run : (c : Setting) (journal es : List Event) → IsRun c journal →
    AreReleases c (state_after c (opening c) journal) es → IsRun c (journal ++ es)
releases_run c journal es run a =
    joined_legal c journal es (opening c) run (releases_legal c es (state_after c (opening c) journal) a)

pub finish_run : (c : Setting) (journal whole : List Event) → IsRun c journal → IsFinish c journal whole → IsRun c whole
finish_run c journal whole run f =
    subst (λ x. IsRun c x) (sym f.parts)
    (joined_legal c journal f.rest (opening c) run (finish_legal c (state_after c (opening c) journal) f.rest f.finish))

pub finish_finished : (c : Setting) (journal whole : List Event) → IsFinish c journal whole →
    IsFinished c (state_after c (opening c) whole)
finish_finished c journal whole f =
    subst (λ x. IsFinished c (state_after c (opening c) x)) (sym f.parts)
    (subst (λ t. IsFinished c t) (sym (state_on c journal f.rest (opening c)))
    (finish_ends c (state_after c (opening c) journal) f.rest f.finish))

pub finish_begun : (c : Setting) (journal whole : List Event) (j : Job) (rs : List Event) →
    IsFirstJob c (state_after c (opening c) journal) j
    → AreReleases c (state_after c (opening c) (journal
    ++ event_of c (state_after c (opening c) journal) FINISHING_SLOT j ∷ [])) rs
    → IsFinish c ((journal ++ event_of c (state_after c (opening c) journal) FINISHING_SLOT j ∷ []) ++ rs) whole →
    IsFinish c journal whole
finish_begun c journal whole j rs first a f =
    let s : ChainState = state_after c (opening c) journal in
    let e : Event = event_of c s FINISHING_SLOT j in
    let at : state_after c (opening c) (journal ++ e ∷ []) ≡ next c s e = state_on c journal (e ∷ []) (opening c) in
    let a' : AreReleases c (next c s e) rs = subst (λ t. AreReleases c t rs) at a in
    let end : state_after c (opening c) ((journal ++ e ∷ []) ++ rs) ≡ state_after c (next c s e) rs =
    state_on c (journal ++ e ∷ []) rs (opening c) ∙ ap (λ t. state_after c t rs) at in
    let rest : AreFinish c (state_after c (next c s e) rs) f.rest = subst (λ t. AreFinish c t f.rest) end f.finish in
    record {
      rest = e ∷ (rs ++ f.rest);
      parts = f.parts ∙ (append_assoc (journal ++ e ∷ []) rs f.rest ∙ append_assoc journal (e ∷ []) (rs ++ f.rest));
      finish = turn c s j rs f.rest first a' rest;
    }

pub finish_ended : (c : Setting) (journal : List Event) → IsFinished c (state_after c (opening c) journal) →
    IsFinish c journal journal
finish_ended c journal finished = record { rest = []; parts = sym (append-nil journal); finish = finished }

pub drive_run : (c : Setting) (schedule whole : List Event) → IsDrive c schedule whole →
    IsRun c whole × IsFinished c (state_after c (opening c) whole)
drive_run c schedule whole d = (
  finish_run c d.played whole (played_legal c schedule (opening c) d.played d.play) d.finish,
  finish_finished c d.played whole d.finish,
)

pub drive_empty : (c : Setting) (whole : List Event) → IsDrive c [] whole ↔ IsFinish c [] whole
drive_empty c whole = (
  (λ d. subst (λ x. IsFinish c x whole) d.play d.finish),
  λ f. record { played = []; play = refl; finish = f },
)

pub plain_is_drive : (c : Setting) → IsSetting c → IsQuiet c → c.failures ≡ 0 → (journal : List Event) (end : State) →
    IsDriven c.rules c.packets journal end → IsDrive c [] journal
plain_is_drive c is quiet alone journal end driven =
    (drive_empty c journal).1 (plain_drives c is quiet alone journal end driven)

pub plain_is_one : (c : Setting) → IsSetting c → IsQuiet c → c.failures ≡ 0 →
    (one other : List Event) (end another : State) → IsDriven c.rules c.packets one end →
    IsDriven c.rules c.packets other another → one ≡ other
plain_is_one c is quiet alone one other end another a b =
    finish_is_one c [] one other (plain_drives c is quiet alone one end a)
    (plain_drives c is quiet alone other another b)

pub first_in_turn : (c : Setting) (journal : List Event) (j : Job) → IsFirstJob c (state_after c (opening c) journal) j
    ↔ IsInTurn c (state_after c (opening c) journal) j
first_in_turn c journal j =
    let s : ChainState = state_after c (opening c) journal in
    (first_is_turn c s j, turn_is_first c s (dated_on_all c journal (opening c) (opens_dated c)) j)

-- ---- a run is the play of itself

-- the releases that come first, and the rest, which is the play of all of it from there on
record IsSplit (c : Setting) (s : ChainState) (journal : List Event) : Type 0 where
  pub releases : List Event
  pub rest : List Event
  pub parts : journal ≡ releases ++ rest
  pub due : AreReleases c s releases
  pub play : IsPlay c (state_after c s releases) journal rest

split : (c : Setting) (journal : List Event) (s : ChainState) → AreLegal c s journal →
    IsNoneDue c (state_after c s journal) → IsSplit c s journal
split c [] s legal none = record { releases = []; rest = []; parts = refl; due = none; play = refl }
split c (e ∷ journal) s legal none =
    let on = split c journal (next c s e) legal.1 none in
    elim (does c s e legal.0) [
      | inl release ↦ record {
        releases = e ∷ on.releases;
        rest = on.rest;
        parts = ap (λ (x : List Event). e ∷ x) on.parts;
        due = (release, legal.0, on.due);
        play = inr ((λ j of can. no_job e release j of), on.play);
      }
      | inr d ↦
          let at : next c s e ≡ next c s (event_of c s (slot_of e) d.job) = ap (next c s) d.same in
          record {
            releases = [];
            rest = e ∷ journal;
            parts = refl;
            due = Rattle.ftc_protocol.proofs.UniqueDrive.job_none_due c s FINISHING_SLOT d.job d.legal;
            play = inl (
              d.job,
              on.releases,
              on.rest,
              d.of,
              d.legal,
              subst (λ t. AreReleases c t on.releases) at on.due,
              ap (λ (x : Event). x ∷ journal) d.same ∙ ap (λ (x : List Event). event_of c s (slot_of e) d.job
                  ∷ x) on.parts,
              subst (λ t. IsPlay c (state_after c t on.releases) journal on.rest) at on.play,
            );
          }
    ]

pub opens_none_due : (c : Setting) → IsNoneDue c (opening c)
opens_none_due c p w due = none-some w due.0

pub plays_itself : (c : Setting) (journal : List Event) → IsRun c journal →
    IsNoneDue c (state_after c (opening c) journal) → IsPlay c (opening c) journal journal
plays_itself c journal run none =
    let on = split c journal (opening c) run none in
    let nothing : [] ≡ on.releases = releases_one c [] [] on.releases (opens_none_due c) on.due in
    let play : IsPlay c (opening c) journal on.rest =
    subst (λ rs. IsPlay c (state_after c (opening c) rs) journal on.rest) (sym nothing) on.play in
    let same : journal ≡ on.rest = on.parts ∙ ap (λ (rs : List Event). rs ++ on.rest) (sym nothing) in
    subst (IsPlay c (opening c) journal) (sym same) play

-- in a finished state none is due
finished_none_due : (c : Setting) → IsSetting c → (journal : List Event) → IsRun c journal →
    IsFinished c (state_after c (opening c) journal) → IsNoneDue c (state_after c (opening c) journal)
finished_none_due c is journal run finished =
    elim (release_or_none c is (state_after c (opening c) journal) (counted_at c is journal run)) [
      | inl r ↦ absurd (finished (event.Release r.0) (r.1, λ not_release. absurd (true≢false not_release)))
      | inr none ↦ none
    ]

pub drives_itself : (c : Setting) → IsSetting c → (journal : List Event) → IsRun c journal →
    IsFinished c (state_after c (opening c) journal) → IsDrive c journal journal
drives_itself c is journal run finished = record {
  played = journal;
  play = plays_itself c journal run (finished_none_due c is journal run finished);
  finish = finish_ended c journal finished;
}

-- what was played of a schedule so far is a front of its drive
pub drive_front : (c : Setting) → IsSetting c → (schedule more played whole : List Event) →
    IsPlay c (opening c) schedule played → IsDrive c (schedule ++ more) whole →
    (rest : List Event) × (whole ≡ played ++ rest)
drive_front c is schedule more played whole play drive =
    let run = played_legal c schedule (opening c) played play in
    let on = play_of c is more played run in
    let same : drive.played ≡ played ++ on.0 =
    play_is_one c (schedule ++ more) drive.played (played
    ++ on.0) drive.play (play_on c schedule more (opening c) played on.0 play on.1) in (
      on.0 ++ drive.finish.rest,
      drive.finish.parts ∙ (ap (λ (x : List Event). x
          ++ drive.finish.rest) same ∙ append_assoc played on.0 drive.finish.rest),
    )

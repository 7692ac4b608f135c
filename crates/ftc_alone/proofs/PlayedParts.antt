-- A schedule is played part by part.
use Rattle.std.proofs.Common.{◌≡◌, ◌++◌, ◌+◌, ◌<◌, inl, inr, ℕ, zero, suc, arith, length, take, drop, get_or, List, []}
use Rattle.std.proofs.Common.{◌∷◌, Some, refl, sym, ap, subst, ◌∙◌}
use Rattle.std.proofs.lemmas.List.{append_assoc, append-nil, take-append-drop}
use Rattle.std.proofs.lemmas.Option.{same_Some}
use Rattle.ftc_journal.specs.declared.event.Event.{Event}
use Rattle.ftc_journal.specs.declared.job.Job.{Job}
use Rattle.ftc_journal.specs.Job.{job_of}
use Rattle.ftc_chain.specs.ChainRun.{ChainRun, setting_in, chain_state}
use Rattle.ftc_protocol.proofs.RunLists.{state_on}
use Rattle.ftc_protocol.specs.Drive.{IsPassedOver, IsPlay, IsFinish, IsDrive}
use Rattle.ftc_protocol.specs.Jobs.{event_of, slot_of, IsLegalJob}
use Rattle.ftc_protocol.specs.Next.{next}
use Rattle.ftc_protocol.specs.Run.{state_after}
use Rattle.ftc_protocol.specs.Setting.{Setting, IsSetting}
use Rattle.ftc_protocol.specs.State.{ChainState, opening}
use Rattle.ftc_protocol.proofs.UniqueDrive.{play_on}
use Rattle.ftc_chain.specs.Course.{HasMade}
use Rattle.ftc_chain.specs.Slots.{IsButHeads}
use Rattle.ftc_alone.specs.Alone.{IsSameGiven, IsInFinish, IsInDrive, HasPlayed, HasPlayedSome}

-- ---- two parts of a schedule

-- the same of runs
pub played_on : (one other : List Event) (first now new : ChainRun) → HasPlayed one first now →
    HasPlayed other now new → HasPlayed (one ++ other) first new
played_on one other first now new front more =
    let c : Setting = setting_in first in
    let there : HasPlayed other (record first { journal = first.journal ++ front.played; heads = now.heads }) new =
    subst (λ (run : ChainRun). HasPlayed other run new) front.grown more in
    let on = state_on c first.journal front.played (opening c) in
    record {
      played = front.played ++ there.played;
      play = play_on c one other (chain_state first) front.played there.played front.play
          (subst (λ (t : ChainState). IsPlay c t other there.played) on there.play);
      grown = there.grown ∙ ap (λ (es : List Event). record first { journal = es; heads = new.heads })
          (append_assoc first.journal front.played there.played);
    }

-- ---- nothing, and one event

pub played_nothing : (now : ChainRun) → HasPlayed [] now now
played_nothing now = record {
  played = [];
  play = refl;
  grown = ap (λ (es : List Event). record now { journal = es }) (sym (append-nil now.journal));
}

pub played_one : (event : Event) (job : Job) (old new : ChainRun) → job_of event ≡ Some job →
    IsLegalJob (setting_in old) (chain_state old) job → HasMade (slot_of event) job old new →
    HasPlayed (event ∷ []) old new
played_one event job old new is legal made =
    let happened : Event = event_of (setting_in old) (chain_state old) (slot_of event) job in
    record {
      played = happened ∷ (made.releases ++ []);
      play = inl (job, made.releases, [], is, legal, made.due, refl, refl);
      grown = made.grown
          ∙ ap (λ (es : List Event). record old { journal = old.journal ++ happened ∷ es; heads = new.heads })
          (sym (append-nil made.releases));
    }

pub passed_over : (event : Event) (now : ChainRun) → IsPassedOver (setting_in now) (chain_state now) event →
    HasPlayed (event ∷ []) now now
passed_over event now over = record {
  played = [];
  play = inr (over, refl);
  grown = ap (λ (es : List Event). record now { journal = es }) (sym (append-nil now.journal));
}

pub played_given : (schedule : List Event) (old new : ChainRun) → HasPlayed schedule old new → IsSameGiven old new
played_given schedule old new is = is.grown
    ∙ ap (λ (es : List Event). record old { journal = es; heads = new.heads })
    (ap (λ (run : ChainRun). run.journal) (sym is.grown))

-- where nothing but heads differed before
pub played_after : (schedule : List Event) (first now new : ChainRun) → IsButHeads first now →
    HasPlayed schedule now new →
    HasPlayed schedule first new
played_after schedule first now new but played =
    let there : HasPlayed schedule (record first { heads = now.heads }) new =
    subst (λ (run : ChainRun). HasPlayed schedule run new) but played in
    record { played = there.played; play = there.play; grown = there.grown }

-- nor behind
pub played_before : (schedule : List Event) (first now new : ChainRun) → IsButHeads now new →
    HasPlayed schedule first now →
    HasPlayed schedule first new
played_before schedule first now new but played = record {
  played = played.played;
  play = played.play;
  grown = but ∙ ap (λ (run : ChainRun). record run { heads = new.heads }) played.grown;
}

pub some_after : (schedule : List Event) (first now new : ChainRun) → IsButHeads first now →
    HasPlayedSome schedule now new → HasPlayedSome schedule first new
some_after schedule first now new but some = record {
  done = some.done;
  front = some.front;
  played = played_after some.done first now new but some.played;
}

pub some_before : (schedule : List Event) (first now new : ChainRun) → IsButHeads now new →
    HasPlayedSome schedule first now → HasPlayedSome schedule first new
some_before schedule first now new but some = record {
  done = some.done;
  front = some.front;
  played = played_before some.done first now new but some.played;
}

-- ---- the events so far

pub played_some : (events : List Event) (place : ℕ) (first now : ChainRun) → HasPlayed (take place events) first now →
    HasPlayedSome events first now
played_some events place first now played = record {
  done = take place events;
  front = record { rest = drop place events; parts = sym (take-append-drop place events) };
  played = played;
}

taken_one : (events : List Event) (place : ℕ) (event : Event) → place < length events →
    event ≡ get_or events place event → take (suc place) events ≡ take place events ++ event ∷ []
taken_one [] place event within is = absurd (omega arith)
taken_one (first ∷ events) zero event within is = ap (λ (e : Event). e ∷ []) (sym is)
taken_one (first ∷ events) (suc place) event within is =
    ap (λ (es : List Event). first ∷ es) (taken_one events place event (omega arith) is)

pub one_taken_more : (events : List Event) (place : ℕ) (event : Event) → place < length events →
    event ≡ get_or events place event → take (place + 1) events ≡ take place events ++ event ∷ []
one_taken_more events place event within is =
    let one : suc place ≡ place + 1 = omega arith in
    subst (λ (n : ℕ). take n events ≡ take place events ++ event ∷ []) one (taken_one events place event within is)

-- ---- the drive of a schedule

module _ (first now : ChainRun) (opens : first.journal ≡ []) where
  opened : (schedule : List Event) → HasPlayed schedule first now →
      IsPlay (setting_in first) (opening (setting_in first)) schedule now.journal
  opened schedule is =
      let c : Setting = setting_in first in
      let play : IsPlay c (state_after c (opening c) []) schedule is.played =
      subst (λ (es : List Event). IsPlay c (state_after c (opening c) es) schedule is.played) opens is.play in
      let all : now.journal ≡ is.played =
      ap (λ (run : ChainRun). run.journal) is.grown ∙ ap (λ (es : List Event). es ++ is.played) opens in
      subst (IsPlay c (opening c) schedule) (sym all) play

  pub driven : (schedule events : List Event) → HasPlayed schedule first now →
      IsFinish (setting_in now) now.journal events → IsDrive (setting_in first) schedule events
  driven schedule events is finish = record {
    played = now.journal;
    play = opened schedule is;
    finish = subst (λ (c : Setting). IsFinish c now.journal events)
        (ap setting_in (played_given schedule first now is)) finish;
  }

  pub in_drive : (schedule events : List Event) → HasPlayed schedule first now →
      IsInFinish (setting_in now) now.journal events → IsInDrive (setting_in first) schedule events
  in_drive schedule events is within =
      record { whole = within.whole; drive = driven schedule within.whole is within.finish; front = within.front }

  pub some_in_drive : (schedule : List Event)
      → ((c : Setting) → IsSetting c → (schedule : List Event) → (whole : List Event) × IsDrive c schedule whole)
      → ((c : Setting) → IsSetting c → (schedule more played whole : List Event) →
      IsPlay c (opening c) schedule played → IsDrive c (schedule ++ more) whole →
      (rest : List Event) × (whole ≡ played ++ rest))
      → IsSetting (setting_in first) → HasPlayedSome schedule first now →
      IsInDrive (setting_in first) schedule now.journal
  some_in_drive schedule exists front right some =
      let c : Setting = setting_in first in let drive = exists c right schedule in
      let parts = front c right some.done some.front.rest now.journal drive.0 (opened some.done some.played)
      (subst (λ (es : List Event). IsDrive c es drive.0) some.front.parts drive.1) in
      record { whole = drive.0; drive = drive.1; front = record { rest = parts.0; parts = parts.1 } }

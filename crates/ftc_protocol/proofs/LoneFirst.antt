-- Where one packet at a time is under way, what it does next is the first job.
use Rattle.std.proofs.Common.{◌≡◌, ◌⊎◌, ◌<◌, ℕ, true, false, Bool, List, [], ◌∷◌, ◌++◌, inl, inr, refl, sym, ap, subst}
use Rattle.std.proofs.Common.{◌∙◌, arith, Some, None}
use Rattle.std.proofs.lemmas.Bool.{true≢false, cases_eq}
use Rattle.std.proofs.lemmas.Option.{none-some, same_Some}
use Rattle.ftc_base.specs.declared.limits.TheConstants.{FINISHING_SLOT}
use Rattle.ftc_journal.specs.declared.event.Event.{Event}
use Rattle.ftc_journal.specs.declared.event.Event.TheVariants as event
use Rattle.ftc_journal.specs.declared.job.Job.{Job}
use Rattle.ftc_journal.specs.declared.job.Job.TheVariants as job
use Rattle.ftc_script.specs.declared.line.ScriptLine.{ScriptLine}
use Rattle.ftc_protocol.specs.Setting.{Setting}
use Rattle.ftc_protocol.specs.State.{ChainState, Message, Where, Held, Queued}
use Rattle.ftc_protocol.specs.Legal.{IsLegal, IsHeld, IsNextLine}
use Rattle.ftc_protocol.specs.Next.{next}
use Rattle.ftc_protocol.specs.Run.{IsFinished, state_after}
use Rattle.ftc_protocol.specs.Quiet.{IsQuiet}
use Rattle.ftc_protocol.specs.Jobs.{since_of, IsLegalJob, IsFirstJob, IsNoPull, AreIdleBefore, IsInTurn}
use Rattle.ftc_protocol.specs.Drive.{IsNextEvent, AreFinish}
use Rattle.ftc_protocol.proofs.Premises.{IsGood}
use Rattle.ftc_protocol.proofs.ArrivalTimes.{IsDated}
use Rattle.ftc_protocol.proofs.Complete.{IsReached}
use Rattle.ftc_protocol.proofs.FaultFree.{IsCalm}
use Rattle.ftc_protocol.proofs.FirstJobInTurn.{turn_is_first, visit_works, pass_works}
use Rattle.ftc_protocol.proofs.Lone.{IsIdle, IsAt}

-- each event is what is done next after those before it
abbrev pub AreNext : Setting → ChainState → List Event → Type 0
AreNext c s [] = Unit {0}
AreNext c s (e ∷ es) = IsNextEvent c s e × AreNext c (next c s e) es

pub next_both : (c : Setting) (es fs : List Event) (s : ChainState) → AreNext c s es →
    AreNext c (state_after c s es) fs → AreNext c s (es ++ fs)
next_both c [] fs s first second = second
next_both c (e ∷ es) fs s first second = (first.0, next_both c es fs (next c s e) first.1 second)

pub next_finish : (c : Setting) (es : List Event) (s : ChainState) → AreNext c s es →
    IsFinished c (state_after c s es) → AreFinish c s es
next_finish c [] s all finished = finished
next_finish c (e ∷ es) s all finished = (all.0, next_finish c es (next c s e) all.1 finished)

-- where nothing failed, no gap is pulled and no line is to be done
no_pull : (c : Setting) (s : ChainState) → IsCalm c s → IsNoPull c s
no_pull c s calm l legal = true≢false (sym legal.0.2 ∙ calm.gap l)

-- one message at most came by an event
lone_dated : (c : Setting) (s : ChainState) → IsReached c s → (p : ℕ) →
    ((q : ℕ) (m : Message) → s.message q ≡ Some m → q ≡ p) → ((packet : ℕ) → s.withheld packet ≡ None) → IsDated s
lone_dated c s reached p only empty = record {
  messages = record {
    clock = reached.live.timed.clock;
    apart = λ q r m n a b same. only q m a ∙ sym (only r n b);
  };
  withheld = record {
    clock = λ q w there. absurd (none-some w (sym (empty q) ∙ there));
    apart = λ q r w v there _ same. absurd (none-some w (sym (empty q) ∙ there));
  };
}

module _ (c : Setting) (s : ChainState) (p : ℕ) (w : Where) (at : IsAt c s p w) where
  only : (q : ℕ) (m : Message) → s.message q ≡ Some m → (q ≡ p) × (m ≡ at.message)
  only q m there = elim (cases_eq q p) [
    | inl e ↦ (e, same_Some m at.message (sym there ∙ (ap s.message e ∙ at.there)))
    | inr other ↦ absurd (none-some m (sym (at.others q other) ∙ there))
  ]

  place_is : (q : ℕ) (m : Message) (v : Where) → s.message q ≡ Some m → m.place ≡ v → v ≡ w
  place_is q m v there is = let o = only q m there in sym is ∙ (ap (λ (x : Message). x.place) o.1 ∙ at.placed)

  at_dated : IsDated s
  at_dated = lone_dated c s at.plain.reached p (λ q m there. (only q m there).0) at.withheld

-- ---- a message that is held

module _ (c : Setting) (good : IsGood c) (quiet : IsQuiet c) (alone : c.failures ≡ 0) (s : ChainState) (p k : ℕ)
    (visited : Bool) (at : IsAt c s p (Held k visited false)) where
  -- no message stands before it
  none_before : AreIdleBefore c s k p
  none_before i q m held ahead =
      let o = only c s p (Held k visited false) at q m held.0 in
      let there : Held i held.1 held.2 ≡ Held k visited false =
      place_is c s p (Held k visited false) at q m (Held i held.1 held.2) held.0 held.3 in
      let same : i ≡ k = cc in
      let since : since_of (s.message p) ≡ m.since = ap since_of at.there ∙ ap (λ (x : Message). x.since) (sym o.1) in
      absurd (elim ahead [ inl less ↦ omega arith | inr sooner ↦ let less = sooner.1 in omega arith ])

  work_first : (j : Job) → IsInTurn c s j → IsFirstJob c s j
  work_first = turn_is_first c s (at_dated c s p (Held k visited false) at)

  -- the visit, where the packet waits here
  module _ (waits : visited ≡ false) (bytes : List ℕ) (packet : at.message.packet ≡ Some bytes) where
    pub visit_first : IsLegal c s (event.Visit k p FINISHING_SLOT) → IsNextEvent c s (event.Visit k p FINISHING_SLOT)
    visit_first legal = inr (
      job.Visit k p,
      work_first (job.Visit k p) (no_pull c s at.plain.calm, none_before, visit_works c s k p legal),
      refl,
    )

  -- the pass, where the packet has been here or is no more
  module _ (done : (visited ≡ true) ⊎ (at.message.packet ≡ None)) where
    pub pass_first : IsLegal c s (event.Pass k p) → IsNextEvent c s (event.Pass k p)
    pass_first legal = inr (
      job.Pass k p,
      work_first (job.Pass k p) (no_pull c s at.plain.calm, none_before, pass_works c s k p legal),
      refl,
    )

-- ---- a message that is queued

module _ (c : Setting) (s : ChainState) (p k : ℕ) (at : IsAt c s p (Queued k)) where
  none_held : (i q : ℕ) (m : Message) → IsHeld s i q m → ⊥
  none_held i q m held =
      let there : Held i held.1 held.2 ≡ Queued k =
      place_is c s p (Queued k) at q m (Held i held.1 held.2) held.0 held.3 in
      absurd (cc)

  no_other_take : (l q : ℕ) → l < k → IsLegalJob c s (job.Take l q) → ⊥
  no_other_take l q less legal =
      let there : Queued l ≡ Queued k = place_is c s p (Queued k) at q legal.0.0 (Queued l) legal.0.1 legal.0.2 in
      let same : l ≡ k = cc in
      omega arith

  pub take_first : IsLegal c s (event.Take k p) → IsNextEvent c s (event.Take k p)
  take_first legal = inr (
    job.Take k p,
    turn_is_first c s (at_dated c s p (Queued k) at) (job.Take k p)
        (no_pull c s at.plain.calm, (λ i q m held. absurd (none_held i q m held)), legal, no_other_take),
    refl,
  )

-- ---- no message

module _ (c : Setting) (s : ChainState) (p : ℕ) (idle : IsIdle c p s) where
  no_message : (q : ℕ) (m : Message) → s.message q ≡ Some m → ⊥
  no_message q m there = none-some m (sym (idle.messages q) ∙ there)

  no_line : (line : ScriptLine) → IsNextLine s.lines line → ⊥
  no_line line is = subst (λ l. IsNextLine l line) idle.plain.calm.lines is

  pub enter_first : IsLegal c s (event.Enter p) → IsNextEvent c s (event.Enter p)
  enter_first legal = inr (
    job.Enter p,
    turn_is_first c s
        (lone_dated c s idle.plain.reached p (λ q m there. absurd (no_message q m there)) idle.withheld) (job.Enter p) (
          no_pull c s idle.plain.calm,
          (λ i q m held. absurd (no_message q m held.0)),
          (λ l q take. no_message q take.0.0 take.0.1),
          (λ i line. elim line [
            | inl crash ↦ no_line _ crash.0
            | inr recover ↦ no_line _ recover.0.0
          ]),
          legal,
        ),
    refl,
  )

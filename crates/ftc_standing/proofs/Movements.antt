-- How a list of messages at a place changes by an event: one comes, one goes, one is changed, some go, all go.
use Rattle.std.proofs.Common.{◌≡◌, ◌<◌, ◌++◌, ◌∙◌, ℕ, Bool, true, false, not, List, [], ◌∷◌, filter, Option, Some, None}
use Rattle.std.proofs.Common.{refl, sym, ap, subst, if◌then◌else◌}
use Rattle.std.proofs.lemmas.Option.{none-some}
use Rattle.ftc_journal.specs.declared.event.Event.{Event}
use Rattle.ftc_serial.specs.Words.{with_at}
use Rattle.ftc_serial.proofs.Functions.{with_at_cases}
use Rattle.ftc_protocol.specs.Setting.{Setting}
use Rattle.ftc_protocol.specs.State.{Where, Message, ChainState}
use Rattle.ftc_protocol.specs.Next.{next}
use Rattle.ftc_standing.specs.Arrivals.{AreArrived}
use Rattle.ftc_standing.specs.Stand.{since_of}
use Rattle.ftc_standing.specs.View.{where_it}
use Rattle.ftc_standing.proofs.Arriving.{added, taken_out, replaced, stays, filtered, emptied, there_here, without_it}
use Rattle.ftc_standing.proofs.Lasting.{IsFirmState, of_it}

module _ (c : Setting) (s : ChainState) (f : IsFirmState c s) (e : Event) {A : Type 0} (org : A → ℕ) (test : Where →
    Bool)
    (At After : ℕ → Message → A → Type 0)
    (keeps : (origin : ℕ) (message : Message) (item : A) → s.message origin ≡ Some message →
    (next c s e).message origin ≡ Some message → At origin message item → After origin message item) where
  abbrev there : ℕ → Option Message
  there origin = where_it test (s.message origin)

  abbrev now : ℕ → Option Message
  now origin = where_it test ((next c s e).message origin)

  -- a message comes, behind the others
  pub comes : (p : ℕ) (message : Message) (item : A) (items : List A) → there p ≡ None →
      ((origin : ℕ) → now origin ≡ with_at there p (Some message) origin) → message.since ≡ s.events →
      org item ≡ p → After p message item → AreArrived since_of org At there items →
      AreArrived since_of org After now (items ++ item ∷ [])
  comes p message item items none is_now since is stands are =
      stays since_of org After (with_at there p (Some message)) After now is_now (λ origin m kept at is. is)
      (items ++ item ∷ [])
      (added since_of org After there p message item items
      (stays since_of org At there After there (λ origin. refl)
      (λ origin m kept at is. keeps origin m kept (of_it test (s.message origin) m at)
      (of_it test ((next c s e).message origin) m
      (is_now origin ∙ with_at_cases (λ v. v ≡ Some m) there p (Some message) origin
      (λ same. absurd (none-some m (sym none ∙ (ap there (sym same) ∙ at)))) (λ ne. at))) is) items are)
      none is (λ other old at.
      let before : old.since < s.events = f.steady.tied.order.clock other old (of_it test (s.message other) old at) in
      subst (λ n. old.since < n) (sym since) before) stands)

  -- it goes
  pub goes : (before : List A) (item : A) (after : List A) →
      ((origin : ℕ) → now origin ≡ with_at there (org item) None origin) →
      AreArrived since_of org At there (before ++ item ∷ after) →
      AreArrived since_of org After now (before ++ after)
  goes before item after is_now are =
      stays since_of org At (with_at there (org item) None) After now is_now
      (λ origin m kept at is.
      let was : there origin ≡ Some m = with_at_cases (λ v. v ≡ Some m → there origin ≡ Some m) there (org item) None
      origin (λ same none. absurd (none-some m none)) (λ ne same. same) at in
      keeps origin m kept (of_it test (s.message origin) m was)
      (of_it test ((next c s e).message origin) m (is_now origin ∙ at)) is)
      (before ++ after) (taken_out since_of org At there before item after are)

  -- it is changed, in its place
  pub changes : (before : List A) (item new : A) (after : List A) (message : Message)
      (are : AreArrived since_of org At there (before ++ item ∷ after)) → org new ≡ org item →
      message.since ≡ (there_here since_of org At there before item after are).0.since →
      ((origin : ℕ) → now origin ≡ with_at there (org item) (Some message) origin) → After (org item) message new →
      AreArrived since_of org After now (before ++ new ∷ after)
  changes before item new after message are same since is_now stands =
      stays since_of org After (with_at there (org item) (Some message)) After now is_now (λ origin m kept at is. is)
      (before ++ new ∷ after)
      (replaced since_of org At there before item after are After message new same since stands
      (λ origin other kept at differs is. keeps origin other kept (of_it test (s.message origin) other at)
      (of_it test ((next c s e).message origin) other
      (is_now origin ∙ with_at_cases (λ v. v ≡ Some other) there (org item) (Some message) origin
      (λ e. absurd (differs e)) (λ ne. at))) is))

  -- nothing comes or goes
  pub remain : ((origin : ℕ) → now origin ≡ there origin) → (items : List A) →
      AreArrived since_of org At there items → AreArrived since_of org After now items
  remain is_now items are =
      stays since_of org At there After now is_now
      (λ origin m kept at is. keeps origin m kept (of_it test (s.message origin) m at)
      (of_it test ((next c s e).message origin) m (is_now origin ∙ at)) is) items are

  -- some go
  pub some_go : (gone : Message → Bool) (left : A → Bool) →
      ((origin : ℕ) (message : Message) (item : A) → there origin ≡ Some message → org item ≡ origin →
      At origin message item → left item ≡ not (gone message)) →
      ((origin : ℕ) → now origin ≡ without_it gone (there origin)) → (items : List A) →
      AreArrived since_of org At there items → AreArrived since_of org After now (filter left items)
  some_go gone left agree is_now items are =
      stays since_of org At now After now (λ origin. refl)
      (λ origin m kept at is. keeps origin m kept (was origin m at)
      (of_it test ((next c s e).message origin) m at) is)
      (filter left items) (filtered since_of org At there gone left agree now is_now items are)
    where
      was_it : (o : Option Message) (m : Message) → without_it gone o ≡ Some m → o ≡ Some m
      was_it None m is = absurd (none-some m is)
      was_it (Some old) m is = elim (gone old) as (λ b. (if b then None else Some old) ≡ Some m → Some old ≡ Some m) [
        | true ↦ λ e. absurd (none-some m e)
        | false ↦ λ e. e
      ] is

      was : (origin : ℕ) (m : Message) → now origin ≡ Some m → s.message origin ≡ Some m
      was origin m at = of_it test (s.message origin) m (was_it (there origin) m (sym (is_now origin) ∙ at))

  -- all go
  pub all_go : ((origin : ℕ) → now origin ≡ None) → AreArrived since_of org After now []
  all_go none = emptied since_of org After now none

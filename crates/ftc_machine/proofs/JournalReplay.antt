-- A journal that is played again, event by event.
use Rattle.std.proofs.Common.{◌≡◌, ℕ, zero, suc, ◌+◌, ◌<◌, ◌++◌, List, [], ◌∷◌, length, take, get_or, slice_get, Some}
use Rattle.std.proofs.Common.{sym, ap, subst, arith}
use Rattle.std.proofs.Math.Logic.{∥∥₁_map₂}
use Rattle.ftc_journal.specs.declared.event.Event.{Event}
use Rattle.ftc_protocol.specs.Setting.{Setting}
use Rattle.ftc_protocol.specs.State.{ChainState, opening}
use Rattle.ftc_protocol.specs.Legal.{IsLegal}
use Rattle.ftc_protocol.specs.Next.{next}
use Rattle.ftc_protocol.specs.Run.{AreLegal, IsRun, state_after}
use Rattle.ftc_machine.specs.Illegal.{IsFirstIllegal}
use Rattle.ftc_protocol.proofs.RunLists.{run_on, legal_there}

-- one more event of a list
one_taken : (events : List Event) (place : ℕ) (event : Event) → slice_get events place ≡ Some event →
    take (suc place) events ≡ take place events ++ event ∷ []
one_taken [] place event there = absurd (cc)
one_taken (first ∷ events) zero event there = let same : first ≡ event = cc in ap (λ e. e ∷ []) same
one_taken (first ∷ events) (suc place) event there = ap (λ es. first ∷ es) (one_taken events place event there)

there_at : (events : List Event) (place : ℕ) (event : Event) → place < length events →
    event ≡ get_or events place event → slice_get events place ≡ Some event
there_at [] place event within is = absurd (omega arith)
there_at (first ∷ events) zero event within is = ap Some (sym is)
there_at (first ∷ events) (suc place) event within is = there_at events place event (omega arith) is

module _ (events items : List Event) (place : ℕ) (event : Event) (same : items ≡ events) (within : place < length items)
    (is : event ≡ get_or items place event) where
  pub event_there : slice_get events place ≡ Some event
  event_there = subst (λ (es : List Event). slice_get es place ≡ Some event) same (there_at items place event within is)

  pub more_taken : take (place + 1) events ≡ take place events ++ event ∷ []
  more_taken = let one : suc place ≡ place + 1 =
      omega arith in subst (λ n. take n events ≡ take place events
      ++ event ∷ []) one (one_taken events place event event_there)

  pub more_run : (c : Setting) → ∥ IsRun c (take place events) ∥₁ →
      ∥ IsLegal c (state_after c (opening c) (take place events)) event ∥₁ → ∥ IsRun c (take (place + 1) events) ∥₁
  more_run c run legal =
      subst (λ (es : List Event). ∥ IsRun c es ∥₁) (sym more_taken)
      (∥∥₁_map₂ run legal (λ r l. run_on c (take place events) event (opening c) r l))

pub none_illegal : (c : Setting) (events : List Event) (place : ℕ) → IsRun c events → IsFirstIllegal c events place → ⊥
none_illegal c events place run first =
    first.illegal (legal_there c events (opening c) place first.event run first.there)

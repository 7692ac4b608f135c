-- Runs as lists: their parts, and runs that go on.
use Rattle.std.proofs.Common.{◌≡◌, ℕ, zero, suc, List, [], ◌∷◌, ◌++◌, Some, take, refl, subst, sym, ap, ◌∙◌}
use Rattle.std.specs.List.{slice_get}
use Rattle.ftc_journal.specs.declared.event.Event.{Event}
use Rattle.ftc_protocol.specs.Setting.{Setting}
use Rattle.ftc_protocol.specs.State.{ChainState, opening}
use Rattle.ftc_protocol.specs.Legal.{IsLegal}
use Rattle.ftc_protocol.specs.Next.{next}
use Rattle.ftc_protocol.specs.Run.{AreLegal, IsRunState, state_after}

-- a part of a run up to some event is a run, and the rest goes on from there
pub first_legal : (c : Setting) (before after : List Event) (s : ChainState) → AreLegal c s (before ++ after)
    → AreLegal c s before
first_legal c [] after s legal = tt
first_legal c (event ∷ before) after s legal = (legal.0, first_legal c before after (next c s event) legal.1)

pub rest_legal : (c : Setting) (before after : List Event) (s : ChainState) → AreLegal c s (before ++ after)
    → AreLegal c (state_after c s before) after
rest_legal c [] after s legal = legal
rest_legal c (event ∷ before) after s legal = rest_legal c before after (next c s event) legal.1

pub joined_legal : (c : Setting) (before after : List Event) (s : ChainState) → AreLegal c s before
    → AreLegal c (state_after c s before) after → AreLegal c s (before ++ after)
joined_legal c [] after s legal more = more
joined_legal c (event ∷ before) after s legal more = (
  legal.0,
  joined_legal c before after
      (next c s event) legal.1 more,
)

pub state_on : (c : Setting) (before after : List Event) (s : ChainState)
    → state_after c s (before ++ after) ≡ state_after c (state_after c s before) after
state_on c [] after s = refl
state_on c (event ∷ before) after s = state_on c before after (next c s event)

-- in a run no event is the first that isn't legal
pub legal_there : (c : Setting) (events : List Event) (s : ChainState) (place : ℕ) (event : Event) → AreLegal c s events
    → slice_get events place ≡ Some event → IsLegal c (state_after c s (take place events)) event
legal_there c [] s place event legal there = absurd (cc)
legal_there c (first ∷ events) s zero event legal there =
    let same : first ≡ event = cc in subst (IsLegal c s) same legal.0
legal_there c (first ∷ events) s (suc place) event legal there =
    legal_there c events (next c s first) place event legal.1 there

-- a run goes on by a legal event
pub run_next : (c : Setting) (s : ChainState) (e : Event) → IsRunState c s → IsLegal c s e → IsRunState c (next c s e)
run_next c s e r legal =
    let on : state_after c (opening c) (r.journal ++ e ∷ [])
    ≡ next c (state_after c (opening c) r.journal) e = state_on c r.journal (e ∷ []) (opening c) in
    record {
      right = r.right;
      journal = r.journal ++ e ∷ [];
      run = joined_legal c r.journal (e ∷ []) (opening c) r.run
          (subst (λ (x : ChainState). IsLegal c x e) (sym r.reaches) legal, tt);
      reaches = on ∙ ap (λ (x : ChainState). next c x e) r.reaches;
    }

-- a run and one event more
pub run_on : (c : Setting) (es : List Event) (e : Event) (s : ChainState) → AreLegal c s es
    → IsLegal c (state_after c s es) e → AreLegal c s (es ++ e ∷ [])
run_on c [] e s run legal = (legal, tt)
run_on c (x ∷ es) e s run legal = (run.0, run_on c es e (next c s x) run.1 legal)

pub next_on : (c : Setting) (es : List Event) (e : Event) (s : ChainState)
    → state_after c s (es ++ e ∷ []) ≡ next c (state_after c s es) e
next_on c [] e s = refl
next_on c (x ∷ es) e s = next_on c es e (next c s x)

-- The releases that are due, one after another.
use Rattle.std.proofs.Common.{◌≡◌, ◌∙◌, ◌++◌, [], ◌∷◌, ℕ, List, Result, Ok, Err, refl, sym, ap, subst, append-nil}
use Rattle.std.proofs.Common.{append_assoc}
use Rattle.std.specs.Prelude.{IsOk, OnOk}
use Rattle.ftc_base.specs.declared.released.Released.{Released}
use Rattle.ftc_journal.specs.declared.event.Event.{Event}
use Rattle.ftc_journal.specs.declared.event.Event.TheVariants.{Release}
use Rattle.ftc_network.specs.Stand.{IsNetwork}
use Rattle.ftc_protocol.specs.Drive.{IsNoneDue, AreReleases}
use Rattle.ftc_protocol.specs.Legal.{IsLegal}
use Rattle.ftc_protocol.specs.Moment.{released_in}
use Rattle.ftc_protocol.specs.Next.{next, bytes_withheld}
use Rattle.ftc_protocol.specs.Run.{IsRunState, AreLegal, state_after}
use Rattle.ftc_protocol.specs.Setting.{Setting}
use Rattle.ftc_protocol.specs.State.{ChainState, opening}
use Rattle.ftc_chain.specs.declared.course.Course.{Course}
use Rattle.ftc_chain.specs.Course.{IsCourse, HasReleased, state_by}
use Rattle.ftc_chain.specs.Outlet.{Outgoing, IsOutlet}
use Rattle.ftc_chain.proofs.Outlets.{one_waits}

-- what succeeds ends as it ends where it succeeds
pub when_ok : {A E : Type 0} (result : Result A E) (Fact : Type 0) → IsOk result → OnOk result Fact → Fact
when_ok (Ok value) Fact ok fact = fact
when_ok (Err fault) Fact ok fact = absurd cc

module _ (setting : Setting) where
  -- the state after one event more
  pub state_and : (state : ChainState) (events : List Event) (event : Event) →
      state_after setting state (events ++ event ∷ []) ≡ next setting (state_after setting state events) event
  state_and state [] event = refl
  state_and state (first ∷ events) event = state_and (next setting state first) events event

  pub legal_and : (state : ChainState) (events : List Event) (event : Event) → AreLegal setting state events →
      IsLegal setting (state_after setting state events) event → AreLegal setting state (events ++ event ∷ [])
  legal_and state [] event are is = (is, tt)
  legal_and state (first ∷ events) event are is = (are.0, legal_and (next setting state first) events event are.1 is)

  pub is_run_state : (course : Course) → IsCourse setting course →
      IsRunState setting (state_by setting course.journal.items)
  is_run_state course is = record { right = is.right; journal = course.journal.items; run = is.run; reaches = refl }

  -- some were made, and those that are still due come behind them
  pub record IsReleasing (first now : Course) : Type 0 where
    pub course_is : IsCourse setting now
    pub releases : List Event
    pub grown : now.journal.items ≡ first.journal.items ++ releases
    pub drained : now.outlet.drained ≡ first.outlet.drained
    pub through : (rest : List Event) → AreReleases setting (state_by setting now.journal.items) rest →
        AreReleases setting (state_by setting first.journal.items) (releases ++ rest)

  pub none_yet : (course : Course) → IsCourse setting course → IsReleasing course course
  none_yet course is = record {
    course_is = is;
    releases = [];
    grown = sym (append-nil course.journal.items);
    drained = refl;
    through = λ rest are. are;
  }

  -- a course with one event more
  pub one_event : (now new : Course) (event : Event) → IsCourse setting now →
      IsLegal setting (state_by setting now.journal.items) event →
      new.journal.items ≡ now.journal.items ++ event ∷ [] →
      IsNetwork setting (next setting (state_by setting now.journal.items) event) new.network →
      IsOutlet (released_in (next setting (state_by setting now.journal.items) event).trace) new.outlet →
      IsCourse setting new
  one_event now new event is legal grown stands outlet =
      let reaches : state_by setting new.journal.items ≡ next setting (state_by setting now.journal.items) event =
      ap (state_by setting) grown ∙ state_and (opening setting) now.journal.items event in
      record {
        right = is.right;
        run = subst (AreLegal setting (opening setting)) (sym grown)
            (legal_and (opening setting) now.journal.items event is.run legal);
        stands = subst (λ (s : ChainState). IsNetwork setting s new.network) (sym reaches) stands;
        outlet = subst (λ (s : ChainState). IsOutlet (released_in s.trace) new.outlet) (sym reaches) outlet;
      }

  -- one release more
  pub one_more : (first now new : Course) (packet : ℕ) (bytes : List ℕ) → IsReleasing first now →
      IsLegal setting (state_by setting now.journal.items) (Release packet) →
      bytes_withheld ((state_by setting now.journal.items).withheld packet) ≡ bytes →
      new.journal.items ≡ now.journal.items ++ Release packet ∷ [] →
      IsNetwork setting (next setting (state_by setting now.journal.items) (Release packet)) new.network →
      new.outlet.waiting ≡ now.outlet.waiting ++ record { packet = packet; bytes = bytes } ∷ [] →
      new.outlet.drained ≡ now.outlet.drained → IsReleasing first new
  one_more first now new packet bytes is legal same grown stands waiting drained =
      let event : Event = Release packet in
      let state : ChainState = state_by setting now.journal.items in
      let one : Released = record { packet = packet; bytes = bytes_withheld (state.withheld packet) } in
      let outlet : IsOutlet (released_in (next setting state event).trace) new.outlet =
      one_waits (released_in state.trace) now.outlet new.outlet one
      (waiting ∙ ap (λ (b : List ℕ). now.outlet.waiting ++ record { packet = packet; bytes = b } ∷ []) (sym same))
      drained is.course_is.outlet in
      record {
        course_is = one_event now new event is.course_is legal grown stands outlet;
        releases = is.releases ++ event ∷ [];
        grown = grown ∙ (ap (λ (l : List Event). l ++ event ∷ []) is.grown
            ∙ append_assoc first.journal.items is.releases (event ∷ []));
        drained = drained ∙ is.drained;
        through = λ rest are.
            let reaches : state_by setting new.journal.items ≡ next setting state event =
            ap (state_by setting) grown ∙ state_and (opening setting) now.journal.items event in
            subst (AreReleases setting (state_by setting first.journal.items))
            (sym (append_assoc is.releases (event ∷ []) rest))
            (is.through (event ∷ rest)
            (refl, legal, subst (λ (s : ChainState). AreReleases setting s rest) reaches are));
      }

  -- none is due any more
  pub all_made : (first now new : Course) → IsReleasing first now → new.journal.items ≡ now.journal.items →
      new.outlet ≡ now.outlet → IsNoneDue setting (state_by setting now.journal.items) →
      IsNetwork setting (state_by setting now.journal.items) new.network → HasReleased setting first new
  all_made first now new is same same_outlet none stands = record {
    releases = is.releases;
    due = subst (AreReleases setting (state_by setting first.journal.items)) (append-nil is.releases)
        (is.through [] none);
    grown = same ∙ is.grown;
    drained = ap (λ (outlet : Outgoing). outlet.drained) same_outlet ∙ is.drained;
    course_is = record {
      right = is.course_is.right;
      run = subst (AreLegal setting (opening setting)) (sym same) is.course_is.run;
      stands = subst (λ (l : List Event). IsNetwork setting (state_by setting l) new.network) (sym same) stands;
      outlet = subst (λ (l : List Event). IsOutlet (released_in (state_by setting l).trace) new.outlet) (sym same)
          (subst (IsOutlet (released_in (state_by setting now.journal.items).trace)) (sym same_outlet)
          is.course_is.outlet);
    };
  }

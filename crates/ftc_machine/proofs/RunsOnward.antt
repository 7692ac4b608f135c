-- What is so of a run whose state is kept.
use Rattle.std.proofs.Common.{◌≡◌, ℕ, zero, suc, ◌+◌, ◌↔◌, ◌++◌, Bool, true, false, List, [], ◌∷◌, length, map}
use Rattle.std.proofs.Common.{refl, sym, ap, subst, ◌∙◌, arith}
use Rattle.std.specs.List.{range_with_len}
use Rattle.std.proofs.Math.Logic.{∥∥₁_map, ∥∥₁_elim}
use Rattle.std.proofs.lemmas.Bool.{true≢false}
use Rattle.ftc_journal.specs.declared.event.Event.{Event}
use Rattle.ftc_script.specs.Script.{ScriptShape}
use Rattle.std.specs.Coded.{Coded-set, coded_list, coded_ℕ}
use Rattle.ftc_ring.specs.Ring.{RingShape}
use Rattle.ftc_protocol.specs.contracts.fate.Fate as contract
use Rattle.ftc_protocol.specs.declared.fate.Fate.{Fate}
use Rattle.ftc_machine.specs.declared.state.MachineState.{MachineState}
use Rattle.ftc_protocol.specs.Setting.{Setting, count}
use Rattle.ftc_protocol.specs.State.{ChainState, opening}
use Rattle.ftc_protocol.specs.Run.{IsFinished, state_after}
use Rattle.ftc_protocol.specs.Fates.{fates_in}
use Rattle.ftc_machine.specs.Represents.{AreInputs, RepresentsRun, fate_in}
use Rattle.ftc_machine.specs.RunSoFar.{IsRunSoFar}
use Rattle.ftc_machine.specs.EndTest.{is_done}
use Rattle.ftc_machine.specs.Simulation.{SimulatesEvent}
use Rattle.ftc_machine.specs.Represents.{Represents, FollowsRun, RepresentsSame}
use Rattle.ftc_protocol.specs.Legal.{IsLegal}
use Rattle.ftc_protocol.specs.Next.{next}
use Rattle.ftc_protocol.proofs.RunLists.{run_on, next_on}
use Rattle.ftc_protocol.specs.Setting.{IsSetting}
use Rattle.ftc_protocol.specs.Run.{IsRun}
use Rattle.ftc_protocol.specs.Finish.{IsComplete}
use Rattle.ftc_protocol.proofs.OrderlyStates.{count_on, counted}
use Rattle.ftc_machine.specs.Lawful.{IsLawful}
use Rattle.ftc_machine.proofs.EndOfRun.{done_finished, complete_done}

module _ (c : Setting) (journal : List Event) (k : MachineState) where
  pub stands : IsRunSoFar c journal k → RepresentsRun c (state_after c (opening c) journal) k
  stands played = record {
    supposed = played.right;
    journal = journal;
    run = played.run;
    leads = refl;
    laws = played.laws;
    kept = played.kept_for;
  }

  lawful : IsRunSoFar c journal k → IsLawful c (state_after c (opening c) journal)
  lawful p = p.laws (state_after c (opening c) journal) (record {
    right = p.right;
    journal = journal;
    run = p.run;
    reaches = refl;
  })

  module _ (script : ScriptShape) (packets : ℕ) (given : AreInputs c script packets) where
    pub over : is_done k script packets ≡ true → ∥ IsRunSoFar c journal k ∥₁ →
        ∥ IsFinished c (state_after c (opening c) journal) ∥₁
    over is played = ∥∥₁_map played
        (λ p. done_finished c p.right (state_after c (opening c) journal)
        (lawful p) k p.kept_for script packets given is)

    pub not_over : ((setting : Setting) → IsSetting setting → (events : List Event) → IsRun setting events →
        IsFinished setting (state_after setting (opening setting) events) →
        IsComplete setting (state_after setting (opening setting) events))
        → is_done k script packets ≡ false → ∥ IsRunSoFar c journal k ∥₁ →
        IsFinished c (state_after c (opening c) journal) → ⊥
    not_over complete isnt played finished = ∥∥₁_elim played (λ x y. absurd x) (λ p.
        true≢false (sym (complete_done c p.right (state_after c (opening c) journal)
        (lawful p) k p.kept_for script packets given (complete c p.right journal p.run finished)) ∙ isnt))

  same_fates : (start more : ℕ) (s : ChainState) → ((packet : ℕ) → fate_in k.fates packet ≡ s.fate packet) →
      map (fate_in k.fates) (range_with_len start more) ≡ map s.fate (range_with_len start more)
  same_fates start zero s each = refl
  same_fates start (suc more) s each =
      ap (λ (fate : Fate). fate ∷ map (fate_in k.fates) (range_with_len (start + 1) more)) (each start)
      ∙ ap (λ (fates : List Fate). s.fate start ∷ fates) (same_fates (start + 1) more s each)

  pub fates_are : (packets : ℕ) → count c ≡ packets → ∥ IsRunSoFar c journal k ∥₁ →
      map (fate_in k.fates) (range_with_len 0 packets) ≡ fates_in c (state_after c (opening c) journal)
  fates_are packets same played = ∥∥₁_elim played (Coded-set (coded_list contract.the_row.coded) _ _) (λ p.
      ap (λ n. map (fate_in k.fates) (range_with_len 0 n)) (sym same) ∙ same_fates 0 (count c)
      (state_after c (opening c) journal) p.kept_for.fates)

-- what is kept is of as many servers as the setting has rules
pub servers_of : (c : Setting) (journal : List Event) (k : MachineState) → ∥ IsRunSoFar c journal k ∥₁ →
    length c.rules ≡ k.ring.servers
servers_of c journal k played =
    ∥∥₁_elim played (Coded-set coded_ℕ _ _) (λ p. sym (ap (λ (ring : RingShape). ring.servers) p.kept_for.ring))

module _ (c : Setting) (journal : List Event) (k new : MachineState) where
  -- what stands still
  pub still : RepresentsSame k new → ∥ IsRunSoFar c journal k ∥₁ → ∥ IsRunSoFar c journal new ∥₁
  still same played = ∥∥₁_map played (λ p. record {
    right = p.right;
    run = p.run;
    laws = p.laws;
    kept_for = same c (state_after c (opening c) journal) p.kept_for;
  })

module _ (c : Setting) (journal : List Event) (k : MachineState) (script : ScriptShape) (packets : ℕ)
    (given : AreInputs c script packets) (event : Event) (said : Bool)
    (right : (setting : Setting) (state : ChainState) → RepresentsRun setting state k → AreInputs setting script packets
    → (said ≡ true) ↔ IsLegal setting state event) where
  says : IsRunSoFar c journal k → (said ≡ true) ↔ IsLegal c (state_after c (opening c) journal) event
  says p = right c (state_after c (opening c) journal) (stands c journal k p) given

  -- an event that is said not to be legal isn't, and one that is said to be legal is
  pub illegal : said ≡ false → ∥ IsRunSoFar c journal k ∥₁ → IsLegal c (state_after c (opening c) journal) event → ⊥
  illegal isnt played legal =
      ∥∥₁_elim played (λ x y. absurd x) (λ p. true≢false (sym ((says p).1 legal) ∙ isnt))

  pub legal : said ≡ true → ∥ IsRunSoFar c journal k ∥₁ → ∥ IsLegal c (state_after c (opening c) journal) event ∥₁
  legal is played = ∥∥₁_map played (λ p. (says p).0 is)

  -- what it does to what is kept makes the run longer by the event
  pub goes_on : (new : MachineState) (now : ℕ) → said ≡ true → now ≡ length journal
      → ((state : ChainState) → now ≡ state.events → SimulatesEvent c state event k new)
      → ∥ IsRunSoFar c journal k ∥₁ → ∥ IsRunSoFar c (journal ++ event ∷ []) new ∥₁
  goes_on new now is time after played = ∥∥₁_map played (λ p.
      let state : ChainState = state_after c (opening c) journal in
      let follows : FollowsRun c state event = record {
        supposed = p.right;
        journal = journal;
        run = p.run;
        leads = refl;
        laws = p.laws;
        legal = (says p).0 is;
      } in
      record {
        right = p.right;
        laws = p.laws;
        run = run_on c journal event (opening c) p.run ((says p).0 is);
        kept_for = subst (λ (s : ChainState). Represents c s new) (sym (next_on c journal event (opening c)))
            (after state (time ∙ sym (counted c journal)) follows p.kept_for);
      })

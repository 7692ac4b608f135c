-- From what stands for a state to what is so of it.
use Rattle.std.proofs.Common.{◌≡◌, ℕ, ◌<◌, Bool, true, false, sym, ap, subst, ◌∙◌, ◌↔◌}
use Rattle.std.proofs.lemmas.Bool.{true≢false}
use Rattle.ftc_machine.specs.declared.state.MachineState.{MachineState}
use Rattle.ftc_protocol.specs.Setting.{Setting, servers}
use Rattle.ftc_protocol.specs.State.{ChainState}
use Rattle.ftc_machine.specs.Represents.{RepresentsRun}
use Rattle.ftc_machine.specs.RecoveryEffect.{IsLawfulRun}
use Rattle.ftc_machine.specs.Lawful.{IsLawful}

pub reached_by : {c : Setting} {s : ChainState} {k : MachineState} → RepresentsRun c s k → IsLawful c s
reached_by {c} {s} {k} stands =
    stands.laws s (record {
      right = stands.supposed;
      journal = stands.journal;
      run = stands.run;
      reaches = stands.leads;
    })

-- what a test says, its answer says
pub right_as : {said test : Bool} {P : Type 0} → said ≡ test → (test ≡ true) ↔ P → (said ≡ true) ↔ P
right_as {said} {test} {P} same right = (λ is. right.0 (sym same ∙ is), λ p. same ∙ right.1 p)

pub never : {P : Type 0} → (P → ⊥) → (false ≡ true) ↔ P
never {P} no_way = (λ wrong. absurd (true≢false (sym wrong)), λ p. absurd (no_way p))

-- the servers of what is kept are the chain's
pub is_below : {c : Setting} {s : ChainState} {k : MachineState} → RepresentsRun c s k → (server : ℕ) (said : Bool) →
    (said ≡ true) ↔ (server < k.ring.servers) → said ≡ true → server < servers c
is_below {c} {s} {k} stands server said tells is =
    subst (λ n. server < n) (ap (λ ring. ring.servers) stands.kept.ring) (tells.0 is)

pub isnt_below : {c : Setting} {s : ChainState} {k : MachineState} → RepresentsRun c s k → (server : ℕ) (said : Bool) →
    (said ≡ true) ↔ (server < k.ring.servers) → said ≡ false → server < servers c → ⊥
isnt_below {c} {s} {k} stands server said tells isnt below =
    true≢false (sym (tells.1 (subst (λ n. server < n) (sym (ap (λ ring. ring.servers) stands.kept.ring)) below)) ∙ isnt)

pub of_run : {c : Setting} {s : ChainState} {k : MachineState} → RepresentsRun c s k → IsLawfulRun c s
of_run {c} {s} {k} stands =
    record {
      supposed = stands.supposed;
      journal = stands.journal;
      run = stands.run;
      leads = stands.leads;
      laws = stands.laws;
    }

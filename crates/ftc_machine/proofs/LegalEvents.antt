-- What an event that may follow says of the state before it.
use Rattle.std.proofs.Common.{◌≡◌, ℕ, ◌<◌, ◌≤◌, List, [], ◌∷◌, inl, inr, arith}
use Rattle.ftc_base.specs.declared.ask.Write.{Write}
use Rattle.ftc_base.specs.Partition.{partition_of}
use Rattle.ftc_journal.specs.declared.event.Event.{Event}
use Rattle.ftc_serial.specs.Serial.{Entry, Visited, Given}
use Rattle.ftc_serial.specs.Take.{Outcome}
use Rattle.ftc_serial.specs.Words.{AnyOf}
use Rattle.ftc_protocol.specs.Changes.{Changes, changes}
use Rattle.ftc_machine.specs.declared.state.MachineState.{MachineState}
use Rattle.ftc_machine.specs.Represents.{Represents, FollowsRun}
use Rattle.ftc_machine.specs.Frontier.{IsChangingIn}
use Rattle.ftc_protocol.specs.Setting.{Setting, servers, IsSetting}
use Rattle.ftc_protocol.specs.State.{ChainState}
use Rattle.ftc_protocol.specs.Trace.{IsInTrace}
use Rattle.ftc_protocol.specs.Next.{next}
use Rattle.ftc_protocol.specs.Run.{IsRunState}
use Rattle.ftc_protocol.proofs.RunLists.{run_next}
use Rattle.ftc_machine.specs.Lawful.{IsLawful}
use Rattle.ftc_machine.proofs.LawfulStates.{serial_in}
use Rattle.ftc_machine.proofs.MergedFrontiers.{AreWithin}
use Rattle.ftc_protocol.proofs.ListStores.{stands_below}

-- a visit of the trace has some outcome
pub outcome_of : (P : Outcome → Type 0) (trace : List Entry) (server packet : ℕ) → IsInTrace P trace server packet →
    (outcome : Outcome) × P outcome
outcome_of P [] server packet there = absurd there
outcome_of P (Given other bytes ∷ older) server packet there =
    elim there [ inl here ↦ absurd here | inr below ↦ outcome_of P older server packet below ]
outcome_of P (Visited visited passed outcome ∷ older) server packet there =
    elim there [ inl here ↦ (outcome, here.2) | inr below ↦ outcome_of P older server packet below ]

-- a partition that something changes is one of so many
pub changes_within : (partitions : ℕ) (outcome : Outcome) (partition : ℕ) → 1 ≤ partitions →
    Changes partitions outcome partition → partition < partitions
unfolding changes
changes_within partitions outcome partition some any = among outcome.writes any
  where
    among : (writes : List Write) →
        AnyOf (λ (changed : ℕ). changed ≡ partition) (changes partitions (record outcome { writes = writes })) →
        partition < partitions
    among [] any = absurd any
    among (write ∷ writes) any = elim any [
      | inl here ↦ let less : partition_of partitions write.key < partitions =
          omega arith in let same : partition_of partitions write.key ≡ partition = here in omega arith
      | inr there ↦ among writes there
    ]

-- the visits of a trace that was reached are of the chain's servers
pub reached_below : (c : Setting) → IsSetting c → (s : ChainState) → IsLawful c s → (server packet partition : ℕ) →
    IsChangingIn c.partitions s.trace server packet partition → server < servers c
reached_below c is s r server packet partition changes =
    stands_below c is.ring.some (λ o. Changes c.partitions o partition) s.trace (serial_in c s r) server packet changes

-- of so few that a reach tells
pub reached_within : (c : Setting) → IsSetting c → (s : ChainState) → IsLawful c s → (k : MachineState) →
    Represents c s k → AreWithin c.partitions s.trace
reached_within c setting s r k is = let some = k.some_partition in let few = k.few_partitions in let same =
    is.partitions in record {
      server = λ server packet partition changes. let below : server < servers c =
          reached_below c setting s r server packet partition changes in let most = setting.ring.servers in omega arith;
      partition = λ server packet partition changes.
          let found = outcome_of (λ o. Changes c.partitions o partition) s.trace server packet changes in
          let less : partition < c.partitions = changes_within c.partitions found.0 partition (omega arith) found.1 in
          omega arith;
    }

module _ (c : Setting) (s : ChainState) (event : Event) (may : FollowsRun c s event) where
  leads : IsRunState c s
  leads = record { right = may.supposed; journal = may.journal; run = may.run; reaches = may.leads }

  pub reached_before : IsLawful c s
  reached_before = may.laws s leads

  pub reached_after : IsLawful c (next c s event)
  reached_after = may.laws (next c s event) (run_next c s event leads may.legal)

  pub visits_below : (server packet partition : ℕ) → IsChangingIn c.partitions s.trace server packet partition →
      server < servers c
  visits_below = reached_below c may.supposed s reached_before

  pub visits_within : (k : MachineState) → Represents c s k → AreWithin c.partitions s.trace
  visits_within k is = reached_within c may.supposed s reached_before k is

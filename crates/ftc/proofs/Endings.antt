-- How the ends of commands come about, and what they are where the desk made no fault.
use Rattle.std.proofs.Common.{◌≡◌, ◌⊎◌, inl, inr, refl}
use Rattle.ftc.specs.declared.status.Status.{Status}
use Rattle.ftc.specs.declared.status.Status.TheVariants as status
use Rattle.ftc.specs.Ending.{EndsAs}

module _ (sound done : Type 0) (IsRefused : Status → Type 0) (same cut : Type 0) where
  -- a refusal, which is never that the command is done, is how it ends
  pub refused_ends : (IsRefused status.Done → ⊥) → (ending : Status) → IsRefused ending → same →
      EndsAs sound done IsRefused same cut ending
  refused_ends not status.Done refused as_before = absurd (not refused)
  refused_ends not status.Usage refused as_before = (refused, as_before)
  refused_ends not (status.Chain line cause) refused as_before = (refused, as_before)
  refused_ends not (status.Capture at cause) refused as_before = (refused, as_before)
  refused_ends not (status.Script line cause) refused as_before = (refused, as_before)
  refused_ends not (status.Schedule line cause) refused as_before = (refused, as_before)
  refused_ends not (status.Ports cause) refused as_before = (refused, as_before)
  refused_ends not (status.Journal line cause) refused as_before = (refused, as_before)
  refused_ends not (status.Beats line cause) refused as_before = (refused, as_before)
  refused_ends not (status.Check verdict) refused as_before = (refused, as_before)
  refused_ends not status.DeskFault refused as_before = inl (refused, as_before)
  refused_ends not status.NoMemory refused as_before = inl as_before

  -- where texts are refused for want of memory alone, a command without a fault of the desk is done, or wanted memory
  pub done_or_memory : ((ending : Status) → (ending ≡ status.DeskFault → ⊥) → IsRefused ending →
      ending ≡ status.NoMemory) → (ending : Status) → EndsAs sound done IsRefused same cut ending →
      (ending ≡ status.DeskFault → ⊥) → (ending ≡ status.Done) ⊎ (ending ≡ status.NoMemory)
  done_or_memory once status.Done ends no-fault = inl refl
  done_or_memory once status.Usage ends no-fault = inr (once status.Usage no-fault ends.0)
  done_or_memory once (status.Chain line cause) ends no-fault = inr (once (status.Chain line cause) no-fault ends.0)
  done_or_memory once (status.Capture at cause) ends no-fault = inr (once (status.Capture at cause) no-fault ends.0)
  done_or_memory once (status.Script line cause) ends no-fault = inr (once (status.Script line cause) no-fault ends.0)
  done_or_memory once (status.Schedule line cause) ends no-fault =
      inr (once (status.Schedule line cause) no-fault ends.0)
  done_or_memory once (status.Ports cause) ends no-fault = inr (once (status.Ports cause) no-fault ends.0)
  done_or_memory once (status.Journal line cause) ends no-fault = inr (once (status.Journal line cause) no-fault ends.0)
  done_or_memory once (status.Beats line cause) ends no-fault = inr (once (status.Beats line cause) no-fault ends.0)
  done_or_memory once (status.Check verdict) ends no-fault = inr (once (status.Check verdict) no-fault ends.0)
  done_or_memory once status.DeskFault ends no-fault = absurd (no-fault refl)
  done_or_memory once status.NoMemory ends no-fault = inr refl

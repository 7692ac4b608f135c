-- The numbers of the replicas may rise, where there were fewer events than the greatest number of 64 bits.
use Rattle.std.proofs.Common.{◌≡◌, ◌∙◌, ◌<◌, ◌≤◌, ℕ, List, length, Option, Some, None, true, refl, sym, ap, subst}
use Rattle.std.proofs.Common.{arith}
use Rattle.std.specs.Prelude.{◌-◌, ◌^◌}
use Rattle.ftc_base.specs.declared.limits.TheConstants.{MOST_PARTITIONS}
use Rattle.ftc_journal.specs.declared.event.Event.{Event}
use Rattle.ftc_replica.specs.Held.{Held as Replicated}
use Rattle.ftc_serial.specs.Serial.{Entry}
use Rattle.ftc_vector.specs.Vector.{number_at}
use Rattle.ftc_vector.proofs.Partitions.{length-by_partition, get_or-by_partition}
use Rattle.ftc_protocol.specs.Setting.{Setting}
use Rattle.ftc_protocol.specs.State.{ChainState, opening}
use Rattle.ftc_protocol.specs.Run.{IsRunState, state_after}
use Rattle.ftc_ties.specs.Numbers.{Packets, count_of, vector_in}
use Rattle.ftc_server.specs.Replicas.{may_rise, may_rise_in}
use Rattle.ftc_standing.specs.Stand.{IsReplicaSlot}

-- what the laws say of vectors, of numbers and of the length of a trace
abbrev pub MayRiseBelow : Type 0
MayRiseBelow = (vector : List ℕ) → length vector ≡ MOST_PARTITIONS →
    ((partition : ℕ) → partition < MOST_PARTITIONS → number_at vector partition < 2 ^ 64 - 1) → may_rise vector ≡ true

abbrev pub AreFewNumbers : Type 0
AreFewNumbers = (partitions server partition : ℕ) (trace : List Entry) (packets : Packets) →
    count_of partitions trace server packets partition ≤ length trace

abbrev pub IsShort : Type 0
IsShort = (setting : Setting) (journal : List Event) →
    length (state_after setting (opening setting) journal).trace ≤ length journal

abbrev pub AreCounted : Type 0
AreCounted = (setting : Setting) (journal : List Event) →
    (state_after setting (opening setting) journal).events ≡ length journal

below : (number most journal events : ℕ) → number ≤ most → most ≤ journal → events ≡ journal → events < 2 ^ 64 - 1 →
    number < 2 ^ 64 - 1
below number most journal events first second same few = omega (arith, first, second, same, few)

module _ (rising : MayRiseBelow) (few : AreFewNumbers) (short : IsShort) (counted : AreCounted) (setting : Setting)
    (state : ChainState) (run : IsRunState setting state) (fewer : state.events < 2 ^ 64 - 1) where
  number_below : (group partition : ℕ) (packets : Packets) →
      count_of setting.partitions state.trace group packets partition < 2 ^ 64 - 1
  number_below group partition packets =
      below (count_of setting.partitions state.trace group packets partition) (length state.trace) (length run.journal)
      state.events (few setting.partitions group partition state.trace packets)
      (subst (λ (s : ChainState). length s.trace ≤ length run.journal) run.reaches (short setting run.journal))
      (subst (λ (s : ChainState). s.events ≡ length run.journal) run.reaches (counted setting run.journal)) fewer

  pub set_may_rise : (group : ℕ) (packets : Packets) →
      may_rise (vector_in setting.partitions state.trace group packets) ≡ true
  set_may_rise group packets =
      rising (vector_in setting.partitions state.trace group packets)
      (length-by_partition (count_of setting.partitions state.trace group packets))
      (λ partition within. subst (λ number. number < 2 ^ 64 - 1)
      (sym (get_or-by_partition (count_of setting.partitions state.trace group packets) partition 0 within))
      (number_below group partition packets))

  pub slot_may_rise : (server group : ℕ) (known : List (List ℕ)) (o : Option Replicated) →
      IsReplicaSlot setting state server known group o → may_rise_in o ≡ true
  slot_may_rise server group known None slot = refl
  slot_may_rise server group known (Some replica) slot =
      ap may_rise slot.2.vector ∙ set_may_rise group (state.lists server group)

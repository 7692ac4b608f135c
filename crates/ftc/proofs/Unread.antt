-- What is so where there is no command, or memory was refused before it was known.
use Rattle.std.proofs.Common.{◌≡◌, ◌↔◌, subst, inl, refl, List, Option, Some, None}
use Rattle.ftc_outside.specs.Desk.{Files}
use Rattle.ftc_outside.specs.Tap.{Face}
use Rattle.ftc_words.specs.Command.{Command, run, make, check, ports, watch}
use Rattle.ftc.specs.declared.status.Status.{Status}
use Rattle.ftc.specs.declared.status.Status.TheVariants as status
use Rattle.ftc.specs.Ended.{IsAnswer, HasEnded}

no_command_answers_usage : (command : Command) → IsAnswer (Some command) status.Usage → ⊥
no_command_answers_usage (run names mode) answer = answer
no_command_answers_usage (make packets seed capture) answer = answer
no_command_answers_usage (check names) answer = answer
no_command_answers_usage (ports chain capture journal server) answer = answer
no_command_answers_usage (watch limit chain capture beats script) answer = answer

-- where a command is asked for, how it ends is not that the words are none
pub usage_without_command : (asked : Option Command) (command : Command) (ending : Status) → Some command ≡ asked →
    IsAnswer (Some command) ending → (ending ≡ status.Usage) ↔ (asked ≡ None)
usage_without_command asked command ending is answer = (
  λ same. absurd (no_command_answers_usage command (subst (IsAnswer (Some command)) same answer)),
  λ none. cc,
)

pub no_memory_answered : (command : Option Command) → IsAnswer command status.NoMemory
no_memory_answered None = tt
no_memory_answered (Some (run names mode)) = tt
no_memory_answered (Some (make packets seed capture)) = tt
no_memory_answered (Some (check names)) = tt
no_memory_answered (Some (ports chain capture journal server)) = tt
no_memory_answered (Some (watch limit chain capture beats script)) = tt

pub no_memory_ended : (sound : Type 0) (command : Option Command) (taps left : List Face) (files : Files) →
    HasEnded sound command taps left files files status.NoMemory
no_memory_ended sound None taps left files = λ name. refl
no_memory_ended sound (Some (run names mode)) taps left files = inl (λ name. refl)
no_memory_ended sound (Some (make packets seed capture)) taps left files = inl (λ name. refl)
no_memory_ended sound (Some (check names)) taps left files = (tt, λ name. refl)
no_memory_ended sound (Some (ports chain capture journal server)) taps left files = inl (λ name. refl)
no_memory_ended sound (Some (watch limit chain capture beats script)) taps left files = inl (λ name. refl)

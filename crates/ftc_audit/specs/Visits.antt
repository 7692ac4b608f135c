-- The visits of a serial run, with the packet that each was of.
use Rattle.std.specs.Prelude.{◌≡◌, ℕ, List, [], ◌∷◌, ◌++◌, length, Option, Some, None}
use Rattle.std.specs.List.{AllByRecursion}
use Rattle.ftc_packet.specs.Layout.{AreBytes}
use Rattle.ftc_mbox.specs.declared.rule.Rule.{Rule}
use Rattle.ftc_serial.specs.declared.position.Position.{Position}
use Rattle.ftc_serial.specs.declared.position.Position.TheVariants as position
use Rattle.ftc_serial.specs.declared.step.Step.{Step}
use Rattle.ftc_serial.specs.Words.{AnyOf}
use Rattle.ftc_serial.specs.Take.{Outcome}
use Rattle.ftc_serial.specs.Serial.{State, Entry, Visited, Given, entry_of, after}

-- where it was, the packet's bytes before it, and what it did
pub record Seen : Type 0 where
  pub server : ℕ
  pub before : List ℕ
  pub outcome : Outcome

-- one of the visits of that server has this line, where a function tells the line of a visit
abbrev pub Gave : {Line : Type 0} → (Seen → Option Line) → ℕ → List Seen → Line → Type 0
Gave line_of server run line = AnyOf (λ seen. (seen.server ≡ server) × (line_of seen ≡ Some line)) run

-- each packet was of bytes, before its visit
abbrev pub AreOfBytes : List Seen → Type 0
AreOfBytes run = AllByRecursion (λ seen. AreBytes seen.before) run

-- the bytes of a packet that waits
abbrev pub waiting_bytes : Option Position → List ℕ
waiting_bytes (Some (position.Waiting server bytes)) = bytes
waiting_bytes (Some (position.Passed bytes)) = []
waiting_bytes (Some (position.Filtered server)) = []
waiting_bytes (Some position.Released) = []
waiting_bytes None = []

-- the visit that an entry is, from this state
abbrev pub seen_at : State → Entry → List Seen
seen_at state (Visited server packet outcome) =
    record { server = server; before = waiting_bytes (state.place packet); outcome = outcome } ∷ []
seen_at state (Given packet bytes) = []

-- the visits of some steps in order, up to the first step that isn't legal
abbrev pub visits : List Rule → State → List Step → List Seen
visits rules state [] = []
visits rules state (step ∷ steps) =
    elim (entry_of rules state step) [
      | None ↦ []
      | Some entry ↦ seen_at state entry ++ visits rules (after (length rules) state entry) steps
    ]

-- The port table of a translator: the outside ports that its visits in a run gave, and to whom.
use Rattle.std.specs.Prelude.{◌≡◌, ◌↔◌, ◌⊎◌, ℕ, List, map, slice_get, Some, IsSome}
use Rattle.std.specs.List.{AllByRecursion, Contains}
use Rattle.std.specs.List.Sorted.{IsStrictlyIncreasing}
use Rattle.ftc_nat.specs.declared.rule.NatRule.{NatRule}
use Rattle.ftc_mbox.specs.declared.rule.Rule.{Rule}
use Rattle.ftc_mbox.specs.declared.rule.Rule.TheVariants.{Nat}
use Rattle.ftc_serial.specs.declared.step.Step.{Step}
use Rattle.ftc_serial.specs.Words.{EachLater}
use Rattle.ftc_serial.specs.Serial.{serial_opening, serial_run}
use Rattle.ftc_serial.specs.Illegal.{IsFirstIllegal}
use Rattle.ftc_audit.specs.declared.line.PortLine.{PortLine}
use Rattle.ftc_audit.specs.declared.cause.PortsCause.{PortsCause}
use Rattle.ftc_audit.specs.declared.cause.PortsCause.TheVariants.{NotNat, BadStep}
use Rattle.ftc_audit.specs.Visits.{Seen, Gave, visits}
use Rattle.ftc_audit.specs.Ports.{port_line_of, SameInside}

-- It has the line of each visit that gave a port and no other line, each once, by rising outside port.
pub record IsPortTable (rule : NatRule) (server : ℕ) (run : List Seen) (lines : List PortLine) : Type 0 where
  pub given : (line : PortLine) → Contains lines line ↔ Gave (port_line_of rule) server run line
  pub rising : IsStrictlyIncreasing (map (λ (line : PortLine). line.outside) lines)

-- the middlebox of that server is a translator, and the lines are its port table in the serial run of these steps
pub record IsTableOf (rules : List Rule) (packets : List (List ℕ)) (steps : List Step) (server : ℕ)
    (lines : List PortLine) : Type 0 where
  pub rule : NatRule
  pub nat : slice_get rules server ≡ Some (Nat rule)
  pub run : IsSome (serial_run rules (serial_opening packets) steps)
  pub table : IsPortTable rule server (visits rules (serial_opening packets) steps) lines

-- the middlebox of that server is a translator
abbrev pub HasNat : List Rule → ℕ → Type 0
HasNat rules server = (rule : NatRule) × (slice_get rules server ≡ Some (Nat rule))

-- why there is no table: there is no translator, or there is one and that step is the first that isn't legal
abbrev pub IsCause : List Rule → List (List ℕ) → List Step → ℕ → PortsCause → Type 0
IsCause rules packets steps server NotNat = ¬ HasNat rules server
IsCause rules packets steps server (BadStep place) =
    HasNat rules server × IsFirstIllegal rules (serial_opening packets) steps place

-- no inside endpoint has two lines
abbrev pub AreApart : List PortLine → Type 0
AreApart lines = EachLater (λ one other. ¬ SameInside one other) lines

-- each line is of TCP or of UDP
abbrev pub AreNamed : List PortLine → Type 0
AreNamed lines = AllByRecursion (λ line. (line.protocol ≡ 6) ⊎ (line.protocol ≡ 17)) lines

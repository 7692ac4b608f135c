-- The trace of a run has a serial run.
use Rattle.std.proofs.Common.{◌≡◌, sym, subst, List, Option, refl}
use Rattle.std.proofs.Math.Logic.{∥∥₁_elim}
use Rattle.std.specs.Prelude.{IsSome}
use Rattle.std.specs.Coded.{coded_bool}
use denote.Struct.Props.{≡_prop}
use Rattle.ftc_journal.specs.declared.event.Event.{Event}
use Rattle.ftc_serial.specs.Serial.{State, serial_run, serial_opening}
use Rattle.ftc_serial.specs.Trace.{trace_of}
use Rattle.ftc_protocol.specs.Setting.{Setting, IsSetting}
use Rattle.ftc_protocol.specs.Run.{IsRun}
use Rattle.ftc_protocol.specs.Whole.{HasSerialRun}

some_once : {A : Type 0} (found : Option A) (x y : IsSome found) → x ≡ y
some_once found = ≡_prop coded_bool _ _

pub has_end : (c : Setting) (journal : List Event) →
    ((setting : Setting) → IsSetting setting → (journal : List Event) → IsRun setting journal →
    HasSerialRun setting journal) → ∥ IsSetting c ∥₁ → ∥ IsRun c journal ∥₁ →
    IsSome (serial_run c.rules (serial_opening c.packets) (trace_of journal))
has_end c journal law setting run =
    ∥∥₁_elim setting (some_once _) (λ is. ∥∥₁_elim run (some_once _) (λ legal.
    let found : HasSerialRun c journal = law c is journal legal in
    subst (λ (o : Option State). IsSome o) (sym found.exists) refl))

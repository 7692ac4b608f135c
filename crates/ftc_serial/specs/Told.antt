-- What a visit does, as the program says it.
use Rattle.ftc_serial.specs.Take.{Outcome}
use Rattle.ftc_serial.specs.declared.visit.Told.{Told}

abbrev pub outcome_of : Told → Outcome
outcome_of told = record { answers = told.answers.items; writes = told.writes.items; packet = told.packet }

-- What a desk over real files shows: how many of its calls failed.
use Rattle.std.specs.Prelude.{ℕ}
use Rattle.ftc_outside.specs.declared.files.FileDesk.{FileDesk}

abbrev pub file_faults : {R File Dir : Type 0} → FileDesk R File Dir → ℕ
file_faults desk = desk.faults

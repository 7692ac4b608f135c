-- The numbers of the causes.
use Rattle.std.specs.Prelude.{ℕ}
use Rattle.ftc_script.specs.declared.fault.ScriptCause.{ScriptCause}
use Rattle.ftc_script.specs.declared.fault.ScriptCause.TheVariants.{Word, Order, Past, NotUp, NotDown, GroupGone}
use Rattle.ftc_script.specs.declared.fault.ScriptCause.TheVariants.{LeftDown, Link, TooLong}

abbrev pub code_of : ScriptCause → ℕ
code_of Word = 1
code_of Order = 2
code_of Past = 3
code_of NotUp = 4
code_of NotDown = 5
code_of (GroupGone group) = 6
code_of (LeftDown server) = 7
code_of Link = 8
code_of TooLong = 9

-- The writes of logs that are pulled.
use Rattle.std.specs.Prelude.{List, [], ◌∷◌, ◌++◌}
use Rattle.ftc_base.specs.declared.ask.Write.{Write}
use Rattle.ftc_message.specs.Logged.{Logged}
pub use Rattle.ftc_replica.specs.InTurn.{applied_all, AreReadyInTurn}

-- the writes of the logs, those of the first log first
abbrev pub writes_of : List Logged → List Write
writes_of [] = []
writes_of (log ∷ logs) = log.writes ++ writes_of logs

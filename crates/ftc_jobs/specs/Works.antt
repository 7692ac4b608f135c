-- The work of a message at a server that may be down.
use Rattle.std.specs.Prelude.{ℕ, Option, Some, None}
use Rattle.ftc_server.specs.declared.server.Server.{Server}
use Rattle.ftc_server.specs.declared.work.Work.{Work}
use Rattle.ftc_server.specs.Looks.{work_in}

abbrev pub work_at : Option Server → ℕ → Option Work
work_at None origin = None
work_at (Some server) origin = work_in server origin

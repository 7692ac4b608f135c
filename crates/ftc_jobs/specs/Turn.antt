-- Which work a server has first.
use Rattle.std.specs.Prelude.{ℕ, ◌≡◌, ◌<◌, true, None}
use Rattle.ftc_journal.specs.declared.job.Job.{Job}
use Rattle.ftc_message.specs.Logged.{logs_rise}
use Rattle.ftc_protocol.specs.Setting.{Setting}
use Rattle.ftc_protocol.specs.State.{Message, ChainState}
use Rattle.ftc_protocol.specs.Legal.{IsHeld}
use Rattle.ftc_protocol.specs.Jobs.{IsLegalJob, IsWork, IsNoWork, since_of}
use Rattle.ftc_server.specs.declared.held.HeldMessage.{HeldMessage}

-- the logs of a held message rise
abbrev pub IsRising : HeldMessage → Type 0
IsRising held = logs_rise None held.message.logs ≡ true

-- no message that the server holds has work
abbrev pub IsIdleAt : Setting → ChainState → ℕ → Type 0
IsIdleAt setting state server =
    (origin : ℕ) (message : Message) → IsHeld state server origin message → IsNoWork setting state server origin

-- the job is the work of a message that the server holds, and none that it took sooner has work
pub record IsFirstWork (setting : Setting) (state : ChainState) (server : ℕ) (job : Job) : Type 0 where
  pub origin : ℕ
  pub work : IsWork setting state server origin job
  pub before : (another : ℕ) (message : Message) → IsHeld state server another message →
      message.since < since_of (state.message origin) → IsNoWork setting state server another

abbrev pub IsNothingLegal : Setting → ChainState → Type 0
IsNothingLegal setting state = (job : Job) → IsLegalJob setting state job → ⊥

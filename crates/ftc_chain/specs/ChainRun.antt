-- What a contract sees of a chain: what it was given, its events so far, which released packets were taken out, and
-- what the head of each server has.
use Rattle.std.specs.Prelude.{ℕ, List, Option}
use Rattle.ftc_base.specs.declared.released.Released.{Released}
use Rattle.ftc_journal.specs.declared.event.Event.{Event}
use Rattle.ftc_mbox.specs.Chain.{Chain}
use Rattle.ftc_script.specs.Script.{ScriptShape}
use Rattle.ftc_protocol.specs.Moment.{released_in}
use Rattle.ftc_protocol.specs.Run.{state_after}
use Rattle.ftc_protocol.specs.Setting.{Setting, setting_of}
use Rattle.ftc_protocol.specs.State.{ChainState, opening}
use Rattle.ftc_txn.specs.Head.{HeadState}

pub record ChainRun : Type 0 where
  pub chain : Chain
  pub packets : List (List ℕ)
  pub script : ScriptShape
  pub journal : List Event
  pub drained : List Released
  -- by the server's number, none where it is down
  pub heads : List (Option HeadState)

abbrev pub setting_in : ChainRun → Setting
setting_in run = setting_of run.chain run.packets run.script

-- the state to which its events lead
abbrev pub chain_state : ChainRun → ChainState
chain_state run = state_after (setting_in run) (opening (setting_in run)) run.journal

-- the records that it released, in order
abbrev pub released_by : ChainRun → List Released
released_by run = released_in (chain_state run).trace

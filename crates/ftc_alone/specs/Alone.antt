-- What one thread makes of a run.
use Rattle.std.specs.Prelude.{◌≡◌, ◌++◌, List}
use Rattle.ftc_journal.specs.declared.event.Event.{Event}
use Rattle.ftc_chain.specs.ChainRun.{ChainRun, setting_in, chain_state}
use Rattle.ftc_protocol.specs.Drive.{IsPlay, IsFinish, IsDrive}
use Rattle.ftc_protocol.specs.Setting.{Setting}

-- its chain, packets and script are the same, and the same packets were taken out
abbrev pub IsSameGiven : ChainRun → ChainRun → Type 0
IsSameGiven old new = new ≡ record old { journal = new.journal; heads = new.heads }

-- these events come first in the whole
pub record IsFrontOf (whole front : List Event) : Type 0 where
  pub rest : List Event
  pub parts : whole ≡ front ++ rest

-- the events are a front of the journal with its finish
pub record IsInFinish (setting : Setting) (journal events : List Event) : Type 0 where
  pub whole : List Event
  pub finish : IsFinish setting journal whole
  pub front : IsFrontOf whole events

-- the events are a front of the schedule's drive
pub record IsInDrive (setting : Setting) (schedule events : List Event) : Type 0 where
  pub whole : List Event
  pub drive : IsDrive setting schedule whole
  pub front : IsFrontOf whole events

-- the schedule was played from the old run, and what came of that is behind the events of that run
pub record HasPlayed (schedule : List Event) (old new : ChainRun) : Type 0 where
  pub played : List Event
  pub play : IsPlay (setting_in old) (chain_state old) schedule played
  pub grown : new ≡ record old { journal = old.journal ++ played; heads = new.heads }

-- that is so of a front of the schedule
pub record HasPlayedSome (schedule : List Event) (old new : ChainRun) : Type 0 where
  pub done : List Event
  pub front : IsFrontOf schedule done
  pub played : HasPlayed done old new

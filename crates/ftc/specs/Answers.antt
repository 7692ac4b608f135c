-- What a command may answer at all, over any desk.
use Rattle.std.specs.Prelude.{◌≢◌}
use Rattle.ftc_check.specs.declared.verdict.Checked.TheVariants.{Yes}
use Rattle.ftc.specs.declared.status.Status.{Status}
use Rattle.ftc.specs.declared.status.Status.TheVariants as status

-- what the reading of a chain or a capture may answer in place of it
abbrev pub IsInputAnswer : Status → Type 0
IsInputAnswer (status.Chain line cause) = Unit {0}
IsInputAnswer (status.Capture at cause) = Unit {0}
IsInputAnswer status.DeskFault = Unit {0}
IsInputAnswer status.NoMemory = Unit {0}
IsInputAnswer other = ⊥

-- and what that of a script may
abbrev pub IsScriptAnswer : Status → Type 0
IsScriptAnswer (status.Script line cause) = Unit {0}
IsScriptAnswer status.DeskFault = Unit {0}
IsScriptAnswer status.NoMemory = Unit {0}
IsScriptAnswer other = ⊥

-- and what that of all three may
abbrev pub IsReadingAnswer : Status → Type 0
IsReadingAnswer (status.Chain line cause) = Unit {0}
IsReadingAnswer (status.Capture at cause) = Unit {0}
IsReadingAnswer (status.Script line cause) = Unit {0}
IsReadingAnswer status.DeskFault = Unit {0}
IsReadingAnswer status.NoMemory = Unit {0}
IsReadingAnswer other = ⊥

-- and what that of a journal may
abbrev pub IsJournalAnswer : Status → Type 0
IsJournalAnswer (status.Journal line cause) = Unit {0}
IsJournalAnswer status.DeskFault = Unit {0}
IsJournalAnswer status.NoMemory = Unit {0}
IsJournalAnswer other = ⊥

abbrev pub IsRunAnswer : Status → Type 0
IsRunAnswer status.Usage = ⊥
IsRunAnswer (status.Journal line cause) = ⊥
IsRunAnswer (status.Beats line cause) = ⊥
IsRunAnswer (status.Check verdict) = ⊥
IsRunAnswer (status.Ports cause) = ⊥
IsRunAnswer other = Unit {0}

abbrev pub IsCheckAnswer : Status → Type 0
IsCheckAnswer status.Usage = ⊥
IsCheckAnswer (status.Schedule line cause) = ⊥
IsCheckAnswer (status.Beats line cause) = ⊥
IsCheckAnswer (status.Check verdict) = verdict ≢ Yes
IsCheckAnswer (status.Ports cause) = ⊥
IsCheckAnswer other = Unit {0}

abbrev pub IsWatchAnswer : Status → Type 0
IsWatchAnswer status.Usage = ⊥
IsWatchAnswer (status.Script line cause) = ⊥
IsWatchAnswer (status.Schedule line cause) = ⊥
IsWatchAnswer (status.Journal line cause) = ⊥
IsWatchAnswer (status.Check verdict) = ⊥
IsWatchAnswer (status.Ports cause) = ⊥
IsWatchAnswer other = Unit {0}

-- a made capture is read from no file
abbrev pub IsMakeAnswer : Status → Type 0
IsMakeAnswer status.Done = Unit {0}
IsMakeAnswer status.DeskFault = Unit {0}
IsMakeAnswer status.NoMemory = Unit {0}
IsMakeAnswer other = ⊥

abbrev pub IsPortsAnswer : Status → Type 0
IsPortsAnswer status.Usage = ⊥
IsPortsAnswer (status.Script line cause) = ⊥
IsPortsAnswer (status.Schedule line cause) = ⊥
IsPortsAnswer (status.Beats line cause) = ⊥
IsPortsAnswer (status.Check verdict) = ⊥
IsPortsAnswer other = Unit {0}

-- The script that a text spells, or its first fault.
use Rattle.std.specs.Prelude.{ℕ, ◌+◌, Bool, false, not, nat_le, nat_lt, List, [], ◌∷◌, ◌++◌, length, Option, Some, None}
use Rattle.std.specs.Prelude.{Result, Ok, Err, if◌then◌else◌}
use Rattle.std.specs.List.{find, range_with_len, AllByRecursion}
use Rattle.ftc_base.specs.Text.{lines_of, words_of}
use Rattle.ftc_base.specs.declared.limits.TheConstants.{MOST_SCRIPT_BYTES}
use Rattle.ftc_ring.specs.Ring.{RingShape}
use Rattle.ftc_ring.specs.Live.{gone_of}
use Rattle.ftc_script.specs.declared.fault.ScriptCause.{ScriptCause}
use Rattle.ftc_script.specs.declared.fault.ScriptCause.TheVariants.{Order, Past, NotUp, NotDown, GroupGone, LeftDown}
use Rattle.ftc_script.specs.declared.fault.ScriptCause.TheVariants.{Link, TooLong}
use Rattle.ftc_script.specs.declared.fault.ScriptFault.{ScriptFault}
use Rattle.ftc_script.specs.declared.line.ScriptLine.{ScriptLine}
use Rattle.ftc_script.specs.declared.line.ScriptLine.TheVariants.{Crash, Recover}
use Rattle.ftc_script.specs.declared.line.LoseLine.{LoseLine}
use Rattle.ftc_script.specs.declared.statement.Statement.{Statement}
use Rattle.ftc_script.specs.declared.statement.Statement.TheVariants as said
use Rattle.ftc_script.specs.Steps.{all_live, with_at, live_after_all, last_of, AreSteps}
use Rattle.ftc_script.specs.Script.{ScriptShape, IsLose}
use Rattle.ftc_base.specs.Reading.{◌>>=◌, ◌>>◌, unless}
use Rattle.ftc_script.specs.Words.{statement_of}

-- the lines so far
pub record ScriptDraft : Type 0 where
  pub steps : List ScriptLine
  pub loses : List LoseLine

abbrev pub no_lines : ScriptDraft
no_lines = record { steps = []; loses = [] }

-- which servers are live behind these lines
abbrev pub live_in : ScriptDraft → ℕ → Bool
live_in draft = live_after_all all_live draft.steps

abbrev pub with_step : ScriptDraft → ScriptLine → ScriptDraft
with_step draft step = record { steps = draft.steps ++ step ∷ []; loses = draft.loses }

abbrev pub with_lose : ScriptDraft → LoseLine → ScriptDraft
with_lose draft line = record { steps = draft.steps; loses = draft.loses ++ line ∷ [] }

-- the ring has the server
abbrev pub server_in : RingShape → ℕ → Result ℕ ScriptCause
server_in ring number = unless (nat_lt number ring.servers) Link >> Ok number

-- a step of a server of the ring, when no more packets have entered than there are, and not before the last step
abbrev pub in_turn : RingShape → ℕ → ℕ → ℕ → ℕ → Result ℕ ScriptCause
in_turn ring packets last at number =
    server_in ring number >>= λ server. unless (nat_le at packets) Past >> unless (nat_le last at) Order >> Ok server

-- each group has a live member
abbrev pub unless_gone : Option ℕ → Result (Unit {0}) ScriptCause
unless_gone None = Ok tt
unless_gone (Some group) = Err (GroupGone group)

abbrev pub may_crash : RingShape → (ℕ → Bool) → ℕ → Result (Unit {0}) ScriptCause
may_crash ring live server = unless (live server) NotUp >> unless_gone (gone_of ring (with_at live server false))

abbrev pub may_recover : (ℕ → Bool) → ℕ → Result (Unit {0}) ScriptCause
may_recover live server = unless (not (live server)) NotDown

-- a link of the ring, and a packet of the capture
abbrev pub lose_line : RingShape → ℕ → ℕ → ℕ → ℕ → Result LoseLine ScriptCause
lose_line ring packets place number origin =
    server_in ring number >>= λ link. unless (nat_lt origin packets) Past >> Ok (record {
      line = place;
      link = link;
      origin = origin;
    })

-- the crash of a server, in its turn
abbrev pub crash_step : RingShape → ℕ → ScriptDraft → ℕ → ℕ → Result ScriptLine ScriptCause
crash_step ring packets draft at number =
    in_turn ring packets (last_of 0 draft.steps) at number >>= λ server.
    may_crash ring (live_in draft) server >> Ok (Crash at server)

-- the recovery of a server, in its turn
abbrev pub recover_step : RingShape → ℕ → ScriptDraft → ℕ → ℕ → Result ScriptLine ScriptCause
recover_step ring packets draft at number =
    in_turn ring packets (last_of 0 draft.steps) at number >>= λ server.
    may_recover (live_in draft) server >> Ok (Recover at server)

-- the lines with one more, which stands at that place
abbrev pub add : RingShape → ℕ → ScriptDraft → ℕ → Statement → Result ScriptDraft ScriptCause
add ring packets draft place said.Nothing = Ok draft
add ring packets draft place (said.Crash at number) = crash_step ring packets draft at number >>= λ step.
    Ok (with_step draft step)
add ring packets draft place (said.Recover at number) = recover_step ring packets draft at number >>= λ step.
    Ok (with_step draft step)
add ring packets draft place (said.Lose link origin) = lose_line ring packets place link origin >>= λ line.
    Ok (with_lose draft line)

abbrev pub line_step : RingShape → ℕ → ScriptDraft → ℕ → List ℕ → Result ScriptDraft ScriptCause
line_step ring packets draft place line = statement_of (words_of line) >>= λ statement.
    add ring packets draft place statement

-- a cause becomes a fault at its line
abbrev pub fault_at : {A : Type 0} → ℕ → ScriptCause → Result A ScriptFault
fault_at line cause = Err (record { line = line; cause = cause })

abbrev pub placed : {A : Type 0} → ℕ → Result A ScriptCause → Result A ScriptFault
placed line (Ok value) = Ok value
placed line (Err cause) = fault_at line cause

-- the smallest server that is down, among so many
abbrev pub down_of : ℕ → (ℕ → Bool) → Option ℕ
down_of count live = find (λ server. not (live server)) (range_with_len 0 count)

-- the script where no line is left; the place is behind the last line
abbrev pub finished : RingShape → ℕ → ScriptDraft → ℕ → Option ℕ → Result ScriptShape ScriptFault
finished ring packets draft place None =
    Ok (record { ring = ring; packets = packets; steps = draft.steps; loses = draft.loses })
finished ring packets draft place (Some server) = fault_at place (LeftDown server)

abbrev pub finish : RingShape → ℕ → ScriptDraft → ℕ → Result ScriptShape ScriptFault
finish ring packets draft place = finished ring packets draft place (down_of ring.servers (live_in draft))

-- the script of the lines that are left, the first of which stands at that place
abbrev pub script_from : RingShape → ℕ → Result ScriptDraft ScriptFault → ℕ → List (List ℕ) →
    Result ScriptShape ScriptFault
script_from ring packets (Err fault) place lines = Err fault
script_from ring packets (Ok draft) place [] = finish ring packets draft place
script_from ring packets (Ok draft) place (line ∷ lines) =
    script_from ring packets (placed place (line_step ring packets draft place line)) (place + 1) lines

-- the script that a text spells, or its first fault
abbrev pub script_of : RingShape → ℕ → List ℕ → Result ScriptShape ScriptFault
script_of ring packets text =
    if nat_lt MOST_SCRIPT_BYTES (length text) then fault_at 1 TooLong
    else script_from ring packets (Ok no_lines) 1 (lines_of text)

-- the lines so far are those of a script of which further lines may follow
pub record IsDraft (ring : RingShape) (packets : ℕ) (draft : ScriptDraft) : Type 0 where
  pub steps : AreSteps ring packets 0 all_live draft.steps
  pub loses : AllByRecursion (IsLose ring packets) draft.loses

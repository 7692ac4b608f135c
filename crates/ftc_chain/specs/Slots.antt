-- What the slots of a chain run, and what each call on them leaves.
use Rattle.std.specs.Prelude.{ℕ, ◌≡◌, ◌≢◌, ◌<◌, Bool, List, Option, Some, None, slice_index_or}
use Rattle.ftc_base.specs.declared.ask.Answer.{Answer}
use Rattle.ftc_base.specs.declared.limits.TheConstants.{MOST_SLOTS}
use Rattle.ftc_base.specs.declared.ask.Ask.{Ask}
use Rattle.ftc_base.specs.declared.ask.Ask.TheVariants as ask
use Rattle.ftc_base.specs.declared.ask.Finish.{Finish}
use Rattle.ftc_journal.specs.declared.job.Job.{Job}
use Rattle.ftc_journal.specs.declared.job.Job.TheVariants as job
use Rattle.ftc_mbox.specs.Ask.{ask as asked}
use Rattle.ftc_protocol.specs.Next.{message_bytes}
use Rattle.ftc_protocol.specs.Setting.{rule_at}
use Rattle.ftc_message.specs.Logged.{Logged}
use Rattle.ftc_server.specs.declared.answers.CommitAnswer.{CommitAnswer}
use Rattle.ftc_server.specs.declared.answers.CommitAnswer.TheVariants as commit
use Rattle.ftc_txn.specs.Head.{HeadState}
use Rattle.ftc_txn.specs.Slots.{Running}
use Rattle.ftc_txn.specs.Steps.{HeadReads, HasCommitted, HasHeadQuit, restarts}
use Rattle.ftc_txn.specs.declared.answers.ReadAnswer.{ReadAnswer}
use Rattle.ftc_txn.specs.declared.answers.ReadAnswer.TheVariants as read
use Rattle.ftc_network.specs.Slots.{runs_in, ages_left_in, is_running_in, IsIdleHead}
use Rattle.ftc_chain.specs.ChainRun.{ChainRun, setting_in, chain_state}
use Rattle.ftc_chain.specs.Course.{HasMade}

-- ---- what is read off

-- the head of a server, none where it is down
abbrev pub head_in : ChainRun → ℕ → Option HeadState
head_in run server = slice_index_or run.heads server None

-- what a worker's slot runs at a server
abbrev pub runs_at : ChainRun → ℕ → ℕ → Option Running
runs_at run worker server = runs_in (head_in run server) worker

-- no server runs anything in the worker's slot
abbrev pub IsIdle : ChainRun → ℕ → Type 0
IsIdle run worker = (server : ℕ) → runs_at run worker server ≡ None

-- nor in any worker's slot
abbrev pub AreIdle : ChainRun → Type 0
AreIdle run = (worker : ℕ) → worker < MOST_SLOTS → IsIdle run worker

-- some slot runs the packet at the server
abbrev pub is_running_at : ChainRun → ℕ → ℕ → Bool
is_running_at run server packet = is_running_in (head_in run server) packet

-- an age is left for a slot to begin at the server, and where that is down
abbrev pub ages_left_at : ChainRun → ℕ → Bool
ages_left_at run server = ages_left_in 18446744073709551615 (head_in run server)

-- the bytes of a packet inside the chain, as they are at the server that holds it
abbrev pub bytes_in : ChainRun → ℕ → List ℕ
bytes_in run packet = message_bytes ((chain_state run).message packet)

-- what the rule of a server asks after the answers of what a slot runs there
abbrev pub ask_at : ChainRun → ℕ → Running → Ask
ask_at run server running = asked (rule_at (setting_in run) server) (bytes_in run running.packet) running.answers

-- what a worker's slot runs has these answers
pub record Answered (run : ChainRun) (worker : ℕ) (answers : List Answer) : Type 0 where
  pub server : ℕ
  pub running : Running
  pub runs : runs_at run worker server ≡ Some running
  pub answers_are : answers ≡ running.answers

-- the bytes are those of the packet that a worker's slot runs; there are none where it runs nothing
abbrev pub Looks : ChainRun → ℕ → Option (List ℕ) → Type 0
Looks run worker None = IsIdle run worker
Looks run worker (Some bytes) = (server : ℕ) × (running : Running) × (runs_at run worker server ≡ Some running)
    × (bytes ≡ bytes_in run running.packet)

-- ---- what differs

-- nothing but heads
abbrev pub IsButHeads : ChainRun → ChainRun → Type 0
IsButHeads old new = new ≡ record old { heads = new.heads }

-- all heads are as they were
abbrev pub HeadsStay : ChainRun → ChainRun → Type 0
HeadsStay old new = (server : ℕ) → head_in new server ≡ head_in old server

-- those of all other servers are
abbrev pub OthersStay : ℕ → ChainRun → ChainRun → Type 0
OthersStay server old new = (other : ℕ) → other ≢ server → head_in new other ≡ head_in old other

-- the heads after a job other than a visit: a server that stops has none, one that begins anew has one whose slots run
-- nothing, and else they are as they were
abbrev pub HeadsAfter : Job → ChainRun → ChainRun → Type 0
HeadsAfter (job.Crash server) old new = (head_in new server ≡ None) × OthersStay server old new
HeadsAfter (job.Recover server) old new = IsIdleHead (head_in new server) × OthersStay server old new
HeadsAfter other old new = HeadsStay old new

-- a slot that runs something at a server, as that and its head were, and the head as it is
pub record IsAt (old new : ChainRun) (worker server : ℕ) (running : Running) (before after : HeadState) : Type 0 where
  pub head : head_in old server ≡ Some before
  pub runs : runs_at old worker server ≡ Some running
  pub now : head_in new server ≡ Some after
  pub others : OthersStay server old new

-- ---- reads

-- the head of the server at which the slot runs something answers; where that isn't wounded, its rule asks for the key
pub record HasReadAt (old new : ChainRun) (worker : ℕ) (key : List ℕ) (answer : ReadAnswer) : Type 0 where
  pub server : ℕ
  pub running : Running
  pub before : HeadState
  pub after : HeadState
  pub at : IsAt old new worker server running before after
  pub change : Bool
  pub asks : running.wounded ≡ None → ask_at old server running ≡ ask.Read key change
  pub head_reads : HeadReads before after worker key change answer
  pub rest : IsButHeads old new

-- the rule doesn't ask for the key
pub record IsUnasked (old : ChainRun) (worker : ℕ) (key : List ℕ) : Type 0 where
  pub server : ℕ
  pub running : Running
  pub runs : runs_at old worker server ≡ Some running
  pub unwounded : running.wounded ≡ None
  pub unasked : (change : Bool) → ask_at old server running ≡ ask.Read key change → ⊥

-- each answer to a read: when it comes, and what it leaves
abbrev pub ReadsAt : ChainRun → ChainRun → ℕ → List ℕ → ReadAnswer → Type 0
ReadsAt old new worker key read.NotAsked = IsUnasked old worker key × (new ≡ old)
ReadsAt old new worker key read.Idle = IsIdle old worker × (new ≡ old)
ReadsAt old new worker key answer = HasReadAt old new worker key answer

-- ---- commits

-- the slot runs something unwounded, and its rule says this after the slot's answers
pub record IsAsking (run : ChainRun) (worker : ℕ) (says : Ask) : Type 0 where
  pub server : ℕ
  pub running : Running
  pub runs : runs_at run worker server ≡ Some running
  pub unwounded : running.wounded ≡ None
  pub asks : ask_at run server running ≡ says

-- the visit of what the slot ran is made: its head commits the writes, and the run has the visit and the releases due
pub record HasCommittedAt (old new : ChainRun) (worker : ℕ) : Type 0 where
  pub server : ℕ
  pub running : Running
  pub before : HeadState
  pub after : HeadState
  pub at : IsAt old new worker server running before after
  pub unwounded : running.wounded ≡ None
  pub end : Finish
  pub asks : ask_at old server running ≡ ask.Finish end
  pub log : Option Logged
  pub head_commits : HasCommitted before after worker running end.writes.items log
  pub made : HasMade worker (job.Visit server running.packet) old new

-- another took a partition from the slot, which runs its visit anew
pub record HasRestarted (old new : ChainRun) (worker by : ℕ) : Type 0 where
  pub server : ℕ
  pub running : Running
  pub before : HeadState
  pub at : IsAt old new worker server running before (restarts before worker running)
  pub wounded : running.wounded ≡ Some by
  pub rest : IsButHeads old new

-- each answer to a commit: when it comes, and what it leaves
abbrev pub CommitsAt : ChainRun → ChainRun → ℕ → CommitAnswer → Type 0
CommitsAt old new worker commit.Done = HasCommittedAt old new worker
CommitsAt old new worker (commit.Wounded by) = HasRestarted old new worker by
CommitsAt old new worker commit.Idle = IsIdle old worker × (new ≡ old)
CommitsAt old new worker (commit.Unfinished key) =
    (change : Bool) × IsAsking old worker (ask.Read key change) × (new ≡ old)
CommitsAt old new worker commit.NoMemory = (end : Finish) × IsAsking old worker (ask.Finish end) × (new ≡ old)

-- ---- quits

-- where the slot ran something, its head has given that up; every other head is as it was
abbrev pub QuitsIn : Option HeadState → Option HeadState → ℕ → Type 0
QuitsIn (Some old) (Some new) worker = HasHeadQuit old new worker
QuitsIn (Some old) None worker = ⊥
QuitsIn None new worker = ⊥

pub record HasQuitAt (old new : ChainRun) (worker : ℕ) : Type 0 where
  pub quits : (server : ℕ) → runs_at old worker server ≢ None → QuitsIn (head_in old server) (head_in new server) worker
  pub others : (server : ℕ) → runs_at old worker server ≡ None → head_in new server ≡ head_in old server
  pub rest : IsButHeads old new

-- All legal jobs.
use Rattle.std.specs.Prelude.{ℕ, ◌≡◌, ◌≢◌, ◌++◌, ◌↔◌, ⊤, Bool, false, List}
use Rattle.ftc_journal.specs.declared.job.Job.{Job}
use Rattle.ftc_journal.specs.declared.job.Job.TheVariants as kind
use Rattle.ftc_message.specs.Logged.{Logged}
use Rattle.ftc_serial.specs.Words.{AnyOf, EachLater}
use Rattle.ftc_protocol.specs.Setting.{Setting}
use Rattle.ftc_protocol.specs.State.{ChainState}
use Rattle.ftc_protocol.specs.Jobs.{IsLegalJob}
use Rattle.ftc_network.specs.declared.network.Network.{Network}
use Rattle.ftc_network.specs.Slots.{head_at, is_running_in}

-- some slot runs the packet at the server
abbrev pub is_running_by : Network → ℕ → ℕ → Bool
is_running_by network server packet = is_running_in (head_at network server) packet

-- it isn't a visit that a slot runs
abbrev pub IsUntaken : (ℕ → ℕ → Bool) → Job → Type 0
IsUntaken runs (kind.Visit server packet) = runs server packet ≡ false
IsUntaken runs other = ⊤

-- the jobs of the list are those that are legal and that no slot runs, each once
pub record AreJobs (runs : ℕ → ℕ → Bool) (setting : Setting) (state : ChainState) (jobs : List Job) : Type 0 where
  pub each : (job : Job) →
      AnyOf (λ (other : Job). other ≡ job) jobs ↔ (IsLegalJob setting state job × IsUntaken runs job)
  pub once : EachLater (λ (one other : Job). one ≢ other) jobs

-- ---- those of a kind

pub record AreJobsOf (Of : Job → Type 0) (runs : ℕ → ℕ → Bool) (setting : Setting) (state : ChainState)
    (jobs : List Job) : Type 0 where
  pub each : (job : Job) →
      AnyOf (λ (other : Job). other ≡ job) jobs ↔ (Of job × (IsLegalJob setting state job × IsUntaken runs job))
  pub once : EachLater (λ (one other : Job). one ≢ other) jobs

-- the new list has them behind what the old one has
pub record HasJobsOf (Of : Job → Type 0) (runs : ℕ → ℕ → Bool) (setting : Setting) (state : ChainState)
    (old new : List Job) : Type 0 where
  pub more : List Job
  pub grown : new ≡ old ++ more
  pub are : AreJobsOf Of runs setting state more

-- a pull of the link, or a take from it
abbrev pub IsOfLink : ℕ → Job → Type 0
IsOfLink link (kind.Pull other) = other ≡ link
IsOfLink link (kind.Take other origin) = other ≡ link
IsOfLink link other = ⊥

abbrev pub IsOfLinks : Job → Type 0
IsOfLinks job = (link : ℕ) × IsOfLink link job

-- an apply of one of these logs, from the message of that origin at the server
abbrev pub IsOfLogs : ℕ → ℕ → List Logged → Job → Type 0
IsOfLogs server origin logs job =
    AnyOf (λ (log : Logged). job ≡ kind.Apply server origin log.group log.origin) logs

-- what a server does with the message of that origin
abbrev pub IsOfMessage : ℕ → ℕ → Job → Type 0
IsOfMessage server origin (kind.Apply at own group packet) = (at ≡ server) × (own ≡ origin)
IsOfMessage server origin (kind.Visit at packet) = (at ≡ server) × (packet ≡ origin)
IsOfMessage server origin (kind.Pass at own) = (at ≡ server) × (own ≡ origin)
IsOfMessage server origin (kind.Lose at own) = (at ≡ server) × (own ≡ origin)
IsOfMessage server origin (kind.Carry own) = (0 ≡ server) × (own ≡ origin)
IsOfMessage server origin other = ⊥

abbrev pub IsOfMessages : ℕ → Job → Type 0
IsOfMessages server job = (origin : ℕ) × IsOfMessage server origin job

-- the same, or its crash or recovery
abbrev pub IsOfServer : ℕ → Job → Type 0
IsOfServer server (kind.Crash at) = at ≡ server
IsOfServer server (kind.Recover at) = at ≡ server
IsOfServer server other = IsOfMessages server other

abbrev pub IsOfServers : Job → Type 0
IsOfServers job = (server : ℕ) × IsOfServer server job

abbrev pub IsEnter : Job → Type 0
IsEnter job = (packet : ℕ) × (job ≡ kind.Enter packet)

abbrev pub IsPropagate : Job → Type 0
IsPropagate job = (origin : ℕ) × (job ≡ kind.Propagate origin)

-- What a job does to a network.
use Rattle.std.specs.Prelude.{ℕ, ◌≡◌, ◌<◌, ◌-◌, ◌^◌, Bool, true, false, None, length}
use Rattle.ftc_journal.specs.declared.event.Event.{Event}
use Rattle.ftc_journal.specs.declared.job.Job.{Job}
use Rattle.ftc_journal.specs.declared.job.Job.TheVariants as job
use Rattle.ftc_protocol.specs.Jobs.{event_of, IsLegalJob}
use Rattle.ftc_protocol.specs.Next.{next}
use Rattle.ftc_protocol.specs.Run.{IsRunState}
use Rattle.ftc_protocol.specs.Setting.{Setting, setting_of}
use Rattle.ftc_protocol.specs.State.{ChainState}
use Rattle.ftc_serial.specs.Packets.{bytes_of_packets}
pub use Rattle.ftc_jobs.specs.Beside.{is_visit}
use Rattle.ftc_network.specs.declared.network.Network.{Network}
use Rattle.ftc_network.specs.Slots.{head_at, AreSameHeads, AreOtherHeads, IsIdleHead}
use Rattle.ftc_network.specs.Stand.{IsNetwork}
use Rattle.ftc_chain.specs.declared.given.Given.{Given}

abbrev pub setting_by : Given → Setting
setting_by given = setting_of given.spec.now (bytes_of_packets given.packets.now) given.script.now

-- the script was accepted for the ring of the chain and for as many packets
pub record ScriptFits (given : Given) : Type 0 where
  pub ring : given.script.now.ring
      ≡ record { servers = length given.spec.now.rules; failures = given.spec.now.failures }
  pub packets : given.script.now.packets ≡ length given.packets.now

-- its event is the job with nothing added: a visit takes a slot besides, a recovery a list
abbrev pub is_plain : Job → Bool
is_plain (job.Visit server packet) = false
is_plain (job.Recover server) = false
is_plain other = true

-- The job is legal in a state to which a run of few events leads, and for which the network stands.
pub record MayDo (setting : Setting) (job : Job) (network : Network) : Type 0 where
  pub state : ChainState
  pub run : IsRunState setting state
  pub legal : IsLegalJob setting state job
  pub few : state.events < 2 ^ 64 - 1
  pub stands : IsNetwork setting state network

-- What stood for a state in which the job is legal stands for the state after its event, which is this one.
abbrev pub HasDone : Setting → ℕ → Job → Event → Network → Network → Type 0
HasDone setting slot job event old new = (state : ChainState) → IsRunState setting state →
    IsLegalJob setting state job → IsNetwork setting state old →
    (event ≡ event_of setting state slot job) × ∥ IsNetwork setting (next setting state event) new ∥₁

-- the same where nothing is said of the event
abbrev pub IsDone : Setting → ℕ → Job → Network → Network → Type 0
IsDone setting slot job old new = (state : ChainState) → IsRunState setting state →
    IsLegalJob setting state job → IsNetwork setting state old →
    ∥ IsNetwork setting (next setting state (event_of setting state slot job)) new ∥₁

-- the heads after a job other than a visit: a server that stops has none, one that begins anew has one whose slots run
-- nothing, and else they are as they were
abbrev pub HeadsDone : Job → Network → Network → Type 0
HeadsDone (job.Crash server) old new = (head_at new server ≡ None) × AreOtherHeads server old new
HeadsDone (job.Recover server) old new = IsIdleHead (head_at new server) × AreOtherHeads server old new
HeadsDone other old new = AreSameHeads old new

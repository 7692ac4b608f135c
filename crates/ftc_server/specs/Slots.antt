-- What holds of the slots of a server between two calls.
use Rattle.std.specs.Prelude.{ℕ, ◌≡◌, ◌≢◌, ◌++◌, ◌∷◌, ◌==◌, ◌&&◌, ◌||◌, Bool, true, false, not, List, Option, Some}
use Rattle.std.specs.Prelude.{None, option_map}
use Rattle.std.specs.List.{list_all, list_any}
use Rattle.ftc_base.specs.declared.ask.Answer.{Answer}
use Rattle.ftc_base.specs.declared.ask.Ask.{Ask}
use Rattle.ftc_base.specs.declared.ask.Ask.TheVariants.{Read}
use Rattle.ftc_base.specs.Partition.{partition_of}
use Rattle.ftc_locks.specs.Locks.{holds_exclusively}
use Rattle.ftc_mbox.specs.declared.rule.Rule.{Rule}
use Rattle.ftc_mbox.specs.Ask.{ask}
use Rattle.ftc_mbox.specs.InTurn.{InTurn}
use Rattle.ftc_message.specs.declared.need.Need.{Need}
use Rattle.ftc_message.specs.Logged.{Logged}
use Rattle.ftc_replica.specs.Held.{Held}
use Rattle.ftc_txn.specs.Slots.{Running, slot_at}
use Rattle.ftc_txn.specs.Head.{HeadState}
use Rattle.ftc_server.specs.declared.held.HeldMessage.{HeldMessage}
use Rattle.ftc_server.specs.Holding.{found}
use Rattle.ftc_server.specs.Replicas.{is_ready}

-- what the rule asks of a packet after what was read for it, where there is a packet
abbrev pub ask_of_held : Rule → Running → Option HeldMessage → Option Ask
ask_of_held rule running None = None
ask_of_held rule running (Some held) = option_map (λ bytes. ask rule bytes running.answers) held.message.packet

-- what a slot runs holds the partition of each key exclusively that the rule asked for with leave to write there
pub record HoldsLent (rule : Rule) (packet : List ℕ) (head : HeadState) (worker : ℕ)
    (answers : List Answer) : Type 0 where
  pub each : (earlier later : List Answer) (answer : Answer) → answers ≡ earlier ++ answer ∷ later →
      ask rule packet earlier ≡ Read answer.key true →
      holds_exclusively head.locks worker (partition_of head.partitions answer.key) ≡ true

-- A slot runs a held message that still has to be visited here, its answers are to what the rule asked in turn, and it
-- holds what it was lent unless another took it.
pub record IsSlot (rule : Rule) (head : HeadState) (items : List HeldMessage) (worker : ℕ)
    (running : Running) : Type 0 where
  pub held : HeldMessage
  pub there : found running.packet items ≡ Some held
  pub unvisited : held.visited ≡ false
  pub packet : List ℕ
  pub with_packet : held.message.packet ≡ Some packet
  pub turn : InTurn rule packet running.answers
  pub lent : running.wounded ≡ None → HoldsLent rule packet head worker running.answers

-- each slot that runs is so, and no two run one packet
pub record AreSlots (rule : Rule) (head : HeadState) (items : List HeldMessage) : Type 0 where
  pub each : (worker : ℕ) (running : Running) → slot_at head.slots worker ≡ Some running →
      IsSlot rule head items worker running
  pub once : (worker other : ℕ) (running another : Running) → worker ≢ other →
      slot_at head.slots worker ≡ Some running → slot_at head.slots other ≡ Some another →
      running.packet ≢ another.packet

-- some slot runs the packet
abbrev pub runs_packet : ℕ → Option Running → Bool
runs_packet packet None = false
runs_packet packet (Some running) = running.packet == packet

abbrev pub is_running : HeadState → ℕ → Bool
is_running head packet = list_any (runs_packet packet) head.slots

-- the message has no log and no need of a group: they come only with the visit at that group's head
abbrev pub is_without : ℕ → HeldMessage → Bool
is_without group held =
    list_all (λ (log : Logged). not (log.group == group)) held.message.logs
    && list_all (λ (need : Need). not (need.group == group)) held.message.needs

-- each held message that may still be visited is without logs and needs of the group
abbrev pub is_open : ℕ → HeldMessage → Bool
is_open group held = held.visited || is_without group held

-- the message that each slot runs has all logs
abbrev pub is_ready_one : List (Option Held) → Option HeldMessage → Bool
is_ready_one replicas None = false
is_ready_one replicas (Some held) = is_ready replicas held

abbrev pub slot_is_ready : List (Option Held) → List HeldMessage → Option Running → Bool
slot_is_ready replicas items None = true
slot_is_ready replicas items (Some running) = is_ready_one replicas (found running.packet items)

abbrev pub slots_are_ready : List (Option Held) → HeadState → List HeldMessage → Bool
slots_are_ready replicas head items = list_all (slot_is_ready replicas items) head.slots

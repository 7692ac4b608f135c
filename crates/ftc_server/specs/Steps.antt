-- What each call does to a server.
use Rattle.std.specs.Prelude.{ℕ, ◌≡◌, ◌++◌, ◌∷◌, ◌==◌, ◌<◌, ◌≤◌, ◌&&◌, Bool, nat_lt, List, [], length, filter, Option}
use Rattle.std.specs.Prelude.{Some, None, slice_set, if◌then◌else◌}
use Rattle.ftc_base.specs.declared.ask.Write.{Write}
use Rattle.ftc_base.specs.declared.ask.Finish.{Finish as End}
use Rattle.ftc_base.specs.declared.ask.Ask.TheVariants.{Read, Finish}
use Rattle.ftc_edge.specs.declared.buffer.Withheld.{Withheld}
use Rattle.ftc_edge.specs.Due.{without_due}
use Rattle.ftc_message.specs.declared.message.Message.{Message}
use Rattle.ftc_message.specs.declared.need.Need.{Need}
use Rattle.ftc_message.specs.Logged.{Logged}
use Rattle.ftc_message.specs.Ordered.{with_items, is_earlier}
use Rattle.ftc_replica.specs.Held.{Held, applied}
use Rattle.ftc_txn.specs.Slots.{Running, slot_at}
use Rattle.ftc_txn.specs.Head.{RunsUnwounded, RunsWounded}
use Rattle.ftc_txn.specs.Steps.{HeadReads, HasCommitted, HasHeadQuit, begins, restarts}
use Rattle.ftc_txn.specs.declared.answers.ReadAnswer.{ReadAnswer}
use Rattle.ftc_txn.specs.declared.answers.ReadAnswer.TheVariants.{Value, Blocked, Wounded as WoundedRead}
use Rattle.ftc_txn.specs.declared.answers.ReadAnswer.TheVariants.{Idle as IdleRead, NotAsked}
use Rattle.ftc_vector.specs.Commits.{by_group, all_merged, vector_of}
use Rattle.ftc_vector.specs.Vector.{by_partition}
use Rattle.ftc_server.specs.declared.answers.CommitAnswer.{CommitAnswer}
use Rattle.ftc_server.specs.declared.answers.CommitAnswer.TheVariants.{Done, Wounded, Idle, Unfinished, NoMemory}
use Rattle.ftc_server.specs.declared.held.HeldMessage.{HeldMessage}
use Rattle.ftc_server.specs.declared.recovering.GroupReplica.{GroupReplica}
use Rattle.ftc_server.specs.declared.server.Server.{Server}
use Rattle.ftc_server.specs.Holding.{found, without, with_changed, arrived}
use Rattle.ftc_server.specs.Replicas.{replica_at, is_ready, with_applied, ArePruned}
use Rattle.ftc_server.specs.Standing.{is_last, is_later_member, with_own}
use Rattle.ftc_server.specs.Visited.{visit_of, visited_by}
use Rattle.ftc_server.specs.State.{fields_of}
use Rattle.ftc_server.specs.Looks.{log_in, ask_in, onward_in}
use Rattle.ftc_replica.specs.Kept.{missing}
use Rattle.std.specs.FinMap.{empty}
use Rattle.ftc_mbox.specs.declared.rule.Rule.{Rule}
use Rattle.ftc_ring.specs.Ring.{RingShape}

-- there is room for one more message, with so many logs
pub record HasRoomFor (server : Server) (logs : ℕ) : Type 0 where
  pub held : 1 ≤ server.held.spare
  pub waits : logs ≤ server.waits.spare

-- there may be more room, and nothing else differs
pub record HasRoomed (old new : Server) : Type 0 where
  pub held : new.held.items ≡ old.held.items
  pub rest : fields_of new ≡ record (fields_of old) { held = new.held }

-- the message is held behind the others, what its sender knew is known, and nothing else differs
pub record HasTaken (old new : Server) (message : Message) (by_ring : Bool) : Type 0 where
  pub known : new.known ≡ all_merged old.known message.commits
  pub held : new.held.items ≡ old.held.items ++ arrived message by_ring ∷ []
  pub rest : fields_of new ≡ record (fields_of old) { known = new.known; held = new.held }

-- that log of a held message is applied to the replica of its group, and is known where the server is the group's tail
pub record HasApplied (old new : Server) (origin group packet : ℕ) : Type 0 where
  pub log : Logged
  pub named : log_in old origin group packet ≡ Some log
  pub replica : Held
  pub before : replica_at old.others.items group ≡ Some replica
  pub others : new.others.items ≡ with_applied old.others.items log
  pub known : new.known ≡ with_own old.ring old.id group (applied log replica).vector old.known
  pub held : new.held.items ≡ old.held.items
  pub rest : fields_of new ≡ record (fields_of old) { others = new.others.items; known = new.known; held = new.held }

-- a slot begins the visit of a packet
pub record HasBegun (old new : Server) (worker packet : ℕ) : Type 0 where
  pub head : new.head ≡ begins old.head worker packet
  pub rest : fields_of new ≡ record (fields_of old) { head = new.head }

-- a slot gives up what it runs
pub record HasQuit (old new : Server) (worker : ℕ) : Type 0 where
  pub head : HasHeadQuit old.head new.head worker
  pub rest : fields_of new ≡ record (fields_of old) { head = new.head }

-- The head answers a read. Where a slot runs something that isn't wounded, the rule asks for that key, with that leave
-- to write there.
pub record HasRead (old new : Server) (worker : ℕ) (key : List ℕ) (answer : ReadAnswer) : Type 0 where
  pub change : Bool
  pub asked : (running : Running) → RunsUnwounded old.head worker running → ask_in old worker ≡ Some (Read key change)
  pub head : HeadReads old.head new.head worker key change answer
  pub rest : fields_of new ≡ record (fields_of old) { head = new.head }

-- The rule asks for no such key.
pub record IsUnasked (old new : Server) (worker : ℕ) (key : List ℕ) : Type 0 where
  pub running : Running
  pub runs : RunsUnwounded old.head worker running
  pub unasked : (change : Bool) → ask_in old worker ≡ Some (Read key change) → ⊥
  pub rest : fields_of new ≡ fields_of old

-- each answer to a read
abbrev pub Reads : Server → Server → ℕ → List ℕ → ReadAnswer → Type 0
Reads old new worker key NotAsked = IsUnasked old new worker key
Reads old new worker key (Value value) = HasRead old new worker key (Value value)
Reads old new worker key (Blocked holder) = HasRead old new worker key (Blocked holder)
Reads old new worker key (WoundedRead by) = HasRead old new worker key (WoundedRead by)
Reads old new worker key IdleRead = HasRead old new worker key IdleRead

-- the log of a visit that wrote something is kept
abbrev pub with_kept : List Write → Option Logged → List Logged → List Logged
with_kept writes None kept = kept
with_kept writes (Some log) kept = if length writes == 0 then kept else kept ++ log ∷ []

-- what a server knows of the tails after a visit with these writes, where it has this vector of its own group
abbrev pub with_written : RingShape → ℕ → List Write → List ℕ → List (List ℕ) → List (List ℕ)
with_written ring id writes vector known = if length writes == 0 then known else with_own ring id id vector known

-- The visit of what a slot runs ends so: the head commits its writes, its log is kept where it writes something, and
-- known where no server may fail, and its message is visited in its place.
pub record HasVisited (old new : Server) (worker : ℕ) (running : Running) (end : End) : Type 0 where
  pub log : Option Logged
  pub head : HasCommitted old.head new.head worker running end.writes.items log
  pub own : new.own.items ≡ with_kept end.writes.items log old.own.items
  pub known : new.known ≡ with_written old.ring old.id end.writes.items new.head.vector old.known
  pub before : HeldMessage
  pub there : found running.packet old.held.items ≡ Some before
  pub packet : List ℕ
  pub with_packet : before.message.packet ≡ Some packet
  pub held : new.held.items
      ≡ with_changed running.packet
      (visited_by (visit_of old.ring.failures log packet end.verdict before.message)) old.held.items
  pub rest : fields_of new ≡ record (fields_of old) {
    head = new.head;
    own = new.own;
    known = new.known;
    held = new.held;
  }

-- there may be more room for kept logs, and nothing else differs
pub record HasOwnRoom (old new : Server) : Type 0 where
  pub own : new.own.items ≡ old.own.items
  pub rest : fields_of new ≡ record (fields_of old) { own = new.own }

-- each answer to a commit: when it comes, and what it leaves
abbrev pub EndsVisit : Server → Server → ℕ → CommitAnswer → Type 0
EndsVisit old new worker Done =
    (running : Running) × (end : End) × RunsUnwounded old.head worker running × (ask_in old worker ≡ Some (Finish end))
    × HasVisited old new worker running end
EndsVisit old new worker (Wounded by) =
    (running : Running) × RunsWounded old.head worker running by
    × (fields_of new ≡ record (fields_of old) { head = restarts old.head worker running })
EndsVisit old new worker Idle = (slot_at old.head.slots worker ≡ None) × (fields_of new ≡ fields_of old)
EndsVisit old new worker (Unfinished key) =
    (running : Running) × (change : Bool) × RunsUnwounded old.head worker running
    × (ask_in old worker ≡ Some (Read key change)) × (fields_of new ≡ fields_of old)
EndsVisit old new worker NoMemory =
    (running : Running) × (end : End) × RunsUnwounded old.head worker running × (ask_in old worker ≡ Some (Finish end))
    × HasOwnRoom old new

-- there may be more room in the buffer, and nothing else differs
pub record HasBufferRoom (old new : Server) : Type 0 where
  pub buffer : new.buffer.items ≡ old.buffer.items
  pub rest : fields_of new ≡ record (fields_of old) { buffer = new.buffer }

-- the packet of a message, to be withheld with what it needs
abbrev pub withheld_with : ℕ → List Need → Option (List ℕ) → List Withheld
withheld_with origin needs None = []
withheld_with origin needs (Some bytes) = record { packet = origin; bytes = bytes; needs = needs } ∷ []

abbrev pub withheld_by : Message → List Withheld
withheld_by message = withheld_with message.origin message.needs message.packet

abbrev pub withheld_of : Option HeldMessage → List Withheld
withheld_of None = []
withheld_of (Some held) = withheld_by held.message

-- The message leaves. At the first server the forwarder's logs have left with it, and at the last its packet is
-- withheld.
pub record HasPassed (old new : Server) (origin : ℕ) : Type 0 where
  pub held : new.held.items ≡ without origin old.held.items
  pub forwarder : new.forwarder ≡ (if old.id == 0 then [] else old.forwarder)
  pub buffer : new.buffer.items
      ≡ (if is_last old.ring old.id then old.buffer.items ++ withheld_of (found origin old.held.items)
      else old.buffer.items)
  pub rest : fields_of new ≡ record (fields_of old) { held = new.held; forwarder = new.forwarder; buffer = new.buffer }

-- the message ends, and its logs that go on are with the forwarder
pub record HasCarried (old new : Server) (origin : ℕ) : Type 0 where
  pub carried : HeldMessage
  pub there : found origin old.held.items ≡ Some carried
  pub held : new.held.items ≡ without origin old.held.items
  pub forwarder : new.forwarder ≡ with_items is_earlier (onward_in old carried) old.forwarder
  pub rest : fields_of new ≡ record (fields_of old) { held = new.held; forwarder = new.forwarder }

-- the first withheld packet that is due has left, if any is
pub record HasReleased (old new : Server) : Type 0 where
  pub buffer : new.buffer.items ≡ without_due old.known old.buffer.items
  pub rest : fields_of new ≡ record (fields_of old) { buffer = new.buffer }

-- the replicas stand in place of those of their groups
abbrev pub with_installed : List GroupReplica → List (Option Held) → List (Option Held)
with_installed [] others = others
with_installed (new ∷ replicas) others = slice_set (with_installed replicas others) new.group (Some new.replica)

-- what is known with them, where the server is the tail of their groups
abbrev pub known_with : RingShape → ℕ → List GroupReplica → List (List ℕ) → List (List ℕ)
known_with ring id [] known = known
known_with ring id (new ∷ replicas) known =
    with_own ring id new.group new.replica.vector (known_with ring id replicas known)

pub record HasInstalled (old new : Server) (replicas : List GroupReplica) : Type 0 where
  pub others : new.others.items ≡ with_installed replicas old.others.items
  pub known : new.known ≡ known_with old.ring old.id replicas old.known
  pub held : new.held.items ≡ old.held.items
  pub rest : fields_of new ≡ record (fields_of old) { others = new.others.items; known = new.known; held = new.held }

-- the messages that lack a log are dropped
pub record HasDropped (old new : Server) : Type 0 where
  pub held : new.held.items ≡ filter (is_ready old.others.items) old.held.items
  pub rest : fields_of new ≡ record (fields_of old) { held = new.held }

-- the kept logs that are known at the tails are dropped
pub record HasPruned (old new : Server) : Type 0 where
  pub own : new.own.items ≡ missing (vector_of old.known old.id) old.own.items
  pub others : ArePruned old.known old.others.items new.others.items
  pub rest : fields_of new ≡ record (fields_of old) { own = new.own; others = new.others.items }

-- a replica to which nothing was applied yet
abbrev pub empty_held : ℕ → Held
empty_held partitions = record { content = empty; partitions = partitions; vector = by_partition (λ _. 0); kept = [] }

-- a replica to which nothing was applied yet, of each group that the server is a later member of
abbrev pub empty_at : RingShape → ℕ → ℕ → ℕ → Option Held
empty_at ring server partitions group =
    if is_later_member ring group server then Some (empty_held partitions) else None

-- A server to which nothing has happened.
pub record IsOpening (ring : RingShape) (id : ℕ) (rule : Rule) (partitions : ℕ) (own : Held)
    (server : Server) : Type 0 where
  pub ring_is : server.ring ≡ ring
  pub id_is : server.id ≡ id
  pub rule_is : server.rule ≡ rule
  pub partitions_is : server.partitions ≡ partitions
  pub content : server.head.content ≡ own.content
  pub vector : server.head.vector ≡ own.vector
  pub idle : (worker : ℕ) → slot_at server.head.slots worker ≡ None
  pub kept : server.own.items ≡ own.kept
  pub others : (group : ℕ) → group < ring.servers →
      replica_at server.others.items group ≡ empty_at ring id partitions group
  pub known : server.known ≡ by_group (λ _. by_partition (λ _. 0))
  pub held : server.held.items ≡ []
  pub buffer : server.buffer.items ≡ []
  pub forwarder : server.forwarder ≡ []

-- the server is a later member of the replica's group
abbrev pub is_of_later : RingShape → ℕ → GroupReplica → Bool
is_of_later ring id new = nat_lt new.group ring.servers && is_later_member ring new.group id

-- A server that begins anew, with these replicas and this knowledge. At a group's tail it knows what it has of the
-- group. The kept logs that it knows to be at their tails are dropped, and it holds nothing.
pub record IsRevived (ring : RingShape) (id : ℕ) (rule : Rule) (partitions : ℕ) (own : Held)
    (replicas : List GroupReplica)
    (known : List (List ℕ)) (server : Server) : Type 0 where
  pub ring_is : server.ring ≡ ring
  pub id_is : server.id ≡ id
  pub rule_is : server.rule ≡ rule
  pub partitions_is : server.partitions ≡ partitions
  pub content : server.head.content ≡ own.content
  pub vector : server.head.vector ≡ own.vector
  pub idle : (worker : ℕ) → slot_at server.head.slots worker ≡ None
  pub kept : server.own.items ≡ missing (vector_of server.known id) own.kept
  pub first : List (Option Held)
  pub empty : (group : ℕ) → group < ring.servers → replica_at first group ≡ empty_at ring id partitions group
  pub others : ArePruned server.known (with_installed replicas first) server.others.items
  pub knows : server.known ≡ known_with ring id replicas (with_own ring id id own.vector known)
  pub held : server.held.items ≡ []
  pub buffer : server.buffer.items ≡ []
  pub forwarder : server.forwarder ≡ []

-- what it has of its own group is known where it is that group's tail
pub record HasLearnt (old new : Server) : Type 0 where
  pub known : new.known ≡ with_own old.ring old.id old.id old.head.vector old.known
  pub rest : fields_of new ≡ record (fields_of old) { known = new.known }

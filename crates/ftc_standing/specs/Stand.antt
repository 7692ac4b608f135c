-- For which state of the protocol servers and links stand: what messages, replicas, vectors and logs mean as sets of
-- visits.
use Rattle.std.specs.Prelude.{ℕ, ◌≡◌, ◌<◌, ◌+◌, ◌⊎◌, ◌==◌, Bool, true, false, List, [], length, Option, Some, None}
use Rattle.std.specs.Prelude.{slice_index_or, if◌then◌else◌}
use Rattle.std.specs.FinMap.{empty}
use Rattle.std.specs.Option.{is_some}
use Rattle.ftc_base.specs.declared.limits.TheConstants.{MOST_SERVERS}
use Rattle.ftc_edge.specs.declared.buffer.Withheld.{Withheld as WithheldPacket}
use Rattle.ftc_link.specs.Queue.{Queue}
use Rattle.ftc_message.specs.declared.message.Message.{Message as SentMessage}
use Rattle.ftc_message.specs.Logged.{Logged}
use Rattle.ftc_message.specs.Added.{logs_with, needs_with}
use Rattle.ftc_message.specs.Ordered.{with_items, is_earlier}
use Rattle.ftc_replica.specs.Held.{Held as Replicated, pruned_by}
use Rattle.ftc_replica.specs.InTurn.{applied_all}
use Rattle.ftc_replica.specs.Kept.{missing}
use Rattle.ftc_serial.specs.Take.{Outcome}
use Rattle.ftc_vector.specs.Vector.{by_partition}
use Rattle.ftc_vector.specs.Commits.{by_group, vector_of, all_merged, group_raised}
use Rattle.ftc_ring.specs.Live.{is_from_before}
use Rattle.ftc_ring.specs.Ring.{next_of}
use Rattle.ftc_protocol.specs.Setting.{Setting, servers, is_member, is_tail}
use Rattle.ftc_protocol.specs.Recovery.{previous_live, following_live}
use Rattle.ftc_protocol.specs.State.{Held, Message, Withheld, ChainState}
use Rattle.ftc_protocol.specs.Known.{knows}
use Rattle.ftc_ties.specs.Messages.{AreLogsOf, AreNeedsOf, onward}
use Rattle.ftc_ties.specs.Servers.{AreCommits, IsReplicaAt, is_shared}
use Rattle.ftc_standing.specs.Arrivals.{AreArrived}
use Rattle.ftc_standing.specs.View.{held_at, queued_on, withheld_at, forwarded_at}

-- ---- messages

-- a message as it is sent, for one that is held or queued
pub record IsSentAs (setting : Setting) (state : ChainState) (origin : ℕ) (message : Message)
    (sent : SentMessage) : Type 0 where
  pub origin_is : sent.origin ≡ origin
  pub packet : sent.packet ≡ message.packet
  pub logs : AreLogsOf setting state message.logs sent.logs
  pub needs : AreNeedsOf setting state origin message.needs sent.needs
  pub size : length sent.commits ≡ MOST_SERVERS
  pub commits : AreCommits setting state message.known sent.commits

-- one that a server holds, with whether it was visited there and whether it came by the ring link
pub record IsHeldAs (setting : Setting) (state : ChainState) (server origin : ℕ) (message : Message)
    (visited by_ring : Bool) (sent : SentMessage) : Type 0 where
  pub place : message.place ≡ Held server visited by_ring
  pub as_sent : IsSentAs setting state origin message sent

-- a packet in the buffer
pub record IsWithheldAs (setting : Setting) (state : ChainState) (packet : ℕ) (withheld : Withheld)
    (kept : WithheldPacket) : Type 0 where
  pub packet_is : kept.packet ≡ packet
  pub bytes : kept.bytes ≡ withheld.bytes
  pub needs : AreNeedsOf setting state packet withheld.needs kept.needs

abbrev pub since_of : Message → ℕ
since_of message = message.since

abbrev pub origin_of : SentMessage → ℕ
origin_of sent = sent.origin

abbrev pub time_of : Withheld → ℕ
time_of withheld = withheld.since

abbrev pub packet_of : WithheldPacket → ℕ
packet_of kept = kept.packet

-- what a server holds, in the order of taking: of each item whether it was visited and came by the ring link, and the
-- message
abbrev pub AreHeld : {A : Type 0} → (A → Bool) → (A → Bool) → (A → SentMessage) → Setting → ChainState → ℕ → List A →
    Type 0
AreHeld visited by_ring sent setting state server items =
    AreArrived since_of (λ item. origin_of (sent item))
    (λ origin message item. IsHeldAs setting state server origin message (visited item) (by_ring item) (sent item))
    (held_at state server) items

-- a message that a server holds, with whether it was visited there and whether it came by the ring link
pub record HeldItem : Type 0 where
  pub visited : Bool
  pub by_ring : Bool
  pub message : SentMessage

abbrev pub item_of : Bool → Bool → SentMessage → HeldItem
item_of visited by_ring message = record { visited = visited; by_ring = by_ring; message = message }

-- what a server holds, in the order of taking
abbrev pub AreItems : Setting → ChainState → ℕ → List HeldItem → Type 0
AreItems setting state server items =
    AreHeld (λ (item : HeldItem). item.visited) (λ (item : HeldItem). item.by_ring) (λ (item : HeldItem). item.message)
    setting state server items

-- the packets of a server's buffer, in the order of withholding
abbrev pub AreWithheld : Setting → ChainState → ℕ → List WithheldPacket → Type 0
AreWithheld setting state server items =
    AreArrived time_of packet_of (IsWithheldAs setting state) (withheld_at setting state server) items

-- the logs of a server's forwarder
abbrev pub AreForwarded : Setting → ChainState → ℕ → List Logged → Type 0
AreForwarded setting state server logs = AreLogsOf setting state (forwarded_at state server) logs

-- ---- replicas

-- The replica of a group at a later member. When its kept logs are dropped that are known at the tail is the server's
-- affair.
abbrev pub IsReplicaSlot : Setting → ChainState → ℕ → List (List ℕ) → ℕ → Option Replicated → Type 0
IsReplicaSlot setting state server known group None = (is_member setting group server ≡ false) ⊎ (group ≡ server)
IsReplicaSlot setting state server known group (Some replica) =
    (is_member setting group server ≡ true) × (group ≡ server → ⊥)
    × IsReplicaAt setting state server group (pruned_by (vector_of known group) replica)

abbrev pub replica_of : List (Option Replicated) → ℕ → Option Replicated
replica_of replicas group = slice_index_or replicas group None

-- what a server has of its own group and of the groups that it is a later member of, and what it knows
pub record AreReplicas (setting : Setting) (state : ChainState) (server : ℕ) (head : Replicated)
    (later : List (Option Replicated)) (commits : List (List ℕ)) : Type 0 where
  pub own : IsReplicaAt setting state server server (pruned_by (vector_of commits server) head)
  pub others : (group : ℕ) → group < servers setting →
      IsReplicaSlot setting state server commits group (replica_of later group)
  pub size : length commits ≡ MOST_SERVERS
  pub known : AreCommits setting state (knows setting state server) commits

-- a replica to which nothing was applied, and where a server has one
pub record IsEmptyReplica (setting : Setting) (replica : Replicated) : Type 0 where
  pub keys : replica.partitions ≡ setting.partitions
  pub content : replica.content ≡ empty
  pub vector : replica.vector ≡ by_partition (λ partition. 0)
  pub kept : replica.kept ≡ []

abbrev pub IsEmptySlot : Setting → ℕ → ℕ → Option Replicated → Type 0
IsEmptySlot setting server group None = (is_member setting group server ≡ false) ⊎ (group ≡ server)
IsEmptySlot setting server group (Some replica) =
    (is_member setting group server ≡ true) × (group ≡ server → ⊥) × IsEmptyReplica setting replica

-- ---- what becomes of a message at a server

-- a message that begins: with that packet or none, and nothing else
pub record IsBegun (origin : ℕ) (packet : Option (List ℕ)) (sent : SentMessage) : Type 0 where
  pub origin_is : sent.origin ≡ origin
  pub packet_is : sent.packet ≡ packet
  pub no_logs : sent.logs ≡ []
  pub no_needs : sent.needs ≡ []
  pub no_commits : sent.commits ≡ by_group (λ group. by_partition (λ partition. 0))

-- what the visit of its packet makes of it: the log is that of the visit, where it touched something
pub record IsVisited (failures : ℕ) (outcome : Outcome) (log : Option Logged)
    (before after : SentMessage) : Type 0 where
  pub origin_is : after.origin ≡ before.origin
  pub packet_is : after.packet ≡ outcome.packet
  pub logs_are : after.logs ≡ logs_with failures log before.logs
  pub needs_are : after.needs ≡ (if is_some outcome.packet then needs_with log before.needs else [])
  pub commits_are : after.commits ≡ before.commits

-- what is sent on of it, with the logs that the server carries: behind the last server without packet and needs
pub record IsSentOn (setting : Setting) (server : ℕ) (carried : List Logged) (known : List (List ℕ))
    (before after : SentMessage) : Type 0 where
  pub origin_is : after.origin ≡ before.origin
  pub packet_is : after.packet ≡ (if server + 1 == servers setting then None else before.packet)
  pub logs_are : after.logs ≡ with_items is_earlier carried (onward setting server before.logs)
  pub needs_are : after.needs ≡ (if server + 1 == servers setting then [] else before.needs)
  pub commits_are : after.commits ≡ known

-- ---- servers

-- what a server has, holds, withholds and forwards, part by part
pub record IsServerOf (setting : Setting) (state : ChainState) (server : ℕ) (head : Replicated)
    (later : List (Option Replicated)) (commits : List (List ℕ)) (items : List HeldItem) (buffer : List WithheldPacket)
    (carried : List Logged) : Type 0 where
  pub replicas : AreReplicas setting state server head later commits
  pub held : AreItems setting state server items
  pub withheld : AreWithheld setting state server buffer
  pub forwarded : AreForwarded setting state server carried

-- what a server keeps: its own group's replica and those of the groups that it is a later member of, what it knows,
-- what it holds, the packets of its buffer and the logs of its forwarder
pub record ServerContents : Type 0 where
  pub head : Replicated
  pub later : List (Option Replicated)
  pub known : List (List ℕ)
  pub held : List HeldItem
  pub withheld : List WithheldPacket
  pub forwarded : List Logged

-- it stands for what is at the server in that state
abbrev pub IsServer : Setting → ChainState → ℕ → ServerContents → Type 0
IsServer setting state server contents =
    IsServerOf setting state server contents.head contents.later contents.known contents.held contents.withheld
    contents.forwarded

-- what a server keeps of a group that it belongs to
abbrev pub replica_kept : ℕ → ServerContents → ℕ → Option Replicated
replica_kept server contents group = if group == server then Some contents.head else replica_of contents.later group

-- what the receiver of a link has after it pulled: of each group that both ends share, its replica with the logs that
-- it lacks and the sender keeps, applied in the order of keeping
pub record IsPulled (setting : Setting) (link : ℕ) (contents sender : ServerContents)
    (later : List (Option Replicated)) :
    Type 0 where
  pub shared : (group : ℕ) → group < servers setting →
      is_shared setting group link (next_of (servers setting) link) ≡ true →
      (mine : Replicated) × (theirs : Replicated) × (replica_of contents.later group ≡ Some mine)
      × (replica_kept link sender group ≡ Some theirs)
      × (replica_of later group ≡ Some (applied_all (missing mine.vector theirs.kept) mine))
  pub others : (group : ℕ) → group < servers setting →
      is_shared setting group link (next_of (servers setting) link) ≡ false →
      replica_of later group ≡ replica_of contents.later group

-- what a new server gets of a group: that of the live server before it, where the group's head lies up to that one, and
-- else that of the live server after it
abbrev pub got_by : Setting → ChainState → ℕ → ServerContents → ServerContents → ℕ → Option Replicated
got_by setting state server previous following group =
    if is_from_before (servers setting) (previous_live setting state server) group server
    then replica_kept (previous_live setting state server) previous group
    else replica_kept (following_live setting state server) following group

-- a new server: it has what it gets of its groups, knows what the two live servers know and its own replica of the
-- group whose tail it is, and holds nothing
pub record IsRevived (setting : Setting) (state : ChainState) (server : ℕ) (previous following new : ServerContents) :
    Type 0 where
  pub head : got_by setting state server previous following server ≡ Some new.head
  pub later : (group : ℕ) → group < servers setting →
      ((replica_of new.later group ≡ None) × ((is_member setting group server ≡ false) ⊎ (group ≡ server)))
      ⊎ ((replica : Replicated) × (replica_of new.later group ≡ Some replica)
      × (got_by setting state server previous following group ≡ Some replica)
      × (is_member setting group server ≡ true) × (group ≡ server → ⊥))
  pub tail : ℕ
  pub tail_inside : tail < servers setting
  pub tail_is : is_tail setting tail server ≡ true
  pub tail_replica : Replicated
  pub tail_got : got_by setting state server previous following tail ≡ Some tail_replica
  pub known : new.known ≡ group_raised (all_merged previous.known following.known) tail tail_replica.vector
  pub held : new.held ≡ []
  pub withheld : new.withheld ≡ []
  pub forwarded : new.forwarded ≡ []

-- ---- links

-- the messages on a link, the oldest first, and whether it has a gap
pub record IsLink (setting : Setting) (state : ChainState) (link : ℕ) (queue : Queue) : Type 0 where
  pub from : queue.from ≡ link
  pub gap : queue.gap ≡ state.gap link
  pub queued : AreArrived since_of origin_of (IsSentAs setting state) (queued_on state link) queue.messages

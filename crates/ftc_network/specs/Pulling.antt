-- What the receiver of a link gets by a pull, and what becomes of the links.
use Rattle.std.specs.Prelude.{ℕ, ◌≡◌, ◌<◌, ◌-◌, ◌^◌, ◌==◌, ◌&&◌, ◌||◌, zero, suc, Bool, true, false, not, nat_le, List}
use Rattle.std.specs.Prelude.{[], ◌∷◌, length, Option, Some, None, if◌then◌else◌}
use Rattle.std.specs.List.{list_all}
use Rattle.ftc_link.specs.Queue.{Queue}
use Rattle.ftc_message.specs.Logged.{Logged}
use Rattle.ftc_replica.specs.InTurn.{AreReadyInTurn}
use Rattle.ftc_replica.specs.Kept.{missing}
use Rattle.ftc_ring.specs.Ring.{RingShape, apart, tail_of}
use Rattle.ftc_serial.specs.Words.{each_below}
use Rattle.ftc_server.specs.declared.recovering.GroupReplica.{GroupReplica}
use Rattle.ftc_server.specs.declared.server.Server.{Server}
use Rattle.ftc_server.specs.Looks.{replica_in, is_later_of}
use Rattle.ftc_server.specs.Steps.{HasInstalled}
use Rattle.ftc_refinement.specs.Pulled.{pulled}

-- ---- what is got

-- both ends belong to the group, and the receiver isn't its head
abbrev pub is_shared_by : RingShape → ℕ → ℕ → ℕ → Bool
is_shared_by ring group sender receiver =
    nat_le (apart ring.servers group sender) ring.failures && nat_le (apart ring.servers group receiver) ring.failures
    && not (group == receiver)

-- the logs that the receiver lacks and the sender keeps
abbrev pub lacking : Server → Server → ℕ → List Logged
lacking sender receiver group = missing (replica_in receiver group).vector (replica_in sender group).kept

-- the receiver's replica of a group with these
abbrev pub new_of : Server → Server → ℕ → GroupReplica
new_of sender receiver group =
    record { group = group; replica = pulled (replica_in receiver group) (replica_in sender group) }

abbrev pub news_of : RingShape → Server → Server → ℕ → List GroupReplica
news_of ring sender receiver group =
    if is_shared_by ring group sender.id receiver.id then new_of sender receiver group ∷ [] else []

-- one of each group that both ends share
abbrev pub news : RingShape → Server → Server → List GroupReplica
news ring sender receiver = each_below (news_of ring sender receiver) ring.servers

-- the receiver gets a visit of the group, and isn't its last member
abbrev pub is_gained : RingShape → Server → Server → ℕ → Bool
is_gained ring sender receiver group =
    is_shared_by ring group sender.id receiver.id
    && (not (length (lacking sender receiver group) == 0) && not (tail_of ring group == receiver.id))

-- the test is true of some number below that one
abbrev pub any_below : (ℕ → Bool) → ℕ → Bool
any_below test zero = false
any_below test (suc count) = any_below test count || test count

-- it gets a visit of some group whose last member it isn't
abbrev pub gains_some : RingShape → Server → Server → Bool
gains_some ring sender receiver = any_below (is_gained ring sender receiver) ring.servers

-- ---- what is wanted for it

-- the logs are ready one after another, and lead to the sender's vector
pub record MayPullOne (sender receiver : Server) (group : ℕ) : Type 0 where
  pub ready : AreReadyInTurn (2 ^ 64 - 2) (replica_in receiver group).vector (lacking sender receiver group)
  pub reach : (pulled (replica_in receiver group) (replica_in sender group)).vector ≡ (replica_in sender group).vector

-- both are of the ring, and this is so of each group that they share
pub record MayPull (ring : RingShape) (sender receiver : Server) : Type 0 where
  pub sender_inside : sender.id < ring.servers
  pub receiver_inside : receiver.id < ring.servers
  pub each : (group : ℕ) → group < ring.servers → is_shared_by ring group sender.id receiver.id ≡ true →
      MayPullOne sender receiver group

abbrev pub MayPullBetween : RingShape → Option Server → Option Server → Type 0
MayPullBetween ring (Some sender) (Some receiver) = MayPull ring sender receiver
MayPullBetween ring (Some sender) None = Unit {0}
MayPullBetween ring None receiver = Unit {0}

-- ---- what comes of it

-- what is got where both ends are up
abbrev pub AreGains : RingShape → Option Server → Option Server → List GroupReplica → Bool → Type 0
AreGains ring (Some sender) (Some receiver) replicas gained =
    (replicas ≡ news ring sender receiver) × (gained ≡ gains_some ring sender receiver)
AreGains ring (Some sender) None replicas gained = Unit {0}
AreGains ring None receiver replicas gained = Unit {0}

-- the server, where it is up, is a later member of the groups
abbrev pub IsOfLater : Option Server → List GroupReplica → Type 0
IsOfLater None replicas = Unit {0}
IsOfLater (Some server) replicas = list_all (is_later_of server.others.items) replicas ≡ true

abbrev pub SlotHasInstalled : Option Server → Option Server → List GroupReplica → Type 0
SlotHasInstalled (Some old) (Some new) replicas = HasInstalled old new replicas
SlotHasInstalled (Some old) None replicas = ⊥
SlotHasInstalled None new replicas = Unit {0}

-- the link that was pulled has no gap any more, and that which leaves the receiver one, where it gained something
abbrev pub gap_after : ℕ → ℕ → Bool → ℕ → Bool → Bool
gap_after link receiver gained number gap =
    if (number == receiver) && gained then true else (if number == link then false else gap)

abbrev pub marked : ℕ → ℕ → Bool → ℕ → Queue → Queue
marked link receiver gained number queue = record queue { gap = gap_after link receiver gained number queue.gap }

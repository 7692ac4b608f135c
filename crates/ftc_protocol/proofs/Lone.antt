-- States in which one packet at a time is under way, and nothing else.
use Rattle.std.proofs.Common.{◌≡◌, ◌≢◌, ℕ, suc, ◌+◌, ◌-◌, ◌<◌, ◌⊎◌, true, false, Bool, sym, subst, ◌∙◌, arith, Some}
use Rattle.std.proofs.Common.{None}
use Rattle.std.proofs.lemmas.Option.{none-some}
use Rattle.ftc_protocol.specs.Setting.{Setting, servers}
use Rattle.ftc_protocol.specs.Visits.{Visits}
use Rattle.ftc_protocol.specs.Trace.{Has}
use Rattle.ftc_protocol.specs.State.{ChainState, Message, Withheld, Where, Held, Queued}
use Rattle.ftc_protocol.specs.Known.{knows, IsReady, IsDue}
use Rattle.ftc_protocol.proofs.Premises.{IsGood}
use Rattle.ftc_protocol.proofs.Places.{Filtered, serial_of}
use Rattle.ftc_protocol.proofs.RingDistances.{apart_cases}
use Rattle.ftc_protocol.proofs.LiveHolders.{IsUp}
use Rattle.ftc_protocol.proofs.CarriedLogs.{AreCarried}
use Rattle.ftc_protocol.proofs.HavingVisits.{head_has}
use Rattle.ftc_protocol.proofs.SmallEvents.{held_target}
use Rattle.ftc_protocol.proofs.Complete.{IsReached}
use Rattle.ftc_protocol.proofs.FaultFree.{IsCalm}

-- so many packets have entered, nothing was lost, and the forwarder is empty
pub record IsPlain (c : Setting) (s : ChainState) (count : ℕ) : Type 0 where
  pub reached : IsReached c s
  pub calm : IsCalm c s
  pub entered : s.entered ≡ count
  pub forwarder : (group packet : ℕ) → s.forwarder group packet ≡ false

-- and no packet is under way
pub record IsIdle (c : Setting) (count : ℕ) (s : ChainState) : Type 0 where
  pub plain : IsPlain c s count
  pub messages : (origin : ℕ) → s.message origin ≡ None
  pub withheld : (packet : ℕ) → s.withheld packet ≡ None

-- what is known at a message's place
abbrev pub known_at : Setting → ChainState → Where → Visits → Visits
known_at c s (Held server visited by_ring) known = knows c s server
known_at c s (Queued link) known = known

-- the middleboxes that a message there has behind it
abbrev pub behind : Where → ℕ
behind (Held server true by_ring) = server + 1
behind (Held server false by_ring) = server
behind (Queued link) = link + 1

-- The packet's message is there, the only one. Each visit that its packet needs is known there; and where it has no
-- packet, a middlebox behind it dropped that.
pub record IsAt (c : Setting) (s : ChainState) (p : ℕ) (place : Where) : Type 0 where
  pub plain : IsPlain c s (suc p)
  pub withheld : (packet : ℕ) → s.withheld packet ≡ None
  pub others : (origin : ℕ) → origin ≢ p → s.message origin ≡ None
  pub message : Message
  pub there : s.message p ≡ Some message
  pub placed : message.place ≡ place
  pub told : (group : ℕ) → message.needs group ≡ true →
      Has c.partitions s.trace (known_at c s place message.known) group p
  pub gone : message.packet ≡ None → (k : ℕ) × (k < behind place) × ((serial_of c s.trace).place p ≡ Filtered k)

-- The buffer has the packet alone, which is due.
pub record IsBuffered (c : Setting) (s : ChainState) (p : ℕ) : Type 0 where
  pub withheld : Withheld
  pub there : s.withheld p ≡ Some withheld
  pub others : (packet : ℕ) → packet ≢ p → s.withheld packet ≡ None
  pub due : (group : ℕ) → withheld.needs group ≡ true → Has c.partitions s.trace (knows c s (servers c - 1)) group p

-- The buffer is empty, and a middlebox dropped the packet.
pub record IsGone (c : Setting) (s : ChainState) (p : ℕ) : Type 0 where
  pub withheld : (packet : ℕ) → s.withheld packet ≡ None
  pub server : ℕ
  pub dropped : (serial_of c s.trace).place p ≡ Filtered server

-- The packet has left the last server.
pub record IsThrough (c : Setting) (s : ChainState) (p : ℕ) : Type 0 where
  pub plain : IsPlain c s (suc p)
  pub messages : (origin : ℕ) → s.message origin ≡ None
  pub left : IsBuffered c s p ⊎ IsGone c s p

-- where nothing is withheld nothing is due
pub none_due : (c : Setting) (s : ChainState) → ((packet : ℕ) → s.withheld packet ≡ None) → (b : Bool) → b ≡ false →
    (packet : ℕ) (withheld : Withheld) → IsDue c s packet withheld → ⊥
none_due c s empty b is packet withheld due = none-some withheld (sym (empty packet) ∙ due.0)

module _ (c : Setting) (good : IsGood c) (alone : c.failures ≡ 0) (s : ChainState) (p k : ℕ) (visited : Bool)
    (at : IsAt c s p (Held k visited false)) where
  pub server_below : k < servers c
  server_below = let inv = at.plain.reached.live.inv in
      inv.world.inside k (subst (IsUp (servers c) s.up) at.placed (inv.awake p at.message at.there))

  -- without replicas a message carries logs of the server's own group alone, and the server is its head
  pub ready_here : IsReady c s k at.message
  ready_here group packet log =
      let inv = at.plain.reached.live.inv in
      let carried = subst (λ x. AreCarried c s.trace s.up s.lists at.message.logs x)
      (held_target (servers c) k at.message.place visited false at.placed)
      (inv.messages p at.message at.there).carried in
      let member = carried.member group packet log in
      let below : group < servers c = member.0 in
      let far = apart_cases (servers c) group k below server_below in
      let same : group ≡ k = omega (arith, member.1) in
      subst (λ x. Has c.partitions s.trace (s.lists x) group packet) same
      (head_has c s.trace s.up s.lists inv.world.lists inv.world.nest group packet (at.plain.calm.up group below))

-- What follows from an event's being allowed, where it is a test.
use Rattle.std.proofs.Common.{◌≡◌, ◌<◌, ◌^◌, ◌-◌, ℕ, Bool, true, nat_lt, Option, Some, sym, ap, subst}
use Rattle.std.proofs.Math.Bool.{Bool-set}
use Rattle.std.proofs.Math.Logic.{∥∥₁_elim}
use Rattle.std.proofs.lemmas.Bool.{ltb-true, lt-ltb}
use Rattle.ftc_journal.specs.declared.event.Event.{Event}
use Rattle.ftc_journal.specs.declared.event.Event.TheVariants as event
use Rattle.ftc_protocol.specs.Legal.{IsLegal}
use Rattle.ftc_protocol.specs.Run.{IsRunState}
use Rattle.ftc_protocol.specs.Setting.{Setting, servers}
use Rattle.ftc_protocol.specs.State.{ChainState}
use Rattle.ftc_ring.specs.Ring.{RingShape}
use Rattle.ftc_server.specs.declared.server.Server.{Server}
use Rattle.ftc_network.specs.declared.network.Network.{Network}
use Rattle.ftc_network.specs.Events.{IsAllowed, IsAllowedAt}
use Rattle.ftc_network.specs.Slots.{IsLegalIn}
use Rattle.ftc_network.specs.Stand.{IsSlot, IsUp}
use Rattle.ftc_network.proofs.Untold.{is_below}

-- of a server that is up
pub at_up : (event : Event) (number : ℕ) (slot : Option Server) (server : Server) (test value : Bool) →
    slot ≡ Some server →
    ((setting : Setting) (state : ChainState) → IsRunState setting state → IsLegal setting state event →
    state.events < 2 ^ 64 - 1 → IsUp setting state number server → test ≡ value) →
    ∥ IsAllowedAt event number slot ∥₁ → test ≡ value
at_up event number slot server test value same proves allowed = ∥∥₁_elim allowed (Bool-set _ _) (λ given.
    proves given.setting given.state given.run given.legal given.few
    (subst (IsSlot given.setting given.state number) same given.stands))

-- of a number of the ring
pub below_servers : (event : Event) (network : Network) (number : ℕ) →
    ((setting : Setting) (state : ChainState) → IsRunState setting state → IsLegal setting state event →
    number < servers setting) → ∥ IsAllowed event network ∥₁ → number < network.ring.servers
below_servers event network number proves allowed = ltb-true number network.ring.servers
    (∥∥₁_elim allowed (Bool-set _ _) (λ given.
    subst (λ (n : ℕ). nat_lt number n ≡ true) (sym (ap (λ (ring : RingShape). ring.servers) given.stands.ring))
    (lt-ltb number (servers given.setting) (proves given.setting given.state given.run given.legal))))

-- the server of an event is one of the network
pub applies_inside : ((setting : Setting) (state : ChainState) (server origin group packet : ℕ) →
    IsRunState setting state → IsLegal setting state (event.Apply server origin group packet) →
    (server < servers setting) × (state.up server ≡ true) × (group < servers setting)) →
    {network : Network} {server origin group packet : ℕ} →
    ∥ IsAllowed (event.Apply server origin group packet) network ∥₁ → server < network.ring.servers
applies_inside places {network = network} {server = server} {origin = origin} {group = group} {packet = packet} =
    below_servers (event.Apply server origin group packet) network server
    (λ setting state run legal. (places setting state server origin group packet run legal).0)

-- the same of a visit, also where it is not known that few events were before
module _ (places : (setting : Setting) (state : ChainState) (server packet worker : ℕ) → IsRunState setting state →
    IsLegal setting state (event.Visit server packet worker) →
    (server < servers setting) × (state.up server ≡ true)) where
  pub visits_inside : {network : Network} {server packet worker : ℕ} →
      ∥ IsAllowed (event.Visit server packet worker) network ∥₁ → server < network.ring.servers
  visits_inside {network = network} {server = server} {packet = packet} {worker = worker} =
      below_servers (event.Visit server packet worker) network server
      (λ setting state run legal. (places setting state server packet worker run legal).0)

  pub begins_inside : {network : Network} {server packet worker : ℕ} →
      ∥ IsLegalIn (event.Visit server packet worker) network ∥₁ → server < network.ring.servers
  begins_inside {network = network} {server = server} {packet = packet} {worker = worker} legal =
      is_below server network.ring.servers legal (λ given.
      subst (λ (n : ℕ). server < n) (sym (ap (λ (ring : RingShape). ring.servers) given.stands.ring))
      (places given.setting given.state server packet worker given.run given.legal).0)

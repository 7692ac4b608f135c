-- What stands for a server that is up, and that one that is down holds no message.
use Rattle.std.proofs.Common.{◌≡◌, ◌∙◌, ◌<◌, ℕ, suc, zero, true, false, List, [], ◌∷◌, Option, Some, None, length}
use Rattle.std.proofs.Common.{sym, subst, arith}
use Rattle.std.proofs.lemmas.Bool.{true≢false}
use Rattle.ftc_protocol.specs.Setting.{Setting, servers}
use Rattle.ftc_protocol.specs.State.{ChainState}
use Rattle.ftc_server.specs.declared.server.Server.{Server}
use Rattle.ftc_network.specs.declared.network.Network.{Network}
use Rattle.ftc_network.specs.Parts.{server_in}
use Rattle.ftc_network.specs.Stand.{IsSlot, IsUp}
use Rattle.ftc_jobs.specs.Rest.{IsResting}
use Rattle.ftc_jobs.proofs.Sizes.{size_of}

within_of : (items : List (Option Server)) (number : ℕ) (live : Server) → server_in items number ≡ Some live →
    number < length items
within_of [] number live is = absurd cc
within_of (slot ∷ items) zero live is = omega arith
within_of (slot ∷ items) (suc number) live is = let below = within_of items number live is in omega (arith, below)

module _ (setting : Setting) (state : ChainState) (network : Network) (rest : IsResting setting state network)
    (server : ℕ)
  where
    pub is_up_there : (live : Server) → server_in network.servers.items server ≡ Some live →
        IsUp setting state server live
    is_up_there live slot =
        let size = size_of setting state network rest in
        let below = within_of network.servers.items server live slot in
        subst (IsSlot setting state server) slot
        (rest.stands.servers_are server (omega (arith, size, below, network.each_server)))

    is_down_there : server < servers setting → server_in network.servers.items server ≡ None → state.up server ≡ false
    is_down_there below slot = subst (IsSlot setting state server) slot (rest.stands.servers_are server below)

    -- what holds a message is a server of the chain that is up
    pub down_holds_none : (server < servers setting) × (state.up server ≡ true) →
        server_in network.servers.items server ≡ None → ⊥
    down_holds_none holder slot = true≢false (sym holder.1 ∙ is_down_there holder.0 slot)

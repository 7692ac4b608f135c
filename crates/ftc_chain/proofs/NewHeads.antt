-- The heads of a chain to which nothing has happened.
use Rattle.std.proofs.Common.{◌≡◌, ◌<◌, ◌∙◌, ℕ, map, slice_index_or, Option, Some, None, inl, inr, sym, ap, subst}
use Rattle.std.proofs.Common.{arith}
use Rattle.std.proofs.lemmas.Bool.{cases_lt}
use Rattle.std.proofs.lemmas.List.{get_or_past}
use Rattle.ftc_mbox.specs.Chain.{Chain}
use Rattle.ftc_server.specs.declared.server.Server.{Server}
use Rattle.ftc_txn.specs.Head.{HeadState}
use Rattle.ftc_network.specs.declared.network.Network.{Network}
use Rattle.ftc_network.specs.Opening.{IsNewSlot, AreNewServers}
use Rattle.ftc_network.specs.Parts.{server_in}
use Rattle.ftc_network.specs.Slots.{head_of, head_at, runs_in, IsIdleHead}
use Rattle.ftc_chain.specs.Course.{RunsOnce}
use Rattle.ftc_chain.proofs.HeadsKept.{head_as, none_runs, idle_runs}

new_is_idle : (chain : Chain) (number : ℕ) (slot : Option Server) → IsNewSlot chain number slot →
    IsIdleHead (head_of slot)
new_is_idle chain number None is = absurd is
new_is_idle chain number (Some server) is = is.idle

module _ (chain : Chain) (network : Network) (size : ℕ)
    (are : AreNewServers chain size network.servers.items) where
  pub head_idle : (server : ℕ) → server < size → IsIdleHead (head_at network server)
  head_idle server below = new_is_idle chain server (server_in network.servers.items server) (are.each server below)

  -- no slot runs anything
  pub all_idle : (server worker : ℕ) → runs_in (head_at network server) worker ≡ None
  all_idle server worker = elim (cases_lt server size) [
    | inl below ↦ idle_runs (head_at network server) worker (head_idle server below)
    | inr past ↦ none_runs (head_at network server) worker
        (ap head_of (get_or_past network.servers.items server None (omega (arith, past, are.size))))
  ]

  pub runs_nothing : RunsOnce network
  runs_nothing worker one other differs runs = all_idle other worker

  -- as they are seen
  pub seen_idle : (server worker : ℕ) →
      runs_in (slice_index_or (map head_of network.servers.items) server None) worker ≡ None
  seen_idle server worker =
      ap (λ (head : Option HeadState). runs_in head worker) (head_as network.servers.items server)
      ∙ all_idle server worker

  pub seen_up : (server : ℕ) → server < size →
      IsIdleHead (slice_index_or (map head_of network.servers.items) server None)
  seen_up server below = subst IsIdleHead (sym (head_as network.servers.items server)) (head_idle server below)

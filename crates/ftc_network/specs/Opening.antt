-- A network to which nothing has happened.
use Rattle.std.specs.Prelude.{ℕ, ◌≡◌, ◌<◌, List, [], false, length, slice_index_or, Option, Some, None}
use Rattle.ftc_link.specs.Queue.{Queue}
use Rattle.ftc_mbox.specs.Chain.{Chain}
use Rattle.ftc_mbox.specs.declared.rule.Rule.TheVariants.{Pass}
pub use Rattle.ftc_protocol.specs.ChainRing.{ring_of}
use Rattle.ftc_protocol.specs.Setting.{Setting}
use Rattle.ftc_server.specs.declared.server.Server.{Server}
use Rattle.ftc_server.specs.Steps.{IsOpening, empty_held}
use Rattle.ftc_network.specs.Parts.{server_in, link_in}

-- a setting of that chain
pub record IsOfChain (chain : Chain) (setting : Setting) : Type 0 where
  pub rules : setting.rules ≡ chain.rules
  pub failures : setting.failures ≡ chain.failures
  pub partitions : setting.partitions ≡ chain.partitions

-- the server of that number is there, and nothing has happened to it
abbrev pub IsNewSlot : Chain → ℕ → Option Server → Type 0
IsNewSlot chain number None = ⊥
IsNewSlot chain number (Some server) =
    IsOpening (ring_of chain) number (slice_index_or chain.rules number Pass) chain.partitions
    (empty_held chain.partitions) server

-- so many servers, to each of which nothing has happened
pub record AreNewServers (chain : Chain) (count : ℕ) (servers : List (Option Server)) : Type 0 where
  pub size : length servers ≡ count
  pub each : (number : ℕ) → number < count → IsNewSlot chain number (server_in servers number)

-- so many links, on each of which nothing is queued
pub record AreNewLinks (count : ℕ) (links : List Queue) : Type 0 where
  pub size : length links ≡ count
  pub each : (number : ℕ) → number < count → link_in links number ≡ record { from = number; messages = []; gap = false }

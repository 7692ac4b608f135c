-- A server that begins anew.
use Rattle.std.specs.Prelude.{ℕ, ◌≡◌, ◌≢◌, ◌<◌, ◌^◌, ◌-◌, ◌==◌, ◌||◌, Bool, true, List, [], length, Option, Some, None}
use Rattle.std.specs.Prelude.{is_some, if◌then◌else◌}
use Rattle.ftc_journal.specs.declared.event.Event.TheVariants as event
use Rattle.ftc_journal.specs.declared.event.VisitName.{VisitName}
use Rattle.ftc_link.specs.Queue.{Queue}
use Rattle.ftc_mbox.specs.declared.rule.Rule.{Rule}
use Rattle.ftc_protocol.specs.Drive.{IsNoneDue}
use Rattle.ftc_protocol.specs.Legal.{IsNextLine}
use Rattle.ftc_protocol.specs.Next.{next}
use Rattle.ftc_protocol.specs.Recovery.{undone_visits}
use Rattle.ftc_protocol.specs.Run.{IsRunState}
use Rattle.ftc_protocol.specs.Setting.{Setting, rule_at}
use Rattle.ftc_protocol.specs.State.{ChainState}
use Rattle.ftc_ring.specs.Live.{IsLiveBefore, IsLiveAfter}
use Rattle.ftc_ring.specs.Ring.{next_of}
use Rattle.ftc_script.specs.declared.line.ScriptLine.TheVariants.{Recover}
use Rattle.ftc_server.specs.declared.server.Server.{Server}
use Rattle.ftc_server.specs.Slots.{slots_are_ready}
use Rattle.ftc_server.specs.Steps.{HasDropped}
use Rattle.ftc_network.specs.declared.network.Network.{Network}
use Rattle.ftc_network.specs.Parts.{server_in}
use Rattle.ftc_network.specs.Stand.{IsNetwork}

-- The script's next line, which is due, has the server begin anew with that rule, in a state to which a run of few
-- events leads, and for which the network stands.
pub record IsRecovering (server : ℕ) (rule : Rule) (network : Network) : Type 0 where
  pub setting : Setting
  pub state : ChainState
  pub run : IsRunState setting state
  pub line : IsNextLine state.lines (Recover state.entered server)
  pub none_due : IsNoneDue setting state
  pub rule_is : rule ≡ rule_at setting server
  pub few : state.events < 2 ^ 64 - 1
  pub stands : IsNetwork setting state network

-- these are the visits that this undoes, and the network stands for the state after it
pub record HasRecovered (setting : Setting) (state : ChainState) (server : ℕ) (undone : List VisitName)
    (new : Network) : Type 0 where
  pub undone_is : undone ≡ undone_visits setting state server
  pub stands : IsNetwork setting (next setting state (event.Recover server undone)) new

-- ---- the two live servers next to one

-- the servers that are up
abbrev pub is_up : List (Option Server) → ℕ → Bool
is_up servers number = is_some (server_in servers number)

-- the nearest before a server, and the nearest after it
pub record AreNear (size : ℕ) (servers : List (Option Server)) (server previous following : ℕ) : Type 0 where
  pub before : IsLiveBefore size (is_up servers) server previous
  pub after : IsLiveAfter size (is_up servers) server following

-- ---- what becomes of the links

-- what is queued to a server goes away
abbrev pub emptied : ℕ → ℕ → ℕ → Queue → Queue
emptied size server link queue =
    record queue { messages = if next_of size link == server then [] else queue.messages }

-- the links into a server and out of it get gaps
abbrev pub with_gaps : ℕ → ℕ → ℕ → Queue → Queue
with_gaps size server link queue =
    record queue { gap = queue.gap || (link == server) || (next_of size link == server) }

-- what is queued to the live server after goes away, and both servers' links get gaps
abbrev pub cut_off : ℕ → ℕ → ℕ → ℕ → Queue → Queue
cut_off size server following link queue =
    with_gaps size following link (with_gaps size server link (emptied size following link queue))

-- ---- what becomes of the servers

-- what the slots of a server run lacks no log
abbrev pub may_drop : Option Server → Bool
may_drop None = true
may_drop (Some server) = slots_are_ready server.others.items server.head server.held.items

-- the server, where it is up, drops the messages that lack a log
abbrev pub SlotHasDropped : Option Server → Option Server → Type 0
SlotHasDropped None new = new ≡ None
SlotHasDropped (Some old) None = ⊥
SlotHasDropped (Some old) (Some new) = HasDropped old new

-- the new server is there, the live server after has dropped messages, and the others are as they were
pub record AreReplaced (old new : List (Option Server)) (server following : ℕ) (made : Server) : Type 0 where
  pub size : length new ≡ length old
  pub here : server_in new server ≡ Some made
  pub dropped : following ≢ server → SlotHasDropped (server_in old following) (server_in new following)
  pub others : (number : ℕ) → number ≢ server → number ≢ following → server_in new number ≡ server_in old number

-- Logs that ride with a message, and those of the forwarder: the two have none in common.
use Rattle.std.proofs.Common.{◌≡◌, ◌∙◌, ◌==◌, ◌∷◌, ℕ, Bool, true, false, not, List, [], Some, filter, refl, sym, subst}
use Rattle.std.proofs.Common.{cond}
use Rattle.std.specs.List.{AllByRecursion, list_all}
use Rattle.ftc_base.proofs.EachOf.{all-weaker, all_tests, all_zip}
use Rattle.ftc_base.proofs.Bools.{not_from_never}
use Rattle.ftc_message.specs.Logged.{Logged}
use Rattle.ftc_message.specs.Ordered.{is_log_of, with_item, with_items}
use Rattle.ftc_message.proofs.InOrder.{all-filter, all-with_item}
use Rattle.ftc_protocol.specs.Setting.{Setting}
use Rattle.ftc_protocol.specs.State.{ChainState, Message}
use Rattle.ftc_protocol.specs.Orderly.{IsRiding}
use Rattle.ftc_protocol.specs.Visits.{Visits, In, no_visits}
use Rattle.ftc_ties.specs.Logs.{IsLogIn}
use Rattle.ftc_ties.specs.Messages.{AreLogsOf, names_log}
use Rattle.ftc_server.specs.declared.held.HeldMessage.{HeldMessage}
use Rattle.ftc_server.specs.declared.server.Server.{Server}
use Rattle.ftc_server.specs.Looks.{are_apart, onward_in}
use Rattle.ftc_server.specs.Standing.{group_ending_at}
use Rattle.ftc_standing.specs.Stand.{AreForwarded, IsSentAs}
use Rattle.ftc_standing.specs.View.{forwarded_at}
use Rattle.ftc_refinement.specs.Contents.{IsServerAt}
use Rattle.ftc_refinement.proofs.Messages.{log_names}
use Rattle.ftc_refinement.proofs.Ring.{each_named}

-- ---- what is so of all logs

-- what is so of each log of a set of visits, with what is so of each visit of the set
pub each_log : (setting : Setting) (state : ChainState) (visits : Visits) (logs : List Logged)
    (P : ℕ → ℕ → Type 0) (Q : Logged → Type 0) → AreLogsOf setting state visits logs →
    ((group packet : ℕ) → In visits group packet → P group packet) →
    ((log : Logged) → IsLogIn setting.partitions state.trace log → P log.group log.origin → Q log) →
    AllByRecursion Q logs
each_log setting state visits logs P Q are so from =
    all_zip (IsLogIn setting.partitions state.trace)
    (λ (log : Logged). names_log logs log.group log.origin ≡ true) Q
    (λ log of_log named. from log of_log (so log.group log.origin (sym (are.names log.group log.origin) ∙ named))) logs
    are.each (each_named logs)

-- ---- logs apart

pub apart_by : (P Q : ℕ → ℕ → Type 0) → ((group packet : ℕ) → P group packet → Q group packet → ⊥) →
    (logs others : List Logged) → AllByRecursion (λ (log : Logged). P log.group log.origin) logs →
    AllByRecursion (λ (log : Logged). Q log.group log.origin) others → are_apart logs others ≡ true
apart_by P Q never logs others first second =
    all_tests (λ (log : Logged). list_all (λ (other : Logged). not (is_log_of log.origin log.group other)) others) logs
    (all-weaker (λ (log : Logged). P log.group log.origin)
    (λ (log : Logged). list_all (λ (other : Logged). not (is_log_of log.origin log.group other)) others ≡ true)
    (λ log one. all_tests (λ (other : Logged). not (is_log_of log.origin log.group other)) others
    (all-weaker (λ (other : Logged). Q other.group other.origin)
    (λ (other : Logged). not (is_log_of log.origin log.group other) ≡ true)
    (λ other another. not_from_never (is_log_of log.origin log.group other) (λ is.
    let names = log_names log.origin log.group other is in
    never log.group log.origin one
    (subst (λ g. Q g log.origin) names.1 (subst (λ p. Q other.group p) names.0 another)))) others second)) logs first)

-- the forwarder of a server has only what the state's forwarder has
forwarded_in : (state : ChainState) (server group packet : ℕ) → In (forwarded_at state server) group packet →
    In state.forwarder group packet
forwarded_in state server group packet is =
    elim (server == 0) as (λ b. (cond b state.forwarder no_visits) group packet ≡ true →
    In state.forwarder group packet) [
      | true ↦ λ forwarded. forwarded
      | false ↦ λ none. absurd cc
    ] is

pub each_forwarded : (setting : Setting) (state : ChainState) (server : ℕ) (forwarder : List Logged)
    (Q : Logged → Type 0) → AreForwarded setting state server forwarder →
    ((log : Logged) → IsLogIn setting.partitions state.trace log →
    In state.forwarder log.group log.origin → Q log) → AllByRecursion Q forwarder
each_forwarded setting state server forwarder Q are from =
    each_log setting state (forwarded_at state server) forwarder (In state.forwarder) Q are
    (forwarded_in state server) from

-- none of the logs that ride with a message is the forwarder's
module _ (setting : Setting) (state : ChainState) (server origin : ℕ) (old : Server) (riding : IsRiding state)
    (is : IsServerAt setting state server old) (message : Message) (there : state.message origin ≡ Some message)
    (held : HeldMessage) (stands : IsSentAs setting state origin message held.message) where
  forwarder_logs : AllByRecursion (λ (log : Logged). In state.forwarder log.group log.origin) old.forwarder
  forwarder_logs = each_forwarded setting state server old.forwarder (λ log. In state.forwarder log.group log.origin)
      is.stands.forwarded (λ log of_log forwarded. forwarded)

  onward_logs : AllByRecursion (λ (log : Logged). In message.logs log.group log.origin) (onward_in old held)
  onward_logs = all-filter (λ (log : Logged). In message.logs log.group log.origin)
      (λ (log : Logged). not (log.group == group_ending_at old.ring old.id)) held.message.logs
      (each_log setting state message.logs held.message.logs (In message.logs)
      (λ log. In message.logs log.group log.origin) stands.logs (λ group packet rides. rides)
      (λ log of_log rides. rides))

  pub forwarder_apart : are_apart old.forwarder (onward_in old held) ≡ true
  forwarder_apart = apart_by (In state.forwarder) (In message.logs)
      (λ group packet forwarded rides. riding.away group packet origin message forwarded there rides) old.forwarder
      (onward_in old held) forwarder_logs onward_logs

  pub onward_apart_from : are_apart (onward_in old held) old.forwarder ≡ true
  onward_apart_from = apart_by (In message.logs) (In state.forwarder)
      (λ group packet rides forwarded. riding.away group packet origin message forwarded there rides)
      (onward_in old held)
      old.forwarder onward_logs forwarder_logs

-- Messages that come to a server: none of their origin is held there, and they have no log and no need of its group.
use Rattle.std.proofs.Common.{◌≡◌, ◌≢◌, ◌∙◌, ◌==◌, ◌&&◌, ◌||◌, ◌∷◌, ℕ, Bool, true, false, not, List, [], Some, None}
use Rattle.std.proofs.Common.{refl, sym, ap, subst, cond}
use Rattle.std.specs.List.{list_all, AllByRecursion}
use Rattle.std.specs.Option.{is_some}
use Rattle.std.proofs.lemmas.Bool.{eq-eqb, ne_eqb}
use Rattle.ftc_base.proofs.EachOf.{all-weaker, all_tests}
use Rattle.ftc_message.specs.declared.message.Message.{Message as SentMessage}
use Rattle.ftc_message.specs.declared.need.Need.{Need}
use Rattle.ftc_message.specs.Logged.{Logged}
use Rattle.ftc_protocol.specs.Setting.{Setting}
use Rattle.ftc_protocol.specs.State.{ChainState, Message, Where, Held, Queued}
use Rattle.ftc_ties.specs.Messages.{names_log, needs_of}
use Rattle.ftc_server.specs.declared.held.HeldMessage.{HeldMessage}
use Rattle.ftc_server.specs.Holding.{found, is_held, arrived}
use Rattle.ftc_server.specs.Slots.{is_open}
use Rattle.ftc_standing.specs.Arrivals.{kept_of, IsKeptAs, AreArrived}
use Rattle.ftc_standing.specs.View.{queued_on, where_it, is_queued_on}
use Rattle.ftc_standing.specs.Stand.{IsSentAs, AreItems, since_of, origin_of}
use Rattle.ftc_standing.proofs.Arriving.{kept_same}
use Rattle.ftc_refinement.specs.Contents.{items_of}
use Rattle.ftc_refinement.proofs.Ring.{each_named, or_true}
use Rattle.ftc_refinement.proofs.Works.{held_in}

-- ---- what a server holds

pub not_held : (setting : Setting) (state : ChainState) (server origin : ℕ) (messages : List HeldMessage) →
    AreItems setting state server (items_of messages) →
    ((message : Message) (visited by_ring : Bool) → state.message origin ≡ Some message →
    message.place ≡ Held server visited by_ring → ⊥) → is_held origin messages ≡ false
not_held setting state server origin messages items never =
    elim (found origin messages) as (λ o. found origin messages ≡ o → is_some o ≡ false) [
      | None ↦ λ none. refl
      | Some held ↦ λ there.
          let in_state = held_in setting state server origin held messages there items in
          absurd (never in_state.message held.visited held.by_ring in_state.there in_state.stands.place)
    ] refl

-- ---- logs and needs of other groups

not_of : (group other : ℕ) → other ≢ group → not (other == group) ≡ true
not_of group other differs = ap not (ne_eqb other group differs)

pub open_to : (group : ℕ) (sent : SentMessage) (by_ring : Bool) →
    AllByRecursion (λ (log : Logged). log.group ≢ group) sent.logs →
    AllByRecursion (λ (need : Need). need.group ≢ group) sent.needs → is_open group (arrived sent by_ring) ≡ true
open_to group sent by_ring logs needs =
    ap (λ b. b && list_all (λ (need : Need). not (need.group == group)) sent.needs)
    (all_tests (λ (log : Logged). not (log.group == group)) sent.logs
    (all-weaker (λ (log : Logged). log.group ≢ group) (λ (log : Logged). not (log.group == group) ≡ true)
    (λ log differs. not_of group log.group differs) sent.logs logs))
    ∙ all_tests (λ (need : Need). not (need.group == group)) sent.needs
    (all-weaker (λ (need : Need). need.group ≢ group) (λ (need : Need). not (need.group == group) ≡ true)
    (λ need differs. not_of group need.group differs) sent.needs needs)

-- a message that begins has none
pub begun_open : (group : ℕ) (sent : SentMessage) (by_ring : Bool) → sent.logs ≡ [] → sent.needs ≡ [] →
    is_open group (arrived sent by_ring) ≡ true
begun_open group sent by_ring no_logs no_needs =
    open_to group sent by_ring
    (subst (AllByRecursion (λ (log : Logged). log.group ≢ group)) (sym no_logs) tt)
    (subst (AllByRecursion (λ (need : Need). need.group ≢ group)) (sym no_needs) tt)

-- each need of a list is of a group that the list has
pub each_needed : (needs : List Need) → AllByRecursion (λ (need : Need). needs_of needs need.group ≡ true) needs
each_needed [] = tt
each_needed (need ∷ needs) = (
  ap (λ b. b || needs_of needs need.group) (eq-eqb need.group need.group refl),
  all-weaker (λ (other : Need). needs_of needs other.group ≡ true)
      (λ (other : Need). needs_of (need ∷ needs) other.group ≡ true)
      (λ other has. or_true (need.group == other.group) (needs_of needs other.group) has) needs (each_needed needs),
)

-- what is so of the groups of a message's logs and needs is so of those of its sent form
pub of_logs : (setting : Setting) (state : ChainState) (origin : ℕ) (message : Message) (sent : SentMessage)
    (P : ℕ → ℕ → Type 0) → IsSentAs setting state origin message sent →
    ((group packet : ℕ) → message.logs group packet ≡ true → P group packet) →
    AllByRecursion (λ (log : Logged). P log.group log.origin) sent.logs
of_logs setting state origin message sent P is all =
    all-weaker (λ (log : Logged). names_log sent.logs log.group log.origin ≡ true)
    (λ (log : Logged). P log.group log.origin)
    (λ log named. all log.group log.origin (sym (is.logs.names log.group log.origin) ∙ named)) sent.logs
    (each_named sent.logs)

pub of_needs : (setting : Setting) (state : ChainState) (origin : ℕ) (message : Message) (sent : SentMessage)
    (P : ℕ → Type 0) → IsSentAs setting state origin message sent →
    ((group : ℕ) → message.needs group ≡ true → P group) → AllByRecursion (λ (need : Need). P need.group) sent.needs
of_needs setting state origin message sent P is all =
    all-weaker (λ (need : Need). needs_of sent.needs need.group ≡ true) (λ (need : Need). P need.group)
    (λ need has. all need.group (sym (is.needs.names need.group) ∙ has)) sent.needs (each_needed sent.needs)

-- ---- the oldest message of a link

queued_is : (state : ChainState) (link origin : ℕ) (message : Message) → state.message origin ≡ Some message →
    message.place ≡ Queued link → queued_on state link origin ≡ Some message
queued_is state link origin message there place =
    ap (where_it (is_queued_on link)) there
    ∙ (ap (λ (p : Where). cond (is_queued_on link p) (Some message) None) place
    ∙ ap (λ b. cond b (Some message) None) (eq-eqb link link refl))

-- they stand for what is queued on the link
abbrev AreQueued : Setting → ChainState → ℕ → List SentMessage → Type 0
AreQueued setting state link messages =
    AreArrived since_of origin_of (IsSentAs setting state) (queued_on state link) messages

pub some_oldest : (setting : Setting) (state : ChainState) (link origin : ℕ) (message : Message)
    (messages : List SentMessage) → state.message origin ≡ Some message → message.place ≡ Queued link →
    AreQueued setting state link messages → (sent : SentMessage) × (rest : List SentMessage) × (messages ≡ sent ∷ rest)
some_oldest setting state link origin message [] there place are =
    absurd (subst (λ o. IsKeptAs (IsSentAs setting state) origin o None)
    (queued_is state link origin message there place) (are.each origin))
some_oldest setting state link origin message (sent ∷ rest) there place are = (sent, rest, refl)

pub oldest_is : (setting : Setting) (state : ChainState) (link origin : ℕ) (message : Message) (sent : SentMessage)
    (rest : List SentMessage) → state.message origin ≡ Some message → message.place ≡ Queued link →
    sent.origin ≡ origin → AreQueued setting state link (sent ∷ rest) → IsSentAs setting state origin message sent
oldest_is setting state link origin message sent rest there place named are =
    subst (IsKeptAs (IsSentAs setting state) origin (Some message)) (kept_same origin_of sent rest origin named)
    (subst (λ o. IsKeptAs (IsSentAs setting state) origin o (kept_of origin_of origin (sent ∷ rest)))
    (queued_is state link origin message there place) (are.each origin))

-- The held messages that stay where a server drops those that lack a log.
use Rattle.std.proofs.Common.{◌≡◌, ◌∙◌, ◌++◌, ◌∷◌, ℕ, Bool, true, false, List, [], Option, Some, None, refl, sym, ap}
use Rattle.std.proofs.Common.{subst, cond}
use Rattle.std.specs.List.{filter, AllByRecursion}
use Rattle.std.specs.Option.{option_map}
use Rattle.ftc_protocol.specs.Setting.{Setting}
use Rattle.ftc_protocol.specs.State.{ChainState, Message}
use Rattle.ftc_protocol.specs.Trace.{has_each}
use Rattle.ftc_server.specs.declared.held.HeldMessage.{HeldMessage}
use Rattle.ftc_server.specs.declared.server.Server.{Server}
use Rattle.ftc_server.specs.Holding.{found}
use Rattle.ftc_server.specs.State.{ServerState}
use Rattle.ftc_server.specs.Steps.{HasDropped}
use Rattle.ftc_server.specs.Replicas.{is_ready}
use Rattle.ftc_standing.specs.Arrivals.{kept_of}
use Rattle.ftc_standing.specs.View.{held_at}
use Rattle.ftc_standing.specs.Stand.{HeldItem, IsServer, IsHeldAs, AreItems, since_of}
use Rattle.ftc_standing.proofs.Arriving.{kept_here}
use Rattle.ftc_refinement.specs.Contents.{item_of_held, items_of, contents_of, IsServerAt}
use Rattle.ftc_refinement.proofs.Messages.{origin_in, kept_item, items_among}
use Rattle.ftc_refinement.proofs.MessageCalls.{leaves}
use Rattle.ftc_refinement.proofs.HeldInTurn.{held_by_item}

-- ---- each held message is found by its origin

message_of_item : HeldItem → HeldMessage
message_of_item item = record { visited = item.visited; by_ring = item.by_ring; message = item.message }

assoc : {A : Type 0} (before : List A) (item : A) (after : List A) →
    (before ++ item ∷ []) ++ after ≡ before ++ item ∷ after
assoc [] item after = refl
assoc (x ∷ before) item after = ap (λ list. x ∷ list) (assoc before item after)

module _ (setting : Setting) (state : ChainState) (server : ℕ) where
  each_from : (before after : List HeldMessage) → AreItems setting state server (items_of (before ++ after)) →
      AllByRecursion (λ (held : HeldMessage). found held.message.origin (before ++ after) ≡ Some held) after
  each_from before [] are = tt
  each_from before (held ∷ after) are = (
    held_by_item (found held.message.origin (before ++ held ∷ after)) held
        (sym (kept_item held.message.origin (before ++ held ∷ after))
        ∙ (ap (kept_of origin_in held.message.origin) (items_among before after held)
        ∙ kept_here since_of origin_in
        (λ origin message item. IsHeldAs setting state server origin message item.visited item.by_ring item.message)
        (held_at state server) (items_of before) (item_of_held held) (items_of after)
        (subst (AreItems setting state server) (items_among before after held) are))),
    subst (λ (list : List HeldMessage). AllByRecursion (λ (other : HeldMessage). found other.message.origin list
        ≡ Some other) after)
        (assoc before held after)
        (each_from (before ++ held ∷ []) after
        (subst (λ (list : List HeldMessage). AreItems setting state server (items_of list))
        (sym (assoc before held after)) are)),
  )

  pub each_found : (messages : List HeldMessage) → AreItems setting state server (items_of messages) →
      AllByRecursion (λ (held : HeldMessage). found held.message.origin messages ≡ Some held) messages
  each_found messages are = each_from [] messages are

-- ---- which messages stay

pub stays_in : Setting → ChainState → ℕ → Option Message → Bool
stays_in setting state server None = true
stays_in setting state server (Some message) = has_each setting.partitions state.trace (state.lists server) message.logs

pub stays : Setting → ChainState → ℕ → HeldItem → Bool
stays setting state server item = stays_in setting state server (state.message item.message.origin)

pub stays_as : (setting : Setting) (state : ChainState) (server : ℕ) (message : Message) (item : HeldItem) →
    state.message item.message.origin ≡ Some message →
    stays setting state server item ≡ has_each setting.partitions state.trace (state.lists server) message.logs
unfolding stays stays_in
stays_as setting state server message item there = ap (stays_in setting state server) there

pub stay_alike : (test : HeldMessage → Bool) (other : HeldItem → Bool) (messages : List HeldMessage) →
    AllByRecursion (λ (held : HeldMessage). test held ≡ other (item_of_held held)) messages →
    items_of (filter test messages) ≡ filter other (items_of messages)
stay_alike test other [] alike = refl
stay_alike test other (held ∷ messages) alike =
    elim (test held) as (λ b. test held ≡ b → items_of (cond b (held ∷ filter test messages) (filter test messages))
    ≡ cond (other (item_of_held held)) (item_of_held held ∷ filter other (items_of messages))
    (filter other (items_of messages))) [
      | true ↦ λ is. ap (λ list. item_of_held held ∷ list) (stay_alike test other messages alike.1)
          ∙ ap (λ b. cond b (item_of_held held ∷ filter other (items_of messages)) (filter other (items_of messages)))
          (sym is ∙ alike.0)
      | false ↦ λ isnt. stay_alike test other messages alike.1
          ∙ ap (λ b. cond b (item_of_held held ∷ filter other (items_of messages)) (filter other (items_of messages)))
          (sym isnt ∙ alike.0)
    ] refl

-- ---- the server behind it

pub drops : (setting : Setting) (before after : ChainState) (number : ℕ) (old new : Server) (held : List HeldItem) →
    IsServerAt setting before number old → HasDropped old new →
    items_of (filter (is_ready old.others.items) old.held.items) ≡ held →
    IsServer setting after number (record (contents_of old) { held = held }) → IsServerAt setting after number new
drops setting before after number old new held was done stay =
    leaves setting before after number old new held old.buffer.items old.forwarder was
    (record {
      server = record {
        ring = ap (λ (s : ServerState). s.ring) done.rest;
        number = ap (λ (s : ServerState). s.id) done.rest;
        rule = ap (λ (s : ServerState). s.rule) done.rest;
        partitions = ap (λ (s : ServerState). s.partitions) done.rest;
      };
      head = ap (λ (s : ServerState). s.head) done.rest;
      own = ap (λ (s : ServerState). s.own.items) done.rest;
      others = ap (λ (s : ServerState). s.others) done.rest;
      known = ap (λ (s : ServerState). s.known) done.rest;
    })
    (ap items_of done.held ∙ stay)
    (ap (λ (s : ServerState). s.buffer.items) done.rest)
    (ap (λ (s : ServerState). s.forwarder) done.rest)

-- What the work of a held message says of it.
use Rattle.std.proofs.Common.{◌≡◌, ◌∙◌, ◌&&◌, ◌⊎◌, ◌∷◌, ℕ, Bool, true, false, not, List, [], Option, Some, None, refl}
use Rattle.std.proofs.Common.{ap, subst, cond, inl, inr}
use Rattle.std.specs.List.{list_all}
use Rattle.std.specs.Option.{is_some, option_map}
use Rattle.std.proofs.lemmas.Bool.{and_parts}
use Rattle.ftc_message.specs.Logged.{Logged}
use Rattle.ftc_replica.specs.Held.{Held as Replicated}
use Rattle.ftc_protocol.specs.Setting.{Setting}
use Rattle.ftc_protocol.specs.State.{ChainState, Message, Where, Held}
use Rattle.ftc_server.specs.declared.held.HeldMessage.{HeldMessage}
use Rattle.ftc_server.specs.declared.work.Work.{Work}
use Rattle.ftc_server.specs.declared.work.Work.TheVariants.{Apply, Visit, Send, Carry}
use Rattle.ftc_server.specs.Holding.{found}
use Rattle.ftc_server.specs.Replicas.{is_had, is_ready, may_apply}
use Rattle.ftc_server.specs.Work.{is_packet_of, is_waiting, next_log, last_work, work_behind, work_for}
use Rattle.ftc_standing.specs.Arrivals.{IsKeptAs}
use Rattle.ftc_standing.specs.View.{held_at, where_it, is_held_by}
use Rattle.ftc_standing.specs.Stand.{HeldItem, IsHeldAs, AreItems}
use Rattle.ftc_refinement.specs.Contents.{item_of_held, items_of}
use Rattle.ftc_refinement.proofs.Messages.{kept_item}

-- ---- work and readiness

-- where all logs are had, none is to be applied
none_next : (replicas : List (Option Replicated)) (waiting : Option ℕ) (logs : List Logged) →
    list_all (is_had replicas) logs ≡ true → next_log replicas waiting logs ≡ None
none_next replicas waiting [] all = refl
none_next replicas waiting (log ∷ logs) all =
    let parts = and_parts (is_had replicas log) (list_all (is_had replicas) logs) all in
    ap (λ b. cond b (next_log replicas waiting logs)
    (cond (is_packet_of waiting log) (next_log replicas waiting logs)
    (cond (may_apply replicas log) (Some log) (next_log replicas (Some log.origin) logs)))) parts.0
    ∙ none_next replicas waiting logs parts.1

pub last_comes : (replicas : List (Option Replicated)) (held : HeldMessage) → is_ready replicas held ≡ true →
    work_for replicas held ≡ Some (last_work held)
last_comes replicas held ready =
    ap (work_behind replicas held) (none_next replicas None held.message.logs ready)
    ∙ ap (λ b. cond b (Some (last_work held)) None) ready

-- ---- the last work

abbrev pub last_by : Bool → Bool → Work
last_by waiting by_ring = cond waiting Visit (cond by_ring Carry Send)

pub is_to_send : (waiting by_ring : Bool) → last_by waiting by_ring ≡ Send → (waiting ≡ false) × (by_ring ≡ false)
is_to_send true by_ring is = absurd cc
is_to_send false true is = absurd cc
is_to_send false false is = (refl, refl)

pub is_to_carry : (waiting by_ring : Bool) → last_by waiting by_ring ≡ Carry → by_ring ≡ true
is_to_carry true by_ring is = absurd cc
is_to_carry false true is = refl
is_to_carry false false is = absurd cc

-- a message that doesn't wait was visited, or has no packet
pub is_done : (visited : Bool) (packet : Option (List ℕ)) → not visited && is_some packet ≡ false →
    (visited ≡ true) ⊎ (packet ≡ None)
is_done true packet is = inl refl
is_done false None is = inr refl
is_done false (Some bytes) is = absurd cc

pub done_is : (visited : Bool) (packet : Option (List ℕ)) → (visited ≡ true) ⊎ (packet ≡ None) →
    not visited && is_some packet ≡ false
done_is true packet is = refl
done_is false None is = refl
done_is false (Some bytes) (inl is) = absurd cc
done_is false (Some bytes) (inr is) = absurd cc

-- a log that is to be applied is the next one
pub next_applied : (replicas : List (Option Replicated)) (held : HeldMessage) (next : Option Logged)
    (group packet : ℕ) →
    work_behind replicas held next ≡ Some (Apply group packet) →
    (log : Logged) × (next ≡ Some log) × (log.group ≡ group) × (log.origin ≡ packet)
next_applied replicas held (Some log) group packet is = (log, refl, cc, cc)
next_applied replicas held None group packet is =
    absurd (no_apply (is_ready replicas held) (is_waiting held) held.by_ring group packet is)
  where
    no_apply : (ready waiting by_ring : Bool) (group packet : ℕ) →
        cond ready (Some (last_by waiting by_ring)) None ≡ Some (Apply group packet) → ⊥
    no_apply false waiting by_ring group packet is = absurd cc
    no_apply true true by_ring group packet is = absurd cc
    no_apply true false true group packet is = absurd cc
    no_apply true false false group packet is = absurd cc

-- ---- the message of the state

pub record IsHeldIn (setting : Setting) (state : ChainState) (server origin : ℕ) (held : HeldMessage) : Type 0 where
  pub message : Message
  pub there : state.message origin ≡ Some message
  pub stands : IsHeldAs setting state server origin message held.visited held.by_ring held.message

in_place : (test : Where → Bool) (o : Option Message) (message : Message) → where_it test o ≡ Some message →
    o ≡ Some message
in_place test None message is = absurd cc
in_place test (Some other) message is =
    elim (test other.place) as (λ b. cond b (Some other) None ≡ Some message → Some other ≡ Some message) [
      | true ↦ λ same. same
      | false ↦ λ none. absurd cc
    ] is

module _ (setting : Setting) (state : ChainState) (server origin : ℕ) (held : HeldMessage) where
  abbrev Stands : ℕ → Message → HeldItem → Type 0
  Stands at message item = IsHeldAs setting state server at message item.visited item.by_ring item.message

  in_state : (o : Option Message) → held_at state server origin ≡ o →
      IsKeptAs Stands origin o (Some (item_of_held held)) → IsHeldIn setting state server origin held
  in_state None there is = absurd is
  in_state (Some message) there is = record {
    message = message;
    there = in_place (is_held_by server) (state.message origin) message there;
    stands = is;
  }

  pub held_in : (messages : List HeldMessage) → found origin messages ≡ Some held →
      AreItems setting state server (items_of messages) → IsHeldIn setting state server origin held
  held_in messages there items =
      in_state (held_at state server origin) refl
      (subst (IsKeptAs Stands origin (held_at state server origin))
      (kept_item origin messages ∙ ap (option_map item_of_held) there) (items.each origin))

pub same_flags : (server : ℕ) (visited by_ring other another : Bool) →
    Held server visited by_ring ≡ Held server other another →
    (visited ≡ other) × (by_ring ≡ another)
same_flags server visited by_ring other another same = (cc, cc)

-- The held messages of a server, and the items that stand for them.
use Rattle.std.proofs.Common.{◌≡◌, ◌∙◌, ◌==◌, ◌&&◌, ◌++◌, ◌∷◌, ℕ, Bool, true, false, List, [], Option, Some, None, refl}
use Rattle.std.proofs.Common.{sym, ap, subst, cond}
use Rattle.std.specs.List.{find, list_all, AllByRecursion}
use Rattle.std.specs.Option.{option_map}
use Rattle.std.proofs.lemmas.Bool.{eqb-true, eq-eqb, and_parts}
use Rattle.std.proofs.lemmas.List.{map-append}
use Rattle.ftc_message.specs.Logged.{Logged}
use Rattle.ftc_message.specs.Ordered.{is_log_of}
use Rattle.ftc_protocol.specs.Setting.{Setting}
use Rattle.ftc_protocol.specs.State.{ChainState, Message, Where, Held}
use Rattle.ftc_server.specs.declared.held.HeldMessage.{HeldMessage}
use Rattle.ftc_server.specs.Holding.{found, without, with_changed}
use Rattle.ftc_standing.specs.Arrivals.{kept_of, IsKeptAs}
use Rattle.ftc_standing.specs.View.{held_at, where_it, is_held_by}
use Rattle.ftc_standing.specs.Stand.{HeldItem, IsHeldAs, AreItems, origin_of}
use Rattle.ftc_refinement.specs.Contents.{item_of_held, items_of}

-- ---- tests and lists

-- what is found in a list of which all is so
pub found_is : {A : Type 0} (P : A → Type 0) (test : A → Bool) (items : List A) (item : A) → AllByRecursion P items →
    find test items ≡ Some item → P item × (test item ≡ true)
found_is P test [] item all there = absurd cc
found_is {A} P test (x ∷ items) item all there =
    elim (test x) as (λ b. test x ≡ b → cond b (Some x) (find test items) ≡ Some item → P item × (test item ≡ true)) [
      | true ↦ λ is same. let e : x ≡ item = cc in (subst P e all.0, ap test (sym e) ∙ is)
      | false ↦ λ isnt later. found_is P test items item all.1 later
    ] refl there

pub log_names : (packet group : ℕ) (log : Logged) → is_log_of packet group log ≡ true →
    (log.origin ≡ packet) × (log.group ≡ group)
log_names packet group log is =
    let parts = and_parts (log.origin == packet) (log.group == group) is in
    (eqb-true log.origin packet parts.0, eqb-true log.group group parts.1)

-- ---- items

abbrev pub origin_in : HeldItem → ℕ
origin_in item = origin_of item.message

pub kept_item : (origin : ℕ) (messages : List HeldMessage) →
    kept_of origin_in origin (items_of messages) ≡ option_map item_of_held (found origin messages)
kept_item origin [] = refl
kept_item origin (first ∷ messages) = elim (first.message.origin == origin) as (λ b.
    cond b (Some (item_of_held first)) (kept_of origin_in origin (items_of messages))
    ≡ option_map item_of_held (cond b (Some first) (found origin messages))) [
      | true ↦ refl
      | false ↦ kept_item origin messages
    ]

-- A message of a list: what is before it and behind it, and what the list is without it or with another in its place.
pub record IsAmong (origin : ℕ) (messages : List HeldMessage) (held : HeldMessage) : Type 0 where
  pub before : List HeldMessage
  pub after : List HeldMessage
  pub parts : messages ≡ before ++ held ∷ after
  pub others : without origin messages ≡ before ++ after
  pub changed : (change : HeldMessage → HeldMessage) →
      with_changed origin change messages ≡ before ++ change held ∷ after
  pub origin_is : held.message.origin ≡ origin

pub among : (origin : ℕ) (messages : List HeldMessage) (held : HeldMessage) → found origin messages ≡ Some held →
    IsAmong origin messages held
among origin [] held there = absurd cc
among origin (first ∷ messages) held there =
    elim (first.message.origin == origin) as (λ b. (first.message.origin == origin) ≡ b →
    cond b (Some first) (found origin messages) ≡ Some held → IsAmong origin (first ∷ messages) held) [
      | true ↦ λ is same. let e : first ≡ held = cc in record {
        before = [];
        after = messages;
        parts = ap (λ x. x ∷ messages) e;
        others = ap (λ b. cond b messages (first ∷ without origin messages)) is;
        changed = λ change. ap (λ b. cond b (change first ∷ messages) (first ∷ with_changed origin change messages)) is
            ∙ ap (λ x. change x ∷ messages) e;
        origin_is = ap (λ (x : HeldMessage). x.message.origin) (sym e) ∙ eqb-true first.message.origin origin is;
      }
      | false ↦ λ isnt later. let rest = among origin messages held later in record {
        before = first ∷ rest.before;
        after = rest.after;
        parts = ap (λ x. first ∷ x) rest.parts;
        others = ap (λ b. cond b messages (first ∷ without origin messages)) isnt ∙ ap (λ x. first ∷ x) rest.others;
        changed = λ change. ap (λ b. cond b (change first ∷ messages) (first
            ∷ with_changed origin change messages)) isnt
            ∙ ap (λ x. first ∷ x) (rest.changed change);
        origin_is = rest.origin_is;
      }
    ] refl there

pub items_among : (before after : List HeldMessage) (held : HeldMessage) →
    items_of (before ++ held ∷ after) ≡ items_of before ++ item_of_held held ∷ items_of after
items_among before after held = map-append item_of_held before (held ∷ after)

pub items_apart : (before after : List HeldMessage) → items_of (before ++ after) ≡ items_of before ++ items_of after
items_apart before after = map-append item_of_held before after

-- ---- what a server holds in a state

pub held_is : (state : ChainState) (server origin : ℕ) (message : Message) (visited by_ring : Bool) →
    state.message origin ≡ Some message → message.place ≡ Held server visited by_ring →
    held_at state server origin ≡ Some message
held_is state server origin message visited by_ring there place =
    ap (where_it (is_held_by server)) there
    ∙ (ap (λ (p : Where). cond (is_held_by server p) (Some message) None) place
    ∙ ap (λ b. cond b (Some message) None) (eq-eqb server server refl))

-- the held message that stands for one of the state
pub record IsFoundAs (setting : Setting) (state : ChainState) (server origin : ℕ) (message : Message)
    (messages : List HeldMessage) : Type 0 where
  pub held : HeldMessage
  pub there : found origin messages ≡ Some held
  pub stands : IsHeldAs setting state server origin message held.visited held.by_ring held.message

module _ (setting : Setting) (state : ChainState) (server origin : ℕ) where
  abbrev Stands : ℕ → Message → HeldItem → Type 0
  Stands at message item = IsHeldAs setting state server at message item.visited item.by_ring item.message

  found_for : (message : Message) (messages : List HeldMessage) (o : Option HeldMessage) → found origin messages ≡ o →
      IsKeptAs Stands origin (Some message) (option_map item_of_held o) →
      IsFoundAs setting state server origin message messages
  found_for message messages None there is = absurd is
  found_for message messages (Some held) there is = record { held = held; there = there; stands = is }

  pub found_as : (message : Message) (visited by_ring : Bool) (messages : List HeldMessage) →
      state.message origin ≡ Some message → message.place ≡ Held server visited by_ring →
      AreItems setting state server (items_of messages) → IsFoundAs setting state server origin message messages
  found_as message visited by_ring messages there place items =
      found_for message messages (found origin messages) refl
      (subst (IsKeptAs Stands origin (Some message)) (kept_item origin messages)
      (subst (λ o. IsKeptAs Stands origin o (kept_of origin_in origin (items_of messages)))
      (held_is state server origin message visited by_ring there place) (items.each origin)))

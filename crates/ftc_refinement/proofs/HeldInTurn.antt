-- The messages that a server holds, by their places in its list.
use Rattle.std.proofs.Common.{◌≡◌, ◌∙◌, ◌<◌, ◌++◌, ◌∷◌, ℕ, List, [], Option, Some, None, sym, ap, subst, inl, inr}
use Rattle.std.specs.Option.{option_map}
use Rattle.std.proofs.lemmas.Option.{none-some, same_Some}
use Rattle.ftc_txn.proofs.KeptByCalls.{some_of}
use Rattle.ftc_serial.specs.Words.{AnyOf}
use Rattle.ftc_protocol.specs.Setting.{Setting}
use Rattle.ftc_protocol.specs.State.{ChainState, Message, Held}
use Rattle.ftc_protocol.specs.Legal.{IsHeld}
use Rattle.ftc_server.specs.declared.held.HeldMessage.{HeldMessage}
use Rattle.ftc_server.specs.Holding.{found}
use Rattle.ftc_standing.specs.Arrivals.{kept_of}
use Rattle.ftc_standing.specs.View.{held_at, is_held_by}
use Rattle.ftc_standing.specs.Stand.{HeldItem, AreItems, IsHeldAs, since_of}
use Rattle.ftc_standing.proofs.Arriving.{kept_here, there_here}
use Rattle.ftc_standing.proofs.Lasting.{of_it}
use Rattle.ftc_refinement.specs.Contents.{item_of_held, items_of}
use Rattle.ftc_refinement.proofs.InTurn.{later_is_later, stands_before}
use Rattle.ftc_refinement.proofs.Messages.{held_is, items_among, kept_item, origin_in}

held_of_item : HeldItem → HeldMessage
held_of_item item = record { visited = item.visited; by_ring = item.by_ring; message = item.message }

pub held_by_item : (o : Option HeldMessage) (held : HeldMessage) →
    option_map item_of_held o ≡ Some (item_of_held held) → o ≡ Some held
unfolding held_of_item
held_by_item None held is = absurd (none-some (item_of_held held) is)
held_by_item (Some other) held is =
    ap (λ item. Some (held_of_item item)) (same_Some (item_of_held other) (item_of_held held) is)

any_held : (origin : ℕ) (messages : List HeldMessage) → AnyOf (λ item. origin_in item ≡ origin) (items_of messages) →
    AnyOf (λ (held : HeldMessage). held.message.origin ≡ origin) messages
any_held origin [] some = absurd some
any_held origin (held ∷ messages) some =
    elim some [ inl here ↦ inl here | inr later ↦ inr (any_held origin messages later) ]

module _ (setting : Setting) (state : ChainState) (server : ℕ) (messages : List HeldMessage)
    (items : AreItems setting state server (items_of messages)) where
  abbrev Stands : ℕ → Message → HeldItem → Type 0
  Stands at message item = IsHeldAs setting state server at message item.visited item.by_ring item.message

  module _ (before : List HeldMessage) (held : HeldMessage) (after : List HeldMessage)
      (parts : messages ≡ before ++ held ∷ after) where
    placed : AreItems setting state server (items_of before ++ item_of_held held ∷ items_of after)
    placed = subst (AreItems setting state server) (ap items_of parts ∙ items_among before after held) items

    pub found_here : found held.message.origin messages ≡ Some held
    found_here = held_by_item (found held.message.origin messages) held
        (sym (kept_item held.message.origin messages)
        ∙ (ap (λ list. kept_of origin_in held.message.origin list)
        (ap items_of parts ∙ items_among before after held)
        ∙ kept_here since_of origin_in Stands (held_at state server) (items_of before) (item_of_held held)
        (items_of after) placed))

    stands_here : (message : Message) × (held_at state server held.message.origin ≡ Some message)
        × IsHeldAs setting state server held.message.origin message held.visited held.by_ring held.message
    stands_here = there_here since_of origin_in Stands (held_at state server) (items_of before) (item_of_held held)
        (items_of after) placed

    pub there_in_state : (message : Message) × (state.message held.message.origin ≡ Some message)
        × (message.place ≡ Held server held.visited held.by_ring)
    there_in_state =
        let its = stands_here in
        (its.0, of_it (is_held_by server) (state.message held.message.origin) its.0 its.1, its.2.place)

    pub is_held_here : (message : Message) × IsHeld state server held.message.origin message
    is_held_here =
        let its = there_in_state in (its.0, (its.1, held.visited, held.by_ring, its.2))

    held_here : (message : Message) → state.message held.message.origin ≡ Some message →
        held_at state server held.message.origin ≡ Some message
    held_here message there =
        let its = stands_here in
        let same = some_of (state.message held.message.origin) its.0 message
        (of_it (is_held_by server) (state.message held.message.origin) its.0 its.1) there in
        its.1 ∙ ap (λ m. Some m) same

    pub sooner_before : (another : ℕ) (message other : Message) → state.message held.message.origin ≡ Some message →
        IsHeld state server another other → other.since < message.since →
        AnyOf (λ (item : HeldMessage). item.message.origin ≡ another) before
    sooner_before another message other there is sooner = any_held another before
        (stands_before since_of origin_in Stands (held_at state server) (items_of before) (item_of_held held)
        (items_of after) placed message other another (held_here message there)
        (held_is state server another other is.1 is.2 is.0 is.3) sooner)

  pub later_here : (before : List HeldMessage) (held : HeldMessage) (between : List HeldMessage) (later : HeldMessage)
      (after : List HeldMessage) (message other : Message) → messages ≡ before ++ held ∷ (between ++ later ∷ after) →
      (before ++ held ∷ (between ++ later ∷ after) ≡ (before ++ held ∷ between) ++ later ∷ after) →
      state.message held.message.origin ≡ Some message → state.message later.message.origin ≡ Some other →
      message.since < other.since
  later_here before held between later after message other parts same first second =
      later_is_later since_of origin_in Stands (held_at state server) (items_of before) (item_of_held held)
      (items_of between) (item_of_held later) (items_of after)
      (subst (AreItems setting state server)
      (ap items_of parts ∙ (items_among before (between ++ later ∷ after) held
      ∙ ap (λ list. items_of before ++ item_of_held held ∷ list) (items_among between after later))) items)
      message other (held_here before held (between ++ later ∷ after) parts message first)
      (held_here (before ++ held ∷ between) later after (parts ∙ same) other second)

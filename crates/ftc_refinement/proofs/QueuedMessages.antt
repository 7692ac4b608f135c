-- Which message of a link may be taken: its oldest.
use Rattle.std.proofs.Common.{◌≡◌, ◌∙◌, ◌∷◌, ℕ, Bool, true, false, List, [], Option, Some, None, refl, sym, ap, subst}
use Rattle.std.proofs.Common.{cond, eq-eqb, eqb-true}
use Rattle.std.proofs.lemmas.Option.{none-some, same_Some}
use Rattle.ftc_journal.specs.declared.event.Event.TheVariants as event
use Rattle.ftc_link.specs.Queue.{Queue}
use Rattle.ftc_message.specs.declared.message.Message.{Message as SentMessage}
use Rattle.ftc_protocol.specs.Setting.{Setting}
use Rattle.ftc_protocol.specs.State.{ChainState, Message, Where, Held, Queued}
use Rattle.ftc_protocol.specs.Legal.{MayHappen}
use Rattle.ftc_standing.specs.Arrivals.{AreArrived}
use Rattle.ftc_standing.specs.View.{where_it, is_queued_on, queued_on}
use Rattle.ftc_standing.specs.Stand.{IsSentAs, IsLink, since_of, origin_of}
use Rattle.ftc_standing.proofs.Arriving.{first_is, none_there, there_here}
use Rattle.ftc_standing.proofs.SamePlaces.{at_place, link_is}
use Rattle.ftc_refinement.proofs.InTurn.{first_oldest}

pub at_test : (test : Where → Bool) (o : Option Message) (message : Message) → where_it test o ≡ Some message →
    (o ≡ Some message) × (test message.place ≡ true)
at_test test None message is = absurd (none-some message is)
at_test test (Some other) message is =
    elim (test other.place) as (λ b. test other.place ≡ b → cond b (Some other) None ≡ Some message →
    (Some other ≡ Some message) × (test message.place ≡ true)) [
      | true ↦ λ e same. (same, subst (λ (m : Message). test m.place ≡ true) (same_Some other message same) e)
      | false ↦ λ e none. absurd (none-some message none)
    ] refl is

module _ (setting : Setting) (state : ChainState) (link : ℕ) (queue : Queue)
    (is : IsLink setting state link queue) where
  pub on_link : (origin : ℕ) (message : Message) → state.message origin ≡ Some message →
      message.place ≡ Queued link → queued_on state link origin ≡ Some message
  on_link origin message there place =
      at_place (is_queued_on link) (state.message origin) message (Queued link) true there place (eq-eqb link link refl)

  queued_there : (origin : ℕ) (message : Message) → queued_on state link origin ≡ Some message →
      (state.message origin ≡ Some message) × (message.place ≡ Queued link)
  queued_there origin message at =
      let parts = at_test (is_queued_on link) (state.message origin) message at in
      (parts.0, link_is link message.place parts.1)

  are_queued : (messages : List SentMessage) → queue.messages ≡ messages →
      AreArrived since_of origin_of (IsSentAs setting state) (queued_on state link) messages
  are_queued messages parts =
      subst (AreArrived since_of origin_of (IsSentAs setting state) (queued_on state link)) parts is.queued

  pub oldest_may : (sent : SentMessage) (rest : List SentMessage) → queue.messages ≡ sent ∷ rest →
      MayHappen setting state (event.Take link sent.origin)
  oldest_may sent rest first =
      let are = are_queued (sent ∷ rest) first in
      let its = there_here since_of origin_of (IsSentAs setting state) (queued_on state link) [] sent rest are in
      let here = queued_there sent.origin its.0 its.1 in (
        its.0,
        here.0,
        here.1,
        λ other queued there place.
            first_oldest since_of origin_of (IsSentAs setting state) (queued_on state link) sent rest are its.0 queued
            other its.1 (on_link other queued there place),
      )

  pub only_oldest : (sent : SentMessage) (rest : List SentMessage) (origin : ℕ) → queue.messages ≡ sent ∷ rest →
      MayHappen setting state (event.Take link origin) → origin ≡ sent.origin
  only_oldest sent rest origin first may =
      sym (first_is since_of origin_of (IsSentAs setting state) (queued_on state link) sent rest
      (are_queued (sent ∷ rest) first) origin may.0 (on_link origin may.0 may.1 may.2)
      (λ other old at. let here = queued_there other old at in may.3 other old here.0 here.1))

  pub none_on_link : (origin : ℕ) → queue.messages ≡ [] → queued_on state link origin ≡ None
  none_on_link origin empty =
      none_there since_of origin_of (IsSentAs setting state) (queued_on state link) origin (are_queued [] empty)

  -- where none is there, none is queued
  pub none_queued : ((origin : ℕ) → state.message origin ≡ None) → queue.messages ≡ []
  none_queued none = empty queue.messages refl
    where
      empty : (messages : List SentMessage) → queue.messages ≡ messages → messages ≡ []
      empty [] parts = refl
      empty (sent ∷ rest) parts =
          let may = oldest_may sent rest parts in absurd (none-some may.0 (sym (none sent.origin) ∙ may.1))

use Rattle.std.proofs.Common.{◌≡◌, ◌∙◌, ◌+◌, ◌==◌, ◌++◌, ◌∷◌, ℕ, true, false, List, [], Some, None, refl, ap, cond}
use Rattle.std.proofs.lemmas.Bool.{eq-eqb, eqb-true}
use Rattle.std.proofs.lemmas.List.{append-nil}
use Rattle.ftc_edge.specs.declared.buffer.Withheld.{Withheld}
use Rattle.ftc_message.specs.declared.need.Need.{Need}
use Rattle.ftc_protocol.specs.Setting.{servers}
use Rattle.ftc_protocol.specs.Next.{next}
use Rattle.ftc_server.specs.Steps.{withheld_with}
use Rattle.ftc_standing.specs.View.{leaving}
use Rattle.ftc_standing.proofs.LeavingEvents.{may_leave}
use Rattle.ftc_refinement.specs.Contents.{items_of, item_of_held, contents_of, IsServerAt}
use Rattle.ftc_refinement.proofs.MessageCalls.{leaves, same_replicas, forwards, withholds_others, withholds_it}
use Rattle.ftc_refinement.proofs.Messages.{found_as, among, items_among, items_apart}
use Rattle.ftc_refinement.proofs.leaving.what_pass_does.Goals as goal

abbrev withheld_as : ℕ → List Need → List ℕ → List Withheld
withheld_as origin needs bytes = record { packet = origin; bytes = bytes; needs = needs } ∷ []

pub returns : goal.returns
returns c setting state lost server origin old new run legal is done =
    let event = leaving lost server origin in
    let after = next setting state event in
    let may = may_leave setting state lost server origin legal in
    let there_as = found_as setting state server origin may.0 may.1.visited false old.held.items may.1.there may.1.held
    is.stands.held in
    let held = there_as.held in
    let split = among origin old.held.items held there_as.there in
    let items = ap items_of split.parts ∙ items_among split.before split.after held in
    let holds = ap items_of (done.held ∙ split.others) ∙ items_apart split.before split.after in
    let rest = items_of split.before ++ items_of split.after in
    let same = same_replicas old new new.held new.buffer new.forwarder done.rest in
    let forwarding = forwards old new origin server done is.number_is in
    let forwarded = cond (server == 0) [] old.forwarder in
    elim (server + 1 == servers setting) as (λ b. (server + 1 == servers setting) ≡ b →
    IsServerAt setting after server new) [
      | false ↦ λ isnt. leaves setting state after server old new rest old.buffer.items forwarded is same holds
          (withholds_others setting old new origin server done is.ring is.number_is held there_as.there isnt) forwarding
          (c.a_message_leaves.ensures.on setting state lost server origin (contents_of old) (items_of split.before)
          (item_of_held held) (items_of split.after) run legal items split.origin_is
          (λ last. let is_last = eq-eqb (server + 1) (servers setting) last in absurd cc) is.stands)
      | true ↦ λ last.
          let withholding = withholds_it setting old new origin server done is.ring is.number_is held there_as.there
          last in
          elim held.message.packet as (λ p. held.message.packet ≡ p → IsServerAt setting after server new) [
            | None ↦ λ none. leaves setting state after server old new rest old.buffer.items forwarded is same holds
                (withholding ∙ (ap (λ p. old.buffer.items
                ++ withheld_with held.message.origin held.message.needs p) none
                ∙ append-nil old.buffer.items)) forwarding
                (c.a_message_leaves.ensures.empty setting state lost server origin (contents_of old)
                (items_of split.before)
                (item_of_held held) (items_of split.after) run legal items split.origin_is
                (eqb-true (server + 1) (servers setting) last) none is.stands)
            | Some bytes ↦ λ has. leaves setting state after server old new rest
                (old.buffer.items ++ withheld_as origin held.message.needs bytes) forwarded is same holds
                (withholding ∙ (ap (λ p. old.buffer.items ++ withheld_with held.message.origin held.message.needs p) has
                ∙ ap (λ n. old.buffer.items ++ withheld_as n held.message.needs bytes) split.origin_is)) forwarding
                (c.a_message_leaves.ensures.packet setting state lost server origin (contents_of old)
                (items_of split.before) (item_of_held held) (items_of split.after) bytes run legal items split.origin_is
                (eqb-true (server + 1) (servers setting) last) has is.stands)
          ] refl
    ] refl

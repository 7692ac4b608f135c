-- What a server sends of a message has a frame.
use Rattle.std.proofs.Common.{◌≡◌, ◌∙◌, ◌<◌, ◌≤◌, ◌==◌, ◌||◌, ◌∷◌, ℕ, Bool, true, false, not, List, [], Some, None}
use Rattle.std.proofs.Common.{length, refl, sym, ap, subst, cond}
use Rattle.std.specs.Prelude.{IfSome}
use Rattle.std.specs.List.{AllByRecursion}
use Rattle.std.proofs.lemmas.Bool.{eq-eqb}
use Rattle.ftc_base.specs.declared.limits.TheConstants.{MOST_CAPTURED, MOST_SERVERS}
use Rattle.ftc_base.proofs.EachOf.{all_zip}
use Rattle.ftc_message.specs.Bounds.{MarksSome}
use Rattle.ftc_message.specs.declared.need.Need.{Need}
use Rattle.ftc_message.specs.Logged.{Logged}
use Rattle.ftc_message.specs.Ordered.{is_earlier}
use Rattle.ftc_message.specs.WellFormed.{IsWellFormed}
use Rattle.ftc_message.proofs.InOrder.{all-filter, all-with_items}
use Rattle.ftc_protocol.specs.Setting.{Setting}
use Rattle.ftc_protocol.specs.State.{ChainState, Message}
use Rattle.ftc_protocol.specs.Trace.{IsTouching}
use Rattle.ftc_protocol.specs.Orderly.{IsNeeding}
use Rattle.ftc_protocol.specs.Run.{IsRunState}
use Rattle.ftc_ties.specs.Messages.{needs_of}
use Rattle.ftc_ties.specs.Servers.{IsNeedIn}
use Rattle.ftc_ties.specs.Tied.{IsTied}
use Rattle.ftc_server.specs.declared.held.HeldMessage.{HeldMessage}
use Rattle.ftc_server.specs.declared.server.Server.{Server}
use Rattle.ftc_server.specs.Looks.{sent, attached_in, onward_in}
use Rattle.ftc_server.specs.Standing.{group_ending_at, is_last}
use Rattle.ftc_standing.specs.Stand.{IsSentAs}
use Rattle.ftc_refinement.specs.Contents.{IsServerAt}
use Rattle.ftc_refinement.proofs.LogsApart.{each_log, each_forwarded}
use Rattle.ftc_refinement.proofs.MarkedLogs.{log_marks, need_marks}
use Rattle.ftc_refinement.proofs.SentMessages.{attached}
use Rattle.ftc_refinement.proofs.TakenMessages.{each_needed}

-- no needs where no group has one
no_needs_in : (needs : List Need) → ((group : ℕ) → needs_of needs group ≡ true → ⊥) → needs ≡ []
no_needs_in [] none = refl
no_needs_in (need ∷ needs) none = absurd (none need.group
    (ap (λ b. b || needs_of needs need.group) (eq-eqb need.group need.group refl)))

module _ (setting : Setting) (state : ChainState) (run : IsRunState setting state) (tied : IsTied setting state)
    (needing : IsNeeding state) (server origin : ℕ) (old : Server) (is : IsServerAt setting state server old)
    (message : Message) (there : state.message origin ≡ Some message) (held : HeldMessage)
    (stands : IsSentAs setting state origin message held.message) where
  attached_mark : AllByRecursion (λ (log : Logged). MarksSome log.before) (attached_in old)
  attached_mark = subst (AllByRecursion (λ (log : Logged). MarksSome log.before))
      (sym (attached setting state server old is))
      (each_forwarded setting state server old.forwarder (λ log. MarksSome log.before) is.stands.forwarded
      (λ log of_log forwarded. log_marks setting run.right state.trace tied.trace log of_log
      (tied.order.forwarded log.group log.origin forwarded).1))

  logs_mark : AllByRecursion (λ (log : Logged). MarksSome log.before) held.message.logs
  logs_mark = each_log setting state message.logs held.message.logs
      (λ group packet. IsTouching state.trace group packet)
      (λ log. MarksSome log.before) stands.logs
      (λ group packet rides. tied.sound.logs origin group packet message there rides)
      (λ log of_log touching. log_marks setting run.right state.trace tied.trace log of_log touching)

  needs_mark : AllByRecursion (λ (need : Need). MarksSome need.marks) held.message.needs
  needs_mark = all_zip
      (λ (need : Need). need.group < MOST_SERVERS
      × IsNeedIn setting.partitions state.trace need.group origin need.marks)
      (λ (need : Need). needs_of held.message.needs need.group ≡ true) (λ (need : Need). MarksSome need.marks)
      (λ need of_need needed. need_marks setting run.right state.trace tied.trace need.group origin need.marks of_need.1
      (needing.carried origin need.group message there (sym (stands.needs.names need.group) ∙ needed)).0)
      held.message.needs stands.needs.each (each_needed held.message.needs)

  bare : held.message.packet ≡ None → held.message.needs ≡ []
  bare none = no_needs_in held.message.needs (λ group needed.
      let carried = needing.carried origin group message there (sym (stands.needs.names group) ∙ needed) in
      let has : held.message.packet ≡ Some carried.1.0 = stands.packet ∙ carried.1.1 in
      absurd cc)

  needs_marked : (last : Bool) →
      AllByRecursion (λ (need : Need). MarksSome need.marks) (cond last [] held.message.needs)
  needs_marked true = tt
  needs_marked false = needs_mark

  bare_sent : (last : Bool) → cond last None held.message.packet ≡ None → cond last [] held.message.needs ≡ []
  bare_sent true none = refl
  bare_sent false none = bare none

  pub sent_formed : length (sent old held).logs < 4294967296 →
      IfSome (sent old held).packet (λ packet. length packet ≤ MOST_CAPTURED) → IsWellFormed (sent old held)
  sent_formed few short = record {
    packet = short;
    few_logs = few;
    logs = all-with_items (λ (log : Logged). MarksSome log.before) is_earlier (attached_in old)
        (onward_in old held) attached_mark
        (all-filter (λ (log : Logged). MarksSome log.before)
        (λ (log : Logged). not (log.group == group_ending_at old.ring old.id)) held.message.logs logs_mark);
    needs = needs_marked (is_last old.ring old.id);
    no_needs = bare_sent (is_last old.ring old.id);
  }

use Rattle.std.proofs.Common.{◌∙◌, ◌&&◌, sym, ap, ℕ, None, cond, rules, arith, List}
use Rattle.std.specs.Prelude.{nat_eq, is_some}
use Rattle.std.specs.Map.{lookup}
use Rattle.std.proofs.lemmas.Fn.{filter_same}
use Rattle.std.specs.List.{filter}
use Rattle.ftc_server.specs.declared.tickets.Ticket.{Ticket}
use Rattle.ftc_server.specs.Holding.{rests, is_held}
use Rattle.ftc_server.specs.Replicas.{is_ready, lacks_log}
use Rattle.ftc_server.specs.Tickets.{Ticketing, is_among, resting_origins, ticket_origins}
use Rattle.ftc_server.proofs.Keeping.{kept_tickets, kept_origins, resting_kept}
use Rattle.ftc_server.proofs.tickets.Tickets.keep_ready.Goals as goal

pub invariant_of-self : goal.invariant_of-self
invariant_of-self c =
    let tickets = c.self.inside.list.items in
    let after = λ (origin : ℕ). lookup (nat_eq origin) c.forget_unready.new.by_origin.entries in
    let kept = filter_same _ (λ (ticket : Ticket). is_some (after ticket.origin)) _ (λ x b f' k. search rules) _ _
    c.retain.ensures.filtered in (
      rw (c.list_awake.ensures.items, kept)
          (kept_tickets tickets (λ origin. lookup (nat_eq origin) c.self.inside.by_origin.entries) after
          (λ origin. is_held origin (filter (lacks_log c.args.replicas.now) c.args.list.now.items))
          c.self.inside.awake.items
          c.self.inside.next c.self.invariant.0 c.forget_unready.ensures.numbers),
      record {
        list = omega (arith, c.self.invariant.1.list, c.retain.ensures.bound, c.retain.ensures.capacity);
        awake = omega (arith, c.self.invariant.1.awake, c.retain.ensures.bound, c.list_awake.ensures.capacity);
        map = omega (arith, c.self.invariant.1.map, c.forget_unready.ensures.room);
        left = c.self.invariant.1.left;
      },
    )

pub returns-clause-origins : goal.returns-clause-origins
returns-clause-origins c =
    let tickets = c.self.inside.list.items in
    let items = c.args.list.now.items in
    let after = λ (origin : ℕ). lookup (nat_eq origin) c.forget_unready.new.by_origin.entries in
    let kept = filter_same _ (λ (ticket : Ticket). is_some (after ticket.origin)) _ (λ x b f' k. search rules) _ _
    c.retain.ensures.filtered in
    let same = ap (λ (view : Ticketing). view.origins) c.self.view_is ∙ c.requires in
    ap ticket_origins kept
    ∙ kept_origins tickets items (is_ready c.args.replicas.now) after c.self.invariant.0.distinct same
    (λ origin. c.forget_unready.ensures.numbers origin
    ∙ ap (cond (is_held origin (filter (lacks_log c.args.replicas.now) items)) None)
    (c.self.invariant.0.numbers origin))

pub returns-clause-resting : goal.returns-clause-resting
returns-clause-resting c = λ other.
    let tickets = c.self.inside.list.items in
    let stays = λ (origin : ℕ). is_some (lookup (nat_eq origin) c.forget_unready.new.by_origin.entries) in
    let kept = filter_same _ (λ (ticket : Ticket). stays ticket.origin) _ (λ x b f' k. search rules) _ _
    c.retain.ensures.filtered in
    ap (λ (items : List Ticket). rests other (resting_origins items)) kept ∙ resting_kept stays tickets other
    ∙ ap (λ (items : List Ticket). rests other (resting_origins tickets) && is_among other (ticket_origins items))
    (sym kept)
    ∙ ap (λ (view : Ticketing). rests other view.resting && is_among other (ticket_origins c.retain.new.self.items))
    c.self.view_is

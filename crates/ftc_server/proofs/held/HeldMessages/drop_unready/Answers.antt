use Rattle.std.proofs.Common.{◌&&◌, rules, ap, ◌∙◌, sym, arith, Bool, ℕ, List}
use Rattle.std.specs.List.{filter}
use Rattle.std.proofs.lemmas.Fn.{filter_same}
use Rattle.ftc_server.specs.Holding.{Holding, is_held, origins_of, rests}
use Rattle.ftc_server.specs.Tickets.{is_among}
use Rattle.ftc_server.specs.Replicas.{is_ready}
use Rattle.ftc_server.proofs.Keeping.{held_among}
use Rattle.ftc_server.proofs.held.HeldMessages.drop_unready.Goals as goal

pub invariant_of-self : goal.invariant_of-self
invariant_of-self c =
    let kept = filter_same _ (is_ready c.args.replicas.now) _ (λ x b f' k. search rules) _ _
    c.retain.ensures.filtered in
    record {
      origins = c.keep_ready.ensures.origins ∙ sym (ap origins_of kept);
      room = omega (
        arith,
        c.retain.ensures.bound,
        c.retain.ensures.capacity,
        c.keep_ready.ensures.spare,
        c.self.invariant.room,
      );
    }

pub returns-clause-items : goal.returns-clause-items
returns-clause-items c =
    filter_same _ (is_ready c.args.replicas.now) _ (λ x b f' k. search rules) _ _ c.retain.ensures.filtered
    ∙ ap (λ (held : Holding). filter (is_ready c.args.replicas.now) held.items) c.self.view_is

pub returns-clause-resting : goal.returns-clause-resting
returns-clause-resting c = λ other.
    let kept = filter_same _ (is_ready c.args.replicas.now) _ (λ x b f' k. search rules) _ _
    c.retain.ensures.filtered in
    let resting = c.self.inside.tickets.resting in
    c.keep_ready.ensures.resting other
    ∙ ap (λ (origins : List ℕ). rests other resting && is_among other origins)
    (c.keep_ready.ensures.origins ∙ sym (ap origins_of kept))
    ∙ ap (λ (t : Bool). rests other resting && t) (sym (held_among c.retain.new.self.items other))
    ∙ ap (λ (held : Holding). rests other held.resting && is_held other c.retain.new.self.items) c.self.view_is

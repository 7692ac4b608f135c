use Rattle.std.proofs.Common.{◌∙◌, sym, ap, arith, ◌++◌, ◌∷◌, [], List, ℕ}
use Rattle.ftc_server.specs.Holding.{Holding, is_held, origins_of}
use Rattle.ftc_server.specs.Tickets.{is_among}
use Rattle.ftc_server.proofs.Keeping.{held_among}
use Rattle.ftc_server.proofs.Ticketed.{origins_more}
use Rattle.ftc_server.proofs.held.HeldMessages.hold.Goals as goal

pub add-requires-clause-new : goal.add-requires-clause-new
add-requires-clause-new c =
    let origin = c.args.held.message.origin in
    ap (is_among origin) c.self.invariant.origins ∙ sym (held_among c.self.inside.list.items origin)
    ∙ ap (λ (held : Holding). is_held origin held.items) c.self.view_is ∙ c.requires.new

pub invariant_of-self : goal.invariant_of-self
invariant_of-self c = record {
  origins = c.add.ensures.origins
      ∙ ap (λ (origins : List ℕ). origins ++ c.args.held.message.origin ∷ []) c.self.invariant.origins
      ∙ sym (origins_more c.self.inside.list.items c.args.held)
      ∙ sym (ap origins_of c.push_back_reserved.ensures.items);
  room = omega (arith, c.self.invariant.room, c.add.ensures.spare);
}

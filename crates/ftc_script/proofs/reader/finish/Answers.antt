use Rattle.std.proofs.Common.{◌≡◌, None, Option, sym, ◌∙◌, ap}
use Rattle.ftc_script.specs.Grammar.{live_in, down_of, finished}
use Rattle.ftc_script.proofs.reader.finish.Goals as goal

pub new-requires : goal.new-requires
new-requires c =
    let none : down_of c.args.ring.now.servers (live_in c.args.draft) ≡ None =
    rw (← c.servers.ensures.same) (sym c.first_down.ensures ∙ c.in-None.is) in
    rw (c.into_parts-steps.ensures.steps, c.into_parts-steps.ensures.loses)
    (c.requires _ c.servers.ensures.bounds
    (ap (λ (down : Option _). finished c.args.ring.now c.args.packets c.args.draft c.args.place down) none))

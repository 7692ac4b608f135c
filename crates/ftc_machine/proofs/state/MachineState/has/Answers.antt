use Rattle.std.proofs.Common.{◌∙◌, ap, sym, option_map}
use Rattle.ftc_machine.specs.Represents.{footprints_in}
use Rattle.ftc_machine.proofs.FrontierTests.{named_some, named_none}
use Rattle.ftc_machine.proofs.state.MachineState.has.Goals as goal

pub returns-in-Some : goal.returns-in-Some
returns-in-Some c =
    c.is_had_by.ensures ∙ named_some
    (footprints_in c.args.self.now.visits.items) c.args.reach.now c.args.name.now c.in-Some.footprint.now
    c.of.result.now (ap (option_map (λ f. f.now)) (sym c.in-Some.is) ∙ c.footprint.ensures) c.of.ensures.same

pub returns-in-None : goal.returns-in-None
returns-in-None c = named_none (footprints_in c.args.self.now.visits.items) c.args.reach.now c.args.name.now
    (ap (option_map (λ f. f.now)) (sym c.in-None.is) ∙ c.footprint.ensures)

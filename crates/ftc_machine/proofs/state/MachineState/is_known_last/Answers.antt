use Rattle.std.proofs.Common.{rules, ◌≡◌, ◌-◌, ◌∙◌, ap, refl, sym, option_map}
use Rattle.ftc_vector.specs.Commits.{vector_of}
use Rattle.ftc_machine.specs.Frontier.{is_had_by}
use Rattle.ftc_machine.specs.Represents.{footprints_in}
use Rattle.ftc_machine.specs.Tails.{known_at}
use Rattle.ftc_machine.specs.DueTests.{known_last}
use Rattle.ftc_machine.proofs.FrontierTests.{named_some}
use Rattle.ftc_machine.proofs.state.MachineState.is_known_last.Goals as goal

pub returns-in-Some : goal.returns-in-Some
returns-in-Some c =
    let k = c.args.self.now in
    let name = c.args.name.now in
    let last : c.unwrap-last.result ≡ k.ring.servers - 1 = search rules in
    c.has_known.ensures
    ∙ ap (λ server. is_had_by c.in-Some.footprint.now (vector_of (known_at k server) name.server)) last
    ∙ named_some (footprints_in k.visits.items) (known_last k) name c.in-Some.footprint.now
    (vector_of (known_last k) name.server)
    (ap (option_map (λ f. f.now)) (sym c.in-Some.is) ∙ c.footprint.ensures) refl

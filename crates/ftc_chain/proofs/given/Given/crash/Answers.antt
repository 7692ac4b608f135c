use Rattle.std.proofs.Common.{refl, arith}
use Rattle.ftc_script.specs.declared.line.ScriptLine.TheVariants.{Crash}
use Rattle.ftc_chain.specs.Doing.{setting_by}
use Rattle.ftc_chain.proofs.Permitted.{allowed, is_below}
use Rattle.ftc_chain.proofs.Rooms.{line_there}
use Rattle.ftc_chain.proofs.given.Given.crash.Goals as goal

pub crash-requires-clause-allowed : goal.crash-requires-clause-allowed
crash-requires-clause-allowed c = allowed c.requires refl (λ state. refl)

pub crash-requires-clause-room : goal.crash-requires-clause-room
crash-requires-clause-room c =
    let setting = setting_by c.args.self.now in
    let old = c.args.network.now in
    is_below c.requires old.done 18446744073709551615 (λ given.
    let line = line_there setting.lines given.state.lines old.done (Crash given.state.entered c.args.server)
    given.stands.counts.lines given.legal.0 in
    omega (arith, line, c.steps.ensures))

pub returns-clause-done : goal.returns-clause-done
returns-clause-done c state run legal is = ∣ c.crash.ensures.follows (setting_by c.args.self.now) state run legal is ∣₁

use Rattle.std.proofs.Common.{◌≡◌, false, sym, ◌∙◌, rules, arith}
use Rattle.std.specs.Prelude.{not}
use Rattle.ftc_ring.specs.Live.{is_live}
use Rattle.ftc_ring.proofs.Nearest.{rising_on}
use Rattle.ftc_script.proofs.draft.Draft.first_down.Goals as goal

pub loop-number-preserved : goal.loop-number-preserved
loop-number-preserved c =
    let is : not (is_live c.self.inside.down c.loop-number.number) ≡ false = search rules in
    sym (rising_on (λ server. not (is_live c.self.inside.down server)) c.loop-number.number c.args.servers
    (omega arith) is) ∙ c.loop-number.invariant

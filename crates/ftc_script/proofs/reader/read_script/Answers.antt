use Rattle.std.proofs.Common.{◌≡◌, List, Ok, sym, subst, ◌∙◌}
use Rattle.ftc_script.specs.Grammar.{script_from, script_of}
use Rattle.ftc_script.proofs.Acceptance.{text_accepts}
use Rattle.ftc_script.proofs.reader.read_script.Goals as goal

pub finish-requires : goal.finish-requires
finish-requires c = λ script shape e.
    let ring = c.args.ring.now in
    let told = subst (λ (lines : List _). script_from ring c.args.packets
    (Ok c.loop-line.draft) c.loop-line.place lines
    ≡ script_of ring c.args.packets c.args.text.now) c.in_default.ensures.none c.loop-line.invariant.told in
    (text_accepts ring c.args.packets c.args.text.now script shape (sym told ∙ e)).0

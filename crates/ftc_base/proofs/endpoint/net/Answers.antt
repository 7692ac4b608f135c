use Rattle.std.proofs.Common.{◌≡◌, false, rules}
use Rattle.std.specs.Prelude.{codes}
use Rattle.std.specs.Str.{bytes_eq}
use Rattle.ftc_base.proofs.Parts.{three_parts}
use Rattle.ftc_base.proofs.endpoint.net.Goals as goal

pub returns-in-Some-split_part : goal.returns-in-Some-split_part
returns-in-Some-split_part c =
    let other : bytes_eq c.args.word.now (codes "any") ≡ false = search rules in
    three_parts c.args.word.now c.in-Some.address_part.now c.in-Some.length_part.now c.in-Some-split_part.field-0.0.now
    c.in-Some-split_part.field-0.1.now other c.in-Some.ensures.part c.in-Some-split_part.ensures.part

use Rattle.std.proofs.Common.{◌≡◌, ◌++◌, ℕ, List, refl, rules, sym, subst}
use Rattle.std.specs.Prelude.{codes, decimal}
use Rattle.ftc_outside.specs.Tap.{HasNoFeed}
use Rattle.ftc_outside.proofs.Plain.{plain_word, plain_together, plain_decimal}
use Rattle.ftc_outside.proofs.tap.CountTapTap.line.Goals as goal

pub returns-clause-alone : goal.returns-clause-alone
returns-clause-alone c =
    let packets : ℕ = c.self.inside.packets in
    let bytes : ℕ = c.self.inside.bytes in
    let rest : List ℕ = codes " bytes " ++ decimal bytes in
    let is : c.from_vec.result ≡ codes "packets " ++ (decimal packets ++ rest) = search rules in
    subst HasNoFeed (sym is)
    (plain_together (codes "packets ") (decimal packets ++ rest) (plain_word (codes "packets ") refl)
    (plain_together (decimal packets) rest (plain_decimal packets)
    (plain_together (codes " bytes ") (decimal bytes) (plain_word (codes " bytes ") refl) (plain_decimal bytes))))

use Rattle.std.proofs.Common.{◌≡◌, ◌++◌, ℕ, refl, rules, sym, subst}
use Rattle.std.specs.Prelude.{codes, decimal}
use Rattle.ftc_outside.specs.Tap.{HasNoFeed}
use Rattle.ftc_outside.proofs.Plain.{plain_word, plain_together, plain_decimal}
use Rattle.ftc_audit.proofs.tap.AuditTapTap.line.Goals as goal

pub returns-clause-alone : goal.returns-clause-alone
returns-clause-alone c =
    let count : ℕ = c.len-endpoints.result in
    let is : c.from_vec.result ≡ codes "audit endpoints " ++ decimal count = search rules in
    subst HasNoFeed (sym is)
    (plain_together (codes "audit endpoints ") (decimal count) (plain_word (codes "audit endpoints ") refl)
    (plain_decimal count))

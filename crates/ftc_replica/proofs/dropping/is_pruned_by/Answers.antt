use Rattle.std.proofs.Common.{◌≡◌, ◌∙◌, Some, sym, ap}
use Rattle.std.specs.Cmp.Lexicographic.{bytes_decides}
use Rattle.ftc_replica.proofs.dropping.is_pruned_by.Goals as goal

pub returns-in-Some : goal.returns-in-Some
returns-in-Some c =
    let alike = bytes_decides c.in-Some.vector c.args.commit.now in (
      λ is. c.in-Some.is ∙ ap Some (alike.0 (sym c.eq.ensures ∙ is)),
      λ same. c.eq.ensures ∙ alike.1 (let one : c.in-Some.vector ≡ c.args.commit.now = cc in one),
    )

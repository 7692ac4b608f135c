use Rattle.std.proofs.Common.{◌≡◌, ◌<◌, ◌∙◌, ◌==◌, ap, sym, arith}
use Rattle.std.specs.List.{list_all}
use Rattle.std.proofs.lemmas.List.{get_or_default}
use Rattle.ftc_base.specs.declared.limits.TheConstants.{MOST_SERVERS}
use Rattle.ftc_vector.specs.Vector.{by_partition}
use Rattle.ftc_vector.specs.Commits.{held_of}
use Rattle.ftc_vector.proofs.Held.{vector_of-by_group, held_behind, none_of_zeros}
use Rattle.ftc_vector.proofs.commits.Commits.is_zero.Goals as goal

pub returns-then-place-len : goal.returns-then-place-len
returns-then-place-len c =
    let vectors = c.self.inside.vectors in
    let within : c.args.group < MOST_SERVERS = omega (arith, c.number.ensures.same, c.number.ensures.within) in
    rw (
      ← c.self.view_is,
      vector_of-by_group (held_of vectors.items) c.args.group within,
      held_behind vectors.items c.args.group c.self.invariant.0
          (omega (arith, c.if-place-len.true, c.len.ensures, vectors.ok, c.from-place.ensures, c.number.ensures.same)),
    ) none_of_zeros

pub returns : goal.returns
returns c =
    let vectors = c.self.inside.vectors in
    let within : c.args.group < MOST_SERVERS = omega (arith, c.number.ensures.same, c.number.ensures.within) in
    let place : c.from-place.result ≡ c.args.group = c.from-place.ensures ∙ c.number.ensures.same in
    rw (← c.self.view_is) (c.is_zero.ensures ∙ ap (list_all (λ number. number == 0))
    (c.index.ensures
    ∙ get_or_default vectors.items c.from-place.result c.index.result.now (by_partition (λ _. 0))
    (omega (arith, c.if-place-len.false, c.len.ensures, vectors.ok))
    ∙ ap (held_of vectors.items) place ∙ sym (vector_of-by_group (held_of vectors.items) c.args.group within)))

use Rattle.std.proofs.Common.{◌≡◌, ◌≤◌, ◌<◌, ◌-◌, List, ℕ, arith, length, true, rules}
use Rattle.std.specs.Prelude.{IsNone}
use Rattle.std.specs.List.{list_all}
use Rattle.ftc_edge.specs.Due.{is_known}
use Rattle.ftc_edge.specs.Known.{known_at}
use Rattle.ftc_edge.proofs.Needed.{all_at, all_from, if_some_then}
use Rattle.ftc_edge.proofs.lack.lack_of.Goals as goal

pub returns-then-is_some-clause-delays : goal.returns-then-is_some-clause-delays
returns-then-is_some-clause-delays c =
    let within : c.loop-place.place - 1 < length c.args.needs.now =
    omega (arith, c.loop-place.invariant.within, c.loop-place-test.true) in
    if_some_then c.lack_of_need-lack.result
    (λ lack. (others : List (List ℕ)) → is_known others c.at.result.now ≡ true
    → lack.number ≤ known_at others lack.group lack.partition)
    (λ lack. (others : List (List ℕ)) → list_all (is_known others) c.args.needs.now ≡ true
    → lack.number ≤ known_at others lack.group lack.partition)
    (λ lack delays others all. delays others
    (all_at (is_known others) c.args.needs.now (c.loop-place.place - 1) c.at.result.now within c.at.ensures all))
    c.lack_of_need-lack.ensures.delays

pub loop-place-preserved : goal.loop-place-preserved
loop-place-preserved c =
    let within : c.loop-place.place - 1 < length c.args.needs.now =
    omega (arith, c.loop-place.invariant.within, c.loop-place-test.true) in
    let none : IsNone c.lack_of_need-lack.result = search rules in
    let known = c.lack_of_need-lack.ensures.known none in
    record {
      within = omega (arith, within);
      known = all_from (is_known c.args.commits.now) c.args.needs.now (c.loop-place.place - 1) c.loop-place.place
          c.at.result.now within (omega (arith, c.loop-place-test.true)) c.at.ensures known
          c.loop-place.invariant.known;
    }

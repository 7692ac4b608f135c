use Rattle.std.proofs.Common.{◌<◌, ◌∙◌, arith, length}
use Rattle.ftc_edge.proofs.Looked.{same_again, one_more_not_due, not_due_lacking, one_more_delayed}
use Rattle.ftc_edge.specs.Known.{known_at}
use Rattle.ftc_edge.proofs.looking.look_far.Goals as goal

pub loop-stretch-preserved : goal.loop-stretch-preserved
loop-stretch-preserved c =
    let l = c.loop-stretch in
    let lack = c.in-Some.lack in
    let found = c.in-Some.ensures in
    let packet = c.index_mut.result.now in
    let read = c.index_mut.ensures.value in
    let same = same_again l.held.items l.stretch.end packet c.lack.new.self read found.same in
    let inside : l.stretch.end < length l.held.items =
    omega (arith, c.loop-stretch-test.true, c.requires.within.1, l.invariant.size, l.held.ok) in
    let known = known_at c.args.commits.now lack.group lack.partition in
    record {
      items = same ∙ l.invariant.items;
      size = l.invariant.size;
      capacity = l.invariant.capacity;
      begin = c.add.ensures.begin ∙ l.invariant.begin;
      above = omega (arith, c.add.ensures.end, l.invariant.above);
      within = omega (arith, c.add.ensures.end, c.loop-stretch-test.true);
      len = c.add.ensures.len ∙ l.invariant.len;
      delayed = rw (same, c.add.ensures.begin, c.add.ensures.end) (one_more_delayed l.stretch.least.items
          c.add.new.self.least.items l.held.items l.stretch.begin l.stretch.end packet lack.group lack.partition
          lack.number c.add.ensures.others c.add.ensures.lack found.delays read inside l.invariant.delayed);
      not_due = rw (same, c.add.ensures.begin, c.add.ensures.end) (one_more_not_due c.args.commits.now l.held.items
          l.stretch.begin l.stretch.end packet read inside
          (not_due_lacking c.args.commits.now packet lack.number known found.lacking (found.delays c.args.commits.now))
          l.invariant.not_due);
    }

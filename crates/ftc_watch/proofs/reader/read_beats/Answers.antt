use Rattle.std.proofs.Common.{◌≡◌, true, length, rules, arith}
use Rattle.std.proofs.lemmas.Grind.{common_steps}
use Rattle.std.specs.Str.{bytes_eq}
use Rattle.std.proofs.lemmas.List.{nil_from_length}
use Rattle.ftc_watch.specs.Grammar.{header}
use Rattle.ftc_watch.proofs.Acceptance.{ticks_accepts}
use Rattle.ftc_watch.proofs.Reading.{begins, goes_on, refused, ended_well}
use Rattle.ftc_watch.proofs.reader.read_beats.Goals as goal

pub loop-line-init : goal.loop-line-init
loop-line-init c =
    let is : bytes_eq c.in-Some.header.now header ≡ true = search rules in
    record {
      told = begins c.servers-servers.result c.args.packets c.args.text.now c.in-Some.header.now c.in-Some.lines.now
          c.new-ticks.result c.in-Some.ensures.part is c.new-ticks.ensures;
      few = rw c.new-ticks.ensures (omega arith);
    }

pub loop-line-preserved : goal.loop-line-preserved
loop-line-preserved c = record {
  told = goes_on c.servers-servers.result c.args.packets c.loop-line.ticks c.in_ok-ticks.ticks c.loop-line.rest.now
      c.in-Some-split_part.line.now c.in-Some-split_part.behind.now _ c.loop-line.invariant.told
      c.in-Some-split_part.ensures.part c.in_ok-ticks.ensures.value;
  few = c.in_ok-ticks.ensures.few;
}

pub returns-in_err-ticks-clause-value : goal.returns-in_err-ticks-clause-value
returns-in_err-ticks-clause-value c =
    refused c.args.ring.now c.servers-servers.result c.args.packets c.loop-line.ticks c.args.text.now
    c.loop-line.rest.now c.in-Some-split_part.line.now c.in-Some-split_part.behind.now c.from_residual.result
    c.in_err-ticks.field-0.0 c.servers-servers.ensures.same c.loop-line.invariant.told
    c.in-Some-split_part.ensures.part c.from_residual.ensures.1 c.in_err-ticks.ensures.value

pub new-requires : goal.new-requires
new-requires c =
    let size : length c.loop-line.rest.now ≡ 0 = grind (arith, common_steps) in
    let told = ended_well c.servers-servers.result c.args.packets c.loop-line.ticks c.loop-line.rest.now _
    (nil_from_length c.loop-line.rest.now size) c.loop-line.invariant.told in
    ticks_accepts c.args.ring.now c.args.packets c.args.text.now c.loop-line.ticks c.servers-servers.ensures.bounds
    (rw (← c.servers-servers.ensures.same) told)

use Rattle.std.proofs.Common.{refl}
use Rattle.std.proofs.lemmas.Option.{IfSome_then}
use Rattle.ftc_jobs.proofs.beside.from_outside.Goals as goal

pub returns-in-Some-clause-other : goal.returns-in-Some-clause-other
returns-in-Some-clause-other c setting state rest = c.in-Some.ensures.other setting state c.args.packets rest

pub returns-clause-other : goal.returns-clause-other
returns-clause-other c =
    IfSome_then c.first_propagate.result c.first_propagate.ensures.other
    (λ job other setting state rest. other setting state c.args.script.now rest)

pub returns-clause-none : goal.returns-clause-none
returns-clause-none c none setting state rest = record {
  lines = c.in_default.ensures.none refl setting state c.args.packets rest;
  enters = c.in_default-first_enter.ensures.none refl setting state rest;
  propagates = c.first_propagate.ensures.none none setting state c.args.script.now rest;
}

use Rattle.std.proofs.Common.{refl}
use Rattle.ftc_chain.proofs.SlotCalls.{idle_there, idle_seen}
use Rattle.ftc_chain.proofs.chain.Chain.answers.Goals as goal

pub returns-in-None-clause-none : goal.returns-in-None-clause-none
returns-in-None-clause-none c = (
  (λ none. idle_seen c.self.inside.given c.self.inside.course c.args.self.now c.self.view_is c.args.worker
      (c.in-None.ensures.none refl)),
  (λ idle. refl),
)

pub returns-in-Some-clause-none : goal.returns-in-Some-clause-none
returns-in-Some-clause-none c = (
  (λ none. absurd (c.in-Some.ensures.some (c.answers.ensures.none.0 none))),
  (λ idle. c.answers.ensures.none.1 (idle_there c.self.inside.given c.self.inside.course c.args.self.now c.self.view_is
      c.args.worker idle c.in-Some.server)),
)

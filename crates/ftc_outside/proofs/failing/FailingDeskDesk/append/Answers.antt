use Rattle.std.proofs.Common.{◌∙◌, rules}
use Rattle.ftc_outside.proofs.Calls.{stays_sound}
use Rattle.ftc_outside.proofs.failing.FailingDeskDesk.append.Goals as goal

pub returns-clause-served : goal.returns-clause-served
returns-clause-served c = record {
  tells_on = λ told. told;
  sound_on = stays_sound _ _ _ _ (c.noted.ensures.list ∙ c.fails.ensures.list)
      (rw c.noted.ensures.calls c.fails.ensures.rises);
  count = search rules;
  rose = search rules;
  still = search rules;
}

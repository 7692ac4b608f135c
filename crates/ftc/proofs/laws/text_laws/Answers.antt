use Rattle.ftc.proofs.laws.text_laws.Goals as goal

pub returns : goal.returns
returns c = record {
  one_capture = c.one_reading.ensures;
  no_fault = c.one_fault.ensures.none;
  one_journal = c.spellings.ensures.one;
  no_journal_fault = c.faults.ensures.none;
  one_verdict = c.one_verdict.ensures;
}

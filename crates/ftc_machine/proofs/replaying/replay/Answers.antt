use Rattle.std.proofs.Common.{◌++◌, ◌∷◌, [], sym, ap, subst, ◌∙◌, List}
use Rattle.ftc_serial.specs.Packets.{bytes_of_packets}
use Rattle.ftc_journal.specs.declared.event.Event.{Event}
use Rattle.ftc_protocol.specs.Setting.{Setting, setting_of}
use Rattle.ftc_protocol.specs.Legal.{IsLegal}
use Rattle.ftc_machine.specs.RunSoFar.{RunSoFar, setting_in, machine_state}
use Rattle.ftc_machine.proofs.JournalReplay.{event_there, more_taken, more_run}
use Rattle.ftc_machine.proofs.replaying.replay.Goals as goal

pub returns-in-Err-Bad-clause-bad : goal.returns-in-Err-Bad-clause-bad
returns-in-Err-Bad-clause-bad c = record {
  before = c.loop-place.invariant.run;
  event = c.event-item.result;
  there = event_there c.args.journal.now.items c.as_slice-event-items.result.now c.loop-place.place c.event-item.result
      c.as_slice-event-items.ensures c.loop-place-test.true c.event-item.is;
  illegal = λ legal.
      (let told = rw c.in-Err-Bad.field-0-is at c.in-Err-Bad.ensures.illegal in told)
      (subst (λ (p : RunSoFar). IsLegal (setting_in p) (machine_state p) c.event-item.result)
      (sym c.loop-place.invariant.played) legal);
}

pub loop-place-preserved : goal.loop-place-preserved
loop-place-preserved c =
    let taken = more_taken c.args.journal.now.items c.as_slice-event-items.result.now c.loop-place.place
    c.event-item.result c.as_slice-event-items.ensures c.loop-place-test.true c.event-item.is in
    let setting : Setting = setting_of c.args.spec.now (bytes_of_packets c.args.packets.now) c.args.script.now in
    record {
      played = c.in-Ok.ensures.made
          ∙ (ap (λ (p : RunSoFar). record p {
            journal = p.journal ++ c.event-item.result
                ∷ [];
          }) c.loop-place.invariant.played
          ∙ ap (λ (events : List Event). record {
            chain = c.args.spec.now;
            packets = bytes_of_packets c.args.packets.now;
            script = c.args.script.now;
            journal =
                events;
          }) (sym taken));
      run = more_run c.args.journal.now.items c.as_slice-event-items.result.now c.loop-place.place c.event-item.result
          c.as_slice-event-items.ensures c.loop-place-test.true c.event-item.is setting c.loop-place.invariant.run
          (subst (λ (p : RunSoFar). ∥ IsLegal (setting_in p)
          (machine_state p) c.event-item.result ∥₁) c.loop-place.invariant.played c.in-Ok.ensures.legal);
    }

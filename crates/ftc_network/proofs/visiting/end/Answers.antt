use Rattle.std.proofs.Common.{◌≡◌, ◌≢◌, ◌∙◌, sym, ap}
use Rattle.ftc_server.specs.declared.answers.CommitAnswer.TheVariants.{Done}
use Rattle.ftc_txn.specs.Slots.{Running, slot_at}
use Rattle.ftc_network.proofs.EndsAlone.{if_there, done_whole, others_stay_idle}
use Rattle.ftc_network.proofs.visiting.end.Goals as goal

pub returns-in-Done-clause-ok : goal.returns-in-Done-clause-ok
returns-in-Done-clause-ok c first packet count is =
    let there = if_there (λ (running : Running). c.in-Some.answers.now.items ≡ running.answers)
    (slot_at c.args.server.now.head.slots c.args.worker) is.running is.runs.slot c.in-Some.ensures.some in
    done_whole first c.args.server.now c.end_visit.new.self c.args.worker packet count is
    c.copy_answers-answers.result.items (sym there ∙ sym (ap (λ a. a.items) c.copy_answers-answers.ensures))
    c.in-Done.ensures

pub returns-in_default-end_visit : goal.returns-in_default-end_visit
returns-in_default-end_visit c =
    let not : c.end_visit.result ≢ Done = c.in_default-end_visit.not-Done in
    record {
      ok = tt;
      stands = λ setting state number at. c.give_up.ensures.stands setting state number
          (c.what_stays.ensures.undone setting state number c.args.worker c.end_visit.result c.args.server.now
          c.end_visit.new.self at c.end_visit.ensures not);
      idle = λ idle. c.give_up.ensures.idle
          (others_stay_idle c.args.server.now c.end_visit.new.self c.args.worker idle c.end_visit.result not
          c.end_visit.ensures);
    }

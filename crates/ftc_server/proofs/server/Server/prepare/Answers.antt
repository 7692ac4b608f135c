use Rattle.std.proofs.Common.{sym}
use Rattle.ftc_server.proofs.Lent.{ending, may_change, log_is_new, need_is_new, log_may_rise}
use Rattle.ftc_server.proofs.server.Server.prepare.Goals as goal

pub visit_of-requires : goal.visit_of-requires
visit_of-requires c =
    let is = ending c.args.self.now c.args.worker c.in-Some.packet c.args.finish.now c.in-Some-get.held.now
    c.in-Some-as_ref.bytes.now (sym c.in-Some.ensures) c.requires.unwounded (sym c.in-Some-get.ensures)
    (sym c.in-Some-as_ref.ensures.value) c.requires.asked in
    record {
      change = may_change is c.law_of_flows.ensures;
      new = log_is_new is c.args.log.now c.requires.log;
      other = need_is_new is c.args.log.now c.requires.log;
      numbers = log_may_rise is c.args.log.now c.requires.log c.requires.rise;
    }

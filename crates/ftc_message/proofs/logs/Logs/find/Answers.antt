use Rattle.std.proofs.Common.{◌≡◌, ◌∙◌, Bool, Some, None, cond, sym, ap, arith}
use Rattle.std.specs.List.{find}
use Rattle.std.specs.Option.{option_copied}
use Rattle.std.proofs.lemmas.Bool.Decides.{nat_tests}
use Rattle.std.proofs.lemmas.Option.{slice_get_past, slice_get-get_or}
use Rattle.ftc_message.specs.Logged.{Logged}
use Rattle.ftc_message.specs.Ordered.{is_log_of}
use Rattle.ftc_message.proofs.RiseLaws.{logs_by_order}
use Rattle.ftc_message.proofs.Searched.{found_by}
use Rattle.ftc_message.proofs.logs.Logs.find.Goals as goal
use Rattle.ftc_message.proofs.logs.Logs.find.Goals.{After-is_of}

pub place_of-requires : goal.place_of-requires
place_of-requires c = rw c.as_slice-logs.ensures.value (logs_by_order c.self.inside.list.items c.self.invariant.rising)

pub returns-in_err-log : goal.returns-in_err-log
returns-in_err-log c =
    let logs = c.as_slice-logs.result.now in
    let past = slice_get_past logs c.place_of.result (grind (arith, nat_tests, c.in_err-log.ensures.lookup.0)) in
    ap option_copied c.from_residual.ensures
    ∙ found_by c.args.origin c.args.group c.place_of.result c.self.inside.list.items logs c.args.self.now None
    c.self.invariant.rising c.as_slice-logs.ensures.value c.self.view_is c.place_of.ensures.place (sym past)

-- the log at the place, where it is the one that is asked for
found_there : (c : After-is_of) →
    cond c.is_of.result (Some c.in_ok-log.log.now) None ≡ find (is_log_of c.args.origin c.args.group) c.args.self.now
found_there c =
    let logs = c.as_slice-logs.result.now in
    let log = c.in_ok-log.log.now in
    let there = slice_get-get_or logs c.place_of.result log
    (grind (arith, nat_tests, c.in_ok-log.ensures.lookup.0)) in
    ap (λ (b : Bool). cond b (Some log) None) c.is_of.ensures
    ∙ found_by c.args.origin c.args.group c.place_of.result c.self.inside.list.items logs c.args.self.now (Some log)
    c.self.invariant.rising c.as_slice-logs.ensures.value c.self.view_is c.place_of.ensures.place
    (ap (λ (l : Logged). Some l) c.in_ok-log.ensures.lookup.1 ∙ sym there)

pub returns-then-is_of : goal.returns-then-is_of
returns-then-is_of c = rw c.if-is_of.true at (found_there (goal.at.returns-then-is_of c).After-is_of)

pub returns-else-is_of : goal.returns-else-is_of
returns-else-is_of c = rw c.if-is_of.false at (found_there (goal.at.returns-else-is_of c).After-is_of)

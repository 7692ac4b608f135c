use Rattle.std.proofs.Common.{◌≡◌, ◌++◌, sym, subst, arith}
use Rattle.ftc_message.specs.Logged.{Logged}
use Rattle.ftc_message.specs.Spelling.{log_bytes}
use Rattle.ftc_message.proofs.LogLaws.{LogRead, log_of, log_read}
use Rattle.ftc_message.proofs.log_bytes.log_at.Goals as goal
use Rattle.ftc_message.proofs.log_bytes.log_at.Goals.{In-Ok-writes_at}

read : (c : In-Ok-writes_at) → LogRead c.args.last.now c.args.bytes.now c.in-Ok-writes_at.rest.now
    (log_of c.in-Ok.found.0 c.parts_at.new.parts c.in-Ok-writes_at.writes.items)
read c =
    log_read c.args.last.now c.args.bytes.now c.in-Ok.found.1.now c.in_ok-rest.rest.now c.in-Ok-writes_at.rest.now
    c.in-Ok.found.0 c.parts_at.new.parts c.in-Ok-writes_at.writes.items (λ i. omega (arith, c.type_inv.bytes i))
    c.in-Ok.ensures c.in_ok-rest.ensures c.in-Ok-writes_at.ensures

pub new-requires-clause-marked : goal.new-requires-clause-marked
new-requires-clause-marked c =
    (read (goal.at.new-requires-clause-marked c).In-Ok-writes_at).spelled.typed.changed_marked

pub new-requires-clause-rising : goal.new-requires-clause-rising
new-requires-clause-rising c = (read (goal.at.new-requires-clause-rising c).In-Ok-writes_at).spelled.typed.keys

pub returns-in-Ok-writes_at-clause-spelled : goal.returns-in-Ok-writes_at-clause-spelled
returns-in-Ok-writes_at-clause-spelled c =
    let read = read (goal.at.returns-in-Ok-writes_at-clause-spelled c).In-Ok-writes_at in
    subst (λ (log : Logged). c.args.bytes.now ≡ log_bytes log
    ++ c.in-Ok-writes_at.rest.now) (sym c.new.ensures) read.takes.parts

pub returns-in-Ok-writes_at-clause-follows : goal.returns-in-Ok-writes_at-clause-follows
returns-in-Ok-writes_at-clause-follows c =
    rw c.new.ensures (read (goal.at.returns-in-Ok-writes_at-clause-follows c).In-Ok-writes_at).follows

use Rattle.std.proofs.Common.{◌≡◌, ◌<◌, subst, sym, true, length}
use Rattle.std.specs.Prelude.{List, slice_get}
use Rattle.ftc_mbox.specs.declared.rule.Rule.{Rule}
use Rattle.ftc_serial.specs.Held.{serial_state}
use Rattle.ftc_serial.specs.Packets.{bytes_of_packets}
use Rattle.ftc_audit.specs.Stored.{is_nat}
use Rattle.ftc_audit.specs.Table.{HasNat}
use Rattle.ftc_audit.proofs.PortTable.{nat_there, nat_within, read}
use Rattle.ftc_audit.proofs.table.ports.Goals as goal
use Rattle.ftc_audit.proofs.table.ports.Goals.{After-are_of_bytes}

-- past the test, the server has a translator
translates : (c : After-are_of_bytes) → HasNat c.args.spec.now.rules c.args.server
translates c =
    let is : is_nat (slice_get c.rules.result.now c.args.server) ≡ true = cc in
    nat_there c.args.spec.now.rules c.rules.result.now c.args.server c.rules.ensures.same is

pub returns-in-Err-Bad-clause-bad : goal.returns-in-Err-Bad-clause-bad
returns-in-Err-Bad-clause-bad c =
    let told = rw c.in-Err-Bad.field-0-is at c.in-Err-Bad.ensures.bad in
    (translates (goal.at.returns-in-Err-Bad-clause-bad c).After-are_of_bytes, rw c.in-Err-Bad.field-0-0-is told)

pub store-requires : goal.store-requires
store-requires c =
    subst (λ (rules : List Rule). c.args.server < length rules) (sym c.in-Ok.ensures.rules)
    (nat_within c.args.spec.now.rules c.args.server (translates (goal.at.store-requires c).After-are_of_bytes))

pub returns : goal.returns
returns c =
    let found = read c.args.spec.now.rules (bytes_of_packets c.args.packets.now) c.args.trace.now c.args.server
    (serial_state c.in-Ok.serial) c.store.result.now.content c.as_slice.result.now c.in_ok-pairs.pairs
    c.in_ok-lines.lines
    c.rules.ensures.bounds.rules c.are_of_bytes.ensures (translates (goal.at.returns c).After-are_of_bytes)
    c.in-Ok.ensures.state c.store.ensures c.in_ok-pairs.ensures c.as_slice.ensures c.in_ok-lines.ensures.moved
    c.in_ok-lines.ensures.sorted in
    record { table = found.table; apart = found.apart; named = found.named; bad = tt }

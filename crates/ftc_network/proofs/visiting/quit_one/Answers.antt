use Rattle.std.proofs.Common.{◌∙◌, List, Option, None, ap}
use Rattle.ftc_server.specs.State.{ServerState}
use Rattle.ftc_txn.specs.Head.{HeadState}
use Rattle.ftc_txn.specs.Slots.{Running, slot_at}
use Rattle.ftc_txn.proofs.Serially.{slot_set_none}
use Rattle.ftc_network.proofs.IdleSlots.{set_other}
use Rattle.ftc_network.proofs.visiting.quit_one.Goals as goal

pub returns-then-is_some-clause-stands : goal.returns-then-is_some-clause-stands
returns-then-is_some-clause-stands c setting state number is =
    c.what_stays.ensures.left setting state number c.args.worker c.args.server.now c.quit.new.self is c.quit.ensures

pub returns-then-is_some-clause-withheld : goal.returns-then-is_some-clause-withheld
returns-then-is_some-clause-withheld c = ap (λ (s : ServerState). s.buffer.items) c.quit.ensures.rest

pub returns-then-is_some-clause-gone : goal.returns-then-is_some-clause-gone
returns-then-is_some-clause-gone c =
    ap (λ (s : List (Option Running)). slot_at s c.args.worker) c.quit.ensures.head.slots
    ∙ slot_set_none c.args.server.now.head.slots c.args.worker

pub returns-then-is_some-clause-others : goal.returns-then-is_some-clause-others
returns-then-is_some-clause-others c other differs =
    ap (λ (s : List (Option Running)). slot_at s other) c.quit.ensures.head.slots
    ∙ set_other c.args.server.now.head.slots c.args.worker None other differs

pub returns-then-is_some-clause-vector : goal.returns-then-is_some-clause-vector
returns-then-is_some-clause-vector c = ap (λ (h : HeadState). h.vector) c.quit.ensures.head.rest

use Rattle.std.proofs.Common.{refl, ap}
use Rattle.ftc_txn.specs.Head.{HeadState}
use Rattle.ftc_txn.specs.Steps.{restarts}
use Rattle.ftc_txn.specs.declared.answers.ReadAnswer.TheVariants.{Value, Blocked, Wounded as WoundedRead}
use Rattle.ftc_txn.specs.declared.answers.ReadAnswer.TheVariants.{Idle as IdleRead, NotAsked}
use Rattle.ftc_server.specs.declared.answers.CommitAnswer.TheVariants.{Done, Wounded, Idle, Unfinished, NoMemory}
use Rattle.ftc_refinement.proofs.Unmoved.{with_nothing, with_head, with_own_room, with_held_room, with_buffer_room}
use Rattle.ftc_refinement.proofs.Unmoved.{prunes}
use Rattle.ftc_refinement.proofs.still.what_stays.Goals as goal

pub returns-clause-same : goal.returns-clause-same
returns-clause-same c setting state server old new is same = with_nothing setting state server old new is same

pub returns-clause-roomed : goal.returns-clause-roomed
returns-clause-roomed c setting state server old new is done =
    with_held_room setting state server old new is done.rest done.held

pub returns-clause-buffered : goal.returns-clause-buffered
returns-clause-buffered c setting state server old new is done =
    with_buffer_room setting state server old new is done.rest done.buffer

pub returns-clause-begun : goal.returns-clause-begun
returns-clause-begun c setting state server worker packet old new is done =
    with_head setting state server old new is new.head done.rest
    (ap (λ (h : HeadState). h.content) done.head) (ap (λ (h : HeadState). h.partitions) done.head)
    (ap (λ (h : HeadState). h.vector) done.head)

pub returns-clause-left : goal.returns-clause-left
returns-clause-left c setting state server worker old new is done =
    with_head setting state server old new is new.head done.rest
    (ap (λ (h : HeadState). h.content) done.head.rest) (ap (λ (h : HeadState). h.partitions) done.head.rest)
    (ap (λ (h : HeadState). h.vector) done.head.rest)

pub returns-clause-read : goal.returns-clause-read
returns-clause-read c setting state server worker key (Value value) old new is done =
    let made = done.head.2.rest in
    with_head setting state server old new is new.head done.rest
    (ap (λ (h : HeadState). h.content) made) (ap (λ (h : HeadState). h.partitions) made)
    (ap (λ (h : HeadState). h.vector) made)
returns-clause-read c setting state server worker key (Blocked holder) old new is done =
    let made = done.head.3 in
    with_head setting state server old new is new.head done.rest
    (ap (λ (h : HeadState). h.content) made) (ap (λ (h : HeadState). h.partitions) made)
    (ap (λ (h : HeadState). h.vector) made)
returns-clause-read c setting state server worker key (WoundedRead by) old new is done =
    let made = done.head.2 in
    with_head setting state server old new is new.head done.rest
    (ap (λ (h : HeadState). h.content) made) (ap (λ (h : HeadState). h.partitions) made)
    (ap (λ (h : HeadState). h.vector) made)
returns-clause-read c setting state server worker key IdleRead old new is done =
    let made = done.head.1 in
    with_head setting state server old new is new.head done.rest
    (ap (λ (h : HeadState). h.content) made) (ap (λ (h : HeadState). h.partitions) made)
    (ap (λ (h : HeadState). h.vector) made)
returns-clause-read c setting state server worker key NotAsked old new is done =
    with_nothing setting state server old new is done.rest

pub returns-clause-undone : goal.returns-clause-undone
returns-clause-undone c setting state server worker Done old new is done other = absurd (other refl)
returns-clause-undone c setting state server worker (Wounded by) old new is done other =
    with_head setting state server old new is (restarts old.head worker done.0) done.2 refl refl refl
returns-clause-undone c setting state server worker Idle old new is done other =
    with_nothing setting state server old new is done.1
returns-clause-undone c setting state server worker (Unfinished key) old new is done other =
    with_nothing setting state server old new is done.4
returns-clause-undone c setting state server worker NoMemory old new is done other =
    with_own_room setting state server old new is done.4.rest done.4.own

pub returns-clause-pruned : goal.returns-clause-pruned
returns-clause-pruned c setting state server old new is done = prunes setting state server old new is done

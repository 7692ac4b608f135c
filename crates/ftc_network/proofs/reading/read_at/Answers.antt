use Rattle.std.proofs.Common.{Option, Some, refl, sym, subst}
use Rattle.ftc_server.specs.declared.server.Server.{Server}
use Rattle.ftc_txn.specs.declared.answers.ReadAnswer.TheVariants.{Idle}
use Rattle.ftc_network.specs.Slots.{SlotReads}
use Rattle.ftc_network.specs.Stand.{IsSlot, IsUp}
use Rattle.ftc_network.proofs.ReadySlots.{run_ready}
use Rattle.ftc_network.proofs.RunSlots.{read_runs, read_fields}
use Rattle.ftc_network.proofs.reading.read_at.Goals as goal

pub returns-in-Some-clause-reads : goal.returns-in-Some-clause-reads
returns-in-Some-clause-reads c =
    subst (λ (o : Option Server). SlotReads o (Some c.read.new.self) c.args.worker c.args.key.now c.read.result)
    (sym c.in-Some.is) c.read.ensures

pub returns-in-Some-clause-stands : goal.returns-in-Some-clause-stands
returns-in-Some-clause-stands c number setting state is =
    let old = c.in-Some.live in
    let new = c.read.new.self in
    let key = c.args.key.now in
    let up : IsUp setting state number old = subst (IsSlot setting state number) c.in-Some.is is in
    let fields = read_fields old new c.args.worker key c.read.result c.read.ensures in
    record {
      up = up.up;
      at = c.what_stays.ensures.read setting state number c.args.worker key c.read.result old new up.at c.read.ensures;
      ready = run_ready old new (read_runs old new c.args.worker key c.read.result c.read.ensures) fields.0 fields.1
          up.ready;
    }

pub returns-in-None-clause-reads : goal.returns-in-None-clause-reads
returns-in-None-clause-reads c =
    subst (λ (o : Option Server). SlotReads o o c.args.worker c.args.key.now Idle) (sym c.in-None.is) (refl, refl)

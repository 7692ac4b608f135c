use Rattle.std.proofs.Common.{Option, Some, refl, sym, ap, subst}
use Rattle.ftc_server.specs.declared.server.Server.{Server}
use Rattle.ftc_server.specs.State.{ServerState}
use Rattle.ftc_network.specs.Slots.{SlotQuits}
use Rattle.ftc_network.specs.Stand.{IsSlot, IsUp}
use Rattle.ftc_network.proofs.ReadySlots.{run_ready}
use Rattle.ftc_network.proofs.RunSlots.{quit_runs}
use Rattle.ftc_network.proofs.reading.quit_at.Goals as goal

pub returns-in-Some-clause-quits : goal.returns-in-Some-clause-quits
returns-in-Some-clause-quits c =
    subst (λ (o : Option Server). SlotQuits o (Some c.quit.new.self) c.args.worker) (sym c.in-Some.is) c.quit.ensures

pub returns-in-Some-clause-stands : goal.returns-in-Some-clause-stands
returns-in-Some-clause-stands c number setting state is =
    let old = c.in-Some.live in
    let new = c.quit.new.self in
    let up : IsUp setting state number old = subst (IsSlot setting state number) c.in-Some.is is in
    record {
      up = up.up;
      at = c.what_stays.ensures.left setting state number c.args.worker old new up.at c.quit.ensures;
      ready = run_ready old new (quit_runs old new c.args.worker c.quit.ensures)
          (ap (λ (s : ServerState). s.others) c.quit.ensures.rest)
          (ap (λ (s : ServerState). s.held.items) c.quit.ensures.rest) up.ready;
    }

pub returns-in-None-clause-quits : goal.returns-in-None-clause-quits
returns-in-None-clause-quits c =
    subst (λ (o : Option Server). SlotQuits o o c.args.worker) (sym c.in-None.is) refl

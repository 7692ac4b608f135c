use Rattle.std.proofs.Common.{◌≡◌, ◌<◌, ◌∙◌, List, [], Some, None, refl, sym, subst}
use Rattle.ftc_journal.specs.declared.event.Event.{Event}
use Rattle.ftc_network.specs.Stand.{IsNetwork}
use Rattle.ftc_protocol.specs.Drive.{IsNoneDue}
use Rattle.ftc_protocol.specs.Moment.{released_in}
use Rattle.ftc_protocol.specs.Run.{IsRun}
use Rattle.ftc_protocol.specs.Setting.{Setting, setting_of}
use Rattle.ftc_serial.specs.Packets.{bytes_of_packets}
use Rattle.ftc_chain.specs.Course.{state_by}
use Rattle.ftc_chain.specs.Outlet.{IsOutlet}
use Rattle.ftc_ring.specs.Ring.{RingShape}
use Rattle.ftc_chain.proofs.NewHeads.{runs_nothing, seen_up, seen_idle}
use Rattle.ftc_chain.proofs.Rooms.{bytes_count}
use Rattle.ftc_chain.proofs.chain.Chain.new.Goals as goal

pub invariant_of-result : goal.invariant_of-result
invariant_of-result c =
    let setting : Setting = setting_of c.args.spec.now (bytes_of_packets c.args.packets.now) c.args.script.now in
    let none : c.new-2.result.items ≡ [] = c.new-2.ensures in (
      record { ring = c.requires.ring; packets = c.requires.packets },
      ∣ record {
        course_is = record {
          right = c.accepted.ensures.setting c.args.spec.now (bytes_of_packets c.args.packets.now) c.args.script.now
              c.rules.ensures.bounds c.ring.ensures.accepted c.requires.ring
              (c.requires.packets ∙ sym (bytes_count c.args.packets.now));
          run = subst (IsRun setting) (sym none) tt;
          stands = subst (λ (l : List Event). IsNetwork setting (state_by setting l) c.in_ok-network.network) (sym none)
              (c.in_ok-network.ensures.stands setting (record { rules = refl; failures = refl; partitions = refl }));
          outlet = subst (λ (l : List Event). IsOutlet (released_in (state_by setting l).trace) c.new-3.result)
              (sym none)
              (record { drained = []; count = sym c.new-3.ensures.drained; parts = sym c.new-3.ensures.waiting });
        };
        none_due = subst (λ (l : List Event). IsNoneDue setting (state_by setting l)) (sym none)
            (λ packet withheld due. let there : None ≡ Some withheld = due.0 in absurd cc);
      } ∣₁,
      runs_nothing c.args.spec.now c.in_ok-network.network _ c.in_ok-network.ensures.new,
    )

pub returns-clause-up : goal.returns-clause-up
returns-clause-up c server below =
    seen_up c.args.spec.now c.in_ok-network.network _ c.in_ok-network.ensures.new server
    (subst (λ (ring : RingShape). server < ring.servers) (sym (c.ring.ensures.same ∙ c.requires.ring)) below)

pub returns-clause-idle : goal.returns-clause-idle
returns-clause-idle c worker below server =
    seen_idle c.args.spec.now c.in_ok-network.network _ c.in_ok-network.ensures.new server worker

use Rattle.std.proofs.Common.{◌≡◌, ◌∙◌, ℕ, List, length, refl, sym, ap, subst, arith}
use Rattle.ftc_mbox.specs.declared.rule.Rule.{Rule}
use Rattle.ftc_protocol.specs.Setting.{servers, shape}
use Rattle.ftc_protocol.specs.State.{opening}
use Rattle.ftc_ring.specs.Ring.{RingShape}
use Rattle.ftc_standing.specs.Stand.{IsLink}
use Rattle.ftc_visits.specs.Made.{AreMade}
use Rattle.ftc_network.specs.Parts.{server_in}
use Rattle.ftc_network.proofs.NewNetwork.{new_slot_stands}
use Rattle.ftc_network.proofs.network.Network.new.Goals as goal

pub returns-clause-stands : goal.returns-clause-stands
returns-clause-stands c setting of =
    let chain = c.args.spec.now in
    let ring : c.args.ring ≡ shape setting =
    c.requires ∙ (ap (λ (rules : List Rule). record { servers = length rules; failures = chain.failures })
    (sym of.rules)
    ∙ ap (λ (n : ℕ). record { servers = servers setting; failures = n }) (sym of.failures)) in
    let size : c.args.ring.servers ≡ servers setting = ap (λ (ring : RingShape). ring.servers) ring in
    record {
      ring = ring;
      partitions = c.partitions.ensures.same ∙ sym of.partitions;
      servers_are = λ number below. new_slot_stands chain setting number
          (server_in c.in_ok-servers.servers.items number) below of
          (λ server is. c.what_new_makes.ensures setting number server below is)
          (c.in_ok-servers.ensures.each number (omega (arith, below, size)));
      links_are = λ number below. subst (IsLink setting (opening setting) number)
          (sym (c.in_ok-links.ensures.each number (omega (arith, below, size))))
          (c.all_stand.ensures.link setting number);
      counts = record { entered_is = refl; lines = refl; propagates_is = refl };
      visits = subst (AreMade setting (opening setting)) (sym c.new.ensures) (c.made_visits_begin.ensures setting);
    }

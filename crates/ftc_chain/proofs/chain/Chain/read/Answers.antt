use Rattle.std.proofs.Common.{refl, subst}
use Rattle.std.proofs.Math.Logic.{∥∥₁_map}
use Rattle.ftc_network.specs.Parts.{server_in}
use Rattle.ftc_chain.specs.declared.course.Course.{Course}
use Rattle.ftc_chain.specs.ChainRun.{ChainRun}
use Rattle.ftc_chain.specs.Slots.{ReadsAt}
use Rattle.ftc_chain.proofs.HeadsKept.{once_kept, others_no_more}
use Rattle.ftc_chain.proofs.Made.{run_of, roomed_rests, unroomed}
use Rattle.ftc_chain.proofs.SlotCalls.{inside_of, idle_seen, other_heads, reads_no_more, reads_at}
use Rattle.ftc_chain.proofs.chain.Chain.read.Goals as goal

pub invariant_of-self : goal.invariant_of-self
invariant_of-self c =
    let course = c.self.inside.course in
    let server = c.in-Some.server in (
      c.self.invariant.0,
      roomed_rests c.self.inside.given c.read.new.self (unroomed course) c.read.ensures.stands
          c.self.invariant.1,
      once_kept course.network c.read.new.self
          (others_no_more server course.network c.read.new.self
          (other_heads course.network c.read.new.self server c.read.ensures.others)
          (reads_no_more (server_in course.network.servers.items server)
          (server_in c.read.new.self.servers.items server)
          c.args.worker c.args.key.now c.read.result c.read.ensures.reads)) c.self.invariant.2,
    )

pub returns-in-Some : goal.returns-in-Some
returns-in-Some c =
    let given = c.self.inside.given in
    let course = c.self.inside.course in
    let server = c.in-Some.server in
    let new : Course = record { journal = course.journal; network = c.read.new.self; outlet = course.outlet } in
    subst (λ (run : ChainRun). ∥ ReadsAt run (run_of given new) c.args.worker c.args.key.now c.read.result ∥₁)
    c.self.view_is
    (∥∥₁_map c.self.invariant.1 (λ is. reads_at given course new c.args.worker server is
    (inside_of given course server is c.in-Some.ensures.inside) c.in-Some.ensures.some c.read.ensures.others refl refl
    (roomed_rests given c.read.new.self (unroomed course) c.read.ensures.stands c.self.invariant.1)
    c.what_slots_ask.ensures.asks c.args.key.now c.read.result c.read.ensures.reads))

pub returns-in-None : goal.returns-in-None
returns-in-None c = ∣ (
  idle_seen c.self.inside.given c.self.inside.course c.args.self.now c.self.view_is c.args.worker
      (c.in-None.ensures.none refl),
  refl,
) ∣₁

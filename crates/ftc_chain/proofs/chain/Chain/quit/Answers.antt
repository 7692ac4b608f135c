use Rattle.std.proofs.Common.{◌∙◌, Option, refl, ap}
use Rattle.ftc_txn.specs.Head.{HeadState}
use Rattle.ftc_network.specs.Parts.{server_in}
use Rattle.ftc_network.specs.Slots.{head_at, runs_in, AreOtherHeads}
use Rattle.ftc_chain.specs.Slots.{QuitsIn}
use Rattle.ftc_chain.proofs.HeadsKept.{head_as, once_kept}
use Rattle.ftc_chain.proofs.HeadsSeen.{idle_stays}
use Rattle.ftc_chain.proofs.Made.{roomed_rests, unroomed}
use Rattle.ftc_chain.proofs.SlotCalls.{idle_seen, quits_heads, other_heads, quits_everywhere, quits_no_more, quits_at}
use Rattle.ftc_chain.proofs.chain.Chain.quit.Goals.{After-quit}
use Rattle.ftc_chain.proofs.chain.Chain.quit.Goals as goal

quits : (c : After-quit) → QuitsIn (head_at c.self.inside.course.network c.in-Some.server)
    (head_at c.quit.new.self c.in-Some.server) c.args.worker
quits c = quits_heads (server_in c.self.inside.course.network.servers.items c.in-Some.server)
    (server_in c.quit.new.self.servers.items c.in-Some.server) c.args.worker c.quit.ensures.quits c.in-Some.ensures.some

others : (c : After-quit) → AreOtherHeads c.in-Some.server c.self.inside.course.network c.quit.new.self
others c = other_heads c.self.inside.course.network c.quit.new.self c.in-Some.server c.quit.ensures.others

pub invariant_of-self : goal.invariant_of-self
invariant_of-self c =
    let course = c.self.inside.course in (
      c.self.invariant.0,
      roomed_rests c.self.inside.given c.quit.new.self (unroomed course) c.quit.ensures.stands
          c.self.invariant.1,
      once_kept course.network c.quit.new.self
          (quits_no_more course.network c.quit.new.self c.args.worker c.in-Some.server (quits c)
          (others c)) c.self.invariant.2,
    )

pub returns-in-Some-clause-idle : goal.returns-in-Some-clause-idle
returns-in-Some-clause-idle c server =
    ap (λ (head : Option HeadState). runs_in head c.args.worker) (head_as c.quit.new.self.servers.items server)
    ∙ quits_everywhere c.self.inside.course.network c.quit.new.self c.args.worker c.in-Some.server c.self.invariant.2
    c.in-Some.ensures.some (quits c) (others c) server

pub returns-in-Some-clause-still : goal.returns-in-Some-clause-still
returns-in-Some-clause-still c other idle =
    let course = c.self.inside.course in
    idle_stays c.self.inside.given course
    (record {
      journal = course.journal;
      network = c.quit.new.self;
      outlet = course.outlet;
    }) c.args.self.now c.self.view_is
    other (quits_no_more course.network c.quit.new.self c.args.worker c.in-Some.server (quits c) (others c)) idle

pub returns-in-Some-clause-quits : goal.returns-in-Some-clause-quits
returns-in-Some-clause-quits c =
    let course = c.self.inside.course in
    quits_at c.self.inside.given course
    (record {
      journal = course.journal;
      network = c.quit.new.self;
      outlet = course.outlet;
    }) c.args.self.now c.args.worker
    c.in-Some.server c.self.view_is refl refl c.self.invariant.2 c.in-Some.ensures.some (quits c) (others c)

pub returns-in_default-clause-idle : goal.returns-in_default-clause-idle
returns-in_default-clause-idle c =
    idle_seen c.self.inside.given c.self.inside.course c.args.self.now c.self.view_is c.args.worker
    (c.in_default.ensures.none refl)

pub returns-in_default-clause-quits : goal.returns-in_default-clause-quits
returns-in_default-clause-quits c = record {
  quits = λ server runs. absurd (runs (idle_seen c.self.inside.given c.self.inside.course c.args.self.now c.self.view_is
      c.args.worker (c.in_default.ensures.none refl) server));
  others = λ server none. refl;
  rest = refl;
}

use Rattle.std.proofs.Common.{◌≡◌, ◌≢◌, ◌≤◌, ◌∙◌, ℕ, refl, sym, subst, arith}
use Rattle.std.proofs.Math.Logic.{∥∥₁_map, ∥∥₁_map₂}
use Rattle.ftc_journal.specs.declared.job.Job.TheVariants.{Visit}
use Rattle.ftc_server.specs.declared.answers.CommitAnswer.TheVariants.{Done}
use Rattle.ftc_server.proofs.WouldLog.{where_ok}
use Rattle.ftc_network.specs.declared.network.Network.{Network}
use Rattle.ftc_network.specs.Parts.{server_in}
use Rattle.ftc_network.specs.Slots.{SlotEndsVisit}
use Rattle.ftc_chain.specs.ChainRun.{ChainRun}
use Rattle.ftc_chain.specs.Course.{IsCourseResting, HasMade}
use Rattle.ftc_chain.specs.Doing.{setting_by}
use Rattle.ftc_chain.specs.Slots.{HasCommittedAt}
use Rattle.ftc_chain.proofs.Commits.{at_rest_there, undone_rests, once_ended, undone, visit_made, done_at}
use Rattle.ftc_chain.proofs.HeadsKept.{once_kept, same_no_more}
use Rattle.ftc_chain.proofs.Made.{run_of}
use Rattle.ftc_chain.proofs.Releases.{when_ok}
use Rattle.ftc_chain.proofs.SlotCalls.{inside_of, idle_seen}
use Rattle.ftc_chain.proofs.chain.Chain.commit.Goals.{After-release_due}
use Rattle.ftc_chain.proofs.chain.Chain.commit.Goals as goal

pub returns-in_default : goal.returns-in_default
returns-in_default c = ∣ (
  idle_seen c.self.inside.given c.self.inside.course c.args.self.now c.self.view_is c.args.worker
      (c.in_default.ensures.none refl),
  refl,
) ∣₁

pub invariant_of-self : goal.invariant_of-self
invariant_of-self c =
    let given = c.self.inside.given in
    let course = c.self.inside.course in
    let room = c.make_room.new.self in
    let mid = c.refuse.new.self in (
      c.self.invariant.0,
      undone_rests given course room mid c.args.self.now c.args.worker c.in-Some.server c.refuse.result c.self.view_is
          c.self.invariant.1 c.make_room.ensures.same c.refuse.ensures.ends c.refuse.ensures.others
          c.refuse.ensures.stands,
      once_ended given course room mid c.args.self.now c.args.worker c.in-Some.server c.refuse.result c.self.view_is
          c.self.invariant.1 c.make_room.ensures.same c.refuse.ensures.ends c.refuse.ensures.others c.self.invariant.2,
    )

pub returns-then-is_err : goal.returns-then-is_err
returns-then-is_err c =
    undone c.self.inside.given c.self.inside.course c.make_room.new.self c.refuse.new.self c.args.self.now c.args.worker
    c.in-Some.server c.refuse.result c.self.view_is c.self.invariant.1 c.make_room.ensures.same c.refuse.ensures.ends
    c.refuse.ensures.others c.refuse.ensures.undone c.refuse.ensures.stands c.in-Some.ensures.inside
    c.in-Some.ensures.some c.what_slots_ask.ensures.asks

pub commit-requires-clause-rests : goal.commit-requires-clause-rests
commit-requires-clause-rests c =
    let given = c.self.inside.given in
    let course = c.self.inside.course in
    let few = where_ok c.make_room.result _ (sym c.is_err.ensures.value ∙ c.if-is_err.false) c.make_room.ensures.few in
    ∥∥₁_map c.self.invariant.1
    (at_rest_there (setting_by given) course c.make_room.new.self.network c.make_room.ensures.same.network few)

pub invariant_of-self-in_default-commit : goal.invariant_of-self-in_default-commit
invariant_of-self-in_default-commit c =
    let given = c.self.inside.given in
    let course = c.self.inside.course in
    let room = c.make_room.new.self in
    let mid = c.commit.new.self in (
      c.self.invariant.0,
      undone_rests given course room mid c.args.self.now c.args.worker c.in-Some.server c.commit.result c.self.view_is
          c.self.invariant.1 c.make_room.ensures.same c.commit.ensures.ends c.commit.ensures.others
          (c.commit.ensures.stands c.in_default-commit.not-Done),
      once_ended given course room mid c.args.self.now c.args.worker c.in-Some.server c.commit.result c.self.view_is
          c.self.invariant.1 c.make_room.ensures.same c.commit.ensures.ends c.commit.ensures.others c.self.invariant.2,
    )

pub returns-in_default-commit : goal.returns-in_default-commit
returns-in_default-commit c =
    undone c.self.inside.given c.self.inside.course c.make_room.new.self c.commit.new.self c.args.self.now c.args.worker
    c.in-Some.server c.commit.result c.self.view_is c.self.invariant.1 c.make_room.ensures.same c.commit.ensures.ends
    c.commit.ensures.others c.in_default-commit.not-Done (c.commit.ensures.stands c.in_default-commit.not-Done)
    c.in-Some.ensures.inside c.in-Some.ensures.some c.what_slots_ask.ensures.asks

-- the visit was made
made : (c : After-release_due) → ∥ IsCourseResting (setting_by c.self.inside.given) c.release_due.new.course
    × HasMade c.args.worker (Visit c.in-Some.server c.in-Some-packet_run.packet)
    (run_of c.self.inside.given c.self.inside.course) (run_of c.self.inside.given c.release_due.new.course) ∥₁
made c =
    let roomy = where_ok c.make_room.result _
    (sym c.is_err.ensures.value ∙ c.if-is_err.false) c.make_room.ensures.room in
    let some : 1 ≤ c.make_room.new.self.journal.spare = omega (arith, roomy) in
    visit_made c.self.inside.given c.self.inside.course c.make_room.new.self c.commit.new.self c.push.new.self
    c.release_due.new.course c.args.worker c.in-Some.server c.in-Some-packet_run.packet c.self.invariant.1
    c.make_room.ensures.same (when_ok c.push.result _ (c.push.ensures.succeeds some) c.push.ensures.ok)
    c.in-Some.ensures.some
    (sym c.in-Some-packet_run.is ∙ c.packet_run.ensures) c.release_due.ensures.released (c.in-Done.ensures.follows refl)
    (λ setting state. c.jobs_of_events.ensures.slots setting state c.args.worker
    (Visit c.in-Some.server c.in-Some-packet_run.packet)) c.releases.ensures.end

pub invariant_of-self-2 : goal.invariant_of-self-2
invariant_of-self-2 c =
    let given = c.self.inside.given in
    let course = c.self.inside.course in
    let mid = c.commit.new.self in (
      c.self.invariant.0,
      ∥∥₁_map (made c) (λ both. both.0),
      once_kept mid c.release_due.new.course.network
          (same_no_more mid c.release_due.new.course.network c.release_due.ensures.heads)
          (once_ended given course c.make_room.new.self mid c.args.self.now c.args.worker c.in-Some.server Done
          c.self.view_is c.self.invariant.1 c.make_room.ensures.same c.in-Done.ensures.ends c.commit.ensures.others
          c.self.invariant.2),
    )

pub returns : goal.returns
returns c =
    let given = c.self.inside.given in
    let old = c.self.inside.course in
    let new = c.release_due.new.course in
    let server = c.in-Some.server in
    let mid = c.commit.new.self in
    let roomed = c.make_room.ensures.same.network in
    subst (λ (run : ChainRun). ∥ HasCommittedAt run (run_of given new) c.args.worker ∥₁) c.self.view_is
    (∥∥₁_map₂ c.self.invariant.1 (made c) (λ is both.
    done_at given old mid new c.args.worker server c.in-Some-packet_run.packet is
    (inside_of given old server is c.in-Some.ensures.inside)
    (subst (λ (network : Network). (other : ℕ) → other ≢ server →
    server_in mid.servers.items other ≡ server_in network.servers.items other) roomed c.commit.ensures.others)
    c.release_due.ensures.heads c.what_slots_ask.ensures.asks
    (subst (λ (network : Network). SlotEndsVisit (server_in network.servers.items server)
    (server_in mid.servers.items server)
    c.args.worker Done) roomed c.in-Done.ensures.ends)
    c.in-Some.ensures.some (sym c.in-Some-packet_run.is ∙ c.packet_run.ensures) both.1))

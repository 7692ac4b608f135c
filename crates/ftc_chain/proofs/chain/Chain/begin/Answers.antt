use Rattle.std.proofs.Math.Logic.{∥∥₁_map}
use Rattle.ftc_journal.specs.declared.job.Job.TheVariants.{Visit}
use Rattle.ftc_chain.specs.Course.{state_by}
use Rattle.ftc_chain.specs.Doing.{setting_by}
use Rattle.ftc_chain.proofs.HeadsSeen.{others_stay}
use Rattle.ftc_chain.proofs.Made.{before, roomed_rests, unroomed}
use Rattle.ftc_chain.proofs.Releases.{is_run_state}
use Rattle.ftc_chain.proofs.SlotCalls.{idle_there, other_heads, once_begun}
use Rattle.ftc_chain.proofs.chain.Chain.begin.Goals as goal

pub begin-requires-clause-legal : goal.begin-requires-clause-legal
begin-requires-clause-legal c =
    let given = c.self.inside.given in
    let course = c.self.inside.course in
    let job = Visit c.args.server c.args.packet in
    ∥∥₁_map (before given course job c.args.self.now c.self.view_is c.self.invariant.1 c.requires.legal)
    (λ both. record {
      setting = setting_by given;
      state = state_by (setting_by given) course.journal.items;
      run = is_run_state (setting_by given) course both.0.course_is;
      legal = (c.jobs_of_events.ensures.slots (setting_by given) (state_by (setting_by given) course.journal.items)
          c.args.worker job).1 both.1;
      stands = both.0.course_is.stands;
    })

pub invariant_of-self : goal.invariant_of-self
invariant_of-self c =
    let given = c.self.inside.given in
    let course = c.self.inside.course in (
      c.self.invariant.0,
      roomed_rests given c.begin.new.self (unroomed course) c.begin.ensures.stands c.self.invariant.1,
      once_begun course.network c.begin.new.self c.args.worker c.args.server c.args.packet
          (idle_there given course c.args.self.now c.self.view_is c.args.worker c.requires.idle) c.begin.ensures.head
          (other_heads course.network c.begin.new.self c.args.server c.begin.ensures.others) c.self.invariant.2,
    )

pub returns-clause-others : goal.returns-clause-others
returns-clause-others c =
    let course = c.self.inside.course in
    others_stay c.self.inside.given course
    (record {
      journal = course.journal;
      network = c.begin.new.self;
      outlet = course.outlet;
    }) c.args.self.now c.self.view_is
    c.args.server (other_heads course.network c.begin.new.self c.args.server c.begin.ensures.others)

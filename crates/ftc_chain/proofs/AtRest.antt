-- What is known of a chain between two calls.
use Rattle.std.proofs.Common.{◌≡◌, ◌∙◌, ◌<◌, ◌≤◌, ◌+◌, ◌-◌, ◌^◌, ℕ, List, [], ◌∷◌, true, Option, Some, None, length}
use Rattle.std.proofs.Common.{refl, sym, subst, arith}
use Rattle.std.specs.Prelude.{IfSome, is_some}
use Rattle.std.proofs.Math.Logic.{∥∥₁_elim}
use Rattle.ftc_base.specs.declared.limits.TheConstants.{MOST_RECORDS}
use Rattle.ftc_jobs.specs.Rest.{IsAtRest}
use Rattle.ftc_journal.specs.declared.event.Event.{Event}
use Rattle.ftc_journal.specs.declared.event.Event.TheVariants.{Enter, Take, Apply, Visit, Pass, Lose, Carry, Crash}
use Rattle.ftc_journal.specs.declared.event.Event.TheVariants.{Recover, Pull, Propagate, Release}
use Rattle.ftc_journal.specs.declared.job.Job.{Job}
use Rattle.ftc_pcap.specs.declared.packets.Packet.{Packet}
use Rattle.ftc_serial.specs.Packets.{bytes_of_packets}
use Rattle.ftc_protocol.specs.Jobs.{IsLegalJob}
use Rattle.ftc_protocol.specs.Measure.{most_messages}
use Rattle.ftc_protocol.specs.Next.{next}
use Rattle.ftc_protocol.specs.Counts.{propagates_in, AreFew}
use Rattle.ftc_protocol.specs.Run.{IsRun, state_after}
use Rattle.ftc_protocol.specs.Setting.{Setting, IsSetting}
use Rattle.ftc_protocol.specs.State.{ChainState, opening}
use Rattle.ftc_protocol.proofs.OrderlyStates.{count_on}
use Rattle.ftc_protocol.proofs.FewPropagates.{count_is}
use Rattle.ftc_chain.specs.declared.course.Course.{Course}
use Rattle.ftc_chain.specs.declared.given.Given.{Given}
use Rattle.ftc_chain.specs.Course.{IsCourse, IsCourseResting, state_by}
use Rattle.ftc_chain.specs.Doing.{MayDo, setting_by}
use Rattle.ftc_chain.proofs.Releases.{is_run_state}
use Rattle.ftc_chain.proofs.Rooms.{bytes_count}

-- the packets are few
short_packets : (packets : List Packet) (size : ℕ) → size ≡ length packets → size ≤ MOST_RECORDS →
    length (bytes_of_packets packets) ≤ MOST_RECORDS
short_packets packets size same few = let each = bytes_count packets in omega (arith, same, few, each)

-- two proofs of what can't be are one
pub none_is : (one other : ⊥) → one ≡ other
none_is one other = absurd one

-- where there is an item, of which this can't hold
pub some_cannot : {A : Type 0} (Fact : A → Type 0) (option : Option A) → is_some option ≡ true →
    ((item : A) → Fact item → ⊥) → IfSome option (λ item. ∥ Fact item ∥₁) → ⊥
some_cannot Fact None some cannot fact = absurd cc
some_cannot Fact (Some item) some cannot fact = ∥∥₁_elim fact none_is (cannot item)

-- jobs may be asked for
pub at_rest : (given : Given) (course : Course) (packets : ℕ) → packets ≡ length given.packets.now →
    packets ≤ MOST_RECORDS →
    ((setting : Setting) → IsSetting setting → (journal : List Event) → IsRun setting journal →
    AreFew setting journal) →
    (length (bytes_of_packets given.packets.now) ≤ MOST_RECORDS → most_messages (setting_by given) < 2 ^ 32) →
    IsCourseResting (setting_by given) course →
    IsAtRest (setting_by given)
    (state_by (setting_by given) course.journal.items) given.script.now packets course.network
at_rest given course packets same short begun most is =
    let setting : Setting = setting_by given in
    let state : ChainState = state_by setting course.journal.items in
    let number = count_is setting course.journal.items (opening setting) in
    let bound = begun setting is.course_is.right course.journal.items is.course_is.run in
    let few = most (short_packets given.packets.now packets same short) in
    record {
      resting = record {
        run = is_run_state setting course is.course_is;
        none_due = is.none_due;
        stands = is.course_is.stands;
      };
      lines = refl;
      packets_are = same ∙ sym (bytes_count given.packets.now);
      loses = λ link origin. refl;
      room = omega (arith, number, bound, few);
    }

-- events are counted
pub events_are : (setting : Setting) (journal : List Event) → (state_by setting journal).events ≡ length journal
events_are setting journal =
    let more : 0 + length journal ≡ length journal = omega arith in count_on setting journal (opening setting) ∙ more

-- a legal job may be done
pub may_do : (setting : Setting) (course : Course) (job : Job) → length course.journal.items < 2 ^ 64 - 1 →
    IsCourse setting course → IsLegalJob setting (state_by setting course.journal.items) job →
    MayDo setting job course.network
may_do setting course job few is legal = record {
  state = state_by setting course.journal.items;
  run = is_run_state setting course is;
  legal = legal;
  few = subst (λ (n : ℕ). n < 2 ^ 64 - 1) (sym (events_are setting course.journal.items)) few;
  stands = is.stands;
}

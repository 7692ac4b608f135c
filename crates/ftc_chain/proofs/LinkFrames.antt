-- The oldest frame on a link.
use Rattle.std.proofs.Common.{◌≡◌, ◌∷◌, ◌≤◌, ℕ, List, [], Option, Some, None, Result, Ok, refl, sym, ap, subst, arith}
use Rattle.std.proofs.Common.{eq-eqb, eqb-true}
use Rattle.std.specs.Prelude.{IfSome}
use Rattle.std.specs.Option.{option_map}
use Rattle.std.proofs.lemmas.Option.{none-some, same_Some}
use Rattle.std.proofs.Math.Bool.{Bool-set}
use Rattle.std.proofs.Math.Logic.{∥∥₁_elim}
use Rattle.ftc_jobs.specs.Rest.{IsResting}
use Rattle.ftc_link.specs.Queue.{Queue, oldest_of}
use Rattle.ftc_message.specs.declared.fault.FrameFault.{FrameFault}
use Rattle.ftc_message.specs.declared.message.Message.{Message as SentMessage}
use Rattle.ftc_message.specs.Reading.{message_of}
use Rattle.ftc_protocol.specs.Orderly.{IsOrderly}
use Rattle.ftc_protocol.specs.Setting.{Setting, servers}
use Rattle.ftc_protocol.specs.State.{ChainState}
use Rattle.ftc_refinement.proofs.InTurn.{first_oldest}
use Rattle.ftc_refinement.proofs.QueuedMessages.{at_test}
use Rattle.ftc_standing.proofs.Arriving.{there_here, is_none}
use Rattle.ftc_standing.specs.Arrivals.{AreArrived}
use Rattle.ftc_standing.specs.Stand.{IsSentAs, IsLink, since_of, origin_of}
use Rattle.ftc_standing.specs.View.{is_queued_on, queued_on}
use Rattle.ftc_standing.proofs.SamePlaces.{link_is}
use Rattle.ftc_chain.specs.declared.course.Course.{Course}
use Rattle.ftc_chain.specs.Course.{IsCourseResting, state_by}
use Rattle.ftc_chain.specs.Frames.{IsOldestFrame, IsFrameOf}
use Rattle.ftc_chain.proofs.AtRest.{none_is}
use Rattle.ftc_chain.proofs.Releases.{is_run_state}

-- what is so of each item that there is
pub if_told : {A : Type 0} (option : Option A) (P : A → Type 0) → ((item : A) → option ≡ Some item → P item) →
    IfSome option P
if_told None P told = tt
if_told (Some item) P told = told item refl

pub told_once : (option : Option ℕ) (number : ℕ) → ∥ option ≡ Some number ∥₁ → option ≡ Some number
told_once None number is = absurd (∥∥₁_elim is none_is (λ none. none-some number none))
told_once (Some other) number is = ap (λ (n : ℕ). Some n) (eqb-true other number
    (∥∥₁_elim is (Bool-set _ _) (λ same. eq-eqb other number (same_Some other number same))))

-- between two calls jobs may be asked for
pub rests : (setting : Setting) (course : Course) → IsCourseResting setting course →
    IsResting setting (state_by setting course.journal.items) course.network
rests setting course is = record {
  run = is_run_state setting course is.course_is;
  none_due = is.none_due;
  stands = is.course_is.stands;
}

-- nothing is queued on a link that the ring hasn't
pub none_past : (setting : Setting) (state : ChainState) (link : ℕ) → IsOrderly setting state → servers setting ≤ link →
    IsFrameOf setting state link None
none_past setting state link order past origin = is_none (queued_on state link origin) (λ message at.
    let parts = at_test (is_queued_on link) (state.message origin) message at in
    let inside = order.links origin link message parts.0 (link_is link message.place parts.1) in
    omega (arith, past, inside))

-- as what the oldest frame is read
abbrev pub frame_told : List SentMessage → Option (Result SentMessage FrameFault)
frame_told messages = option_map Ok (oldest_of messages)

module _ (setting : Setting) (state : ChainState) (link : ℕ) (queue : Queue)
    (is : IsLink setting state link queue) where
  are_queued : (messages : List SentMessage) → queue.messages ≡ messages →
      AreArrived since_of origin_of (IsSentAs setting state) (queued_on state link) messages
  are_queued messages parts =
      subst (AreArrived since_of origin_of (IsSentAs setting state) (queued_on state link)) parts is.queued

  -- a frame that is read as the first message of the queue
  pub some_frame : (frame : List ℕ) → Some (message_of frame) ≡ frame_told queue.messages →
      IsOldestFrame setting state link frame
  some_frame frame told =
      elim queue.messages as (λ messages. queue.messages ≡ messages →
      Some (message_of frame) ≡ frame_told messages → IsOldestFrame setting state link frame) [
        | [] ↦ λ parts said. absurd (none-some (message_of frame) (sym said))
        | sent ∷ rest ↦ λ parts said.
            let are = are_queued (sent ∷ rest) parts in
            let its = there_here since_of origin_of (IsSentAs setting state) (queued_on state link) [] sent rest are in
            record {
              origin = sent.origin;
              message = its.0;
              queued = its.1;
              oldest = λ other another there.
                  first_oldest since_of origin_of (IsSentAs setting state) (queued_on state link) sent rest are its.0
                  another other its.1 there;
              sent = sent;
              read = same_Some (message_of frame) (Ok sent) said;
              as_sent = its.2;
            }
      ] refl told

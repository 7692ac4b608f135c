-- The induction: every state of a run.
use Rattle.std.proofs.Common.{List, [], ◌∷◌, sym, ap, ltb-true}
use Rattle.std.proofs.lemmas.Bool.{true≢false}
use Rattle.std.proofs.lemmas.Option.{none-some, slice_get-get_or}
use Rattle.std.specs.Prelude.{option_map}
use Rattle.ftc_serial.specs.declared.position.Position.TheVariants as position
use Rattle.ftc_journal.specs.declared.event.Event.TheVariants.{Apply, Carry, Crash, Enter, Lose, Pass, Propagate, Pull}
use Rattle.ftc_journal.specs.declared.event.Event.TheVariants.{Recover, Release, Take, Visit}
use Rattle.ftc_protocol.proofs.Premises.{AreFit, IsGood}
use Rattle.ftc_protocol.specs.Run.{AreLegal, state_after}
use Rattle.ftc_protocol.specs.State.{ChainState, opening}
use Rattle.ftc_journal.specs.declared.event.Event.{Event}
use Rattle.ftc_protocol.proofs.Invariant.{Inv, carried_none}
use Rattle.ftc_protocol.specs.Legal.{MayHappen}
use Rattle.ftc_protocol.specs.Setting.{Setting, servers}
use Rattle.ftc_protocol.proofs.ReleaseAndCrash.{crashes, releases}
use Rattle.ftc_protocol.proofs.LeavingServer.{leaves_by_lose, leaves_by_pass}
use Rattle.ftc_protocol.specs.Next.{next}
use Rattle.ftc_ring.specs.Ring.{next_of}
use Rattle.ftc_protocol.specs.Visits.{no_visits}
use Rattle.ftc_protocol.proofs.RecoveryEvent.{recovers_event}
use Rattle.ftc_protocol.proofs.VisitEvent.{visits}
use Rattle.ftc_protocol.proofs.Invariant as inv
use Rattle.ftc_protocol.proofs.SmallEvents as small

pub keeps : (c : Setting) → IsGood c → (s : ChainState) → Inv c s → (e : Event) → MayHappen c s e → Inv c (next c s e)
keeps c good s h (Enter p) legal = inv.enters c good s h p legal
keeps c good s h (Take l p) legal = small.takes c good s h l p legal
keeps c good s h (Apply k p j q) legal = small.applies c good s h k p j q legal
keeps c good s h (Visit k p w) legal = visits c good s h k p legal.0 legal.1 legal.2 legal.3 legal.4 legal.5 legal.6 w
keeps c good s h (Pass k p) legal = leaves_by_pass c good s h k p legal
keeps c good s h (Lose k p) legal = leaves_by_lose c good s h k p legal
keeps c good s h (Carry p) legal = small.carries c good s h p (legal.0, legal.1, legal.2, legal.3, legal.4)
keeps c good s h (Crash k) legal = crashes c good s h k legal
keeps c good s h (Recover k undone) legal = recovers_event c good s h k undone legal
keeps c good s h (Pull l) legal = small.pulls c good s h l legal
keeps c good s h (Propagate p) legal = small.propagates c good s h p legal
keeps c good s h (Release p) legal = releases c good s h p legal

pub runs : (c : Setting) → IsGood c → (es : List Event) (s : ChainState) → Inv c s → AreLegal c s es →
    Inv c (state_after c s es)
runs c good [] s h legal = h
runs c good (e ∷ es) s h legal = runs c good es (next c s e) (keeps c good s h e legal.0.0) legal.1

pub opens : (c : Setting) → IsGood c → AreFit c (opening c).up c.lines → Inv c (opening c)
opens c good fit = record {
  world = record {
    inside = λ k u. ltb-true k (servers c) u;
    lists = record {
      listed = λ k j p is. absurd (true≢false (sym is));
      heads = λ j p u is. absurd is;
      closed = λ k j p q is. absurd (true≢false (sym is));
    };
    nest = record {
      member = λ k j p is. absurd (true≢false (sym is));
      nested = λ j i k p b u le is. absurd (true≢false (sym is));
    };
    serial = tt;
    passed = λ i j p le t st. absurd t;
    earlier = λ k i j p is. absurd (true≢false (sym is));
    released = λ q b a. absurd a;
  };
  fit = fit;
  awake = λ p m e. absurd (none-some m e);
  messages = λ p m e. absurd (none-some m e);
  entered = λ p m b e. absurd (none-some m e);
  forward = carried_none c [] _ (λ k. no_visits) (next_of (servers c) 0);
  forward_live = λ j q is. absurd (true≢false (sym is));
  forward_far = λ j q is. absurd (true≢false (sym is));
  withheld = λ p w e. absurd (none-some w e);
  single = λ p w m e. absurd (none-some w e);
  unentered = λ p le few. ap (option_map (position.Waiting 0)) (slice_get-get_or c.packets p [] few);
  known = λ k j q is. absurd (true≢false (sym is));
  gaps = λ l g. absurd (true≢false (sym g));
}

pub always : (c : Setting) → IsGood c → AreFit c (opening c).up c.lines → (es : List Event) →
    AreLegal c (opening c) es → Inv c (state_after c (opening c) es)
always c good fit es legal = runs c good es (opening c) (opens c good fit) legal

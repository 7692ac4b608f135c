-- What the test for an event says of the state that is kept: that the event may happen there.
use Rattle.std.proofs.Common.{◌≡◌, ℕ, ◌<◌, ◌↔◌, nat_lt, Bool, true, false, List, refl, sym, ap, subst, ◌∙◌}
use Rattle.std.proofs.Common.{lt-ltb}
use Rattle.std.proofs.lemmas.Bool.{true≢false, and_parts, and_from, ltb-true}
use Rattle.ftc_journal.specs.declared.event.Event.{Event}
use Rattle.ftc_journal.specs.declared.event.Event.TheVariants as kind
use Rattle.ftc_journal.specs.declared.event.VisitName.{VisitName}
use Rattle.ftc_script.specs.Script.{ScriptShape}
use Rattle.ftc_script.specs.declared.line.ScriptLine.TheVariants.{Recover}
use Rattle.ftc_protocol.specs.Setting.{Setting, servers}
use Rattle.ftc_protocol.specs.State.{ChainState, Withheld}
use Rattle.ftc_protocol.specs.Known.{IsDue}
use Rattle.ftc_protocol.specs.Legal.{MayHappen, IsLegal, IsNextLine, is_release}
use Rattle.ftc_protocol.specs.Recovery.{undone_visits}
use Rattle.ftc_machine.specs.declared.state.MachineState.{MachineState}
use Rattle.ftc_machine.specs.DueTests.{is_any_due}
use Rattle.ftc_machine.specs.Represents.{AreInputs, RepresentsRun}
use Rattle.ftc_machine.specs.Legality.{is_placed, is_in_order, may_happen}
use Rattle.ftc_machine.proofs.RepresentedRuns.{reached_by}
use Rattle.ftc_machine.proofs.DueMeanings.{right_release, any_due, due_any}
use Rattle.ftc_machine.proofs.MessageTests.{right_take, right_apply, right_visit, right_pass, right_lose, right_carry}
use Rattle.ftc_machine.proofs.MessageTests.{take_below, apply_below, visit_below, leave_below}
use Rattle.ftc_machine.proofs.ScriptTests.{right_enter, right_crash, right_recover, right_pull, right_propagate}
use Rattle.ftc_machine.proofs.LastServer.{known_reaches, needed_by}
use Rattle.ftc_machine.proofs.LinesLeft.{crash_below, recovery_below}

-- the event may happen where no release is due; a recovery is the next line
abbrev IsExpected : Setting → ChainState → Event → Type 0
IsExpected setting state (kind.Recover server undone) = IsNextLine state.lines (Recover state.entered server)
IsExpected setting state other = MayHappen setting state other

module _ (setting : Setting) (state : ChainState) (kept : MachineState) (stands : RepresentsRun setting state kept)
    (script : ScriptShape) (count : ℕ) (given : AreInputs setting script count) where
  -- the servers of what is kept are the chain's
  below : (server : ℕ) → nat_lt server kept.ring.servers ≡ true → server < servers setting
  below server is =
      subst (λ n. server < n) (ap (λ ring. ring.servers) stands.kept.ring) (ltb-true server kept.ring.servers is)

  placed : (server : ℕ) → server < servers setting → nat_lt server kept.ring.servers ≡ true
  placed server is =
      lt-ltb server kept.ring.servers (subst (λ n. server < n) (sym (ap (λ ring. ring.servers) stands.kept.ring)) is)

  -- an event of a server that is expected is that of one of the chain's
  expected_placed : (event : Event) → IsExpected setting state event → is_placed kept.ring.servers event ≡ true
  expected_placed (kind.Enter packet) may = refl
  expected_placed (kind.Take link origin) may =
      placed link (take_below setting stands.supposed state (reached_by stands) kept stands.kept link origin may)
  expected_placed (kind.Apply server origin group packet) may =
      placed server (apply_below setting stands.supposed state
      (reached_by stands) kept stands.kept server origin group packet may)
  expected_placed (kind.Visit server packet worker) may =
      placed server (visit_below setting stands.supposed state
      (reached_by stands) kept stands.kept server packet worker may)
  expected_placed (kind.Pass server origin) may =
      placed server (leave_below setting stands.supposed state
      (reached_by stands) kept stands.kept server origin may.0 may.1)
  expected_placed (kind.Lose server origin) may =
      placed server (leave_below setting stands.supposed state
      (reached_by stands) kept stands.kept server origin may.0 may.1)
  expected_placed (kind.Carry origin) may = refl
  expected_placed (kind.Crash server) may = placed server (crash_below setting state (reached_by stands) server may)
  expected_placed (kind.Recover server undone) may =
      placed server (recovery_below setting state (reached_by stands) server may)
  expected_placed (kind.Pull link) may = refl
  expected_placed (kind.Propagate origin) may = refl
  expected_placed (kind.Release packet) may = refl

  in_order : (event : Event) → is_placed kept.ring.servers event ≡ true
      → (is_in_order kept script count event ≡ true) ↔ IsExpected setting state event
  in_order (kind.Enter packet) is =
      right_enter setting stands.supposed state (reached_by stands) kept stands.kept script count given packet
  in_order (kind.Take link origin) is =
      right_take setting stands.supposed state (reached_by stands) kept stands.kept link origin
  in_order (kind.Apply server origin group packet) is =
      right_apply setting stands.supposed state (reached_by stands) kept stands.kept server
      (below server is) origin group packet
  in_order (kind.Visit server packet worker) is =
      right_visit setting stands.supposed state (reached_by stands) kept stands.kept server
      (below server is) packet worker
  in_order (kind.Pass server origin) is =
      right_pass setting stands.supposed state (reached_by stands) kept stands.kept script count given server
      (below server is) origin
  in_order (kind.Lose server origin) is =
      right_lose setting stands.supposed state (reached_by stands) kept stands.kept script count given server
      (below server is) origin
  in_order (kind.Carry origin) is =
      right_carry setting stands.supposed state (reached_by stands) kept stands.kept origin
  in_order (kind.Crash server) is =
      right_crash setting stands.supposed state (reached_by stands) kept stands.kept script count given server
  in_order (kind.Recover server undone) is =
      right_recover setting stands.supposed state (reached_by stands) kept stands.kept script count given server
  in_order (kind.Pull link) is = right_pull setting stands.supposed state (reached_by stands) kept stands.kept link
  in_order (kind.Propagate origin) is =
      right_propagate setting stands.supposed state (reached_by stands) kept stands.kept script count given origin
  in_order (kind.Release packet) is =
      right_release setting stands.supposed state (reached_by stands) kept stands.kept
      (known_reaches setting stands.supposed state (reached_by stands) kept stands.kept) (needed_by stands) packet

  expected : (event : Event) → (may_happen kept script count event ≡ true) ↔ IsExpected setting state event
  expected event = (
    λ may.
        let both = and_parts (is_placed kept.ring.servers event) (is_in_order kept script count event) may in
        (in_order event both.0).0 both.1,
    λ is.
        and_from (is_placed kept.ring.servers event) (is_in_order kept script count event) (expected_placed event is)
        ((in_order event (expected_placed event is)).1 is),
  )

  -- what may happen is expected; of a recovery it says besides what it lists
  happens_expected : (event : Event) → MayHappen setting state event → IsExpected setting state event
  happens_expected (kind.Enter packet) may = may
  happens_expected (kind.Take link origin) may = may
  happens_expected (kind.Apply server origin group packet) may = may
  happens_expected (kind.Visit server packet worker) may = may
  happens_expected (kind.Pass server origin) may = may
  happens_expected (kind.Lose server origin) may = may
  happens_expected (kind.Carry origin) may = may
  happens_expected (kind.Crash server) may = may
  happens_expected (kind.Recover server undone) may = may.0
  happens_expected (kind.Pull link) may = may
  happens_expected (kind.Propagate origin) may = may
  happens_expected (kind.Release packet) may = may

  expected_happens : (event : Event) → ((server : ℕ) (undone : List VisitName) → event ≡ kind.Recover server undone → ⊥)
      → IsExpected setting state event → MayHappen setting state event
  expected_happens (kind.Enter packet) other is = is
  expected_happens (kind.Take link origin) other is = is
  expected_happens (kind.Apply server origin group packet) other is = is
  expected_happens (kind.Visit server packet worker) other is = is
  expected_happens (kind.Pass server origin) other is = is
  expected_happens (kind.Lose server origin) other is = is
  expected_happens (kind.Carry origin) other is = is
  expected_happens (kind.Crash server) other is = is
  expected_happens (kind.Recover server undone) other is = absurd (other server undone refl)
  expected_happens (kind.Pull link) other is = is
  expected_happens (kind.Propagate origin) other is = is
  expected_happens (kind.Release packet) other is = is

  -- while a release is due, no other event is legal
  pub not_due : (event : Event) → is_any_due kept ≡ true → is_release event ≡ false
      → (false ≡ true) ↔ IsLegal setting state event
  not_due event due isnt = (
    λ wrong. absurd (true≢false (sym wrong)),
    λ legal.
        let found = any_due setting stands.supposed state (reached_by stands) kept stands.kept
        (known_reaches setting stands.supposed state (reached_by stands) kept stands.kept) (needed_by stands) due in
        absurd (legal.1 isnt found.0 found.1 found.2),
  )

  -- nor is an event whose test says no
  pub not_allowed : (event : Event) → may_happen kept script count event ≡ false
      → (false ≡ true) ↔ IsLegal setting state event
  not_allowed event isnt = (
    λ wrong. absurd (true≢false (sym wrong)),
    λ legal.
        absurd (true≢false (sym ((expected event).1 (happens_expected event legal.0)) ∙ isnt)),
  )

  none_due : is_any_due kept ≡ false → (packet : ℕ) (withheld : Withheld) → IsDue setting state packet withheld → ⊥
  none_due isnt packet withheld due =
      true≢false (sym (due_any setting stands.supposed state (reached_by stands) kept stands.kept
      (known_reaches setting stands.supposed state (reached_by stands) kept stands.kept)
      (needed_by stands) packet withheld due) ∙ isnt)

  legal_where : (event : Event) (said : Bool) → (is_release event ≡ false → is_any_due kept ≡ false)
      → (said ≡ true) ↔ MayHappen setting state event → (said ≡ true) ↔ IsLegal setting state event
  legal_where event said due right = (λ is. (right.0 is, λ isnt. none_due (due isnt)), λ legal. right.1 legal.0)

  -- an event that is no recovery is legal where its test says so
  pub allowed : (event : Event) → ((server : ℕ) (undone : List VisitName) → event ≡ kind.Recover server undone → ⊥)
      → (is_release event ≡ false → is_any_due kept ≡ false) → may_happen kept script count event ≡ true
      → (true ≡ true) ↔ IsLegal setting state event
  allowed event other due may = legal_where event true due
      ((λ is. expected_happens event other ((expected event).0 may), λ happens. refl))

  -- and a recovery where it lists besides the visits that it undoes
  pub listed : (event : Event) (server : ℕ) (undone : List VisitName) (same : Bool) → event ≡ kind.Recover server undone
      → (is_release event ≡ false → is_any_due kept ≡ false) → may_happen kept script count event ≡ true
      → (same ≡ true) ↔ (undone ≡ undone_visits setting state server) → (same ≡ true) ↔ IsLegal setting state event
  listed event server undone same is due may right =
      let next : IsNextLine state.lines (Recover state.entered server) =
      subst (λ e. IsExpected setting state e) is ((expected event).0 may) in
      legal_where event same due (
        λ said. subst (λ e. MayHappen setting state e) (sym is) (next, right.0 said),
        λ happens. right.1 (subst (λ e. MayHappen setting state e) is happens).1,
      )

-- The script of a watch may be done line after line.
use Rattle.std.proofs.Common.{◌≡◌, ℕ, zero, suc, ◌+◌, ◌≤◌, ◌<◌, Bool, true, false, Option, Some, None, List, [], ◌∷◌}
use Rattle.std.proofs.Common.{◌++◌, inl, inr, refl, sym, ap, subst, ◌∙◌, arith}
use Rattle.std.specs.Prelude.{◌==◌, if◌then◌else◌}
use Rattle.std.specs.List.{AllByRecursion, range_with_len}
use Rattle.std.proofs.Math.Nat.{eq-or-lt_of_le}
use Rattle.std.proofs.lemmas.Bool.Decides.{nat_tests}
use Rattle.ftc_base.proofs.EachOf.{all_push}
use Rattle.ftc_base.specs.declared.limits.TheConstants.{MOST_SERVERS}
use Rattle.ftc_ring.specs.Ring.{RingShape, IsRing}
use Rattle.ftc_ring.specs.Live.{IsLive, IsAdmissible, gone_of}
use Rattle.ftc_ring.proofs.Nearest.{gone_none, nobody_down}
use Rattle.ftc_script.specs.declared.line.ScriptLine.{ScriptLine}
use Rattle.ftc_script.specs.declared.line.ScriptLine.TheVariants as step
use Rattle.ftc_script.specs.declared.statement.Statement.{Statement}
use Rattle.ftc_script.specs.declared.statement.Statement.TheVariants.{Nothing, Crash, Recover, Lose}
use Rattle.ftc_script.specs.Steps.{all_live, with_at, at_of, live_after, live_after_all, last_of, IsStep, AreSteps}
use Rattle.ftc_script.specs.Plain.{steps_in}
use Rattle.ftc_script.proofs.InTurn.{live_push, last_push, steps_push, keeps}
use Rattle.ftc_watch.specs.declared.tick.Tick.{Tick}
use Rattle.ftc_watch.specs.Beats.{AreTicks}
use Rattle.ftc_watch.specs.Watch.{Watching, at_start, recover_at, count_at, fence_at, judge_at, at_each, recover_all}
use Rattle.ftc_watch.specs.Watch.{count_all, tick_on, ticks_on, watch_of}
use Rattle.ftc_watch.proofs.Recovered.{either_recovers}

-- a line of a crash or a recovery of a server, with numbers that aren't long
abbrev pub IsMove : Statement → Type 0
IsMove Nothing = ⊥
IsMove (Crash at server) = (at ≤ 4294967295) × (server < MOST_SERVERS)
IsMove (Recover at server) = (at ≤ 4294967295) × (server < MOST_SERVERS)
IsMove (Lose link origin) = ⊥

-- the lines so far, which end at that number at the latest, may be done, and these servers are live behind them
pub record IsSound (ring : RingShape) (packets last : ℕ) (live : ℕ → Bool) (script : List Statement) : Type 0 where
  pub steps : AreSteps ring packets 0 all_live (steps_in script)
  pub alike : live ≡ live_after_all all_live (steps_in script)
  pub ordered : last_of 0 (steps_in script) ≤ last
  pub admissible : IsAdmissible ring live
  pub moves : AllByRecursion IsMove script

-- the line that says a step
abbrev said : ScriptLine → Statement
said (step.Crash at server) = Crash at server
said (step.Recover at server) = Recover at server

one_step : (line : ScriptLine) → steps_in (said line ∷ []) ≡ line ∷ []
one_step (step.Crash at server) = refl
one_step (step.Recover at server) = refl

steps_in_push : (script : List Statement) (line : ScriptLine)
    → steps_in (script ++ said line ∷ []) ≡ steps_in script ++ line ∷ []
steps_in_push [] line = one_step line
steps_in_push (Nothing ∷ script) line = steps_in_push script line
steps_in_push (Crash at server ∷ script) line = ap (λ (ss : List ScriptLine). step.Crash at server ∷ ss)
    (steps_in_push script line)
steps_in_push (Recover at server ∷ script) line = ap (λ (ss : List ScriptLine). step.Recover at server ∷ ss)
    (steps_in_push script line)
steps_in_push (Lose link origin ∷ script) line = steps_in_push script line

-- one more step
moved : (ring : RingShape) (packets last : ℕ) (live : ℕ → Bool) (script : List Statement) (line : ScriptLine)
    → IsSound ring packets last live script → IsStep ring packets (last_of 0 (steps_in script)) live line
    → IsMove (said line)
    → IsSound ring packets (at_of line) (live_after live line) (script ++ said line ∷ [])
moved ring packets last live script line is may move =
    let push = steps_in_push script line in
    let here : IsStep ring packets (last_of 0 (steps_in script))
    (live_after_all all_live (steps_in script)) line = subst
    (λ (l : ℕ → Bool). IsStep ring packets (last_of 0 (steps_in script)) l line) is.alike may in
    let at : last_of 0 (steps_in (script ++ said line ∷ [])) ≡ at_of line = ap (last_of 0) push
    ∙ last_push 0 (steps_in script) line in
    record {
      steps = subst (AreSteps ring packets 0 all_live) (sym push)
          (steps_push ring packets 0 all_live (steps_in script) line is.steps here);
      alike = ap (λ (l : ℕ → Bool). live_after l line) is.alike ∙ sym (live_push all_live (steps_in script) line)
          ∙ ap (live_after_all all_live) (sym push);
      ordered = omega (arith, at);
      admissible = keeps ring packets (last_of 0 (steps_in script)) live line is.admissible may;
      moves = all_push IsMove script (said line) is.moves move;
    }

abbrev pub Sound : RingShape → ℕ → ℕ → Watching → Type 0
Sound ring packets last w = IsSound ring packets last w.live w.script

later : (ring : RingShape) (packets last more : ℕ) (w : Watching) → last ≤ more → Sound ring packets last w
    → Sound ring packets more w
later ring packets last more w up is =
    let l = is.ordered in record {
      steps = is.steps;
      alike = is.alike;
      ordered = omega arith;
      admissible =
          is.admissible;
      moves = is.moves;
    }

-- a recovery
recover_sound : (ring : RingShape) (packets at : ℕ) (w : Watching) (server : ℕ) → IsRing ring → packets ≤ 4294967295
    → at ≤ packets → server < ring.servers → Sound ring packets at w → Sound ring packets at (recover_at at w server)
recover_sound ring packets at w server shape few entered within is =
    let small = shape.servers in
    let l = is.ordered in
    either_recovers (Sound ring packets at) at w server (λ up. is)
    (λ down. moved ring packets at w.live w.script (step.Recover at server) is
    (record { within = within; ordered = l; entered = entered }, down) (omega arith, omega arith))

-- a server that is live is judged
fence_sound : (ring : RingShape) (packets at : ℕ) (w : Watching) (server : ℕ) (gone : Option ℕ) → IsRing ring
    → packets ≤ 4294967295 → at ≤ packets → server < ring.servers → IsLive w.live server
    → gone_of ring (with_at w.live server false) ≡ gone → Sound ring packets at w
    → Sound ring packets at (fence_at at w server gone)
fence_sound ring packets at w server None shape few entered within up none is =
    let small = shape.servers in
    let l = is.ordered in
    moved ring packets at w.live w.script (step.Crash at server) is (
      record { within = within; ordered = l; entered = entered },
      record { up = up; admissible = (gone_none ring (with_at w.live server false) shape).0 none },
    )
    (omega arith, omega arith)
fence_sound ring packets at w server (Some group) shape few entered within up some is = is

judge_sound : (ring : RingShape) (packets limit at : ℕ) (w : Watching) (server : ℕ) → IsRing ring
    → packets ≤ 4294967295 → at ≤ packets → server < ring.servers → IsLive w.live server → Sound ring packets at w
    → Sound ring packets at (judge_at ring limit at w server)
judge_sound ring packets limit at w server shape few entered within up is =
    elim (w.missed server == limit) as (λ t. Sound ring packets at
    (if t then fence_at at w server (gone_of ring (with_at w.live server false)) else w)) [
      | true ↦ fence_sound ring packets at w server (gone_of ring
          (with_at w.live server false)) shape few entered within up refl is
      | false ↦ is
    ]

-- all servers recover
recovers : (ring : RingShape) (packets at : ℕ) (w : Watching) (low more : ℕ) → IsRing ring → packets ≤ 4294967295
    → at ≤ packets → low + more ≤ ring.servers → Sound ring packets at w
    → Sound ring packets at (at_each (recover_at at) w (range_with_len low more))
recovers ring packets at w low zero shape few entered within is = is
recovers ring packets at w low (suc more) shape few entered within is =
    recovers ring packets at (recover_at at w low) (low + 1) more shape few entered (omega arith)
    (recover_sound ring packets at w low shape few entered (omega arith) is)

-- and are live then
stays_live : (at : ℕ) (w : Watching) (server k : ℕ) → IsLive w.live k → IsLive (recover_at at w server).live k
stays_live at w server k up = either_recovers (λ v. IsLive v.live k) at w server (λ was. up)
    (λ down. elim (k == server) as (λ t. (if t then true else w.live k) ≡ true) [ true ↦ refl | false ↦ up ])

pub same_server : (k : ℕ) → (k == k) ≡ true
same_server k = grind (arith, nat_tests)

comes_back : (at : ℕ) (w : Watching) (server : ℕ) → IsLive (recover_at at w server).live server
comes_back at w server =
    either_recovers (λ v. IsLive v.live server) at w server (λ up. up) (λ down. rw (same_server server) refl)

all_stay : (at : ℕ) (w : Watching) (servers : List ℕ) (k : ℕ) → IsLive w.live k
    → IsLive (at_each (recover_at at) w servers).live k
all_stay at w [] k up = up
all_stay at w (server ∷ servers) k up = all_stay at (recover_at at w server) servers k (stays_live at w server k up)

all_back : (at : ℕ) (w : Watching) (low more k : ℕ) → low ≤ k → k < low + more
    → IsLive (at_each (recover_at at) w (range_with_len low more)).live k
all_back at w low zero k above below = absurd (omega arith)
all_back at w low (suc more) k above below = elim (eq-or-lt_of_le above) [
  | inl same ↦ all_stay at (recover_at at w low) (range_with_len (low + 1) more) k
      (subst (λ (j : ℕ). IsLive (recover_at at w low).live j) same (comes_back at w low))
  | inr up ↦ all_back at (recover_at at w low) (low + 1) more k (omega arith) (omega arith)
]

pub all_up : (ring : RingShape) (at : ℕ) (w : Watching) (k : ℕ) → k < ring.servers
    → IsLive (recover_all ring at w).live k
all_up ring at w k within = all_back at w 0 ring.servers k (omega arith) (omega arith)

-- the count changes neither
pub count_live : (limit beaten : ℕ) (w : Watching) (servers : List ℕ)
    → (at_each (count_at limit beaten) w servers).live ≡ w.live
count_live limit beaten w [] = refl
count_live limit beaten w (server ∷ servers) = count_live limit beaten (count_at limit beaten w server) servers

pub count_script : (limit beaten : ℕ) (w : Watching) (servers : List ℕ)
    → (at_each (count_at limit beaten) w servers).script ≡ w.script
count_script limit beaten w [] = refl
count_script limit beaten w (server ∷ servers) = count_script limit beaten (count_at limit beaten w server) servers

count_sound : (ring : RingShape) (packets last limit beaten : ℕ) (w : Watching) (servers : List ℕ)
    → Sound ring packets last w → Sound ring packets last (at_each (count_at limit beaten) w servers)
count_sound ring packets last limit beaten w [] is = is
count_sound ring packets last limit beaten w (server ∷ servers) is = count_sound ring packets last limit beaten
    (count_at limit beaten w server) servers is

-- a server that is judged leaves the others as they are
fence_others : (at : ℕ) (w : Watching) (server k : ℕ) (gone : Option ℕ) → (k == server) ≡ false
    → (fence_at at w server gone).live k ≡ w.live k
fence_others at w server k None other = rw other refl
fence_others at w server k (Some group) other = refl

pub judge_others : (ring : RingShape) (limit at : ℕ) (w : Watching) (server k : ℕ) → (k == server) ≡ false
    → (judge_at ring limit at w server).live k ≡ w.live k
judge_others ring limit at w server k other =
    elim (w.missed server == limit) as (λ t. (if t then fence_at at w server
    (gone_of ring (with_at w.live server false)) else w).live k ≡ w.live k) [
      | true ↦ fence_others at w server k (gone_of ring (with_at w.live server false)) other
      | false ↦ refl
    ]

judges : (ring : RingShape) (packets limit at : ℕ) (w : Watching) (low more : ℕ) → IsRing ring → packets ≤ 4294967295
    → at ≤ packets → low + more ≤ ring.servers → ((k : ℕ) → low ≤ k → k < ring.servers → IsLive w.live k)
    → Sound ring packets at w
    → Sound ring packets at (at_each (judge_at ring limit at) w (range_with_len low more))
judges ring packets limit at w low zero shape few entered within up is = is
judges ring packets limit at w low (suc more) shape few entered within up is =
    judges ring packets limit at (judge_at ring limit at w low) (low + 1) more shape few entered (omega arith)
    (λ k above below. (let other : (k == low) ≡ false = grind (arith, nat_tests)
    in judge_others ring limit at w low k other ∙ up k (omega arith) below))
    (judge_sound ring packets limit at w low shape few entered (omega arith) (up low (omega arith) (omega arith)) is)

tick_sound : (ring : RingShape) (packets limit last : ℕ) (w : Watching) (tick : Tick) → IsRing ring
    → packets ≤ 4294967295 → last ≤ tick.at → tick.at ≤ packets → Sound ring packets last w
    → Sound ring packets tick.at (tick_on ring limit w tick)
tick_sound ring packets limit last w tick shape few ordered entered is =
    let recovered = recover_all ring tick.at w in
    let counted = count_all ring limit tick.servers recovered in
    let live = count_live limit tick.servers recovered (range_with_len 0 ring.servers) in
    judges ring packets limit tick.at counted 0 ring.servers shape few entered (omega arith)
    (λ k above below. ap (λ (l : ℕ → Bool). l k) live ∙ all_up ring tick.at w k below)
    (count_sound ring packets tick.at limit tick.servers recovered (range_with_len 0 ring.servers)
    (recovers ring packets tick.at w 0 ring.servers shape few entered (omega arith)
    (later ring packets last tick.at w ordered is)))

ticks_sound : (ring : RingShape) (packets limit last : ℕ) (w : Watching) (ticks : List Tick) → IsRing ring
    → packets ≤ 4294967295 → last ≤ packets → AreTicks ring.servers packets last ticks → Sound ring packets last w
    → Sound ring packets packets (ticks_on ring limit w ticks)
ticks_sound ring packets limit last w [] shape few before are is = later ring packets last packets w before is
ticks_sound ring packets limit last w (tick ∷ ticks) shape few before are is =
    let entered = are.0.entered in
    let ordered = are.0.ordered in
    ticks_sound ring packets limit tick.at (tick_on ring limit w tick) ticks shape few entered are.1
    (tick_sound ring packets limit last w tick shape few ordered entered is)

start_sound : (ring : RingShape) (packets : ℕ) → IsRing ring → Sound ring packets 0 at_start
start_sound ring packets shape = record {
  steps = tt;
  alike =
      refl;
  ordered = omega arith;
  admissible = nobody_down ring all_live shape (λ k within. refl);
  moves = tt;
}

pub watch_sound : (ring : RingShape) (limit packets : ℕ) (ticks : List Tick) → IsRing ring → packets ≤ 4294967295
    → AreTicks ring.servers packets 0 ticks → Sound ring packets packets (watch_of ring limit packets ticks)
watch_sound ring limit packets ticks shape few are =
    recovers ring packets packets (ticks_on ring limit at_start ticks) 0 ring.servers shape few (omega arith)
    (omega arith)
    (ticks_sound ring packets limit 0 at_start ticks shape few (omega arith) are (start_sound ring packets shape))

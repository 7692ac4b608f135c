-- A text that is accepted spells a script.
use Rattle.std.proofs.Common.{◌≡◌, ◌<◌, ◌≤◌, ℕ, zero, suc, cond, inl, inr, ◌+◌, ◌==◌, Bool, true, false, List, [], ◌∷◌}
use Rattle.std.proofs.Common.{◌++◌, length, Option, Some, None, Result, Ok, Err, refl, sym, ap, subst, ◌∙◌, arith}
use Rattle.std.specs.Prelude.{nat_le, nat_lt, not, if◌then◌else◌}
use Rattle.std.specs.List.{find, range_with_len, onto_first}
use Rattle.std.proofs.Math.Nat.{eq-or-lt_of_le}
use Rattle.std.proofs.lemmas.Bool.Decides.{nat_tests}
use Rattle.std.proofs.lemmas.Bool.{not-true}
use Rattle.ftc_base.specs.Text.{lines_of, words_of}
use Rattle.ftc_base.specs.declared.limits.TheConstants.{MOST_SCRIPT_BYTES}
use Rattle.ftc_ring.specs.Ring.{RingShape, IsRing}
use Rattle.ftc_ring.specs.Live.{IsLive, IsDown, gone_of}
use Rattle.ftc_ring.proofs.Nearest.{gone_none}
use Rattle.ftc_base.proofs.EachOf.{all_push}
use Rattle.ftc_script.specs.declared.fault.ScriptCause.{ScriptCause}
use Rattle.ftc_script.specs.declared.fault.ScriptCause.TheVariants.{Order, Past, NotUp, NotDown, Link, TooLong}
use Rattle.ftc_script.specs.declared.fault.ScriptFault.{ScriptFault}
use Rattle.ftc_script.specs.declared.line.ScriptLine.{ScriptLine}
use Rattle.ftc_script.specs.declared.line.ScriptLine.TheVariants.{Crash, Recover}
use Rattle.ftc_script.specs.declared.line.LoseLine.{LoseLine}
use Rattle.ftc_script.specs.declared.statement.Statement.{Statement}
use Rattle.ftc_script.specs.declared.statement.Statement.TheVariants as said
use Rattle.ftc_script.specs.Steps.{all_live, with_at, last_of, IsInTurn, IsCrash}
use Rattle.ftc_script.specs.Script.{ScriptShape, IsScript, IsLose}
use Rattle.ftc_base.specs.Reading.{◌>>=◌, ◌>>◌, unless}
use Rattle.ftc_script.specs.Words.{statement_of}
use Rattle.ftc_script.specs.Grammar.{crash_step, recover_step}
use Rattle.ftc_script.specs.Grammar.{ScriptDraft, no_lines, live_in, with_step, with_lose, in_turn, unless_gone}
use Rattle.ftc_script.specs.Grammar.{may_crash, may_recover, lose_line, add, line_step, fault_at, placed, down_of}
use Rattle.ftc_script.specs.Grammar.{finished, finish, script_from, script_of, IsDraft}
use Rattle.ftc_script.proofs.InTurn.{steps_push}

-- a test that was passed
passed : (b : Bool) (cause : ScriptCause) (v : Unit {0}) → unless b cause ≡ Ok v → b ≡ true
passed true cause v e = refl
passed false cause v e = absurd cc

-- where two tests were passed, each was
pub both : {A B : Type 0} (first : Result A ScriptCause) (next : A → Result B ScriptCause) (b : B) →
    (first >>= next) ≡ Ok b → (a : A) × (first ≡ Ok a) × (next a ≡ Ok b)
both (Ok a) next b e = (a, refl, e)
both (Err cause) next b e = absurd cc

pub both_of : {A B : Type 0} (first : Result A ScriptCause) (next : Result B ScriptCause) (b : B) →
    (first >> next) ≡ Ok b → (a : A) × (first ≡ Ok a) × (next ≡ Ok b)
both_of (Ok a) next b e = (a, refl, e)
both_of (Err cause) next b e = absurd cc

pub in_turn_passed : (ring : RingShape) (packets last at number server : ℕ) →
    in_turn ring packets last at number ≡ Ok server → (server ≡ number) × IsInTurn ring packets last at server
in_turn_passed ring packets last at number server e =
    let one = both (unless (nat_lt number ring.servers) Link >> Ok number)
    (λ k. unless (nat_le at packets) Past >> unless (nat_le last at) Order >> Ok k) server e in
    let two = both_of (unless (nat_lt number ring.servers) Link) (Ok number) one.0 one.1 in
    let three = both_of (unless (nat_le at packets) Past >> unless (nat_le last at) Order) (Ok one.0) server one.2 in
    let four = both_of (unless (nat_le at packets) Past) (unless (nat_le last at) Order) three.0 three.1 in
    let same : number ≡ one.0 = cc two.2 in
    let again : one.0 ≡ server = cc three.2 in
    let within : nat_lt number ring.servers ≡ true = passed (nat_lt number ring.servers) Link two.0 two.1 in
    let entered : nat_le at packets ≡ true = passed (nat_le at packets) Past four.0 four.1 in
    let ordered : nat_le last at ≡ true = passed (nat_le last at) Order three.0 four.2 in (
      sym again ∙ sym same,
      record {
        within = grind (arith, nat_tests);
        ordered = grind (arith, nat_tests);
        entered = grind (arith, nat_tests);
      },
    )

none_gone : (r : Option ℕ) (v : Unit {0}) → unless_gone r ≡ Ok v → r ≡ None
none_gone None v e = refl
none_gone (Some group) v e = absurd cc

pub crash_passed : (ring : RingShape) (live : ℕ → Bool) (server : ℕ) (v : Unit {0}) → IsRing ring →
    may_crash ring live server ≡ Ok v → IsCrash ring live server
crash_passed ring live server v shape e =
    let two = both_of (unless (live server) NotUp) (unless_gone (gone_of ring (with_at live server false))) v e in
    record {
      up = passed (live server) NotUp two.0 two.1;
      admissible = (gone_none ring (with_at live server false) shape).0
          (none_gone (gone_of ring (with_at live server false)) v two.2);
    }

pub recover_passed : (live : ℕ → Bool) (server : ℕ) (v : Unit {0}) → may_recover live server ≡ Ok v → IsDown live server
recover_passed live server v e = not-true (live server) (passed (not (live server)) NotDown v e)

pub lose_passed : (ring : RingShape) (packets place number origin : ℕ) (line : LoseLine) →
    lose_line ring packets place number origin ≡ Ok line → IsLose ring packets line
lose_passed ring packets place number origin line e =
    let one = both (unless (nat_lt number ring.servers) Link >> Ok number)
    (λ link. unless (nat_lt origin packets) Past >> Ok (record {
      line = place;
      link = link;
      origin = origin;
    })) line e in
    let two = both_of (unless (nat_lt number ring.servers) Link) (Ok number) one.0 one.1 in
    let three = both_of (unless (nat_lt origin packets) Past)
    (Ok (record { line = place; link = one.0; origin = origin })) line one.2 in
    let same : number ≡ one.0 = cc two.2 in
    let whole : record { line = place; link = one.0; origin = origin } ≡ line = cc three.2 in
    let within : nat_lt number ring.servers ≡ true = passed (nat_lt number ring.servers) Link two.0 two.1 in
    let entered : nat_lt origin packets ≡ true = passed (nat_lt origin packets) Past three.0 three.1 in
    subst (IsLose ring packets) whole (record { link = grind (arith, nat_tests); origin = grind (arith, nat_tests) })

-- a draft with one more step
pub crash_added : (ring : RingShape) (packets : ℕ) (draft : ScriptDraft) (at number server : ℕ) →
    IsDraft ring packets draft → in_turn ring packets (last_of 0 draft.steps) at number ≡ Ok server →
    IsCrash ring (live_in draft) server → IsDraft ring packets (with_step draft (Crash at server))
crash_added ring packets draft at number server is turn crash = record {
  steps = steps_push ring packets 0 all_live draft.steps (Crash at server) is.steps
      ((in_turn_passed ring packets (last_of 0 draft.steps) at number server turn).1, crash);
  loses = is.loses;
}

pub recover_added : (ring : RingShape) (packets : ℕ) (draft : ScriptDraft) (at number server : ℕ) (v : Unit {0}) →
    IsDraft ring packets draft → in_turn ring packets (last_of 0 draft.steps) at number ≡ Ok server →
    may_recover (live_in draft) server ≡ Ok v → IsDraft ring packets (with_step draft (Recover at server))
recover_added ring packets draft at number server v is turn back = record {
  steps = steps_push ring packets 0 all_live draft.steps (Recover at server) is.steps (
    (in_turn_passed ring packets (last_of 0 draft.steps) at number server turn).1,
    recover_passed (live_in draft) server v back,
  );
  loses = is.loses;
}

crash_kept : (ring : RingShape) (packets : ℕ) (draft : ScriptDraft) (at number : ℕ) (step : ScriptLine) →
    IsRing ring → IsDraft ring packets draft → crash_step ring packets draft at number ≡ Ok step →
    IsDraft ring packets (with_step draft step)
crash_kept ring packets draft at number step shape is e =
    let one = both (in_turn ring packets (last_of 0 draft.steps) at number)
    (λ server. may_crash ring (live_in draft) server >> Ok (Crash at server)) step e in
    let two = both_of (may_crash ring (live_in draft) one.0) (Ok (Crash at one.0)) step one.2 in
    let same : Crash at one.0 ≡ step = cc two.2 in
    subst (λ line. IsDraft ring packets (with_step draft line)) same (crash_added ring packets draft at number one.0 is
    one.1 (crash_passed ring (live_in draft) one.0 two.0 shape two.1))

recover_kept : (ring : RingShape) (packets : ℕ) (draft : ScriptDraft) (at number : ℕ) (step : ScriptLine) →
    IsDraft ring packets draft → recover_step ring packets draft at number ≡ Ok step →
    IsDraft ring packets (with_step draft step)
recover_kept ring packets draft at number step is e =
    let one = both (in_turn ring packets (last_of 0 draft.steps) at number)
    (λ server. may_recover (live_in draft) server >> Ok (Recover at server)) step e in
    let two = both_of (may_recover (live_in draft) one.0) (Ok (Recover at one.0)) step one.2 in
    let same : Recover at one.0 ≡ step = cc two.2 in
    subst (λ line. IsDraft ring packets (with_step draft line)) same
    (recover_added ring packets draft at number one.0 two.0 is one.1 two.1)

-- a line that is added keeps the draft one of a script
pub add_keeps : (ring : RingShape) (packets : ℕ) (draft : ScriptDraft) (place : ℕ) (statement : Statement)
    (next : ScriptDraft) → IsRing ring → IsDraft ring packets draft → add ring packets draft place statement ≡ Ok next →
    IsDraft ring packets next
add_keeps ring packets draft place said.Nothing next shape is e = let same : draft ≡ next =
    cc in subst (IsDraft ring packets) same is
add_keeps ring packets draft place (said.Crash at number) next shape is e =
    let one = both (crash_step ring packets draft at number) (λ step. Ok (with_step draft step)) next e in
    let same : with_step draft one.0 ≡ next = cc one.2 in
    subst (IsDraft ring packets) same (crash_kept ring packets draft at number one.0 shape is one.1)
add_keeps ring packets draft place (said.Recover at number) next shape is e =
    let one = both (recover_step ring packets draft at number) (λ step. Ok (with_step draft step)) next e in
    let same : with_step draft one.0 ≡ next = cc one.2 in
    subst (IsDraft ring packets) same (recover_kept ring packets draft at number one.0 is one.1)
add_keeps ring packets draft place (said.Lose link origin) next shape is e =
    let one = both (lose_line ring packets place link origin) (λ line. Ok (with_lose draft line)) next e in
    let lose = lose_passed ring packets place link origin one.0 one.1 in
    let same : with_lose draft one.0 ≡ next = cc one.2 in
    subst (IsDraft ring packets) same (record {
      steps = is.steps;
      loses = all_push (IsLose ring packets) draft.loses one.0 is.loses lose;
    })

-- a search that finds no server that is down
none_left : (live : ℕ → Bool) (low more k : ℕ) → find (λ server. not (live server)) (range_with_len low more) ≡ None →
    low ≤ k → k < low + more → IsLive live k
none_left live low zero k e above below = absurd (omega arith)
none_left live low (suc more) k e above below =
    elim (live low) as (λ t. live low ≡ t →
    cond (not t) (Some low) (find (λ server. not (live server)) (range_with_len (low + 1) more)) ≡ None →
    IsLive live k) [
      | true ↦ λ up rest. elim (eq-or-lt_of_le above) [
        | inl same ↦ ap live (sym same) ∙ up
        | inr later ↦ none_left live (low + 1) more k rest (omega arith) (omega arith)
      ]
      | false ↦ λ dead rest. absurd cc
    ] refl e

finished_accepts : (ring : RingShape) (packets : ℕ) (draft : ScriptDraft) (place : ℕ) (r : Option ℕ)
    (script : ScriptShape) → finished ring packets draft place r ≡ Ok script →
    (r ≡ None) × (record { ring = ring; packets = packets; steps = draft.steps; loses = draft.loses } ≡ script)
finished_accepts ring packets draft place None script e = (refl, cc)
finished_accepts ring packets draft place (Some server) script e = absurd cc

-- the script of a draft behind which all servers are live
pub whole : (ring : RingShape) (packets : ℕ) (draft : ScriptDraft) → IsRing ring → IsDraft ring packets draft →
    length draft.steps ≤ MOST_SCRIPT_BYTES → down_of ring.servers (live_in draft) ≡ None →
    IsScript (record { ring = ring; packets = packets; steps = draft.steps; loses = draft.loses })
whole ring packets draft shape is few none = record {
  ring = shape;
  few = few;
  steps = is.steps;
  all_live = λ k lk. none_left (live_in draft) 0 ring.servers k none (omega arith) (omega arith);
  loses = is.loses;
}

pub finish_accepts : (ring : RingShape) (packets : ℕ) (draft : ScriptDraft) (place : ℕ) (script : ScriptShape) →
    IsRing ring → IsDraft ring packets draft → length draft.steps ≤ MOST_SCRIPT_BYTES →
    finish ring packets draft place ≡ Ok script → IsScript script × (script.ring ≡ ring) × (script.packets ≡ packets)
finish_accepts ring packets draft place script shape is few e =
    let told = finished_accepts ring packets draft place (down_of ring.servers (live_in draft)) script e in
    subst (λ s. IsScript s × (s.ring ≡ ring)
    × (s.packets ≡ packets)) told.1 (whole ring packets draft shape is few told.0, refl, refl)

placed_ok : {A : Type 0} (place : ℕ) (r : Result A ScriptCause) (a : A) → placed place r ≡ Ok a → r ≡ Ok a
placed_ok place (Ok x) a e = let same : x ≡ a = cc in ap Ok same
placed_ok place (Err cause) a e = absurd cc

placed_keeps : (ring : RingShape) (packets : ℕ) (draft : ScriptDraft) (place : ℕ) (line : List ℕ) (d : ScriptDraft) →
    IsRing ring → IsDraft ring packets draft → placed place (line_step ring packets draft place line) ≡ Ok d →
    IsDraft ring packets d
placed_keeps ring packets draft place line d shape is e =
    let one = both (statement_of (words_of line)) (λ statement. add ring packets draft place statement) d
    (placed_ok place (line_step ring packets draft place line) d e) in
    add_keeps ring packets draft place one.0 d shape is one.2

-- a line adds one step at most
one_more : {A : Type 0} (xs : List A) (x : A) → length (xs ++ x ∷ []) ≡ length xs + 1
one_more [] x = refl
one_more (y ∷ xs) x = let more = one_more xs x in omega (arith, more)

add_few : (ring : RingShape) (packets : ℕ) (draft : ScriptDraft) (place : ℕ) (statement : Statement)
    (next : ScriptDraft) → add ring packets draft place statement ≡ Ok next → length next.steps ≤ length draft.steps + 1
add_few ring packets draft place said.Nothing next e = let same : draft ≡ next =
    cc in subst (λ (d : ScriptDraft). length d.steps ≤ length draft.steps + 1) same (omega arith)
add_few ring packets draft place (said.Crash at number) next e =
    let one = both (crash_step ring packets draft at number) (λ step. Ok (with_step draft step)) next e in
    let same : with_step draft one.0 ≡ next = cc one.2 in
    let more = one_more draft.steps one.0 in
    subst (λ (d : ScriptDraft). length d.steps ≤ length draft.steps + 1) same (omega (arith, more))
add_few ring packets draft place (said.Recover at number) next e =
    let one = both (recover_step ring packets draft at number) (λ step. Ok (with_step draft step)) next e in
    let same : with_step draft one.0 ≡ next = cc one.2 in
    let more = one_more draft.steps one.0 in
    subst (λ (d : ScriptDraft). length d.steps ≤ length draft.steps + 1) same (omega (arith, more))
add_few ring packets draft place (said.Lose link origin) next e =
    let one = both (lose_line ring packets place link origin) (λ line. Ok (with_lose draft line)) next e in
    let same : with_lose draft one.0 ≡ next = cc one.2 in
    subst (λ (d : ScriptDraft). length d.steps ≤ length draft.steps + 1) same (omega arith)

placed_few : (ring : RingShape) (packets : ℕ) (draft : ScriptDraft) (place : ℕ) (line : List ℕ) (d : ScriptDraft) →
    placed place (line_step ring packets draft place line) ≡ Ok d → length d.steps ≤ length draft.steps + 1
placed_few ring packets draft place line d e =
    let one = both (statement_of (words_of line)) (λ statement. add ring packets draft place statement) d
    (placed_ok place (line_step ring packets draft place line) d e) in
    add_few ring packets draft place one.0 d one.2

-- and a text has no more lines than bytes
onto_few : (b : ℕ) (lines : List (List ℕ)) → length (onto_first b lines) ≤ length lines + 1
onto_few b [] = omega arith
onto_few b (line ∷ lines) = omega arith

lines_few : (text : List ℕ) → length (lines_of text) ≤ length text
lines_few [] = omega arith
lines_few (b ∷ bs) = let few =
    lines_few bs in elim (b == 10) as (λ t. length (if t then [] ∷ lines_of bs
    else onto_first b (lines_of bs)) ≤ length (b ∷ bs)) [
      | true ↦ omega (arith, few)
      | false ↦ let more = onto_few b (lines_of bs) in omega (arith, few, more)
    ]

pub from_accepts : (ring : RingShape) (packets : ℕ) (draft : Result ScriptDraft ScriptFault) (place : ℕ)
    (lines : List (List ℕ)) (script : ScriptShape) → IsRing ring
    → ((d : ScriptDraft) → draft ≡ Ok d → IsDraft ring packets d) →
    ((d : ScriptDraft) → draft ≡ Ok d → length d.steps + length lines ≤ MOST_SCRIPT_BYTES)
    → script_from ring packets draft place lines ≡ Ok script → IsScript script × (script.ring ≡ ring)
    × (script.packets ≡ packets)
from_accepts ring packets (Err fault) place lines script shape is few e = absurd cc
from_accepts ring packets (Ok draft) place [] script shape is few e = let own =
    few draft refl in finish_accepts ring packets draft place script shape (is draft refl) (omega (arith, own)) e
from_accepts ring packets (Ok draft) place (line ∷ lines) script shape is few e =
    from_accepts ring packets (placed place (line_step ring packets draft place line)) (place + 1) lines script shape
    (λ d told. placed_keeps ring packets draft place line d shape (is draft refl) told)
    (λ d told. let own = few draft refl in let more = placed_few ring packets draft place line d told in
    omega (arith, own, more)) e

nothing_is_draft : (ring : RingShape) (packets : ℕ) (r : Result ScriptDraft ScriptFault) (d : ScriptDraft) →
    r ≡ Ok no_lines → r ≡ Ok d → IsDraft ring packets d
nothing_is_draft ring packets r d none some = let same : no_lines ≡ d =
    cc in subst (IsDraft ring packets) same (record { steps = tt; loses = tt })

nothing_few : (most : ℕ) (r : Result ScriptDraft ScriptFault) (d : ScriptDraft) (lines : ℕ) → lines ≤ most →
    r ≡ Ok no_lines → r ≡ Ok d → length d.steps + lines ≤ most
nothing_few most r d lines within none some = let same : no_lines ≡ d =
    cc in subst (λ (x : ScriptDraft). length x.steps + lines ≤ most) same (omega (arith, within))

pub text_accepts : (ring : RingShape) (packets : ℕ) (text : List ℕ) (script : ScriptShape) → IsRing ring →
    script_of ring packets text ≡ Ok script → IsScript script × (script.ring ≡ ring) × (script.packets ≡ packets)
text_accepts ring packets text script shape e =
    elim (nat_lt MOST_SCRIPT_BYTES (length text)) as (λ t. nat_lt MOST_SCRIPT_BYTES (length text) ≡ t →
    (if t then fault_at 1 TooLong else script_from ring packets (Ok no_lines) 1 (lines_of text)) ≡ Ok script →
    IsScript script × (script.ring ≡ ring) × (script.packets ≡ packets)) [
      | true ↦ λ is long. absurd cc
      | false ↦ λ short told.
          let lines = lines_few text in
          let within : length text ≤ MOST_SCRIPT_BYTES = grind (arith, nat_tests) in
          from_accepts ring packets (Ok no_lines) 1 (lines_of text) script shape
          (λ d. nothing_is_draft ring packets (Ok no_lines) d refl)
          (λ d. nothing_few MOST_SCRIPT_BYTES (Ok no_lines) d (length (lines_of text))
          (omega (arith, lines, within)) refl) told
    ] refl e

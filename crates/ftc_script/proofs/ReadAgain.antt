-- The plain text of a script's lines reads as that script.
use Rattle.std.proofs.Common.{◌≡◌, ◌≤◌, ◌<◌, ℕ, zero, suc, ◌+◌, Bool, true, false, List, [], ◌∷◌, ◌++◌, length, refl}
use Rattle.std.proofs.Common.{ap, subst, ◌∙◌, sym, arith, rules, Option, None, Result, Ok, append-nil}
use Rattle.std.specs.Prelude.{nat_le, nat_lt, not, codes, map}
use Rattle.std.specs.List.{AllByRecursion, join_with_byte, find, range_with_len}
use Rattle.std.proofs.lemmas.List.{append_assoc}
use Rattle.std.proofs.lemmas.Bool.Decides.{nat_tests}
use Rattle.ftc_base.specs.Text.{lines_of, words_of}
use Rattle.ftc_base.specs.declared.limits.TheConstants.{MOST_SCRIPT_BYTES, MOST_NUMBER}
use Rattle.ftc_ring.specs.Ring.{RingShape, IsRing}
use Rattle.ftc_ring.specs.Live.{gone_of}
use Rattle.ftc_ring.proofs.Nearest.{gone_none}
use Rattle.ftc_base.proofs.PlainWords.{IsPlainWord, lines_of-line, words_of-join, line_bytes-join, plain}
use Rattle.ftc_base.proofs.Decimals.{plain_number}
use Rattle.ftc_script.specs.declared.fault.ScriptCause.{ScriptCause}
use Rattle.ftc_script.specs.declared.fault.ScriptCause.TheVariants.{NotUp}
use Rattle.ftc_script.specs.declared.fault.ScriptFault.{ScriptFault}
use Rattle.ftc_script.specs.declared.line.ScriptLine.{ScriptLine}
use Rattle.ftc_script.specs.declared.line.ScriptLine.TheVariants.{Crash, Recover}
use Rattle.ftc_script.specs.declared.line.LoseLine.{LoseLine}
use Rattle.ftc_script.specs.declared.statement.Statement.{Statement}
use Rattle.ftc_script.specs.declared.statement.Statement.TheVariants as said
use Rattle.ftc_script.specs.Steps.{all_live, with_at, live_after, live_after_all, last_of, IsStep, AreSteps}
use Rattle.ftc_script.specs.Script.{ScriptShape, IsScript, IsLose}
use Rattle.ftc_base.specs.Reading.{◌>>=◌, ◌>>◌, unless}
use Rattle.ftc_script.specs.Words.{statement_of}
use Rattle.ftc_script.specs.Grammar.{ScriptDraft, no_lines, live_in, with_step, with_lose, unless_gone, may_crash, add}
use Rattle.ftc_script.specs.Grammar.{line_step, placed, down_of, finish, script_from, script_of}
use Rattle.ftc_script.specs.Plain.{words_in, plain_text, steps_in, loses_in}
use Rattle.ftc_script.proofs.InTurn.{live_push, last_push}
use Rattle.ftc_script.proofs.Letters.{number_word-decimal}

-- the text of a line
abbrev line_text : Statement → List ℕ
line_text line = join_with_byte 32 (words_in line)

-- all numbers of a line can be spelled
abbrev pub IsSpelled : Statement → Type 0
IsSpelled said.Nothing = Unit {0}
IsSpelled (said.Crash at server) = (at ≤ MOST_NUMBER) × (server ≤ MOST_NUMBER)
IsSpelled (said.Recover at server) = (at ≤ MOST_NUMBER) × (server ≤ MOST_NUMBER)
IsSpelled (said.Lose link origin) = (link ≤ MOST_NUMBER) × (origin ≤ MOST_NUMBER)

plain_words : (line : Statement) → IsSpelled line → AllByRecursion IsPlainWord (words_in line)
plain_words said.Nothing is = tt
plain_words (said.Crash at server) is =
    (plain (codes "at") refl, (plain_number at is.0, (plain (codes "crash") refl, (plain_number server is.1, tt))))
plain_words (said.Recover at server) is =
    (plain (codes "at") refl, (plain_number at is.0, (plain (codes "recover") refl, (plain_number server is.1, tt))))
plain_words (said.Lose link origin) is =
    (plain (codes "lose") refl, (plain_number link is.0, (plain_number origin is.1, tt)))

-- the words of a printed line say what it says
words_said : (line : Statement) → IsSpelled line → statement_of (words_in line) ≡ Ok line
words_said said.Nothing is = refl
words_said (said.Crash at server) is = rw (number_word-decimal at is.0, number_word-decimal server is.1) refl
words_said (said.Recover at server) is = rw (number_word-decimal at is.0, number_word-decimal server is.1) refl
words_said (said.Lose link origin) is = rw (number_word-decimal link is.0, number_word-decimal origin is.1) refl

line_said : (line : Statement) → IsSpelled line → statement_of (words_of (line_text line)) ≡ Ok line
line_said line is = ap statement_of (words_of-join (words_in line) (plain_words line is)) ∙ words_said line is

lines_of-text : (lines : List Statement) → AllByRecursion IsSpelled lines →
    lines_of (plain_text lines) ≡ map line_text lines
lines_of-text [] all = refl
lines_of-text (line ∷ lines) all =
    lines_of-line (line_text line) (plain_text lines) (line_bytes-join (words_in line) (plain_words line all.0)) ∙ ap
    (λ (ls : List (List ℕ)). line_text line ∷ ls) (lines_of-text lines all.1)

-- one more line, and the lines behind it
step_on : (ring : RingShape) (packets : ℕ) (draft next : ScriptDraft) (place : ℕ) (line : Statement)
    (lines : List (List ℕ)) → IsSpelled line → add ring packets draft place line ≡ Ok next →
    script_from ring packets (Ok draft) place (line_text line ∷ lines)
    ≡ script_from ring packets (Ok next) (place + 1) lines
step_on ring packets draft next place line lines is added =
    let stepped : line_step ring packets draft place (line_text line) ≡ Ok next = rw (line_said line is) added in
    ap (λ (r : Result ScriptDraft ScriptCause). script_from ring packets (placed place r) (place + 1) lines) stepped

crash_added : (ring : RingShape) (packets last : ℕ) (live : ℕ → Bool) (draft : ScriptDraft) (place at server : ℕ) →
    IsRing ring → last ≡ last_of 0 draft.steps → live ≡ live_in draft →
    IsStep ring packets last live (Crash at server) →
    add ring packets draft place (said.Crash at server) ≡ Ok (with_step draft (Crash at server))
crash_added ring packets last live draft place at server shape same alike is =
    let within : nat_lt server ring.servers ≡ true = let w = is.0.within in search rules in
    let entered : nat_le at packets ≡ true = let w = is.0.entered in search rules in
    let ordered : nat_le last at ≡ true = let w = is.0.ordered in search rules in
    let none : gone_of ring (with_at live server false) ≡ None =
    (gone_none ring (with_at live server false) shape).1 is.1.admissible in
    let allowed : may_crash ring live server ≡ Ok tt =
    ap (λ (r : Option ℕ). unless (live server) NotUp >> unless_gone r) none ∙ rw is.1.up refl in
    let here : may_crash ring (live_in draft) server ≡ Ok tt =
    subst (λ (l : ℕ → Bool). may_crash ring l server ≡ Ok tt) alike allowed in
    rw (
      ← same,
      within,
      entered,
      ordered,
    )
    (ap (λ (r : Result (Unit {0}) ScriptCause). (r >> Ok (Crash at server)) >>= λ step.
    Ok (with_step draft step)) here)

recover_added : (ring : RingShape) (packets last : ℕ) (live : ℕ → Bool) (draft : ScriptDraft) (place at server : ℕ) →
    last ≡ last_of 0 draft.steps → live ≡ live_in draft → IsStep ring packets last live (Recover at server) →
    add ring packets draft place (said.Recover at server) ≡ Ok (with_step draft (Recover at server))
recover_added ring packets last live draft place at server same alike is =
    let within : nat_lt server ring.servers ≡ true = let w = is.0.within in search rules in
    let entered : nat_le at packets ≡ true = let w = is.0.entered in search rules in
    let ordered : nat_le last at ≡ true = let w = is.0.ordered in search rules in
    rw (← same, ← alike, within, entered, ordered, is.1) refl

lose_added : (ring : RingShape) (packets : ℕ) (draft : ScriptDraft) (place link origin : ℕ) →
    IsLose ring packets (record { line = place; link = link; origin = origin }) →
    add ring packets draft place (said.Lose link origin)
    ≡ Ok (with_lose draft (record { line = place; link = link; origin = origin }))
lose_added ring packets draft place link origin is =
    let within : nat_lt link ring.servers ≡ true = let w = is.link in search rules in
    let entered : nat_lt origin packets ≡ true = let w = is.origin in search rules in
    rw (within, entered) refl

-- no server is down
none_down : (live : ℕ → Bool) (low more : ℕ) → ((k : ℕ) → k < low + more → live k ≡ true) →
    find (λ server. not (live server)) (range_with_len low more) ≡ None
none_down live low zero up = refl
none_down live low (suc more) up =
    rw (up low (omega arith)) (none_down live (low + 1) more (λ k lk. up k (omega arith)))

abbrev told : RingShape → ℕ → List ScriptLine → List LoseLine → Result ScriptShape ScriptFault
told ring packets steps loses = Ok (record { ring = ring; packets = packets; steps = steps; loses = loses })

finish_again : (ring : RingShape) (packets : ℕ) (live : ℕ → Bool) (draft : ScriptDraft) (place : ℕ) →
    live ≡ live_in draft → ((k : ℕ) → k < ring.servers → live k ≡ true) →
    finish ring packets draft place ≡ told ring packets draft.steps draft.loses
finish_again ring packets live draft place alike up =
    let none : down_of ring.servers live ≡ None = none_down live 0 ring.servers (λ k lk. up k (omega arith)) in
    rw (← alike, none) refl

again : (ring : RingShape) (packets last : ℕ) (live : ℕ →
    Bool) (draft : ScriptDraft) (place : ℕ) (lines : List Statement) → IsRing ring → last ≡ last_of 0 draft.steps →
    live ≡ live_in draft
    → AllByRecursion IsSpelled lines → AreSteps ring packets last live (steps_in lines) →
    ((k : ℕ) → k < ring.servers → live_after_all live (steps_in lines) k ≡ true) →
    AllByRecursion (IsLose ring packets) (loses_in place lines)
    → script_from ring packets (Ok draft) place (map line_text lines)
    ≡ told ring packets (draft.steps ++ steps_in lines) (draft.loses ++ loses_in place lines)
again ring packets last live draft place [] shape same alike spelled are up loses =
    finish_again ring packets live draft place alike up ∙ rw (append-nil, append-nil) refl
again ring packets last live draft place (said.Nothing ∷ lines) shape same alike spelled are up loses =
    step_on ring packets draft draft place said.Nothing (map line_text lines) tt refl
    ∙ again ring packets last live draft (place + 1) lines shape same alike spelled.1 are up loses
again ring packets last live draft place (said.Crash at server ∷ lines) shape same alike spelled are up loses =
    let step : ScriptLine = Crash at server in
    step_on ring packets draft (with_step draft step) place (said.Crash at server) (map line_text lines) spelled.0
    (crash_added ring packets last live draft place at server shape same alike are.0)
    ∙ again ring packets at (live_after live step) (with_step draft step) (place + 1) lines shape
    (sym (last_push 0 draft.steps step))
    (ap (λ (l : ℕ → Bool). live_after l step) alike ∙ sym
    (live_push all_live draft.steps step)) spelled.1 are.1 up loses
    ∙ ap (λ (ss : List ScriptLine). told ring packets ss (draft.loses ++ loses_in (place + 1) lines))
    (append_assoc draft.steps (step ∷ []) (steps_in lines))
again ring packets last live draft place (said.Recover at server ∷ lines) shape same alike spelled are up loses =
    let step : ScriptLine = Recover at server in
    step_on ring packets draft (with_step draft step) place (said.Recover at server) (map line_text lines) spelled.0
    (recover_added ring packets last live draft place at server same alike are.0)
    ∙ again ring packets at (live_after live step) (with_step draft step) (place + 1) lines shape
    (sym (last_push 0 draft.steps step))
    (ap (λ (l : ℕ → Bool). live_after l step) alike ∙ sym
    (live_push all_live draft.steps step)) spelled.1 are.1 up loses
    ∙ ap (λ (ss : List ScriptLine). told ring packets ss (draft.loses ++ loses_in (place + 1) lines))
    (append_assoc draft.steps (step ∷ []) (steps_in lines))
again ring packets last live draft place (said.Lose link origin ∷ lines) shape same alike spelled are up loses =
    let line : LoseLine = record { line = place; link = link; origin = origin } in
    step_on ring packets draft (with_lose draft line) place (said.Lose link origin) (map line_text lines) spelled.0
    (lose_added ring packets draft place link origin loses.0)
    ∙ again ring packets last live (with_lose draft line) (place + 1) lines shape same alike spelled.1 are up loses.1
    ∙ ap (told ring packets (draft.steps ++ steps_in lines))
    (append_assoc draft.loses (line ∷ []) (loses_in (place + 1) lines))

-- the numbers of a script can be spelled
spelled : (ring : RingShape) (packets last : ℕ) (live : ℕ → Bool) (place : ℕ) (lines : List Statement) → IsRing ring →
    packets ≤ MOST_NUMBER → AreSteps ring packets last live (steps_in lines) →
    AllByRecursion (IsLose ring packets) (loses_in place lines) → AllByRecursion IsSpelled lines
spelled ring packets last live place [] shape few are loses = tt
spelled ring packets last live place (said.Nothing ∷ lines) shape few are loses =
    (tt, spelled ring packets last live (place + 1) lines shape few are loses)
spelled ring packets last live place (said.Crash at server ∷ lines) shape few are loses =
    let within = are.0.0.within in
    let entered = are.0.0.entered in
    let small = shape.servers in (
      (omega arith, omega arith),
      spelled ring packets at (live_after live (Crash at server)) (place + 1) lines shape few are.1 loses,
    )
spelled ring packets last live place (said.Recover at server ∷ lines) shape few are loses =
    let within = are.0.0.within in
    let entered = are.0.0.entered in
    let small = shape.servers in (
      (omega arith, omega arith),
      spelled ring packets at (live_after live (Recover at server)) (place + 1) lines shape few are.1 loses,
    )
spelled ring packets last live place (said.Lose link origin ∷ lines) shape few are loses =
    let within = loses.0.link in
    let entered = loses.0.origin in
    let small = shape.servers in
    ((omega arith, omega arith), spelled ring packets last live (place + 1) lines shape few are loses.1)

pub reads_back : (ring : RingShape) (packets : ℕ) (lines : List Statement) →
    IsScript (record { ring = ring; packets = packets; steps = steps_in lines; loses = loses_in 1 lines }) →
    packets ≤ MOST_NUMBER → length (plain_text lines) ≤ MOST_SCRIPT_BYTES
    → script_of ring packets (plain_text lines)
    ≡ Ok (record { ring = ring; packets = packets; steps = steps_in lines; loses = loses_in 1 lines })
reads_back ring packets lines is few short =
    let fits : nat_lt MOST_SCRIPT_BYTES (length (plain_text lines)) ≡ false = grind (arith, nat_tests) in
    let all = spelled ring packets 0 all_live 1 lines is.ring few is.steps is.loses in
    rw fits (ap (script_from ring packets (Ok no_lines) 1)
    (lines_of-text lines all) ∙ again ring packets 0 all_live no_lines 1 lines is.ring refl refl all is.steps
    is.all_live is.loses)

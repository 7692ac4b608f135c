-- The script of a watch is accepted.
use Rattle.std.proofs.Common.{◌≡◌, ℕ, ◌+◌, ◌*◌, ◌≤◌, ◌<◌, List, [], ◌∷◌, ◌++◌, length, Ok, refl, sym, ap, subst, ◌∙◌}
use Rattle.std.proofs.Common.{arith, length-append}
use Rattle.std.specs.Prelude.{codes, decimal}
use Rattle.std.specs.List.{AllByRecursion, join_with_byte}
use Rattle.std.proofs.lemmas.Fmt.{length-decimal-le}
use Rattle.ftc_base.specs.declared.limits.TheConstants.{MOST_SERVERS}
use Rattle.ftc_ring.specs.Ring.{RingShape, IsRing}
use Rattle.ftc_script.specs.declared.line.LoseLine.{LoseLine}
use Rattle.ftc_script.specs.declared.statement.Statement.{Statement}
use Rattle.ftc_script.specs.declared.statement.Statement.TheVariants.{Nothing, Crash, Recover, Lose}
use Rattle.ftc_script.specs.Script.{ScriptShape, IsScript}
use Rattle.ftc_script.specs.Grammar.{script_of}
use Rattle.ftc_script.specs.Plain.{words_in, plain_text, steps_in, loses_in}
use Rattle.ftc_script.proofs.ReadAgain.{reads_back}
use Rattle.ftc_watch.specs.declared.limits.TheConstants.{MOST_BEATS}
use Rattle.ftc_watch.specs.declared.tick.Tick.{Tick}
use Rattle.ftc_watch.specs.Beats.{BeatsShape, IsBeats}
use Rattle.ftc_watch.specs.Watch.{at_start, ticks_on, watch_of}
use Rattle.ftc_watch.proofs.Sizes.{watch_few}
use Rattle.ftc_watch.proofs.Sound.{IsMove, Sound, all_up, watch_sound}

-- moves lose no message
no_loses : (place : ℕ) (lines : List Statement) → AllByRecursion IsMove lines → loses_in place lines ≡ []
no_loses place [] all = refl
no_loses place (Nothing ∷ lines) all = absurd all.0
no_loses place (Crash at server ∷ lines) all = no_loses (place + 1) lines all.1
no_loses place (Recover at server ∷ lines) all = no_loses (place + 1) lines all.1
no_loses place (Lose link origin ∷ lines) all = absurd all.0

-- a line has at most one step, and few bytes
few_steps : (lines : List Statement) → length (steps_in lines) ≤ length lines
few_steps [] = omega arith
few_steps (Nothing ∷ lines) = let few = few_steps lines in omega (arith, few)
few_steps (Crash at server ∷ lines) = let few = few_steps lines in omega (arith, few)
few_steps (Recover at server ∷ lines) = let few = few_steps lines in omega (arith, few)
few_steps (Lose link origin ∷ lines) = let few = few_steps lines in omega (arith, few)

digits_of : (at : ℕ) → at ≤ 4294967295 → length (decimal at) ≤ 10
digits_of at small = length-decimal-le 10 at (omega arith) (omega arith) (omega arith)

digits_of_server : (server : ℕ) → server < MOST_SERVERS → length (decimal server) ≤ 2
digits_of_server server small = length-decimal-le 2 server (omega arith) (omega arith) (omega arith)

line_short : (line : Statement) → IsMove line → length (join_with_byte 32 (words_in line)) ≤ 24
line_short Nothing move = absurd move
line_short (Crash at server) move =
    let one = digits_of at move.0 in
    let two = digits_of_server server move.1 in
    let size = length-append (decimal at) (32 ∷ (codes "crash" ++ 32 ∷ decimal server)) in
    omega (arith, one, two, size)
line_short (Recover at server) move =
    let one = digits_of at move.0 in
    let two = digits_of_server server move.1 in
    let size = length-append (decimal at) (32 ∷ (codes "recover" ++ 32 ∷ decimal server)) in
    omega (arith, one, two, size)
line_short (Lose link origin) move = absurd move

text_short : (lines : List Statement) → AllByRecursion IsMove lines → length (plain_text lines) ≤ 25 * length lines
text_short [] all = omega arith
text_short (line ∷ lines) all =
    let one = line_short line all.0 in
    let more = text_short lines all.1 in
    let size = length-append (join_with_byte 32 (words_in line)) (10 ∷ plain_text lines) in
    omega (arith, one, more, size)

-- the script that a watch makes
abbrev pub script_made : RingShape → ℕ → ℕ → List Tick → ScriptShape
script_made ring limit packets ticks = record {
  ring = ring;
  packets = packets;
  steps = steps_in
      (watch_of ring limit packets ticks).script;
  loses = [];
}

is_script : (ring : RingShape) (limit packets : ℕ) (ticks : List Tick) → IsRing ring → length ticks ≤ MOST_BEATS
    → Sound ring packets packets (watch_of ring limit packets ticks) → IsScript (script_made ring limit packets ticks)
is_script ring limit packets ticks shape size is =
    let few = few_steps (watch_of ring limit packets ticks).script in
    let small = shape.servers in
    let all = watch_few ring limit packets ticks small size in
    record {
      ring = shape;
      few = omega (arith, few, all);
      steps = is.steps;
      all_live = λ server within. ap (λ (l : ℕ → _). l server) (sym is.alike)
          ∙ all_up ring packets (ticks_on ring limit at_start ticks) server within;
      loses = tt;
    }

pub made_is_script : (beats : BeatsShape) (limit : ℕ) → IsBeats beats → beats.packets ≤ 4294967295
    → IsScript (script_made beats.ring limit beats.packets beats.ticks)
made_is_script beats limit is few =
    is_script beats.ring limit beats.packets beats.ticks is.ring is.few
    (watch_sound beats.ring limit beats.packets beats.ticks is.ring few is.ticks)

pub made_reads : (beats : BeatsShape) (limit : ℕ) → IsBeats beats → beats.packets ≤ 4294967295
    → script_of beats.ring beats.packets (plain_text (watch_of beats.ring limit beats.packets beats.ticks).script)
    ≡ Ok (script_made beats.ring limit beats.packets beats.ticks)
made_reads beats limit is few =
    let ring = beats.ring in
    let lines : List Statement = (watch_of beats.ring limit beats.packets beats.ticks).script in
    let sound = watch_sound ring limit beats.packets beats.ticks is.ring few is.ticks in
    let none : loses_in 1 lines ≡ [] = no_loses 1 lines sound.moves in
    let made = is_script ring limit beats.packets beats.ticks is.ring is.few sound in
    let short = text_short lines sound.moves in
    let small = is.ring.servers in
    let all = watch_few ring limit beats.packets beats.ticks small is.few in
    let told : (loses : List LoseLine) → ScriptShape = λ (loses : List LoseLine).
    record { ring = ring; packets = beats.packets; steps = steps_in lines; loses = loses } in
    reads_back ring beats.packets lines (subst (λ (loses : List LoseLine). IsScript (told loses)) (sym none) made) few
    (omega (arith, short, all))
    ∙ ap (λ (loses : List LoseLine). Ok (told loses)) none

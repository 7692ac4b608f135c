-- A plain text of each script.
use Rattle.std.specs.Prelude.{ℕ, ◌+◌, List, [], ◌∷◌, ◌++◌, codes, decimal}
use Rattle.std.specs.List.{join_with_byte}
use Rattle.ftc_script.specs.declared.line.ScriptLine.{ScriptLine}
use Rattle.ftc_script.specs.declared.line.ScriptLine.TheVariants.{Crash, Recover}
use Rattle.ftc_script.specs.declared.line.LoseLine.{LoseLine}
use Rattle.ftc_script.specs.declared.statement.Statement.{Statement}
use Rattle.ftc_script.specs.declared.statement.Statement.TheVariants as said

-- the words of a line; a line that says nothing has none
abbrev pub words_in : Statement → List (List ℕ)
words_in said.Nothing = []
words_in (said.Crash at server) = codes "at" ∷ decimal at ∷ codes "crash" ∷ decimal server ∷ []
words_in (said.Recover at server) = codes "at" ∷ decimal at ∷ codes "recover" ∷ decimal server ∷ []
words_in (said.Lose link origin) = codes "lose" ∷ decimal link ∷ decimal origin ∷ []

-- each line with one space between its words and a line feed behind it
abbrev pub plain_text : List Statement → List ℕ
plain_text [] = []
plain_text (line ∷ lines) = join_with_byte 32 (words_in line) ++ 10 ∷ plain_text lines

-- the crashes and recoveries of some lines, and their lose lines, of which the first line stands at that place
abbrev pub steps_in : List Statement → List ScriptLine
steps_in [] = []
steps_in (said.Nothing ∷ lines) = steps_in lines
steps_in (said.Crash at server ∷ lines) = Crash at server ∷ steps_in lines
steps_in (said.Recover at server ∷ lines) = Recover at server ∷ steps_in lines
steps_in (said.Lose link origin ∷ lines) = steps_in lines

abbrev pub loses_in : ℕ → List Statement → List LoseLine
loses_in place [] = []
loses_in place (said.Nothing ∷ lines) = loses_in (place + 1) lines
loses_in place (said.Crash at server ∷ lines) = loses_in (place + 1) lines
loses_in place (said.Recover at server ∷ lines) = loses_in (place + 1) lines
loses_in place (said.Lose link origin ∷ lines) =
    record { line = place; link = link; origin = origin } ∷ loses_in (place + 1) lines

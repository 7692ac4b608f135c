-- The lines that a watch prints.
use Rattle.std.specs.Prelude.{ℕ, Bool, true, false, List, [], ◌∷◌, ◌++◌, codes, decimal, count_by, length}
use Rattle.std.specs.List.{join_with_byte}
use Rattle.ftc_script.specs.declared.statement.Statement.{Statement}
use Rattle.ftc_script.specs.declared.statement.Statement.TheVariants.{Nothing, Crash, Recover, Lose}
use Rattle.ftc_watch.specs.declared.held.Held.{Held}
use Rattle.ftc_watch.specs.Watch.{Watching}

-- the words of a held line
abbrev pub held_words : Held → List (List ℕ)
held_words held = codes "held" ∷ decimal held.at ∷ decimal held.server ∷ decimal held.group ∷ []

-- each line with one space between its words and a line feed behind it
abbrev pub held_text : List Held → List ℕ
held_text [] = []
held_text (held ∷ more) = join_with_byte 32 (held_words held) ++ 10 ∷ held_text more

-- how many lines of a script are crashes
abbrev pub is_crash : Statement → Bool
is_crash Nothing = false
is_crash (Crash at server) = true
is_crash (Recover at server) = false
is_crash (Lose link origin) = false

abbrev pub crashes_in : List Statement → ℕ
crashes_in lines = count_by is_crash lines

-- what is told of a watch: how many crashes its script has and how many lines are held, and then these lines
abbrev pub summary : ℕ → ℕ → List ℕ → List ℕ
summary fenced refused held =
    codes "ftc-watch 1\nfenced " ++ decimal fenced ++ codes "\nrefused " ++ decimal refused ++ codes "\n" ++ held

abbrev pub summary_of : Watching → List ℕ
summary_of watched = summary (crashes_in watched.script) (length watched.held) (held_text watched.held)

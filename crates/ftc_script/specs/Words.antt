-- What the words of a line say.
use Rattle.std.specs.Prelude.{ℕ, List, [], ◌∷◌, Result, Ok, Err, if◌then◌else◌, codes}
use Rattle.std.specs.Str.{bytes_eq}
pub use Rattle.ftc_base.specs.Comment.{is_comment}
use Rattle.ftc_base.specs.Reading.{◌>>=◌}
use Rattle.ftc_base.specs.Number.{number_of}
use Rattle.ftc_base.specs.declared.lexer.Lexical.{Lexical}
use Rattle.ftc_base.specs.declared.limits.TheConstants.{MOST_NUMBER}
use Rattle.ftc_script.specs.declared.fault.ScriptCause.{ScriptCause}
use Rattle.ftc_script.specs.declared.fault.ScriptCause.TheVariants.{Word}
use Rattle.ftc_script.specs.declared.statement.Statement.{Statement}
use Rattle.ftc_script.specs.declared.statement.Statement.TheVariants as said

abbrev pub as_number : Result ℕ Lexical → Result ℕ ScriptCause
as_number (Ok value) = Ok value
as_number (Err fault) = Err Word

abbrev pub number_word : List ℕ → Result ℕ ScriptCause
number_word word = as_number (number_of word MOST_NUMBER)

-- what happens to the server
abbrev pub event_of : List ℕ → ℕ → ℕ → Result Statement ScriptCause
event_of verb at server =
    if bytes_eq verb (codes "crash") then Ok (said.Crash at server) else
    if bytes_eq verb (codes "recover") then Ok (said.Recover at server) else Err Word

-- the words behind `at`: a number, `crash` or `recover`, and a server
abbrev pub at_words : List (List ℕ) → Result Statement ScriptCause
at_words (first ∷ verb ∷ second ∷ []) =
    number_word first >>= λ at. number_word second >>= λ server. event_of verb at server
at_words words = Err Word

-- the words behind `lose`: a link and an origin
abbrev pub lose_words : List (List ℕ) → Result Statement ScriptCause
lose_words (first ∷ second ∷ []) =
    number_word first >>= λ link. number_word second >>= λ origin. Ok (said.Lose link origin)
lose_words words = Err Word

-- a line without words and a comment say nothing
abbrev pub statement_of : List (List ℕ) → Result Statement ScriptCause
statement_of [] = Ok said.Nothing
statement_of (first ∷ words) =
    if is_comment first then Ok said.Nothing else
    if bytes_eq first (codes "at") then at_words words else
    if bytes_eq first (codes "lose") then lose_words words else Err Word

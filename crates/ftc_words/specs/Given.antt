-- The words behind a command's own: options with their values, and others.
use Rattle.std.specs.Prelude.{ℕ, Bool, true, false, not, ◌&&◌, ◌++◌, ◌==◌, List, [], ◌∷◌, length, map, nat_lt, Option}
use Rattle.std.specs.Prelude.{Some, None, is_some, option_and_then, codes, if◌then◌else◌}
use Rattle.std.specs.Str.{bytes_eq}
use Rattle.std.specs.Borrow.{Bor}

abbrev pub texts_of : List (Bor (List ℕ)) → List (List ℕ)
texts_of words = map (λ word. word.now) words

-- not empty, and without a hyphen in front
abbrev pub is_name : List ℕ → Bool
is_name [] = false
is_name (byte ∷ bytes) = not (byte == 45)

-- what the next word is: an option or another word, or a value of an option
pub data Awaited : Type 0 where
  any : Awaited
  workers : Awaited
  schedule : Awaited
  server : Awaited
  file : List ℕ → Awaited

-- what was given so far
pub record Given : Type 0 where
  pub awaited : Awaited
  pub workers : Option (List ℕ)
  pub schedule : Option (List ℕ)
  pub moved : Option (List ℕ × List ℕ)
  pub plain : List (List ℕ)

abbrev pub nothing_given : Given
nothing_given = record { awaited = any; workers = None; schedule = None; moved = None; plain = [] }

-- no command has more than six words besides its own and its options
abbrev pub most_plain : ℕ
most_plain = 6

-- an option, which comes at most once
abbrev pub option_taken : Bool → Awaited → Given → Option Given
option_taken before awaited given = if before then None else Some (record given { awaited = awaited })

-- a word where none is awaited as a value
abbrev pub word_taken : Given → List ℕ → Option Given
word_taken given word =
    if bytes_eq word (codes "--workers") then option_taken (is_some given.workers) workers given
    else (if bytes_eq word (codes "--alone") then option_taken (is_some given.schedule) schedule given
    else (if bytes_eq word (codes "--move") then option_taken (is_some given.moved) server given
    else (if is_name word && nat_lt (length given.plain) most_plain then
    Some (record given { plain = given.plain ++ word ∷ [] }) else None)))

-- a value of an option
abbrev pub value_taken : Awaited → Given → List ℕ → Given
value_taken any given word = given
value_taken workers given word = record given { awaited = any; workers = Some word }
value_taken schedule given word = record given { awaited = any; schedule = Some word }
value_taken server given word = record given { awaited = file word }
value_taken (file number) given word = record given { awaited = any; moved = Some (number, word) }

abbrev pub is_any : Awaited → Bool
is_any any = true
is_any other = false

abbrev pub taken : Given → List ℕ → Option Given
taken given word =
    if is_any given.awaited then word_taken given word
    else (if is_name word then Some (value_taken given.awaited given word) else None)

-- what is given then, where a word was taken
abbrev pub if_taken : Bool → Given → Option Given
if_taken was given = if was then Some given else None

-- one word after another; in the end no value is awaited
abbrev pub given_from : Given → List (List ℕ) → Option Given
given_from given [] = if is_any given.awaited then Some given else None
given_from given (word ∷ words) = option_and_then (λ next. given_from next words) (taken given word)

abbrev pub given_in : List (List ℕ) → Option Given
given_in words = given_from nothing_given words

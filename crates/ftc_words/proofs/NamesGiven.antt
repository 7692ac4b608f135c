-- The names that a command is given are names.
use Rattle.std.proofs.Common.{◌≡◌, refl, ℕ, Bool, true, false, ◌&&◌, ◌||◌, ◌++◌, List, [], ◌∷◌, Option, Some, None}
use Rattle.std.proofs.Common.{if◌then◌else◌}
use Rattle.std.specs.Prelude.{option_and_then, option_map}
use Rattle.std.specs.List.{list_all}
use Rattle.std.specs.Str.{bytes_eq}
use Rattle.std.proofs.lemmas.Bool.{and_parts, and_from}
use Rattle.ftc_words.specs.Given.{is_name}
use Rattle.ftc_words.specs.Command.{Named, Mode, Command, run, check, Place, name, number, Read, with_name, with_number}
use Rattle.ftc_words.specs.Command.{number_in, read_at, names_of, is_plain, Form, run_form, check_form, make_form}
use Rattle.ftc_words.specs.Command.{ports_form, watch_form, forms, named, six_of, named_by, are_distinct, of_form}
use Rattle.ftc_words.specs.Command.{of_word}

abbrev Names : List (List ℕ) → Type 0
Names words = list_all is_name words ≡ true

-- the words at the places of names are names
abbrev AreNamed : Option Read → Type 0
AreNamed None = Unit {0}
AreNamed (Some read) = Names read.names

with_one : (w : List ℕ) (read : Option Read) → is_name w ≡ true → AreNamed read
    → AreNamed (option_map (with_name w) read)
with_one w None is are = tt
with_one w (Some read) is are = and_from (is_name w) (list_all is_name read.names) is are

with_value : (n : ℕ) (read : Option Read) → AreNamed read → AreNamed (option_map (with_number n) read)
with_value n None are = tt
with_value n (Some read) are = are

if_number : (value : Option ℕ) (read : Option Read) → AreNamed read → AreNamed (option_and_then (λ n. option_map
    (with_number n) read) value)
if_number None read are = tt
if_number (Some n) read are = with_value n read are

read_named : (places : List Place) (words : List (List ℕ)) → Names words → AreNamed (read_at places words)
read_named [] [] are = refl
read_named [] (w ∷ ws) are = tt
read_named (p ∷ ps) [] are = tt
read_named (name ∷ ps) (w ∷ ws) are =
    let parts = and_parts (is_name w) (list_all is_name ws) are in
    with_one w (read_at ps ws) parts.0 (read_named ps ws parts.1)
read_named (number least most ∷ ps) (w ∷ ws) are =
    if_number (number_in least most w) (read_at ps ws)
    (read_named ps ws (and_parts (is_name w) (list_all is_name ws) are).1)

-- a command is given the names that were read
abbrev pub AreGiven : Option Command → Type 0
AreGiven None = Unit {0}
AreGiven (Some command) = Names (named_by command)

six_given : (names : List (List ℕ)) (made : Named → Command) → ((six : Named) → named_by (made six) ≡ six_of six)
    → Names names → AreGiven (option_map made (named names))
six_given [] made is are = tt
six_given (a ∷ []) made is are = tt
six_given (a ∷ b ∷ []) made is are = tt
six_given (a ∷ b ∷ c ∷ []) made is are = tt
six_given (a ∷ b ∷ c ∷ d ∷ []) made is are = tt
six_given (a ∷ b ∷ c ∷ d ∷ e ∷ []) made is are = tt
six_given (a ∷ b ∷ c ∷ d ∷ e ∷ f ∷ []) made is are = rw (is
    (record { chain = a; script = b; capture = c; out = d; journal = e; report = f })) are
six_given (a ∷ b ∷ c ∷ d ∷ e ∷ f ∷ g ∷ more) made is are = tt

-- what a form makes is given the names that were read
abbrev Gives : Form → Type 0
Gives form = (numbers : List ℕ) (names : List (List ℕ)) (mode : Mode) → Names names
    → AreGiven (form.made numbers names mode)

run_gives : Gives run_form
run_gives [] names mode are = six_given names (λ six. run six mode) (λ six. refl) are
run_gives (n ∷ ns) names mode are = tt

check_gives : Gives check_form
check_gives [] names mode are = six_given names check (λ six. refl) are
check_gives (n ∷ ns) names mode are = tt

make_gives : Gives make_form
make_gives [] names mode are = tt
make_gives (a ∷ []) names mode are = tt
make_gives (a ∷ b ∷ []) [] mode are = tt
make_gives (a ∷ b ∷ []) (capture ∷ []) mode are = are
make_gives (a ∷ b ∷ []) (capture ∷ other ∷ more) mode are = tt
make_gives (a ∷ b ∷ c ∷ more) names mode are = tt

ports_gives : Gives ports_form
ports_gives [] names mode are = tt
ports_gives (a ∷ []) [] mode are = tt
ports_gives (a ∷ []) (chain ∷ []) mode are = tt
ports_gives (a ∷ []) (chain ∷ capture ∷ []) mode are = tt
ports_gives (a ∷ []) (chain ∷ capture ∷ journal ∷ []) mode are = are
ports_gives (a ∷ []) (chain ∷ capture ∷ journal ∷ other ∷ more) mode are = tt
ports_gives (a ∷ b ∷ more) names mode are = tt

watch_gives : Gives watch_form
watch_gives [] names mode are = tt
watch_gives (a ∷ []) [] mode are = tt
watch_gives (a ∷ []) (chain ∷ []) mode are = tt
watch_gives (a ∷ []) (chain ∷ capture ∷ []) mode are = tt
watch_gives (a ∷ []) (chain ∷ capture ∷ beats ∷ []) mode are = tt
watch_gives (a ∷ []) (chain ∷ capture ∷ beats ∷ script ∷ []) mode are = are
watch_gives (a ∷ []) (chain ∷ capture ∷ beats ∷ script ∷ other ∷ more) mode are = tt
watch_gives (a ∷ b ∷ more) names mode are = tt

if_given : (test : Bool) (command : Option Command) → AreGiven command → AreGiven (if test then command else None)
if_given true command are = are
if_given false command are = tt

if_read : (form : Form) → Gives form → (mode : Mode) (read : Option Read) → AreNamed read
    → AreGiven (option_and_then (λ r. if are_distinct
    (names_of mode ++ r.names) then form.made r.numbers r.names mode else None) read)
if_read form gives mode None are = tt
if_read form gives mode (Some read) are =
    if_given (are_distinct (names_of mode ++ read.names)) (form.made read.numbers read.names mode)
    (gives read.numbers read.names mode are)

form_given : (form : Form) → Gives form → (mode : Mode) (words : List (List ℕ)) → Names words
    → AreGiven (of_form form mode words)
form_given form gives mode words are = if_given (form.has_options || is_plain mode) _ (if_read form gives mode
    (read_at form.places words) (read_named form.places words are))

either : (test : Bool) (one other : Option Command) → AreGiven one → AreGiven other
    → AreGiven (if test then one else other)
either true one other are also = are
either false one other are also = also

pub word_given : (w : List ℕ) (mode : Mode) (words : List (List ℕ)) → Names words
    → AreGiven (of_word forms w mode words)
word_given w mode words are =
    either (bytes_eq w run_form.word) _ _ (form_given run_form run_gives mode words are)
    (either (bytes_eq w check_form.word) _ _ (form_given check_form check_gives mode words are)
    (either (bytes_eq w make_form.word) _ _ (form_given make_form make_gives mode words are)
    (either (bytes_eq w ports_form.word) _ _ (form_given ports_form ports_gives mode words are)
    (either (bytes_eq w watch_form.word) _ _ (form_given watch_form watch_gives mode words are) tt))))

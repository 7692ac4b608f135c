-- The words of an event's line.
use Rattle.std.proofs.Common.{◌≡◌, ◌≤◌, ◌<◌, ℕ, true, nat_lt, List, [], ◌∷◌, ◌++◌, refl, ap, ◌∙◌}
use Rattle.std.proofs.Common.{arith, rules, Ok, Some, inl, inr, append_assoc, append-nil}
use Rattle.std.specs.Prelude.{nat_le, codes, decimal, map}
use Rattle.std.specs.List.{AllByRecursion, list_all, join_with_byte, flat_map}
use Rattle.std.proofs.lemmas.Bool.Decides.{nat_tests}
use Rattle.std.proofs.lemmas.Bool.{and_parts}
use Rattle.ftc_base.specs.Endpoint.{parts_of}
use Rattle.ftc_base.specs.declared.limits.TheConstants.{MOST_SLOTS}
use Rattle.ftc_base.proofs.Separated.{Without, without-append, parts_of-part, parts_of-last, parts_of-join}
use Rattle.ftc_base.proofs.Separated.{without-join}
use Rattle.ftc_base.proofs.Decimals.{without_decimal}
use Rattle.ftc_journal.specs.declared.event.Event.{Event}
use Rattle.ftc_journal.specs.declared.event.Event.TheVariants as event
use Rattle.ftc_journal.specs.declared.event.VisitName.{VisitName}
use Rattle.ftc_journal.specs.declared.numerals.NameFigures.{NameFigures}
use Rattle.ftc_journal.specs.declared.form.Version.{Version}
use Rattle.ftc_journal.specs.declared.form.Version.TheVariants as version
use Rattle.ftc_journal.specs.Text.{spaced, spaced_name, words_of}
use Rattle.ftc_journal.specs.Reading.{names_of, name_of, undone_in, event_of, below}
use Rattle.ftc_journal.specs.Spelling.{IsEvent, IsVisitName, servers_of}
use Rattle.ftc_journal.proofs.Letters.{figure_of-decimal}

abbrev pub name_text : VisitName → List ℕ
name_text name = decimal name.server ++ 58 ∷ decimal name.packet

-- the words of a line: the first one, and those behind it
abbrev pub first_word : Event → List ℕ
first_word (event.Enter packet) = codes "enter"
first_word (event.Take link origin) = codes "take"
first_word (event.Apply server origin group packet) = codes "apply"
first_word (event.Visit server packet worker) = codes "visit"
first_word (event.Pass server origin) = codes "pass"
first_word (event.Lose server origin) = codes "lose"
first_word (event.Carry origin) = codes "carry"
first_word (event.Crash server) = codes "crash"
first_word (event.Recover server undone) = codes "recover"
first_word (event.Pull link) = codes "pull"
first_word (event.Propagate origin) = codes "propagate"
first_word (event.Release packet) = codes "release"

abbrev pub tail_list : Event → List (List ℕ)
tail_list (event.Enter packet) = decimal packet ∷ []
tail_list (event.Take link origin) = decimal link ∷ decimal origin ∷ []
tail_list (event.Apply server origin group packet) =
    decimal server ∷ decimal origin ∷ decimal group ∷ decimal packet ∷ []
tail_list (event.Visit server packet worker) = decimal server ∷ decimal packet ∷ decimal worker ∷ []
tail_list (event.Pass server origin) = decimal server ∷ decimal origin ∷ []
tail_list (event.Lose server origin) = decimal server ∷ decimal origin ∷ []
tail_list (event.Carry origin) = decimal origin ∷ []
tail_list (event.Crash server) = decimal server ∷ []
tail_list (event.Recover server undone) = decimal server ∷ map name_text undone
tail_list (event.Pull link) = decimal link ∷ []
tail_list (event.Propagate origin) = decimal origin ∷ []
tail_list (event.Release packet) = decimal packet ∷ []

abbrev pub word_list : Event → List (List ℕ)
word_list e = first_word e ∷ tail_list e

names_joined : (first : List ℕ) (undone : List VisitName) →
    first ++ flat_map spaced_name undone ≡ join_with_byte 32 (first ∷ map name_text undone)
names_joined first [] = append-nil first
names_joined first (name ∷ names) =
    let front : spaced_name name ≡ 32 ∷ name_text name =
    append_assoc (32 ∷ decimal name.server) (58 ∷ []) (decimal name.packet) in
    let later = names_joined (name_text name) names in
    ap (λ (more : List ℕ). first ++ (more ++ flat_map spaced_name names)) front ∙ ap (λ (more : List ℕ). first
    ++ 32 ∷ more) later

three : (w a b c : List ℕ) → ((w ++ 32 ∷ a) ++ 32 ∷ b) ++ 32 ∷ c ≡ w ++ 32 ∷ (a ++ 32 ∷ (b ++ 32 ∷ c))
three w a b c = append_assoc (w ++ 32 ∷ a) (32 ∷ b) (32 ∷ c) ∙ append_assoc w (32 ∷ a) (32 ∷ (b ++ 32 ∷ c))

four : (w a b c d : List ℕ) → (((w ++ 32 ∷ a) ++ 32 ∷ b) ++ 32 ∷ c) ++ 32 ∷ d ≡ w
    ++ 32 ∷ (a ++ 32 ∷ (b ++ 32 ∷ (c ++ 32 ∷ d)))
four w a b c d = append_assoc ((w ++ 32 ∷ a) ++ 32 ∷ b) (32 ∷ c) (32 ∷ d) ∙ three w a b (c ++ 32 ∷ d)

-- a line is its words with one space between them
pub words_joined : (e : Event) → words_of e ≡ join_with_byte 32 (word_list e)
unfolding words_of
words_joined (event.Enter packet) = refl
words_joined (event.Take link origin) = append_assoc (codes "take") (spaced link) (spaced origin)
words_joined (event.Apply server origin group packet) =
    four (codes "apply") (decimal server) (decimal origin) (decimal group) (decimal packet)
words_joined (event.Visit server packet worker) =
    three (codes "visit") (decimal server) (decimal packet) (decimal worker)
words_joined (event.Pass server origin) = append_assoc (codes "pass") (spaced server) (spaced origin)
words_joined (event.Lose server origin) = append_assoc (codes "lose") (spaced server) (spaced origin)
words_joined (event.Carry origin) = refl
words_joined (event.Crash server) = refl
words_joined (event.Recover server undone) =
    append_assoc (codes "recover") (spaced server) (flat_map spaced_name undone) ∙ ap
    (λ (more : List ℕ). codes "recover" ++ 32 ∷ more) (names_joined (decimal server) undone)
words_joined (event.Pull link) = refl
words_joined (event.Propagate origin) = refl
words_joined (event.Release packet) = refl

few_servers : (v : Version) (n : ℕ) → n < servers_of v → n ≤ 4294967295
few_servers version.First n less = omega arith
few_servers version.Second n less = omega arith

-- a separator below 48 stands in no number and in no name of a line
without_name : (v : Version) (separator : ℕ) (name : VisitName) → separator < 48 → IsVisitName v name →
    Without separator (name_text name)
without_name v separator name low is =
    without-append separator (decimal name.server) (58 ∷ decimal name.packet)
    (without_decimal separator name.server (inl low) (few_servers v name.server is.0)) (
      grind (arith, nat_tests),
      without_decimal separator name.packet (inl low) is.1,
    )

without_names : (v : Version) (separator : ℕ) (undone : List VisitName) → separator < 48 →
    AllByRecursion (IsVisitName v) undone → AllByRecursion (Without separator) (map name_text undone)
without_names v separator [] low all = tt
without_names v separator (name ∷ names) low all =
    (without_name v separator name low all.0, without_names v separator names low all.1)

without_tail : (v : Version) (separator : ℕ) (e : Event) → separator < 48 → IsEvent v e →
    AllByRecursion (Without separator) (tail_list e)
without_tail v separator (event.Enter packet) low is = (without_decimal separator packet (inl low) is, tt)
without_tail v separator (event.Take link origin) low is = (
  without_decimal separator link (inl low) (few_servers v link is.0),
  (without_decimal separator origin (inl low) is.1, tt),
)
without_tail v separator (event.Apply server origin group packet) low is = (
  without_decimal separator server (inl low) (few_servers v server is.0),
  (
    without_decimal separator origin (inl low) is.1,
    (
      without_decimal separator group (inl low) (few_servers v group is.2),
      (without_decimal separator packet (inl low) is.3, tt),
    ),
  ),
)
without_tail v separator (event.Visit server packet worker) low is =
    let slot = is.2 in (
      without_decimal separator server (inl low) (few_servers v server is.0),
      (
        without_decimal separator packet (inl low) is.1,
        (without_decimal separator worker (inl low) (omega arith), tt),
      ),
    )
without_tail v separator (event.Pass server origin) low is = (
  without_decimal separator server (inl low) (few_servers v server is.0),
  (without_decimal separator origin (inl low) is.1, tt),
)
without_tail v separator (event.Lose server origin) low is = (
  without_decimal separator server (inl low) (few_servers v server is.0),
  (without_decimal separator origin (inl low) is.1, tt),
)
without_tail v separator (event.Carry origin) low is = (without_decimal separator origin (inl low) is, tt)
without_tail v separator (event.Crash server) low is =
    (without_decimal separator server (inl low) (few_servers v server is), tt)
without_tail v separator (event.Recover server undone) low is = (
  without_decimal separator server (inl low) (few_servers v server is.0),
  without_names v separator undone low is.1,
)
without_tail v separator (event.Pull link) low is =
    (without_decimal separator link (inl low) (few_servers v link is), tt)
without_tail v separator (event.Propagate origin) low is = (without_decimal separator origin (inl low) is, tt)
without_tail v separator (event.Release packet) low is = (without_decimal separator packet (inl low) is, tt)

-- a first word has no byte below 48
first_high : (e : Event) → list_all (nat_le 48) (first_word e) ≡ true
first_high (event.Enter packet) = refl
first_high (event.Take link origin) = refl
first_high (event.Apply server origin group packet) = refl
first_high (event.Visit server packet worker) = refl
first_high (event.Pass server origin) = refl
first_high (event.Lose server origin) = refl
first_high (event.Carry origin) = refl
first_high (event.Crash server) = refl
first_high (event.Recover server undone) = refl
first_high (event.Pull link) = refl
first_high (event.Propagate origin) = refl
first_high (event.Release packet) = refl

without_high : (separator : ℕ) (word : List ℕ) → separator < 48 → list_all (nat_le 48) word ≡ true →
    Without separator word
without_high separator [] low high = tt
without_high separator (b ∷ bs) low high =
    let split = and_parts (nat_le 48 b) (list_all (nat_le 48) bs) high in
    (grind (arith, nat_tests, split.0), without_high separator bs low split.1)

without_words : (v : Version) (separator : ℕ) (e : Event) → separator < 48 → IsEvent v e →
    AllByRecursion (Without separator) (word_list e)
without_words v separator e low is =
    (without_high separator (first_word e) low (first_high e), without_tail v separator e low is)

pub without_feed : (v : Version) (e : Event) → IsEvent v e → Without 10 (words_of e)
without_feed v e is =
    rw (words_joined e) (without-join 10 32 (word_list e) refl (without_words v 10 e (omega arith) is))

pub words_found : (v : Version) (e : Event) → IsEvent v e → parts_of 32 (words_of e) ≡ word_list e
words_found v e is =
    ap (parts_of 32) (words_joined e)
    ∙ parts_of-join 32 (first_word e) (tail_list e) refl (without_words v 32 e (omega arith) is)

-- names are read again
abbrev figures_in : VisitName → NameFigures
figures_in name = record { server = Some name.server; packet = Some name.packet }

colon_apart : (48 ≤ 58) × ((57 < 58))
colon_apart = (omega arith, omega arith)

name_again : (v : Version) (name : VisitName) → IsVisitName v name →
    name_of (parts_of 58 (name_text name)) ≡ Ok (figures_in name)
name_again v name is =
    let small = few_servers v name.server is.0 in
    let parts : parts_of 58 (name_text name) ≡ decimal name.server ∷ decimal name.packet ∷ [] =
    parts_of-part 58 (decimal name.server) (decimal name.packet) refl
    (without_decimal 58 name.server (inr colon_apart.1) small) ∙ ap (λ (ps : List (List ℕ)). decimal name.server
    ∷ ps) (parts_of-last 58 (decimal name.packet) (without_decimal 58 name.packet (inr colon_apart.1) is.1)) in
    rw (parts, figure_of-decimal name.server small, figure_of-decimal name.packet is.1) refl

names_again : (v : Version) (undone : List VisitName) → AllByRecursion (IsVisitName v) undone →
    names_of (map name_text undone) ≡ Ok (map figures_in undone)
names_again v [] all = refl
names_again v (name ∷ names) all = rw (name_again v name all.0, names_again v names all.1) refl

pub below_again : (bound n : ℕ) → n < bound → below bound (Some n) ≡ Ok n
below_again bound n less = let within : nat_lt n bound ≡ true = search rules in rw within refl

undone_again : (v : Version) (undone : List VisitName) → AllByRecursion (IsVisitName v) undone →
    undone_in v (map figures_in undone) ≡ Ok undone
undone_again v [] all = refl
undone_again v (name ∷ names) all = rw (below_again (servers_of v) name.server all.0.0, undone_again v names all.1) refl

-- the words of a line say its event
pub event_again : (v : Version) (e : Event) → IsEvent v e → event_of v (word_list e) ≡ Ok e
event_again v (event.Enter packet) is = rw (figure_of-decimal packet is) refl
event_again v (event.Take link origin) is =
    rw (
      figure_of-decimal link (few_servers v link is.0),
      figure_of-decimal origin is.1,
      below_again (servers_of v) link is.0,
    ) refl
event_again v (event.Apply server origin group packet) is =
    rw (
      figure_of-decimal server (few_servers v server is.0),
      figure_of-decimal origin is.1,
      figure_of-decimal group (few_servers v group is.2),
      figure_of-decimal packet is.3,
      below_again (servers_of v) server is.0,
      below_again (servers_of v) group is.2,
    ) refl
event_again v (event.Visit server packet worker) is =
    let slot = is.2 in
    rw (
      figure_of-decimal server (few_servers v server is.0),
      figure_of-decimal packet is.1,
      figure_of-decimal worker (omega arith),
      below_again (servers_of v) server is.0,
      below_again MOST_SLOTS worker is.2,
    ) refl
event_again v (event.Pass server origin) is =
    rw (
      figure_of-decimal server (few_servers v server is.0),
      figure_of-decimal origin is.1,
      below_again (servers_of v) server is.0,
    ) refl
event_again v (event.Lose server origin) is =
    rw (
      figure_of-decimal server (few_servers v server is.0),
      figure_of-decimal origin is.1,
      below_again (servers_of v) server is.0,
    ) refl
event_again v (event.Carry origin) is = rw (figure_of-decimal origin is) refl
event_again v (event.Crash server) is =
    rw (figure_of-decimal server (few_servers v server is), below_again (servers_of v) server is) refl
event_again v (event.Recover server undone) is =
    rw (
      figure_of-decimal server (few_servers v server is.0),
      names_again v undone is.1,
      below_again (servers_of v) server is.0,
      undone_again v undone is.1,
    ) refl
event_again v (event.Pull link) is =
    rw (figure_of-decimal link (few_servers v link is), below_again (servers_of v) link is) refl
event_again v (event.Propagate origin) is = rw (figure_of-decimal origin is) refl
event_again v (event.Release packet) is = rw (figure_of-decimal packet is) refl

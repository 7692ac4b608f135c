-- Words with the form of a line are read or refused for a bound, and all others are refused for their words.
use Rattle.std.proofs.Common.{◌≡◌, ◌≢◌, ℕ, true, false, List, [], ◌∷◌, length, refl, sym, ap, subst, ◌∙◌}
use Rattle.std.proofs.Common.{arith, Ok, Err, Option, Some, None, Result, inl, inr, if◌then◌else◌}
use Rattle.std.specs.Prelude.{codes, nat_le, not, ◌==◌}
use Rattle.std.specs.List.{AllByRecursion, Contains, join_with_byte, list_all}
use Rattle.std.proofs.lemmas.Bool.Decides.{nat_tests}
use Rattle.std.proofs.lemmas.List.Elements.{All-contains, All-from_recursion}
use Rattle.std.proofs.lemmas.List.Splits.{join_with_byte-slice_split}
use Rattle.std.proofs.lemmas.Bool.{and_parts}
use Rattle.ftc_base.specs.Endpoint.{parts_of}
use Rattle.ftc_base.specs.Number.{is_digit, is_numeral, decimal_from}
use Rattle.ftc_base.specs.Reading.{◌>>=◌}
use Rattle.ftc_base.specs.declared.lexer.Lexical.TheVariants.{NotNumber, TooLarge}
use Rattle.ftc_base.proofs.Separated.{Without, parts_of-part, parts_of-last}
use Rattle.ftc_base.specs.declared.limits.TheConstants.{MOST_NUMBER}
use Rattle.ftc_base.proofs.Results.{both_ok}
use Rattle.ftc_journal.specs.declared.event.Event.{Event}
use Rattle.ftc_journal.specs.declared.fault.JournalCause.{JournalCause}
use Rattle.ftc_journal.specs.declared.fault.JournalCause.TheVariants.{Header, Word, Range, Cut}
use Rattle.ftc_journal.specs.declared.form.Version.{Version}
use Rattle.ftc_journal.specs.declared.form.Single.{Single}
use Rattle.ftc_journal.specs.declared.form.Single.TheVariants as single
use Rattle.ftc_journal.specs.declared.form.Double.{Double}
use Rattle.ftc_journal.specs.declared.form.Double.TheVariants as double
use Rattle.ftc_journal.specs.declared.form.Form.{Form}
use Rattle.ftc_journal.specs.declared.form.Form.TheVariants as form
use Rattle.ftc_journal.specs.Text.{words_of}
use Rattle.ftc_journal.specs.Reading.{as_figure, figure_of, figures_of, name_of, names_of}
use Rattle.ftc_journal.specs.Reading.{form_of, single_in, double_in, visit_in, apply_in}
use Rattle.ftc_journal.specs.Reading.{single_of, double_of, visit_of, apply_of, recovery, recover_of}
use Rattle.ftc_journal.specs.Reading.{said_in, said_by, event_of}
use Rattle.ftc_journal.specs.Spelling.{IsEvent}
use Rattle.ftc_journal.specs.Formed.{numbered_words, IsNumeral, IsName, IsFormed}
use Rattle.ftc_journal.specs.Faulty.{IsLineFault}
use Rattle.ftc_journal.proofs.Fits.{IsFit, single_fit, double_fit, visit_fit, apply_fit, recovery_fit}
use Rattle.ftc_journal.proofs.Words.{words_found, event_again}
use Rattle.ftc_journal.proofs.Spelled.{form_word, form_known, line_spelled}

-- what a reading tells of words: they are right where it gives a value, and wrong where it is refused for them; and
-- what it tells where it is refused for a bound
abbrev Tells : {A : Type 0} → Type 0 → Type 0 → Result A JournalCause → Type 0
Tells bound right (Ok value) = right
Tells bound right (Err Word) = ¬ right
Tells bound right (Err Range) = bound
Tells bound right (Err other) = ⊥

-- words that are right are read or refused for a bound, and wrong ones are refused
abbrev Sorts : {A : Type 0} → Type 0 → Result A JournalCause → Type 0
Sorts right read = Tells right right read

told_as : {A : Type 0} (bound other P Q : Type 0) (read : Result A JournalCause) → (bound → other) → (P → Q) →
    (Q → P) → Tells bound P read → Tells other Q read
told_as bound other P Q (Ok value) within to from told = to told
told_as bound other P Q (Err Word) within to from told = λ is. told (from is)
told_as bound other P Q (Err Range) within to from told = within told
told_as bound other P Q (Err cause) within to from told = told

-- one reading, and then another
then_told : {A B : Type 0} (bound P Q : Type 0) (first : Result A JournalCause) (next : A → Result B JournalCause) →
    Tells ⊥ P first → (Q → P) → ((a : A) → first ≡ Ok a → P → Tells bound Q (next a)) → Tells bound Q (first >>= next)
then_told bound P Q (Ok a) next told needs more = more a refl told
then_told bound P Q (Err Word) next told needs more = λ is. told (needs is)
then_told bound P Q (Err cause) next told needs more = absurd told

both_told : {A B C : Type 0} (bound P Q : Type 0) (first : Result A JournalCause) (second : Result B JournalCause)
    (next : A → B → Result C JournalCause) → Tells ⊥ P first → Tells ⊥ Q second →
    ((a : A) (b : B) → P × Q → Tells bound (P × Q) (next a b)) →
    Tells bound (P × Q) (first >>= λ a. second >>= λ b. next a b)
both_told bound P Q first second next told later more =
    then_told bound P (P × Q) first (λ a. second >>= λ b. next a b) told (λ is. is.0) (λ a read one.
    then_told bound Q (P × Q) second (next a) later (λ is. is.1) (λ b also other. more a b (one, other)))

-- numerals
figure_told : (word : List ℕ) → Tells ⊥ (IsNumeral word) (figure_of word)
figure_told word =
    elim (is_numeral word) as (λ t. Tells ⊥ (t ≡ true) (as_figure (if t
    then (if nat_le (decimal_from 0 word) MOST_NUMBER then Ok (decimal_from 0 word) else Err TooLarge)
    else Err NotNumber))) [
      | true ↦ elim (nat_le (decimal_from 0 word) MOST_NUMBER) as (λ t. Tells ⊥ (true ≡ true)
          (as_figure (if t then Ok (decimal_from 0 word) else Err TooLarge))) [ true ↦ refl | false ↦ refl ]
      | false ↦ λ is. cc
    ]

figures_told : (words : List (List ℕ)) → Tells ⊥ (AllByRecursion IsNumeral words) (figures_of words)
figures_told [] = tt
figures_told (word ∷ words) =
    both_told ⊥ (IsNumeral word) (AllByRecursion IsNumeral words) (figure_of word) (figures_of words)
    (λ figure figures. Ok (figure ∷ figures)) (figure_told word) (figures_told words) (λ a b is. is)

figures_counted : (words : List (List ℕ)) (figures : List (Option ℕ)) → figures_of words ≡ Ok figures →
    length words ≡ length figures
figures_counted [] figures e = let none : [] ≡ figures = cc in ap length none
figures_counted (word ∷ words) figures e =
    let one = both_ok (figure_of word) (λ figure. figures_of words >>= λ figures. Ok (figure ∷ figures)) figures e in
    let two = both_ok (figures_of words) (λ figures. Ok (one.0 ∷ figures)) figures one.2 in
    let made = two.2 in
    let same : one.0 ∷ two.0 ≡ figures = cc in
    let size = ap length same in
    let later = figures_counted words two.0 two.1 in
    omega arith

-- names
digits_without : (ds : List ℕ) → list_all is_digit ds ≡ true → Without 58 ds
digits_without [] all = tt
digits_without (d ∷ ds) all =
    let split = and_parts (is_digit d) (list_all is_digit ds) all in
    let bounds = and_parts (nat_le 48 d) (nat_le d 57) split.0 in
    (grind (arith, nat_tests, bounds.1), digits_without ds split.1)

numeral_without : (word : List ℕ) → IsNumeral word → Without 58 word
numeral_without [] is = tt
numeral_without (d ∷ []) is = digits_without (d ∷ []) (rw is refl)
numeral_without (d ∷ c ∷ ds) is =
    digits_without (d ∷ c ∷ ds) (and_parts (not (d == 48)) (list_all is_digit (d ∷ c ∷ ds)) is).1

name_parts : (word : List ℕ) (is : IsName word) → parts_of 58 word ≡ is.server ∷ is.packet ∷ []
name_parts word is =
    ap (parts_of 58) is.spelled ∙ parts_of-part 58 is.server is.packet refl
    (numeral_without is.server is.server_numeral) ∙ ap (λ (parts : List (List ℕ)). is.server ∷ parts)
    (parts_of-last 58 is.packet (numeral_without is.packet is.packet_numeral))

parts_told : (word : List ℕ) (parts : List (List ℕ)) → parts_of 58 word ≡ parts → Tells ⊥ (IsName word) (name_of parts)
parts_told word [] found = λ is. let two = sym found ∙ name_parts word is in cc
parts_told word (j ∷ []) found = λ is. let two = sym found ∙ name_parts word is in cc
parts_told word (j ∷ p ∷ []) found =
    told_as ⊥ ⊥ (IsNumeral j × IsNumeral p) (IsName word) (name_of (j ∷ p ∷ [])) (λ never. never)
    (λ is. record {
      server = j;
      packet = p;
      spelled = sym (join_with_byte-slice_split 58 word) ∙ ap (join_with_byte 58) found;
      server_numeral = is.0;
      packet_numeral = is.1;
    })
    (λ is.
    let two = sym (name_parts word is) ∙ found in
    let server : is.server ≡ j = cc in
    let packet : is.packet ≡ p = cc in
    (subst IsNumeral server is.server_numeral, subst IsNumeral packet is.packet_numeral))
    (both_told ⊥ (IsNumeral j) (IsNumeral p) (figure_of j) (figure_of p)
    (λ s q. Ok (record { server = s; packet = q })) (figure_told j) (figure_told p) (λ a b is. is))
parts_told word (j ∷ p ∷ q ∷ more) found = λ is. let two = sym found ∙ name_parts word is in cc

names_told : (words : List (List ℕ)) → Tells ⊥ (AllByRecursion IsName words) (names_of words)
names_told [] = tt
names_told (word ∷ words) =
    both_told ⊥ (IsName word) (AllByRecursion IsName words) (name_of (parts_of 58 word)) (names_of words)
    (λ name names. Ok (name ∷ names)) (parts_told word (parts_of 58 word) refl) (names_told words) (λ a b is. is)

fit_told : {A : Type 0} (P : Type 0) (read : Result A JournalCause) → IsFit read → P → Sorts P read
fit_told P (Ok value) fit is = is
fit_told P (Err Range) fit is = is
fit_told P (Err cause) fit is = absurd fit

-- a form has just so many numbers
single_told : (v : Version) (kind : Single) (figures : List (Option ℕ)) →
    Sorts (1 ≡ length figures) (single_of v kind figures)
single_told v kind [] = λ is. omega arith
single_told v kind (a ∷ []) = fit_told (1 ≡ 1) (single_in v kind a) (single_fit v kind a) refl
single_told v kind (a ∷ b ∷ more) = λ is. omega arith

double_told : (v : Version) (kind : Double) (figures : List (Option ℕ)) →
    Sorts (2 ≡ length figures) (double_of v kind figures)
double_told v kind [] = λ is. omega arith
double_told v kind (a ∷ []) = λ is. omega arith
double_told v kind (a ∷ b ∷ []) = fit_told (2 ≡ 2) (double_in v kind a b) (double_fit v kind a b) refl
double_told v kind (a ∷ b ∷ c ∷ more) = λ is. omega arith

visit_told : (v : Version) (figures : List (Option ℕ)) →
    Sorts (3 ≡ length figures) (visit_of v figures)
visit_told v [] = λ is. omega arith
visit_told v (a ∷ []) = λ is. omega arith
visit_told v (a ∷ b ∷ []) = λ is. omega arith
visit_told v (a ∷ b ∷ c ∷ []) = fit_told (3 ≡ 3) (visit_in v a b c) (visit_fit v a b c) refl
visit_told v (a ∷ b ∷ c ∷ d ∷ more) = λ is. omega arith

apply_told : (v : Version) (figures : List (Option ℕ)) →
    Sorts (4 ≡ length figures) (apply_of v figures)
apply_told v [] = λ is. omega arith
apply_told v (a ∷ []) = λ is. omega arith
apply_told v (a ∷ b ∷ []) = λ is. omega arith
apply_told v (a ∷ b ∷ c ∷ []) = λ is. omega arith
apply_told v (a ∷ b ∷ c ∷ d ∷ []) = fit_told (4 ≡ 4) (apply_in v a b c d) (apply_fit v a b c d) refl
apply_told v (a ∷ b ∷ c ∷ d ∷ e ∷ more) = λ is. omega arith

-- what stands behind the first word of a form
abbrev IsCounted : ℕ → List (List ℕ) → Type 0
IsCounted count words = (count ≡ length words) × AllByRecursion IsNumeral words

abbrev IsShaped : Form → List (List ℕ) → Type 0
IsShaped (form.Single kind) words = IsCounted 1 words
IsShaped (form.Double kind) words = IsCounted 2 words
IsShaped form.Visit words = IsCounted 3 words
IsShaped form.Apply words = IsCounted 4 words
IsShaped form.Recover [] = ⊥
IsShaped form.Recover (server ∷ names) = IsNumeral server × AllByRecursion IsName names

counted_told : (count : ℕ) (words : List (List ℕ)) (next : List (Option ℕ) → Result Event JournalCause) →
    ((figures : List (Option ℕ)) → Sorts (count ≡ length figures) (next figures)) →
    Sorts (IsCounted count words) (figures_of words >>= next)
counted_told count words next more =
    then_told (IsCounted count words) (AllByRecursion IsNumeral words) (IsCounted count words) (figures_of words) next
    (figures_told words) (λ is. is.1) (λ figures read all.
    let same = figures_counted words figures read in
    told_as (count ≡ length figures) (IsCounted count words) (count ≡ length figures) (IsCounted count words)
    (next figures) (λ is. (is ∙ sym same, all)) (λ is. (is ∙ sym same, all)) (λ is. is.0 ∙ same) (more figures))

recover_told : (v : Version) (words : List (List ℕ)) →
    Sorts (IsShaped form.Recover words) (recover_of v words)
recover_told v [] = λ is. is
recover_told v (server ∷ names) =
    both_told (IsNumeral server × AllByRecursion IsName names) (IsNumeral server) (AllByRecursion IsName names)
    (figure_of server) (names_of names) (recovery v) (figure_told server) (names_told names) (λ figure undone is.
    fit_told (IsNumeral server × AllByRecursion IsName names) (recovery v figure undone)
    (recovery_fit v figure undone) is)

said_told : (v : Version) (f : Form) (words : List (List ℕ)) →
    Sorts (IsShaped f words) (said_in v f words)
said_told v (form.Single kind) words = counted_told 1 words (single_of v kind) (single_told v kind)
said_told v (form.Double kind) words = counted_told 2 words (double_of v kind) (double_told v kind)
said_told v form.Visit words = counted_told 3 words (visit_of v) (visit_told v)
said_told v form.Apply words = counted_told 4 words (apply_of v) (apply_told v)
said_told v form.Recover words = recover_told v words

-- the words of the table are those of the forms
formed_by : (first : List ℕ) (count : ℕ) (words : List (List ℕ)) → Contains numbered_words (first, count) →
    IsCounted count words → IsFormed (first ∷ words)
formed_by first count words there is =
    inl (subst (λ (n : ℕ). Contains numbered_words (first, n)) is.0 there, is.1)

formed : (f : Form) (words : List (List ℕ)) → IsShaped f words → IsFormed (form_word f ∷ words)
formed (form.Single single.Enter) words is = formed_by (codes "enter") 1 words (0, omega arith, refl) is
formed (form.Single single.Carry) words is = formed_by (codes "carry") 1 words (1, omega arith, refl) is
formed (form.Single single.Crash) words is = formed_by (codes "crash") 1 words (2, omega arith, refl) is
formed (form.Single single.Pull) words is = formed_by (codes "pull") 1 words (3, omega arith, refl) is
formed (form.Single single.Propagate) words is = formed_by (codes "propagate") 1 words (4, omega arith, refl) is
formed (form.Single single.Release) words is = formed_by (codes "release") 1 words (5, omega arith, refl) is
formed (form.Double double.Take) words is = formed_by (codes "take") 2 words (6, omega arith, refl) is
formed (form.Double double.Pass) words is = formed_by (codes "pass") 2 words (7, omega arith, refl) is
formed (form.Double double.Lose) words is = formed_by (codes "lose") 2 words (8, omega arith, refl) is
formed form.Visit words is = formed_by (codes "visit") 3 words (9, omega arith, refl) is
formed form.Apply words is = formed_by (codes "apply") 4 words (10, omega arith, refl) is
formed form.Recover [] is = absurd is
formed form.Recover (server ∷ names) is = inr (refl, is.0, is.1)

-- the first word tells a form that has such words behind it
abbrev IsOfForm : List ℕ × ℕ → Type 0
IsOfForm entry =
    (f : Form) × (form_of entry.0 ≡ Some f) × ((words : List (List ℕ)) → IsCounted entry.1 words → IsShaped f words)

of_single : (kind : Single) → IsOfForm (form_word (form.Single kind), 1)
of_single single.Enter = (form.Single single.Enter, refl, λ words is. is)
of_single single.Carry = (form.Single single.Carry, refl, λ words is. is)
of_single single.Crash = (form.Single single.Crash, refl, λ words is. is)
of_single single.Pull = (form.Single single.Pull, refl, λ words is. is)
of_single single.Propagate = (form.Single single.Propagate, refl, λ words is. is)
of_single single.Release = (form.Single single.Release, refl, λ words is. is)

of_double : (kind : Double) → IsOfForm (form_word (form.Double kind), 2)
of_double double.Take = (form.Double double.Take, refl, λ words is. is)
of_double double.Pass = (form.Double double.Pass, refl, λ words is. is)
of_double double.Lose = (form.Double double.Lose, refl, λ words is. is)

infixr 10 ◌&◌
◌&◌ : {P Q : Type 0} → P → Q → P × Q
one & more = (one, more)

all_forms : AllByRecursion IsOfForm numbered_words
all_forms =
    of_single single.Enter & of_single single.Carry & of_single single.Crash & of_single single.Pull
    & of_single single.Propagate & of_single single.Release & of_double double.Take & of_double double.Pass
    & of_double double.Lose & (form.Visit, refl, λ words is. is) & (form.Apply, refl, λ words is. is) & tt

form_found : (first : List ℕ) (words : List (List ℕ)) → IsFormed (first ∷ words) →
    (f : Form) × (form_of first ≡ Some f) × IsShaped f words
form_found first words (inl is) =
    let of = All-contains IsOfForm numbered_words (first, length words)
    (All-from_recursion IsOfForm numbered_words all_forms) is.0 in
    (of.0, of.1, of.2 words (refl, is.1))
form_found first [] (inr is) = absurd is
form_found first (server ∷ names) (inr is) = (form.Recover, ap form_of is.0, (is.1, is.2))

by_form_told : (v : Version) (first : List ℕ) (words : List (List ℕ)) (r : Option Form) → form_of first ≡ r →
    Sorts (IsFormed (first ∷ words)) (said_by v r words)
by_form_told v first words None e = λ is. let found = form_found first words is in let other = found.1 in cc
by_form_told v first words (Some f) e =
    let to : IsShaped f words → IsFormed (first ∷ words) = λ is.
    subst (λ (word : List ℕ). IsFormed (word ∷ words)) (sym (form_known first f e)) (formed f words is) in
    told_as (IsShaped f words) (IsFormed (first ∷ words)) (IsShaped f words) (IsFormed (first ∷ words))
    (said_in v f words) to to (λ is.
    let found = form_found first words is in
    let other = found.1 in
    let same : found.0 ≡ f = cc in
    subst (λ (g : Form). IsShaped g words) same found.2) (said_told v f words)

event_told : (v : Version) (words : List (List ℕ)) → Sorts (IsFormed words) (event_of v words)
event_told v [] = λ is. is
event_told v (first ∷ words) = by_form_told v first words (form_of first) refl

-- so a line is refused for its fault
cause_told : (v : Version) (line : List ℕ) (cause : JournalCause) →
    Sorts {A = Event} (IsFormed (parts_of 32 line)) (Err cause) →
    ((e : Event) → IsEvent v e → line ≢ words_of e) → IsLineFault v line cause
cause_told v line Word told none = told
cause_told v line Range told none = (told, none)
cause_told v line Header told none = told
cause_told v line Cut told none = told

pub line_refused : (v : Version) (line : List ℕ) (cause : JournalCause) → event_of v (parts_of 32 line) ≡ Err cause →
    IsLineFault v line cause
line_refused v line cause e =
    cause_told v line cause
    (subst (Sorts (IsFormed (parts_of 32 line))) e (event_told v (parts_of 32 line)))
    (λ x is same.
    let said = ap (λ (l : List ℕ). event_of v (parts_of 32 l)) same ∙ ap (event_of v) (words_found v x is)
    ∙ event_again v x is in
    cc)

-- and the other way round
told_again : (v : Version) (line : List ℕ) (cause : JournalCause) (read : Result Event JournalCause) →
    event_of v (parts_of 32 line) ≡ read → Sorts (IsFormed (parts_of 32 line)) read →
    IsLineFault v line cause → read ≡ Err cause
told_again v line Word (Ok x) e told is = absurd (is told)
told_again v line Word (Err Word) e told is = refl
told_again v line Word (Err Range) e told is = absurd (is told)
told_again v line Word (Err other) e told is = absurd told
told_again v line Range (Ok x) e told is = let said = line_spelled v line x e in absurd (is.1 x said.1 said.0)
told_again v line Range (Err Word) e told is = absurd (told is.0)
told_again v line Range (Err Range) e told is = refl
told_again v line Range (Err other) e told is = absurd told
told_again v line other read e told is = absurd is

pub refused_again : (v : Version) (line : List ℕ) (cause : JournalCause) → IsLineFault v line cause →
    event_of v (parts_of 32 line) ≡ Err cause
refused_again v line cause is =
    told_again v line cause (event_of v (parts_of 32 line)) refl (event_told v (parts_of 32 line)) is

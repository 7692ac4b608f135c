-- A text that is accepted is a spelling of what was read.
use Rattle.std.proofs.Common.{◌≡◌, ◌≤◌, ◌<◌, ℕ, ◌+◌, true, false, List, [], ◌∷◌, ◌++◌, refl, sym, ap, subst, ◌∙◌, rules}
use Rattle.std.proofs.Common.{Ok, Err, Option, Some, None, Result, ◌⊎◌, inl, inr, append_assoc, if◌then◌else◌}
use Rattle.std.specs.Prelude.{codes, decimal, map}
use Rattle.std.specs.Str.{bytes_eq}
use Rattle.std.specs.List.{AllByRecursion, join_with_byte, flat_map}
use Rattle.std.proofs.lemmas.List.Splits.{join_with_byte-slice_split}
use Rattle.std.proofs.lemmas.Slice.Eq.{bytes_eq-Decides}
use Rattle.ftc_base.specs.Endpoint.{parts_of}
use Rattle.ftc_base.specs.declared.limits.TheConstants.{MOST_SLOTS, MOST_NUMBER}
use Rattle.ftc_journal.specs.declared.event.Event.{Event}
use Rattle.ftc_journal.specs.declared.event.Event.TheVariants as event
use Rattle.ftc_journal.specs.declared.event.VisitName.{VisitName}
use Rattle.ftc_journal.specs.declared.fault.JournalCause.{JournalCause}
use Rattle.ftc_journal.specs.declared.numerals.NameFigures.{NameFigures}
use Rattle.ftc_journal.specs.declared.form.Version.{Version}
use Rattle.ftc_journal.specs.declared.form.Version.TheVariants as version
use Rattle.ftc_journal.specs.declared.form.Single.{Single}
use Rattle.ftc_journal.specs.declared.form.Single.TheVariants as single
use Rattle.ftc_journal.specs.declared.form.Double.{Double}
use Rattle.ftc_journal.specs.declared.form.Double.TheVariants as double
use Rattle.ftc_journal.specs.declared.form.Form.{Form}
use Rattle.ftc_journal.specs.declared.form.Form.TheVariants as form
use Rattle.ftc_journal.specs.Text.{words_of, line_of}
use Rattle.ftc_base.specs.Reading.{◌>>=◌}
use Rattle.ftc_base.proofs.Results.{both_ok}
use Rattle.ftc_journal.specs.Reading.{version_of, figure_of, figures_of, name_of, names_of}
use Rattle.ftc_journal.specs.Reading.{number_in, server_in, slot_in, name_in, undone_in, form_of, single_in}
use Rattle.ftc_journal.specs.Reading.{double_event, single_of, double_of, visit_of, apply_of, recovery, recover_of}
use Rattle.ftc_journal.specs.Reading.{said_in, said_by, event_of, placed, ended, events_from, lines_behind}
use Rattle.ftc_journal.specs.Reading.{journal_from, journal_of}
use Rattle.ftc_journal.specs.Spelling.{IsEvent, IsVisitName, IsSpelling, header_of, servers_of}
use Rattle.ftc_journal.proofs.Letters.{number_word, below_word}
use Rattle.ftc_journal.proofs.Words.{name_text, word_list, words_joined}

-- an event is read
abbrev read_as : Event → Result Event JournalCause
read_as e = Ok e

-- the figures of words
figures_none : (words : List (List ℕ)) → figures_of words ≡ Ok [] → words ≡ []
figures_none [] e = refl
figures_none (word ∷ words) e =
    let one = both_ok (figure_of word) (λ figure. figures_of words >>= λ figures. Ok (figure ∷ figures)) [] e in
    let two = both_ok (figures_of words) (λ figures. Ok (one.0 ∷ figures)) [] one.2 in
    absurd (let bad = two.2 in cc)

figures_some : (words : List (List ℕ)) (a : Option ℕ) (more : List (Option ℕ)) → figures_of words ≡ Ok (a ∷ more) →
    (word : List ℕ) × (rest : List (List ℕ)) × (words ≡ word ∷ rest) × (figure_of word ≡ Ok a)
    × (figures_of rest ≡ Ok more)
figures_some [] a more e = absurd cc
figures_some (word ∷ words) a more e =
    let one = both_ok (figure_of word) (λ figure. figures_of words >>= λ figures. Ok (figure ∷ figures)) (a ∷ more) e in
    let two = both_ok (figures_of words) (λ figures. Ok (one.0 ∷ figures)) (a ∷ more) one.2 in
    let last = two.2 in
    let first : one.0 ≡ a = cc in
    let later : two.0 ≡ more = cc in
    (word, words, refl, one.1 ∙ ap Ok first, two.1 ∙ ap Ok later)

-- the word of a form
abbrev pub form_word : Form → List ℕ
form_word (form.Single single.Enter) = codes "enter"
form_word (form.Single single.Carry) = codes "carry"
form_word (form.Single single.Crash) = codes "crash"
form_word (form.Single single.Pull) = codes "pull"
form_word (form.Single single.Propagate) = codes "propagate"
form_word (form.Single single.Release) = codes "release"
form_word (form.Double double.Take) = codes "take"
form_word (form.Double double.Pass) = codes "pass"
form_word (form.Double double.Lose) = codes "lose"
form_word form.Visit = codes "visit"
form_word form.Apply = codes "apply"
form_word form.Recover = codes "recover"

-- an event is said by the word of a form and these words
record IsSaid (v : Version) (f : Form) (words : List (List ℕ)) (e : Event) : Type 0 where
  pub spelled : form_word f ∷ words ≡ word_list e
  pub bounds : IsEvent v e

said_same : (v : Version) (f : Form) (words : List (List ℕ)) (a b : Event) → IsSaid v f words a → read_as a ≡ Ok b →
    IsSaid v f words b
said_same v f words a b is e = let same : a ≡ b = cc in subst (IsSaid v f words) same is

-- one number
abbrev single_event : Single → ℕ → Event
single_event single.Enter n = event.Enter n
single_event single.Carry n = event.Carry n
single_event single.Crash n = event.Crash n
single_event single.Pull n = event.Pull n
single_event single.Propagate n = event.Propagate n
single_event single.Release n = event.Release n

single_words : (kind : Single) (n : ℕ) → form_word (form.Single kind) ∷ decimal n ∷ [] ≡ word_list (single_event kind n)
single_words single.Enter n = refl
single_words single.Carry n = refl
single_words single.Crash n = refl
single_words single.Pull n = refl
single_words single.Propagate n = refl
single_words single.Release n = refl

-- where a reading gives the number that the word spells, in its bounds
one_said : (v : Version) (kind : Single) (words : List (List ℕ)) (w : List ℕ) (e : Event)
    (reading : Result ℕ JournalCause) → words ≡ w ∷ [] →
    ((n : ℕ) → reading ≡ Ok n → (w ≡ decimal n) × IsEvent v (single_event kind n)) →
    (reading >>= λ n. Ok (single_event kind n)) ≡ Ok e → IsSaid v (form.Single kind) words e
one_said v kind words w e reading is spells said =
    let n = both_ok reading (λ n. Ok (single_event kind n)) e said in
    let word = spells n.0 n.1 in
    said_same v (form.Single kind) words (single_event kind n.0) e (record {
      spelled = ap (λ (ws : List (List ℕ)). form_word (form.Single kind) ∷ ws) (is ∙ ap (λ (x : List ℕ). x ∷ []) word.0)
          ∙ single_words kind n.0;
      bounds = word.1;
    }) n.2

single_said : (v : Version) (kind : Single) (words : List (List ℕ)) (w : List ℕ) (a : Option ℕ) (e : Event) →
    words ≡ w ∷ [] → figure_of w ≡ Ok a → single_in v kind a ≡ Ok e → IsSaid v (form.Single kind) words e
single_said v single.Enter words w a e is read said =
    one_said v single.Enter words w e (number_in a) is (λ n. number_word w a n read) said
single_said v single.Carry words w a e is read said =
    one_said v single.Carry words w e (number_in a) is (λ n. number_word w a n read) said
single_said v single.Crash words w a e is read said =
    one_said v single.Crash words w e (server_in v a) is (λ n. below_word w a (servers_of v) n read) said
single_said v single.Pull words w a e is read said =
    one_said v single.Pull words w e (server_in v a) is (λ n. below_word w a (servers_of v) n read) said
single_said v single.Propagate words w a e is read said =
    one_said v single.Propagate words w e (number_in a) is (λ n. number_word w a n read) said
single_said v single.Release words w a e is read said =
    one_said v single.Release words w e (number_in a) is (λ n. number_word w a n read) said

single_figures : (v : Version) (kind : Single) (words : List (List ℕ)) (figures : List (Option ℕ)) (e : Event) →
    figures_of words ≡ Ok figures → single_of v kind figures ≡ Ok e → IsSaid v (form.Single kind) words e
single_figures v kind words [] e read said = absurd cc
single_figures v kind words (a ∷ []) e read said =
    let first = figures_some words a [] read in
    single_said v kind words first.0 a e
    (first.2 ∙ ap (λ (ws : List (List ℕ)). first.0 ∷ ws) (figures_none first.1 first.4)) first.3 said
single_figures v kind words (a ∷ b ∷ more) e read said = absurd cc

-- a server and an origin
double_pair : (v : Version) (kind : Double) (words : List (List ℕ)) (server origin : ℕ) →
    words ≡ decimal server ∷ decimal origin ∷ [] → server < servers_of v → origin ≤ MOST_NUMBER →
    IsSaid v (form.Double kind) words (double_event kind server origin)
double_pair v double.Take words server origin is within small =
    record { spelled = ap (λ (ws : List (List ℕ)). codes "take" ∷ ws) is; bounds = (within, small) }
double_pair v double.Pass words server origin is within small =
    record { spelled = ap (λ (ws : List (List ℕ)). codes "pass" ∷ ws) is; bounds = (within, small) }
double_pair v double.Lose words server origin is within small =
    record { spelled = ap (λ (ws : List (List ℕ)). codes "lose" ∷ ws) is; bounds = (within, small) }

-- words one after the other
more_words : (words rest : List (List ℕ)) (w x : List ℕ) (more : List (List ℕ)) → words ≡ w ∷ rest → w ≡ x →
    rest ≡ more → words ≡ x ∷ more
more_words words rest w x more is same later =
    is ∙ ap (λ (ws : List (List ℕ)). w ∷ ws) later ∙ ap (λ (y : List ℕ). y ∷ more) same

double_figures : (v : Version) (kind : Double) (words : List (List ℕ)) (figures : List (Option ℕ)) (e : Event) →
    figures_of words ≡ Ok figures → double_of v kind figures ≡ Ok e → IsSaid v (form.Double kind) words e
double_figures v kind words [] e read said = absurd cc
double_figures v kind words (a ∷ []) e read said = absurd cc
double_figures v kind words (a ∷ b ∷ []) e read said =
    let first = figures_some words a (b ∷ []) read in
    let second = figures_some first.1 b [] first.4 in
    let server = both_ok (server_in v a) (λ s. number_in b >>= λ o. Ok (double_event kind s o)) e said in
    let origin = both_ok (number_in b) (λ o. Ok (double_event kind server.0 o)) e server.2 in
    let s = below_word first.0 a (servers_of v) server.0 first.3 server.1 in
    let o = number_word second.0 b origin.0 second.3 origin.1 in
    said_same v (form.Double kind) words (double_event kind server.0 origin.0) e
    (double_pair v kind words server.0 origin.0 (more_words words first.1 first.0 (decimal server.0) (decimal origin.0
    ∷ []) first.2 s.0 (more_words first.1 second.1 second.0 (decimal origin.0) [] second.2 o.0
    (figures_none second.1 second.4))) s.1 o.1) origin.2
double_figures v kind words (a ∷ b ∷ c ∷ more) e read said = absurd cc

visit_figures : (v : Version) (words : List (List ℕ)) (figures : List (Option ℕ)) (e : Event) →
    figures_of words ≡ Ok figures → visit_of v figures ≡ Ok e → IsSaid v form.Visit words e
visit_figures v words [] e read said = absurd cc
visit_figures v words (a ∷ []) e read said = absurd cc
visit_figures v words (a ∷ b ∷ []) e read said = absurd cc
visit_figures v words (a ∷ b ∷ c ∷ []) e read said =
    let first = figures_some words a (b ∷ c ∷ []) read in
    let second = figures_some first.1 b (c ∷ []) first.4 in
    let third = figures_some second.1 c [] second.4 in
    let server = both_ok (server_in v a) (λ s. number_in b >>= λ p. slot_in c >>= λ w. Ok (event.Visit s p w)) e said in
    let packet = both_ok (number_in b) (λ p. slot_in c >>= λ w. Ok (event.Visit server.0 p w)) e server.2 in
    let worker = both_ok (slot_in c) (λ w. Ok (event.Visit server.0 packet.0 w)) e packet.2 in
    let s = below_word first.0 a (servers_of v) server.0 first.3 server.1 in
    let p = number_word second.0 b packet.0 second.3 packet.1 in
    let w = below_word third.0 c MOST_SLOTS worker.0 third.3 worker.1 in
    let tail = more_words second.1 third.1 third.0 (decimal worker.0) [] third.2 w.0 (figures_none third.1 third.4) in
    let middle = more_words first.1 second.1 second.0 (decimal packet.0) (decimal worker.0 ∷ []) second.2 p.0 tail in
    let whole = more_words words first.1 first.0 (decimal server.0) (decimal packet.0 ∷ decimal worker.0
    ∷ []) first.2 s.0 middle in
    said_same v form.Visit words (event.Visit server.0 packet.0 worker.0) e
    (record { spelled = ap (λ (ws : List (List ℕ)). codes "visit" ∷ ws) whole; bounds = (s.1, p.1, w.1) }) worker.2
visit_figures v words (a ∷ b ∷ c ∷ d ∷ more) e read said = absurd cc

apply_figures : (v : Version) (words : List (List ℕ)) (figures : List (Option ℕ)) (e : Event) →
    figures_of words ≡ Ok figures → apply_of v figures ≡ Ok e → IsSaid v form.Apply words e
apply_figures v words [] e read said = absurd cc
apply_figures v words (a ∷ []) e read said = absurd cc
apply_figures v words (a ∷ b ∷ []) e read said = absurd cc
apply_figures v words (a ∷ b ∷ c ∷ []) e read said = absurd cc
apply_figures v words (a ∷ b ∷ c ∷ d ∷ []) e read said =
    let first = figures_some words a (b ∷ c ∷ d ∷ []) read in
    let second = figures_some first.1 b (c ∷ d ∷ []) first.4 in
    let third = figures_some second.1 c (d ∷ []) second.4 in
    let fourth = figures_some third.1 d [] third.4 in
    let server = both_ok (server_in v a) (λ s. number_in b >>= λ o. server_in v c >>= λ g. number_in d >>= λ p.
    Ok (event.Apply s o g p)) e said in
    let origin = both_ok (number_in b) (λ o. server_in v c >>= λ g. number_in d >>= λ p.
    Ok (event.Apply server.0 o g p)) e server.2 in
    let group = both_ok (server_in v c) (λ g. number_in d >>= λ p. Ok (event.Apply server.0 origin.0 g p)) e origin.2 in
    let packet = both_ok (number_in d) (λ p. Ok (event.Apply server.0 origin.0 group.0 p)) e group.2 in
    let s = below_word first.0 a (servers_of v) server.0 first.3 server.1 in
    let o = number_word second.0 b origin.0 second.3 origin.1 in
    let g = below_word third.0 c (servers_of v) group.0 third.3 group.1 in
    let p = number_word fourth.0 d packet.0 fourth.3 packet.1 in
    let last = more_words third.1 fourth.1 fourth.0 (decimal packet.0) [] fourth.2 p.0
    (figures_none fourth.1 fourth.4) in
    let tail = more_words second.1 third.1 third.0 (decimal group.0) (decimal packet.0 ∷ []) third.2 g.0 last in
    let middle = more_words first.1 second.1 second.0 (decimal origin.0) (decimal group.0 ∷ decimal packet.0
    ∷ []) second.2 o.0 tail in
    let whole = more_words words first.1 first.0 (decimal server.0) (decimal origin.0 ∷ decimal group.0
    ∷ decimal packet.0 ∷ []) first.2 s.0 middle in
    said_same v form.Apply words (event.Apply server.0 origin.0 group.0 packet.0) e
    (record {
      spelled = ap (λ (ws : List (List ℕ)). codes "apply" ∷ ws) whole;
      bounds = (s.1, o.1, g.1, p.1);
    }) packet.2
apply_figures v words (a ∷ b ∷ c ∷ d ∷ f ∷ more) e read said = absurd cc

-- undone visits
record IsNamed (v : Version) (words : List (List ℕ)) (undone : List VisitName) : Type 0 where
  pub spelled : words ≡ map name_text undone
  pub bounds : AllByRecursion (IsVisitName v) undone

name_parts : (parts : List (List ℕ)) (name : NameFigures) → name_of parts ≡ Ok name →
    (j : List ℕ) × (p : List ℕ) × (parts ≡ j ∷ p ∷ []) × (figure_of j ≡ Ok name.server) × (figure_of p ≡ Ok name.packet)
name_parts [] name e = absurd cc
name_parts (j ∷ []) name e = absurd cc
name_parts (j ∷ p ∷ []) name e =
    let one = both_ok (figure_of j) (λ s. figure_of p >>= λ q. Ok (record { server = s; packet = q })) name e in
    let two = both_ok (figure_of p) (λ q. Ok (record { server = one.0; packet = q })) name one.2 in
    let made = two.2 in
    let same : record { server = one.0; packet = two.0 } ≡ name = cc in
    (j, p, refl, one.1 ∙ ap (λ (n : NameFigures). Ok n.server) same, two.1 ∙ ap (λ (n : NameFigures). Ok n.packet) same)
name_parts (j ∷ p ∷ q ∷ more) name e = absurd cc

name_spelled : (v : Version) (word : List ℕ) (name : NameFigures) (visit : VisitName) →
    name_of (parts_of 58 word) ≡ Ok name → name_in v name ≡ Ok visit → (word ≡ name_text visit) × IsVisitName v visit
name_spelled v word name visit read said =
    let parts = name_parts (parts_of 58 word) name read in
    let one = both_ok (server_in v name.server) (λ s. number_in name.packet >>= λ p.
    Ok (record { server = s; packet = p })) visit said in
    let two = both_ok (number_in name.packet) (λ p. Ok (record { server = one.0; packet = p })) visit one.2 in
    let made = two.2 in
    let same : record { server = one.0; packet = two.0 } ≡ visit = cc in
    let s = below_word parts.0 name.server (servers_of v) one.0 parts.3 one.1 in
    let p = number_word parts.1 name.packet two.0 parts.4 two.1 in
    let joined : word ≡ parts.0 ++ 58 ∷ parts.1 =
    sym (join_with_byte-slice_split 58 word) ∙ ap (join_with_byte 58) parts.2 in
    let spelled : word ≡ name_text (record { server = one.0; packet = two.0 }) =
    joined ∙ ap (λ (x : List ℕ). x ++ 58 ∷ parts.1) s.0 ∙ ap (λ (x : List ℕ). decimal one.0 ++ 58 ∷ x) p.0 in
    subst (λ (x : VisitName). (word ≡ name_text x) × IsVisitName v x) same (spelled, (s.1, p.1))

names_spelled : (v : Version) (words : List (List ℕ)) (names : List NameFigures) (undone : List VisitName) →
    names_of words ≡ Ok names → undone_in v names ≡ Ok undone → IsNamed v words undone
names_spelled v [] names undone read said =
    let none : [] ≡ names = cc in
    let e : undone_in v [] ≡ Ok undone = ap (undone_in v) none ∙ said in
    let empty : [] ≡ undone = cc in
    subst (IsNamed v []) empty (record { spelled = refl; bounds = tt })
names_spelled v (word ∷ words) names undone read said =
    let one = both_ok (name_of (parts_of 58 word)) (λ n. names_of words >>= λ ns. Ok (n ∷ ns)) names read in
    let two = both_ok (names_of words) (λ ns. Ok (one.0 ∷ ns)) names one.2 in
    let made = two.2 in
    let all : one.0 ∷ two.0 ≡ names = cc in
    let e : undone_in v (one.0 ∷ two.0) ≡ Ok undone = ap (undone_in v) all ∙ said in
    let first = both_ok (name_in v one.0) (λ x. undone_in v two.0 >>= λ xs. Ok (x ∷ xs)) undone e in
    let rest = both_ok (undone_in v two.0) (λ xs. Ok (first.0 ∷ xs)) undone first.2 in
    let finished = rest.2 in
    let whole : first.0 ∷ rest.0 ≡ undone = cc in
    let name = name_spelled v word one.0 first.0 one.1 first.1 in
    let later = names_spelled v words two.0 rest.0 two.1 rest.1 in
    subst (IsNamed v (word ∷ words)) whole (record {
      spelled = ap (λ (w : List ℕ). w ∷ words) name.0 ∙ ap (λ (ws : List (List ℕ)). name_text first.0
          ∷ ws) later.spelled;
      bounds = (name.1, later.bounds);
    })

recover_said : (v : Version) (words : List (List ℕ)) (e : Event) → recover_of v words ≡ Ok e →
    IsSaid v form.Recover words e
recover_said v [] e said = absurd cc
recover_said v (word ∷ words) e said =
    let one = both_ok (figure_of word) (λ s. names_of words >>= λ ns. recovery v s ns) e said in
    let two = both_ok (names_of words) (λ ns. recovery v one.0 ns) e one.2 in
    let three = both_ok (server_in v one.0) (λ s. undone_in v two.0 >>= λ u. Ok (event.Recover s u)) e two.2 in
    let four = both_ok (undone_in v two.0) (λ u. Ok (event.Recover three.0 u)) e three.2 in
    let s = below_word word one.0 (servers_of v) three.0 one.1 three.1 in
    let names = names_spelled v words two.0 four.0 two.1 four.1 in
    said_same v form.Recover (word ∷ words) (event.Recover three.0 four.0) e (record {
      spelled = ap (λ (w : List ℕ). codes "recover" ∷ w ∷ words) s.0 ∙ ap (λ (ws : List (List ℕ)). codes "recover"
          ∷ decimal three.0 ∷ ws) names.spelled;
      bounds = (s.1, names.bounds);
    }) four.2

said_spelled : (v : Version) (f : Form) (words : List (List ℕ)) (e : Event) → said_in v f words ≡ Ok e →
    IsSaid v f words e
said_spelled v (form.Single kind) words e said = let one =
    both_ok (figures_of words) (λ figures. single_of v kind figures) e said in
    single_figures v kind words one.0 e one.1 one.2
said_spelled v (form.Double kind) words e said = let one =
    both_ok (figures_of words) (λ figures. double_of v kind figures) e said in
    double_figures v kind words one.0 e one.1 one.2
said_spelled v form.Visit words e said = let one = both_ok (figures_of words) (λ figures. visit_of v figures) e said in
    visit_figures v words one.0 e one.1 one.2
said_spelled v form.Apply words e said = let one = both_ok (figures_of words) (λ figures. apply_of v figures) e said in
    apply_figures v words one.0 e one.1 one.2
said_spelled v form.Recover words e said = recover_said v words e said

-- a word that is the text of a test
is_word : (first word : List ℕ) → bytes_eq first word ≡ true → first ≡ word
is_word first word e = search (rules, bytes_eq-Decides)

tested : {A : Type 0} (first word : List ℕ) (a b : A) (rest : Option A) →
    (if bytes_eq first word then Some a else rest) ≡ Some b → ((first ≡ word) × (a ≡ b)) ⊎ (rest ≡ Some b)
tested first word a b rest e =
    elim (bytes_eq first word) as (λ t. bytes_eq first word ≡ t → (if t then Some a else rest) ≡ Some b →
    ((first ≡ word) × (a ≡ b)) ⊎ (rest ≡ Some b)) [
      | true ↦ λ is told. inl (is_word first word is, cc)
      | false ↦ λ is told. inr told
    ] refl e

-- a form whose word is tested is that of the word, or a later test tells
known_or : (first : List ℕ) (a f : Form) (rest : Option Form) → (rest ≡ Some f → first ≡ form_word f) →
    (if bytes_eq first (form_word a) then Some a else rest) ≡ Some f → first ≡ form_word f
known_or first a f rest later e =
    elim (tested first (form_word a) a f rest e) [ inl is ↦ is.0 ∙ ap form_word is.1 | inr other ↦ later other ]

pub form_known : (first : List ℕ) (f : Form) → form_of first ≡ Some f → first ≡ form_word f
form_known first f =
    known_or first (form.Single single.Enter) f _ (
    known_or first (form.Double double.Take) f _ (
    known_or first form.Apply f _ (
    known_or first form.Visit f _ (
    known_or first (form.Double double.Pass) f _ (
    known_or first (form.Double double.Lose) f _ (
    known_or first (form.Single single.Carry) f _ (
    known_or first (form.Single single.Crash) f _ (
    known_or first form.Recover f _ (
    known_or first (form.Single single.Pull) f _ (
    known_or first (form.Single single.Propagate) f _ (
    known_or first (form.Single single.Release) f None (λ none. absurd cc))))))))))))

by_form : (v : Version) (first : List ℕ) (words : List (List ℕ)) (r : Option Form) (e : Event) →
    ((f : Form) → r ≡ Some f → first ≡ form_word f) → said_by v r words ≡ Ok e →
    (first ∷ words ≡ word_list e) × IsEvent v e
by_form v first words None e known said = absurd cc
by_form v first words (Some f) e known said =
    let is = said_spelled v f words e said in
    (ap (λ (w : List ℕ). w ∷ words) (known f refl) ∙ is.spelled, is.bounds)

event_spelled : (v : Version) (words : List (List ℕ)) (e : Event) → event_of v words ≡ Ok e →
    (words ≡ word_list e) × IsEvent v e
event_spelled v [] e said = absurd cc
event_spelled v (first ∷ words) e said = by_form v first words (form_of first) e (form_known first) said

-- a line that says an event is the event's line
pub line_spelled : (v : Version) (line : List ℕ) (e : Event) → event_of v (parts_of 32 line) ≡ Ok e →
    (line ≡ words_of e) × IsEvent v e
line_spelled v line e said =
    let is = event_spelled v (parts_of 32 line) e said in
    (sym (join_with_byte-slice_split 32 line) ∙ ap (join_with_byte 32) is.0 ∙ sym (words_joined e), is.1)

pub placed_ok : (place : ℕ) (r : Result Event JournalCause) (e : Event) → placed place r ≡ Ok e → r ≡ Ok e
placed_ok place (Ok x) e told = let same : x ≡ e = cc in ap Ok same
placed_ok place (Err cause) e told = absurd cc

-- lines, each with a line feed behind it
record AreLines (v : Version) (lines : List (List ℕ)) (events : List Event) : Type 0 where
  pub spelled : join_with_byte 10 lines ≡ flat_map line_of events
  pub bounds : AllByRecursion (IsEvent v) events

ended_spelled : (v : Version) (place : ℕ) (last : List ℕ) (events : List Event) → ended place last ≡ Ok events →
    AreLines v (last ∷ []) events
ended_spelled v place [] events e = let empty : [] ≡ events =
    cc in subst (AreLines v ([] ∷ [])) empty (record { spelled = refl; bounds = tt })
ended_spelled v place (byte ∷ bytes) events e = absurd cc

lines_spelled : (v : Version) (place : ℕ) (lines : List (List ℕ)) (events : List Event) →
    events_from v place lines ≡ Ok events → AreLines v lines events
lines_spelled v place [] events e = let empty : [] ≡ events =
    cc in subst (AreLines v []) empty (record { spelled = refl; bounds = tt })
lines_spelled v place (last ∷ []) events e = ended_spelled v place last events e
lines_spelled v place (line ∷ next ∷ lines) events e =
    let one = both_ok (placed place (event_of v (parts_of 32 line)))
    (λ x. events_from v (place + 1) (next ∷ lines) >>= λ xs. Ok (x ∷ xs)) events e in
    let two = both_ok (events_from v (place + 1) (next ∷ lines)) (λ xs. Ok (one.0 ∷ xs)) events one.2 in
    let made = two.2 in
    let whole : one.0 ∷ two.0 ≡ events = cc in
    let first = line_spelled v line one.0 (placed_ok place (event_of v (parts_of 32 line)) one.0 one.1) in
    let later = lines_spelled v (place + 1) (next ∷ lines) two.0 two.1 in
    subst (AreLines v (line ∷ next ∷ lines)) whole (record {
      spelled = ap (λ (l : List ℕ). l ++ 10 ∷ join_with_byte 10 (next ∷ lines)) first.0 ∙ ap
          (λ (rest : List ℕ). words_of one.0
          ++ 10 ∷ rest) later.spelled ∙ sym (append_assoc (words_of one.0) (10 ∷ []) (flat_map line_of two.0));
      bounds = (first.1, later.bounds);
    })

pub header_is : (header : List ℕ) (v : Version) → version_of header ≡ Some v → header ≡ header_of v
header_is header v e =
    elim (tested header (codes "ftc-journal 1") version.First v _ e) [
      | inl is ↦ is.0 ∙ ap header_of is.1
      | inr e1 ↦
          elim (tested header (codes "ftc-journal 2") version.Second v None e1) [
            | inl is ↦
                is.0 ∙ ap header_of is.1
            | inr e2 ↦ absurd cc
          ]
    ]

behind_spelled : (header : List ℕ) (r : Option Version) (next : List ℕ) (lines : List (List ℕ)) (events : List Event) →
    ((v : Version) → r ≡ Some v → header ≡ header_of v) → lines_behind r (next ∷ lines) ≡ Ok events → (text : List ℕ) →
    text ≡ join_with_byte 10 (header ∷ next ∷ lines) → IsSpelling events text
behind_spelled header None next lines events known e text is = absurd cc
behind_spelled header (Some v) next lines events known e text is =
    let all = lines_spelled v 2 (next ∷ lines) events e in
    record {
      version = v;
      bounds = all.bounds;
      spelled = is ∙ ap (λ (h : List ℕ). h ++ 10 ∷ join_with_byte 10 (next ∷ lines)) (known v refl) ∙ ap
          (λ (rest : List ℕ). header_of v ++ 10 ∷ rest) all.spelled;
    }

parts_spelled : (parts : List (List ℕ)) (events : List Event) (text : List ℕ) → journal_from parts ≡ Ok events →
    text ≡ join_with_byte 10 parts → IsSpelling events text
parts_spelled [] events text e is = absurd cc
parts_spelled (header ∷ []) events text e is = absurd cc
parts_spelled (header ∷ next ∷ lines) events text e is =
    behind_spelled header (version_of header) next lines events (header_is header) e text is

pub accepted : (text : List ℕ) (events : List Event) → journal_of text ≡ Ok events → IsSpelling events text
accepted text events e = parts_spelled (parts_of 10 text) events text e (sym (join_with_byte-slice_split 10 text))

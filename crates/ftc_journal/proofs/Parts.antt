-- What stands round separators is never nothing.
use Rattle.std.proofs.Common.{◌≡◌, ◌<◌, ℕ, ◌+◌, List, [], ◌∷◌, ◌++◌, length, Option, Some, None, Result, Ok, Err, refl}
use Rattle.std.proofs.Common.{sym, ap, subst, ◌∙◌, arith}
use Rattle.std.specs.Prelude.{◌==◌}
use Rattle.std.specs.Result.{IsErrAnd}
use Rattle.std.proofs.lemmas.List.Splits.{length-slice_split}
use Rattle.ftc_base.specs.Endpoint.{parts_of}
use Rattle.ftc_base.specs.declared.refusal.Refuse.{Refuse}
use Rattle.ftc_base.specs.declared.refusal.Refuse.TheVariants.{Bad, NoMemory}
use Rattle.ftc_base.specs.Refused.{IsReading, IfBad}
use Rattle.ftc_journal.specs.declared.event.Event.{Event}
use Rattle.ftc_journal.specs.declared.fault.JournalCause.TheVariants.{Header, Word}
use Rattle.ftc_journal.specs.declared.fault.JournalFault.{JournalFault}
use Rattle.ftc_journal.specs.declared.form.Version.{Version}
use Rattle.ftc_base.specs.Reading.{◌>>=◌}
use Rattle.ftc_base.proofs.Parts.{some_part}
use Rattle.ftc_journal.specs.Reading.{name_of, event_of, placed, events_from, lines_behind, journal_from, journal_of}
use Rattle.ftc_journal.specs.Reading.{version_of}
use Rattle.ftc_journal.proofs.Joining.{joined, joined_none, one_more, none_more}

parted : {A : Type 0} (parts : List A) → 0 < length parts → (head : A) × (tail : List A) × (parts ≡ head ∷ tail)
parted [] some = absurd (omega arith)
parted (head ∷ tail) some = (head, tail, refl)

-- a name with two colons
pub two_marks : (word server packet first rest : List ℕ) → parts_of 58 word ≡ server ∷ parts_of 58 packet →
    parts_of 58 packet ≡ first ∷ parts_of 58 rest → Err Word ≡ name_of (parts_of 58 word)
two_marks word server packet first rest e f = let more = some_part 58 rest in rw (e, f, more.2) refl

-- one more line
pub events_more : (version : Version) (place : ℕ) (line behind : List ℕ) →
    events_from version place (line ∷ parts_of 10 behind)
    ≡ (placed place (event_of version (parts_of 32 line)) >>= λ event.
    events_from version (place + 1) (parts_of 10 behind) >>= λ events. Ok (event ∷ events))
events_more version place line behind = let more = some_part 10 behind in rw more.2 refl

pub journal_more : (header lines : List ℕ) →
    journal_from (header ∷ parts_of 10 lines) ≡ lines_behind (version_of header) (parts_of 10 lines)
journal_more header lines = let more = some_part 10 lines in rw more.2 refl

pub begins : (text header lines : List ℕ) (version : Version) (held : List Event) →
    parts_of 10 text ≡ header ∷ parts_of 10 lines → version_of header ≡ Some version → held ≡ [] →
    joined held (events_from version 2 (parts_of 10 lines)) ≡ journal_of text
begins text header lines version held split known none =
    rw (none, split) (joined_none (events_from version 2 (parts_of 10 lines)) ∙ sym
    (journal_more header lines ∙ ap (λ (v : Option Version). lines_behind v (parts_of 10 lines)) known))

pub no_version : (text header lines : List ℕ) → parts_of 10 text ≡ header ∷ parts_of 10 lines →
    version_of header ≡ None → journal_of text ≡ Err (record { line = 1; cause = Header })
no_version text header lines split unknown =
    ap journal_from split ∙ journal_more header lines ∙ ap
    (λ (v : Option Version). lines_behind v (parts_of 10 lines)) unknown

pub goes_on : (version : Version) (place : ℕ) (rest line behind : List ℕ) (held : List Event) (event : Event)
    (whole : Result (List Event) JournalFault) → joined held (events_from version place (parts_of 10 rest)) ≡ whole →
    parts_of 10 rest ≡ line ∷ parts_of 10 behind
    → placed place (event_of version (parts_of 32 line)) ≡ Ok event →
    joined (held ++ event ∷ []) (events_from version (place + 1) (parts_of 10 behind)) ≡ whole
goes_on version place rest line behind held event whole told split said =
    one_more held event (placed place (event_of version (parts_of 32 line)))
    (events_from version (place + 1) (parts_of 10 behind)) whole
    (ap (joined held) (sym (events_more version place line behind)) ∙ ap
    (λ (ps : List (List ℕ)). joined held (events_from version place ps)) (sym split) ∙ told) said

pub refused : (version : Version) (place : ℕ) (rest line behind : List ℕ) (held : List Event)
    (why : Refuse JournalFault) (whole : Result (List Event) JournalFault) →
    joined held (events_from version place (parts_of 10 rest)) ≡ whole → parts_of 10 rest ≡ line ∷ parts_of 10 behind
    → IsReading {A = Event} (Err why) (placed place (event_of version (parts_of 32 line))) →
    IfBad {A = Event} (Err why) (λ fault. whole ≡ Err fault)
refused version place rest line behind held (Bad fault) whole told split said =
    none_more held fault (placed place (event_of version (parts_of 32 line)))
    (events_from version (place + 1) (parts_of 10 behind)) whole
    (ap (joined held) (sym (events_more version place line behind)) ∙ ap
    (λ (ps : List (List ℕ)). joined held (events_from version place ps)) (sym split) ∙ told) said
refused version place rest line behind held NoMemory whole told split said = tt

same_bad : (A : Type 0) (why : Refuse JournalFault) (P : JournalFault → Type 0) → IfBad {A = Event} (Err why) P →
    IfBad {A = A} (Err why) P
same_bad A (Bad fault) P bad = bad
same_bad A NoMemory P bad = tt

pub handed_on : {A : Type 0} (r : Result A (Refuse JournalFault)) (why : Refuse JournalFault) (P : JournalFault →
    Type 0) → IsErrAnd r (λ e. e ≡ why) → IfBad {A = Event} (Err why) P → IfBad r P
handed_on (Ok value) why P is bad = tt
handed_on {A} (Err e) why P is bad = subst (λ x. IfBad {A = A} (Err x) P) (sym is) (same_bad A why P bad)

-- a line that says an event, and the lines behind it
pub events_said : (version : Version) (place : ℕ) (line behind : List ℕ) (event : Event) (events : List Event) →
    event_of version (parts_of 32 line) ≡ Ok event → events_from version (place + 1) (parts_of 10 behind) ≡ Ok events →
    events_from version place (line ∷ parts_of 10 behind) ≡ Ok (event ∷ events)
events_said version place line behind event events said later =
    events_more version place line behind ∙ rw (said, later) refl

pub journal_said : (header lines : List ℕ) (version : Version) → version_of header ≡ Some version →
    journal_from (header ∷ parts_of 10 lines) ≡ events_from version 2 (parts_of 10 lines)
journal_said header lines version known =
    journal_more header lines ∙ ap (λ (v : Option Version). lines_behind v (parts_of 10 lines)) known

-- Each spelling of a journal reads as that journal.
use Rattle.std.proofs.Common.{◌≡◌, ℕ, ◌+◌, List, [], ◌∷◌, ◌++◌, refl, ap, ◌∙◌, Ok, Err, Some, append_assoc}
use Rattle.std.specs.Prelude.{codes}
use Rattle.std.specs.List.{AllByRecursion, flat_map}
use Rattle.ftc_base.specs.Endpoint.{parts_of}
use Rattle.ftc_base.proofs.Separated.{Without, written, parts_of-part}
use Rattle.ftc_journal.specs.declared.event.Event.{Event}
use Rattle.ftc_journal.specs.declared.fault.JournalFault.{JournalFault}
use Rattle.ftc_journal.specs.declared.form.Version.{Version}
use Rattle.ftc_journal.specs.declared.form.Version.TheVariants as version
use Rattle.ftc_journal.specs.Text.{words_of, line_of}
use Rattle.ftc_journal.specs.Reading.{version_of, event_of, events_from, journal_from, journal_of}
use Rattle.ftc_journal.specs.Spelling.{IsEvent, IsSpelling, header_of, spelling_in}
use Rattle.ftc_journal.proofs.Parts.{events_said, journal_said}
use Rattle.ftc_journal.proofs.Words.{without_feed, words_found, event_again}

events_again : (v : Version) (place : ℕ) (events : List Event) → AllByRecursion (IsEvent v) events →
    events_from v place (parts_of 10 (flat_map line_of events)) ≡ Ok events
events_again v place [] all = refl
events_again v place (e ∷ events) all =
    let rest = flat_map line_of events in
    let text : flat_map line_of (e ∷ events) ≡ words_of e ++ 10 ∷ rest = append_assoc (words_of e) (10 ∷ []) rest in
    let parts : parts_of 10 (flat_map line_of (e ∷ events)) ≡ words_of e ∷ parts_of 10 rest =
    ap (parts_of 10) text ∙ parts_of-part 10 (words_of e) rest refl (without_feed v e all.0) in
    let said : event_of v (parts_of 32 (words_of e)) ≡ Ok e =
    ap (event_of v) (words_found v e all.0) ∙ event_again v e all.0 in
    ap (events_from v place) parts ∙ events_said v place (words_of e) rest e events said
    (events_again v (place + 1) events all.1)

pub header_without_feed : (v : Version) → Without 10 (header_of v)
header_without_feed version.First = written 10 (codes "ftc-journal 1") refl
header_without_feed version.Second = written 10 (codes "ftc-journal 2") refl

pub header_known : (v : Version) → version_of (header_of v) ≡ Some v
header_known version.First = refl
header_known version.Second = refl

pub spelling_again : (v : Version) (events : List Event) → AllByRecursion (IsEvent v) events →
    journal_of (spelling_in v events) ≡ Ok events
spelling_again v events all =
    ap journal_from (parts_of-part 10 (header_of v) (flat_map line_of events) refl (header_without_feed v))
    ∙ journal_said (header_of v) (flat_map line_of events) v (header_known v) ∙ events_again v 2 events all

pub reads : (text : List ℕ) (events : List Event) → IsSpelling events text → journal_of text ≡ Ok events
reads text events is = ap journal_of is.spelled ∙ spelling_again is.version events is.bounds

pub one : (text : List ℕ) (a b : List Event) → IsSpelling a text → IsSpelling b text → a ≡ b
one text a b is other = let first = reads text a is in let second = reads text b other in cc

pub no_fault : (text : List ℕ) (events : List Event) (fault : JournalFault) → IsSpelling events text →
    journal_of text ≡ Err fault → ⊥
no_fault text events fault is bad = let read = reads text events is in cc

-- A text that is refused has just that first fault.
use Rattle.std.proofs.Common.{◌≡◌, ◌≢◌, ℕ, ◌+◌, ◌==◌, false, List, [], ◌∷◌, ◌++◌, length, refl, sym, ap, subst, ◌∙◌}
use Rattle.std.proofs.Common.{arith, Ok, Err, Option, Some, None, Result, ◌⊎◌, inl, inr, append_assoc}
use Rattle.std.specs.List.{AllByRecursion, join_with_byte, flat_map, onto_first}
use Rattle.std.proofs.lemmas.Bool.{eqb-false, cases_Bool}
use Rattle.std.proofs.lemmas.Bool.Decides.{nat_tests}
use Rattle.std.proofs.lemmas.List.Splits.{join_with_byte-slice_split, slice_split-cons_yes, slice_split-cons_no}
use Rattle.ftc_base.specs.Endpoint.{parts_of}
use Rattle.ftc_base.specs.declared.refusal.Refuse.{Refuse}
use Rattle.ftc_base.specs.declared.refusal.Refuse.TheVariants.{Bad, NoMemory}
use Rattle.ftc_base.specs.Refused.{IfBad}
use Rattle.ftc_base.proofs.Separated.{Without, parts_of-part, parts_of-last}
use Rattle.ftc_journal.specs.declared.event.Event.{Event}
use Rattle.ftc_journal.specs.declared.fault.JournalCause.{JournalCause}
use Rattle.ftc_journal.specs.declared.fault.JournalCause.TheVariants.{Header, Cut}
use Rattle.ftc_journal.specs.declared.fault.JournalFault.{JournalFault}
use Rattle.ftc_journal.specs.declared.form.Version.{Version}
use Rattle.ftc_journal.specs.Text.{words_of, line_of}
use Rattle.ftc_base.specs.Reading.{◌>>=◌}
use Rattle.ftc_base.proofs.Parts.{some_part}
use Rattle.ftc_journal.specs.Reading.{version_of, event_of, placed, ended, events_from, lines_behind}
use Rattle.ftc_journal.specs.Reading.{journal_from, journal_of}
use Rattle.ftc_journal.specs.Spelling.{IsEvent, IsSpelling, header_of}
use Rattle.ftc_journal.specs.Faulty.{IsOneLine, IsCut, IsRefused, IsFaulty, IsFirstFault}
use Rattle.ftc_journal.proofs.Parts.{events_more, journal_more}
use Rattle.ftc_journal.proofs.Words.{without_feed, words_found, event_again}
use Rattle.ftc_journal.proofs.Again.{header_without_feed, header_known}
use Rattle.ftc_journal.proofs.Spelled.{accepted, line_spelled, placed_ok, header_is}
use Rattle.ftc_journal.proofs.Forms.{line_refused, refused_again}

-- bytes without a line feed, by each of the two words
one_line : (bytes : List ℕ) → Without 10 bytes → IsOneLine bytes
one_line [] all = tt
one_line (b ∷ bytes) all = (eqb-false b 10 all.0, one_line bytes all.1)

not_feed : (b : ℕ) → b ≢ 10 → (b == 10) ≡ false
not_feed b differs = grind (arith, nat_tests, differs)

without : (bytes : List ℕ) → IsOneLine bytes → Without 10 bytes
without [] all = tt
without (b ∷ bytes) all = (not_feed b all.0, without bytes all.1)

-- no part has the separator
onto_without : (separator b : ℕ) (parts : List (List ℕ)) → (b == separator) ≡ false →
    AllByRecursion (Without separator) parts → AllByRecursion (Without separator) (onto_first b parts)
onto_without separator b [] other all = ((other, tt), tt)
onto_without separator b (part ∷ parts) other all = ((other, all.0), all.1)

parts_without : (separator : ℕ) (text : List ℕ) → AllByRecursion (Without separator) (parts_of separator text)
parts_without separator [] = (tt, tt)
parts_without separator (b ∷ text) = elim (cases_Bool (b == separator)) [
  | inl is ↦ rw (slice_split-cons_yes (λ x. x == separator) b text is) (tt, parts_without separator text)
  | inr other ↦ rw (slice_split-cons_no (λ x. x == separator) b text other)
      (onto_without separator b (parts_of separator text) other (parts_without separator text))
]

-- where a reading failed, one of its two parts did
failed : {A B F : Type 0} (first : Result A F) (next : A → Result B F) (fault : F) → (first >>= next) ≡ Err fault →
    (first ≡ Err fault) ⊎ ((a : A) × (first ≡ Ok a) × (next a ≡ Err fault))
failed (Ok a) next fault e = inr (a, refl, e)
failed (Err cause) next fault e = let same : cause ≡ fault = cc in inl (ap Err same)

-- behind the lines of some events stands one that is refused
record IsBadFrom (v : Version) (place : ℕ) (text : List ℕ) (fault : JournalFault) : Type 0 where
  pub events : List Event
  pub rest : List ℕ
  pub bounds : AllByRecursion (IsEvent v) events
  pub spelled : text ≡ flat_map line_of events ++ rest
  pub line : fault.line ≡ place + length events
  pub bad : IsCut rest fault.cause ⊎ IsRefused v rest fault.cause

ended_bad : (v : Version) (place : ℕ) (last : List ℕ) (fault : JournalFault) → Without 10 last →
    ended place last ≡ Err fault → IsBadFrom v place last fault
ended_bad v place [] fault all e = absurd cc
ended_bad v place (byte ∷ bytes) fault all e =
    let same : record { line = place; cause = Cut } ≡ fault = cc in
    subst (IsBadFrom v place (byte ∷ bytes)) same (record {
      events = [];
      rest = byte ∷ bytes;
      bounds = tt;
      spelled = refl;
      line = omega arith;
      bad = inl (record { named = refl; some = λ empty. cc; one_line = one_line (byte ∷ bytes) all });
    })

placed_bad : (place : ℕ) (r : Result Event JournalCause) (fault : JournalFault) → placed place r ≡ Err fault →
    (r ≡ Err fault.cause) × (fault.line ≡ place)
placed_bad place (Ok e) fault told = absurd cc
placed_bad place (Err cause) fault told = let same : record { line = place; cause = cause } ≡ fault =
    cc in (ap (λ (f : JournalFault). Err f.cause) same, ap (λ (f : JournalFault). f.line) (sym same))

one_more_line : (v : Version) (place : ℕ) (line text : List ℕ) (e : Event) (fault : JournalFault) →
    (line ≡ words_of e) × IsEvent v e → IsBadFrom v (place + 1) text fault → IsBadFrom v place (line ++ 10 ∷ text) fault
one_more_line v place line text e fault is bad = record {
  events = e ∷ bad.events;
  rest = bad.rest;
  bounds = (is.1, bad.bounds);
  spelled = ap (λ (l : List ℕ). l ++ 10 ∷ text) is.0 ∙ ap (λ (t : List ℕ). words_of e
      ++ 10 ∷ t) bad.spelled ∙ sym (append_assoc (words_of e) (10 ∷ []) (flat_map line_of bad.events ++ bad.rest)) ∙ sym
      (append_assoc (line_of e) (flat_map line_of bad.events) bad.rest);
  line = let l = bad.line in omega arith;
  bad = bad.bad;
}

lines_bad : (v : Version) (place : ℕ) (lines : List (List ℕ)) (fault : JournalFault) →
    AllByRecursion (Without 10) lines → events_from v place lines ≡ Err fault →
    IsBadFrom v place (join_with_byte 10 lines) fault
lines_bad v place [] fault all e = absurd cc
lines_bad v place (last ∷ []) fault all e = ended_bad v place last fault all.0 e
lines_bad v place (line ∷ next ∷ lines) fault all e =
    elim (failed (placed place (event_of v (parts_of 32 line))) (λ x. events_from v (place + 1) (next ∷ lines) >>= λ xs.
    Ok (x ∷ xs)) fault e) [
      | inl first ↦
          let why = placed_bad place (event_of v (parts_of 32 line)) fault first in
          record {
            events = [];
            rest = line ++ 10 ∷ join_with_byte 10 (next ∷ lines);
            bounds = tt;
            spelled = refl;
            line = let l = why.1 in omega arith;
            bad = inr (record {
              line = line;
              behind = join_with_byte 10 (next ∷ lines);
              spelled = refl;
              one_line = one_line line all.0;
              refused = line_refused v line fault.cause why.0;
            });
          }
      | inr went ↦ elim (failed (events_from v (place + 1) (next ∷ lines)) (λ xs. Ok (went.0 ∷ xs)) fault went.2) [
        | inl later ↦
            one_more_line v place line (join_with_byte 10 (next ∷ lines)) went.0 fault
            (line_spelled v line went.0 (placed_ok place (event_of v (parts_of 32 line)) went.0 went.1))
            (lines_bad v (place + 1) (next ∷ lines) fault all.1 later)
        | inr never ↦ absurd (let no = never.2 in cc)
      ]
    ]

-- a text that begins with no header's line
header_bad : (text header : List ℕ) → parts_of 10 text ≡ header ∷ [] → (v : Version) (rest : List ℕ) →
    text ≢ header_of v ++ 10 ∷ rest
header_bad text header one v rest is =
    let more = some_part 10 rest in
    let two : header ∷ [] ≡ header_of v ∷ more.0 ∷ more.1 =
    sym one ∙ ap (parts_of 10) is ∙ parts_of-part 10 (header_of v) rest refl (header_without_feed v) ∙ ap
    (λ (ps : List (List ℕ)). header_of v ∷ ps) more.2 in
    cc

header_unknown : (text header next : List ℕ) (lines : List (List ℕ)) → parts_of 10 text ≡ header ∷ next ∷ lines →
    version_of header ≡ None → (v : Version) (rest : List ℕ) → text ≢ header_of v ++ 10 ∷ rest
header_unknown text header next lines parts unknown v rest is =
    let two : header ∷ next ∷ lines ≡ header_of v ∷ parts_of 10 rest =
    sym parts ∙ ap (parts_of 10) is ∙ parts_of-part 10 (header_of v) rest refl (header_without_feed v) in
    let same : header ≡ header_of v = cc in
    let known : version_of header ≡ Some v = ap version_of same ∙ header_known v in
    cc

headless : (text : List ℕ) (fault : JournalFault) → ((v : Version) (rest : List ℕ) → text ≢ header_of v ++ 10 ∷ rest) →
    record { line = 1; cause = Header } ≡ fault → IsFirstFault text fault
headless text fault other same = inl (record { told = sym same; other = other })

behind_bad : (text header next : List ℕ) (lines : List (List ℕ)) (r : Option Version) (fault : JournalFault) →
    version_of header ≡ r → parts_of 10 text ≡ header ∷ next ∷ lines → lines_behind r (next ∷ lines) ≡ Err fault →
    IsFirstFault text fault
behind_bad text header next lines None fault known parts e =
    headless text fault (header_unknown text header next lines parts known) cc
behind_bad text header next lines (Some v) fault known parts e =
    let all : AllByRecursion (Without 10) (header ∷ next ∷ lines) =
    subst (AllByRecursion (Without 10)) parts (parts_without 10 text) in
    let bad = lines_bad v 2 (next ∷ lines) fault all.1 e in
    let whole : text ≡ header ++ 10 ∷ join_with_byte 10 (next ∷ lines) =
    sym (join_with_byte-slice_split 10 text) ∙ ap (join_with_byte 10) parts in
    inr (record {
      version = v;
      events = bad.events;
      rest = bad.rest;
      bounds = bad.bounds;
      spelled = whole ∙ ap (λ (h : List ℕ). h ++ 10 ∷ join_with_byte 10 (next ∷ lines)) (header_is header v known) ∙ ap
          (λ (t : List ℕ). header_of v
          ++ 10 ∷ t) bad.spelled ∙ sym (append_assoc (header_of v) (10 ∷ flat_map line_of bad.events) bad.rest);
      line = bad.line;
      bad = bad.bad;
    })

parts_bad : (text : List ℕ) (parts : List (List ℕ)) (fault : JournalFault) → parts_of 10 text ≡ parts →
    journal_from parts ≡ Err fault → IsFirstFault text fault
parts_bad text [] fault is e = let more = some_part 10 text in absurd (let never = sym is ∙ more.2 in cc)
parts_bad text (header ∷ []) fault is e = headless text fault (header_bad text header is) cc
parts_bad text (header ∷ next ∷ lines) fault is e =
    behind_bad text header next lines (version_of header) fault refl is e

pub fault_found : (text : List ℕ) (fault : JournalFault) → journal_of text ≡ Err fault → IsFirstFault text fault
fault_found text fault e = parts_bad text (parts_of 10 text) fault refl e

pub faults_found : {A : Type 0} (answer : Result A (Refuse JournalFault)) (text : List ℕ) →
    IfBad answer (λ fault. journal_of text ≡ Err fault) → IfBad answer (λ fault. IsFirstFault text fault)
faults_found (Ok value) text is = tt
faults_found (Err (Bad fault)) text is = fault_found text fault is
faults_found (Err NoMemory) text is = tt

-- and the other way round
cut_again : (v : Version) (place : ℕ) (rest : List ℕ) → rest ≢ [] →
    ended place rest ≡ Err (record { line = place; cause = Cut })
cut_again v place [] some = absurd (some refl)
cut_again v place (byte ∷ bytes) some = refl

rest_again : (v : Version) (place : ℕ) (rest : List ℕ) (cause : JournalCause) →
    IsCut rest cause ⊎ IsRefused v rest cause →
    events_from v place (parts_of 10 rest) ≡ Err (record { line = place; cause = cause })
rest_again v place rest cause (inl cut) =
    ap (events_from v place) (parts_of-last 10 rest (without rest cut.one_line)) ∙ cut_again v place rest cut.some ∙ ap
    (λ (c : JournalCause). Err (record { line = place; cause = c })) (sym cut.named)
rest_again v place rest cause (inr bad) =
    ap (λ (t : List ℕ). events_from v place (parts_of 10 t)) bad.spelled
    ∙ ap (events_from v place) (parts_of-part 10 bad.line bad.behind refl (without bad.line bad.one_line))
    ∙ events_more v place bad.line bad.behind ∙ rw (refused_again v bad.line cause bad.refused) refl

bad_again : (v : Version) (place line : ℕ) (events : List Event) (rest : List ℕ) (cause : JournalCause) →
    AllByRecursion (IsEvent v) events → line ≡ place + length events → IsCut rest cause ⊎ IsRefused v rest cause →
    events_from v place (parts_of 10 (flat_map line_of events ++ rest)) ≡ Err (record { line = line; cause = cause })
bad_again v place line [] rest cause all at bad =
    let same : place ≡ line = omega arith in
    rest_again v place rest cause bad ∙ ap (λ (l : ℕ). Err (record { line = l; cause = cause })) same
bad_again v place line (e ∷ events) rest cause all at bad =
    let more = flat_map line_of events ++ rest in
    let text : flat_map line_of (e ∷ events) ++ rest ≡ words_of e ++ 10 ∷ more =
    append_assoc (line_of e) (flat_map line_of events) rest ∙ append_assoc (words_of e) (10 ∷ []) more in
    let parts : parts_of 10 (flat_map line_of (e ∷ events) ++ rest) ≡ words_of e ∷ parts_of 10 more =
    ap (parts_of 10) text ∙ parts_of-part 10 (words_of e) more refl (without_feed v e all.0) in
    let said : event_of v (parts_of 32 (words_of e)) ≡ Ok e =
    ap (event_of v) (words_found v e all.0) ∙ event_again v e all.0 in
    let later = bad_again v (place + 1) line events rest cause all.1 (omega arith) bad in
    ap (events_from v place) parts ∙ events_more v place (words_of e) more ∙ rw (said, later) refl

faulty_again : (text : List ℕ) (fault : JournalFault) → IsFaulty text fault → journal_of text ≡ Err fault
faulty_again text fault is =
    let whole : text ≡ header_of is.version ++ 10 ∷ (flat_map line_of is.events ++ is.rest) =
    is.spelled ∙ append_assoc (header_of is.version) (10 ∷ flat_map line_of is.events) is.rest in
    let lines = flat_map line_of is.events ++ is.rest in
    ap journal_from (ap (parts_of 10) whole ∙ parts_of-part 10 (header_of is.version) lines refl
    (header_without_feed is.version))
    ∙ journal_more (header_of is.version) lines ∙ ap (λ (r : Option Version). lines_behind r (parts_of 10 lines))
    (header_known is.version)
    ∙ bad_again is.version 2 fault.line is.events is.rest fault.cause is.bounds is.line is.bad

none_known : (r : Option Version) (lines : List (List ℕ)) → ((v : Version) → r ≡ Some v → ⊥) →
    lines_behind r lines ≡ Err (record { line = 1; cause = Header })
none_known None lines never = refl
none_known (Some v) lines never = absurd (never v refl)

parts_headless : (text : List ℕ) (parts : List (List ℕ)) → parts_of 10 text ≡ parts →
    ((v : Version) (rest : List ℕ) → text ≢ header_of v ++ 10 ∷ rest) →
    journal_from parts ≡ Err (record { line = 1; cause = Header })
parts_headless text [] is other = refl
parts_headless text (header ∷ []) is other = refl
parts_headless text (header ∷ next ∷ lines) is other =
    none_known (version_of header) (next
    ∷ lines) (λ v known. other v (join_with_byte 10 (next ∷ lines))
    (sym (join_with_byte-slice_split 10 text) ∙ ap (join_with_byte 10) is ∙ ap (λ (h : List ℕ). h
    ++ 10 ∷ join_with_byte 10 (next ∷ lines)) (header_is header v known)))

pub fault_again : (text : List ℕ) (fault : JournalFault) → IsFirstFault text fault → journal_of text ≡ Err fault
fault_again text fault (inl is) = parts_headless text (parts_of 10 text) refl is.other ∙ ap Err (sym is.told)
fault_again text fault (inr is) = faulty_again text fault is

pub each_text : (text : List ℕ) (read : Result (List Event) JournalFault) → journal_of text ≡ read →
    ((events : List Event) × IsSpelling events text) ⊎ ((fault : JournalFault) × IsFirstFault text fault)
each_text text (Ok events) e = inl (events, accepted text events e)
each_text text (Err fault) e = inr (fault, fault_found text fault e)

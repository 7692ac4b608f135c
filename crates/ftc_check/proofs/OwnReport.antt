-- No line of a report that was written without taps is a tap's, and with taps their lines are those at its end.
use Rattle.std.proofs.Common.{inl, ℕ, List, [], ◌∷◌, ◌++◌, length, refl, sym, subst, append_assoc}
use Rattle.std.specs.Prelude.{codes, count_by, decimal}
use Rattle.std.specs.List.{AllByRecursion, flat_map, enumerate_from}
use Rattle.std.proofs.lemmas.List.{append-nil}
use Rattle.std.specs.FinMap.{len, entries}
use Rattle.hex.specs.Hex.{encode_lower}
use Rattle.ftc_journal.specs.declared.event.Event.{Event}
use Rattle.ftc_protocol.specs.declared.fate.Fate.{Fate}
use Rattle.ftc_protocol.specs.declared.fate.Fate.TheVariants.{Released, Filtered, Lost, Inside}
use Rattle.ftc_protocol.specs.Setting.{Setting}
use Rattle.ftc_protocol.specs.State.{opening}
use Rattle.ftc_protocol.specs.Fates.{fates_in}
use Rattle.ftc_protocol.specs.Run.{state_after}
use Rattle.ftc_store.specs.Store.{Content}
use Rattle.ftc_report.specs.Contents.{contents_after}
use Rattle.ftc_report.specs.Report.{report_of}
use Rattle.ftc_report.specs.Text.{is_released, is_filtered, is_lost, count_line, count_lines, head, fate_line}
use Rattle.ftc_report.specs.Text.{value_text, key_line, store_line, store_lines, tap_line, report_text}
use Rattle.ftc_check.specs.Taps.{IsWithoutTaps}
use Rattle.ftc_outside.specs.Tap.{HasNoFeed}
use Rattle.ftc_outside.proofs.Plain.{plain_word, plain_together, plain_decimal}
use Rattle.ftc_check.proofs.Cuts.{tap_more}
use Rattle.ftc_check.proofs.Lines.{IsWhole, whole_before_feed}
use Rattle.ftc_check.proofs.Plain.{plain_hex}
use Rattle.ftc_check.proofs.Own.{IsOwn, KeepsOwn, IsOther, nothing_own, keeps_nothing, keeps_both, keeps_all, begins}
use Rattle.ftc_check.proofs.Own.{goes_on, keeps_line, keeps_word}

count_starts : (what : List ℕ) (count : ℕ) → IsOther what → IsOther ((what ++ codes " ") ++ decimal count)
count_starts what count is =
    goes_on (what ++ codes " ") (decimal count) (goes_on what (codes " ") is (plain_word (codes " ") refl))
    (plain_decimal count)

keeps_count : (what : List ℕ) (count : ℕ) → IsOther what → KeepsOwn (count_line what count)
keeps_count what count is = keeps_line ((what ++ codes " ") ++ decimal count) (count_starts what count is)

keeps_counts : (fates : List Fate) → KeepsOwn (count_lines fates)
unfolding count_lines
keeps_counts fates =
    let packets = count_line (codes "packets") (length fates) in
    let released = count_line (codes "released") (count_by is_released fates) in
    let filtered = count_line (codes "filtered") (count_by is_filtered fates) in
    let lost = count_line (codes "lost") (count_by is_lost fates) in
    keeps_both (packets ++ released ++ filtered) lost
    (keeps_both (packets ++ released) filtered
    (keeps_both packets released
    (keeps_count (codes "packets") (length fates) (begins (codes "packets") refl (λ rest. refl)))
    (keeps_count (codes "released") (count_by is_released fates) (begins (codes "released") refl (λ rest. refl))))
    (keeps_count (codes "filtered") (count_by is_filtered fates) (begins (codes "filtered") refl (λ rest. refl))))
    (keeps_count (codes "lost") (count_by is_lost fates) (begins (codes "lost") refl (λ rest. refl)))

keeps_head : (fates : List Fate) → KeepsOwn (head fates)
keeps_head fates = keeps_both (codes "ftc-report 1\n") (count_lines fates)
    (keeps_line (codes "ftc-report 1") (begins (codes "ftc-report 1") refl (λ rest. refl))) (keeps_counts fates)

fate_starts : (packet : ℕ) → IsOther (codes "fate " ++ decimal packet)
fate_starts packet = goes_on (codes "fate ") (decimal packet) (begins (codes "fate ") refl (λ rest. refl))
    (plain_decimal packet)

-- a fate with its number
keeps_told : (packet number : ℕ) (told : List ℕ) → HasNoFeed told →
    KeepsOwn (codes "fate " ++ decimal packet ++ told ++ decimal number ++ codes "\n")
keeps_told packet number told plain =
    let start = codes "fate " ++ decimal packet in
    keeps_line (start ++ told
    ++ decimal number) (goes_on (start ++ told) (decimal number) (goes_on start told (fate_starts packet) plain)
    (plain_decimal number))

keeps_fate : (numbered : ℕ × Fate) → KeepsOwn (fate_line numbered)
unfolding fate_line
keeps_fate (packet, Released) =
    keeps_word (codes "fate " ++ decimal packet) (codes " released") (fate_starts packet)
    (plain_word (codes " released") refl)
keeps_fate (packet, Filtered server) =
    keeps_told packet server (codes " filtered ") (plain_word (codes " filtered ") refl)
keeps_fate (packet, Lost event) = keeps_told packet event (codes " lost ") (plain_word (codes " lost ") refl)
keeps_fate (packet, Inside) =
    keeps_word (codes "fate " ++ decimal packet) (codes " inside") (fate_starts packet)
    (plain_word (codes " inside") refl)

plain_value : (value : List ℕ) → HasNoFeed (value_text value)
plain_value [] = plain_word (codes "-") refl
plain_value (byte ∷ bytes) = plain_hex (byte ∷ bytes)

keeps_key : (entry : List ℕ × List ℕ) → KeepsOwn (key_line entry)
unfolding key_line
keeps_key (key, value) =
    let start = codes "key " ++ encode_lower key in
    let begun : IsOther start =
    goes_on (codes "key ") (encode_lower key) (begins (codes "key ") refl (λ rest. refl)) (plain_hex key) in
    keeps_line (start ++ codes " "
    ++ value_text value) (goes_on (start
    ++ codes " ") (value_text value) (goes_on start (codes " ") begun (plain_word (codes " ") refl))
    (plain_value value))

keeps_store_line : (server count : ℕ) → KeepsOwn (store_line server count)
unfolding store_line
keeps_store_line server count =
    let start = codes "store " ++ decimal server in
    keeps_count start count (goes_on (codes "store ") (decimal server) (begins (codes "store ") refl (λ rest. refl))
    (plain_decimal server))

keeps_store : (numbered : ℕ × Content) → KeepsOwn (store_lines numbered)
keeps_store (server, content) =
    keeps_both (store_line server (len content)) (flat_map key_line (entries content))
    (keeps_store_line server (len content)) (keeps_all key_line keeps_key (entries content))

keeps_report : (fates : List Fate) (contents : List Content) → KeepsOwn (report_text fates contents [])
keeps_report fates contents =
    let lines = flat_map fate_line (enumerate_from 0 fates) in
    let stores = flat_map store_lines (enumerate_from 0 contents) in
    keeps_both (head fates ++ lines ++ stores) []
    (keeps_both (head fates ++ lines) stores
    (keeps_both (head fates) lines (keeps_head fates) (keeps_all fate_line keeps_fate (enumerate_from 0 fates)))
    (keeps_all store_lines keeps_store (enumerate_from 0 contents)))
    keeps_nothing

-- the line of a tap is one more that is left out
tap_left_out : (line text front : List ℕ) → HasNoFeed line → IsWhole text → IsWithoutTaps text front →
    IsWhole (text ++ tap_line line) × IsWithoutTaps (text ++ tap_line line) front
unfolding tap_line
tap_left_out line text front plain whole held =
    let told : List ℕ = codes "tap " ++ line in
    let no_feed : HasNoFeed told = plain_together (codes "tap ") line (plain_word (codes "tap ") refl) plain in (
      subst IsWhole (append_assoc text told (10 ∷ [])) (whole_before_feed (text ++ told)),
      tap_more text (told ++ 10 ∷ []) told front whole (no_feed, inl refl) refl held,
    )

taps_left_out : (lines : List (List ℕ)) (text front : List ℕ) → AllByRecursion HasNoFeed lines → IsWhole text →
    IsWithoutTaps text front → IsWithoutTaps (text ++ flat_map tap_line lines) front
taps_left_out [] text front plain whole held =
    subst (λ (all : List ℕ). IsWithoutTaps all front) (sym (append-nil text)) held
taps_left_out (line ∷ lines) text front plain whole held =
    let one = tap_left_out line text front plain.0 whole held in
    subst (λ (all : List ℕ). IsWithoutTaps all front) (append_assoc text (tap_line line) (flat_map tap_line lines))
    (taps_left_out lines (text ++ tap_line line) front plain.1 one.0 one.1)

pub own : (c : Setting) (journal : List Event) (lines : List (List ℕ)) → AllByRecursion HasNoFeed lines →
    IsWithoutTaps (report_of c journal lines) (report_of c journal [])
own c journal lines plain =
    let fates : List Fate = fates_in c (state_after c (opening c) journal) in
    let contents : List Content = contents_after c.rules c.packets journal in
    let text : List ℕ = head fates ++ flat_map fate_line (enumerate_from 0 fates)
    ++ flat_map store_lines (enumerate_from 0 contents) in
    let all : IsOwn (text ++ []) = keeps_report fates contents [] nothing_own in
    taps_left_out lines text (text ++ []) plain (subst IsWhole (append-nil text) all.whole)
    (subst (λ (seen : List ℕ). IsWithoutTaps seen (text ++ [])) (append-nil text) all.stays)

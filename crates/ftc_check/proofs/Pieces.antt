-- A line of a text, with its line feed, behind the lines before it.
use Rattle.std.proofs.Common.{◌≡◌, ◌≢◌, inl, inr, ℕ, suc, ◌+◌, ◌-◌, ◌≤◌, ◌<◌, true, false, List, [], ◌∷◌, ◌++◌, length}
use Rattle.std.proofs.Common.{take, drop, Some, ap, sym, subst, ◌∙◌, arith, append_assoc, length-drop, length-take}
use Rattle.std.specs.Prelude.{slice_get, slice_range}
use Rattle.std.proofs.Math.Seq.{take-add, drop-cons}
use Rattle.std.proofs.Math.ListN.{drop_of_length-le}
use Rattle.std.proofs.lemmas.List.{drop-drop}
use Rattle.std.proofs.lemmas.List.Elements.{recursion_from_All}
use Rattle.std.proofs.lemmas.Option.{get_or_from_slice_get, slice_get_within}
use Rattle.ftc_base.specs.declared.lexer.Line.{Line}
use Rattle.ftc_base.specs.Text.{IsLine}
use Rattle.ftc_check.specs.Taps.{is_tap_line, IsBetweenLines, IsWithoutTaps}
use Rattle.ftc_check.proofs.Lines.{IsWhole, IsPiece, whole_before_feed}
use Rattle.ftc_check.proofs.Cuts.{tap_more, other_more}

-- the part of the text up to that place
abbrev part : List ℕ → ℕ → ℕ → List ℕ
part text from next = take (next - from) (drop from text)

part_with_feed : (text : List ℕ) (from end : ℕ) → from ≤ end → slice_get text end ≡ Some 10 →
    part text from (end + 1) ≡ part text from end ++ 10 ∷ []
part_with_feed text from end ordered feed =
    let within : end < length text = slice_get_within text end 10 feed in
    let size : (end + 1) - from ≡ (end - from) + 1 = omega arith in
    let place : from + (end - from) ≡ end = omega arith in
    let rest : drop (end - from) (drop from text) ≡ 10 ∷ drop (suc end) text =
    drop-drop (end - from) from text ∙ ap (λ (n : ℕ). drop n text) place ∙ drop-cons text end 10 within ∙ ap
    (λ (b : ℕ). b ∷ drop (suc end) text) (get_or_from_slice_get text end 10 10 feed)
    in
    rw size (take-add (end - from) 1 (drop from text) ∙ ap (λ (behind : List ℕ). part text from end
    ++ take 1 behind) rest)

body_is : (text : List ℕ) (from : ℕ) (line : Line) → IsLine text from line →
    slice_range text line.start line.end ≡ part text from line.end
body_is text from line is = ap (λ (n : ℕ). take (line.end - n) (drop n text)) is.start

is_piece : (text : List ℕ) (from : ℕ) (line : Line) → IsLine text from line → from < length text →
    IsPiece (part text from line.next) (slice_range text line.start line.end)
is_piece text from line is some = (
  recursion_from_All (λ b. b ≢ 10) (slice_range text line.start line.end) is.no_feed,
  elim is.ended [
    | inl feed ↦
        let ordered : from ≤ line.end = omega (arith, is.start, is.ordered) in
        inl (ap (part text from) feed.1 ∙ part_with_feed text from line.end ordered feed.0 ∙ ap (λ (body : List ℕ). body
        ++ 10 ∷ []) (sym (body_is text from line is)))
    | inr end ↦
        let same : line.next ≡ line.end = end.1 ∙ sym end.0 in
        inr (
          ap (part text from) same ∙ sym (body_is text from line is),
          λ none. (let nothing : part text from line.end ≡ [] = sym (body_is text from line is) ∙ none in
              omega (
                arith,
                end.0,
                ap length nothing,
                length-take (line.end - from) (drop from text),
                length-drop from text,
              )),
        )
  ],
)

seen_more : (text : List ℕ) (from next : ℕ) → from ≤ next → take next text ≡ take from text ++ part text from next
seen_more text from next ordered =
    let place : from + (next - from) ≡ next = omega arith in
    rw place at (take-add from (next - from) text)

pub goes_on : (text : List ℕ) (from : ℕ) (line : Line) → IsLine text from line → from ≤ line.next
goes_on text from line is = elim is.ended [
  | inl feed ↦ omega (arith, is.start, is.ordered, feed.1)
  | inr end ↦ omega (arith, is.start, is.ordered, end.0, end.1)
]

pub stays_within : (text : List ℕ) (from : ℕ) (line : Line) → IsLine text from line → line.next ≤ length text
stays_within text from line is = elim is.ended [
  | inl feed ↦ let within : line.end < length text = slice_get_within text line.end 10 feed.0 in omega (arith, feed.1)
  | inr end ↦ omega (arith, end.1)
]

pub between_next : (text : List ℕ) (from : ℕ) (line : Line) → IsLine text from line →
    IsBetweenLines (take line.next text) (drop line.next text)
between_next text from line is = elim is.ended [
  | inl feed ↦
      let ordered : from ≤ line.end = omega (arith, is.start, is.ordered) in
      inr (inr (
        take from text ++ part text from line.end,
        seen_more text from line.next (goes_on text from line is)
            ∙ ap (λ (n : ℕ). take from text ++ part text from n) feed.1
            ∙ ap (λ (piece : List ℕ). take from text ++ piece) (part_with_feed text from line.end ordered feed.0)
            ∙ sym (append_assoc (take from text) (part text from line.end) (10 ∷ [])),
      ))
  | inr end ↦ let past : length text ≤ line.next = omega (arith, end.1) in inr (inl (drop_of_length-le text past))
]

seen_whole : (text : List ℕ) (from : ℕ) → from < length text → IsBetweenLines (take from text) (drop from text) →
    IsWhole (take from text)
seen_whole text from some between = elim between [
  | inl none ↦ subst IsWhole (sym none) tt
  | inr later ↦ elim later [
    | inl end ↦ absurd (omega (arith, ap length end, length-drop from text))
    | inr ended ↦ subst IsWhole (sym ended.1) (whole_before_feed ended.0)
  ]
]

pub next_tap : (text : List ℕ) (from end : ℕ) (line : Line) → IsLine text from line → from < length text →
    IsBetweenLines (take from text) (drop from text) → IsWithoutTaps (take from text) (take end text)
    → is_tap_line (slice_range text line.start line.end) ≡ true → IsWithoutTaps (take line.next text) (take end text)
next_tap text from end line is some between held tap =
    let longer = tap_more (take from text) (part text from line.next) (slice_range text line.start line.end)
    (take end text) (seen_whole text from some between) (is_piece text from line is some) tap held in
    subst (λ (seen : List ℕ). IsWithoutTaps seen (take end text))
    (sym (seen_more text from line.next (goes_on text from line is))) longer

pub next_other : (text : List ℕ) (from : ℕ) (line : Line) → IsLine text from line → from < length text →
    IsBetweenLines (take from text) (drop from text)
    → is_tap_line (slice_range text line.start line.end) ≡ false →
    IsWithoutTaps (take line.next text) (take line.next text)
next_other text from line is some between other =
    let longer = other_more (take from text) (part text from line.next) (slice_range text line.start line.end)
    (seen_whole text from some between) (is_piece text from line is some) other in
    subst (λ (seen : List ℕ). IsWithoutTaps seen seen)
    (sym (seen_more text from line.next (goes_on text from line is))) longer

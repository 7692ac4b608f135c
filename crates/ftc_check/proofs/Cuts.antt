-- The shortest front of a text, and one line more.
use Rattle.std.proofs.Common.{◌≡◌, ◌≢◌, inl, inr, ℕ, ◌≤◌, ◌<◌, true, false, List, [], ◌∷◌, ◌++◌, length, refl, ap, sym}
use Rattle.std.proofs.Common.{subst, ◌∙◌, arith, append_assoc, length-append}
use Rattle.std.specs.Prelude.{◌&&◌}
use Rattle.std.specs.List.{AllPass, list_all}
use Rattle.std.proofs.lemmas.Bool.{cases_lt, and_parts}
use Rattle.std.proofs.lemmas.List.{append-nil}
use Rattle.std.proofs.lemmas.List.Elements.{All-nil}
use Rattle.std.proofs.lemmas.List.Folds.{list_all-append}
use Rattle.std.proofs.lemmas.List.Sums.{AllPass-from_list_all, list_all-from_AllPass}
use Rattle.ftc_base.specs.Text.{lines_of}
use Rattle.ftc_check.specs.Taps.{is_tap_line, IsBetweenLines, IsCut, IsWithoutTaps}
use Rattle.ftc_check.proofs.Lines.{IsWhole, IsPiece, whole_before_feed, whole_rest, whole_parts, lines_together}
use Rattle.ftc_check.proofs.Lines.{lines_of_piece, piece_is_one}

-- of two ways to part a text, the longer front begins with the shorter
pub parted : (xs ys zs ws : List ℕ) → xs ++ ys ≡ zs ++ ws → length xs ≤ length zs →
    (m : List ℕ) × (zs ≡ xs ++ m) × (ys ≡ m ++ ws)
parted [] ys zs ws same short = (zs, refl, same)
parted (x ∷ xs) ys [] ws same short = absurd (omega arith)
parted (x ∷ xs) ys (z ∷ zs) ws same short =
    let first : z ≡ x = cc in
    let rest : xs ++ ys ≡ zs ++ ws = cc in
    let later = parted xs ys zs ws rest (omega arith) in
    (later.0, (let front = later.1 in cc), later.2)

none_in_front : (xs ys : List ℕ) → xs ++ ys ≡ [] → xs ≡ []
none_in_front [] ys none = refl
none_in_front (x ∷ xs) ys none = absurd (cc)

-- the lines of a text that goes on with one line more
lines_more : (front piece line : List ℕ) → IsWhole front → IsPiece piece line →
    lines_of (front ++ piece) ≡ lines_of front ++ line ∷ []
lines_more front piece line whole one =
    lines_together front piece whole ∙ ap (λ (ls : List (List ℕ)). lines_of front ++ ls) (lines_of_piece piece line one)

-- all pass where the last does, and only there
all_more : (front piece line : List ℕ) → IsWhole front → IsPiece piece line → AllPass is_tap_line (lines_of front) →
    is_tap_line line ≡ true → AllPass is_tap_line (lines_of (front ++ piece))
all_more front piece line whole one all last =
    let tests : list_all is_tap_line (lines_of front) ≡ true = list_all-from_AllPass is_tap_line (lines_of front) all in
    AllPass-from_list_all is_tap_line (lines_of (front ++ piece)) (rw (
      lines_more front piece line whole one,
      list_all-append is_tap_line (lines_of front) (line ∷ []),
      tests,
      last,
    ) refl)

all_parts : (front piece line : List ℕ) → IsWhole front → IsPiece piece line →
    AllPass is_tap_line (lines_of (front ++ piece)) → AllPass is_tap_line (lines_of front) × (is_tap_line line ≡ true)
all_parts front piece line whole one all =
    let tests : list_all is_tap_line (lines_of (front ++ piece)) ≡ true =
    list_all-from_AllPass is_tap_line (lines_of (front ++ piece)) all in
    let parts : (list_all is_tap_line (lines_of front) && list_all is_tap_line (line ∷ [])) ≡ true =
    rw (
      ← list_all-append is_tap_line (lines_of front) (line ∷ []),
      ← lines_more front piece line whole one,
    ) tests in
    let both = and_parts (list_all is_tap_line (lines_of front)) (list_all is_tap_line (line ∷ [])) parts in
    (AllPass-from_list_all is_tap_line (lines_of front) both.0, (and_parts (is_tap_line line) true both.1).0)

-- where a cut of the longer text lies in the text before, it is a cut of that too
cut_before : (seen piece line other behind : List ℕ) → IsWhole seen → IsPiece piece line →
    IsCut (seen ++ piece) other behind → length other ≤ length seen → (m : List ℕ) × IsCut seen other m
    × (is_tap_line line ≡ true)
cut_before seen piece line other behind whole one cut short =
    let parts = parted other behind seen piece (sym cut.parts) short in
    let m = parts.0 in
    let whole_m : IsWhole m = whole_rest other m (subst IsWhole parts.1 whole) in
    let tests = all_parts m piece line whole_m one
    (subst (λ (rest : List ℕ). AllPass is_tap_line (lines_of rest)) parts.2 cut.taps) in
    let between : IsBetweenLines other m = elim cut.between [
      | inl none ↦ inl none
      | inr later ↦ elim later [
        | inl end ↦ inr (inl (none_in_front m piece (sym parts.2 ∙ end)))
        | inr ended ↦ inr (inr ended)
      ]
    ] in
    (m, record { parts = parts.1; between = between; taps = tests.0 }, tests.1)

-- a tap's line more is left out too
pub tap_more : (seen piece line front : List ℕ) → IsWhole seen → IsPiece piece line → is_tap_line line ≡ true →
    IsWithoutTaps seen front → IsWithoutTaps (seen ++ piece) front
tap_more seen piece line front whole one tap held =
    let whole_behind : IsWhole held.rest = whole_rest front held.rest (subst IsWhole held.cut.parts whole) in
    let between : IsBetweenLines front (held.rest ++ piece) = elim held.cut.between [
      | inl none ↦ inl none
      | inr later ↦ elim later [
        | inl end ↦
            let all : seen ≡ front = held.cut.parts ∙ ap (λ (rest : List ℕ). front ++ rest) end ∙ append-nil front in
            elim (whole_parts seen whole) [
              | inl none ↦ inl (sym all ∙ none)
              | inr ended ↦ inr (inr (ended.0, sym all ∙ ended.1))
            ]
        | inr ended ↦ inr (inr ended)
      ]
    ] in
    record {
      rest = held.rest ++ piece;
      cut = record {
        parts = ap (λ (text : List ℕ). text ++ piece) held.cut.parts ∙ append_assoc front held.rest piece;
        between = between;
        taps = all_more held.rest piece line whole_behind one held.cut.taps tap;
      };
      shortest = λ other behind cut. elim (cases_lt (length seen) (length other)) [
        | inl longer ↦ omega (arith, ap length held.cut.parts, length-append front held.rest)
        | inr short ↦
            let before = cut_before seen piece line other behind whole one cut short in
            held.shortest other before.0 before.1
      ];
    }

-- behind another line nothing is left out
pub other_more : (seen piece line : List ℕ) → IsWhole seen → IsPiece piece line → is_tap_line line ≡ false →
    IsWithoutTaps (seen ++ piece) (seen ++ piece)
other_more seen piece line whole one other_line = record {
  rest = [];
  cut = record {
    parts = sym (append-nil (seen ++ piece));
    between = inr (inl refl);
    taps = All-nil (λ (l : List ℕ). is_tap_line l ≡ true);
  };
  shortest = λ other behind cut. elim (cases_lt (length seen) (length other)) [
    | inl longer ↦ all_of_it other behind cut longer
    | inr short ↦
        let before = cut_before seen piece line other behind whole one cut short in
        let tap : is_tap_line line ≡ true = before.2 in absurd (cc)
  ];
}
  where
    all_of_it : (other behind : List ℕ) → IsCut (seen ++ piece) other behind → length seen < length other →
        length (seen ++ piece) ≤ length other
    all_of_it other behind cut longer =
        let parts = parted seen piece other behind cut.parts (omega arith) in
        let m = parts.0 in
        let some : m ≢ [] = λ none. (let same : other
        ≡ seen = parts.1 ∙ ap (λ (rest : List ℕ). seen ++ rest) none ∙ append-nil seen in
        omega (arith, ap length same)) in
        let end : behind ≡ [] = elim cut.between [
          | inl none ↦ absurd (omega (arith, ap length none))
          | inr later ↦ elim later [
            | inl end ↦ end
            | inr ended ↦ piece_is_one m behind piece line one
                (whole_rest seen m (subst IsWhole (sym ended.1 ∙ parts.1) (whole_before_feed ended.0))) some
                (sym parts.2)
          ]
        ] in
        let same : seen ++ piece ≡ other = cut.parts ∙ ap (λ (rest : List ℕ). other ++ rest) end ∙ append-nil other in
        omega (arith, ap length same)

-- A text to which lines are added that are no lines of taps.
use Rattle.std.proofs.Common.{◌≡◌, inl, ℕ, true, false, List, [], ◌∷◌, ◌++◌, refl, ap, sym, subst, ◌∙◌, arith}
use Rattle.std.proofs.Common.{append_assoc}
use Rattle.std.specs.List.{flat_map}
use Rattle.std.proofs.lemmas.List.{append-nil}
use Rattle.std.proofs.lemmas.List.Elements.{All-nil}
use Rattle.ftc_check.specs.Taps.{is_tap_line, IsWithoutTaps}
use Rattle.ftc_outside.specs.Tap.{HasNoFeed}
use Rattle.ftc_outside.proofs.Plain.{is_plain, plain_word, plain_together}
use Rattle.ftc_check.proofs.Lines.{IsWhole, whole_before_feed}
use Rattle.ftc_check.proofs.Cuts.{other_more}

-- the text's last line has ended, and nothing is left out of it
pub record IsOwn (text : List ℕ) : Type 0 where
  pub whole : IsWhole text
  pub stays : IsWithoutTaps text text

-- what may be added to such a text
abbrev pub KeepsOwn : List ℕ → Type 0
KeepsOwn piece = (text : List ℕ) → IsOwn text → IsOwn (text ++ piece)

pub nothing_own : IsOwn []
nothing_own = record {
  whole = tt;
  stays = record {
    rest = [];
    cut = record { parts = refl; between = inl refl; taps = All-nil (λ (l : List ℕ). is_tap_line l ≡ true) };
    shortest = λ other behind cut. omega arith;
  };
}

pub keeps_nothing : KeepsOwn []
keeps_nothing text own = subst IsOwn (sym (append-nil text)) own

pub keeps_both : (piece more : List ℕ) → KeepsOwn piece → KeepsOwn more → KeepsOwn (piece ++ more)
keeps_both piece more keeps keeps-more text own =
    subst IsOwn (append_assoc text piece more) (keeps-more (text ++ piece) (keeps text own))

pub keeps_all : {A : Type 0} (f : A → List ℕ) → ((x : A) → KeepsOwn (f x)) → (xs : List A) → KeepsOwn (flat_map f xs)
keeps_all f each [] text own = keeps_nothing text own
keeps_all f each (x ∷ xs) text own = keeps_both (f x) (flat_map f xs) (each x) (keeps_all f each xs) text own

-- the beginning of a line that isn't a tap's, however it goes on
pub record IsOther (line : List ℕ) : Type 0 where
  pub plain : HasNoFeed line
  pub other : (rest : List ℕ) → is_tap_line (line ++ rest) ≡ false

pub begins : (word : List ℕ) → is_plain word ≡ true → ((rest : List ℕ) → is_tap_line (word ++ rest) ≡ false) →
    IsOther word
begins word plain other = record { plain = plain_word word plain; other = other }

pub goes_on : (line word : List ℕ) → IsOther line → HasNoFeed word → IsOther (line ++ word)
goes_on line word is plain = record {
  plain = plain_together line word is.plain plain;
  other = λ rest. ap is_tap_line (append_assoc line word rest) ∙ is.other (word ++ rest);
}

pub keeps_line : (line : List ℕ) → IsOther line → KeepsOwn (line ++ 10 ∷ [])
keeps_line line is text own =
    let other : is_tap_line line ≡ false = ap is_tap_line (sym (append-nil line)) ∙ is.other [] in
    record {
      whole = subst IsWhole (append_assoc text line (10 ∷ [])) (whole_before_feed (text ++ line));
      stays = other_more text (line ++ 10 ∷ []) line own.whole (is.plain, inl refl) other;
    }

-- and one that ends with a word
pub keeps_word : (line word : List ℕ) → IsOther line → HasNoFeed word → KeepsOwn (line ++ (word ++ 10 ∷ []))
keeps_word line word is plain =
    subst KeepsOwn (append_assoc line word (10 ∷ [])) (keeps_line (line ++ word) (goes_on line word is plain))

-- Lines that are printed one after another.
use Rattle.std.proofs.Common.{◌≡◌, ℕ, ◌<◌, ◌+◌, List, [], ◌∷◌, ◌++◌, length, take, get_or, refl, sym, ap, ◌∙◌}
use Rattle.std.proofs.Common.{append_assoc}
use Rattle.std.proofs.lemmas.List.{take_more}
use Rattle.std.specs.Prelude.{codes, decimal}
use Rattle.std.specs.List.{join_with_byte}
use Rattle.ftc_script.specs.declared.statement.Statement.{Statement}
use Rattle.ftc_script.specs.declared.statement.Statement.TheVariants as said
use Rattle.ftc_script.specs.Plain.{words_in, plain_text}
use Rattle.ftc_watch.specs.declared.held.Held.{Held}
use Rattle.ftc_watch.specs.Lines.{held_words, held_text}

-- one more line
pub plain_more : (lines : List Statement) (line : Statement)
    → plain_text (lines ++ line ∷ []) ≡ plain_text lines ++ (join_with_byte 32 (words_in line) ++ 10 ∷ [])
plain_more [] line = refl
plain_more (first ∷ lines) line =
    ap (λ (rest : List ℕ). join_with_byte 32 (words_in first) ++ 10 ∷ rest) (plain_more lines line)
    ∙ sym (append_assoc (join_with_byte 32 (words_in first)) (10 ∷ plain_text lines)
    (join_with_byte 32 (words_in line) ++ 10 ∷ []))

pub held_more : (lines : List Held) (line : Held) → held_text (lines ++ line ∷ []) ≡ held_text lines ++
    (join_with_byte 32 (held_words line) ++ 10 ∷ [])
held_more [] line = refl
held_more (first ∷ lines) line =
    ap (λ (rest : List ℕ). join_with_byte 32 (held_words first) ++ 10 ∷ rest) (held_more lines line)
    ∙ sym (append_assoc (join_with_byte 32 (held_words first)) (10 ∷ held_text lines)
    (join_with_byte 32 (held_words line) ++ 10 ∷ []))

pub script_next : (out next line : List ℕ) (lines : List Statement) (i : ℕ) (d : Statement) → i < length lines
    → out ≡ plain_text (take i lines) → next ≡ out ++ line
    → line ≡ join_with_byte 32 (words_in (get_or lines i d)) ++ 10 ∷ []
    → next ≡ plain_text (take (i + 1) lines)
script_next out next line lines i d inside so_far more is =
    more ∙ ap (λ (o : List ℕ). o ++ line) so_far ∙ ap (λ (l : List ℕ). plain_text (take i lines) ++ l) is
    ∙ sym (plain_more (take i lines) (get_or lines i d))
    ∙ ap plain_text (sym (take_more lines i d inside))

pub held_next : (out next line : List ℕ) (lines : List Held) (i : ℕ) (held : Held) → i < length lines
    → held ≡ get_or lines i held → out ≡ held_text (take i lines) → next ≡ out ++ line
    → line ≡ join_with_byte 32 (held_words held) ++ 10 ∷ []
    → next ≡ held_text (take (i + 1) lines)
held_next out next line lines i held inside here so_far more is =
    more ∙ ap (λ (o : List ℕ). o ++ line) so_far ∙ ap (λ (l : List ℕ). held_text (take i lines) ++ l) is
    ∙ sym (held_more (take i lines) held)
    ∙ ap held_text (ap (λ (s : Held). take i lines ++ s ∷ []) here ∙ sym (take_more lines i held inside))

-- the words of a line, as they are printed
pub of_crash : (at server : ℕ) → codes "at " ++ (decimal at ++ (codes " crash " ++ (decimal server ++ codes "\n")))
    ≡ join_with_byte 32 (words_in (said.Crash at server)) ++ 10 ∷ []
of_crash at server = simp append_assoc

pub of_recover : (at server : ℕ) → codes "at " ++ (decimal at ++
    (codes " recover " ++ (decimal server ++ codes "\n"))) ≡ join_with_byte 32 (words_in (said.Recover at server))
    ++ 10 ∷ []
of_recover at server = simp append_assoc

pub of_lose : (link origin : ℕ) → codes "lose " ++ (decimal link ++ (codes " " ++ (decimal origin ++ codes "\n")))
    ≡ join_with_byte 32 (words_in (said.Lose link origin)) ++ 10 ∷ []
of_lose link origin = simp append_assoc

pub of_held : (at server group : ℕ) → codes "held " ++ (decimal at ++
    (codes " " ++ (decimal server ++ (codes " " ++ (decimal group ++ codes "\n"))))) ≡ join_with_byte 32
    (held_words (record { at = at; server = server; group = group })) ++ 10 ∷ []
of_held at server group = simp append_assoc

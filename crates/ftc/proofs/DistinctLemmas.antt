-- The names of a command are different.
use Rattle.std.proofs.Common.{◌≡◌, ◌≢◌, ℕ, zero, suc, Bool, true, false, not, ◌&&◌, ◌||◌, List, [], ◌∷◌, refl, None}
use Rattle.std.proofs.Common.{Some}
use Rattle.std.specs.Prelude.{slice_get}
use Rattle.std.specs.List.{list_any}
use Rattle.std.specs.Str.{bytes_eq}
use Rattle.std.proofs.lemmas.Slice.Eq.{bytes_eq-Decides}
use Rattle.ftc_base.proofs.Bools.{and_one, and_other}
use Rattle.ftc_words.specs.Command.{Named, Mode, plain, workers, alone, run, are_distinct, six_of, files_of}
use Rattle.ftc.specs.Writing.{AreDifferent}

neither : (a b : Bool) → not (a || b) ≡ true → a ≢ true
neither true b is e = cc
neither false b is e = cc

second_neither : (a b : Bool) → not (a || b) ≡ true → not b ≡ true
second_neither true b is = cc
second_neither false b is = is

-- a word is not one of those behind it
differs : (w v : List ℕ) (ws : List (List ℕ)) (place : ℕ) → not (list_any (bytes_eq w) ws) ≡ true →
    slice_get ws place ≡ Some v → w ≢ v
differs w v [] place none there same = cc
differs w v (u ∷ us) zero none there same =
    let here : u ≡ v = cc in
    neither (bytes_eq w u) (list_any (bytes_eq w) us) none ((bytes_eq-Decides w u).1 (rw here same))
differs w v (u ∷ us) (suc place) none there same =
    differs w v us place (second_neither (bytes_eq w u) (list_any (bytes_eq w) us) none) there same

first_differs : (w v : List ℕ) (ws : List (List ℕ)) (place : ℕ) → are_distinct (w ∷ ws) ≡ true →
    slice_get ws place ≡ Some v → w ≢ v
first_differs w v ws place distinct there = differs w v ws place (and_one _ (are_distinct ws) distinct) there

rest_distinct : (w : List ℕ) (ws : List (List ℕ)) → are_distinct (w ∷ ws) ≡ true → are_distinct ws ≡ true
rest_distinct w ws distinct = and_other (not (list_any (bytes_eq w) ws)) (are_distinct ws) distinct

six_differ : (a b c d e f : List ℕ) → are_distinct (a ∷ b ∷ c ∷ d ∷ e ∷ f ∷ []) ≡ true →
    AreDifferent (record { chain = a; script = b; capture = c; out = d; journal = e; report = f })
six_differ a b c d e f distinct =
    let from_script = rest_distinct a (b ∷ c ∷ d ∷ e ∷ f ∷ []) distinct in
    let from_capture = rest_distinct b (c ∷ d ∷ e ∷ f ∷ []) from_script in
    let from_out = rest_distinct c (d ∷ e ∷ f ∷ []) from_capture in
    let from_journal = rest_distinct d (e ∷ f ∷ []) from_out in
    record {
      chain = record {
        out = first_differs a d (b ∷ c ∷ d ∷ e ∷ f ∷ []) 2 distinct refl;
        journal = first_differs a e (b ∷ c ∷ d ∷ e ∷ f ∷ []) 3 distinct refl;
        report = first_differs a f (b ∷ c ∷ d ∷ e ∷ f ∷ []) 4 distinct refl;
      };
      script = record {
        out = first_differs b d (c ∷ d ∷ e ∷ f ∷ []) 1 from_script refl;
        journal = first_differs b e (c ∷ d ∷ e ∷ f ∷ []) 2 from_script refl;
        report = first_differs b f (c ∷ d ∷ e ∷ f ∷ []) 3 from_script refl;
      };
      capture = record {
        out = first_differs c d (d ∷ e ∷ f ∷ []) 0 from_capture refl;
        journal = first_differs c e (d ∷ e ∷ f ∷ []) 1 from_capture refl;
        report = first_differs c f (d ∷ e ∷ f ∷ []) 2 from_capture refl;
      };
      written = record {
        out_journal = first_differs d e (e ∷ f ∷ []) 0 from_out refl;
        out_report = first_differs d f (e ∷ f ∷ []) 1 from_out refl;
        journal_report = first_differs e f (f ∷ []) 0 from_journal refl;
      };
    }

names_differ : (names : Named) → are_distinct (six_of names) ≡ true → AreDifferent names
names_differ names distinct =
    six_differ names.chain names.script names.capture names.out names.journal names.report distinct

-- whatever the options of a run give
pub run_differs : (names : Named) (mode : Mode) → are_distinct (files_of (run names mode)) ≡ true → AreDifferent names
run_differs names plain distinct = names_differ names distinct
run_differs names (workers count) distinct = names_differ names distinct
run_differs names (alone schedule None) distinct = names_differ names (rest_distinct schedule (six_of names) distinct)
run_differs names (alone schedule (Some moved)) distinct =
    names_differ names (rest_distinct moved.1 (six_of names) (rest_distinct schedule (moved.1 ∷ six_of names) distinct))

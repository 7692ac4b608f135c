-- A command with two options and names takes all words of the form.
use Rattle.std.proofs.Common.{◌≡◌, refl, sym, ℕ, Bool, true, false, not, ◌&&◌, ◌==◌, List, [], ◌∷◌, Option, Some, None}
use Rattle.std.proofs.Common.{codes, subst, fold, if◌then◌else◌, ◌⊎◌, inl, inr}
use Rattle.std.specs.Str.{bytes_eq}
use Rattle.std.proofs.lemmas.Slice.Eq.{bytes_eq-Decides}
use Rattle.clap.specs.Words.{App, Row, Rule, Text, new_app, new_rule, takes, with_rule}
use Rattle.clap.specs.Walk.{Held, Walk, Waiting, idle, option, positional, walked, walk_from, settled_rows}
use Rattle.clap.specs.Walk.{nothing_held}
use Rattle.clap.specs.Simple.{Shape, built}
use Rattle.clap.specs.Takes.{built_takes, settle_passes, turn_passes, walk_passes}
use Rattle.clap.specs.declared.builder.ArgAction.TheVariants.{Append}
use Rattle.clap.proofs.OnLiterals.{clap_on_literals}
use Rattle.std.proofs.lemmas.Bool.{not-true, and_from}
use Rattle.ftc_base.proofs.Bools.{and_one, and_other}
use Rattle.ftc_words.specs.Form.{has_form, is_formed}

abbrev pub workers : Rule
workers = record (new_rule (codes "workers")) { long = Some (codes "workers"); action = Some Append }

abbrev pub alone : Rule
alone = record (new_rule (codes "alone")) { long = Some (codes "alone"); action = Some Append }

abbrev pub names : Rule
names = record (new_rule (codes "names")) { action = Some Append }

abbrev pub app : App
app = with_rule (with_rule (with_rule (new_app (codes "ftc")) workers) alone) names

abbrev top : Shape
top = (built app).top

data Which : Type 0 where
  of_workers : Which
  of_alone : Which
  of_names : Which

abbrev id_of : Which → Text
id_of of_workers = codes "workers"
id_of of_alone = codes "alone"
id_of of_names = codes "names"

-- what is pending: nothing, or one value of an argument
abbrev pending_of : Option (Which × Text) → Option (Text × List Text)
pending_of None = None
pending_of (Some p) = Some (id_of p.0, p.1 ∷ [])

abbrev held_in : List Row → Option (Text × List Text) → Held
held_in rows pending = record { rows = rows; pending = pending; skip = 0 }

abbrev at : List Row → Option (Text × List Text) → Waiting → Walk
at rows pending waiting = record {
  held = held_in rows pending;
  waiting = waiting;
  position = 1;
  is_trailing = false;
  stopped = None;
}

settles : (rows : List Row) (p : Option (Which × Text)) →
    settle_passes top.rules false (held_in rows (pending_of p)) ≡ true
unfolding clap_on_literals
settles rows None = refl
settles rows (Some (of_workers, v)) = refl
settles rows (Some (of_alone, v)) = refl
settles rows (Some (of_names, v)) = refl

-- where a walk stands: behind a name or a value, or behind an option
data State : Type 0 where
  ready : List Row → Option (Which × Text) → Bool → State
  await : List Row → Bool → State

abbrev wait : Bool → Waiting
wait true = positional
wait false = idle

abbrev chosen : Bool → Which
chosen true = of_workers
chosen false = of_alone

abbrev walk_of : State → Walk
walk_of (ready rows p named) = at rows (pending_of p) (wait named)
walk_of (await rows o) = at rows (Some (id_of (chosen o), [])) (option (id_of (chosen o)))

abbrev awaits : State → Bool
awaits (ready rows p named) = false
awaits (await rows o) = true

-- a walk takes this word, and goes on as the next
abbrev Turns : Walk → Text → Walk → Type 0
Turns k word next = (turn_passes top [] k word ≡ true) × (walked top.rules [] k word ≡ next)

-- a word that is no option goes to the names
name_turns : (rows : List Row) (p : Option (Which × Text)) (named : Bool) (b : ℕ) (bs : List ℕ) → (b == 45) ≡ false →
    Turns (at rows (pending_of p) (wait named)) (b ∷ bs)
    (walk_of (ready (settled_rows top.rules (pending_of p) rows) (Some (of_names, b ∷ bs)) true))
unfolding clap_on_literals
name_turns rows None true b bs differs = (rw (differs, differs) refl, rw (differs, differs) refl)
name_turns rows None false b bs differs = (rw (differs, differs) refl, rw (differs, differs) refl)
name_turns rows (Some (of_workers, v)) true b bs differs = (rw (differs, differs) refl, rw (differs, differs) refl)
name_turns rows (Some (of_workers, v)) false b bs differs = (rw (differs, differs) refl, rw (differs, differs) refl)
name_turns rows (Some (of_alone, v)) true b bs differs = (rw (differs, differs) refl, rw (differs, differs) refl)
name_turns rows (Some (of_alone, v)) false b bs differs = (rw (differs, differs) refl, rw (differs, differs) refl)
name_turns rows (Some (of_names, v)) true b bs differs = (rw (differs, differs) refl, rw (differs, differs) refl)
name_turns rows (Some (of_names, v)) false b bs differs = (rw (differs, differs) refl, rw (differs, differs) refl)

-- an option waits for its value
abbrev word_of : Bool → Text
word_of true = codes "--workers"
word_of false = codes "--alone"

option_turns : (rows : List Row) (p : Option (Which × Text)) (named o : Bool) →
    Turns (at rows (pending_of p) (wait named)) (word_of o)
    (walk_of (await (settled_rows top.rules (pending_of p) rows) o))
unfolding clap_on_literals
option_turns rows None true true = (refl, refl)
option_turns rows None true false = (refl, refl)
option_turns rows None false true = (refl, refl)
option_turns rows None false false = (refl, refl)
option_turns rows (Some (of_workers, v)) true true = (refl, refl)
option_turns rows (Some (of_workers, v)) true false = (refl, refl)
option_turns rows (Some (of_workers, v)) false true = (refl, refl)
option_turns rows (Some (of_workers, v)) false false = (refl, refl)
option_turns rows (Some (of_alone, v)) true true = (refl, refl)
option_turns rows (Some (of_alone, v)) true false = (refl, refl)
option_turns rows (Some (of_alone, v)) false true = (refl, refl)
option_turns rows (Some (of_alone, v)) false false = (refl, refl)
option_turns rows (Some (of_names, v)) true true = (refl, refl)
option_turns rows (Some (of_names, v)) true false = (refl, refl)
option_turns rows (Some (of_names, v)) false true = (refl, refl)
option_turns rows (Some (of_names, v)) false false = (refl, refl)

-- the value of an option
value_turns : (rows : List Row) (o : Bool) (b : ℕ) (bs : List ℕ) → (b == 45) ≡ false →
    Turns (walk_of (await rows o)) (b ∷ bs) (walk_of (ready rows (Some (chosen o, b ∷ bs)) false))
unfolding clap_on_literals
value_turns rows true b bs differs = (rw (differs, differs) refl, rw (differs, differs) refl)
value_turns rows false b bs differs = (rw (differs, differs) refl, rw (differs, differs) refl)

-- ---- all words

abbrev Settled : Walk → Type 0
Settled k = (k.stopped ≡ None) × (settle_passes top.rules false k.held ≡ true)

abbrev Good : Walk → List Text → Type 0
Good k words = (walk_passes top [] k words ≡ true) × Settled (fold (walked top.rules []) k words)

step : (k next : Walk) (word : Text) (words : List Text) → Turns k word next → Good next words → Good k (word ∷ words)
unfolding walk_passes
step k next word words turns good = (
  and_from _ _ turns.0 (subst (λ (w : Walk). walk_passes top [] w words ≡ true) (sym turns.1) good.0),
  subst (λ (w : Walk). Settled (fold (walked top.rules []) w words)) (sym turns.1) good.1,
)

pick : (x y l r n c d e : Bool) → (if x then not l && c else (if y then not r && d else n && e)) ≡ true
    → ((x ≡ true) × (c ≡ true)) ⊎ (((y ≡ true) × (d ≡ true)) ⊎ ((n ≡ true) × (e ≡ true)))
pick true y l r n c d e is = inl (refl, and_other (not l) c is)
pick false true l r n c d e is = inr (inl (refl, and_other (not r) d is))
pick false false l r n c d e is = inr (inr (and_one n e is, and_other n e is))

goes : (words : List Text) (s : State) (workers-seen alone-seen : Bool) →
    is_formed (awaits s) workers-seen alone-seen words ≡ true → Good (walk_of s) words
unfolding walk_passes
goes [] (ready rows p true) w a is = (refl, (refl, settles rows p))
goes [] (ready rows p false) w a is = (refl, (refl, settles rows p))
goes [] (await rows o) w a is = cc
goes ([] ∷ words) (await rows o) w a is = cc
goes ((b ∷ bs) ∷ words) (await rows o) w a is =
    let differs = not-true (b == 45) (and_one (not (b == 45)) (is_formed false w a words) is) in
    step (walk_of (await rows o)) (walk_of (ready rows (Some (chosen o, b ∷ bs)) false)) (b
    ∷ bs) words (value_turns rows o b bs differs)
    (goes words (ready rows (Some (chosen o, b ∷ bs)) false) w a
    (and_other (not (b == 45)) (is_formed false w a words) is))
goes ([] ∷ words) (ready rows p named) w a is = cc
goes ((b ∷ bs) ∷ words) (ready rows p named) w a is =
    let now : List Row = settled_rows top.rules (pending_of p) rows in
    elim (pick (bytes_eq (b ∷ bs) (codes "--workers")) (bytes_eq (b ∷ bs) (codes "--alone")) w a (not (b == 45))
    (is_formed true true a words) (is_formed true w true words) (is_formed false w a words) is) [
      | inl h ↦ let same = (bytes_eq-Decides (b ∷ bs) (codes "--workers")).0 h.0 in
          subst (λ (word : Text). Good (at rows (pending_of p) (wait named)) (word ∷ words)) (sym same)
          (step (at rows (pending_of p) (wait named)) (walk_of (await now true)) (word_of true) words
          (option_turns rows p named true) (goes words (await now true) true a h.1))
      | inr more ↦ elim more [
        | inl h ↦ let same = (bytes_eq-Decides (b ∷ bs) (codes "--alone")).0 h.0 in
            subst (λ (word : Text). Good (at rows (pending_of p) (wait named)) (word ∷ words)) (sym same)
            (step (at rows (pending_of p) (wait named)) (walk_of (await now false)) (word_of false) words
            (option_turns rows p named false) (goes words (await now false) w true h.1))
        | inr h ↦ let differs = not-true (b == 45) h.0 in
            step (at rows (pending_of p) (wait named)) (walk_of (ready now (Some (of_names, b ∷ bs)) true)) (b
            ∷ bs) words (name_turns rows p named b bs differs)
            (goes words (ready now (Some (of_names, b ∷ bs)) true) w a h.1)
      ]
    ]

from_good : (words : List Text) → Good (walk_from nothing_held) words →
    built_takes (built app) nothing_held words ≡ true
from_good words good = rw (good.1.0, good.0, good.1.1) refl

pub takes_form : (words : List Text) → has_form words ≡ true → takes app words ≡ true
takes_form [] is = cc
takes_form (word ∷ words) is = from_good words (goes words (ready [] None false) false false is)

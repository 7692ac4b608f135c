-- Words that could be sorted have, without `--move` and its values, the form that clap takes.
use Rattle.std.proofs.Common.{◌≡◌, ◌≢◌, refl, sym, ap, ℕ, Bool, true, false, not, ◌&&◌, ◌==◌, List, [], ◌∷◌, Option}
use Rattle.std.proofs.Common.{Some, None, codes, subst, if◌then◌else◌, length}
use Rattle.std.specs.Prelude.{option_and_then, nat_lt, ◌++◌, is_some}
use Rattle.std.specs.Str.{bytes_eq}
use Rattle.std.proofs.lemmas.Slice.Eq.{bytes_eq-Decides}
use Rattle.ftc_base.proofs.Bools.{and_one}
use Rattle.ftc_words.specs.Given.{Awaited, any, workers, schedule, server, file, Given, is_name, given_from, given_in}
use Rattle.ftc_words.specs.Form.{has_form, is_formed, others_from, handed}
use Rattle.ftc_words.specs.Command.{command_of}

abbrev Text : Type 0
Text = List ℕ

-- how many words are still passed over, whether a value is awaited that clap reads, and which options came
abbrev skipped : Awaited → ℕ
skipped server = 2
skipped (file k) = 1
skipped other = 0

abbrev awaits : Awaited → Bool
awaits workers = true
awaits schedule = true
awaits other = false

abbrev had_workers : Awaited → Option Text → Bool
had_workers workers worked = true
had_workers other worked = is_some worked

abbrev had_schedule : Awaited → Option Text → Bool
had_schedule schedule scheduled = true
had_schedule other scheduled = is_some scheduled

abbrev given_of : Awaited → Option Text → Option Text → Option (Text × Text) → List Text → Given
given_of awaited worked scheduled moved plain =
    record { awaited = awaited; workers = worked; schedule = scheduled; moved = moved; plain = plain }

abbrev IsFormed : Awaited → Option Text → Option Text → List Text → Type 0
IsFormed awaited worked scheduled words =
    is_formed (awaits awaited) (had_workers awaited worked) (had_schedule awaited scheduled)
    (others_from (skipped awaited) words) ≡ true

-- from whatever was given, the words that can be sorted have the form
abbrev Forms : List Text → Type 0
Forms words = (awaited : Awaited) (worked scheduled : Option Text) (moved : Option (Text × Text)) (plain : List Text)
    (sorted : Given)
    → given_from (given_of awaited worked scheduled moved plain) words ≡ Some sorted →
    IsFormed awaited worked scheduled words

nothing : {A : Type 0} {a : A} → None ≡ Some a → ⊥
nothing h = absurd (cc)

ended : Forms []
ended any worked scheduled moved plain sorted h = refl
ended workers worked scheduled moved plain sorted h = absurd (nothing h)
ended schedule worked scheduled moved plain sorted h = absurd (nothing h)
ended server worked scheduled moved plain sorted h = absurd (nothing h)
ended (file k) worked scheduled moved plain sorted h = absurd (nothing h)

workers_word : (words : List Text) → Forms words →
    (worked scheduled : Option Text) (moved : Option (Text × Text)) (plain : List Text) (sorted : Given)
    → given_from (given_of any worked scheduled moved plain) (codes "--workers" ∷ words) ≡ Some sorted →
    IsFormed any worked scheduled (codes "--workers" ∷ words)
workers_word words more None scheduled moved plain sorted h = more workers None scheduled moved plain sorted h
workers_word words more (Some w) scheduled moved plain sorted h = absurd (nothing h)

alone_word : (words : List Text) → Forms words →
    (worked scheduled : Option Text) (moved : Option (Text × Text)) (plain : List Text) (sorted : Given)
    → given_from (given_of any worked scheduled moved plain) (codes "--alone" ∷ words) ≡ Some sorted →
    IsFormed any worked scheduled (codes "--alone" ∷ words)
alone_word words more worked None moved plain sorted h = more schedule worked None moved plain sorted h
alone_word words more worked (Some w) moved plain sorted h = absurd (nothing h)

move_word : (words : List Text) → Forms words →
    (worked scheduled : Option Text) (moved : Option (Text × Text)) (plain : List Text) (sorted : Given)
    → given_from (given_of any worked scheduled moved plain) (codes "--move" ∷ words) ≡ Some sorted →
    IsFormed any worked scheduled (codes "--move" ∷ words)
move_word words more worked scheduled None plain sorted h = more server worked scheduled None plain sorted h
move_word words more worked scheduled (Some m) plain sorted h = absurd (nothing h)

plain_word : (word : Text) (words : List Text) → Forms words →
    (worked scheduled : Option Text) (moved : Option (Text × Text)) (plain : List Text) (sorted : Given)
    → bytes_eq word (codes "--workers") ≡ false → bytes_eq word (codes "--alone") ≡ false →
    bytes_eq word (codes "--move") ≡ false
    → given_from (given_of any worked scheduled moved plain) (word ∷ words) ≡ Some sorted →
    IsFormed any worked scheduled (word ∷ words)
plain_word word words more worked scheduled moved plain sorted one two three h =
    let taken : option_and_then (λ next. given_from next words) (if is_name word && nat_lt (length plain) 6 then
    Some (given_of any worked scheduled moved (plain ++ word ∷ [])) else None) ≡ Some sorted =
    rw (one, two, three) at h in
    elim (is_name word && nat_lt (length plain) 6) as (λ t. (is_name word && nat_lt (length plain) 6) ≡ t
    → option_and_then (λ next. given_from next words) (if t then
    Some (given_of any worked scheduled moved (plain ++ word ∷ [])) else None) ≡ Some sorted →
    IsFormed any worked scheduled (word ∷ words)) [
      | true ↦ λ is more_taken. rw (
        three,
        one,
        two,
        and_one (is_name word) (nat_lt (length plain) 6) is,
      )
          (more any worked scheduled moved (plain ++ word ∷ []) sorted more_taken)
      | false ↦ λ _ none. absurd (nothing none)
    ] refl taken

any_word : (word : Text) (words : List Text) → Forms words →
    (worked scheduled : Option Text) (moved : Option (Text × Text)) (plain : List Text) (sorted : Given)
    → given_from (given_of any worked scheduled moved plain) (word ∷ words) ≡ Some sorted →
    IsFormed any worked scheduled (word ∷ words)
any_word word words more worked scheduled moved plain sorted h =
    let Wanted : Text → Type 0 = λ w. given_from (given_of any worked scheduled moved plain) (w ∷ words) ≡ Some sorted →
    IsFormed any worked scheduled (w ∷ words) in
    elim (bytes_eq word (codes "--workers")) as (λ t. bytes_eq word (codes "--workers") ≡ t →
    IsFormed any worked scheduled (word ∷ words)) [
      | true ↦ λ is. subst Wanted (sym ((bytes_eq-Decides word (codes "--workers")).0 is))
          (workers_word words more worked scheduled moved plain sorted) h
      | false ↦ λ one. elim (bytes_eq word (codes "--alone")) as (λ t. bytes_eq word (codes "--alone") ≡ t →
          IsFormed any worked scheduled (word ∷ words)) [
            | true ↦ λ is. subst Wanted (sym ((bytes_eq-Decides word (codes "--alone")).0 is))
                (alone_word words more worked scheduled moved plain sorted) h
            | false ↦ λ two. elim (bytes_eq word (codes "--move")) as (λ t. bytes_eq word (codes "--move") ≡ t →
                IsFormed any worked scheduled (word ∷ words)) [
                  | true ↦ λ is. subst Wanted (sym ((bytes_eq-Decides word (codes "--move")).0 is))
                      (move_word words more worked scheduled moved plain sorted) h
                  | false ↦ λ three. plain_word word words more worked scheduled moved plain sorted one two three h
                ] refl
          ] refl
    ] refl

-- a value of an option is no option
value_word : (b : ℕ) (bs : Text) (words : List Text) → Forms words →
    (awaited : Awaited) (worked scheduled : Option Text) (moved : Option (Text × Text)) (plain : List Text)
    (sorted : Given)
    → (b == 45) ≡ false → given_from (given_of awaited worked scheduled moved plain) ((b ∷ bs) ∷ words) ≡ Some sorted →
    IsFormed awaited worked scheduled ((b ∷ bs) ∷ words)
value_word b bs words more any worked scheduled moved plain sorted differs h =
    any_word (b ∷ bs) words more worked scheduled moved plain sorted h
value_word b bs words more workers worked scheduled moved plain sorted differs h =
    rw (differs, differs) (more any (Some (b ∷ bs)) scheduled moved plain sorted (rw differs at h))
value_word b bs words more schedule worked scheduled moved plain sorted differs h =
    rw (differs, differs) (more any worked (Some (b ∷ bs)) moved plain sorted (rw differs at h))
value_word b bs words more server worked scheduled moved plain sorted differs h =
    more (file (b ∷ bs)) worked scheduled moved plain sorted (rw differs at h)
value_word b bs words more (file k) worked scheduled moved plain sorted differs h =
    more any worked scheduled (Some (k, b ∷ bs)) plain sorted (rw differs at h)

-- where a word is awaited that is no option, an option or an empty word is refused
refused : (awaited : Awaited) (word : Text) (words : List Text) (worked scheduled : Option Text)
    (moved : Option (Text × Text)) (plain : List Text) (sorted : Given)
    → awaited ≢ any → is_name word ≡ false → given_from (given_of awaited worked scheduled moved plain) (word ∷ words)
    ≡ Some sorted → ⊥
refused any word words worked scheduled moved plain sorted other no_name h = other refl
refused workers word words worked scheduled moved plain sorted other no_name h = nothing (rw no_name at h)
refused schedule word words worked scheduled moved plain sorted other no_name h = nothing (rw no_name at h)
refused server word words worked scheduled moved plain sorted other no_name h = nothing (rw no_name at h)
refused (file k) word words worked scheduled moved plain sorted other no_name h = nothing (rw no_name at h)

value_or_not : (awaited : Awaited) → awaited ≢ any → (word : Text) (words : List Text) → Forms words →
    (worked scheduled : Option Text) (moved : Option (Text × Text)) (plain : List Text) (sorted : Given)
    → given_from (given_of awaited worked scheduled moved plain) (word ∷ words) ≡ Some sorted →
    IsFormed awaited worked scheduled (word ∷ words)
value_or_not awaited other [] words more worked scheduled moved plain sorted h =
    absurd (refused awaited [] words worked scheduled moved plain sorted other refl h)
value_or_not awaited other (b ∷ bs) words more worked scheduled moved plain sorted h =
    elim (b == 45) as (λ t. (b == 45) ≡ t → IsFormed awaited worked scheduled ((b ∷ bs) ∷ words)) [
      | true ↦ λ is. absurd (refused awaited (b ∷ bs) words worked scheduled moved plain sorted other (ap not is) h)
      | false ↦ λ differs. value_word b bs words more awaited worked scheduled moved plain sorted differs h
    ] refl

pub formed : (words : List Text) → Forms words
formed [] awaited worked scheduled moved plain sorted h = ended awaited worked scheduled moved plain sorted h
formed (word ∷ words) any worked scheduled moved plain sorted h =
    any_word word words (formed words) worked scheduled moved plain sorted h
formed (word ∷ words) workers worked scheduled moved plain sorted h =
    value_or_not workers (λ e. absurd (cc)) word words (formed words) worked scheduled moved plain sorted h
formed (word ∷ words) schedule worked scheduled moved plain sorted h =
    value_or_not schedule (λ e. absurd (cc)) word words (formed words) worked scheduled moved plain sorted h
formed (word ∷ words) server worked scheduled moved plain sorted h =
    value_or_not server (λ e. absurd (cc)) word words (formed words) worked scheduled moved plain sorted h
formed (word ∷ words) (file k) worked scheduled moved plain sorted h =
    value_or_not (file k) (λ e. absurd (cc)) word words (formed words) worked scheduled moved plain sorted h

-- what clap is handed of the words of a command has the form
pub command_formed : (words : List Text) → command_of words ≢ None → has_form (handed words) ≡ true
command_formed [] some = absurd (some refl)
command_formed (word ∷ words) some =
    elim (given_in words) as (λ (o : Option Given). given_in words ≡ o →
    is_formed false false false (others_from 0 words) ≡ true) [
      | None ↦ λ none. absurd (some (rw none refl))
      | Some sorted ↦ λ is. formed words any None None None [] sorted is
    ] refl

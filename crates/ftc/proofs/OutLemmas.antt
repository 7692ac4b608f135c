-- Pieces that are written one after another.
use Rattle.std.proofs.Common.{◌≡◌, ◌<◌, ℕ, zero, suc, ◌+◌, List, [], ◌∷◌, ◌++◌, length, take, drop, ap, sym, subst}
use Rattle.std.proofs.Common.{refl, ◌∙◌, append_assoc, append-nil, Bool, arith, add-one, inl, inr}
use Rattle.std.specs.Prelude.{slice_get, IfSome, Option, Some, None, unwrap_or, ◌⊎◌, OnErr, Result, Ok, Err}
use Rattle.std.specs.List.{flat_map}
use Rattle.std.proofs.lemmas.List.{take-append-drop}
use Rattle.std.proofs.lemmas.Grind.{common_steps}
use Rattle.std.specs.Option.{option_map_or}
use Rattle.ftc_base.specs.declared.released.Released.{Released}
use Rattle.ftc_pcap.specs.declared.capture.Capture.{Capture}
use Rattle.ftc_pcap.specs.declared.packets.Packet.{Packet}
use Rattle.ftc_pcap.specs.Grammar.{record_bytes, rewritten}
use Rattle.ftc_report.specs.Output.{released_record, out_bytes}
use Rattle.ftc.specs.Output.{MayHold}

-- the piece of the item at a place stands behind those of the items before it
pub one_more : {A : Type 0} (f : A → List ℕ) (xs : List A) (place : ℕ) (x : A) → slice_get xs place ≡ Some x →
    flat_map f (take (suc place) xs) ≡ flat_map f (take place xs) ++ f x
one_more f [] place x is = cc
one_more f (y ∷ ys) zero x is = grind (arith, common_steps)
one_more f (y ∷ ys) (suc place) x is =
    ap (λ (bytes : List ℕ). f y ++ bytes) (one_more f ys place x is) ∙ sym
    (append_assoc (f y) (flat_map f (take place ys)) (f x))

-- all pieces are those so far, the one at the place, and those behind it
parted : {A : Type 0} (f : A → List ℕ) (xs : List A) (place : ℕ) (x : A) → slice_get xs place ≡ Some x →
    flat_map f xs ≡ flat_map f (take place xs) ++ (f x ++ flat_map f (drop (suc place) xs))
parted f [] place x is = cc
parted f (y ∷ ys) zero x is = grind (arith, common_steps)
parted f (y ∷ ys) (suc place) x is =
    ap (λ (bytes : List ℕ). f y ++ bytes) (parted f ys place x is) ∙ sym
    (append_assoc (f y) (flat_map f (take place ys)) (f x ++ flat_map f (drop (suc place) ys)))

-- a file that had the pieces so far has one more
pub written_more : {A : Type 0} (f : A →
    List ℕ) (xs : List A) (place : ℕ) (x : A) (front : List ℕ) (old now : Option (List ℕ)) →
    slice_get xs place ≡ Some x → now ≡ Some (unwrap_or old [] ++ f x) →
    old ≡ Some (front ++ flat_map f (take place xs)) → now ≡ Some (front ++ flat_map f (take (place + 1) xs))
written_more f xs place x front old now is grown sofar =
    let more : now ≡ Some ((front ++ flat_map f (take place xs)) ++ f x) =
    grown ∙ ap (λ (o : Option (List ℕ)). Some (unwrap_or o [] ++ f x)) sofar in
    let whole : (front ++ flat_map f (take place xs)) ++ f x ≡ front ++ flat_map f (take (suc place) xs) =
    append_assoc front (flat_map f (take place xs)) (f x) ∙ ap (λ (bytes : List ℕ). front
    ++ bytes) (sym (one_more f xs place x is)) in
    rw add-one (more ∙ ap Some whole)

regroup : (s a b m : List ℕ) → s ++ ((a ++ b) ++ m) ≡ (s ++ a) ++ (b ++ m)
regroup s a b m = simp append_assoc

-- a piece that was cut short leaves some front of the whole
pub may_hold : (was old now : Option (List ℕ)) (sofar piece more whole : List ℕ) → old ≡ Some sofar →
    whole ≡ sofar ++ (piece ++ more) →
    (now ≡ old) ⊎ ((count : ℕ) × (now ≡ Some (unwrap_or old [] ++ take count piece))) → MayHold was now whole
may_hold was old now sofar piece more whole old-is whole-is (inl same) =
    inr (sofar, same ∙ old-is, (piece ++ more, whole-is))
may_hold was old now sofar piece more whole old-is whole-is (inr (count, grown)) =
    inr (
      sofar ++ take count piece,
      grown ∙ ap (λ (o : Option (List ℕ)). Some (unwrap_or o [] ++ take count piece)) old-is,
      (
        drop count piece ++ more,
        whole-is ∙ ap (λ (bytes : List ℕ). sofar
            ++ (bytes ++ more)) (sym (take-append-drop count piece)) ∙ regroup sofar (take count piece)
            (drop count piece) more,
      ),
    )

-- and so does the piece of an item
pub piece_cut : {A : Type 0} (f : A →
    List ℕ) (xs : List A) (place : ℕ) (x : A) (front : List ℕ) (was old now : Option (List ℕ)) →
    slice_get xs place ≡ Some x → (now ≡ old) ⊎ ((count : ℕ) × (now ≡ Some (unwrap_or old [] ++ take count (f x)))) →
    old ≡ Some (front ++ flat_map f (take place xs)) → MayHold was now (front ++ flat_map f xs)
piece_cut f xs place x front was old now is cut sofar =
    may_hold was old now (front ++ flat_map f (take place xs)) (f x) (flat_map f (drop (suc place) xs)) (front
    ++ flat_map f xs) sofar (ap (λ (bytes : List ℕ). front ++ bytes) (parted f xs place x is) ∙ sym
    (append_assoc front (flat_map f (take place xs)) (f x ++ flat_map f (drop (suc place) xs)))) cut

pub nothing_more : (whole : List ℕ) → whole ≡ [] ++ (whole ++ [])
nothing_more whole = simp append-nil refl

-- what was written for a released packet is its record
piece_at : (big : Bool) (packets : List Packet) (place : ℕ) (own bytes : List ℕ) → place < length packets →
    IfSome (slice_get packets place) (λ packet. bytes ≡ record_bytes big (rewritten packet own)) →
    bytes ≡ option_map_or (λ packet. record_bytes big (rewritten packet own)) (slice_get packets place) []
piece_at big [] place own bytes known written = absurd (omega arith)
piece_at big (p ∷ ps) zero own bytes known written = written
piece_at big (p ∷ ps) (suc place) own bytes known written = piece_at big ps place own bytes (omega arith) written

pub record_piece : (capture : Capture) (released : Released) (bytes : List ℕ) →
    released.packet < length capture.packets →
    IfSome (slice_get capture.packets released.packet) (λ packet. bytes
    ≡ record_bytes capture.big (rewritten packet released.bytes)) → bytes ≡ released_record capture released
record_piece capture released bytes known written =
    piece_at capture.big capture.packets released.packet released.bytes bytes known written

-- ---- pieces that are gathered before they are written

rest_parted : {A : Type 0} (f : A → List ℕ) (xs : List A) (place : ℕ) →
    flat_map f xs ≡ flat_map f (take place xs) ++ flat_map f (drop place xs)
rest_parted f [] zero = refl
rest_parted f [] (suc place) = refl
rest_parted f (y ∷ ys) zero = refl
rest_parted f (y ∷ ys) (suc place) =
    ap (λ (bytes : List ℕ). f y ++ bytes) (rest_parted f ys place) ∙ sym
    (append_assoc (f y) (flat_map f (take place ys)) (flat_map f (drop place ys)))

-- the whole is what the file has, the piece, and the items from that place on
pub whole_is : {A : Type 0} (f : A → List ℕ) (xs : List A) (place : ℕ) (front before piece : List ℕ) →
    before ++ piece ≡ front ++ flat_map f (take place xs)
    → front ++ flat_map f xs ≡ before ++ (piece ++ flat_map f (drop place xs))
whole_is f xs place front before piece sofar =
    ap (λ (bytes : List ℕ). front ++ bytes) (rest_parted f xs place)
    ∙ (sym (append_assoc front (flat_map f (take place xs)) (flat_map f (drop place xs)))
    ∙ (ap (λ (bytes : List ℕ). bytes ++ flat_map f (drop place xs)) (sym sofar)
    ∙ append_assoc before piece (flat_map f (drop place xs))))

-- and with one item more in the piece
pub next_is : {A : Type 0} (f : A → List ℕ) (xs : List A) (place : ℕ) (x : A) (front before piece : List ℕ) →
    slice_get xs place ≡ Some x → before ++ piece ≡ front ++ flat_map f (take place xs)
    → before ++ (piece ++ f x) ≡ front ++ flat_map f (take (place + 1) xs)
next_is f xs place x front before piece is sofar =
    let more : before ++ (piece ++ f x) ≡ front ++ flat_map f (take (suc place) xs) =
    sym (append_assoc before piece (f x))
    ∙ (ap (λ (bytes : List ℕ). bytes ++ f x) sofar
    ∙ (append_assoc front (flat_map f (take place xs)) (f x)
    ∙ ap (λ (bytes : List ℕ). front ++ bytes) (sym (one_more f xs place x is)))) in
    rw add-one more

-- a file that has a front of the whole
pub has_front : (was now : Option (List ℕ)) (before more whole : List ℕ) → now ≡ Some before → whole ≡ before ++ more →
    MayHold was now whole
has_front was now before more whole is whole-is = inr (before, is, (more, whole-is))

pub moved_on : (old new : Option (List ℕ)) (piece before : List ℕ) → new ≡ Some (unwrap_or old [] ++ piece) →
    old ≡ Some before → (after : List ℕ) × (new ≡ Some after) × (after ++ [] ≡ before ++ piece)
moved_on old new piece before grown is = (
  before ++ piece,
  grown ∙ ap (λ (o : Option (List ℕ)). Some (unwrap_or o [] ++ piece)) is,
  append-nil (before ++ piece),
)

-- a file that isn't there now was never there, where it would have grown
pub absent_at_first : (old now : Option (List ℕ)) →
    ((held : List ℕ) → old ≡ Some held → (before : List ℕ) × (now ≡ Some before))
    → now ≡ None → old ≡ None
absent_at_first None now grown gone = refl
absent_at_first (Some held) now grown gone = let (before, is) = grown held refl in let no : None ≡ Some before =
    sym gone ∙ is in cc

-- what was begun anew has a front of the whole
pub begun_anew : (was mid now : Option (List ℕ)) (whole : List ℕ) → mid ≡ Some [] → MayHold mid now whole →
    MayHold was now whole
begun_anew was mid now whole empty (inl same) = inr ([], same ∙ empty, (whole, refl))
begun_anew was mid now whole empty (inr front) = inr front

pub begun_out : (was mid now : Option (List ℕ)) (capture : Capture) (first : List ℕ) (items released : List Released) →
    mid ≡ Some [] → first ≡ capture.header → items ≡ released →
    MayHold mid now (([] ++ first) ++ flat_map (released_record capture) items) →
    MayHold was now (out_bytes capture released)
begun_out was mid now capture first items released empty header same held =
    let whole : ([] ++ first) ++ flat_map (released_record capture) items ≡ out_bytes capture released =
    ap (λ (front : List ℕ). front ++ flat_map (released_record capture) items) header
    ∙ ap (λ (all : List Released). capture.header ++ flat_map (released_record capture) all) same in
    subst (λ (bytes : List ℕ). MayHold was now bytes) whole
    (begun_anew was mid now (([] ++ first) ++ flat_map (released_record capture) items) empty held)

-- Items that are read one after the other, each of which follows the one before.
use Rattle.std.proofs.Common.{◌≡◌, ℕ, zero, suc, Bool, true, List, [], ◌∷◌, ◌++◌, length, Result, Ok, refl, sym}
use Rattle.std.proofs.Common.{ap, subst, ◌∙◌, append_assoc}
use Rattle.std.specs.List.{AllByRecursion, flat_map}
use Rattle.std.proofs.lemmas.List.{append-nil}
use Rattle.ftc_message.specs.declared.fault.FieldFault.{FieldFault}
use Rattle.ftc_base.specs.Reading.{◌>>=◌}
use Rattle.ftc_message.specs.Reading.{times}
use Rattle.ftc_message.proofs.Following.{GoesOn, parts_of, of_parts}
use Rattle.ftc_message.proofs.Fields.{IsBytes, Takes, Takes-then, bind_ok, ok_is, times_ok}

-- how an item is read behind another, and spelled
pub record Items (L X : Type 0) : Type 1 where
  pub item_at : L → List ℕ → Result (X × List ℕ) FieldFault
  pub place : X → L
  pub item_bytes : X → List ℕ
  pub IsItem : X → Type 0
  pub follows : L → X → Bool
  pub rise : L → List X → Bool
  pub goes_on : GoesOn place follows rise
  pub takes : (last : L) (bytes : List ℕ) (x : X × List ℕ) → IsBytes bytes → item_at last bytes ≡ Ok x →
      Takes bytes (item_bytes x.0) x.1 × IsItem x.0 × (follows last x.0 ≡ true)
  pub again : (last : L) (item : X) (rest : List ℕ) → IsItem item → follows last item ≡ true →
      item_at last (item_bytes item ++ rest) ≡ Ok (item, rest)

-- one more item
abbrev pub with_item : {L X : Type 0} → Items L X → L × List X → List ℕ → Result ((L × List X) × List ℕ) FieldFault
with_item items so_far bytes = items.item_at so_far.0 bytes >>= λ item.
    Ok ((items.place item.0, so_far.1 ++ item.0 ∷ []), item.1)

pub record ItemsRead {L X : Type 0} (items : Items L X) (count : ℕ) (last : L) (front : List X) (bytes : List ℕ)
    (x : (L × List X) × List ℕ) : Type 0 where
  pub back : List X
  pub whole : x.0.1 ≡ front ++ back
  pub all : length back ≡ count
  pub takes : Takes bytes (flat_map items.item_bytes back) x.1
  pub each : AllByRecursion items.IsItem back
  pub rising : items.rise last back ≡ true

one_more : {L X : Type 0} (items : Items L X) (count : ℕ) (last : L) (front : List X) (bytes : List ℕ) (item : X
    × List ℕ) (x : (L × List X) × List ℕ) → Takes bytes (items.item_bytes item.0) item.1 → items.IsItem item.0 →
    items.follows last item.0 ≡ true
    → ItemsRead items count (items.place item.0) (front ++ item.0 ∷ []) item.1 x →
    ItemsRead items (suc count) last front bytes x
one_more items count last front bytes item x takes is_item follows rest = record {
  back = item.0 ∷ rest.back;
  whole = rest.whole ∙ append_assoc front (item.0 ∷ []) rest.back;
  all = ap suc rest.all;
  takes = Takes-then bytes (items.item_bytes item.0) item.1 (flat_map items.item_bytes rest.back) x.1 takes rest.takes;
  each = (is_item, rest.each);
  rising = of_parts items.place items.follows items.rise items.goes_on last item.0 rest.back follows rest.rising;
}

none_read : {L X : Type 0} (items : Items L X) (last : L) (front : List X) (bytes : List ℕ) (x : (L × List X)
    × List ℕ) → IsBytes bytes → times (with_item items) zero (last, front) bytes ≡ Ok x →
    ItemsRead items 0 last front bytes x
unfolding times
none_read items last front bytes x fits is =
    subst (ItemsRead items 0 last front bytes) (ok_is ((last, front), bytes) x is) (record {
      back = [];
      whole = sym (append-nil front);
      all = refl;
      takes = record { parts = refl; rest_fits = fits };
      each = tt;
      rising = items.goes_on.none last;
    })

pub items_read : {L X : Type 0} (items : Items L X) (count : ℕ) (last : L) (front : List X) (bytes : List ℕ)
    (x : (L × List X) × List ℕ) → IsBytes bytes → times (with_item items) count (last, front) bytes ≡ Ok x →
    ItemsRead items count last front bytes x
items_read items zero last front bytes x fits is = none_read items last front bytes x fits is
items_read {L = L} {X = X} items (suc count) last front bytes x fits is =
    let next = times_ok (with_item items) count (last, front) bytes x is in
    let item = bind_ok (items.item_at last bytes) (λ item. Ok (
      (items.place item.0, front ++ item.0 ∷ []),
      item.1,
    )) next.0 next.1 in
    let same = ok_is ((items.place item.0.0, front ++ item.0.0 ∷ []), item.0.1) next.0 item.2 in
    let read = items.takes last bytes item.0 fits item.1 in
    one_more items count last front bytes item.0 x read.0 read.1 read.2
    (items_read items count (items.place item.0.0) (front ++ item.0.0 ∷ []) item.0.1 x read.0.rest_fits
    (subst (λ (y : (L × List X) × List ℕ). times (with_item items) count y.0 y.1 ≡ Ok x) (sym same) next.2))

-- items that are read behind their number
pub record CountedRead {L X : Type 0} (items : Items L X) (first : L) (count_bytes : ℕ → List ℕ) (IsFew : ℕ → Type 0)
    (bytes : List ℕ) (x : List X × List ℕ) : Type 0 where
  pub takes : Takes bytes (count_bytes (length x.0) ++ flat_map items.item_bytes x.0) x.1
  pub few : IsFew (length x.0)
  pub each : AllByRecursion items.IsItem x.0
  pub rising : items.rise first x.0 ≡ true

pub counted_read : {L X : Type 0} (items : Items L X) (first : L) (count_bytes : ℕ → List ℕ) (IsFew : ℕ → Type 0)
    (count_at : List ℕ → Result (ℕ × List ℕ) FieldFault) (bytes : List ℕ) (x : List X × List ℕ) →
    ((count : ℕ × List ℕ) → count_at bytes ≡ Ok count → Takes bytes (count_bytes count.0) count.1 × IsFew count.0) →
    (count_at bytes >>= λ count. times (with_item items) count.0 (first, []) count.1 >>= λ all. Ok (all.0.1, all.1))
    ≡ Ok x → CountedRead items first count_bytes IsFew bytes x
counted_read {L = L} {X = X} items first count_bytes IsFew count_at bytes x counts is =
    let count = bind_ok (count_at bytes) (λ count. times (with_item items) count.0 (first, []) count.1 >>= λ all.
    Ok (all.0.1, all.1)) x is in
    let all = bind_ok (times (with_item items) count.0.0 (first, []) count.0.1)
    (λ all. Ok (all.0.1, all.1)) x count.2 in
    let head = counts count.0 count.1 in
    let read = items_read items count.0.0 first [] count.0.1 all.0 head.0.rest_fits all.1 in
    let counted : Takes bytes (count_bytes (length read.back)) count.0.1 =
    subst (λ (n : ℕ). Takes bytes (count_bytes n) count.0.1) (sym read.all) head.0 in
    let whole : (read.back, all.0.1) ≡ (all.0.0.1, all.0.1) = ap (λ (xs : List X). (xs, all.0.1)) (sym read.whole) in
    subst (CountedRead items first count_bytes IsFew bytes) (whole ∙ ok_is (all.0.0.1, all.0.1) x all.2) (record {
      takes = Takes-then bytes (count_bytes (length read.back)) count.0.1 (flat_map items.item_bytes read.back) all.0.1
          counted read.takes;
      few = subst IsFew (sym read.all) head.1;
      each = read.each;
      rising = read.rising;
    })

pub items_again : {L X : Type 0} (items : Items L X) (last : L) (front back : List X) (rest : List ℕ) →
    AllByRecursion items.IsItem back → items.rise last back ≡ true
    → (end : L) × (times (with_item items) (length back) (last, front) (flat_map items.item_bytes back ++ rest)
    ≡ Ok ((end, front ++ back), rest))
unfolding times
items_again {L = L} {X = X} items last front [] rest each rising =
    (last, ap (λ (xs : List X). Ok ((last, xs), rest)) (sym (append-nil front)))
items_again {L = L} {X = X} items last front (x ∷ xs) rest each rising =
    let order = parts_of items.place items.follows items.rise items.goes_on last x xs rising in
    let behind = flat_map items.item_bytes xs ++ rest in
    let first = items.again last x behind each.0 order.0 in
    let others = items_again items (items.place x) (front ++ x ∷ []) xs rest each.1 order.1 in
    let text : flat_map items.item_bytes (x ∷ xs) ++ rest ≡ items.item_bytes x ++ behind =
    append_assoc (items.item_bytes x) (flat_map items.item_bytes xs) rest in (
      others.0,
      rw (
        text,
        first,
        others.1,
      ) (ap (λ (ys : List X). Ok ((others.0, ys), rest)) (append_assoc front (x ∷ []) xs)),
    )

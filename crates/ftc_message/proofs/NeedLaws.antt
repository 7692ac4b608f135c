-- Needs: what is read is spelled so, and what is spelled so is read.
use Rattle.std.proofs.Common.{◌≡◌, ℕ, ◌<◌, ◌≤◌, leb, true, List, [], ◌∷◌, ◌++◌, length, Option, Ok}
use Rattle.std.proofs.Common.{Err, refl, subst, arith}
use Rattle.std.specs.List.{AllByRecursion, flat_map}
use Rattle.ftc_base.specs.declared.limits.TheConstants.{MOST_SERVERS}
use Rattle.ftc_message.specs.declared.fault.FrameCause.TheVariants.{Order}
use Rattle.ftc_message.specs.declared.need.Need.{Need}
use Rattle.ftc_message.specs.Logged.{needs_rise}
use Rattle.ftc_message.specs.Spelling.{marks_bytes, need_bytes, needs_bytes}
use Rattle.ftc_base.specs.Reading.{◌>>=◌, ◌>>◌, unless}
use Rattle.ftc_message.specs.Fields.{fault_of, within_at, group_at}
use Rattle.ftc_message.specs.declared.fault.FieldFault.{FieldFault}
use Rattle.ftc_message.specs.Reading.{marks_at, later_group_at, need_at, needs_at}
use Rattle.ftc_message.proofs.Fields.{IsBytes, Takes, Takes-then, bind_ok, test_ok, ok_is, within_takes, within_again}
use Rattle.ftc_message.proofs.Fields.{group_takes, group_again}
use Rattle.ftc_message.proofs.MarkLaws.{AreSpelled, marks_at_takes, marks_at_again}
use Rattle.ftc_message.proofs.RiseLaws.{place_of_need, follows_need, needs_go}
use Rattle.ftc_message.proofs.ItemLaws.{Items, counted_read, items_again}

-- a need that has a spelling, with numbers that are at least `least`
pub record IsNeedSpelled (least : ℕ) (need : Need) : Type 0 where
  pub group : need.group < MOST_SERVERS
  pub marks : AreSpelled least need.marks

later_group_takes : (from : ℕ) (bytes : List ℕ) (x : ℕ × List ℕ) → IsBytes bytes → later_group_at from bytes ≡ Ok x
    → Takes bytes (x.0 ∷ []) x.1 × (x.0 < MOST_SERVERS) × (leb from x.0 ≡ true)
unfolding later_group_at
later_group_takes from bytes x fits is =
    let group = bind_ok (group_at bytes) (λ group. unless (leb from group.0) (fault_of bytes Order) >> Ok group) x is in
    let passed = test_ok (leb from group.0.0) bytes Order (Ok group.0) x group.2 in
    let taken = group_takes bytes group.0 fits group.1 in
    let P : ℕ × List ℕ → Type 0 = λ y.
    Takes bytes (y.0 ∷ []) y.1 × (y.0 < MOST_SERVERS) × (leb from y.0 ≡ true) in
    subst P (ok_is group.0 x passed.1) (taken.0, taken.1, passed.0)

later_group_again : (from group : ℕ) (rest : List ℕ) → group < MOST_SERVERS → leb from group ≡ true
    → later_group_at from (group ∷ rest) ≡ Ok (group, rest)
unfolding later_group_at
later_group_again from group rest within follows = rw (group_again group rest within, follows) refl

pub need_at_takes : (least from : ℕ) (bytes : List ℕ) (x : Need × List ℕ) → IsBytes bytes
    → need_at least from bytes ≡ Ok x
    → Takes bytes (need_bytes x.0) x.1 × IsNeedSpelled least x.0 × (leb from x.0.group ≡ true)
unfolding need_at
need_at_takes least from bytes x fits is =
    let group = bind_ok (later_group_at from bytes)
    (λ group. marks_at least group.1 >>= λ marks. Ok (record { group = group.0; marks = marks.0 }, marks.1)) x is in
    let marks = bind_ok (marks_at least group.0.1)
    (λ marks. Ok (record { group = group.0.0; marks = marks.0 }, marks.1)) x group.2 in
    let first = later_group_takes from bytes group.0 fits group.1 in
    let second = marks_at_takes least group.0.1 marks.0 first.0.rest_fits marks.1 in
    let both = Takes-then bytes (group.0.0 ∷ []) group.0.1 (marks_bytes marks.0.0) marks.0.1 first.0 second.0 in
    let P : Need × List ℕ → Type 0 = λ y.
    Takes bytes (need_bytes y.0) y.1 × IsNeedSpelled least y.0 × (leb from y.0.group ≡ true) in
    subst P (ok_is (record { group = group.0.0; marks = marks.0.0 }, marks.0.1) x marks.2)
    (both, record { group = first.1; marks = second.1 }, first.2)

pub need_at_again : (least from : ℕ) (need : Need) (rest : List ℕ) → IsNeedSpelled least need
    → leb from need.group ≡ true → need_at least from (need_bytes need ++ rest) ≡ Ok (need, rest)
unfolding need_at
need_at_again least from need rest is follows =
    rw (
      later_group_again from need.group (marks_bytes need.marks ++ rest) is.group follows,
      marks_at_again least need.marks rest is.marks,
    ) refl

-- ---- a need that is read part by part

pub need_read : (least from : ℕ) (bytes behind rest : List ℕ) (group : ℕ) (marks : List (Option ℕ))
    → later_group_at from bytes ≡ Ok (group, behind) → marks_at least behind ≡ Ok (marks, rest)
    → need_at least from bytes ≡ Ok (record { group = group; marks = marks }, rest)
unfolding need_at
need_read least from bytes behind rest group marks first second = rw (first, second) refl

pub group_refused : (least from : ℕ) (bytes : List ℕ) (fault : FieldFault)
    → later_group_at from bytes ≡ Err fault → need_at least from bytes ≡ Err fault
unfolding need_at
group_refused least from bytes fault first = rw first refl

pub marks_refused : (least from : ℕ) (bytes behind : List ℕ) (group : ℕ) (fault : FieldFault)
    → later_group_at from bytes ≡ Ok (group, behind) → marks_at least behind ≡ Err fault
    → need_at least from bytes ≡ Err fault
unfolding need_at
marks_refused least from bytes behind group fault first second = rw (first, second) refl

abbrev needs : ℕ → Items ℕ Need
needs least = record {
  item_at = need_at least;
  place = place_of_need;
  item_bytes = need_bytes;
  IsItem = IsNeedSpelled least;
  follows = follows_need;
  rise = needs_rise;
  goes_on = needs_go;
  takes = need_at_takes least;
  again = need_at_again least;
}

-- needs that have a spelling
pub record AreNeedsSpelled (least most : ℕ) (ns : List Need) : Type 0 where
  pub few : length ns ≤ most
  pub each : AllByRecursion (IsNeedSpelled least) ns
  pub rising : needs_rise 0 ns ≡ true

pub needs_at_takes : (most least : ℕ) (bytes : List ℕ) (x : List Need × List ℕ) → IsBytes bytes →
    needs_at most least bytes ≡ Ok x → Takes bytes (needs_bytes x.0) x.1 × AreNeedsSpelled least most x.0
unfolding needs_at
needs_at_takes most least bytes x fits is =
    let read = counted_read (needs least) 0 (λ n. n ∷ []) (λ n. n ≤ most) (within_at 0 most) bytes x
    (λ count at. (let head = within_takes 0 most bytes count fits at in (head.0, head.2))) is in
    (read.takes, record { few = read.few; each = read.each; rising = read.rising })

pub needs_at_again : (most least : ℕ) (ns : List Need) (rest : List ℕ) → AreNeedsSpelled least most ns →
    needs_at most least (needs_bytes ns ++ rest) ≡ Ok (ns, rest)
unfolding needs_at
needs_at_again most least ns rest spelled =
    let read = items_again (needs least) 0 [] ns rest spelled.each spelled.rising in
    rw (within_again 0 most (length ns) (flat_map need_bytes ns ++ rest) (omega arith) spelled.few, read.1) refl

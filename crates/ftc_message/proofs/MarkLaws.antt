-- The partitions of a need: what is read is spelled so, and what is spelled so is read.
use Rattle.std.proofs.Common.{◌≡◌, ℕ, zero, suc, ◌+◌, ◌-◌, ◌^◌, ◌<◌, ◌≤◌, leb, List, [], ◌∷◌, ◌++◌, length, Option}
use Rattle.std.proofs.Common.{Some, None, Ok, refl, sym, ap, subst, ◌∙◌, append_assoc, add-one, arith}
use Rattle.std.specs.Prelude.{IfSome, slice_set}
use Rattle.std.specs.List.{AllByRecursion}
use Rattle.std.proofs.lemmas.Bool.{leb-true, le-leb}
use Rattle.std.proofs.lemmas.List.{set_at, length-append, length-replicate}
use Rattle.ftc_base.specs.declared.limits.TheConstants.{MOST_PARTITIONS}
use Rattle.ftc_vector.specs.Vector.{by_partition}
use Rattle.ftc_message.specs.declared.fault.FrameCause.TheVariants.{Range, Order}
use Rattle.ftc_message.specs.Numbers.{number_bytes}
use Rattle.ftc_message.specs.Spelling.{marked, marks_from, marks_bytes}
use Rattle.ftc_base.specs.Reading.{◌>>=◌, ◌>>◌, unless}
use Rattle.ftc_message.specs.Fields.{fault_of, within_at, integer_at}
use Rattle.ftc_message.specs.Reading.{times, partition_at, least_at, need_mark_at, with_mark, no_marks, marks_at}
use Rattle.ftc_message.proofs.Fields.{IsBytes, Takes, Takes-then, bind_ok, test_ok, ok_is, times_ok, within_takes}
use Rattle.ftc_message.proofs.Fields.{within_again, number_takes, number_again, wide_8}
use Rattle.ftc_message.proofs.Blanks.{blanks, put_behind, length_behind, fill, length_filled, all_blanks, all_behind}

-- ---- one partition

pub partition_takes : (from : ℕ) (bytes : List ℕ) (x : ℕ × List ℕ) → IsBytes bytes → partition_at from bytes ≡ Ok x →
    Takes bytes (x.0 ∷ []) x.1 × (from ≤ x.0) × (x.0 < MOST_PARTITIONS)
unfolding partition_at
partition_takes from bytes x fits is =
    let byte = bind_ok (within_at 0 (MOST_PARTITIONS - 1) bytes)
    (λ partition. unless (leb from partition.0) (fault_of bytes Order) >> Ok partition) x is in
    let passed = test_ok (leb from byte.0.0) bytes Order (Ok byte.0) x byte.2 in
    let taken = within_takes 0 (MOST_PARTITIONS - 1) bytes byte.0 fits byte.1 in
    let P : ℕ × List ℕ → Type 0 = λ y. Takes bytes (y.0 ∷ []) y.1 × (from ≤ y.0) × (y.0 < MOST_PARTITIONS) in
    subst P (ok_is byte.0 x passed.1) (taken.0, leb-true from byte.0.0 passed.0, omega (arith, taken.2))

pub partition_again : (from partition : ℕ) (rest : List ℕ) → from ≤ partition → partition < MOST_PARTITIONS →
    partition_at from (partition ∷ rest) ≡ Ok (partition, rest)
unfolding partition_at
partition_again from partition rest low high =
    rw (within_again 0 (MOST_PARTITIONS - 1) partition rest (omega arith) (omega arith), le-leb from partition low) refl

least_takes : (least : ℕ) (bytes : List ℕ) (x : ℕ × List ℕ) → IsBytes bytes → least_at least bytes ≡ Ok x →
    Takes bytes (number_bytes 8 x.0) x.1 × (least ≤ x.0) × (x.0 < 2 ^ 64)
unfolding least_at
least_takes least bytes x fits is =
    let number = bind_ok (integer_at 8 bytes)
    (λ number. unless (leb least number.0) (fault_of bytes Range) >> Ok number) x is in
    let passed = test_ok (leb least number.0.0) bytes Range (Ok number.0) x number.2 in
    let taken = number_takes 8 (2 ^ 64) wide_8 bytes number.0 fits number.1 in
    let P : ℕ × List ℕ → Type 0 = λ y. Takes bytes (number_bytes 8 y.0) y.1 × (least ≤ y.0) × (y.0 < 2 ^ 64) in
    subst P (ok_is number.0 x passed.1) (taken.0, leb-true least number.0.0 passed.0, taken.1)

least_again : (least number : ℕ) (rest : List ℕ) → least ≤ number → number < 2 ^ 64 →
    least_at least (number_bytes 8 number ++ rest) ≡ Ok (number, rest)
unfolding least_at
least_again least number rest low high =
    rw (number_again 8 (2 ^ 64) wide_8 number rest high, le-leb least number low) refl

record MarkRead (least from : ℕ) (bytes : List ℕ) (x : (ℕ × ℕ) × List ℕ) : Type 0 where
  pub takes : Takes bytes (x.0.0 ∷ number_bytes 8 x.0.1) x.1
  pub low : from ≤ x.0.0
  pub high : x.0.0 < MOST_PARTITIONS
  pub enough : least ≤ x.0.1
  pub most : x.0.1 < 2 ^ 64

mark_takes : (least from : ℕ) (bytes : List ℕ) (x : (ℕ × ℕ) × List ℕ) → IsBytes bytes →
    need_mark_at least from bytes ≡ Ok x → MarkRead least from bytes x
unfolding need_mark_at
mark_takes least from bytes x fits is =
    let partition = bind_ok (partition_at from bytes) (λ partition. least_at least partition.1 >>= λ number.
    Ok ((partition.0, number.0), number.1)) x is in
    let number = bind_ok (least_at least partition.0.1) (λ number. Ok (
      (partition.0.0, number.0),
      number.1,
    )) x partition.2 in
    let first = partition_takes from bytes partition.0 fits partition.1 in
    let second = least_takes least partition.0.1 number.0 first.0.rest_fits number.1 in
    subst (MarkRead least from bytes) (ok_is ((partition.0.0, number.0.0), number.0.1) x number.2) (record {
      takes = Takes-then bytes (partition.0.0 ∷ []) partition.0.1
          (number_bytes 8 number.0.0) number.0.1 first.0 second.0;
      low = first.1;
      high = first.2;
      enough = second.1;
      most = second.2;
    })

mark_again : (least from partition number : ℕ) (rest : List ℕ) → from ≤ partition → partition < MOST_PARTITIONS →
    least ≤ number → number < 2 ^ 64 →
    need_mark_at least from (partition ∷ (number_bytes 8 number ++ rest)) ≡ Ok ((partition, number), rest)
unfolding need_mark_at
mark_again least from partition number rest low high least_low most =
    rw (
      partition_again from partition (number_bytes 8 number ++ rest) low high,
      least_again least number rest least_low most,
    ) refl

-- ---- all partitions

-- numbers of 64 bits that are at least `least`
abbrev pub IsMark : ℕ → Option ℕ → Type 0
IsMark least mark = IfSome mark (λ number. (least ≤ number) × (number < 2 ^ 64))

pub marked-blanks : (k : ℕ) → marked (blanks k) ≡ 0
marked-blanks zero = refl
marked-blanks (suc k) = marked-blanks k

marks_from-blanks : (k from : ℕ) → marks_from from (blanks k) ≡ []
marks_from-blanks zero from = refl
marks_from-blanks (suc k) from = marks_from-blanks k (from + 1)

pub marked-behind : (j : ℕ) (marks : List (Option ℕ)) → marked (blanks j ++ marks) ≡ marked marks
marked-behind zero marks = refl
marked-behind (suc j) marks = marked-behind j marks

marks_from-behind : (j from place : ℕ) (marks : List (Option ℕ)) → place ≡ from + j →
    marks_from from (blanks j ++ marks) ≡ marks_from place marks
marks_from-behind zero from place marks is = ap (λ (p : ℕ). marks_from p marks) (omega arith)
marks_from-behind (suc j) from place marks is = marks_from-behind j (from + 1) place marks (omega arith)

-- behind the front stand k marks, and so many of them have a number
pub record MarksBehind (count k : ℕ) (front marks back : List (Option ℕ)) : Type 0 where
  pub whole : marks ≡ front ++ back
  pub size : length back ≡ k
  pub all : marked back ≡ count

pub none_behind : (k : ℕ) (front : List (Option ℕ)) → MarksBehind 0 k front (front ++ blanks k) (blanks k)
none_behind k front = record { whole = refl; size = length-replicate k None; all = marked-blanks k }

pub one_behind : (count k j number : ℕ) (front marks back : List (Option ℕ)) → j < k →
    MarksBehind count (k - (j + 1)) (front ++ (blanks j ++ Some number ∷ [])) marks back →
    MarksBehind (suc count) k front marks (blanks j ++ Some number ∷ back)
one_behind count k j number front marks back under rest = record {
  whole = rest.whole ∙ put_behind front (blanks j) (Some number) back;
  size = length_behind None k j (Some number) back under rest.size;
  all = marked-behind j (Some number ∷ back) ∙ (add-one (marked back) ∙ ap suc rest.all);
}

record MarksRead (least count from k : ℕ) (front : List (Option ℕ)) (bytes : List ℕ) (x : (ℕ × List (Option ℕ))
    × List ℕ) : Type 0 where
  pub back : List (Option ℕ)
  pub marks : MarksBehind count k front x.0.1 back
  pub takes : Takes bytes (marks_from from back) x.1
  pub each : AllByRecursion (IsMark least) back

one_more : (least count from k place number : ℕ) (front : List (Option ℕ)) (bytes middle : List ℕ)
    (x : (ℕ × List (Option ℕ)) × List ℕ) → from + k ≡ MOST_PARTITIONS
    → MarkRead least from bytes ((place, number), middle) →
    MarksRead least count (place + 1) (k - (place - from + 1)) (front
    ++ (blanks (place - from) ++ Some number ∷ [])) middle x
    → MarksRead least (suc count) from k front bytes x
one_more least count from k place number front bytes middle x within read rest =
    let here : marks_from from (blanks (place - from) ++ Some number ∷ rest.back) ≡ place
    ∷ (number_bytes 8 number ++ marks_from (place + 1) rest.back) =
    marks_from-behind (place - from) from place (Some number ∷ rest.back) (omega (arith, read.low)) in
    let both = Takes-then bytes (place ∷ number_bytes 8 number) middle
    (marks_from (place + 1) rest.back) x.1 read.takes rest.takes in
    record {
      back = blanks (place - from) ++ Some number ∷ rest.back;
      marks = one_behind count k (place - from) number front x.0.1 rest.back (omega (arith, read.low, read.high))
          rest.marks;
      takes = record {
        parts = both.parts ∙ ap (λ (text : List ℕ). text ++ x.1) (sym here);
        rest_fits = both.rest_fits;
      };
      each = all_behind (IsMark least) tt (place - from) (Some number ∷ rest.back) (
        (read.enough, read.most),
        rest.each,
      );
    }

-- behind a mark that was read
behind_mark : (least count from k : ℕ) (front : List (Option ℕ)) (bytes : List ℕ) (x : (ℕ × List (Option ℕ)) × List ℕ) →
    length front ≡ from → from + k ≡ MOST_PARTITIONS
    → (mark : (ℕ × ℕ) × List ℕ) → MarkRead least from bytes mark
    → times (with_mark least) count (mark.0.0 + 1, slice_set (front ++ blanks k) mark.0.0 (Some mark.0.1)) mark.1 ≡ Ok x
    → ((k' : ℕ) (front' : List (Option ℕ)) → length front' ≡ mark.0.0 + 1 → mark.0.0 + 1 + k' ≡ MOST_PARTITIONS →
    times (with_mark least) count (mark.0.0 + 1, front' ++ blanks k') mark.1 ≡ Ok x →
    MarksRead least count (mark.0.0 + 1) k' front' mark.1 x)
    → MarksRead least (suc count) from k front bytes x
behind_mark least count from k front bytes x size within mark read is others =
    let filled = fill front k from mark.0.0 mark.0.1 size read.low (omega (arith, read.high)) in
    let there = subst (λ (marks : List (Option ℕ)). times (with_mark least) count (mark.0.0 + 1, marks) mark.1
    ≡ Ok x) filled is in
    let rest = others (k - (mark.0.0 - from + 1)) (front ++ (blanks (mark.0.0 - from) ++ Some mark.0.1 ∷ []))
    (length_filled front from mark.0.0 mark.0.1 size read.low) (omega (arith, read.low, read.high)) there in
    one_more least count from k mark.0.0 mark.0.1 front bytes mark.1 x within read rest

-- where none is left
none_read : (least from k : ℕ) (front : List (Option ℕ)) (bytes : List ℕ) (x : (ℕ × List (Option ℕ)) × List ℕ) →
    IsBytes bytes → times (with_mark least) zero (from, front ++ blanks k) bytes ≡ Ok x →
    MarksRead least 0 from k front bytes x
unfolding times
none_read least from k front bytes x fits is =
    subst (MarksRead least 0 from k front bytes) (ok_is ((from, front ++ blanks k), bytes) x is) (record {
      back = blanks k;
      marks = none_behind k front;
      takes = record {
        parts = ap (λ (text : List ℕ). text ++ bytes) (sym (marks_from-blanks k from));
        rest_fits = fits;
      };
      each = all_blanks (IsMark least) tt k;
    })

marks_read : (least count from k : ℕ) (front : List (Option ℕ)) (bytes : List ℕ) (x : (ℕ × List (Option ℕ)) × List ℕ) →
    length front ≡ from → from + k ≡ MOST_PARTITIONS → IsBytes bytes
    → times (with_mark least) count (from, front ++ blanks k) bytes ≡ Ok x → MarksRead least count from k front bytes x
marks_read least zero from k front bytes x size within fits is = none_read least from k front bytes x fits is
marks_read least (suc count) from k front bytes x size within fits is =
    let next = times_ok (with_mark least) count (from, front ++ blanks k) bytes x is in
    let mark = bind_ok (need_mark_at least from bytes)
    (λ mark. Ok ((mark.0.0 + 1, slice_set (front ++ blanks k) mark.0.0 (Some mark.0.1)), mark.1)) next.0 next.1 in
    let same = ok_is (
      (mark.0.0.0 + 1, slice_set (front ++ blanks k) mark.0.0.0 (Some mark.0.0.1)),
      mark.0.1,
    ) next.0 mark.2 in
    let read = mark_takes least from bytes mark.0 fits mark.1 in
    behind_mark least count from k front bytes x size within mark.0 read
    (subst (λ (y : (ℕ × List (Option ℕ)) × List ℕ). times (with_mark least) count y.0 y.1 ≡ Ok x) (sym same) next.2)
    (λ k' front' size' within' is'. marks_read least count (mark.0.0.0
    + 1) k' front' mark.0.1 x size' within' read.takes.rest_fits is')

marks_again : (least from place : ℕ) (front back : List (Option ℕ)) (rest : List ℕ) → from ≤ place →
    length front ≡ place → place + length back ≡ MOST_PARTITIONS → AllByRecursion (IsMark least) back
    → (last : ℕ) × (times (with_mark least) (marked back) (from, front ++ blanks (length back)) (marks_from place back
    ++ rest) ≡ Ok ((last, front ++ back), rest))
unfolding times
marks_again least from place front [] rest low size within each = (from, refl)
marks_again least from place front (None ∷ back) rest low size within each =
    let read = marks_again least from (place + 1) (front ++ None ∷ []) back rest (omega arith)
    (omega (arith, length-append {A = Option ℕ} front (None ∷ []))) (omega arith) each.1 in
    (read.0, simp append_assoc at read.1)
marks_again least from place front (Some number ∷ back) rest low size within each =
    let behind = marks_from (place + 1) back ++ rest in
    let read = marks_again least (place + 1) (place + 1) (front ++ Some number ∷ []) back rest (omega arith)
    (omega (arith, length-append front (Some number ∷ []))) (omega arith) each.1 in
    let mark = mark_again least from place number behind low (omega arith) each.0.0 each.0.1 in
    let filled : slice_set (front ++ None ∷ blanks (length back)) place (Some number) ≡ (front ++ Some number ∷ [])
    ++ blanks (length back) = set_at front None (blanks (length back)) (Some number) place size ∙ sym
    (append_assoc front (Some number ∷ []) (blanks (length back))) in
    let regrouped : marks_from place (Some number ∷ back) ++ rest ≡ place ∷ (number_bytes 8 number ++ behind) =
    ap (λ (bytes : List ℕ). place
    ∷ bytes) (append_assoc (number_bytes 8 number) (marks_from (place + 1) back) rest) in (
      read.0,
      rw (
        regrouped,
        add-one (marked back),
        mark,
        filled,
        read.1,
      ) (ap (λ (marks : List (Option ℕ)). Ok ((read.0, marks), rest))
          (append_assoc front (Some number ∷ []) back)),
    )

-- ---- the count and the partitions

pub blanks_are : no_marks ≡ blanks MOST_PARTITIONS
unfolding by_partition
blanks_are = refl

pub marked_few : (marks : List (Option ℕ)) → marked marks ≤ length marks
marked_few [] = omega arith
marked_few (None ∷ marks) = omega (arith, marked_few marks)
marked_few (Some number ∷ marks) = omega (arith, marked_few marks)

-- marks that have a spelling
pub record AreSpelled (least : ℕ) (marks : List (Option ℕ)) : Type 0 where
  pub size : length marks ≡ MOST_PARTITIONS
  pub some : 1 ≤ marked marks
  pub each : AllByRecursion (IsMark least) marks

whole_read : (least count : ℕ) (bytes middle : List ℕ) (x : (ℕ × List (Option ℕ)) × List ℕ) →
    Takes bytes (count ∷ []) middle → 1 ≤ count → MarksRead least count 0 MOST_PARTITIONS [] middle x
    → Takes bytes (marks_bytes x.0.1) x.1 × AreSpelled least x.0.1
whole_read least count bytes middle x head some read =
    let P : List (Option ℕ) → Type 0 = λ marks. Takes bytes (marks_bytes marks) x.1 × AreSpelled least marks in
    let both = Takes-then bytes (count ∷ []) middle (marks_from 0 read.back) x.1 head read.takes in
    let counted : count ∷ marks_from 0 read.back ≡ marks_bytes read.back =
    ap (λ (n : ℕ). n ∷ marks_from 0 read.back) (sym read.marks.all) in
    subst P (sym read.marks.whole) (
      record { parts = both.parts ∙ ap (λ (text : List ℕ). text ++ x.1) counted; rest_fits = both.rest_fits },
      record { size = read.marks.size; some = omega (arith, read.marks.all); each = read.each },
    )

pub marks_at_takes : (least : ℕ) (bytes : List ℕ) (x : List (Option ℕ) × List ℕ) → IsBytes bytes →
    marks_at least bytes ≡ Ok x → Takes bytes (marks_bytes x.0) x.1 × AreSpelled least x.0
unfolding marks_at
marks_at_takes least bytes x fits is =
    let count = bind_ok (within_at 1 MOST_PARTITIONS bytes) (λ count. times (with_mark least) count.0 (
      0,
      no_marks,
    ) count.1 >>= λ marks. Ok (marks.0.1, marks.1)) x is in
    let marks = bind_ok (times (with_mark least) count.0.0 (0, no_marks) count.0.1)
    (λ marks. Ok (marks.0.1, marks.1)) x count.2 in
    let head = within_takes 1 MOST_PARTITIONS bytes count.0 fits count.1 in
    let started = subst (λ (marks' : List (Option ℕ)). times (with_mark least) count.0.0 (0, marks') count.0.1
    ≡ Ok marks.0) blanks_are marks.1 in
    let read = marks_read least count.0.0 0 MOST_PARTITIONS [] count.0.1 marks.0 refl refl head.0.rest_fits started in
    let P : List (Option ℕ) × List ℕ → Type 0 = λ y. Takes bytes (marks_bytes y.0) y.1 × AreSpelled least y.0 in
    subst P (ok_is (marks.0.0.1, marks.0.1) x marks.2)
    (whole_read least count.0.0 bytes count.0.1 marks.0 head.0 head.1 read)

pub marks_at_again : (least : ℕ) (marks : List (Option ℕ)) (rest : List ℕ) → AreSpelled least marks →
    marks_at least (marks_bytes marks ++ rest) ≡ Ok (marks, rest)
unfolding marks_at
marks_at_again least marks rest spelled =
    let read = marks_again least 0 0 [] marks rest (omega arith) refl (omega (arith, spelled.size)) spelled.each in
    let started : no_marks ≡ blanks (length marks) = blanks_are ∙ ap (λ (k : ℕ). blanks k) (sym spelled.size) in
    rw (
      within_again 1 MOST_PARTITIONS (marked marks) (marks_from 0 marks
          ++ rest) spelled.some (omega (arith, marked_few marks, spelled.size)),
      started,
      read.1,
    ) refl

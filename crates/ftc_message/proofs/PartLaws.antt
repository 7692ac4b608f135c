-- The partitions of a log: what is read is spelled so, and what is spelled so is read.
use Rattle.std.proofs.Common.{◌≡◌, ◌≢◌, ℕ, zero, suc, ◌+◌, ◌-◌, ◌^◌, ◌<◌, ◌≤◌, ◌==◌, ◌&&◌, ltb, Bool, true, false, List}
use Rattle.std.proofs.Common.{[], ◌∷◌, ◌++◌, length, get_or, bit_or, Option, Some, None, IsSome, Ok, refl, sym, ap}
use Rattle.std.proofs.Common.{subst, ◌∙◌, append_assoc, add-one, arith, inl, inr, if◌then◌else◌}
use Rattle.std.specs.Prelude.{slice_set}
use Rattle.std.specs.List.{AllByRecursion}
use Rattle.std.proofs.lemmas.Bool.{cases_lt, cases_eq, lt-ltb, le-ltb}
use Rattle.std.proofs.lemmas.List.{set_at, get_or_at, get_or-set_same, get_or-set_other, length-set, length-append}
use Rattle.std.proofs.lemmas.List.{length-replicate}
use Rattle.ftc_base.specs.Sets.{has}
use Rattle.ftc_base.proofs.Members.{same, has-zero}
use Rattle.ftc_base.specs.declared.limits.TheConstants.{MOST_PARTITIONS}
use Rattle.ftc_message.specs.declared.parts.Part.{Part}
use Rattle.ftc_message.specs.declared.parts.Parts.{Parts}
use Rattle.ftc_message.specs.Numbers.{number_bytes}
use Rattle.ftc_message.specs.Spelling.{marked, flag, parts_from, parts_bytes}
use Rattle.ftc_base.specs.Reading.{◌>>=◌}
use Rattle.ftc_message.specs.Fields.{within_at, integer_at}
use Rattle.ftc_message.specs.Reading.{times, partition_at, part_at, changed_by, plus_part, with_part, no_marks}
use Rattle.ftc_message.specs.Reading.{no_parts, parts_at}
use Rattle.ftc_message.proofs.Fields.{IsBytes, Takes, Takes-then, bind_ok, ok_is, times_ok, within_takes, within_again}
use Rattle.ftc_message.proofs.Fields.{number_takes, number_again, wide_8}
use Rattle.ftc_message.proofs.Blanks.{blanks, fill, length_filled, all_blanks, all_behind}
use Rattle.ftc_message.proofs.Members.{has_added_same, has_added_other}
use Rattle.ftc_message.proofs.MarkLaws.{partition_takes, partition_again, IsMark, MarksBehind, none_behind, one_behind}
use Rattle.ftc_message.proofs.MarkLaws.{marked_few, blanks_are, AreSpelled}

-- ---- one partition

pub flag_is : (byte : ℕ) → byte ≤ 1 → flag (byte == 1) ≡ byte
flag_is zero small = refl
flag_is (suc zero) small = refl
flag_is (suc (suc byte)) small = absurd (omega arith)

pub flag_again : (changed : Bool) → (flag changed == 1) ≡ changed
flag_again true = refl
flag_again false = refl

flag_small : (changed : Bool) → flag changed ≤ 1
flag_small true = omega arith
flag_small false = omega arith

record PartRead (from : ℕ) (bytes : List ℕ) (x : Part × List ℕ) : Type 0 where
  pub takes : Takes bytes (x.0.partition ∷ (flag x.0.is_changed ∷ number_bytes 8 x.0.number)) x.1
  pub low : from ≤ x.0.partition
  pub high : x.0.partition < MOST_PARTITIONS
  pub most : x.0.number < 2 ^ 64

part_takes : (from : ℕ) (bytes : List ℕ) (x : Part × List ℕ) → IsBytes bytes → part_at from bytes ≡ Ok x →
    PartRead from bytes x
unfolding part_at
part_takes from bytes x fits is =
    let partition = bind_ok (partition_at from bytes)
    (λ partition. within_at 0 1 partition.1 >>= λ flag'. integer_at 8 flag'.1 >>= λ number.
    Ok (record { partition = partition.0; is_changed = flag'.0 == 1; number = number.0 }, number.1)) x is in
    let byte = bind_ok (within_at 0 1 partition.0.1) (λ flag'. integer_at 8 flag'.1 >>= λ number.
    Ok (
      record { partition = partition.0.0; is_changed = flag'.0 == 1; number = number.0 },
      number.1,
    )) x partition.2 in
    let number = bind_ok (integer_at 8 byte.0.1)
    (λ number. Ok (
      record { partition = partition.0.0; is_changed = byte.0.0 == 1; number = number.0 },
      number.1,
    )) x byte.2 in
    let first = partition_takes from bytes partition.0 fits partition.1 in
    let second = within_takes 0 1 partition.0.1 byte.0 first.0.rest_fits byte.1 in
    let third = number_takes 8 (2 ^ 64) wide_8 byte.0.1 number.0 second.0.rest_fits number.1 in
    let flagged : Takes partition.0.1 (flag (byte.0.0 == 1) ∷ []) byte.0.1 =
    subst (λ (b : ℕ). Takes partition.0.1 (b ∷ []) byte.0.1) (sym (flag_is byte.0.0 second.2)) second.0 in
    let later = Takes-then partition.0.1 (flag (byte.0.0 == 1)
    ∷ []) byte.0.1 (number_bytes 8 number.0.0) number.0.1 flagged third.0 in
    subst (PartRead from bytes)
    (ok_is (
      record { partition = partition.0.0; is_changed = byte.0.0 == 1; number = number.0.0 },
      number.0.1,
    ) x number.2) (record {
      takes = Takes-then bytes (partition.0.0 ∷ []) partition.0.1 (flag (byte.0.0 == 1)
          ∷ number_bytes 8 number.0.0) number.0.1 first.0 later;
      low = first.1;
      high = first.2;
      most = third.1;
    })

abbrev part : ℕ → Bool → ℕ → Part
part partition is_changed number = record { partition = partition; is_changed = is_changed; number = number }

part_again : (from partition : ℕ) (is_changed : Bool) (number : ℕ) (rest : List ℕ) → from ≤ partition →
    partition < MOST_PARTITIONS → number < 2 ^ 64
    → part_at from (partition ∷ (flag is_changed ∷ (number_bytes 8 number ++ rest)))
    ≡ Ok (part partition is_changed number, rest)
unfolding part_at
part_again from partition is_changed number rest low high most =
    rw (
      partition_again from partition (flag is_changed ∷ (number_bytes 8 number ++ rest)) low high,
      within_again 0 1 (flag is_changed) (number_bytes 8 number ++ rest) (omega arith) (flag_small is_changed),
      number_again 8 (2 ^ 64) wide_8 number rest most,
      flag_again is_changed,
    ) refl

-- ---- the set of the changed

changed_here : (is_changed : Bool) (partition changed : ℕ) → has changed partition ≡ false →
    has (if is_changed then bit_or changed (2 ^ partition) else changed) partition ≡ is_changed
changed_here true partition changed none = has_added_same changed partition
changed_here false partition changed none = none

changed_there : (is_changed : Bool) (partition changed other : ℕ) → other ≢ partition →
    has (if is_changed then bit_or changed (2 ^ partition) else changed) other ≡ has changed other
changed_there true partition changed other differs = has_added_other changed partition other differs
changed_there false partition changed other differs = refl

-- ---- all partitions, as they are read

parts_from-blanks : (k changed from : ℕ) → parts_from changed from (blanks k) ≡ []
parts_from-blanks zero changed from = refl
parts_from-blanks (suc k) changed from = parts_from-blanks k changed (from + 1)

parts_from-behind : (j changed from place : ℕ) (marks : List (Option ℕ)) → place ≡ from + j →
    parts_from changed from (blanks j ++ marks) ≡ parts_from changed place marks
parts_from-behind zero changed from place marks is = ap (λ (p : ℕ). parts_from changed p marks) (omega arith)
parts_from-behind (suc j) changed from place marks is = parts_from-behind j changed (from + 1) place marks (omega arith)

record PartsRead (count from k changed : ℕ) (front : List (Option ℕ)) (bytes : List ℕ) (x : (ℕ × Parts)
    × List ℕ) : Type 0 where
  pub back : List (Option ℕ)
  pub marks : MarksBehind count k front x.0.1.before back
  pub takes : Takes bytes (parts_from x.0.1.changed from back) x.1
  pub each : AllByRecursion (IsMark 0) back
  pub kept : (q : ℕ) → q < from → has x.0.1.changed q ≡ has changed q

one_more : (count from k changed place : ℕ) (is_changed : Bool) (number : ℕ) (front : List (Option ℕ))
    (bytes middle : List ℕ) (x : (ℕ × Parts) × List ℕ) → from + k ≡ MOST_PARTITIONS
    → has changed place ≡ false → PartRead from bytes (part place is_changed number, middle)
    → PartsRead count (place + 1) (k - (place - from + 1)) (if is_changed then bit_or changed (2 ^ place)
    else changed) (front ++ (blanks (place - from) ++ Some number ∷ [])) middle x
    → PartsRead (suc count) from k changed front bytes x
one_more count from k changed place is_changed number front bytes middle x within none read rest =
    let last = x.0.1.changed in
    let here : parts_from last from (blanks (place - from) ++ Some number ∷ rest.back) ≡ place
    ∷ (flag (has last place) ∷ (number_bytes 8 number ++ parts_from last (place + 1) rest.back)) =
    parts_from-behind (place - from) last from place (Some number ∷ rest.back) (omega (arith, read.low)) in
    let flagged : has last place ≡ is_changed =
    rest.kept place (omega arith) ∙ changed_here is_changed place changed none in
    let spelled : parts_from last from (blanks (place - from) ++ Some number ∷ rest.back) ≡ place
    ∷ (flag is_changed ∷ (number_bytes 8 number ++ parts_from last (place + 1) rest.back)) =
    here ∙ ap (λ (b : Bool). place
    ∷ (flag b ∷ (number_bytes 8 number ++ parts_from last (place + 1) rest.back))) flagged in
    let both = Takes-then bytes (place ∷ (flag is_changed ∷ number_bytes 8 number)) middle
    (parts_from last (place + 1) rest.back) x.1 read.takes rest.takes in
    record {
      back = blanks (place - from) ++ Some number ∷ rest.back;
      marks = one_behind count k (place - from) number front x.0.1.before rest.back
          (omega (arith, read.low, read.high)) rest.marks;
      takes = record {
        parts = both.parts ∙ ap (λ (text : List ℕ). text ++ x.1) (sym spelled);
        rest_fits = both.rest_fits;
      };
      each = all_behind (IsMark 0) tt (place - from) (Some number ∷ rest.back) ((omega arith, read.most), rest.each);
      kept = λ q under. rest.kept q (omega (arith, read.low)) ∙ changed_there is_changed place changed q
          (omega (arith, read.low));
    }

abbrev state : ℕ → List (Option ℕ) → ℕ → ℕ × Parts
state from before changed = (from, record { before = before; changed = changed })

behind_part : (count from k changed : ℕ) (front : List (Option ℕ)) (bytes : List ℕ) (x : (ℕ × Parts) × List ℕ) →
    length front ≡ from → from + k ≡ MOST_PARTITIONS → ((q : ℕ) → from ≤ q → has changed q ≡ false)
    → (read : Part × List ℕ) → PartRead from bytes read
    → times with_part count (state (read.0.partition
    + 1) (slice_set (front ++ blanks k) read.0.partition (Some read.0.number)) (changed_by read.0 changed)) read.1
    ≡ Ok x
    → ((k' : ℕ) (front' : List (Option ℕ)) → length front' ≡ read.0.partition + 1 →
    read.0.partition + 1 + k' ≡ MOST_PARTITIONS →
    ((q : ℕ) → read.0.partition + 1 ≤ q → has (changed_by read.0 changed) q ≡ false)
    → times with_part count (state (read.0.partition + 1) (front' ++ blanks k') (changed_by read.0 changed)) read.1
    ≡ Ok x → PartsRead count (read.0.partition + 1) k' (changed_by read.0 changed) front' read.1 x)
    → PartsRead (suc count) from k changed front bytes x
behind_part count from k changed front bytes x size within none read found is others =
    let place = read.0.partition in
    let filled = fill front k from place read.0.number size found.low (omega (arith, found.high)) in
    let there = subst (λ (marks : List (Option ℕ)). times with_part count
    (state (place + 1) marks (changed_by read.0 changed)) read.1 ≡ Ok x) filled is in
    let rest = others (k - (place - from + 1)) (front ++ (blanks (place - from) ++ Some read.0.number ∷ []))
    (length_filled front from place read.0.number size found.low) (omega (arith, found.low, found.high))
    (λ q past. changed_there read.0.is_changed place changed q (omega arith) ∙ none q
    (omega (arith, found.low))) there in
    one_more count from k changed place read.0.is_changed read.0.number front bytes read.1 x within
    (none place found.low) found rest

none_read : (from k changed : ℕ) (front : List (Option ℕ)) (bytes : List ℕ) (x : (ℕ × Parts) × List ℕ) → IsBytes bytes →
    times with_part zero (state from (front ++ blanks k) changed) bytes ≡ Ok x →
    PartsRead 0 from k changed front bytes x
unfolding times
none_read from k changed front bytes x fits is =
    subst (PartsRead 0 from k changed front bytes) (ok_is (state from (front ++ blanks k) changed, bytes) x is)
    (record {
      back = blanks k;
      marks = none_behind k front;
      takes = record {
        parts = ap (λ (text : List ℕ). text ++ bytes) (sym (parts_from-blanks k changed from));
        rest_fits = fits;
      };
      each = all_blanks (IsMark 0) tt k;
      kept = λ q under. refl;
    })

parts_read : (count from k changed : ℕ) (front : List (Option ℕ)) (bytes : List ℕ) (x : (ℕ × Parts) × List ℕ) →
    length front ≡ from → from + k ≡ MOST_PARTITIONS → ((q : ℕ) → from ≤ q → has changed q ≡ false) → IsBytes bytes
    → times with_part count (state from (front ++ blanks k) changed) bytes ≡ Ok x →
    PartsRead count from k changed front bytes x
parts_read zero from k changed front bytes x size within none fits is = none_read from k changed front bytes x fits is
parts_read (suc count) from k changed front bytes x size within none fits is =
    let next = times_ok with_part count (state from (front ++ blanks k) changed) bytes x is in
    let read = bind_ok (part_at from bytes)
    (λ read. Ok (
      (
        read.0.partition + 1,
        plus_part read.0 (record { before = front ++ blanks k; changed = changed }),
      ),
      read.1,
    )) next.0 next.1 in
    let same = ok_is (
      (
        read.0.0.partition + 1,
        plus_part read.0.0 (record { before = front ++ blanks k; changed = changed }),
      ),
      read.0.1,
    ) next.0 read.2 in
    let found = part_takes from bytes read.0 fits read.1 in
    behind_part count from k changed front bytes x size within none read.0 found
    (subst (λ (y : (ℕ × Parts) × List ℕ). times with_part count y.0 y.1 ≡ Ok x) (sym same) next.2)
    (λ k' front' size' within' none' is'. parts_read count (read.0.0.partition
    + 1) k' (changed_by read.0.0 changed) front' read.0.1 x size' within' none' found.takes.rest_fits is')

-- ---- all partitions, as they were written

-- the set of those of the changed that stand before a place
abbrev pub IsUpTo : ℕ → ℕ → ℕ → Type 0
IsUpTo changed place set = (q : ℕ) → has set q ≡ (ltb q place && has changed q)

up_to_more : (changed place set : ℕ) (is_changed : Bool) → has changed place ≡ is_changed → IsUpTo changed place set →
    IsUpTo changed (place + 1) (if is_changed then bit_or set (2 ^ place) else set)
up_to_more changed place set is_changed here before q =
    elim (cases_eq q place) [
      | inl at ↦
          let outside : has set place ≡ false = before place ∙ rw (le-ltb place place (omega arith)) refl in
          let inside : has (if is_changed then bit_or set (2 ^ place) else set) q ≡ is_changed =
          rw at (changed_here is_changed place set outside) in
          inside ∙ rw (lt-ltb q (place + 1) (omega arith)) (sym here ∙ ap (λ (p : ℕ). has changed p) (sym at))
      | inr differs ↦ changed_there is_changed place set q differs ∙ before q ∙ ap (λ (b : Bool). b
          && has changed q) (below_same q place differs)
    ]
  where
    below_same : (q place : ℕ) → q ≢ place → ltb q place ≡ ltb q (place + 1)
    below_same q place differs =
        elim (cases_lt q place) [
          | inl under ↦ lt-ltb q place under ∙ sym (lt-ltb q (place + 1) (omega arith))
          | inr past ↦ le-ltb q place past ∙ sym (le-ltb q (place + 1) (omega arith))
        ]

up_to_all : (changed place set : ℕ) → ((q : ℕ) → has changed q ≡ true → q < place) → IsUpTo changed place set →
    set ≡ changed
up_to_all changed place set all is = same set changed (λ q. is q ∙ within q (has changed q) (all q))
  where
    within : (q : ℕ) (b : Bool) → (b ≡ true → q < place) → (ltb q place && b) ≡ b
    within q true under = rw (lt-ltb q place (under refl)) refl
    within q false under = elim (ltb q place) as (λ t. (t && false) ≡ false) [ true ↦ refl | false ↦ refl ]

-- a partition with a number is below the count of partitions
some_within : {A : Type 0} (marks : List (Option A)) (q : ℕ) → IsSome (get_or marks q None) → q < length marks
some_within [] q some = absurd cc
some_within (mark ∷ marks) zero some = omega arith
some_within (mark ∷ marks) (suc q) some = omega (arith, some_within marks q some)

-- the changed are among the marked
abbrev pub IsMarked : List (Option ℕ) → ℕ → Type 0
IsMarked marks changed = (q : ℕ) → has changed q ≡ true → IsSome (get_or marks q None)

not_some : {A : Type 0} (mark : Option A) → mark ≡ None → IsSome mark → ⊥
not_some None none some = cc
not_some (Some number) none some = cc

unmarked : (b : Bool) (front back : List (Option ℕ)) (place : ℕ) → length front ≡ place →
    (b ≡ true → IsSome (get_or (front ++ None ∷ back) place None)) → b ≡ false
unmarked false front back place size some = refl
unmarked true front back place size some =
    absurd (not_some (get_or (front ++ None ∷ back) place None) (get_or_at front None back None place size) (some refl))

parts_again : (from place set changed : ℕ) (front back : List (Option ℕ)) (rest : List ℕ) → from ≤ place →
    length front ≡ place → place + length back ≡ MOST_PARTITIONS → AllByRecursion (IsMark 0) back
    → IsMarked (front ++ back) changed → IsUpTo changed place set
    → (last : ℕ) × (times with_part (marked back) (state from (front ++ blanks (length back)) set)
    (parts_from changed place back ++ rest) ≡ Ok (state last (front ++ back) changed, rest))
unfolding times
parts_again from place set changed front [] rest low size within each marks so_far =
    let all : set ≡ changed = up_to_all changed place set
    (λ q is. omega (
      arith,
      some_within (front ++ []) q (marks q is),
      length-append {A = Option ℕ} front [],
    )) so_far in
    (from, ap (λ (c : ℕ). Ok (state from (front ++ []) c, rest)) all)
parts_again from place set changed front (None ∷ back) rest low size within each marks so_far =
    let regrouped : (front ++ None ∷ []) ++ back ≡ front ++ None ∷ back = append_assoc front (None ∷ []) back in
    let none : has changed place ≡ false = unmarked (has changed place) front back place size (marks place) in
    let read = parts_again from (place + 1) set changed (front ++ None ∷ []) back rest (omega arith)
    (omega (arith, length-append {A = Option ℕ} front (None ∷ []))) (omega arith) each.1
    (subst (λ (m : List (Option ℕ)). IsMarked m changed) (sym regrouped) marks)
    (up_to_more changed place set false none so_far) in
    (read.0, simp append_assoc at read.1)
parts_again from place set changed front (Some number ∷ back) rest low size within each marks so_far =
    let behind = parts_from changed (place + 1) back ++ rest in
    let is_changed = has changed place in
    let set' = (if is_changed then bit_or set (2 ^ place) else set) in
    let regrouped : (front ++ Some number ∷ []) ++ back ≡ front ++ Some number ∷ back =
    append_assoc front (Some number ∷ []) back in
    let read = parts_again (place + 1) (place + 1) set' changed (front ++ Some number ∷ []) back rest (omega arith)
    (omega (arith, length-append front (Some number ∷ []))) (omega arith) each.1
    (subst (λ (m : List (Option ℕ)). IsMarked m changed) (sym regrouped) marks)
    (up_to_more changed place set is_changed refl so_far) in
    let found = part_again from place is_changed number behind low (omega arith) each.0.1 in
    let filled : slice_set (front ++ None ∷ blanks (length back)) place (Some number) ≡ (front ++ Some number ∷ [])
    ++ blanks (length back) = set_at front None (blanks (length back)) (Some number) place size ∙ sym
    (append_assoc front (Some number ∷ []) (blanks (length back))) in
    let text : parts_from changed place (Some number ∷ back)
    ++ rest ≡ place ∷ (flag is_changed ∷ (number_bytes 8 number ++ behind)) =
    ap (λ (bytes : List ℕ). place ∷ (flag is_changed ∷ bytes))
    (append_assoc (number_bytes 8 number) (parts_from changed (place + 1) back) rest) in (
      read.0,
      rw (
        text,
        add-one (marked back),
        found,
        filled,
        read.1,
      ) (ap (λ (m : List (Option ℕ)). Ok (state read.0 m changed, rest)) regrouped),
    )

-- ---- the count and the partitions

-- parts that have a spelling
pub record ArePartsSpelled (parts : Parts) : Type 0 where
  pub before : AreSpelled 0 parts.before
  pub changed : IsMarked parts.before parts.changed

marked_more : (before : List (Option ℕ)) (changed : ℕ) (new : Part) → new.partition < length before →
    IsMarked before changed → IsMarked (slice_set before new.partition (Some new.number)) (changed_by new changed)
marked_more before changed new within marks q is =
    elim (cases_eq q new.partition) [
      | inl at ↦ rw (at, get_or-set_same before new.partition (Some new.number) None within) refl
      | inr differs ↦ rw (get_or-set_other before new.partition q (Some new.number) None differs)
          (marks q (sym (changed_there new.is_changed new.partition changed q differs) ∙ is))
    ]

parts_marked : (count from : ℕ) (before : List (Option ℕ)) (changed : ℕ) (bytes : List ℕ) (x : (ℕ × Parts) × List ℕ) →
    length before ≡ MOST_PARTITIONS → IsBytes bytes → IsMarked before changed
    → times with_part count (state from before changed) bytes ≡ Ok x → IsMarked x.0.1.before x.0.1.changed
unfolding times
parts_marked zero from before changed bytes x size fits marks is =
    subst (λ (y : (ℕ × Parts) × List ℕ). IsMarked y.0.1.before y.0.1.changed) (ok_is (
      state from before changed,
      bytes,
    ) x is) marks
parts_marked (suc count) from before changed bytes x size fits marks is =
    let next = times_ok with_part count (state from before changed) bytes x is in
    let read = bind_ok (part_at from bytes)
    (λ read. Ok (
      (read.0.partition + 1, plus_part read.0 (record { before = before; changed = changed })),
      read.1,
    )) next.0 next.1 in
    let same = ok_is (
      (read.0.0.partition + 1, plus_part read.0.0 (record { before = before; changed = changed })),
      read.0.1,
    ) next.0 read.2 in
    let found = part_takes from bytes read.0 fits read.1 in
    let place = read.0.0.partition in
    parts_marked count (place + 1) (slice_set before place (Some read.0.0.number))
    (changed_by read.0.0 changed) read.0.1 x
    (omega (arith, length-set before place (Some read.0.0.number))) found.takes.rest_fits
    (marked_more before changed read.0.0 (omega (arith, found.high)) marks)
    (subst (λ (y : (ℕ × Parts) × List ℕ). times with_part count y.0 y.1 ≡ Ok x) (sym same) next.2)

whole_read : (count : ℕ) (bytes middle : List ℕ) (x : (ℕ × Parts) × List ℕ) → Takes bytes (count ∷ []) middle →
    1 ≤ count → PartsRead count 0 MOST_PARTITIONS 0 [] middle x → IsMarked x.0.1.before x.0.1.changed
    → Takes bytes (parts_bytes x.0.1.before x.0.1.changed) x.1 × ArePartsSpelled x.0.1
whole_read count bytes middle x head some read marks =
    let last = x.0.1.changed in
    let both = Takes-then bytes (count ∷ []) middle (parts_from last 0 read.back) x.1 head read.takes in
    let counted : count ∷ parts_from last 0 read.back ≡ parts_bytes read.back last =
    ap (λ (n : ℕ). n ∷ parts_from last 0 read.back) (sym read.marks.all) in
    let T : List (Option ℕ) → Type 0 = λ m. Takes bytes (parts_bytes m last) x.1 in (
      subst T (sym read.marks.whole) (record {
        parts = both.parts ∙ ap (λ (text : List ℕ). text ++ x.1) counted;
        rest_fits = both.rest_fits;
      }),
      record {
        before = subst (AreSpelled 0) (sym read.marks.whole) (record {
          size = read.marks.size;
          some = omega (arith, read.marks.all);
          each = read.each;
        });
        changed = marks;
      },
    )

no_marks_marked : IsMarked (blanks MOST_PARTITIONS) 0
no_marks_marked q is = absurd (false_is_not (sym (has-zero q) ∙ is))
  where
    false_is_not : false ≡ true → ⊥
    false_is_not clash = cc

pub parts_at_takes : (bytes : List ℕ) (x : Parts × List ℕ) → IsBytes bytes → parts_at bytes ≡ Ok x →
    Takes bytes (parts_bytes x.0.before x.0.changed) x.1 × ArePartsSpelled x.0
unfolding parts_at
parts_at_takes bytes x fits is =
    let count = bind_ok (within_at 1 MOST_PARTITIONS bytes) (λ count. times with_part count.0 (
      0,
      no_parts,
    ) count.1 >>= λ parts. Ok (parts.0.1, parts.1)) x is in
    let parts = bind_ok (times with_part count.0.0 (0, no_parts) count.0.1)
    (λ parts. Ok (parts.0.1, parts.1)) x count.2 in
    let head = within_takes 1 MOST_PARTITIONS bytes count.0 fits count.1 in
    let started = subst (λ (marks : List (Option ℕ)). times with_part count.0.0 (state 0 marks 0) count.0.1
    ≡ Ok parts.0) blanks_are parts.1 in
    let read = parts_read count.0.0 0 MOST_PARTITIONS 0 [] count.0.1 parts.0 refl refl
    (λ q _. has-zero q) head.0.rest_fits started in
    let marks = parts_marked count.0.0 0 (blanks MOST_PARTITIONS) 0 count.0.1 parts.0
    (length-replicate {A = Option ℕ} MOST_PARTITIONS None) head.0.rest_fits no_marks_marked started in
    let P : Parts × List ℕ → Type 0 = λ y. Takes bytes (parts_bytes y.0.before y.0.changed) y.1 × ArePartsSpelled y.0 in
    subst P (ok_is (parts.0.0.1, parts.0.1) x parts.2)
    (whole_read count.0.0 bytes count.0.1 parts.0 head.0 head.1 read marks)

pub parts_at_again : (parts : Parts) (rest : List ℕ) → ArePartsSpelled parts →
    parts_at (parts_bytes parts.before parts.changed ++ rest) ≡ Ok (parts, rest)
unfolding parts_at
parts_at_again parts rest spelled =
    let none : IsUpTo parts.changed 0 0 = λ q. has-zero q ∙ rw (le-ltb q 0 (omega arith)) refl in
    let read = parts_again 0 0 0 parts.changed [] parts.before rest (omega arith) refl
    (omega (arith, spelled.before.size)) spelled.before.each spelled.changed none in
    let started : no_marks ≡ blanks (length parts.before) =
    blanks_are ∙ ap (λ (k : ℕ). blanks k) (sym spelled.before.size) in
    rw (
      within_again 1 MOST_PARTITIONS (marked parts.before) (parts_from parts.changed 0 parts.before
          ++ rest) spelled.before.some (omega (arith, marked_few parts.before, spelled.before.size)),
      started,
      read.1,
    ) refl

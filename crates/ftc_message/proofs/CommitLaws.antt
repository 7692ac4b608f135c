-- Commits, which are written as needs: what is read is spelled so, and what is spelled so is read.
use Rattle.std.proofs.Common.{◌≡◌, ◌≢◌, ℕ, zero, suc, ◌+◌, ◌-◌, ◌^◌, ◌<◌, ◌≤◌, ◌==◌, leb, max, Bool, true, false, List}
use Rattle.std.proofs.Common.{[], ◌∷◌, ◌++◌, length, get_or, drop, Option, Some, None, Result, Ok, Err, refl, sym, ap}
use Rattle.std.proofs.Common.{subst, ◌∙◌, inl, inr, append_assoc, arith, if◌then◌else◌}
use Rattle.std.specs.Prelude.{not, is_some, slice_set, replicate, unwrap_or}
use Rattle.std.specs.List.{AllByRecursion, list_all, list_any, flat_map}
use Rattle.std.proofs.lemmas.Bool.{cases_lt, leb-true, le-leb, and_parts, and_from, eq-eqb, ne_eqb, false_from_ne_true}
use Rattle.std.proofs.lemmas.List.{append-nil, drop_all, ext_get_or, drop_more, set_at, get_or_at, get_or_past}
use Rattle.std.proofs.lemmas.List.{get_or-drop}
use Rattle.std.proofs.lemmas.List.{length-append, length-replicate, length-map, length-drop}
use Rattle.ftc_base.specs.declared.limits.TheConstants.{MOST_SERVERS, MOST_PARTITIONS}
use Rattle.ftc_vector.specs.Vector.{by_partition, number_at, merged, IsVector}
use Rattle.ftc_vector.specs.Commits.{by_group, vector_of, group_raised, IsGroupEnd}
use Rattle.ftc_vector.proofs.Held.{zeros_are as zeros_are_vector}
use Rattle.ftc_vector.proofs.Partitions.{by_partition-from, length-by_partition, get_or-by_partition}
use Rattle.ftc_message.specs.declared.need.Need.{Need}
use Rattle.ftc_message.specs.Logged.{needs_rise}
use Rattle.ftc_message.specs.Bounds.{AreCommits}
use Rattle.ftc_message.specs.Spelling.{marked, marks_from, need_bytes, needs_bytes, not_zero, known_from, commits_bytes}
use Rattle.ftc_message.specs.Numbers.{number_bytes}
use Rattle.ftc_message.proofs.Partitions.{count_small}
use Rattle.ftc_base.specs.Reading.{◌>>=◌}
use Rattle.ftc_message.specs.declared.fault.FieldFault.{FieldFault}
use Rattle.ftc_message.specs.Reading.{times, no_marks, with_mark, marks_at, later_group_at, need_at, with_need}
use Rattle.ftc_message.specs.Reading.{needs_at}
use Rattle.ftc_message.specs.Reading.{no_commits, numbers_in, known_at, with_known, commits_at}
use Rattle.ftc_message.specs.Fields.{within_at}
use Rattle.ftc_message.proofs.Fields.{IsBytes, Takes, bind_ok, ok_is}
use Rattle.ftc_message.proofs.Blanks.{split_at, length_before, replace, put_behind, length_behind}
use Rattle.ftc_message.proofs.MarkLaws.{IsMark, AreSpelled}
use Rattle.ftc_message.proofs.NeedLaws.{IsNeedSpelled, needs_at_takes, needs_at_again, need_read, group_refused}
use Rattle.ftc_message.proofs.NeedLaws.{marks_refused}
use Rattle.ftc_message.proofs.Steps.{goes_on, ends}

-- ---- a vector and its numbers that aren't 0

pub zeros : List ℕ
zeros = by_partition (λ _. 0)

get_or-not_zero : (vector : List ℕ) (p : ℕ) →
    get_or (not_zero vector) p None ≡ (if get_or vector p 0 == 0 then None else Some (get_or vector p 0))
get_or-not_zero [] p = refl
get_or-not_zero (n ∷ vector) zero = refl
get_or-not_zero (n ∷ vector) (suc p) = get_or-not_zero vector p

number_back : (n : ℕ) → unwrap_or (if n == 0 then None else Some n) 0 ≡ n
number_back zero = refl
number_back (suc n) = rw (ne_eqb (suc n) 0 (λ is. omega arith)) refl

pub length-not_zero : (vector : List ℕ) → length (not_zero vector) ≡ length vector
length-not_zero vector = length-map vector (λ number. if number == 0 then None else Some number)

pub numbers_back : (vector : List ℕ) → length vector ≡ MOST_PARTITIONS → numbers_in (not_zero vector) ≡ vector
numbers_back vector size =
    sym (by_partition-from (λ q. unwrap_or (get_or (not_zero vector) q None) 0) vector 0 size
    (λ p within. sym (rw (get_or-not_zero vector p) (number_back (get_or vector p 0)))))

pub not_zero-set : (vector : List ℕ) (p number : ℕ) → 1 ≤ number
    → slice_set (not_zero vector) p (Some number) ≡ not_zero (slice_set vector p number)
not_zero-set [] p number some = refl
not_zero-set (n ∷ vector) zero number some = rw (ne_eqb number 0 (λ none. omega (arith, none, some))) refl
not_zero-set (n ∷ vector) (suc p) number some =
    ap (λ (marks : List (Option ℕ)). (if n == 0 then None else Some n) ∷ marks) (not_zero-set vector p number some)

pub none_not_zero : not_zero zeros ≡ no_marks
unfolding zeros by_partition
none_not_zero = refl

-- what was written of a vector gives that vector, where nothing was known before
vector_back : (vector : List ℕ) → length vector ≡ MOST_PARTITIONS → merged zeros (numbers_in (not_zero vector)) ≡ vector
unfolding zeros
vector_back vector size =
    sym (by_partition-from _ vector 0 size (λ p within.
    let old : number_at (by_partition (λ _. 0)) p ≡ 0 = get_or-by_partition (λ _. 0) p 0 within in
    let new : number_at (numbers_in (not_zero vector)) p ≡ get_or vector p 0 =
    get_or-by_partition (λ q. unwrap_or (get_or (not_zero vector) q None) 0) p 0 within ∙ rw
    (get_or-not_zero vector p) (number_back (get_or vector p 0)) in
    omega (arith, old, new)))

at_each : (least : ℕ) (marks : List (Option ℕ)) → AllByRecursion (IsMark least) marks → (p : ℕ) →
    IsMark least (get_or marks p None)
at_each least [] each p = tt
at_each least (mark ∷ marks) each zero = each.0
at_each least (mark ∷ marks) each (suc p) = at_each least marks each.1 p

mark_back : (mark : Option ℕ) (n : ℕ) → IsMark 1 mark → n ≡ unwrap_or mark 0 → (if n == 0 then None else Some n) ≡ mark
mark_back None n is same = rw (eq-eqb n 0 same) refl
mark_back (Some number) n is same = rw (ne_eqb n 0 (λ none. omega (arith, is.0)), same) refl

number_at-known : (marks : List (Option ℕ)) (p : ℕ) → p < MOST_PARTITIONS →
    number_at (merged zeros (numbers_in marks)) p ≡ unwrap_or (get_or marks p None) 0
unfolding zeros
number_at-known marks p within =
    let old : number_at (by_partition (λ _. 0)) p ≡ 0 = get_or-by_partition (λ _. 0) p 0 within in
    let new : number_at (numbers_in marks) p ≡ unwrap_or (get_or marks p None) 0 =
    get_or-by_partition (λ q. unwrap_or (get_or marks q None) 0) p 0 within in
    let both : number_at (merged (by_partition (λ _. 0)) (numbers_in marks)) p
    ≡ max (number_at (by_partition (λ _. 0)) p) (number_at (numbers_in marks) p) =
    get_or-by_partition (λ q. max (number_at (by_partition (λ _. 0)) q)
    (number_at (numbers_in marks) q)) p 0 within in
    omega (arith, old, new, both)

length-known : (marks : List (Option ℕ)) → length (merged zeros (numbers_in marks)) ≡ MOST_PARTITIONS
length-known marks = length-by_partition (λ q. max (number_at zeros q) (number_at (numbers_in marks) q))

-- what was read of a vector is written again
marks_back : (marks : List (Option ℕ)) → AreSpelled 1 marks → not_zero (merged zeros (numbers_in marks)) ≡ marks
marks_back marks spelled =
    let vector = merged zeros (numbers_in marks) in
    ext_get_or None (not_zero vector) marks (length-not_zero vector ∙ length-known marks ∙ sym spelled.size)
    (λ p within.
    let inside : p < MOST_PARTITIONS = omega (arith, length-not_zero vector, length-known marks) in
    get_or-not_zero vector p ∙ mark_back (get_or marks p None) (get_or vector p 0) (at_each 1 marks spelled.each p)
    (number_at-known marks p inside))

small_number : (mark : Option ℕ) → IsMark 1 mark → unwrap_or mark 0 < 2 ^ 64
small_number None is = omega arith
small_number (Some number) is = is.1

vector_is : (marks : List (Option ℕ)) → AreSpelled 1 marks → IsVector (merged zeros (numbers_in marks))
vector_is marks spelled = record {
  size = length-known marks;
  bounds = λ p.
      elim (cases_lt p MOST_PARTITIONS) [
        | inl within ↦ omega (
          arith,
          number_at-known marks p within,
          small_number (get_or marks p None) (at_each 1 marks spelled.each p),
        )
        | inr past ↦ omega (
          arith,
          get_or_past (merged zeros (numbers_in marks)) p 0 (omega (arith, length-known marks)),
        )
      ];
}

zeros_are : IsVector zeros
unfolding zeros
zeros_are = zeros_are_vector

-- ---- which vectors are written

any_some : (marks : List (Option ℕ)) → 1 ≤ marked marks → list_any is_some marks ≡ true
any_some [] some = absurd (omega arith)
any_some (None ∷ marks) some = any_some marks some
any_some (Some number ∷ marks) some = refl

some_any : (marks : List (Option ℕ)) → list_any is_some marks ≡ true → 1 ≤ marked marks
some_any [] any = absurd cc
some_any (None ∷ marks) any = some_any marks any
some_any (Some number ∷ marks) any = omega arith

zeros_unknown : list_any is_some (not_zero zeros) ≡ false
unfolding zeros by_partition
zeros_unknown = refl

-- a vector that isn't written is all 0
all_zero : (vector : List ℕ) → list_any is_some (not_zero vector) ≡ false → (p : ℕ) → get_or vector p 0 ≡ 0
all_zero [] none p = refl
all_zero (zero ∷ vector) none zero = refl
all_zero (zero ∷ vector) none (suc p) = all_zero vector none p
all_zero (suc n ∷ vector) none p =
    let some : list_any is_some (not_zero (suc n ∷ vector)) ≡ true = rw (ne_eqb (suc n) 0 (λ is. omega arith)) refl in
    let clash : true ≡ false = sym some ∙ none in
    absurd cc

unknown_zeros : (vector : List ℕ) → length vector ≡ MOST_PARTITIONS → list_any is_some (not_zero vector) ≡ false →
    vector ≡ zeros
unfolding zeros
unknown_zeros vector size none = by_partition-from (λ _. 0) vector 0 size (λ p within. all_zero vector none p)

not_zero_each : (vector : List ℕ) → ((p : ℕ) → get_or vector p 0 < 2 ^ 64) → AllByRecursion (IsMark 1) (not_zero vector)
not_zero_each [] small = tt
not_zero_each (zero ∷ vector) small = (tt, not_zero_each vector (λ p. small (suc p)))
not_zero_each (suc n ∷ vector) small =
    let some : (if suc n == 0 then None else Some (suc n)) ≡ Some (suc n) =
    rw (ne_eqb (suc n) 0 (λ is. omega arith)) refl in
    (subst (IsMark 1) (sym some) (omega arith, small 0), not_zero_each vector (λ p. small (suc p)))

spelled_vector : (vector : List ℕ) → IsVector vector → list_any is_some (not_zero vector) ≡ true →
    AreSpelled 1 (not_zero vector)
spelled_vector vector is any =
    record {
      size = length-not_zero vector ∙ is.size;
      some = some_any (not_zero vector) any;
      each = not_zero_each vector is.bounds;
    }

-- ---- all groups, as they are written

abbrev known : ℕ → List ℕ → Need
known group vector = record { group = group; marks = not_zero vector }

record KnownSpelled (from group : ℕ) (vectors : List (List ℕ)) : Type 0 where
  pub few : length (known_from group vectors) ≤ length vectors
  pub each : AllByRecursion (IsNeedSpelled 1) (known_from group vectors)
  pub rising : needs_rise from (known_from group vectors) ≡ true

known_more : (any : Bool) (from group : ℕ) (vector : List ℕ) (vectors : List (List ℕ)) →
    any ≡ list_any is_some (not_zero vector) → from ≤ group → group < MOST_SERVERS → IsVector vector →
    KnownSpelled (group + 1) (group + 1) vectors → KnownSpelled from (group + 1) vectors
    → KnownSpelled from group (vector ∷ vectors)
known_more true from group vector vectors any low high is rest skipped =
    let here : known_from group (vector ∷ vectors) ≡ known group vector ∷ known_from (group + 1) vectors =
    rw (← any) refl in
    record {
      few = rw here (omega (arith, rest.few));
      each = rw here (record { group = high; marks = spelled_vector vector is (sym any) }, rest.each);
      rising = rw here (and_from (leb from group) (needs_rise (group + 1) (known_from (group + 1) vectors))
          (le-leb from group low) rest.rising);
    }
known_more false from group vector vectors any low high is rest skipped =
    let here : known_from group (vector ∷ vectors) ≡ known_from (group + 1) vectors = rw (← any) refl in
    record { few = rw here (omega (arith, skipped.few)); each = rw here skipped.each; rising = rw here skipped.rising }

known_spelled : (from group : ℕ) (vectors : List (List ℕ)) → from ≤ group → group + length vectors ≤ MOST_SERVERS →
    AllByRecursion IsVector vectors → KnownSpelled from group vectors
known_spelled from group [] low high each = record { few = omega arith; each = tt; rising = refl }
known_spelled from group (vector ∷ vectors) low high each =
    known_more (list_any is_some (not_zero vector)) from group vector vectors refl low (omega arith) each.0
    (known_spelled (group + 1) (group + 1) vectors (omega arith) (omega arith) each.1)
    (known_spelled from (group + 1) vectors (omega arith) (omega arith) each.1)

known_step : (any : Bool) (group : ℕ) (front : List (List ℕ)) (vector : List ℕ) (back : List (List ℕ)) →
    any ≡ list_any is_some (not_zero vector) → length front ≡ group → IsVector vector
    → with_known (known_from (group + 1) back) ((front ++ vector ∷ []) ++ replicate (length back) zeros)
    ≡ (front ++ vector ∷ []) ++ back
    → with_known (known_from group (vector ∷ back)) (front ++ zeros ∷ replicate (length back) zeros) ≡ front
    ++ vector ∷ back
known_step true group front vector back any size is rest =
    let here : known_from group (vector ∷ back) ≡ known group vector ∷ known_from (group + 1) back = rw (← any) refl in
    let commits = front ++ zeros ∷ replicate (length back) zeros in
    let old : vector_of commits group ≡ zeros = get_or_at front zeros (replicate (length back) zeros) [] group size in
    let new : merged (vector_of commits group) (numbers_in (not_zero vector)) ≡ vector =
    ap (λ (v : List ℕ). merged v (numbers_in (not_zero vector))) old ∙ vector_back vector is.size in
    let raised : group_raised commits group (numbers_in (not_zero vector)) ≡ (front ++ vector ∷ [])
    ++ replicate (length back) zeros =
    ap (λ (v : List ℕ). slice_set commits group v) new ∙ set_at front zeros
    (replicate (length back) zeros) vector group size ∙ sym
    (append_assoc front (vector ∷ []) (replicate (length back) zeros)) in
    ap (λ (ns : List Need). with_known ns commits) here ∙ ap
    (with_known (known_from (group + 1) back)) raised ∙ rest ∙ append_assoc front (vector ∷ []) back
known_step false group front vector back any size is rest =
    let here : known_from group (vector ∷ back) ≡ known_from (group + 1) back = rw (← any) refl in
    let zero_is : vector ≡ zeros = unknown_zeros vector is.size (sym any) in
    let same : front ++ zeros ∷ replicate (length back) zeros ≡ (front ++ vector ∷ [])
    ++ replicate (length back) zeros =
    ap (λ (v : List ℕ). front ++ v ∷ replicate (length back) zeros) (sym zero_is) ∙ sym
    (append_assoc front (vector ∷ []) (replicate (length back) zeros)) in
    ap (λ (ns : List Need). with_known ns (front ++ zeros ∷ replicate (length back) zeros)) here ∙ ap
    (with_known (known_from (group + 1) back)) same ∙ rest ∙ append_assoc front (vector ∷ []) back

known_back : (group : ℕ) (front back : List (List ℕ)) → length front ≡ group → AllByRecursion IsVector back →
    with_known (known_from group back) (front ++ replicate (length back) zeros) ≡ front ++ back
known_back group front [] size each = refl
known_back group front (vector ∷ back) size each =
    known_step (list_any is_some (not_zero vector)) group front vector back refl size each.0
    (known_back (group + 1) (front ++ vector ∷ []) back (omega (arith, length-append front (vector ∷ []))) each.1)

-- ---- all groups, as they are read

known_from-zeros : (k group : ℕ) → known_from group (replicate k zeros) ≡ []
known_from-zeros zero group = refl
known_from-zeros (suc k) group = rw zeros_unknown (known_from-zeros k (group + 1))

known_from-behind : (j from group : ℕ) (vectors : List (List ℕ)) → group ≡ from + j →
    known_from from (replicate j zeros ++ vectors) ≡ known_from group vectors
known_from-behind zero from group vectors is = ap (λ (g : ℕ). known_from g vectors) (omega arith)
known_from-behind (suc j) from group vectors is =
    rw zeros_unknown (known_from-behind j (from + 1) group vectors (omega arith))

each_zeros : (k : ℕ) → AllByRecursion IsVector (replicate k zeros)
each_zeros zero = tt
each_zeros (suc k) = (zeros_are, each_zeros k)

each_behind : (j : ℕ) (vectors : List (List ℕ)) → AllByRecursion IsVector vectors →
    AllByRecursion IsVector (replicate j zeros ++ vectors)
each_behind zero vectors each = each
each_behind (suc j) vectors each = (zeros_are, each_behind j vectors each)

record KnownRead (from k : ℕ) (front : List (List ℕ)) (ns : List Need) : Type 0 where
  pub back : List (List ℕ)
  pub whole : with_known ns (front ++ replicate k zeros) ≡ front ++ back
  pub size : length back ≡ k
  pub all : known_from from back ≡ ns
  pub each : AllByRecursion IsVector back

one_read : (from k : ℕ) (front : List (List ℕ)) (need : Need) (ns : List Need) → length front ≡ from →
    from + k ≡ MOST_SERVERS → from ≤ need.group → need.group < MOST_SERVERS → AreSpelled 1 need.marks
    → KnownRead (need.group + 1) (k - (need.group - from + 1)) (front
    ++ (replicate (need.group - from) zeros ++ merged zeros (numbers_in need.marks) ∷ [])) ns →
    KnownRead from k front (need ∷ ns)
one_read from k front need ns size within low high spelled rest =
    let group = need.group in
    let vector = merged zeros (numbers_in need.marks) in
    let commits = front ++ replicate k zeros in
    let old : vector_of commits group ≡ zeros =
    ap (λ (c : List (List ℕ)). vector_of c group)
    (split_at zeros front k from group size low (omega arith)) ∙ get_or_at (front
    ++ replicate (group - from) zeros) zeros (replicate (k - (group - from + 1)) zeros) [] group
    (length_before zeros front from group size low) in
    let raised : group_raised commits group (numbers_in need.marks)
    ≡ (front ++ (replicate (group - from) zeros ++ vector ∷ [])) ++ replicate (k - (group - from + 1)) zeros =
    ap (λ (v : List ℕ). slice_set commits group
    (merged v (numbers_in need.marks))) old ∙ replace zeros front k from group vector size low (omega arith) in
    let same : not_zero vector ≡ need.marks = marks_back need.marks spelled in
    let any : list_any is_some (not_zero vector) ≡ true =
    ap (list_any is_some) same ∙ any_some need.marks spelled.some in
    let here : known_from group (vector ∷ rest.back) ≡ known group vector ∷ known_from (group + 1) rest.back =
    rw any refl in
    let need_is : known group vector ≡ need = λ i. record { group = group; marks = same i } in
    record {
      back = replicate (group - from) zeros ++ vector ∷ rest.back;
      whole = ap (with_known ns) raised ∙ rest.whole
          ∙ put_behind front (replicate (group - from) zeros) vector rest.back;
      size = length_behind zeros k (group - from) vector rest.back (omega arith) rest.size;
      all = known_from-behind (group - from) from group (vector ∷ rest.back) (omega arith) ∙ here ∙ (λ i. need_is i
          ∷ rest.all i);
      each = each_behind (group - from) (vector ∷ rest.back) (vector_is need.marks spelled, rest.each);
    }

known_read : (from k : ℕ) (front : List (List ℕ)) (ns : List Need) → length front ≡ from → from + k ≡ MOST_SERVERS →
    AllByRecursion (IsNeedSpelled 1) ns → needs_rise from ns ≡ true → KnownRead from k front ns
known_read from k front [] size within each rising =
    record {
      back = replicate k zeros;
      whole = refl;
      size = length-replicate k zeros;
      all = known_from-zeros k from;
      each = each_zeros k;
    }
known_read from k front (need ∷ ns) size within each rising =
    let order = and_parts (leb from need.group) (needs_rise (need.group + 1) ns) rising in
    let low = leb-true from need.group order.0 in
    let vector = merged zeros (numbers_in need.marks) in
    let front' = front ++ (replicate (need.group - from) zeros ++ vector ∷ []) in
    let long : length front' ≡ need.group + 1 =
    omega (
      arith,
      length-append front (replicate (need.group - from) zeros ++ vector ∷ []),
      length-append (replicate (need.group - from) zeros) (vector ∷ []),
      length-replicate (need.group - from) zeros,
    ) in
    one_read from k front need ns size within low each.0.group each.0.marks
    (known_read (need.group + 1) (k - (need.group - from + 1)) front' ns long
    (omega (arith, each.0.group)) each.1 order.1)

-- ---- commits

pub zeros_commits : no_commits ≡ replicate MOST_SERVERS zeros
unfolding by_group zeros
zeros_commits = refl

each_vector : (commits : List (List ℕ)) → ((group : ℕ) → group < length commits → IsVector (get_or commits group [])) →
    AllByRecursion IsVector commits
each_vector [] is = tt
each_vector (vector ∷ vectors) is =
    (is 0 (omega arith), each_vector vectors (λ group within. is (suc group) (omega arith)))

vector_at : (commits : List (List ℕ)) → AllByRecursion IsVector commits → (group : ℕ) → group < length commits →
    IsVector (get_or commits group [])
vector_at [] each group within = absurd (omega arith)
vector_at (vector ∷ vectors) each zero within = each.0
vector_at (vector ∷ vectors) each (suc group) within = vector_at vectors each.1 group (omega arith)

pub commits_at_takes : (bytes : List ℕ) (x : List (List ℕ) × List ℕ) → IsBytes bytes → commits_at bytes ≡ Ok x →
    Takes bytes (commits_bytes x.0) x.1 × AreCommits x.0
unfolding commits_at
commits_at_takes bytes x fits is =
    let ns = bind_ok (needs_at MOST_SERVERS 1 bytes) (λ ns. Ok (with_known ns.0 no_commits, ns.1)) x is in
    let found = needs_at_takes MOST_SERVERS 1 bytes ns.0 fits ns.1 in
    let read = known_read 0 MOST_SERVERS [] ns.0.0 refl refl found.1.each found.1.rising in
    let whole : with_known ns.0.0 no_commits ≡ read.back = ap (with_known ns.0.0) zeros_commits ∙ read.whole in
    let P : List (List ℕ) × List ℕ → Type 0 = λ y. Takes bytes (commits_bytes y.0) y.1 × AreCommits y.0 in
    let text : Takes bytes (commits_bytes read.back) ns.0.1 =
    subst (λ (n : List Need). Takes bytes (needs_bytes n) ns.0.1) (sym read.all) found.0 in
    let same : (read.back, ns.0.1) ≡ (with_known ns.0.0 no_commits, ns.0.1) =
    ap (λ (c : List (List ℕ)). (c, ns.0.1)) (sym whole) in
    subst P (same ∙ ok_is (with_known ns.0.0 no_commits, ns.0.1) x ns.2) (
      text,
      record {
        size = read.size;
        each = λ group within. vector_at read.back read.each group (omega (arith, read.size));
      },
    )

pub commits_at_again : (commits : List (List ℕ)) (rest : List ℕ) → AreCommits commits →
    commits_at (commits_bytes commits ++ rest) ≡ Ok (commits, rest)
unfolding commits_at
commits_at_again commits rest are =
    let each = each_vector commits (λ group within. are.each group (omega (arith, are.size))) in
    let spelled = known_spelled 0 0 commits (omega arith) (omega (arith, are.size)) each in
    let read = needs_at_again MOST_SERVERS 1 (known_from 0 commits) rest
    (record { few = omega (arith, spelled.few, are.size); each = spelled.each; rising = spelled.rising }) in
    let started : no_commits ≡ replicate (length commits) zeros =
    zeros_commits ∙ ap (λ (k : ℕ). replicate k zeros) (sym are.size) in
    let back : with_known (known_from 0 commits) no_commits ≡ commits =
    ap (with_known (known_from 0 commits)) started ∙ known_back 0 [] commits refl each in
    rw (read, back) refl

-- ---- for the code

pub zero_number : (k : ℕ) → get_or {A = ℕ} (by_partition (λ _. 0)) k 0 ≡ 0
zero_number k =
    elim (cases_lt k MOST_PARTITIONS) [
      | inl within ↦ get_or-by_partition {A = ℕ} (λ _. 0) k 0 within
      | inr past ↦ get_or_past {X = ℕ} (by_partition (λ _. 0)) k 0 (omega (arith, length-by_partition {A = ℕ} (λ _. 0)))
    ]

-- what was read before stands in front of what is read
abbrev AreBehind : {T : Type 0} → ℕ → ℕ → List Need → ((ℕ × List Need) × List ℕ → Result T FieldFault) → ℕ → List Need →
    List ℕ → Type 0
AreBehind least n earlier behind from needs bytes =
    (times (with_need least) n (from, earlier ++ needs) bytes >>= behind)
    ≡ (times (with_need least) n (from, needs) bytes >>= λ read. behind ((read.0.0, earlier ++ read.0.1), read.1))

first_read : {T : Type 0} (least n : ℕ) (earlier : List Need) (behind : (ℕ × List Need) × List ℕ → Result T FieldFault)
    (from : ℕ) (needs : List Need) (bytes : List ℕ) (read : Result (Need × List ℕ) FieldFault)
    → ((from : ℕ) (needs : List Need) (bytes : List ℕ) → AreBehind least n earlier behind from needs bytes)
    → need_at least from bytes ≡ read → AreBehind least (suc n) earlier behind from needs bytes
unfolding times
first_read least n earlier behind from needs bytes (Err fault) rest_read is = rw is refl
first_read least n earlier behind from needs bytes (Ok (need, rest)) rest_read is =
    rw (is, append_assoc earlier needs (need ∷ [])) (rest_read (need.group + 1) (needs ++ need ∷ []) rest)

read_behind : {T : Type 0} (least n : ℕ) (earlier : List Need) (behind : (ℕ × List Need) × List ℕ → Result T FieldFault)
    (from : ℕ) (needs : List Need) (bytes : List ℕ) → AreBehind least n earlier behind from needs bytes
unfolding times
read_behind least zero earlier behind from needs bytes = refl
read_behind least (suc n) earlier behind from needs bytes =
    first_read least n earlier behind from needs bytes (need_at least from bytes)
    (read_behind least n earlier behind) refl

-- the commits that the needs which are read say beside these
abbrev pub known_beside : List (List ℕ) → (ℕ × List Need) × List ℕ → Result (List (List ℕ) × List ℕ) FieldFault
known_beside commits read = Ok (with_known read.0.1 commits, read.1)

-- what one more entry says is known before what the others say
pub one_more_known : (n from : ℕ) (need : Need) (bytes : List ℕ) (commits : List (List ℕ))
    → (times (with_need 1) n (from, need ∷ []) bytes >>= known_beside commits)
    ≡ (times (with_need 1) n (
      from,
      [],
    ) bytes >>= known_beside (group_raised commits need.group (numbers_in need.marks)))
one_more_known n from need bytes commits = read_behind 1 n (need ∷ []) (known_beside commits) from [] bytes

-- ---- what is known of one group, as it is read

bind_refused : {A B : Type 0} (read : Result A FieldFault) (next : A → B) (fault : FieldFault)
    → (read >>= λ found. Ok (next found)) ≡ Err fault → read ≡ Err fault
bind_refused (Ok found) next fault is = absurd cc
bind_refused (Err other) next fault is = cc

-- the marks that the numbers stand for
known_marks : (bytes vector rest : List ℕ) → known_at bytes ≡ Ok (vector, rest)
    → (marks : List (Option ℕ)) × (marks_at 1 bytes ≡ Ok (marks, rest)) × (numbers_in marks ≡ vector)
unfolding known_at
known_marks bytes vector rest is =
    let found = bind_ok (marks_at 1 bytes) (λ marks. Ok (numbers_in marks.0, marks.1)) (vector, rest) is in
    let same : (numbers_in found.0.0, found.0.1) ≡ (vector, rest) =
    ok_is (numbers_in found.0.0, found.0.1) (vector, rest) found.2 in
    let read : marks_at 1 bytes ≡ Ok (found.0.0, rest) =
    found.1 ∙ ap (λ (pair : List ℕ × List ℕ). Ok (found.0.0, pair.1)) same in
    (found.0.0, read, ap (λ (pair : List ℕ × List ℕ). pair.0) same)

-- the marks before the first number is read
pub marks_start : (bytes after : List ℕ) (count left : ℕ) → left ≡ count
    → within_at 1 MOST_PARTITIONS bytes ≡ Ok (count, after)
    → marks_at 1 bytes
    ≡ (times (with_mark 1) left (0, not_zero (by_partition (λ _. 0))) after >>= λ marks. Ok (marks.0.1, marks.1))
unfolding marks_at zeros
marks_start bytes after count left all is = rw (is, none_not_zero, all) refl

pub known_done : (bytes vector rest : List ℕ) → length vector ≡ MOST_PARTITIONS
    → marks_at 1 bytes ≡ Ok (not_zero vector, rest) → known_at bytes ≡ Ok (vector, rest)
unfolding known_at
known_done bytes vector rest size is =
    rw is (ap (λ (numbers : List ℕ). Ok (numbers, rest)) (numbers_back vector size))

pub known_refused : (bytes : List ℕ) (fault : FieldFault) → marks_at 1 bytes ≡ Err fault → known_at bytes ≡ Err fault
unfolding known_at
known_refused bytes fault is = rw is refl

marks_not_read : (bytes : List ℕ) (fault : FieldFault) → known_at bytes ≡ Err fault → marks_at 1 bytes ≡ Err fault
unfolding known_at
marks_not_read bytes fault is = bind_refused (marks_at 1 bytes) (λ marks. (numbers_in marks.0, marks.1)) fault is

-- one more group is read
pub one_known : (count i from group : ℕ) (bytes behind vector rest : List ℕ) (commits : List (List ℕ))
    (total : Result (List (List ℕ) × List ℕ) FieldFault)
    → i < count → later_group_at from bytes ≡ Ok (group, behind) → known_at behind ≡ Ok (vector, rest)
    → total ≡ (times (with_need 1) (count - i) (from, []) bytes >>= known_beside commits)
    → total
    ≡ (times (with_need 1) (count - (i + 1)) (group + 1, []) rest >>= known_beside (group_raised commits group vector))
one_known count i from group bytes behind vector rest commits total under first second is =
    let known = known_marks behind vector rest second in
    let need : Need = record { group = group; marks = known.0 } in
    goes_on (with_need 1) (known_beside commits) count i (from, []) (group + 1, need ∷ []) bytes rest total under
    (rw (need_read 1 from bytes behind rest group known.0 first known.1) refl) is
    ∙ one_more_known (count - (i + 1)) (group + 1) need rest commits
    ∙ ap (λ (numbers : List ℕ).
    times (with_need 1) (count - (i + 1)) (group + 1, []) rest >>= known_beside (group_raised commits group numbers))
    known.2

-- the fault of a group, and that of its numbers
pub group_ends : (count i from : ℕ) (bytes : List ℕ) (fault : FieldFault) (commits : List (List ℕ))
    (total : Result (List (List ℕ) × List ℕ) FieldFault) → i < count → later_group_at from bytes ≡ Err fault
    → total ≡ (times (with_need 1) (count - i) (from, []) bytes >>= known_beside commits) → total ≡ Err fault
group_ends count i from bytes fault commits total under first is =
    ends (with_need 1) (known_beside commits) count i (from, []) bytes fault total under
    (rw (group_refused 1 from bytes fault first) refl) is

pub known_ends : (count i from group : ℕ) (bytes behind : List ℕ) (fault : FieldFault) (commits : List (List ℕ))
    (total : Result (List (List ℕ) × List ℕ) FieldFault)
    → i < count → later_group_at from bytes ≡ Ok (group, behind) → known_at behind ≡ Err fault
    → total ≡ (times (with_need 1) (count - i) (from, []) bytes >>= known_beside commits) → total ≡ Err fault
known_ends count i from group bytes behind fault commits total under first second is =
    ends (with_need 1) (known_beside commits) count i (from, []) bytes fault total under
    (rw (marks_refused 1 from bytes behind group fault first (marks_not_read behind fault second)) refl) is

-- ---- the groups that are written

none_known : (group : ℕ) (vectors : List (List ℕ)) → ((k : ℕ) → k < length vectors → get_or vectors k [] ≡ zeros)
    → known_from group vectors ≡ []
none_known group [] none = refl
none_known group (vector ∷ vectors) none =
    rw (none 0 (omega arith), zeros_unknown)
    (none_known (group + 1) vectors (λ k within. none (suc k) (omega (arith, within))))

-- behind the last group that has a number nothing is written
none_behind : (commits : List (List ℕ)) (place end : ℕ) → place ≡ end → length commits ≡ MOST_SERVERS
    → IsGroupEnd commits end → known_from place (drop place commits) ≡ []
unfolding zeros
none_behind commits place end same size is =
    none_known place (drop place commits) (λ k within.
    rw get_or-drop
    (is.beyond (place + k) (omega (arith, same)) (omega (arith, size, length-drop place commits, within))))

pub all_counted : (commits : List (List ℕ)) (place end count : ℕ) → place ≡ end → length commits ≡ MOST_SERVERS
    → IsGroupEnd commits end → count + length (known_from place (drop place commits)) ≡ length (known_from 0 commits)
    → count ≡ length (known_from 0 commits)
all_counted commits place end count same size is so_far =
    omega (arith, ap length (none_behind commits place end same size is), so_far)

pub all_written : (commits : List (List ℕ)) (place end : ℕ) (out whole : List ℕ) → place ≡ end
    → length commits ≡ MOST_SERVERS → IsGroupEnd commits end
    → out ++ flat_map need_bytes (known_from place (drop place commits)) ≡ whole → out ≡ whole
all_written commits place end out whole same size is so_far =
    sym (append-nil out)
    ∙ ap (λ (needs : List Need). out ++ flat_map need_bytes needs) (sym (none_behind commits place end same size is))
    ∙ so_far

known_place : (commits : List (List ℕ)) (group : ℕ) → group < length commits →
    drop group commits ≡ get_or commits group [] ∷ drop (group + 1) commits
known_place commits group within = drop_more commits group [] within

-- ---- the bytes of one group

-- where all its numbers are 0, and where some isn't
pub none_written : (group : ℕ) (vector : List ℕ) → marked (not_zero vector) ≡ 0
    → flat_map need_bytes (known_from group (vector ∷ [])) ≡ []
none_written group vector none =
    let unknown : list_any is_some (not_zero vector) ≡ false =
    false_from_ne_true _ (λ any. omega (arith, some_any (not_zero vector) any, none)) in
    rw unknown refl

pub one_written : (group : ℕ) (vector : List ℕ) → marked (not_zero vector) ≢ 0
    → flat_map need_bytes (known_from group (vector ∷ []))
    ≡ group ∷ (marked (not_zero vector) ∷ marks_from 0 (not_zero vector))
one_written group vector some =
    rw (any_some (not_zero vector) (omega (arith, some)))
    (append-nil (group ∷ (marked (not_zero vector) ∷ marks_from 0 (not_zero vector))))

pub one_added : (group count : ℕ) (vector out more : List ℕ) → more ≡ out ++ group ∷ (count ∷ [])
    → count ≡ marked (not_zero vector) → count ≢ 0
    → more ++ marks_from 0 (not_zero vector) ≡ out ++ flat_map need_bytes (known_from group (vector ∷ []))
one_added group count vector out more added is some =
    let marks = marks_from 0 (not_zero vector) in
    ap (λ (text : List ℕ). text ++ marks) added ∙ append_assoc out (group ∷ (count ∷ [])) marks
    ∙ ap (λ (n : ℕ). out ++ group ∷ (n ∷ marks)) is
    ∙ ap (λ (text : List ℕ). out ++ text) (sym (one_written group vector (λ none. some (is ∙ none))))

-- a group that has a number, and one that has none
pub known_here : (commits : List (List ℕ)) (group : ℕ) → group < length commits
    → list_any is_some (not_zero (get_or commits group [])) ≡ true
    → known_from group (drop group commits)
    ≡ record { group = group; marks = not_zero (get_or commits group []) }
    ∷ known_from (group + 1) (drop (group + 1) commits)
known_here commits group within some = ap (known_from group) (known_place commits group within) ∙ rw some refl

pub unknown_here : (commits : List (List ℕ)) (group : ℕ) → group < length commits
    → list_any is_some (not_zero (get_or commits group [])) ≡ false
    → known_from group (drop group commits) ≡ known_from (group + 1) (drop (group + 1) commits)
unknown_here commits group within none = ap (known_from group) (known_place commits group within) ∙ rw none refl

-- ---- the numbers of one vector, one after another

-- some number isn't 0 where not all are
pub any_known : (vector : List ℕ) → not (list_all (λ number. number == 0) vector) ≡ list_any is_some (not_zero vector)
any_known [] = refl
any_known (zero ∷ vector) = any_known vector
any_known (suc n ∷ vector) = rw (ne_eqb (suc n) 0 (λ is. omega arith)) refl

mark_there : (vector : List ℕ) (p : ℕ) → p < length vector
    → drop p (not_zero vector)
    ≡ (if get_or vector p 0 == 0 then None else Some (get_or vector p 0)) ∷ drop (p + 1) (not_zero vector)
mark_there vector p within =
    drop_more (not_zero vector) p None (omega (arith, length-not_zero vector))
    ∙ ap (λ (mark : Option ℕ). mark ∷ drop (p + 1) (not_zero vector)) (get_or-not_zero vector p)

pub zero_there : (vector : List ℕ) (p : ℕ) → p < length vector → get_or vector p 0 ≡ 0
    → drop p (not_zero vector) ≡ None ∷ drop (p + 1) (not_zero vector)
zero_there vector p within is =
    mark_there vector p within
    ∙ ap (λ (t : Bool). (if t then None else Some (get_or vector p 0)) ∷ drop (p + 1) (not_zero vector))
    (eq-eqb (get_or vector p 0) 0 is)

pub number_there : (vector : List ℕ) (p : ℕ) → p < length vector → get_or vector p 0 ≢ 0
    → drop p (not_zero vector) ≡ Some (get_or vector p 0) ∷ drop (p + 1) (not_zero vector)
number_there vector p within isnt =
    mark_there vector p within
    ∙ ap (λ (t : Bool). (if t then None else Some (get_or vector p 0)) ∷ drop (p + 1) (not_zero vector))
    (ne_eqb (get_or vector p 0) 0 isnt)

-- what is left of the numbers, where one is passed over and where one is added
pub zero_passed : (vector : List ℕ) (p : ℕ) (out whole : List ℕ) → p < length vector → get_or vector p 0 ≡ 0
    → out ++ marks_from p (drop p (not_zero vector)) ≡ whole
    → out ++ marks_from (p + 1) (drop (p + 1) (not_zero vector)) ≡ whole
zero_passed vector p out whole within is left =
    ap (λ (marks : List (Option ℕ)). out ++ marks_from p marks) (sym (zero_there vector p within is)) ∙ left

pub number_added : (vector : List ℕ) (p : ℕ) (out last whole : List ℕ) → p < length vector → get_or vector p 0 ≢ 0
    → last ≡ out ++ p ∷ number_bytes 8 (get_or vector p 0)
    → out ++ marks_from p (drop p (not_zero vector)) ≡ whole
    → last ++ marks_from (p + 1) (drop (p + 1) (not_zero vector)) ≡ whole
number_added vector p out last whole within isnt added left =
    let rest = marks_from (p + 1) (drop (p + 1) (not_zero vector)) in
    ap (λ (xs : List ℕ). xs ++ rest) added
    ∙ append_assoc out (p ∷ number_bytes 8 (get_or vector p 0)) rest
    ∙ ap (λ (marks : List (Option ℕ)). out ++ marks_from p marks) (sym (number_there vector p within isnt)) ∙ left

pub zero_counted : (vector : List ℕ) (p count whole : ℕ) → p < length vector → get_or vector p 0 ≡ 0
    → count + marked (drop p (not_zero vector)) ≡ whole → count + marked (drop (p + 1) (not_zero vector)) ≡ whole
zero_counted vector p count whole within is left =
    omega (arith, ap marked (zero_there vector p within is), left)

pub number_counted : (vector : List ℕ) (p count whole : ℕ) → p < length vector → get_or vector p 0 ≢ 0
    → count + marked (drop p (not_zero vector)) ≡ whole → count + 1 + marked (drop (p + 1) (not_zero vector)) ≡ whole
number_counted vector p count whole within isnt left =
    omega (arith, ap marked (number_there vector p within isnt), left)

pub few_counted : (vector : List ℕ) (p count : ℕ) → count + marked (drop p (not_zero vector)) ≡ marked (not_zero vector)
    → count ≤ length vector
few_counted vector p count left = omega (arith, count_small (not_zero vector) p count left, length-not_zero vector)

pub numbers_all : (vector : List ℕ) (p : ℕ) (out whole : List ℕ) → length vector ≤ p
    → out ++ marks_from p (drop p (not_zero vector)) ≡ whole → out ≡ whole
numbers_all vector p out whole past so_far =
    sym (append-nil out)
    ∙ ap (λ (marks : List (Option ℕ)). out ++ marks_from p marks)
    (sym (drop_all p (not_zero vector) (omega (arith, past, length-not_zero vector)))) ∙ so_far

-- the count of the numbers that are left
pub zero_left : (vector : List ℕ) (p left : ℕ) → p < length vector → get_or vector p 0 ≡ 0
    → left ≡ marked (drop p (not_zero vector)) → left ≡ marked (drop (p + 1) (not_zero vector))
zero_left vector p left within is so_far = omega (arith, ap marked (zero_there vector p within is), so_far)

pub number_left : (vector : List ℕ) (p left : ℕ) → p < length vector → get_or vector p 0 ≢ 0
    → left ≡ marked (drop p (not_zero vector)) → left - 1 ≡ marked (drop (p + 1) (not_zero vector))
number_left vector p left within isnt so_far = omega (arith, ap marked (number_there vector p within isnt), so_far)

none_from : (marks : List (Option ℕ)) (p : ℕ) → marked marks ≡ 0 → marks_from p marks ≡ []
none_from [] p none = refl
none_from (None ∷ marks) p none = none_from marks (p + 1) none
none_from (Some number ∷ marks) p none = let some : marked marks + 1 ≡ 0 = none in absurd (omega (arith, some))

-- where none is left, all were added
pub numbers_done : (vector : List ℕ) (p left : ℕ) (out whole : List ℕ) → left ≡ 0
    → left ≡ marked (drop p (not_zero vector)) → out ++ marks_from p (drop p (not_zero vector)) ≡ whole → out ≡ whole
numbers_done vector p left out whole none so_far told =
    sym (append-nil out)
    ∙ ap (λ (rest : List ℕ). out
    ++ rest) (sym (none_from (drop p (not_zero vector)) p (omega (arith, none, so_far)))) ∙ told

-- What the searches for live servers and for groups without one say.
use Rattle.std.proofs.Common.{◌≡◌, ◌≢◌, ◌↔◌, ℕ, suc, ◌+◌, ◌-◌, ◌<◌, ◌≤◌, Bool, true, false, cond, Option, Some, None}
use Rattle.std.proofs.Common.{inl, inr, refl, sym, ◌∙◌, arith, subst}
use Rattle.std.specs.Option.{is_none, IfSome, IsNone}
use Rattle.std.specs.List.{find, range_with_len}
use Rattle.std.proofs.lemmas.Bool.{true≢false, cases_lt}
use Rattle.ftc_ring.specs.Ring.{RingShape, IsRing, apart, next_of, previous_of}
use Rattle.ftc_ring.specs.Live.{IsLive, IsDown, HasLive, IsGone, IsAdmissible, IsFirstLive, IsFirstGone, IsLiveBefore}
use Rattle.ftc_ring.specs.Live.{IsLiveAfter, IsAlone, first_live_of, gone_of, live_before_of, live_after_of}
use Rattle.ftc_ring.proofs.Geometry.{apart_cases, apart_within, next_within, previous_within, next_itself}
use Rattle.ftc_ring.proofs.Geometry.{previous_itself, itself, same_end, same_start}
use Rattle.ftc_ring.proofs.Searches.{IsFound, Tells, find_along, find_against, find_rising, is_answer, is_none_answer}

is_down_or_live : (live : ℕ → Bool) (k : ℕ) → IsDown live k → IsLive live k → ⊥
is_down_or_live live k dead up = true≢false (sym up ∙ dead)

dead : (live : ℕ → Bool) (x : ℕ) → (IsLive live x → ⊥) → IsDown live x
dead live x h = elim (live x) as (λ t. (t ≡ true → ⊥) → t ≡ false) [ true ↦ λ h. absurd (h refl) | false ↦ λ h. refl ] h

-- the first live member of a group
members_tell : (ring : RingShape) (live : ℕ → Bool) (j : ℕ) → IsRing ring → j < ring.servers →
    Tells ring.servers live (apart ring.servers j) 0 (0 + suc ring.failures) (first_live_of ring live j)
members_tell ring live j shape lj = let f =
    shape.failures in find_along ring.servers j live 0 (suc ring.failures) j lj lj (λ some. itself ring.servers j)
    (omega arith)

found_first : (ring : RingShape) (live : ℕ → Bool) (j k : ℕ) →
    IsFound ring.servers live (apart ring.servers j) 0 (0 + suc ring.failures) k → IsFirstLive ring live j k
found_first ring live j k found = record {
  within = found.within;
  member = let h = found.below in omega arith;
  up = found.passes;
  nearest = λ x lx up. elim (cases_lt (apart ring.servers j x) (apart ring.servers j k)) [
    | inl less ↦ absurd (is_down_or_live live x (found.first x lx (omega arith) less) up)
    | inr more ↦ more
  ];
}

first_is_found : (ring : RingShape) (live : ℕ → Bool) (j k : ℕ) → IsFirstLive ring live j k →
    IsFound ring.servers live (apart ring.servers j) 0 (0 + suc ring.failures) k
first_is_found ring live j k first = record {
  within = first.within;
  passes = first.up;
  above = omega arith;
  below = let m = first.member in omega arith;
  first = λ x lx above below. dead live x (λ up. let least = first.nearest x lx up in omega arith);
}

pub first_found : (ring : RingShape) (live : ℕ → Bool) (j k : ℕ) → IsRing ring → j < ring.servers →
    (first_live_of ring live j ≡ Some k) ↔ IsFirstLive ring live j k
first_found ring live j k shape lj = (
  λ e. found_first ring live j k
      (subst (λ r. Tells ring.servers live (apart ring.servers j) 0 (0 + suc ring.failures) r) e
      (members_tell ring live j shape lj)),
  λ first. is_answer ring.servers live (apart ring.servers j) 0 (0 + suc ring.failures) k (first_live_of ring live j)
      (λ x y lx ly e. same_end ring.servers j x y lj lx ly e) (members_tell ring live j shape lj)
      (first_is_found ring live j k first),
)

pub first_none : (ring : RingShape) (live : ℕ → Bool) (j : ℕ) → IsRing ring → j < ring.servers →
    (first_live_of ring live j ≡ None) ↔ IsGone ring live j
first_none ring live j shape lj = (
  λ e. let nowhere = subst (λ r. Tells ring.servers live (apart ring.servers j) 0 (0 + suc ring.failures) r) e
      (members_tell ring live j shape lj) in
      record { each = λ x lx member. (nowhere.each x lx (omega arith) (omega arith)) },
  λ gone. is_none_answer ring.servers live (apart ring.servers j) 0 (0 + suc ring.failures) (first_live_of ring live j)
      (members_tell ring live j shape lj) (record { each = λ x lx above below. (gone.each x lx (omega arith)) }),
)

-- the smallest group without a live member
abbrev pub is_gone : RingShape → (ℕ → Bool) → ℕ → Bool
is_gone ring live j = is_none (first_live_of ring live j)

none_where : (r : Option ℕ) → is_none r ≡ true → r ≡ None
none_where None e = refl
none_where (Some k) e = absurd (true≢false (sym e))

some_where : (r : Option ℕ) → is_none r ≡ false → (k : ℕ) × (r ≡ Some k)
some_where None e = absurd (true≢false e)
some_where (Some k) e = (k, refl)

some_first : (ring : RingShape) (live : ℕ → Bool) (j : ℕ) → IsRing ring → j < ring.servers →
    is_gone ring live j ≡ false → HasLive ring live j
some_first ring live j shape lj e =
    let found = some_where (first_live_of ring live j) e in
    let first = (first_found ring live j found.0 shape lj).0 found.1 in
    record { server = found.0; within = first.within; member = first.member; up = first.up }

gone_lives : (ring : RingShape) (live : ℕ → Bool) (j : ℕ) → IsGone ring live j → HasLive ring live j → ⊥
gone_lives ring live j gone alive = true≢false (sym alive.up ∙ gone.each alive.server alive.within alive.member)

gone_where : (ring : RingShape) (live : ℕ → Bool) (j : ℕ) → IsRing ring → j < ring.servers → IsGone ring live j →
    is_gone ring live j ≡ true
gone_where ring live j shape lj gone = rw ((first_none ring live j shape lj).1 gone) refl

not_gone : (ring : RingShape) (live : ℕ → Bool) (j : ℕ) → IsRing ring → j < ring.servers → HasLive ring live j →
    is_gone ring live j ≡ false
not_gone ring live j shape lj alive = elim (is_gone ring live j) as (λ t. is_gone ring live j ≡ t → t ≡ false) [
  | true ↦ λ e. absurd (gone_lives ring live j
      ((first_none ring live j shape lj).0 (none_where (first_live_of ring live j) e)) alive)
  | false ↦ λ e. refl
] refl

groups_tell : (ring : RingShape) (live : ℕ → Bool) →
    Tells ring.servers (is_gone ring live) (λ x. x) 0 (0 + ring.servers) (gone_of ring live)
groups_tell ring live = find_rising ring.servers (is_gone ring live) 0 ring.servers (omega arith)

pub gone_found : (ring : RingShape) (live : ℕ → Bool) (j : ℕ) → IsRing ring →
    (gone_of ring live ≡ Some j) ↔ IsFirstGone ring live j
gone_found ring live j shape = (
  λ e. let found = subst (λ r. Tells ring.servers (is_gone ring live) (λ x. x) 0 (0 + ring.servers) r) e
      (groups_tell ring live) in record {
        within = found.within;
        gone = (first_none ring live j shape found.within).0 (none_where (first_live_of ring live j) found.passes);
        smallest = λ x less. let lj =
            found.within in some_first ring live x shape (omega arith) (found.first x (omega arith) (omega arith) less);
      },
  λ first. is_answer ring.servers (is_gone ring live) (λ x. x) 0 (0 + ring.servers) j (gone_of ring live)
      (λ x y lx ly e. e) (groups_tell ring live) (record {
        within = first.within;
        passes = gone_where ring live j shape first.within first.gone;
        above = omega arith;
        below = let lj = first.within in omega arith;
        first = λ x lx above less. not_gone ring live x shape lx (first.smallest x less);
      }),
)

pub gone_none : (ring : RingShape) (live : ℕ → Bool) → IsRing ring → (gone_of ring live ≡ None) ↔ IsAdmissible ring live
gone_none ring live shape = (
  λ e. let nowhere = subst (λ r. Tells ring.servers (is_gone ring live) (λ x. x) 0 (0 + ring.servers) r) e
      (groups_tell ring live) in record {
        each = λ j lj. some_first ring live j shape lj (nowhere.each j lj (omega arith) (omega arith));
      },
  λ all. is_none_answer ring.servers (is_gone ring live) (λ x. x) 0 (0 + ring.servers) (gone_of ring live)
      (groups_tell ring live) (record { each = λ x lx above below. not_gone ring live x shape lx (all.each x lx) }),
)

-- the nearest live servers
some_way : (n a b : ℕ) → a < n → b < n → a ≢ b → 1 ≤ apart n a b
some_way n a b la lb differ = let c = apart_cases n a b la lb in omega arith

before_tell : (n : ℕ) (live : ℕ → Bool) (k : ℕ) → k < n →
    Tells n live (λ x. apart n x k) 1 (1 + (n - 1)) (live_before_of n live k)
before_tell n live k lk = find_against n k live 1 (n - 1) (previous_of n k) lk (previous_within n k lk)
    (λ some. previous_itself n k lk (omega arith)) (omega arith)

after_tell : (n : ℕ) (live : ℕ → Bool) (k : ℕ) → k < n →
    Tells n live (apart n k) 1 (1 + (n - 1)) (live_after_of n live k)
after_tell n live k lk = find_along n k live 1 (n - 1) (next_of n k) lk (next_within n k lk)
    (λ some. next_itself n k lk (omega arith)) (omega arith)

not_itself : (n k x d : ℕ) → 1 ≤ d → (x ≡ k → d ≡ 0) → x ≢ k
not_itself n k x d some none same = let z = none same in absurd (omega arith)

before_is_itself : (n k x : ℕ) → x ≡ k → apart n x k ≡ 0
before_is_itself n k x same = rw same (itself n k)

after_is_itself : (n k x : ℕ) → x ≡ k → apart n k x ≡ 0
after_is_itself n k x same = rw same (itself n k)

pub before_found : (n : ℕ) (live : ℕ → Bool) (k r : ℕ) → k < n →
    (live_before_of n live k ≡ Some r) ↔ IsLiveBefore n live k r
before_found n live k r lk = (
  λ e. let found = subst (λ o. Tells n live (λ x. apart n x k) 1 (1 + (n - 1)) o) e (before_tell n live k lk) in
      record {
        within = found.within;
        other = not_itself n k r (apart n r k) found.above (before_is_itself n k r);
        up = found.passes;
        nearest = λ x lx differs up. elim (cases_lt (apart n x k) (apart n r k)) [
          | inl less ↦ absurd (is_down_or_live live x (found.first x lx (some_way n x k lx lk differs) less) up)
          | inr more ↦ more
        ];
      },
  λ near. is_answer n live (λ x. apart n x k) 1 (1 + (n - 1)) r (live_before_of n live k)
      (λ x y lx ly e. same_start n x y k lx ly lk e) (before_tell n live k lk) (record {
        within = near.within;
        passes = near.up;
        above = some_way n r k near.within lk near.other;
        below = let w = apart_within n r k near.within lk in omega arith;
        first = λ x lx above less. dead live x
            (λ up. let least = near.nearest x lx (not_itself n k x (apart n x k) above (before_is_itself n k x)) up in
            omega arith);
      }),
)

pub after_found : (n : ℕ) (live : ℕ → Bool) (k s : ℕ) → k < n →
    (live_after_of n live k ≡ Some s) ↔ IsLiveAfter n live k s
after_found n live k s lk = (
  λ e. let found = subst (λ o. Tells n live (apart n k) 1 (1 + (n - 1)) o) e (after_tell n live k lk) in record {
    within = found.within;
    other = not_itself n k s (apart n k s) found.above (after_is_itself n k s);
    up = found.passes;
    nearest = λ x lx differs up. elim (cases_lt (apart n k x) (apart n k s)) [
      | inl less ↦ absurd (is_down_or_live live x
          (found.first x lx (some_way n k x lk lx (λ e. differs (sym e))) less) up)
      | inr more ↦ more
    ];
  },
  λ near. is_answer n live (apart n k) 1 (1 + (n - 1)) s (live_after_of n live k)
      (λ x y lx ly e. same_end n k x y lk lx ly e) (after_tell n live k lk) (record {
        within = near.within;
        passes = near.up;
        above = some_way n k s lk near.within (λ e. near.other (sym e));
        below = let w = apart_within n k s lk near.within in omega arith;
        first = λ x lx above less. dead live x
            (λ up. let least = near.nearest x lx (not_itself n k x (apart n k x) above (after_is_itself n k x)) up in
            omega arith);
      }),
)

pub before_none : (n : ℕ) (live : ℕ → Bool) (k : ℕ) → k < n → (live_before_of n live k ≡ None) ↔ IsAlone n live k
before_none n live k lk = (
  λ e x lx differs. let nowhere =
      subst (λ o. Tells n live (λ x. apart n x k) 1 (1 + (n - 1)) o) e (before_tell n live k lk) in
      (nowhere.each x lx (some_way n x k lx lk differs) (let w = apart_within n x k lx lk in omega arith)),
  λ alone. is_none_answer n live (λ x. apart n x k) 1 (1 + (n - 1)) (live_before_of n live k) (before_tell n live k lk)
      (record {
        each = λ x lx above below.
            (alone x lx (not_itself n k x (apart n x k) above (before_is_itself n k x)));
      }),
)

pub after_none : (n : ℕ) (live : ℕ → Bool) (k : ℕ) → k < n → (live_after_of n live k ≡ None) ↔ IsAlone n live k
after_none n live k lk = (
  λ e x lx differs. let nowhere = subst (λ o. Tells n live (apart n k) 1 (1 + (n - 1)) o) e (after_tell n live k lk) in
      (nowhere.each x lx (some_way n k x lk lx (λ e. differs (sym e))) (let w = apart_within n k x lk lx in
      omega arith)),
  λ alone. is_none_answer n live (apart n k) 1 (1 + (n - 1)) (live_after_of n live k) (after_tell n live k lk)
      (record {
        each = λ x lx above below.
            (alone x lx (not_itself n k x (apart n k x) above (after_is_itself n k x)));
      }),
)

-- a result by its two answers
if_some : (r : Option ℕ) (P : ℕ → Type 0) → ((k : ℕ) → r ≡ Some k → P k) → IfSome r P
if_some None P holds = tt
if_some (Some k) P holds = holds k refl

if_none : (r : Option ℕ) (P : Type 0) → ((r ≡ None) ↔ P) → IsNone r ↔ P
if_none None P same = (λ is. same.0 refl, λ p. refl)
if_none (Some k) P same = (λ is. absurd (true≢false is), λ p. absurd (let e = same.1 p in cc))

pub first_some : (ring : RingShape) (live : ℕ → Bool) (j : ℕ) (r : Option ℕ) → IsRing ring → j < ring.servers →
    r ≡ first_live_of ring live j → IfSome r (IsFirstLive ring live j)
first_some ring live j r shape lj told =
    if_some r (IsFirstLive ring live j) (λ k e. (first_found ring live j k shape lj).0 (sym told ∙ e))

pub first_not : (ring : RingShape) (live : ℕ → Bool) (j : ℕ) (r : Option ℕ) → IsRing ring → j < ring.servers →
    r ≡ first_live_of ring live j → IsNone r ↔ IsGone ring live j
first_not ring live j r shape lj told = if_none r (IsGone ring live j) (rw told (first_none ring live j shape lj))

pub gone_some : (ring : RingShape) (live : ℕ → Bool) (r : Option ℕ) → IsRing ring → r ≡ gone_of ring live →
    IfSome r (IsFirstGone ring live)
gone_some ring live r shape told =
    if_some r (IsFirstGone ring live) (λ k e. (gone_found ring live k shape).0 (sym told ∙ e))

pub gone_not : (ring : RingShape) (live : ℕ → Bool) (r : Option ℕ) → IsRing ring → r ≡ gone_of ring live →
    IsNone r ↔ IsAdmissible ring live
gone_not ring live r shape told = if_none r (IsAdmissible ring live) (rw told (gone_none ring live shape))

pub before_some : (n : ℕ) (live : ℕ → Bool) (k : ℕ) (r : Option ℕ) → k < n → r ≡ live_before_of n live k →
    IfSome r (IsLiveBefore n live k)
before_some n live k r lk told =
    if_some r (IsLiveBefore n live k) (λ x e. (before_found n live k x lk).0 (sym told ∙ e))

pub before_not : (n : ℕ) (live : ℕ → Bool) (k : ℕ) (r : Option ℕ) → k < n → r ≡ live_before_of n live k →
    IsNone r ↔ IsAlone n live k
before_not n live k r lk told = if_none r (IsAlone n live k) (rw told (before_none n live k lk))

pub after_some : (n : ℕ) (live : ℕ → Bool) (k : ℕ) (r : Option ℕ) → k < n → r ≡ live_after_of n live k →
    IfSome r (IsLiveAfter n live k)
after_some n live k r lk told = if_some r (IsLiveAfter n live k) (λ x e. (after_found n live k x lk).0 (sym told ∙ e))

pub after_not : (n : ℕ) (live : ℕ → Bool) (k : ℕ) (r : Option ℕ) → k < n → r ≡ live_after_of n live k →
    IsNone r ↔ IsAlone n live k
after_not n live k r lk told = if_none r (IsAlone n live k) (rw told (after_none n live k lk))

-- the search through the groups from the next one on
pub rising_more : (test : ℕ → Bool) (i n : ℕ) → i < n →
    find test (range_with_len i (n - i)) ≡ cond (test i) (Some i) (find test (range_with_len (i + 1) (n - (i + 1))))
rising_more test i n less = let size : n - i ≡ suc (n - (i + 1)) = omega arith in rw size refl

pub rising_here : (test : ℕ → Bool) (i n : ℕ) → i < n → test i ≡ true → find test (range_with_len i (n - i)) ≡ Some i
rising_here test i n less is = rising_more test i n less ∙ rw is refl

pub rising_on : (test : ℕ → Bool) (i n : ℕ) → i < n → test i ≡ false →
    find test (range_with_len i (n - i)) ≡ find test (range_with_len (i + 1) (n - (i + 1)))
rising_on test i n less is = rising_more test i n less ∙ rw is refl

-- the first live member of a group that has one
pub admissible_first : (ring : RingShape) (live : ℕ → Bool) (j : ℕ) → IsRing ring → j < ring.servers →
    IsAdmissible ring live → (k : ℕ) × (first_live_of ring live j ≡ Some k) × IsFirstLive ring live j k
admissible_first ring live j shape lj all =
    let found = some_where (first_live_of ring live j) (not_gone ring live j shape lj (all.each j lj)) in
    (found.0, found.1, (first_found ring live j found.0 shape lj).0 found.1)

pub nobody_down : (ring : RingShape) (live : ℕ → Bool) → IsRing ring → ((k : ℕ) → k < ring.servers → IsLive live k) →
    IsAdmissible ring live
nobody_down ring live shape all =
    record {
      each = λ j lj. record {
        server = j;
        within = lj;
        member = let home = itself ring.servers j in
            omega arith;
        up = all j lj;
      };
    }

pub more_live : (ring : RingShape) (live more : ℕ → Bool) →
    ((k : ℕ) → k < ring.servers → IsLive live k → IsLive more k) → IsAdmissible ring live → IsAdmissible ring more
more_live ring live more keeps all =
    record {
      each = λ j lj. let alive = all.each j lj in
          record {
            server = alive.server;
            within = alive.within;
            member = alive.member;
            up = keeps alive.server alive.within alive.up;
          };
    }

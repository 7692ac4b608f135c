-- What stays watched where a message gets the log of its visit.
use Rattle.std.proofs.Common.{◌≡◌, ◌∙◌, ◌&&◌, ◌||◌, not, ℕ, Bool, true, false, List, [], ◌∷◌, Option, Some, None, refl}
use Rattle.std.proofs.Common.{sym, ap, cond}
use Rattle.std.specs.Prelude.{◌==◌, find, is_some, nat_lt}
use Rattle.std.specs.List.{list_all, list_any}
use Rattle.std.proofs.lemmas.Bool.{eqb-true, eq-eqb, false≢true, or_left, and_parts}
use Rattle.std.proofs.lemmas.Option.{none-some, same_Some}
use Rattle.ftc_base.specs.declared.limits.TheConstants.{MOST_PARTITIONS}
use Rattle.ftc_message.specs.Logged.{Logged}
use Rattle.ftc_message.specs.Ordered.{with_item, is_earlier, is_log_of}
use Rattle.ftc_replica.specs.Held.{Held}
use Rattle.ftc_replica.specs.declared.waits.Wait.{Wait}
use Rattle.ftc_server.specs.declared.held.HeldMessage.{HeldMessage}
use Rattle.ftc_server.specs.declared.visited.Visited.{Visited}
use Rattle.ftc_server.specs.Holding.{found, is_of, log_of, with_changed, rests}
use Rattle.ftc_server.specs.Replicas.{replica_at, has_log, is_had}
use Rattle.ftc_message.specs.Added.{logs_with}
use Rattle.ftc_server.specs.Visited.{visited_by}
use Rattle.ftc_server.specs.Waiting.{ahead_of, has_reached, is_unreached, waits, carries, is_named, is_had_or_waits}
use Rattle.ftc_server.specs.Waiting.{is_put_off, AreWatched}
use Rattle.ftc_server.proofs.Finding.{and_both, found_changed}
use Rattle.ftc_server.proofs.Named.{log_of_whom}
use Rattle.ftc_server.proofs.ListTests.{all_both, implies_all}

-- ---- one more item in its place

find_other : {A : Type 0} (is_before : A → A → Bool) (is : A → Bool) (item : A) (items : List A) → is item ≡ false →
    find is (with_item is_before item items) ≡ find is items
find_other is_before is item [] isnt = ap (λ (b : Bool). cond b (Some item) None) isnt
find_other {A} is_before is item (other ∷ items) isnt =
    elim (is_before other item) as (λ t.
    find is (cond t (other ∷ with_item is_before item items) (item ∷ other ∷ items)) ≡ find is (other ∷ items)) [
      | true ↦ ap (λ (rest : Option A). cond (is other) (Some other) rest) (find_other is_before is item items isnt)
      | false ↦ ap (λ (b : Bool). cond b (Some item) (find is (other ∷ items))) isnt
    ]

or_swap : (a b c : Bool) → b || c ≡ true → a || (b || c) ≡ true
or_swap true b c is = refl
or_swap false b c is = is

or_into : (a later more : Bool) → (later ≡ true → more ≡ true) → a || later ≡ true → a || more ≡ true
or_into true later more implies is = refl
or_into false later more implies is = implies is

any_with : {A : Type 0} (is_before : A → A → Bool) (test : A → Bool) (item : A) (items : List A) →
    list_any test items ≡ true → list_any test (with_item is_before item items) ≡ true
any_with is_before test item [] any = absurd (false≢true any)
any_with is_before test item (other ∷ items) any =
    elim (is_before other item) as (λ t.
    list_any test (cond t (other ∷ with_item is_before item items) (item ∷ other ∷ items)) ≡ true) [
      | true ↦ or_into (test other) (list_any test items) (list_any test (with_item is_before item items))
          (any_with is_before test item items) any
      | false ↦ or_swap (test item) (test other) (list_any test items) any
    ]

all_with : {A : Type 0} (is_before : A → A → Bool) (test : A → Bool) (item : A) (items : List A) →
    test item ≡ true → list_all test items ≡ true → list_all test (with_item is_before item items) ≡ true
all_with is_before test item [] passes all = and_both (test item) true passes refl
all_with is_before test item (other ∷ items) passes all =
    let parts = and_parts (test other) (list_all test items) all in
    elim (is_before other item) as (λ t.
    list_all test (cond t (other ∷ with_item is_before item items) (item ∷ other ∷ items)) ≡ true) [
      | true ↦ and_both (test other) (list_all test (with_item is_before item items)) parts.0
          (all_with is_before test item items passes parts.1)
      | false ↦ and_both (test item) (list_all test (other ∷ items)) passes all
    ]

-- ---- the logs of a visited message: those before, and perhaps one of a group without a replica here

pub record AreAfter (replicas : List (Option Held)) (old new : List Logged) : Type 0 where
  pub finds : (origin group : ℕ) → is_some (replica_at replicas group) ≡ true →
      find (is_log_of origin group) new ≡ find (is_log_of origin group) old
  pub any : (test : Logged → Bool) → list_any test old ≡ true → list_any test new ≡ true
  pub all : (test : Logged → Bool) → ((log : Logged) → is_had replicas log ≡ true → test log ≡ true) →
      list_all test old ≡ true → list_all test new ≡ true

same_after : (replicas : List (Option Held)) (logs : List Logged) → AreAfter replicas logs logs
same_after replicas logs = record {
  finds = λ origin group there. refl;
  any = λ test is. is;
  all = λ test passes is. is;
}

had_without : (slot : Option Held) (log : Logged) → is_some slot ≡ false → has_log slot log ≡ true
had_without None log none = refl
had_without (Some held) log none = absurd (false≢true (sym none))

isnt_its : (replicas : List (Option Held)) (own : Logged) (origin group : ℕ) →
    is_some (replica_at replicas own.group) ≡ false → is_some (replica_at replicas group) ≡ true →
    is_log_of origin group own ≡ false
isnt_its replicas own origin group none there =
    elim (is_log_of origin group own) as (λ t. is_log_of origin group own ≡ t → t ≡ false) [
      | true ↦ λ is. absurd (false≢true (sym none
          ∙ (ap (λ (g : ℕ). is_some (replica_at replicas g))
          (eqb-true own.group group (and_parts (own.origin == origin) (own.group == group) is).1) ∙ there)))
      | false ↦ λ _. refl
    ] refl

with_own_log : (replicas : List (Option Held)) (own : Logged) (logs : List Logged) →
    is_some (replica_at replicas own.group) ≡ false → AreAfter replicas logs (with_item is_earlier own logs)
with_own_log replicas own logs none = record {
  finds = λ origin group there.
      find_other is_earlier (is_log_of origin group) own logs (isnt_its replicas own origin group none there);
  any = λ test. any_with is_earlier test own logs;
  all = λ test passes. all_with is_earlier test own logs (passes own
      (had_without (replica_at replicas own.group) own none));
}

pub logs_are_after : (replicas : List (Option Held)) (failures : ℕ) (log : Option Logged) (logs : List Logged) →
    ((own : Logged) → log ≡ Some own → is_some (replica_at replicas own.group) ≡ false) →
    AreAfter replicas logs (logs_with failures log logs)
logs_are_after replicas failures None logs none = same_after replicas logs
logs_are_after replicas failures (Some own) logs none =
    elim (failures == 0) as (λ t. AreAfter replicas logs (cond t logs (with_item is_earlier own logs))) [
      | true ↦ same_after replicas logs
      | false ↦ with_own_log replicas own logs (none own refl)
    ]

-- ---- the message in its place among the others

abbrev changed : Visited → HeldMessage → HeldMessage
changed visited held = visited_by visited held

found_itself : (packet : ℕ) (visited : Visited) (items : List HeldMessage) (before : HeldMessage) →
    found packet items ≡ Some before →
    found packet (with_changed packet (changed visited) items) ≡ Some (changed visited before)
found_itself packet visited [] before there = absurd (none-some before there)
found_itself packet visited (first ∷ items) before there =
    elim (is_of packet first) as (λ t. is_of packet first ≡ t →
    cond t (Some first) (found packet items) ≡ Some before →
    found packet (cond t (changed visited first ∷ items) (first ∷ with_changed packet (changed visited) items))
    ≡ Some (changed visited before)) [
      | true ↦ λ is same.
          let e : first ≡ before = same_Some first before same in
          ap (λ (b : Bool). cond b (Some (changed visited first)) (found packet items)) is
          ∙ ap (λ (h : HeldMessage). Some (changed visited h)) e
      | false ↦ λ isnt later.
          ap (λ (b : Bool). cond b (Some first) (found packet (with_changed packet (changed visited) items))) isnt
          ∙ found_itself packet visited items before later
    ] refl there

-- where the group has a replica, the log of a held message is found as before
log_as_before : (replicas : List (Option Held)) (items : List HeldMessage) (packet : ℕ) (visited : Visited)
    (before : HeldMessage) (other origin group : ℕ) → found packet items ≡ Some before →
    AreAfter replicas before.message.logs visited.logs → is_some (replica_at replicas group) ≡ true →
    log_of group origin (found other (with_changed packet (visited_by visited) items))
    ≡ log_of group origin (found other items)
log_as_before replicas items packet visited before other origin group there after some =
    elim (other == packet) as (λ t. (other == packet) ≡ t →
    log_of group origin (found other (with_changed packet (visited_by visited) items))
    ≡ log_of group origin (found other items)) [
      | true ↦ λ same.
          let e = eqb-true other packet same in
          ap (λ (p : ℕ). log_of group origin (found p (with_changed packet (visited_by visited) items))) e
          ∙ (ap (log_of group origin) (found_itself packet visited items before there)
          ∙ (after.finds origin group some
          ∙ (ap (log_of group origin) (sym there) ∙ ap (λ (p : ℕ). log_of group origin (found p items)) (sym e))))
      | false ↦ λ differs.
          ap (log_of group origin) (found_changed packet other (visited_by visited) items (λ held. refl)
          (λ same. false≢true (sym differs ∙ eq-eqb other packet same)))
    ] refl

unreached_there : (slot : Option Held) (partition number : ℕ) → not (has_reached slot partition number) ≡ true →
    is_some slot ≡ true
unreached_there None partition number is = absurd (false≢true is)
unreached_there (Some held) partition number is = refl

ahead_there : (slot : Option Held) (log : Logged) → is_some (ahead_of slot log) ≡ true → is_some slot ≡ true
ahead_there None log is = absurd (false≢true is)
ahead_there (Some held) log is = refl

-- the visited message is put off where it was
put_off_after : (replicas : List (Option Held)) (waiting : List Wait) (visited : Visited) (before : HeldMessage) →
    AreAfter replicas before.message.logs visited.logs → is_put_off replicas waiting before ≡ true →
    is_put_off replicas waiting (visited_by visited before) ≡ true
put_off_after replicas waiting visited before after off =
    let packet = before.message.origin in
    let logs = before.message.logs in
    let parts = and_parts (list_any (waits waiting packet) logs)
    (list_all (is_had_or_waits replicas waiting packet) logs) off in
    and_both (list_any (waits waiting packet) visited.logs)
    (list_all (is_had_or_waits replicas waiting packet) visited.logs)
    (after.any (waits waiting packet) parts.0)
    (after.all (is_had_or_waits replicas waiting packet)
    (λ log had. or_left (is_had replicas log) (waits waiting packet log) had) parts.1)

pub visited_watched : (replicas : List (Option Held)) (items : List HeldMessage) (resting later : List ℕ)
    (waiting : List Wait) (packet : ℕ) (visited : Visited) (before : HeldMessage) →
    AreWatched replicas items resting waiting → list_all (is_unreached replicas) waiting ≡ true →
    found packet items ≡ Some before → AreAfter replicas before.message.logs visited.logs → later ≡ resting →
    AreWatched replicas (with_changed packet (visited_by visited) items) later waiting
visited_watched replicas items resting later waiting packet visited before stands unreached there after same =
    let all = with_changed packet (visited_by visited) items in
    let as_before = log_as_before replicas items packet visited before in
    record {
      named = implies_all (λ (wait : Wait). is_named items wait && is_unreached replicas wait) (is_named all) waiting
          (λ wait is.
          let facts = and_parts (is_named items wait) (is_unreached replicas wait) is in
          let parts = and_parts (nat_lt wait.partition MOST_PARTITIONS)
          (carries wait.partition wait.number (log_of wait.group wait.origin (found wait.packet items))) facts.0 in
          and_both (nat_lt wait.partition MOST_PARTITIONS)
          (carries wait.partition wait.number (log_of wait.group wait.origin (found wait.packet all))) parts.0
          (ap (carries wait.partition wait.number) (as_before wait.packet wait.origin wait.group there after
          (unreached_there (replica_at replicas wait.group) wait.partition wait.number facts.1)) ∙ parts.1))
          (all_both (is_named items) (is_unreached replicas) waiting stands.named unreached);
      once = stands.once;
      watched = λ other origin group log its ahead.
          let whom = log_of_whom group origin (found other all) log its in
          let some = ap (λ (g : ℕ). is_some (replica_at replicas g)) (sym whom.1)
          ∙ ahead_there (replica_at replicas log.group) log ahead in
          stands.watched other origin group log (sym (as_before other origin group there after some) ∙ its) ahead;
      rest = λ other held is it_rests.
          let rested : rests other resting ≡ true = ap (rests other) (sym same) ∙ it_rests in
          elim (other == packet) as (λ t. (other == packet) ≡ t → is_put_off replicas waiting held ≡ true) [
            | true ↦ λ its.
                let e = eqb-true other packet its in
                let it : visited_by visited before ≡ held = same_Some (visited_by visited before) held
                (sym (found_itself packet visited items before there)
                ∙ (ap (λ (p : ℕ). found p all) (sym e) ∙ is)) in
                ap (is_put_off replicas waiting) (sym it)
                ∙ put_off_after replicas waiting visited before after
                (stands.rest packet before there (ap (λ (p : ℕ). rests p resting) (sym e) ∙ rested))
            | false ↦ λ differs.
                let was = sym (found_changed packet other (visited_by visited) items (λ h. refl)
                (λ e. false≢true (sym differs ∙ eq-eqb other packet e))) ∙ is in
                stands.rest other held was rested
          ] refl;
    }

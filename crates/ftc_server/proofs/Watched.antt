-- What stays watched as waits come and go.
use Rattle.std.proofs.Common.{◌≡◌, ◌≢◌, ◌≤◌, ◌<◌, ◌+◌, ◌∙◌, ◌++◌, ◌&&◌, ◌||◌, not, ℕ, Bool, true, false, List, [], ◌∷◌}
use Rattle.std.proofs.Common.{Option, Some, None, length, refl, sym, ap, cond, subst, arith}
use Rattle.std.specs.Prelude.{◌==◌, nat_lt, find, filter}
use Rattle.std.specs.List.{list_all, list_any}
use Rattle.std.proofs.lemmas.Bool.{eqb-true, eq-eqb, lt-ltb, and_parts}
use Rattle.std.proofs.lemmas.Option.{same_Some, none-some}
use Rattle.ftc_base.specs.declared.limits.TheConstants.{MOST_PARTITIONS}
use Rattle.ftc_base.proofs.Firsts.{around_found, all_stay, test_of_found}
use Rattle.ftc_base.proofs.Bools.{not_both}
use Rattle.ftc_message.specs.Logged.{Logged}
use Rattle.ftc_replica.specs.Held.{Held}
use Rattle.ftc_replica.specs.declared.waits.Wait.{Wait}
use Rattle.ftc_replica.specs.Waiting.{waits_for, without_first}
use Rattle.ftc_server.specs.declared.held.HeldMessage.{HeldMessage}
use Rattle.ftc_server.specs.Holding.{found, log_of, rests}
use Rattle.ftc_server.specs.Replicas.{replica_at, is_had}
use Rattle.ftc_server.specs.Waiting.{has_reached, is_ahead, wait_of, wait_of_found, one_or_none, is_reached}
use Rattle.ftc_server.specs.Waiting.{is_unreached, is_wait_of, waits, carries, is_named, is_had_or_waits, is_put_off}
use Rattle.ftc_server.specs.Waiting.{AreWatched, StaysWhere}
use Rattle.ftc_server.proofs.Finding.{and_both}
use Rattle.ftc_server.proofs.Taken.{IsOut, one, one_of, count_behind, count_out, all_out, all_more, any_out}
use Rattle.ftc_server.proofs.Taken.{any_before, any_behind, count_all}
use Rattle.ftc_server.proofs.Named.{is_its_own, of_whom, is_number_so, carried, log_of_whom, IsWaitFor, wait_is}
use Rattle.ftc_server.proofs.Named.{wait_there}
use Rattle.ftc_server.proofs.ListTests.{implies_any, implies_all}

-- the first that waits for a number is out
pub first_out : (group partition number : ℕ) (whole : List Wait) (wait : Wait) →
    find (waits_for group partition number) whole ≡ Some wait →
    IsOut whole (without_first group partition number whole) wait
first_out group partition number whole wait is = record {
  before = _;
  after = _;
  whole_is = around_found (waits_for group partition number) whole wait is;
  rest_is = refl;
}

-- where none waits for it nothing is out
pub none_out : (group partition number : ℕ) (whole : List Wait) → find (waits_for group partition number) whole ≡ None →
    without_first group partition number whole ≡ whole
none_out group partition number whole none = all_stay (waits_for group partition number) whole none

-- ---- a message is put off as long as more wait

or_implies : (had wait later : Bool) → (wait ≡ true → later ≡ true) → had || wait ≡ true → had || later ≡ true
or_implies true wait later implies is = refl
or_implies false wait later implies is = implies is

pub put_off_still : (replicas : List (Option Held)) (old new : List Wait) (held : HeldMessage) →
    ((log : Logged) → waits old held.message.origin log ≡ true → waits new held.message.origin log ≡ true) →
    is_put_off replicas old held ≡ true → is_put_off replicas new held ≡ true
put_off_still replicas old new held implies is =
    let packet = held.message.origin in
    let logs = held.message.logs in
    let parts = and_parts (list_any (waits old packet) logs) (list_all (is_had_or_waits replicas old packet) logs) is in
    and_both (list_any (waits new packet) logs) (list_all (is_had_or_waits replicas new packet) logs)
    (implies_any (waits old packet) (waits new packet) logs implies parts.0)
    (implies_all (is_had_or_waits replicas old packet) (is_had_or_waits replicas new packet) logs
    (λ (log : Logged) had. or_implies (is_had replicas log) (waits old packet log) (waits new packet log)
    (implies log) had) parts.1)

-- ---- the log of the wait that is out waits again, or no more

-- what the log waits for by now
pub record IsAgain (replicas : List (Option Held)) (items : List HeldMessage) (wait : Wait)
    (again : List Wait) : Type 0 where
  pub named : list_all (is_named items) again ≡ true
  pub unreached : list_all (is_unreached replicas) again ≡ true
  pub its_own : (packet origin group : ℕ) →
      length (filter (is_wait_of packet origin group) again) ≤ one (is_wait_of packet origin group wait)
  pub ahead : (packet origin group : ℕ) (log : Logged) → is_wait_of packet origin group wait ≡ true →
      log_of group origin (found packet items) ≡ Some log → is_ahead replicas log ≡ true →
      list_any (is_wait_of packet origin group) again ≡ true

one_count : (test : Bool) (wait : Wait) (bound : ℕ) → (test ≡ true → 1 ≤ bound) →
    length (cond test (wait ∷ []) []) ≤ bound
one_count true wait bound at_least = at_least refl
one_count false wait bound at_least = omega arith

again_one : (replicas : List (Option Held)) (items : List HeldMessage) (wait next : Wait) (log : Logged) →
    log_of wait.group wait.origin (found wait.packet items) ≡ Some log →
    IsWaitFor replicas wait.packet log next → IsAgain replicas items wait (next ∷ [])
again_one replicas items wait next log there made =
    let whom = log_of_whom wait.group wait.origin (found wait.packet items) log there in
    let next_there : log_of next.group next.origin (found next.packet items) ≡ Some log =
    ap (λ (g : ℕ). log_of g next.origin (found next.packet items)) (made.group_is ∙ whom.1)
    ∙ (ap (λ (o : ℕ). log_of wait.group o (found next.packet items)) (made.origin_is ∙ whom.0)
    ∙ (ap (λ (p : ℕ). log_of wait.group wait.origin (found p items)) made.packet_is ∙ there)) in
    record {
      named = and_both (is_named items next) true
          (and_both (nat_lt next.partition MOST_PARTITIONS) (carries next.partition next.number
          (log_of next.group next.origin (found next.packet items)))
          (lt-ltb next.partition MOST_PARTITIONS made.within)
          (ap (carries next.partition next.number) next_there
          ∙ is_number_so next.number _ made.mark)) refl;
      unreached = and_both (is_unreached replicas next) true made.unreached refl;
      its_own = λ packet origin group.
          one_count (is_wait_of packet origin group next) next (one (is_wait_of packet origin group wait)) (λ is.
          let of = of_whom next packet origin group is in
          one_of (is_wait_of packet origin group wait) (is_its_own wait packet origin group
          (sym made.packet_is ∙ of.packet_is) (sym whom.0 ∙ (sym made.origin_is ∙ of.origin_is))
          (sym whom.1 ∙ (sym made.group_is ∙ of.group_is))));
      ahead = λ packet origin group other is its_log ahead.
          let of = of_whom wait packet origin group is in
          ap (λ (b : Bool). b || false) (is_its_own next packet origin group (made.packet_is ∙ of.packet_is)
          (made.origin_is ∙ (whom.0 ∙ of.origin_is)) (made.group_is ∙ (whom.1 ∙ of.group_is)));
    }

again_none : (replicas : List (Option Held)) (items : List HeldMessage) (wait : Wait) (log : Logged) →
    log_of wait.group wait.origin (found wait.packet items) ≡ Some log →
    wait_of replicas wait.packet log ≡ None → IsAgain replicas items wait []
again_none replicas items wait log there none = record {
  named = refl;
  unreached = refl;
  its_own = λ packet origin group. omega arith;
  ahead = λ packet origin group other is its_log ahead.
      let of = of_whom wait packet origin group is in
      let same_log : Some log ≡ Some other =
      sym there ∙ (ap (λ (g : ℕ). log_of g wait.origin (found wait.packet items)) of.group_is
      ∙ (ap (λ (o : ℕ). log_of group o (found wait.packet items)) of.origin_is
      ∙ (ap (λ (p : ℕ). log_of group origin (found p items)) of.packet_is ∙ its_log))) in
      let is_same = same_Some log other same_log in
      let next = wait_there replicas wait.packet log (subst (λ (l : Logged). is_ahead replicas l ≡ true) (sym is_same)
      ahead) in
      absurd (none-some next.0 (sym none ∙ next.1));
}

pub again : (replicas : List (Option Held)) (items : List HeldMessage) (wait : Wait) →
    is_named items wait ≡ true → (next : Option Wait) →
    next ≡ wait_of_found replicas wait.packet (log_of wait.group wait.origin (found wait.packet items)) →
    IsAgain replicas items wait (one_or_none next)
again replicas items wait named next is =
    let its = carried wait.partition wait.number (log_of wait.group wait.origin (found wait.packet items))
    (and_parts (nat_lt wait.partition MOST_PARTITIONS) (carries wait.partition wait.number
    (log_of wait.group wait.origin (found wait.packet items))) named).1 in
    let is_now : next ≡ wait_of replicas wait.packet its.log =
    is ∙ ap (wait_of_found replicas wait.packet) its.there in
    elim next as (λ n. n ≡ wait_of replicas wait.packet its.log → IsAgain replicas items wait (one_or_none n)) [
      | None ↦ λ none. again_none replicas items wait its.log its.there (sym none)
      | Some next' ↦ λ some. again_one replicas items wait next' its.log its.there
          (wait_is replicas wait.packet its.log next' (sym some))
    ] is_now

-- ---- a wait is out, and its log waits again

other_packet : (wait : Wait) (packet origin group : ℕ) → wait.packet ≢ packet →
    is_wait_of packet origin group wait ≡ false
other_packet wait packet origin group differs =
    elim (is_wait_of packet origin group wait) as (λ t. is_wait_of packet origin group wait ≡ t → t ≡ false) [
      | true ↦ λ is. absurd (differs (of_whom wait packet origin group is).packet_is)
      | false ↦ λ _. refl
    ] refl

roused : (old new : Bool) (packet other : ℕ) → new ≡ old && not (other == packet) → new ≡ true →
    (old ≡ true) × (packet ≢ other)
roused true new packet other is rests =
    (refl, λ same. not_both (other == packet) (sym is ∙ rests) (eq-eqb other packet (sym same)))
roused false new packet other is rests = absurd cc

pub origin_of_found : (packet : ℕ) (items : List HeldMessage) (held : HeldMessage) → found packet items ≡ Some held →
    held.message.origin ≡ packet
origin_of_found packet items held there =
    eqb-true held.message.origin packet
    (test_of_found (λ (h : HeldMessage). h.message.origin == packet) items held there)

pub woken : (replicas : List (Option Held)) (items : List HeldMessage) (resting later : List ℕ)
    (old rest new again : List Wait) (wait : Wait) → AreWatched replicas items resting old → IsOut old rest wait →
    IsAgain replicas items wait again → new ≡ rest ++ again →
    ((other : ℕ) → rests other later ≡ rests other resting && not (other == wait.packet)) →
    AreWatched replicas items later new
woken replicas items resting later old rest new again wait stands out next is quiet =
    let test : ℕ → ℕ → ℕ → Wait → Bool = is_wait_of in
    subst (AreWatched replicas items later) (sym is) (record {
      named = all_more (is_named items) rest again (all_out (is_named items) old rest wait out stands.named) next.named;
      once = λ packet origin group.
          let count = count_behind (test packet origin group) rest again in
          let was = count_out (test packet origin group) old rest wait out in
          omega (arith, count, was, stands.once packet origin group, next.its_own packet origin group);
      watched = λ packet origin group log there ahead.
          elim (test packet origin group wait) as (λ t. test packet origin group wait ≡ t →
          list_any (test packet origin group) (rest ++ again) ≡ true) [
            | true ↦ λ its. any_behind (test packet origin group) rest again
                (next.ahead packet origin group log its there ahead)
            | false ↦ λ others. any_before (test packet origin group) rest again
                (any_out (test packet origin group) old rest wait out
                (stands.watched packet origin group log there ahead) others)
          ] refl;
      rest = λ packet held there rests'.
          let was = roused (rests packet resting) (rests packet later) wait.packet packet (quiet packet) rests' in
          let origin_is : held.message.origin ≡ packet = origin_of_found packet items held there in
          put_off_still replicas old (rest ++ again) held (λ (log : Logged) any.
          any_before (test held.message.origin log.origin log.group) rest again
          (any_out (test held.message.origin log.origin log.group) old rest wait out any
          (other_packet wait held.message.origin log.origin log.group (λ same. was.1 (same ∙ origin_is)))))
          (stands.rest packet held there was.0);
    })

-- a test that each wait passes, and each whose number isn't reached, is passed by each later
pub stays_where : (replicas : List (Option Held)) (old rest new again : List Wait) (wait : Wait) →
    IsOut old rest wait → list_all (is_unreached replicas) again ≡ true → new ≡ rest ++ again →
    StaysWhere replicas old new
stays_where replicas old rest new again wait out unreached is test passes all =
    ap (list_all test) is ∙ all_more test rest again (all_out test old rest wait out all)
    (implies_all (is_unreached replicas) test again passes unreached)

-- ---- fewer wait for the number

reached_by : (replicas : List (Option Held)) (group partition number : ℕ) (wait : Wait) →
    waits_for group partition number wait ≡ true →
    is_reached replicas wait ≡ has_reached (replica_at replicas group) partition number
reached_by replicas group partition number wait is =
    let first = and_parts (wait.group == group) (wait.partition == partition && wait.number == number) is in
    let later = and_parts (wait.partition == partition) (wait.number == number) first.1 in
    ap (λ (g : ℕ). has_reached (replica_at replicas g) wait.partition wait.number) (eqb-true wait.group group first.0)
    ∙ (ap (λ (p : ℕ). has_reached (replica_at replicas group) p wait.number)
    (eqb-true wait.partition partition later.0)
    ∙ ap (has_reached (replica_at replicas group) partition) (eqb-true wait.number number later.1))

none_waits : (replicas : List (Option Held)) (group partition number : ℕ) (again : List Wait) →
    has_reached (replica_at replicas group) partition number ≡ true → list_all (is_unreached replicas) again ≡ true →
    length (filter (waits_for group partition number) again) ≡ 0
none_waits replicas group partition number [] reached all = refl
none_waits replicas group partition number (wait ∷ again) reached all =
    let parts = and_parts (is_unreached replicas wait) (list_all (is_unreached replicas) again) all in
    elim (waits_for group partition number wait) as (λ t. waits_for group partition number wait ≡ t →
    length (cond t (wait ∷ filter (waits_for group partition number) again)
    (filter (waits_for group partition number) again)) ≡ 0) [
      | true ↦ λ is. absurd (not_both (is_reached replicas wait) parts.0
          (reached_by replicas group partition number wait is ∙ reached))
      | false ↦ λ _. none_waits replicas group partition number again reached parts.1
    ] refl

pub fewer_wait : (replicas : List (Option Held)) (group partition number : ℕ) (old rest new again : List Wait)
    (wait : Wait) → find (waits_for group partition number) old ≡ Some wait → IsOut old rest wait →
    has_reached (replica_at replicas group) partition number ≡ true → list_all (is_unreached replicas) again ≡ true →
    new ≡ rest ++ again → length (filter (waits_for group partition number) new)
    < length (filter (waits_for group partition number) old)
fewer_wait replicas group partition number old rest new again wait there out reached unreached is =
    let test = waits_for group partition number in
    let was = count_out test old rest wait out in
    let it = one_of (test wait) (test_of_found test old wait there) in
    let count : length (filter test new) ≡ length (filter test rest) + length (filter test again) =
    ap (λ (items : List Wait). length (filter test items)) is ∙ count_behind test rest again in
    let none = none_waits replicas group partition number again reached unreached in
    omega (arith, was, it, count, none)

-- ---- in the words of the calls

pub wait_out_room : (old new : List Wait) (wait : Wait) (rest : List Wait) (spare later : ℕ) → IsOut old rest wait →
    new ≡ rest → later + length new ≡ spare + length old → 1 ≤ later
wait_out_room old new wait rest spare later out is room =
    let was = count_all old rest wait out in
    let now : length new ≡ length rest = ap length is in
    omega (arith, was, now, room)

pub after : (group partition number : ℕ) (replicas : List (Option Held)) (wait : Wait) (old taken : List Wait)
    (items later : List HeldMessage) → taken ≡ without_first group partition number old → later ≡ items →
    taken ++ one_or_none (wait_of_found replicas wait.packet (log_of wait.group wait.origin (found wait.packet later)))
    ≡ without_first group partition number old
    ++ one_or_none (wait_of_found replicas wait.packet (log_of wait.group wait.origin (found wait.packet items)))
after group partition number replicas wait old taken items later is same =
    ap (λ (front : List Wait). front ++ one_or_none (wait_of_found replicas wait.packet
    (log_of wait.group wait.origin (found wait.packet later)))) is
    ∙ ap (λ (held : List HeldMessage). without_first group partition number old
    ++ one_or_none (wait_of_found replicas wait.packet (log_of wait.group wait.origin (found wait.packet held)))) same

-- What stays watched as held messages come, change and go.
use Rattle.std.proofs.Common.{◌≡◌, ◌≢◌, ◌≤◌, ◌∙◌, ◌++◌, ◌&&◌, ◌||◌, not, ℕ, Bool, true, false, List, [], ◌∷◌, Option}
use Rattle.std.proofs.Common.{Some, None, length, refl, sym, ap, cond, arith}
use Rattle.std.specs.Prelude.{◌==◌, find, filter, is_some, nat_lt}
use Rattle.std.specs.List.{list_all, list_any, flat_map}
use Rattle.std.proofs.lemmas.Bool.{eqb-true, eq-eqb, lt-ltb, ltb-true, false≢true, and_parts}
use Rattle.std.proofs.lemmas.Option.{none-some, same_Some}
use Rattle.ftc_base.specs.declared.limits.TheConstants.{MOST_PARTITIONS}
use Rattle.ftc_base.proofs.Bools.{not_both}
use Rattle.ftc_message.specs.Logged.{Logged, logs_rise}
use Rattle.ftc_message.specs.Ordered.{is_log_of}
use Rattle.ftc_replica.specs.Held.{Held}
use Rattle.ftc_replica.specs.declared.waits.Wait.{Wait}
use Rattle.ftc_server.specs.declared.held.HeldMessage.{HeldMessage}
use Rattle.ftc_server.specs.Holding.{found, is_held, is_of, log_of, are_rising, without, rests, origins_of}
use Rattle.ftc_server.specs.Replicas.{replica_at, is_had, is_ready}
use Rattle.ftc_server.specs.Waiting.{is_ahead, wait_of, waits_of, one_or_none, is_unreached, is_wait_of, carries}
use Rattle.ftc_server.specs.Waiting.{has_reached, is_named, is_idle, is_idle_one, is_put_off, AreWatched}
use Rattle.ftc_server.proofs.EachFound.{each_found, one_of_each}
use Rattle.ftc_server.proofs.Finding.{and_both, found_behind, found_without, passes_found}
use Rattle.ftc_server.proofs.Lacking.{had_reached, idle_put_off}
use Rattle.ftc_server.proofs.Named.{is_its_own, of_whom, carried, log_of_whom, IsWaitFor, wait_is, wait_there}
use Rattle.ftc_server.proofs.Named.{is_number_so}
use Rattle.ftc_server.proofs.Taken.{count_behind, all_more, any_before, any_behind}
use Rattle.ftc_server.proofs.Watched.{put_off_still, origin_of_found}
use Rattle.ftc_server.proofs.ListTests.{all_both, implies_all}
use Rattle.ftc_server.specs.Tickets.{AreDistinct}
use Rattle.ftc_server.proofs.Keeping.{held_among}

-- ---- the waits of the logs of one message

pub flat_all : {A B : Type 0} (test : B → Bool) (f : A → List B) (items : List A) →
    list_all (λ item. list_all test (f item)) items ≡ true → list_all test (flat_map f items) ≡ true
flat_all test f [] all = refl
flat_all test f (item ∷ items) all =
    let parts = and_parts (list_all test (f item)) (list_all (λ i. list_all test (f i)) items) all in
    all_more test (f item) (flat_map f items) parts.0 (flat_all test f items parts.1)

pub flat_any : {A B : Type 0} (test : B → Bool) (f : A → List B) (is : A → Bool) (items : List A) (item : A) →
    find is items ≡ Some item → list_any test (f item) ≡ true → list_any test (flat_map f items) ≡ true
flat_any test f is [] item there any = absurd cc
flat_any {A} test f is (first ∷ items) item there any =
    elim (is first) as (λ t. cond t (Some first) (find is items) ≡ Some item →
    list_any test (f first ++ flat_map f items) ≡ true) [
      | true ↦ λ same. let e : first ≡ item = cc in
          any_before test (f first) (flat_map f items) (ap (λ (x : A). list_any test (f x)) e ∙ any)
      | false ↦ λ later. any_behind test (f first) (flat_map f items) (flat_any test f is items item later any)
    ] there

-- the waits of one log
one_named : (replicas : List (Option Held)) (packet : ℕ) (log : Logged) (test : Wait → Bool) →
    ((wait : Wait) → IsWaitFor replicas packet log wait → test wait ≡ true) →
    list_all test (waits_of replicas packet log) ≡ true
one_named replicas packet log test each =
    elim (wait_of replicas packet log) as (λ w. wait_of replicas packet log ≡ w →
    list_all test (one_or_none w) ≡ true) [
      | None ↦ λ _. refl
      | Some wait ↦ λ is. and_both (test wait) true (each wait (wait_is replicas packet log wait is)) refl
    ] refl

one_there : (replicas : List (Option Held)) (packet : ℕ) (log : Logged) → is_ahead replicas log ≡ true →
    list_any (is_wait_of packet log.origin log.group) (waits_of replicas packet log) ≡ true
one_there replicas packet log ahead =
    let wait = wait_there replicas packet log ahead in
    let is = wait_is replicas packet log wait.0 wait.1 in
    ap (λ (w : Option Wait). list_any (is_wait_of packet log.origin log.group) (one_or_none w)) wait.1
    ∙ ap (λ (b : Bool). b || false)
    (is_its_own wait.0 packet log.origin log.group is.packet_is is.origin_is is.group_is)

-- each is named where the message is found
pub logs_named : (replicas : List (Option Held)) (items : List HeldMessage) (packet : ℕ) (held : HeldMessage) →
    found packet items ≡ Some held → logs_rise None held.message.logs ≡ true →
    list_all (is_named items) (flat_map (waits_of replicas packet) held.message.logs) ≡ true
logs_named replicas items packet held there rising =
    let logs = held.message.logs in
    flat_all (is_named items) (waits_of replicas packet) logs
    (each_found (λ (log : Logged). list_all (is_named items) (waits_of replicas packet log)) logs rising (λ log in_logs.
    one_named replicas packet log (is_named items) (λ wait is.
    let here : log_of wait.group wait.origin (found wait.packet items) ≡ Some log =
    ap (λ (g : ℕ). log_of g wait.origin (found wait.packet items)) is.group_is
    ∙ (ap (λ (o : ℕ). log_of log.group o (found wait.packet items)) is.origin_is
    ∙ (ap (λ (p : ℕ). log_of log.group log.origin (found p items)) is.packet_is
    ∙ (ap (log_of log.group log.origin) there ∙ in_logs))) in
    and_both (nat_lt wait.partition MOST_PARTITIONS)
    (carries wait.partition wait.number (log_of wait.group wait.origin (found wait.packet items)))
    (lt-ltb wait.partition MOST_PARTITIONS is.within)
    (ap (carries wait.partition wait.number) here ∙ is_number_so wait.number _ is.mark))))

pub logs_unreached : (replicas : List (Option Held)) (packet : ℕ) (logs : List Logged) →
    list_all (is_unreached replicas) (flat_map (waits_of replicas packet) logs) ≡ true
logs_unreached replicas packet [] = refl
logs_unreached replicas packet (log ∷ logs) =
    all_more (is_unreached replicas) (waits_of replicas packet log) (flat_map (waits_of replicas packet) logs)
    (one_named replicas packet log (is_unreached replicas) (λ wait is. is.unreached))
    (logs_unreached replicas packet logs)

-- each that is ahead has one
pub logs_watched : (replicas : List (Option Held)) (packet origin group : ℕ) (held : HeldMessage) (log : Logged) →
    log_of group origin (Some held) ≡ Some log → is_ahead replicas log ≡ true →
    list_any (is_wait_of packet origin group) (flat_map (waits_of replicas packet) held.message.logs) ≡ true
logs_watched replicas packet origin group held log there ahead =
    let whom = log_of_whom group origin (Some held) log there in
    flat_any (is_wait_of packet origin group) (waits_of replicas packet) (is_log_of origin group) held.message.logs log
    there (ap (λ (o : ℕ). list_any (is_wait_of packet o group) (waits_of replicas packet log)) (sym whom.0)
    ∙ (ap (λ (g : ℕ). list_any (is_wait_of packet log.origin g) (waits_of replicas packet log)) (sym whom.1)
    ∙ one_there replicas packet log ahead))

-- no log has two
count_one : (replicas : List (Option Held)) (packet other origin group : ℕ) (log : Logged) →
    length (filter (is_wait_of other origin group) (waits_of replicas packet log))
    ≤ length (filter (is_log_of origin group) (log ∷ []))
count_one replicas packet other origin group log =
    elim (wait_of replicas packet log) as (λ w. wait_of replicas packet log ≡ w →
    length (filter (is_wait_of other origin group) (one_or_none w))
    ≤ length (filter (is_log_of origin group) (log ∷ []))) [
      | None ↦ λ _. omega arith
      | Some wait ↦ λ is.
          let it = wait_is replicas packet log wait is in
          elim (is_wait_of other origin group wait) as (λ t. is_wait_of other origin group wait ≡ t →
          length (cond t (wait ∷ []) []) ≤ length (filter (is_log_of origin group) (log ∷ []))) [
            | false ↦ λ _. omega arith
            | true ↦ λ its.
                let of = of_whom wait other origin group its in
                let same : is_log_of origin group log ≡ true =
                and_both (log.origin == origin) (log.group == group)
                (eq-eqb log.origin origin (sym it.origin_is ∙ of.origin_is))
                (eq-eqb log.group group (sym it.group_is ∙ of.group_is)) in
                let count : length (filter (is_log_of origin group) (log ∷ [])) ≡ 1 =
                ap (λ (b : Bool). length (cond b (log ∷ []) [])) same in
                omega (arith, count)
          ] refl
    ] refl

count_logs : (replicas : List (Option Held)) (packet other origin group : ℕ) (logs : List Logged) →
    length (filter (is_wait_of other origin group) (flat_map (waits_of replicas packet) logs))
    ≤ length (filter (is_log_of origin group) logs)
count_logs replicas packet other origin group [] = omega arith
count_logs replicas packet other origin group (log ∷ logs) =
    let whole = count_behind (is_wait_of other origin group) (waits_of replicas packet log)
    (flat_map (waits_of replicas packet) logs) in
    let all = count_behind (is_log_of origin group) (log ∷ []) logs in
    let first = count_one replicas packet other origin group log in
    let later = count_logs replicas packet other origin group logs in
    omega (arith, whole, all, first, later)

pub logs_once : (replicas : List (Option Held)) (packet other origin group : ℕ) (logs : List Logged) →
    logs_rise None logs ≡ true →
    length (filter (is_wait_of other origin group) (flat_map (waits_of replicas packet) logs)) ≤ 1
logs_once replicas packet other origin group logs rising =
    let most = count_logs replicas packet other origin group logs in
    let one = one_of_each origin group None logs rising in
    omega (arith, most, one)

-- none is of another packet
pub logs_of_packet : (replicas : List (Option Held)) (packet : ℕ) (logs : List Logged) →
    list_all (λ (wait : Wait). wait.packet == packet) (flat_map (waits_of replicas packet) logs) ≡ true
logs_of_packet replicas packet [] = refl
logs_of_packet replicas packet (log ∷ logs) =
    all_more (λ (wait : Wait). wait.packet == packet) (waits_of replicas packet log)
    (flat_map (waits_of replicas packet) logs)
    (one_named replicas packet log (λ (wait : Wait). wait.packet == packet)
    (λ wait is. eq-eqb wait.packet packet is.packet_is))
    (logs_of_packet replicas packet logs)

pub none_of_another : (packet other origin group : ℕ) (items : List Wait) → packet ≢ other →
    list_all (λ (wait : Wait). wait.packet == packet) items ≡ true →
    length (filter (is_wait_of other origin group) items) ≡ 0
none_of_another packet other origin group [] differs all = refl
none_of_another packet other origin group (wait ∷ items) differs all =
    let parts = and_parts (wait.packet == packet) (list_all (λ (w : Wait). w.packet == packet) items) all in
    elim (is_wait_of other origin group wait) as (λ t. is_wait_of other origin group wait ≡ t →
    length (cond t (wait ∷ filter (is_wait_of other origin group) items) (filter (is_wait_of other origin group) items))
    ≡ 0) [
      | true ↦ λ is. absurd (differs (sym (eqb-true wait.packet packet parts.0)
          ∙ (of_whom wait other origin group is).packet_is))
      | false ↦ λ _. none_of_another packet other origin group items differs parts.1
    ] refl

-- none is of a packet whose message isn't held
unheld : (items : List HeldMessage) (packet : ℕ) (waiting : List Wait) → found packet items ≡ None →
    list_all (is_named items) waiting ≡ true →
    list_all (λ (wait : Wait). not (wait.packet == packet)) waiting ≡ true
unheld items packet waiting none named =
    implies_all (is_named items) (λ (wait : Wait). not (wait.packet == packet)) waiting (λ wait is.
    elim (wait.packet == packet) as (λ t. (wait.packet == packet) ≡ t → not t ≡ true) [
      | true ↦ λ same.
          let parts = and_parts (nat_lt wait.partition MOST_PARTITIONS)
          (carries wait.partition wait.number (log_of wait.group wait.origin (found wait.packet items))) is in
          let its = carried wait.partition wait.number (log_of wait.group wait.origin (found wait.packet items))
          parts.1 in
          let none_so : log_of wait.group wait.origin (found wait.packet items) ≡ None =
          ap (λ (p : ℕ). log_of wait.group wait.origin (found p items)) (eqb-true wait.packet packet same)
          ∙ ap (log_of wait.group wait.origin) none in
          absurd (none-some its.log (sym none_so ∙ its.there))
      | false ↦ λ _. refl
    ] refl) named

pub none_of_it : (packet origin group : ℕ) (items : List Wait) →
    list_all (λ (wait : Wait). not (wait.packet == packet)) items ≡ true →
    length (filter (is_wait_of packet origin group) items) ≡ 0
none_of_it packet origin group [] all = refl
none_of_it packet origin group (wait ∷ items) all =
    let parts = and_parts (not (wait.packet == packet)) (list_all (λ (w : Wait). not (w.packet == packet)) items) all in
    elim (is_wait_of packet origin group wait) as (λ t. is_wait_of packet origin group wait ≡ t →
    length (cond t (wait ∷ filter (is_wait_of packet origin group) items)
    (filter (is_wait_of packet origin group) items)) ≡ 0) [
      | true ↦ λ is. absurd (not_both (wait.packet == packet) parts.0
          (eq-eqb wait.packet packet (of_whom wait packet origin group is).packet_is))
      | false ↦ λ _. none_of_it packet origin group items parts.1
    ] refl

-- ---- a message is held behind the others

found_last : (items : List HeldMessage) (held : HeldMessage) (packet : ℕ) → found packet items ≡ None →
    held.message.origin ≡ packet → found packet (items ++ held ∷ []) ≡ Some held
found_last [] held packet none is =
    ap (λ (b : Bool). cond b (Some held) None) (eq-eqb held.message.origin packet is)
found_last (first ∷ items) held packet none is =
    elim (is_of packet first) as (λ t. cond t (Some first) (found packet items) ≡ None →
    cond t (Some first) (found packet (items ++ held ∷ [])) ≡ Some held) [
      | true ↦ λ some. absurd (none-some first (sym some))
      | false ↦ λ later. found_last items held packet later is
    ] none

only_last : (items : List HeldMessage) (held other : HeldMessage) (packet : ℕ) → found packet items ≡ None →
    found packet (items ++ held ∷ []) ≡ Some other → (held ≡ other) × (held.message.origin ≡ packet)
only_last [] held other packet none is =
    elim (is_of packet held) as (λ t. is_of packet held ≡ t → cond t (Some held) None ≡ Some other →
    (held ≡ other) × (held.message.origin ≡ packet)) [
      | true ↦ λ its same. (same_Some held other same, eqb-true held.message.origin packet its)
      | false ↦ λ _ never. absurd (none-some other never)
    ] refl is
only_last (first ∷ items) held other packet none is =
    elim (is_of packet first) as (λ t. cond t (Some first) (found packet items) ≡ None →
    cond t (Some first) (found packet (items ++ held ∷ [])) ≡ Some other →
    (held ≡ other) × (held.message.origin ≡ packet)) [
      | true ↦ λ some _. absurd (none-some first (sym some))
      | false ↦ λ later there. only_last items held other packet later there
    ] none is

none_held : (found' : Option HeldMessage) → is_some found' ≡ false → found' ≡ None
none_held None none = refl
none_held (Some held) none = absurd cc

-- either a message was held, or it is the last
pub record IsLast (items : List HeldMessage) (held other : HeldMessage) (packet : ℕ) : Type 0 where
  pub none : found packet items ≡ None
  pub same : held ≡ other
  pub origin_is : held.message.origin ≡ packet

pub which : (A : Type 0) (items : List HeldMessage) (held other : HeldMessage) (packet : ℕ) →
    found packet (items ++ held ∷ []) ≡ Some other → (found packet items ≡ Some other → A) →
    (IsLast items held other packet → A) → A
which A items held other packet there before last =
    elim (found packet items) as (λ f. found packet items ≡ f → A) [
      | Some first ↦ λ is.
          let stays = found_behind (is_of packet) items (held ∷ []) first is in
          before (is ∙ (sym stays ∙ there))
      | None ↦ λ none.
          let it = only_last items held other packet none there in
          last (record { none = none; same = it.0; origin_is = it.1 })
    ] refl

named_behind : (items : List HeldMessage) (held : HeldMessage) (wait : Wait) → is_named items wait ≡ true →
    is_named (items ++ held ∷ []) wait ≡ true
named_behind items held wait named =
    let parts = and_parts (nat_lt wait.partition MOST_PARTITIONS)
    (carries wait.partition wait.number (log_of wait.group wait.origin (found wait.packet items))) named in
    and_both (nat_lt wait.partition MOST_PARTITIONS)
    (carries wait.partition wait.number (log_of wait.group wait.origin (found wait.packet (items ++ held ∷ []))))
    parts.0
    (elim (found wait.packet items) as (λ f. found wait.packet items ≡ f →
    carries wait.partition wait.number (log_of wait.group wait.origin f) ≡ true →
    carries wait.partition wait.number (log_of wait.group wait.origin (found wait.packet (items ++ held ∷ [])))
    ≡ true) [
      | Some first ↦ λ is carried'.
          ap (λ f. carries wait.partition wait.number (log_of wait.group wait.origin f))
          (found_behind (is_of wait.packet) items (held ∷ []) first is) ∙ carried'
      | None ↦ λ _ never. absurd (false≢true never)
    ] refl parts.1)

pub taken_watched : (replicas : List (Option Held)) (items : List HeldMessage) (resting later : List ℕ)
    (waiting : List Wait) (held : HeldMessage) → AreWatched replicas items resting waiting →
    is_held held.message.origin items ≡ false → logs_rise None held.message.logs ≡ true →
    ((other : ℕ) → rests other later ≡ rests other resting) → rests held.message.origin later ≡ false →
    AreWatched replicas (items ++ held ∷ []) later
    (waiting ++ flat_map (waits_of replicas held.message.origin) held.message.logs)
taken_watched replicas items resting later waiting held stands new rising quiet awake =
    let origin = held.message.origin in
    let more = flat_map (waits_of replicas origin) held.message.logs in
    let all = items ++ held ∷ [] in
    let none = none_held (found origin items) new in
    let there = found_last items held origin none refl in
    record {
      named = all_more (is_named all) waiting more
          (implies_all (is_named items) (is_named all) waiting (named_behind items held) stands.named)
          (logs_named replicas all origin held there rising);
      once = λ packet log_origin group.
          let whole = count_behind (is_wait_of packet log_origin group) waiting more in
          elim (origin == packet) as (λ t. (origin == packet) ≡ t →
          length (filter (is_wait_of packet log_origin group) (waiting ++ more)) ≤ 1) [
            | true ↦ λ same.
                let e = eqb-true origin packet same in
                let before : length (filter (is_wait_of packet log_origin group) waiting) ≡ 0 =
                none_of_it packet log_origin group waiting (unheld items packet waiting
                (ap (λ (p : ℕ). found p items) (sym e) ∙ none) stands.named) in
                let now = logs_once replicas origin packet log_origin group held.message.logs rising in
                omega (arith, whole, before, now)
            | false ↦ λ differs.
                let now : length (filter (is_wait_of packet log_origin group) more) ≡ 0 =
                none_of_another origin packet log_origin group more
                (λ e. false≢true (sym differs ∙ eq-eqb origin packet e))
                (logs_of_packet replicas origin held.message.logs) in
                let before = stands.once packet log_origin group in
                omega (arith, whole, now, before)
          ] refl;
      watched = λ packet log_origin group log its ahead.
          elim (found packet all) as (λ f. found packet all ≡ f → log_of group log_origin f ≡ Some log →
          list_any (is_wait_of packet log_origin group) (waiting ++ more) ≡ true) [
            | None ↦ λ _ never. absurd (none-some log never)
            | Some other ↦ λ is log_is.
                which (list_any (is_wait_of packet log_origin group) (waiting ++ more) ≡ true)
                items held other packet is
                (λ before. any_before (is_wait_of packet log_origin group) waiting more
                (stands.watched packet log_origin group log (ap (log_of group log_origin) before ∙ log_is) ahead))
                (λ last. any_behind (is_wait_of packet log_origin group) waiting more
                (ap (λ (p : ℕ). list_any (is_wait_of p log_origin group) more) (sym last.origin_is)
                ∙ logs_watched replicas origin log_origin group held log
                (ap (λ (h : HeldMessage). log_of group log_origin (Some h)) last.same ∙ log_is) ahead))
          ] refl its;
      rest = λ packet other is it_rests.
          which (is_put_off replicas (waiting ++ more) other ≡ true) items held other packet is
          (λ before. put_off_still replicas waiting (waiting ++ more) other
          (λ (log : Logged) any. any_before (is_wait_of other.message.origin log.origin log.group) waiting more any)
          (stands.rest packet other before (sym (quiet packet) ∙ it_rests)))
          (λ last. absurd (false≢true (sym awake ∙ (ap (λ (p : ℕ). rests p later) last.origin_is ∙ it_rests))));
    }

-- ---- a message is looked at anew

idle_found : (replicas : List (Option Held)) (found' : Option HeldMessage) (held : HeldMessage) →
    found' ≡ Some held → is_idle_one replicas found' ≡ true → is_idle replicas held.message.logs ≡ true
idle_found replicas found' held is idle = ap (is_idle_one replicas) (sym is) ∙ idle

pub settled_watched : (replicas : List (Option Held)) (items : List HeldMessage) (old new : List ℕ)
    (waiting : List Wait) (origin : ℕ) → list_all are_rising items ≡ true → AreWatched replicas items old waiting →
    ((other : ℕ) → rests other new
    ≡ rests other old || (other == origin && is_idle_one replicas (found origin items))) →
    AreWatched replicas items new waiting
settled_watched replicas items old new waiting origin rising stands looked = record {
  named = stands.named;
  once = stands.once;
  watched = stands.watched;
  rest = λ packet held there it_rests.
      let was = sym (looked packet) ∙ it_rests in
      elim (rests packet old) as (λ t. rests packet old ≡ t →
      t || (packet == origin && is_idle_one replicas (found origin items)) ≡ true →
      is_put_off replicas waiting held ≡ true) [
        | true ↦ λ before _. stands.rest packet held there before
        | false ↦ λ _ later.
            let parts = and_parts (packet == origin) (is_idle_one replicas (found origin items)) later in
            let same : found origin items ≡ Some held =
            ap (λ (p : ℕ). found p items) (sym (eqb-true packet origin parts.0)) ∙ there in
            idle_put_off replicas items waiting packet held there (origin_of_found packet items held there)
            (passes_found are_rising (is_of packet) items held rising there)
            (stands.watched packet) (idle_found replicas (found origin items) held same parts.1)
      ] refl was;
}

-- ---- a message leaves that lacks nothing

gone : (origin : ℕ) (items : List HeldMessage) → AreDistinct (origins_of items) →
    not (is_held origin (without origin items)) ≡ true
gone origin [] distinct = refl
gone origin (first ∷ items) distinct =
    elim (is_of origin first) as (λ t. is_of origin first ≡ t →
    not (is_held origin (cond t items (first ∷ without origin items))) ≡ true) [
      | true ↦ λ is. ap (λ (o : ℕ). not (is_held o items)) (sym (eqb-true first.message.origin origin is))
          ∙ ap not (held_among items first.message.origin ∙ distinct.0)
      | false ↦ λ isnt.
          ap (λ (b : Bool). not (is_some (cond b (Some first) (found origin (without origin items))))) isnt
          ∙ gone origin items distinct.1
    ] refl

pub isnt_it : (origin packet : ℕ) (items : List HeldMessage) (held : HeldMessage) → AreDistinct (origins_of items) →
    found packet (without origin items) ≡ Some held → packet ≢ origin
isnt_it origin packet items held distinct there = λ same.
    not_both (is_held origin (without origin items)) (gone origin items distinct)
    (ap (λ (p : ℕ). is_held p (without origin items)) (sym same) ∙ ap (λ (f : Option HeldMessage). is_some f) there)

abbrev is_reached_at : List (Option Held) → ℕ → Wait → Bool
is_reached_at replicas group wait = has_reached (replica_at replicas group) wait.partition wait.number

-- none of its logs waits
nothing_waits : (replicas : List (Option Held)) (items : List HeldMessage) (waiting : List Wait) (origin : ℕ)
    (held : HeldMessage) → found origin items ≡ Some held → is_ready replicas held ≡ true →
    list_all (is_named items) waiting ≡ true → list_all (is_unreached replicas) waiting ≡ true →
    list_all (λ (wait : Wait). not (wait.packet == origin)) waiting ≡ true
nothing_waits replicas items [] origin held there ready named unreached = refl
nothing_waits replicas items (wait ∷ waiting) origin held there ready named unreached =
    let a = and_parts (is_named items wait) (list_all (is_named items) waiting) named in
    let b = and_parts (is_unreached replicas wait) (list_all (is_unreached replicas) waiting) unreached in
    let parts = and_parts (nat_lt wait.partition MOST_PARTITIONS)
    (carries wait.partition wait.number (log_of wait.group wait.origin (found wait.packet items))) a.0 in
    let its = carried wait.partition wait.number (log_of wait.group wait.origin (found wait.packet items)) parts.1 in
    and_both (not (wait.packet == origin)) (list_all (λ (w : Wait). not (w.packet == origin)) waiting)
    (elim (wait.packet == origin) as (λ t. (wait.packet == origin) ≡ t → not t ≡ true) [
      | false ↦ λ _. refl
      | true ↦ λ same.
          let e = eqb-true wait.packet origin same in
          let in_it : log_of wait.group wait.origin (Some held) ≡ Some its.log =
          ap (log_of wait.group wait.origin) (sym (ap (λ (p : ℕ). found p items) e ∙ there)) ∙ its.there in
          let whom = log_of_whom wait.group wait.origin (Some held) its.log in_it in
          let had : is_had replicas its.log ≡ true =
          passes_found (is_had replicas) (is_log_of wait.origin wait.group) held.message.logs its.log ready in_it in
          absurd (not_both _ b.0 (ap (λ (g : ℕ). is_reached_at replicas g wait) (sym whom.1)
          ∙ had_reached (replica_at replicas its.log.group) its.log wait.partition wait.number had
          (ltb-true wait.partition MOST_PARTITIONS parts.0) its.mark))
    ] refl)
    (nothing_waits replicas items waiting origin held there ready a.1 b.1)

named_without : (items : List HeldMessage) (origin : ℕ) (wait : Wait) →
    is_named items wait && not (wait.packet == origin) ≡ true → is_named (without origin items) wait ≡ true
named_without items origin wait is =
    let parts = and_parts (is_named items wait) (not (wait.packet == origin)) is in
    ap (λ f. nat_lt wait.partition MOST_PARTITIONS
    && carries wait.partition wait.number (log_of wait.group wait.origin f))
    (found_without origin wait.packet items (λ same. not_both (wait.packet == origin) parts.1
    (eq-eqb wait.packet origin same)))
    ∙ parts.0

was_resting : (old same new : Bool) → new ≡ old && not same → new ≡ true → old ≡ true
was_resting true same new is rests' = refl
was_resting false same new is rests' = absurd (false≢true (sym is ∙ rests'))

pub left_watched : (replicas : List (Option Held)) (items : List HeldMessage) (resting later : List ℕ)
    (waiting : List Wait) (origin : ℕ) (held : HeldMessage) → AreDistinct (origins_of items) →
    AreWatched replicas items resting waiting → list_all (is_unreached replicas) waiting ≡ true →
    found origin items ≡ Some held → is_ready replicas held ≡ true →
    ((other : ℕ) → rests other later ≡ rests other resting && not (other == origin)) →
    AreWatched replicas (without origin items) later waiting
left_watched replicas items resting later waiting origin held distinct stands unreached there ready quiet =
    let left = without origin items in
    record {
      named = implies_all (λ (wait : Wait). is_named items wait && not (wait.packet == origin)) (is_named left) waiting
          (named_without items origin)
          (all_both (is_named items) (λ (wait : Wait). not (wait.packet == origin)) waiting stands.named
          (nothing_waits replicas items waiting origin held there ready stands.named unreached));
      once = stands.once;
      watched = λ packet log_origin group log its ahead.
          elim (found packet left) as (λ f. found packet left ≡ f → log_of group log_origin f ≡ Some log →
          list_any (is_wait_of packet log_origin group) waiting ≡ true) [
            | None ↦ λ _ never. absurd (none-some log never)
            | Some other ↦ λ is log_is.
                let was = sym (found_without origin packet items (isnt_it origin packet items other distinct is))
                ∙ is in
                stands.watched packet log_origin group log (ap (log_of group log_origin) was ∙ log_is) ahead
          ] refl its;
      rest = λ packet other is it_rests.
          let was = sym (found_without origin packet items (isnt_it origin packet items other distinct is)) ∙ is in
          stands.rest packet other was (was_resting (rests packet resting) (packet == origin) (rests packet later)
          (quiet packet) it_rests);
    }

-- ---- the origins stay distinct

-- What is watched where all messages are looked at anew.
use Rattle.std.proofs.Common.{◌≡◌, ◌≤◌, ◌∙◌, ◌++◌, ◌||◌, not, ℕ, Bool, true, false, List, [], ◌∷◌, Option, Some, None}
use Rattle.std.proofs.Common.{length, refl, sym, ap, cond, arith}
use Rattle.std.specs.Prelude.{◌==◌, filter, is_some}
use Rattle.std.specs.List.{list_all, list_any}
use Rattle.std.proofs.lemmas.Bool.{eqb-true, eq-eqb, false≢true, and_parts}
use Rattle.std.proofs.lemmas.Option.{none-some}
use Rattle.ftc_message.specs.Logged.{Logged}
use Rattle.ftc_replica.specs.Held.{Held}
use Rattle.ftc_replica.specs.declared.waits.Wait.{Wait}
use Rattle.ftc_server.specs.declared.held.HeldMessage.{HeldMessage}
use Rattle.ftc_server.specs.Holding.{found, is_held, is_of, log_of, are_rising, rests, origins_of}
use Rattle.ftc_server.specs.Replicas.{is_had, is_ready}
use Rattle.ftc_server.specs.Waiting.{is_ahead, waits_of_message, waits_of_all, is_unreached, is_wait_of, is_named}
use Rattle.ftc_server.specs.Waiting.{is_idle, is_settled, AreWatched}
use Rattle.ftc_server.proofs.EachHeld.{each_held}
use Rattle.ftc_server.proofs.Finding.{and_both, passes_found}
use Rattle.ftc_server.proofs.Lacking.{ahead_is_lacking, idle_put_off, ready_not_idle}
use Rattle.ftc_server.proofs.Taken.{count_behind, all_more}
use Rattle.ftc_server.proofs.Watched.{origin_of_found}
use Rattle.ftc_server.proofs.StillWatched.{flat_all, flat_any, logs_named, logs_unreached, logs_watched, logs_once}
use Rattle.ftc_server.proofs.StillWatched.{logs_of_packet, none_of_another, none_of_it}
use Rattle.ftc_server.specs.Tickets.{AreDistinct}
use Rattle.ftc_server.proofs.Keeping.{held_among}

or_settled : (rests' idle : Bool) → not rests' || idle ≡ true → rests' ≡ true → idle ≡ true
or_settled true idle is it = is
or_settled false idle is it = absurd (false≢true it)

-- a message that rests and is settled is idle
rests_idle : (replicas : List (Option Held)) (items : List HeldMessage) (resting : List ℕ) (packet : ℕ)
    (held : HeldMessage) → list_all (is_settled replicas resting) items ≡ true → found packet items ≡ Some held →
    rests packet resting ≡ true → is_idle replicas held.message.logs ≡ true
rests_idle replicas items resting packet held settled there it_rests =
    or_settled (rests held.message.origin resting) (is_idle replicas held.message.logs)
    (passes_found (is_settled replicas resting) (is_of packet) items held settled there)
    (ap (λ (p : ℕ). rests p resting) (origin_of_found packet items held there) ∙ it_rests)

-- ---- where no message lacks anything, nothing waits

pub nothing_watched : (replicas : List (Option Held)) (items : List HeldMessage) (resting : List ℕ) →
    list_all (is_ready replicas) items ≡ true → list_all (is_settled replicas resting) items ≡ true →
    AreWatched replicas items resting []
nothing_watched replicas items resting ready settled = record {
  named = refl;
  once = λ packet origin group. omega arith;
  watched = λ packet origin group log its ahead.
      elim (found packet items) as (λ f. found packet items ≡ f → log_of group origin f ≡ Some log →
      list_any (is_wait_of packet origin group) [] ≡ true) [
        | None ↦ λ _ never. absurd (none-some log never)
        | Some held ↦ λ there in_it.
            let all = passes_found (is_ready replicas) (is_of packet) items held ready there in
            let had = passes_found (is_had replicas) _ held.message.logs log all in_it in
            absurd (false≢true (sym (ahead_is_lacking replicas log ahead) ∙ had))
      ] refl its;
  rest = λ packet held there it_rests.
      absurd (ready_not_idle replicas held.message.logs
      (passes_found (is_ready replicas) (is_of packet) items held ready there)
      (rests_idle replicas items resting packet held settled there it_rests));
}

all_kept_pass : {A : Type 0} (keep : A → Bool) (items : List A) → list_all keep (filter keep items) ≡ true
all_kept_pass keep [] = refl
all_kept_pass keep (item ∷ items) =
    elim (keep item) as (λ t. keep item ≡ t → list_all keep (cond t (item ∷ filter keep items) (filter keep items))
    ≡ true) [
      | true ↦ λ is. and_both (keep item) (list_all keep (filter keep items)) is (all_kept_pass keep items)
      | false ↦ λ _. all_kept_pass keep items
    ] refl

pub kept_ready : (replicas : List (Option Held)) (items : List HeldMessage) →
    list_all (is_ready replicas) (filter (is_ready replicas) items) ≡ true
kept_ready replicas items = all_kept_pass (is_ready replicas) items

-- ---- the waits of all messages

pub all_unreached : (replicas : List (Option Held)) (items : List HeldMessage) →
    list_all (is_unreached replicas) (waits_of_all replicas items) ≡ true
all_unreached replicas [] = refl
all_unreached replicas (held ∷ items) =
    all_more (is_unreached replicas) (waits_of_message replicas held) (waits_of_all replicas items)
    (logs_unreached replicas held.message.origin held.message.logs) (all_unreached replicas items)

all_named : (replicas : List (Option Held)) (items : List HeldMessage) → AreDistinct (origins_of items) →
    list_all are_rising items ≡ true → list_all (is_named items) (waits_of_all replicas items) ≡ true
all_named replicas items distinct rising =
    flat_all (is_named items) (waits_of_message replicas) items
    (each_held (λ (held : HeldMessage). list_all (is_named items) (waits_of_message replicas held)) items distinct
    (λ held is. logs_named replicas items held.message.origin held is.there
    (passes_found are_rising (is_of held.message.origin) items held rising is.there)))

none_such : (packet origin : ℕ) (items : List Wait) → (origin == packet) ≡ false →
    list_all (λ (wait : Wait). wait.packet == origin) items ≡ true →
    list_all (λ (wait : Wait). not (wait.packet == packet)) items ≡ true
none_such packet origin [] isnt all = refl
none_such packet origin (wait ∷ items) isnt all =
    let parts = and_parts (wait.packet == origin) (list_all (λ (w : Wait). w.packet == origin) items) all in
    and_both (not (wait.packet == packet)) (list_all (λ (w : Wait). not (w.packet == packet)) items)
    (ap (λ (p : ℕ). not (p == packet)) (eqb-true wait.packet origin parts.0) ∙ ap not isnt)
    (none_such packet origin items isnt parts.1)

others_than : (replicas : List (Option Held)) (packet : ℕ) (items : List HeldMessage) →
    not (is_held packet items) ≡ true →
    list_all (λ (wait : Wait). not (wait.packet == packet)) (waits_of_all replicas items) ≡ true
others_than replicas packet [] none = refl
others_than replicas packet (held ∷ items) none =
    elim (is_of packet held) as (λ t. is_of packet held ≡ t →
    not (is_some (cond t (Some held) (found packet items))) ≡ true →
    list_all (λ (wait : Wait). not (wait.packet == packet))
    (waits_of_message replicas held ++ waits_of_all replicas items) ≡ true) [
      | true ↦ λ _ never. absurd (false≢true never)
      | false ↦ λ isnt later.
          all_more (λ (wait : Wait). not (wait.packet == packet)) (waits_of_message replicas held)
          (waits_of_all replicas items)
          (none_such packet held.message.origin (waits_of_message replicas held) isnt
          (logs_of_packet replicas held.message.origin held.message.logs))
          (others_than replicas packet items later)
    ] refl none

all_once : (replicas : List (Option Held)) (packet origin group : ℕ) (items : List HeldMessage) →
    AreDistinct (origins_of items) → list_all are_rising items ≡ true →
    length (filter (is_wait_of packet origin group) (waits_of_all replicas items)) ≤ 1
all_once replicas packet origin group [] distinct rising = omega arith
all_once replicas packet origin group (held ∷ items) distinct rising =
    let rise = and_parts (are_rising held) (list_all are_rising items) rising in
    let whole = count_behind (is_wait_of packet origin group) (waits_of_message replicas held)
    (waits_of_all replicas items) in
    elim (held.message.origin == packet) as (λ t. (held.message.origin == packet) ≡ t →
    length (filter (is_wait_of packet origin group) (waits_of_message replicas held ++ waits_of_all replicas items))
    ≤ 1) [
      | true ↦ λ same.
          let first = logs_once replicas held.message.origin packet origin group held.message.logs rise.0 in
          let later : length (filter (is_wait_of packet origin group) (waits_of_all replicas items)) ≡ 0 =
          none_of_it packet origin group (waits_of_all replicas items)
          (others_than replicas packet items
          (ap (λ (p : ℕ). not (is_held p items)) (sym (eqb-true held.message.origin packet same))
          ∙ ap not (held_among items held.message.origin ∙ distinct.0))) in
          omega (arith, whole, first, later)
      | false ↦ λ differs.
          let first : length (filter (is_wait_of packet origin group) (waits_of_message replicas held)) ≡ 0 =
          none_of_another held.message.origin packet origin group (waits_of_message replicas held)
          (λ e. false≢true (sym differs ∙ eq-eqb held.message.origin packet e))
          (logs_of_packet replicas held.message.origin held.message.logs) in
          let later = all_once replicas packet origin group items distinct.1 rise.1 in
          omega (arith, whole, first, later)
    ] refl

pub all_watched : (replicas : List (Option Held)) (items : List HeldMessage) (resting : List ℕ) →
    AreDistinct (origins_of items) → list_all are_rising items ≡ true →
    list_all (is_settled replicas resting) items ≡ true →
    AreWatched replicas items resting (waits_of_all replicas items)
all_watched replicas items resting distinct rising settled =
    let each : (packet origin group : ℕ) (log : Logged) → log_of group origin (found packet items) ≡ Some log →
    is_ahead replicas log ≡ true → list_any (is_wait_of packet origin group) (waits_of_all replicas items) ≡ true =
    λ packet origin group log its ahead.
    elim (found packet items) as (λ f. found packet items ≡ f → log_of group origin f ≡ Some log →
    list_any (is_wait_of packet origin group) (waits_of_all replicas items) ≡ true) [
      | None ↦ λ _ never. absurd (none-some log never)
      | Some held ↦ λ there in_it.
          flat_any (is_wait_of packet origin group) (waits_of_message replicas) (is_of packet) items held there
          (ap (λ (p : ℕ). list_any (is_wait_of p origin group) (waits_of_message replicas held))
          (sym (origin_of_found packet items held there))
          ∙ logs_watched replicas held.message.origin origin group held log in_it ahead)
    ] refl its in
    record {
      named = all_named replicas items distinct rising;
      once = λ packet origin group. all_once replicas packet origin group items distinct rising;
      watched = each;
      rest = λ packet held there it_rests.
          idle_put_off replicas items (waits_of_all replicas items) packet held there
          (origin_of_found packet items held there) (passes_found are_rising (is_of packet) items held rising there)
          (each packet) (rests_idle replicas items resting packet held settled there it_rests);
    }

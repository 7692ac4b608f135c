-- What the work of a held message says of it.
use Rattle.std.proofs.Common.{◌≡◌, ◌∙◌, ◌&&◌, not, ℕ, Bool, true, false, List, Option, Some, None, refl, ap, cond}
use Rattle.std.proofs.Common.{◌⊎◌, inl, inr, sym}
use Rattle.std.specs.Prelude.{is_some}
use Rattle.ftc_message.specs.Logged.{Logged}
use Rattle.ftc_replica.specs.Held.{Held}
use Rattle.ftc_server.specs.declared.held.HeldMessage.{HeldMessage}
use Rattle.ftc_server.specs.declared.work.Work.{Work}
use Rattle.ftc_server.specs.declared.work.Work.TheVariants.{Apply, Visit, Send, Carry}
use Rattle.ftc_server.specs.Replicas.{is_ready}
use Rattle.ftc_server.specs.Work.{is_waiting, last_work, work_behind, work_for, work_for_found, next_log}

pub record IsHeldWith (replicas : List (Option Held)) (found : Option HeldMessage) (work : Work) : Type 0 where
  pub held : HeldMessage
  pub there : found ≡ Some held
  pub works : work_for replicas held ≡ Some work

pub held_with : (replicas : List (Option Held)) (found : Option HeldMessage) (work : Work)
    → work_for_found replicas found ≡ Some work → IsHeldWith replicas found work
held_with replicas None work is = absurd cc
held_with replicas (Some held) work is = record { held = held; there = refl; works = is }

-- what is to be done is no apply, so that the message lacks nothing and it is the last work
last_behind : (replicas : List (Option Held)) (held : HeldMessage) (log : Option Logged) (work : Work)
    → ((group packet : ℕ) → Apply group packet ≡ work → ⊥) → work_behind replicas held log ≡ Some work
    → (is_ready replicas held ≡ true) × (last_work held ≡ work)
last_behind replicas held (Some log) work other is = let e : Apply log.group log.origin ≡ work =
    cc in absurd (other log.group log.origin e)
last_behind replicas held None work other is =
    elim (is_ready replicas held) as (λ t. cond t (Some (last_work held)) None ≡ Some work →
    (t ≡ true) × (last_work held ≡ work)) [
      | true ↦ λ same. (refl, cc)
      | false ↦ λ none. absurd cc
    ] is

pub last_of : (replicas : List (Option Held)) (held : HeldMessage) (work : Work)
    → ((group packet : ℕ) → Apply group packet ≡ work → ⊥) → work_for replicas held ≡ Some work
    → (is_ready replicas held ≡ true) × (last_work held ≡ work)
last_of replicas held work other is =
    last_behind replicas held (next_log replicas None held.message.logs) work other is

waits_for : (waiting by_ring : Bool) → cond waiting Visit (cond by_ring Carry Send) ≡ Visit → waiting ≡ true
waits_for true by_ring is = refl
waits_for false true is = absurd cc
waits_for false false is = absurd cc

waits_not : (waiting by_ring : Bool) → (cond waiting Visit (cond by_ring Carry Send) ≡ Visit → ⊥) → waiting ≡ false
waits_not true by_ring isnt = absurd (isnt refl)
waits_not false by_ring isnt = refl

pub visits : (replicas : List (Option Held)) (held : HeldMessage) → work_for replicas held ≡ Some Visit →
    is_waiting held ≡ true
visits replicas held is = waits_for (is_waiting held) held.by_ring
    (last_of replicas held Visit (λ g p same. absurd cc) is).1

-- a message of which nothing is left to do at the server that holds it
pub record IsThrough (replicas : List (Option Held)) (found : Option HeldMessage) : Type 0 where
  pub held : HeldMessage
  pub there : found ≡ Some held
  pub ready : is_ready replicas held ≡ true
  pub visited : is_waiting held ≡ false

through : (replicas : List (Option Held)) (found : Option HeldMessage) (work : Work)
    → ((group packet : ℕ) → Apply group packet ≡ work → ⊥) → (Visit ≡ work → ⊥)
    → work_for_found replicas found ≡ Some work → IsThrough replicas found
through replicas found work no_apply no_visit is =
    let it = held_with replicas found work is in
    let last = last_of replicas it.held work no_apply it.works in
    record {
      held = it.held;
      there = it.there;
      ready = last.0;
      visited = waits_not (is_waiting it.held) it.held.by_ring (λ visit. no_visit (sym visit ∙ last.1));
    }

pub goes_on_or_ends : (replicas : List (Option Held)) (found : Option HeldMessage)
    → (work_for_found replicas found ≡ Some Send) ⊎ (work_for_found replicas found ≡ Some Carry)
    → IsThrough replicas found
goes_on_or_ends replicas found (inl sends) =
    through replicas found Send (λ g p same. absurd cc) (λ same. absurd cc) sends
goes_on_or_ends replicas found (inr carries) =
    through replicas found Carry (λ g p same. absurd cc) (λ same. absurd cc) carries

-- a message whose packet waits for its visit
pub record Waits (held : HeldMessage) : Type 0 where
  pub unvisited : held.visited ≡ false
  pub packet : List ℕ
  pub with_packet : held.message.packet ≡ Some packet

waiting_as : (visited : Bool) (packet : Option (List ℕ)) → not visited && is_some packet ≡ true
    → (visited ≡ false) × ((bytes : List ℕ) × (packet ≡ Some bytes))
waiting_as true packet is = absurd cc
waiting_as false None is = absurd cc
waiting_as false (Some bytes) is = (refl, (bytes, refl))

pub waits : (held : HeldMessage) → is_waiting held ≡ true → Waits held
waits held is =
    let parts = waiting_as held.visited held.message.packet is in
    record { unvisited = parts.0; packet = parts.1.0; with_packet = parts.1.1 }

pub is_waiting_so : (held : HeldMessage) (packet : List ℕ) → held.visited ≡ false → held.message.packet ≡ Some packet
    → is_waiting held ≡ true
is_waiting_so held packet unvisited with_packet =
    ap (λ (b : Bool). not b && is_some held.message.packet) unvisited ∙ ap
    (λ (p : Option (List ℕ)). is_some p) with_packet

-- What a slot that begins a visit runs is ready.
use Rattle.std.proofs.Common.{◌≡◌, ◌∙◌, ◌<◌, ℕ, true, List, Option, Some, None, length, slice_set, inl, inr, sym, ap}
use Rattle.std.proofs.Common.{subst, length-set}
use Rattle.std.proofs.lemmas.Bool.{cases_eq, cases_lt}
use Rattle.std.proofs.lemmas.List.{get_or_past}
use Rattle.ftc_base.specs.declared.limits.TheConstants.{MOST_SLOTS}
use Rattle.ftc_server.proofs.Slotting.{slot_ready as one_ready}
use Rattle.ftc_server.proofs.Working.{held_with, last_of}
use Rattle.ftc_server.specs.declared.server.Server.{Server}
use Rattle.ftc_server.specs.declared.work.Work.TheVariants.{Visit}
use Rattle.ftc_server.specs.Holding.{found}
use Rattle.ftc_server.specs.Looks.{work_in}
use Rattle.ftc_server.specs.Slots.{is_ready_one}
use Rattle.ftc_server.specs.State.{ServerState}
use Rattle.ftc_server.specs.Steps.{HasBegun}
use Rattle.ftc_txn.specs.Head.{HeadState, next_age}
use Rattle.ftc_txn.specs.Slots.{Running, slot_at, begun}
use Rattle.ftc_txn.proofs.Kept.{slot_set}
use Rattle.ftc_network.specs.Stand.{AreReady}
use Rattle.ftc_network.proofs.IdleSlots.{set_other}
use Rattle.ftc_network.proofs.ReadySlots.{all_ready}

-- a held message that is to be visited is ready
to_visit_ready : (server : Server) (packet : ℕ) → work_in server packet ≡ Some Visit →
    is_ready_one server.others.items (found packet server.held.items) ≡ true
to_visit_ready server packet work =
    let there = held_with server.others.items (found packet server.held.items) Visit work in
    ap (is_ready_one server.others.items) there.there
    ∙ (last_of server.others.items there.held Visit (λ group origin same. absurd cc) there.works).0

-- what a slot that was set runs is what it was set to
pub set_to : (slots : List (Option Running)) (worker : ℕ) (start running : Running) →
    slot_at (slice_set slots worker (Some start)) worker ≡ Some running → start ≡ running
set_to slots worker start running runs = elim (cases_lt worker (length slots)) [
  | inl within ↦
      let is : Some start ≡ Some running = sym (slot_set slots worker (Some start) within) ∙ runs in cc
  | inr past ↦
      let none : None ≡ Some running =
      sym (get_or_past (slice_set slots worker (Some start)) worker None (rw length-set past)) ∙ runs in absurd cc
]

pub begun_ready : (old new : Server) (worker packet : ℕ) → worker < MOST_SLOTS → work_in old packet ≡ Some Visit →
    HasBegun old new worker packet → AreReady old → AreReady new
begun_ready old new worker packet small work begins is =
    let start = begun packet (next_age old.head) in
    let slots : new.head.slots ≡ slice_set old.head.slots worker (Some start) =
    ap (λ (head : HeadState). head.slots) begins.head in
    let replicas = ap (λ (s : ServerState). s.others) begins.rest in
    let items = ap (λ (s : ServerState). s.held.items) begins.rest in
    let each = λ (other : ℕ) (running : Running) (runs : slot_at new.head.slots other ≡ Some running).
    elim (cases_eq other worker) as (λ _. is_ready_one old.others.items (found running.packet old.held.items) ≡ true) [
      | inl same ↦
          let this = set_to old.head.slots worker start running
          (ap (slot_at (slice_set old.head.slots worker (Some start))) (sym same)
          ∙ (ap (λ (s : List (Option Running)). slot_at s other) (sym slots) ∙ runs)) in
          subst (λ (r : Running). is_ready_one old.others.items (found r.packet old.held.items) ≡ true) this
          (to_visit_ready old packet work)
      | inr differs ↦ one_ready old.others.items old.held.items old.head.slots other running is.all
          (sym (set_other old.head.slots worker (Some start) other differs)
          ∙ (ap (λ (s : List (Option Running)). slot_at s other) (sym slots) ∙ runs))
    ] in
    record {
      all = all_ready new.others.items new.held.items new.head.slots (λ other running runs.
          ap (λ r. is_ready_one r (found running.packet new.held.items)) replicas
          ∙ (ap (λ i. is_ready_one old.others.items (found running.packet i)) items ∙ each other running runs));
      within = λ other running runs. elim (cases_eq other worker) [
        | inl same ↦ subst (λ (n : ℕ). n < MOST_SLOTS) (sym same) small
        | inr differs ↦ is.within other running (sym (set_other old.head.slots worker (Some start) other differs)
            ∙ (ap (λ (s : List (Option Running)). slot_at s other) (sym slots) ∙ runs))
      ];
    }

-- What slots run, and that it is ready.
use Rattle.std.proofs.Common.{◌≡◌, ◌≢◌, ◌∙◌, ℕ, suc, Bool, true, false, List, [], ◌∷◌, Option, Some, None}
use Rattle.std.proofs.Common.{refl, sym, ap, subst}
use Rattle.std.specs.List.{list_all}
use Rattle.std.proofs.lemmas.Option.{same_Some}
use Rattle.ftc_journal.specs.declared.event.Event.{Event}
use Rattle.ftc_journal.specs.declared.event.Event.TheVariants.{Visit}
use Rattle.ftc_protocol.specs.Next.{next, outcome_at, visited_at, visited_message}
use Rattle.ftc_protocol.specs.Setting.{Setting}
use Rattle.ftc_protocol.specs.State.{ChainState, Message, Held}
use Rattle.ftc_refinement.proofs.Works.{same_flags}
use Rattle.ftc_replica.specs.Held.{Held as Replicated}
use Rattle.ftc_serial.proofs.Functions.{with_at_cases}
use Rattle.ftc_serial.specs.Take.{Outcome}
use Rattle.ftc_server.proofs.Finding.{and_both}
use Rattle.ftc_server.proofs.Slotting.{slot_ready as one_ready}
use Rattle.ftc_server.specs.declared.held.HeldMessage.{HeldMessage}
use Rattle.ftc_server.specs.declared.server.Server.{Server}
use Rattle.ftc_server.specs.Holding.{found}
use Rattle.ftc_server.specs.Slots.{is_ready_one, slot_is_ready, slots_are_ready}
use Rattle.ftc_server.specs.State.{ServerState, fields_of}
use Rattle.ftc_txn.specs.Head.{HeadState}
use Rattle.ftc_txn.specs.Slots.{Running, slot_at}
use Rattle.ftc_refinement.specs.Contents.{IsServerAt}
use Rattle.ftc_server.specs.Steps.{HasRoomed, HasBufferRoom}
use Rattle.ftc_network.specs.Events.{SlotStandsStill}
use Rattle.ftc_network.specs.Stand.{AreIdle, AreReady, RunNothingElse, IsUp, IsSlot}
use Rattle.ftc_network.proofs.IdleSlots.{none_all}

-- ---- slots that run what they ran

pub same_runs : (old new : Server) → new.head ≡ old.head → RunNothingElse old new
same_runs old new same worker running runs =
    (running, ap (λ (h : HeadState). slot_at h.slots worker) (sym same) ∙ runs, refl)

abbrev pub ready_by : ServerState → Bool
ready_by state = slots_are_ready state.others state.head state.held.items

-- what is so where slots, messages and replicas are as they were
pub still_ready : (old new : Server) → ready_by (fields_of new) ≡ ready_by (fields_of old) → RunNothingElse old new →
    AreReady old → AreReady new
still_ready old new same only is = record {
  all = same ∙ is.all;
  within = λ worker running runs. let was = only worker running runs in is.within worker was.0 was.1;
}

-- the same where it is known that what runs is ready
pub still_there : (old new : Server) → RunNothingElse old new → AreReady old → ready_by (fields_of new) ≡ true →
    AreReady new
still_there old new only is all = record {
  all = all;
  within = λ worker running runs. let was = only worker running runs in is.within worker was.0 was.1;
}

-- a server whose slots are idle
pub idle_ready : (server : Server) → AreIdle server → AreReady server
idle_ready server idle = record {
  all = none_all (slot_is_ready server.others.items server.held.items) refl server.head.slots idle;
  within = λ worker running runs. let none : None ≡ Some running = sym (idle worker) ∙ runs in absurd cc;
}

-- the server of a slot that is up stands for a later state where it stays up, stands there and is ready as it was
pub slot_follows : {slot : Option Server} {old new : Server} {setting : Setting} {before after : ChainState}
    {number : ℕ} → slot ≡ Some old → after.up number ≡ before.up number →
    (IsServerAt setting before number old → IsServerAt setting after number new) →
    (IsServerAt setting before number old → IsServerAt setting after number new → AreReady old → AreReady new) →
    IsSlot setting before number slot → IsUp setting after number new
slot_follows {old = old} {setting = setting} {before = before} {number = number} same same_up stands stays is =
    let up : IsUp setting before number old = subst (IsSlot setting before number) same is in
    let at = stands up.at in
    record { up = same_up ∙ up.up; at = at; ready = stays up.at at up.ready }

-- a server that is as it was, but for what doesn't show in a state
pub slot_still : (slot : Option Server) (old new : Server) → slot ≡ Some old →
    ((setting : Setting) (state : ChainState) (number : ℕ) → IsServerAt setting state number old →
    IsServerAt setting state number new) →
    ready_by (fields_of new) ≡ ready_by (fields_of old) → RunNothingElse old new →
    (number : ℕ) → SlotStandsStill number slot (Some new)
slot_still slot old new same stands ready only number setting state =
    slot_follows same refl (stands setting state number) (λ at after. still_ready old new ready only)

-- the same where all fields are as they were
pub same_still : (slot : Option Server) (old new : Server) → slot ≡ Some old → fields_of new ≡ fields_of old →
    ((setting : Setting) (state : ChainState) (number : ℕ) → IsServerAt setting state number old →
    fields_of new ≡ fields_of old → IsServerAt setting state number new) →
    (number : ℕ) → SlotStandsStill number slot (Some new)
same_still slot old new same fields stands = slot_still slot old new same
    (λ setting state number at. stands setting state number at fields) (ap ready_by fields)
    (same_runs old new (ap (λ (s : ServerState). s.head) fields))

-- a server that made room for messages
pub roomed_still : (slot : Option Server) (old new : Server) → slot ≡ Some old → HasRoomed old new →
    ((setting : Setting) (state : ChainState) (number : ℕ) → IsServerAt setting state number old → HasRoomed old new →
    IsServerAt setting state number new) →
    (number : ℕ) → SlotStandsStill number slot (Some new)
roomed_still slot old new same roomed stands = slot_still slot old new same
    (λ setting state number at. stands setting state number at roomed)
    (ap ready_by roomed.rest ∙ ap (slots_are_ready old.others.items old.head) roomed.held)
    (same_runs old new (ap (λ (s : ServerState). s.head) roomed.rest))

-- a server that made room in its buffer
pub buffered_still : (slot : Option Server) (old new : Server) → slot ≡ Some old → HasBufferRoom old new →
    ((setting : Setting) (state : ChainState) (number : ℕ) → IsServerAt setting state number old →
    HasBufferRoom old new → IsServerAt setting state number new) →
    (number : ℕ) → SlotStandsStill number slot (Some new)
buffered_still slot old new same roomed stands = slot_still slot old new same
    (λ setting state number at. stands setting state number at roomed) (ap ready_by roomed.rest)
    (same_runs old new (ap (λ (s : ServerState). s.head) roomed.rest))

-- ---- each is ready

ready_first : (replicas : List (Option Replicated)) (items : List HeldMessage) (slot : Option Running) →
    ((running : Running) → slot ≡ Some running → is_ready_one replicas (found running.packet items) ≡ true) →
    slot_is_ready replicas items slot ≡ true
ready_first replicas items None each = refl
ready_first replicas items (Some running) each = each running refl

pub all_ready : (replicas : List (Option Replicated)) (items : List HeldMessage) (slots : List (Option Running)) →
    ((worker : ℕ) (running : Running) → slot_at slots worker ≡ Some running →
    is_ready_one replicas (found running.packet items) ≡ true) → list_all (slot_is_ready replicas items) slots ≡ true
all_ready replicas items [] each = refl
all_ready replicas items (slot ∷ slots) each =
    and_both (slot_is_ready replicas items slot) (list_all (slot_is_ready replicas items) slots)
    (ready_first replicas items slot (λ running same. each 0 running same))
    (all_ready replicas items slots (λ worker running runs. each (suc worker) running runs))

-- what slots run is ready where each ran it before
pub run_ready : (old new : Server) → RunNothingElse old new → new.others.items ≡ old.others.items →
    new.held.items ≡ old.held.items → AreReady old → AreReady new
run_ready old new only replicas items is = still_there old new only is
    (all_ready new.others.items new.held.items new.head.slots (λ worker running runs.
    let was = only worker running runs in
    ap (λ (r : List (Option Replicated)). is_ready_one r (found running.packet new.held.items)) replicas
    ∙ (ap (λ (i : List HeldMessage). is_ready_one old.others.items (found running.packet i)) items
    ∙ (ap (λ (packet : ℕ). is_ready_one old.others.items (found packet old.held.items)) was.2
    ∙ one_ready old.others.items old.held.items old.head.slots worker was.0 is.all was.1))))

-- ---- a message that is to be visited wasn't

visited_from : (setting : Setting) (server packet : ℕ) (outcome : Outcome) (before : Option Message)
    (message after : Message) → before ≡ Some message →
    visited_message setting server packet outcome before ≡ Some after → after.place ≡ visited_at message.place
visited_from setting server packet outcome None message after there is = absurd cc
visited_from setting server packet outcome (Some other) message after there is =
    ap (λ (m : Message). m.place) (sym (same_Some _ after is))
    ∙ ap (λ (m : Message). visited_at m.place) (same_Some other message there)

module _ (setting : Setting) (state : ChainState) (server packet : ℕ) (visited by_ring now_by_ring : Bool)
    (message after : Message) (there : state.message packet ≡ Some message)
    (place : message.place ≡ Held server visited by_ring) (now : after.place ≡ Held server false now_by_ring) where
  visit_apart : (visitor worker : ℕ) →
      (next setting state (Visit visitor packet worker)).message packet ≡ Some after → ⊥
  visit_apart visitor worker is =
      with_at_cases (λ (m : Option Message). m ≡ Some after → ⊥) state.message packet
      (visited_message setting visitor packet (outcome_at setting state visitor packet) (state.message packet)) packet
      (λ own visits.
      let at : after.place ≡ Held server true by_ring =
      visited_from setting visitor packet (outcome_at setting state visitor packet) (state.message packet) message after
      there visits ∙ ap visited_at place in
      let flags = (same_flags server true by_ring false now_by_ring (sym at ∙ now)).0 in
      absurd cc) (λ other still. absurd (other refl)) is

  pub not_visited : (event : Event) → (next setting state event).message packet ≡ Some after →
      (visitor worker : ℕ) → event ≢ Visit visitor packet worker
  not_visited event is visitor worker same = visit_apart visitor worker
      (subst (λ (e : Event). (next setting state e).message packet ≡ Some after) same is)

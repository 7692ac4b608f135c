-- What tells the same of each part stands for the same states.
use Rattle.std.proofs.Common.{◌≡◌, ◌≢◌, ℕ, ◌<◌, ◌+◌, List, [], length, Option, Some, refl, sym, ◌∙◌, ap, subst}
use Rattle.std.proofs.Common.{slice_set, slice_index_or, drop, get_or-set_same, get_or-set_other}
use Rattle.std.specs.Option.{option_map_or}
use Rattle.std.specs.Prelude.{slice_get}
use Rattle.std.specs.FinMap.{empty}
use Rattle.std.proofs.lemmas.Bool.{cases_eq}
use Rattle.std.proofs.lemmas.Option.{slice_get-get_or}
use Rattle.std.proofs.Common.{inl, inr}
use Rattle.ftc_base.specs.Sets.{has}
use Rattle.ftc_journal.specs.declared.event.VisitName.{VisitName}
use Rattle.ftc_ring.specs.Live.{is_live}
use Rattle.ftc_serial.specs.Contents.{content_at}
use Rattle.ftc_serial.specs.Trace.{names}
use Rattle.ftc_serial.specs.Words.{with_at}
use Rattle.ftc_serial.proofs.Functions.{with_at_cases}
use Rattle.ftc_serial.proofs.Places.{get_set}
use Rattle.ftc_store.specs.Store.{Content, Stored}
use Rattle.ftc_protocol.specs.declared.fate.Fate.{Fate}
use Rattle.ftc_protocol.specs.declared.fate.Fate.TheVariants.{Inside}
use Rattle.ftc_machine.specs.declared.state.footprint.Footprint.{Footprint}
use Rattle.ftc_machine.specs.declared.state.MachineState.{MachineState}
use Rattle.ftc_machine.specs.declared.state.message.Message.{Message as MessageOfMachine}
use Rattle.ftc_machine.specs.declared.state.message.Withheld.{Withheld as WithheldOfMachine}
use Rattle.ftc_machine.specs.Represents.{Represents, RepresentsSets, IsMessageSlot, IsWithheldSlot, RepresentsSame}
use Rattle.ftc_machine.specs.Represents.{footprints_in, frontiers_of}
use Rattle.ftc_machine.specs.Frontier.{Footprints, AreRising, AreFootprints, AreFrontiers, numbers_of}
use Rattle.ftc_protocol.specs.Setting.{Setting}
use Rattle.ftc_machine.specs.Slots.{slot_at}
use Rattle.ftc_protocol.specs.State.{ChainState}

-- the parts that are no tables of footprints, stores, messages, withheld packets or fates
pub record AreEqual (old new : MachineState) : Type 0 where
  pub ring : new.ring ≡ old.ring
  pub partitions : new.partitions ≡ old.partitions
  pub down : new.down ≡ old.down
  pub lists : new.lists.items ≡ old.lists.items
  pub known : new.known.items ≡ old.known.items
  pub order : new.order ≡ old.order
  pub forwarder : new.forwarder ≡ old.forwarder
  pub gaps : new.gaps ≡ old.gaps
  pub done : new.done ≡ old.done
  pub entered : new.entered ≡ old.entered
  pub propagates : new.propagates ≡ old.propagates

pub record AreAlike (old new : MachineState) : Type 0 where
  pub others : AreEqual old new
  pub stores : (server : ℕ) → content_at new.stores.items server ≡ content_at old.stores.items server
  pub visits : (server packet : ℕ) →
      footprints_in new.visits.items server packet ≡ footprints_in old.visits.items server packet
  pub messages : (origin : ℕ) → slot_at new.messages origin ≡ slot_at old.messages origin
  pub buffer : (packet : ℕ) → slot_at new.buffer packet ≡ slot_at old.buffer packet
  pub fates : (packet : ℕ) → slot_at new.fates packet ≡ slot_at old.fates packet

module _ (old new : MachineState) (alike : AreAlike old new) (c : Setting) (s : ChainState)
    (is : Represents c s old) where
  footprints : Footprints
  footprints = footprints_in old.visits.items

  same : footprints ≡ footprints_in new.visits.items
  unfolding footprints
  same = λ i server packet. sym (alike.visits server packet) i

  sets_alike : RepresentsSets c s new
  unfolding footprints
  sets_alike = record {
    rising = subst (λ (f : Footprints). AreRising (numbers_of f) (s.events + 1) s.trace) same is.sets.rising;
    footprints = subst (λ (f : Footprints). AreFootprints c.partitions f s.trace) same is.sets.footprints;
    order = alike.others.order ∙ is.sets.order;
    lists = λ server below. subst (λ (f : Footprints). AreFrontiers c.partitions s.trace (numbers_of f) (s.lists server)
        (frontiers_of new.lists.items server)) same
        (subst (λ (rows : List (List (List ℕ))). AreFrontiers c.partitions s.trace
        (numbers_of (footprints_in old.visits.items)) (s.lists server) (frontiers_of rows server))
        (sym alike.others.lists) (is.sets.lists server below));
    known = λ server below. subst (λ (f : Footprints). AreFrontiers c.partitions s.trace (numbers_of f) (s.known server)
        (frontiers_of new.known.items server)) same
        (subst (λ (rows : List (List (List ℕ))). AreFrontiers c.partitions s.trace
        (numbers_of (footprints_in old.visits.items)) (s.known server) (frontiers_of rows server))
        (sym alike.others.known) (is.sets.known server below));
    messages = λ origin. subst (λ (f : Footprints). IsMessageSlot c.partitions s.trace (numbers_of f) (s.message origin)
        (slot_at new.messages origin)) same
        (subst (λ (slot : Option MessageOfMachine). IsMessageSlot c.partitions s.trace
        (numbers_of (footprints_in old.visits.items)) (s.message origin) slot) (sym (alike.messages origin))
        (is.sets.messages origin));
    stores = λ server below up. alike.stores server ∙ is.sets.stores server below up;
  }

  pub stands_for : Represents c s new
  stands_for = record {
    ring = alike.others.ring ∙ is.ring;
    partitions = alike.others.partitions ∙ is.partitions;
    up = λ server below. is.up server below ∙ ap (λ down. is_live down server) (sym alike.others.down);
    sets = sets_alike;
    forwarder = λ server packet. ap
        (λ (logs : List VisitName). names logs server packet) alike.others.forwarder ∙ is.forwarder server packet;
    buffer = λ packet. subst (λ (slot : Option WithheldOfMachine). IsWithheldSlot packet (s.withheld packet) slot)
        (sym (alike.buffer packet)) (is.buffer packet);
    gaps = λ link below. ap (λ gaps. has gaps link) alike.others.gaps ∙ is.gaps link below;
    lines = is.lines ∙ ap (λ done. drop done c.lines) (sym alike.others.done);
    entered = alike.others.entered ∙ is.entered;
    propagates = alike.others.propagates ∙ is.propagates;
    fates = λ packet. ap (λ (slot : Option Fate). option_map_or (λ (fate : Fate). fate) slot Inside)
        (alike.fates packet) ∙ is.fates packet;
  }

pub stands_still : (old new : MachineState) → AreAlike old new → RepresentsSame old new
stands_still old new alike c s is = stands_for old new alike c s is

-- what follows where the new one stands for a state follows where the old one does
pub stands_first : {R : Type 0} (old new : MachineState) (c : Setting) (s : ChainState) → (Represents c s new → R) →
    AreAlike old new → Represents c s old → R
stands_first old new c s follows alike is = follows (stands_for old new alike c s is)

-- ---- rows that tell the same

-- the footprints, where a row has the same in each place
pub footprints_alike : (visits new : List (List (Option Footprint))) (place : ℕ) (row : List (Option Footprint)) →
    new ≡ slice_set visits place row → place < length visits
    → ((packet : ℕ) → slot_at row packet ≡ footprints_in visits place packet) → (server packet : ℕ) →
    footprints_in new server packet ≡ footprints_in visits server packet
footprints_alike visits new place row is within same server packet =
    ap (λ (rows : List (List (Option Footprint))). footprints_in rows server packet) is ∙ elim (cases_eq server place) [
      | inl own ↦ ap (λ (found : List (Option Footprint)). slot_at found packet)
          (subst (λ (p : ℕ). slice_index_or (slice_set visits place row) p []
          ≡ row) (sym own) (get_or-set_same visits place row [] within))
          ∙ (same packet ∙ ap (λ p. footprints_in visits p packet) (sym own))
      | inr other ↦ ap (λ (found : List (Option Footprint)). slot_at found packet)
          (get_or-set_other visits place server row [] other)
    ]

-- the contents, where a store is put in a place, and where its content is what was there
pub content_placed : (stores : List Stored) (place : ℕ) (stored : Stored) (other : ℕ) → place < length stores →
    content_at (slice_set stores place stored) other ≡ with_at (content_at stores) place stored.content other
content_placed stores place stored other within =
    ap (λ (found : Option Stored). option_map_or (λ (store : Stored). store.content) found empty)
    (get_set stores place stored other within)
    ∙ with_at_cases (λ (found : Option Stored). option_map_or (λ (store : Stored). store.content) found empty
    ≡ with_at (content_at stores) place stored.content other) (slice_get stores) place (Some stored) other
    (λ same. with_at_cases (λ (content : Content). stored.content
    ≡ content) (content_at stores) place stored.content other (λ _. refl) (λ other. absurd (other same)))
    (λ differs. with_at_cases (λ (content : Content). content_at stores other
    ≡ content) (content_at stores) place stored.content other (λ same. absurd (differs same)) (λ _. refl))

pub content_put : (stores : List Stored) (place server : ℕ) (stored : Stored) → place ≡ server → place < length stores
    → (content_at (slice_set stores place stored) server ≡ stored.content)
    × ((other : ℕ) → other ≢ server → content_at (slice_set stores place stored) other ≡ content_at stores other)
content_put stores place server stored at within = (
  content_placed stores place stored server within ∙ with_at_cases (λ (content : Content). content
      ≡ stored.content) (content_at stores) place stored.content server (λ _. refl)
      (λ differs. absurd (differs (sym at))),
  λ other differs. content_placed stores place stored other within
      ∙ with_at_cases (λ (content : Content). content ≡ content_at stores other)
      (content_at stores) place stored.content other (λ same. absurd (differs (same ∙ at))) (λ _. refl),
)

pub contents_alike : (stores new : List Stored) (place : ℕ) (stored : Stored) → new ≡ slice_set stores place stored →
    place < length stores → stored.content ≡ content_at stores place
    → (other : ℕ) → content_at new other ≡ content_at stores other
contents_alike stores new place stored is within same other =
    ap (λ (list : List Stored). content_at list other) is ∙ content_placed stores place stored other within
    ∙ with_at_cases (λ (content : Content). content ≡ content_at stores other)
    (content_at stores) place stored.content other (λ own. same ∙ ap (content_at stores) (sym own)) (λ _. refl)

-- what a place has that was read
pub stored_read : (stores : List Stored) (place : ℕ) (stored : Stored) → place < length stores →
    stored ≡ slice_index_or stores place stored → slice_get stores place ≡ Some stored
stored_read stores place stored within there = slice_get-get_or stores place stored within ∙ ap Some (sym there)

pub content_read : (stores : List Stored) (place : ℕ) (stored : Stored) → place < length stores →
    stored ≡ slice_index_or stores place stored → stored.content ≡ content_at stores place
content_read stores place stored within there =
    ap (λ (found : Option Stored). option_map_or (λ (store : Stored). store.content) found empty)
    (sym (stored_read stores place stored within there))

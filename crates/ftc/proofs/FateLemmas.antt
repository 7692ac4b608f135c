-- What became of packets, by their places at the end of a serial run.
use Rattle.std.proofs.Common.{◌≡◌, ◌∙◌, ◌+◌, ◌<◌, ◌==◌, ◌++◌, ℕ, zero, suc, Bool, true, false, List, [], ◌∷◌, length}
use Rattle.std.proofs.Common.{map, Option, Some, None, refl, sym, ap, subst, arith}
use Rattle.std.proofs.Math.Logic.{∥∥₁_elim}
use Rattle.std.proofs.lemmas.List.FromFn.{map-range_with_len_more}
use Rattle.std.specs.Coded.{Coded-set, coded_list}
use Rattle.std.specs.List.{range_with_len}
use Rattle.std.specs.Prelude.{IsSome, ◌↔◌, slice_get, option_map, option_and_then, if◌then◌else◌}
use Rattle.ftc_journal.specs.declared.event.Event.{Event}
use Rattle.ftc_mbox.specs.declared.rule.Rule.{Rule}
use Rattle.ftc_protocol.specs.declared.fate.Fate.{Fate}
use Rattle.ftc_protocol.specs.declared.fate.Fate.TheVariants as became
use Rattle.ftc_protocol.specs.contracts.fate.Fate as contract
use Rattle.ftc_protocol.specs.Fates.{fates_in}
use Rattle.ftc_protocol.specs.Run.{IsRun, state_after}
use Rattle.ftc_protocol.specs.Setting.{Setting, IsSetting, count}
use Rattle.ftc_protocol.specs.State.{opening}
use Rattle.ftc_serial.specs.Serial.{State, Entry, Visited, Given, entry_of, after, position_after, serial_run}
use Rattle.ftc_serial.specs.Serial.{serial_opening}
use Rattle.ftc_serial.specs.Place.{place_of}
use Rattle.ftc_serial.specs.Trace.{trace_of}
use Rattle.ftc_serial.specs.Words.{with_at}
use Rattle.ftc_serial.specs.declared.position.Place.{Place}
use Rattle.ftc_serial.specs.declared.position.Position.{Position}
use Rattle.ftc_serial.specs.declared.position.Position.TheVariants as position
use Rattle.ftc_serial.specs.declared.step.Step.{Step}
use Rattle.ftc.specs.Driven.{IsFinishedRun}
use Rattle.ftc.specs.Settled.{fate_at, AreFatesOf}

-- ---- each packet is somewhere

kept_at : (places : ℕ → Option Position) (place packet : ℕ) (now : Position) → IsSome (places packet) →
    IsSome (with_at places place (Some now) packet)
kept_at places place packet now some =
    elim (packet == place) as (λ (same : Bool). IsSome (if same then Some now else places packet)) [
      | true ↦ refl
      | false ↦ some
    ]

-- no step takes a packet away
kept_after : (servers : ℕ) (state : State) (entry : Entry) (packet : ℕ) → IsSome (state.place packet) →
    IsSome ((after servers state entry).place packet)
kept_after servers state (Visited server passed outcome) packet some =
    kept_at state.place passed packet (position_after servers server outcome.packet) some
kept_after servers state (Given passed bytes) packet some = kept_at state.place passed packet position.Released some

run_keeps : (rules : List Rule) (state end : State) (steps : List Step) (packet : ℕ) → IsSome (state.place packet) →
    serial_run rules state steps ≡ Some end → IsSome (end.place packet)
run_keeps rules state end [] packet some run =
    let same : state ≡ end = cc in subst (λ (of : State). IsSome (of.place packet)) same some
run_keeps rules state end (step ∷ steps) packet some run =
    elim (entry_of rules state step) as (λ (entry : Option Entry).
    option_and_then (λ next. serial_run rules next steps) (option_map (after (length rules) state) entry) ≡ Some end →
    IsSome (end.place packet)) [
      | None ↦ λ none. absurd cc
      | Some entry ↦ λ on. run_keeps rules (after (length rules) state entry) end steps packet
          (kept_after (length rules) state entry packet some) on
    ] run

has_item : {A : Type 0} (items : List A) (place : ℕ) → place < length items → IsSome (slice_get items place)
has_item [] place below = absurd (omega (arith, below))
has_item (one ∷ more) zero below = refl
has_item (one ∷ more) (suc place) below = has_item more place (omega (arith, below))

some_waits : (bytes : Option (List ℕ)) → IsSome bytes → IsSome (option_map (position.Waiting 0) bytes)
some_waits None some = some
some_waits (Some bytes) some = refl

-- so at the end of a finished run each packet of the capture is somewhere
pub places_there : (setting : Setting) (journal : List Event) (end : State) → IsFinishedRun setting journal end →
    (packet : ℕ) → packet < count setting → IsSome (end.place packet)
places_there setting journal end finished packet below =
    run_keeps setting.rules (serial_opening setting.packets) end (trace_of journal) packet
    (some_waits (slice_get setting.packets packet) (has_item setting.packets packet below)) finished.whole.serial

-- ---- what a place says

said_by : (place : Option Position) (seen : Place) (said fate : Fate) → Some seen ≡ option_map place_of place →
    fate_at seen ≡ Some said → (place ≡ Some position.Released → fate ≡ became.Released) →
    ((server : ℕ) → place ≡ Some (position.Filtered server) → fate ≡ became.Filtered server) → said ≡ fate
said_by None seen said fate is says released filtered = absurd cc
said_by (Some (position.Waiting server bytes)) seen said fate is says released filtered = absurd cc
said_by (Some (position.Passed bytes)) seen said fate is says released filtered = absurd cc
said_by (Some (position.Filtered server)) seen said fate is says released filtered =
    let fate_is : fate ≡ became.Filtered server = filtered server refl in cc
said_by (Some position.Released) seen said fate is says released filtered =
    let fate_is : fate ≡ became.Released = released refl in cc

-- the fates so far, and one more
pub fate_more : (places : ℕ → Option Position) (fates new : List Fate) (packet : ℕ) (seen : Place) (said : Fate) →
    ((fate : ℕ → Fate) → AreFatesOf places fate → fates ≡ map fate (range_with_len 0 packet)) →
    Some seen ≡ option_map place_of (places packet) → fate_at seen ≡ Some said → new ≡ fates ++ said ∷ [] →
    (fate : ℕ → Fate) → AreFatesOf places fate → new ≡ map fate (range_with_len 0 (packet + 1))
fate_more places fates new packet seen said sofar is says grown fate are =
    grown
    ∙ (ap (λ (front : List Fate). front ++ said ∷ []) (sofar fate are)
    ∙ (ap (λ (one : Fate). map fate (range_with_len 0 packet) ++ one ∷ [])
    (said_by (places packet) seen said (fate packet) is says (are.released packet)
    (λ server. are.filtered server packet))
    ∙ sym (map-range_with_len_more fate 0 packet packet (omega arith))))

-- ---- the law of released packets

abbrev pub FateOf : Setting → List Event → ℕ → Fate
FateOf setting journal = (state_after setting (opening setting) journal).fate

abbrev pub Releases : Type 0
Releases = (setting : Setting) → IsSetting setting → (journal : List Event) → IsRun setting journal →
    (end : State) → serial_run setting.rules (serial_opening setting.packets) (trace_of journal) ≡ Some end →
    (packet : ℕ) → (FateOf setting journal packet ≡ became.Released) ↔ (end.place packet ≡ Some position.Released)

abbrev pub Filters : Type 0
Filters = (setting : Setting) → IsSetting setting → (journal : List Event) → IsRun setting journal →
    (end : State) → serial_run setting.rules (serial_opening setting.packets) (trace_of journal) ≡ Some end →
    (server packet : ℕ) → (FateOf setting journal packet ≡ became.Filtered server)
    ↔ (end.place packet ≡ Some (position.Filtered server))

are_fates : Releases → Filters → (setting : Setting) (journal : List Event) (end : State) →
    IsFinishedRun setting journal end → IsRun setting journal → AreFatesOf end.place (FateOf setting journal)
are_fates releases filters setting journal end finished run = record {
  released = λ packet at. (releases setting finished.right journal run end finished.whole.serial packet).1 at;
  filtered = λ server packet at.
      (filters setting finished.right journal run end finished.whole.serial server packet).1 at;
}

pub fates_are : Releases → Filters → (setting : Setting) (journal : List Event) (end : State) →
    IsFinishedRun setting journal end → (packets : ℕ) → packets ≡ count setting → (fates : List Fate) →
    ((fate : ℕ → Fate) → AreFatesOf end.place fate → fates ≡ map fate (range_with_len 0 packets)) →
    fates ≡ fates_in setting (state_after setting (opening setting) journal)
fates_are releases filters setting journal end finished packets same fates are =
    ∥∥₁_elim finished.whole.run (Coded-set (coded_list contract.the_row.coded) _ _) (λ run.
    are (FateOf setting journal) (are_fates releases filters setting journal end finished run)
    ∙ ap (λ (number : ℕ). map (FateOf setting journal) (range_with_len 0 number)) same)

-- Where packets are on the serial chain, and what a legal entry of the trace is, in the form that the proofs use.
use Rattle.std.proofs.Common.{◌≡◌, ℕ, ◌+◌, ◌<◌, if◌then◌else◌, Bool, List, [], ◌∷◌, Option, Some, None, refl, sym, ap}
use Rattle.std.proofs.Common.{◌∙◌, subst}
use Rattle.std.specs.Prelude.{option_map}
use Rattle.std.proofs.lemmas.Option.{slice_get-get_or, get_or_from_slice_get, slice_get_within}
use Rattle.ftc_mbox.specs.declared.rule.Rule.{Rule}
use Rattle.ftc_mbox.specs.declared.rule.Rule.TheVariants.{Pass}
use Rattle.ftc_serial.specs.declared.position.Position.{Position}
use Rattle.ftc_serial.specs.declared.position.Position.TheVariants as position
use Rattle.ftc_serial.specs.Take.{taken}
use Rattle.ftc_serial.specs.Serial.{State, Entry, Visited, Given, after, position_after, serial_opening}
use Rattle.ftc_serial.specs.Entries.{IsRightEntry, Touches}
use Rattle.ftc_serial.specs.History.{IsHistory, serial_state_after}
use Rattle.ftc_serial.proofs.Legal.{legal_visit, visit_legal, legal_release, release_legal}
use Rattle.ftc_store.specs.Store.{Content}
use Rattle.ftc_protocol.specs.Setting.{Setting, servers, rule_at}
use Rattle.ftc_protocol.specs.Changes.{Changes}

abbrev pub Place : Type 0
Place = Option Position

abbrev pub Waits : ℕ → List ℕ → Place
Waits server bytes = Some (position.Waiting server bytes)

abbrev pub Passed : List ℕ → Place
Passed bytes = Some (position.Passed bytes)

abbrev pub Filtered : ℕ → Place
Filtered server = Some (position.Filtered server)

abbrev pub Released : Place
Released = Some position.Released

abbrev pub place_after : ℕ → ℕ → Option (List ℕ) → Place
place_after n server packet = Some (position_after n server packet)

-- where a packet is behind a middlebox, by the test that this is the last
abbrev pub placed : Bool → ℕ → List ℕ → Place
placed last server bytes = Some (if last then position.Passed bytes else position.Waiting (server + 1) bytes)

-- the state of the serial chain after a trace
abbrev pub serial_of : Setting → List Entry → State
serial_of c [] = serial_opening c.packets
serial_of c (entry ∷ older) = after (servers c) (serial_of c older) entry

-- the entry is what its step does, where it is legal
abbrev pub IsEntry : Setting → State → Entry → Type 0
IsEntry c s (Visited server packet outcome) =
    (bytes : List ℕ) × (s.place packet ≡ Waits server bytes)
    × (outcome ≡ taken (rule_at c server) bytes (s.maps server)) × (server < servers c)
IsEntry c s (Given packet bytes) = s.place packet ≡ Passed bytes

abbrev pub IsSerial : Setting → List Entry → Type 0
IsSerial c [] = Unit {0}
IsSerial c (entry ∷ older) = IsEntry c (serial_of c older) entry × IsSerial c older

-- what a visit does reads and writes by the two laws
pub record IsSoundTaking (c : Setting) : Type 0 where
  pub touched : (rule : Rule) (bytes : List ℕ) (content : Content) (i : ℕ) →
      Changes c.partitions (taken rule bytes content) i → Touches c.partitions (taken rule bytes content) i

-- the same as a history of the serial chain
pub state_same : (c : Setting) (trace : List Entry) →
    serial_state_after c.rules (serial_opening c.packets) trace ≡ serial_of c trace
state_same c [] = refl
state_same c (entry ∷ older) = ap (λ (s : State). after (servers c) s entry) (state_same c older)

pub legal_entry : (c : Setting) (s : State) (entry : Entry) → IsEntry c s entry → IsRightEntry c.rules s entry
legal_entry c s (Visited server packet outcome) is =
    legal_visit c.rules s server packet outcome (record {
      bytes = is.0;
      rule = rule_at c server;
      waits = is.1;
      known = slice_get-get_or c.rules server Pass is.3;
      is = is.2;
    })
legal_entry c s (Given packet bytes) is = legal_release c.rules s packet bytes is

pub entry_legal : (c : Setting) (s : State) (entry : Entry) → IsRightEntry c.rules s entry → IsEntry c s entry
entry_legal c s (Visited server packet outcome) legal =
    let v = visit_legal c.rules s server packet outcome legal in
    let same : rule_at c server ≡ v.rule = get_or_from_slice_get c.rules server v.rule Pass v.known in (
      v.bytes,
      v.waits,
      v.is ∙ ap (λ (rule : Rule). taken rule v.bytes (s.maps server)) (sym same),
      slice_get_within c.rules server v.rule v.known,
    )
entry_legal c s (Given packet bytes) legal = release_legal c.rules s packet bytes legal

pub history_of : (c : Setting) (trace : List Entry) → IsSerial c trace →
    IsHistory c.rules (serial_opening c.packets) trace
history_of c [] is = tt
history_of c (entry ∷ older) is = (
  subst (λ (s : State). IsRightEntry c.rules s entry) (sym (state_same c older))
      (legal_entry c (serial_of c older) entry is.0),
  history_of c older is.1,
)

pub serial_by : (c : Setting) (trace : List Entry) → IsHistory c.rules (serial_opening c.packets) trace →
    IsSerial c trace
serial_by c [] is = tt
serial_by c (entry ∷ older) is = (
  entry_legal c (serial_of c older) entry
      (subst (λ (s : State). IsRightEntry c.rules s entry) (state_same c older) is.0),
  serial_by c older is.1,
)

-- where packets are at the start
pub opening_waits : (packet : Option (List ℕ)) (server : ℕ) (bytes : List ℕ) →
    option_map (position.Waiting 0) packet ≡ Waits server bytes → 0 ≡ server
opening_waits None server bytes is = absurd (cc)
opening_waits (Some own) server bytes is = cc

pub opening_passed : (packet : Option (List ℕ)) (bytes : List ℕ) →
    option_map (position.Waiting 0) packet ≡ Passed bytes → ⊥
opening_passed None bytes is = cc
opening_passed (Some own) bytes is = cc

-- What the program changes is what a step of the serial chain changes.
use Rattle.std.proofs.Common.{◌≡◌, ℕ, ◌<◌, Bool, true, false, List, [], ◌∷◌, ◌++◌, length, Option, Some, None, refl}
use Rattle.std.proofs.Common.{sym, ap, ◌∙◌}
use Rattle.std.specs.Prelude.{◌==◌, slice_get, slice_set, option_map, map}
use Rattle.std.specs.FinMap.{empty}
use Rattle.std.proofs.lemmas.Bool.{eqb-true}
use Rattle.std.proofs.Common.{eq-eqb, cond, ◌≤◌, get_or}
use Rattle.std.specs.Option.{option_map_or}
use Rattle.std.proofs.lemmas.Option.{slice_get_within, slice_get_past, slice_get-map, get_or_from_slice_get}
use Rattle.ftc_base.specs.declared.released.Released.{Released}
use Rattle.ftc_pcap.specs.declared.packets.Packet.{Packet}
use Rattle.ftc_serial.specs.Packets.{bytes_of_packets}
use Rattle.ftc_mbox.specs.declared.rule.Rule.{Rule}
use Rattle.ftc_store.specs.Store.{Content, Stored, written}
use Rattle.ftc_serial.specs.declared.position.Position.{Position}
use Rattle.ftc_serial.specs.declared.position.Position.TheVariants as position
use Rattle.ftc_serial.specs.declared.step.Step.TheVariants.{Visit, Release}
use Rattle.ftc_serial.specs.Words.{with_at}
use Rattle.ftc_serial.specs.Take.{taken}
use Rattle.ftc_serial.specs.Serial.{State, Visited, after, position_after, serial_step, visit_at, release_at}
use Rattle.ftc_serial.specs.Contents.{content_at}
use Rattle.ftc_serial.specs.Waiting.{is_waiting, is_passed}
use Rattle.ftc_serial.proofs.Places.{get_set, get_set_same, get_set_twice, content_set_twice}

-- states that agree at each place are one
pub same_state : (one other : State) → ((server : ℕ) → one.maps server ≡ other.maps server) →
    ((packet : ℕ) → one.place packet ≡ other.place packet) → one.released ≡ other.released → one ≡ other
same_state one other maps place released =
    λ i. record { maps = λ server. maps server i; place = λ packet. place packet i; released = released i }

-- a packet that waits has bytes
pub waiting_bytes : (place : Option Position) (server : ℕ) → is_waiting place server ≡ true →
    (bytes : List ℕ) × (place ≡ Some (position.Waiting server bytes))
waiting_bytes (Some (position.Waiting waited bytes)) server is =
    let same : waited ≡ server = eqb-true waited server is in
    (bytes, ap (λ (w : ℕ). Some (position.Waiting w bytes)) same)
waiting_bytes (Some (position.Passed bytes)) server is = absurd (cc)
waiting_bytes (Some (position.Filtered dropped)) server is = absurd (cc)
waiting_bytes (Some position.Released) server is = absurd (cc)
waiting_bytes None server is = absurd (cc)

-- what the state says of stores, positions and released packets
abbrev pub state : List Stored → List Position → List Released → State
state stores positions released = record { maps = content_at stores; place = slice_get positions; released = released }

-- a legal visit leads to the state after it
visit_leads : (rules : List Rule) (s : State) (server packet : ℕ) (bytes : List ℕ) (rule : Rule) →
    s.place packet ≡ Some (position.Waiting server bytes) → slice_get rules server ≡ Some rule →
    serial_step rules s (Visit server packet)
    ≡ Some (after (length rules) s (Visited server packet (taken rule bytes (s.maps server))))
visit_leads rules s server packet bytes rule waits has =
    let same : (server == server) ≡ true = eq-eqb server server refl in
    ap (λ (o : Option Position). option_map (after (length rules) s) (visit_at rules s server packet o)) waits ∙ rw
    (same, has) refl

pub visit_made : (rules : List Rule) (stores : List Stored) (positions : List Position) (released : List Released)
    (server packet : ℕ) (old first second : Stored) (gone next : Position) (rule : Rule) (bytes : List ℕ)
    → slice_get positions packet ≡ Some (position.Waiting server bytes) → slice_get rules server ≡ Some rule →
    slice_get stores server ≡ Some old
    → next ≡ position_after (length rules) server (taken rule bytes old.content).packet
    → second.content ≡ written (taken rule bytes old.content).writes old.content
    → serial_step rules (state stores positions released) (Visit server packet)
    ≡ Some (state (slice_set (slice_set stores server first) server second)
    (slice_set (slice_set positions packet gone) packet next) released)
visit_made rules stores positions released server packet old first second gone next rule bytes waits has held next-is
    second-is =
    let content : content_at stores server ≡ old.content =
    ap (λ (o : Option Stored). option_map_or (λ s. s.content) o empty) held in
    visit_leads rules (state stores positions released) server packet bytes rule waits has
    ∙ ap Some (same_state _ _
    (λ q. ap (λ (c : Content). with_at (content_at stores) server c q)
    (ap (λ (c : Content). written (taken rule bytes c).writes c) content ∙ sym second-is)
    ∙ sym (content_set_twice stores server first second q (slice_get_within stores server old held)))
    (λ q. ap (λ (p : Position). with_at (slice_get positions) packet (Some p) q)
    (ap (λ (c : Content). position_after (length rules) server (taken rule bytes c).packet) content ∙ sym next-is)
    ∙ sym (get_set_twice positions packet gone next q (slice_get_within positions packet _ waits)))
    refl)

-- a packet that doesn't wait for that middlebox can't visit it
not_waiting : (rules : List Rule) (s : State) (server packet : ℕ) (place : Option Position) →
    is_waiting place server ≡ false → option_map (after (length rules) s) (visit_at rules s server packet place) ≡ None
not_waiting rules s server packet (Some (position.Waiting waited bytes)) isnt = rw isnt refl
not_waiting rules s server packet (Some (position.Passed bytes)) isnt = refl
not_waiting rules s server packet (Some (position.Filtered dropped)) isnt = refl
not_waiting rules s server packet (Some position.Released) isnt = refl
not_waiting rules s server packet None isnt = refl

pub visit_refused : (rules : List Rule) (stores : List Stored) (positions : List Position) (released : List Released)
    (server packet : ℕ) → is_waiting (slice_get positions packet) server ≡ false →
    serial_step rules (state stores positions released) (Visit server packet) ≡ None
visit_refused rules stores positions released server packet isnt =
    not_waiting rules (state stores positions released) server packet (slice_get positions packet) isnt

-- no middlebox of that number is there
no_middlebox : (rules : List Rule) (s : State) (server packet : ℕ) (place : Option Position) →
    slice_get rules server ≡ None → option_map (after (length rules) s) (visit_at rules s server packet place) ≡ None
no_middlebox rules s server packet (Some (position.Waiting waited bytes)) none =
    elim (waited == server) as
    (λ t. option_map (after (length rules) s)
    (cond t (option_map (λ rule. Visited server packet (taken rule bytes (s.maps server)))
    (slice_get rules server)) None) ≡ None) [ true ↦ rw none refl | false ↦ refl ]
no_middlebox rules s server packet (Some (position.Passed bytes)) none = refl
no_middlebox rules s server packet (Some (position.Filtered dropped)) none = refl
no_middlebox rules s server packet (Some position.Released) none = refl
no_middlebox rules s server packet None none = refl

pub visit_beyond : (rules : List Rule) (stores : List Stored) (positions : List Position) (released : List Released)
    (server packet : ℕ) → length rules ≤ server →
    serial_step rules (state stores positions released) (Visit server packet) ≡ None
visit_beyond rules stores positions released server packet beyond =
    no_middlebox rules (state stores positions released) server packet (slice_get positions packet)
    (slice_get_past rules server beyond)

-- a packet that has passed all middleboxes is released with its bytes
pub release_made : (rules : List Rule) (stores : List Stored) (positions : List Position)
    (released more : List Released) (packet : ℕ) (gone : Position) (bytes : List ℕ) →
    slice_get positions packet ≡ Some (position.Passed bytes) → gone ≡ position.Released →
    more ≡ released ++ record { packet = packet; bytes = bytes } ∷ []
    → serial_step rules (state stores positions released) (Release packet)
    ≡ Some (state stores (slice_set positions packet gone) more)
release_made rules stores positions released more packet gone bytes passed gone-is more-is =
    ap (λ (o : Option Position). option_map (after (length rules) (state stores positions released))
    (release_at packet o)) passed
    ∙ ap Some (same_state _ _ (λ q. refl)
    (λ q. ap (λ (p : Position). with_at (slice_get positions) packet (Some p) q) (sym gone-is) ∙ sym
    (get_set positions packet gone q (slice_get_within positions packet _ passed)))
    (sym more-is))

-- a packet that hasn't passed all middleboxes can't be released
not_passed : (rules : List Rule) (s : State) (packet : ℕ) (place : Option Position) → is_passed place ≡ false →
    option_map (after (length rules) s) (release_at packet place) ≡ None
not_passed rules s packet (Some (position.Waiting waited bytes)) isnt = refl
not_passed rules s packet (Some (position.Passed bytes)) isnt = absurd (cc)
not_passed rules s packet (Some (position.Filtered dropped)) isnt = refl
not_passed rules s packet (Some position.Released) isnt = refl
not_passed rules s packet None isnt = refl

pub release_refused : (rules : List Rule) (stores : List Stored) (positions : List Position) (released : List Released)
    (packet : ℕ) → is_passed (slice_get positions packet) ≡ false →
    serial_step rules (state stores positions released) (Release packet) ≡ None
release_refused rules stores positions released packet isnt =
    not_passed rules (state stores positions released) packet (slice_get positions packet) isnt

-- a packet that is put back is where it was
pub put_back : (stores : List Stored) (positions : List Position) (released : List Released) (packet : ℕ)
    (gone back : Position) → slice_get positions packet ≡ Some back →
    state stores (slice_set (slice_set positions packet gone) packet back) released ≡ state stores positions released
put_back stores positions released packet gone back was = same_state _ _ (λ q. refl)
    (λ q. get_set_twice positions packet gone back q (slice_get_within positions packet back was) ∙ kept q
    (q == packet) refl)
    refl
  where
    kept : (q : ℕ) (same : Bool) → (q == packet) ≡ same →
        with_at (slice_get positions) packet (Some back) q ≡ slice_get positions q
    kept q true e = let is : q ≡ packet = eqb-true q packet e in rw e (sym was ∙ ap (slice_get positions) (sym is))
    kept q false e = rw e refl

-- each packet waits with its own bytes
option_twice : (o : Option Packet) →
    option_map (λ packet. position.Waiting 0 packet.bytes) o
    ≡ option_map (position.Waiting 0) (option_map (λ packet. packet.bytes) o)
option_twice None = refl
option_twice (Some packet) = refl

pub opening_place : (packets : List Packet) (positions : List Position) (place : ℕ) →
    positions ≡ map (λ packet. position.Waiting 0 packet.bytes) packets →
    slice_get positions place ≡ option_map (position.Waiting 0) (slice_get (bytes_of_packets packets) place)
opening_place packets positions place is =
    ap (λ (ps : List Position). slice_get ps place) is ∙ slice_get-map
    (λ packet. position.Waiting 0 packet.bytes) packets place ∙ option_twice (slice_get packets place)
    ∙ ap (option_map (position.Waiting 0)) (sym (slice_get-map (λ packet. packet.bytes) packets place))

-- what stands at a place that was just written
pub read_back : {A : Type 0} (xs : List A) (place : ℕ) (value read : A) → place < length xs →
    read ≡ get_or (slice_set xs place value) place read → read ≡ value
read_back xs place value read within is =
    is ∙ get_or_from_slice_get (slice_set xs place value) place value read (get_set_same xs place value within)

-- a packet that has passed all middleboxes has the bytes that were taken out
passed_at : (place : Option Position) → is_passed place ≡ true →
    (bytes : List ℕ) × (place ≡ Some (position.Passed bytes))
passed_at (Some (position.Waiting waited bytes)) is = absurd (cc)
passed_at (Some (position.Passed bytes)) is = (bytes, refl)
passed_at (Some (position.Filtered dropped)) is = absurd (cc)
passed_at (Some position.Released) is = absurd (cc)
passed_at None is = absurd (cc)

pub passed_bytes : (positions : List Position) (packet : ℕ) (read taken_out : Position) (bytes : List ℕ) →
    is_passed (slice_get positions packet) ≡ true → read ≡ get_or positions packet read → taken_out ≡ read →
    taken_out ≡ position.Passed bytes → slice_get positions packet ≡ Some (position.Passed bytes)
passed_bytes positions packet read taken_out bytes passed read-is out-is is =
    let at = passed_at (slice_get positions packet) passed in
    let same : read ≡ position.Passed at.0 =
    read-is ∙ get_or_from_slice_get positions packet (position.Passed at.0) read at.1 in
    at.1 ∙ ap Some (sym same ∙ sym out-is ∙ is)

-- the same where the middlebox's place is known by another name
pub visit_made_at : (rules : List Rule) (stores : List Stored) (positions : List Position) (released : List Released)
    (server packet index : ℕ) (old first second : Stored) (gone next : Position) (rule : Rule) (bytes : List ℕ)
    → index ≡ server → slice_get positions packet ≡ Some (position.Waiting server bytes) →
    slice_get rules index ≡ Some rule → slice_get stores index ≡ Some old
    → next ≡ position_after (length rules) server (taken rule bytes old.content).packet
    → second.content ≡ written (taken rule bytes old.content).writes old.content
    → serial_step rules (state stores positions released) (Visit server packet)
    ≡ Some (state (slice_set (slice_set stores index first) index second)
    (slice_set (slice_set positions packet gone) packet next) released)
visit_made_at rules stores positions released server packet index old first second gone next rule bytes is waits has
    held next-is second-is =
    visit_made rules stores positions released server packet old first second gone next rule bytes waits
    (ap (slice_get rules) (sym is) ∙ has) (ap (slice_get stores) (sym is) ∙ held) next-is second-is
    ∙ ap (λ (place : ℕ). Some
    (state (slice_set (slice_set stores place first) place second)
    (slice_set (slice_set positions packet gone) packet next) released)) (sym is)

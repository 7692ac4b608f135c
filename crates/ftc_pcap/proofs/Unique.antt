-- Bytes are read in one way.
use Rattle.std.proofs.Common.{◌≡◌, ◌≤◌, ◌<◌, ◌+◌, ◌++◌, ◌∙◌, ◌⊎◌, ℕ, Bool, Some, List, [], ◌∷◌, length, take, drop}
use Rattle.std.proofs.Common.{refl, sym, ap, inl, inr, append_assoc, zero-add, arith}
use Rattle.std.specs.Prelude.{None}
use Rattle.std.specs.List.{AllByRecursion}
use Rattle.std.proofs.lemmas.List.{take_at, drop_at, append-nil}
use Rattle.ftc_base.specs.declared.limits.TheConstants.{MOST_RECORDS}
use Rattle.ftc_pcap.specs.Grammar.{record_bytes, records, capture_bytes, magic_order, record_cause, front_cause}
use Rattle.ftc_pcap.specs.Grammar.{IsPacket, IsCapture, HasRecordFault, Spells, IsFault}
use Rattle.ftc_pcap.specs.declared.capture.Capture.{Capture}
use Rattle.ftc_pcap.specs.declared.capture.CaptureCause.{CaptureCause}
use Rattle.ftc_pcap.specs.declared.capture.CaptureFault.{CaptureFault}
use Rattle.ftc_pcap.specs.declared.packets.Packet.{Packet}
use Rattle.ftc_pcap.proofs.Numbers.{SameFront, number_front, length_record}
use Rattle.ftc_pcap.proofs.Faults.{no_front_fault, no_record_fault}

-- equal bytes that begin with a record begin with the same one
record_front : (big : Bool) (p q : Packet) (x y : List ℕ) → IsPacket p → IsPacket q →
    record_bytes big p ++ x ≡ record_bytes big q ++ y → SameFront p q x y
record_front big p q x y right_p right_q same =
    let regrouped = simp append_assoc at same in
    let seconds = number_front big p.seconds q.seconds _ _ right_p.seconds right_q.seconds regrouped in
    let fraction = number_front big p.fraction q.fraction _ _ right_p.fraction right_q.fraction seconds.rest in
    let captured = number_front big (length p.bytes) (length q.bytes) _ _ (omega (arith, right_p.captured))
    (omega (arith, right_q.captured)) fraction.rest in
    let original = number_front big p.original q.original _ _ right_p.original right_q.original captured.rest in
    let bytes : p.bytes ≡ q.bytes =
    sym (take_at p.bytes x (length p.bytes) refl) ∙ ap (take (length p.bytes)) original.rest ∙ take_at q.bytes y
    (length p.bytes) (sym captured.front) in
    record {
      front = λ i. record {
        seconds = seconds.front i;
        fraction = fraction.front i;
        original = original.front i;
        bytes = bytes i;
      };
      rest = sym (drop_at p.bytes x (length p.bytes) refl) ∙ ap
          (drop (length p.bytes)) original.rest ∙ drop_at q.bytes y (length p.bytes) (sym captured.front);
    }

-- no further record is read behind so many: the bytes have ended, or the record at their front is at fault
abbrev pub Ends : Bool → ℕ → List ℕ → Type 0
Ends big count bytes = (bytes ≡ []) ⊎ ((cause : CaptureCause) × (record_cause big count bytes ≡ Some cause))

-- where a whole record stands, more is read
goes_on : (big : Bool) (count : ℕ) (bytes : List ℕ) (p : Packet) (after : List ℕ) → IsPacket p → count < MOST_RECORDS →
    bytes ≡ record_bytes big p ++ after → Ends big count bytes → ⊥
goes_on big count bytes p after right few is (inl none) =
    omega (arith, ap length is, ap length none, length_record big p after)
goes_on big count bytes p after right few is (inr (cause, wrong)) =
    let none : record_cause big count bytes ≡ None = rw is (no_record_fault big count p after right few) in
    let clash : Some cause ≡ None = sym wrong ∙ none in
    cc

-- equal bytes are the same records, and the same bytes that are left
pub record SameReading (ps qs : List Packet) (x y : List ℕ) : Type 0 where
  pub packets : ps ≡ qs
  pub rest : x ≡ y

pub same_reading : (big : Bool) (before : ℕ) (ps qs : List Packet) (x y : List ℕ)
    → AllByRecursion IsPacket ps → AllByRecursion IsPacket qs → before + length ps ≤ MOST_RECORDS →
    before + length qs ≤ MOST_RECORDS
    → Ends big (before + length ps) x → Ends big (before + length qs) y → records big ps ++ x ≡ records big qs ++ y →
    SameReading ps qs x y
same_reading big before [] [] x y right_p right_q few_p few_q end_x end_y same = record { packets = refl; rest = same }
same_reading big before [] (q ∷ qs) x y right_p right_q few_p few_q end_x end_y same =
    absurd (goes_on big (before + 0) x q (records big qs
    ++ y) right_q.0 (omega arith) (same ∙ append_assoc (record_bytes big q) (records big qs) y) end_x)
same_reading big before (p ∷ ps) [] x y right_p right_q few_p few_q end_x end_y same =
    absurd (goes_on big (before + 0) y p (records big ps
    ++ x) right_p.0 (omega arith) (sym same ∙ append_assoc (record_bytes big p) (records big ps) x) end_y)
same_reading big before (p ∷ ps) (q ∷ qs) x y right_p right_q few_p few_q end_x end_y same =
    let first = record_front big p q (records big ps ++ x) (records big qs
    ++ y) right_p.0 right_q.0
    (sym (append_assoc (record_bytes big p) (records big ps) x) ∙ same ∙ append_assoc (record_bytes big q)
    (records big qs) y) in
    let count_p : before + length (p ∷ ps) ≡ (before + 1) + length ps = omega arith in
    let count_q : before + length (q ∷ qs) ≡ (before + 1) + length qs = omega arith in
    let others = same_reading big (before + 1) ps qs x y right_p.1 right_q.1 (omega arith) (omega arith)
    (rw count_p at end_x) (rw count_q at end_y) first.rest in
    record { packets = λ i. first.front i ∷ others.packets i; rest = others.rest }

-- a cause is told by its Some
same_cause : (a b : CaptureCause) → Some a ≡ Some b → a ≡ b
same_cause a b same = cc

-- the same, with the header in front
pub record SameCapture (one other : Capture) (x y : List ℕ) : Type 0 where
  pub capture : one ≡ other
  pub rest : x ≡ y

-- two byte orders in which a header is right are one
same_order : (a b : Bool) → Some a ≡ Some b → a ≡ b
same_order a b same = cc

pub same_capture : (text : List ℕ) (one other : Capture) (x y : List ℕ) → IsCapture one → IsCapture other
    → text ≡ capture_bytes one ++ x → text ≡ capture_bytes other ++ y
    → Ends one.big (length one.packets) x → Ends other.big (length other.packets) y → SameCapture one other x y
same_capture text one other x y right_one right_other parts_one parts_other end_one end_other =
    let behind_one = records one.big one.packets ++ x in
    let behind_other = records other.big other.packets ++ y in
    let joined_one : text ≡ one.header ++ behind_one =
    parts_one ∙ append_assoc one.header (records one.big one.packets) x in
    let joined_other : text ≡ other.header ++ behind_other =
    parts_other ∙ append_assoc other.header (records other.big other.packets) y in
    let header : one.header ≡ other.header =
    sym (take_at one.header behind_one 24 right_one.header.size) ∙ ap (take 24)
    (sym joined_one ∙ joined_other) ∙ take_at other.header behind_other 24 right_other.header.size in
    let behind : behind_one ≡ behind_other =
    sym (drop_at one.header behind_one 24 right_one.header.size) ∙ ap (drop 24)
    (sym joined_one ∙ joined_other) ∙ drop_at other.header behind_other 24 right_other.header.size in
    let order : other.big ≡ one.big =
    same_order other.big one.big
    (sym right_other.header.magic ∙ ap magic_order (sym header) ∙ right_one.header.magic) in
    let reading = same_reading one.big 0 one.packets other.packets x y right_one.packets right_other.packets
    (omega (arith, right_one.few)) (omega (arith, right_other.few)) (rw zero-add end_one)
    (rw (zero-add, ← order) end_other) (rw order at behind) in
    record {
      capture = λ i. record { header = header i; big = (sym order) i; packets = reading.packets i };
      rest = reading.rest;
    }

-- nothing is left of a spelled text
pub spelled_parts : (text : List ℕ) (capture : Capture) → text ≡ capture_bytes capture →
    text ≡ capture_bytes capture ++ []
spelled_parts text capture whole = whole ∙ sym (append-nil (capture_bytes capture))

-- a text is at most one capture
pub one_capture : (text : List ℕ) (one other : Capture) → IsCapture one → IsCapture other → text ≡ capture_bytes one →
    text ≡ capture_bytes other → one ≡ other
one_capture text one other right_one right_other whole_one whole_other =
    (same_capture text one other [] [] right_one right_other (spelled_parts text one whole_one)
    (spelled_parts text other whole_other) (inl refl) (inl refl)).capture

-- a capture has no fault
pub no_fault : (text : List ℕ) (capture : Capture) (fault : CaptureFault) → Spells text capture → IsFault text fault → ⊥
no_fault text capture fault is (inl early) =
    let none = no_front_fault text capture.big capture.header
    (records capture.big capture.packets) is.right.header is.whole is.size in
    let clash : Some fault.cause ≡ None = sym early.0 ∙ none in
    cc
no_fault text capture fault is (inr late) =
    let same = same_capture text capture late.before [] late.rest is.right late.right
    (spelled_parts text capture is.whole) late.parts (inl refl) (inr (fault.cause, late.cause)) in
    omega (arith, late.more, ap length same.rest)

-- the fault of a record is not one of the text's front
not_both : (text : List ℕ) (early late : CaptureFault) → front_cause text ≡ Some early.cause →
    HasRecordFault text late → ⊥
not_both text early late wrong behind =
    let none = no_front_fault text behind.before.big behind.before.header
    (records behind.before.big behind.before.packets
    ++ behind.rest) behind.right.header
    (behind.parts ∙ append_assoc behind.before.header
    (records behind.before.big behind.before.packets) behind.rest) behind.size in
    let clash : Some early.cause ≡ None = sym wrong ∙ none in
    cc

-- the first fault is one
pub one_fault : (text : List ℕ) (one other : CaptureFault) → IsFault text one → IsFault text other → one ≡ other
one_fault text one other (inl early) (inl again) =
    let cause : one.cause ≡ other.cause = same_cause one.cause other.cause (sym early.0 ∙ again.0) in
    let at : one.at ≡ other.at = early.1 ∙ sym again.1 in
    λ i. record { at = at i; cause = cause i }
one_fault text one other (inl early) (inr late) = absurd (not_both text one other early.0 late)
one_fault text one other (inr late) (inl early) = absurd (not_both text other one early.0 late)
one_fault text one other (inr first) (inr second) =
    let same = same_capture text first.before second.before first.rest second.rest first.right second.right first.parts
    second.parts (inr (one.cause, first.cause)) (inr (other.cause, second.cause)) in
    let at : one.at ≡ other.at =
    first.place ∙ ap (λ (before : Capture). length (capture_bytes before)) same.capture ∙ sym second.place in
    let moved = rw (same.capture, same.rest) at first.cause in
    let cause : one.cause ≡ other.cause = same_cause one.cause other.cause (sym moved ∙ second.cause) in
    λ i. record { at = at i; cause = cause i }

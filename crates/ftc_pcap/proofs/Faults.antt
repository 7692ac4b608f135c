-- Which texts have a fault, and where.
use Rattle.std.proofs.Common.{◌≡◌, ◌≤◌, ◌<◌, ◌+◌, ◌-◌, ◌++◌, ◌∙◌, ℕ, Bool, Some, List, length, take, length-append}
use Rattle.std.proofs.Common.{append_assoc, refl, ap, inr, arith}
use Rattle.std.specs.Prelude.{None}
use Rattle.std.proofs.lemmas.Bool.{le-ltb, lt-leb}
use Rattle.std.proofs.lemmas.List.{take_at}
use Rattle.ftc_base.specs.declared.limits.TheConstants.{MOST_RECORDS, MOST_CAPTURED, MOST_CAPTURE_BYTES}
use Rattle.ftc_base.specs.declared.refusal.Refuse.{Refuse}
use Rattle.ftc_base.specs.declared.refusal.Refuse.TheVariants.{Bad, NoMemory}
use Rattle.ftc_pcap.specs.Grammar.{head_bytes, record_bytes, capture_bytes, captured_length, header_cause, front_cause}
use Rattle.ftc_pcap.specs.Grammar.{record_cause, IsHeader, IsPacket, IsCapture, Refuses}
use Rattle.ftc_pcap.specs.Placing.{RefusesRecord, placed_at}
use Rattle.ftc_pcap.specs.declared.capture.Capture.{Capture}
use Rattle.ftc_pcap.specs.declared.capture.CaptureCause.{CaptureCause}
use Rattle.ftc_pcap.specs.declared.packets.Packet.{Packet}
use Rattle.ftc_pcap.proofs.Numbers.{captured_length_head, length_record}

-- the refusal of a record is one of the text
pub refused : (text rest : List ℕ) (before : Capture) (refusal : Refuse CaptureCause) (at : ℕ) → IsCapture before →
    text ≡ capture_bytes before ++ rest → length text ≤ MOST_CAPTURE_BYTES → 0 < length rest →
    at ≡ length text - length rest → RefusesRecord before.big (length before.packets) rest refusal →
    Refuses text (placed_at at refusal)
refused text rest before NoMemory at right parts size more place wrong = tt
refused text rest before (Bad cause) at right parts size more place wrong =
    inr (record {
      before = before;
      rest = rest;
      right = right;
      size = size;
      parts = parts;
      more = more;
      cause = wrong;
      place = omega (arith, simp (length-append (capture_bytes before) rest) at (ap length parts));
    })

-- the fault of a header is one of the text
pub front_fault : (text front : List ℕ) (cause : CaptureCause) → length text ≤ MOST_CAPTURE_BYTES →
    front ≡ take 24 text → header_cause front ≡ Some cause → front_cause text ≡ Some cause
front_fault text front cause size is wrong = rw (le-ltb MOST_CAPTURE_BYTES (length text) size, ← is) wrong

-- a right header has no fault
pub no_header_fault : (big : Bool) (header : List ℕ) → IsHeader big header → header_cause header ≡ None
no_header_fault big header right =
    rw (right.size, right.magic, right.size, right.major, right.minor, right.link_type) refl

-- a text that begins with a right header has no fault there
pub no_front_fault : (text : List ℕ) (big : Bool) (header rest : List ℕ) → IsHeader big header → text ≡ header ++ rest →
    length text ≤ MOST_CAPTURE_BYTES → front_cause text ≡ None
no_front_fault text big header rest right parts size =
    let front : take 24 text ≡ header = ap (take 24) parts ∙ take_at header rest 24 right.size in
    rw (le-ltb MOST_CAPTURE_BYTES (length text) size, front) (no_header_fault big header right)

-- a whole record has no fault
pub no_record_fault : (big : Bool) (count : ℕ) (p : Packet) (after : List ℕ) → IsPacket p → count < MOST_RECORDS →
    record_cause big count (record_bytes big p ++ after) ≡ None
no_record_fault big count p after packet few =
    let captured : captured_length big (record_bytes big p ++ after) ≡ length p.bytes =
    ap (captured_length big)
    (append_assoc (head_bytes big p.seconds p.fraction
    (length p.bytes) p.original) p.bytes after) ∙ captured_length_head big p.seconds p.fraction
    (length p.bytes) p.original (p.bytes ++ after) (omega (arith, packet.captured)) in
    let size = length_record big p after in
    let within = packet.captured in
    rw (
      lt-leb MOST_RECORDS count few,
      le-ltb (length (record_bytes big p ++ after)) 16 (omega arith),
      captured,
      le-ltb MOST_CAPTURED (length p.bytes) within,
      le-ltb (length (record_bytes big p ++ after)) (16 + length p.bytes) (omega arith),
    ) refl

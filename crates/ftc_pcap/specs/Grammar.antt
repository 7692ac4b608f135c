-- The texts that are captures in libpcap's classic form, and the first fault of a text that is none.
-- A byte order is a Bool: true is big-endian, false little-endian.
use Rattle.std.specs.Prelude.{◌≡◌, ◌≤◌, ◌<◌, ◌+◌, ◌^◌, ◌⊎◌, ◌==◌, ◌&&◌, ◌||◌, ℕ, Bool, true, false, not, nat_lt, nat_le}
use Rattle.std.specs.Prelude.{List, ◌++◌, length, take, drop, Option, Some, None, if◌then◌else◌}
use Rattle.std.specs.List.{flat_map, AllByRecursion}
use Rattle.byteorder.specs.Endian.{big_bytes, little_bytes, big_number, little_number}
use Rattle.ftc_base.specs.declared.limits.TheConstants.{MOST_RECORDS, MOST_CAPTURED, MOST_CAPTURE_BYTES}
use Rattle.ftc_base.specs.declared.refusal.Refuse.{Refuse}
use Rattle.ftc_base.specs.declared.refusal.Refuse.TheVariants.{Bad, NoMemory}
use Rattle.ftc_pcap.specs.declared.packets.Packet.{Packet}
use Rattle.ftc_pcap.specs.declared.capture.Capture.{Capture}
use Rattle.ftc_pcap.specs.declared.capture.CaptureCause.{CaptureCause}
use Rattle.ftc_pcap.specs.declared.capture.CaptureCause.TheVariants.{NotCapture, Version, LinkType, RecordTooLong, Cut}
use Rattle.ftc_pcap.specs.declared.capture.CaptureCause.TheVariants.{TooMany, TooBig}
use Rattle.ftc_pcap.specs.declared.capture.CaptureFault.{CaptureFault}

-- the four bytes of a number
unfoldable pub number_bytes : Bool → ℕ → List ℕ
number_bytes true number = big_bytes 4 number
number_bytes false number = little_bytes 4 number

-- the number in the first four bytes
unfoldable pub number_of : Bool → List ℕ → ℕ
number_of true bytes = big_number 4 bytes
number_of false bytes = little_number 4 bytes

-- the number in the first two bytes
unfoldable pub short_of : Bool → List ℕ → ℕ
short_of true bytes = big_number 2 bytes
short_of false bytes = little_number 2 bytes

-- the magic numbers of stamps in microseconds and in nanoseconds
abbrev pub is_magic : ℕ → Bool
is_magic number = number == 0xa1b2c3d4 || number == 0xa1b23c4d

-- the byte order in which the first four bytes are a magic number
abbrev pub magic_order : List ℕ → Option Bool
magic_order header =
    if is_magic (number_of true header) then Some true else
    if is_magic (number_of false header) then Some false else None

-- 24 bytes: a magic number, version 2.4, twelve bytes that are free, and the link type 1
pub record IsHeader (big : Bool) (header : List ℕ) : Type 0 where
  pub size : length header ≡ 24
  pub magic : magic_order header ≡ Some big
  pub major : short_of big (drop 4 header) ≡ 2
  pub minor : short_of big (drop 6 header) ≡ 4
  pub link_type : number_of big (drop 20 header) ≡ 1

-- the 16 bytes in front of the captured bytes
abbrev pub head_bytes : Bool → ℕ → ℕ → ℕ → ℕ → List ℕ
head_bytes big seconds fraction captured original =
    number_bytes big seconds ++ number_bytes big fraction ++ number_bytes big captured ++ number_bytes big original

-- the head, and then the captured bytes
abbrev pub record_bytes : Bool → Packet → List ℕ
record_bytes big packet =
    head_bytes big packet.seconds packet.fraction (length packet.bytes) packet.original ++ packet.bytes

-- the records of the packets, one after another
abbrev pub records : Bool → List Packet → List ℕ
records big packets = flat_map (record_bytes big) packets

-- the packet with other bytes
abbrev pub rewritten : Packet → List ℕ → Packet
rewritten packet bytes = record packet { bytes = bytes }

-- the header, and then the records
abbrev pub capture_bytes : Capture → List ℕ
capture_bytes capture = capture.header ++ records capture.big capture.packets

-- numbers of 32 bits, and at most so many captured bytes, whatever the original length
pub record IsPacket (packet : Packet) : Type 0 where
  pub seconds : packet.seconds < 2 ^ 32
  pub fraction : packet.fraction < 2 ^ 32
  pub original : packet.original < 2 ^ 32
  pub captured : length packet.bytes ≤ MOST_CAPTURED

-- a right header, and packets in their bounds
pub record IsCapture (capture : Capture) : Type 0 where
  pub header : IsHeader capture.big capture.header
  pub few : length capture.packets ≤ MOST_RECORDS
  pub packets : AllByRecursion IsPacket capture.packets

-- the text is this capture
pub record Spells (text : List ℕ) (capture : Capture) : Type 0 where
  pub right : IsCapture capture
  pub whole : text ≡ capture_bytes capture
  pub size : length text ≤ MOST_CAPTURE_BYTES

-- the first fault behind a magic number of that byte order, if there is one
abbrev pub order_cause : Option Bool → List ℕ → Option CaptureCause
order_cause None header = Some NotCapture
order_cause (Some big) header =
    if nat_lt (length header) 24 then Some Cut else
    if not (short_of big (drop 4 header) == 2 && short_of big (drop 6 header) == 4) then Some Version else
    if not (number_of big (drop 20 header) == 1) then Some LinkType else None

-- the first fault of the first 24 bytes, or of what there is of them
abbrev pub header_cause : List ℕ → Option CaptureCause
header_cause header = if nat_lt (length header) 4 then Some Cut else order_cause (magic_order header) header

-- the captured length in a record's head
abbrev pub captured_length : Bool → List ℕ → ℕ
captured_length big bytes = number_of big (drop 8 bytes)

-- the first fault of the record at the front of the bytes, behind so many others
abbrev pub record_cause : Bool → ℕ → List ℕ → Option CaptureCause
record_cause big count bytes =
    if nat_le MOST_RECORDS count then Some TooMany else
    if nat_lt (length bytes) 16 then Some Cut else
    if nat_lt MOST_CAPTURED (captured_length big bytes) then Some RecordTooLong else
    if nat_lt (length bytes) (16 + captured_length big bytes) then Some Cut else None

-- the text is too big, or its header is at fault
abbrev pub front_cause : List ℕ → Option CaptureCause
front_cause text = if nat_lt MOST_CAPTURE_BYTES (length text) then Some TooBig else header_cause (take 24 text)

-- a capture, and then bytes that begin with a record at fault
pub record HasRecordFault (text : List ℕ) (fault : CaptureFault) : Type 0 where
  pub before : Capture
  pub rest : List ℕ
  pub right : IsCapture before
  pub size : length text ≤ MOST_CAPTURE_BYTES
  pub parts : text ≡ capture_bytes before ++ rest
  pub more : 0 < length rest
  pub cause : record_cause before.big (length before.packets) rest ≡ Some fault.cause
  pub place : fault.at ≡ length (capture_bytes before)

-- the first fault of the text, and the byte at which the header or record with it begins
abbrev pub IsFault : List ℕ → CaptureFault → Type 0
IsFault text fault = ((front_cause text ≡ Some fault.cause) × (fault.at ≡ 0)) ⊎ HasRecordFault text fault

-- a refusal of the text: its first fault, or want of memory
abbrev pub Refuses : List ℕ → Refuse CaptureFault → Type 0
Refuses text (Bad fault) = IsFault text fault
Refuses text NoMemory = Unit {0}

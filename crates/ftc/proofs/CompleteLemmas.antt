-- OUT that was written in part is completed.
use Rattle.std.proofs.Common.{◌≡◌, ◌∙◌, sym, ap, subst, ℕ, List, [], ◌∷◌, ◌++◌, length, take, drop, ◌-◌, Some, Option}
use Rattle.std.proofs.Common.{append_assoc, append-nil}
use Rattle.std.specs.Prelude.{OnOk, Result, Ok, Err}
use Rattle.std.specs.List.{flat_map}
use Rattle.std.proofs.lemmas.Grind.{flat_map-append}
use Rattle.std.proofs.lemmas.List.{take_rest}
use Rattle.ftc_base.specs.declared.released.Released.{Released}
use Rattle.ftc_outside.specs.Tap.{Face}
use Rattle.ftc_pcap.specs.declared.capture.Capture.{Capture}
use Rattle.ftc_pcap.specs.declared.packets.Packet.{Packet}
use Rattle.ftc_report.specs.Output.{released_record, out_bytes, AreWritable}
use Rattle.ftc_stream.specs.LeavingLaws.{left_on}
use Rattle.ftc_stream.specs.Records.{writable, records}
use Rattle.ftc_stream.specs.Taps.{AreLeft}
use Rattle.ftc.specs.Completing.{AreToldBehind}

-- the law: items that may be written are all written
abbrev pub NonePassedOver : Type 0
NonePassedOver = (capture : Capture) (items : List Released) → AreWritable capture.packets items →
    writable capture items ≡ items

-- the part of a list behind the first of another's length, as a slice has it
pub rest_is : {A : Type 0} (put all front whole : List A) → front ≡ put → whole ≡ all →
    take (length whole - length front) (drop (length front) whole) ≡ drop (length put) all
rest_is put all front whole same same_all = rw (same, same_all) (take_rest all (length put))

front_writable : (packets : List Packet) (front rest : List Released) → AreWritable packets (front ++ rest) →
    AreWritable packets front
front_writable packets [] rest are = tt
front_writable packets (one ∷ more) rest are = (are.0, front_writable packets more rest are.1)

pub rest_writable : (packets : List Packet) (front rest : List Released) → AreWritable packets (front ++ rest) →
    AreWritable packets rest
rest_writable packets [] rest are = are
rest_writable packets (one ∷ more) rest are = rest_writable packets more rest are.1

module _ (law : NonePassedOver) (capture : Capture) (put rest released : List Released)
    (parts : released ≡ put ++ rest) (all : AreWritable capture.packets released) where
  put_whole : writable capture put ≡ put
  put_whole = law capture put (front_writable capture.packets put rest (subst (AreWritable capture.packets) parts all))

  -- behind what was put the rest completes OUT
  pub completed : (now : Option (List ℕ)) →
      (first : List ℕ) (items : List Released) → first ≡ [] → items ≡ rest →
      now ≡ Some (((capture.header ++ records capture put) ++ first) ++ flat_map (released_record capture) items) →
      now ≡ Some (out_bytes capture released)
  completed now first items empty same is =
      let record_of = released_record capture in
      let put_is : records capture put ≡ flat_map record_of put =
      ap (λ (items : List Released). flat_map record_of items) put_whole in
      let bytes : ((capture.header ++ records capture put) ++ first) ++ flat_map record_of items ≡ capture.header
      ++ flat_map record_of released =
      ap (λ (piece : List ℕ). ((capture.header ++ records capture put) ++ piece) ++ flat_map record_of items) empty
      ∙ (ap (λ (front : List ℕ). front ++ flat_map record_of items) (append-nil (capture.header ++ records capture put))
      ∙ (ap (λ (others : List Released). (capture.header ++ records capture put) ++ flat_map record_of others) same
      ∙ (append_assoc capture.header (records capture put) (flat_map record_of rest)
      ∙ ap (λ (behind : List ℕ). capture.header ++ behind)
      (ap (λ (front : List ℕ). front ++ flat_map record_of rest) put_is
      ∙ (sym (flat_map-append record_of put rest) ∙ ap (λ (items : List Released). flat_map record_of items)
      (sym parts)))))) in
      is ∙ ap (λ (b : List ℕ). Some b) bytes

  pub told_the_rest : (taps left : List Face) (items : List Released) → items ≡ rest → AreLeft items taps left →
      AreToldBehind (writable capture put) released taps left
  told_the_rest taps left items same told first before = (
    [],
    subst (λ (ones : List Released). AreLeft ones first left) (sym parts)
        (left_on put rest first taps left (subst (λ (ones : List Released). AreLeft ones first taps) put_whole before)
        (subst (λ (ones : List Released). AreLeft ones taps left) same told)),
  )

-- where all are put anew, they are told behind the others
pub told_anew : (put released : List Released) (taps left : List Face) → AreLeft released taps left →
    AreToldBehind put released taps left
told_anew put released taps left told first before = (put, left_on put released first taps left before told)

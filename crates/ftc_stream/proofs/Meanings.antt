-- What the words of the contracts mean.
use Rattle.std.proofs.Common.{◌≡◌, ◌<◌, ◌≤◌, inl, inr, true, false, List, [], ◌∷◌, length, refl, ap, sym, ◌∙◌, subst}
use Rattle.std.proofs.Common.{arith}
use Rattle.std.specs.Prelude.{cond}
use Rattle.std.specs.List.{AllByRecursion, AllZip}
use Rattle.ftc_base.specs.declared.limits.TheConstants.{MOST_CAPTURED}
use Rattle.ftc_base.specs.declared.released.Released.{Released}
use Rattle.ftc_outside.specs.Tap.{Face, WasTold}
use Rattle.ftc_pcap.specs.declared.capture.Capture.{Capture}
use Rattle.ftc_pcap.specs.declared.packets.Packet.{Packet}
use Rattle.ftc_stream.specs.Records.{writable, is_writable}
use Rattle.ftc_stream.specs.Taps.{AreLeft}

writable_of : (packets : List Packet) (item : Released) → item.packet < length packets →
    length item.bytes ≤ MOST_CAPTURED → is_writable packets item ≡ true
writable_of packets item known short = grind (arith, known, short)

pub all_writable : (capture : Capture) (items : List Released) →
    AllByRecursion (λ item. (item.packet < length capture.packets) × (length item.bytes ≤ MOST_CAPTURED)) items →
    writable capture items ≡ items
all_writable capture [] all = refl
all_writable capture (item ∷ items) all =
    ap (λ b. cond b (item ∷ writable capture items) (writable capture items))
    (writable_of capture.packets item all.0.0 all.0.1) ∙ ap (λ zs. item ∷ zs) (all_writable capture items all.1)

pub constant_stay : (records : List Released) (old new : List Face) →
    AllByRecursion (λ tap. tap.constant ≡ true) old → AreLeft records old new → AllZip (WasTold records) old new
constant_stay records [] new all none =
    let P : List Face → Type 0 = λ taps. AllZip (WasTold records) [] taps in
    subst P (sym none) tt
constant_stay records (tap ∷ taps) new all (inl (gone, left)) = let no : false ≡ true = sym gone ∙ all.0 in absurd cc
constant_stay records (tap ∷ taps) new all (inr (after, rest, is, was, left)) =
    let P : List Face → Type 0 = λ taps'. AllZip (WasTold records) (tap ∷ taps) taps' in
    subst P (sym is) (was, constant_stay records taps rest all.1 left)

use Rattle.std.proofs.Common.{◌≡◌, ◌∙◌, sym, ap, true, Some}
use Rattle.std.specs.Prelude.{slice_get}
use Rattle.ftc_base.specs.declared.released.Released.{Released}
use Rattle.ftc_serial.specs.declared.position.Position.TheVariants.{Passed}
use Rattle.ftc_serial.specs.Waiting.{is_passed}
use Rattle.ftc_serial.proofs.Made.{release_made, put_back, passed_bytes}
use Rattle.ftc_serial.proofs.serial.Serial.release.Goals as goal

pub returns-in-Ok-clause-made : goal.returns-in-Ok-clause-made
returns-in-Ok-clause-made c =
    let serial = c.args.self.now in
    let passed : is_passed (slice_get serial.positions.items c.args.packet) ≡ true =
    rw (← c.deref.ensures.value) (sym c.has_passed.ensures ∙ c.if-not-has_passed.false) in
    let stands = passed_bytes serial.positions.items c.args.packet c.index_mut.result.now c.replace-position.result
    c.released_bytes-bytes.result passed c.index_mut.ensures.value c.replace-position.ensures.value
    c.released_bytes-bytes.ensures in
    release_made serial.rules serial.stores.items serial.positions.items serial.released c.give.new.self c.args.packet
    c.replace-position.new.dest c.released_bytes-bytes.result stands c.replace-position.ensures.after
    c.in-Ok.ensures.ok

pub returns-in-Err-clause-err : goal.returns-in-Err-clause-err
returns-in-Err-clause-err c =
    let serial = c.args.self.now in
    let passed : is_passed (slice_get serial.positions.items c.args.packet) ≡ true =
    rw (← c.deref.ensures.value) (sym c.has_passed.ensures ∙ c.if-not-has_passed.false) in
    let stands = passed_bytes serial.positions.items c.args.packet c.index_mut.result.now c.replace-position.result
    c.released_bytes-bytes.result passed c.index_mut.ensures.value c.replace-position.ensures.value
    c.released_bytes-bytes.ensures in
    let back : slice_get serial.positions.items c.args.packet ≡ Some (Passed c.in-Err.field-0.bytes) =
    stands ∙ ap (λ (r : Released). Some (Passed r.bytes)) (sym c.in-Err.ensures.back) in
    rw c.in-Err.ensures.err
    (put_back serial.stores.items serial.positions.items serial.released c.args.packet c.replace-position.new.dest
    (Passed c.in-Err.field-0.bytes) back)

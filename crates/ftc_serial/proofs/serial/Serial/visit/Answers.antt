use Rattle.std.proofs.Common.{◌≡◌, ℕ, ◌<◌, ◌∙◌, sym, ap, refl, arith, length, true}
use Rattle.std.specs.Prelude.{slice_get}
use Rattle.std.proofs.lemmas.Option.{slice_get_read, get_or_from_slice_get}
use Rattle.ftc_store.specs.Store.{Content, Stored, written}
use Rattle.ftc_serial.specs.Take.{taken}
use Rattle.ftc_serial.specs.Serial.{position_after}
use Rattle.ftc_serial.specs.Waiting.{is_waiting}
use Rattle.ftc_serial.proofs.Made.{waiting_bytes, visit_made_at, read_back}
use Rattle.ftc_serial.proofs.serial.Serial.visit.Goals as goal

pub returns-clause-made : goal.returns-clause-made
returns-clause-made c =
    let serial = c.args.self.now in
    let at : c.from-middlebox.result ≡ c.args.server = c.from-middlebox.ensures ∙ c.number.ensures.same in
    let waits : is_waiting (slice_get serial.positions.items c.args.packet) c.args.server ≡ true =
    rw (← c.deref.ensures.value) (sym c.waits.ensures ∙ c.if-not-waits.false) in
    let got = waiting_bytes _ c.args.server waits in
    let within : c.from-middlebox.result < length serial.stores.items = omega (arith, c.len.ensures) in
    let old : c.index_mut-3.result.now ≡ c.reserve.new.self =
    read_back serial.stores.items c.from-middlebox.result c.reserve.new.self c.index_mut-3.result.now within
    c.index_mut-3.ensures.value in
    let content : c.index_mut-3.result.now.content ≡ c.index_mut.result.now.content =
    ap (λ (s : Stored). s.content) old ∙ c.reserve.ensures.content in
    let from = c.replace-position.ensures.value ∙ c.index_mut-2.ensures.value ∙ get_or_from_slice_get
    serial.positions.items c.args.packet _ c.index_mut-2.result.now got.1 in
    let held = slice_get_read serial.stores.items
    (length serial.stores.items) c.from-middlebox.result c.index_mut.result.now refl within
    c.index_mut.ensures.value in
    let rules = serial.rules in
    let rule = c.at-rule.result.now in
    let next = c.visited-next.ensures.position got.0 from ∙ ap
    (λ (n : ℕ). position_after n c.args.server
    (taken rule got.0 c.index_mut-3.result.now.content).packet) c.len-2.ensures
    ∙ ap (λ (content : Content). position_after (length rules) c.args.server
    (taken rule got.0 content).packet) content in
    let second = c.visited-next.ensures.content got.0 from ∙ ap
    (λ (content : Content). written (taken rule got.0 content).writes content) content in
    visit_made_at rules serial.stores.items serial.positions.items serial.released c.args.server c.args.packet
    c.from-middlebox.result c.index_mut.result.now c.reserve.new.self c.visited-next.new.store
    c.replace-position.new.dest c.visited-next.result rule got.0 at got.1 c.at-rule.ensures held next second

-- What a slot runs is held with its packet.
use Rattle.std.proofs.Common.{◌≡◌, ◌∙◌, ℕ, true, false, List, Option, Some, None, refl, sym, ap}
use Rattle.std.proofs.Math.Bool.{Bool-set}
use Rattle.std.proofs.Math.Logic.{∥∥₁_elim, ∥∥₁_map}
use Rattle.std.specs.Prelude.{option_map}
use Rattle.std.proofs.lemmas.Option.{same_Some}
use Rattle.ftc_server.specs.declared.held.HeldMessage.{HeldMessage}
use Rattle.ftc_server.specs.declared.server.Server.{Server}
use Rattle.ftc_server.specs.Holding.{found}
use Rattle.ftc_server.specs.Looks.{ask_in, ask_of_slot}
use Rattle.ftc_server.specs.Slots.{AreSlots, ask_of_held}
use Rattle.ftc_mbox.specs.Ask.{ask}
use Rattle.ftc_protocol.specs.Next.{message_bytes, bytes_in}
use Rattle.ftc_protocol.specs.Setting.{Setting}
use Rattle.ftc_protocol.specs.State.{ChainState}
use Rattle.ftc_refinement.proofs.Works.{held_in}
use Rattle.ftc_refinement.specs.Contents.{items_of}
use Rattle.ftc_standing.specs.Stand.{AreItems}
use Rattle.ftc_txn.specs.Slots.{Running, slot_at}
use Rattle.ftc_standing.proofs.Arriving.{is_none}

never : {A : Type 0} → ∥ A ∥₁ → (A → ⊥) → ⊥
never some none =
    let both : true ≡ false = ∥∥₁_elim some (Bool-set true false) (λ it. absurd (none it)) in
    absurd cc

-- a message is held that has these bytes
pub record HasBytes (slot : Option HeldMessage) : Type 0 where
  pub held : HeldMessage
  pub there : slot ≡ Some held
  pub bytes : List ℕ
  pub with_bytes : held.message.packet ≡ Some bytes

with_bytes_of : (held : HeldMessage) (bytes : Option (List ℕ)) → held.message.packet ≡ bytes →
    ∥ HasBytes (Some held) ∥₁ → HasBytes (Some held)
with_bytes_of held None none some = absurd (never some (λ has.
    let same = same_Some held has.held has.there in
    let both : None ≡ Some has.bytes =
    sym none ∙ (ap (λ (h : HeldMessage). h.message.packet) same ∙ has.with_bytes) in
    absurd cc))
with_bytes_of held (Some bytes) is some = record { held = held; there = refl; bytes = bytes; with_bytes = is }

has_bytes : (slot : Option HeldMessage) → ∥ HasBytes slot ∥₁ → HasBytes slot
has_bytes None some = absurd (never some (λ has. let none : None ≡ Some has.held = has.there in absurd cc))
has_bytes (Some held) some = with_bytes_of held held.message.packet refl some

pub run_has_bytes : (server : Server) (worker : ℕ) (running : Running) →
    slot_at server.head.slots worker ≡ Some running → HasBytes (found running.packet server.held.items)
run_has_bytes server worker running runs =
    has_bytes (found running.packet server.held.items)
    (∥∥₁_map server.slots (λ (slots : AreSlots server.rule server.head server.held.items).
    let slot = slots.each worker running runs in
    record { held = slot.held; there = slot.there; bytes = slot.packet; with_bytes = slot.with_packet }))

-- what the rule is asked for what a slot runs
pub asks_of_bytes : (server : Server) (worker : ℕ) (running : Running)
    (runs : slot_at server.head.slots worker ≡ Some running) (has : HasBytes (found running.packet server.held.items)) →
    ask_in server worker ≡ Some (ask server.rule has.bytes running.answers)
asks_of_bytes server worker running runs has =
    ap (ask_of_slot server) runs ∙ (ap (ask_of_held server.rule running) has.there
    ∙ ap (option_map (λ bytes. ask server.rule bytes running.answers)) has.with_bytes)

-- the packet of the message in the state is that of the held one
pub bytes_in_state : (setting : Setting) (state : ChainState) (number packet : ℕ) (items : List HeldMessage)
    (has : HasBytes (found packet items)) → AreItems setting state number (items_of items) →
    message_bytes (state.message packet) ≡ has.bytes
bytes_in_state setting state number packet items has are =
    let there = held_in setting state number packet has.held items has.there are in
    ap message_bytes there.there ∙ ap bytes_in (sym there.stands.as_sent.packet ∙ has.with_bytes)

pub unasked_idle : (server : Server) (worker : ℕ) → ask_in server worker ≡ None →
    slot_at server.head.slots worker ≡ None
unasked_idle server worker none = is_none (slot_at server.head.slots worker) (λ running runs.
    let some : None ≡ Some (ask server.rule (run_has_bytes server worker running runs).bytes running.answers) =
    sym none ∙ asks_of_bytes server worker running runs (run_has_bytes server worker running runs) in
    absurd cc)

use Rattle.std.proofs.Common.{◌≡◌, ◌∙◌, ℕ, Bool, true, List, Option, Some, None, length, slice_set, inl, inr, refl, sym}
use Rattle.std.proofs.Common.{ap, length-set}
use Rattle.std.specs.Prelude.{is_some, ◌&&◌, ◌==◌, not}
use Rattle.std.proofs.lemmas.Bool.{cases_lt, false≢true}
use Rattle.std.proofs.lemmas.List.{get_or_past}
use Rattle.ftc_server.specs.Replicas.{may_rise}
use Rattle.ftc_server.specs.Slots.{runs_packet}
use Rattle.ftc_server.specs.State.{ServerState}
use Rattle.ftc_txn.specs.Head.{HeadState, next_age}
use Rattle.ftc_txn.specs.Slots.{Running, slot_at, packet_of, begun}
use Rattle.ftc_txn.proofs.Kept.{slot_set, slot_other}
use Rattle.ftc_network.proofs.IdleSlots.{none_any}
use Rattle.ftc_network.proofs.visiting.start.Goals as goal

pub begin-requires-clause-age : goal.begin-requires-clause-age
begin-requires-clause-age c =
    let head = c.args.server.now.head in
    ap (λ (b : Bool). not (b && (head.last == 18446744073709551615))) (none_any is_some refl head.slots c.requires.idle)

pub begin-requires-clause-once : goal.begin-requires-clause-once
begin-requires-clause-once c = none_any (runs_packet c.args.packet) refl c.args.server.now.head.slots c.requires.idle

-- a slot that runs something after it was set has what it was set to
set_runs : (slots : List (Option Running)) (worker : ℕ) (running : Running) → slot_at slots worker ≡ None →
    is_some (packet_of (slot_at (slice_set slots worker (Some running)) worker)) ≡ true →
    slot_at (slice_set slots worker (Some running)) worker ≡ Some running
set_runs slots worker running idle runs = elim (cases_lt worker (length slots)) [
  | inl within ↦ slot_set slots worker (Some running) within
  | inr past ↦
      let none : slot_at (slice_set slots worker (Some running)) worker ≡ None =
      get_or_past (slice_set slots worker (Some running)) worker None (rw length-set past) in
      absurd (false≢true (sym (ap (λ (o : Option Running). is_some (packet_of o)) none) ∙ runs))
]

pub returns-clause-runs : goal.returns-clause-runs
returns-clause-runs c runs =
    let old = c.args.server.now in
    let new = c.begin.new.self in
    let start = begun c.args.packet (next_age old.head) in
    let slots : new.head.slots ≡ slice_set old.head.slots c.args.worker (Some start) =
    ap (λ (head : HeadState). head.slots) c.begin.ensures.begun.head in
    record {
      stands = λ setting state number is. c.what_stays.ensures.begun setting state number c.args.worker c.args.packet
          old new is
          c.begin.ensures.begun;
      withheld = ap (λ (s : ServerState). s.buffer.items) c.begin.ensures.begun.rest;
      rise = ap (λ (head : HeadState). may_rise head.vector) c.begin.ensures.begun.head ∙ c.requires.rise;
      running = start;
      runs = record {
        slot = ap (λ (s : List (Option Running)). slot_at s c.args.worker) slots
            ∙ set_runs old.head.slots c.args.worker start (c.requires.idle c.args.worker)
            (ap (λ (s : List (Option Running)). is_some (packet_of (slot_at s c.args.worker))) (sym slots)
            ∙ (ap is_some (sym c.packet_of.ensures) ∙ (sym c.is_some.ensures ∙ runs)));
        unwounded = refl;
      };
      packet_is = refl;
      count_is = refl;
      others = λ other differs. ap (λ (s : List (Option Running)). slot_at s other) slots
          ∙ (slot_other old.head.slots c.args.worker other (Some start) differs ∙ c.requires.idle other);
    }

pub returns-clause-stands : goal.returns-clause-stands
returns-clause-stands c setting state number is =
    c.what_stays.ensures.begun setting state number c.args.worker c.args.packet c.args.server.now c.begin.new.self is
    c.begin.ensures.begun

pub returns-clause-others : goal.returns-clause-others
returns-clause-others c other differs =
    ap (λ (head : HeadState). slot_at head.slots other) c.begin.ensures.begun.head
    ∙ (slot_other c.args.server.now.head.slots c.args.worker other _ differs ∙ c.requires.idle other)

use Rattle.std.proofs.Common.{◌≡◌, ◌∙◌, Bool, true, false, Option, Some, None, refl, ap, sym}
use Rattle.std.proofs.lemmas.Result.{on_ok_weaker, on_err_weaker}
use Rattle.ftc_journal.specs.declared.event.Event.TheVariants as event
use Rattle.ftc_server.specs.declared.work.Work.{Work}
use Rattle.ftc_server.specs.declared.work.Work.TheVariants.{Apply, Visit, Send, Carry}
use Rattle.ftc_server.specs.Holding.{found}
use Rattle.ftc_server.specs.Looks.{work_in, onward_apart}
use Rattle.ftc_server.specs.State.{ServerState}
use Rattle.ftc_network.specs.Parts.{buffer_of}
use Rattle.ftc_network.proofs.Allowed.{at_up}
use Rattle.ftc_network.proofs.ReadySlots.{same_runs, same_still, slot_follows}
use Rattle.ftc_network.proofs.Heads.{same_head, either_way}
use Rattle.ftc_network.proofs.carrying.carry_at.Goals as goal

is_carry : Option Work → Bool
is_carry None = false
is_carry (Some (Apply group packet)) = false
is_carry (Some Visit) = false
is_carry (Some Send) = false
is_carry (Some Carry) = true

carry_if : (work : Option Work) → is_carry work ≡ true → work ≡ Some Carry
unfolding is_carry
carry_if None is = absurd cc
carry_if (Some (Apply group packet)) is = absurd cc
carry_if (Some Visit) is = absurd cc
carry_if (Some Send) is = absurd cc
carry_if (Some Carry) is = refl

carry_is : is_carry (Some Carry) ≡ true
unfolding is_carry
carry_is = refl

pub carry-requires-clause-work : goal.carry-requires-clause-work
carry-requires-clause-work c =
    carry_if (work_in c.in-Some.server c.args.origin)
    (at_up (event.Carry c.args.origin) 0 c.args.slot.now c.in-Some.server
    (is_carry (work_in c.in-Some.server c.args.origin))
    true c.in-Some.is (λ setting state run legal few up.
    ap is_carry (c.what_carry_wants.ensures.work setting state c.args.origin c.in-Some.server run legal up.at) ∙
    carry_is)
    c.requires)

pub carry-requires-clause-apart : goal.carry-requires-clause-apart
carry-requires-clause-apart c =
    at_up (event.Carry c.args.origin) 0 c.args.slot.now c.in-Some.server
    (onward_apart c.in-Some.server c.in-Some.server.forwarder (found c.args.origin c.in-Some.server.held.items)) true
    c.in-Some.is (λ setting state run legal few up.
    c.what_carry_wants.ensures.apart setting state c.args.origin c.in-Some.server run legal up.at) c.requires

pub returns-in-Some-clause-ok : goal.returns-in-Some-clause-ok
returns-in-Some-clause-ok c =
    let old = c.in-Some.server in
    let new = c.carry.new.self in
    on_ok_weaker c.carry.result (λ done setting state run legal. slot_follows c.in-Some.is refl
    (λ at. c.what_carry_does.ensures setting state c.args.origin old new run legal at done)
    (λ at after. c.slots_stay_ready.ensures setting state (event.Carry c.args.origin) 0 old new run legal at after
    (same_runs old new (ap (λ (s : ServerState). s.head) done.rest)))) c.carry.ensures.ok

pub returns-in-Some-clause-buffer : goal.returns-in-Some-clause-buffer
returns-in-Some-clause-buffer c = on_ok_weaker c.carry.result (λ done.
    ap (λ (s : ServerState). s.buffer.items) done.rest ∙ ap buffer_of (sym c.in-Some.is)) c.carry.ensures.ok

pub returns-in-Some-clause-err : goal.returns-in-Some-clause-err
returns-in-Some-clause-err c =
    let old = c.in-Some.server in
    let new = c.carry.new.self in
    on_err_weaker c.carry.result (λ same. same_still c.args.slot.now old new c.in-Some.is same
    (λ setting state number at fields. c.what_stays.ensures.same setting state number old new at fields) 0)
    c.carry.ensures.err

pub returns-in-Some-clause-heads : goal.returns-in-Some-clause-heads
returns-in-Some-clause-heads c =
    same_head c.args.slot.now c.in-Some.server c.carry.new.self c.in-Some.is
    (either_way c.carry.result _ _ (c.carry.new.self.head ≡ c.in-Some.server.head)
    (λ done. ap (λ (s : ServerState). s.head) done.rest)
    (λ same. ap (λ (s : ServerState). s.head) same) c.carry.ensures.ok c.carry.ensures.err)

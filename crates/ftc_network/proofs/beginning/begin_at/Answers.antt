use Rattle.std.proofs.Common.{◌≡◌, ◌∙◌, ◌<◌, ℕ, true, false, Option, Some, None, ap, sym, subst}
use Rattle.std.specs.Prelude.{IfSome, option_map}
use Rattle.ftc_server.specs.declared.server.Server.{Server}
use Rattle.ftc_base.specs.declared.limits.TheConstants.{MOST_SLOTS}
use Rattle.ftc_server.specs.Slots.{is_running}
use Rattle.ftc_txn.specs.Head.{HeadState, ages_left, next_age}
use Rattle.ftc_txn.specs.Steps.{begins}
use Rattle.ftc_network.specs.Slots.{head_of, runs_in}
use Rattle.ftc_network.specs.Stand.{IsSlot, IsUp}
use Rattle.ftc_network.proofs.BegunSlots.{begun_ready}
use Rattle.ftc_network.proofs.VisitWork.{work_there}
use Rattle.ftc_network.proofs.beginning.begin_at.Goals as goal

pub begin-requires-clause-idle : goal.begin-requires-clause-idle
begin-requires-clause-idle c =
    subst (λ (o : Option Server). runs_in (head_of o) c.args.worker ≡ None) c.in-Some.is c.requires.idle

pub begin-requires-clause-age : goal.begin-requires-clause-age
begin-requires-clause-age c =
    subst (λ (o : Option Server). IfSome (head_of o) (λ head. ages_left 18446744073709551615 head ≡ true)) c.in-Some.is
    c.requires.age

pub begin-requires-clause-work : goal.begin-requires-clause-work
begin-requires-clause-work c =
    work_there c.args.slot.now c.in-Some.live c.args.worker c.args.server c.args.packet c.in-Some.is
    (λ setting state run at. c.what_work_says.ensures.visit setting state c.args.server c.args.packet c.args.worker
    c.in-Some.live run at) c.requires.legal

pub begin-requires-clause-once : goal.begin-requires-clause-once
begin-requires-clause-once c =
    subst (λ (o : Option Server). IfSome (head_of o) (λ head. is_running head c.args.packet ≡ false)) c.in-Some.is
    c.requires.once

pub returns-in-Some-clause-age : goal.returns-in-Some-clause-age
returns-in-Some-clause-age c =
    subst (λ (o : Option Server). IfSome (head_of o) (λ head. c.begin.result ≡ next_age head)) (sym c.in-Some.is)
    c.begin.ensures.age

pub returns-in-Some-clause-head : goal.returns-in-Some-clause-head
returns-in-Some-clause-head c =
    ap (λ (head : HeadState). Some head) c.begin.ensures.begun.head
    ∙ ap (λ (o : Option Server). option_map (λ head. begins head c.args.worker c.args.packet) (head_of o))
    (sym c.in-Some.is)

pub returns-in-Some-clause-stands : goal.returns-in-Some-clause-stands
returns-in-Some-clause-stands c number setting state is =
    let old = c.in-Some.live in
    let new = c.begin.new.self in
    let up : IsUp setting state number old = subst (IsSlot setting state number) c.in-Some.is is in
    let work = work_there c.args.slot.now old c.args.worker c.args.server c.args.packet c.in-Some.is
    (λ given_setting given_state run at. c.what_work_says.ensures.visit given_setting given_state c.args.server
    c.args.packet
    c.args.worker old run at) c.requires.legal in
    record {
      up = up.up;
      at = c.what_stays.ensures.begun setting state number c.args.worker c.args.packet old new up.at
          c.begin.ensures.begun;
      ready = begun_ready old new c.args.worker c.args.packet
          (subst (λ (n : ℕ). n < MOST_SLOTS) c.number.ensures.same c.number.ensures.within) work c.begin.ensures.begun
          up.ready;
    }

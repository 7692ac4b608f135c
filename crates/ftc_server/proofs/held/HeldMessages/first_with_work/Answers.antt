use Rattle.std.proofs.Common.{◌≡◌, ◌<◌, ◌∙◌, Some, sym, ap, length, arith, get_or, ℕ}
use Rattle.std.specs.Prelude.{slice_get}
use Rattle.std.proofs.lemmas.Option.{slice_get-get_or}
use Rattle.ftc_server.specs.declared.held.HeldMessage.{HeldMessage}
use Rattle.ftc_server.specs.Holding.{Holding, noted, origins_of}
use Rattle.ftc_server.specs.Work.{has_work}
use Rattle.ftc_server.proofs.Ticketed.{awake_from, awake_within, first_has, next_has_none, all_have_none}
use Rattle.ftc_server.proofs.Distinct.{found_at}
use Rattle.ftc_server.proofs.HadBefore.{as_many}
use Rattle.ftc_server.proofs.held.HeldMessages.first_with_work.Goals as goal

pub index-held-requires : goal.index-held-requires
index-held-requires c =
    let tickets = c.self.inside.tickets in
    let within = awake_within c.self.inside.list.items tickets.resting tickets.origins c.loop-nth.nth c.awake_at.result
    c.self.invariant.origins c.awake_at.ensures in
    omega (arith, c.self.inside.list.ok)

pub returns-then-has_work : goal.returns-then-has_work
returns-then-has_work c =
    let tickets = c.self.inside.tickets in
    let held = c.index-held.result.now in
    let origins = c.self.invariant.origins ∙ ap (λ (view : Holding). origins_of view.items) c.self.view_is in
    let same = λ (place : ℕ). ap (λ (view : Holding). get_or view.items place held) c.self.view_is in
    let count = ap (λ (view : Holding). length (awake_from view.resting tickets.origins)) c.self.view_is in
    first_has c.args.self.now.items c.args.self.now.resting tickets.origins (has_work c.args.replicas.now)
    c.loop-nth.nth c.awake_at.result held origins (omega (arith, count))
    (sym (ap (λ (view : Holding). slice_get (awake_from view.resting tickets.origins) c.loop-nth.nth) c.self.view_is)
    ∙ c.awake_at.ensures)
    (c.index-held.ensures ∙ same c.awake_at.result) c.loop-nth.invariant
    (sym c.has_work.ensures ∙ c.if-has_work.true)

pub loop-nth-preserved : goal.loop-nth-preserved
loop-nth-preserved c =
    let tickets = c.self.inside.tickets in
    let held = c.index-held.result.now in
    let origins = c.self.invariant.origins ∙ ap (λ (view : Holding). origins_of view.items) c.self.view_is in
    let same = λ (place : ℕ). ap (λ (view : Holding). get_or view.items place held) c.self.view_is in
    next_has_none c.args.self.now.items c.args.self.now.resting tickets.origins (has_work c.args.replicas.now)
    c.loop-nth.nth c.awake_at.result held origins
    (sym (ap (λ (view : Holding). slice_get (awake_from view.resting tickets.origins) c.loop-nth.nth) c.self.view_is)
    ∙ c.awake_at.ensures)
    (c.index-held.ensures ∙ same c.awake_at.result) c.loop-nth.invariant
    (sym c.has_work.ensures ∙ c.if-has_work.false)

pub returns : goal.returns
returns c =
    let tickets = c.self.inside.tickets in
    let origins = c.self.invariant.origins ∙ ap (λ (view : Holding). origins_of view.items) c.self.view_is in
    let count = ap (λ (view : Holding). length (awake_from view.resting tickets.origins)) c.self.view_is in
    all_have_none c.args.self.now.items c.args.self.now.resting tickets.origins (has_work c.args.replicas.now)
    c.loop-nth.nth origins (omega (arith, count)) c.loop-nth.invariant

pub has_work-requires : goal.has_work-requires
has_work-requires c =
    let items = c.args.self.now.items in
    let tickets = c.self.inside.tickets in
    let held = c.index-held.result.now in
    let origin = held.message.origin in
    let place = c.awake_at.result in
    let below = awake_within c.self.inside.list.items tickets.resting tickets.origins c.loop-nth.nth place
    c.self.invariant.origins c.awake_at.ensures in
    let size = ap (λ (view : Holding). length view.items) c.self.view_is in
    let within : place < length items = omega (arith, below, size) in
    let is : held ≡ get_or items place held =
    c.index-held.ensures ∙ ap (λ (view : Holding). get_or view.items place held) c.self.view_is in
    let there = slice_get-get_or items place held within ∙ ap (λ (h : HeldMessage). Some h) (sym is) in
    as_many c.args.replicas.now held (noted origin c.args.self.now.had) c.had.result c.had.ensures
    (c.requires origin held (found_at items place held c.len.ensures.distinct there))

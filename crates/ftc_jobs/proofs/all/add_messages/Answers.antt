use Rattle.std.proofs.Common.{◌≡◌, ◌<◌, ◌≤◌, ◌∙◌, ℕ, length, get_or, List, arith, ap, subst, sym, take, take_all}
use Rattle.std.proofs.lemmas.Iterator.Consumers.{YieldsList-from_deque, YieldsList-turn, YieldsList-end}
use Rattle.std.proofs.lemmas.List.{length_push}
use Rattle.std.specs.Option.{option_map}
use Rattle.std.specs.VecDeque.Iter.{deque_iter_rest}
use Rattle.ftc_server.specs.declared.held.HeldMessage.{HeldMessage}
use Rattle.ftc_jobs.specs.All.{is_running_by, HasJobsOf}
use Rattle.ftc_jobs.proofs.AllJobs.{items_around}
use Rattle.ftc_jobs.proofs.JobKinds.{IsOfHeld, held_apart, held_jobs, one_message}
use Rattle.ftc_jobs.proofs.Standing.{is_up_there}
use Rattle.ftc_jobs.proofs.all.add_messages.Goals as goal

pub loop-held-preserved : goal.loop-held-preserved
loop-held-preserved c setting state packets rest slot =
    let live = c.args.live.now in
    let server = c.args.server in
    let runs = is_running_by c.args.network.now in
    let items = live.held.items in
    let place = length c.loop-held.yielded in
    let held = c.in-Some.held.now in
    let up = is_up_there setting state c.args.network.now rest.resting server live slot in
    let start =
    ap deque_iter_rest c.into_iter-held-iterator.ensures.into_iter_gives ∙ c.iter-held-items.ensures.rest in
    let turn = YieldsList-turn (YieldsList-from_deque items start) c.loop-held.yielded _
    c.loop-held.yielded_by _ _ c.in-Some.held c.in-Some.is c.next.ensures.steps in
    let below : place < length items = turn.0 in
    let is : held ≡ get_or items place held = turn.1 in
    let parts = items_around items place held below is in
    let found_it = (c.held_in_turn.ensures.place setting state server held _ _ live up.at parts).0 in
    subst (λ (next : ℕ). HasJobsOf (IsOfHeld server (take next items)) runs setting state c.args.jobs.now
    c.add_message.new.jobs) (sym (length_push c.loop-held.yielded c.in-Some.held))
    (one_message runs setting state server items place held c.args.jobs.now c.loop-held.jobs
    c.add_message.new.jobs below is
    (λ before after are. held_apart state server items
    (λ one front back are_parts.
    (c.held_in_turn.ensures.place setting state server one front back live up.at are_parts).1)
    (λ one later message other front between back are_parts there also.
    c.held_in_turn.ensures.order setting state server one later message other front between back live up.at are_parts
    there also) held before after are)
    (c.loop-held.invariant setting state packets rest slot)
    (c.in_ok-add_message.ensures setting state packets live rest slot
    (ap (option_map (λ (h : HeldMessage). h.message)) found_it)))

pub returns : goal.returns
returns c setting state packets rest slot =
    let live = c.args.live.now in
    let server = c.args.server in
    let runs = is_running_by c.args.network.now in
    let items = live.held.items in
    let up = is_up_there setting state c.args.network.now rest.resting server live slot in
    let start =
    ap deque_iter_rest c.into_iter-held-iterator.ensures.into_iter_gives ∙ c.iter-held-items.ensures.rest in
    let ending = YieldsList-end (YieldsList-from_deque items start) c.loop-held.yielded _
    c.loop-held.yielded_by _ _ c.in-None.is c.next.ensures.steps in
    let short : length items ≤ length c.loop-held.yielded = omega (arith, ending.1) in
    held_jobs runs setting state server items c.args.jobs.now c.loop-held.jobs
    (λ origin message held. c.held_in_turn.ensures.there setting state server origin message live up.at held)
    (subst (λ (list : List HeldMessage). HasJobsOf (IsOfHeld server list) runs setting state c.args.jobs.now
    c.loop-held.jobs) (take_all (length c.loop-held.yielded) items short)
    (c.loop-held.invariant setting state packets rest slot))

use Rattle.std.proofs.Common.{◌≡◌, ◌∙◌, ◌<◌, ◌≤◌, ◌∷◌, ℕ, List, [], Some, length, get_or, take, take_all, sym, ap}
use Rattle.std.proofs.Common.{subst, arith, eqb-true}
use Rattle.std.specs.List.{AllByRecursion}
use Rattle.std.specs.Option.{option_copied}
use Rattle.std.specs.VecDeque.Iter.{deque_iter_rest}
use Rattle.std.proofs.lemmas.Iterator.Consumers.{YieldsList-from_deque, YieldsList-turn, YieldsList-end}
use Rattle.std.proofs.lemmas.List.{length_push}
use Rattle.std.proofs.lemmas.Option.{IfSome_then}
use Rattle.ftc_base.proofs.EachOf.{all-append}
use Rattle.ftc_protocol.specs.Setting.{Setting}
use Rattle.ftc_protocol.specs.State.{ChainState}
use Rattle.ftc_network.specs.Stand.{IsUp}
use Rattle.ftc_refinement.specs.Contents.{IsServerAt}
use Rattle.ftc_refinement.proofs.Messages.{found_is}
use Rattle.ftc_server.specs.declared.held.HeldMessage.{HeldMessage}
use Rattle.ftc_server.specs.Holding.{found, is_of}
use Rattle.ftc_jobs.specs.All.{is_running_by}
use Rattle.ftc_jobs.specs.Beside.{IsUnwanted}
use Rattle.ftc_jobs.specs.Rest.{IsResting}
use Rattle.ftc_jobs.specs.Turn.{IsRising}
use Rattle.ftc_jobs.proofs.AllJobs.{items_around, one_taken}
use Rattle.ftc_jobs.proofs.FirstWork.{so_of_found}
use Rattle.ftc_jobs.proofs.Standing.{down_holds_none, is_up_there}
use Rattle.ftc_jobs.proofs.beside.wanted_at.Goals as goal
use Rattle.ftc_jobs.proofs.beside.wanted_at.Goals.{In_ok-live, In-Some}

-- the server that was read is up
up_there : (c : In_ok-live) (setting : Setting) (state : ChainState) → IsResting setting state c.args.network.now →
    IsUp setting state c.args.server c.in_ok-live.live.now
up_there c setting state rest =
    is_up_there setting state c.args.network.now rest c.args.server c.in_ok-live.live.now
    (sym c.server_at.ensures ∙ ap (λ o. option_copied o) c.in_ok-live.was)

-- where the message at hand stands, that it is found, and that its logs rise
record IsAtHand (items : List HeldMessage) (place : ℕ) (held : HeldMessage) : Type 0 where
  below : place < length items
  is : held ≡ get_or items place held
  there : found held.message.origin items ≡ Some held
  rising : IsRising held

at_hand : (c : In-Some) (setting : Setting) (state : ChainState) →
    IsServerAt setting state c.args.server c.in_ok-live.live.now →
    IsAtHand c.in_ok-live.live.now.held.items (length c.loop-held.yielded) c.in-Some.held.now
at_hand c setting state up =
    let live = c.in_ok-live.live.now in
    let items = live.held.items in
    let held = c.in-Some.held.now in
    let start =
    ap deque_iter_rest c.into_iter-held-iterator.ensures.into_iter_gives ∙ c.iter-held-items.ensures.rest in
    let turn = YieldsList-turn (YieldsList-from_deque items start) c.loop-held.yielded _
    c.loop-held.yielded_by _ _ c.in-Some.held c.in-Some.is c.next.ensures.steps in
    let parts = items_around items (length c.loop-held.yielded) held turn.0 turn.1 in
    let there = (c.held_in_turn.ensures.place setting state c.args.server held _ _ live up parts).0 in
    record {
      below = turn.0;
      is = turn.1;
      there = there;
      rising = so_of_found IsRising held.message.origin items held c.are_rising.ensures there;
    }

pub returns-in_err-live-clause-none : goal.returns-in_err-live-clause-none
returns-in_err-live-clause-none c none setting state packets rest origin message held =
    absurd (down_holds_none setting state c.args.network.now rest.resting c.args.server
    (c.held_in_turn.ensures.holder setting state c.args.server origin message rest.resting.run held)
    (sym c.server_at.ensures ∙ ap (λ o. option_copied o) c.in_err-live.was))

pub returns-then-is_some-clause-some : goal.returns-then-is_some-clause-some
returns-then-is_some-clause-some c =
    IfSome_then c.wanted_of-wanted.result c.wanted_of-wanted.ensures.some (λ job wanted setting state packets rest.
    let there = goal.at.returns-then-is_some-clause-some c in
    let up = up_there there.In_ok-live setting state rest.resting in
    let hand = at_hand there.In-Some setting state up.at in
    wanted setting state packets c.in-Some.held.now rest up.at hand.there hand.rising)

pub loop-held-preserved : goal.loop-held-preserved
loop-held-preserved c setting state packets rest =
    let network = c.args.network.now in
    let server = c.args.server in
    let items = c.in_ok-live.live.now.held.items in
    let place = length c.loop-held.yielded in
    let held = c.in-Some.held.now in
    let Unwanted = λ (h : HeldMessage).
    IsUnwanted c.args.visits (is_running_by network) setting state server h.message.origin in
    let there = goal.at.loop-held-preserved c in
    let up = up_there there.In_ok-live setting state rest.resting in
    let hand = at_hand there.In-Some setting state up.at in
    subst (λ (next : ℕ). AllByRecursion Unwanted (take next items))
    (sym (length_push c.loop-held.yielded c.in-Some.held))
    (subst (AllByRecursion Unwanted) (sym (one_taken items place held hand.below hand.is))
    (all-append Unwanted (take place items) (held ∷ []) (c.loop-held.invariant setting state packets rest) (
      c.wanted_of-wanted.ensures.none (sym c.is_some.ensures ∙ c.if-is_some.false) setting state packets held rest
          up.at hand.there hand.rising,
      tt,
    )))

pub returns-clause-none : goal.returns-clause-none
returns-clause-none c none setting state packets rest origin message held job work =
    let network = c.args.network.now in
    let server = c.args.server in
    let live = c.in_ok-live.live.now in
    let items = live.held.items in
    let Unwanted = λ (h : HeldMessage).
    IsUnwanted c.args.visits (is_running_by network) setting state server h.message.origin in
    let up = up_there (goal.at.returns-clause-none c).In_ok-live setting state rest.resting in
    let start =
    ap deque_iter_rest c.into_iter-held-iterator.ensures.into_iter_gives ∙ c.iter-held-items.ensures.rest in
    let ending = YieldsList-end (YieldsList-from_deque items start) c.loop-held.yielded _
    c.loop-held.yielded_by _ _ c.in-None.is c.next.ensures.steps in
    let short : length items ≤ length c.loop-held.yielded = omega (arith, ending.1) in
    let all = subst (AllByRecursion Unwanted) (take_all (length c.loop-held.yielded) items short)
    (c.loop-held.invariant setting state packets rest) in
    let there = c.held_in_turn.ensures.there setting state server origin message live up.at held in
    let is = found_is Unwanted (is_of origin) items there.0 all there.1 in
    subst (λ (o : ℕ). IsUnwanted c.args.visits (is_running_by network) setting state server o)
    (eqb-true there.0.message.origin origin is.1) is.0 job work

use Rattle.std.proofs.Common.{◌≡◌, ◌∙◌, ◌<◌, ◌∷◌, ℕ, true, List, Option, Some, None, sym, ap, subst}
use Rattle.std.specs.Option.{option_copied}
use Rattle.ftc_protocol.specs.Jobs.{since_of}
use Rattle.ftc_protocol.specs.Legal.{IsHeld}
use Rattle.ftc_protocol.specs.Setting.{Setting}
use Rattle.ftc_protocol.specs.State.{ChainState, Message}
use Rattle.ftc_refinement.specs.Contents.{IsServerAt}
use Rattle.ftc_server.specs.declared.held.HeldMessage.{HeldMessage}
use Rattle.ftc_server.specs.declared.server.Server.{Server}
use Rattle.ftc_server.specs.declared.work.Work.{Work}
use Rattle.ftc_server.specs.Holding.{found}
use Rattle.ftc_server.specs.Work.{first_with_work, work_for_found, work_for}
use Rattle.ftc_network.specs.Stand.{IsUp}
use Rattle.ftc_jobs.specs.Rest.{IsResting}
use Rattle.ftc_jobs.proofs.FirstWork.{IsFirstOf, IsPassed, all_passed, first_of, found_before, no_first, so_of_found}
use Rattle.ftc_jobs.proofs.FirstWork.{some_first}
use Rattle.ftc_jobs.proofs.Standing.{down_holds_none, is_up_there}
use Rattle.ftc_jobs.proofs.works.first_at.Goals.{In_ok-live, In_ok-origin}
use Rattle.ftc_jobs.proofs.works.first_at.Goals as goal

works_not : (o : Option Work) → Rattle.std.specs.Option.is_some o ≡ true → o ≡ None → ⊥
works_not None has none = absurd cc
works_not (Some work) has none = absurd cc

-- the server that was read is up
up_there : (c : In_ok-live) (setting : Setting) (state : ChainState) → IsResting setting state c.args.network.now →
    IsUp setting state c.args.server c.in_ok-live.live.now
up_there c setting state rest =
    is_up_there setting state c.args.network.now rest c.args.server c.in_ok-live.live.now
    (sym c.server_at.ensures ∙ ap (λ o. option_copied o) c.in_ok-live.was)

-- the message of that origin is the first with work that the server holds
record IsChosen (state : ChainState) (server : ℕ) (live : Server) (origin : ℕ) : Type 0 where
  held : HeldMessage
  origin_is : held.message.origin ≡ origin
  first : IsFirstOf live.others.items live.held.items held
  there : found origin live.held.items ≡ Some held
  own : (message : Message) × IsHeld state server held.message.origin message

chosen : (c : In_ok-origin) (setting : Setting) (state : ChainState) →
    IsServerAt setting state c.args.server c.in_ok-live.live.now →
    IsChosen state c.args.server c.in_ok-live.live.now c.in_ok-origin.origin
chosen c setting state at =
    let live = c.in_ok-live.live.now in
    let others = live.others.items in
    let items = live.held.items in
    let one = some_first (first_with_work others items) c.in_ok-origin.origin
    (sym c.first_work.ensures ∙ c.in_ok-origin.was) in
    let first = first_of others items one.0 c.are_rising.ensures one.1 in
    let placed = c.held_in_turn.ensures.place setting state c.args.server one.0 first.before first.after live at
    first.parts in
    record {
      held = one.0;
      origin_is = one.2;
      first = first;
      there = subst (λ (o : ℕ). found o items ≡ Some one.0) one.2 placed.0;
      own = placed.1;
    }

pub returns-in_err-live-clause-none : goal.returns-in_err-live-clause-none
returns-in_err-live-clause-none c none setting state packets rest origin message held =
    absurd (down_holds_none setting state c.args.network.now rest.resting c.args.server
    (c.held_in_turn.ensures.holder setting state c.args.server origin message rest.resting.run held)
    (sym c.server_at.ensures ∙ ap (λ o. option_copied o) c.in_err-live.was))

pub returns-in_err-origin-clause-none : goal.returns-in_err-origin-clause-none
returns-in_err-origin-clause-none c none setting state packets rest origin message held =
    let server = c.args.server in
    let live = c.in_ok-live.live.now in
    let run = rest.resting.run in
    let up = up_there (goal.at.returns-in_err-origin-clause-none c).In_ok-live setting state rest.resting in
    let there = c.held_in_turn.ensures.there setting state server origin message live up.at held in
    let passed = so_of_found (IsPassed live.others.items) origin live.held.items there.0
    (all_passed live.others.items live.held.items c.are_rising.ensures
    (no_first (first_with_work live.others.items live.held.items)
    (sym c.first_work.ensures ∙ c.in_err-origin.was))) there.1 in
    c.what_work_is.ensures.none setting state server origin there.0 live run rest.resting.none_due up.at there.1
    passed.rising
    (ap (work_for_found live.others.items) there.1 ∙ passed.idle)

pub returns-in_err-work-clause-none : goal.returns-in_err-work-clause-none
returns-in_err-work-clause-none c none setting state packets rest another message held =
    let others = c.in_ok-live.live.now.others.items in
    let paths = goal.at.returns-in_err-work-clause-none c in
    let up = up_there paths.In_ok-live setting state rest.resting in
    let one = chosen paths.In_ok-origin setting state up.at in
    absurd (works_not (work_for others one.held) one.first.works
    (sym (ap (work_for_found others) one.there) ∙ (sym c.work_of.ensures.work ∙ c.in_err-work.was)))

pub returns-clause-some : goal.returns-clause-some
returns-clause-some c setting state packets rest =
    let server = c.args.server in
    let live = c.in_ok-live.live.now in
    let others = live.others.items in
    let items = live.held.items in
    let run = rest.resting.run in
    let paths = goal.at.returns-clause-some c in
    let up = up_there paths.In_ok-live setting state rest.resting in
    let one = chosen paths.In_ok-origin setting state up.at in
    let first = one.first in
    let own = one.own in
    record {
      origin = c.in_ok-origin.origin;
      work = c.job_of_work.ensures setting state packets one.held live rest up.at one.there first.rising
          (sym c.work_of.ensures.work ∙ c.in_ok-work.was);
      before = λ another message held sooner.
          let any = c.held_in_turn.ensures.sooner setting state server another one.held own.0 message first.before
          first.after
          live up.at first.parts own.1.0 held
          (subst (λ (n : ℕ). message.since < n)
          (ap (λ (o : ℕ). since_of (state.message o)) (sym one.origin_is) ∙ ap since_of own.1.0) sooner) in
          let earlier = found_before (IsPassed others) another first.before (one.held ∷ first.after) first.passed any in
          let found_there : found another items ≡ Some earlier.0 =
          ap (λ (list : List HeldMessage). found another list) first.parts ∙ earlier.1 in
          c.what_work_is.ensures.none setting state server another earlier.0 live run rest.resting.none_due up.at
          found_there
          earlier.2.rising (ap (work_for_found others) found_there ∙ earlier.2.idle);
    }

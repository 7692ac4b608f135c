use Rattle.std.proofs.Common.{◌≡◌, ◌∙◌, ◌++◌, [], ◌∷◌, ℕ, Option, Some, refl, sym, ap, subst, map}
use Rattle.std.proofs.Math.Logic.{∥∥₁_elim, ∥∥₁_prop, ∥∥₁_map₂}
use Rattle.std.proofs.lemmas.Result.{IfOk-weaker}
use Rattle.std.proofs.lemmas.Option.{same_Some}
use Rattle.ftc_journal.specs.declared.event.Event.TheVariants as event
use Rattle.ftc_protocol.specs.Legal.{IsLegal}
use Rattle.ftc_protocol.specs.Next.{next}
use Rattle.ftc_server.specs.declared.answers.CommitAnswer.TheVariants.{Idle}
use Rattle.ftc_server.specs.declared.server.Server.{Server}
use Rattle.ftc_server.specs.State.{ServerState}
use Rattle.ftc_txn.specs.Slots.{Running, slot_at}
use Rattle.ftc_visits.specs.Made.{AreMade, IsMadeBy, mark_of}
use Rattle.ftc_network.specs.Committing.{HasMade, SlotFollowsCommit, commit_answer}
use Rattle.ftc_network.specs.Slots.{head_of, runs_in, SlotEndsVisit}
use Rattle.ftc_network.specs.Stand.{IsSlot, IsUp}
use Rattle.ftc_network.proofs.CommittedSlots.{may_rise_at, undone_still, where_undone}
use Rattle.ftc_network.proofs.RunSlots.{emptied_runs}
use Rattle.ftc_network.proofs.committing.commit_at.Goals as goal

pub commit_there-requires : goal.commit_there-requires
commit_there-requires c =
    may_rise_at c.args.slot.now c.in-Some.live c.args.server c.in-Some.is
    (λ setting state run at few. c.what_a_commit_wants.ensures setting state c.args.server c.in-Some.live run at few)
    c.requires

pub returns-in-Some-clause-ends : goal.returns-in-Some-clause-ends
returns-in-Some-clause-ends c =
    subst (λ (o : Option Server). SlotEndsVisit o (Some c.commit_there.new.live) c.args.worker
    (commit_answer c.commit_there.result)) (sym c.in-Some.is) c.commit_there.ensures.ends

pub returns-in-None-clause-ends : goal.returns-in-None-clause-ends
returns-in-None-clause-ends c =
    subst (λ (o : Option Server). SlotEndsVisit o o c.args.worker Idle) (sym c.in-None.is) (refl, refl)

pub returns-in-Some-clause-stands : goal.returns-in-Some-clause-stands
returns-in-Some-clause-stands c =
    let old = c.in-Some.live in
    let new = c.commit_there.new.live in
    where_undone old new c.args.worker c.commit_there.result _
    (λ answer not ends. undone_still c.args.slot.now old new c.args.worker answer c.in-Some.is
    (λ setting state number at done apart. c.what_stays.ensures.undone setting state number c.args.worker answer old new
    at done apart) not ends) c.commit_there.ensures.ends c.commit_there.ensures.undone

pub returns-in-Some-clause-follows : goal.returns-in-Some-clause-follows
returns-in-Some-clause-follows c =
    let old = c.in-Some.live in
    let new = c.commit_there.new.live in
    let server = c.args.server in
    let worker = c.args.worker in
    IfOk-weaker c.commit_there.result (HasMade old new worker)
    (SlotFollowsCommit worker server c.args.slot.now (Some new))
    (λ visit done setting state running visits run none_due is runs visits_are.
    let up : IsUp setting state server old = subst (IsSlot setting state server) c.in-Some.is is in
    let runs_there : slot_at old.head.slots worker ≡ Some running =
    subst (λ (o : Option Server). runs_in (head_of o) worker ≡ Some running) c.in-Some.is runs in
    let this : done.running ≡ running = same_Some done.running running (sym done.runs.slot ∙ runs_there) in
    let rest = done.visited.rest in
    let number : new.id ≡ server = ap (λ (s : ServerState). s.id) rest ∙ up.at.number_is in
    let parts : new.partitions ≡ setting.partitions =
    ap (λ (s : ServerState). s.partitions) rest ∙ up.at.partitions in
    let made_is : IsMadeBy setting.partitions server done.running.packet done.running.answers new.head.vector visit =
    record {
      server_is = done.made.server_is ∙ number;
      packet_is = done.made.packet_is;
      needed = done.made.needed
          ∙ ap (λ (n : ℕ). map (mark_of n new.head.vector) done.running.answers) parts;
    } in
    subst (λ (r : Running). ∥ IsLegal setting state (event.Visit server r.packet worker)
    × IsUp setting (next setting state (event.Visit server r.packet worker)) server new
    × AreMade setting (next setting state (event.Visit server r.packet worker)) (visits ++ visit ∷ []) ∥₁) this
    (∥∥₁_elim
    (c.what_runs_may_be_visited.ensures setting state server worker old done.running run up none_due done.runs.slot)
    ∥∥₁_prop (λ legal. ∥∥₁_map₂
    (c.what_a_commit_does.ensures setting state server worker done.running done.end old new run legal up.at done.runs
    done.asked done.visited)
    (c.a_made_visit_is_added.ensures setting state server worker done.running done.end old new visits visit run legal
    up.at done.runs done.asked done.visited made_is visits_are)
    (λ at added. (
      legal,
      record {
        up = up.up;
        at = at;
        ready = c.slots_stay_ready.ensures setting state (event.Visit server done.running.packet worker) server old new
            run legal up.at at (emptied_runs old new worker done.visited.head.slots) up.ready;
      },
      added,
    ))))) c.commit_there.ensures.made

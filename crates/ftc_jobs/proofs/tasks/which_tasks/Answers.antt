use Rattle.std.proofs.Common.{◌≡◌, ◌∙◌, Bool, true, false, Some, sym, ap, subst, cond}
use Rattle.ftc_base.specs.declared.limits.TheConstants.{FINISHING_SLOT}
use Rattle.ftc_journal.specs.declared.job.Job.TheVariants as job
use Rattle.ftc_protocol.specs.Jobs.{IsLegalJob, IsWork}
use Rattle.ftc_protocol.specs.Legal.{MayLeave}
use Rattle.ftc_protocol.specs.State.{ChainState, Message}
use Rattle.ftc_server.specs.declared.work.Work.TheVariants.{Visit, Send, Carry}
use Rattle.ftc_server.specs.Looks.{work_in}
use Rattle.ftc_server.specs.Work.{is_waiting, work_for_found}
use Rattle.ftc_network.specs.Parts.{server_in}
use Rattle.ftc_refinement.proofs.Messages.{found_as}
use Rattle.ftc_refinement.proofs.Works.{last_comes, same_flags}
use Rattle.ftc_jobs.proofs.Standing.{down_holds_none, is_up_there}
use Rattle.ftc_jobs.proofs.WorkAt.{at_slot}
use Rattle.ftc_jobs.proofs.tasks.which_tasks.Goals as goal

pub returns-clause-visit : goal.returns-clause-visit
returns-clause-visit c setting state network server packet rest =
    at_slot (IsLegalJob setting state (job.Visit server packet)) (server_in network.servers.items server) packet Visit
    (λ live slot.
    let up = is_up_there setting state network rest server live slot in
    let says = c.what_work_says.ensures.visit setting state server packet FINISHING_SLOT live rest.run up.at in
    ((λ works. (says.0 works, λ other. rest.none_due)), (λ legal. says.1 legal.0)))
    (λ slot legal.
    let may = legal.0 in
    down_holds_none setting state network rest server
    (c.held_in_turn.ensures.holder setting state server packet may.0 rest.run (may.3, false, may.2, may.4)) slot)

pub returns-clause-send : goal.returns-clause-send
returns-clause-send c setting state network server origin rest =
    at_slot ((message : Message)
    × MayLeave setting state server origin message) (server_in network.servers.items server)
    origin Send
    (λ live slot.
    let up = is_up_there setting state network rest server live slot in
    c.what_work_says.ensures.send setting state server origin live rest.run up.at)
    (λ slot leaves.
    let may = leaves.1 in
    down_holds_none setting state network rest server
    (c.held_in_turn.ensures.holder setting state server origin leaves.0 rest.run
    (may.there, may.visited, false, may.held)) slot)

pub returns-clause-carry : goal.returns-clause-carry
returns-clause-carry c setting state network origin rest =
    at_slot (IsLegalJob setting state (job.Carry origin)) (server_in network.servers.items 0) origin Carry
    (λ live slot.
    let up = is_up_there setting state network rest 0 live slot in (
      (λ works. (
        c.what_work_says.ensures.carry setting state origin live rest.run up.at works,
        λ other. rest.none_due,
      )),
      (λ legal.
          let may = legal.0 in
          let there_as = found_as setting state 0 origin may.0 may.2 true live.held.items may.1 may.3 up.at.stands.held
          in
          let held = there_as.held in
          let flags = same_flags 0 held.visited held.by_ring may.2 true (sym there_as.stands.place ∙ may.3) in
          let ready = (c.what_is_ready.ensures setting state 0 origin may.2 true may.0 held live rest.run up.at may.1
          may.3
          there_as.there).1 may.4 in
          let comes = ap (work_for_found live.others.items) there_as.there ∙ last_comes live.others.items held ready in
          let carried = subst (λ (s : ChainState). IsLegalJob setting s (job.Carry origin) →
          IsWork setting s 0 origin (job.Carry origin)) rest.run.reaches
          (c.work.ensures.carry setting rest.run.right rest.run.journal rest.run.run origin) legal in
          elim (is_waiting held) as (λ b. work_in live origin ≡ Some (cond b Visit (cond held.by_ring Carry Send)) →
          work_in live origin ≡ Some Carry) [
            | true ↦ λ works.
                let visited = c.what_work_is.ensures.visit setting state 0 origin live rest.run rest.none_due up.at
                works in
                absurd (carried.3 visited.3)
            | false ↦ λ works. works ∙ ap (λ (b : Bool). Some (cond b Carry Send)) flags.1
          ] comes),
    ))
    (λ slot legal.
    let may = legal.0 in
    down_holds_none setting state network rest 0
    (c.held_in_turn.ensures.holder setting state 0 origin may.0 rest.run (may.1, may.2, true, may.3)) slot)

use Rattle.std.proofs.Common.{◌<◌, List, subst}
use Rattle.std.proofs.lemmas.Result.{IfOk-weaker}
use Rattle.ftc_ring.specs.Ring.{RingShape}
use Rattle.ftc_journal.specs.declared.event.VisitName.{VisitName}
use Rattle.ftc_machine.proofs.UndoneTests.{undone_is}
use Rattle.ftc_machine.proofs.state.MachineState.undone.Goals as goal

pub returns : goal.returns
returns c = IfOk-weaker c.undone_between.result _ _ (λ (names : List VisitName) are setting s of is.
    let k = c.args.self.now in
    let below = λ (n : _) (less : n < k.ring.servers). subst (λ (ring : RingShape). n < ring.servers) is.ring less in
    undone_is setting s of k is c.previous_live-previous.result c.following_live-following.result
    (below c.following_live-following.result c.following_live-following.ensures.within)
    c.args.server names (below c.args.server c.requires) c.previous_live-previous.ensures.same
    c.following_live-following.ensures.same are) c.undone_between.ensures

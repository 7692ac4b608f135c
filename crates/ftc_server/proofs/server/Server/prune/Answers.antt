use Rattle.ftc_server.proofs.Grown.{pruned_grown, pruned_unreached, watched_grown}
use Rattle.ftc_server.proofs.HadBefore.{had_grown}
use Rattle.ftc_server.proofs.server.Server.prune.Goals as goal

pub invariant_of-self-clause-watched : goal.invariant_of-self-clause-watched
invariant_of-self-clause-watched c =
    let server = c.args.self.now in
    let others = c.prune-2.new.replicas.items in
    watched_grown server.others.items others server.held.items server.held.resting server.waits.items
    (pruned_grown server.known server.others.items others c.prune-2.ensures.pruned) server.«watched»

pub invariant_of-self-clause-unreached : goal.invariant_of-self-clause-unreached
invariant_of-self-clause-unreached c =
    let server = c.args.self.now in
    pruned_unreached server.known server.others.items c.prune-2.new.replicas.items server.waits.items
    c.prune-2.ensures.pruned server.«unreached»

pub invariant_of-self-clause-had : goal.invariant_of-self-clause-had
invariant_of-self-clause-had c =
    let server = c.args.self.now in
    let others = c.prune-2.new.replicas.items in
    had_grown server.others.items others server.held.items server.held.had
    (pruned_grown server.known server.others.items others c.prune-2.ensures.pruned) server.«had»

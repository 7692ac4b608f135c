use Rattle.std.proofs.Common.{◌≡◌, ◌∙◌, List, rules, sym, ap}
use Rattle.ftc_message.specs.Logged.{Logged}
use Rattle.ftc_replica.specs.Held.{Held}
use Rattle.ftc_replica.specs.InTurn.{applied_all}
use Rattle.ftc_replica.specs.Kept.{missing}
use Rattle.ftc_server.specs.Looks.{replica_in}
use Rattle.ftc_network.proofs.pulling.pulled_one.Goals as goal

pub pull_one-requires-clause-reach : goal.pull_one-requires-clause-reach
pull_one-requires-clause-reach c =
    let mine : Held = replica_in c.args.receiver.now c.args.group in
    let same : c.in_ok-replica.replica ≡ mine = search rules in
    ap (λ (held : Held). (applied_all (missing held.vector c.kept_of-2.result.now.items) held).vector) same
    ∙ ap (λ (kept : List Logged). (applied_all (missing mine.vector kept) mine).vector) c.kept_of-2.ensures
    ∙ c.requires.reach ∙ sym c.vector_of-2.ensures

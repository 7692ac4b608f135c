use Rattle.ftc_network.proofs.ReadySlots.{same_still}
use Rattle.std.proofs.Common.{◌≡◌, ap}
use Rattle.std.proofs.lemmas.Result.{on_err_weaker}
use Rattle.ftc_network.proofs.Heads.{same_head, either_way}
use Rattle.ftc_server.specs.State.{ServerState}
use Rattle.ftc_network.proofs.pulling.install_at.Goals as goal

pub returns-in-Some-clause-err : goal.returns-in-Some-clause-err
returns-in-Some-clause-err c =
    let old = c.in-Some.server in
    let new = c.install.new.self in
    on_err_weaker c.install.result (λ same. same_still c.args.slot.now old new c.in-Some.is same
    (λ setting state number at fields. c.what_stays.ensures.same setting state number old new at fields))
    c.install.ensures.err

pub returns-in-Some-clause-heads : goal.returns-in-Some-clause-heads
returns-in-Some-clause-heads c =
    same_head c.args.slot.now c.in-Some.server c.install.new.self c.in-Some.is
    (either_way c.install.result _ _ (c.install.new.self.head ≡ c.in-Some.server.head)
    (λ done. ap (λ (s : ServerState). s.head) done.rest)
    (λ same. ap (λ (s : ServerState). s.head) same) c.install.ensures.ok c.install.ensures.err)

use Rattle.ftc_server.proofs.HadBefore.{none_noted}
use Rattle.ftc_server.proofs.tests.resting.first.Goals as goal

pub first_with_work-requires : goal.first_with_work-requires
first_with_work-requires c =
    none_noted c.args.replicas.now c.forget_all.new.self.items c.forget_all.new.self.had c.forget_all.ensures.had

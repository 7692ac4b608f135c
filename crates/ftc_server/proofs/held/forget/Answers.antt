use Rattle.std.specs.Map.{lookup}
use Rattle.std.specs.Prelude.{nat_eq}
use Rattle.ftc_server.proofs.Noted.{off_itself, off_other}
use Rattle.ftc_server.proofs.held.forget.Goals as goal

pub returns-clause-unseen : goal.returns-clause-unseen
returns-clause-unseen c =
    let origin = c.args.origin in
    off_itself origin (lookup (nat_eq origin) c.args.had.now.entries) (lookup (nat_eq origin) c.remove.new.self.entries)
    (c.remove.ensures.updates.0 origin)

pub returns-clause-others : goal.returns-clause-others
returns-clause-others c = λ other differs.
    off_other c.args.origin other (lookup (nat_eq other) c.args.had.now.entries)
    (lookup (nat_eq other) c.remove.new.self.entries) differs (c.remove.ensures.updates.0 other)

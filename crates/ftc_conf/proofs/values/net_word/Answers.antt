use Rattle.std.proofs.Common.{sym, ◌∙◌}
use Rattle.ftc_conf.proofs.Nets.{read_net}
use Rattle.ftc_conf.proofs.values.net_word.Goals as goal

pub returns-in-Ok-clause-bounds : goal.returns-in-Ok-clause-bounds
returns-in-Ok-clause-bounds c = read_net c.args.word.now c.in-Ok.value (sym c.net.ensures ∙ c.in-Ok.is)

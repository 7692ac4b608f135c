use Rattle.ftc_protocol.proofs.Prefixes.{sound_before}
use Rattle.ftc_protocol.proofs.states.every_moment.Goals as goal

pub returns : goal.returns
returns c = sound_before

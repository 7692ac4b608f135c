use Rattle.ftc_recover.proofs.Turns.{content_after, kept_after, turn_more}
use Rattle.ftc_recover.proofs.laws.in_turn.Goals as goal

pub returns : goal.returns
returns c = record { content = content_after; kept = kept_after; more = turn_more }

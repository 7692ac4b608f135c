use Rattle.std.proofs.Common.{◌≡◌, true, rules}
use Rattle.ftc_base.specs.declared.limits.TheConstants.{MOST_SERVERS}
use Rattle.ftc_watch.specs.Members.{are_below}
use Rattle.ftc_watch.proofs.Sets.{below_more}
use Rattle.ftc_watch.proofs.words.tick_at.Goals as goal

pub set_of-servers-requires : goal.set_of-servers-requires
set_of-servers-requires c =
    let within : are_below c.args.servers c.args.numbers.now ≡ true = search rules in
    below_more c.args.servers MOST_SERVERS c.args.numbers.now c.requires within

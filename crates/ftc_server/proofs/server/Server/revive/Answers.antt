use Rattle.std.proofs.Common.{◌∙◌, ap, rules}
use Rattle.ftc_server.specs.State.{ServerState}
use Rattle.ftc_server.proofs.Installing.{later_here}
use Rattle.ftc_server.proofs.server.Server.revive.Goals as goal

pub install-requires : goal.install-requires
install-requires c =
    let opening = c.in_ok-server.ensures in
    later_here c.know_own.new.self c.args.ring.now c.args.id c.args.others
    (ap (λ (s : ServerState). s.ring) c.know_own.ensures.rest ∙ opening.ring_is)
    (ap (λ (s : ServerState). s.id) c.know_own.ensures.rest ∙ opening.id_is)
    c.requires.others

pub returns : goal.returns
returns c = record {
  ring_is = search rules;
  id_is = search rules;
  rule_is = search rules;
  partitions_is = search rules;
  content = search rules;
  vector = search rules;
  idle = search rules;
  kept = search rules;
  first = c.in_ok-server.server.others.items;
  empty = search rules;
  others = search rules;
  knows = search rules;
  held = search rules;
  buffer = search rules;
  forwarder = search rules;
}

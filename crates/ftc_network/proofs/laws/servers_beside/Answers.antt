use Rattle.std.proofs.Common.{◌∙◌, Some, None, refl}
use Rattle.ftc_refinement.specs.Contents.{contents_of}
use Rattle.ftc_protocol.specs.Next.{next}
use Rattle.ftc_refinement.specs.Contents.{IsServerAt}
use Rattle.ftc_network.proofs.ReadySlots.{same_runs}
use Rattle.ftc_network.proofs.laws.servers_beside.Goals as goal

pub returns : goal.returns
returns c setting state event number None run legal beside down =
    (c.others_as_before.ensures.server setting state event number run legal beside).up ∙ down
returns c setting state event number (Some server) run legal beside is =
    let at : IsServerAt setting (next setting state event) number server = record {
      ring = is.at.ring;
      number_is = is.at.number_is;
      rule = is.at.rule;
      partitions = is.at.partitions;
      stands = c.servers_stand_still.ensures setting state event number
          (contents_of server) run legal beside is.at.stands;
    } in
    record {
      up = (c.others_as_before.ensures.server setting state event number run legal beside).up ∙ is.up;
      at = at;
      ready = c.slots_stay_ready.ensures setting state event number server server run legal is.at at
          (same_runs server server refl) is.ready;
    }

use Rattle.std.proofs.Common.{◌∙◌, sym, ap, subst}
use Rattle.ftc_standing.specs.Stand.{IsEmptySlot}
use Rattle.ftc_refinement.specs.Contents.{items_of, contents_of}
use Rattle.ftc_refinement.proofs.OpeningServer.{empty_slot}
use Rattle.ftc_refinement.proofs.still.what_new_makes.Goals as goal

pub returns : goal.returns
returns c setting server new inside is = record {
  ring = is.ring_is;
  number_is = is.id_is;
  rule = is.rule_is;
  partitions = is.partitions_is;
  stands = c.all_stand.ensures.server setting server (contents_of new)
      (record {
        keys = new.head_partitions ∙ is.partitions_is;
        content = is.content;
        vector = is.vector;
        kept = is.kept;
      })
      (λ group below. subst (IsEmptySlot setting server group) (sym (is.others group below))
      (empty_slot setting server group))
      is.known
      (ap items_of is.held)
      is.buffer
      is.forwarder;
}

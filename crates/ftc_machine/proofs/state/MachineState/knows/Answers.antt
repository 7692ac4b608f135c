use Rattle.std.proofs.Common.{◌≡◌, ◌<◌, ◌==◌, ◌∙◌, [], ap, arith}
use Rattle.std.proofs.lemmas.List.{get_or_read}
use Rattle.ftc_vector.specs.Commits.{all_merged, group_raised}
use Rattle.ftc_machine.specs.Represents.{frontiers_of}
use Rattle.ftc_ring.specs.Groups.{group_ending_at}
use Rattle.ftc_machine.specs.Tails.{part_of}
use Rattle.ftc_machine.proofs.GroupParts.{raised_known}
use Rattle.ftc_machine.proofs.state.MachineState.knows.Goals as goal

pub returns : goal.returns
returns c =
    let k = c.args.self.now in
    let server = c.args.server in
    let ending = group_ending_at k.ring server in
    let place : c.from-place.result ≡ server = c.from-place.ensures ∙ c.number.ensures.same in
    let below : server < k.ring.servers = c.requires in
    let is : c.group_ending_at-ending.result ≡ ending = c.group_ending_at-ending.ensures.same in
    let known : c.index.result.now ≡ frontiers_of k.known.items server =
    get_or_read k.known.items c.from-place.result c.index.result.now (let long = k.each_known in
    omega arith) c.index.ensures [] ∙ ap (frontiers_of k.known.items) place in
    let list : c.index-2.result.now ≡ frontiers_of k.lists.items server =
    get_or_read k.lists.items c.from-place.result c.index-2.result.now (let long = k.each_list in
    omega arith) c.index-2.ensures [] ∙ ap (frontiers_of k.lists.items) place in
    c.raise.ensures ∙ ap (group_raised c.index.result.now c.group_ending_at-ending.result) c.of.ensures.same
    ∙ raised_known c.index.result.now c.index-2.result.now c.group_ending_at-ending.result c.bounds.ensures.size
    c.bounds.ensures.each
    ∙ (λ i. all_merged (known i) (part_of (λ other. other == is i) (list i)))

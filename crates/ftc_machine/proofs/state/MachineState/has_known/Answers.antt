use Rattle.std.proofs.Common.{◌≡◌, ◌<◌, ◌==◌, ◌∙◌, ℕ, List, [], false, refl, sym, ap, subst, arith}
use Rattle.std.proofs.lemmas.List.{get_or_read}
use Rattle.ftc_base.specs.declared.limits.TheConstants.{MOST_SERVERS}
use Rattle.ftc_vector.specs.Vector.{IsVector}
use Rattle.ftc_vector.specs.Commits.{vector_of, all_merged}
use Rattle.ftc_machine.specs.declared.state.MachineState.{MachineState}
use Rattle.ftc_machine.specs.Frontier.{is_had_by}
use Rattle.ftc_machine.specs.Represents.{frontiers_of}
use Rattle.ftc_machine.specs.Tails.{part_of}
use Rattle.ftc_machine.proofs.GroupParts.{known_row}
use Rattle.ftc_machine.proofs.state.MachineState.has_known.Goals as goal

-- another group's row is as it is kept
pub returns : goal.returns
returns c =
    let k : MachineState = c.args.self.now in
    let server : ℕ = c.args.server in
    let group : ℕ = c.args.group in
    let place : c.from-place.result ≡ server = c.from-place.ensures ∙ c.number.ensures.same in
    let below : server < k.ring.servers = c.requires in
    let known : c.index.result.now ≡ frontiers_of k.known.items server =
    get_or_read k.known.items c.from-place.result c.index.result.now
    (let long = k.each_known in omega (arith, below, long, place)) c.index.ensures []
    ∙ ap (frontiers_of k.known.items) place in
    let list = frontiers_of k.lists.items server in
    let ending = c.group_ending_at.result in
    let test : (group == ending) ≡ false = sym c.eq.ensures ∙ c.if-eq.false in
    let row = known_row c.index.result.now list ending group
    (subst (λ (number : ℕ). number < MOST_SERVERS) c.number-2.ensures.same c.number-2.ensures.within)
    (subst IsVector c.of-known.ensures.same c.at.ensures.bounds) in
    c.is_had_by-2.ensures ∙ ap (is_had_by c.args.footprint.now)
    (c.of-known.ensures.same ∙ sym (row ∙ rw test refl)
    ∙ (λ i. vector_of (all_merged (known i) (part_of (λ other. other == c.group_ending_at.ensures.same i) list)) group))

use Rattle.std.proofs.Common.{◌≡◌, ◌<◌, ◌==◌, ◌∙◌, ℕ, List, [], true, false, refl, sym, ap, subst, arith}
use Rattle.std.proofs.lemmas.List.{get_or_read}
use Rattle.ftc_base.specs.declared.limits.TheConstants.{MOST_SERVERS}
use Rattle.ftc_vector.specs.Vector.{merged, IsVector}
use Rattle.ftc_vector.specs.Commits.{vector_of, all_merged}
use Rattle.ftc_machine.specs.declared.state.MachineState.{MachineState}
use Rattle.ftc_machine.specs.Represents.{frontiers_of}
use Rattle.ftc_machine.specs.Tails.{part_of}
use Rattle.ftc_machine.proofs.GroupParts.{known_row, row_with}
use Rattle.ftc_machine.proofs.state.MachineState.knows_of.Goals.{After-eq}
use Rattle.ftc_machine.proofs.state.MachineState.knows_of.Goals as goal

-- the place of the server, and what is read there of what it knows
module _ (c : After-eq) where
  abbrev k : MachineState
  k = c.args.self.now

  place : c.from-place.result ≡ c.args.server
  place = c.from-place.ensures ∙ c.number.ensures.same

  known : c.index.result.now ≡ frontiers_of k.known.items c.args.server
  known =
      let below : c.args.server < k.ring.servers = c.requires in
      get_or_read k.known.items c.from-place.result c.index.result.now
      (let long = k.each_known in omega (arith, below, long, place)) c.index.ensures []
      ∙ ap (frontiers_of k.known.items) place

  -- with a list of the group that ends there, the group's row is merged, and other groups' rows are as they were
  row : (list : List (List ℕ)) →
      vector_of (all_merged c.index.result.now (part_of (λ other. other == c.group_ending_at.result) list)) c.args.group
      ≡ row_with c.index.result.now list c.group_ending_at.result c.args.group
  row list = known_row c.index.result.now list c.group_ending_at.result c.args.group
      (subst (λ (number : ℕ). number < MOST_SERVERS) c.number-2.ensures.same c.number-2.ensures.within)
      (subst IsVector c.of.ensures.same c.at.ensures.bounds)

pub returns-then-eq : goal.returns-then-eq
returns-then-eq c =
    let read = (goal.at.returns-then-eq c).After-eq in
    let k = c.args.self.now in
    let server = c.args.server in
    let below : server < k.ring.servers = c.requires in
    let list : c.index-then-eq.result.now ≡ frontiers_of k.lists.items server =
    get_or_read k.lists.items c.from-place.result c.index-then-eq.result.now
    (let long = k.each_list in omega (arith, below, long, place read)) c.index-then-eq.ensures []
    ∙ ap (frontiers_of k.lists.items) (place read) in
    let test : (c.args.group == c.group_ending_at.result) ≡ true = sym c.eq.ensures ∙ c.if-eq.true in
    c.merge.ensures ∙ (λ i. merged (c.of.ensures.same i) (c.of-then-eq.ensures.same i))
    ∙ sym (row read c.index-then-eq.result.now ∙ rw test refl)
    ∙ (λ i. vector_of (all_merged (known read i) (part_of (λ other. other == c.group_ending_at.ensures.same i)
    (list i))) c.args.group)

pub returns-else-eq : goal.returns-else-eq
returns-else-eq c =
    let read = (goal.at.returns-else-eq c).After-eq in
    let list = frontiers_of c.args.self.now.lists.items c.args.server in
    let test : (c.args.group == c.group_ending_at.result) ≡ false = sym c.eq.ensures ∙ c.if-eq.false in
    c.of.ensures.same ∙ sym (row read list ∙ rw test refl)
    ∙ (λ i. vector_of (all_merged (known read i) (part_of (λ other. other == c.group_ending_at.ensures.same i) list))
    c.args.group)

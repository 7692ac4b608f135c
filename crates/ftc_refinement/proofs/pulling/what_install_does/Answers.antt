use Rattle.std.proofs.Common.{◌≡◌, ◌∙◌, ◌<◌, ℕ, true, false, Option, Some, None, length, refl, sym, ap, subst}
use Rattle.std.specs.List.{find}
use Rattle.std.proofs.lemmas.Bool.{eqb-true}
use Rattle.ftc_base.proofs.EachOf.{all-weaker}
use Rattle.ftc_journal.specs.declared.event.Event.TheVariants as event
use Rattle.ftc_replica.specs.Held.{Held}
use Rattle.ftc_ring.specs.Ring.{next_of, RingShape}
use Rattle.ftc_vector.specs.Commits.{group_raised}
use Rattle.ftc_protocol.specs.Setting.{servers, shape}
use Rattle.ftc_protocol.specs.Next.{next}
use Rattle.ftc_ties.specs.Servers.{is_shared}
use Rattle.ftc_server.specs.declared.recovering.GroupReplica.{GroupReplica}
use Rattle.ftc_server.specs.Looks.{replica_or_own}
use Rattle.ftc_server.specs.Replicas.{replica_at}
use Rattle.ftc_server.specs.Standing.{group_ending_at}
use Rattle.ftc_server.specs.State.{ServerState}
use Rattle.ftc_server.specs.Steps.{with_installed, known_with}
use Rattle.ftc_standing.specs.Stand.{replica_kept}
use Rattle.ftc_refinement.specs.Contents.{items_of, contents_of}
use Rattle.ftc_refinement.specs.Pulled.{IsPulledOf, pulled, is_of_group}
use Rattle.ftc_refinement.proofs.Fields.{same_contents, same_own, stands_with}
use Rattle.ftc_refinement.proofs.Messages.{found_is}
use Rattle.ftc_refinement.proofs.PulledReplicas.{in_place, installed_at, known_by}
use Rattle.ftc_refinement.proofs.ReplicaCalls.{with_replicas}
use Rattle.ftc_refinement.proofs.pulling.what_install_does.Goals as goal

pub returns : goal.returns
returns c setting state link tail old new sender news run legal inside tail_is shared is sends are done =
    let receiver = next_of (servers setting) link in
    let others = old.others.items in
    let later = with_installed news others in
    let order = c.order_of_a_state.ensures setting state run in
    let up = order.inside receiver legal.0.1 in
    let long = ap (λ (r : RingShape). r.servers) is.ring in
    let size = old.each_group ∙ long in
    let within = all-weaker (IsPulledOf setting link old sender) (λ (n : GroupReplica). n.group < length others)
    (λ n its. subst (λ m. n.group < m) (sym size) its.inside) news are.each in
    let at = λ (group : ℕ). installed_at news others group within in
    let its = λ (group : ℕ) (one : GroupReplica) (found : find (is_of_group group) news ≡ Some one).
    found_is (IsPulledOf setting link old sender) (is_of_group group) news one are.each found in
    let gets : (group : ℕ) → group < servers setting → is_shared setting group link receiver ≡ true →
    (mine : Held) × (theirs : Held) × (replica_at others group ≡ Some mine)
    × (replica_kept link (contents_of sender) group ≡ Some theirs)
    × (replica_at later group ≡ Some (pulled mine theirs)) = λ group below both.
    let one = are.all group below both in
    let facts = its group one.0 one.1 in
    let named = eqb-true one.0.group group facts.1 in (
      facts.0.mine,
      facts.0.theirs,
      ap (replica_at others) (sym named) ∙ facts.0.mine_is,
      ap (replica_kept link (contents_of sender)) (sym named) ∙ facts.0.theirs_is,
      at group ∙ (put_in (find (is_of_group group) news) one.0 (replica_at others group) one.1
          ∙ ap (λ r. Some r) facts.0.replica),
    ) in
    let keeps = λ (group : ℕ) (below : group < servers setting)
    (apart : is_shared setting group link receiver ≡ false).
    at group ∙ left_in (find (is_of_group group) news) (replica_at others group)
    (λ one found. let facts = its group one found in
    let named = eqb-true one.group group facts.1 in
    let yes = ap (λ g. is_shared setting g link receiver) (sym named) ∙ facts.0.shared in
    absurd cc) in
    let tail_got = gets tail inside shared in
    let one = are.all tail inside shared in
    let ending = eqb-true tail (group_ending_at (shape setting) receiver)
    (c.ends.ensures (shape setting) tail receiver run.right.ring inside up ∙ tail_is) in
    let knows = done.known ∙ (ap (λ r. known_with r old.id news old.known) is.ring
    ∙ (ap (λ n. known_with (shape setting) n news old.known) is.number_is
    ∙ (known_by (shape setting) receiver old.known news one.0 are.once
    (ap (λ g. find (is_of_group g) news) (sym ending) ∙ one.1)
    ∙ (ap (λ g. group_raised old.known g one.0.replica.vector) (sym ending)
    ∙ ap (λ (r : Held). group_raised old.known tail r.vector) (its tail one.0 one.1).0.replica)))) in
    let vector = (pulled tail_got.0 tail_got.1).vector in
    stands_with setting state (next setting state (event.Pull link)) receiver old new
    (with_replicas old later (group_raised old.known tail vector)) is
    (record {
      ring = ap (λ (s : ServerState). s.ring) done.rest;
      number = ap (λ (s : ServerState). s.id) done.rest;
      rule = ap (λ (s : ServerState). s.rule) done.rest;
      partitions = ap (λ (s : ServerState). s.partitions) done.rest;
    })
    (same_contents (replica_or_own new None) (replica_or_own old None) new.others.items later new.known
    (group_raised old.known tail vector) (items_of new.held.items) (items_of old.held.items) new.buffer.items
    old.buffer.items new.forwarder old.forwarder
    (same_own new old (ap (λ (s : ServerState). s.head) done.rest) (ap (λ (s : ServerState). s.own.items) done.rest))
    done.others knows
    (ap items_of done.held)
    (ap (λ (s : ServerState). s.buffer.items) done.rest)
    (ap (λ (s : ServerState). s.forwarder) done.rest))
    (c.a_server_has_pulled.ensures.receiver setting state link tail (contents_of old)
    (contents_of sender) later tail_got.0
    tail_got.1 run legal inside tail_is shared (record {
      shared = gets;
      others = keeps;
    }) tail_got.2 tail_got.3 is.stands
    sends.stands)
  where
    put_in : (o : Option GroupReplica) (one : GroupReplica) (old : Option Held) → o ≡ Some one →
        in_place o old ≡ Some one.replica
    put_in o one old is = ap (λ o. in_place o old) is

    left_in : (o : Option GroupReplica) (old : Option Held) → ((one : GroupReplica) → o ≡ Some one → ⊥) →
        in_place o old ≡ old
    left_in None old none = refl
    left_in (Some one) old none = absurd (none one refl)

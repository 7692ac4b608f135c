use Rattle.std.proofs.Common.{◌≡◌, ◌∙◌, ◌==◌, ◌≤◌, ℕ, List, [], None, length, refl, sym, ap, subst, arith}
use Rattle.ftc_journal.specs.declared.event.Event.TheVariants as event
use Rattle.ftc_replica.specs.Held.{Held, pruned_by}
use Rattle.ftc_replica.specs.Kept.{missing}
use Rattle.ftc_message.specs.Logged.{Logged}
use Rattle.ftc_ring.specs.Ring.{RingShape}
use Rattle.ftc_store.specs.Store.{Content}
use Rattle.ftc_vector.specs.Commits.{vector_of, all_merged}
use Rattle.ftc_protocol.specs.Setting.{servers, is_member}
use Rattle.ftc_protocol.specs.Next.{next}
use Rattle.ftc_server.specs.Looks.{replica_or_own}
use Rattle.ftc_server.specs.Steps.{with_installed}
use Rattle.ftc_standing.specs.Stand.{IsServer}
use Rattle.ftc_refinement.specs.Contents.{items_of, contents_of}
use Rattle.ftc_refinement.proofs.Fields.{contents, same_contents}
use Rattle.ftc_refinement.proofs.PulledReplicas.{length_installed}
use Rattle.ftc_refinement.proofs.RevivedServer.{part_by, tail_known}
use Rattle.ftc_refinement.proofs.Unmoved.{replicas_pruned}
use Rattle.ftc_refinement.proofs.reviving.what_revive_makes.Goals as goal

abbrev held_of : Content → ℕ → List ℕ → List Logged → Held
held_of content partitions vector kept =
    record { content = content; partitions = partitions; vector = vector; kept = kept }

same_held : (c d : Content) (p q : ℕ) (v w : List ℕ) (k l : List Logged) → c ≡ d → p ≡ q → v ≡ w → k ≡ l →
    held_of c p v k ≡ held_of d q w l
same_held c d p q v w k l ec ep ev ek =
    ap (λ a. held_of a p v k) ec ∙
    (ap (λ a. held_of d a v k) ep ∙ (ap (λ a. held_of d q a k) ev ∙ ap (held_of d q w) ek))

enough : (n m : ℕ) → n ≡ m → m ≤ n
enough n m same = omega (arith, same)

pub returns : goal.returns
returns c setting state server undone previous following new own news run legal inside before behind got is =
    let after = next setting state (event.Recover server undone) in
    let known = all_merged previous.known following.known in
    let later = with_installed news is.first in
    let size = enough (length is.first) (servers setting) (sym (length_installed news is.first) ∙ (sym is.others.size
    ∙ (new.each_group ∙ ap (λ (r : RingShape). r.servers) is.ring_is))) in
    let tail = tail_known setting state server previous following own news got c.ends.ensures run.right.ring inside
    known in
    let stands = c.a_server_is_replaced.ensures.revived setting state server undone (contents_of previous)
    (contents_of following) (contents own later new.known [] [] []) run legal before.stands behind.stands
    (record {
      head = got.head;
      later = λ group below. part_by setting state server previous following own news got is.first is.empty size group
          below
          (group == server) (is_member setting group server) refl refl;
      tail = tail.tail;
      tail_inside = tail.tail_inside;
      tail_is = tail.tail_is;
      tail_replica = tail.replica;
      tail_got = tail.replica_got;
      known = is.knows ∙ tail.knows;
      held = refl;
      withheld = refl;
      forwarded = refl;
    }) in
    let head = pruned_by (vector_of new.known server) own in
    let pruned : IsServer setting after server (contents head new.others.items new.known [] [] []) = record {
      replicas = replicas_pruned setting after server new.known own later new.others.items stands.replicas
          is.others.each;
      held = stands.held;
      withheld = stands.withheld;
      forwarded = stands.forwarded;
    } in
    record {
      ring = is.ring_is;
      number_is = is.id_is;
      rule = is.rule_is;
      partitions = is.partitions_is;
      stands = subst (IsServer setting after server)
          (sym (same_contents (replica_or_own new None) head new.others.items new.others.items new.known new.known
          (items_of new.held.items) [] new.buffer.items [] new.forwarder []
          (same_held new.head.content own.content new.head.partitions own.partitions new.head.vector own.vector
          new.own.items
          (missing (vector_of new.known server) own.kept) is.content
          (new.head_partitions ∙ (is.partitions_is ∙ sym stands.replicas.own.keys)) is.vector is.kept)
          refl refl (ap items_of is.held) is.buffer is.forwarder)) pruned;
    }

use Rattle.std.proofs.Common.{◌≡◌, ◌∙◌, ◌∷◌, ◌++◌, [], ℕ, List, true, ap, sym, subst}
use Rattle.std.specs.List.{list_all}
use Rattle.ftc_server.specs.declared.recovering.GroupReplica.{GroupReplica}
use Rattle.ftc_server.specs.Looks.{is_later_of}
use Rattle.ftc_server.specs.Standing.{with_own}
use Rattle.ftc_server.specs.Steps.{with_installed, known_with}
use Rattle.ftc_server.proofs.Installing.{installed_last, known_last, later_stays, all_but_last, same_through}
use Rattle.ftc_server.proofs.recovering.put_all.Goals as goal

pub loop-new-preserved : goal.loop-new-preserved
loop-new-preserved c =
    let others = c.loop-new.others.items in
    let left = c.pop.new.self.items in
    let new = c.in-Some.new in
    let ring = c.args.ring.now in
    let all : list_all (is_later_of others) (left ++ new ∷ []) ≡ true =
    subst (λ (news : List GroupReplica). list_all (is_later_of others) news
    ≡ true) c.in-Some.ensures.items c.loop-new.invariant.later in
    record {
      later = later_stays others c.put.new.replicas.items left c.put.ensures.members
          (all_but_last (is_later_of others) left new all).0;
      others = ap (with_installed left) c.put.ensures.put ∙ sym (installed_last left new others)
          ∙ ap (λ (news : List GroupReplica). with_installed news others)
          (sym c.in-Some.ensures.items) ∙ c.loop-new.invariant.others;
      known = ap (known_with ring c.args.id left)
          (c.learn.ensures ∙ ap (λ
          (vector : List ℕ). with_own ring c.args.id new.group vector c.loop-new.known) c.vector.ensures)
          ∙ sym (known_last ring c.args.id left new c.loop-new.known)
          ∙ ap (λ (news : List GroupReplica). known_with ring c.args.id news c.loop-new.known)
          (sym c.in-Some.ensures.items)
          ∙ c.loop-new.invariant.known;
      members = same_through c.args.others.now.items others c.put.new.replicas.items c.loop-new.invariant.members
          c.put.ensures.members;
    }

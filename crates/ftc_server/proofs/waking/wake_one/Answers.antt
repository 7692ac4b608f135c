use Rattle.std.proofs.Common.{◌≡◌, ◌∙◌, ◌++◌, List, Option, None, Some, refl, sym, ap, subst}
use Rattle.std.specs.Prelude.{find}
use Rattle.std.specs.List.{list_all}
use Rattle.ftc_replica.specs.declared.waits.Wait.{Wait}
use Rattle.ftc_replica.specs.Waiting.{waits_for, without_first}
use Rattle.ftc_server.specs.declared.held.HeldMessage.{HeldMessage}
use Rattle.ftc_server.specs.Holding.{found, log_of}
use Rattle.ftc_server.specs.Waiting.{AreWatched, is_named, wait_of_found, one_or_none}
use Rattle.ftc_server.proofs.Finding.{passes_found}
use Rattle.ftc_server.proofs.Taken.{IsOut}
use Rattle.ftc_server.proofs.Watched.{again, first_out, none_out, woken, stays_where, fewer_wait, wait_out_room, after}
use Rattle.ftc_server.proofs.Watched.{IsAgain}
use Rattle.ftc_server.proofs.waking.wake_one.Goals.{After-watch_again}
use Rattle.ftc_server.proofs.waking.wake_one.Goals as goal

pub returns-in_default-clause-watched : goal.returns-in_default-clause-watched
returns-in_default-clause-watched c =
    let old = c.args.waits.now.items in
    let none : find (waits_for c.args.group c.args.partition c.args.number) old ≡ None = cc in
    subst (AreWatched c.args.replicas.now c.args.held.now.items c.args.held.now.resting)
    (sym (c.wake.ensures.others ∙ none_out c.args.group c.args.partition c.args.number old none)) c.requires.watched

pub returns-in_default-clause-others : goal.returns-in_default-clause-others
returns-in_default-clause-others c =
    let old = c.args.waits.now.items in
    let none : find (waits_for c.args.group c.args.partition c.args.number) old ≡ None = cc in
    λ test passes all.
    ap (list_all test) (c.wake.ensures.others ∙ none_out c.args.group c.args.partition c.args.number old none) ∙ all

pub returns-in_default-clause-none : goal.returns-in_default-clause-none
returns-in_default-clause-none c =
    let old = c.args.waits.now.items in
    let none : find (waits_for c.args.group c.args.partition c.args.number) old ≡ None = cc in
    λ _. ap (find (waits_for c.args.group c.args.partition c.args.number))
    (c.wake.ensures.others ∙ none_out c.args.group c.args.partition c.args.number old none) ∙ none

pub watch_again-requires : goal.watch_again-requires
watch_again-requires c =
    let old = c.args.waits.now.items in
    let there : find (waits_for c.args.group c.args.partition c.args.number) old ≡ Some c.in-Some.wait = cc in
    let out = first_out c.args.group c.args.partition c.args.number old c.in-Some.wait there in
    wait_out_room old c.wake.new.self.items c.in-Some.wait
    (without_first c.args.group c.args.partition c.args.number old) c.args.waits.now.spare c.wake.new.self.spare out
    c.wake.ensures.others c.wake.ensures.spare

-- what was waited for is out, and what its log waits for by now, if anything, is waited for behind the others
module _ (c : After-watch_again) where
  there : find (waits_for c.args.group c.args.partition c.args.number) c.args.waits.now.items ≡ Some c.in-Some.wait
  there = cc

  out : IsOut c.args.waits.now.items (without_first c.args.group c.args.partition c.args.number c.args.waits.now.items)
      c.in-Some.wait
  out = first_out c.args.group c.args.partition c.args.number c.args.waits.now.items c.in-Some.wait there

  abbrev next : Option Wait
  next = wait_of_found c.args.replicas.now c.in-Some.wait.packet
      (log_of c.in-Some.wait.group c.in-Some.wait.origin (found c.in-Some.wait.packet c.args.held.now.items))

  waits_again : IsAgain c.args.replicas.now c.args.held.now.items c.in-Some.wait (one_or_none next)
  waits_again = again c.args.replicas.now c.args.held.now.items c.in-Some.wait
      (passes_found (is_named c.args.held.now.items) (waits_for c.args.group c.args.partition c.args.number)
      c.args.waits.now.items c.in-Some.wait c.requires.watched.named there) next refl

  waits_now : c.watch_again.new.waits.items
      ≡ without_first c.args.group c.args.partition c.args.number c.args.waits.now.items ++ one_or_none next
  waits_now = c.watch_again.ensures ∙ after c.args.group c.args.partition c.args.number c.args.replicas.now
      c.in-Some.wait c.args.waits.now.items c.wake.new.self.items c.args.held.now.items c.rouse.new.self.items
      c.wake.ensures.others c.rouse.ensures.items

pub returns-clause-watched : goal.returns-clause-watched
returns-clause-watched c =
    let replicas = c.args.replicas.now in
    subst (λ (held : List HeldMessage). AreWatched replicas held c.rouse.new.self.resting c.watch_again.new.waits.items)
    (sym c.rouse.ensures.items)
    (woken replicas c.args.held.now.items c.args.held.now.resting c.rouse.new.self.resting c.args.waits.now.items
    (without_first c.args.group c.args.partition c.args.number c.args.waits.now.items) c.watch_again.new.waits.items
    (one_or_none (next c)) c.in-Some.wait c.requires.watched (out c) (waits_again c) (waits_now c)
    c.rouse.ensures.resting)

pub returns-clause-others : goal.returns-clause-others
returns-clause-others c =
    let old = c.args.waits.now.items in
    stays_where c.args.replicas.now old (without_first c.args.group c.args.partition c.args.number old)
    c.watch_again.new.waits.items (one_or_none (next c)) c.in-Some.wait (out c) (waits_again c).unreached (waits_now c)

pub returns-clause-fewer : goal.returns-clause-fewer
returns-clause-fewer c =
    let old = c.args.waits.now.items in
    λ _. fewer_wait c.args.replicas.now c.args.group c.args.partition c.args.number old
    (without_first c.args.group c.args.partition c.args.number old) c.watch_again.new.waits.items
    (one_or_none (next c)) c.in-Some.wait (there c) (out c) c.requires.reached (waits_again c).unreached (waits_now c)

use Rattle.std.proofs.Common.{◌+◌, ℕ, refl, ap}
use Rattle.ftc_base.proofs.Results.{on_any_err}
use Rattle.ftc_journal.specs.declared.event.Event.{Event}
use Rattle.ftc_journal.specs.declared.event.Event.TheVariants as event
use Rattle.ftc_network.proofs.SlotThere.{is_first, stands_there, allowed_there, still_there, withheld_there}
use Rattle.ftc_network.proofs.SlotThere.{heads_there, follows_there}
use Rattle.ftc_network.proofs.network.Network.enter.Goals as goal

pub enter_at-requires : goal.enter_at-requires
enter_at-requires c =
    let at = is_first c.args.self.now c.servers.ensures.bounds.some c.index_mut.ensures.value in
    allowed_there at c.requires.allowed

pub returns-clause-ok : goal.returns-clause-ok
returns-clause-ok c setting state bytes run legal is =
    let event : Event = event.Enter c.args.packet in
    let old = c.args.self.now in
    let at = is_first old c.servers.ensures.bounds.some c.index_mut.ensures.value in
    follows_there c.servers_beside.ensures c.links_stand_still.ensures at c.enter_at.new.slot setting state event
    (λ other differs. differs) (λ link. tt) run legal is
    (c.in_ok-enter_at.ensures.ok setting state bytes run legal (stands_there at setting state is)) (old.entered + 1)
    old.done old.propagates
    (record {
      entered_is = ap (λ (n : ℕ). n + 1) is.counts.entered_is;
      lines = is.counts.lines;
      propagates_is = is.counts.propagates_is;
    }) old.visits.items (c.made_visits_stay.ensures setting state event old.visits.items run legal refl is.visits)

pub returns-in_err-enter_at-clause-err : goal.returns-in_err-enter_at-clause-err
returns-in_err-enter_at-clause-err c =
    let at = is_first c.args.self.now c.servers.ensures.bounds.some c.index_mut.ensures.value in
    on_any_err c.from_residual.result _ (still_there at c.enter_at.new.slot c.in_err-enter_at.ensures.err)

pub returns-clause-withheld : goal.returns-clause-withheld
returns-clause-withheld c =
    let at = is_first c.args.self.now c.servers.ensures.bounds.some c.index_mut.ensures.value in
    withheld_there at c.enter_at.new.slot c.in_ok-enter_at.ensures.buffer

pub returns-clause-heads : goal.returns-clause-heads
returns-clause-heads c =
    let at = is_first c.args.self.now c.servers.ensures.bounds.some c.index_mut.ensures.value in
    heads_there at c.enter_at.new.slot c.enter_at.ensures.heads

pub returns-in_err-enter_at-clause-heads : goal.returns-in_err-enter_at-clause-heads
returns-in_err-enter_at-clause-heads c =
    let at = is_first c.args.self.now c.servers.ensures.bounds.some c.index_mut.ensures.value in
    heads_there at c.enter_at.new.slot c.enter_at.ensures.heads

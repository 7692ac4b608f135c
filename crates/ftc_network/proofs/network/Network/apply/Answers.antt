use Rattle.std.proofs.Common.{refl}
use Rattle.std.proofs.lemmas.Result.{on_ok_weaker, on_err_weaker}
use Rattle.ftc_journal.specs.declared.event.Event.{Event}
use Rattle.ftc_journal.specs.declared.event.Event.TheVariants as event
use Rattle.ftc_protocol.specs.Next.{next}
use Rattle.ftc_network.proofs.Allowed.{applies_inside}
use Rattle.ftc_network.proofs.SlotThere.{is_within, is_at, stands_there, allowed_there, still_there}
use Rattle.ftc_network.proofs.SlotThere.{withheld_there, heads_there, same_counts, follows_there}
use Rattle.ftc_network.proofs.network.Network.apply.Goals as goal

pub index_mut-requires : goal.index_mut-requires
index_mut-requires c =
    is_within c.args.self.now (applies_inside c.where_events_are.ensures.apply c.requires) c.place_of.ensures

pub apply_at-requires : goal.apply_at-requires
apply_at-requires c =
    let at = is_at c.args.self.now (applies_inside c.where_events_are.ensures.apply c.requires) c.place_of.ensures
    c.index_mut.ensures.value in
    allowed_there at c.requires

pub returns-clause-ok : goal.returns-clause-ok
returns-clause-ok c =
    let old = c.args.self.now in
    let at = is_at old (applies_inside c.where_events_are.ensures.apply c.requires) c.place_of.ensures
    c.index_mut.ensures.value in
    let event : Event = event.Apply c.args.server c.args.origin c.args.group c.args.packet in
    on_ok_weaker c.apply_at.result (λ follows setting state run legal is.
    follows_there c.servers_beside.ensures c.links_stand_still.ensures at c.apply_at.new.slot setting state event
    (λ other differs. differs) (λ link. tt) run legal is
    (follows setting state run legal (stands_there at setting state is)) old.entered old.done old.propagates
    (same_counts (next setting state event) refl refl refl is.counts) old.visits.items
    (c.made_visits_stay.ensures setting state event old.visits.items run legal refl is.visits)) c.apply_at.ensures.ok

pub returns-clause-err : goal.returns-clause-err
returns-clause-err c =
    let at = is_at c.args.self.now (applies_inside c.where_events_are.ensures.apply c.requires) c.place_of.ensures
    c.index_mut.ensures.value in
    on_err_weaker c.apply_at.result (still_there at c.apply_at.new.slot) c.apply_at.ensures.err

pub returns-clause-withheld : goal.returns-clause-withheld
returns-clause-withheld c =
    let at = is_at c.args.self.now (applies_inside c.where_events_are.ensures.apply c.requires) c.place_of.ensures
    c.index_mut.ensures.value in
    on_ok_weaker c.apply_at.result (withheld_there at c.apply_at.new.slot) c.apply_at.ensures.buffer

pub returns-clause-heads : goal.returns-clause-heads
returns-clause-heads c =
    let at = is_at c.args.self.now (applies_inside c.where_events_are.ensures.apply c.requires) c.place_of.ensures
    c.index_mut.ensures.value in
    heads_there at c.apply_at.new.slot c.apply_at.ensures.heads

use Rattle.std.proofs.Common.{◌≡◌, ◌∙◌, ◌++◌, [], ◌∷◌, List, Option, slice_set, refl, sym, ap, subst}
use Rattle.std.proofs.Math.Logic.{∥∥₁_map}
use Rattle.ftc_base.proofs.Results.{on_any_err}
use Rattle.ftc_journal.specs.declared.event.Event.{Event}
use Rattle.ftc_journal.specs.declared.event.Event.TheVariants as event
use Rattle.ftc_protocol.specs.Next.{next}
use Rattle.ftc_server.specs.declared.server.Server.{Server}
use Rattle.ftc_visits.specs.Made.{AreMade}
use Rattle.ftc_visits.specs.declared.visit.MadeVisit.{MadeVisit}
use Rattle.ftc_network.specs.Parts.{parts_of}
use Rattle.ftc_network.specs.Slots.{head_of, runs_in, IsIdleHead}
use Rattle.ftc_network.proofs.Allowed.{visits_inside}
use Rattle.ftc_network.proofs.Heads.{idle_runs}
use Rattle.ftc_network.proofs.SlotThere.{is_within, is_at, stands_there, is_there, others_there, still_there}
use Rattle.ftc_network.proofs.SlotThere.{allowed_there, same_counts, with_visits, follows_there}
use Rattle.ftc_network.proofs.network.Network.visit.Goals as goal

pub index_mut-requires : goal.index_mut-requires
index_mut-requires c =
    is_within c.args.self.now (visits_inside c.where_events_are.ensures.visit c.requires) c.place_of.ensures

pub visit_at-requires : goal.visit_at-requires
visit_at-requires c =
    let at = is_at c.args.self.now (visits_inside c.where_events_are.ensures.visit c.requires) c.place_of.ensures
    c.index_mut.ensures.value in
    allowed_there at c.requires

pub returns-in_err-visit-clause-err : goal.returns-in_err-visit-clause-err
returns-in_err-visit-clause-err c =
    let old = c.args.self.now in
    let at = is_at old (visits_inside c.where_events_are.ensures.visit c.requires) c.place_of.ensures
    c.index_mut.ensures.value in
    on_any_err c.from_residual-in_err-visit.result _ (λ setting state is.
    with_visits (record (parts_of old) { servers = slice_set old.servers.items c.place_of.result c.visit_at.new.slot })
    c.reserve.ensures.items (still_there at c.visit_at.new.slot c.in_err-visit.ensures.err setting state is))

pub returns-clause-ok : goal.returns-clause-ok
returns-clause-ok c setting state run legal is =
    let here : Event = event.Visit c.args.server c.args.packet c.args.worker in
    let old = c.args.self.now in
    let at = is_at old (visits_inside c.where_events_are.ensures.visit c.requires) c.place_of.ensures
    c.index_mut.ensures.value in
    let visits_are : c.add.new.self.items ≡ old.visits.items ++ c.in_ok-visit.visit ∷ [] =
    c.add.ensures.items ∙ ap (λ (v : List MadeVisit). v ++ c.in_ok-visit.visit ∷ []) c.reserve.ensures.items in
    ∥∥₁_map (c.in_ok-visit.ensures.ok setting state old.visits.items run legal (stands_there at setting state is)
    is.visits) (λ both.
    follows_there c.servers_beside.ensures c.links_stand_still.ensures at c.visit_at.new.slot setting state here
    (λ other differs. differs) (λ link. tt) run legal is both.0 old.entered old.done old.propagates
    (same_counts (next setting state here) refl refl refl is.counts) c.add.new.self.items
    (subst (AreMade setting (next setting state here)) (sym visits_are) both.1))

pub returns-clause-idle : goal.returns-clause-idle
returns-clause-idle c =
    let at = is_at c.args.self.now (visits_inside c.where_events_are.ensures.visit c.requires) c.place_of.ensures
    c.index_mut.ensures.value in
    subst (λ (o : Option Server). IsIdleHead (head_of o)) (sym (is_there at c.visit_at.new.slot))
    c.visit_at.ensures.idle

pub returns-clause-fewer : goal.returns-clause-fewer
returns-clause-fewer c worker before =
    let at = is_at c.args.self.now (visits_inside c.where_events_are.ensures.visit c.requires) c.place_of.ensures
    c.index_mut.ensures.value in
    ap (λ (o : Option Server). runs_in (head_of o) worker) (is_there at c.visit_at.new.slot)
    ∙ idle_runs (head_of c.visit_at.new.slot) c.visit_at.ensures.idle worker

pub returns-clause-others : goal.returns-clause-others
returns-clause-others c =
    others_there c.args.self.now.servers.items c.place_of.result c.args.server c.visit_at.new.slot c.place_of.ensures

pub returns-in_err-visit-clause-fewer : goal.returns-in_err-visit-clause-fewer
returns-in_err-visit-clause-fewer c worker before =
    let at = is_at c.args.self.now (visits_inside c.where_events_are.ensures.visit c.requires) c.place_of.ensures
    c.index_mut.ensures.value in
    ap (λ (o : Option Server). runs_in (head_of o) worker) (is_there at c.visit_at.new.slot)
    ∙ idle_runs (head_of c.visit_at.new.slot) c.visit_at.ensures.idle worker

pub returns-in_err-visit-clause-others : goal.returns-in_err-visit-clause-others
returns-in_err-visit-clause-others c =
    others_there c.args.self.now.servers.items c.place_of.result c.args.server c.visit_at.new.slot c.place_of.ensures

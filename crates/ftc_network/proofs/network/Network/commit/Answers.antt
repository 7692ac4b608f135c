use Rattle.std.proofs.Common.{◌≡◌, ◌∙◌, ◌++◌, [], ◌∷◌, List, Option, Some, slice_set, refl, sym, ap, subst}
use Rattle.std.proofs.Math.Logic.{∥∥₁_map}
use Rattle.ftc_journal.specs.declared.event.Event.{Event}
use Rattle.ftc_journal.specs.declared.event.Event.TheVariants as event
use Rattle.ftc_protocol.specs.Next.{next}
use Rattle.ftc_server.specs.declared.answers.CommitAnswer.TheVariants.{Done}
use Rattle.ftc_server.specs.declared.server.Server.{Server}
use Rattle.ftc_visits.specs.Made.{AreMade}
use Rattle.ftc_visits.specs.declared.visit.MadeVisit.{MadeVisit}
use Rattle.ftc_network.specs.Parts.{parts_of}
use Rattle.ftc_network.specs.Slots.{head_of, runs_in, SlotEndsVisit}
use Rattle.ftc_network.proofs.CommittedSlots.{ends_withheld}
use Rattle.ftc_network.proofs.SlotThere.{is_within, is_at, stands_there, both_there, others_there, still_there}
use Rattle.ftc_network.proofs.SlotThere.{rests_there, withheld_there, same_counts, with_visits, follows_there}
use Rattle.ftc_network.proofs.network.Network.commit.Goals as goal

pub index_mut-requires : goal.index_mut-requires
index_mut-requires c = is_within c.args.self.now c.requires.inside c.place_of.ensures

pub commit_at-requires : goal.commit_at-requires
commit_at-requires c =
    let at = is_at c.args.self.now c.requires.inside c.place_of.ensures c.index_mut.ensures.value in
    rests_there at c.requires.rests

pub returns-then-is_err-clause-follows : goal.returns-then-is_err-clause-follows
returns-then-is_err-clause-follows c done = absurd (c.refuse.ensures.undone done)

pub returns-then-is_err-clause-stands : goal.returns-then-is_err-clause-stands
returns-then-is_err-clause-stands c not setting state is =
    c.refuse.ensures.stands setting state (with_visits (parts_of c.args.self.now) c.reserve.ensures.items is)

pub returns-in-Ok-clause-ends : goal.returns-in-Ok-clause-ends
returns-in-Ok-clause-ends c =
    let at = is_at c.args.self.now c.requires.inside c.place_of.ensures c.index_mut.ensures.value in
    both_there at c.commit_at.new.slot (λ old new. SlotEndsVisit old new c.args.worker Done) c.in-Ok.ensures.ends

pub returns-in-Ok-clause-others : goal.returns-in-Ok-clause-others
returns-in-Ok-clause-others c =
    others_there c.args.self.now.servers.items c.place_of.result c.args.server c.commit_at.new.slot c.place_of.ensures

pub returns-in-Ok-clause-withheld : goal.returns-in-Ok-clause-withheld
returns-in-Ok-clause-withheld c =
    let at = is_at c.args.self.now c.requires.inside c.place_of.ensures c.index_mut.ensures.value in
    let new = c.commit_at.new.slot in
    withheld_there at new (ends_withheld c.index_mut.result.now new c.args.worker Done c.in-Ok.ensures.ends)

pub returns-in-Ok-clause-stands : goal.returns-in-Ok-clause-stands
returns-in-Ok-clause-stands c not = absurd (not refl)

pub returns-in-Ok-clause-follows : goal.returns-in-Ok-clause-follows
returns-in-Ok-clause-follows c done setting state running run none_due is runs =
    let old = c.args.self.now in
    let at = is_at old c.requires.inside c.place_of.ensures c.index_mut.ensures.value in
    let visit = c.in-Ok.visit in
    let here : Event = event.Visit c.args.server running.packet c.args.worker in
    let visits_are : c.add.new.self.items ≡ old.visits.items ++ visit ∷ [] =
    c.add.ensures.items ∙ ap (λ (v : List MadeVisit). v ++ visit ∷ []) c.reserve.ensures.items in
    ∥∥₁_map (c.in-Ok.ensures.follows setting state running old.visits.items run none_due
    (stands_there at setting state is)
    (subst (λ (o : Option Server). runs_in (head_of o) c.args.worker ≡ Some running) (sym at.slot_is) runs) is.visits)
    (λ all. (
      all.0,
      follows_there c.servers_beside.ensures c.links_stand_still.ensures at c.commit_at.new.slot setting state here
          (λ other differs. differs) (λ link. tt) run all.0 is all.1 old.entered old.done old.propagates
          (same_counts (next setting state here) refl refl refl is.counts) c.add.new.self.items
          (subst (AreMade setting (next setting state here)) (sym visits_are) all.2),
    ))

pub returns-in-Err-clause-ends : goal.returns-in-Err-clause-ends
returns-in-Err-clause-ends c =
    let at = is_at c.args.self.now c.requires.inside c.place_of.ensures c.index_mut.ensures.value in
    both_there at c.commit_at.new.slot (λ old new. SlotEndsVisit old new c.args.worker c.in-Err.answer)
    c.in-Err.ensures.ends

pub returns-in-Err-clause-others : goal.returns-in-Err-clause-others
returns-in-Err-clause-others c =
    others_there c.args.self.now.servers.items c.place_of.result c.args.server c.commit_at.new.slot c.place_of.ensures

pub returns-in-Err-clause-withheld : goal.returns-in-Err-clause-withheld
returns-in-Err-clause-withheld c =
    let at = is_at c.args.self.now c.requires.inside c.place_of.ensures c.index_mut.ensures.value in
    let new = c.commit_at.new.slot in
    withheld_there at new
    (ends_withheld c.index_mut.result.now new c.args.worker c.in-Err.answer c.in-Err.ensures.ends)

pub returns-in-Err-clause-follows : goal.returns-in-Err-clause-follows
returns-in-Err-clause-follows c done = absurd (c.in-Err.ensures.undone done)

pub returns-in-Err-clause-stands : goal.returns-in-Err-clause-stands
returns-in-Err-clause-stands c not setting state is =
    let old = c.args.self.now in
    let at = is_at old c.requires.inside c.place_of.ensures c.index_mut.ensures.value in
    with_visits (record (parts_of old) { servers = slice_set old.servers.items c.place_of.result c.commit_at.new.slot })
    c.reserve.ensures.items
    (still_there at c.commit_at.new.slot (c.in-Err.ensures.stands c.args.server) setting state is)

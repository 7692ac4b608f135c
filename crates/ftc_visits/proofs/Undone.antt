-- The visits that are found are those that a recovery undoes.
use Rattle.std.proofs.Common.{◌≡◌, ℕ, ◌<◌, ◌≤◌, ◌↔◌, Bool, true, false, List, filter, sym, ap, subst, ◌∙◌}
use Rattle.ftc_base.specs.declared.limits.TheConstants.{MOST_PARTITIONS}
use Rattle.ftc_base.proofs.EachOf.{all-weaker}
use Rattle.ftc_journal.specs.declared.event.VisitName.{VisitName}
use Rattle.ftc_ring.specs.Live.{IsBetween}
use Rattle.ftc_serial.proofs.Functions.{any_of_all}
use Rattle.ftc_serial.specs.Trace.{names}
use Rattle.ftc_serial.specs.Words.{AnyOf}
use Rattle.ftc_protocol.specs.Orderly.{IsUndone}
use Rattle.ftc_protocol.specs.Recovery.{previous_live, following_live, undone_visits, visits_in}
use Rattle.ftc_protocol.specs.Setting.{Setting, servers, is_member}
use Rattle.ftc_protocol.specs.State.{ChainState}
use Rattle.ftc_protocol.specs.Known.{ServerHas}
use Rattle.ftc_protocol.specs.Trace.{IsSomeVisit, IsTouching}
use Rattle.ftc_protocol.proofs.ListStores.{stands_below}
use Rattle.ftc_protocol.proofs.Places.{IsSerial}
use Rattle.ftc_protocol.proofs.TraceLemmas.{stands_map}
use Rattle.ftc_ties.specs.Numbers.{IsTrace}
use Rattle.ftc_server.specs.declared.server.Server.{Server}
use Rattle.ftc_refinement.specs.Contents.{IsServerAt}
use Rattle.ftc_visits.specs.declared.visit.MadeVisit.{MadeVisit}
use Rattle.ftc_visits.specs.Made.{name_of, IsMadeIn, AreMade}
use Rattle.ftc_visits.specs.Undoing.{is_undone_alone, undone_from}
use Rattle.ftc_visits.proofs.Alone.{VectorsSay, CoversSay, IsUndoneAlone, alone_says, says_alone}
use Rattle.ftc_visits.proofs.Lists.{any_to}
use Rattle.ftc_visits.proofs.Needs.{made_stands}
use Rattle.ftc_visits.proofs.Trace.{made_rise, made_of}
use Rattle.ftc_visits.proofs.Passing.{Undoes, undone_filter}

module _ (setting : Setting) (state : ChainState) (server : ℕ) (trace : IsTrace setting.partitions state.trace)
    (serial : IsSerial setting state.trace) (some_server : 0 < servers setting) (some : 0 < setting.partitions)
    (few : setting.partitions ≤ MOST_PARTITIONS) (old : Server)
    (is : IsServerAt setting state (following_live setting state server) old)
    (say : VectorsSay setting state (following_live setting state server)) (covers_say : CoversSay)
    (before : previous_live setting state server < servers setting)
    (after : following_live setting state server < servers setting)
    (member : (group : ℕ) → group < servers setting →
    IsBetween (servers setting) (previous_live setting state server) (following_live setting state server) group →
    is_member setting group (following_live setting state server) ≡ true)
    (visits : List MadeVisit) (are : AreMade setting state visits) where
  abbrev alone : MadeVisit → Bool
  alone = is_undone_alone (previous_live setting state server) old

  abbrev Made : MadeVisit → Type 0
  Made = IsMadeIn setting.partitions state.trace

  stands : (visit : MadeVisit) → Made visit → IsSomeVisit state.trace visit.server visit.packet
  stands visit made = made_stands setting.partitions some few state.trace trace visit made

  below : (visit : MadeVisit) → Made visit → visit.server < servers setting
  below visit made = stands_below setting some_server
      (λ outcome. Unit {0}) state.trace serial visit.server visit.packet (stands visit made)

  says : (visit : MadeVisit) → Made visit → alone visit ≡ true →
      IsUndoneAlone setting state (previous_live setting state server)
      (following_live setting state server) visit.server visit.packet
  says visit made = alone_says setting state trace some few (previous_live setting state server)
      (following_live setting state server) old is say covers_say before after visit made (below visit made)
      (member visit.server (below visit made))

  has : (visit : MadeVisit) → Made visit →
      IsUndoneAlone setting state (previous_live setting state server)
      (following_live setting state server) visit.server visit.packet →
      alone visit ≡ true
  has visit made = says_alone setting state trace some few (previous_live setting state server)
      (following_live setting state server) old is say covers_say before after visit made (below visit made)
      (member visit.server (below visit made))

  module _ (is_named : VisitName → Bool) (undone : (group packet : ℕ) →
      (is_named (record { server = group; packet = packet }) ≡ true) ↔ IsUndone setting state server group packet) where
    named_some : (visit : MadeVisit) → is_named (name_of visit) ≡ true → AnyOf (Undoes alone is_named visit) visits
    named_some visit named =
        let found = (undone visit.server visit.packet).0 named in
        any_to (λ (earlier : MadeVisit). (earlier.server ≡ found.earlier) × (earlier.packet ≡ visit.packet))
        (Undoes alone is_named visit) Made
        (λ earlier same made. (
          same.1,
          subst (λ k. k ≤ visit.server) (sym same.0) found.before,
          has earlier made
              (subst (λ k. IsUndoneAlone setting state (previous_live setting state server)
              (following_live setting state server) k earlier.packet)
              (sym same.0) (subst (λ p. IsUndoneAlone setting state (previous_live setting state server)
              (following_live setting state server) found.earlier p) (sym same.1)
              (record { touching = found.touching; between = found.between; lacked = found.lacked }))),
        ))
        visits (made_of state.trace visits are.names found.earlier visit.packet
        (stands_map _ (λ outcome. Unit {0})
        (λ outcome touches. tt) state.trace found.earlier visit.packet found.touching)) are.each

    some_named : (visit : MadeVisit) → Made visit → AnyOf (Undoes alone is_named visit) visits →
        is_named (name_of visit) ≡ true
    some_named visit made any = any_of_all (Undoes alone is_named visit) Made visits
        (λ earlier undoes is_made.
        let it = says earlier is_made undoes.2 in
        (undone visit.server visit.packet).1 (record {
          there = stands visit made;
          earlier = earlier.server;
          before = undoes.1;
          touching = subst (λ p. IsTouching state.trace earlier.server p) undoes.0 it.touching;
          between = it.between;
          lacked = λ had. it.lacked (subst
              (λ p. ServerHas setting state (following_live setting state server) earlier.server p)
              (sym undoes.0) had);
        })) any are.each

    found_filter : undone_from alone (λ packet. false) visits ≡ filter is_named (visits_in state.trace)
    found_filter =
        undone_filter alone is_named visits
        (all-weaker Made (λ visit. (is_named (name_of visit) ≡ true) ↔ AnyOf (Undoes alone is_named visit) visits)
        (λ visit made. (named_some visit, some_named visit made)) visits are.each)
        (made_rise setting state.trace visits serial are.names)
        ∙ ap (filter is_named) are.names

  pub found_is : ((group packet : ℕ) →
      (names (undone_visits setting state server) group packet ≡ true) ↔ IsUndone setting state server group packet) →
      undone_visits setting state server
      ≡ filter (λ (visit : VisitName). names (undone_visits setting state server) visit.server visit.packet)
      (visits_in state.trace) →
      undone_from alone (λ packet. false) visits ≡ undone_visits setting state server
  found_is undone order =
      found_filter (λ (visit : VisitName). names (undone_visits setting state server) visit.server visit.packet)
      undone ∙ sym order

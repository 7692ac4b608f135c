-- The receiver of a link gains a visit exactly where the protocol says that there is news.
use Rattle.std.proofs.Common.{◌≡◌, ◌<◌, ◌==◌, ◌&&◌, ◌∙◌, ℕ, zero, suc, Bool, true, false, not, List, [], ◌∷◌, length}
use Rattle.std.proofs.Common.{inl, inr, refl, sym, ap, subst, arith, if◌then◌else◌}
use Rattle.std.proofs.lemmas.Bool.{and_parts, and_from, eqb-true, cases_Bool, cases_eq, true≢false, or_left, or_right}
use Rattle.std.proofs.lemmas.Bool.{or_cases, not-true}
use Rattle.std.proofs.lemmas.Bool.Decides.{nat_tests}
use Rattle.std.specs.List.{list_any}
use Rattle.std.specs.Cmp.{both_ways}
use Rattle.ftc_journal.specs.declared.event.Event.TheVariants.{Pull}
use Rattle.ftc_message.specs.Logged.{Logged}
use Rattle.ftc_ring.specs.Ring.{IsRing, next_of, tail_of}
use Rattle.ftc_serial.specs.Serial.{Entry, Visited, Given}
use Rattle.ftc_serial.specs.Take.{Outcome}
use Rattle.ftc_protocol.specs.Setting.{Setting, servers, shape, is_tail}
use Rattle.ftc_protocol.specs.State.{ChainState}
use Rattle.ftc_protocol.specs.Changes.{is_changing}
use Rattle.ftc_protocol.specs.Trace.{IsInTrace, IsChanging}
use Rattle.ftc_protocol.specs.Legal.{IsLegal}
use Rattle.ftc_protocol.specs.Next.{is_news, pulled_list}
use Rattle.ftc_ties.specs.Keeping.{AreInTurn, with_all}
use Rattle.ftc_ties.specs.Numbers.{Packets, with_packet}
use Rattle.ftc_ties.specs.Servers.{is_shared}
use Rattle.ftc_ties.proofs.Keeping.{joins, with_all_more}
use Rattle.ftc_ties.proofs.Serving.{IsSteadyState}
use Rattle.ftc_server.specs.declared.server.Server.{Server}
use Rattle.ftc_refinement.specs.Contents.{IsServerAt}
use Rattle.ftc_network.specs.Pulling.{lacking, is_gained, any_below, gains_some}
use Rattle.ftc_network.proofs.SharedGroups.{turn, all}

-- ---- tests of numbers

pub any_at : (test : ℕ → Bool) (count number : ℕ) → number < count → test number ≡ true → any_below test count ≡ true
any_at test zero number less is = absurd (omega arith)
any_at test (suc count) number less is = elim (cases_eq number count) [
  | inl same ↦ or_right (any_below test count) (test count) (ap test (sym same) ∙ is)
  | inr differs ↦ or_left (any_below test count) (test count) (any_at test count number (omega arith) is)
]

pub any_found : (test : ℕ → Bool) (count : ℕ) → any_below test count ≡ true →
    (number : ℕ) × (number < count) × (test number ≡ true)
any_found test zero is = absurd cc
any_found test (suc count) is = elim (or_cases (any_below test count) (test count) is) [
  | inl before ↦ let found = any_found test count before in (found.0, omega (arith, found.1), found.2)
  | inr last ↦ (count, omega arith, last)
]

-- ---- entries of a trace

visit_in : (test : Entry → Bool) (Kind : Outcome → Type 0) (group packet : ℕ) →
    ((outcome : Outcome) → test (Visited group packet outcome) ≡ true) → (trace : List Entry) →
    IsInTrace Kind trace group packet → list_any test trace ≡ true
visit_in test Kind group packet each [] there = absurd there
visit_in test Kind group packet each (Visited visited passed outcome ∷ older) (inl here) =
    or_left (test (Visited visited passed outcome)) (list_any test older)
    (subst (λ g. test (Visited g passed outcome) ≡ true) (sym here.0)
    (subst (λ p. test (Visited group p outcome) ≡ true) (sym here.1) (each outcome)))
visit_in test Kind group packet each (Visited visited passed outcome ∷ older) (inr later) =
    or_right (test (Visited visited passed outcome)) (list_any test older)
    (visit_in test Kind group packet each older later)
visit_in test Kind group packet each (Given released bytes ∷ older) (inl here) = absurd here
visit_in test Kind group packet each (Given released bytes ∷ older) (inr later) =
    or_right (test (Given released bytes)) (list_any test older) (visit_in test Kind group packet each older later)

found_in : (test : Entry → Bool) → ((packet : ℕ) (bytes : List ℕ) → test (Given packet bytes) ≡ false) →
    (trace : List Entry) → list_any test trace ≡ true →
    (group : ℕ) × (packet : ℕ) × (outcome : Outcome) × (test (Visited group packet outcome) ≡ true)
found_in test never [] is = absurd cc
found_in test never (Visited group packet outcome ∷ older) is =
    elim (or_cases (test (Visited group packet outcome)) (list_any test older) is) [
      | inl here ↦ (group, packet, outcome, here)
      | inr later ↦ found_in test never older later
    ]
found_in test never (Given packet bytes ∷ older) is =
    elim (or_cases (test (Given packet bytes)) (list_any test older) is) [
      | inl here ↦ absurd (true≢false (sym here ∙ never packet bytes))
      | inr later ↦ found_in test never older later
    ]

-- ---- what a receiver lacks

-- with a log that it lacks it lacks a visit
one_lacked : (partitions group : ℕ) (trace : List Entry) (set list : Packets) (logs : List Logged) →
    AreInTurn partitions trace group set logs → ((q : ℕ) → with_all set logs q ≡ list q) → (length logs == 0) ≡ false →
    (packet : ℕ) × (list packet ≡ true) × (set packet ≡ false) × IsChanging partitions trace group packet
one_lacked partitions group trace set list [] turn all some = absurd cc
one_lacked partitions group trace set list (log ∷ logs) turn all some = (
  log.origin,
  sym (all log.origin)
      ∙ with_all_more (with_packet set log.origin) logs log.origin (joins set log.origin).new,
  turn.0.lacks,
  turn.0.changing,
)

-- and where it lacks no log, it has all
none_lacked : (set list : Packets) (logs : List Logged) → ((q : ℕ) → with_all set logs q ≡ list q) →
    (length logs == 0) ≡ true → (q : ℕ) → list q ≡ set q
none_lacked set list [] all none q = sym (all q)
none_lacked set list (log ∷ logs) all none q =
    absurd (let zero_is = eqb-true (length (log ∷ logs)) 0 none in omega arith)

-- the last member of a group, by its number and by the distance
tail_same : (setting : Setting) (group server : ℕ) → IsRing (shape setting) → group < servers setting →
    server < servers setting → (tail_of (shape setting) group == server) ≡ is_tail setting group server
tail_same setting group server ring below inside =
    let less = ring.failures in grind (arith, nat_tests)

module _ (c : Setting) (s : ChainState) (h : IsSteadyState c s) (link : ℕ) (legal : IsLegal c s (Pull link))
    (sender old : Server) (sends : IsServerAt c s link sender)
    (is : IsServerAt c s (next_of (servers c) link) old) where
  abbrev receiver : ℕ
  receiver = next_of (servers c) link

  abbrev gain_at : ℕ → Bool
  gain_at group = is_shared c group link receiver
      && (not (length (lacking sender old group) == 0) && not (tail_of (shape c) group == receiver))

  gain_same : (group : ℕ) → is_gained (shape c) sender old group ≡ gain_at group
  gain_same group = ap (λ n. is_shared c group n old.id
      && (not (length (lacking sender old group) == 0) && not (tail_of (shape c) group == old.id))) sends.number_is
      ∙ ap (λ n. is_shared c group link n
      && (not (length (lacking sender old group) == 0) && not (tail_of (shape c) group == n))) is.number_is

  news_at : (group packet : ℕ) (outcome : Outcome) → group < servers c → is_shared c group link receiver ≡ true →
      s.lists link group packet ≡ true → s.lists receiver group packet ≡ false → is_tail c group receiver ≡ false →
      is_news c s link receiver (Visited group packet outcome) ≡ true
  news_at group packet outcome inside shared has lacks isnt =
      ap (λ b. (if b then s.lists link group packet else s.lists receiver group packet)
      && not (s.lists receiver group packet) && not (is_tail c group receiver)) shared
      ∙ (ap (λ b. b && not (s.lists receiver group packet) && not (is_tail c group receiver)) has
      ∙ (ap (λ b. not b && not (is_tail c group receiver)) lacks ∙ ap not isnt))

  -- a gain is news
  gain_is_news : (group : ℕ) → group < servers c → gain_at group ≡ true →
      list_any (is_news c s link receiver) s.trace ≡ true
  gain_is_news group inside gains =
      let parts = and_parts (is_shared c group link receiver)
      (not (length (lacking sender old group) == 0) && not (tail_of (shape c) group == receiver)) gains in
      let rest = and_parts (not (length (lacking sender old group) == 0))
      (not (tail_of (shape c) group == receiver)) parts.1 in
      let isnt : is_tail c group receiver ≡ false =
      sym (tail_same c group receiver h.run.right.ring inside (h.tied.order.inside receiver legal.0.1))
      ∙ not-true (tail_of (shape c) group == receiver) rest.1 in
      let one = one_lacked c.partitions group s.trace (s.lists receiver group) (s.lists link group)
      (lacking sender old group)
      (turn c s h link legal sender old sends is group inside parts.0)
      (all c s h link legal sender old sends is group inside parts.0)
      (not-true (length (lacking sender old group) == 0) rest.0) in
      visit_in (is_news c s link receiver) (λ o. is_changing c.partitions o ≡ true) group one.0
      (λ outcome. news_at group one.0 outcome inside parts.0 one.1 one.2 isnt) s.trace one.3

  -- news is a gain
  news_is_gain : list_any (is_news c s link receiver) s.trace ≡ true →
      any_below (is_gained (shape c) sender old) (servers c) ≡ true
  news_is_gain news =
      let entry = found_in (is_news c s link receiver) (λ packet bytes. refl) s.trace news in
      let group = entry.0 in
      let packet = entry.1 in
      let parts = and_parts (pulled_list c s link receiver group packet && not (s.lists receiver group packet))
      (not (is_tail c group receiver)) entry.3 in
      let both = and_parts (pulled_list c s link receiver group packet) (not (s.lists receiver group packet)) parts.0 in
      let lacks : s.lists receiver group packet ≡ false = not-true (s.lists receiver group packet) both.1 in
      let got = got_so group packet both.0 lacks in
      let inside : group < servers c = (h.tied.order.had link group packet got.1).1 in
      let some : (length (lacking sender old group) == 0) ≡ false =
      elim (cases_Bool (length (lacking sender old group) == 0)) [
        | inl none ↦ absurd (true≢false (sym got.1
            ∙ (none_lacked (s.lists receiver group) (s.lists link group) (lacking sender old group)
            (all c s h link legal sender old sends is group inside got.0) none packet ∙ lacks)))
        | inr one ↦ one
      ] in
      let isnt : (tail_of (shape c) group == receiver) ≡ false =
      tail_same c group receiver h.run.right.ring inside (h.tied.order.inside receiver legal.0.1)
      ∙ not-true (is_tail c group receiver) parts.1 in
      any_at (is_gained (shape c) sender old) (servers c) group inside
      (gain_same group ∙ and_from (is_shared c group link receiver)
      (not (length (lacking sender old group) == 0) && not (tail_of (shape c) group == receiver)) got.0
      (and_from (not (length (lacking sender old group) == 0)) (not (tail_of (shape c) group == receiver)) (ap not some)
      (ap not isnt)))
    where
      got_so : (group packet : ℕ) → pulled_list c s link receiver group packet ≡ true →
          s.lists receiver group packet ≡ false →
          (is_shared c group link receiver ≡ true) × (s.lists link group packet ≡ true)
      got_so group packet there lacks =
          elim (is_shared c group link receiver) as (λ b. is_shared c group link receiver ≡ b →
          (if b then s.lists link group packet else s.lists receiver group packet) ≡ true →
          (is_shared c group link receiver ≡ true) × (s.lists link group packet ≡ true)) [
            | true ↦ λ shared has. (shared, has)
            | false ↦ λ apart has. absurd (true≢false (sym has ∙ lacks))
          ] refl there

  pub gains_same : gains_some (shape c) sender old ≡ list_any (is_news c s link receiver) s.trace
  gains_same = both_ways (gains_some (shape c) sender old) (list_any (is_news c s link receiver) s.trace)
      (λ gains. let found = any_found (is_gained (shape c) sender old) (servers c) gains in
      gain_is_news found.0 found.1 (sym (gain_same found.0) ∙ found.2))
      news_is_gain

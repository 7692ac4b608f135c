-- Where no message and no log is under way, no link has a gap and all servers are up, the lists are full.
use Rattle.std.proofs.Common.{◌≡◌, ℕ, zero, suc, ◌<◌, ◌≤◌, true, false, refl, sym, subst, ◌∙◌, arith, inl, inr, Some}
use Rattle.std.proofs.Common.{None}
use Rattle.std.proofs.lemmas.Bool.{true≢false}
use Rattle.std.proofs.lemmas.Option.{none-some}
use Rattle.ftc_ring.specs.Ring.{apart, next_of, previous_of}
use Rattle.ftc_protocol.specs.Setting.{Setting, servers}
use Rattle.ftc_protocol.specs.Visits.{In}
use Rattle.ftc_protocol.specs.Trace.{IsChanging}
use Rattle.ftc_protocol.specs.State.{ChainState, Message}
use Rattle.ftc_protocol.proofs.RingDistances.{apart_before, apart_after, apart_cases}
use Rattle.ftc_protocol.proofs.FinishedState.{IsLive}

module _ (c : Setting) (s : ChainState) (l : IsLive c s) (all_up : (server : ℕ) → server < servers c →
    s.up server ≡ true) (gone : (p : ℕ) → s.message p ≡ None)
    (gaps : (link : ℕ) → link < servers c → s.gap link ≡ false) (no_logs : (group packet : ℕ) →
    s.forwarder group packet ≡ false) where
  no_message : (p : ℕ) (m : Message) → s.message p ≡ Some m → ⊥
  no_message p m there = none-some m (sym (gone p) ∙ there)

  -- by the number of links from the head
  along : (d group server packet : ℕ) → apart (servers c) group server ≡ d → server < servers c → group < servers c →
      d ≤ c.failures → IsChanging c.partitions s.trace group packet → In (s.lists server) group packet
  along zero group server packet far below group_below member changing =
      let cases = apart_cases (servers c) group server group_below below in
      let same : group ≡ server = omega arith in
      subst (λ k. In (s.lists k) group packet) same
      (l.inv.world.lists.heads group packet (all_up group group_below) changing)
  along (suc d) group server packet far below group_below member changing =
      let n = servers c in
      let cases = apart_cases n group server group_below below in
      elim (apart_before n server below) [
        | inr alone ↦ absurd (omega arith)
        | inl step ↦
            let y = previous_of n server in
            let yl : y < n = step.1 in
            let st = step.0 in
            let before = apart_cases n group y group_below yl in
            let near : apart n group y ≡ d = omega arith in
            let next_is : next_of n y ≡ server =
            elim (apart_after n y yl) [
              | inr alone ↦ absurd (omega arith)
              | inl more ↦ let st2 = more.0 in
                  let nl = more.1 in omega arith
            ] in
            let had = along d group y packet near yl group_below (omega arith) changing in
            elim (l.pending y group packet had (omega arith)
            (subst (λ k. s.up k ≡ true) (sym next_is) (all_up server below)) (gaps y yl)) [
              | inl there ↦ subst (λ k. In (s.lists k) group packet) next_is there
              | inr way ↦ absurd (elim way [
                | inl by ↦ no_message by.origin by.by by.there
                | inr by ↦ true≢false (sym by.1 ∙ no_logs group packet)
              ])
            ]
      ]

  pub full : (group server packet : ℕ) → server < servers c → group < servers c →
      apart (servers c) group server ≤ c.failures → IsChanging c.partitions s.trace group packet →
      In (s.lists server) group packet
  full group server packet below group_below member changing =
      along (apart (servers c) group server) group server packet refl below group_below member changing

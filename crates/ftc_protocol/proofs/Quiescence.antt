-- Where nothing may happen, nothing is under way.
use Rattle.std.proofs.Common.{◌≡◌, ◌≢◌, ℕ, suc, ◌+◌, ◌<◌, ◌≤◌, Bool, true, false, List, [], ◌∷◌, ◌⊎◌, inl, inr, refl}
use Rattle.std.proofs.Common.{sym, ap, subst, ◌∙◌, arith, Option, Some, None, lt_irrefl, zero}
use Rattle.std.proofs.lemmas.Bool.{true≢false, cases_eq, cases_lt, cases_Bool}
use Rattle.std.specs.List.{AllByRecursion}
use Rattle.ftc_journal.specs.declared.event.Event.TheVariants.{Apply, Carry, Enter, Lose, Pass, Propagate, Pull, Take}
use Rattle.ftc_journal.specs.declared.event.Event.TheVariants.{Visit}
use Rattle.ftc_protocol.proofs.CarriedLogs.{AreCarried}
use Rattle.ftc_protocol.proofs.ArrivalOrder.{AreSeen, From, IsHeldAt, IsRinged, IsSeenAt, IsTimed}
use Rattle.ftc_protocol.specs.State.{ChainState, Held, Message, Queued}
use Rattle.ftc_serial.specs.Serial.{Entry, Given, Visited}
use Rattle.ftc_journal.specs.declared.event.Event.{Event}
use Rattle.ftc_protocol.specs.Trace.{Has, IsBefore, IsChanging, IsInTrace, IsVisit}
use Rattle.ftc_protocol.specs.Visits.{In, Visits}
use Rattle.ftc_protocol.proofs.Invariant.{Inv, target}
use Rattle.ftc_protocol.proofs.Premises.{IsGood}
use Rattle.ftc_protocol.proofs.InTransit.{IsNear}
use Rattle.ftc_protocol.specs.Known.{IsReady}
use Rattle.ftc_protocol.proofs.Places.{IsSerial}
use Rattle.ftc_protocol.proofs.MessageOrder.{IsSoonAll}
use Rattle.ftc_protocol.proofs.LiveHolders.{IsUp}
use Rattle.ftc_protocol.specs.Legal.{MayHappen, MayLeave, is_sent}
use Rattle.ftc_script.specs.Steps.{at_of}
use Rattle.ftc_serial.specs.Take.{Outcome}
use Rattle.ftc_script.specs.declared.line.ScriptLine.{ScriptLine}
use Rattle.ftc_protocol.specs.Setting.{Setting, count, servers}
use Rattle.ftc_protocol.proofs.VisitsPassed.{Somehow, some_stands}
use Rattle.ftc_ring.specs.Ring.{apart, next_of, previous_of}
use Rattle.ftc_protocol.proofs.RingDistances.{apart_after, apart_before, apart_cases}
use Rattle.ftc_protocol.proofs.TraceLemmas.{before_first, meets_changing}
use Rattle.ftc_protocol.proofs.EarlierVisits.{visited_earlier}
use Rattle.ftc_protocol.proofs.HavingVisits.{head_has}
use Rattle.ftc_protocol.specs.Changes.{is_changing}

-- in a true trace a pair stands once, and a packet's visits stand in the order of the chain
before_within : (c : Setting) (part : ℕ) (e : Entry) (older : List Entry) → IsSerial c (e ∷ older) → (j a b : ℕ) →
    IsInTrace Somehow older j b → IsBefore part (e ∷ older) j a b → IsBefore part older j a b
before_within c part (Given x y) older is j a b st before = elim before [ inl here ↦ absurd here.0 | inr there ↦ there ]
before_within c part (Visited k x o) older is j a b st before = elim before [
  | inl here ↦ absurd (lt_irrefl k
      (visited_earlier c older k x is.0.0 is.1 is.0.1 k
      (subst (λ v. IsInTrace Somehow older v x) (sym here.1.0)
      (subst (λ v. IsInTrace Somehow older j v) (sym here.0) st))))
  | inr there ↦ there
]

earlier_within : (c : Setting) (P : Outcome → Type 0) (e : Entry) (older : List Entry) → IsSerial c (e ∷ older) →
    (i j q : ℕ) → i ≤ j → IsInTrace Somehow older j q → IsInTrace P (e ∷ older) i q → IsInTrace P older i q
earlier_within c P (Given x y) older is i j q le st h = elim h [ inl here ↦ absurd here | inr there ↦ there ]
earlier_within c P (Visited k x o) older is i j q le st h = elim h [
  | inl here ↦ let less : j < k =
      visited_earlier c older k x is.0.0 is.1 is.0.1 j (subst (λ v. IsInTrace Somehow older j v) (sym here.1) st) in
      let e1 : k ≡ i = here.0 in absurd (omega arith)
  | inr there ↦ there
]

before_older : (part : ℕ) (e : Entry) (older : List Entry) (j a q : ℕ) → IsBefore part (e ∷ older) j a q →
    IsChanging part older j a
before_older part (Given x y) older j a q b =
    elim b [ inl here ↦ absurd here.0 | inr there ↦ before_first part older j a q there ]
before_older part (Visited k x o) older j a q b =
    elim b [ inl here ↦ meets_changing part o older j a here.1.1 | inr there ↦ before_first part older j a q there ]

one_visit : (P Q : Outcome → Type 0) (i p j q : ℕ) (e : Entry) → IsVisit P i p e → IsVisit Q j q e → i ≡ j
one_visit P Q i p j q (Given x y) a b = absurd a
one_visit P Q i p j q (Visited k x o) a b = sym a.0 ∙ b.0

-- where nothing may happen, nothing is under way
module _ (c : Setting) (good : IsGood c) (s : ChainState) (h : Inv c s) (t : IsTimed c s) (seen : ℕ →
    Visits) (ok : AreSeen c s seen) (soon : IsSoonAll c s seen)
    (all_up : (k : ℕ) → k < (servers c) → s.up k ≡ true) (no_lines : s.lines ≡ []) (stuck : (e : Event) →
    MayHappen c s e → ⊥) where
  -- a message that is ready goes on
  goes : (p : ℕ) (m : Message) (k : ℕ) (v r : Bool) → s.message p ≡ Some m → m.place ≡ Held k v r → IsReady c s k m → ⊥
  goes p m k true true at place ready =
      let z : k ≡ 0 = subst (λ w. IsRinged (servers c) w m.logs) place (t.ringed p m at) in
      stuck (Carry p) (
        m,
        at,
        true,
        subst (λ x. m.place ≡ Held x true true) z place,
        subst (λ x. IsReady c s x m) z ready,
      )
  goes p m k false true at place ready =
      let z : k ≡ 0 = subst (λ w. IsRinged (servers c) w m.logs) place (t.ringed p m at) in
      stuck (Carry p) (
        m,
        at,
        false,
        subst (λ x. m.place ≡ Held x false true) z place,
        subst (λ x. IsReady c s x m) z ready,
      )
  goes p m k v false at place ready = by_packet m.packet refl v place
    where
      leave : (w : Bool) → m.place ≡ Held k w false → (w ≡ true) ⊎ (m.packet ≡ None) → ⊥
      leave w place done =
          let l : MayLeave c s k p m = record { there = at; visited = w; held = place; ready = ready; done = done } in
          elim (cases_Bool (c.loses k p)) [
            | inr kept' ↦ stuck (Pass k p) (m, l, inl kept')
            | inl lost ↦ elim (cases_Bool (is_sent c k)) [
              | inl sends ↦
                  stuck (Lose k p) (m, l, sends, lost)
              | inr quiet ↦ stuck (Pass k p) (m, l, inr quiet)
            ]
          ]

      by_packet : (packet : Option (List ℕ)) → m.packet ≡ packet → (w : Bool) → m.place ≡ Held k w false → ⊥
      by_packet None none_there w place = leave w place (inr none_there)
      by_packet (Some bytes) some' true place = leave true place (inl refl)
      by_packet (Some bytes) some' false place = stuck (Visit k p 0) (m, bytes, false, at, place, some', ready)

  -- nothing is queued
  no_queue : (b p : ℕ) (m : Message) (l : ℕ) → s.message p ≡ Some m → m.place ≡ Queued l → m.since < b → ⊥
  no_queue zero p m l at place less = absurd (omega arith)
  no_queue (suc b) p m l at place less = stuck (Take l p) (
    m,
    at,
    place,
    λ q m' at' place'. elim (cases_lt m'.since m.since) [
      | inl sooner ↦ absurd (no_queue b q m' l at' place' (omega arith))
      | inr more ↦ more
    ],
  )

  head_ready : (j q : ℕ) → j < (servers c) → Has c.partitions s.trace (s.lists j) j q
  head_ready j q jl = head_has c s.trace s.up s.lists h.world.lists h.world.nest j q (all_up j jl)

  none_at_0 : (p : ℕ) (m : Message) (v : Bool) → s.message p ≡ Some m → m.place ≡ Held 0 v false → ⊥
  none_at_0 p m v at place = goes p m 0 v false at place (λ j q log.
      let ringed = subst (λ w. IsRinged (servers c) w m.logs) place (t.ringed p m at) in
      let z : j ≡ 0 = ringed refl j q log in
      subst (λ x. Has c.partitions s.trace (s.lists 0) x q) (sym z) (head_ready 0 q good.some))

  no_logs : (j q : ℕ) → In s.forwarder j q → ⊥
  no_logs j q log = elim (cases_lt s.entered (count c)) [
    | inl less ↦ stuck (Enter s.entered) (
      refl,
      less,
      subst (λ l. AllByRecursion (λ (line : ScriptLine). at_of line ≢ s.entered) l) (sym no_lines) tt,
    )
    | inr more ↦
        let bounded = t.bounded in
        let all_in : s.entered ≡ (count c) = omega arith in
        stuck (Propagate ((count c) + s.propagates)) (
          all_in,
          all_up,
          (λ q' m at v place. none_at_0 q' m v at place),
          inl (j, q, log),
          refl,
        )
  ]

  module _ (b : ℕ) (ih : (p : ℕ) (m : Message) → s.message p ≡ Some m → m.since < b →
      ⊥) (p : ℕ) (m : Message) (at : s.message p ≡ Some m) (less : m.since < suc b)
      (k y : ℕ) (kl : k < (servers c)) (yl : y < (servers c)) (next' : next_of (servers c) y
      ≡ k) (several : (servers c) ≢ 1) (from : From (servers c) m.place y)
      (w : IsSeenAt c s.trace s.up s.lists y k m.logs (seen p)) where
    all_seen : (es : List Entry) → IsSerial c es
        → ((j a b : ℕ) → IsInTrace Somehow es j b → IsBefore c.partitions s.trace j a b →
        IsBefore c.partitions es j a b)
        → ((P : Outcome → Type 0) (i j q : ℕ) → i ≤ j → IsInTrace Somehow es j q → IsInTrace P s.trace i q →
        IsInTrace P es i q)
        → (j q : ℕ) → IsChanging c.partitions es j q → IsChanging c.partitions s.trace j q → In (seen p) j q →
        apart (servers c) j k ≤ c.failures → In (s.lists k) j q
    all_seen [] is lift lift2 j q st changing i member = absurd st
    all_seen (e ∷ older) is lift lift2 j q st changing i member =
        let lift' : (j a b : ℕ) → IsInTrace Somehow older j b → IsBefore c.partitions s.trace j a b →
        IsBefore c.partitions older j a b =
        λ j a b st bf. before_within c c.partitions e older is j a b st (lift j a b (inr st) bf) in
        let older_seen = all_seen older is.1 lift'
        (λ P i j q le st hh. earlier_within c P e older is i j q le st (lift2 P i j q le (inr st) hh)) in
        elim st [
          | inr there ↦ older_seen j q there changing i member
          | inl at_head ↦ elim (cases_Bool (s.lists k j q)) [
            | inl had ↦ had
            | inr lacks ↦ elim (cases_eq j k) [
              | inl own ↦ absurd (true≢false
                  (sym (subst (λ x. In (s.lists x) j q) own
                  (h.world.lists.heads j q (subst (λ x. s.up x ≡ true) (sym own) (all_up k kl)) changing)) ∙ lacks))
              | inr other ↦
                  let in_y : In (s.lists y) j q = elim (w.here j q i) [
                    | inl a ↦ a
                    | inr b' ↦ elim b' [
                      | inl x ↦ absurd (true≢false (sym x ∙ lacks))
                      | inr d ↦
                          absurd (true≢false (sym (all_up y yl) ∙ d))
                    ]
                  ] in
                  let jl = (h.world.nest.member y j q in_y).2 in
                  let jy = apart_cases (servers c) j y jl yl in let jk = apart_cases (servers c) j k jl kl in
                  let less' : apart (servers c) j y < c.failures = elim (apart_after (servers c) y yl) [
                    | inr alone ↦ absurd (several alone)
                    | inl step ↦ let st' = step.0 in let e1 : next_of (servers c) y ≡ k = next' in omega arith
                  ] in
                  let no_gap : s.gap y ≡ false =
                  elim (cases_Bool (s.gap y)) [
                    | inr g ↦ g
                    | inl g ↦
                        absurd (stuck (Pull y) (
                          all_up y yl,
                          subst (λ x. s.up x ≡ true) (sym next') (all_up k kl),
                          g,
                        ))
                  ] in
                  let here : IsInTrace Somehow (e ∷ older) j q = some_stands _ (e ∷ older) j q (inl at_head) in
                  let in_older : (P : Outcome → Type 0) (a : ℕ) → a < j → IsInTrace P s.trace a q →
                  IsInTrace P older a q = λ P a lt st'. elim (lift2 P a j q (omega arith) here st') [
                    | inl hd ↦ let eq : a ≡ j =
                        one_visit P (λ o. is_changing c.partitions o ≡ true) a q j q e hd at_head in
                        absurd (omega arith)
                    | inr old ↦ old
                  ] in
                  let apply : (o : ℕ) (b' : Message) (v r : Bool) → s.message o ≡ Some b' → b'.place ≡ Held k v r →
                  In b'.logs j q → ⊥ = λ o b' v r there place log.
                  let carried = subst (λ x. AreCarried c s.trace s.up s.lists b'.logs x) (ap (target (servers c)) place)
                  (h.messages o b' there).carried in
                  stuck (Apply k o j q) (
                    b',
                    (there, v, r, place),
                    log,
                    changing,
                    lacks,
                    (λ a bf. older_seen j a (before_older c.partitions e older j a q (lift j a q here bf))
                        (before_first c.partitions s.trace j a q bf) (w.closed j a q i bf) member),
                    λ a lt log'. let cm = carried.member a q log' in elim (cases_eq a k) [
                      | inl own ↦ subst (λ x. Has c.partitions s.trace (s.lists k) x q) (sym own) (head_ready k q kl)
                      | inr ne ↦
                          let hs = w.earlier a j q i lt cm.2 cm.1 ne in
                          record {
                            changing = λ is'. older_seen a q
                                (in_older (λ o. is_changing c.partitions o ≡ true) a lt is') is' (hs.changing is') cm.1;
                            other = λ nc x bf. older_seen a x
                                (before_first c.partitions older a x q
                                (lift' a x q (some_stands _ older a q (in_older _ a lt cm.2)) bf))
                                (before_first c.partitions s.trace a x q bf) (hs.other nc x bf) cm.1;
                          }
                    ],
                  ) in
                  elim (soon y j q in_y less' (subst (λ x. s.up x ≡ true) (sym next') (all_up k kl)) no_gap) [
                    | inl had ↦ subst (λ x. In (s.lists x) j q) next' had
                    | inr way ↦ elim way [
                      | inr f ↦ absurd (no_logs j q f.1)
                      | inl by ↦ absurd (elim (by.by.place) as (λ w. by.by.place ≡ w → IsNear (servers c) y w →
                          (IsHeldAt y w → by.by.since < m.since) → ⊥) [
                            | Held i' v r ↦ λ place near sooner. elim near [
                              | inl at_y ↦ let sn = sooner at_y in ih by.origin by.by by.there (omega arith)
                              | inr at_k ↦ apply by.origin by.by v r by.there
                                  (place ∙ ap (λ x. Held x v r) (at_k ∙ next')) by.log
                            ]
                            | Queued l ↦ λ place near sooner. no_queue
                                (suc by.by.since) by.origin by.by l by.there place
                                (omega arith)
                          ] refl by.near (λ held. by.sooner held p m at from i))
                    ]
                  ]
            ]
          ]
        ]

    ready_by : (x_is : target (servers c) m.place ≡ k) → IsReady c s k m
    ready_by x_is j q log =
        let carried = subst (λ x. AreCarried c s.trace s.up s.lists m.logs x) x_is (h.messages p m at).carried in
        let all = all_seen s.trace h.world.serial (λ j a b st bf. bf) (λ P i j q le st hh. hh) in
        elim (cases_eq j k) [
          | inl own ↦ subst (λ x. Has c.partitions s.trace (s.lists k) x q) (sym own) (head_ready k q kl)
          | inr other ↦
              let member = (carried.member j q log).1 in
              let had = w.has_logs j q log other in
              record {
                changing = λ is. all j q is is (had.changing is) member;
                other = λ not_changing a bf. let first = before_first c.partitions s.trace j a q bf in
                    all j a first first (had.other not_changing a bf) member;
              }
        ]

  -- messages that came before time b are none
  held_goes : (b : ℕ) → ((p : ℕ) (m : Message) → s.message p ≡ Some m → m.since < b → ⊥) → (p : ℕ) (m : Message) →
      s.message p ≡ Some m → m.since < suc b → (k : ℕ) (v r : Bool) → m.place ≡ Held k v r → (r ≡ true) ⊎ (k ≢ 0) → ⊥
  held_goes b ih p m at less k v r place left_one =
      let n = (servers c) in
      let kl : k < n = h.world.inside k (subst (IsUp n s.up) place (h.awake p m at)) in
      let carried = subst (λ x. AreCarried c s.trace s.up s.lists m.logs x) (ap (target n) place)
      (h.messages p m at).carried in
      elim (cases_eq n 1) [
        | inl alone ↦ goes p m k v r at place (λ j q log. let jl = (carried.member j q log).0 in
            let same : k ≡ j = omega arith in
            subst (λ x. Has c.partitions s.trace (s.lists k) x q) same (head_ready k q kl))
        | inr several ↦ elim (apart_before n k kl) [
          | inr alone ↦ absurd (several alone)
          | inl step ↦
              let y = previous_of n k in
              elim (apart_after n y step.1) [
                | inr alone ↦ absurd (several alone)
                | inl step' ↦
                    let st = step.0 in let st' = step'.0 in let yl = step.1 in
                    let next' : next_of n y ≡ k = omega arith in
                    let from : From n m.place y = subst (λ w. From n w y) (sym place) (yl, next', left_one) in
                    let w = subst (λ x. IsSeenAt c s.trace s.up s.lists y x m.logs (seen p)) (ap (target n) place)
                    (ok p m at y from) in
                    goes p m k v r at place (ready_by b ih p m at less k y kl yl next' several from w
                    (ap (target n) place))
              ]
        ]
      ]

  pub none_before : (b p : ℕ) (m : Message) → s.message p ≡ Some m → m.since < b → ⊥
  none_before zero p m at less = absurd (omega arith)
  none_before (suc b) p m at less =
      elim (m.place) as (λ w. m.place ≡ w → ⊥) [
        | Held k v r ↦ λ place. elim (cases_Bool r) [
          | inl ring ↦ held_goes b (none_before b) p m at less k v r place (inl ring)
          | inr other ↦ elim (cases_eq k 0) [
            | inl zero' ↦ none_at_0 p m v at (place ∙ (ap (λ x. Held x v r) zero' ∙ ap (λ x. Held 0 v x) other))
            | inr more ↦ held_goes b (none_before b) p m at less k v r place (inr more)
          ]
        ]
        | Queued l ↦ λ place. no_queue (suc m.since) p m l at place (omega arith)
      ] refl

  -- no message at all
  pub no_message : (p : ℕ) (m : Message) → s.message p ≡ Some m → ⊥
  no_message p m at = none_before (suc m.since) p m at (omega arith)

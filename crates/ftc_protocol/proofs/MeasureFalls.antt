-- Every event lowers the measure.
use Rattle.std.proofs.Common.{◌≡◌, ◌≢◌, ℕ, zero, suc, ◌+◌, ◌-◌, ◌*◌, ◌<◌, ◌≤◌, ◌==◌, ◌&&◌, ◌||◌, if◌then◌else◌, Bool}
use Rattle.std.proofs.Common.{true, false, not, List, [], ◌∷◌, ◌++◌, refl, sym, ap, subst, ◌∙◌, arith, inl, inr}
use Rattle.std.proofs.Common.{length, eqb-true, eq-eqb, Option, Some, None, is_some, le-leb}
use Rattle.std.specs.List.{list_any}
use Rattle.std.proofs.lemmas.Bool.{and_right, or_right, or_cases, not-true, false_from_ne_true}
use Rattle.std.proofs.lemmas.Bool.{true≢false, cases_eq, cases_lt, cases_Bool, eqb-false, and_from, and_parts, or_left}
use Rattle.std.proofs.lemmas.Option.{none-some}
use Rattle.ftc_ring.specs.Ring.{apart, next_of}
use Rattle.ftc_journal.specs.declared.event.Event.{Event}
use Rattle.ftc_journal.specs.declared.event.Event.TheVariants.{Apply, Carry, Crash, Enter, Lose, Pass, Propagate, Pull}
use Rattle.ftc_journal.specs.declared.event.Event.TheVariants.{Recover, Release, Take, Visit}
use Rattle.ftc_script.specs.declared.line.ScriptLine.TheVariants as script_line
use Rattle.ftc_serial.specs.Words.{with_at}
use Rattle.ftc_serial.specs.Serial.{Entry, Given, Visited}
use Rattle.ftc_serial.specs.Take.{Outcome}
use Rattle.ftc_serial.proofs.Functions.{with_at_cases, with_at_here}
use Rattle.ftc_protocol.specs.Setting.{Setting, servers, count, is_tail, is_member, IsSetting}
use Rattle.ftc_protocol.specs.Visits.{Visits, In, union, just}
use Rattle.ftc_protocol.specs.Changes.{is_changing}
use Rattle.ftc_protocol.specs.Trace.{IsChanging, IsVisit}
use Rattle.ftc_protocol.specs.State.{ChainState, Message, Where, Held, Queued, Withheld, opening}
use Rattle.ftc_protocol.specs.Legal.{MayHappen, MayLeave, IsLegal, is_sent}
use Rattle.ftc_protocol.specs.Next.{next, sent_on, is_away, taken_message, visited_message, sent_message}
use Rattle.ftc_protocol.specs.Next.{pulled_list, is_news, outcome_at}
use Rattle.ftc_protocol.specs.Run.{IsRun, state_after}
use Rattle.ftc_protocol.specs.Measure.{sum_below, one_for, way_from, way_of, lacks, lacking, most_messages, measure}
use Rattle.ftc_protocol.specs.Measure.{IsBelow}
use Rattle.ftc_protocol.proofs.Premises.{IsGood, ticked}
use Rattle.ftc_protocol.proofs.AcceptedSettings.{is_good}
use Rattle.ftc_protocol.proofs.DecidedJobs.{numbered}
use Rattle.ftc_protocol.proofs.FewPropagates.{IsCounted, keeps_counts, opens_counted, counted_on, most}
use Rattle.ftc_protocol.proofs.RunLists.{first_legal, rest_legal, state_on}

sum_less : (n : ℕ) (f g : ℕ → ℕ) → ((k : ℕ) → k < n → f k ≤ g k) → sum_below n f ≤ sum_below n g
sum_less zero f g less = omega arith
sum_less (suc n) f g less = let rest = sum_less n f g (λ k below. less k (omega arith)) in let here =
    less n (omega arith) in omega arith

sum_falls : (n : ℕ) (f g : ℕ → ℕ) → ((k : ℕ) → k < n → f k ≤ g k) → (k : ℕ) → k < n → f k < g k →
    sum_below n f < sum_below n g
sum_falls zero f g less k below falls = absurd (omega arith)
sum_falls (suc n) f g less k below falls = elim (cases_eq k n) [
  | inl same ↦
      let rest = sum_less n f g (λ x xl. less x (omega arith)) in
      let here : f n < g n = subst (λ x. f x < g x) same falls in
      omega arith
  | inr other ↦
      let rest = sum_falls n f g (λ x xl. less x (omega arith)) k (omega arith) falls in
      let here = less n (omega arith) in
      omega arith
]

-- one message is nearer its end
module _ (c : Setting) where
  abbrev way : Option Message → ℕ
  way o = way_of (servers c) o

  way_falls : (message : ℕ → Option Message) (p : ℕ) (o : Option Message) → p < most_messages c →
      way o < way (message p) → sum_below (most_messages c) (λ origin. way (with_at message p o origin)) < sum_below
      (most_messages c) (λ origin. way (message origin))
  way_falls message p o below falls =
      sum_falls (most_messages c) (λ origin. way (with_at message p o origin)) (λ origin. way (message origin))
      (λ k kl. with_at_cases (λ v. way v ≤ way (message k)) message p o k
      (λ e. let at : way (message k) ≡ way (message p) = ap (λ x. way (message x)) e in omega arith)
      (λ ne. omega arith)) p below
      (subst (λ v. way v < way (message p)) (sym (with_at_here message p o)) falls)

-- what a group lacks
module _ (c : Setting) where
  lacks_less : (a b : Bool) → (b ≡ true → a ≡ true) → one_for b ≤ one_for a
  lacks_less a true more = subst (λ x. 1 ≤ one_for x) (sym (more refl)) (omega arith)
  lacks_less a false more = omega arith

  -- how many servers lack an entry, and which of them
  abbrev lack : ChainState → Entry → ℕ → ℕ
  lack s e server = one_for (lacks c s e server)

  abbrev NoneLacksMore : ChainState → ChainState → Type 0
  NoneLacksMore s s' = (group packet server : ℕ) (o : Outcome) → lacks c s' (Visited group packet o) server ≡ true →
      lacks c s (Visited group packet o) server ≡ true

  lack_less : (s s' : ChainState) → NoneLacksMore s s' → (e : Entry) (k : ℕ) → lack s' e k ≤ lack s e k
  lack_less s s' more (Given p bytes) k = omega arith
  lack_less s s' more (Visited j p o) k =
      lacks_less (lacks c s (Visited j p o) k) (lacks c s' (Visited j p o) k) (more j p k o)

  lacking_less : (s s' : ChainState) → NoneLacksMore s s' → (trace : List Entry) →
      lacking c s' trace ≤ lacking c s trace
  lacking_less s s' more [] = omega arith
  lacking_less s s' more (e ∷ older) =
      let rest = lacking_less s s' more older in
      let here = sum_less (servers c) (lack s' e) (lack s e) (λ k kl. lack_less s s' more e k) in
      omega arith

  -- and strictly so where some live member gets what it lacked
  lacking_falls : (s s' : ChainState) → NoneLacksMore s s' → (group packet server : ℕ) → server < servers c
      → ((o : Outcome) → is_changing c.partitions o ≡ true → (lacks c s (Visited group packet o) server ≡ true)
      × (lacks c s' (Visited group packet o) server ≡ false))
      → (trace : List Entry) → IsChanging c.partitions trace group packet → lacking c s' trace < lacking c s trace
  lacking_falls s s' more group packet server below got [] there = absurd there
  lacking_falls s s' more group packet server below got (e ∷ older) there = elim there [
    | inl here ↦
        let rest = lacking_less s s' more older in
        let first = sum_falls (servers c) (lack s' e) (lack s e) (λ k kl. lack_less s s' more e k) server below
        (falls e here) in
        omega arith
    | inr below_it ↦
        let rest = lacking_falls s s' more group packet server below got older below_it in
        let first = sum_less (servers c) (lack s' e) (lack s e) (λ k kl. lack_less s s' more e k) in
        omega arith
  ]
    where
      falls : (e : Entry) → IsVisit (λ o. is_changing c.partitions o ≡ true) group packet e →
          lack s' e server < lack s e server
      falls (Given p bytes) here = absurd here
      falls (Visited j p o) here =
          subst (λ x. lack s' (Visited x p o) server < lack s (Visited x p o) server) (sym here.0)
          (subst (λ x. lack s' (Visited group x o) server < lack s (Visited group x o) server) (sym here.1)
          (let same = got o here.2 in
          subst (λ b. one_for b < lack s (Visited group packet o) server) (sym same.1)
          (subst (λ b. 0 < one_for b) (sym same.0) (omega arith))))

  -- where a server's list grows
  lists_less : (s : ChainState) (k : ℕ) (list : Visits) → ((j q : ℕ) → In (s.lists k) j q → In list j q)
      → (gap : ℕ → Bool) →
      NoneLacksMore s (record s { lists = with_at s.lists k list; gap = gap; events = s.events + 1 })
  lists_less s k list grows gap group packet server o =
      with_at_cases (λ (v : Visits). (s.up server && is_member c group server && is_changing c.partitions o
      && not (v group packet)) ≡ true → lacks c s (Visited group packet o) server ≡ true) s.lists k list server
      (λ same is.
      let parts = and_parts (s.up server && is_member c group server
      && is_changing c.partitions o) (not (list group packet)) is in
      and_from (s.up server && is_member c group server
      && is_changing c.partitions o) (not (s.lists server group packet)) parts.0
      (ap not (false_from_ne_true (s.lists server group packet)
      (λ had. true≢false (sym (grows group packet (subst (λ x. In (s.lists x) group packet) same had)) ∙ not-true
      (list group packet) parts.1)))))
      (λ other is. is)

  -- it got one that it lacked
  list_got_one : (s : ChainState) (k : ℕ) (list : Visits) (gap : ℕ → Bool) (group packet : ℕ) → s.up k ≡ true →
      is_member c group k ≡ true → s.lists k group packet ≡ false → In list group packet
      → (o : Outcome) → is_changing c.partitions o ≡ true
      → (lacks c s (Visited group packet o) k ≡ true)
      × (lacks c (record s { lists = with_at s.lists k list; gap = gap; events = s.events + 1 })
      (Visited group packet o) k ≡ false)
  list_got_one s k list gap group packet up member lacked got o changes =
      let live : (s.up k && is_member c group k && is_changing c.partitions o) ≡ true =
      and_from (s.up k && is_member c group k) (is_changing c.partitions o)
      (and_from (s.up k) (is_member c group k) up member) changes in (
        and_from (s.up k && is_member c group k && is_changing c.partitions o) (not (s.lists k group packet)) live
            (ap not lacked),
        ap (λ (v : Visits). s.up k && is_member c group k && is_changing c.partitions o
            && not (v group packet)) (with_at_here s.lists k list)
            ∙ (ap (λ b. s.up k && is_member c group k && is_changing c.partitions o && not b) got ∙ and_right (s.up k
            && is_member c group k && is_changing c.partitions o) false refl),
      )

module _ (c : Setting) (is : IsSetting c) (s : ChainState) (n : IsCounted c s) where
  open n use {reached}

  good : IsGood c
  good = is_good c is

  way_at : (p : ℕ) (m : Message) (w : Where) → s.message p ≡ Some m → m.place ≡ w →
      way_of (servers c) (s.message p) ≡ way_from (servers c) w
  way_at p m w there place = ap (way_of (servers c)) there ∙ ap (way_from (servers c)) place

  holder : (k p : ℕ) (m : Message) (v r : Bool) → s.message p ≡ Some m → m.place ≡ Held k v r → k < servers c
  holder k p m v r there place =
      reached.live.inv.world.inside k
      (subst (Rattle.ftc_protocol.proofs.LiveHolders.IsUp (servers c) s.up) place (reached.live.inv.awake p m there))

  visit_falls : (k p w : ℕ) → MayHappen c s (Visit k p w) →
      way c (visited_message c k p (outcome_at c s k p) (s.message p)) < way c (s.message p)
  visit_falls k p w legal = by_ring legal.2 legal.4
    where
      by_ring : (r : Bool) → legal.0.place ≡ Held k false r →
          way c (visited_message c k p (outcome_at c s k p) (s.message p)) < way c (s.message p)
      by_ring true place =
          absurd (none-some legal.1
          (sym (reached.fated.bare p legal.0 legal.3
          (subst (λ w. Rattle.ftc_protocol.proofs.InsidePackets.IsPast (servers c) w) (sym place) refl)) ∙ legal.5))
      by_ring false place =
          let new : way c (visited_message c k p (outcome_at c s k p) (s.message p))
          ≡ way_from (servers c) (Held k true false) =
          ap (λ o. way c (visited_message c k p (outcome_at c s k p) o)) legal.3
          ∙ ap (λ w. way_from (servers c) (Rattle.ftc_protocol.specs.Next.visited_at w)) place in
          let old = way_at p legal.0 (Held k false false) legal.3 place in
          omega arith

  take_falls : (l p : ℕ) → MayHappen c s (Take l p) → way c (taken_message c s l (s.message p)) < way c (s.message p)
  take_falls l p legal =
      let inside : l < servers c =
      subst (λ w. Rattle.ftc_protocol.proofs.ArrivalOrder.IsRinged (servers c) w legal.0.logs) legal.2
      (reached.live.timed.ringed p legal.0 legal.1) in
      let new : way c (taken_message c s l (s.message p))
      ≡ way_from (servers c) (Held (next_of (servers c) l) false (l + 1 == servers c)) =
      ap (λ o. way c (taken_message c s l o)) legal.1 in
      let old = way_at p legal.0 (Queued l) legal.1 legal.2 in
      let taken : way_from (servers c) (Held (next_of (servers c) l) false (l + 1 == servers c)) < 3 * (servers c - 1
      - l) + 2 = at inside (l + 1 == servers c) refl in
      omega arith
    where
      at : l < servers c → (b : Bool) → (l + 1 == servers c) ≡ b →
          way_from (servers c) (Held (next_of (servers c) l) false b) < 3 * (servers c - 1 - l) + 2
      at inside true last = omega arith
      at inside false isnt =
          let more : l + 1 < servers c = let ne : l + 1 ≢ servers c = eqb-false (l + 1) (servers c) isnt in
          omega arith in
          subst (λ b. way_from (servers c) (Held (if b then 0 else l + 1) false false) < 3 * (servers c - 1 - l) + 2)
          (sym isnt) (omega arith)

  left_falls : (k p : ℕ) (m : Message) → MayLeave c s k p m → (b : Bool) →
      way c (if b then sent_message c s k (s.message p) else None) < way c (s.message p)
  left_falls k p m leaves b =
      let kl = holder k p m leaves.visited false leaves.there leaves.held in
      let old = way_at p m (Held k leaves.visited false) leaves.there leaves.held in
      elim b as (λ b. way c (if b then sent_message c s k (s.message p) else None) < way c (s.message p)) [
        | true ↦
            let new : way c (sent_message c s k (s.message p)) ≡ 3 * (servers c - 1 - k) + 2 =
            ap (λ o. way c (sent_message c s k o)) leaves.there in
            omega arith
        | false ↦ omega arith
      ]

  -- a message is nearer its end, and what counts for more is as it was
  nearer : (s' : ChainState) (p : ℕ) (m : Message) (o : Option Message) → s.message p ≡ Some m →
      s'.message ≡ with_at s.message p o → s'.lines ≡ s.lines → s'.entered ≡ s.entered → s'.propagates ≡ s.propagates →
      way c o < way c (s.message p) → IsBelow (measure c s') (measure c s)
  nearer s' p m o there messages lines entered propagates falls =
      inr (
        ap length lines,
        inr (
          ap (λ x. count c - x) entered,
          inr (
            ap (λ x. count c + length c.lines + 1 - x) propagates,
            inl (subst (λ (f : ℕ → Option Message). sum_below (most_messages c) (λ origin. way c (f origin))
                < sum_below (most_messages c) (λ origin. way c (s.message origin))) (sym messages)
                (way_falls c s.message p o (numbered c is s n p m there) falls)),
          ),
        ),
      )

  leaving_falls : (k p : ℕ) (lost : Bool) (m : Message) → MayLeave c s k p m →
      IsBelow (measure c (ticked (sent_on c s k p lost))) (measure c s)
  leaving_falls k p lost m leaves =
      nearer (ticked (sent_on c s k p lost)) p m _ leaves.there refl refl refl refl
      (left_falls k p m leaves (is_sent c k && not (is_away c s k lost)))

  apply_falls : (k p j q : ℕ) → MayHappen c s (Apply k p j q) →
      lacking c (next c s (Apply k p j q)) s.trace < lacking c s s.trace
  apply_falls k p j q legal =
      let m = legal.0 in let held = legal.1 in
      let up : s.up k ≡ true = subst (Rattle.ftc_protocol.proofs.LiveHolders.IsUp (servers c) s.up) held.3
      (reached.live.inv.awake p m held.0) in
      let kl : k < servers c = reached.live.inv.world.inside k up in
      let carried = (reached.live.inv.messages p m held.0).carried.member j q legal.2 in
      let member : apart (servers c) j k ≤ c.failures =
      subst (λ x. apart (servers c) j x ≤ c.failures)
      (ap (Rattle.ftc_protocol.proofs.Invariant.target (servers c)) held.3) carried.1 in
      let list : Visits = union (s.lists k) (just j q true) in
      let got : In list j q = or_right (s.lists k j q) (just j q true j q)
      (and_from ((j == j) && (q == q)) true
      (and_from (j == j) (q == q) (eq-eqb j j refl) (eq-eqb q q refl)) refl) in
      lacking_falls c s (next c s (Apply k p j q))
      (lists_less c s k list (λ a b i. or_left (s.lists k a b) (just j q true a b) i) s.gap) j q k kl
      (list_got_one c s k list s.gap j q up (le-leb _ _ member) legal.4 got) s.trace legal.3

  same_lacking : (s' : ChainState) → s'.up ≡ s.up → s'.lists ≡ s.lists → (trace : List Entry) →
      lacking c s' trace ≡ lacking c s trace
  same_lacking s' up lists [] = refl
  same_lacking s' up lists (Given p bytes ∷ older) =
      ap (λ x. sum_below (servers c) (λ server. one_for false) + x) (same_lacking s' up lists older)
  same_lacking s' up lists (Visited j p o ∷ older) =
      ap (λ x. sum_below (servers c) (λ server. one_for (s'.up server && is_member c j server
      && is_changing c.partitions o && not (s'.lists server j p))) + x) (same_lacking s' up lists older)
      ∙ (ap (λ (u : ℕ → Bool). sum_below (servers c) (λ server. one_for (u server && is_member c j server
      && is_changing c.partitions o && not (s'.lists server j p))) + lacking c s older) up
      ∙ ap (λ (l : ℕ → Visits). sum_below (servers c) (λ server. one_for (s.up server && is_member c j server
      && is_changing c.partitions o && not (l server j p))) + lacking c s older) lists)

  none_lack : (m : ℕ) → sum_below m (λ server. 0) ≡ 0
  none_lack zero = refl
  none_lack (suc m) = let rest = none_lack m in omega arith

  release_falls : (p : ℕ) → MayHappen c s (Release p) → IsBelow (measure c (next c s (Release p))) (measure c s)
  release_falls p legal =
      let w = legal.0 in let there = legal.1.0 in
      let entered = reached.fated.buffered p w there in
      let most_entered = reached.live.timed.bounded in
      let same : lacking c (next c s (Release p)) (next c s (Release p)).trace ≡ lacking c s s.trace =
      let older = same_lacking (next c s (Release p)) refl refl s.trace in
      let first = none_lack (servers c) in
      ap (λ x. x + lacking c (next c s (Release p)) s.trace) first ∙ omega (arith, older) in
      let old : one_for (is_some (s.withheld p)) ≡ 1 = ap (λ (v : Option Withheld). one_for (is_some v)) there in
      let new : one_for (is_some (with_at s.withheld p None p)) ≡ 0 =
      ap (λ (v : Option Withheld). one_for (is_some v)) (with_at_here s.withheld p None) in
      let fewer = sum_falls (count c) (λ q. one_for (is_some (with_at s.withheld p None q)))
      (λ q. one_for (is_some (s.withheld q)))
      (λ k kl. with_at_cases (λ (v : Option Withheld). one_for (is_some v) ≤ one_for (is_some (s.withheld k)))
      s.withheld p None k (λ e. omega arith) (λ ne. omega arith)) p (omega arith) (omega arith) in
      inr (refl, inr (refl, inr (refl, inr (refl, inr (same, inr (refl, inl fewer))))))

  -- ---- pull

  some_news : (a b : ℕ) (trace : List Entry) → list_any (is_news c s a b) trace ≡ true →
      (j : ℕ) × (q : ℕ) × (pulled_list c s a b j q ≡ true) × (s.lists b j q ≡ false)
  some_news a b [] is = absurd (true≢false (sym is))
  some_news a b (Given p bytes ∷ older) is = some_news a b older is
  some_news a b (Visited j q o ∷ older) is =
      elim (or_cases (is_news c s a b (Visited j q o)) (list_any (is_news c s a b) older) is) [
        | inl here ↦
            let parts = and_parts (pulled_list c s a b j q && not (s.lists b j q)) (not (is_tail c j b)) here in
            let first = and_parts (pulled_list c s a b j q) (not (s.lists b j q)) parts.0 in
            (j, q, first.0, not-true (s.lists b j q) first.1)
        | inr more ↦ some_news a b older more
      ]

  -- what is new came from the sender
  news_from : (a b j q : ℕ) → pulled_list c s a b j q ≡ true → s.lists b j q ≡ false →
      (is_member c j b ≡ true) × In (s.lists a) j q
  news_from a b j q got lacked = by (is_member c j a) (is_member c j b) (not (j == b)) refl got
    where
      by : (x y z : Bool) → is_member c j b ≡ y → (if x && y && z then s.lists a j q else s.lists b j q) ≡ true →
          (is_member c j b ≡ true) × In (s.lists a) j q
      by true true true member is = (member, is)
      by true true false member is = absurd (true≢false (sym is ∙ lacked))
      by true false z member is = absurd (true≢false (sym is ∙ lacked))
      by false y z member is = absurd (true≢false (sym is ∙ lacked))

  pull_falls : (k : ℕ) → MayHappen c s (Pull k) → IsBelow (measure c (next c s (Pull k))) (measure c s)
  pull_falls k legal =
      let b = next_of (servers c) k in
      let list : Visits = pulled_list c s k b in
      let kl : k < servers c = reached.live.inv.world.inside k legal.0 in
      let bl : b < servers c = reached.live.inv.world.inside b legal.1 in
      let grows : (j q : ℕ) → In (s.lists b) j q → In list j q =
      λ j q i. subst (λ (v : Visits). In v j q) (with_at_here s.lists b list)
      (Rattle.ftc_protocol.proofs.FinishedState.pull_more c good s reached.live k legal b j q i) in
      let s' = next c s (Pull k) in
      let more = lists_less c s b list grows s'.gap in
      elim (cases_Bool (list_any (is_news c s k b) s.trace)) [
        | inl news ↦
            let new = some_news k b s.trace news in
            let from = news_from k b new.0 new.1 new.2 new.3 in
            let changing = (reached.live.inv.world.lists.listed k new.0 new.1 from.1).1 in
            let fewer = lacking_falls c s s' more new.0 new.1 b bl
            (list_got_one c s b list s'.gap new.0 new.1 legal.1 from.0 new.3 new.2) s.trace changing in
            inr (refl, inr (refl, inr (refl, inr (refl, inl fewer))))
        | inr none_new ↦
            let less = lacking_less c s s' more s.trace in
            let gaps = sum_falls (servers c) (λ link. one_for (s'.gap link)) (λ link. one_for (s.gap link))
            (λ link ll. fewer_gaps k link none_new) k kl (no_gap k legal.2) in
            elim (cases_lt (lacking c s' s.trace) (lacking c s s.trace)) [
              | inl falls ↦ inr (refl, inr (refl, inr (refl, inr (refl, inl falls))))
              | inr same ↦ inr (refl, inr (refl, inr (refl, inr (refl, inr (omega arith, inl gaps)))))
            ]
      ]
    where
      no_gap : (k : ℕ) → s.gap k ≡ true → one_for ((next c s (Pull k)).gap k) < one_for (s.gap k)
      no_gap k there =
          let new : (next c s (Pull k)).gap k ≡ false =
          ap (λ t. if t then false
          else (if k == next_of (servers c) k then s.gap (next_of (servers c) k)
          || list_any (is_news c s k (next_of (servers c) k)) s.trace else s.gap k)) (eq-eqb k k refl) in
          subst (λ x. one_for x < one_for (s.gap k)) (sym new) (subst (λ x. 0 < one_for x) (sym there) (omega arith))

      fewer_gaps : (k link : ℕ) → list_any (is_news c s k (next_of (servers c) k)) s.trace ≡ false →
          one_for ((next c s (Pull k)).gap link) ≤ one_for (s.gap link)
      fewer_gaps k link none_new =
          elim (link == k) as (λ t. one_for (if t then false
          else (if link == next_of (servers c) k then s.gap (next_of (servers c) k)
          || list_any (is_news c s k (next_of (servers c) k)) s.trace else s.gap link)) ≤ one_for (s.gap link)) [
            | true ↦ omega arith
            | false ↦ elim (link == next_of (servers c) k) as (λ t. link == next_of (servers c) k ≡ t →
                one_for (if t then s.gap (next_of (servers c) k)
                || list_any (is_news c s k (next_of (servers c) k)) s.trace else s.gap link) ≤ one_for (s.gap link)) [
                  | true ↦ λ at.
                      let same : link ≡ next_of (servers c) k = eqb-true link (next_of (servers c) k) at in
                      subst (λ x. one_for (s.gap (next_of (servers c) k) || x) ≤ one_for (s.gap link)) (sym none_new)
                      (subst (λ x. one_for (s.gap x || false) ≤ one_for (s.gap link)) same (plain (s.gap link)))
                  | false ↦ λ isnt. omega arith
                ] refl
          ]
        where
          plain : (g : Bool) → one_for (g || false) ≤ one_for g
          plain true = omega arith
          plain false = omega arith

  pub falls : (e : Event) → IsLegal c s e → IsBelow (measure c (next c s e)) (measure c s)
  falls (Enter p) legal = let same : p ≡ s.entered = legal.0.0 in let less : p < count c =
      legal.0.1 in inr (refl, inl (omega arith))
  falls (Take l p) legal =
      nearer (next c s (Take l p)) p legal.0.0 _ legal.0.1 refl refl refl refl (take_falls l p legal.0)
  falls (Apply k p j q) legal = inr (refl, inr (refl, inr (refl, inr (refl, inl (apply_falls k p j q legal.0)))))
  falls (Visit k p w) legal =
      nearer (next c s (Visit k p w)) p legal.0.0 _ legal.0.3 refl refl refl refl (visit_falls k p w legal.0)
  falls (Pass k p) legal = leaving_falls k p false legal.0.0 legal.0.1
  falls (Lose k p) legal = leaving_falls k p true legal.0.0 legal.0.1
  falls (Carry p) legal = nearer (next c s (Carry p)) p legal.0.0 None legal.0.1 refl refl refl refl
      (let old = way_at p legal.0.0 (Held 0 legal.0.2 true) legal.0.1 legal.0.3 in omega arith)
  falls (Crash k) legal = inl
      (let fewer = Rattle.ftc_protocol.proofs.FewPropagates.fewer_lines s.lines
      (script_line.Crash s.entered k) legal.0 in omega arith)
  falls (Recover k undone) legal =
      inl (let fewer = Rattle.ftc_protocol.proofs.FewPropagates.fewer_lines s.lines
      (script_line.Recover s.entered k) legal.0.0 in omega arith)
  falls (Pull k) legal = pull_falls k legal.0
  falls (Propagate p) legal = let bound =
      most c is (next c s (Propagate p)) (keeps_counts c is s n (Propagate p) legal) in
      inr (refl, inr (refl, inl (omega arith)))
  falls (Release p) legal = release_falls p legal.0

pub falls_on : (c : Setting) → IsSetting c → (before : List Event) (e : Event) → IsRun c (before ++ e ∷ [])
    → IsBelow (measure c (state_after c (opening c) (before ++ e ∷ []))) (measure c (state_after c (opening c) before))
falls_on c is before e run =
    let s = state_after c (opening c) before in
    let n = counted_on c is before (opening c) (opens_counted c is) (first_legal c before (e ∷ []) (opening c) run) in
    subst (λ (x : ChainState). IsBelow (measure c x) (measure c s)) (sym (state_on c before (e ∷ []) (opening c)))
    (falls c is s n e (rest_legal c before (e ∷ []) (opening c) run).0)

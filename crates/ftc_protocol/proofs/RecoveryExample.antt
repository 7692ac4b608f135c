-- The second example is a finished run: each of its events is legal in its turn, and none is at its end.
use Rattle.std.proofs.Common.{◌≡◌, ℕ, ◌<◌, ◌≤◌, ◌&&◌, ◌||◌, ◌==◌, not, Bool, true, false, [], inl, inr, refl, sym, ap}
use Rattle.std.proofs.Common.{subst, ◌∙◌, arith, Some, None, ltb-true, eqb-true}
use Rattle.std.proofs.lemmas.Bool.{true≢false, cases_eq, and_parts, or_cases, false_from_ne_true}
use Rattle.std.proofs.lemmas.Option.{none-some, same_Some}
use Rattle.ftc_serial.specs.Words.{with_at}
use Rattle.ftc_serial.proofs.Functions.{with_at_cases}
use Rattle.ftc_serial.specs.Take.{asked, asked_from}
use Rattle.ftc_journal.specs.declared.event.Event.TheVariants.{Apply, Carry, Crash, Enter, Pass, Pull, Recover, Release}
use Rattle.ftc_journal.specs.declared.event.Event.TheVariants.{Take, Visit}
use Rattle.ftc_mbox.specs.Ask.{ask}
use Rattle.ftc_mbox.specs.declared.rule.Rule.TheVariants as rule
use Rattle.ftc_packet.specs.Flow.{flow_found, flow_in, is_flow}
use Rattle.ftc_packet.specs.Layout.{word_at, transport_start}
use Rattle.ftc_protocol.specs.declared.fate.Fate.TheVariants as became
use Rattle.ftc_protocol.specs.Setting.{is_tail, IsSetting}
use Rattle.ftc_protocol.specs.Visits.{In, no_visits, union, just}
use Rattle.ftc_protocol.specs.Changes.{changes}
use Rattle.ftc_protocol.specs.State.{ChainState, Message, Withheld, Where, Queued, opening}
use Rattle.ftc_protocol.specs.Trace.{Has}
use Rattle.ftc_protocol.specs.Legal.{MayHappen}
use Rattle.ftc_protocol.specs.Known.{ServerHas, IsDue, knows}
use Rattle.ftc_protocol.specs.Recovery.{following_live, is_dropped}
use Rattle.ftc_protocol.specs.Next.{next, drop_if, is_at, logs_of}
use Rattle.ftc_protocol.specs.Run.{IsRun, IsFinished, state_after}
use Rattle.ftc_protocol.specs.Example.{monitor_and_pass, saving, datagram}
use Rattle.ftc_protocol.proofs.Sets.{in_one}
use Rattle.ftc_protocol.proofs.NothingLegal.{nothing_left}
use Rattle.ftc_protocol.proofs.Example.{only_two, and_then, crashing_setting}

abbrev s0 : ChainState
s0 = opening monitor_and_pass

abbrev s1 : ChainState
s1 = next monitor_and_pass s0 (Enter 0)

abbrev s2 : ChainState
s2 = next monitor_and_pass s1 (Visit 0 0 63)

abbrev s3 : ChainState
s3 = next monitor_and_pass s2 (Pass 0 0)

abbrev s4 : ChainState
s4 = next monitor_and_pass s3 (Take 0 0)

abbrev s5 : ChainState
s5 = next monitor_and_pass s4 (Apply 1 0 0 0)

abbrev s6 : ChainState
s6 = next monitor_and_pass s5 (Crash 0)

abbrev s7 : ChainState
s7 = next monitor_and_pass s6 (Recover 0 [])

abbrev s8 : ChainState
s8 = next monitor_and_pass s7 (Pull 0)

abbrev s9 : ChainState
s9 = next monitor_and_pass s8 (Pull 1)

abbrev s10 : ChainState
s10 = next monitor_and_pass s9 (Visit 1 0 63)

abbrev s11 : ChainState
s11 = next monitor_and_pass s10 (Pass 1 0)

abbrev s12 : ChainState
s12 = next monitor_and_pass s11 (Release 0)

abbrev s13 : ChainState
s13 = next monitor_and_pass s12 (Take 1 0)

abbrev s14 : ChainState
s14 = next monitor_and_pass s13 (Carry 0)

-- ---- no packet but 0 has a message, and none is withheld before the buffer gets packet 0

elsewhere : {A : Type 0} (f : ℕ → A) (v : A) (p : ℕ) → (p ≡ 0 → ⊥) → with_at f 0 v p ≡ f p
elsewhere f v p ne = with_at_cases (λ x. x ≡ f p) f 0 v p (λ same. absurd (ne same)) (λ other. refl)

same_both : {A : Type 0} (f : ℕ → A) (v w : A) (p : ℕ) → v ≡ w → ((q : ℕ) → f q ≡ w) → with_at f 0 v p ≡ w
same_both f v w p here there = with_at_cases (λ x. x ≡ w) f 0 v p (λ same. here) (λ other. there p)

least : (s : ChainState) (m : Message) → s.message 0 ≡ Some m → ((p : ℕ) → (p ≡ 0 → ⊥) → s.message p ≡ None)
    → (other : ℕ) (queued : Message) → s.message other ≡ Some queued → (place : Where) → queued.place ≡ place
    → m.since ≤ queued.since
least s m at none other queued is place held = elim (cases_eq other 0) [
  | inl same ↦ subst (λ (x : Message). m.since ≤ x.since) (same_Some m queued
      (sym at ∙ subst (λ p. s.message p ≡ Some queued) same is)) (omega arith)
  | inr ne ↦ absurd (none-some queued (sym (none other ne) ∙ is))
]

never : (s : ChainState) → ((p : ℕ) → s.withheld p ≡ None) → (p : ℕ) (w : Withheld) → IsDue monitor_and_pass s p w → ⊥
never s none p w due = none-some w (sym (none p) ∙ due.0)

m1 : (p : ℕ) → (p ≡ 0 → ⊥) → s1.message p ≡ None
m1 p ne = elsewhere s0.message _ p ne

m2 : (p : ℕ) → (p ≡ 0 → ⊥) → s2.message p ≡ None
m2 p ne = elsewhere s1.message _ p ne ∙ m1 p ne

m3 : (p : ℕ) → (p ≡ 0 → ⊥) → s3.message p ≡ None
m3 p ne = elsewhere s2.message _ p ne ∙ m2 p ne

m4 : (p : ℕ) → (p ≡ 0 → ⊥) → s4.message p ≡ None
m4 p ne = elsewhere s3.message _ p ne ∙ m3 p ne

m6 : (p : ℕ) → (p ≡ 0 → ⊥) → s6.message p ≡ None
m6 p ne = ap (drop_if (λ (x : Message). is_at monitor_and_pass 0 x.place)) (m4 p ne)

m7 : (p : ℕ) → (p ≡ 0 → ⊥) → s7.message p ≡ None
m7 p ne = ap (drop_if (is_dropped monitor_and_pass s6 (following_live monitor_and_pass s6 0))) (m6 p ne)

m10 : (p : ℕ) → (p ≡ 0 → ⊥) → s10.message p ≡ None
m10 p ne = elsewhere s9.message _ p ne ∙ m7 p ne

m11 : (p : ℕ) → (p ≡ 0 → ⊥) → s11.message p ≡ None
m11 p ne = elsewhere s10.message _ p ne ∙ m10 p ne

m13 : (p : ℕ) → (p ≡ 0 → ⊥) → s13.message p ≡ None
m13 p ne = elsewhere s12.message _ p ne ∙ m11 p ne

m14 : (p : ℕ) → s14.message p ≡ None
m14 p = with_at_cases (λ x. x ≡ None) s13.message 0 None p (λ same. refl) (λ other. m13 p other)

w3 : (p : ℕ) → s3.withheld p ≡ None
w3 p = same_both s2.withheld _ None p refl (λ q. refl)

w12 : (p : ℕ) → s12.withheld p ≡ None
w12 p = with_at_cases (λ x. x ≡ None) s11.withheld 0 None p (λ same. refl)
    (λ other. elsewhere s10.withheld _ p other ∙ w3 p)

-- ---- the logs: that of the count alone

one_log : (test : Bool) (g p : ℕ) → In (union no_visits (just 0 0 test)) g p → (g ≡ 0) × (p ≡ 0)
one_log test g p is = elim (or_cases false (just 0 0 test g p) is) [
  | inl no_log ↦ absurd
      (true≢false (sym no_log))
  | inr here ↦ let at = in_one 0 0 test g p here in (sym at.0, at.1)
]

-- those that ride from server 0
sent_log : (test : Bool) (g p : ℕ) → ((union no_visits (just 0 0 test) g p && not (is_tail monitor_and_pass g 0))
    || (true && false)) ≡ true → (g ≡ 0) × (p ≡ 0)
sent_log test g p is = elim (or_cases (union no_visits (just 0 0 test) g p
    && not (is_tail monitor_and_pass g 0)) false is) [
      | inl own ↦ one_log test g p (and_parts (union no_visits (just 0 0 test) g p)
          (not (is_tail monitor_and_pass g 0)) own).0
      | inr no_log ↦ absurd (true≢false (sym no_log))
    ]

-- and those that are left after the second visit
later_log : (g p : ℕ) → (((union no_visits (just 0 0 true) g p && not (is_tail monitor_and_pass g 0))
    || (true && false)) || just 1 0 false g p) ≡ true → (g ≡ 0) × (p ≡ 0)
later_log g p is = elim (or_cases ((union no_visits (just 0 0 true) g p && not (is_tail monitor_and_pass g 0))
    || (true && false)) (just 1 0 false g p) is) [
      | inl sent ↦ sent_log true g p sent
      | inr new ↦ absurd (true≢false (sym (in_one 1 0 false g p new).2))
    ]

there : (s : ChainState) (k g p : ℕ) → ServerHas monitor_and_pass s k 0 0 → (g ≡ 0) × (p ≡ 0)
    → ServerHas monitor_and_pass s k g p
there s k g p has at = subst (λ x. ServerHas monitor_and_pass s k x p) (sym at.0)
    (subst (λ x. ServerHas monitor_and_pass s k 0 x) (sym at.1) has)

has2 : ServerHas monitor_and_pass s2 0 0 0
unfolding asked asked_from ask flow_found flow_in is_flow word_at transport_start changes
has2 = record { changing = λ _. refl; other = λ isnt e before. absurd (isnt (inl (refl, refl, refl))) }

has9 : ServerHas monitor_and_pass s9 1 0 0
unfolding asked asked_from ask flow_found flow_in is_flow word_at transport_start changes
has9 = record { changing = λ _. refl; other = λ isnt e before. absurd (isnt (inl (refl, refl, refl))) }

has10 : ServerHas monitor_and_pass s10 1 0 0
unfolding asked asked_from ask flow_found flow_in is_flow word_at transport_start changes
has10 = record { changing = λ _. refl; other = λ isnt e before. absurd (isnt (inr (inl (refl, refl, refl)))) }

-- ---- each event

legal3 : MayHappen monitor_and_pass s2 (Pass 0 0)
unfolding asked asked_from ask flow_found flow_in is_flow word_at transport_start changes
legal3 = (
  _,
  record {
    there = refl;
    visited = true;
    held = refl;
    ready = λ g p is. there s2 0 g p has2
        (one_log true g p is);
    done = inl refl;
  },
  inl refl,
)

legal4 : MayHappen monitor_and_pass s3 (Take 0 0)
legal4 = (_, refl, refl, λ other queued is. least s3 _ refl m3 other queued is (Queued 0))

legal5 : MayHappen monitor_and_pass s4 (Apply 1 0 0 0)
unfolding asked asked_from ask flow_found flow_in is_flow word_at transport_start changes
legal5 = (
  _,
  (refl, false, false, refl),
  refl,
  inl (refl, refl, refl),
  refl,
  (λ e before. elim before [ inl here ↦ absurd here.1.1 | inr none_there ↦ absurd none_there ]),
  (λ smaller less _. absurd (omega arith)),
)

legal7 : MayHappen monitor_and_pass s6 (Recover 0 [])
unfolding asked asked_from ask flow_found flow_in is_flow word_at transport_start changes
legal7 = (refl, refl)

legal10 : MayHappen monitor_and_pass s9 (Visit 1 0 63)
unfolding asked asked_from ask flow_found flow_in is_flow word_at transport_start changes
legal10 = (_, datagram, false, refl, refl, refl, λ g p is. there s9 1 g p has9 (sent_log true g p is))

legal11 : MayHappen monitor_and_pass s10 (Pass 1 0)
unfolding asked asked_from ask flow_found flow_in is_flow word_at transport_start changes
legal11 = (
  _,
  record {
    there = refl;
    visited = true;
    held = refl;
    ready = λ g p is. there s10 1 g p has10
        (later_log g p is);
    done = inl refl;
  },
  inl refl,
)

-- the count is all that the packet needs
needed : (g : ℕ) → (((g == 0) && true) || ((g == 1) && false)) ≡ true → g ≡ 0
needed g is = elim (or_cases ((g == 0) && true) ((g == 1) && false) is) [
  | inl own ↦ eqb-true g 0 (and_parts (g == 0) true own).0
  | inr no_need ↦ absurd (true≢false (sym (and_parts (g == 1) false no_need).1))
]

legal12 : MayHappen monitor_and_pass s11 (Release 0)
unfolding asked asked_from ask flow_found flow_in is_flow word_at transport_start changes
legal12 = (
  _,
  (
    refl,
    λ g need. subst (λ x. Has 1 s11.trace (knows monitor_and_pass s11 1) x 0) (sym (needed g need))
        (record { changing = λ _. refl; other = λ isnt e before. absurd (isnt (inr (inl (refl, refl, refl)))) }),
  ),
  λ other w due. elim (cases_eq other 0) [
    | inl same ↦ subst (λ (x : Withheld). 10 ≤ x.since) (same_Some _ w
        (subst (λ p. s11.withheld p ≡ Some w) same due.0)) (omega arith)
    | inr ne ↦ absurd (none-some w (sym (elsewhere s10.withheld _ other ne ∙ w3 other) ∙ due.0))
  ],
)

legal13 : MayHappen monitor_and_pass s12 (Take 1 0)
unfolding asked asked_from ask flow_found flow_in is_flow word_at transport_start changes
legal13 = (_, refl, refl, λ other queued is. least s12 _ refl m11 other queued is (Queued 1))

-- the log doesn't go on behind server 1, the tail of its group
no_log : (g p : ℕ) → (((((union no_visits (just 0 0 true) g p && not (is_tail monitor_and_pass g 0))
    || (true && false)) || just 1 0 false g p) && not (is_tail monitor_and_pass g 1)) || false) ≡ true → ⊥
no_log g p is = elim (or_cases ((((union no_visits (just 0 0 true) g p && not (is_tail monitor_and_pass g 0))
    || (true && false)) || just 1 0 false g p) && not (is_tail monitor_and_pass g 1)) false is) [
      | inl some ↦
          let parts = and_parts (((union no_visits (just 0 0 true) g p && not (is_tail monitor_and_pass g 0))
          || (true && false)) || just 1 0 false g p) (not (is_tail monitor_and_pass g 1)) some in
          true≢false (sym (subst (λ x. not (is_tail monitor_and_pass x 1) ≡ true) (later_log g p parts.0).0 parts.1))
      | inr none_there ↦ true≢false (sym none_there)
    ]

legal14 : MayHappen monitor_and_pass s13 (Carry 0)
unfolding asked asked_from ask flow_found flow_in is_flow word_at transport_start changes
legal14 = (_, refl, false, refl, λ g p is. absurd (no_log g p is))

pub a_run : IsRun monitor_and_pass saving
a_run =
    and_then ((refl, omega arith, ((λ e. omega arith), ((λ e. omega arith), tt))), λ _ p w due. none-some w due.0)
    (and_then (
      (_, datagram, false, refl, refl, refl, λ j q is. absurd (true≢false (sym is))),
      λ _ p w due. none-some w due.0,
    )
    (and_then (legal3, λ _. never s2 (λ p. refl))
    (and_then (legal4, λ _. never s3 w3)
    (and_then (legal5, λ _. never s4 w3)
    (and_then (refl, λ _. never s5 w3)
    (and_then (legal7, λ _. never s6 w3)
    (and_then ((refl, refl, refl), λ _. never s7 w3)
    (and_then ((refl, refl, refl), λ _. never s8 w3)
    (and_then (legal10, λ _. never s9 w3)
    (and_then (legal11, λ _. never s10 w3)
    (and_then (legal12, λ e. absurd (true≢false e))
    (and_then (legal13, λ _. never s12 w12)
    (and_then (legal14, λ _. never s13 w12) tt)))))))))))))

-- ---- the end

no_logs : (g p : ℕ) → s14.forwarder g p ≡ false
unfolding asked asked_from ask flow_found flow_in is_flow word_at transport_start changes
no_logs g p = false_from_ne_true (s14.forwarder g p) (λ is. no_log g p
    (and_parts (logs_of (s13.message 0) g p) (not (is_tail monitor_and_pass g 0)) is).0)

both_up : (k : ℕ) → s14.up k ≡ true → k < 2
both_up k is = with_at_cases (λ b. b ≡ true → k < 2) s6.up 0 true k (λ same _. omega arith)
    (λ other up. with_at_cases (λ b. b ≡ true → k < 2) s5.up 0 false k (λ same _. absurd (other same))
    (λ _ on. ltb-true k 2 on) up) is

pub is_finished : IsFinished monitor_and_pass (state_after monitor_and_pass (opening monitor_and_pass) saving)
is_finished = nothing_left monitor_and_pass s14 refl refl m14 no_logs
    (only_two (λ link. s14.gap link ≡ false) refl refl) w12 both_up

pub released : (state_after monitor_and_pass (opening monitor_and_pass) saving).fate 0 ≡ became.Released
released = refl

pub a_setting : IsSetting monitor_and_pass
a_setting = crashing_setting rule.Pass

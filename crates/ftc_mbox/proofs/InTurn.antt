-- What a rule asks after answers in turn.
use Rattle.std.proofs.Common.{◌≡◌, ◌≢◌, ◌<◌, ℕ, zero, suc, Bool, true, false, if◌then◌else◌, List, [], ◌∷◌}
use Rattle.std.proofs.Common.{length, ◌⊎◌, inl, inr, Option, Some, None, refl, sym, ap, subst, ◌∙◌, arith}
use Rattle.std.specs.Prelude.{◌==◌, ◌&&◌, nat_lt, unwrap_or}
use Rattle.std.specs.List.{AllByRecursion, Contains, list_any}
use Rattle.std.specs.Int.{w16, w32}
use Rattle.ftc_base.specs.declared.ask.Answer.{Answer}
use Rattle.ftc_base.specs.declared.ask.Write.{Write}
use Rattle.ftc_base.specs.declared.ask.Ask.{Ask}
use Rattle.ftc_base.specs.declared.ask.Ask.TheVariants.{Read, Finish}
use Rattle.ftc_base.specs.Ask.{number_in}
use Rattle.ftc_base.specs.Keys.{keys_rise}
use Rattle.ftc_base.proofs.EachOf.{all-weaker}
use Rattle.ftc_packet.specs.declared.flow.Flow.{Flow}
use Rattle.ftc_packet.specs.Flow.{flow_found}
use Rattle.ftc_nat.specs.declared.rule.NatRule.{NatRule}
use Rattle.ftc_nat.specs.Nat as nat
use Rattle.ftc_firewall.specs.declared.rule.FirewallRule.{FirewallRule}
use Rattle.ftc_firewall.specs.Firewall as firewall
use Rattle.ftc_balance.specs.declared.rule.BalanceRule.{BalanceRule}
use Rattle.ftc_balance.specs.Balance as balance
use Rattle.ftc_mbox.specs.declared.rule.Rule.{Rule}
use Rattle.ftc_mbox.specs.declared.rule.Rule.TheVariants.{Pass, Monitor, Nat, Firewall, Balance}
use Rattle.ftc_mbox.specs.Ask.{ask, ask_of, ask_of_flow}
use Rattle.ftc_mbox.specs.Monitor.{monitor_ask}
use Rattle.ftc_mbox.specs.Visit.{WritesAt, ReadsAndWrites}
use Rattle.ftc_mbox.specs.InTurn.{Asks, AllInTurn, InTurn, IsLent, ComesNext}
use Rattle.ftc_mbox.proofs.Visits.{rules_are_bounded}

-- ---- writes rise

-- where a visit ends, its writes' keys rise
abbrev EndsRising : Ask → Type 0
EndsRising (Read key change) = Unit {0}
EndsRising (Finish end) = keys_rise None end.writes.items ≡ true

choose : (test : Bool) (one other : Ask) → EndsRising one → EndsRising other → EndsRising (if test then one else other)
choose true one other first second = first
choose false one other first second = second

monitor_rises : (groups : ℕ) (flow : Flow) (answers : List Answer) → EndsRising (monitor_ask groups flow answers)
monitor_rises groups flow [] = tt
monitor_rises groups flow (answer ∷ answers) = refl

drawing_rises : (rule : NatRule) (flow : Flow) (port : ℕ) (answers : List Answer) →
    EndsRising (nat.drawing rule flow port answers)
drawing_rises rule flow port [] = tt
drawing_rises rule flow port (reverse ∷ answers) = refl

unknown_rises : (rule : NatRule) (flow : Flow) (answers : List Answer) → EndsRising (nat.unknown rule flow answers)
unknown_rises rule flow [] = tt
unknown_rises rule flow (next ∷ answers) =
    choose (nat_lt rule.last (unwrap_or (number_in w32 next.value) rule.first)) _
    (nat.drawing rule flow (unwrap_or (number_in w32 next.value) rule.first) answers) refl
    (drawing_rises rule flow (unwrap_or (number_in w32 next.value) rule.first) answers)

known_rises : (rule : NatRule) (flow : Flow) (known : Option ℕ) (answers : List Answer)
    → EndsRising (nat.known_or_not rule flow known answers)
known_rises rule flow (Some port) answers = refl
known_rises rule flow None answers = unknown_rises rule flow answers

outgoing_rises : (rule : NatRule) (flow : Flow) (answers : List Answer) → EndsRising (nat.outgoing rule flow answers)
outgoing_rises rule flow [] = tt
outgoing_rises rule flow (port ∷ answers) = known_rises rule flow (number_in w16 port.value) answers

inside_rises : (value : Option (List ℕ)) → EndsRising (nat.to_inside value)
inside_rises None = refl
inside_rises (Some value) = choose (length value == 6) _ _ refl refl

incoming_rises : (flow : Flow) (answers : List Answer) → EndsRising (nat.incoming flow answers)
incoming_rises flow [] = tt
incoming_rises flow (inside ∷ answers) = inside_rises inside.value

nat_rises : (rule : NatRule) (flow : Flow) (answers : List Answer) → EndsRising (nat.nat_ask rule flow answers)
nat_rises rule flow answers =
    choose (nat.leaves rule flow) (nat.outgoing rule flow answers) _ (outgoing_rises rule flow answers)
    (choose (flow.destination == rule.outside) (nat.incoming flow answers) _ (incoming_rises flow answers) refl)

connection_rises : (rule : FirewallRule) (flow : Flow) (value : Option (List ℕ)) →
    EndsRising (firewall.known_or_not rule flow value)
connection_rises rule flow (Some value) = refl
connection_rises rule flow None = choose (firewall.is_allowed rule.lines flow) _ _ refl refl

firewall_rises : (rule : FirewallRule) (flow : Flow) (answers : List Answer) →
    EndsRising (firewall.firewall_ask rule flow answers)
firewall_rises rule flow [] = tt
firewall_rises rule flow (answer ∷ answers) = connection_rises rule flow answer.value

new_client_rises : (rule : BalanceRule) (flow : Flow) (answers : List Answer) →
    EndsRising (balance.new_client rule flow answers)
new_client_rises rule flow [] = tt
new_client_rises rule flow (turn ∷ answers) = refl

client_rises : (rule : BalanceRule) (flow : Flow) (known : Option ℕ) (answers : List Answer)
    → EndsRising (balance.known_or_not rule flow known answers)
client_rises rule flow (Some backend) answers = refl
client_rises rule flow None answers = new_client_rises rule flow answers

from_client_rises : (rule : BalanceRule) (flow : Flow) (answers : List Answer) →
    EndsRising (balance.from_client rule flow answers)
from_client_rises rule flow [] = tt
from_client_rises rule flow (backend ∷ answers) = client_rises rule flow (number_in w32 backend.value) answers

replied_rises : (rule : BalanceRule) (flow : Flow) (known : Option ℕ) → EndsRising (balance.replied rule flow known)
replied_rises rule flow None = refl
replied_rises rule flow (Some backend) = choose (backend == flow.source) _ _ refl refl

from_backend_rises : (rule : BalanceRule) (flow : Flow) (answers : List Answer) →
    EndsRising (balance.from_backend rule flow answers)
from_backend_rises rule flow [] = tt
from_backend_rises rule flow (backend ∷ answers) = replied_rises rule flow (number_in w32 backend.value)

balance_rises : (rule : BalanceRule) (flow : Flow) (answers : List Answer) →
    EndsRising (balance.balance_ask rule flow answers)
balance_rises rule flow answers =
    choose (flow.destination == rule.address
    && flow.destination_port == rule.port) (balance.from_client rule flow answers) _
    (from_client_rises rule flow answers)
    (choose (list_any (λ backend. backend == flow.source) rule.backends && flow.source_port == rule.port)
    (balance.from_backend rule flow answers) _ (from_backend_rises rule flow answers) refl)

rule_rises : (rule : Rule) (flow : Flow) (answers : List Answer) → EndsRising (ask_of_flow rule flow answers)
rule_rises Pass flow answers = refl
rule_rises (Monitor groups) flow answers = monitor_rises groups flow answers
rule_rises (Nat rule) flow answers = nat_rises rule flow answers
rule_rises (Firewall rule) flow answers = firewall_rises rule flow answers
rule_rises (Balance rule) flow answers = balance_rises rule flow answers

found_rises : (rule : Rule) (found : Option Flow) (answers : List Answer) → EndsRising (ask_of rule found answers)
found_rises rule None answers = refl
found_rises rule (Some flow) answers = rule_rises rule flow answers

ends_rising : (rule : Rule) (packet : List ℕ) (answers : List Answer) → EndsRising (ask rule packet answers)
unfolding ask
ends_rising rule packet answers = found_rises rule (flow_found packet) answers

-- ---- what was asked for before

-- a key that may be written is one of those with leave from before, or was lent by these answers
abbrev MayWrite : List (List ℕ) → (List Answer → Ask) → List Answer → List ℕ → Type 0
MayWrite leave asks answers key = Contains leave key ⊎ IsLent asks answers key

abbrev Next : ℕ → List (List ℕ) → List (List ℕ) → (List Answer → Ask) → List Answer → Ask → Type 0
Next left read leave asks answers (Read key change) =
    (length answers < left) × AllByRecursion (λ (answer : Answer). key ≢ answer.key) answers
    × AllByRecursion (λ earlier. key ≢ earlier) read
Next left read leave asks answers (Finish end) =
    AllByRecursion (λ (write : Write). MayWrite leave asks answers write.key) end.writes.items

-- what holds of what is asked first
abbrev First : ℕ → List (List ℕ) → List (List ℕ) → (List Answer → Ask) → Ask → Type 0
First left read leave asks (Read key change) =
    AllByRecursion (λ earlier. key ≢ earlier) read
    × ((value : Option (List ℕ)) →
    ReadsAndWrites left (key ∷ read) (if change then key ∷ leave
    else leave) (λ answers. asks (record { key = key; value = value } ∷ answers)))
First left read leave asks (Finish end) = WritesAt leave end.writes.items

-- the same where nothing more may be read
abbrev Last : List (List ℕ) → Ask → Type 0
Last leave (Read key change) = ⊥
Last leave (Finish end) = WritesAt leave end.writes.items

from_before : (leave : List (List ℕ)) (asks : List Answer → Ask) (answers : List Answer) (writes : List Write)
    → WritesAt leave writes → AllByRecursion (λ (write : Write). MayWrite leave asks answers write.key) writes
from_before leave asks answers writes all =
    all-weaker (λ (write : Write). Contains leave write.key)
    (λ (write : Write). MayWrite leave asks answers write.key) (λ write at. inl at) writes all

last_next : (leave read : List (List ℕ)) (asks : List Answer → Ask) (asked : Ask) → Last leave asked →
    Next 0 read leave asks [] asked
last_next leave read asks (Read key change) never = absurd never
last_next leave read asks (Finish end) at = from_before leave asks [] end.writes.items at

first_next : (left : ℕ) (leave read : List (List ℕ)) (asks : List Answer → Ask) (asked : Ask) →
    First left read leave asks asked
    → Next (suc left) read leave asks [] asked
first_next left leave read asks (Read key change) bounded = (omega arith, tt, bounded.0)
first_next left leave read asks (Finish end) at = from_before leave asks [] end.writes.items at

-- one answer more
lent_later : (asks : List Answer → Ask) (answer : Answer) (answers : List Answer) (key : List ℕ)
    → IsLent (λ more. asks (answer ∷ more)) answers key → IsLent asks (answer ∷ answers) key
lent_later asks answer answers key lent = record {
  earlier = answer ∷ lent.earlier;
  answer = lent.answer;
  later = lent.later;
  whole = ap (λ (more : List Answer). answer ∷ more) lent.whole;
  lent = lent.lent;
}

lent_first : (asks : List Answer → Ask) (answer : Answer) (answers : List Answer) (key : List ℕ) →
    asks [] ≡ Read key true
    → IsLent asks (answer ∷ answers) key
lent_first asks answer answers key lent =
    record { earlier = []; answer = answer; later = answers; whole = refl; lent = lent }

pub first_or_before : (key other : List ℕ) (leave : List (List ℕ)) → Contains (key ∷ leave) other →
    (other ≡ key) ⊎ Contains leave other
first_or_before key other leave (zero, less, is) = inl (sym is)
first_or_before key other leave (suc i, less, is) = inr (i, grind (arith), is)

may_write : (leave : List (List ℕ)) (asks : List Answer →
    Ask) (answer : Answer) (answers : List Answer) (key : List ℕ) (change : Bool)
    (other : List ℕ) → asks [] ≡ Read key change
    → MayWrite (if change then key ∷ leave else leave) (λ more. asks (answer ∷ more)) answers other
    → MayWrite leave asks (answer ∷ answers) other
may_write leave asks answer answers key change other asked (inr lent) = inr (lent_later asks answer answers other lent)
may_write leave asks answer answers key true other asked (inl at) =
    elim (first_or_before key other leave at) [
      | inl same ↦ inr (lent_first asks answer answers other (asked ∙ ap (λ (k : List ℕ). Read k true) (sym same)))
      | inr before ↦ inl before
    ]
may_write leave asks answer answers key false other asked (inl at) = inl at

one_more : (left : ℕ) (read leave : List (List ℕ)) (asks : List Answer →
    Ask) (answer : Answer) (answers : List Answer) (key : List ℕ)
    (change : Bool) (next : Ask) → asks [] ≡ Read key change → key ≡ answer.key
    → Next left (key ∷ read) (if change then key ∷ leave else leave) (λ more. asks (answer ∷ more)) answers next
    → Next (suc left) read leave asks (answer ∷ answers) next
one_more left read leave asks answer answers key change (Read other leave_to) asked same holds =
    (omega arith, ((λ clash. holds.2.0 (clash ∙ sym same)), holds.1), holds.2.1)
one_more left read leave asks answer answers key change (Finish end) asked same holds =
    all-weaker (λ (write : Write). MayWrite (if change then key ∷ leave
    else leave) (λ more. asks (answer ∷ more)) answers write.key)
    (λ (write : Write). MayWrite leave asks (answer ∷ answers) write.key)
    (λ write may. may_write leave asks answer answers key change write.key asked may)
    end.writes.items holds

next_from : (left : ℕ) (read leave : List (List ℕ)) (asks : List Answer → Ask) (answers : List Answer)
    → ReadsAndWrites left read leave asks → AllInTurn asks answers → Next left read leave asks answers (asks answers)
next_from zero read leave asks [] bounded turn = last_next leave read asks (asks []) bounded
next_from (suc left) read leave asks [] bounded turn = first_next left leave read asks (asks []) bounded
next_from zero read leave asks (answer ∷ answers) bounded turn =
    elim (asks []) as (λ asked. Last leave asked → Asks answer.key asked →
    Next 0 read leave asks (answer ∷ answers) (asks (answer ∷ answers))) [
      | Read key change ↦ λ never is. absurd never
      | Finish end ↦ λ at never. absurd never
    ] bounded turn.0
next_from (suc left) read leave asks (answer ∷ answers) bounded turn =
    elim (asks []) as (λ asked. asks [] ≡ asked → First left read leave asks asked → Asks answer.key asked →
    Next (suc left) read leave asks (answer ∷ answers) (asks (answer ∷ answers))) [
      | Read key change ↦ λ asked holds same.
          let later : ReadsAndWrites left (key ∷ read) (if change then key ∷ leave
          else leave) (λ more. asks (answer ∷ more)) =
          subst (λ (k : List ℕ). ReadsAndWrites left (key ∷ read) (if change then key ∷ leave
          else leave) (λ more. asks (record { key = k; value = answer.value } ∷ more))) same
          (holds.1 answer.value) in
          one_more left read leave asks answer answers key change (asks (answer ∷ answers)) asked same
          (next_from left (key ∷ read) (if change then key ∷ leave
          else leave) (λ more. asks (answer ∷ more)) answers later turn.1)
      | Finish end ↦ λ asked at never. absurd never
    ] refl bounded turn.0

none_with_leave : (key : List ℕ) → Contains [] key → ⊥
none_with_leave key (i, less, is) = omega arith

comes_next : (asks : List Answer → Ask) (answers : List Answer) (asked : Ask) → Next 8 [] [] asks answers asked →
    EndsRising asked
    → ComesNext asks answers asked
comes_next asks answers (Read key change) holds rising = (holds.0, holds.1)
comes_next asks answers (Finish end) holds rising = (
  rising,
  all-weaker (λ (write : Write). MayWrite [] asks answers write.key)
      (λ (write : Write). IsLent asks answers write.key)
      (λ write may. elim may [ inl at ↦ absurd (none_with_leave write.key at) | inr lent ↦ lent ])
      end.writes.items holds,
)

pub in_turn : (rule : Rule) (packet : List ℕ) (answers : List Answer) → InTurn rule packet answers
    → ComesNext (ask rule packet) answers (ask rule packet answers)
in_turn rule packet answers turn =
    comes_next (ask rule packet) answers (ask rule packet answers)
    (next_from 8 [] [] (ask rule packet) answers (rules_are_bounded rule packet) turn) (ends_rising rule packet answers)

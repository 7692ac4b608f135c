-- Every rule reads few keys, none twice, and writes only at keys that it read with leave.
use Rattle.std.specs.Prelude.{ℕ, ◌≢◌, ◌==◌, nat_lt, Bool, true, false, List, [], ◌∷◌, length, Option, Some, None}
use Rattle.std.specs.Prelude.{if◌then◌else◌, refl, unwrap_or, ◌&&◌, take, drop}
use Rattle.std.specs.List.{Contains, list_any}
use Rattle.std.specs.Int.{w16, w32, from_be_bytes}
use Rattle.std.proofs.Common.{arith}
use Rattle.ftc_base.specs.declared.ask.Answer.{Answer}
use Rattle.ftc_base.specs.declared.ask.Ask.{Ask}
use Rattle.ftc_base.specs.declared.ask.Change.TheVariants.{Source, Destination}
use Rattle.ftc_base.specs.Ask.{number_in, forward, forward_changed, filter_out, put}
use Rattle.ftc_packet.specs.declared.flow.Flow.{Flow}
use Rattle.ftc_packet.specs.Flow.{flow_found}
use Rattle.ftc_nat.specs.declared.rule.NatRule.{NatRule}
use Rattle.ftc_nat.specs.Nat as nat
use Rattle.ftc_firewall.specs.declared.rule.FirewallRule.{FirewallRule}
use Rattle.ftc_firewall.specs.Firewall as firewall
use Rattle.ftc_balance.specs.declared.rule.BalanceRule.{BalanceRule}
use Rattle.ftc_balance.specs.Balance as balance
use Rattle.ftc_mbox.specs.declared.rule.Rule.{Rule}
use Rattle.ftc_mbox.specs.declared.rule.Rule.TheVariants.{Pass, Monitor, Nat, Firewall, Balance}
use Rattle.ftc_mbox.specs.Ask.{ask, ask_of, ask_of_flow}
use Rattle.ftc_mbox.specs.Monitor.{monitor_ask}
use Rattle.ftc_mbox.specs.Visit.{ReadsAndWrites, RulesAreBounded}

first : (key : List ℕ) (keys : List (List ℕ)) → Contains (key ∷ keys) key
first key keys = (0, grind (arith), refl)

second : (key other : List ℕ) (keys : List (List ℕ)) → Contains (other ∷ key ∷ keys) key
second key other keys = (1, grind (arith), refl)

third : (key other another : List ℕ) (keys : List (List ℕ)) → Contains (other ∷ another ∷ key ∷ keys) key
third key other another keys = (2, grind (arith), refl)

-- keys of different kinds begin with different letters
apart : (a b : ℕ) (xs ys : List ℕ) → a ≢ b → (a ∷ xs) ≢ (b ∷ ys)
apart a b xs ys different same = different (grind (arith))

-- a test decides between two ways, and both are right
either : (left : ℕ) (read leave : List (List ℕ)) (test : Bool) (one other : List Answer → Ask)
    → ReadsAndWrites left read leave one → ReadsAndWrites left read leave other
    → ReadsAndWrites left read leave (λ answers. if test then one answers else other answers)
either left read leave true one other first second = first
either left read leave false one other first second = second

of_monitor : (groups : ℕ) (flow : Flow) → ReadsAndWrites 8 [] [] (monitor_ask groups flow)
of_monitor groups flow = (tt, λ value. (first _ [], tt))

abbrev outside_key : Flow → List ℕ
outside_key flow = nat.outside_port_key flow.protocol flow.source flow.source_port

of_drawing : (rule : NatRule) (flow : Flow) (port : ℕ)
    → ReadsAndWrites 6 (nat.next_port_key ∷ outside_key flow ∷ []) (nat.next_port_key ∷ outside_key flow
    ∷ []) (nat.drawing rule flow port)
of_drawing rule flow port = (
  (apart 114 110 _ _ (grind (arith)), (apart 114 102 _ _ (grind (arith)), tt)),
  λ value.
      (third _ _ _ [], (second _ _ (outside_key flow ∷ []), (first _ (nat.next_port_key ∷ outside_key flow ∷ []), tt))),
)

of_unknown : (rule : NatRule) (flow : Flow) →
    ReadsAndWrites 7 (outside_key flow ∷ []) (outside_key flow ∷ []) (nat.unknown rule flow)
of_unknown rule flow = (
  (apart 110 102 _ _ (grind (arith)), tt),
  λ value.
      either 6 (nat.next_port_key ∷ outside_key flow ∷ []) (nat.next_port_key ∷ outside_key flow ∷ [])
      (nat_lt rule.last (unwrap_or (number_in w32 value) rule.first)) (λ answers. filter_out)
      (nat.drawing rule flow (unwrap_or (number_in w32 value) rule.first)) tt
      (of_drawing rule flow (unwrap_or (number_in w32 value) rule.first)),
)

of_known : (rule : NatRule) (flow : Flow) (known : Option ℕ)
    → ReadsAndWrites 7 (outside_key flow ∷ []) (outside_key flow ∷ []) (nat.known_or_not rule flow known)
of_known rule flow (Some port) = tt
of_known rule flow None = of_unknown rule flow

of_outgoing : (rule : NatRule) (flow : Flow) → ReadsAndWrites 8 [] [] (nat.outgoing rule flow)
of_outgoing rule flow = (tt, λ value. of_known rule flow (number_in w16 value))

of_inside : (key : List ℕ) (value : Option (List ℕ)) → ReadsAndWrites 7 (key ∷ []) [] (λ answers. nat.to_inside value)
of_inside key None = tt
of_inside key (Some value) =
    either 7 (key ∷ []) [] (length value == 6)
    (λ answers. forward_changed [] (Destination (from_be_bytes w32 (take 4 value)) (from_be_bytes w16 (drop 4 value))))
    (λ answers. filter_out) tt tt

of_incoming : (flow : Flow) → ReadsAndWrites 8 [] [] (nat.incoming flow)
of_incoming flow = (tt, λ value. of_inside (nat.inside_key flow.protocol flow.destination_port) value)

of_nat : (rule : NatRule) (flow : Flow) → ReadsAndWrites 8 [] [] (nat.nat_ask rule flow)
of_nat rule flow =
    either 8 [] [] (nat.leaves rule flow) (nat.outgoing rule flow)
    (λ answers. if flow.destination == rule.outside then nat.incoming flow answers else forward [])
    (of_outgoing rule flow)
    (either 8 [] [] (flow.destination == rule.outside) (nat.incoming flow) (λ answers. forward [])
    (of_incoming flow) tt)

of_connection : (rule : FirewallRule) (flow : Flow) (value : Option (List ℕ))
    → ReadsAndWrites 7 (firewall.connection_key flow ∷ []) (firewall.connection_key flow
    ∷ []) (λ answers. firewall.known_or_not rule flow value)
of_connection rule flow (Some value) = tt
of_connection rule flow None =
    either 7 (firewall.connection_key flow ∷ []) (firewall.connection_key flow
    ∷ []) (firewall.is_allowed rule.lines flow)
    (λ answers. forward (put (firewall.connection_key flow) [] ∷ [])) (λ answers. filter_out) (first _ [], tt) tt

of_firewall : (rule : FirewallRule) (flow : Flow) → ReadsAndWrites 8 [] [] (firewall.firewall_ask rule flow)
of_firewall rule flow = (tt, λ value. of_connection rule flow value)

abbrev own_key : Flow → List ℕ
own_key flow = balance.client_key flow.protocol flow.source flow.source_port

of_new_client : (rule : BalanceRule) (flow : Flow) →
    ReadsAndWrites 7 (own_key flow ∷ []) (own_key flow ∷ []) (balance.new_client rule flow)
of_new_client rule flow = (
  (apart 116 99 _ _ (grind (arith)), tt),
  λ value. (second _ _ [], (first _ (own_key flow ∷ []), tt)),
)

of_client : (rule : BalanceRule) (flow : Flow) (known : Option ℕ)
    → ReadsAndWrites 7 (own_key flow ∷ []) (own_key flow ∷ []) (balance.known_or_not rule flow known)
of_client rule flow (Some backend) = tt
of_client rule flow None = of_new_client rule flow

of_from_client : (rule : BalanceRule) (flow : Flow) → ReadsAndWrites 8 [] [] (balance.from_client rule flow)
of_from_client rule flow = (tt, λ value. of_client rule flow (number_in w32 value))

of_replied : (rule : BalanceRule) (flow : Flow) (key : List ℕ) (known : Option ℕ)
    → ReadsAndWrites 7 (key ∷ []) [] (λ answers. balance.replied rule flow known)
of_replied rule flow key None = tt
of_replied rule flow key (Some backend) =
    either 7 (key ∷ []) [] (backend == flow.source) (λ answers. forward_changed [] (Source rule.address rule.port))
    (λ answers. forward []) tt tt

of_from_backend : (rule : BalanceRule) (flow : Flow) → ReadsAndWrites 8 [] [] (balance.from_backend rule flow)
of_from_backend rule flow = (
  tt,
  λ value. of_replied rule flow (balance.client_key flow.protocol flow.destination flow.destination_port)
      (number_in w32 value),
)

of_balance : (rule : BalanceRule) (flow : Flow) → ReadsAndWrites 8 [] [] (balance.balance_ask rule flow)
of_balance rule flow =
    either 8 [] [] (flow.destination == rule.address
    && flow.destination_port == rule.port) (balance.from_client rule flow)
    (λ answers.
    if list_any (λ backend. backend == flow.source) rule.backends && flow.source_port == rule.port
    then balance.from_backend rule flow answers
    else forward [])
    (of_from_client rule flow)
    (either 8 [] [] (list_any (λ backend. backend == flow.source) rule.backends && flow.source_port == rule.port)
    (balance.from_backend rule flow) (λ answers. forward []) (of_from_backend rule flow) tt)

of_rule : (rule : Rule) (flow : Flow) → ReadsAndWrites 8 [] [] (ask_of_flow rule flow)
of_rule Pass flow = tt
of_rule (Monitor groups) flow = of_monitor groups flow
of_rule (Nat rule) flow = of_nat rule flow
of_rule (Firewall rule) flow = of_firewall rule flow
of_rule (Balance rule) flow = of_balance rule flow

of_packet : (rule : Rule) (found : Option Flow) → ReadsAndWrites 8 [] [] (ask_of rule found)
of_packet rule None = tt
of_packet rule (Some flow) = of_rule rule flow

pub rules_are_bounded : RulesAreBounded
unfolding ask
rules_are_bounded rule packet = of_packet rule (flow_found packet)

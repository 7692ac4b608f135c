-- The plain text of a chain reads as that chain.
use Rattle.std.proofs.Common.{◌≡◌, ◌≤◌, ◌<◌, ℕ, ◌+◌, Bool, true, false, nat_lt, List, [], ◌∷◌, ◌++◌, length, refl, ap}
use Rattle.std.proofs.Common.{◌∙◌, sym, arith, rules, Option, Some, None, Ok, Result, length-append, append-nil}
use Rattle.std.specs.Prelude.{nat_le, codes, decimal, map}
use Rattle.std.specs.List.{AllByRecursion, join_with_byte, flat_map}
use Rattle.std.proofs.lemmas.List.{append_assoc}
use Rattle.std.proofs.lemmas.Bool.Decides.{nat_tests}
use Rattle.std.proofs.lemmas.Bool.{lt-ltb}
use Rattle.ftc_base.specs.Text.{lines_of}
use Rattle.ftc_base.specs.declared.limits.TheConstants.{MOST_SERVERS, MOST_PARTITIONS, MOST_MONITOR_GROUPS}
use Rattle.ftc_base.specs.declared.limits.TheConstants.{MOST_FIREWALL_LINES}
use Rattle.ftc_firewall.specs.declared.rule.FireLine.{FireLine}
use Rattle.ftc_firewall.specs.declared.rule.FirewallRule.{FirewallRule}
use Rattle.ftc_firewall.specs.Bounds.{IsFireLine}
use Rattle.ftc_nat.specs.declared.rule.NatRule.{NatRule}
use Rattle.ftc_nat.specs.Bounds.{IsNatRule}
use Rattle.ftc_balance.specs.declared.rule.BalanceRule.{BalanceRule}
use Rattle.ftc_balance.specs.Bounds.{IsBalanceRule}
use Rattle.ftc_mbox.specs.Bounds.{IsRule}
use Rattle.ftc_mbox.specs.Chain.{Chain, IsChain}
use Rattle.ftc_mbox.specs.declared.rule.Rule.{Rule}
use Rattle.ftc_mbox.specs.declared.rule.Rule.TheVariants as rule
use Rattle.ftc_base.proofs.EachOf.{all-append}
use Rattle.ftc_base.proofs.PlainWords.{IsPlainWord, lines_of-line, words_of-join, line_bytes-join, plain}
use Rattle.ftc_base.proofs.Decimals.{plain_number}
use Rattle.ftc_conf.specs.declared.limits.TheConstants.{MOST_FAILURES}
use Rattle.ftc_conf.specs.declared.fault.ChainCause.{ChainCause}
use Rattle.ftc_conf.specs.declared.fault.ChainFault.{ChainFault}
use Rattle.ftc_conf.specs.declared.statement.Form.{Form}
use Rattle.ftc_conf.specs.declared.statement.Form.TheVariants as form
use Rattle.ftc_conf.specs.declared.statement.Statement.{Statement}
use Rattle.ftc_conf.specs.declared.statement.Statement.TheVariants as said
use Rattle.ftc_conf.specs.declared.draft.Failures.{Failures}
use Rattle.ftc_conf.specs.declared.draft.Draft.{Draft}
use Rattle.ftc_base.specs.Reading.{◌>>=◌}
use Rattle.ftc_conf.specs.Words.{is_comment}
use Rattle.ftc_conf.specs.Draft.{no_lines, last_firewall, with_statement}
use Rattle.ftc_conf.specs.Grammar.{form_of, room_for, middlebox_room, said_in, middlebox_line, words_in, line_step}
use Rattle.ftc_conf.specs.Grammar.{finish, placed, chain_from, chain_within, chain_of}
use Rattle.ftc_conf.specs.Plain.{address_text, net_text, ports_text, decision_text, protocol_text, nat_words}
use Rattle.ftc_conf.specs.Plain.{fire_line_words, balance_words, rule_lines, chain_lines, text_of_lines, plain_text}
use Rattle.ftc_conf.proofs.Letters.{are_text}
use Rattle.ftc_conf.proofs.Spelled.{number_from_to-decimal}
use Rattle.ftc_conf.proofs.Printed.{plain_nat, nat_of-words, plain_fire_line, fire_line_of-words, plain_balance}
use Rattle.ftc_conf.proofs.Printed.{balance_of-words}

-- words with one space between them
abbrev line_of_words : List (List ℕ) → List ℕ
line_of_words words = join_with_byte 32 words

-- the lines of a printed text are found again
lines_of-text : (lines : List (List (List ℕ))) → AllByRecursion (AllByRecursion IsPlainWord) lines →
    lines_of (text_of_lines lines) ≡ map line_of_words lines
lines_of-text [] all = refl
lines_of-text (words ∷ lines) all =
    lines_of-line (line_of_words words) (text_of_lines lines) (line_bytes-join words all.0) ∙ ap
    (λ (ls : List (List ℕ)). line_of_words words ∷ ls) (lines_of-text lines all.1)

-- a printed line says what its words say
step_of : (draft : Draft) (place : ℕ) (first : List ℕ) (words : List (List ℕ)) (statement : Statement) →
    AllByRecursion IsPlainWord (first ∷ words) → is_comment first ≡ false →
    words_in draft.failures draft.partitions draft first words ≡ Ok statement →
    line_step draft place (line_of_words (first ∷ words)) ≡ Ok (with_statement draft place statement)
step_of draft place first words statement all other e =
    rw (
      are_text (line_of_words (first ∷ words)) (line_bytes-join (first ∷ words) all),
      words_of-join (first ∷ words) all,
      other,
      e,
    ) refl

-- and the lines behind it go on from there
step_on : (bound : ℕ) (draft next : Draft) (place : ℕ) (line : List ℕ) (lines : List (List ℕ)) →
    line_step draft place line ≡ Ok next →
    chain_from bound (Ok draft) place (line ∷ lines) ≡ chain_from bound (Ok next) (place + 1) lines
step_on bound draft next place line lines e =
    ap (λ (r : Result Draft ChainCause). chain_from bound (placed place r) (place + 1) lines) e

middlebox_said : (draft : Draft) (first : List ℕ) (words : List (List ℕ)) (found : Form) (statement : Statement) →
    form_of draft first ≡ Ok found → room_for draft found ≡ Ok tt → said_in found words ≡ Ok statement →
    middlebox_line draft first words ≡ Ok statement
middlebox_said draft first words found statement known room e = rw (known, room, e) refl

-- the draft behind the first two lines and some rules
abbrev standing : Failures → ℕ → List Rule → Option FirewallRule → Draft
standing failures partitions rules firewall =
    record { failures = Some failures; partitions = Some partitions; rules = rules; firewall = firewall; spares = 0 }

abbrev all_rules : List Rule → Option FirewallRule → List Rule
all_rules rules firewall = rules ++ last_firewall firewall

-- the words of a line behind its first
abbrev nat_tail : NatRule → List (List ℕ)
nat_tail nat = codes "inside" ∷ net_text nat.inside ∷ codes "outside" ∷ address_text nat.outside ∷ codes "ports"
    ∷ ports_text nat.first nat.last ∷ []

abbrev fire_line_tail : FireLine → List (List ℕ)
fire_line_tail line = protocol_text line.protocol ∷ net_text line.source ∷ net_text line.destination
    ∷ ports_text line.low line.high ∷ []

abbrev balance_tail : BalanceRule → List (List ℕ)
balance_tail balance = (address_text balance.address ++ 58 ∷ decimal balance.port) ∷ codes "to"
    ∷ join_with_byte 44 (map address_text balance.backends) ∷ []

-- each rule adds itself
module _ (failures : Failures) (partitions : ℕ) (rules : List Rule) (firewall : Option FirewallRule) (place : ℕ)
    (few : length (all_rules rules firewall) < MOST_SERVERS) where
  -- the draft with one more rule
  abbrev with_rule : Rule → Draft
  with_rule server = standing failures partitions (all_rules rules firewall ++ server ∷ []) None

  middlebox_step : (first : List ℕ) (words : List (List ℕ)) (found : Form) (server : Rule) →
      AllByRecursion IsPlainWord (first ∷ words) → is_comment first ≡ false →
      form_of (standing failures partitions rules firewall) first ≡ Ok found →
      (room_for (standing failures partitions rules firewall) found
      ≡ middlebox_room (standing failures partitions rules firewall)) →
      said_in found words ≡ Ok (said.Middlebox server) →
      line_step (standing failures partitions rules firewall) place (line_of_words (first ∷ words))
      ≡ Ok (with_rule server)
  middlebox_step first words found server all other known room e =
      let free : middlebox_room (standing failures partitions rules firewall) ≡ Ok tt =
      rw (lt-ltb (length (all_rules rules firewall)) MOST_SERVERS few) refl in
      step_of (standing failures partitions rules firewall) place first words (said.Middlebox server) all other
      (middlebox_said (standing failures partitions rules firewall) first words found (said.Middlebox server) known
      (room ∙ free) e)

  pass_step : line_step (standing failures partitions rules firewall) place (line_of_words (codes "pass" ∷ []))
      ≡ Ok (with_rule rule.Pass)
  pass_step = middlebox_step (codes "pass") [] form.Pass rule.Pass (plain (codes "pass") refl, tt) refl refl refl refl

  monitor_step : (groups : ℕ) → 1 ≤ groups → groups ≤ MOST_MONITOR_GROUPS →
      line_step (standing failures partitions rules firewall) place
      (line_of_words (codes "monitor" ∷ decimal groups ∷ [])) ≡ Ok (with_rule (rule.Monitor groups))
  monitor_step groups some most =
      middlebox_step (codes "monitor") (decimal groups ∷ []) form.Monitor (rule.Monitor groups)
      (plain (codes "monitor") refl, (plain_number groups (omega arith), tt)) refl refl refl
      (rw (number_from_to-decimal 1 MOST_MONITOR_GROUPS groups some most (omega arith)) refl)

  nat_step : (nat : NatRule) → IsNatRule nat →
      line_step (standing failures partitions rules firewall) place (line_of_words (nat_words nat))
      ≡ Ok (with_rule (rule.Nat nat))
  nat_step nat bounds = middlebox_step (codes "nat") (nat_tail nat) form.Nat (rule.Nat nat)
      (plain_nat nat bounds) refl refl refl (ap (λ (r : Result NatRule ChainCause). r >>= λ found.
      Ok (said.Middlebox (rule.Nat found))) (nat_of-words nat bounds))

  balance_step : (balance : BalanceRule) → IsBalanceRule balance →
      line_step (standing failures partitions rules firewall) place (line_of_words (balance_words balance))
      ≡ Ok (with_rule (rule.Balance balance))
  balance_step balance bounds =
      middlebox_step (codes "balance") (balance_tail balance) form.Balance (rule.Balance balance)
      (plain_balance balance bounds) refl refl refl (ap (λ (r : Result BalanceRule ChainCause). r >>= λ found.
      Ok (said.Middlebox (rule.Balance found))) (balance_of-words balance bounds))

  firewall_step : line_step (standing failures partitions rules firewall) place (line_of_words (codes "firewall" ∷ []))
      ≡ Ok (standing failures partitions (all_rules rules firewall) (Some (record { lines = [] })))
  firewall_step =
      let free : middlebox_room (standing failures partitions rules firewall) ≡ Ok tt =
      rw (lt-ltb (length (all_rules rules firewall)) MOST_SERVERS few) refl in
      step_of (standing failures partitions rules firewall) place (codes "firewall") [] said.Firewall (
        plain (codes "firewall") refl,
        tt,
      ) refl (middlebox_said (standing failures partitions rules firewall)
      (codes "firewall") [] form.Firewall said.Firewall refl free refl)

-- the lines of a firewall
decision_form : (failures : Failures) (partitions : ℕ) (rules : List Rule) (firewall : FirewallRule) (allow : Bool) →
    form_of (standing failures partitions rules (Some firewall)) (decision_text allow) ≡ Ok (form.FireLine allow)
decision_form failures partitions rules firewall true = refl
decision_form failures partitions rules firewall false = refl

no_comment : (allow : Bool) → is_comment (decision_text allow) ≡ false
no_comment true = refl
no_comment false = refl

fire_line_step : (failures : Failures) (partitions : ℕ) (rules : List Rule) (taken : List FireLine) (place : ℕ)
    (line : FireLine) → length taken < MOST_FIREWALL_LINES → IsFireLine line
    → line_step (standing failures partitions rules (Some (record { lines = taken }))) place
    (line_of_words (fire_line_words line))
    ≡ Ok (standing failures partitions rules (Some (record { lines = taken ++ line ∷ [] })))
fire_line_step failures partitions rules taken place line few bounds =
    let said_so : said_in (form.FireLine line.allow) (fire_line_tail line) ≡ Ok (said.FireLine line) =
    ap (λ (r : Result FireLine ChainCause). r >>= λ found. Ok (said.FireLine found)) (fire_line_of-words line bounds) in
    let free : room_for (standing failures partitions rules (Some (record { lines = taken })))
    (form.FireLine line.allow) ≡ Ok tt = rw (lt-ltb (length taken) MOST_FIREWALL_LINES few) refl in
    step_of (standing failures partitions rules (Some (record { lines = taken }))) place (decision_text line.allow)
    (fire_line_tail line) (said.FireLine line) (plain_fire_line line bounds) (no_comment line.allow)
    (middlebox_said (standing failures partitions rules (Some (record { lines = taken }))) (decision_text line.allow)
    (fire_line_tail line) (form.FireLine line.allow) (said.FireLine line)
    (decision_form failures partitions rules (record { lines = taken }) line.allow) free said_so)

-- equal drafts at equal places go on alike
alike : (bound : ℕ) (failures : Failures) (partitions : ℕ) (rules : List Rule) (taken other : List FireLine)
    (place there : ℕ) (lines : List (List ℕ)) → taken ≡ other → place ≡ there
    → chain_from bound (Ok (standing failures partitions rules (Some (record { lines = taken })))) place lines
    ≡ chain_from bound (Ok (standing failures partitions rules (Some (record { lines = other })))) there lines
alike bound failures partitions rules taken other place there lines same at =
    ap (λ (ls : List FireLine). chain_from bound
    (Ok (standing failures partitions rules (Some (record { lines = ls })))) place lines) same
    ∙ ap (λ (p : ℕ). chain_from bound
    (Ok (standing failures partitions rules (Some (record { lines = other })))) p lines) at

fire_lines_again : (bound : ℕ) (failures : Failures) (partitions : ℕ) (rules : List Rule) (taken lines : List FireLine)
    (place : ℕ) (rest : List (List (List ℕ))) → length taken + length lines ≤ MOST_FIREWALL_LINES →
    AllByRecursion IsFireLine lines
    → chain_from bound (Ok (standing failures partitions rules (Some (record { lines = taken })))) place
    (map line_of_words (map fire_line_words lines ++ rest))
    ≡ chain_from bound (Ok (standing failures partitions rules (Some (record { lines = taken ++ lines })))) (place
    + length lines) (map line_of_words rest)
fire_lines_again bound failures partitions rules taken [] place rest few all =
    alike bound failures partitions rules taken (taken ++ []) place (place + 0) (map line_of_words rest)
    (sym (append-nil taken)) (omega arith)
fire_lines_again bound failures partitions rules taken (line ∷ lines) place rest few all =
    step_on bound (standing failures partitions rules (Some (record { lines = taken })))
    (standing failures partitions rules (Some (record { lines = taken ++ line ∷ [] }))) place
    (line_of_words (fire_line_words line)) (map line_of_words (map fire_line_words lines ++ rest))
    (fire_line_step failures partitions rules taken place line (omega arith) all.0)
    ∙ fire_lines_again bound failures partitions rules (taken ++ line ∷ []) lines (place
    + 1) rest (omega (arith, length-append taken (line ∷ []))) all.1
    ∙ alike bound failures partitions rules ((taken ++ line ∷ []) ++ lines) (taken ++ line ∷ lines) (place + 1
    + length lines) (place + length (line ∷ lines)) (map line_of_words rest) (append_assoc taken (line ∷ []) lines)
    (omega arith)

-- the chain of some rules
abbrev told : Failures → ℕ → List Rule → Result Chain ChainFault
told failures partitions rules = Ok (record { failures = failures.number; partitions = partitions; rules = rules })

finish_again : (bound : ℕ) (failures : Failures) (partitions : ℕ) (rules : List Rule) (firewall : Option FirewallRule)
    (place : ℕ) → failures.number < length (all_rules rules firewall) → failures.number ≤ bound
    → finish bound (standing failures partitions rules firewall) place
    ≡ told failures partitions (all_rules rules firewall)
finish_again bound failures partitions rules firewall place enough most =
    let some : nat_le (length (all_rules rules firewall)) 0 ≡ false = grind (arith, nat_tests) in
    let more : nat_le (length (all_rules rules firewall)) failures.number ≡ false = grind (arith, nat_tests) in
    let few : nat_lt bound failures.number ≡ false = grind (arith, nat_tests) in
    rw (some, more, few) refl

-- what holds of the rules to come, where the next one takes a line of its own
one_line : (bound : ℕ) (failures : Failures) (partitions : ℕ) (done rules : List Rule) (firewall : Option FirewallRule)
    (place : ℕ) (server : Rule) (line : List ℕ) (lines : List (List ℕ))
    → line_step (standing failures partitions done firewall) place line
    ≡ Ok (standing failures partitions (all_rules done firewall ++ server ∷ []) None)
    → chain_from bound (Ok (standing failures partitions (all_rules done firewall ++ server ∷ []) None)) (place
    + 1) lines ≡ told failures partitions (all_rules (all_rules done firewall ++ server ∷ []) None ++ rules)
    → chain_from bound (Ok (standing failures partitions done firewall)) place (line ∷ lines)
    ≡ told failures partitions (all_rules done firewall ++ server ∷ rules)
one_line bound failures partitions done rules firewall place server line lines step later =
    let joined : all_rules (all_rules done firewall ++ server ∷ []) None ++ rules ≡ all_rules done firewall
    ++ server ∷ rules =
    rw append-nil (append_assoc (all_rules done firewall) (server ∷ []) rules) in
    step_on bound (standing failures partitions done firewall) (standing failures partitions (all_rules done firewall
    ++ server ∷ []) None) place line lines step ∙ later ∙ ap (told failures partitions) joined

one_more : (done : List Rule) (server : Rule) → length (all_rules (done ++ server ∷ []) None) ≡ length done + 1
one_more done server = rw (append-nil, length-append) refl

rules_again : (bound : ℕ) (rules : List Rule) (failures : Failures) (partitions : ℕ) (done : List Rule)
    (firewall : Option FirewallRule) (place : ℕ) → AllByRecursion IsRule rules
    → length (all_rules done firewall) + length rules ≤ MOST_SERVERS →
    failures.number < length (all_rules done firewall) + length rules → failures.number ≤ bound
    → chain_from bound (Ok (standing failures partitions done firewall)) place
    (map line_of_words (flat_map rule_lines rules)) ≡ told failures partitions (all_rules done firewall ++ rules)
rules_again bound [] failures partitions done firewall place all few enough most =
    finish_again bound failures partitions done firewall place (omega arith) most ∙ ap (told failures partitions)
    (sym (append-nil (all_rules done firewall)))
rules_again bound (rule.Pass ∷ rules) failures partitions done firewall place all few enough most =
    let count = one_more (all_rules done firewall) rule.Pass in
    one_line bound failures partitions done rules firewall place rule.Pass (line_of_words (codes "pass" ∷ []))
    (map line_of_words (flat_map rule_lines rules))
    (pass_step failures partitions done firewall place (omega arith))
    (rules_again bound rules failures partitions (all_rules done firewall ++ rule.Pass ∷ []) None (place
    + 1) all.1 (omega arith) (omega arith) most)
rules_again bound (rule.Monitor groups ∷ rules) failures partitions done firewall place all few enough most =
    let count = one_more (all_rules done firewall) (rule.Monitor groups) in
    one_line bound failures partitions done rules firewall place (rule.Monitor groups)
    (line_of_words (codes "monitor" ∷ decimal groups ∷ [])) (map line_of_words (flat_map rule_lines rules))
    (monitor_step failures partitions done firewall place (omega arith) groups all.0.0 all.0.1)
    (rules_again bound rules failures partitions (all_rules done firewall ++ rule.Monitor groups ∷ []) None (place
    + 1) all.1 (omega arith) (omega arith) most)
rules_again bound (rule.Nat nat ∷ rules) failures partitions done firewall place all few enough most =
    let count = one_more (all_rules done firewall) (rule.Nat nat) in
    one_line bound failures partitions done rules firewall place (rule.Nat nat) (line_of_words (nat_words nat))
    (map line_of_words (flat_map rule_lines rules))
    (nat_step failures partitions done firewall place (omega arith) nat all.0)
    (rules_again bound rules failures partitions (all_rules done firewall ++ rule.Nat nat ∷ []) None (place
    + 1) all.1 (omega arith) (omega arith) most)
rules_again bound (rule.Balance balance ∷ rules) failures partitions done firewall place all few enough most =
    let count = one_more (all_rules done firewall) (rule.Balance balance) in
    one_line bound failures partitions done rules firewall place (rule.Balance balance)
    (line_of_words (balance_words balance)) (map line_of_words (flat_map rule_lines rules))
    (balance_step failures partitions done firewall place (omega arith) balance all.0)
    (rules_again bound rules failures partitions (all_rules done firewall ++ rule.Balance balance ∷ []) None (place
    + 1) all.1 (omega arith) (omega arith) most)
rules_again bound (rule.Firewall firewall' ∷ rules) failures partitions done firewall place all few enough most =
    let count : length (all_rules (all_rules done firewall) (Some firewall')) ≡ length (all_rules done firewall) + 1 =
    length-append (all_rules done firewall) (rule.Firewall firewall' ∷ []) in
    let tail = flat_map rule_lines rules in
    step_on bound (standing failures partitions done firewall)
    (standing failures partitions (all_rules done firewall) (Some (record { lines = [] }))) place
    (line_of_words (codes "firewall" ∷ [])) (map line_of_words (map fire_line_words firewall'.lines ++ tail))
    (firewall_step failures partitions done firewall place (omega arith))
    ∙ fire_lines_again bound failures partitions (all_rules done firewall) [] firewall'.lines (place
    + 1) tail (let size = all.0.few in omega arith) all.0.lines
    ∙ rules_again bound rules failures partitions (all_rules done firewall) (Some firewall') (place + 1
    + length firewall'.lines) all.1 (omega arith) (omega arith) most
    ∙ ap (told failures partitions) (append_assoc (all_rules done firewall) (rule.Firewall firewall' ∷ []) rules)

-- all words of the printed lines are plain
plain_fire_lines : (lines : List FireLine) → AllByRecursion IsFireLine lines →
    AllByRecursion (AllByRecursion IsPlainWord) (map fire_line_words lines)
plain_fire_lines [] all = tt
plain_fire_lines (line ∷ lines) all = (plain_fire_line line all.0, plain_fire_lines lines all.1)

plain_rule : (server : Rule) → IsRule server → AllByRecursion (AllByRecursion IsPlainWord) (rule_lines server)
plain_rule rule.Pass bounds = ((plain (codes "pass") refl, tt), tt)
plain_rule (rule.Monitor groups) bounds = let most =
    bounds.1 in ((plain (codes "monitor") refl, (plain_number groups (omega arith), tt)), tt)
plain_rule (rule.Nat nat) bounds = (plain_nat nat bounds, tt)
plain_rule (rule.Firewall firewall) bounds =
    ((plain (codes "firewall") refl, tt), plain_fire_lines firewall.lines bounds.lines)
plain_rule (rule.Balance balance) bounds = (plain_balance balance bounds, tt)

plain_rules : (rules : List Rule) → AllByRecursion IsRule rules →
    AllByRecursion (AllByRecursion IsPlainWord) (flat_map rule_lines rules)
plain_rules [] all = tt
plain_rules (server ∷ rules) all =
    all-append (AllByRecursion IsPlainWord) (rule_lines server) (flat_map rule_lines rules) (plain_rule server all.0)
    (plain_rules rules all.1)

plain_chain : (chain : Chain) → IsChain chain → AllByRecursion (AllByRecursion IsPlainWord) (chain_lines chain)
plain_chain chain bounds =
    let few = bounds.servers in
    let fewer = bounds.failures in
    let most = bounds.partitions in (
      (plain (codes "f") refl, (plain_number chain.failures (omega arith), tt)),
      (
        (plain (codes "partitions") refl, (plain_number chain.partitions (omega arith), tt)),
        plain_rules chain.rules bounds.rules,
      ),
    )

-- the first two lines
failures_step : (failures : ℕ) → failures ≤ MOST_FAILURES →
    line_step no_lines 1 (line_of_words (codes "f" ∷ decimal failures ∷ []))
    ≡ Ok (with_statement no_lines 1 (said.Failures failures))
failures_step failures most =
    step_of no_lines 1 (codes "f") (decimal failures ∷ []) (said.Failures failures) (
      plain (codes "f") refl,
      (plain_number failures (omega arith), tt),
    ) refl
    (rw (number_from_to-decimal 0 MOST_FAILURES failures (omega arith) most (omega arith)) refl)

partitions_step : (failures partitions : ℕ) → 1 ≤ partitions → partitions ≤ MOST_PARTITIONS →
    line_step (with_statement no_lines 1 (said.Failures failures)) 2
    (line_of_words (codes "partitions" ∷ decimal partitions ∷ []))
    ≡ Ok (standing (record { number = failures; line = 1 }) partitions [] None)
partitions_step failures partitions some most =
    step_of (with_statement no_lines 1 (said.Failures failures)) 2 (codes "partitions") (decimal partitions
    ∷ []) (said.Partitions partitions) (
      plain (codes "partitions") refl,
      (plain_number partitions (omega arith), tt),
    ) refl
    (rw (number_from_to-decimal 1 MOST_PARTITIONS partitions some most (omega arith)) refl)

pub reads_back : (bound : ℕ) (chain : Chain) → IsChain chain → chain.failures ≤ bound →
    chain_within bound (plain_text chain) ≡ Ok chain
reads_back bound chain bounds most =
    let few = bounds.servers in
    let fewer = bounds.failures in
    let one : Draft = with_statement no_lines 1 (said.Failures chain.failures) in
    let two : Draft = standing (record { number = chain.failures; line = 1 }) chain.partitions [] None in
    let third = map line_of_words (flat_map rule_lines chain.rules) in
    let second = line_of_words (codes "partitions" ∷ decimal chain.partitions ∷ []) in
    ap (chain_from bound (Ok no_lines) 1) (lines_of-text (chain_lines chain) (plain_chain chain bounds))
    ∙ step_on bound no_lines one 1 (line_of_words (codes "f" ∷ decimal chain.failures ∷ [])) (second
    ∷ third) (failures_step chain.failures (omega arith))
    ∙ step_on bound one two 2 second third
    (partitions_step chain.failures chain.partitions bounds.some_partition bounds.partitions)
    ∙ rules_again bound chain.rules (record {
      number = chain.failures;
      line = 1;
    }) chain.partitions [] None 3 bounds.rules (omega arith) (omega arith) most

pub reads_back_whole : (chain : Chain) → IsChain chain → chain_of (plain_text chain) ≡ Ok chain
reads_back_whole chain bounds = let few = bounds.servers in let fewer =
    bounds.failures in reads_back MOST_FAILURES chain bounds (omega arith)

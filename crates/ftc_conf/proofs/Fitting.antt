-- An accepted chain has no more servers than a chain may have, and more than may be down at once.
use Rattle.std.proofs.Common.{◌≡◌, ◌≤◌, ◌<◌, ℕ, ◌+◌, ◌++◌, Bool, true, false, not, List, [], ◌∷◌, length, Option, Some}
use Rattle.std.proofs.Common.{None, Result, Ok, Err, refl, subst, arith, cond, if◌then◌else◌}
use Rattle.std.specs.Prelude.{◌||◌, nat_le, nat_lt}
use Rattle.std.proofs.lemmas.Bool.{leb-false}
use Rattle.std.proofs.lemmas.List.{length-append}
use Rattle.ftc_base.specs.Text.{lines_of, words_of}
use Rattle.ftc_base.specs.declared.limits.TheConstants.{MOST_SERVERS}
use Rattle.ftc_firewall.specs.declared.rule.FireLine.{FireLine}
use Rattle.ftc_firewall.specs.declared.rule.FirewallRule.{FirewallRule}
use Rattle.ftc_mbox.specs.Chain.{Chain}
use Rattle.ftc_mbox.specs.declared.rule.Rule.{Rule}
use Rattle.ftc_mbox.specs.declared.rule.Rule.TheVariants as rule
use Rattle.ftc_conf.specs.declared.fault.ChainCause.{ChainCause}
use Rattle.ftc_conf.specs.declared.fault.ChainCause.TheVariants.{Replicas, Empty}
use Rattle.ftc_conf.specs.declared.fault.ChainFault.{ChainFault}
use Rattle.ftc_conf.specs.declared.draft.Failures.{Failures}
use Rattle.ftc_conf.specs.declared.draft.Draft.{Draft}
use Rattle.ftc_conf.specs.declared.statement.Form.{Form}
use Rattle.ftc_conf.specs.declared.statement.Statement.{Statement}
use Rattle.ftc_conf.specs.declared.statement.Statement.TheVariants as said
use Rattle.ftc_base.specs.Reading.{◌>>=◌, ◌>>◌}
use Rattle.ftc_conf.specs.Words.{is_comment}
use Rattle.ftc_conf.specs.Forms.{failures_of, partitions_of}
use Rattle.ftc_conf.specs.Draft.{servers, no_lines, last_firewall, longer_firewall, with_statement, HasRoom}
use Rattle.ftc_conf.specs.Grammar.{form_of, room_for, said_in, words_in, line_in, statement_of, line_step, finished}
use Rattle.ftc_conf.specs.Grammar.{placed, chain_from, chain_within}
use Rattle.ftc_conf.proofs.Rooms.{made_of, said_room}

-- a line says something for which there is room
room_then : (draft : Draft) (found : Form) (words : List (List ℕ)) (statement : Statement)
    (room : Result (Unit {0}) ChainCause) → room_for draft found ≡ room → (room >> said_in found words) ≡ Ok statement →
    HasRoom draft statement
room_then draft found words statement (Err cause) there is = absurd (cc)
room_then draft found words statement (Ok tt) there is = said_room draft found words statement there is

found_room : (draft : Draft) (words : List (List ℕ)) (statement : Statement) (form : Result Form ChainCause) →
    (form >>= λ found. room_for draft found >> said_in found words) ≡ Ok statement → HasRoom draft statement
found_room draft words statement (Err cause) is = absurd (cc)
found_room draft words statement (Ok found) is = room_then draft found words statement (room_for draft found) refl is

failures_room : (draft : Draft) (words : List (List ℕ)) (statement : Statement) (is_failures : Bool)
    (other : ChainCause) → (if is_failures then (failures_of words >>= λ number. Ok (said.Failures number))
    else Err other) ≡ Ok statement → HasRoom draft statement
failures_room draft words statement true other is =
    made_of (failures_of words) said.Failures (HasRoom draft) statement (λ number. tt) is
failures_room draft words statement false other is = absurd (cc)

partitions_room : (draft : Draft) (words : List (List ℕ)) (statement : Statement) (is_partitions : Bool)
    (other : ChainCause) → (if is_partitions then (partitions_of words >>= λ number. Ok (said.Partitions number))
    else Err other) ≡ Ok statement → HasRoom draft statement
partitions_room draft words statement true other is =
    made_of (partitions_of words) said.Partitions (HasRoom draft) statement (λ number. tt) is
partitions_room draft words statement false other is = absurd (cc)

words_room : (failures : Option Failures) (partitions : Option ℕ) (draft : Draft) (first : List ℕ)
    (words : List (List ℕ)) (statement : Statement) → words_in failures partitions draft first words ≡ Ok statement →
    HasRoom draft statement
words_room None partitions draft first words statement is = failures_room draft words statement _ _ is
words_room (Some failures) None draft first words statement is = partitions_room draft words statement _ _ is
words_room (Some failures) (Some partitions) draft first words statement is =
    found_room draft words statement (form_of draft first) is

abbrev nothing : Result Statement ChainCause
nothing = Ok said.Nothing

nothing_room : (draft : Draft) (statement : Statement) → nothing ≡ Ok statement → HasRoom draft statement
nothing_room draft statement is = let same : said.Nothing ≡ statement = cc in subst (HasRoom draft) same tt

text_room : (draft : Draft) (statement : Statement) (is_text : Bool) (cause : ChainCause)
    (told : Result Statement ChainCause) → (told ≡ Ok statement → HasRoom draft statement) →
    (if not is_text then Err cause else told) ≡ Ok statement → HasRoom draft statement
text_room draft statement true cause told room is = room is
text_room draft statement false cause told room is = absurd (cc)

comment_room : (draft : Draft) (statement : Statement) (comment : Bool) (told : Result Statement ChainCause) →
    (told ≡ Ok statement → HasRoom draft statement) → (if comment then Ok said.Nothing else told) ≡ Ok statement →
    HasRoom draft statement
comment_room draft statement true told room is = nothing_room draft statement is
comment_room draft statement false told room is = room is

line_room : (draft : Draft) (is_text : Bool) (words : List (List ℕ)) (statement : Statement) →
    line_in draft is_text words ≡ Ok statement → HasRoom draft statement
line_room draft is_text [] statement is = nothing_room draft statement is
line_room draft is_text (first ∷ words) statement is =
    comment_room draft statement (is_comment first) _
    (text_room draft statement is_text _ _
    (words_room draft.failures draft.partitions draft first words statement)) is

-- with it there are no more servers than a chain may have
abbrev Few : Draft → Type 0
Few draft = length (servers draft) ≤ MOST_SERVERS

one_more : (rules : List Rule) (last : Rule) → length rules < MOST_SERVERS → length (rules ++ last ∷ []) ≤ MOST_SERVERS
one_more rules last room = rw (length-append rules (last ∷ [])) (omega (arith, room))

nothing_more : (rules : List Rule) → length rules ≤ MOST_SERVERS → length (rules ++ []) ≤ MOST_SERVERS
nothing_more rules few = rw (length-append rules []) (omega (arith, few))

as_many : (rules : List Rule) (firewall : Option FirewallRule) (line : FireLine) →
    length (rules ++ last_firewall (longer_firewall firewall line)) ≡ length (rules ++ last_firewall firewall)
as_many rules None line = refl
as_many rules (Some firewall) line =
    rw (
      length-append rules (rule.Firewall firewall ∷ []),
      length-append rules (rule.Firewall (record { lines = firewall.lines ++ line ∷ [] }) ∷ []),
    ) refl

few_with : (draft : Draft) (place : ℕ) (statement : Statement) → HasRoom draft statement → Few draft →
    Few (with_statement draft place statement)
few_with draft place said.Nothing room few = few
few_with draft place (said.Failures number) room few = few
few_with draft place (said.Partitions number) room few = few
few_with draft place (said.Middlebox server) room few =
    nothing_more (servers draft ++ server ∷ []) (one_more (servers draft) server room)
few_with draft place said.Firewall room few = one_more (servers draft) (rule.Firewall (record { lines = [] })) room
few_with draft place (said.FireLine line) room few = rw (as_many draft.rules draft.firewall line) few
few_with draft place said.Spare room few =
    nothing_more (servers draft ++ rule.Pass ∷ []) (one_more (servers draft) rule.Pass room)

few_then : (draft : Draft) (place : ℕ) (told : Result Statement ChainCause) (next : Draft) →
    ((statement : Statement) → told ≡ Ok statement → HasRoom draft statement) → Few draft →
    placed place (told >>= λ statement. Ok (with_statement draft place statement)) ≡ Ok next → Few next
few_then draft place (Err cause) next room few is = absurd (cc)
few_then draft place (Ok statement) next room few is =
    let same : with_statement draft place statement ≡ next = cc in
    subst Few same (few_with draft place statement (room statement refl) few)

few_next : (draft : Draft) (place : ℕ) (line : List ℕ) (next : Draft) → Few draft →
    placed place (line_step draft place line) ≡ Ok next → Few next
few_next draft place line next few is =
    few_then draft place (statement_of draft line) next
    (λ statement. line_room draft _ (words_of line) statement) few is

-- and the chain of these tests has them
abbrev Fits : Chain → Type 0
Fits chain = (length chain.rules ≤ MOST_SERVERS) × (chain.failures < length chain.rules)

tested_fits : (failures partitions : ℕ) (rules : List Rule) (empty few many : Bool) (one two : ChainFault)
    (chain : Chain) → length rules ≤ MOST_SERVERS → nat_le (length rules) failures ≡ few
    → cond empty (Err one) (cond (few
    || many) (Err two) (Ok (record { failures = failures; partitions = partitions; rules = rules }))) ≡ Ok chain →
    Fits chain
tested_fits failures partitions rules true few many one two chain bound is made = absurd (cc)
tested_fits failures partitions rules false true many one two chain bound is made = absurd (cc)
tested_fits failures partitions rules false false true one two chain bound is made = absurd (cc)
tested_fits failures partitions rules false false false one two chain bound is made =
    let same : record { failures = failures; partitions = partitions; rules = rules } ≡ chain = cc in
    subst Fits same (bound, omega (arith, leb-false (length rules) failures is))

finished_fits : (most : ℕ) (failures : Option Failures) (partitions : Option ℕ) (draft : Draft) (place : ℕ)
    (chain : Chain) → Few draft → finished most failures partitions draft place ≡ Ok chain → Fits chain
finished_fits most None partitions draft place chain few is = absurd (cc)
finished_fits most (Some failures) None draft place chain few is = absurd (cc)
finished_fits most (Some failures) (Some partitions) draft place chain few is =
    tested_fits failures.number partitions (servers draft) (nat_le (length (servers draft)) draft.spares)
    (nat_le (length (servers draft)) failures.number) (nat_lt most failures.number) (record {
      line = place;
      cause = Empty;
    }) (record { line = failures.line; cause = Replicas }) chain few refl is

lines_fit : (most : ℕ) (next : Result Draft ChainFault) (place : ℕ) (lines : List (List ℕ)) (chain : Chain) →
    ((draft : Draft) → next ≡ Ok draft → Few draft) → chain_from most next place lines ≡ Ok chain → Fits chain
lines_fit most (Err fault) place lines chain few is = absurd (cc)
lines_fit most (Ok draft) place [] chain few is =
    finished_fits most draft.failures draft.partitions draft place chain (few draft refl) is
lines_fit most (Ok draft) place (line ∷ lines) chain few is =
    lines_fit most (placed place (line_step draft place line)) (place + 1) lines chain
    (λ next. few_next draft place line next (few draft refl)) is

abbrev at_first : Result Draft ChainFault
at_first = Ok no_lines

none_few : (draft : Draft) → at_first ≡ Ok draft → Few draft
none_few draft is = let same : no_lines ≡ draft = cc in subst Few same (omega arith)

pub fits : (most : ℕ) (text : List ℕ) (chain : Chain) → chain_within most text ≡ Ok chain → Fits chain
fits most text chain is = lines_fit most (Ok no_lines) 1 (lines_of text) chain none_few is

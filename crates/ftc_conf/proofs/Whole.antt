-- A bound that no line `f F` exceeds refuses nothing.
use Rattle.std.proofs.Common.{◌≡◌, ◌≤◌, ℕ, ◌+◌, Bool, true, false, List, [], ◌∷◌, Option, Some, None, Result, Ok, Err}
use Rattle.std.proofs.Common.{refl, arith, cond}
use Rattle.std.specs.Prelude.{◌&&◌, not, nat_le, nat_lt, IfOk, IfSome, codes}
use Rattle.std.specs.List.{list_all}
use Rattle.std.specs.Str.{bytes_eq}
use Rattle.std.proofs.lemmas.Bool.Decides.{nat_tests}
use Rattle.ftc_base.specs.Text.{words_of, lines_of}
use Rattle.ftc_conf.specs.declared.limits.TheConstants.{MOST_FAILURES}
use Rattle.ftc_conf.specs.declared.fault.ChainCause.{ChainCause}
use Rattle.ftc_conf.specs.declared.fault.ChainCause.TheVariants.{NotText, NoFailures, NoPartitions, BadRange}
use Rattle.ftc_conf.specs.declared.fault.ChainFault.{ChainFault}
use Rattle.ftc_conf.specs.declared.statement.Form.{Form}
use Rattle.ftc_conf.specs.declared.statement.Form.TheVariants as form
use Rattle.ftc_conf.specs.declared.statement.Statement.{Statement}
use Rattle.ftc_conf.specs.declared.statement.Statement.TheVariants as said
use Rattle.ftc_conf.specs.declared.draft.Failures.{Failures}
use Rattle.ftc_conf.specs.declared.draft.Draft.{Draft}
use Rattle.ftc_base.specs.Reading.{◌>>=◌, ◌>>◌, unless}
use Rattle.ftc_conf.specs.Words.{is_text_byte, is_comment, number_word}
use Rattle.ftc_conf.specs.Forms.{no_words, failures_of, partitions_of, monitor_of, nat_of, fire_line_of, balance_of}
use Rattle.ftc_conf.specs.Draft.{no_lines, with_statement}
use Rattle.ftc_conf.specs.Grammar.{form_of, room_for, said_in, middlebox_line, words_in, line_in, statement_of}
use Rattle.ftc_conf.specs.Grammar.{line_step, finished, placed, chain_from, chain_within, chain_of}

-- what a line says of the failures is in the number's own bound
abbrev SaysFew : Statement → Type 0
SaysFew (said.Failures number) = number ≤ MOST_FAILURES
SaysFew other = Unit {0}

behind : {A : Type 0} (r : Result A ChainCause) (next : A → Result Statement ChainCause) →
    ((value : A) → IfOk (next value) SaysFew) → IfOk (r >>= next) SaysFew
behind (Ok value) next few = few value
behind (Err cause) next few = tt

then : {A : Type 0} (r : Result A ChainCause) (next : Result Statement ChainCause) → IfOk next SaysFew →
    IfOk (r >> next) SaysFew
then (Ok value) next few = few
then (Err cause) next few = tt

choice : (passed : Bool) (one : Result Statement ChainCause) (cause : ChainCause) → IfOk one SaysFew →
    IfOk (cond passed one (Err cause)) SaysFew
choice true one cause few = few
choice false one cause few = tt

-- the number of the line `f F`
in_range : (least most value : ℕ) (above below : Bool) → nat_le value most ≡ below →
    IfOk (unless (above && below) BadRange >> Ok value) (λ number. number ≤ most)
in_range least most value true true is = grind (arith, nat_tests)
in_range least most value true false is = tt
in_range least most value false below is = tt

number_few : (least most : ℕ) (r : Result ℕ ChainCause) →
    IfOk (r >>= λ value. unless (nat_le least value && nat_le value most) BadRange >> Ok value)
    (λ number. number ≤ most)
number_few least most (Ok value) = in_range least most value (nat_le least value) (nat_le value most) refl
number_few least most (Err cause) = tt

as_failures : (r : Result ℕ ChainCause) → IfOk r (λ number. number ≤ MOST_FAILURES) →
    IfOk (r >>= λ number. Ok (said.Failures number)) SaysFew
as_failures (Ok number) few = few
as_failures (Err cause) few = tt

failures_few : (words : List (List ℕ)) → IfOk (failures_of words) (λ number. number ≤ MOST_FAILURES)
failures_few [] = tt
failures_few (word ∷ []) = number_few 0 MOST_FAILURES (number_word word)
failures_few (word ∷ other ∷ words) = tt

-- no other line speaks of them
said_few : (found : Form) (words : List (List ℕ)) → IfOk (said_in found words) SaysFew
said_few form.Pass words = then (no_words words) (said_in form.Pass []) tt
said_few form.Monitor words = behind (monitor_of words) _ (λ groups. tt)
said_few form.Nat words = behind (nat_of words) _ (λ nat. tt)
said_few form.Firewall words = then (no_words words) (Ok said.Firewall) tt
said_few (form.FireLine allow) words = behind (fire_line_of allow words) _ (λ line. tt)
said_few form.Balance words = behind (balance_of words) _ (λ balance. tt)
said_few form.Spare words = then (no_words words) (Ok said.Spare) tt

middlebox_few : (draft : Draft) (first : List ℕ) (words : List (List ℕ)) →
    IfOk (middlebox_line draft first words) SaysFew
middlebox_few draft first words =
    behind (form_of draft first) (λ found. room_for draft found >> said_in found words) (λ found. then
    (room_for draft found) (said_in found words) (said_few found words))

words_few : (failures : Option Failures) (partitions : Option ℕ) (draft : Draft) (first : List ℕ)
    (words : List (List ℕ)) → IfOk (words_in failures partitions draft first words) SaysFew
words_few None partitions draft first words =
    choice (bytes_eq first (codes "f")) (failures_of words >>= λ number.
    Ok (said.Failures number)) NoFailures (as_failures (failures_of words) (failures_few words))
words_few (Some failures) None draft first words =
    choice (bytes_eq first (codes "partitions")) (partitions_of words >>= λ number.
    Ok (said.Partitions number)) NoPartitions
    (behind (partitions_of words) (λ number. Ok (said.Partitions number)) (λ number. tt))
words_few (Some failures) (Some partitions) draft first words = middlebox_few draft first words

-- a line that may be a comment or no text
kind_few : (comment no_text : Bool) (told : Result Statement ChainCause) (cause : ChainCause) → IfOk told SaysFew →
    IfOk (cond comment (Ok said.Nothing) (cond no_text (Err cause) told)) SaysFew
kind_few true no_text told cause few = tt
kind_few false true told cause few = tt
kind_few false false told cause few = few

line_few : (draft : Draft) (is_text : Bool) (words : List (List ℕ)) → IfOk (line_in draft is_text words) SaysFew
line_few draft is_text [] = tt
line_few draft is_text (first ∷ words) =
    kind_few (is_comment first) (not is_text) (words_in draft.failures draft.partitions draft first words) NotText
    (words_few draft.failures draft.partitions draft first words)

-- so the failures of a draft are in that bound
abbrev HasFew : Draft → Type 0
HasFew draft = IfSome draft.failures (λ failures. failures.number ≤ MOST_FAILURES)

with_few : (draft : Draft) (place : ℕ) (statement : Statement) → HasFew draft → SaysFew statement →
    HasFew (with_statement draft place statement)
with_few draft place said.Nothing held few = held
with_few draft place (said.Failures number) held few = few
with_few draft place (said.Partitions number) held few = held
with_few draft place (said.Middlebox server) held few = held
with_few draft place said.Firewall held few = held
with_few draft place (said.FireLine line) held few = held
with_few draft place said.Spare held few = held

step_few : (draft : Draft) (place : ℕ) (told : Result Statement ChainCause) → HasFew draft → IfOk told SaysFew →
    IfOk (placed place (told >>= λ statement. Ok (with_statement draft place statement))) HasFew
step_few draft place (Ok statement) held few = with_few draft place statement held few
step_few draft place (Err cause) held few = tt

-- behind the last line two such bounds tell alike
finished_alike : (most more : ℕ) (failures : Option Failures) (partitions : Option ℕ) (draft : Draft) (place : ℕ) →
    MOST_FAILURES ≤ most → MOST_FAILURES ≤ more → IfSome failures (λ found. found.number ≤ MOST_FAILURES) →
    finished most failures partitions draft place ≡ finished more failures partitions draft place
finished_alike most more None partitions draft place wide wider few = refl
finished_alike most more (Some failures) None draft place wide wider few = refl
finished_alike most more (Some failures) (Some partitions) draft place wide wider few =
    let below : nat_lt most failures.number ≡ false = grind (arith, nat_tests) in
    let under : nat_lt more failures.number ≡ false = grind (arith, nat_tests) in
    rw (below, under) refl

lines_alike : (most more : ℕ) (draft : Result Draft ChainFault) (place : ℕ) (lines : List (List ℕ)) →
    MOST_FAILURES ≤ most → MOST_FAILURES ≤ more → IfOk draft HasFew →
    chain_from most draft place lines ≡ chain_from more draft place lines
lines_alike most more (Err fault) place lines wide wider few = refl
lines_alike most more (Ok draft) place [] wide wider few =
    finished_alike most more draft.failures draft.partitions draft place wide wider few
lines_alike most more (Ok draft) place (line ∷ lines) wide wider few =
    lines_alike most more (placed place (line_step draft place line)) (place + 1) lines wide wider
    (step_few draft place (statement_of draft line) few (line_few draft (list_all is_text_byte line) (words_of line)))

pub unbounded : (most : ℕ) (text : List ℕ) → MOST_FAILURES ≤ most → chain_within most text ≡ chain_of text
unbounded most text wide = lines_alike most MOST_FAILURES (Ok no_lines) 1 (lines_of text) wide (omega arith) tt

-- An accepted chain keeps its bound, and each bound that it keeps accepts it.
use Rattle.std.proofs.Common.{◌≡◌, ◌≤◌, ℕ, ◌+◌, Bool, true, false, List, [], ◌∷◌, length, Option, Some, None, Result}
use Rattle.std.proofs.Common.{Ok, Err, refl, arith, rules, cond}
use Rattle.std.specs.Prelude.{◌||◌, nat_le, nat_lt}
use Rattle.std.proofs.lemmas.Bool.{ltb-false}
use Rattle.std.proofs.lemmas.Bool.Decides.{nat_tests}
use Rattle.ftc_base.specs.Text.{lines_of}
use Rattle.ftc_mbox.specs.Chain.{Chain}
use Rattle.ftc_mbox.specs.declared.rule.Rule.{Rule}
use Rattle.ftc_conf.specs.declared.fault.ChainCause.TheVariants.{Replicas, Empty}
use Rattle.ftc_conf.specs.declared.fault.ChainFault.{ChainFault}
use Rattle.ftc_conf.specs.declared.draft.Failures.{Failures}
use Rattle.ftc_conf.specs.declared.draft.Draft.{Draft}
use Rattle.ftc_conf.specs.Draft.{servers, no_lines}
use Rattle.ftc_conf.specs.Grammar.{complete_chain, finished, placed, line_step, chain_from, chain_within}

-- the chain of these tests: no middlebox, too few servers, or above the bound
abbrev tested : (failures partitions : ℕ) (rules : List Rule) (empty few many : Bool) (one two : ChainFault) →
    Result Chain ChainFault
tested failures partitions rules empty few many one two =
    cond empty (Err one) (cond (few
    || many) (Err two) (Ok (record { failures = failures; partitions = partitions; rules = rules })))

tested_bounded : (most failures partitions : ℕ) (rules : List Rule) (empty few many : Bool) (one two : ChainFault)
    (chain : Chain) → tested failures partitions rules empty few many one two ≡ Ok chain → nat_lt most failures ≡ many →
    chain.failures ≤ most
tested_bounded most failures partitions rules true few many one two chain is over = cc
tested_bounded most failures partitions rules false true many one two chain is over = cc
tested_bounded most failures partitions rules false false true one two chain is over = cc
tested_bounded most failures partitions rules false false false one two chain is over =
    let same : failures ≡ chain.failures = cc in
    omega (arith, same, ltb-false most failures over)

tested_kept : (most failures partitions : ℕ) (rules : List Rule) (empty few many : Bool) (one two : ChainFault)
    (chain : Chain) → tested failures partitions rules empty few many one two ≡ Ok chain → chain.failures ≤ most →
    tested failures partitions rules empty few (nat_lt most failures) one two ≡ Ok chain
tested_kept most failures partitions rules true few many one two chain is fit = cc
tested_kept most failures partitions rules false true many one two chain is fit = cc
tested_kept most failures partitions rules false false true one two chain is fit = cc
tested_kept most failures partitions rules false false false one two chain is fit =
    let same : failures ≡ chain.failures = cc in
    let below : nat_lt most failures ≡ false = grind (arith, nat_tests) in
    rw below is

complete_bounded : (most : ℕ) (failures : Failures) (partitions : ℕ) (draft : Draft) (place : ℕ) (chain : Chain) →
    complete_chain most failures partitions draft place ≡ Ok chain → chain.failures ≤ most
complete_bounded most failures partitions draft place chain is =
    tested_bounded most failures.number partitions (servers draft) (nat_le (length (servers draft)) draft.spares)
    (nat_le (length (servers draft)) failures.number) (nat_lt most failures.number) (record {
      line = place;
      cause = Empty;
    }) (record { line = failures.line; cause = Replicas }) chain is refl

complete_kept : (most more : ℕ) (failures : Failures) (partitions : ℕ) (draft : Draft) (place : ℕ) (chain : Chain) →
    chain.failures ≤ most → complete_chain more failures partitions draft place ≡ Ok chain →
    complete_chain most failures partitions draft place ≡ Ok chain
complete_kept most more failures partitions draft place chain fit is =
    tested_kept most failures.number partitions (servers draft) (nat_le (length (servers draft)) draft.spares)
    (nat_le (length (servers draft)) failures.number) (nat_lt more failures.number) (record {
      line = place;
      cause = Empty;
    }) (record { line = failures.line; cause = Replicas }) chain is fit

finished_bounded : (most : ℕ) (failures : Option Failures) (partitions : Option ℕ) (draft : Draft) (place : ℕ)
    (chain : Chain) → finished most failures partitions draft place ≡ Ok chain → chain.failures ≤ most
finished_bounded most None partitions draft place chain is = cc
finished_bounded most (Some failures) None draft place chain is = cc
finished_bounded most (Some failures) (Some partitions) draft place chain is =
    complete_bounded most failures partitions draft place chain is

finished_kept : (most more : ℕ) (failures : Option Failures) (partitions : Option ℕ) (draft : Draft) (place : ℕ)
    (chain : Chain) → chain.failures ≤ most → finished more failures partitions draft place ≡ Ok chain →
    finished most failures partitions draft place ≡ Ok chain
finished_kept most more None partitions draft place chain fit is = cc
finished_kept most more (Some failures) None draft place chain fit is = cc
finished_kept most more (Some failures) (Some partitions) draft place chain fit is =
    complete_kept most more failures partitions draft place chain fit is

lines_bounded : (most : ℕ) (draft : Result Draft ChainFault) (place : ℕ) (lines : List (List ℕ)) (chain : Chain) →
    chain_from most draft place lines ≡ Ok chain → chain.failures ≤ most
lines_bounded most (Err fault) place lines chain is = cc
lines_bounded most (Ok draft) place [] chain is =
    finished_bounded most draft.failures draft.partitions draft place chain is
lines_bounded most (Ok draft) place (line ∷ lines) chain is =
    lines_bounded most (placed place (line_step draft place line)) (place + 1) lines chain is

lines_kept : (most more : ℕ) (draft : Result Draft ChainFault) (place : ℕ) (lines : List (List ℕ)) (chain : Chain) →
    chain.failures ≤ most → chain_from more draft place lines ≡ Ok chain → chain_from most draft place lines ≡ Ok chain
lines_kept most more (Err fault) place lines chain fit is = cc
lines_kept most more (Ok draft) place [] chain fit is =
    finished_kept most more draft.failures draft.partitions draft place chain fit is
lines_kept most more (Ok draft) place (line ∷ lines) chain fit is =
    lines_kept most more (placed place (line_step draft place line)) (place + 1) lines chain fit is

pub bounded : (most : ℕ) (text : List ℕ) (chain : Chain) → chain_within most text ≡ Ok chain → chain.failures ≤ most
bounded most text chain is = lines_bounded most (Ok no_lines) 1 (lines_of text) chain is

pub kept : (most more : ℕ) (text : List ℕ) (chain : Chain) → chain.failures ≤ most → chain_within more text ≡ Ok chain →
    chain_within most text ≡ Ok chain
kept most more text chain fit is = lines_kept most more (Ok no_lines) 1 (lines_of text) chain fit is

pub wider : (most more : ℕ) (text : List ℕ) (chain : Chain) → most ≤ more → chain_within most text ≡ Ok chain →
    chain_within more text ≡ Ok chain
wider most more text chain wide is = let fit = bounded most text chain is in kept more most text chain (omega arith) is

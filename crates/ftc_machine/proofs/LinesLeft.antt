-- The lines that are left of a script.
use Rattle.std.proofs.Common.{◌≡◌, ℕ, zero, suc, ◌+◌, ◌<◌, ◌≤◌, ◌==◌, Bool, true, false, inl, inr, sym, subst, List, []}
use Rattle.std.proofs.Common.{◌∷◌, length, drop, slice_get, Some, None, refl, arith, ap}
use Rattle.std.specs.List.{list_any}
use Rattle.ftc_script.specs.declared.line.ScriptLine.{ScriptLine}
use Rattle.ftc_script.specs.Steps.{at_of}
use Rattle.std.proofs.lemmas.Bool.{true≢false, cases_lt}
use Rattle.ftc_journal.specs.declared.event.Event.TheVariants as event
use Rattle.ftc_script.specs.declared.line.ScriptLine.TheVariants.{Recover}
use Rattle.ftc_protocol.specs.Legal.{MayHappen, IsNextLine}
use Rattle.ftc_protocol.specs.Setting.{Setting, servers}
use Rattle.ftc_machine.specs.Slots.{has_such}
use Rattle.ftc_protocol.specs.State.{ChainState}
use Rattle.ftc_machine.specs.LegalityTests.{first_of}
use Rattle.ftc_machine.specs.Lawful.{IsLawful}

-- the first of those that are left is the one in its place
pub first_left : (lines : List ScriptLine) (done : ℕ) → first_of (drop done lines) ≡ slice_get lines done
first_left [] zero = refl
first_left [] (suc done) = refl
first_left (line ∷ lines) zero = refl
first_left (line ∷ lines) (suc done) = first_left lines done

pub none_left : (lines : List ScriptLine) (done : ℕ) → length lines ≤ done → first_of (drop done lines) ≡ None
none_left [] zero past = refl
none_left [] (suc done) past = refl
none_left (line ∷ lines) zero past = absurd (omega arith)
none_left (line ∷ lines) (suc done) past = none_left lines done (omega arith)

-- those that are left are that one and those that are left behind it
pub one_left : (lines : List ScriptLine) (done : ℕ) (line : ScriptLine) → slice_get lines done ≡ Some line →
    drop done lines ≡ line ∷ drop (suc done) lines
one_left [] done line there = absurd (cc)
one_left (first ∷ lines) zero line there = let same : first ≡ line = cc in ap (λ l. l ∷ lines) same
one_left (first ∷ lines) (suc done) line there = one_left lines done line there

abbrev pub is_at : ℕ → ScriptLine → Bool
is_at entered line = at_of line == entered

pub any_here : (lines : List ScriptLine) (place entered : ℕ) (line : ScriptLine) → slice_get lines place ≡ Some line →
    is_at entered line ≡ true
    → list_any (is_at entered) (drop place lines) ≡ true
any_here lines place entered line there is = rw (one_left lines place line there, is) refl

pub any_behind : (lines : List ScriptLine) (place entered : ℕ) (line : ScriptLine) → slice_get lines place ≡ Some line →
    is_at entered line ≡ false
    → list_any (is_at entered) (drop place lines) ≡ list_any (is_at entered) (drop (place + 1) lines)
any_behind lines place entered line there isnt =
    let suc_is : suc place ≡ place + 1 = omega arith in
    subst (λ n. list_any (is_at entered) (drop place lines) ≡ list_any (is_at entered) (drop n lines)) suc_is
    (rw (one_left lines place line there, isnt) refl)

-- where one of those that are left passes a test, they are not at their end
pub some_left : (test : ScriptLine → Bool) (lines : List ScriptLine) (done : ℕ) →
    has_such test (first_of (drop done lines)) ≡ true → done < length lines
some_left test lines done is = elim (cases_lt done (length lines)) [
  | inl less ↦ less
  | inr past ↦ absurd (true≢false (sym (subst (λ o. has_such test o ≡ true) (none_left lines done past) is)))
]

-- the server of the next line is one of the chain's
pub crash_below : (c : Setting) (s : ChainState) → IsLawful c s → (server : ℕ) → MayHappen c s (event.Crash server) →
    server < servers c
crash_below c s r server may = r.order.crashes s.entered server may

pub recovery_below : (c : Setting) (s : ChainState) → IsLawful c s → (server : ℕ) →
    IsNextLine s.lines (Recover s.entered server) → server < servers c
recovery_below c s r server may = (r.order.recoveries s.entered server may).0

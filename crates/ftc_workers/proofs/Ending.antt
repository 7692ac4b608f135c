-- How one row of calls ends after another.
use Rattle.std.proofs.Common.{◌≡◌, sym, subst, Result, Ok, Err, OnOk, OnErr}
use Rattle.ftc_stream.specs.Ending.{Ended}

module _ {S A E : Type 0} (went : S → S → Type 0) (broke : S → S → E → Type 0)
    (goes_on : (a b c : S) → went a b → went b c → went a c)
    (breaks : (a b c : S) (fault : E) → went a b → broke b c fault → broke a c fault) where
  ended_on : (result : Result A E) (a b c : S) → went a b → Ended went broke result b c → Ended went broke result a c
  ended_on (Ok answer) a b c first then = goes_on a b c first then
  ended_on (Err fault) a b c first then = breaks a b c fault first then

  -- a row of calls, and then another unless there was a fault
  pub ended_after : (before result : Result A E) (a b c : S) → Ended went broke before a b →
      OnOk before (Ended went broke result b c) → OnErr before ((result ≡ before) × (c ≡ b)) →
      Ended went broke result a c
  ended_after (Ok answer) result a b c first ok err = ended_on result a b c first ok
  ended_after (Err fault) result a b c first ok (same, still) =
      subst (λ (r : Result A E). Ended went broke r a c) (sym same)
      (subst (λ (d : S). Ended {A = A} went broke (Err fault) a d) (sym still) first)

  -- the same up to what the last one left
  pub ended_at : (before result : Result A E) (a b c d : S) → d ≡ c → Ended went broke before a b →
      OnOk before (Ended went broke result b c) → OnErr before ((result ≡ before) × (c ≡ b)) →
      Ended went broke result a d
  ended_at before result a b c d same first ok err =
      subst (λ (e : S). Ended went broke result a e) (sym same) (ended_after before result a b c first ok err)

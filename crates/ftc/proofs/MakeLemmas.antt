-- How the making of a capture ends.
use Rattle.std.proofs.Common.{◌≡◌, ◌≢◌, ◌⊎◌, inl, inr, refl, subst, ℕ, List, [], ◌∷◌, true, false, Some, Ok, Err, codes}
use Rattle.ftc_base.specs.Refused.{IfBad}
use Rattle.ftc_base.specs.declared.refusal.Refuse.{Refuse}
use Rattle.ftc_base.specs.declared.refusal.Refuse.TheVariants as refuse
use Rattle.std.specs.List.{list_all}
use Rattle.ftc_conf.specs.Grammar.{chain_of}
use Rattle.ftc_conf.specs.declared.fault.ChainFault.{ChainFault}
use Rattle.ftc_mbox.specs.Chain.{Chain}
use Rattle.ftc_words.specs.Given.{is_name}
use Rattle.ftc_mbox.specs.declared.rule.Rule.TheVariants.{Nat, Firewall, Balance, Monitor}
use Rattle.ftc_outside.specs.Desk.{Files}
use Rattle.ftc_outside.specs.declared.desk.DeskError.{DeskError}
use Rattle.ftc_outside.specs.declared.desk.DeskError.TheVariants as desk
use Rattle.ftc.specs.declared.status.Status.{Status}
use Rattle.ftc.specs.declared.status.Status.TheVariants as status
use Rattle.ftc.specs.Status.{desk_status}
use Rattle.ftc.specs.Making.{made_text, AreMaking, IsMade, IsMadeShort, MakeEnds}
use Rattle.ftc.specs.Watching.{AreMade, AreMadeShort}
use Rattle.ftc.proofs.Agreeing.{not_both}
use Rattle.ftc.proofs.Endings.{done_or_memory}

-- a name is not that of standard output
pub made_apart : (name : List ℕ) → list_all is_name (name ∷ []) ≡ true → name ≢ codes "-"
made_apart name named same = let all : list_all is_name (codes "-" ∷ []) ≡ true =
    rw same at named in let apart : false ≡ true = all in cc

-- ---- the chain's text is right

abbrev made_chain : Chain
made_chain = record {
  failures = 1;
  partitions = 16;
  rules = Nat (record {
    inside = record { base = 167772160; length = 8 };
    outside = 3405803781;
    first = 20000;
    last = 59999;
  })
      ∷ Firewall (record {
        lines = record {
          allow = true;
          protocol = Some 17;
          source = record { base = 0; length = 0 };
          destination = record { base = 3325256714; length = 32 };
          low = 80;
          high = 80;
        } ∷ [];
      })
      ∷ Balance (record { address = 3325256714; port = 80; backends = 3221225985 ∷ 3221225986 ∷ [] })
      ∷ Monitor 16
      ∷ [];
}

chain_right : chain_of made_text ≡ Ok made_chain
chain_right = refl

pub no_fault : (fault : ChainFault) → chain_of made_text ≡ Err fault → ⊥
no_fault fault wrong = not_both (chain_of made_text) made_chain fault chain_right wrong

-- what a call told of its refusal, of the fault that the refusal has
pub fault_told : (X F : Type 0) (Why : F → Type 0) (refusal : Refuse F) → IfBad {A = X} (Err refusal) Why → (fault : F)
    → refusal ≡ refuse.Bad fault → Why fault
fault_told X F Why refusal told fault is = subst (λ (r : Refuse F). IfBad {A = X} (Err r) Why) is told

-- ---- its ends

module _ (packets seed : ℕ) (name : List ℕ) (old new : Files) (bytes told : List ℕ)
    (making : AreMaking packets seed bytes told) where
  pub make_done : AreMade name bytes told old new → IsMade packets seed name old new
  make_done made = record { bytes = bytes; told = told; making = making; made = made }

  short : AreMadeShort name bytes told old new → IsMadeShort packets seed name old new
  short made = record { bytes = bytes; told = told; making = making; made = made }

  pub make_cut : (sound : Type 0) (error : DeskError) → (sound → error ≡ desk.Failed → ⊥) →
      AreMadeShort name bytes told old new
      → MakeEnds sound packets seed name old new (desk_status error)
  make_cut sound desk.Failed safe made = inr (short made, λ s. safe s refl)
  make_cut sound desk.NoMemory safe made = inr (short made)

-- it is done, but for want of memory or by a fault of the desk
pub make_completes : (sound : Type 0) (packets seed : ℕ) (name : List ℕ) (old new : Files) (ending : Status)
    → MakeEnds sound packets seed name old new ending → (ending ≡ status.DeskFault → ⊥) →
    (ending ≡ status.Done) ⊎ (ending ≡ status.NoMemory)
make_completes sound packets seed name old new = done_or_memory _ _ _ _ _ (λ ending no-fault refused. absurd refused)

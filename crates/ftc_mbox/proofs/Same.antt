-- What `==` says of the parts of a plan.
use mathlib.Core.Bool.{beq}
use Rattle.std.proofs.Common.{rules, ◌≡◌, ◌&&◌, refl, ap, ℕ, Bool, true, false, eqb, List, Option, Some, None, Decides}
use Rattle.std.specs.Option.{option_eq}
use Rattle.std.specs.Cmp.Lexicographic.{pointwise}
use Rattle.std.proofs.lemmas.Bool.Decides.{Decides-and, Decides-like, Decides-eqb}
use Rattle.std.proofs.lemmas.Slice.Eq.{slice_eq-Decides}
use Rattle.ftc_base.specs.declared.ask.Answer.{Answer}
use Rattle.ftc_base.specs.declared.network.Net.{Net}
use Rattle.ftc_firewall.specs.declared.rule.FireLine.{FireLine}

-- of two truth values
same_bool : (a b : Bool) → Decides (beq a b) (a ≡ b)
same_bool true true = Prim.search (rules)
same_bool true false = Prim.search (rules)
same_bool false true = Prim.search (rules)
same_bool false false = Prim.search (rules)

-- of two options
same_option : {A : Type 0} {eq : A → A → Bool} → ((a b : A) → Decides (eq a b) (a ≡ b)) → (a b : Option A) →
    Decides (option_eq eq a b) (a ≡ b)
same_option decides None None = Prim.search (rules)
same_option decides None (Some b) = Prim.search (rules)
same_option decides (Some a) None = Prim.search (rules)
same_option decides (Some a) (Some b) = Decides-like _ (λ e. ap Some e) (λ e. Prim.search (rules)) (decides a b)

-- of two lists of bytes
same_bytes : (a b : List ℕ) → Decides (pointwise eqb a b) (a ≡ b)
same_bytes a b = slice_eq-Decides Decides-eqb a b _ refl

-- of two answers
pub same_answer : (a b : Answer) →
    Decides (pointwise eqb a.key b.key && option_eq (pointwise eqb) a.value b.value) (a ≡ b)
same_answer a b =
    Decides-like _ (λ e i. record { key = e.0 i; value = e.1 i }) (λ e. (ap (λ x. x.key) e, ap (λ x. x.value) e))
    (Decides-and _ _ (same_bytes a.key b.key) (same_option same_bytes a.value b.value))

-- of two nets
same_net : (a b : Net) → Decides (eqb a.base b.base && eqb a.length b.length) (a ≡ b)
same_net a b =
    Decides-like _ (λ e i. record { base = e.0 i; length = e.1 i }) (λ e. (ap (λ x. x.base) e, ap (λ x. x.length) e))
    (Decides-and _ _ (Decides-eqb a.base b.base) (Decides-eqb a.length b.length))

-- of two lines of a firewall
pub same_line : (a b : FireLine) →
    Decides (beq a.allow b.allow
    && (option_eq eqb a.protocol b.protocol
    && ((eqb a.source.base b.source.base && eqb a.source.length b.source.length)
    && ((eqb a.destination.base b.destination.base && eqb a.destination.length b.destination.length)
    && (eqb a.low b.low && eqb a.high b.high))))) (a ≡ b)
same_line a b =
    Decides-like _
    (λ e i. record {
      allow = e.0 i;
      protocol = e.1.0 i;
      source = e.1.1.0 i;
      destination = e.1.1.1.0 i;
      low = e.1.1.1.1.0 i;
      high = e.1.1.1.1.1 i;
    })
    (λ e. (
      ap (λ x. x.allow) e,
      (
        ap (λ x. x.protocol) e,
        (
          ap (λ x. x.source) e,
          (ap (λ x. x.destination) e, (ap (λ x. x.low) e, ap (λ x. x.high) e)),
        ),
      ),
    ))
    (Decides-and _ _ (same_bool a.allow b.allow)
    (Decides-and _ _ (same_option Decides-eqb a.protocol b.protocol)
    (Decides-and _ _ (same_net a.source b.source)
    (Decides-and _ _ (same_net a.destination b.destination)
    (Decides-and _ _ (Decides-eqb a.low b.low) (Decides-eqb a.high b.high))))))

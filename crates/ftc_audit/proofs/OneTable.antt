-- A run has one port table of a translator.
use Rattle.std.proofs.Common.{◌≡◌, ◌<◌, ◌∙◌, inl, inr, refl, sym, ap, subst, ℕ, suc, List, [], ◌∷◌, map, add-one, arith}
use Rattle.std.specs.List.{AllByRecursion}
use Rattle.std.specs.List.Sorted.{IsStrictlyIncreasing}
use Rattle.ftc_base.proofs.EachOf.{all-weaker}
use Rattle.ftc_nat.specs.declared.rule.NatRule.{NatRule}
use Rattle.ftc_serial.specs.Words.{AnyOf, EachLater}
use Rattle.ftc_audit.specs.declared.line.PortLine.{PortLine}
use Rattle.ftc_audit.specs.Visits.{Seen}
use Rattle.ftc_audit.specs.Table.{IsPortTable}
use Rattle.ftc_audit.proofs.Lists.{any_of_contains, contains_any}

abbrev outside : PortLine → ℕ
outside line = line.outside

abbrev IsBelow : PortLine → PortLine → Type 0
IsBelow one other = one.outside < other.outside

-- each line is below all later ones
each_rises : (lines : List PortLine) → IsStrictlyIncreasing (map outside lines) → EachLater IsBelow lines
each_rises [] rising = tt
each_rises (one ∷ []) rising = (tt, tt)
each_rises (one ∷ two ∷ lines) rising =
    let first : one.outside < two.outside = rising 0 (omega arith) in
    let rest : IsStrictlyIncreasing (map outside (two ∷ lines)) = λ k within. rw add-one (rw add-one at
    (rising (suc k) (omega (arith, within)))) in
    let later = each_rises (two ∷ lines) rest in
    ((first, all-weaker (IsBelow two) (IsBelow one) (λ line above. omega (arith, first, above)) lines later.0), later)

above : (least : PortLine) (lines : List PortLine) → AllByRecursion (IsBelow least) lines → (line : PortLine)
    → AnyOf (λ other. other ≡ line) lines → least.outside < line.outside
above least [] all line any = absurd any
above least (other ∷ lines) all line (inl is) = subst (IsBelow least) is all.0
above least (other ∷ lines) all line (inr more) = above least lines all.1 line more

abbrev Among : List PortLine → List PortLine → Type 0
Among lines others = (line : PortLine) → AnyOf (λ other. other ≡ line) lines → AnyOf (λ other. other ≡ line) others

first_same : (one other : PortLine) (lines others : List PortLine) → AllByRecursion (IsBelow one) lines
    → AllByRecursion (IsBelow other) others → Among (one ∷ lines) (other ∷ others) →
    Among (other ∷ others) (one ∷ lines)
    → one ≡ other
first_same one other lines others rises also there back =
    elim (there one (inl refl)) [
      | inl is ↦ sym is
      | inr later ↦ elim (back other (inl refl)) [
        | inl is ↦ is
        | inr more ↦
            let low = above other others also one later in
            let high = above one lines rises other more in
            absurd (omega (arith, low, high))
      ]
    ]

rest_among : (one other : PortLine) (lines others : List PortLine) → one ≡ other → AllByRecursion (IsBelow one) lines
    → Among (one ∷ lines) (other ∷ others) → Among lines others
rest_among one other lines others same rises there line any =
    elim (there line (inr any)) [
      | inl is ↦
          let high = above one lines rises line any in
          let equal : one.outside ≡ line.outside = ap outside (same ∙ is) in
          absurd (omega (arith, high, equal))
      | inr more ↦ more
    ]

same_lines : (lines others : List PortLine) → EachLater IsBelow lines → EachLater IsBelow others
    → Among lines others → Among others lines → lines ≡ others
same_lines [] [] rises also there back = refl
same_lines [] (other ∷ others) rises also there back = absurd (back other (inl refl))
same_lines (one ∷ lines) [] rises also there back = absurd (there one (inl refl))
same_lines (one ∷ lines) (other ∷ others) rises also there back =
    let same = first_same one other lines others rises.0 also.0 there back in
    let rest = same_lines lines others rises.1 also.1 (rest_among one other lines others same rises.0 there)
    (rest_among other one others lines (sym same) also.0 back) in
    λ i. same i ∷ rest i

pub one_table_each : (rule : NatRule) (server : ℕ) (run : List Seen) (one other : List PortLine)
    → IsPortTable rule server run one → IsPortTable rule server run other → one ≡ other
one_table_each rule server run one other is also =
    same_lines one other (each_rises one is.rising) (each_rises other also.rising)
    (λ line any. any_of_contains other line ((also.given line).1 ((is.given line).0 (contains_any one line any))))
    (λ line any. any_of_contains one line ((is.given line).1 ((also.given line).0 (contains_any other line any))))

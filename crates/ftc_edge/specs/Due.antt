-- The packets that are withheld, and which of them is due.
use Rattle.std.specs.Prelude.{◌≡◌, ℕ, Bool, true, false, List, ◌∷◌, ◌++◌, Option, find}
use Rattle.std.specs.List.{list_all, AllByRecursion, before_first, after_first}
use Rattle.ftc_vector.specs.Commits.{vector_of}
use Rattle.ftc_vector.specs.Order.{covers, IsCovered}
use Rattle.ftc_message.specs.declared.need.Need.{Need}
use Rattle.ftc_edge.specs.declared.buffer.Withheld.{Withheld}
use Rattle.ftc_edge.specs.declared.buffer.Freed.{Freed}

-- the packets in the order of withholding, and how many more there is room for
pub record WithheldPackets : Type 0 where
  pub items : List Withheld
  pub spare : ℕ

-- what is known of the need's group covers it
abbrev pub is_known : List (List ℕ) → Need → Bool
is_known commits need = covers (vector_of commits need.group) need.marks

-- all needs of the packet are known
abbrev pub is_due : List (List ℕ) → Withheld → Bool
is_due commits withheld = list_all (is_known commits) withheld.needs

-- the first packet that is due
abbrev pub first_due : List (List ℕ) → List Withheld → Option Withheld
first_due commits items = find (is_due commits) items

-- those before it and those after it; all where none is due
abbrev pub without_due : List (List ℕ) → List Withheld → List Withheld
without_due commits items = before_first (is_due commits) items ++ after_first (is_due commits) items

-- a packet that leaves: its needs are no longer kept
abbrev pub freed : Withheld → Freed
freed withheld = record { packet = withheld.packet; bytes = withheld.bytes }

-- The same as relations.

-- each need is covered by what is known of its group
abbrev pub AreCovered : List (List ℕ) → List Need → Type 0
AreCovered commits needs = AllByRecursion (λ need. IsCovered (vector_of commits need.group) need.marks) needs

-- the packet was among the items and is due, no packet before it is, and the others are left in their order
pub record IsFirstOf (commits : List (List ℕ)) (items left : List Withheld) (withheld : Withheld) : Type 0 where
  pub before : List Withheld
  pub after : List Withheld
  pub among : items ≡ before ++ withheld ∷ after
  pub others : left ≡ before ++ after
  pub due : is_due commits withheld ≡ true
  pub none_before : AllByRecursion (λ other. is_due commits other ≡ false) before

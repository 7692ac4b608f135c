-- What a tap shows, and how it changes.
use Rattle.std.specs.Prelude.{◌≡◌, ◌≢◌, ◌+◌, ℕ, Bool, true, false, List, ◌++◌, length, Option, Some, None, min, decimal}
use Rattle.std.specs.Prelude.{codes}
use Rattle.std.specs.List.{AllByRecursion}
use Rattle.ftc_base.specs.declared.released.Released.{Released}

-- what can be seen of a tap: the records that it was told, where it keeps them; its line; the records at
-- which it leaves; and whether it is constant
pub record Face : Type 0 where
  pub told : Option (List Released)
  pub line : List ℕ
  pub leaves : Released → Bool
  pub constant : Bool

-- a text without a line feed
abbrev pub HasNoFeed : List ℕ → Type 0
HasNoFeed = AllByRecursion (λ byte. byte ≢ 10)

-- these records were told: they stand behind those that were kept, and a constant tap stays constant
pub record WasTold (records : List Released) (old new : Face) : Type 0 where
  pub kept : (before : List Released) → old.told ≡ Some before → new.told ≡ Some (before ++ records)
  pub constant : old.constant ≡ true → new.constant ≡ true

-- packets and their bytes, which are counted
pub record Counts : Type 0 where
  pub packets : ℕ
  pub bytes : ℕ

-- the sum, which stands still at its type's end
abbrev pub counted_by : ℕ → ℕ → ℕ
counted_by count more = min (count + more) 18446744073709551615

-- a counting tap keeps no records
abbrev pub count_face : Counts → Face
count_face counts = record {
  told = None;
  line = codes "packets " ++ decimal counts.packets ++ codes " bytes " ++ decimal counts.bytes;
  leaves = λ _. false;
  constant = true;
}

abbrev pub list_face : List Released → Face
list_face told = record {
  told = Some told;
  line = codes "list " ++ decimal (length told);
  leaves = λ _. false;
  constant = true;
}

-- What went through a ring.
use Rattle.std.specs.Prelude.{ℕ, List, length, drop}
use Rattle.ftc_base.specs.declared.released.Released.{Released}

-- what an end of a ring shows: how many items it is for, and those that were sent or put
pub record Flow : Type 0 where
  pub room : ℕ
  pub items : List Released

-- the items that came between the two
abbrev pub since : Flow → Flow → List Released
since old new = drop (length old.items) new.items

-- How the files of a desk change.
use Rattle.std.specs.Prelude.{◌≡◌, ◌≢◌, ◌⊎◌, ◌<◌, ◌≤◌, ℕ, List, [], ◌++◌, take, Option, Some, unwrap_or, ◌+◌, min}

-- The bytes of each file.
abbrev pub Files : Type 0
Files = List ℕ → Option (List ℕ)

-- no file has changed
abbrev pub SameFiles : Files → Files → Type 0
SameFiles old new = (name : List ℕ) → new name ≡ old name

-- no file but the one of that name has changed
abbrev pub SameButAt : List ℕ → Files → Files → Type 0
SameButAt at old new = (name : List ℕ) → name ≢ at → new name ≡ old name

-- the file of that name is empty
abbrev pub EmptiedAt : List ℕ → Files → Type 0
EmptiedAt at new = new at ≡ Some []

-- the file of that name is as it was, or empty
abbrev pub MayHaveEmptiedAt : List ℕ → Files → Files → Type 0
MayHaveEmptiedAt at old new = (new at ≡ old at) ⊎ (new at ≡ Some [])

-- the file of that name has these bytes more at its end; a file that isn't there is begun
abbrev pub GrewAt : List ℕ → List ℕ → Files → Files → Type 0
GrewAt at bytes old new = new at ≡ Some (unwrap_or (old at) [] ++ bytes)

-- the file of that name has some first part of these bytes more at its end, or is as it was
abbrev pub MayHaveGrownAt : List ℕ → List ℕ → Files → Files → Type 0
MayHaveGrownAt at bytes old new = (new at ≡ old at) ⊎ ((count : ℕ) × GrewAt at (take count bytes) old new)

-- the count after one more, which stands still at its type's end
abbrev pub counted : ℕ → ℕ
counted count = min (count + 1) 18446744073709551615

-- the count rose, or stands at its type's end
abbrev pub Rose : ℕ → ℕ → Type 0
Rose before now = (before < now) ⊎ (18446744073709551615 ≤ now)

-- What a call leaves of a desk: it tells its files and is sound as before, and the count of its faults doesn't fall,
-- rose where the call failed, and is as it was where it didn't.
pub record HasServed {D : Type 0} (tells sound : D → Type 0) (faults : D →
    ℕ) (failed : Type 0) (old new : D) : Type 0 where
  pub tells_on : tells old → tells new
  pub sound_on : sound old → sound new
  pub count : faults old ≤ faults new
  pub rose : failed → Rose (faults old) (faults new)
  pub still : (failed → ⊥) → faults new ≡ faults old

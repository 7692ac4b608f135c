-- The contents of stores that stand in a list.
use Rattle.std.specs.Prelude.{ℕ, List, slice_get}
use Rattle.std.specs.Option.{option_map_or}
use Rattle.std.specs.FinMap.{empty}
use Rattle.ftc_store.specs.Store.{Content, Stored}

-- the content of a middlebox's store
abbrev pub content_at : List Stored → ℕ → Content
content_at stores server = option_map_or (λ stored. stored.content) (slice_get stores server) empty

-- What a replica of a group has.
use Rattle.std.specs.Prelude.{ℕ, ◌∷◌, [], ◌++◌, List}
use Rattle.std.specs.FinMap.{code}
use Rattle.std.specs.Coded.{Coded, coded_ℕ, coded_list}
use Rattle.ftc_store.specs.Store.{Content, written}
use Rattle.ftc_vector.specs.Vector.{raised}
use Rattle.ftc_message.specs.Logged.{Logged}
use Rattle.ftc_replica.specs.Kept.{missing}

abbrev pub content_code : Coded Content
content_code = code (coded_list coded_ℕ) (coded_list coded_ℕ)

-- the store's content and in how many partitions its keys lie, the vector, and the kept logs in the order of keeping
pub record Held : Type 0 where
  pub content : Content
  pub partitions : ℕ
  pub vector : List ℕ
  pub kept : List Logged

-- with the log's writes made, the numbers of its changed partitions raised, and the log kept behind the others
abbrev pub applied : Logged → Held → Held
applied log held = record held {
  content = written log.writes held.content;
  vector = raised held.vector log.changed;
  kept = held.kept ++ log ∷ [];
}

-- without the kept logs that a vector covers
abbrev pub pruned_by : List ℕ → Held → Held
pruned_by vector held = record held { kept = missing vector held.kept }

-- A replica that is taken from another server.
use Rattle.std.specs.Prelude.{ℕ, List}
use Rattle.ftc_store.specs.Store.{Stored}
use Rattle.ftc_replica.specs.Kept.{KeptLogs}
use Rattle.ftc_replica.specs.Held.{Held}

-- the replica with the store's content and partitions, the vector, and the kept logs
abbrev pub replica_of : Stored → List ℕ → KeptLogs → Held
replica_of store vector kept =
    record { content = store.content; partitions = store.partitions; vector = vector; kept = kept.items }

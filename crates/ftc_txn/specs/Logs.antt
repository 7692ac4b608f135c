-- What a commit logs.
use Rattle.std.specs.Prelude.{◌≡◌, ℕ, List}
use Rattle.ftc_base.specs.Sets.{has}
use Rattle.ftc_base.specs.declared.ask.Answer.{Answer}
use Rattle.ftc_base.specs.declared.ask.Write.{Write}
use Rattle.ftc_message.specs.Logged.{Logged}
use Rattle.ftc_txn.specs.Touched.{is_changed, numbers_before}

-- its group and packet, the numbers before of the touched partitions, the changed partitions, and its writes
pub record IsLogOf (of_group partitions : ℕ) (vector : List ℕ) (packet : ℕ) (answers : List Answer) (made : List Write)
    (log : Logged) : Type 0 where
  pub group : log.group ≡ of_group
  pub origin : log.origin ≡ packet
  pub before : log.before ≡ numbers_before partitions answers vector
  pub changed : (partition : ℕ) → has log.changed partition ≡ is_changed partitions made partition
  pub writes : log.writes ≡ made

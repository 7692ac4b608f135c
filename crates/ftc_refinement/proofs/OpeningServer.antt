-- A server to which nothing has happened.
use Rattle.std.proofs.Common.{◌≡◌, ◌==◌, ◌&&◌, ℕ, Bool, true, false, not, Some, None, refl, cond, inl, inr}
use Rattle.std.proofs.lemmas.Bool.{eqb-true, eq-eqb}
use Rattle.ftc_protocol.specs.Setting.{Setting, shape, is_member}
use Rattle.ftc_server.specs.Steps.{empty_held, empty_at}
use Rattle.ftc_standing.specs.Stand.{IsEmptySlot, IsEmptyReplica}

pub empty_is : (setting : Setting) → IsEmptyReplica setting (empty_held setting.partitions)
empty_is setting = record { keys = refl; content = refl; vector = refl; kept = refl }

slot_by : (setting : Setting) (server group : ℕ) (same member : Bool) → (group == server) ≡ same →
    is_member setting group server ≡ member →
    IsEmptySlot setting server group (cond (not same && member) (Some (empty_held setting.partitions)) None)
slot_by setting server group true member is belongs = inr (eqb-true group server is)
slot_by setting server group false true isnt belongs =
    (belongs, (λ same. let is = eq-eqb group server same in absurd cc), empty_is setting)
slot_by setting server group false false isnt belongs = inl belongs

pub empty_slot : (setting : Setting) (server group : ℕ) →
    IsEmptySlot setting server group (empty_at (shape setting) server setting.partitions group)
empty_slot setting server group =
    slot_by setting server group (group == server) (is_member setting group server) refl refl

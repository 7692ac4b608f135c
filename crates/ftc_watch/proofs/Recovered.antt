-- What a recovery leaves: a live server stays as it is, and a down server is up and has missed none.
use Rattle.std.proofs.Common.{◌≡◌, ℕ, true, false, [], ◌∷◌, ◌++◌, refl}
use Rattle.std.specs.Prelude.{if◌then◌else◌}
use Rattle.ftc_script.specs.Steps.{with_at}
use Rattle.ftc_script.specs.declared.statement.Statement.TheVariants.{Recover}
use Rattle.ftc_watch.specs.Watch.{Watching, recover_at}

-- behind the recovery of a down server
abbrev pub recovered : ℕ → Watching → ℕ → Watching
recovered at w server =
    record {
      live = with_at w.live server true;
      missed = with_at w.missed server 0;
      script = w.script ++ Recover at server ∷ [];
      held = w.held;
    }

-- what holds where the server was live, and where it was down, holds behind a recovery
pub either_recovers : (P : Watching → Type 0) (at : ℕ) (w : Watching) (server : ℕ)
    → (w.live server ≡ true → P w) → (w.live server ≡ false → P (recovered at w server)) → P (recover_at at w server)
either_recovers P at w server up down =
    elim (w.live server) as (λ t. w.live server ≡ t → P (if t then w else recovered at w server)) [
      | true ↦ up
      | false ↦ down
    ] refl

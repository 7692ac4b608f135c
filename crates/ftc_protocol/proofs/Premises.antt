-- What is supposed of a setting, in the form that the proofs use.
use Rattle.std.proofs.Common.{◌≡◌, ℕ, ◌+◌, ◌<◌, ◌≤◌, Bool, true, false, not, List, [], ◌∷◌}
use Rattle.ftc_serial.specs.Words.{with_at}
use Rattle.ftc_ring.specs.Ring.{apart}
use Rattle.ftc_script.specs.declared.line.ScriptLine.{ScriptLine}
use Rattle.ftc_script.specs.declared.line.ScriptLine.TheVariants.{Crash, Recover}
use Rattle.ftc_protocol.specs.Setting.{Setting, servers}
use Rattle.ftc_protocol.specs.State.{ChainState}
use Rattle.ftc_protocol.proofs.Places.{IsSoundTaking}

abbrev pub server_of : ScriptLine → ℕ
server_of (Crash at server) = server
server_of (Recover at server) = server

abbrev pub is_crash : ScriptLine → Bool
is_crash (Crash at server) = true
is_crash (Recover at server) = false

-- each group has a live member
abbrev pub IsAdmissible : Setting → (ℕ → Bool) → Type 0
IsAdmissible c up = (j : ℕ) → j < servers c → (z : ℕ) × (z < servers c) × (up z ≡ true)
    × (apart (servers c) j z ≤ c.failures)

-- the lines to come leave each group a live member, and replace servers that are down
abbrev pub AreFit : Setting → (ℕ → Bool) → List ScriptLine → Type 0
AreFit c up [] = IsAdmissible c up
AreFit c up (line ∷ lines) =
    IsAdmissible c up × (server_of line < servers c) × (is_crash line ≡ false → up (server_of line) ≡ false)
    × AreFit c (with_at up (server_of line) (not (is_crash line))) lines

pub record IsGood (c : Setting) : Type 0 where
  pub some : 0 < servers c
  pub small : c.failures < servers c
  pub sound : IsSoundTaking c

-- events are counted
abbrev pub ticked : ChainState → ChainState
ticked s = record s { events = s.events + 1 }

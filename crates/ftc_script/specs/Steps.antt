-- Crashes and recoveries in order, and which servers are live after them.
use Rattle.std.specs.Prelude.{ℕ, ◌≤◌, ◌<◌, Bool, true, false, List, [], ◌∷◌}
pub use Rattle.ftc_base.specs.Reading.{with_at}
use Rattle.ftc_ring.specs.Ring.{RingShape}
use Rattle.ftc_ring.specs.Live.{IsLive, IsDown, IsAdmissible}
use Rattle.ftc_script.specs.declared.line.ScriptLine.{ScriptLine}
use Rattle.ftc_script.specs.declared.line.ScriptLine.TheVariants.{Crash, Recover}

-- how many packets have entered when the step is made
abbrev pub at_of : ScriptLine → ℕ
at_of (Crash at server) = at
at_of (Recover at server) = at

-- all servers are live
abbrev pub all_live : ℕ → Bool
all_live server = true

-- which servers are live after a step, which tells of one of them, and after some steps
abbrev pub live_after : (ℕ → Bool) → ScriptLine → ℕ → Bool
live_after live (Crash at server) = with_at live server false
live_after live (Recover at server) = with_at live server true

abbrev pub live_after_all : (ℕ → Bool) → List ScriptLine → ℕ → Bool
live_after_all live [] = live
live_after_all live (step ∷ steps) = live_after_all (live_after live step) steps

-- the number of the last step, or the one given where there is none
abbrev pub last_of : ℕ → List ScriptLine → ℕ
last_of last [] = last
last_of last (step ∷ steps) = last_of (at_of step) steps

-- a step of a server of the ring, not before the last one, when no more packets have entered than there are
pub record IsInTurn (ring : RingShape) (packets last at server : ℕ) : Type 0 where
  pub within : server < ring.servers
  pub ordered : last ≤ at
  pub entered : at ≤ packets

-- a crash of a live server leaves each group a live member, and a recovery is of a server that is down
pub record IsCrash (ring : RingShape) (live : ℕ → Bool) (server : ℕ) : Type 0 where
  pub up : IsLive live server
  pub admissible : IsAdmissible ring (with_at live server false)

abbrev pub IsStep : RingShape → ℕ → ℕ → (ℕ → Bool) → ScriptLine → Type 0
IsStep ring packets last live (Crash at server) = IsInTurn ring packets last at server × IsCrash ring live server
IsStep ring packets last live (Recover at server) = IsInTurn ring packets last at server × IsDown live server

-- each step may be made where the ones before it have been made
abbrev pub AreSteps : RingShape → ℕ → ℕ → (ℕ → Bool) → List ScriptLine → Type 0
AreSteps ring packets last live [] = Unit {0}
AreSteps ring packets last live (step ∷ steps) =
    IsStep ring packets last live step × AreSteps ring packets (at_of step) (live_after live step) steps

-- The serial chain: one visit at a time, and nothing is replicated.
use Rattle.std.specs.Prelude.{ℕ, ◌+◌, ◌==◌, List, [], ◌∷◌, ◌++◌, length, slice_get, Option, Some, None, option_map}
use Rattle.std.specs.Prelude.{option_and_then, if◌then◌else◌}
use Rattle.std.specs.FinMap.{empty}
use Rattle.ftc_base.specs.declared.released.Released.{Released}
use Rattle.ftc_mbox.specs.declared.rule.Rule.{Rule}
use Rattle.ftc_store.specs.Store.{Content, written}
use Rattle.ftc_serial.specs.declared.position.Position.{Position}
use Rattle.ftc_serial.specs.declared.position.Position.TheVariants as position
use Rattle.ftc_serial.specs.declared.step.Step.{Step}
use Rattle.ftc_serial.specs.declared.step.Step.TheVariants.{Visit, Release}
use Rattle.ftc_serial.specs.Words.{with_at}
use Rattle.ftc_serial.specs.Take.{Outcome, taken}

-- The state: what each middlebox has, where each packet is (none where there is no such packet), and the released
-- records in the order of their release.
pub record State : Type 0 where
  pub maps : ℕ → Content
  pub place : ℕ → Option Position
  pub released : List Released

-- At the start all is empty, and each packet waits for middlebox 0 with its own bytes.
abbrev pub serial_opening : List (List ℕ) → State
serial_opening packets = record {
  maps = λ middlebox. empty;
  place = λ packet. option_map (position.Waiting 0) (slice_get packets packet);
  released = [];
}

-- A step, with what it does.
pub data Entry : Type 0 where
  Visited : (server : ℕ) → (packet : ℕ) → (outcome : Outcome) → Entry
  Given : (packet : ℕ) → (bytes : List ℕ) → Entry

-- A visit is legal where the packet waits for that middlebox.
abbrev pub visit_at : List Rule → State → ℕ → ℕ → Option Position → Option Entry
visit_at rules state server packet (Some (position.Waiting waited bytes)) =
    if waited == server
    then option_map (λ rule. Visited server packet (taken rule bytes (state.maps server))) (slice_get rules server)
    else None
visit_at rules state server packet (Some (position.Passed bytes)) = None
visit_at rules state server packet (Some (position.Filtered middlebox)) = None
visit_at rules state server packet (Some position.Released) = None
visit_at rules state server packet None = None

-- A release is legal where the packet has passed all middleboxes.
abbrev pub release_at : ℕ → Option Position → Option Entry
release_at packet (Some (position.Waiting waited bytes)) = None
release_at packet (Some (position.Passed bytes)) = Some (Given packet bytes)
release_at packet (Some (position.Filtered middlebox)) = None
release_at packet (Some position.Released) = None
release_at packet None = None

-- What a step does, none where it isn't legal.
abbrev pub entry_of : List Rule → State → Step → Option Entry
entry_of rules state (Visit server packet) = visit_at rules state server packet (state.place packet)
entry_of rules state (Release packet) = release_at packet (state.place packet)

-- Where a packet is after its visit at a middlebox: it waits for the next with the new bytes, has passed all, or is
-- dropped.
abbrev pub position_after : ℕ → ℕ → Option (List ℕ) → Position
position_after servers server (Some bytes) =
    if server + 1 == servers then position.Passed bytes else position.Waiting (server + 1) bytes
position_after servers server None = position.Filtered server

-- The state after what a step does, on a chain of so many servers.
abbrev pub after : ℕ → State → Entry → State
after servers state (Visited server packet outcome) = record {
  maps = with_at state.maps server (written outcome.writes (state.maps server));
  place = with_at state.place packet (Some (position_after servers server outcome.packet));
  released = state.released;
}
after servers state (Given packet bytes) = record {
  maps = state.maps;
  place = with_at state.place packet (Some position.Released);
  released = state.released ++ record { packet = packet; bytes = bytes } ∷ [];
}

-- One step: the state after it, none where it isn't legal.
abbrev pub serial_step : List Rule → State → Step → Option State
serial_step rules state step = option_map (after (length rules) state) (entry_of rules state step)

-- The serial run: the state after the steps, one after another, none where one of them isn't legal.
abbrev pub serial_run : List Rule → State → List Step → Option State
serial_run rules state [] = Some state
serial_run rules state (step ∷ steps) =
    option_and_then (λ next. serial_run rules next steps) (serial_step rules state step)

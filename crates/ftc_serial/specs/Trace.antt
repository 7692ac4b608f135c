-- The visits and releases of a journal, without those that a recovery undid.
use Rattle.std.specs.Prelude.{ℕ, Bool, ◌==◌, ◌&&◌, List, [], ◌∷◌, if◌then◌else◌}
use Rattle.std.specs.List.{flat_map, list_any}
use Rattle.ftc_journal.specs.declared.event.Event.{Event}
use Rattle.ftc_journal.specs.declared.event.Event.TheVariants as event
use Rattle.ftc_journal.specs.declared.event.VisitName.{VisitName}
use Rattle.ftc_serial.specs.declared.step.Step.{Step}
use Rattle.ftc_serial.specs.declared.step.Step.TheVariants.{Visit, Release}

-- the visits that an event undoes
abbrev pub undone_by : Event → List VisitName
undone_by (event.Recover server undone) = undone
undone_by other = []

abbrev pub names : List VisitName → ℕ → ℕ → Bool
names undone server packet = list_any (λ name. name.server == server && name.packet == packet) undone

-- the steps that an event is, where these visits are undone
abbrev pub steps_of : List VisitName → Event → List Step
steps_of undone (event.Visit server packet worker) = if names undone server packet then [] else Visit server packet ∷ []
steps_of undone (event.Release packet) = Release packet ∷ []
steps_of undone other = []

-- The trace: the journal's visits and releases in order, without the visits that a recovery of the journal lists.
abbrev pub trace_of : List Event → List Step
trace_of events = flat_map (steps_of (flat_map undone_by events)) events

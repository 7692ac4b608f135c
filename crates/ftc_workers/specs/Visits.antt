-- The visits of a journal.
use Rattle.std.specs.Prelude.{ℕ, ◌+◌, List, [], ◌∷◌}
use Rattle.ftc_journal.specs.declared.event.Event.{Event}
use Rattle.ftc_journal.specs.declared.event.Event.TheVariants as event

-- an event is one visit, or none
abbrev pub visits_of : Event → ℕ
visits_of (event.Visit server packet worker) = 1
visits_of other = 0

-- how many visits a journal has
abbrev pub visits : List Event → ℕ
visits [] = 0
visits (event ∷ events) = visits_of event + visits events

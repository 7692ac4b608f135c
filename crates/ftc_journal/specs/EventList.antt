-- Events in order, and for how many more there is room.
use Rattle.std.specs.Prelude.{ℕ, List}
use Rattle.ftc_journal.specs.declared.event.Event.{Event}

pub record EventList : Type 0 where
  pub items : List Event
  pub spare : ℕ

-- How many messages are begun without a packet.
use Rattle.std.specs.Prelude.{ℕ, ◌+◌, ◌≤◌, Bool, true, false, List, length, filter}
use Rattle.ftc_journal.specs.declared.event.Event.{Event}
use Rattle.ftc_journal.specs.declared.event.Event.TheVariants as event
use Rattle.ftc_protocol.specs.Setting.{Setting, count}

abbrev pub is_propagate : Event → Bool
is_propagate (event.Propagate origin) = true
is_propagate other = false

-- how many of the events
abbrev pub propagates_in : List Event → ℕ
propagates_in journal = length (filter is_propagate journal)

-- at most one for each packet, one for each `at` line, and one more
abbrev pub AreFew : Setting → List Event → Type 0
AreFew setting journal = propagates_in journal ≤ count setting + length setting.lines + 1

-- What the middleboxes have after the serial run of a journal's trace.
use Rattle.std.specs.Prelude.{ℕ, List, [], length, map}
use Rattle.std.specs.Option.{option_map_or}
use Rattle.std.specs.List.{range_with_len}
use Rattle.ftc_journal.specs.declared.event.Event.{Event}
use Rattle.ftc_mbox.specs.declared.rule.Rule.{Rule}
use Rattle.ftc_store.specs.Store.{Content}
use Rattle.ftc_serial.specs.Serial.{State, serial_opening, serial_run}
use Rattle.ftc_serial.specs.Trace.{trace_of}

-- the contents of so many middleboxes, in their order
abbrev pub contents : ℕ → State → List Content
contents servers state = map state.maps (range_with_len 0 servers)

-- those after the serial run of a journal's trace, none where it has no such run
abbrev pub contents_after : List Rule → List (List ℕ) → List Event → List Content
contents_after rules packets journal =
    option_map_or (contents (length rules)) (serial_run rules (serial_opening packets) (trace_of journal)) []

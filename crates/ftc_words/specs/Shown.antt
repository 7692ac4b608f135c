-- What the program's own types say of words.
use Rattle.std.specs.Prelude.{List, ℕ, option_map, map}
use Rattle.ftc_words.specs.Given.{Awaited, Given}
use Rattle.ftc_words.specs.Given as given
use Rattle.ftc_words.specs.Command.{Named, Mode, Command}
use Rattle.ftc_words.specs.Command as command
use Rattle.ftc_words.specs.declared.command.Names.{Names}
use Rattle.ftc_words.specs.declared.command.Move.{Move}
use Rattle.ftc_words.specs.declared.command.Mode.{Mode as ReadMode}
use Rattle.ftc_words.specs.declared.command.Mode.TheVariants as mode
use Rattle.ftc_words.specs.declared.command.Command.{Command as ReadCommand}
use Rattle.ftc_words.specs.declared.command.Command.TheVariants as read
use Rattle.ftc_words.specs.declared.sorting.Awaited.{Awaited as ReadAwaited}
use Rattle.ftc_words.specs.declared.sorting.Awaited.TheVariants as awaited
use Rattle.ftc_words.specs.declared.sorting.Sorted.{Sorted}

abbrev pub named_of : Names → Named
named_of names = record {
  chain = names.chain.now;
  script = names.script.now;
  capture = names.capture.now;
  out = names.out.now;
  journal = names.journal.now;
  report = names.report.now;
}

abbrev pub shown_move : Move → ℕ × List ℕ
shown_move moved = (moved.server, moved.file.now)

abbrev pub shown_mode : ReadMode → Mode
shown_mode mode.Plain = command.plain
shown_mode (mode.Workers count) = command.workers count
shown_mode (mode.Alone schedule moved) = command.alone schedule.now (option_map shown_move moved)

abbrev pub shown : ReadCommand → Command
shown (read.Run names mode) = command.run (named_of names) (shown_mode mode)
shown (read.Make packets seed capture) = command.make packets seed capture.now
shown (read.Check names) = command.check (named_of names)
shown (read.Ports chain capture journal server) = command.ports chain.now capture.now journal.now server
shown (read.Watch limit chain capture beats script) = command.watch limit chain.now capture.now beats.now script.now

abbrev pub awaited_of : ReadAwaited → Awaited
awaited_of awaited.Any = given.any
awaited_of awaited.Workers = given.workers
awaited_of awaited.Schedule = given.schedule
awaited_of awaited.Server = given.server
awaited_of (awaited.File server) = given.file server.now

abbrev pub sorted_of : Sorted → Given
sorted_of sorted = record {
  awaited = awaited_of sorted.awaited;
  workers = option_map (λ word. word.now) sorted.workers;
  schedule = option_map (λ word. word.now) sorted.schedule;
  moved = option_map (λ pair. (pair.0.now, pair.1.now)) sorted.moved;
  plain = map (λ word. word.now) sorted.plain.items;
}

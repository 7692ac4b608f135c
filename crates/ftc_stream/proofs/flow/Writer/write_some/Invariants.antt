use Rattle.std.proofs.Common.{◌≡◌, ◌≤◌, ◌-◌, ◌++◌, map, length, drop, vec_len, vec_capacity}
use Rattle.ftc_outside.specs.Desk.{SameButAt}
use Rattle.ftc_stream.specs.Records.{writable, records, HasGrownBy}
use Rattle.ftc_stream.specs.Taps.{AreLeft}
use Rattle.ftc_stream.proofs.flow.Writer.write_some.Given as goal

abbrev pub invariant-loop-self : goal.invariant-loop-self
invariant-loop-self g l =
    let more = drop (length l.fn.self.items) l.self-inside.put.items in
    let before = map (λ tap. (goal.Tap-dyn g (tap.vtable, tap.value)).face tap.value) l.fn.taps.list.items in
    let after = map (λ tap. (goal.Tap-dyn g (tap.vtable, tap.value)).face tap.value) l.taps.list.items in
    record {
      room : l.self-inside.room ≡ l.fn.self.room;
      within : vec_len l.self-inside.put ≤ l.self-inside.room;
      spare : l.self-inside.room ≤ vec_capacity l.self-inside.put;
      added : l.self-inside.put.items ≡ l.fn.self.items ++ more;
      counted : length more ≡ l.count;
      grown : g.D.Desk.tells l.fn.desk → HasGrownBy l.out (records l.capture more) (g.D.Desk.file l.fn.desk)
          (g.D.Desk.file l.desk);
      told : AreLeft (writable l.capture more) before after;
      others : g.D.Desk.tells l.fn.desk → SameButAt l.out (g.D.Desk.file l.fn.desk) (g.D.Desk.file l.desk);
      tells : g.D.Desk.tells l.fn.desk → g.D.Desk.tells l.desk;
      sound : g.D.Desk.sound l.fn.desk → g.D.Desk.sound l.desk;
      still : g.D.Desk.faults l.desk ≡ g.D.Desk.faults l.fn.desk;
    }

abbrev pub decreases-loop-self : goal.decreases-loop-self
decreases-loop-self g l = l.fn.self.room - vec_len l.self-inside.put

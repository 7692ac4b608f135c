use Rattle.ftc_protocol.specs.State.{opening}
use Rattle.ftc_protocol.proofs.ArrivalTimes.{IsDated, dated_on_all, opens_dated}
use Rattle.ftc_protocol.proofs.StatesOfRuns.{of_state, reached_of}
use Rattle.ftc_protocol.proofs.states.withheld_packets.Goals as goal

pub returns : goal.returns
returns c setting state run =
    let dated = of_state (λ setting state. IsDated state)
    (λ setting is journal legal. dated_on_all setting journal (opening setting)
    (opens_dated setting)) setting state run in
    let fated = (reached_of setting state run).fated in
    record {
      clock = dated.withheld.clock;
      past = fated.past;
      bare = λ packet withheld message there is. fated.bare packet message is
          (fated.past packet withheld message there is);
    }

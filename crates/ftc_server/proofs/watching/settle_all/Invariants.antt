-- the messages so far rest only where they are idle
use Rattle.std.proofs.Common.{◌≡◌, true, take}
use Rattle.std.specs.List.{list_all}
use Rattle.ftc_server.specs.Waiting.{is_settled}
use Rattle.ftc_server.proofs.watching.settle_all.Given as goal

abbrev pub invariant-loop-place : goal.invariant-loop-place
invariant-loop-place l = record {
  items : l.held.items ≡ l.fn.held.items;
  spare : l.held.spare ≡ l.fn.held.spare;
  had : l.held.had ≡ l.fn.held.had;
  settled : list_all (is_settled l.replicas l.held.resting) (take l.place l.held.items) ≡ true;
}

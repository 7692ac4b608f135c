-- The visit of the packet that a slot runs is legal.
use Rattle.std.proofs.Common.{◌≡◌, ◌||◌, ℕ, suc, Bool, true, false, List, [], ◌∷◌, Option, Some, None, refl}
use Rattle.std.proofs.Common.{subst, eqb-true}
use Rattle.std.specs.Prelude.{◌==◌}
use Rattle.std.specs.List.{list_any}
use Rattle.std.proofs.Math.Logic.{∥∥₁_map}
use Rattle.ftc_journal.specs.declared.event.Event.TheVariants as event
use Rattle.ftc_journal.specs.declared.job.Job.TheVariants.{Visit}
use Rattle.ftc_protocol.specs.Jobs.{IsLegalJob}
use Rattle.ftc_protocol.specs.Legal.{IsLegal}
use Rattle.ftc_protocol.specs.Setting.{Setting}
use Rattle.ftc_protocol.specs.State.{ChainState}
use Rattle.ftc_network.specs.Slots.{head_of, is_running_in}
use Rattle.ftc_network.specs.Stand.{IsSlot, IsUp}
use Rattle.ftc_server.specs.declared.server.Server.{Server}
use Rattle.ftc_server.specs.Slots.{runs_packet}
use Rattle.ftc_txn.specs.Slots.{Running, slot_at}

-- a slot that runs the packet
record IsRun (packet : ℕ) (slots : List (Option Running)) : Type 0 where
  worker : ℕ
  running : Running
  there : slot_at slots worker ≡ Some running
  same : running.packet ≡ packet

module _ (packet : ℕ) where
  later : (slot : Option Running) (slots : List (Option Running)) → IsRun packet slots → IsRun packet (slot ∷ slots)
  later slot slots is = record {
    worker = suc is.worker;
    running = is.running;
    there = is.there;
    same = is.same;
  }

  here_or_later : (running : Running) (slots : List (Option Running)) (here : Bool) →
      (running.packet == packet) ≡ here → (here || list_any (runs_packet packet) slots) ≡ true →
      (list_any (runs_packet packet) slots ≡ true → IsRun packet slots) → IsRun packet (Some running ∷ slots)
  here_or_later running slots true is any rest = record {
    worker = 0;
    running = running;
    there = refl;
    same = eqb-true running.packet packet is;
  }
  here_or_later running slots false is any rest = later (Some running) slots (rest any)

  run_in : (slots : List (Option Running)) → list_any (runs_packet packet) slots ≡ true → IsRun packet slots
  run_in [] any = absurd cc
  run_in (None ∷ slots) any = later None slots (run_in slots any)
  run_in (Some running ∷ slots) any =
      here_or_later running slots (running.packet == packet) refl any (run_in slots)

module _ (setting : Setting) (state : ChainState) (server : ℕ)
    (may : (worker : ℕ) (live : Server) (running : Running) → IsUp setting state server live →
    slot_at live.head.slots worker ≡ Some running →
    ∥ IsLegal setting state (event.Visit server running.packet worker) ∥₁)
  where
    pub run_visit : (packet : ℕ) (slot : Option Server) → IsSlot setting state server slot →
        is_running_in (head_of slot) packet ≡ true → ∥ IsLegalJob setting state (Visit server packet) ∥₁
    run_visit packet None stands runs = absurd cc
    run_visit packet (Some live) stands runs =
        let run = run_in packet live.head.slots runs in
        ∥∥₁_map (may run.worker live run.running stands run.there)
        (subst (λ (p : ℕ). IsLegalJob setting state (Visit server p)) run.same)

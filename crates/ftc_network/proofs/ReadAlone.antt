-- What a slot reads where no other slot runs anything.
use Rattle.std.proofs.Common.{◌≡◌, ◌∙◌, ◌+◌, ◌++◌, ◌∷◌, ◌&&◌, ◌||◌, not, ℕ, Bool, true, false, List, [], length, Some}
use Rattle.std.proofs.Common.{inl, inr, refl, sym, ap, length-append}
use Rattle.std.specs.Prelude.{◌==◌}
use Rattle.std.proofs.lemmas.Bool.{false≢true, eq-eqb, cases_eq}
use Rattle.std.proofs.lemmas.Option.{same_Some}
use Rattle.ftc_base.specs.declared.ask.Answer.{Answer}
use Rattle.ftc_base.specs.declared.ask.Ask.TheVariants.{Read}
use Rattle.ftc_base.specs.Partition.{partition_of}
use Rattle.ftc_locks.specs.Locks.{Locks, conflicts, HoldsNothing}
use Rattle.ftc_locks.proofs.Holdings.{conflicts-nothing}
use Rattle.ftc_server.specs.declared.server.Server.{Server}
use Rattle.ftc_server.specs.Looks.{ask_in}
use Rattle.ftc_server.specs.Replicas.{may_rise}
use Rattle.ftc_server.specs.State.{ServerState}
use Rattle.ftc_server.specs.Steps.{Reads}
use Rattle.ftc_txn.specs.Head.{HeadState, IsHead}
use Rattle.ftc_txn.specs.Slots.{Running, slot_at, answered}
use Rattle.ftc_txn.specs.declared.answers.ReadAnswer.{ReadAnswer}
use Rattle.ftc_txn.specs.declared.answers.ReadAnswer.TheVariants.{Value, Blocked, Wounded, Idle, NotAsked}
use Rattle.ftc_txn.proofs.ReadSlots.{conflicts_self}
use Rattle.ftc_network.specs.Visiting.{StandsFor, IsUnderWay}

module _ (first old new : Server) (worker packet count : ℕ) (key : List ℕ) (change : Bool)
    (is : IsUnderWay first old worker packet count) (head : IsHead old.head)
    (asked : ask_in old worker ≡ Some (Read key change))
    (stays : (answer : ReadAnswer) → Reads old new worker key answer → StandsFor old new) where
  nobody : (partition : ℕ) (leave : Bool) (other : ℕ) → conflicts old.head.locks worker partition leave other ≡ false
  nobody partition leave other = elim (cases_eq other worker) [
    | inl same ↦ ap (conflicts old.head.locks worker partition leave) same ∙ conflicts_self old.head.locks worker
        partition leave
    | inr differs ↦ conflicts-nothing old.head.locks worker partition leave other
        (head.idle other (is.others other differs))
  ]

  runs_this : (running : Running) → slot_at old.head.slots worker ≡ Some running → running ≡ is.running
  runs_this running runs = same_Some running is.running (sym runs ∙ is.runs.slot)

  one_more : (answers : List Answer) (answer : Answer) → length (answers ++ answer ∷ []) ≡ length answers + 1
  one_more answers answer = length-append answers (answer ∷ [])

  pub read_alone : (answer : ReadAnswer) → Reads old new worker key answer →
      IsUnderWay first new worker packet (count + 1)
  read_alone (Value value) reads =
      let running : Running = reads.head.0 in
      let done = reads.head.2 in
      let this : running ≡ is.running = runs_this running reads.head.1.slot in
      let answer : Answer = record { key = key; value = value } in
      record {
        stands = λ setting state number at. stays (Value value) reads setting state number
            (is.stands setting state number at);
        withheld = ap (λ (s : ServerState). s.buffer.items) reads.rest ∙ is.withheld;
        rise = ap (λ (h : HeadState). may_rise h.vector) done.rest ∙ is.rise;
        running = answered running answer;
        runs = record { slot = done.answered; unwounded = reads.head.1.unwounded };
        packet_is = ap (λ (r : Running). r.packet) this ∙ is.packet_is;
        count_is = one_more running.answers answer
            ∙ ap (λ (n : ℕ). n + 1) (ap (λ (r : Running). length r.answers) this ∙ is.count_is);
        others = λ other differs.
            done.others other differs (nobody (partition_of old.head.partitions key) reads.change other)
            ∙ is.others other differs;
      }
  read_alone (Blocked holder) reads =
      let in_the_way = reads.head.2.in_the_way in
      absurd (false≢true (sym (nobody (partition_of old.head.partitions key) reads.change holder) ∙ in_the_way))
  read_alone (Wounded by) reads =
      let this = runs_this reads.head.0 reads.head.1.slot in
      let wounded = sym (ap (λ (r : Running). r.wounded) this ∙ is.runs.unwounded) ∙ reads.head.1.wounded in
      absurd cc
  read_alone Idle reads =
      let none = sym reads.head.0 ∙ is.runs.slot in
      absurd cc
  read_alone NotAsked reads = absurd (reads.unasked change asked)

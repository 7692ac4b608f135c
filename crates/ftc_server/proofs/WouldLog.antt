-- What a slot runs that isn't wounded, and the log that it leaves.
use Rattle.std.proofs.Common.{◌≡◌, ◌∙◌, ◌↔◌, ℕ, false, List, [], Option, Some, None, Result, Ok, Err, sym, ap, subst}
use Rattle.std.specs.Prelude.{IsNone, IfSome, OnOk, is_err}
use Rattle.ftc_base.specs.declared.ask.Write.{Write}
use Rattle.ftc_message.specs.Logged.{Logged}
use Rattle.ftc_txn.specs.Head.{HeadState, RunsUnwounded}
use Rattle.ftc_txn.specs.Logs.{IsLogOf}
use Rattle.ftc_txn.specs.Slots.{Running, slot_at, wounded_at, wounded_of}
use Rattle.ftc_txn.specs.Steps.{WouldLog, HasCommitted, Commits}
use Rattle.ftc_txn.specs.declared.answers.HeadCommit.TheVariants.{Done}
use Rattle.ftc_server.specs.Prepared.{IsLogLeft}

-- what a slot runs that nobody wounded
pub runs_unwounded : (head : HeadState) (worker : ℕ) (running : Running) → slot_at head.slots worker ≡ Some running →
    wounded_at head.slots worker ≡ None → RunsUnwounded head worker running
runs_unwounded head worker running runs unwounded =
    record { slot = runs; unwounded = sym (ap wounded_of runs) ∙ unwounded }

some_of : (slot : Option Running) (one other : Running) → slot ≡ Some one → slot ≡ Some other → one ≡ other
some_of slot one other this that = cc

-- the log that is left is the one that a commit would log
pub would_log : (head : HeadState) (worker : ℕ) (running : Running) (writes : List Write) (log : Option Logged) →
    RunsUnwounded head worker running → IsLogLeft head (slot_at head.slots worker) writes log →
    WouldLog head worker writes log
would_log head worker running writes log runs left =
    let leaves = subst (λ (slot : Option Running). IsLogLeft head slot writes log) runs.slot left in
    let same = some_of (slot_at head.slots worker) running in record {
      no_log = λ other is.
          subst (λ (r : Running). IsNone log ↔ (r.answers ≡ [])) (same other runs.slot is.slot) leaves.0;
      logged = λ other is.
          subst (λ (r : Running). IfSome log (IsLogOf head.group head.partitions head.vector r.packet r.answers writes))
          (same other runs.slot is.slot) leaves.1;
      idle = λ none. let both = sym none ∙ runs.slot in absurd cc;
      wounded = λ other by is.
          let wounded = ap (λ (r : Running). r.wounded) (same other runs.slot is.slot) ∙ is.wounded in
          let both = sym wounded ∙ runs.unwounded in
          absurd cc;
    }

-- what is so where a result is fine
pub where_ok : {A E : Type 0} (result : Result A E) (Fact : Type 0) → is_err result ≡ false → OnOk result Fact → Fact
where_ok (Ok value) Fact ok fact = fact
where_ok (Err fault) Fact ok fact = absurd cc

-- what a slot runs is committed with the log that is left
pub committed : {A E : Type 0} (old new : HeadState) (worker : ℕ) (running : Running) (writes : List Write)
    (log : Option Logged) (result : Result A E) → slot_at old.slots worker ≡ Some running →
    wounded_at old.slots worker ≡ None → IsLogLeft old (slot_at old.slots worker) writes log → is_err result ≡ false →
    OnOk result ((log : Option Logged) → WouldLog old worker writes log → Commits old new worker writes (Done log)) →
    RunsUnwounded old worker running × HasCommitted old new worker running writes log
committed old new worker running writes log result is unwounded left ok commits =
    let runs = runs_unwounded old worker running is unwounded in
    let would = would_log old worker running writes log runs left in
    let made = where_ok result ((log : Option Logged) → WouldLog old worker writes log →
    Commits old new worker writes (Done log)) ok commits log would in (
      runs,
      subst (λ (r : Running). HasCommitted old new worker r writes log)
          (some_of (slot_at old.slots worker) made.0 running made.1.slot is) made.2,
    )

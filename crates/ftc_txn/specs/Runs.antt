-- Whole lists of calls, and the serial execution that they amount to.
use Rattle.std.specs.Prelude.{◌≡◌, ◌<◌, ◌↔◌, ◌++◌, ◌==◌, ℕ, Bool, List, [], ◌∷◌, length, Option, Some, None, IsNone}
use Rattle.std.specs.Prelude.{IfSome, IsSomeAnd, if◌then◌else◌}
use Rattle.std.specs.List.{AllByRecursion}
use Rattle.std.specs.FinMap.{get}
use Rattle.ftc_base.specs.declared.ask.Answer.{Answer}
use Rattle.ftc_base.specs.declared.ask.Write.{Write}
use Rattle.ftc_store.specs.Store.{Content, written}
use Rattle.ftc_message.specs.Logged.{Logged}
use Rattle.ftc_txn.specs.Slots.{Running, slot_at}
use Rattle.ftc_txn.specs.Touched.{vector_after}
use Rattle.ftc_txn.specs.Logs.{IsLogOf}
use Rattle.ftc_txn.specs.Head.{HeadState}
use Rattle.ftc_txn.specs.Steps.{begins, HeadReads, Commits, HasHeadQuit}
use Rattle.ftc_txn.specs.declared.answers.ReadAnswer.{ReadAnswer}
use Rattle.ftc_txn.specs.declared.answers.ReadAnswer.TheVariants.{Value, Wounded as WoundedRead}
use Rattle.ftc_txn.specs.declared.answers.HeadCommit.{HeadCommit}
use Rattle.ftc_txn.specs.declared.answers.HeadCommit.TheVariants.{Done, Wounded as WoundedCommit}

-- a call by a worker's slot, and what it was answered
pub data Call : Type 0 where
  Begin : (worker packet : ℕ) → Call
  Read : (worker : ℕ) (key : List ℕ) (change : Bool) (answer : ReadAnswer) → Call
  Commit : (worker : ℕ) (writes : List Write) (answer : HeadCommit) → Call
  Quit : (worker : ℕ) → Call

-- whose slot calls
abbrev pub caller : Call → ℕ
caller (Begin worker packet) = worker
caller (Read worker key change answer) = worker
caller (Commit worker writes answer) = worker
caller (Quit worker) = worker

-- from old, the call may be answered so and leave new
abbrev pub Step : HeadState → Call → HeadState → Type 0
Step old (Begin worker packet) new = (worker < length old.slots) × (slot_at old.slots worker ≡ None)
    × (new ≡ begins old worker packet)
Step old (Read worker key change answer) new = HeadReads old new worker key change answer
Step old (Commit worker writes answer) new = Commits old new worker writes answer
Step old (Quit worker) new = HasHeadQuit old new worker

-- one call after another
abbrev pub Run : HeadState → List Call → HeadState → Type 0
Run old [] new = new ≡ old
Run old (call ∷ calls) new = (mid : HeadState) × Step old call mid × Run mid calls new

-- the packet of a slot's transaction, and what its reads were answered since it began or was last answered Wounded
pub record Visit : Type 0 where
  pub packet : ℕ
  pub answers : List Answer

-- each slot's visit, where it has one, after one slot's is another
abbrev pub with_visit : (ℕ → Option Visit) → ℕ → Option Visit → ℕ → Option Visit
with_visit visits worker visit other = if other == worker then visit else visits other

-- a visit has read once more
abbrev pub read_on : List ℕ → Option (List ℕ) → Option Visit → Option Visit
read_on key value None = None
read_on key value (Some visit) =
    Some (record visit { answers = visit.answers ++ (record { key = key; value = value }) ∷ [] })

-- a visit begins again
abbrev pub read_anew : Option Visit → Option Visit
read_anew None = None
read_anew (Some visit) = Some (record visit { answers = [] })

-- a visit commits at once: all that it read is what the content has now, and the log, if it read anything, is of that
-- visit, these writes and this vector
pub record CommitsNow (group partitions : ℕ) (content : Content) (vector : List ℕ) (visit : Visit) (writes : List Write)
    (log : Option Logged) : Type 0 where
  pub current : AllByRecursion (λ answer. get content answer.key ≡ answer.value) visit.answers
  pub no_log : IsNone log ↔ (visit.answers ≡ [])
  pub logged : IfSome log (IsLogOf group partitions vector visit.packet visit.answers writes)

-- without slots, locks and ages: visits read what they please, and each commit acts at once on the content and the
-- vector, which nothing else changes
abbrev pub IsSerial : ℕ → ℕ → Content → List ℕ → (ℕ → Option Visit) → List Call → Content → List ℕ → Type 0
IsSerial group partitions content vector visits [] last_content last_vector =
    (last_content ≡ content) × (last_vector ≡ vector)
IsSerial group partitions content vector visits (Begin worker packet ∷ calls) last_content last_vector =
    IsSerial group partitions content vector
    (with_visit visits worker (Some (record { packet = packet; answers = [] }))) calls last_content last_vector
IsSerial group partitions content vector visits (Read worker key change (Value value)
    ∷ calls) last_content last_vector =
    IsSerial group partitions content vector
    (with_visit visits worker (read_on key value (visits worker))) calls last_content last_vector
IsSerial group partitions content vector visits (Read worker key change (WoundedRead by)
    ∷ calls) last_content last_vector =
    IsSerial group partitions content vector
    (with_visit visits worker (read_anew (visits worker))) calls last_content last_vector
IsSerial group partitions content vector visits (Read worker key change answer ∷ calls) last_content last_vector =
    IsSerial group partitions content vector visits calls last_content last_vector
IsSerial group partitions content vector visits (Commit worker writes (Done log) ∷ calls) last_content last_vector =
    IsSomeAnd (visits worker) (λ visit. CommitsNow group partitions content vector visit writes log)
    × IsSerial group partitions (written writes content) (vector_after partitions writes vector)
    (with_visit visits worker None) calls last_content last_vector
IsSerial group partitions content vector visits (Commit worker writes (WoundedCommit by)
    ∷ calls) last_content last_vector =
    IsSerial group partitions content vector
    (with_visit visits worker (read_anew (visits worker))) calls last_content last_vector
IsSerial group partitions content vector visits (Commit worker writes answer ∷ calls) last_content last_vector =
    IsSerial group partitions content vector visits calls last_content last_vector
IsSerial group partitions content vector visits (Quit worker ∷ calls) last_content last_vector =
    IsSerial group partitions content vector (with_visit visits worker None) calls last_content last_vector

-- the visit of what a slot runs
abbrev pub visit_of : Option Running → Option Visit
visit_of None = None
visit_of (Some running) = Some (record { packet = running.packet; answers = running.answers })

-- the visit of each slot
abbrev pub visits_of : List (Option Running) → ℕ → Option Visit
visits_of slots worker = visit_of (slot_at slots worker)

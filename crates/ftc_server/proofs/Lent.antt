-- What a commit and the message of its visit ask for, by what holds of the slots.
use Rattle.std.proofs.Common.{◌≡◌, ◌∙◌, ◌<◌, ◌^◌, ◌-◌, ◌&&◌, ◌||◌, not, ℕ, Bool, true, false, zero, suc, List, [], ◌∷◌}
use Rattle.std.proofs.Common.{◌++◌, Option, Some, None, refl, sym, ap, subst, cond, arith, length}
use Rattle.std.specs.Prelude.{◌==◌, nat_lt, IfSome, slice_index}
use Rattle.std.specs.List.{AllByRecursion, Any, list_all, list_any}
use Rattle.std.proofs.Math.Logic.{∥∥₁_elim}
use Rattle.std.proofs.Math.Bool.{Bool-set}
use Rattle.std.proofs.lemmas.Bool.{eqb-true, eq-eqb, or_left, or_right, not-true, and_right, and_parts, lt-ltb}
use Rattle.std.proofs.lemmas.Bool.Decides.{nat_tests}
use Rattle.std.proofs.lemmas.List.Folds.{Any-from_list_any}
use Rattle.std.proofs.lemmas.Option.{same_Some}
use Rattle.ftc_base.specs.declared.limits.TheConstants.{MOST_PARTITIONS, MOST_READS}
use Rattle.ftc_base.specs.declared.ask.Answer.{Answer}
use Rattle.ftc_base.specs.declared.ask.Write.{Write}
use Rattle.ftc_base.specs.declared.ask.Finish.{Finish as End}
use Rattle.ftc_base.specs.declared.ask.Ask.{Ask}
use Rattle.ftc_base.specs.declared.ask.Ask.TheVariants.{Read, Finish}
use Rattle.ftc_base.specs.Keys.{keys_rise}
use Rattle.ftc_base.specs.Partition.{partition_of}
use Rattle.ftc_base.specs.Sets.{has}
use Rattle.ftc_locks.specs.Locks.{holds_exclusively}
use Rattle.ftc_mbox.specs.declared.rule.Rule.{Rule}
use Rattle.ftc_mbox.specs.Ask.{ask}
use Rattle.ftc_mbox.specs.InTurn.{Asks, AllInTurn, IsLent, ComesNext}
use Rattle.ftc_mbox.proofs.InTurn.{in_turn}
use Rattle.ftc_message.specs.declared.need.Need.{Need}
use Rattle.ftc_message.specs.Logged.{Logged}
use Rattle.ftc_message.specs.Ordered.{HasNone, HasNoNeed, is_log_of, is_need_of}
use Rattle.ftc_txn.specs.Slots.{Running, slot_at, packet_of, packet_at, wounded_of, wounded_at}
use Rattle.ftc_txn.specs.Head.{HeadState, RunsUnwounded, AreItsWrites, IsAnswered}
use Rattle.ftc_txn.specs.Logs.{IsLogOf}
use Rattle.ftc_server.specs.Prepared.{IsLogLeft}
use Rattle.ftc_txn.specs.Touched.{is_touched}
use Rattle.ftc_vector.specs.Vector.{number_at, mark_at}
use Rattle.ftc_vector.proofs.Partitions.{get_or-by_partition}
use Rattle.std.specs.Prelude.{MatchOption, option_map}
use Rattle.std.proofs.lemmas.Bool.{ltb-true}
use Rattle.ftc_packet.specs.declared.flow.Flow.{Flow}
use Rattle.ftc_packet.specs.Flow.{IsFlow, flow_found, flow_in}
use Rattle.ftc_packet.specs.Laws.{FlowsAreFound}
use Rattle.ftc_mbox.specs.Ask.{ask_of}
use Rattle.ftc_mbox.specs.Change.{CanEnd, CanFollow}
use Rattle.ftc_mbox.proofs.Following.{can_follow}
use Rattle.ftc_server.specs.declared.server.Server.{Server}
use Rattle.ftc_server.specs.Looks.{ask_in}
use Rattle.ftc_server.specs.declared.held.HeldMessage.{HeldMessage}
use Rattle.ftc_server.specs.Holding.{is_of, found}
use Rattle.ftc_server.specs.Replicas.{may_rise}
use Rattle.ftc_server.specs.Slots.{AreSlots, IsSlot, ask_of_held, is_open, is_without}
use Rattle.ftc_message.specs.Added.{need_of_log}
use Rattle.ftc_server.proofs.Finding.{and_both, passes_found}
use Rattle.ftc_server.proofs.Slotting.{asked_there, asked_of}

-- ---- keys, as a test

abbrev same_bytes : List ℕ → List ℕ → Bool
same_bytes [] [] = true
same_bytes [] (y ∷ ys) = false
same_bytes (x ∷ xs) [] = false
same_bytes (x ∷ xs) (y ∷ ys) = x == y && same_bytes xs ys

bytes_same : (xs ys : List ℕ) → same_bytes xs ys ≡ true → xs ≡ ys
bytes_same [] [] is = refl
bytes_same [] (y ∷ ys) is = absurd cc
bytes_same (x ∷ xs) [] is = absurd cc
bytes_same (x ∷ xs) (y ∷ ys) is =
    let parts = and_parts (x == y) (same_bytes xs ys) is in
    ap (λ (z : ℕ). z ∷ xs) (eqb-true x y parts.0) ∙ ap (λ (zs : List ℕ). y ∷ zs) (bytes_same xs ys parts.1)

same_itself : (xs : List ℕ) → same_bytes xs xs ≡ true
same_itself [] = refl
same_itself (x ∷ xs) = and_both (x == x) (same_bytes xs xs) (eq-eqb x x refl) (same_itself xs)

abbrev is_key : List ℕ → Answer → Bool
is_key key answer = same_bytes answer.key key

-- the writes' keys rise, each was read, and the worker holds its partition exclusively
abbrev is_lent : HeadState → ℕ → List Answer → Write → Bool
is_lent head worker answers write =
    list_any (is_key write.key) answers && holds_exclusively head.locks worker (partition_of head.partitions write.key)

abbrev are_lent : HeadState → ℕ → List Answer → List Write → Bool
are_lent head worker answers writes = keys_rise None writes && list_all (is_lent head worker answers) writes

-- ---- from the slot to the test

any_there : (earlier later : List Answer) (answer : Answer) (key : List ℕ) → answer.key ≡ key
    → list_any (is_key key) (earlier ++ answer ∷ later) ≡ true
any_there [] later answer key same =
    or_left (is_key key answer) (list_any (is_key key) later)
    (ap (λ (k : List ℕ). same_bytes k key) same ∙ same_itself key)
any_there (first ∷ earlier) later answer key same =
    or_right (is_key key first) (list_any (is_key key) (earlier ++ answer ∷ later))
    (any_there earlier later answer key same)

turn_at : (asks : List Answer → Ask) (earlier later : List Answer) (answer : Answer) →
    AllInTurn asks (earlier ++ answer ∷ later)
    → Asks answer.key (asks earlier)
turn_at asks [] later answer turn = turn.0
turn_at asks (first ∷ earlier) later answer turn = turn_at (λ more. asks (first ∷ more)) earlier later answer turn.1

key_of : (one other : List ℕ) (change : Bool) → Read one change ≡ Read other true → one ≡ other
key_of one other change same = cc

any_weaker : {A : Type 0} (P Q : A → Type 0) (xs : List A) → ((x : A) → P x → Q x) → Any P xs → Any Q xs
any_weaker P Q xs each any = (any.0, any.1, any.2, any.3, each any.1 any.4)

asks_key : (asked : Ask) (key other : List ℕ) → asked ≡ Read key true → Asks other asked → other ≡ key
asks_key (Read first change) key other is asks = sym asks ∙ key_of first key change is
asks_key (Finish end) key other is asks = absurd asks

lent_write : (rule : Rule) (head : HeadState) (items : List HeldMessage) (worker : ℕ) (running : Running)
    (slot : IsSlot rule head items worker running) → running.wounded ≡ None → (write : Write)
    → IsLent (ask rule slot.packet) running.answers write.key → is_lent head worker running.answers write ≡ true
lent_write rule head items worker running slot unwounded write lent =
    let asks = ask rule slot.packet in
    let turn : AllInTurn asks (lent.earlier ++ lent.answer ∷ lent.later) =
    subst (AllInTurn asks) lent.whole slot.turn in
    let same : lent.answer.key ≡ write.key =
    asks_key (asks lent.earlier) write.key lent.answer.key lent.lent
    (turn_at asks lent.earlier lent.later lent.answer turn) in
    let asked : asks lent.earlier ≡ Read lent.answer.key true =
    lent.lent ∙ ap (λ (k : List ℕ). Read k true) (sym same) in
    and_both (list_any (is_key write.key) running.answers)
    (holds_exclusively head.locks worker (partition_of head.partitions write.key))
    (ap (list_any (is_key write.key)) lent.whole ∙ any_there lent.earlier lent.later lent.answer write.key same)
    (subst (λ (k : List ℕ). holds_exclusively head.locks worker (partition_of head.partitions k) ≡ true) same
    ((slot.lent unwounded).each lent.earlier lent.later lent.answer lent.whole asked))

all_lent : {A : Type 0} (P : A → Type 0) (test : A → Bool) (xs : List A) → ((x : A) → P x → test x ≡ true) →
    AllByRecursion P xs
    → list_all test xs ≡ true
all_lent P test [] each all = refl
all_lent {A} P test (x ∷ xs) each all =
    and_both (test x) (list_all test xs) (each x all.0) (all_lent P test xs each all.1)

writes_lent : (rule : Rule) (head : HeadState) (items : List HeldMessage) (worker : ℕ) (running : Running) (end : End)
    → AreSlots rule head items → RunsUnwounded head worker running
    → ask_of_held rule running (found running.packet items) ≡ Some (Finish end)
    → are_lent head worker running.answers end.writes.items ≡ true
writes_lent rule head items worker running end slots runs asked =
    let slot = slots.each worker running runs.slot in
    let ends = asked_there rule head items worker running (Finish end) slot asked in
    let next : ComesNext (ask rule slot.packet) running.answers (Finish end) =
    subst (ComesNext (ask rule slot.packet) running.answers) ends
    (in_turn rule slot.packet running.answers slot.turn) in
    and_both (keys_rise None end.writes.items) (list_all (is_lent head worker running.answers) end.writes.items) next.0
    (all_lent (λ (write : Write). IsLent (ask rule slot.packet) running.answers write.key)
    (is_lent head worker running.answers) end.writes.items
    (λ write lent. lent_write rule head items worker running slot runs.unwounded write lent) next.1)

-- ---- and back

any_key : (key : List ℕ) (answers : List Answer) → list_any (is_key key) answers ≡ true → IsAnswered key answers
any_key key answers any =
    any_weaker (λ (a : Answer). is_key key a ≡ true) (λ (a : Answer). a.key
    ≡ key) answers (λ a is. bytes_same a.key key is)
    (Any-from_list_any (is_key key) answers any)

pub each_of : {A : Type 0} (P : A → Type 0) (test : A → Bool) (xs : List A) → ((x : A) → test x ≡ true → P x)
    → list_all test xs ≡ true → AllByRecursion P xs
each_of P test [] each all = tt
each_of {A} P test (x ∷ xs) each all =
    let parts = and_parts (test x) (list_all test xs) all in
    (each x parts.0, each_of P test xs each parts.1)

pub its_writes : (rule : Rule) (head : HeadState) (items : List HeldMessage) (worker : ℕ) (running : Running)
    (end : End)
    → ∥ AreSlots rule head items ∥₁ → RunsUnwounded head worker running
    → ask_of_held rule running (found running.packet items) ≡ Some (Finish end)
    → AreItsWrites head worker running end.writes.items
its_writes rule head items worker running end slots runs asked =
    let lent : are_lent head worker running.answers end.writes.items ≡ true =
    ∥∥₁_elim slots (Bool-set _ _) (λ s. writes_lent rule head items worker running end s runs asked) in
    let parts = and_parts (keys_rise None end.writes.items)
    (list_all (is_lent head worker running.answers) end.writes.items) lent in
    let halves : (write : Write) → is_lent head worker running.answers write ≡ true
    → (list_any (is_key write.key) running.answers ≡ true)
    × (holds_exclusively head.locks worker (partition_of head.partitions write.key) ≡ true) =
    λ write is. and_parts (list_any (is_key write.key) running.answers)
    (holds_exclusively head.locks worker (partition_of head.partitions write.key)) is in
    record {
      rising = parts.0;
      were_read = each_of (λ (write : Write). IsAnswered write.key running.answers)
          (is_lent head worker running.answers)
          end.writes.items (λ write is. any_key write.key running.answers (halves write is).0) parts.1;
      exclusive = each_of (λ (write : Write). holds_exclusively head.locks worker
          (partition_of head.partitions write.key) ≡ true)
          (is_lent head worker running.answers) end.writes.items (λ write is. (halves write is).1) parts.1;
    }

-- ---- fewer answers than a visit may have

reads_few : (rule : Rule) (head : HeadState) (items : List HeldMessage) (worker : ℕ) (running : Running) (key : List ℕ)
    (change : Bool)
    → AreSlots rule head items → RunsUnwounded head worker running
    → ask_of_held rule running (found running.packet items) ≡ Some (Read key change)
    → nat_lt (length running.answers) MOST_READS ≡ true
reads_few rule head items worker running key change slots runs asked =
    let slot = slots.each worker running runs.slot in
    let ends = asked_there rule head items worker running (Read key change) slot asked in
    let next : ComesNext (ask rule slot.packet) running.answers (Read key change) =
    subst (ComesNext (ask rule slot.packet) running.answers) ends
    (in_turn rule slot.packet running.answers slot.turn) in
    lt-ltb (length running.answers) MOST_READS next.0

pub few_answers : (rule : Rule) (head : HeadState) (items : List HeldMessage) (worker : ℕ) (running : Running)
    (key : List ℕ)
    (change : Bool) → ∥ AreSlots rule head items ∥₁ → RunsUnwounded head worker running
    → ask_of_held rule running (found running.packet items) ≡ Some (Read key change)
    → length running.answers < MOST_READS
few_answers rule head items worker running key change slots runs asked =
    ltb-true (length running.answers) MOST_READS
    (∥∥₁_elim slots (Bool-set _ _) (λ s. reads_few rule head items worker running key change s runs asked))

-- ---- what the slot's message is

pub still_unvisited : (rule : Rule) (head : HeadState) (items : List HeldMessage) (worker : ℕ) (running : Running)
    (held : HeldMessage)
    → ∥ AreSlots rule head items ∥₁ → slot_at head.slots worker ≡ Some running → found running.packet items ≡ Some held
    → held.visited ≡ false
still_unvisited rule head items worker running held slots runs there =
    ∥∥₁_elim slots (Bool-set _ _) (λ s.
    let slot = s.each worker running runs in
    let same : held ≡ slot.held = same_Some held slot.held (sym there ∙ slot.there) in
    ap (λ (h : HeldMessage). h.visited) same ∙ slot.unvisited)

-- ---- numbers

at_least : (test : ℕ → Bool) (xs : List ℕ) (place : ℕ) → list_all test xs ≡ true → test 0 ≡ true
    → test (slice_index xs place) ≡ true
at_least test [] place all zeros = zeros
at_least test (x ∷ xs) zero all zeros = (and_parts (test x) (list_all test xs) all).0
at_least test (x ∷ xs) (suc place) all zeros =
    at_least test xs place (and_parts (test x) (list_all test xs) all).1 zeros

pub rises : (vector : List ℕ) (partition : ℕ) → may_rise vector ≡ true → number_at vector partition < 2 ^ 64 - 1
rises vector partition may =
    ltb-true (number_at vector partition) (2 ^ 64 - 1) (at_least (λ n. nat_lt n (2 ^ 64 - 1)) vector partition may refl)

carried_is : (touched : Bool) (number carried : ℕ) →
    ◌≡◌ {A = Option ℕ} (cond touched (Some number) None) (Some carried) → number ≡ carried
carried_is true number carried is = cc
carried_is false number carried is = absurd cc

pub log_rises : (group partitions : ℕ) (vector : List ℕ) (packet : ℕ) (answers : List Answer) (writes : List Write)
    (log : Logged)
    → IsLogOf group partitions vector packet answers writes log → may_rise vector ≡ true
    → (partition carried : ℕ) → partition < MOST_PARTITIONS → mark_at log.before partition ≡ Some carried
    → carried < 2 ^ 64 - 1
log_rises group partitions vector packet answers writes log is may partition carried within marked =
    let f : ℕ → Option ℕ = λ p. cond (is_touched partitions answers p) (Some (number_at vector p)) None in
    let there : f partition ≡ Some carried =
    sym (get_or-by_partition f partition None within)
    ∙ ap (λ (marks : List (Option ℕ)). mark_at marks partition) (sym is.before) ∙ marked in
    subst (λ (n : ℕ). n < 2 ^ 64 - 1)
    (carried_is (is_touched partitions answers partition) (number_at vector partition) carried there)
    (rises vector partition may)

-- ---- logs and needs of other groups

pub none_of_group : (group : ℕ) (log : Logged) (logs : List Logged) → log.group ≡ group
    → list_all (λ (other : Logged). not (other.group == group)) logs ≡ true → HasNone log logs
none_of_group group log logs same all =
    each_of (λ (other : Logged). is_log_of log.origin log.group other
    ≡ false) (λ (other : Logged). not (other.group == group)) logs
    (λ other is. and_right (other.origin == log.origin) (other.group == log.group)
    (ap (λ (g : ℕ). other.group == g) same ∙ not-true (other.group == group) is)) all

pub no_need_of_group : (group : ℕ) (log : Logged) (needs : List Need) → log.group ≡ group
    → list_all (λ (other : Need). not (other.group == group)) needs ≡ true → HasNoNeed (need_of_log log) needs
no_need_of_group group log needs same all =
    each_of (λ (other : Need). is_need_of log.group other ≡ false) (λ (other : Need). not (other.group == group)) needs
    (λ other is. ap (λ (g : ℕ). other.group == g) same ∙ not-true (other.group == group) is) all

-- a message that is unvisited is without logs and needs of the group
pub open_is : (group : ℕ) (held : HeldMessage) → held.visited ≡ false → is_open group held ≡ true →
    is_without group held ≡ true
open_is group held unvisited is = sym (ap (λ (b : Bool). b || is_without group held) unvisited) ∙ is

-- ---- a slot whose visit ends

pub record IsEnding (server : Server) (worker : ℕ) (end : End) (held : HeldMessage) (bytes : List ℕ) : Type 0 where
  pub running : Running
  pub runs : RunsUnwounded server.head worker running
  pub there : found running.packet server.held.items ≡ Some held
  pub with_packet : held.message.packet ≡ Some bytes
  pub asked : ask_of_held server.rule running (found running.packet server.held.items) ≡ Some (Finish end)

slot_of : (slot : Option Running) (packet : ℕ) → packet_of slot ≡ Some packet → wounded_of slot ≡ None
    → (running : Running) × (slot ≡ Some running) × (running.packet ≡ packet) × (running.wounded ≡ None)
slot_of None packet is unwounded = absurd cc
slot_of (Some running) packet is unwounded = (running, refl, same_Some running.packet packet is, unwounded)

pub ending : (server : Server) (worker packet : ℕ) (end : End) (held : HeldMessage) (bytes : List ℕ)
    → packet_at server.head.slots worker ≡ Some packet → wounded_at server.head.slots worker ≡ None
    → found packet server.held.items ≡ Some held → held.message.packet ≡ Some bytes
    → ask_in server worker ≡ Some (Finish end) → IsEnding server worker end held bytes
ending server worker packet end held bytes at unwounded there with_packet asked =
    let slot = slot_of (slot_at server.head.slots worker) packet at unwounded in
    let runs : RunsUnwounded server.head worker slot.0 = record { slot = slot.1; unwounded = slot.3 } in
    record {
      running = slot.0;
      runs = runs;
      there = ap (λ (p : ℕ). found p server.held.items) slot.2 ∙ there;
      with_packet = with_packet;
      asked = asked_of server worker slot.0 (Finish end) runs asked;
    }

follows : (rule : Rule) (packet : List ℕ) (answers : List Answer) → FlowsAreFound →
    CanFollow packet (ask rule packet answers)
unfolding ask
follows rule packet answers flows =
    elim (flow_found packet) as (λ (f : Option Flow). MatchOption f (¬ IsFlow packet) (λ flow. IsFlow packet
    × (flow ≡ flow_in packet))
    → CanFollow packet (ask_of rule f answers)) [
      | None ↦ λ isnt. tt
      | Some flow ↦ λ is. can_follow packet (ask_of rule (Some flow) answers) is.0
    ] (flows packet)

pub may_change : {server : Server} {worker : ℕ} {end : End} {held : HeldMessage} {bytes : List ℕ}
    → IsEnding server worker end held bytes → FlowsAreFound → CanEnd bytes end.verdict
may_change {server = server} {end = end} {bytes = bytes} is flows =
    let asks : ask server.rule bytes is.running.answers ≡ Finish end =
    same_Some (ask server.rule bytes is.running.answers) (Finish end)
    (sym (ap (λ (f : Option HeldMessage). ask_of_held server.rule is.running f) is.there
    ∙ ap (option_map (λ (b : List ℕ). ask server.rule b is.running.answers)) is.with_packet) ∙ is.asked) in
    subst (CanFollow bytes) asks (follows server.rule bytes is.running.answers flows)

left_here : {server : Server} {worker : ℕ} {end : End} {held : HeldMessage} {bytes : List ℕ}
    → (is : IsEnding server worker end held bytes) → (log : Option Logged)
    → IsLogLeft server.head (slot_at server.head.slots worker) end.writes.items log
    → IsLogLeft server.head (Some is.running) end.writes.items log
left_here {server = server} {end = end} is log left =
    subst (λ (slot : Option Running). IsLogLeft server.head slot end.writes.items log) is.runs.slot left

without_own : {server : Server} {worker : ℕ} {end : End} {held : HeldMessage} {bytes : List ℕ}
    → IsEnding server worker end held bytes
    → (list_all (λ (other : Logged). not (other.group == server.id)) held.message.logs ≡ true)
    × (list_all (λ (other : Need). not (other.group == server.id)) held.message.needs ≡ true)
without_own {server = server} {worker = worker} {held = held} is =
    let unvisited = still_unvisited server.rule server.head server.held.items worker is.running held server.slots
    is.runs.slot is.there in
    and_parts (list_all (λ (other : Logged). not (other.group == server.id)) held.message.logs)
    (list_all (λ (other : Need). not (other.group == server.id)) held.message.needs)
    (open_is server.id held unvisited
    (passes_found (is_open server.id) (is_of is.running.packet) server.held.items held server.«open» is.there))

pub log_is_new : {server : Server} {worker : ℕ} {end : End} {held : HeldMessage} {bytes : List ℕ}
    → IsEnding server worker end held bytes → (log : Option Logged)
    → IsLogLeft server.head (slot_at server.head.slots worker) end.writes.items log
    → IfSome log (λ log. HasNone log held.message.logs)
log_is_new is None left = tt
log_is_new {server = server} {held = held} is (Some log) left =
    none_of_group server.id log held.message.logs ((left_here is (Some log) left).1.group ∙ server.head_group)
    (without_own is).0

pub need_is_new : {server : Server} {worker : ℕ} {end : End} {held : HeldMessage} {bytes : List ℕ}
    → IsEnding server worker end held bytes → (log : Option Logged)
    → IsLogLeft server.head (slot_at server.head.slots worker) end.writes.items log
    → IfSome log (λ log. HasNoNeed (need_of_log log) held.message.needs)
need_is_new is None left = tt
need_is_new {server = server} {held = held} is (Some log) left =
    no_need_of_group server.id log held.message.needs ((left_here is (Some log) left).1.group ∙ server.head_group)
    (without_own is).1

pub log_may_rise : {server : Server} {worker : ℕ} {end : End} {held : HeldMessage} {bytes : List ℕ}
    → IsEnding server worker end held bytes → (log : Option Logged)
    → IsLogLeft server.head (slot_at server.head.slots worker) end.writes.items log
    → may_rise server.head.vector ≡ true
    → IfSome log (λ log. (partition carried : ℕ) → partition < MOST_PARTITIONS →
    mark_at log.before partition ≡ Some carried
    → has log.changed partition ≡ true → carried < 2 ^ 64 - 1)
log_may_rise is None left may = tt
log_may_rise {server = server} {end = end} is (Some log) left may = λ partition carried within marked changed.
    log_rises server.head.group server.head.partitions server.head.vector is.running.packet is.running.answers
    end.writes.items log (left_here is (Some log) left).1 may partition carried within marked

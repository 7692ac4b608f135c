-- What the calls on slots leave of a chain.
use Rattle.std.proofs.Common.{◌≡◌, ◌≢◌, ◌∙◌, ◌<◌, ℕ, Bool, List, Option, Some, None, length, slice_set, inl, inr, refl}
use Rattle.std.proofs.Common.{sym, ap, subst, get_or-set_same, get_or-set_other, length-set}
use Rattle.std.specs.Prelude.{option_map}
use Rattle.std.proofs.lemmas.Bool.{cases_eq, cases_lt, cases_Bool}
use Rattle.std.proofs.lemmas.List.{get_or_past}
use Rattle.std.proofs.lemmas.Option.{same_Some}
use Rattle.ftc_base.specs.declared.ask.Ask.{Ask}
use Rattle.ftc_base.specs.declared.ask.Ask.TheVariants.{Read, Finish}
use Rattle.ftc_mbox.specs.Ask.{ask}
use Rattle.ftc_protocol.specs.Drive.{IsNoneDue}
use Rattle.ftc_protocol.specs.Next.{message_bytes}
use Rattle.ftc_protocol.specs.Run.{IsRunState}
use Rattle.ftc_protocol.specs.Setting.{Setting, servers, rule_at}
use Rattle.ftc_protocol.specs.State.{ChainState}
use Rattle.ftc_server.specs.declared.answers.CommitAnswer.{CommitAnswer}
use Rattle.ftc_server.specs.declared.answers.CommitAnswer.TheVariants as commit
use Rattle.ftc_server.specs.declared.server.Server.{Server}
use Rattle.ftc_server.specs.Looks.{ask_in}
use Rattle.ftc_server.specs.State.{ServerState, fields_of as fields_of}
use Rattle.ftc_server.specs.Steps.{Reads, HasRead, EndsVisit}
use Rattle.ftc_txn.specs.Head.{HeadState, RunsUnwounded, next_age}
use Rattle.ftc_txn.specs.Slots.{Running, slot_at, begun, restarted}
use Rattle.ftc_txn.specs.Steps.{begins, restarts}
use Rattle.ftc_txn.specs.declared.answers.ReadAnswer.{ReadAnswer}
use Rattle.ftc_txn.specs.declared.answers.ReadAnswer.TheVariants as read
use Rattle.ftc_network.specs.declared.network.Network.{Network}
use Rattle.ftc_network.specs.Parts.{server_in}
use Rattle.ftc_network.specs.Slots.{head_of, head_at, runs_in, AreOtherHeads, RunNoMore, SlotQuits, SlotReads}
use Rattle.ftc_network.specs.Slots.{SlotEndsVisit, bytes_run, bytes_run_at}
use Rattle.ftc_network.specs.Stand.{IsSlot, IsUp}
use Rattle.ftc_txn.specs.Slots.{wounded_by}
use Rattle.ftc_txn.specs.Steps.{HeadReads}
use Rattle.ftc_base.specs.Partition.{partition_of}
use Rattle.ftc_locks.specs.Locks.{conflicts}
use Rattle.ftc_chain.specs.declared.course.Course.{Course}
use Rattle.ftc_chain.specs.declared.given.Given.{Given}
use Rattle.ftc_chain.specs.ChainRun.{ChainRun}
use Rattle.ftc_chain.specs.Course.{IsCourseResting, RunsOnce, state_by}
use Rattle.ftc_chain.specs.Doing.{setting_by}
use Rattle.ftc_chain.specs.Slots.{head_in, runs_at, ask_at, IsIdle, Looks, OthersStay, IsAt, HasReadAt, ReadsAt}
use Rattle.ftc_chain.specs.Slots.{IsAsking}
use Rattle.ftc_chain.specs.Slots.{CommitsAt, QuitsIn, HasQuitAt}
use Rattle.ftc_chain.proofs.HeadsKept.{head_as, SlotsRunNoMore, none_runs}
use Rattle.ftc_ring.specs.Ring.{RingShape}
use Rattle.ftc_txn.proofs.Serially.{slot_set_none}
use Rattle.ftc_network.proofs.IdleSlots.{set_other}
use Rattle.ftc_chain.proofs.HeadsSeen.{head_seen, but_heads, as_it_was}
use Rattle.ftc_chain.proofs.Made.{run_of}
use Rattle.ftc_chain.proofs.Releases.{is_run_state}

-- ---- one head

-- a slot that is made idle: the others run what they ran
set_no_more : (slots : List (Option Running)) (worker other : ℕ) → slot_at slots other ≡ None →
    slot_at (slice_set slots worker None) other ≡ None
set_no_more slots worker other none = elim (cases_eq other worker) [
  | inl same ↦ ap (slot_at (slice_set slots worker None)) same ∙ slot_set_none slots worker
  | inr differs ↦ set_other slots worker None other differs ∙ none
]

-- a slot that runs something runs something else
set_running : (slots : List (Option Running)) (worker other : ℕ) (now : Running) → slot_at slots worker ≢ None →
    slot_at slots other ≡ None → slot_at (slice_set slots worker (Some now)) other ≡ None
set_running slots worker other now runs none = elim (cases_eq other worker) [
  | inl same ↦ absurd (runs (ap (slot_at slots) (sym same) ∙ none))
  | inr differs ↦ set_other slots worker (Some now) other differs ∙ none
]

-- what runs isn't nothing
runs_some : (slot : Option Running) (running : Running) → slot ≡ Some running → slot ≢ None
runs_some slot running some none = let both : Some running ≡ None = sym some ∙ none in absurd cc

pub quits_heads : (old new : Option Server) (worker : ℕ) → SlotQuits old new worker →
    runs_in (head_of old) worker ≢ None →
    QuitsIn (head_of old) (head_of new) worker
quits_heads None new worker quits runs = absurd (runs refl)
quits_heads (Some old) None worker quits runs = absurd quits
quits_heads (Some old) (Some new) worker quits runs = quits.head

quit_no_more : (old new : Option HeadState) (worker : ℕ) → QuitsIn old new worker → RunNoMore old new
quit_no_more None new worker quits other none = absurd quits
quit_no_more (Some old) None worker quits other none = absurd quits
quit_no_more (Some old) (Some new) worker quits other none =
    ap (λ (slots : List (Option Running)). slot_at slots other) quits.slots ∙ set_no_more old.slots worker other none

quit_idle : (old new : Option HeadState) (worker : ℕ) → QuitsIn old new worker → runs_in new worker ≡ None
quit_idle None new worker quits = absurd quits
quit_idle (Some old) None worker quits = absurd quits
quit_idle (Some old) (Some new) worker quits =
    ap (λ (slots : List (Option Running)). slot_at slots worker) quits.slots ∙ slot_set_none old.slots worker

-- a read wounds only what runs
wounded_none : (worker : ℕ) (slot : Option Running) → slot ≡ None → wounded_by worker slot ≡ None
wounded_none worker slot none = ap (wounded_by worker) none

head_reads_no_more : (old new : HeadState) (worker : ℕ) (key : List ℕ) (change : Bool) (answer : ReadAnswer) →
    HeadReads old new worker key change answer → RunNoMore (Some old) (Some new)
head_reads_no_more old new worker key change (read.Value value) (running, runs, has) other none =
    elim (cases_eq other worker) [
      | inl same ↦ absurd (runs_some (slot_at old.slots worker) running runs.slot
          (ap (slot_at old.slots) (sym same) ∙ none))
      | inr differs ↦ elim (cases_Bool (conflicts old.locks worker (partition_of old.partitions key) change other)) [
        | inl way ↦ has.wounded other way ∙ wounded_none worker (slot_at old.slots other) none
        | inr clear ↦ has.others other differs clear ∙ none
      ]
    ]
head_reads_no_more old new worker key change (read.Blocked holder) (running, runs, oldest, same) other none =
    ap (λ (head : HeadState). slot_at head.slots other) same ∙ none
head_reads_no_more old new worker key change (read.Wounded by) (running, runs, same) other none =
    ap (λ (head : HeadState). slot_at head.slots other) same
    ∙ set_running old.slots worker other (restarted running)
    (runs_some (slot_at old.slots worker) running runs.slot) none
head_reads_no_more old new worker key change read.Idle (idle, same) other none =
    ap (λ (head : HeadState). slot_at head.slots other) same ∙ none
head_reads_no_more old new worker key change read.NotAsked reads other none = absurd reads

reads_runs : (old new : Server) (worker : ℕ) (key : List ℕ) (answer : ReadAnswer) → Reads old new worker key answer →
    RunNoMore (Some old.head) (Some new.head)
reads_runs old new worker key (read.Value value) reads other none =
    head_reads_no_more old.head new.head worker key reads.change (read.Value value) reads.head other none
reads_runs old new worker key (read.Blocked holder) reads other none =
    head_reads_no_more old.head new.head worker key reads.change (read.Blocked holder) reads.head other none
reads_runs old new worker key (read.Wounded by) reads other none =
    head_reads_no_more old.head new.head worker key reads.change (read.Wounded by) reads.head other none
reads_runs old new worker key read.Idle reads other none =
    head_reads_no_more old.head new.head worker key reads.change read.Idle reads.head other none
reads_runs old new worker key read.NotAsked reads other none =
    ap (λ (s : ServerState). slot_at s.head.slots other) reads.rest ∙ none

pub reads_no_more : (old new : Option Server) (worker : ℕ) (key : List ℕ) (answer : ReadAnswer) →
    SlotReads old new worker key answer → RunNoMore (head_of old) (head_of new)
reads_no_more None new worker key answer (down, idle) other none = none_runs (head_of new) other (ap head_of down)
reads_no_more (Some old) None worker key answer reads other none = absurd reads
reads_no_more (Some old) (Some new) worker key answer reads other none =
    reads_runs old new worker key answer reads other none

same_head : (old new : Server) → fields_of new ≡ fields_of old → new.head ≡ old.head
same_head old new same = ap (λ (s : ServerState). s.head) same

still_none : (old new : Server) (other : ℕ) → new.head ≡ old.head → slot_at old.head.slots other ≡ None →
    slot_at new.head.slots other ≡ None
still_none old new other same none = ap (λ (head : HeadState). slot_at head.slots other) same ∙ none

ends_runs : (old new : Server) (worker : ℕ) (answer : CommitAnswer) → EndsVisit old new worker answer →
    RunNoMore (Some old.head) (Some new.head)
ends_runs old new worker commit.Done (running, end, runs, asked, visited) other none =
    ap (λ (slots : List (Option Running)). slot_at slots other) visited.head.slots
    ∙ set_no_more old.head.slots worker other none
ends_runs old new worker (commit.Wounded by) (running, runs, rest) other none =
    ap (λ (s : ServerState). slot_at s.head.slots other) rest
    ∙ set_running old.head.slots worker other (restarted running) (runs_some _ running runs.slot) none
ends_runs old new worker commit.Idle (idle, rest) other none = still_none old new other (same_head old new rest) none
ends_runs old new worker (commit.Unfinished key) (running, change, runs, asked, rest) other none =
    still_none old new other (same_head old new rest) none
ends_runs old new worker commit.NoMemory (running, end, runs, asked, rest) other none =
    still_none old new other (ap (λ (s : ServerState). s.head) rest.rest) none

pub ends_no_more : (old new : Option Server) (worker : ℕ) (answer : CommitAnswer) →
    SlotEndsVisit old new worker answer →
    RunNoMore (head_of old) (head_of new)
ends_no_more None new worker answer (down, idle) other none = none_runs (head_of new) other (ap head_of down)
ends_no_more (Some old) None worker answer ends other none = absurd ends
ends_no_more (Some old) (Some new) worker answer ends other none = ends_runs old new worker answer ends other none

-- ---- all heads

-- servers that are as they were have the heads that they had
pub other_heads : (old new : Network) (server : ℕ) →
    ((other : ℕ) → other ≢ server → server_in new.servers.items other ≡ server_in old.servers.items other) →
    AreOtherHeads server old new
other_heads old new server others other differs = ap head_of (others other differs)

-- what another slot runs at a head where one begins
begins_other : (head : Option HeadState) (worker packet other : ℕ) → other ≢ worker →
    runs_in (option_map (λ (h : HeadState). begins h worker packet) head) other ≡ runs_in head other
begins_other None worker packet other differs = refl
begins_other (Some head) worker packet other differs =
    set_other head.slots worker (Some (begun packet (next_age head))) other differs

pub once_begun : (old new : Network) (worker server packet : ℕ) →
    ((at : ℕ) → runs_in (head_at old at) worker ≡ None) →
    head_at new server ≡ option_map (λ (h : HeadState). begins h worker packet) (head_at old server) →
    AreOtherHeads server old new → RunsOnce old → RunsOnce new
once_begun old new worker server packet idle here others once slot one other differs runs =
    elim (cases_eq slot worker) [
      | inl same ↦ elim (cases_eq other server) [
        | inl at ↦ absurd (runs (ap (λ (h : Option HeadState). runs_in h slot)
            (others one (λ one_at. differs (one_at ∙ sym at)))
            ∙ (ap (runs_in (head_at old one)) same ∙ idle one)))
        | inr away ↦ ap (λ (h : Option HeadState). runs_in h slot) (others other away)
            ∙ (ap (runs_in (head_at old other)) same ∙ idle other)
      ]
      | inr apart ↦
          let as_before = λ (at : ℕ). elim (cases_eq at server) as (λ _.
          runs_in (head_at new at) slot ≡ runs_in (head_at old at) slot) [
            | inl at_server ↦ ap (λ (n : ℕ). runs_in (head_at new n) slot) at_server
                ∙ (ap (λ (h : Option HeadState). runs_in h slot) here
                ∙ (begins_other (head_at old server) worker packet slot apart
                ∙ ap (λ (n : ℕ). runs_in (head_at old n) slot) (sym at_server)))
            | inr away ↦ ap (λ (h : Option HeadState). runs_in h slot) (others at away)
          ] in
          as_before other ∙ once slot one other differs (λ none. runs (as_before one ∙ none))
    ]

-- a slot that gives up what it runs at the one server where it runs something
pub quits_everywhere : (old new : Network) (worker server : ℕ) → RunsOnce old →
    runs_in (head_at old server) worker ≢ None →
    QuitsIn (head_at old server) (head_at new server) worker → AreOtherHeads server old new →
    (at : ℕ) → runs_in (head_at new at) worker ≡ None
quits_everywhere old new worker server once runs quits others at = elim (cases_eq at server) [
  | inl same ↦ ap (λ (n : ℕ). runs_in (head_at new n) worker) same
      ∙ quit_idle (head_at old server) (head_at new server) worker quits
  | inr differs ↦ ap (λ (h : Option HeadState). runs_in h worker) (others at differs)
      ∙ once worker server at (λ is. differs (sym is)) runs
]

pub quits_no_more : (old new : Network) (worker server : ℕ) → QuitsIn (head_at old server) (head_at new server) worker →
    AreOtherHeads server old new → SlotsRunNoMore old new
quits_no_more old new worker server quits others at other none = elim (cases_eq at server) [
  | inl same ↦ ap (λ (n : ℕ). runs_in (head_at new n) other) same
      ∙ quit_no_more (head_at old server) (head_at new server) worker quits other
      (ap (λ (n : ℕ). runs_in (head_at old n) other) (sym same) ∙ none)
  | inr differs ↦ ap (λ (h : Option HeadState). runs_in h other) (others at differs) ∙ none
]

-- ---- a server at which a slot runs something

pub record IsLive (slot : Option Server) (worker : ℕ) : Type 0 where
  pub live : Server
  pub is : slot ≡ Some live
  pub running : Running
  pub runs : slot_at live.head.slots worker ≡ Some running

running_of : (live : Server) (worker : ℕ) (slot : Option Running) → slot_at live.head.slots worker ≡ slot →
    slot_at live.head.slots worker ≢ None → IsLive (Some live) worker
running_of live worker None is runs = absurd (runs is)
running_of live worker (Some running) is runs = record { live = live; is = refl; running = running; runs = is }

pub live_of : (slot : Option Server) (worker : ℕ) → runs_in (head_of slot) worker ≢ None → IsLive slot worker
live_of None worker runs = absurd (runs refl)
live_of (Some live) worker runs = running_of live worker (slot_at live.head.slots worker) refl runs

pub record IsAfter (Fact : Server → Type 0) (slot : Option Server) : Type 0 where
  pub live : Server
  pub is : slot ≡ Some live
  pub fact : Fact live

pub after_read : (old : Server) (new : Option Server) (worker : ℕ) (key : List ℕ) (answer : ReadAnswer) →
    SlotReads (Some old) new worker key answer → IsAfter (λ live. Reads old live worker key answer) new
after_read old None worker key answer reads = absurd reads
after_read old (Some new) worker key answer reads = record { live = new; is = refl; fact = reads }

pub after_end : (old : Server) (new : Option Server) (worker : ℕ) (answer : CommitAnswer) →
    SlotEndsVisit (Some old) new worker answer → IsAfter (λ live. EndsVisit old live worker answer) new
after_end old None worker answer ends = absurd ends
after_end old (Some new) worker answer ends = record { live = new; is = refl; fact = ends }

-- what a law says of what slots ask
abbrev pub Asks : Type 0
Asks = (setting : Setting) (state : ChainState) (number worker : ℕ) (server : Server) (running : Running) →
    IsRunState setting state → IsUp setting state number server → IsNoneDue setting state →
    slot_at server.head.slots worker ≡ Some running →
    ask_in server worker ≡ Some
    (ask (rule_at setting number) (message_bytes (state.message running.packet)) running.answers)

module _ (given : Given) (old : Course) (worker server : ℕ) (rests : IsCourseResting (setting_by given) old)
    (inside : server < servers (setting_by given)) (asks : Asks)
    (live_is : IsLive (server_in old.network.servers.items server) worker) where
  -- what a slot that runs something is asked
  pub asks_there : (running : Running) → slot_at live_is.live.head.slots worker ≡ Some running →
      ask_in live_is.live worker ≡ Some (ask_at (run_of given old) server running)
  asks_there running there =
      let setting : Setting = setting_by given in
      let state : ChainState = state_by setting old.journal.items in
      let up : IsUp setting state server live_is.live =
      subst (IsSlot setting state server) live_is.is (rests.course_is.stands.servers_are server inside) in
      asks setting state server worker live_is.live running (is_run_state setting old rests.course_is) up rests.none_due
      there

  pub asked_as : (running : Running) (says : Ask) → slot_at live_is.live.head.slots worker ≡ Some running →
      ask_in live_is.live worker ≡ Some says → ask_at (run_of given old) server running ≡ says
  asked_as running says there asked =
      same_Some (ask_at (run_of given old) server running) says (sym (asks_there running there) ∙ asked)

module _ (given : Given) (old new : Course) (worker server : ℕ) (rests : IsCourseResting (setting_by given) old)
    (inside : server < servers (setting_by given)) (runs : runs_in (head_at old.network server) worker ≢ None)
    (others : (other : ℕ) → other ≢ server →
    server_in new.network.servers.items other ≡ server_in old.network.servers.items other)
    (journal : new.journal.items ≡ old.journal.items) (drained : new.outlet.drained ≡ old.outlet.drained)
    (rested : ∥ IsCourseResting (setting_by given) new ∥₁) (asks : Asks) where
  abbrev before : ChainRun
  before = run_of given old

  abbrev after : ChainRun
  after = run_of given new

  live_is : IsLive (server_in old.network.servers.items server) worker
  live_is = live_of (server_in old.network.servers.items server) worker runs

  -- a slot that is asked, as it is seen
  ask_is : (running : Running) (says : Ask) → slot_at live_is.live.head.slots worker ≡ Some running →
      ask_in live_is.live worker ≡ Some says → ask_at before server running ≡ says
  ask_is = asked_as given old worker server rests inside asks live_is

  asks_as : (running : Running) (says : Ask) → slot_at live_is.live.head.slots worker ≡ Some running →
      ask_at before server running ≡ says → ask_in live_is.live worker ≡ Some says
  asks_as running says there is = asks_there given old worker server rests inside asks live_is running there
      ∙ ap (λ (a : Ask). Some a) is

  head_was : head_in before server ≡ Some live_is.live.head
  head_was = head_as old.network.servers.items server ∙ ap head_of live_is.is

  runs_there : (running : Running) → slot_at live_is.live.head.slots worker ≡ Some running →
      runs_at before worker server ≡ Some running
  runs_there running there = ap (λ (head : Option HeadState). runs_in head worker) head_was ∙ there

  others_stay : OthersStay server before after
  others_stay other differs = head_as new.network.servers.items other
      ∙ (ap head_of (others other differs) ∙ sym (head_as old.network.servers.items other))

  at : (running : Running) (live : Server) (head : HeadState) → slot_at live_is.live.head.slots worker ≡ Some running →
      server_in new.network.servers.items server ≡ Some live → live.head ≡ head →
      IsAt before after worker server running live_is.live.head head
  at running live head there is same = record {
    head = head_was;
    runs = runs_there running there;
    now = head_as new.network.servers.items server ∙ (ap head_of is ∙ ap (λ (h : HeadState). Some h) same);
    others = others_stay;
  }

  -- where the head is as it was, nothing differs
  nothing_differs : (live : Server) → server_in new.network.servers.items server ≡ Some live →
      live.head ≡ live_is.live.head → after ≡ before
  nothing_differs live is same = as_it_was given old new before refl journal drained ∣ rests ∣₁ rested (λ other.
      elim (cases_eq other server) as (λ _. head_at new.network other ≡ head_at old.network other) [
        | inl here ↦ ap (λ (n : ℕ). head_at new.network n) here
            ∙ (ap head_of is ∙ (ap (λ (h : HeadState). Some h) same
            ∙ (ap head_of (sym live_is.is) ∙ ap (λ (n : ℕ). head_at old.network n) (sym here))))
        | inr differs ↦ ap head_of (others other differs)
      ])

  -- ---- reads

  has_read : (live : Server) (key : List ℕ) (answer : ReadAnswer) →
      server_in new.network.servers.items server ≡ Some live →
      HasRead live_is.live live worker key answer → HasReadAt before after worker key answer
  has_read live key answer is reads = record {
    server = server;
    running = live_is.running;
    before = live_is.live.head;
    after = live.head;
    at = at live_is.running live live.head live_is.runs is refl;
    change = reads.change;
    asks = λ unwounded. ask_is live_is.running (Read key reads.change) live_is.runs
        (reads.asked live_is.running (record { slot = live_is.runs; unwounded = unwounded }));
    head_reads = reads.head;
    rest = but_heads given old new before refl journal drained;
  }

  read_by : (live : Server) (key : List ℕ) (answer : ReadAnswer) →
      server_in new.network.servers.items server ≡ Some live →
      Reads live_is.live live worker key answer → ReadsAt before after worker key answer
  read_by live key (read.Value value) is reads = has_read live key (read.Value value) is reads
  read_by live key (read.Blocked holder) is reads = has_read live key (read.Blocked holder) is reads
  read_by live key (read.Wounded by) is reads = has_read live key (read.Wounded by) is reads
  read_by live key read.Idle is reads =
      absurd (runs_some (slot_at live_is.live.head.slots worker) live_is.running live_is.runs reads.head.0)
  read_by live key read.NotAsked is reads = (
    record {
      server = server;
      running = reads.running;
      runs = runs_there reads.running reads.runs.slot;
      unwounded = reads.runs.unwounded;
      unasked = λ change asks. reads.unasked change (asks_as reads.running (Read key change) reads.runs.slot asks);
    },
    nothing_differs live is (same_head live_is.live live reads.rest),
  )

  pub reads_at : (key : List ℕ) (answer : ReadAnswer) →
      SlotReads (server_in old.network.servers.items server)
      (server_in new.network.servers.items server) worker key answer →
      ReadsAt before after worker key answer
  reads_at key answer reads =
      let then = after_read live_is.live (server_in new.network.servers.items server) worker key answer
      (subst (λ (slot : Option Server). SlotReads slot (server_in new.network.servers.items server) worker key answer)
      live_is.is reads) in
      read_by then.live key answer then.is then.fact

  -- ---- commits that make no visit

  asking : (running : Running) (says : Ask) → RunsUnwounded live_is.live.head worker running →
      ask_in live_is.live worker ≡ Some says → IsAsking before worker says
  asking running says there asked = record {
    server = server;
    running = running;
    runs = runs_there running there.slot;
    unwounded = there.unwounded;
    asks = ask_is running says there.slot asked;
  }

  end_by : (live : Server) (answer : CommitAnswer) → server_in new.network.servers.items server ≡ Some live →
      answer ≢ commit.Done → EndsVisit live_is.live live worker answer → CommitsAt before after worker answer
  end_by live commit.Done is undone ends = absurd (undone refl)
  end_by live (commit.Wounded by) is undone (running, there, rest) = record {
    server = server;
    running = running;
    before = live_is.live.head;
    at = at running live (restarts live_is.live.head worker running) there.slot is
        (ap (λ (s : ServerState). s.head) rest);
    wounded = there.wounded;
    rest = but_heads given old new before refl journal drained;
  }
  end_by live commit.Idle is undone (idle, rest) =
      absurd (runs_some (slot_at live_is.live.head.slots worker) live_is.running live_is.runs idle)
  end_by live (commit.Unfinished key) is undone (running, change, there, asked, rest) = (
    change,
    asking running (Read key change) there asked,
    nothing_differs live is (same_head live_is.live live rest),
  )
  end_by live commit.NoMemory is undone (running, end, there, asked, rest) = (
    end,
    asking running (Finish end) there asked,
    nothing_differs live is (ap (λ (s : ServerState). s.head) rest.rest),
  )

  pub undone_at : (answer : CommitAnswer) → answer ≢ commit.Done →
      SlotEndsVisit (server_in old.network.servers.items server)
      (server_in new.network.servers.items server) worker answer →
      CommitsAt before after worker answer
  undone_at answer undone ends =
      let then = after_end live_is.live (server_in new.network.servers.items server) worker answer
      (subst (λ (slot : Option Server). SlotEndsVisit slot (server_in new.network.servers.items server) worker answer)
      live_is.is ends) in
      end_by then.live answer then.is undone then.fact

-- ---- what is read off

-- a server of the network is one of the chain
pub inside_of : (given : Given) (course : Course) (server : ℕ) → IsCourseResting (setting_by given) course →
    server < course.network.ring.servers → server < servers (setting_by given)
inside_of given course server is below =
    subst (λ (ring : RingShape). server < ring.servers) is.course_is.stands.ring below

-- a slot that is seen idle runs nothing, and one that runs nothing is seen idle
pub idle_there : (given : Given) (course : Course) (run : ChainRun) → run_of given course ≡ run → (worker : ℕ) →
    IsIdle run worker → (server : ℕ) → runs_in (head_at course.network server) worker ≡ None
idle_there given course run same worker idle server =
    ap (λ (head : Option HeadState). runs_in head worker) (sym (head_seen given course run same server)) ∙ idle server

pub idle_seen : (given : Given) (course : Course) (run : ChainRun) → run_of given course ≡ run → (worker : ℕ) →
    ((server : ℕ) → runs_in (head_at course.network server) worker ≡ None) → IsIdle run worker
idle_seen given course run same worker idle server =
    ap (λ (head : Option HeadState). runs_in head worker) (head_seen given course run same server) ∙ idle server

-- what a law says of the packets that slots run
abbrev pub Carries : Type 0
Carries = (setting : Setting) (state : ChainState) (number worker : ℕ) (server : Server) (running : Running) →
    IsRunState setting state → IsUp setting state number server → IsNoneDue setting state →
    slot_at server.head.slots worker ≡ Some running →
    bytes_run server (Some running) ≡ Some (message_bytes (state.message running.packet))

pub looks_at : (given : Given) (course : Course) (worker server : ℕ) (bytes : Option (List ℕ)) →
    IsCourseResting (setting_by given) course → server < servers (setting_by given) →
    runs_in (head_at course.network server) worker ≢ None → Carries →
    bytes ≡ bytes_run_at (server_in course.network.servers.items server) worker →
    Looks (run_of given course) worker bytes
looks_at given course worker server bytes rests inside runs carries same =
    let setting : Setting = setting_by given in
    let state : ChainState = state_by setting course.journal.items in
    let live_is = live_of (server_in course.network.servers.items server) worker runs in
    let up : IsUp setting state server live_is.live =
    subst (IsSlot setting state server) live_is.is (rests.course_is.stands.servers_are server inside) in
    let are : bytes ≡ Some (message_bytes (state.message live_is.running.packet)) =
    same ∙ (ap (λ (slot : Option Server). bytes_run_at slot worker) live_is.is
    ∙ (ap (bytes_run live_is.live) live_is.runs
    ∙ carries setting state server worker live_is.live live_is.running (is_run_state setting course rests.course_is) up
    rests.none_due live_is.runs)) in
    subst (Looks (run_of given course) worker) (sym are) (
      server,
      live_is.running,
      ap (λ (head : Option HeadState). runs_in head worker)
          (head_as course.network.servers.items server ∙ ap head_of live_is.is) ∙ live_is.runs,
      refl,
    )

-- ---- quits

pub quits_at : (given : Given) (old new : Course) (run : ChainRun) (worker server : ℕ) (same : run_of given old ≡ run) →
    new.journal.items ≡ old.journal.items → new.outlet.drained ≡ old.outlet.drained → RunsOnce old.network →
    runs_in (head_at old.network server) worker ≢ None →
    QuitsIn (head_at old.network server) (head_at new.network server) worker →
    AreOtherHeads server old.network new.network → HasQuitAt run (run_of given new) worker
quits_at given old new run worker server same journal drained once runs quits others = record {
  quits = λ at ran.
      let there : runs_in (head_at old.network at) worker ≢ None =
      λ none. ran (ap (λ (head : Option HeadState). runs_in head worker) (head_seen given old run same at) ∙ none) in
      elim (cases_eq at server) as (λ _. QuitsIn (head_in run at) (head_in (run_of given new) at) worker) [
        | inl here ↦
            let seen : QuitsIn (head_at old.network at) (head_at new.network at) worker =
            subst (λ (n : ℕ). QuitsIn (head_at old.network n) (head_at new.network n) worker) (sym here) quits in
            subst (λ (head : Option HeadState). QuitsIn (head_in run at) head worker)
            (sym (head_as new.network.servers.items at))
            (subst (λ (head : Option HeadState). QuitsIn head (head_at new.network at) worker)
            (sym (head_seen given old run same at)) seen)
        | inr differs ↦ absurd (there (once worker server at (λ is. differs (sym is)) runs))
      ];
  others = λ at ran.
      let differs : at ≢ server = λ here. runs
      (ap (λ (n : ℕ). runs_in (head_at old.network n) worker) (sym here)
      ∙ (ap (λ (head : Option HeadState). runs_in head worker) (sym (head_seen given old run same at)) ∙ ran)) in
      head_as new.network.servers.items at ∙ (others at differs ∙ sym (head_seen given old run same at));
  rest = but_heads given old new run same journal drained;
}

-- What each call leaves of the slots.
use Rattle.std.proofs.Common.{◌≡◌, ◌≢◌, ◌∙◌, ◌||◌, ◌⊎◌, inl, inr, ℕ, zero, suc, Bool, true, false, List, [], ◌∷◌, ◌++◌}
use Rattle.std.proofs.Common.{Option, Some, None, refl, sym, ap, subst, ⊎_elim, length, ◌<◌, option_map}
use Rattle.std.specs.Prelude.{slice_set, ◌==◌, is_some, filter}
use Rattle.std.proofs.lemmas.Bool.{cases_Bool, cases_eq, eq-eqb, or_parts, and_parts}
use Rattle.std.specs.List.{list_any, list_all}
use Rattle.std.proofs.Math.Logic.{∥∥₁_elim}
use Rattle.std.proofs.lemmas.Option.{same_Some}
use Rattle.ftc_base.specs.declared.ask.Answer.{Answer}
use Rattle.ftc_base.specs.declared.ask.Ask.{Ask}
use Rattle.ftc_base.specs.declared.ask.Ask.TheVariants.{Read}
use Rattle.ftc_base.specs.Partition.{partition_of}
use Rattle.ftc_locks.specs.Locks.{holds_exclusively, conflicts, SameHoldings}
use Rattle.ftc_mbox.specs.declared.rule.Rule.{Rule}
use Rattle.ftc_mbox.specs.Ask.{ask}
use Rattle.ftc_mbox.specs.InTurn.{Asks, AllInTurn}
use Rattle.ftc_txn.specs.Slots.{Running, slot_at, begun, restarted, answered, wounded_by, wounded_at, wounded_of}
use Rattle.ftc_txn.specs.Slots.{packet_of, packet_at}
use Rattle.ftc_txn.specs.Head.{HeadState, RunsUnwounded, next_age}
use Rattle.ftc_txn.specs.Steps.{begins, restarts, HasHeadRead, HasHeadQuit, HasCommitted, HeadReads, Commits}
use Rattle.ftc_txn.specs.declared.answers.HeadCommit.{HeadCommit}
use Rattle.ftc_txn.specs.declared.answers.HeadCommit.TheVariants.{Done, Wounded as WoundedCommit, Idle as IdleCommit}
use Rattle.ftc_txn.specs.declared.answers.HeadCommit.TheVariants.{NoMemory}
use Rattle.ftc_txn.specs.declared.answers.ReadAnswer.{ReadAnswer}
use Rattle.ftc_txn.specs.declared.answers.ReadAnswer.TheVariants.{Value, Blocked, Wounded as WoundedRead}
use Rattle.ftc_txn.specs.declared.answers.ReadAnswer.TheVariants.{Idle as IdleRead, NotAsked}
use Rattle.ftc_txn.proofs.Kept.{slot_other, slot_set, slot_within, none_or_some, same_holdings}
use Rattle.ftc_txn.proofs.StayedHoldings.{own, changed}
use Rattle.ftc_server.specs.declared.held.HeldMessage.{HeldMessage}
use Rattle.ftc_base.specs.declared.ask.Write.{Write}
use Rattle.ftc_message.specs.Logged.{Logged}
use Rattle.ftc_server.specs.Holding.{is_of, found, without, with_changed}
use Rattle.ftc_replica.specs.Held.{Held}
use Rattle.ftc_server.specs.Replicas.{is_ready}
use Rattle.ftc_server.specs.Work.{is_waiting}
use Rattle.ftc_server.specs.declared.server.Server.{Server}
use Rattle.ftc_server.specs.Looks.{ask_in, ask_of_slot}
use Rattle.ftc_server.proofs.Working.{is_waiting_so}
use Rattle.ftc_server.proofs.Finding.{found_changed, found_kept, found_without, true_false}
use Rattle.ftc_server.specs.Slots.{IsSlot, AreSlots, ask_of_held, runs_packet, is_running, is_ready_one, slot_is_ready}
use Rattle.ftc_server.specs.Slots.{slots_are_ready}

abbrev Items : Type 0
Items = List HeldMessage

-- ---- slots that run what they ran

-- a slot runs the packet that it ran before, and is as it must be
pub record IsFollowed (rule : Rule) (old new : HeadState) (items : Items) (worker : ℕ)
    (running : Running) : Type 0 where
  pub before : Running
  pub was : slot_at old.slots worker ≡ Some before
  pub same : running.packet ≡ before.packet
  pub now : IsSlot rule new items worker running

pub followed : (rule : Rule) (old new : HeadState) (items after : Items) → AreSlots rule old items
    → ((worker : ℕ) (running : Running) → slot_at new.slots worker ≡ Some running →
    IsFollowed rule old new after worker running)
    → AreSlots rule new after
followed rule old new items after slots each = record {
  each = λ worker running runs. (each worker running runs).now;
  once = λ worker other running another differs runs others same.
      let one = each worker running runs in
      let two = each other another others in
      slots.once worker other one.before two.before differs one.was two.was (sym one.same ∙ same ∙ two.same);
}

-- it holds at least what it held, and its message is where it was
pub kept_slot : (rule : Rule) (old new : HeadState) (items after : Items) (worker : ℕ) (running : Running)
    → new.partitions ≡ old.partitions
    → ((partition : ℕ) → holds_exclusively old.locks worker partition ≡ true →
    holds_exclusively new.locks worker partition ≡ true)
    → ((held : HeldMessage) → found running.packet items ≡ Some held → found running.packet after ≡ Some held)
    → IsSlot rule old items worker running → IsSlot rule new after worker running
kept_slot rule old new items after worker running partitions holds there slot = record {
  held = slot.held;
  there = there slot.held slot.there;
  unvisited = slot.unvisited;
  packet = slot.packet;
  with_packet = slot.with_packet;
  turn = slot.turn;
  lent = λ unwounded. record {
    each = λ earlier later answer whole asked.
        subst (λ (p : ℕ). holds_exclusively new.locks worker (partition_of p answer.key) ≡ true) (sym partitions)
        (holds (partition_of old.partitions answer.key) ((slot.lent unwounded).each earlier later answer whole asked));
  };
}

-- nothing but the list of messages changes
pub slots_stay : (rule : Rule) (head : HeadState) (items after : Items)
    → ((worker : ℕ) (running : Running) → slot_at head.slots worker ≡ Some running →
    IsSlot rule head items worker running
    → found running.packet after ≡ found running.packet items)
    → AreSlots rule head items → AreSlots rule head after
slots_stay rule head items after there slots =
    followed rule head head items after slots (λ worker running runs. record {
      before = running;
      was = runs;
      same = refl;
      now = kept_slot rule head head items after worker running refl (λ p is. is)
          (λ held is. there worker running runs (slots.each worker running runs) ∙ is)
          (slots.each worker running runs);
    })

-- the same where only what is found stays found
pub slots_found : (rule : Rule) (head : HeadState) (items after : Items)
    → ((worker : ℕ) (running : Running) (held : HeldMessage) → slot_at head.slots worker ≡ Some running
    → found running.packet items ≡ Some held → found running.packet after ≡ Some held)
    → AreSlots rule head items → AreSlots rule head after
slots_found rule head items after there slots =
    followed rule head head items after slots (λ worker running runs. record {
      before = running;
      was = runs;
      same = refl;
      now = kept_slot rule head head items after worker running refl (λ p is. is)
          (λ held is. there worker running held runs is)
          (slots.each worker running runs);
    })

-- ---- no answers, and one more

no_front : {A : Type 0} (earlier later : List A) (x : A) → [] ≡ earlier ++ x ∷ later → ⊥
no_front [] later x same = absurd cc
no_front (y ∷ earlier) later x same = absurd cc

pub begun_slot : (rule : Rule) (head : HeadState) (items : Items) (worker packet age : ℕ) (held : HeldMessage)
    (bytes : List ℕ)
    → found packet items ≡ Some held → held.visited ≡ false → held.message.packet ≡ Some bytes
    → IsSlot rule head items worker (begun packet age)
begun_slot rule head items worker packet age held bytes there unvisited with_packet = record {
  held = held;
  there = there;
  unvisited = unvisited;
  packet = bytes;
  with_packet = with_packet;
  turn = tt;
  lent = λ _. record { each = λ earlier later answer whole asked. absurd (no_front earlier later answer whole) };
}

pub turn_more : (asks : List Answer → Ask) (answers : List Answer) (answer : Answer) → AllInTurn asks answers
    → Asks answer.key (asks answers) → AllInTurn asks (answers ++ answer ∷ [])
turn_more asks [] answer turn next = (next, tt)
turn_more asks (first ∷ answers) answer turn next =
    (turn.0, turn_more (λ more. asks (first ∷ more)) answers answer turn.1 next)

-- a list with one more item, cut before an item: the cut is in the list, or the item is the last
abbrev CutAt : {A : Type 0} → List A → A → List A → A → List A → Type 0
CutAt {A} items last earlier x later =
    ((rest : List A) × (items ≡ earlier ++ x ∷ rest)) ⊎ ((items ≡ earlier) × (last ≡ x))

cut : {A : Type 0} (items : List A) (last : A) (earlier : List A) (x : A) (later : List A)
    → items ++ last ∷ [] ≡ earlier ++ x ∷ later → CutAt items last earlier x later
cut {A} [] last [] x later same = let e : last ≡ x = cc in inr (refl, e)
cut {A} [] last (y ∷ earlier) x later same =
    let e : [] ≡ earlier ++ x ∷ later = cc in
    absurd (no_front earlier later x e)
cut {A} (z ∷ items) last [] x later same = let e : z ≡ x = cc in inl (items, ap (λ (v : A). v ∷ items) e)
cut {A} (z ∷ items) last (y ∷ earlier) x later same =
    let rest : items ++ last ∷ [] ≡ earlier ++ x ∷ later = cc in
    let first : z ≡ y = cc in
    ⊎_elim
    (λ inside. inl (inside.0, ap (λ (v : A). v ∷ items) first ∙ ap (λ (vs : List A). y ∷ vs) inside.1))
    (λ end. inr (ap (λ (v : A). v ∷ items) first ∙ ap (λ (vs : List A). y ∷ vs) end.0, end.1))
    (cut items last earlier x later rest)

-- ---- each call

-- another slot than the one that a call writes
pub others_follow : (rule : Rule) (old new : HeadState) (items : Items) (worker : ℕ) (slot : Option Running) →
    AreSlots rule old items
    → new.slots ≡ slice_set old.slots worker slot → new.partitions ≡ old.partitions
    → ((other : ℕ) → other ≢ worker → SameHoldings old.locks new.locks other)
    → (other : ℕ) (running : Running) → other ≢ worker → slot_at new.slots other ≡ Some running
    → IsFollowed rule old new items other running
others_follow rule old new items worker slot slots written partitions same other running differs runs =
    let was : slot_at old.slots other ≡ Some running =
    sym (slot_other old.slots worker other slot differs) ∙ ap (λ (xs : List (Option Running)). slot_at xs other)
    (sym written) ∙ runs in
    record {
      before = running;
      was = was;
      same = refl;
      now = kept_slot rule old new items items other running partitions
          (λ p held. ((same other differs).holdings p).exclusive ∙ held) (λ _ is. is) (slots.each other running was);
    }

no_slot : (slots : List (Option Running)) (worker : ℕ) (running : Running)
    → slot_at (slice_set slots worker None) worker ≡ Some running → ⊥
no_slot [] worker running runs = absurd cc
no_slot (slot ∷ slots) zero running runs = absurd cc
no_slot (slot ∷ slots) (suc worker) running runs = no_slot slots worker running runs

-- a slot is idle from now on, and the messages of the others are where they were
pub slots_idle : (rule : Rule) (old new : HeadState) (items after : Items) (worker : ℕ) → AreSlots rule old items
    → new.slots ≡ slice_set old.slots worker None → new.partitions ≡ old.partitions
    → ((other : ℕ) → other ≢ worker → SameHoldings old.locks new.locks other)
    → ((other : ℕ) (running : Running) → other ≢ worker → slot_at old.slots other ≡ Some running
    → found running.packet after ≡ found running.packet items)
    → AreSlots rule new after
slots_idle rule old new items after worker slots written partitions same there =
    let idle : (running : Running) → slot_at new.slots worker ≡ Some running → ⊥ = λ running runs.
    no_slot old.slots worker running (ap (λ (xs : List (Option Running)). slot_at xs worker) (sym written) ∙ runs) in
    followed rule old new items after slots (λ other running runs.
    ⊎_elim
    (λ is. absurd (idle running (ap (λ (w : ℕ). slot_at new.slots w) (sym is) ∙ runs)))
    (λ differs.
    let was : slot_at old.slots other ≡ Some running =
    sym (slot_other old.slots worker other None differs)
    ∙ ap (λ (xs : List (Option Running)). slot_at xs other) (sym written) ∙ runs in
    record {
      before = running;
      was = was;
      same = refl;
      now = kept_slot rule old new items after other running partitions
          (λ p held. ((same other differs).holdings p).exclusive ∙ held)
          (λ held is. there other running differs was ∙ is) (slots.each other running was);
    })
    (cases_eq other worker))

pub slots_quit : (rule : Rule) (old new : HeadState) (items : Items) (worker : ℕ) → HasHeadQuit old new worker
    → AreSlots rule old items → AreSlots rule new items
slots_quit rule old new items worker has slots =
    slots_idle rule old new items items worker slots has.slots
    (ap (λ (h : HeadState). h.partitions) has.rest) has.locks.others
    (λ other running differs was. refl)

-- the visit of what a slot runs is made, and its message is changed
pub slots_commit : (rule : Rule) (old new : HeadState) (items : Items) (worker : ℕ) (running : Running)
    (writes : List Write)
    (log : Option Logged) (change : HeldMessage → HeldMessage)
    → ((held : HeldMessage) → (change held).message.origin ≡ held.message.origin)
    → slot_at old.slots worker ≡ Some running → HasCommitted old new worker running writes log
    → AreSlots rule old items → AreSlots rule new (with_changed running.packet change items)
slots_commit rule old new items worker running writes log change keeps runs has slots =
    slots_idle rule old new items (with_changed running.packet change items) worker slots has.slots
    (ap (λ (h : HeadState). h.partitions) has.rest) has.locks.others
    (λ other another differs was.
    found_changed running.packet another.packet change items keeps
    (slots.once other worker another running differs was runs))

-- what a slot runs begins, or begins again
pub slots_restart : (rule : Rule) (head : HeadState) (items : Items) (worker : ℕ) (running : Running)
    → slot_at head.slots worker ≡ Some running → AreSlots rule head items →
    AreSlots rule (restarts head worker running) items
slots_restart rule head items worker running runs slots =
    let new = restarts head worker running in
    let now : slot_at new.slots worker ≡ Some (restarted running) =
    slot_set head.slots worker (Some (restarted running)) (slot_within head.slots worker running runs) in
    let slot = slots.each worker running runs in
    followed rule head new items items slots (λ other again at.
    ⊎_elim
    (λ is.
    let same : again ≡ restarted running =
    same_Some again (restarted running) (sym at ∙ ap (λ (w : ℕ). slot_at new.slots w) is ∙ now) in
    record {
      before = running;
      was = ap (λ (w : ℕ). slot_at head.slots w) is ∙ runs;
      same = ap (λ (r : Running). r.packet) same;
      now = subst (λ (w : ℕ). IsSlot rule new items w again) (sym is)
          (subst (λ (r : Running). IsSlot rule new items worker r) (sym same)
          (begun_slot rule new items worker running.packet running.age slot.held slot.packet slot.there slot.unvisited
          slot.with_packet));
    })
    (λ differs. others_follow rule head new items worker (Some (restarted running)) slots refl refl
    (λ other _. same_holdings head.locks other) other again differs at)
    (cases_eq other worker))

-- a slot that was idle begins a packet that no slot runs
pub slots_begun : (rule : Rule) (head : HeadState) (items : Items) (worker packet : ℕ) (held : HeldMessage)
    (bytes : List ℕ)
    → worker < length head.slots
    → ((other : ℕ) (running : Running) → slot_at head.slots other ≡ Some running → running.packet ≢ packet)
    → found packet items ≡ Some held → held.visited ≡ false → held.message.packet ≡ Some bytes
    → AreSlots rule head items → AreSlots rule (begins head worker packet) items
slots_begun rule head items worker packet held bytes within fresh there unvisited with_packet slots =
    let new = begins head worker packet in
    let start = begun packet (next_age head) in
    let now : slot_at new.slots worker ≡ Some start = slot_set head.slots worker (Some start) within in
    let own_is : (running : Running) → slot_at new.slots worker ≡ Some running → running ≡ start =
    λ running at. same_Some running start (sym at ∙ now) in
    let was : (other : ℕ) (running : Running) → other ≢ worker → slot_at new.slots other ≡ Some running →
    slot_at head.slots other ≡ Some running =
    λ other running differs at. sym (slot_other head.slots worker other (Some start) differs) ∙ at in
    record {
      each = λ other running at.
          ⊎_elim
          (λ is.
          let same = own_is running (ap (λ (w : ℕ). slot_at new.slots w) (sym is) ∙ at) in
          subst (λ (w : ℕ). IsSlot rule new items w running) (sym is)
          (subst (λ (r : Running). IsSlot rule new items worker r) (sym same)
          (begun_slot rule new items worker packet (next_age head) held bytes there unvisited with_packet)))
          (λ differs.
          kept_slot rule head new items items other running refl (λ p is. is) (λ _ is. is)
          (slots.each other running (was other running differs at)))
          (cases_eq other worker);
      once = λ one two running another differs first second.
          ⊎_elim
          (λ is.
          let same = own_is running (ap (λ (w : ℕ). slot_at new.slots w) (sym is) ∙ first) in
          let other_differs : two ≢ worker = λ too. differs (is ∙ sym too) in
          λ packets. fresh two another (was two another other_differs second)
          (sym packets ∙ ap (λ (r : Running). r.packet) same))
          (λ isnt.
          ⊎_elim
          (λ is.
          let same = own_is another (ap (λ (w : ℕ). slot_at new.slots w) (sym is) ∙ second) in
          λ packets. fresh one running (was one running isnt first)
          (packets ∙ ap (λ (r : Running). r.packet) same))
          (λ isnt_two. slots.once one two running another differs (was one running isnt first)
          (was two another isnt_two second))
          (cases_eq two worker))
          (cases_eq one worker);
    }

wounded_is : (by : ℕ) (slot : Option Running) (again : Running) → wounded_by by slot ≡ Some again
    → (before : Running) × (slot ≡ Some before) × (record before { wounded = Some by } ≡ again)
wounded_is by None again is = absurd cc
wounded_is by (Some before) again is = (before, refl, same_Some (record before { wounded = Some by }) again is)

no_wound : {A : Type 0} (by : ℕ) → ◌≡◌ {A = Option ℕ} (Some by) None → A
no_wound by is = absurd cc

-- what another wounded is in its place, and is owed nothing
wounded_slot : (rule : Rule) (old new : HeadState) (items : Items) (worker by : ℕ) (before : Running)
    → IsSlot rule old items worker before → IsSlot rule new items worker (record before { wounded = Some by })
wounded_slot rule old new items worker by before slot = record {
  held = slot.held;
  there = slot.there;
  unvisited = slot.unvisited;
  packet = slot.packet;
  with_packet = slot.with_packet;
  turn = slot.turn;
  lent = λ unwounded. no_wound by unwounded;
}

same_key : (one other : List ℕ) (change leave : Bool) → Read one change ≡ Read other leave → one ≡ other
same_key one other change leave same = cc

same_leave : (one other : List ℕ) (change leave : Bool) → Read one change ≡ Read other leave → change ≡ leave
same_leave one other change leave same = cc

-- one more answer, to what the rule asked for
answered_slot : (rule : Rule) (old new : HeadState) (items : Items) (worker : ℕ) (running : Running) (key : List ℕ)
    (change : Bool)
    (value : Option (List ℕ)) (slot : IsSlot rule old items worker running) → running.wounded ≡ None
    → ask rule slot.packet running.answers ≡ Read key change → HasHeadRead old new worker running key change value
    → IsSlot rule new items worker (answered running (record { key = key; value = value }))
answered_slot rule old new items worker running key change value slot unwounded asks read =
    let partitions : new.partitions ≡ old.partitions = ap (λ (h : HeadState). h.partitions) read.rest in
    record {
      held = slot.held;
      there = slot.there;
      unvisited = slot.unvisited;
      packet = slot.packet;
      with_packet = slot.with_packet;
      turn = turn_more (ask rule slot.packet) running.answers (record { key = key; value = value }) slot.turn
          (subst (Asks key) (sym asks) refl);
      lent = λ _. record {
        each = λ earlier later answer whole asked.
            ⊎_elim
            (λ inside.
            let held = (slot.lent unwounded).each earlier inside.0 answer inside.1 asked in
            subst (λ (p : ℕ). holds_exclusively new.locks worker (partition_of p answer.key) ≡ true) (sym partitions)
            (own old new worker (partition_of old.partitions answer.key) running key change value read held))
            (λ end.
            let same : Read key change ≡ Read answer.key true = sym asks ∙ ap (ask rule slot.packet) end.0 ∙ asked in
            let leave : change ≡ true = same_leave key answer.key change true same in
            let lent : holds_exclusively new.locks worker (partition_of new.partitions key) ≡ true =
            changed old new worker running key value
            (subst (λ (b : Bool). HasHeadRead old new worker running key b value) leave read) in
            subst (λ (k : List ℕ). holds_exclusively new.locks worker (partition_of new.partitions k) ≡ true)
            (same_key key answer.key change true same) lent)
            (cut running.answers (record { key = key; value = value }) earlier answer later whole);
      };
    }

-- what the rule asks of what a slot runs
pub asked_there : (rule : Rule) (head : HeadState) (items : Items) (worker : ℕ) (running : Running) (asked : Ask)
    (slot : IsSlot rule head items worker running) → ask_of_held rule running (found running.packet items) ≡ Some asked
    → ask rule slot.packet running.answers ≡ asked
asked_there rule head items worker running asked slot is =
    same_Some (ask rule slot.packet running.answers) asked
    (sym (ap (λ (f : Option HeldMessage). ask_of_held rule running f) slot.there
    ∙ ap (option_map (λ (bytes : List ℕ). ask rule bytes running.answers)) slot.with_packet) ∙ is)

pub slots_read : (rule : Rule) (old new : HeadState) (items : Items) (worker : ℕ) (key : List ℕ) (change : Bool)
    (answer : ReadAnswer)
    → HeadReads old new worker key change answer
    → ((running : Running) → RunsUnwounded old worker running →
    ask_of_held rule running (found running.packet items) ≡ Some (Read key change))
    → AreSlots rule old items → AreSlots rule new items
slots_read rule old new items worker key change (Value value) reads asked slots =
    let running = reads.0 in
    let runs = reads.1 in
    let read = reads.2 in
    let slot = slots.each worker running runs.slot in
    let partitions : new.partitions ≡ old.partitions = ap (λ (h : HeadState). h.partitions) read.rest in
    let asks = asked_there rule old items worker running (Read key change) slot (asked running runs) in
    let more = answered running (record { key = key; value = value }) in
    let conflict = conflicts old.locks worker (partition_of old.partitions key) change in
    followed rule old new items items slots (λ other again at.
    ⊎_elim
    (λ is.
    let same = same_Some again more (sym at ∙ ap (λ (w : ℕ). slot_at new.slots w) is ∙ read.answered) in
    record {
      before = running;
      was = ap (λ (w : ℕ). slot_at old.slots w) is ∙ runs.slot;
      same = ap (λ (r : Running). r.packet) same;
      now = subst (λ (w : ℕ). IsSlot rule new items w again) (sym is)
          (subst (λ (r : Running). IsSlot rule new items worker r) (sym same)
          (answered_slot rule old new items worker running key change value slot runs.unwounded asks read));
    })
    (λ differs.
    ⊎_elim
    (λ hit.
    let was = wounded_is worker (slot_at old.slots other) again (sym (read.wounded other hit) ∙ at) in
    record {
      before = was.0;
      was = was.1;
      same = ap (λ (r : Running). r.packet) (sym was.2);
      now = subst (λ (r : Running). IsSlot rule new items other r) was.2
          (wounded_slot rule old new items other worker was.0 (slots.each other was.0 was.1));
    })
    (λ missed.
    let was : slot_at old.slots other ≡ Some again = sym (read.others other differs missed) ∙ at in
    record {
      before = again;
      was = was;
      same = refl;
      now = kept_slot rule old new items items other again partitions
          (λ p held. ((read.locks.others other differs missed).holdings p).exclusive ∙ held)
          (λ _ there. there) (slots.each other again was);
    })
    (cases_Bool (conflict other)))
    (cases_eq other worker))
slots_read rule old new items worker key change (Blocked holder) reads asked slots =
    subst (λ (h : HeadState). AreSlots rule h items) (sym reads.3) slots
slots_read rule old new items worker key change (WoundedRead by) reads asked slots =
    subst (λ (h : HeadState). AreSlots rule h items) (sym reads.2)
    (slots_restart rule old items worker reads.0 reads.1.slot slots)
slots_read rule old new items worker key change IdleRead reads asked slots =
    subst (λ (h : HeadState). AreSlots rule h items) (sym reads.1) slots
slots_read rule old new items worker key change NotAsked reads asked slots = absurd reads

runs_none : (slots : List (Option Running)) (packet worker : ℕ) (running : Running) →
    list_any (runs_packet packet) slots ≡ false
    → slot_at slots worker ≡ Some running → running.packet == packet ≡ false
runs_none [] packet worker running none runs = absurd cc
runs_none (slot ∷ slots) packet zero running none runs =
    elim slot as (λ (o : Option Running). o ≡ Some running →
    runs_packet packet o || list_any (runs_packet packet) slots ≡ false
    → running.packet == packet ≡ false) [
      | None ↦ λ is _. absurd cc
      | Some another ↦ λ is either.
          let same : another ≡ running = cc in
          ap (λ (r : Running). r.packet == packet) (sym same) ∙ (or_parts (another.packet == packet)
          (list_any (runs_packet packet) slots) either).0
    ] runs none
runs_none (slot ∷ slots) packet (suc worker) running none runs =
    runs_none slots packet worker running
    (or_parts (runs_packet packet slot) (list_any (runs_packet packet) slots) none).1 runs

-- no slot runs the packet
pub not_run : (head : HeadState) (packet : ℕ) → is_running head packet ≡ false
    → (worker : ℕ) (running : Running) → slot_at head.slots worker ≡ Some running → running.packet ≢ packet
not_run head packet none worker running runs same =
    let isnt = runs_none head.slots packet worker running none runs in
    true_false (running.packet == packet) (eq-eqb running.packet packet same) isnt

-- a slot that is wounded isn't asked anything
pub wounded_apart : {A : Type 0} (head : HeadState) (worker : ℕ) (running : Running) →
    is_some (wounded_at head.slots worker) ≡ true
    → RunsUnwounded head worker running → A
wounded_apart head worker running some runs =
    let none : is_some (wounded_at head.slots worker) ≡ false =
    ap (λ (o : Option Running). is_some (wounded_of o)) runs.slot ∙ ap
    (λ (w : Option ℕ). is_some w) runs.unwounded in
    true_false (is_some (wounded_at head.slots worker)) some none

-- what a slot runs was wounded, so that its commit restarts it
pub slots_restarted : (rule : Rule) (old new : HeadState) (items : Items) (worker : ℕ) (writes : List Write)
    (answer : HeadCommit)
    → is_some (wounded_at old.slots worker) ≡ true → Commits old new worker writes answer
    → AreSlots rule old items → AreSlots rule new items
slots_restarted rule old new items worker writes (Done log) some commits slots =
    wounded_apart old worker commits.0 some commits.1
slots_restarted rule old new items worker writes (WoundedCommit by) some commits slots =
    subst (λ (h : HeadState). AreSlots rule h items) (sym commits.2)
    (slots_restart rule old items worker commits.0 commits.1.slot slots)
slots_restarted rule old new items worker writes IdleCommit some commits slots =
    subst (λ (h : HeadState). AreSlots rule h items) (sym commits.1) slots
slots_restarted rule old new items worker writes NoMemory some commits slots =
    subst (λ (h : HeadState). AreSlots rule h items) (sym commits.2) slots

-- messages that lack a log are dropped, but not those that slots run
pub slot_ready : (replicas : List (Option Held)) (items : Items) (slots : List (Option Running)) (worker : ℕ)
    (running : Running)
    → list_all (slot_is_ready replicas items) slots ≡ true → slot_at slots worker ≡ Some running
    → is_ready_one replicas (found running.packet items) ≡ true
slot_ready replicas items [] worker running all runs = absurd cc
slot_ready replicas items (slot ∷ slots) zero running all runs =
    let first = (and_parts (slot_is_ready replicas items slot) (list_all (slot_is_ready replicas items) slots) all).0 in
    let same : slot ≡ Some running = runs in
    ap (slot_is_ready replicas items) (sym same) ∙ first
slot_ready replicas items (slot ∷ slots) (suc worker) running all runs =
    slot_ready replicas items slots worker running
    (and_parts (slot_is_ready replicas items slot) (list_all (slot_is_ready replicas items) slots) all).1 runs

pub slots_dropped : (rule : Rule) (head : HeadState) (items : Items) (replicas : List (Option Held))
    → slots_are_ready replicas head items ≡ true → AreSlots rule head items
    → AreSlots rule head (filter (is_ready replicas) items)
slots_dropped rule head items replicas ready slots =
    slots_found rule head items (filter (is_ready replicas) items)
    (λ worker running held runs there.
    let is = slot_ready replicas items head.slots worker running ready runs in
    found_kept (is_of running.packet) (is_ready replicas) items held there
    (ap (is_ready_one replicas) (sym there) ∙ is)) slots

-- a message leaves whose packet isn't to be visited
pub slots_without : (rule : Rule) (head : HeadState) (items : Items) (origin : ℕ) (held : HeldMessage)
    → found origin items ≡ Some held → is_waiting held ≡ false → AreSlots rule head items
    → AreSlots rule head (without origin items)
slots_without rule head items origin held there waiting slots =
    slots_stay rule head items (without origin items)
    (λ worker running runs slot.
    found_without origin running.packet items (λ same.
    let here : held ≡ slot.held =
    same_Some held slot.held (sym there ∙ ap (λ (o : ℕ). found o items) (sym same) ∙ slot.there) in
    let waits : is_waiting slot.held ≡ true = is_waiting_so slot.held slot.packet slot.unvisited slot.with_packet in
    true_false (is_waiting slot.held) waits (ap is_waiting (sym here) ∙ waiting))) slots

-- what the rule asks of a slot, where it is known what the slot runs
pub asked_of : (server : Server) (worker : ℕ) (running : Running) (asked : Ask) →
    RunsUnwounded server.head worker running
    → ask_in server worker ≡ Some asked
    → ask_of_held server.rule running (found running.packet server.held.items) ≡ Some asked
asked_of server worker running asked runs is = ap (ask_of_slot server) (sym runs.slot) ∙ is

-- what a slot runs is asked something
asked_slot : (server : Server) (worker : ℕ) (slot : Option Running) → slot_at server.head.slots worker ≡ slot
    → AreSlots server.rule server.head server.held.items → is_some (packet_of slot) ≡ true →
    ask_of_slot server slot ≡ None → ⊥
asked_slot server worker None is slots some none = absurd cc
asked_slot server worker (Some running) is slots some none =
    let slot = slots.each worker running is in
    let asks : ask_of_held server.rule running (found running.packet server.held.items)
    ≡ Some (ask server.rule slot.packet running.answers) =
    ap (λ (f : Option HeldMessage). ask_of_held server.rule running f) slot.there
    ∙ ap (option_map (λ (bytes : List ℕ). ask server.rule bytes running.answers)) slot.with_packet in
    none_or_some (ask_of_held server.rule running (found running.packet server.held.items))
    (ask server.rule slot.packet running.answers) none asks

pub asked_somewhat : (server : Server) (worker : ℕ) → is_some (packet_at server.head.slots worker) ≡ true →
    ask_in server worker ≡ None
    → ∥ AreSlots server.rule server.head server.held.items ∥₁ → ⊥
asked_somewhat server worker some none slots =
    ∥∥₁_elim slots (λ x y. absurd x) (λ s. asked_slot server worker (slot_at server.head.slots worker) refl s some none)

pub idle_slots : (rule : Rule) (head : HeadState) (items : Items) → ((worker : ℕ) → slot_at head.slots worker ≡ None)
    → AreSlots rule head items
idle_slots rule head items idle = record {
  each = λ worker running runs. absurd (none_or_some (slot_at head.slots worker) running (idle worker) runs);
  once = λ worker other running another differs runs others. absurd
      (none_or_some (slot_at head.slots worker) running (idle worker) runs);
}

-- Each call keeps what holds of a head.
use Rattle.std.proofs.Common.{◌≡◌, ◌≢◌, ◌<◌, ℕ, Bool, true, List, [], ◌∷◌, length, Option, Some, None, refl, sym, ap}
use Rattle.std.proofs.Common.{subst, ◌∙◌, inl, inr, ⊎_elim, arith}
use Rattle.std.specs.Prelude.{◌⊎◌, IfSome, slice_set, nat_eq}
use Rattle.std.specs.Cmp.Lexicographic.{pointwise}
use Rattle.std.specs.List.{AllByRecursion}
use Rattle.std.specs.FinMap.{get, get-insert, get-remove}
use Rattle.std.proofs.lemmas.Bool.{cases_eq, cases_Bool, cond-false, false_from_ne_true}
use Rattle.std.proofs.lemmas.Bool.Decides.{Decides-eqb}
use Rattle.std.proofs.lemmas.Cmp.{nat_list_cmp_total}
use Rattle.std.proofs.lemmas.Slice.Eq.{slice_eq-Decides}
use Rattle.ftc_base.specs.declared.ask.Answer.{Answer}
use Rattle.ftc_base.specs.declared.ask.Write.{Write}
use Rattle.ftc_base.specs.Partition.{partition_of}
use Rattle.ftc_store.specs.Store.{Content, changed, written}
use Rattle.ftc_store.proofs.Lookups.{same_test}
use Rattle.ftc_locks.specs.Locks.{Locks, holds, holds_exclusively, conflicts, SameHoldings, IsLockTable}
use Rattle.ftc_txn.specs.Slots.{Running, slot_at, begun, restarted, answered, IsTurn}
use Rattle.ftc_txn.specs.declared.turn.Turn.TheVariants.{Wounded}
use Rattle.ftc_txn.specs.Head.{HeadState, RunsUnwounded, RunsWounded, IsCurrent, IsRunning, IsHead, AreItsWrites}
use Rattle.ftc_txn.specs.Head.{next_age}
use Rattle.ftc_txn.specs.Steps.{begins, restarts, IsGranted, IsFreed, HasHeadRead, HasHeadQuit}
use Rattle.ftc_base.proofs.EachOf.{all_push, all-weaker}
use Rattle.ftc_store.proofs.Listing.{same_key}
use Rattle.ftc_txn.proofs.Kept.{not_both, none_or_some, slot_within, some_run_at, slot_set, slot_other}
use Rattle.ftc_txn.proofs.Kept.{same_holdings, Stays, WasWounded, keeps}

pub some_of : {A : Type 0} (o : Option A) (x y : A) → o ≡ Some x → o ≡ Some y → x ≡ y
some_of o x y first second = cc

-- the slot of another stays where one slot is written and the locks of others stay
others_stay : (old new : HeadState) (worker : ℕ) (slot : Option Running) → new.slots ≡ slice_set old.slots worker slot →
    ((other : ℕ) → other ≢ worker → SameHoldings old.locks new.locks other) → (other : ℕ) → other ≢ worker →
    Stays old new other ⊎ WasWounded old new worker other
others_stay old new worker slot is same other differs =
    inl (record { slot = rw is (slot_other old.slots worker other slot differs); holdings = same other differs })

drawn_before : (head : HeadState) (worker : ℕ) (running : Running) → IsHead head →
    slot_at head.slots worker ≡ Some running → running.age < next_age head
drawn_before head worker running valid is =
    rw (some_run_at head.slots worker running is) (omega (arith, (valid.running worker running is).drawn))

pub begin_keeps : (old : HeadState) (worker packet : ℕ) → worker < length old.slots → IsHead old →
    slot_at old.slots worker ≡ None → IsHead (begins old worker packet)
begin_keeps old worker packet within valid none =
    let new : HeadState = begins old worker packet in
    let here : slot_at new.slots worker ≡ Some (begun packet (next_age old)) = slot_set old.slots worker _ within in
    keeps old new worker valid refl
    (others_stay old new worker (Some (begun packet (next_age old))) refl (λ other _. same_holdings old.locks other))
    (λ _ _ _ _. refl)
    (λ other running _ is. omega (arith, drawn_before old other running valid is))
    (λ is. absurd (none_or_some (slot_at new.slots worker) _ is here))
    (λ running is. subst (λ (r : Running). IsRunning new worker r)
    (some_of (slot_at new.slots worker) (begun packet (next_age old)) running here is) (record {
      drawn = omega arith;
      age = λ p held. not_both (holds old.locks worker p) ((valid.idle worker none).held p) held;
      wounded = λ by is. absurd cc;
      answers = λ _. tt;
    }))
    (λ running another other _ is other_is same_age.
    let age_is : next_age old ≡ running.age =
    ap (λ (r : Running). r.age)
    (some_of (slot_at new.slots worker) (begun packet (next_age old)) running here is) in
    omega (arith, drawn_before old other another valid other_is))

restart_keeps : (old : HeadState) (worker by : ℕ) (running : Running) → IsHead old →
    RunsWounded old worker running by → IsHead (restarts old worker running)
restart_keeps old worker by running valid runs =
    let new : HeadState = restarts old worker running in
    let was : IsRunning old worker running = valid.running worker running runs.slot in
    let here : slot_at new.slots worker ≡ Some (restarted running) =
    slot_set old.slots worker _ (slot_within old.slots worker running runs.slot) in
    keeps old new worker valid refl
    (others_stay old new worker (Some (restarted running)) refl (λ other _. same_holdings old.locks other))
    (λ _ _ _ _. refl)
    (λ other another _ is. (valid.running other another is).drawn)
    (λ is. absurd (none_or_some (slot_at new.slots worker) _ is here))
    (λ r is. subst (λ (r : Running). IsRunning new worker r)
    (some_of (slot_at new.slots worker) (restarted running) r here is) (record {
      drawn = was.drawn;
      age = was.age;
      wounded = λ by is. absurd cc;
      answers = λ _. tt;
    }))
    (λ r another other differs is other_is same_age.
    let age_is : running.age ≡ r.age =
    ap (λ (r : Running). r.age) (some_of (slot_at new.slots worker) (restarted running) r here is) in
    valid.ages worker other running another (λ e. differs (sym e)) runs.slot other_is (age_is ∙ same_age))

-- the same where the slots are those that a restart leaves
pub restarted_keeps : (old : HeadState) (worker by : ℕ) (slots : List (Option Running)) → IsHead old →
    IsTurn (slot_at old.slots worker) (Wounded by) →
    IfSome (slot_at old.slots worker) (λ running. slots ≡ slice_set old.slots worker (Some (restarted running))) →
    IsHead (record old { slots = slots })
restarted_keeps old worker by slots valid (running, slot, wounded) left =
    let written : slots ≡ slice_set old.slots worker (Some (restarted running)) = rw slot at left in
    rw written (restart_keeps old worker by running valid (record { slot = slot; wounded = wounded }))

-- a slot that becomes idle and frees its locks, where the content stays at the answers of others
freed_keeps : (old new : HeadState) (worker : ℕ) → worker < length old.slots → IsHead old →
    new.partitions ≡ old.partitions → new.last ≡ old.last → new.slots ≡ slice_set old.slots worker None →
    IsFreed old.locks new.locks worker →
    ((other : ℕ) (answer : Answer) → other ≢ worker → IsCurrent old other answer →
    get new.content answer.key ≡ get old.content answer.key) → IsHead new
freed_keeps old new worker within valid partitions last slots freed content =
    let here : slot_at new.slots worker ≡ None = rw slots (slot_set old.slots worker None within) in
    keeps old new worker valid partitions (others_stay old new worker None slots freed.others) content
    (λ other another _ is. rw last (valid.running other another is).drawn)
    (λ _. freed.nothing)
    (λ r is. absurd (none_or_some (slot_at new.slots worker) r here is))
    (λ r another other _ is. absurd (none_or_some (slot_at new.slots worker) r here is))

pub quit_keeps : (old new : HeadState) (worker : ℕ) → worker < length old.slots → IsHead old →
    HasHeadQuit old new worker → IsHead new
quit_keeps old new worker within valid quit =
    freed_keeps old new worker within valid (ap (λ (h : HeadState). h.partitions) quit.rest)
    (ap (λ (h : HeadState). h.last) quit.rest) quit.slots quit.locks
    (λ _ answer _ _. ap (λ (h : HeadState). get h.content answer.key) quit.rest)

-- what the worker held it still holds
still_held : (old new : HeadState) (worker age partition : ℕ) (change : Bool) (p : ℕ) →
    IsGranted old.locks new.locks worker age partition change → holds old.locks worker p ≡ true →
    holds new.locks worker p ≡ true
still_held old new worker age partition change p granted held =
    ⊎_elim (λ same. subst (λ (q : ℕ). holds new.locks worker q ≡ true) (sym same) granted.held)
    (λ differs. (granted.own p differs).held ∙ held) (cases_eq p partition)

pub read_keeps : (old new : HeadState) (worker : ℕ) (running : Running) (key : List ℕ) (change : Bool)
    (value : Option (List ℕ)) → IsHead old → RunsUnwounded old worker running →
    HasHeadRead old new worker running key change value → IsHead new
read_keeps old new worker running key change value valid runs read =
    let was : IsRunning old worker running = valid.running worker running runs.slot in
    let content : new.content ≡ old.content = ap (λ (h : HeadState). h.content) read.rest in
    let partitions : new.partitions ≡ old.partitions = ap (λ (h : HeadState). h.partitions) read.rest in
    let last : new.last ≡ old.last = ap (λ (h : HeadState). h.last) read.rest in
    let answer : Answer = record { key = key; value = value } in
    keeps old new worker valid partitions
    (λ other differs. ⊎_elim
    (λ is. inr (record { slot = read.wounded other is; nothing = read.locks.wounded other is }))
    (λ isnt. inl (record { slot = read.others other differs isnt; holdings = read.locks.others other differs isnt }))
    (cases_Bool (conflicts old.locks worker (partition_of old.partitions key) change other)))
    (λ _ a _ _. ap (λ (c : Content). get c a.key) content)
    (λ other another _ is. rw last (valid.running other another is).drawn)
    (λ is. absurd (none_or_some (slot_at new.slots worker) _ is read.answered))
    (λ r is. subst (λ (r : Running). IsRunning new worker r)
    (some_of (slot_at new.slots worker) (answered running answer) r read.answered is) (record {
      drawn = rw last was.drawn;
      age = λ _ _. read.locks.with_age;
      wounded = λ by is. absurd (none_or_some running.wounded by runs.unwounded is);
      answers = λ _. all_push (IsCurrent new worker) running.answers answer
          (all-weaker (IsCurrent old worker) (IsCurrent new worker) (λ a current. record {
            value = rw content current.value;
            held = rw partitions (still_held old new worker running.age (partition_of old.partitions key) change
                (partition_of old.partitions a.key) read.locks current.held);
          }) running.answers (was.answers runs.unwounded))
          (record { value = rw content (sym read.read); held = rw partitions read.locks.held });
    }))
    (λ r another other differs is other_is same_age.
    let age_is : running.age ≡ r.age =
    ap (λ (r : Running). r.age) (some_of (slot_at new.slots worker) (answered running answer) r read.answered is) in
    valid.ages worker other running another (λ e. differs (sym e)) runs.slot other_is (age_is ∙ same_age))

-- a write at one key changes nothing at another
changed_other : (content : Content) (key : List ℕ) (value : Option (List ℕ)) (q : List ℕ) → q ≢ key →
    get (changed content key value) q ≡ get content q
changed_other content key None q differs =
    get-remove nat_list_cmp_total content key q ∙ cond-false _ _ _
    (false_from_ne_true _ (λ same. differs (same_key q key (same_test q key ∙ same))))
changed_other content key (Some value) q differs =
    get-insert nat_list_cmp_total content key value q ∙ cond-false _ _ _
    (false_from_ne_true _ (λ same. differs (same_key q key (same_test q key ∙ same))))

written_other : (writes : List Write) (content : Content) (q : List ℕ) →
    AllByRecursion (λ write. q ≢ write.key) writes → get (written writes content) q ≡ get content q
written_other [] content q differs = refl
written_other (write ∷ writes) content q differs =
    written_other writes (changed content write.key write.value) q differs.1 ∙ changed_other content write.key
    write.value q differs.0

-- the keys whose partitions one worker holds exclusively are not those whose partitions another holds
keys_differ : (locks : Locks) (worker other partitions : ℕ) (writes : List Write) (q : List ℕ) → IsLockTable locks →
    other ≢ worker → AllByRecursion (λ write. holds_exclusively locks worker (partition_of partitions write.key)
    ≡ true) writes → holds locks other (partition_of partitions q) ≡ true →
    AllByRecursion (λ write. q ≢ write.key) writes
keys_differ locks worker other partitions writes q valid differs exclusive held =
    all-weaker (λ write. holds_exclusively locks worker (partition_of partitions write.key)
    ≡ true) (λ write. q ≢ write.key) (λ write alone same.
    differs (valid.alone worker other (partition_of partitions write.key) alone
    (subst (λ (k : List ℕ). holds locks other (partition_of partitions k) ≡ true) same held))) writes exclusive

pub commit_keeps : (old new : HeadState) (worker : ℕ) (running : Running) (writes : List Write) →
    IsLockTable old.locks → IsHead old → RunsUnwounded old worker running → AreItsWrites old worker running writes →
    new.partitions ≡ old.partitions → new.last ≡ old.last → new.content ≡ written writes old.content →
    new.slots ≡ slice_set old.slots worker None → IsFreed old.locks new.locks worker → IsHead new
commit_keeps old new worker running writes table valid runs its partitions last content slots freed =
    freed_keeps old new worker (slot_within old.slots worker running runs.slot) valid partitions last slots freed
    (λ other answer differs current.
    rw content (written_other writes old.content answer.key
    (keys_differ old.locks worker other old.partitions writes answer.key table differs its.exclusive current.held)))

-- the answers of a slot that isn't wounded are what the content has
pub answers_current : (head : HeadState) (worker : ℕ) (running : Running) → IsHead head →
    RunsUnwounded head worker running →
    AllByRecursion (λ answer. get head.content answer.key ≡ answer.value) running.answers
answers_current head worker running valid runs =
    all-weaker (IsCurrent head worker) (λ answer. get head.content answer.key
    ≡ answer.value) (λ answer current. current.value) running.answers
    ((valid.running worker running runs.slot).answers runs.unwounded)

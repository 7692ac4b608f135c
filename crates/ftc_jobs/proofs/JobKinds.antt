-- Which jobs are of which kind, and where a legal job of a message is.
use Rattle.std.proofs.Common.{◌≡◌, ◌↔◌, length, get_or, if◌then◌else◌, ◌∙◌, ◌++◌, ◌⊎◌, ◌+◌, ◌<◌, ◌≤◌, ◌==◌, ◌&&◌, ℕ}
use Rattle.std.proofs.Common.{suc, Bool, true, false, List, [], ◌∷◌, Option, Some, None, inl, inr, refl, sym, ap, subst}
use Rattle.std.proofs.Common.{arith, take, drop, eqb-true, ltb-true, cond, append_assoc}
use Rattle.std.specs.Prelude.{nat_lt}
use Rattle.std.specs.List.{AllByRecursion, find}
use Rattle.std.specs.Option.{option_map}
use Rattle.std.proofs.lemmas.Bool.{and_parts, cases_lt, or_cases}
use Rattle.ftc_base.proofs.EachOf.{all-weaker, all-back}
use Rattle.ftc_journal.specs.declared.job.Job.{Job}
use Rattle.ftc_journal.specs.declared.job.Job.TheVariants.{Enter, Take, Apply, Visit, Pass, Lose, Carry, Crash, Recover}
use Rattle.ftc_journal.specs.declared.job.Job.TheVariants.{Pull, Propagate}
use Rattle.ftc_message.specs.declared.message.Message.{Message as SentMessage}
use Rattle.ftc_message.specs.Logged.{Logged, log_follows, logs_rise}
use Rattle.ftc_message.specs.Ordered.{is_log_of}
use Rattle.ftc_serial.specs.Words.{AnyOf, EachLater}
use Rattle.ftc_protocol.specs.Jobs.{IsLegalJob}
use Rattle.ftc_protocol.specs.Legal.{IsHeld}
use Rattle.ftc_protocol.proofs.TraceLemmas.{any_map}
use Rattle.ftc_protocol.specs.Setting.{Setting}
use Rattle.ftc_protocol.specs.State.{Message, ChainState}
use Rattle.ftc_server.specs.declared.held.HeldMessage.{HeldMessage}
use Rattle.ftc_server.specs.declared.server.Server.{Server}
use Rattle.ftc_server.specs.Holding.{found, is_of}
use Rattle.ftc_server.specs.Looks.{message_in}
use Rattle.ftc_standing.proofs.Arriving.{in_front}
use Rattle.ftc_jobs.specs.Applies.{may_apply_now}
use Rattle.ftc_jobs.specs.All.{AreJobs, HasJobsOf, IsOfLink, IsOfLinks, IsOfLogs, IsOfMessage, IsOfMessages, IsOfServer}
use Rattle.ftc_jobs.specs.All.{IsOfServers, IsEnter, IsPropagate}
use Rattle.ftc_jobs.proofs.AllJobs.{adds_as, adds_if, adds_item, adds_then, items_around, some_of}
use Rattle.ftc_jobs.proofs.ApplyNow.{applicable}

-- ---- logs that rise

abbrev IsBehind : ℕ → ℕ → Logged → Type 0
IsBehind origin group log = (origin < log.origin) ⊎ ((origin ≡ log.origin) × (group < log.group))

follows : (origin group : ℕ) (log : Logged) → log_follows (Some (origin, group)) log.origin log.group ≡ true →
    IsBehind origin group log
follows origin group log is =
    elim (or_cases (nat_lt origin log.origin) (origin == log.origin && nat_lt group log.group) is) [
      | inl less ↦ inl (ltb-true origin log.origin less)
      | inr same ↦
          let parts = and_parts (origin == log.origin) (nat_lt group log.group) same in
          inr (eqb-true origin log.origin parts.0, ltb-true group log.group parts.1)
    ]

further : (origin group : ℕ) (one other : Logged) → IsBehind origin group one → IsBehind one.origin one.group other →
    IsBehind origin group other
further origin group one other (inl less) (inl more) = inl (omega (arith, less, more))
further origin group one other (inl less) (inr same) = let e = same.0 in inl (omega (arith, less, e))
further origin group one other (inr same) (inl more) = let e = same.0 in inl (omega (arith, e, more))
further origin group one other (inr same) (inr also) =
    let less = same.1 in let more = also.1 in (inr (same.0 ∙ also.0, omega (arith, less, more)))

all_behind : (origin group : ℕ) (logs : List Logged) → logs_rise (Some (origin, group)) logs ≡ true →
    AllByRecursion (IsBehind origin group) logs
all_behind origin group [] rise = tt
all_behind origin group (log ∷ logs) rise =
    let parts = and_parts (log_follows (Some (origin, group)) log.origin log.group)
    (logs_rise (Some (log.origin, log.group)) logs) rise in
    let first = follows origin group log parts.0 in (
      first,
      all-weaker (IsBehind log.origin log.group) (IsBehind origin group)
          (λ other more. further origin group log other first more)
          logs (all_behind log.origin log.group logs parts.1),
    )

each_behind : (last : Option (ℕ × ℕ)) (logs : List Logged) → logs_rise last logs ≡ true →
    EachLater (λ (one other : Logged). IsBehind one.origin one.group other) logs
each_behind last [] rise = tt
each_behind last (log ∷ logs) rise =
    let parts = and_parts (log_follows last log.origin log.group)
    (logs_rise (Some (log.origin, log.group)) logs) rise in
    (all_behind log.origin log.group logs parts.1, each_behind (Some (log.origin, log.group)) logs parts.1)

-- no log before another is of its packet and group
pub none_before : (logs before after : List Logged) (log : Logged) → logs_rise None logs ≡ true →
    logs ≡ before ++ log ∷ after →
    AnyOf (λ (other : Logged). (other.origin ≡ log.origin) × (other.group ≡ log.group)) before → ⊥
none_before logs before after log rise parts any =
    let some = some_of (λ (other : Logged). (other.origin ≡ log.origin) × (other.group ≡ log.group)) before any in
    let order = in_front (λ (one other : Logged). IsBehind one.origin one.group other) before log after
    (subst (EachLater (λ (one other : Logged). IsBehind one.origin one.group other)) parts
    (each_behind None logs rise)) in
    let order_there = subst (AllByRecursion (λ (one : Logged). IsBehind one.origin one.group log)) some.parts order in
    not_behind some.item log some.is.0 some.is.1
    (all-back (λ (one : Logged). IsBehind one.origin one.group log) some.before (some.item ∷ some.after) order_there).0
  where
    not_behind : (one log : Logged) → one.origin ≡ log.origin → one.group ≡ log.group →
        IsBehind one.origin one.group log → ⊥
    not_behind one log origin group (inl less) = omega (arith, origin, less)
    not_behind one log origin group (inr same) = let less = same.1 in omega (arith, group, less)

-- applies of two logs that are the same
pub same_apply : (server origin : ℕ) (one other : Logged) →
    Apply server origin one.group one.origin ≡ Apply server origin other.group other.origin →
    (one.origin ≡ other.origin) × (one.group ≡ other.group)
same_apply server origin one other same = (ap packet_in same, ap group_in same)
  where
    packet_in : Job → ℕ
    packet_in (Apply at own group packet) = packet
    packet_in other = 0

    group_in : Job → ℕ
    group_in (Apply at own group packet) = group
    group_in other = 0

-- ---- kinds

-- the origin of a job of a message
pub same_origin : (server other one another : ℕ) (job : Job) → IsOfMessage server one job →
    IsOfMessage other another job →
    (server ≡ other) × (one ≡ another)
same_origin server other one another (Apply at own group packet) is also = (sym is.0 ∙ also.0, sym is.1 ∙ also.1)
same_origin server other one another (Visit at packet) is also = (sym is.0 ∙ also.0, sym is.1 ∙ also.1)
same_origin server other one another (Pass at own) is also = (sym is.0 ∙ also.0, sym is.1 ∙ also.1)
same_origin server other one another (Lose at own) is also = (sym is.0 ∙ also.0, sym is.1 ∙ also.1)
same_origin server other one another (Carry own) is also = (sym is.0 ∙ also.0, sym is.1 ∙ also.1)
same_origin server other one another (Enter packet) is also = absurd is
same_origin server other one another (Take link origin) is also = absurd is
same_origin server other one another (Crash at) is also = absurd is
same_origin server other one another (Recover at) is also = absurd is
same_origin server other one another (Pull link) is also = absurd is
same_origin server other one another (Propagate origin) is also = absurd is

pub same_server : (one other : ℕ) (job : Job) → IsOfServer one job → IsOfServer other job → one ≡ other
same_server one other (Crash at) is also = sym is ∙ also
same_server one other (Recover at) is also = sym is ∙ also
same_server one other (Apply at own group packet) is also =
    (same_origin one other is.0 also.0 (Apply at own group packet) is.1 also.1).0
same_server one other (Visit at packet) is also = (same_origin one other is.0 also.0 (Visit at packet) is.1 also.1).0
same_server one other (Pass at own) is also = (same_origin one other is.0 also.0 (Pass at own) is.1 also.1).0
same_server one other (Lose at own) is also = (same_origin one other is.0 also.0 (Lose at own) is.1 also.1).0
same_server one other (Carry own) is also = (same_origin one other is.0 also.0 (Carry own) is.1 also.1).0
same_server one other (Enter packet) is also = absurd is.1
same_server one other (Take link origin) is also = absurd is.1
same_server one other (Pull link) is also = absurd is.1
same_server one other (Propagate origin) is also = absurd is.1

pub same_link : (one other : ℕ) (job : Job) → IsOfLink one job → IsOfLink other job → one ≡ other
same_link one other (Pull link) is also = sym is ∙ also
same_link one other (Take link origin) is also = sym is ∙ also
same_link one other (Apply at own group packet) is also = absurd is
same_link one other (Visit at packet) is also = absurd is
same_link one other (Pass at own) is also = absurd is
same_link one other (Lose at own) is also = absurd is
same_link one other (Carry own) is also = absurd is
same_link one other (Enter packet) is also = absurd is
same_link one other (Crash at) is also = absurd is
same_link one other (Recover at) is also = absurd is
same_link one other (Propagate origin) is also = absurd is

-- a number for each kind
abbrev pub kind_of : Job → ℕ
kind_of (Apply at own group packet) = 0
kind_of (Visit at packet) = 1
kind_of (Pass at own) = 2
kind_of (Lose at own) = 3
kind_of (Carry own) = 4
kind_of (Crash at) = 5
kind_of (Recover at) = 6
kind_of (Take link origin) = 7
kind_of (Pull link) = 8
kind_of (Enter packet) = 9
kind_of (Propagate origin) = 10

-- ---- the jobs of one message

module _ (setting : Setting) (state : ChainState) where
  -- a server holds the message of a legal job
  pub held_where : (server origin : ℕ) (job : Job) → IsOfMessage server origin job → IsLegalJob setting state job →
      (message : Message) × IsHeld state server origin message
  held_where server origin (Apply at own group packet) is legal =
      subst (λ (s : ℕ). (message : Message) × IsHeld state s origin message) is.0
      (subst (λ (o : ℕ). (message : Message) × IsHeld state at o message) is.1 (legal.0.0, legal.0.1))
  held_where server origin (Visit at packet) is legal =
      let may = legal.0 in
      subst (λ (s : ℕ). (message : Message) × IsHeld state s origin message) is.0
      (subst (λ (o : ℕ). (message : Message) × IsHeld state at o message) is.1 (may.0, (may.3, false, may.2, may.4)))
  held_where server origin (Pass at own) is legal =
      let may = legal.0.1 in
      subst (λ (s : ℕ). (message : Message) × IsHeld state s origin message) is.0
      (subst (λ (o : ℕ). (message : Message) × IsHeld state at o message) is.1
      (legal.0.0, (may.there, may.visited, false, may.held)))
  held_where server origin (Lose at own) is legal =
      let may = legal.0.1 in
      subst (λ (s : ℕ). (message : Message) × IsHeld state s origin message) is.0
      (subst (λ (o : ℕ). (message : Message) × IsHeld state at o message) is.1
      (legal.0.0, (may.there, may.visited, false, may.held)))
  held_where server origin (Carry own) is legal =
      let may = legal.0 in
      subst (λ (s : ℕ). (message : Message) × IsHeld state s origin message) is.0
      (subst (λ (o : ℕ). (message : Message) × IsHeld state 0 o message) is.1 (may.0, (may.1, may.2, true, may.3)))
  held_where server origin (Enter packet) is legal = absurd is
  held_where server origin (Take link other) is legal = absurd is
  held_where server origin (Crash at) is legal = absurd is
  held_where server origin (Recover at) is legal = absurd is
  held_where server origin (Pull link) is legal = absurd is
  held_where server origin (Propagate other) is legal = absurd is

  module _ (server origin : ℕ) (logs : List Logged) where
    abbrev Of4 : Job → Type 0
    Of4 job = (((IsOfLogs server origin logs job ⊎ (Visit server origin ≡ job)) ⊎ (Pass server origin ≡ job))
        ⊎ (Lose server origin ≡ job)) ⊎ ((Carry origin ≡ job) × (server ≡ 0))

    apply_of_logs : (job : Job) → IsOfLogs server origin logs job → IsOfMessage server origin job × (kind_of job ≡ 0)
    apply_of_logs job of =
        let some = some_of (λ (log : Logged). job ≡ Apply server origin log.group log.origin) logs of in
        subst (λ (j : Job). IsOfMessage server origin j × (kind_of j ≡ 0)) (sym some.is) ((refl, refl), refl)

    to_message : (job : Job) → Of4 job → IsOfMessage server origin job
    to_message job (inl (inl (inl (inl of)))) = (apply_of_logs job of).0
    to_message job (inl (inl (inl (inr is)))) = subst (IsOfMessage server origin) is (refl, refl)
    to_message job (inl (inl (inr is))) = subst (IsOfMessage server origin) is (refl, refl)
    to_message job (inl (inr is)) = subst (IsOfMessage server origin) is (refl, refl)
    to_message job (inr is) = subst (IsOfMessage server origin) is.0 (sym is.1, refl)

    from_message : ((group packet : ℕ) → IsLegalJob setting state (Apply server origin group packet) →
        IsOfLogs server origin logs (Apply server origin group packet)) → (job : Job) → IsLegalJob setting state job →
        IsOfMessage server origin job → Of4 job
    from_message applies (Apply at own group packet) legal is =
        let at_is : at ≡ server = is.0 in
        let own_is : own ≡ origin = is.1 in
        let same : Apply server origin group packet ≡ Apply at own group packet =
        ap (λ (s : ℕ). Apply s origin group packet) (sym at_is) ∙ ap (λ (o : ℕ). Apply at o group packet)
        (sym own_is) in
        inl (inl (inl (inl (subst (IsOfLogs server origin logs) same
        (applies group packet (subst (IsLegalJob setting state) (sym same) legal))))))
    from_message applies (Visit at packet) legal is =
        inl (inl (inl (inr (ap (λ (s : ℕ). Visit s origin) (sym is.0) ∙ ap (λ (o : ℕ). Visit at o) (sym is.1)))))
    from_message applies (Pass at own) legal is =
        inl (inl (inr (ap (λ (s : ℕ). Pass s origin) (sym is.0) ∙ ap (λ (o : ℕ). Pass at o) (sym is.1))))
    from_message applies (Lose at own) legal is =
        inl (inr (ap (λ (s : ℕ). Lose s origin) (sym is.0) ∙ ap (λ (o : ℕ). Lose at o) (sym is.1)))
    from_message applies (Carry own) legal is = inr (ap (λ (o : ℕ). Carry o) (sym is.1), sym is.0)
    from_message applies (Enter packet) legal is = absurd is
    from_message applies (Take link other) legal is = absurd is
    from_message applies (Crash at) legal is = absurd is
    from_message applies (Recover at) legal is = absurd is
    from_message applies (Pull link) legal is = absurd is
    from_message applies (Propagate other) legal is = absurd is

    kind_is : (one job : Job) (kind : ℕ) → one ≡ job → kind_of one ≡ kind → kind_of job ≡ kind
    kind_is one job kind same is = ap kind_of (sym same) ∙ is

    pub message_jobs : (runs : ℕ → ℕ → Bool) (old one two three four new : List Job) →
        HasJobsOf (IsOfLogs server origin logs) runs setting state old one →
        HasJobsOf (λ job. Visit server origin ≡ job) runs setting state one two →
        HasJobsOf (λ job. Pass server origin ≡ job) runs setting state two three →
        HasJobsOf (λ job. Lose server origin ≡ job) runs setting state three four →
        HasJobsOf (λ job. (Carry origin ≡ job) × (server ≡ 0)) runs setting state four new →
        ((group packet : ℕ) → IsLegalJob setting state (Apply server origin group packet) →
        IsOfLogs server origin logs (Apply server origin group packet)) →
        HasJobsOf (IsOfMessage server origin) runs setting state old new
    message_jobs runs old one two three four new logs_are visit pass lose carry applies =
        adds_as runs setting state Of4 (IsOfMessage server origin) old new (λ job legal. to_message job)
        (λ job legal. from_message applies job legal.0)
        (adds_then runs setting state _ _ old four new
        (adds_then runs setting state _ _ old three four
        (adds_then runs setting state _ _ old two three
        (adds_then runs setting state _ _ old one two logs_are visit (λ job is also.
        let first = (apply_of_logs job is).1 in
        let second = kind_is (Visit server origin) job 1 also refl in omega (arith, first, second)))
        pass (λ job is also.
        let first = early job is in
        let second = kind_is (Pass server origin) job 2 also refl in omega (arith, first, second)))
        lose (λ job is also.
        let first = earlier job is in
        let second = kind_is (Lose server origin) job 3 also refl in omega (arith, first, second)))
        carry (λ job is also.
        let first = earliest job is in
        let second = kind_is (Carry origin) job 4 also.0 refl in omega (arith, first, second)))
      where
        early : (job : Job) → IsOfLogs server origin logs job ⊎ (Visit server origin ≡ job) → kind_of job ≤ 1
        early job (inl of) = let is = (apply_of_logs job of).1 in omega (arith, is)
        early job (inr same) = let is = kind_is (Visit server origin) job 1 same refl in omega (arith, is)

        earlier : (job : Job) → (IsOfLogs server origin logs job ⊎ (Visit server origin ≡ job))
            ⊎ (Pass server origin ≡ job) →
            kind_of job ≤ 2
        earlier job (inl (inl of)) = let is = (apply_of_logs job of).1 in omega (arith, is)
        earlier job (inl (inr same)) = let is = kind_is (Visit server origin) job 1 same refl in omega (arith, is)
        earlier job (inr same) = let is = kind_is (Pass server origin) job 2 same refl in omega (arith, is)

        earliest : (job : Job) →
            ((IsOfLogs server origin logs job ⊎ (Visit server origin ≡ job)) ⊎ (Pass server origin ≡ job))
            ⊎ (Lose server origin ≡ job) → kind_of job ≤ 3
        earliest job (inl of) = let is = earlier job of in omega (arith, is)
        earliest job (inr same) = let is = kind_is (Lose server origin) job 3 same refl in omega (arith, is)

-- ---- the log of a legal apply

log_there : (packet group : ℕ) (logs : List Logged) (log : Logged) → find (is_log_of packet group) logs ≡ Some log →
    AnyOf (λ (other : Logged). (other.origin ≡ packet) × (other.group ≡ group)) logs
log_there packet group [] log is = absurd cc
log_there packet group (first ∷ logs) log is =
    elim (is_log_of packet group first) as (λ b. is_log_of packet group first ≡ b →
    cond b (Some first) (find (is_log_of packet group) logs) ≡ Some log →
    AnyOf (λ (other : Logged). (other.origin ≡ packet) × (other.group ≡ group)) (first ∷ logs)) [
      | true ↦ λ test same.
          let parts = and_parts (first.origin == packet) (first.group == group) test in
          inl (eqb-true first.origin packet parts.0, eqb-true first.group group parts.1)
      | false ↦ λ test later. inr (log_there packet group logs log later)
    ] refl is

same_sent : (o : Option HeldMessage) (held : HeldMessage) (message : SentMessage) → o ≡ Some held →
    option_map (λ (h : HeldMessage). h.message) o ≡ Some message → held.message ≡ message
same_sent o held message is also = let same = ap (option_map (λ (h : HeldMessage). h.message)) (sym is) ∙ also in cc

pub apply_of_message : (old : Server) (server origin group packet : ℕ) (message : SentMessage) →
    message_in old origin ≡ Some message → may_apply_now old origin group packet ≡ true →
    IsOfLogs server origin message.logs (Apply server origin group packet)
apply_of_message old server origin group packet message there may =
    let is = applicable old origin group packet may in
    let same = same_sent (found origin old.held.items) is.held message is.there there in
    any_map (λ (other : Logged). (other.origin ≡ packet) × (other.group ≡ group))
    (λ (other : Logged). Apply server origin group packet ≡ Apply server origin other.group other.origin)
    (λ other names. ap (λ (g : ℕ). Apply server origin g packet) (sym names.1)
    ∙ ap (λ (p : ℕ). Apply server origin other.group p) (sym names.0)) message.logs
    (subst (λ (m : SentMessage). AnyOf (λ (other : Logged). (other.origin ≡ packet)
    × (other.group ≡ group)) m.logs) same
    (log_there packet group is.held.message.logs is.log is.log_is))

-- ---- held messages

pub found_any : (origin : ℕ) (items : List HeldMessage) (held : HeldMessage) → found origin items ≡ Some held →
    AnyOf (λ (item : HeldMessage). item.message.origin ≡ origin) items
found_any origin [] held is = absurd cc
found_any origin (first ∷ items) held is =
    elim (is_of origin first) as (λ b. is_of origin first ≡ b → cond b (Some first) (found origin items) ≡ Some held →
    AnyOf (λ (item : HeldMessage). item.message.origin ≡ origin) (first ∷ items)) [
      | true ↦ λ test same. inl (eqb-true first.message.origin origin test)
      | false ↦ λ test later. inr (found_any origin items held later)
    ] refl is

-- those of the held messages
abbrev pub IsOfHeld : ℕ → List HeldMessage → Job → Type 0
IsOfHeld server items job = AnyOf (λ (held : HeldMessage). IsOfMessage server held.message.origin job) items

-- ---- numbers of legal jobs

module _ (setting : Setting) (state : ChainState) where
  -- none of a link that the chain hasn't is legal
  pub link_below : (size : ℕ) → ((link : ℕ) → size ≤ link → IsLegalJob setting state (Pull link) → ⊥) →
      ((link origin : ℕ) → size ≤ link → IsLegalJob setting state (Take link origin) → ⊥) → (link : ℕ) (job : Job) →
      IsLegalJob setting state job → IsOfLink link job → link < size
  link_below size pulls takes link (Pull other) legal is = elim (cases_lt link size) [
    | inl below ↦ below
    | inr outside ↦ absurd (pulls link outside (subst (λ (l : ℕ). IsLegalJob setting state (Pull l)) is legal))
  ]
  link_below size pulls takes link (Take other origin) legal is = elim (cases_lt link size) [
    | inl below ↦ below
    | inr outside ↦
        absurd (takes link origin outside (subst (λ (l : ℕ). IsLegalJob setting state (Take l origin)) is legal))
  ]
  link_below size pulls takes link (Apply at own group packet) legal is = absurd is
  link_below size pulls takes link (Visit at packet) legal is = absurd is
  link_below size pulls takes link (Pass at own) legal is = absurd is
  link_below size pulls takes link (Lose at own) legal is = absurd is
  link_below size pulls takes link (Carry own) legal is = absurd is
  link_below size pulls takes link (Enter packet) legal is = absurd is
  link_below size pulls takes link (Crash at) legal is = absurd is
  link_below size pulls takes link (Recover at) legal is = absurd is
  link_below size pulls takes link (Propagate origin) legal is = absurd is

  -- nor of a server that it hasn't
  pub server_below : (size : ℕ) → ((server : ℕ) → IsLegalJob setting state (Crash server) → server < size) →
      ((server : ℕ) → IsLegalJob setting state (Recover server) → server < size) →
      ((server origin : ℕ) (message : Message) → IsHeld state server origin message → server < size) →
      (server : ℕ) (job : Job) → IsLegalJob setting state job → IsOfServer server job → server < size
  server_below size crashes recoveries held server (Crash at) legal is =
      subst (λ (s : ℕ). s < size) is (crashes at legal)
  server_below size crashes recoveries held server (Recover at) legal is =
      subst (λ (s : ℕ). s < size) is (recoveries at legal)
  server_below size crashes recoveries held server (Apply at own group packet) legal is =
      let there = held_where setting state server is.0 (Apply at own group packet) is.1 legal in
      held server is.0 there.0 there.1
  server_below size crashes recoveries held server (Visit at packet) legal is =
      let there = held_where setting state server is.0 (Visit at packet) is.1 legal in held server is.0 there.0 there.1
  server_below size crashes recoveries held server (Pass at own) legal is =
      let there = held_where setting state server is.0 (Pass at own) is.1 legal in held server is.0 there.0 there.1
  server_below size crashes recoveries held server (Lose at own) legal is =
      let there = held_where setting state server is.0 (Lose at own) is.1 legal in held server is.0 there.0 there.1
  server_below size crashes recoveries held server (Carry own) legal is =
      let there = held_where setting state server is.0 (Carry own) is.1 legal in held server is.0 there.0 there.1
  server_below size crashes recoveries held server (Enter packet) legal is = absurd is.1
  server_below size crashes recoveries held server (Take link origin) legal is = absurd is.1
  server_below size crashes recoveries held server (Pull link) legal is = absurd is.1
  server_below size crashes recoveries held server (Propagate origin) legal is = absurd is.1

module _ (runs : ℕ → ℕ → Bool) (setting : Setting) (state : ChainState) where
  abbrev Adds : (Job → Type 0) → List Job → List Job → Type 0
  Adds Of old new = HasJobsOf Of runs setting state old new

  -- ---- links

  pub link_jobs : (link : ℕ) (old mid new : List Job) → Adds (λ job. Pull link ≡ job) old mid →
      Adds (λ job. (origin : ℕ) × (job ≡ Take link origin)) mid new → Adds (IsOfLink link) old new
  link_jobs link old mid new pull takes =
      adds_as runs setting state (λ job. (Pull link ≡ job) ⊎ ((origin : ℕ) × (job ≡ Take link origin))) (IsOfLink link)
      old new
      (λ job legal. to job) (λ job legal. from job)
      (adds_then runs setting state _ _ old mid new pull takes (λ job is also.
      let first = ap kind_of (sym is) in let second = ap kind_of also.1 in omega (arith, first, second)))
    where
      to : (job : Job) → (Pull link ≡ job) ⊎ ((origin : ℕ) × (job ≡ Take link origin)) → IsOfLink link job
      to job (inl is) = subst (IsOfLink link) is refl
      to job (inr is) = subst (IsOfLink link) (sym is.1) refl

      from : (job : Job) → IsOfLink link job → (Pull link ≡ job) ⊎ ((origin : ℕ) × (job ≡ Take link origin))
      from (Pull other) is = inl (ap (λ (l : ℕ). Pull l) (sym is))
      from (Take other origin) is = inr (origin, ap (λ (l : ℕ). Take l origin) is)
      from (Apply at own group packet) is = absurd is
      from (Visit at packet) is = absurd is
      from (Pass at own) is = absurd is
      from (Lose at own) is = absurd is
      from (Carry own) is = absurd is
      from (Enter packet) is = absurd is
      from (Crash at) is = absurd is
      from (Recover at) is = absurd is
      from (Propagate origin) is = absurd is

  -- ---- logs

  pub one_log : (server origin : ℕ) (logs : List Logged) (place : ℕ) (log : Logged) (old mid new : List Job)
      (test : Bool)
      (group packet : ℕ) → logs_rise None logs ≡ true → place < length logs → log ≡ get_or logs place log →
      group ≡ log.group → packet ≡ log.origin →
      (test ≡ true) ↔ IsLegalJob setting state (Apply server origin group packet) →
      new ≡ mid ++ (if test then Apply server origin group packet ∷ [] else []) →
      Adds (IsOfLogs server origin (take place logs)) old mid →
      Adds (IsOfLogs server origin (take (place + 1) logs)) old new
  one_log server origin logs place log old mid new test group packet rise below is group_is packet_is says grown first =
      let one : Job = Apply server origin group packet in
      let here : one ≡ Apply server origin log.group log.origin =
      ap (λ (g : ℕ). Apply server origin g packet) group_is ∙ ap
      (λ (p : ℕ). Apply server origin log.group p) packet_is in
      let second : Adds (λ job. job ≡ Apply server origin log.group log.origin) mid new =
      adds_if runs setting state (λ job. job ≡ Apply server origin log.group log.origin) mid new test one grown
      (λ so. (here, (says.0 so, tt)))
      (λ job of legal.
      let same : one ≡ job = here ∙ sym of in (same, says.1 (subst (IsLegalJob setting state) (sym same) legal.0))) in
      adds_item runs setting state (λ (other : Logged) (job : Job). job ≡ Apply server origin other.group other.origin)
      logs place log old mid new below is (λ job of same.
      none_before logs (take place logs) (drop (suc place) logs) log rise (items_around logs place log below is)
      (any_map (λ (other : Logged). job ≡ Apply server origin other.group other.origin)
      (λ (other : Logged). (other.origin ≡ log.origin) × (other.group ≡ log.group))
      (λ other also. same_apply server origin other log (sym also ∙ same)) (take place logs) of)) first second

  -- ---- held messages

  pub one_message : (server : ℕ) (items : List HeldMessage) (place : ℕ) (held : HeldMessage) (old mid new : List Job) →
      place < length items → held ≡ get_or items place held →
      ((before after : List HeldMessage) → items ≡ before ++ held ∷ after →
      AnyOf (λ (other : HeldMessage). other.message.origin ≡ held.message.origin) before → ⊥) →
      Adds (IsOfHeld server (take place items)) old mid → Adds (IsOfMessage server held.message.origin) mid new →
      Adds (IsOfHeld server (take (place + 1) items)) old new
  one_message server items place held old mid new below is apart first second =
      adds_item runs setting state (λ (other : HeldMessage) (job : Job). IsOfMessage server other.message.origin job)
      items place held old mid new below is (λ job of own.
      apart (take place items) (drop (suc place) items) (items_around items place held below is)
      (any_map (λ (other : HeldMessage). IsOfMessage server other.message.origin job)
      (λ (other : HeldMessage). other.message.origin ≡ held.message.origin)
      (λ other also. (same_origin server server other.message.origin held.message.origin job also own).1)
      (take place items) of)) first second

  -- those of the held messages are those of all messages there
  pub held_jobs : (server : ℕ) (items : List HeldMessage) (old new : List Job) →
      ((origin : ℕ) (message : Message) → IsHeld state server origin message →
      (held : HeldMessage) × (found origin items ≡ Some held)) →
      Adds (IsOfHeld server items) old new → Adds (IsOfMessages server) old new
  held_jobs server items old new there =
      adds_as runs setting state (IsOfHeld server items) (IsOfMessages server) old new
      (λ job legal of.
      let some = some_of (λ (held : HeldMessage). IsOfMessage server held.message.origin job) items of in
      (some.item.message.origin, some.is))
      (λ job legal of.
      let where_it = held_where setting state server of.0 job of.1 legal.0 in
      let held = there of.0 where_it.0 where_it.1 in
      any_map (λ (item : HeldMessage). item.message.origin ≡ of.0)
      (λ (item : HeldMessage). IsOfMessage server item.message.origin job)
      (λ item same. subst (λ (o : ℕ). IsOfMessage server o job) (sym same) of.1) items
      (found_any of.0 items held.0 held.1))

  -- ---- servers

  pub server_jobs : (server : ℕ) (old one two new : List Job) → Adds (λ job. Crash server ≡ job) old one →
      Adds (λ job. Recover server ≡ job) one two → Adds (IsOfMessages server) two new → Adds (IsOfServer server) old new
  server_jobs server old one two new crash recover messages =
      adds_as runs setting state (λ job. ((Crash server ≡ job) ⊎ (Recover server ≡ job)) ⊎ IsOfMessages server job)
      (IsOfServer server) old new (λ job legal. to job) (λ job legal. from job)
      (adds_then runs setting state _ _ old two new
      (adds_then runs setting state _ _ old one two crash recover (λ job is also.
      let first = ap kind_of (sym is) in let second = ap kind_of (sym also) in omega (arith, first, second)))
      messages (λ job is of. let few = few_kinds job of in let more = many_kinds job is in omega (arith, few, more)))
    where
      few_kinds : (job : Job) → IsOfMessages server job → kind_of job ≤ 4
      few_kinds (Apply at own group packet) of = omega arith
      few_kinds (Visit at packet) of = omega arith
      few_kinds (Pass at own) of = omega arith
      few_kinds (Lose at own) of = omega arith
      few_kinds (Carry own) of = omega arith
      few_kinds (Enter packet) of = absurd of.1
      few_kinds (Take link origin) of = absurd of.1
      few_kinds (Crash at) of = absurd of.1
      few_kinds (Recover at) of = absurd of.1
      few_kinds (Pull link) of = absurd of.1
      few_kinds (Propagate origin) of = absurd of.1

      many_kinds : (job : Job) → (Crash server ≡ job) ⊎ (Recover server ≡ job) → 5 ≤ kind_of job
      many_kinds job (inl is) = let kind = ap kind_of (sym is) in omega (arith, kind)
      many_kinds job (inr is) = let kind = ap kind_of (sym is) in omega (arith, kind)

      of_messages : (job : Job) → IsOfMessages server job → IsOfServer server job
      of_messages (Apply at own group packet) of = of
      of_messages (Visit at packet) of = of
      of_messages (Pass at own) of = of
      of_messages (Lose at own) of = of
      of_messages (Carry own) of = of
      of_messages (Enter packet) of = of
      of_messages (Take link origin) of = of
      of_messages (Crash at) of = absurd of.1
      of_messages (Recover at) of = absurd of.1
      of_messages (Pull link) of = of
      of_messages (Propagate origin) of = of

      to : (job : Job) → ((Crash server ≡ job) ⊎ (Recover server ≡ job)) ⊎ IsOfMessages server job →
          IsOfServer server job
      to job (inl (inl is)) = subst (IsOfServer server) is refl
      to job (inl (inr is)) = subst (IsOfServer server) is refl
      to job (inr of) = of_messages job of

      from : (job : Job) → IsOfServer server job → ((Crash server ≡ job) ⊎ (Recover server ≡ job))
          ⊎ IsOfMessages server job
      from (Crash at) is = inl (inl (ap (λ (s : ℕ). Crash s) (sym is)))
      from (Recover at) is = inl (inr (ap (λ (s : ℕ). Recover s) (sym is)))
      from (Apply at own group packet) of = inr of
      from (Visit at packet) of = inr of
      from (Pass at own) of = inr of
      from (Lose at own) of = inr of
      from (Carry own) of = inr of
      from (Enter packet) of = inr of
      from (Take link origin) of = inr of
      from (Pull link) of = inr of
      from (Propagate origin) of = inr of

  -- ---- all of them

  abbrev group_of : Job → ℕ
  group_of (Pull link) = 0
  group_of (Take link origin) = 0
  group_of (Enter packet) = 2
  group_of (Propagate origin) = 3
  group_of other = 1

  link_group : (job : Job) → IsOfLinks job → group_of job ≡ 0
  link_group (Pull link) of = refl
  link_group (Take link origin) of = refl
  link_group (Apply at own group packet) of = absurd of.1
  link_group (Visit at packet) of = absurd of.1
  link_group (Pass at own) of = absurd of.1
  link_group (Lose at own) of = absurd of.1
  link_group (Carry own) of = absurd of.1
  link_group (Enter packet) of = absurd of.1
  link_group (Crash at) of = absurd of.1
  link_group (Recover at) of = absurd of.1
  link_group (Propagate origin) of = absurd of.1

  server_group : (job : Job) → IsOfServers job → group_of job ≡ 1
  server_group (Apply at own group packet) of = refl
  server_group (Visit at packet) of = refl
  server_group (Pass at own) of = refl
  server_group (Lose at own) of = refl
  server_group (Carry own) of = refl
  server_group (Crash at) of = refl
  server_group (Recover at) of = refl
  server_group (Pull link) of = absurd (of.1).1
  server_group (Take link origin) of = absurd (of.1).1
  server_group (Enter packet) of = absurd (of.1).1
  server_group (Propagate origin) of = absurd (of.1).1

  abbrev Of3 : Job → Type 0
  Of3 job = ((IsOfLinks job ⊎ IsOfServers job) ⊎ IsEnter job) ⊎ IsPropagate job

  every_one : (job : Job) → Of3 job
  every_one (Pull link) = inl (inl (inl (link, refl)))
  every_one (Take link origin) = inl (inl (inl (link, refl)))
  every_one (Apply at own group packet) = inl (inl (inr (at, (own, (refl, refl)))))
  every_one (Visit at packet) = inl (inl (inr (at, (packet, (refl, refl)))))
  every_one (Pass at own) = inl (inl (inr (at, (own, (refl, refl)))))
  every_one (Lose at own) = inl (inl (inr (at, (own, (refl, refl)))))
  every_one (Carry own) = inl (inl (inr (0, (own, (refl, refl)))))
  every_one (Crash at) = inl (inl (inr (at, refl)))
  every_one (Recover at) = inl (inl (inr (at, refl)))
  every_one (Enter packet) = inl (inr (packet, refl))
  every_one (Propagate origin) = inr (origin, refl)

  pub all_are : (old one two three new : List Job) → old ≡ [] → Adds IsOfLinks old one → Adds IsOfServers one two →
      Adds IsEnter two three → Adds IsPropagate three new → AreJobs runs setting state new
  all_are old one two three new none links servers enter propagate =
      let all : Adds Of3 old new =
      adds_then runs setting state _ _ old three new
      (adds_then runs setting state _ _ old two three
      (adds_then runs setting state _ _ old one two links servers (λ job is also.
      let first = link_group job is in let second = server_group job also in omega (arith, first, second)))
      enter (λ job is also. let first = early job is in let second = ap group_of also.1 in
      omega (arith, first, second)))
      propagate (λ job is also. let first = earlier job is in let second = ap group_of also.1 in
      omega (arith, first, second)) in
      let same : new ≡ all.more = all.grown ∙ ap (λ (list : List Job). list ++ all.more) none in
      subst (AreJobs runs setting state) (sym same) (record {
        each = λ job. (
          (λ is. ((all.are.each job).0 is).1),
          (λ legal. (all.are.each job).1 (every_one job, legal)),
        );
        once = all.are.once;
      })
    where
      early : (job : Job) → IsOfLinks job ⊎ IsOfServers job → group_of job ≤ 1
      early job (inl of) = let is = link_group job of in omega (arith, is)
      early job (inr of) = let is = server_group job of in omega (arith, is)

      earlier : (job : Job) → (IsOfLinks job ⊎ IsOfServers job) ⊎ IsEnter job → group_of job ≤ 2
      earlier job (inl of) = let is = early job of in omega (arith, is)
      earlier job (inr of) = let is = ap group_of of.1 in omega (arith, is)

-- ---- held messages are apart

same_message : (state : ChainState) (one other : ℕ) (message another : Message) → state.message one ≡ Some message →
    state.message other ≡ Some another → one ≡ other → message.since ≡ another.since
same_message state one other message another is also same =
    let there : state.message one ≡ Some another = subst (λ (o : ℕ). state.message o ≡ Some another) (sym same) also in
    let both : Some message ≡ Some another = sym is ∙ there in
    ap since_in both
  where
    since_in : Option Message → ℕ
    since_in None = 0
    since_in (Some message) = message.since

pub held_apart : (state : ChainState) (server : ℕ) (items : List HeldMessage) →
    ((held : HeldMessage) (before after : List HeldMessage) → items ≡ before ++ held ∷ after →
    (message : Message) × IsHeld state server held.message.origin message) →
    ((held later : HeldMessage) (message other : Message) (before between after : List HeldMessage) →
    items ≡ before ++ held ∷ (between ++ later ∷ after) → state.message held.message.origin ≡ Some message →
    state.message later.message.origin ≡ Some other → message.since < other.since) →
    (held : HeldMessage) (before after : List HeldMessage) → items ≡ before ++ held ∷ after →
    AnyOf (λ (other : HeldMessage). other.message.origin ≡ held.message.origin) before → ⊥
held_apart state server items place order held before after parts any =
    let some = some_of (λ (other : HeldMessage). other.message.origin ≡ held.message.origin) before any in
    let all : items ≡ some.before ++ some.item ∷ (some.after ++ held ∷ after) =
    parts ∙ (ap (λ (list : List HeldMessage). list ++ held ∷ after) some.parts
    ∙ append_assoc some.before (some.item ∷ some.after) (held ∷ after)) in
    let one = place some.item some.before (some.after ++ held ∷ after) all in
    let other = place held before after parts in
    let less = order some.item held one.0 other.0 some.before some.after after all (one.1).0 (other.1).0 in
    let same = same_message state some.item.message.origin held.message.origin one.0 other.0 (one.1).0
    (other.1).0 some.is in
    omega (arith, less, same)

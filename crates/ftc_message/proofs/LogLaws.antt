-- Logs: what is read is spelled so, and what is spelled so is read.
use Rattle.std.proofs.Common.{◌≡◌, ℕ, zero, suc, ◌^◌, ◌<◌, ◌≤◌, true, List, [], ◌∷◌, ◌++◌, length, get_or}
use Rattle.std.proofs.Common.{Option, Some, None, IsSome, Ok, refl, ap, subst, ◌∙◌, append_assoc, arith}
use Rattle.std.specs.List.{AllByRecursion, flat_map}
use Rattle.ftc_base.specs.declared.ask.Write.{Write}
use Rattle.ftc_base.specs.declared.limits.TheConstants.{MOST_SERVERS}
use Rattle.ftc_vector.specs.Vector.{AreMarks}
use Rattle.ftc_message.specs.declared.fault.FrameCause.TheVariants.{Order}
use Rattle.ftc_message.specs.declared.parts.Parts.{Parts}
use Rattle.ftc_message.specs.Logged.{Logged, log_follows, logs_rise}
use Rattle.ftc_message.specs.Bounds.{IsLog, MarksSome}
use Rattle.ftc_message.specs.Numbers.{number_bytes}
use Rattle.ftc_message.specs.Spelling.{marked, parts_bytes, writes_bytes, log_bytes, logs_bytes}
use Rattle.ftc_base.specs.Reading.{◌>>=◌, ◌>>◌, unless}
use Rattle.ftc_message.specs.Fields.{fault_of, integer_at, group_at}
use Rattle.ftc_message.specs.Reading.{parts_at, writes_at, head_at, log_at, logs_at}
use Rattle.ftc_message.proofs.Fields.{IsBytes, Takes, Takes-then, bind_ok, test_ok, ok_is, group_takes, group_again}
use Rattle.ftc_message.proofs.Fields.{number_takes, number_again, wide_4}
use Rattle.ftc_message.proofs.MarkLaws.{IsMark, AreSpelled}
use Rattle.ftc_message.proofs.PartLaws.{ArePartsSpelled, parts_at_takes, parts_at_again}
use Rattle.ftc_message.proofs.WriteLaws.{AreWritesSpelled, writes_at_takes, writes_at_again}
use Rattle.ftc_message.proofs.RiseLaws.{place_of_log, follows_log, logs_go}
use Rattle.ftc_message.proofs.ItemLaws.{Items, counted_read, items_again}

-- ---- marks by place and by recursion

pub each_mark : (marks : List (Option ℕ)) → ((p number : ℕ) → get_or marks p None ≡ Some number → number < 2 ^ 64) →
    AllByRecursion (IsMark 0) marks
each_mark [] small = tt
each_mark (None ∷ marks) small = (tt, each_mark marks (λ p. small (suc p)))
each_mark (Some number ∷ marks) small = ((omega arith, small 0 number refl), each_mark marks (λ p. small (suc p)))

pub at_each : (least : ℕ) (marks : List (Option ℕ)) → AllByRecursion (IsMark least) marks → (p number : ℕ) →
    get_or marks p None ≡ Some number → number < 2 ^ 64
at_each least [] each p number is = absurd cc
at_each least (None ∷ marks) each zero number is = absurd cc
at_each least (Some n ∷ marks) each zero number is = let same : n ≡ number = cc in omega (arith, each.0.1)
at_each least (mark ∷ marks) each (suc p) number is = at_each least marks each.1 p number is

pub marked_some : (marks : List (Option ℕ)) (p : ℕ) → IsSome (get_or marks p None) → 1 ≤ marked marks
marked_some [] p some = absurd cc
marked_some (None ∷ marks) zero some = absurd cc
marked_some (None ∷ marks) (suc p) some = marked_some marks p some
marked_some (Some number ∷ marks) p some = omega arith

pub some_marked : (marks : List (Option ℕ)) → 1 ≤ marked marks → (p : ℕ) × IsSome (get_or marks p None)
some_marked [] some = absurd (omega arith)
some_marked (None ∷ marks) some = let there = some_marked marks some in (suc there.0, there.1)
some_marked (Some number ∷ marks) some = (0, refl)

pub marks_are : (least : ℕ) (marks : List (Option ℕ)) → AreSpelled least marks → AreMarks marks
marks_are least marks spelled = record { size = spelled.size; bounds = at_each least marks spelled.each }

-- ---- one log

-- a log that has a spelling
pub record IsLogSpelled (log : Logged) : Type 0 where
  pub typed : IsLog log
  pub some : MarksSome log.before

-- the log of an origin and a group, of parts and of writes
abbrev pub log_of : ℕ × ℕ → Parts → List Write → Logged
log_of head parts ws = record {
  group = head.1;
  origin = head.0;
  before = parts.before;
  changed = parts.changed;
  writes = ws;
}

made : (head : ℕ × ℕ) (parts : Parts) (ws : List Write) → head.1 < MOST_SERVERS → head.0 < 2 ^ 32 →
    ArePartsSpelled parts → AreWritesSpelled ws → IsLogSpelled (log_of head parts ws)
made head parts ws small_group small_origin spelled_parts spelled_writes = record {
  typed = record {
    group = small_group;
    origin = small_origin;
    before = marks_are 0 parts.before spelled_parts.before;
    changed_marked = spelled_parts.changed;
    few_writes = spelled_writes.few;
    writes = spelled_writes.each;
    keys = spelled_writes.rising;
  };
  some = record { some = some_marked parts.before spelled_parts.before.some };
}

record HeadRead (last : Option (ℕ × ℕ)) (bytes : List ℕ) (x : (ℕ × ℕ) × List ℕ) : Type 0 where
  pub takes : Takes bytes (x.0.1 ∷ number_bytes 4 x.0.0) x.1
  pub group : x.0.1 < MOST_SERVERS
  pub origin : x.0.0 < 2 ^ 32
  pub follows : log_follows last x.0.0 x.0.1 ≡ true

head_takes : (last : Option (ℕ × ℕ)) (bytes : List ℕ) (x : (ℕ × ℕ) × List ℕ) → IsBytes bytes →
    head_at last bytes ≡ Ok x → HeadRead last bytes x
unfolding head_at
head_takes last bytes x fits is =
    let group = bind_ok (group_at bytes) (λ group. integer_at 4 group.1 >>= λ origin.
    unless (log_follows last origin.0 group.0) (fault_of bytes Order) >> Ok ((origin.0, group.0), origin.1)) x is in
    let origin = bind_ok (integer_at 4 group.0.1)
    (λ origin. unless (log_follows last origin.0 group.0.0) (fault_of bytes Order) >> Ok (
      (origin.0, group.0.0),
      origin.1,
    )) x group.2 in
    let passed = test_ok (log_follows last origin.0.0 group.0.0) bytes Order
    (Ok ((origin.0.0, group.0.0), origin.0.1)) x origin.2 in
    let first = group_takes bytes group.0 fits group.1 in
    let second = number_takes 4 (2 ^ 32) wide_4 group.0.1 origin.0 first.0.rest_fits origin.1 in
    subst (HeadRead last bytes) (ok_is ((origin.0.0, group.0.0), origin.0.1) x passed.1) (record {
      takes = Takes-then bytes (group.0.0 ∷ []) group.0.1 (number_bytes 4 origin.0.0) origin.0.1 first.0 second.0;
      group = first.1;
      origin = second.1;
      follows = passed.0;
    })

head_again : (last : Option (ℕ × ℕ)) (origin group : ℕ) (rest : List ℕ) → group < MOST_SERVERS → origin < 2 ^ 32 →
    log_follows last origin group ≡ true →
    head_at last (group ∷ (number_bytes 4 origin ++ rest)) ≡ Ok ((origin, group), rest)
unfolding head_at
head_again last origin group rest small_group small_origin follows =
    rw (
      group_again group (number_bytes 4 origin ++ rest) small_group,
      number_again 4 (2 ^ 32) wide_4 origin rest small_origin,
      follows,
    ) refl

pub log_at_takes : (last : Option (ℕ × ℕ)) (bytes : List ℕ) (x : Logged × List ℕ) → IsBytes bytes →
    log_at last bytes ≡ Ok x → Takes bytes (log_bytes x.0) x.1 × IsLogSpelled x.0
    × (log_follows last x.0.origin x.0.group ≡ true)
unfolding log_at
log_at_takes last bytes x fits is =
    let head = bind_ok (head_at last bytes) (λ head. parts_at head.1 >>= λ parts. writes_at parts.1 >>= λ ws.
    Ok (log_of head.0 parts.0 ws.0, ws.1)) x is in
    let parts = bind_ok (parts_at head.0.1) (λ parts. writes_at parts.1 >>= λ ws.
    Ok (log_of head.0.0 parts.0 ws.0, ws.1)) x head.2 in
    let ws = bind_ok (writes_at parts.0.1) (λ ws. Ok (log_of head.0.0 parts.0.0 ws.0, ws.1)) x parts.2 in
    let first = head_takes last bytes head.0 fits head.1 in
    let second = parts_at_takes head.0.1 parts.0 first.takes.rest_fits parts.1 in
    let third = writes_at_takes parts.0.1 ws.0 second.0.rest_fits ws.1 in
    let later = Takes-then head.0.1 (parts_bytes parts.0.0.before parts.0.0.changed) parts.0.1
    (writes_bytes ws.0.0) ws.0.1 second.0 third.0 in
    let whole = Takes-then bytes (head.0.0.1 ∷ number_bytes 4 head.0.0.0) head.0.1
    (parts_bytes parts.0.0.before parts.0.0.changed ++ writes_bytes ws.0.0) ws.0.1 first.takes later in
    let P : Logged × List ℕ → Type 0 =
    λ y. Takes bytes (log_bytes y.0) y.1 × IsLogSpelled y.0 × (log_follows last y.0.origin y.0.group ≡ true) in
    subst P (ok_is (log_of head.0.0 parts.0.0 ws.0.0, ws.0.1) x ws.2) (
      whole,
      made head.0.0 parts.0.0 ws.0.0 first.group first.origin second.1 third.1,
      first.follows,
    )

pub log_at_again : (last : Option (ℕ × ℕ)) (log : Logged) (rest : List ℕ) → IsLogSpelled log →
    log_follows last log.origin log.group ≡ true → log_at last (log_bytes log ++ rest) ≡ Ok (log, rest)
unfolding log_at
log_at_again last log rest is follows =
    let parts : Parts = record { before = log.before; changed = log.changed } in
    let behind = writes_bytes log.writes ++ rest in
    let text : log_bytes log
    ++ rest ≡ log.group ∷ (number_bytes 4 log.origin ++ (parts_bytes log.before log.changed ++ behind)) =
    ap (λ (bytes : List ℕ). log.group
    ∷ bytes) (append_assoc (number_bytes 4 log.origin) (parts_bytes log.before log.changed
    ++ writes_bytes log.writes) rest ∙ ap (λ (bytes : List ℕ). number_bytes 4 log.origin
    ++ bytes) (append_assoc (parts_bytes log.before log.changed) (writes_bytes log.writes) rest)) in
    let spelled : ArePartsSpelled parts =
    record {
      before = record {
        size = is.typed.before.size;
        some = marked_some log.before is.some.some.0 is.some.some.1;
        each = each_mark log.before is.typed.before.bounds;
      };
      changed = is.typed.changed_marked;
    } in
    let head = head_again last log.origin log.group (parts_bytes log.before log.changed
    ++ behind) is.typed.group is.typed.origin follows in
    let middle = parts_at_again parts behind spelled in
    let end = writes_at_again log.writes rest (record {
      few = is.typed.few_writes;
      each = is.typed.writes;
      rising = is.typed.keys;
    }) in
    ap (log_at last) text ∙ rw (head, middle, end) refl

-- ---- logs

abbrev logs : Items (Option (ℕ × ℕ)) Logged
logs = record {
  item_at = log_at;
  place = place_of_log;
  item_bytes = log_bytes;
  IsItem = IsLogSpelled;
  follows = follows_log;
  rise = logs_rise;
  goes_on = logs_go;
  takes = log_at_takes;
  again = log_at_again;
}

-- logs that have a spelling
pub record AreLogsSpelled (ls : List Logged) : Type 0 where
  pub few : length ls < 2 ^ 32
  pub each : AllByRecursion IsLogSpelled ls
  pub rising : logs_rise None ls ≡ true

pub logs_at_takes : (bytes : List ℕ) (x : List Logged × List ℕ) → IsBytes bytes → logs_at bytes ≡ Ok x →
    Takes bytes (logs_bytes x.0) x.1 × AreLogsSpelled x.0
unfolding logs_at
logs_at_takes bytes x fits is =
    let read = counted_read logs None (number_bytes 4) (λ n. n < 2 ^ 32) (integer_at 4) bytes x
    (λ count. number_takes 4 (2 ^ 32) wide_4 bytes count fits) is in
    (read.takes, record { few = read.few; each = read.each; rising = read.rising })

pub logs_at_again : (ls : List Logged) (rest : List ℕ) → AreLogsSpelled ls →
    logs_at (logs_bytes ls ++ rest) ≡ Ok (ls, rest)
unfolding logs_at
logs_at_again ls rest spelled =
    let read = items_again logs None [] ls rest spelled.each spelled.rising in
    let text : logs_bytes ls ++ rest ≡ number_bytes 4 (length ls) ++ (flat_map log_bytes ls ++ rest) =
    append_assoc (number_bytes 4 (length ls)) (flat_map log_bytes ls) rest in
    ap logs_at text ∙ rw (
      number_again 4 (2 ^ 32) wide_4 (length ls) (flat_map log_bytes ls ++ rest) spelled.few,
      read.1,
    ) refl

-- ---- a log that was read part by part

pub record LogRead (last : Option (ℕ × ℕ)) (bytes rest : List ℕ) (log : Logged) : Type 0 where
  pub takes : Takes bytes (log_bytes log) rest
  pub spelled : IsLogSpelled log
  pub follows : log_follows last log.origin log.group ≡ true

pub log_read : (last : Option (ℕ × ℕ)) (bytes one two rest : List ℕ) (head : ℕ × ℕ) (parts : Parts) (ws : List Write) →
    IsBytes bytes → head_at last bytes ≡ Ok (head, one) → parts_at one ≡ Ok (parts, two) → writes_at two ≡ Ok (ws, rest)
    → LogRead last bytes rest (log_of head parts ws)
unfolding log_at
log_read last bytes one two rest head parts ws fits first second third =
    let read = log_at_takes last bytes (log_of head parts ws, rest) fits (rw (first, second, third) refl) in
    record { takes = read.0; spelled = read.1; follows = read.2 }

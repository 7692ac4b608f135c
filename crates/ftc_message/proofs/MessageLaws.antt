-- Messages: what is read is spelled so, and what is spelled so is read.
use Rattle.std.proofs.Common.{◌≡◌, ℕ, zero, suc, ◌+◌, ◌^◌, ◌<◌, ◌≤◌, ◌==◌, leb, Bool, true, false, List, [], ◌∷◌, ◌++◌}
use Rattle.std.proofs.Common.{length, Option, Some, None, Result, Ok, Err, refl, sym, ap, subst, ◌∙◌, append_assoc}
use Rattle.std.proofs.Common.{arith, if◌then◌else◌}
use Rattle.std.specs.Prelude.{IfSome, is_some}
use Rattle.std.specs.Str.{bytes_eq}
use Rattle.std.specs.List.{AllByRecursion}
use Rattle.std.proofs.lemmas.Bool.{leb-true, le-leb, and_parts, eqb-true}
use Rattle.std.proofs.lemmas.List.{append-nil, nil_from_length}
use Rattle.std.proofs.lemmas.Slice.Eq.{bytes_eq-Decides}
use Rattle.ftc_base.specs.declared.limits.TheConstants.{MOST_SERVERS, MOST_CAPTURED}
use Rattle.ftc_message.specs.declared.fault.FrameCause.TheVariants.{Magic, Range, Trailing}
use Rattle.ftc_message.specs.declared.fault.FieldFault.{FieldFault}
use Rattle.ftc_message.specs.declared.fault.FrameFault.{FrameFault}
use Rattle.ftc_message.specs.declared.need.Need.{Need}
use Rattle.ftc_message.specs.declared.message.Message.{Message}
use Rattle.ftc_message.specs.Logged.{Logged, needs_rise}
use Rattle.ftc_message.specs.Bounds.{IsLog, IsNeed, AreNeeds, AreCommits, MarksSome}
use Rattle.ftc_message.specs.WellFormed.{IsTyped, IsWellFormed}
use Rattle.ftc_message.specs.Numbers.{number_bytes}
use Rattle.ftc_message.specs.Spelling.{kind, magic, packet_bytes, logs_bytes, needs_bytes, commits_bytes, spelling}
use Rattle.ftc_base.specs.Reading.{◌>>=◌, ◌>>◌, unless}
use Rattle.ftc_message.specs.Fields.{fault_of, within_at, taken_at, integer_at}
use Rattle.ftc_message.specs.Reading.{magic_at, packet_at, front_at, most_needs, logs_at, needs_at, commits_at}
use Rattle.ftc_message.specs.Reading.{message_at, whole_of, message_of}
use Rattle.ftc_message.proofs.Fields.{IsBytes, Takes, Takes-then, bind_ok, test_ok, ok_is, within_takes, within_again}
use Rattle.ftc_message.proofs.Fields.{taken_takes, taken_again, number_takes, number_again, wide_4}
use Rattle.ftc_message.proofs.LogLaws.{IsLogSpelled, AreLogsSpelled, each_mark, marked_some, some_marked, marks_are}
use Rattle.ftc_message.proofs.LogLaws.{logs_at_takes, logs_at_again}
use Rattle.ftc_message.proofs.NeedLaws.{IsNeedSpelled, AreNeedsSpelled, needs_at_takes, needs_at_again}
use Rattle.ftc_message.proofs.CommitLaws.{commits_at_takes, commits_at_again}

-- ---- the magic

same_bytes : (a b : List ℕ) → bytes_eq a b ≡ true → a ≡ b
same_bytes a b same = (rw same at (bytes_eq-Decides a b)).0 refl

magic_takes : (bytes rest : List ℕ) → IsBytes bytes → magic_at bytes ≡ Ok rest → Takes bytes magic rest
unfolding magic_at
magic_takes bytes rest fits is =
    let front = bind_ok (taken_at 4 bytes)
    (λ front. unless (bytes_eq front.0 magic) (fault_of bytes Magic) >> Ok front.1) rest is in
    let passed = test_ok (bytes_eq front.0.0 magic) bytes Magic (Ok front.0.1) rest front.2 in
    let taken = taken_takes 4 bytes front.0 fits front.1 in
    let text : Takes bytes magic front.0.1 =
    subst (λ (m : List ℕ). Takes bytes m front.0.1) (same_bytes front.0.0 magic passed.0) taken.0 in
    subst (Takes bytes magic) (ok_is front.0.1 rest passed.1) text

magic_again : (rest : List ℕ) → magic_at (magic ++ rest) ≡ Ok rest
unfolding magic_at
magic_again rest = rw (taken_again 4 magic rest refl) refl

-- ---- the packet

record PacketRead (is_there : Bool) (bytes : List ℕ) (x : Option (List ℕ) × List ℕ) : Type 0 where
  pub takes : Takes bytes (packet_bytes x.0) x.1
  pub few : IfSome x.0 (λ packet. length packet ≤ MOST_CAPTURED)
  pub there : is_some x.0 ≡ is_there

packet_read : (is_there : Bool) (bytes middle rest : List ℕ) (size : ℕ) (packet : List ℕ) →
    Takes bytes (number_bytes 4 size) middle → Takes middle packet rest → length packet ≡ size →
    size ≤ (if is_there then MOST_CAPTURED else 0)
    → PacketRead is_there bytes ((if is_there then Some packet else None), rest)
packet_read true bytes middle rest size packet first second long few = record {
  takes = Takes-then bytes (number_bytes 4 (length packet)) middle packet rest
      (subst (λ (n : ℕ). Takes bytes (number_bytes 4 n) middle) (sym long) first) second;
  few = omega (arith, long);
  there = refl;
}
packet_read false bytes middle rest size packet first second long few =
    let none : packet ≡ [] = nil_from_length packet (omega (arith, long)) in
    let nothing : Takes middle [] rest = subst (λ (p : List ℕ). Takes middle p rest) none second in
    let zero_is : size ≡ 0 = omega arith in
    let both = Takes-then bytes (number_bytes 4 size) middle [] rest first nothing in
    record {
      takes = subst (λ (n : ℕ). Takes bytes (number_bytes 4 n) rest) zero_is
          (subst (λ (t : List ℕ). Takes bytes t rest) (append-nil (number_bytes 4 size)) both);
      few = tt;
      there = refl;
    }

packet_takes : (is_there : Bool) (bytes : List ℕ) (x : Option (List ℕ) × List ℕ) → IsBytes bytes →
    packet_at is_there bytes ≡ Ok x → PacketRead is_there bytes x
unfolding packet_at
packet_takes is_there bytes x fits is =
    let most = (if is_there then MOST_CAPTURED else 0) in
    let size = bind_ok (integer_at 4 bytes)
    (λ size. unless (leb size.0 most) (fault_of bytes Range) >> (taken_at size.0 size.1 >>= λ packet.
    Ok ((if is_there then Some packet.0 else None), packet.1))) x is in
    let passed = test_ok (leb size.0.0 most) bytes Range (taken_at size.0.0 size.0.1 >>= λ packet.
    Ok ((if is_there then Some packet.0 else None), packet.1)) x size.2 in
    let packet = bind_ok (taken_at size.0.0 size.0.1) (λ packet. Ok (
      (if is_there then Some packet.0 else None),
      packet.1,
    )) x passed.1 in
    let first = number_takes 4 (2 ^ 32) wide_4 bytes size.0 fits size.1 in
    let second = taken_takes size.0.0 size.0.1 packet.0 first.0.rest_fits packet.1 in
    subst (PacketRead is_there bytes) (ok_is ((if is_there then Some packet.0.0 else None), packet.0.1) x packet.2)
    (packet_read is_there bytes size.0.1 packet.0.1 size.0.0 packet.0.0 first.0 second.0 second.1
    (leb-true size.0.0 most passed.0))

packet_again : (packet : Option (List ℕ)) (rest : List ℕ) → IfSome packet (λ p. length p ≤ MOST_CAPTURED) →
    packet_at (is_some packet) (packet_bytes packet ++ rest) ≡ Ok (packet, rest)
unfolding packet_at
packet_again None rest few = rw (number_again 4 (2 ^ 32) wide_4 0 rest (omega arith), taken_again 0 [] rest refl) refl
packet_again (Some packet) rest few =
    let text : packet_bytes (Some packet) ++ rest ≡ number_bytes 4 (length packet) ++ (packet ++ rest) =
    append_assoc (number_bytes 4 (length packet)) packet rest in
    ap (packet_at true) text ∙ rw (
      number_again 4 (2 ^ 32) wide_4 (length packet) (packet ++ rest) (omega arith),
      le-leb (length packet) MOST_CAPTURED few,
      taken_again (length packet) packet rest refl,
    ) refl

-- ---- from what the types hold and the condition to what has a spelling, and back

logs_spelled : (ls : List Logged) → AllByRecursion IsLog ls → AllByRecursion (λ log. MarksSome log.before) ls →
    AllByRecursion IsLogSpelled ls
logs_spelled [] typed some = tt
logs_spelled (log ∷ ls) typed some = (record { typed = typed.0; some = some.0 }, logs_spelled ls typed.1 some.1)

logs_typed : (ls : List Logged) → AllByRecursion IsLogSpelled ls →
    AllByRecursion IsLog ls × AllByRecursion (λ log. MarksSome log.before) ls
logs_typed [] each = (tt, tt)
logs_typed (log ∷ ls) each = let rest = logs_typed ls each.1 in ((each.0.typed, rest.0), (each.0.some, rest.1))

pub needs_spelled : (ns : List Need) → AllByRecursion IsNeed ns → AllByRecursion (λ need. MarksSome need.marks) ns →
    AllByRecursion (IsNeedSpelled 0) ns
needs_spelled [] typed some = tt
needs_spelled (need ∷ ns) typed some = (
  record {
    group = typed.0.group;
    marks = record {
      size = typed.0.marks.size;
      some = marked_some need.marks some.0.some.0 some.0.some.1;
      each = each_mark need.marks typed.0.marks.bounds;
    };
  },
  needs_spelled ns typed.1 some.1,
)

needs_typed : (ns : List Need) → AllByRecursion (IsNeedSpelled 0) ns →
    AllByRecursion IsNeed ns × AllByRecursion (λ need. MarksSome need.marks) ns
needs_typed [] each = (tt, tt)
needs_typed (need ∷ ns) each =
    let rest = needs_typed ns each.1 in (
      (record { group = each.0.group; marks = marks_are 0 need.marks each.0.marks }, rest.0),
      (record { some = some_marked need.marks each.0.marks.some }, rest.1),
    )

pub rising_few : (from : ℕ) (ns : List Need) → from ≤ MOST_SERVERS → AllByRecursion IsNeed ns →
    needs_rise from ns ≡ true → from + length ns ≤ MOST_SERVERS
rising_few from [] low each rising = omega arith
rising_few from (need ∷ ns) low each rising =
    let order = and_parts (leb from need.group) (needs_rise (need.group + 1) ns) rising in
    omega (
      arith,
      leb-true from need.group order.0,
      rising_few (need.group + 1) ns (omega (arith, each.0.group)) each.1 order.1,
    )

-- ---- a message

kind_is : (packet : Option (List ℕ)) (byte : ℕ) → byte ≤ 1 → is_some packet ≡ (byte == 0) → byte ≡ kind packet
kind_is None zero small is = let clash : false ≡ true = is in absurd cc
kind_is None (suc zero) small is = refl
kind_is (Some packet) zero small is = refl
kind_is (Some packet) (suc zero) small is = let clash : true ≡ false = is in absurd cc
kind_is packet (suc (suc byte)) small is = absurd (omega arith)

kind_again : (packet : Option (List ℕ)) → (kind packet == 0) ≡ is_some packet
kind_again None = refl
kind_again (Some packet) = refl

kind_small : (packet : Option (List ℕ)) → kind packet ≤ 1
kind_small None = omega arith
kind_small (Some packet) = omega arith

-- a message that has a spelling
pub record IsSpelled (message : Message) : Type 0 where
  pub typed : IsTyped message
  pub right : IsWellFormed message

no_needs : (packet : Option (List ℕ)) (is_there : Bool) (ns : List Need) → is_some packet ≡ is_there →
    length ns ≤ (if is_there then MOST_SERVERS else 0) → packet ≡ None → ns ≡ []
no_needs packet true ns there few none = let clash : false ≡ true = sym (ap is_some none) ∙ there in absurd cc
no_needs packet false ns there few none = nil_from_length ns (omega arith)

abbrev ok_front : ℕ → Option (List ℕ) → List ℕ → Result ((ℕ × Option (List ℕ)) × List ℕ) FieldFault
ok_front origin packet rest = Ok ((origin, packet), rest)

abbrev made : ℕ → Option (List ℕ) → List Logged → List Need → List (List ℕ) → Message
made origin packet ls ns commits = record { origin = origin; packet = packet; logs = ls; needs = ns; commits = commits }

abbrev ok_message : ℕ → Option (List ℕ) → List Logged → List Need → List (List ℕ) → List ℕ →
    Result (Message × List ℕ) FieldFault
ok_message origin packet ls ns commits rest = Ok (made origin packet ls ns commits, rest)

record FrontRead (bytes : List ℕ) (x : (ℕ × Option (List ℕ)) × List ℕ) : Type 0 where
  pub takes : Takes bytes (magic ++ (kind x.0.1 ∷ (number_bytes 4 x.0.0 ++ packet_bytes x.0.1))) x.1
  pub small : x.0.0 < 2 ^ 32
  pub few : IfSome x.0.1 (λ packet. length packet ≤ MOST_CAPTURED)

front_takes : (bytes : List ℕ) (x : (ℕ × Option (List ℕ)) × List ℕ) → IsBytes bytes → front_at bytes ≡ Ok x →
    FrontRead bytes x
unfolding front_at
front_takes bytes x fits is =
    let one = bind_ok (magic_at bytes) (λ rest. within_at 0 1 rest >>= λ k. integer_at 4 k.1 >>= λ origin.
    packet_at (k.0 == 0) origin.1 >>= λ packet. Ok ((origin.0, packet.0), packet.1)) x is in
    let k = bind_ok (within_at 0 1 one.0) (λ k. integer_at 4 k.1 >>= λ origin.
    packet_at (k.0 == 0) origin.1 >>= λ packet. Ok ((origin.0, packet.0), packet.1)) x one.2 in
    let origin = bind_ok (integer_at 4 k.0.1) (λ origin. packet_at (k.0.0 == 0) origin.1 >>= λ packet.
    Ok ((origin.0, packet.0), packet.1)) x k.2 in
    let packet = bind_ok (packet_at (k.0.0 == 0) origin.0.1) (λ packet. Ok (
      (origin.0.0, packet.0),
      packet.1,
    )) x origin.2 in
    let a = magic_takes bytes one.0 fits one.1 in
    let b = within_takes 0 1 one.0 k.0 a.rest_fits k.1 in
    let c = number_takes 4 (2 ^ 32) wide_4 k.0.1 origin.0 b.0.rest_fits origin.1 in
    let d = packet_takes (k.0.0 == 0) origin.0.1 packet.0 c.0.rest_fits packet.1 in
    front_is bytes one.0 k.0.1 origin.0.1 packet.0.1 k.0.0 origin.0.0 packet.0.0 x a b.0 c.0 d.takes
    (kind_is packet.0.0 k.0.0 b.2 d.there) c.1 d.few packet.2
  where
    front_is : (bytes one two three four : List ℕ) (k origin : ℕ) (packet : Option (List ℕ)) (x : (ℕ × Option (List ℕ))
        × List ℕ) → Takes bytes magic one → Takes one (k ∷ []) two → Takes two (number_bytes 4 origin) three →
        Takes three (packet_bytes packet) four
        → k ≡ kind packet → origin < 2 ^ 32 → IfSome packet (λ p. length p ≤ MOST_CAPTURED) →
        ok_front origin packet four ≡ Ok x → FrontRead bytes x
    front_is bytes one two three four k origin packet x a b c d kind_is small few is =
        subst (FrontRead bytes) (ok_is ((origin, packet), four) x is) (record {
          takes = Takes-then bytes magic one (kind packet ∷ (number_bytes 4 origin ++ packet_bytes packet)) four a
              (Takes-then one (kind packet ∷ []) two (number_bytes 4 origin
              ++ packet_bytes packet) four (subst (λ (n : ℕ). Takes one (n ∷ []) two) kind_is b)
              (Takes-then two (number_bytes 4 origin) three (packet_bytes packet) four c d));
          small = small;
          few = few;
        })

front_again : (origin : ℕ) (packet : Option (List ℕ)) (rest : List ℕ) → origin < 2 ^ 32 →
    IfSome packet (λ p. length p ≤ MOST_CAPTURED)
    → front_at (magic ++ (kind packet ∷ (number_bytes 4 origin ++ (packet_bytes packet ++ rest))))
    ≡ Ok ((origin, packet), rest)
unfolding front_at
front_again origin packet rest small few =
    let behind = packet_bytes packet ++ rest in
    rw (
      magic_again (kind packet ∷ (number_bytes 4 origin ++ behind)),
      within_again 0 1 (kind packet) (number_bytes 4 origin ++ behind) (omega arith) (kind_small packet),
      number_again 4 (2 ^ 32) wide_4 origin behind small,
      kind_again packet,
      packet_again packet rest few,
    ) refl

joined : (bytes one two three rest : List ℕ) (origin : ℕ) (packet : Option (List ℕ)) (ls : List Logged) (ns : List Need)
    (commits : List (List ℕ))
    → Takes bytes (magic ++ (kind packet ∷ (number_bytes 4 origin ++ packet_bytes packet))) one →
    Takes one (logs_bytes ls) two → Takes two (needs_bytes ns) three → Takes three (commits_bytes commits) rest
    → Takes bytes (spelling (made origin packet ls ns commits)) rest
unfolding spelling
joined bytes one two three rest origin packet ls ns commits a b c d =
    let behind = logs_bytes ls ++ (needs_bytes ns ++ commits_bytes commits) in
    let whole = Takes-then bytes (magic
    ++ (kind packet ∷ (number_bytes 4 origin ++ packet_bytes packet))) one behind rest a
    (Takes-then one (logs_bytes ls) two (needs_bytes ns
    ++ commits_bytes commits) rest b (Takes-then two (needs_bytes ns) three (commits_bytes commits) rest c d)) in
    let regrouped : (magic ++ (kind packet ∷ (number_bytes 4 origin ++ packet_bytes packet))) ++ behind ≡ magic
    ++ (kind packet ∷ (number_bytes 4 origin ++ (packet_bytes packet ++ behind))) =
    ap (λ (text : List ℕ). magic
    ++ (kind packet ∷ text)) (append_assoc (number_bytes 4 origin) (packet_bytes packet) behind) in
    subst (λ (text : List ℕ). Takes bytes text rest) regrouped whole

message_is : (bytes one two three rest : List ℕ) (origin : ℕ) (packet : Option (List ℕ)) (ls : List Logged)
    (ns : List Need) (commits : List (List ℕ)) (x : Message × List ℕ)
    → FrontRead bytes ((origin, packet), one) → Takes one (logs_bytes ls) two × AreLogsSpelled ls →
    Takes two (needs_bytes ns) three × AreNeedsSpelled 0 (most_needs packet) ns →
    Takes three (commits_bytes commits) rest × AreCommits commits
    → ok_message origin packet ls ns commits rest ≡ Ok x → Takes bytes (spelling x.0) x.1 × IsSpelled x.0
message_is bytes one two three rest origin packet ls ns commits x a b c d is =
    let typed_logs = logs_typed ls b.1.each in
    let typed_needs = needs_typed ns c.1.each in
    let P : Message × List ℕ → Type 0 = λ y. Takes bytes (spelling y.0) y.1 × IsSpelled y.0 in
    subst P (ok_is (made origin packet ls ns commits, rest) x is) (
      joined bytes one two three rest origin packet ls ns commits a.takes b.0 c.0 d.0,
      record {
        typed = record {
          origin = a.small;
          logs = record { each = typed_logs.0; rising = b.1.rising };
          needs = record { each = typed_needs.0; rising = c.1.rising };
          commits = d.1;
        };
        right = record {
          packet = a.few;
          few_logs = omega (arith, b.1.few);
          logs = typed_logs.1;
          needs = typed_needs.1;
          no_needs = no_needs packet (is_some packet) ns refl c.1.few;
        };
      },
    )

pub message_takes : (bytes : List ℕ) (x : Message × List ℕ) → IsBytes bytes → message_at bytes ≡ Ok x →
    Takes bytes (spelling x.0) x.1 × IsSpelled x.0
unfolding message_at
message_takes bytes x fits is =
    let front = bind_ok (front_at bytes) (λ front. logs_at front.1 >>= λ ls.
    needs_at (most_needs front.0.1) 0 ls.1 >>= λ ns. commits_at ns.1 >>= λ commits.
    ok_message front.0.0 front.0.1 ls.0 ns.0 commits.0 commits.1) x is in
    let ls = bind_ok (logs_at front.0.1) (λ ls. needs_at (most_needs front.0.0.1) 0 ls.1 >>= λ ns.
    commits_at ns.1 >>= λ commits. ok_message front.0.0.0 front.0.0.1 ls.0 ns.0 commits.0 commits.1) x front.2 in
    let ns = bind_ok (needs_at (most_needs front.0.0.1) 0 ls.0.1) (λ ns. commits_at ns.1 >>= λ commits.
    ok_message front.0.0.0 front.0.0.1 ls.0.0 ns.0 commits.0 commits.1) x ls.2 in
    let commits = bind_ok (commits_at ns.0.1)
    (λ commits. ok_message front.0.0.0 front.0.0.1 ls.0.0 ns.0.0 commits.0 commits.1) x ns.2 in
    let a = front_takes bytes front.0 fits front.1 in
    let b = logs_at_takes front.0.1 ls.0 a.takes.rest_fits ls.1 in
    let c = needs_at_takes (most_needs front.0.0.1) 0 ls.0.1 ns.0 b.0.rest_fits ns.1 in
    let d = commits_at_takes ns.0.1 commits.0 c.0.rest_fits commits.1 in
    message_is bytes front.0.1 ls.0.1 ns.0.1 commits.0.1 front.0.0.0 front.0.0.1 ls.0.0 ns.0.0 commits.0.0 x a b c d
    commits.2

few_needs : (packet : Option (List ℕ)) (ns : List Need) → AreNeeds ns → (packet ≡ None → ns ≡ []) →
    length ns ≤ most_needs packet
few_needs None ns are none = omega (arith, ap length (none refl))
few_needs (Some packet) ns are none = omega (arith, rising_few 0 ns (omega arith) are.each are.rising)

pub message_again : (message : Message) (rest : List ℕ) → IsSpelled message →
    message_at (spelling message ++ rest) ≡ Ok (message, rest)
unfolding message_at spelling
message_again message rest is =
    let packet = message.packet in
    let last = commits_bytes message.commits ++ rest in
    let third = needs_bytes message.needs ++ last in
    let second = logs_bytes message.logs ++ third in
    let text : spelling message ++ rest ≡ magic
    ++ (kind packet ∷ (number_bytes 4 message.origin ++ (packet_bytes packet ++ second))) =
    spelled_parts (number_bytes 4 message.origin) (packet_bytes packet) (logs_bytes message.logs)
    (needs_bytes message.needs) (commits_bytes message.commits) rest (kind packet) in
    let a = front_again message.origin packet second is.typed.origin is.right.packet in
    let b = logs_at_again message.logs third (record {
      few = omega (arith, is.right.few_logs);
      each = logs_spelled message.logs is.typed.logs.each is.right.logs;
      rising = is.typed.logs.rising;
    }) in
    let c = needs_at_again (most_needs packet) 0 message.needs last
    (record {
      few = few_needs packet message.needs is.typed.needs is.right.no_needs;
      each = needs_spelled message.needs is.typed.needs.each is.right.needs;
      rising = is.typed.needs.rising;
    }) in
    let d = commits_at_again message.commits rest is.typed.commits in
    ap message_at text ∙ rw (a, b, c, d) refl
  where
    spelled_parts : (a b c d e rest : List ℕ) (k : ℕ) → (magic ++ (k ∷ (a ++ (b ++ (c ++ (d ++ e)))))) ++ rest ≡ magic
        ++ (k ∷ (a ++ (b ++ (c ++ (d ++ (e ++ rest))))))
    spelled_parts a b c d e rest k = ap (λ (t : List ℕ). magic ++ (k ∷ t)) (simp append_assoc)

-- ---- a whole frame

pub whole_takes : (frame : List ℕ) (message : Message) → IsBytes frame → whole_of frame ≡ Ok message →
    (frame ≡ spelling message) × IsSpelled message
unfolding whole_of
whole_takes frame message fits is =
    let read = bind_ok (message_at frame)
    (λ found. unless (length found.1 == 0) (fault_of found.1 Trailing) >> Ok found.0) message is in
    let passed = test_ok (length read.0.1 == 0) read.0.1 Trailing (Ok read.0.0) message read.2 in
    let found = message_takes frame read.0 fits read.1 in
    let nothing : read.0.1 ≡ [] = nil_from_length read.0.1 (eqb-true (length read.0.1) 0 passed.0) in
    let whole : frame ≡ spelling read.0.0 =
    found.0.parts ∙ ap (λ (rest : List ℕ). spelling read.0.0 ++ rest) nothing ∙ append-nil (spelling read.0.0) in
    let P : Message → Type 0 = λ m. (frame ≡ spelling m) × IsSpelled m in
    subst P (ok_is read.0.0 message passed.1) (whole, found.1)

pub whole_again : (message : Message) → IsSpelled message → whole_of (spelling message) ≡ Ok message
unfolding whole_of
whole_again message is =
    let read : message_at (spelling message) ≡ Ok (message, []) =
    ap message_at (sym (append-nil (spelling message))) ∙ message_again message [] is in
    rw read refl

-- ---- what follows

pub is_read : (message : Message) → IsTyped message → IsWellFormed message → message_of (spelling message) ≡ Ok message
is_read message typed right = rw (whole_again message (record { typed = typed; right = right })) refl

abbrev read_as : Message → Result Message FrameFault
read_as message = Ok message

pub no_fault : (message : Message) (fault : FrameFault) → IsTyped message → IsWellFormed message →
    message_of (spelling message) ≡ Err fault → ⊥
no_fault message fault typed right wrong =
    let clash : read_as message ≡ Err fault = sym (is_read message typed right) ∙ wrong in
    cc

pub same_message : (one other : Message) → IsTyped one → IsWellFormed one → IsTyped other → IsWellFormed other →
    spelling one ≡ spelling other → one ≡ other
same_message one other typed_one right_one typed_other right_other same =
    let both : read_as one ≡ read_as other =
    sym (is_read one typed_one right_one) ∙ ap message_of same ∙ is_read other typed_other right_other in
    cc

abbrev front_of : Message → List ℕ → Result (Message × List ℕ) FieldFault
front_of message rest = Ok (message, rest)

pub no_front : (one other : Message) (rest : List ℕ) → IsTyped one → IsWellFormed one → IsTyped other →
    IsWellFormed other → spelling one ++ rest ≡ spelling other → rest ≡ []
no_front one other rest typed_one right_one typed_other right_other same =
    let first : message_at (spelling one ++ rest) ≡ front_of one rest =
    message_again one rest (record { typed = typed_one; right = right_one }) in
    let second : message_at (spelling other) ≡ front_of other [] =
    ap message_at (sym (append-nil (spelling other))) ∙ message_again other [] (record {
      typed = typed_other;
      right = right_other;
    }) in
    let both : front_of one rest ≡ front_of other [] = sym first ∙ ap message_at same ∙ second in
    ap (λ (found : Message × List ℕ). found.1) (ok_is (one, rest) (other, []) both)

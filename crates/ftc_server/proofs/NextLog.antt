-- The log that is applied next is the one of its packet and group.
use Rattle.std.proofs.Common.{◌≡◌, ◌∙◌, not, length, ℕ, Bool, true, false, List, [], ◌∷◌, Option, Some, None, refl, sym}
use Rattle.std.proofs.Common.{ap, cond, arith}
use Rattle.std.specs.Prelude.{◌==◌, find}
use Rattle.std.proofs.lemmas.Bool.{eq-eqb, and_parts}
use Rattle.std.proofs.lemmas.Bool.Decides.{nat_tests}
use Rattle.ftc_message.specs.Logged.{Logged, log_follows, logs_rise}
use Rattle.ftc_message.specs.Ordered.{is_log_of}
use Rattle.ftc_replica.specs.Held.{Held}
use Rattle.ftc_server.specs.declared.held.HeldMessage.{HeldMessage}
use Rattle.ftc_server.specs.declared.server.Server.{Server}
use Rattle.ftc_server.specs.declared.work.Work.TheVariants.{Apply, Visit, Send, Carry}
use Rattle.ftc_server.specs.Holding.{found}
use Rattle.ftc_server.specs.Looks.{log_of, log_in, may_apply_in, may_apply_one}
use Rattle.ftc_server.specs.Replicas.{replica_at, is_had, is_ready, may_apply, may_apply_to}
use Rattle.ftc_server.specs.Work.{is_packet_of, is_waiting, next_log, work_behind, work_for}
use Rattle.ftc_server.proofs.Finding.{and_both}

-- it is the first of its name, it stands behind what is before the list, and it may be applied
pub record IsNext (replicas : List (Option Held)) (last : Option (ℕ × ℕ)) (logs : List Logged)
    (log : Logged) : Type 0 where
  pub there : find (is_log_of log.origin log.group) logs ≡ Some log
  pub behind : log_follows last log.origin log.group ≡ true
  pub lacking : is_had replicas log ≡ false
  pub allowed : may_apply replicas log ≡ true

pub goes_on : (last : Option (ℕ × ℕ)) (first log : Logged) → log_follows last first.origin first.group ≡ true
    → log_follows (Some (first.origin, first.group)) log.origin log.group ≡ true →
    log_follows last log.origin log.group ≡ true
goes_on None first log follows later = refl
goes_on (Some last) first log follows later = grind (arith, nat_tests, follows, later)

pub another : (first log : Logged) → log_follows (Some (first.origin, first.group)) log.origin log.group ≡ true
    → is_log_of log.origin log.group first ≡ false
another first log later = grind (arith, nat_tests, later)

pub is_itself : (log : Logged) → is_log_of log.origin log.group log ≡ true
is_itself log = and_both (log.origin == log.origin) (log.group == log.group) (eq-eqb log.origin log.origin refl)
    (eq-eqb log.group log.group refl)

behind_first : (replicas : List (Option Held)) (last : Option (ℕ × ℕ)) (first : Logged) (logs : List Logged)
    (log : Logged)
    → log_follows last first.origin first.group ≡ true → IsNext replicas (Some (first.origin, first.group)) logs log
    → IsNext replicas last (first ∷ logs) log
behind_first replicas last first logs log follows next = record {
  there = ap (λ (b : Bool). cond b (Some first) (find (is_log_of log.origin log.group) logs))
      (another first log next.behind) ∙ next.there;
  behind = goes_on last first log follows next.behind;
  lacking = next.lacking;
  allowed = next.allowed;
}

pub next_is : (replicas : List (Option Held)) (waiting : Option ℕ) (last : Option (ℕ × ℕ)) (logs : List Logged)
    (log : Logged)
    → logs_rise last logs ≡ true → next_log replicas waiting logs ≡ Some log → IsNext replicas last logs log
next_is replicas waiting last [] log rising next = absurd cc
next_is replicas waiting last (first ∷ logs) log rising next =
    let parts = and_parts (log_follows last first.origin first.group)
    (logs_rise (Some (first.origin, first.group)) logs) rising in
    let later : (w : Option ℕ) → next_log replicas w logs ≡ Some log → IsNext replicas last (first ∷ logs) log = λ w is.
    behind_first replicas last first logs log parts.0
    (next_is replicas w (Some (first.origin, first.group)) logs log parts.1 is) in
    elim (is_had replicas first) as (λ h. is_had replicas first ≡ h → cond h (next_log replicas waiting logs)
    (cond (is_packet_of waiting first) (next_log replicas waiting logs)
    (cond (may_apply replicas first) (Some first) (next_log replicas (Some first.origin) logs))) ≡ Some log
    → IsNext replicas last (first ∷ logs) log) [
      | true ↦ λ _ is. later waiting is
      | false ↦ λ lacks.
          elim (is_packet_of waiting first) as (λ w. cond w (next_log replicas waiting logs)
          (cond (may_apply replicas first) (Some first) (next_log replicas (Some first.origin) logs)) ≡ Some log
          → IsNext replicas last (first ∷ logs) log) [
            | true ↦ λ is. later waiting is
            | false ↦
                elim (may_apply replicas first) as (λ m. may_apply replicas first ≡ m
                → cond m (Some first) (next_log replicas (Some first.origin) logs) ≡ Some log
                → IsNext replicas last (first ∷ logs) log) [
                  | true ↦ λ may same.
                      let e : first ≡ log = cc in
                      record {
                        there = ap (λ (l : Logged). find (is_log_of l.origin l.group) (first ∷ logs)) (sym e)
                            ∙ ap (λ (b : Bool). cond b (Some first) (find (is_log_of first.origin first.group) logs))
                            (is_itself first) ∙ same;
                        behind = ap (λ (l : Logged). log_follows last l.origin l.group) (sym e) ∙ parts.0;
                        lacking = ap (is_had replicas) (sym e) ∙ lacks;
                        allowed = ap (may_apply replicas) (sym e) ∙ may;
                      }
                  | false ↦ λ _ is. later (Some first.origin) is
                ] refl
          ]
    ] refl next

-- the work is the apply of the next log
no_apply : (ready waiting by_ring : Bool) (group packet : ℕ)
    → cond ready (Some (cond waiting Visit (cond by_ring Carry Send))) None ≡ Some (Apply group packet) → ⊥
no_apply false waiting by_ring group packet is = absurd cc
no_apply true true by_ring group packet is = absurd cc
no_apply true false true group packet is = absurd cc
no_apply true false false group packet is = absurd cc

applies : (replicas : List (Option Held)) (held : HeldMessage) (next : Option Logged) (group packet : ℕ)
    → work_behind replicas held next ≡ Some (Apply group packet)
    → (log : Logged) × (next ≡ Some log) × (log.group ≡ group) × (log.origin ≡ packet)
applies replicas held (Some log) group packet is = (log, refl, cc, cc)
applies replicas held None group packet is =
    absurd (no_apply (is_ready replicas held) (is_waiting held) held.by_ring group packet is)

-- a log that is the work of a held message may be applied
pub work_allowed : (server : Server) (origin group packet : ℕ) (held : HeldMessage)
    → found origin server.held.items ≡ Some held → logs_rise None held.message.logs ≡ true
    → work_for server.others.items held ≡ Some (Apply group packet)
    → may_apply_in server origin group packet ≡ true
work_allowed server origin group packet held there rising works =
    let applied = applies server.others.items held
    (next_log server.others.items None held.message.logs) group packet works in
    let log = applied.0 in
    let next = next_is server.others.items None None held.message.logs log rising applied.1 in
    let named : log_in server origin group packet ≡ Some log =
    ap (log_of group packet) there
    ∙ ap (λ (g : ℕ). find (is_log_of packet g) held.message.logs) (sym applied.2)
    ∙ ap (λ (o : ℕ). find (is_log_of o log.group) held.message.logs) (sym applied.3) ∙ next.there in
    let halves = and_parts (not (length log.writes == 0))
    (may_apply_to (replica_at server.others.items log.group) log) next.allowed in
    ap (may_apply_one server.others.items) named ∙ halves.1

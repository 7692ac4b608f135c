-- A drive undoes nothing, so its trace is its visits and releases.
use Rattle.std.proofs.Common.{◌≡◌, ℕ, zero, suc, ◌+◌, nat_lt, if◌then◌else◌, Bool, true, false, List, [], ◌∷◌, ◌++◌}
use Rattle.std.proofs.Common.{refl, ap, ◌∙◌, Option, Some, None}
use Rattle.std.specs.List.{flat_map}
use Rattle.std.proofs.lemmas.List.Concat.{flat_map-append}
use Rattle.ftc_base.specs.declared.limits.TheConstants.{FINISHING_SLOT}
use Rattle.ftc_journal.specs.declared.event.Event.{Event}
use Rattle.ftc_journal.specs.declared.event.Event.TheVariants.{Take, Visit, Pass}
use Rattle.ftc_journal.specs.declared.event.VisitName.{VisitName}
use Rattle.ftc_serial.specs.declared.position.Position.{Position}
use Rattle.ftc_serial.specs.Words.{each_below}
use Rattle.ftc_serial.specs.Trace.{undone_by, steps_of, trace_of}
use Rattle.ftc_serial.specs.Drive.{filtered_at, is_visited, server_events, release_events, packet_events, drive}
use Rattle.ftc_protocol.proofs.Driven.{steps_with}

abbrev undone_in : List Event → List VisitName
undone_in events = flat_map undone_by events

both_undo : (xs ys : List Event) → undone_in xs ≡ [] → undone_in ys ≡ [] → undone_in (xs ++ ys) ≡ []
both_undo xs ys first second =
    flat_map-append undone_by xs ys ∙ (ap (λ (l : List VisitName). l ++ undone_in ys) first ∙ second)

each_undoes : (events : ℕ → List Event) (count : ℕ) → ((k : ℕ) → undone_in (events k) ≡ []) →
    undone_in (each_below events count) ≡ []
each_undoes events zero none_undone = refl
each_undoes events (suc count) none_undone =
    both_undo (each_below events count) (events count) (each_undoes events count none_undone) (none_undone count)

server_undoes : (k p : ℕ) (visited taken : Bool) →
    undone_in ((if visited then Visit k p FINISHING_SLOT ∷ [] else []) ++ Pass k p ∷ (if taken then Take k p ∷ []
    else [])) ≡ []
server_undoes k p true true = refl
server_undoes k p true false = refl
server_undoes k p false true = refl
server_undoes k p false false = refl

release_undoes : (p : ℕ) (filtered : Option ℕ) → undone_in (release_events p filtered) ≡ []
release_undoes p None = refl
release_undoes p (Some server) = refl

packet_undoes : (n p : ℕ) (filtered : Option ℕ) → undone_in (packet_events n p filtered) ≡ []
packet_undoes n p filtered =
    both_undo (each_below (server_events n p filtered) n) (release_events p filtered)
    (each_undoes (server_events n p filtered) n (λ k. server_undoes k p (is_visited filtered k) (nat_lt (k + 1) n)))
    (release_undoes p filtered)

drive_undoes : (n most : ℕ) (place : ℕ → Option Position) → undone_in (drive n most place) ≡ []
drive_undoes n most place =
    each_undoes (λ p. packet_events n p (filtered_at (place p))) most (λ p. packet_undoes n p (filtered_at (place p)))

pub drive_trace : (n most : ℕ) (place : ℕ → Option Position) →
    trace_of (drive n most place) ≡ steps_with (drive n most place)
drive_trace n most place =
    ap (λ (undone : List VisitName). flat_map (steps_of undone) (drive n most place)) (drive_undoes n most place)

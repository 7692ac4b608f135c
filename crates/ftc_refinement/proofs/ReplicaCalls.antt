-- A server that applied a log.
use Rattle.std.proofs.Common.{◌≡◌, ◌∙◌, ℕ, List, Option, Some, None, ap, slice_set}
use Rattle.std.specs.Option.{option_map}
use Rattle.ftc_message.specs.Logged.{Logged}
use Rattle.ftc_replica.specs.Held.{Held, applied}
use Rattle.ftc_ring.specs.Ring.{RingShape}
use Rattle.ftc_protocol.specs.Setting.{Setting, shape}
use Rattle.ftc_protocol.specs.State.{ChainState}
use Rattle.ftc_server.specs.declared.server.Server.{Server}
use Rattle.ftc_server.specs.Looks.{replica_or_own}
use Rattle.ftc_server.specs.Replicas.{replica_at, with_applied}
use Rattle.ftc_server.specs.Standing.{with_own}
use Rattle.ftc_server.specs.State.{ServerState}
use Rattle.ftc_server.specs.Steps.{HasApplied}
use Rattle.ftc_standing.specs.Stand.{IsServer, ServerContents}
use Rattle.ftc_refinement.specs.Contents.{items_of, contents_of, IsServerAt}
use Rattle.ftc_refinement.proofs.Fields.{same_contents, same_own, stands_with}

pub put_at : (others : List (Option Held)) (log : Logged) (group : ℕ) (replica : Held) → log.group ≡ group →
    replica_at others group ≡ Some replica →
    with_applied others log ≡ slice_set others group (Some (applied log replica))
put_at others log group replica group_is there =
    ap (λ g. slice_set others g (option_map (applied log) (replica_at others g))) group_is
    ∙ ap (λ o. slice_set others group (option_map (applied log) o)) there

pub known_at : (setting : Setting) (server group : ℕ) (vector : List ℕ) (known now : List (List ℕ)) (ring : RingShape)
    (number : ℕ) →
    ring ≡ shape setting → number ≡ server → now ≡ with_own ring number group vector known →
    now ≡ with_own (shape setting) server group vector known
known_at setting server group vector known now ring number ring_is number_is is =
    is ∙ (ap (λ r. with_own r number group vector known) ring_is
    ∙ ap (λ n. with_own (shape setting) n group vector known) number_is)

abbrev pub with_replicas : Server → List (Option Held) → List (List ℕ) → ServerContents
with_replicas old later known = record (contents_of old) { later = later; known = known }

pub applies : (setting : Setting) (before after : ChainState) (number : ℕ) (old new : Server) (origin group packet : ℕ)
    (later : List (Option Held)) (known : List (List ℕ)) → IsServerAt setting before number old →
    HasApplied old new origin group packet → new.others.items ≡ later → new.known ≡ known →
    IsServer setting after number (with_replicas old later known) → IsServerAt setting after number new
applies setting before after number old new origin group packet later known was done others knows =
    stands_with setting before after number old new (with_replicas old later known) was
    (record {
      ring = ap (λ (s : ServerState). s.ring) done.rest;
      number = ap (λ (s : ServerState). s.id) done.rest;
      rule = ap (λ (s : ServerState). s.rule) done.rest;
      partitions = ap (λ (s : ServerState). s.partitions) done.rest;
    })
    (same_contents (replica_or_own new None) (replica_or_own old None) new.others.items later new.known known
    (items_of new.held.items) (items_of old.held.items) new.buffer.items old.buffer.items new.forwarder old.forwarder
    (same_own new old (ap (λ (s : ServerState). s.head) done.rest) (ap (λ (s : ServerState). s.own.items) done.rest))
    others knows
    (ap items_of done.held)
    (ap (λ (s : ServerState). s.buffer.items) done.rest)
    (ap (λ (s : ServerState). s.forwarder) done.rest))

-- A server that a message or a packet left.
use Rattle.std.proofs.Common.{◌≡◌, ◌∙◌, ◌+◌, ◌==◌, ◌++◌, ℕ, true, false, List, [], Some, None, ap, cond}
use Rattle.ftc_edge.specs.declared.buffer.Withheld.{Withheld}
use Rattle.ftc_edge.specs.Due.{WithheldPackets}
use Rattle.ftc_message.specs.Logged.{Logged}
use Rattle.ftc_ring.specs.Ring.{RingShape}
use Rattle.ftc_protocol.specs.Setting.{Setting, servers, shape}
use Rattle.ftc_protocol.specs.State.{ChainState}
use Rattle.ftc_server.specs.declared.held.HeldMessage.{HeldMessage}
use Rattle.ftc_server.specs.declared.server.Server.{Server}
use Rattle.ftc_server.specs.Holding.{Holding, found}
use Rattle.ftc_server.specs.Looks.{replica_or_own}
use Rattle.ftc_server.specs.Standing.{is_last}
use Rattle.ftc_server.specs.State.{ServerState, fields_of}
use Rattle.ftc_server.specs.Steps.{HasPassed, withheld_of}
use Rattle.ftc_standing.specs.Stand.{HeldItem, IsServer, ServerContents}
use Rattle.ftc_refinement.specs.Contents.{items_of, contents_of, IsServerAt}
use Rattle.ftc_refinement.proofs.Fields.{IsSameServer, same_contents, same_own, stands_with}

-- what is no matter of messages is as before
pub record HasSameReplicas (new old : Server) : Type 0 where
  pub server : IsSameServer new old
  pub head : new.head ≡ old.head
  pub own : new.own.items ≡ old.own.items
  pub others : new.others.items ≡ old.others.items
  pub known : new.known ≡ old.known

abbrev pub with_messages : Server → List HeldItem → List Withheld → List Logged → ServerContents
with_messages old held withheld forwarded =
    record (contents_of old) { held = held; withheld = withheld; forwarded = forwarded }

pub leaves : (setting : Setting) (before after : ChainState) (number : ℕ) (old new : Server) (held : List HeldItem)
    (withheld : List Withheld) (forwarded : List Logged) → IsServerAt setting before number old →
    HasSameReplicas new old →
    items_of new.held.items ≡ held → new.buffer.items ≡ withheld → new.forwarder ≡ forwarded →
    IsServer setting after number (with_messages old held withheld forwarded) → IsServerAt setting after number new
leaves setting before after number old new held withheld forwarded was same holds withholds forwards =
    stands_with setting before after number old new (with_messages old held withheld forwarded) was same.server
    (same_contents (replica_or_own new None)
    (replica_or_own old None) new.others.items old.others.items new.known old.known
    (items_of new.held.items) held new.buffer.items withheld new.forwarder forwarded
    (same_own new old same.head same.own) same.others same.known holds withholds forwards)

pub same_replicas : (old new : Server) (held : Holding) (buffer : WithheldPackets) (forwarder : List Logged) →
    fields_of new ≡ record (fields_of old) { held = held; buffer = buffer; forwarder = forwarder } →
    HasSameReplicas new old
same_replicas old new held buffer forwarder rest = record {
  server = record {
    ring = ap (λ (s : ServerState). s.ring) rest;
    number = ap (λ (s : ServerState). s.id) rest;
    rule = ap (λ (s : ServerState). s.rule) rest;
    partitions = ap (λ (s : ServerState). s.partitions) rest;
  };
  head = ap (λ (s : ServerState). s.head) rest;
  own = ap (λ (s : ServerState). s.own.items) rest;
  others = ap (λ (s : ServerState). s.others) rest;
  known = ap (λ (s : ServerState). s.known) rest;
}

-- ---- a message that leaves

-- the forwarder behind it
pub forwards : (old new : Server) (origin server : ℕ) → HasPassed old new origin → old.id ≡ server →
    new.forwarder ≡ cond (server == 0) [] old.forwarder
forwards old new origin server done is = done.forwarder ∙ ap (λ n. cond (n == 0) [] old.forwarder) is

-- what is withheld behind it
module _ (setting : Setting) (old new : Server) (origin server : ℕ) (done : HasPassed old new origin)
    (ring : old.ring ≡ shape setting) (number : old.id ≡ server) (held : HeldMessage)
    (there : found origin old.held.items ≡ Some held) where
  withholds : new.buffer.items
      ≡ cond (server + 1 == servers setting) (old.buffer.items ++ withheld_of (Some held)) old.buffer.items
  withholds =
      done.buffer
      ∙ (ap (λ (r : RingShape). cond (is_last r old.id) (old.buffer.items ++ withheld_of (found origin old.held.items))
      old.buffer.items) ring
      ∙ (ap (λ n. cond (is_last (shape setting) n) (old.buffer.items ++ withheld_of (found origin old.held.items))
      old.buffer.items) number
      ∙ ap (λ o. cond (server + 1 == servers setting) (old.buffer.items ++ withheld_of o) old.buffer.items) there))

  pub withholds_others : (server + 1 == servers setting) ≡ false → new.buffer.items ≡ old.buffer.items
  withholds_others isnt =
      withholds ∙ ap (λ b. cond b (old.buffer.items ++ withheld_of (Some held)) old.buffer.items) isnt

  pub withholds_it : (server + 1 == servers setting) ≡ true →
      new.buffer.items ≡ old.buffer.items ++ withheld_of (Some held)
  withholds_it is = withholds ∙ ap (λ b. cond b (old.buffer.items ++ withheld_of (Some held)) old.buffer.items) is

-- A server that stands for the same state as before.
use Rattle.std.proofs.Common.{◌≡◌, ◌∙◌, ℕ, true, false, not, List, [], ◌∷◌, Option, Some, None, refl, sym, ap, subst}
use Rattle.std.proofs.Common.{cond}
use Rattle.std.specs.Option.{option_map}
use Rattle.ftc_message.specs.Logged.{Logged}
use Rattle.ftc_replica.specs.Held.{Held, pruned_by}
use Rattle.ftc_store.specs.Store.{Content}
use Rattle.ftc_txn.specs.Head.{HeadState}
use Rattle.ftc_protocol.specs.Setting.{Setting}
use Rattle.ftc_protocol.specs.State.{ChainState}
use Rattle.ftc_server.specs.declared.server.Server.{Server}
use Rattle.ftc_server.specs.Looks.{replica_or_own}
use Rattle.ftc_server.specs.State.{ServerState, fields_of}
use Rattle.ftc_edge.specs.Due.{WithheldPackets}
use Rattle.ftc_replica.specs.Kept.{KeptLogs, covers_log, missing}
use Rattle.ftc_vector.specs.Commits.{vector_of}
use Rattle.ftc_replica.proofs.Left.{missing_twice}
use Rattle.ftc_ties.specs.Servers.{IsReplicaAt}
use Rattle.ftc_server.specs.Holding.{Holding}
use Rattle.ftc_server.specs.Steps.{HasPruned}
use Rattle.ftc_standing.specs.Stand.{IsReplicaSlot, AreReplicas, replica_of}
use Rattle.ftc_refinement.specs.Contents.{items_of, contents_of, IsServerAt}
use Rattle.ftc_refinement.proofs.Fields.{same_contents, stands_with}

-- what matters of a server's fields is that of another server
pub record IsSameState (one : ServerState) (old : Server) : Type 0 where
  pub ring : one.ring ≡ old.ring
  pub number : one.id ≡ old.id
  pub rule : one.rule ≡ old.rule
  pub partitions : one.partitions ≡ old.partitions
  pub content : one.head.content ≡ old.head.content
  pub head_partitions : one.head.partitions ≡ old.head.partitions
  pub vector : one.head.vector ≡ old.head.vector
  pub own : one.own.items ≡ old.own.items
  pub others : one.others ≡ old.others.items
  pub known : one.known ≡ old.known
  pub held : one.held.items ≡ old.held.items
  pub buffer : one.buffer.items ≡ old.buffer.items
  pub forwarder : one.forwarder ≡ old.forwarder

abbrev head_of : Content → ℕ → List ℕ → List Logged → Held
head_of content partitions vector kept =
    record { content = content; partitions = partitions; vector = vector; kept = kept }

pub stays : (setting : Setting) (state : ChainState) (number : ℕ) (old new : Server) (one : ServerState) →
    IsServerAt setting state number old → fields_of new ≡ one → IsSameState one old →
    IsServerAt setting state number new
stays setting state number old new one was is same =
    stands_with setting state state number old new (contents_of old) was
    (record {
      ring = ap (λ (s : ServerState). s.ring) is ∙ same.ring;
      number = ap (λ (s : ServerState). s.id) is ∙ same.number;
      rule = ap (λ (s : ServerState). s.rule) is ∙ same.rule;
      partitions = ap (λ (s : ServerState). s.partitions) is ∙ same.partitions;
    })
    (same_contents (replica_or_own new None)
    (replica_or_own old None) new.others.items old.others.items new.known old.known
    (items_of new.held.items) (items_of old.held.items) new.buffer.items old.buffer.items new.forwarder old.forwarder
    (ap (λ (s : ServerState). head_of s.head.content s.head.partitions s.head.vector s.own.items) is
    ∙ (ap (λ c. head_of c one.head.partitions one.head.vector one.own.items) same.content
    ∙ (ap (λ p. head_of old.head.content p one.head.vector one.own.items) same.head_partitions
    ∙ (ap (λ v. head_of old.head.content old.head.partitions v one.own.items) same.vector
    ∙ ap (head_of old.head.content old.head.partitions old.head.vector) same.own))))
    (ap (λ (s : ServerState). s.others) is ∙ same.others)
    (ap (λ (s : ServerState). s.known) is ∙ same.known)
    (ap (λ (s : ServerState). items_of s.held.items) is ∙ ap items_of same.held)
    (ap (λ (s : ServerState). s.buffer.items) is ∙ same.buffer)
    (ap (λ (s : ServerState). s.forwarder) is ∙ same.forwarder))
    was.stands

pub all_same : (old : Server) (head : HeadState) (own : KeptLogs) (held : Holding) (buffer : WithheldPackets) →
    head.content ≡ old.head.content → head.partitions ≡ old.head.partitions → head.vector ≡ old.head.vector →
    own.items ≡ old.own.items → held.items ≡ old.held.items → buffer.items ≡ old.buffer.items →
    IsSameState (record (fields_of old) { head = head; own = own; held = held; buffer = buffer }) old
all_same old head own held buffer content partitions vector owns holds withholds = record {
  ring = refl;
  number = refl;
  rule = refl;
  partitions = refl;
  content = content;
  head_partitions = partitions;
  vector = vector;
  own = owns;
  others = refl;
  known = refl;
  held = holds;
  buffer = withholds;
  forwarder = refl;
}

module _ (setting : Setting) (state : ChainState) (number : ℕ) (old new : Server)
    (was : IsServerAt setting state number old) where
  pub with_nothing : fields_of new ≡ fields_of old → IsServerAt setting state number new
  with_nothing is = stays setting state number old new (fields_of old) was is
      (all_same old old.head old.own old.held old.buffer refl refl refl refl refl refl)

  -- only the locks and the slots of the head differ
  pub with_head : (head : HeadState) → fields_of new ≡ record (fields_of old) { head = head } →
      head.content ≡ old.head.content → head.partitions ≡ old.head.partitions → head.vector ≡ old.head.vector →
      IsServerAt setting state number new
  with_head head is content partitions vector =
      stays setting state number old new (record (fields_of old) { head = head }) was is
      (all_same old head old.own old.held old.buffer content partitions vector refl refl refl)

  -- only rooms differ
  pub with_own_room : fields_of new ≡ record (fields_of old) { own = new.own } → new.own.items ≡ old.own.items →
      IsServerAt setting state number new
  with_own_room is same = stays setting state number old new (record (fields_of old) { own = new.own }) was is
      (all_same old old.head new.own old.held old.buffer refl refl refl same refl refl)

  pub with_held_room : fields_of new ≡ record (fields_of old) { held = new.held } → new.held.items ≡ old.held.items →
      IsServerAt setting state number new
  with_held_room is same = stays setting state number old new (record (fields_of old) { held = new.held }) was is
      (all_same old old.head old.own new.held old.buffer refl refl refl refl same refl)

  pub with_buffer_room : fields_of new ≡ record (fields_of old) { buffer = new.buffer } →
      new.buffer.items ≡ old.buffer.items → IsServerAt setting state number new
  with_buffer_room is same = stays setting state number old new (record (fields_of old) { buffer = new.buffer }) was is
      (all_same old old.head old.own old.held new.buffer refl refl refl refl refl same)

-- ---- kept logs that are known at the tails

pruned_once : (vector : List ℕ) (held : Held) → pruned_by vector (pruned_by vector held) ≡ pruned_by vector held
pruned_once vector held =
    ap (head_of held.content held.partitions held.vector) (missing_twice vector held.kept)

module _ (setting : Setting) (state : ChainState) (number : ℕ) (known : List (List ℕ)) where
  slot_pruned : (group : ℕ) (o : Option Held) → IsReplicaSlot setting state number known group o →
      IsReplicaSlot setting state number known group (option_map (pruned_by (vector_of known group)) o)
  slot_pruned group None is = is
  slot_pruned group (Some held) is =
      (is.0, is.1, subst (IsReplicaAt setting state number group) (sym (pruned_once (vector_of known group) held)) is.2)

  pub replicas_pruned : (head : Held) (later fewer : List (Option Held)) →
      AreReplicas setting state number head later known →
      ((group : ℕ) → replica_of fewer group ≡ option_map (pruned_by (vector_of known group)) (replica_of later group)) →
      AreReplicas setting state number (pruned_by (vector_of known number) head) fewer known
  replicas_pruned head later fewer are each = record {
    own = subst (IsReplicaAt setting state number number) (sym (pruned_once (vector_of known number) head)) are.own;
    others = λ group below. subst (IsReplicaSlot setting state number known group) (sym (each group))
        (slot_pruned group (replica_of later group) (are.others group below));
    size = are.size;
    known = are.known;
  }

-- the server without them
pub prunes : (setting : Setting) (state : ChainState) (number : ℕ) (old new : Server) →
    IsServerAt setting state number old →
    HasPruned old new → IsServerAt setting state number new
prunes setting state number old new was done =
    stands_with setting state state number old new
    (record (contents_of old) {
      head = pruned_by (vector_of old.known number) (replica_or_own old None);
      later = new.others.items;
    })
    was
    (record {
      ring = ap (λ (s : ServerState). s.ring) done.rest;
      number = ap (λ (s : ServerState). s.id) done.rest;
      rule = ap (λ (s : ServerState). s.rule) done.rest;
      partitions = ap (λ (s : ServerState). s.partitions) done.rest;
    })
    (same_contents (replica_or_own new None) (pruned_by (vector_of old.known number) (replica_or_own old None))
    new.others.items new.others.items new.known old.known (items_of new.held.items) (items_of old.held.items)
    new.buffer.items old.buffer.items new.forwarder old.forwarder
    (ap (λ (h : HeadState). head_of h.content h.partitions h.vector new.own.items)
    (ap (λ (s : ServerState). s.head) done.rest)
    ∙ ap (head_of old.head.content old.head.partitions old.head.vector)
    (done.own ∙ ap (λ n. missing (vector_of old.known n) old.own.items) was.number_is))
    refl
    (ap (λ (s : ServerState). s.known) done.rest)
    (ap (λ (s : ServerState). items_of s.held.items) done.rest)
    (ap (λ (s : ServerState). s.buffer.items) done.rest)
    (ap (λ (s : ServerState). s.forwarder) done.rest))
    (record {
      replicas = replicas_pruned setting state number old.known
          (replica_or_own old None) old.others.items new.others.items
          was.stands.replicas done.others.each;
      held = was.stands.held;
      withheld = was.stands.withheld;
      forwarded = was.stands.forwarded;
    })

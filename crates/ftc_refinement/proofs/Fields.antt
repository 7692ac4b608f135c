-- What a server has after a call that leaves the other fields as they were.
use Rattle.std.proofs.Common.{◌≡◌, ◌∙◌, ◌++◌, ◌∷◌, ℕ, Bool, List, [], Option, None, false, refl, sym, ap, subst}
use Rattle.ftc_edge.specs.declared.buffer.Withheld.{Withheld}
use Rattle.ftc_message.specs.declared.message.Message.{Message}
use Rattle.ftc_message.specs.Logged.{Logged}
use Rattle.ftc_replica.specs.Held.{Held}
use Rattle.ftc_txn.specs.Head.{HeadState}
use Rattle.ftc_vector.specs.Commits.{all_merged}
use Rattle.ftc_protocol.specs.Setting.{Setting}
use Rattle.ftc_protocol.specs.State.{ChainState}
use Rattle.ftc_server.specs.declared.held.HeldMessage.{HeldMessage}
use Rattle.ftc_server.specs.declared.server.Server.{Server}
use Rattle.ftc_server.specs.Looks.{replica_or_own}
use Rattle.ftc_server.specs.State.{ServerState}
use Rattle.ftc_server.specs.Steps.{HasTaken}
use Rattle.ftc_standing.specs.Stand.{HeldItem, ServerContents, IsServer, item_of}
use Rattle.ftc_refinement.specs.Contents.{items_of, contents_of, IsServerAt}

-- ---- contents, field by field

-- the replica of a server's own group
abbrev pub own_replica : HeadState → List Logged → Held
own_replica head kept =
    record { content = head.content; partitions = head.partitions; vector = head.vector; kept = kept }

abbrev pub contents : Held → List (Option Held) → List (List ℕ) → List HeldItem → List Withheld → List Logged →
    ServerContents
contents head later known held withheld forwarded = record {
  head = head;
  later = later;
  known = known;
  held = held;
  withheld = withheld;
  forwarded = forwarded;
}

pub same_contents : (h i : Held) (l m : List (Option Held)) (k n : List (List ℕ)) (x y : List HeldItem)
    (w v : List Withheld)
    (f g : List Logged) → h ≡ i → l ≡ m → k ≡ n → x ≡ y → w ≡ v → f ≡ g → contents h l k x w f ≡ contents i m n y v g
same_contents h i l m k n x y w v f g eh el ek ex ew ef =
    ap (λ a. contents a l k x w f) eh ∙ (ap (λ a. contents i a k x w f) el ∙ (ap (λ a. contents i m a x w f) ek
    ∙ (ap (λ a. contents i m n a w f) ex ∙ (ap (λ a. contents i m n y a f) ew ∙ ap (contents i m n y v) ef))))

pub same_own : (one other : Server) → one.head ≡ other.head → one.own.items ≡ other.own.items →
    replica_or_own one None ≡ replica_or_own other None
same_own one other head own =
    ap (λ h. own_replica h one.own.items) head ∙ ap (own_replica other.head) own

pub items_behind : (messages : List HeldMessage) (last : HeldMessage) →
    items_of (messages ++ last ∷ []) ≡ items_of messages ++ item_of last.visited last.by_ring last.message ∷ []
items_behind [] last = refl
items_behind (message ∷ messages) last =
    ap (λ x. item_of message.visited message.by_ring message.message ∷ x) (items_behind messages last)

-- ---- the server stands

-- what never changes
pub record IsSameServer (one other : Server) : Type 0 where
  pub ring : one.ring ≡ other.ring
  pub number : one.id ≡ other.id
  pub rule : one.rule ≡ other.rule
  pub partitions : one.partitions ≡ other.partitions

pub stands_with : (setting : Setting) (before after : ChainState) (number : ℕ) (old new : Server)
    (kept : ServerContents) →
    IsServerAt setting before number old → IsSameServer new old → contents_of new ≡ kept →
    IsServer setting after number kept → IsServerAt setting after number new
stands_with setting before after number old new kept was same is stands = record {
  ring = same.ring ∙ was.ring;
  number_is = same.number ∙ was.number_is;
  rule = same.rule ∙ was.rule;
  partitions = same.partitions ∙ was.partitions;
  stands = subst (IsServer setting after number) (sym is) stands;
}

-- ---- a message is taken

abbrev pub with_taken : Server → Message → Bool → ServerContents
with_taken old sent by_ring = record (contents_of old) {
  known = all_merged old.known sent.commits;
  held = items_of old.held.items ++ item_of false by_ring sent ∷ [];
}

pub takes : (setting : Setting) (before after : ChainState) (number : ℕ) (old new : Server) (sent : Message)
    (by_ring : Bool) → IsServerAt setting before number old → HasTaken old new sent by_ring →
    IsServer setting after number (with_taken old sent by_ring) → IsServerAt setting after number new
takes setting before after number old new sent by_ring was taken =
    stands_with setting before after number old new (with_taken old sent by_ring) was
    (record {
      ring = ap (λ (s : ServerState). s.ring) taken.rest;
      number = ap (λ (s : ServerState). s.id) taken.rest;
      rule = ap (λ (s : ServerState). s.rule) taken.rest;
      partitions = ap (λ (s : ServerState). s.partitions) taken.rest;
    })
    (same_contents (replica_or_own new None) (replica_or_own old None) new.others.items old.others.items
    new.known (all_merged old.known sent.commits) (items_of new.held.items)
    (items_of old.held.items ++ item_of false by_ring sent ∷ []) new.buffer.items old.buffer.items new.forwarder
    old.forwarder
    (same_own new old (ap (λ (s : ServerState). s.head) taken.rest) (ap (λ (s : ServerState). s.own.items) taken.rest))
    (ap (λ (s : ServerState). s.others) taken.rest)
    taken.known
    (ap items_of taken.held ∙ items_behind old.held.items (record {
      visited = false;
      by_ring = by_ring;
      message = sent;
    }))
    (ap (λ (s : ServerState). s.buffer.items) taken.rest)
    (ap (λ (s : ServerState). s.forwarder) taken.rest))

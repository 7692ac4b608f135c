-- A server that committed a visit.
use Rattle.std.proofs.Common.{◌≡◌, ◌∙◌, ◌++◌, ◌∷◌, ◌==◌, ◌+◌, ℕ, true, false, List, [], Option, Some, None, length, suc}
use Rattle.std.proofs.Common.{refl, sym, ap, cond, arith}
use Rattle.std.proofs.lemmas.Bool.Decides.{nat_tests}
use Rattle.std.specs.Prelude.{IsNone, ◌↔◌}
use Rattle.std.specs.Option.{is_some}
use Rattle.ftc_base.specs.declared.ask.Answer.{Answer}
use Rattle.ftc_base.specs.declared.ask.Write.{Write}
use Rattle.ftc_base.specs.declared.ask.Finish.{Finish as End}
use Rattle.ftc_base.specs.Touched.{is_changed}
use Rattle.ftc_base.specs.declared.limits.TheConstants.{MOST_PARTITIONS}
use Rattle.ftc_message.specs.declared.need.Need.{Need}
use Rattle.ftc_message.specs.Logged.{Logged}
use Rattle.ftc_mbox.specs.Change.{packet_after}
use Rattle.ftc_serial.specs.Take.{Outcome}
use Rattle.ftc_serial.specs.Reads.{IsRead}
use Rattle.ftc_vector.specs.Vector.{number_at}
use Rattle.ftc_vector.proofs.Partitions.{by_partition-from}
use Rattle.ftc_txn.specs.Touched.{vector_after}
use Rattle.ftc_txn.specs.Slots.{Running}
use Rattle.ftc_protocol.specs.Changes.{changes, is_changing, is_some_list}
use Rattle.ftc_message.specs.Added.{logs_with, needs_with}
use Rattle.ftc_server.specs.Visited.{visit_of, visited_by, needs_after}
use Rattle.ftc_server.specs.declared.held.HeldMessage.{HeldMessage}
use Rattle.ftc_replica.specs.Held.{Held}
use Rattle.ftc_store.specs.Store.{Content, written}
use Rattle.ftc_txn.specs.Head.{HeadState}
use Rattle.ftc_ties.specs.Replica.{committed}
use Rattle.ftc_protocol.specs.Setting.{Setting}
use Rattle.ftc_protocol.specs.State.{ChainState}
use Rattle.ftc_server.specs.declared.server.Server.{Server}
use Rattle.ftc_server.specs.Looks.{replica_or_own}
use Rattle.ftc_server.specs.Standing.{with_own}
use Rattle.ftc_server.specs.State.{ServerState}
use Rattle.ftc_server.specs.Steps.{HasVisited, with_kept}
use Rattle.ftc_standing.specs.Stand.{HeldItem, ServerContents, IsServer, IsVisited}
use Rattle.ftc_refinement.specs.Contents.{items_of, contents_of, IsServerAt}
use Rattle.ftc_refinement.proofs.Fields.{IsSameServer, same_contents, stands_with}

-- what such answers and such an end are as a visit of that packet
abbrev pub outcome_of : Running → End → List ℕ → Outcome
outcome_of running end bytes =
    record { answers = running.answers; writes = end.writes.items; packet = packet_after bytes end.verdict }

-- ---- the message

same_needs : (packet : Option (List ℕ)) (log : Option Logged) (needs : List Need) →
    needs_after packet log needs ≡ cond (is_some packet) (needs_with log needs) []
same_needs None log needs = refl
same_needs (Some bytes) None needs = refl
same_needs (Some bytes) (Some log) needs = refl

pub visits_message : (failures other : ℕ) (running : Running) (end : End) (bytes : List ℕ) (log : Option Logged)
    (held : HeldMessage) → other ≡ failures → IsVisited failures (outcome_of running end bytes) log held.message
    (visited_by (visit_of other log bytes end.verdict held.message) held).message
visits_message failures other running end bytes log held same = record {
  origin_is = refl;
  packet_is = refl;
  logs_are = ap (λ f. logs_with f log held.message.logs) same;
  needs_are = same_needs (packet_after bytes end.verdict) log held.message.needs;
  commits_are = refl;
}

-- ---- what it touches and changes

pub changes_nothing : (partitions : ℕ) (outcome : Outcome) → outcome.writes ≡ [] →
    is_changing partitions outcome ≡ false
unfolding changes
changes_nothing partitions outcome none = ap (λ (writes : List Write). is_some_list (changed partitions writes)) none
  where
    changed : ℕ → List Write → List ℕ
    changed partitions writes = changes partitions (record { answers = []; writes = writes; packet = None })

pub changes_some : (partitions : ℕ) (outcome : Outcome) (write : Write) (writes : List Write) →
    outcome.writes ≡ write ∷ writes →
    is_changing partitions outcome ≡ true
unfolding changes
changes_some partitions outcome write writes some =
    ap (λ (writes : List Write). is_some_list (changed partitions writes)) some
  where
    changed : ℕ → List Write → List ℕ
    changed partitions writes = changes partitions (record { answers = []; writes = writes; packet = None })

pub touches_some : (answers : List Answer) (key : List ℕ) → IsRead answers key → is_some_list answers ≡ true
touches_some [] key is = absurd is
touches_some (answer ∷ answers) key is = refl

pub logs_what_touches : (answers : List Answer) (log : Option Logged) → IsNone log ↔ (answers ≡ []) →
    is_some log ≡ is_some_list answers
logs_what_touches [] None none = refl
logs_what_touches [] (Some log) none = let e = none.1 refl in absurd cc
logs_what_touches (answer ∷ answers) None none = let e : answer ∷ answers ≡ [] = none.0 refl in absurd cc
logs_what_touches (answer ∷ answers) (Some log) none = refl

-- a vector that nothing changes
pub unchanged : (partitions : ℕ) (vector : List ℕ) → length vector ≡ MOST_PARTITIONS →
    vector_after partitions [] vector ≡ vector
unfolding is_changed
unchanged partitions vector long =
    sym (by_partition-from
    (λ partition. cond (is_changed partitions [] partition) (number_at vector partition
    + 1) (number_at vector partition))
    vector 0 long (λ k within. refl))

-- ---- the server

-- What a commit leaves beside the message: the head's replica and what is known.
pub record IsCommitted (old new : Server) : Type 0 where
  pub server : IsSameServer new old
  pub others : new.others.items ≡ old.others.items
  pub withheld : new.buffer.items ≡ old.buffer.items
  pub forwarded : new.forwarder ≡ old.forwarder

pub committed_beside : (old new : Server) (worker : ℕ) (running : Running) (end : End) →
    HasVisited old new worker running end →
    IsCommitted old new
committed_beside old new worker running end done = record {
  server = record {
    ring = ap (λ (s : ServerState). s.ring) done.rest;
    number = ap (λ (s : ServerState). s.id) done.rest;
    rule = ap (λ (s : ServerState). s.rule) done.rest;
    partitions = ap (λ (s : ServerState). s.partitions) done.rest;
  };
  others = ap (λ (s : ServerState). s.others) done.rest;
  withheld = ap (λ (s : ServerState). s.buffer.items) done.rest;
  forwarded = ap (λ (s : ServerState). s.forwarder) done.rest;
}

abbrev pub with_visit : Server → Held → List (List ℕ) → List HeldItem → ServerContents
with_visit old head known held = record (contents_of old) { head = head; known = known; held = held }

pub commits : (setting : Setting) (before after : ChainState) (number : ℕ) (old new : Server) (head : Held)
    (known : List (List ℕ)) (held : List HeldItem) → IsServerAt setting before number old → IsCommitted old new →
    replica_or_own new None ≡ head → new.known ≡ known → items_of new.held.items ≡ held →
    IsServer setting after number (with_visit old head known held) → IsServerAt setting after number new
commits setting before after number old new head known held was done has knows holds =
    stands_with setting before after number old new (with_visit old head known held) was done.server
    (same_contents (replica_or_own new None) head new.others.items old.others.items new.known known
    (items_of new.held.items) held new.buffer.items old.buffer.items new.forwarder old.forwarder
    has done.others knows holds done.withheld done.forwarded)

abbrev replica_of : Content → ℕ → List ℕ → List Logged → Held
replica_of content partitions vector kept =
    record { content = content; partitions = partitions; vector = vector; kept = kept }

-- the head's replica with this content, this vector and these kept logs
pub own_made : (old new : Server) (content : Content) (vector : List ℕ) (kept : List Logged) →
    new.head.content ≡ content → new.head.partitions ≡ old.head.partitions → new.head.vector ≡ vector →
    new.own.items ≡ kept → replica_or_own new None
    ≡ record { content = content; partitions = old.head.partitions; vector = vector; kept = kept }
own_made old new content vector kept content_is partitions_is vector_is kept_is =
    ap (λ c. replica_of c new.head.partitions new.head.vector new.own.items) content_is
    ∙ (ap (λ p. replica_of content p new.head.vector new.own.items) partitions_is
    ∙ (ap (λ v. replica_of content old.head.partitions v new.own.items) vector_is
    ∙ ap (replica_of content old.head.partitions vector) kept_is))

-- ---- a commit without writes, and one with some

not_none : (n : ℕ) → (suc n == 0) ≡ false
not_none n = grind (arith, nat_tests)

module _ (old new : Server) (worker : ℕ) (running : Running) (end : End)
    (done : HasVisited old new worker running end) where
  abbrev same_partitions : new.head.partitions ≡ old.head.partitions
  same_partitions = ap (λ (h : HeadState). h.partitions) done.head.rest

  kept_as : (writes : List Write) (log : Option Logged) → writes ≡ [] →
      with_kept writes log old.own.items ≡ old.own.items
  kept_as writes None none = refl
  kept_as writes (Some log) none =
      ap (λ (w : List Write). cond (length w == 0) old.own.items (old.own.items ++ log ∷ [])) none

  pub head_stays : end.writes.items ≡ [] → length old.head.vector ≡ MOST_PARTITIONS →
      replica_or_own new None ≡ replica_or_own old None
  head_stays none long = own_made old new old.head.content old.head.vector old.own.items
      (done.head.content ∙ ap (λ (w : List Write). written w old.head.content) none) same_partitions
      (done.head.vector ∙ (ap (λ (w : List Write). vector_after old.head.partitions w old.head.vector) none
      ∙ unchanged old.head.partitions old.head.vector long))
      (done.own ∙ kept_as end.writes.items done.log none)

  pub known_stays : end.writes.items ≡ [] → new.known ≡ old.known
  known_stays none = done.known
      ∙ ap (λ (w : List Write). cond (length w == 0) old.known
      (with_own old.ring old.id old.id new.head.vector old.known)) none

  pub head_commits : (partitions : ℕ) (bytes : List ℕ) (write : Write) (writes : List Write) (log : Logged) →
      old.head.partitions ≡ partitions → end.writes.items ≡ write ∷ writes → done.log ≡ Some log →
      replica_or_own new None ≡ committed partitions (outcome_of running end bytes) log (replica_or_own old None)
  head_commits partitions bytes write writes log partitions_is some logged =
      own_made old new (written end.writes.items old.head.content)
      (vector_after partitions end.writes.items old.head.vector) (old.own.items
      ++ log ∷ []) done.head.content same_partitions
      (done.head.vector ∙ ap (λ p. vector_after p end.writes.items old.head.vector) partitions_is)
      (done.own ∙ (ap (λ o. with_kept end.writes.items o old.own.items) logged
      ∙ (ap (λ (w : List Write). cond (length w == 0) old.own.items (old.own.items ++ log ∷ [])) some
      ∙ ap (λ b. cond b old.own.items (old.own.items ++ log ∷ [])) (not_none (length writes)))))

  pub known_with : (write : Write) (writes : List Write) → end.writes.items ≡ write ∷ writes →
      new.known ≡ with_own old.ring old.id old.id new.head.vector old.known
  known_with write writes some = done.known
      ∙ (ap (λ (w : List Write). cond (length w == 0) old.known
      (with_own old.ring old.id old.id new.head.vector old.known)) some
      ∙ ap (λ b. cond b old.known (with_own old.ring old.id old.id new.head.vector old.known))
      (not_none (length writes)))

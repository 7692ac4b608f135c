-- Lists whose items are all alike, and what is kept at the start.
use Rattle.std.proofs.Common.{◌≡◌, ℕ, zero, suc, false, not, List, [], ◌∷◌, ◌++◌, slice_index_or, drop, None, refl, sym}
use Rattle.std.proofs.Common.{ap, subst, ◌∙◌, arith, lt-ltb}
use Rattle.std.specs.FinMap.{empty}
use Rattle.ftc_base.specs.Sets.{has}
use Rattle.ftc_vector.specs.Vector.{by_partition}
use Rattle.ftc_vector.specs.Commits.{by_group}
use Rattle.ftc_serial.specs.Contents.{content_at}
use Rattle.ftc_machine.specs.declared.state.MachineState.{MachineState}
use Rattle.ftc_protocol.specs.Setting.{Setting, servers, shape}
use Rattle.ftc_protocol.specs.State.{opening}
use Rattle.ftc_protocol.specs.Visits.{no_visits}
use Rattle.ftc_serial.specs.Trace.{names}
use Rattle.ftc_machine.specs.Frontier.{Numbers, AreFrontiers, frontier_at, numbers_of}
use Rattle.ftc_machine.specs.Represents.{Represents, IsMessageSlot, IsWithheldSlot, footprints_in, frontiers_of}
use Rattle.ftc_machine.specs.Represents.{fate_in}
use Rattle.ftc_machine.specs.Slots.{slot_at}
use Rattle.ftc_machine.proofs.AfterCrash.{empty_at}

-- what is so of each item and of what stands for those that aren't there stays so with one more
pub each_push : {A : Type 0} → (P : A → Type 0) (none : A) (items : List A) (item : A) → P none → P item →
    ((place : ℕ) → P (slice_index_or items place none)) → (place : ℕ) →
    P (slice_index_or (items ++ item ∷ []) place none)
each_push P none [] item gone here each zero = here
each_push P none [] item gone here each (suc place) = gone
each_push P none (first ∷ items) item gone here each zero = each zero
each_push P none (first ∷ items) item gone here each (suc place) =
    each_push P none items item gone here (λ n. each (suc n)) place

abbrev pub IsEmptySet : List (List ℕ) → Type 0
IsEmptySet reach = (group partition : ℕ) → frontier_at reach group partition ≡ 0

pub set_push : (sets : List (List (List ℕ))) (set : List (List ℕ)) → set ≡ by_group (λ _. by_partition (λ _. 0)) →
    ((server : ℕ) → IsEmptySet (frontiers_of sets server)) → (server : ℕ) →
    IsEmptySet (frontiers_of (sets ++ set ∷ []) server)
set_push sets set is each server =
    each_push IsEmptySet [] sets set (λ group partition. refl) (subst IsEmptySet (sym is) empty_at) each server

module _ (c : Setting) (k : MachineState) (lists_empty : (server : ℕ) →
    IsEmptySet (frontiers_of k.lists.items server)) (known_empty : (server : ℕ) →
    IsEmptySet (frontiers_of k.known.items server))
    (stores_empty : (server : ℕ) → content_at k.stores.items server ≡ empty) (down : (server : ℕ) →
    has k.down server ≡ false) (gaps : (link : ℕ) → has k.gaps link ≡ false) where
  no_reaches : (numbers : Numbers) (reach : List (List ℕ)) → IsEmptySet reach →
      AreFrontiers c.partitions [] numbers no_visits reach
  no_reaches numbers reach none_there server = record {
    each = λ packet partition changes. absurd changes;
    last = λ partition some. let isnt = none_there server partition in absurd (omega arith);
  }

  pub opened : k.ring ≡ shape c → k.partitions ≡ c.partitions → k.order ≡ [] → k.messages ≡ [] → k.forwarder ≡ [] →
      k.buffer ≡ [] → k.done ≡ 0 → k.entered ≡ 0 → k.propagates ≡ 0 → k.fates ≡ [] → Represents c (opening c) k
  opened ring partitions order messages forwarder buffer done entered propagates fates = record {
    ring = ring;
    partitions = partitions;
    up = λ server below. lt-ltb server (servers c) below ∙ sym (ap not (down server));
    sets = record {
      rising = tt;
      footprints = tt;
      order = order;
      lists = λ server below. no_reaches _ (frontiers_of k.lists.items server) (lists_empty server);
      known = λ server below. no_reaches _ (frontiers_of k.known.items server) (known_empty server);
      messages = λ origin. subst
          (λ slots. IsMessageSlot c.partitions [] (numbers_of (footprints_in k.visits.items)) None
          (slot_at slots origin)) (sym messages) tt;
      stores = λ server below up. stores_empty server;
    };
    forwarder = λ server packet. ap (λ visits. names visits server packet) forwarder;
    buffer = λ packet. subst (λ slots. IsWithheldSlot packet None (slot_at slots packet)) (sym buffer) tt;
    gaps = λ link below. gaps link;
    lines = sym (ap (λ n. drop n c.lines) done);
    entered = entered;
    propagates = propagates;
    fates = λ packet. ap (λ slots. fate_in slots packet) fates;
  }

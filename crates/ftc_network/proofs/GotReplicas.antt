-- What a new server gets of each group, as the state has it.
use Rattle.std.proofs.Common.{◌≡◌, ◌≢◌, ◌<◌, ◌≤◌, ◌+◌, ◌-◌, ◌==◌, ◌∙◌, ℕ, Bool, true, false, not, nat_le, Option, Some}
use Rattle.std.proofs.Common.{None, refl, sym, ap, subst, arith}
use Rattle.std.specs.Prelude.{if◌then◌else◌}
use Rattle.std.proofs.lemmas.Bool.{leb-true, leb-false, le-leb, eq-eqb, ne_eqb, and_parts, and_from, both_ways}
use Rattle.std.proofs.lemmas.Bool.{not-true}
use Rattle.ftc_mbox.specs.declared.rule.Rule.{Rule}
use Rattle.ftc_protocol.specs.Recovery.{previous_live, following_live}
use Rattle.ftc_protocol.specs.Setting.{Setting, servers, shape, rule_at, is_member}
use Rattle.ftc_protocol.specs.State.{ChainState}
use Rattle.ftc_refinement.specs.Contents.{IsServerAt, contents_of}
use Rattle.ftc_refinement.specs.Got.{IsGot, AreGot}
use Rattle.ftc_replica.specs.Held.{Held}
use Rattle.ftc_ring.specs.Live.{IsAdmissible, IsBetween, IsDown, IsLiveAfter, IsLiveBefore}
use Rattle.ftc_ring.specs.Ring.{RingShape, IsMember, apart}
use Rattle.ftc_server.specs.declared.recovering.GroupReplica.{GroupReplica}
use Rattle.ftc_server.specs.declared.server.Server.{Server}
use Rattle.ftc_server.specs.Looks.{replica_in, replica_or_own}
use Rattle.ftc_server.specs.Replicas.{replica_at}
use Rattle.ftc_server.specs.Standing.{is_later_member}
use Rattle.ftc_standing.specs.Stand.{IsReplicaSlot, replica_kept, got_by}
use Rattle.ftc_network.specs.Reviving.{got_of, all_fetched, IsAnew}
use Rattle.ftc_network.proofs.GroupNews.{all_made, found_made, once_made}
use Rattle.ftc_network.proofs.SharedGroups.{kept_is}

keys_in : (setting : Setting) (state : ChainState) (number : ℕ) (server : Server) →
    IsServerAt setting state number server → (group : ℕ) (slot : Option Held) →
    IsReplicaSlot setting state number server.known group slot →
    (replica_or_own server slot).partitions ≡ setting.partitions
keys_in setting state number server is group None none = server.head_partitions ∙ is.partitions
keys_in setting state number server is group (Some replica) there = there.2.keys

-- what a server has of a group has the partitions of the setting
keys_are : (setting : Setting) (state : ChainState) (number : ℕ) (server : Server) →
    IsServerAt setting state number server → (group : ℕ) → group < servers setting →
    (replica_in server group).partitions ≡ setting.partitions
keys_are setting state number server is group below =
    keys_in setting state number server is group (replica_at server.others.items group)
    (is.stands.replicas.others group below)

-- what is got has the partitions of the setting
pub got_keys : (setting : Setting) (state : ChainState) (ring : RingShape) (server first last : ℕ)
    (previous following : Server) →
    IsServerAt setting state first previous → IsServerAt setting state last following → (group partitions : ℕ) →
    group < servers setting → partitions ≡ setting.partitions →
    (got_of ring server previous following group).partitions ≡ partitions
got_keys setting state ring server first last previous following before after group partitions below same =
    elim (nat_le (apart ring.servers previous.id server) (apart ring.servers group server)) as (λ (t : Bool).
    (if t then replica_in previous group else replica_in following group).partitions ≡ partitions) [
      | true ↦ keys_are setting state first previous before group below ∙ sym same
      | false ↦ keys_are setting state last following after group below ∙ sym same
    ]

-- what is got of a group that the source is a member of
pub got_is : (setting : Setting) (state : ChainState) (ring : RingShape) (server : ℕ) (previous following : Server)
    (group : ℕ) →
    ring ≡ shape setting → group < servers setting →
    IsServerAt setting state (previous_live setting state server) previous →
    IsServerAt setting state (following_live setting state server) following →
    (apart (servers setting) (previous_live setting state server) server ≤ apart (servers setting) group server →
    is_member setting group (previous_live setting state server) ≡ true) →
    (apart (servers setting) group server < apart (servers setting) (previous_live setting state server) server →
    is_member setting group (following_live setting state server) ≡ true) →
    got_by setting state server (contents_of previous) (contents_of following) group
    ≡ Some (got_of ring server previous following group)
got_is setting state ring server previous following group same below before after near far =
    let size : ring.servers ≡ servers setting = ap (λ (r : RingShape). r.servers) same in
    let test = nat_le (apart (servers setting) (previous_live setting state server) server)
    (apart (servers setting) group server) in
    let tests : nat_le (apart ring.servers previous.id server) (apart ring.servers group server) ≡ test =
    ap (λ (n : ℕ). nat_le (apart n previous.id server) (apart n group server)) size
    ∙ ap (λ (n : ℕ). nat_le (apart (servers setting) n server) (apart (servers setting) group server))
    before.number_is in
    elim test as (λ (t : Bool). test ≡ t →
    (if t then replica_kept (previous_live setting state server) (contents_of previous) group
    else replica_kept (following_live setting state server) (contents_of following) group)
    ≡ Some (if t then replica_in previous group else replica_in following group)) [
      | true ↦ λ up_to. kept_is setting state (previous_live setting state server) previous before group below
          (near (leb-true _ _ up_to))
      | false ↦ λ behind. kept_is setting state (following_live setting state server) following after group below
          (far (leb-false _ _ behind))
    ] refl
    ∙ ap (λ (t : Bool). Some (if t then replica_in previous group else replica_in following group)) (sym tests)

-- where a server lies on the ring whose replica is got
pub record AreSources (setting : Setting) (state : ChainState) (server : ℕ) : Type 0 where
  pub near : (group : ℕ) → group < servers setting → is_member setting group server ≡ true →
      apart (servers setting) (previous_live setting state server) server ≤ apart (servers setting) group server →
      is_member setting group (previous_live setting state server) ≡ true
  pub far : (group : ℕ) → group < servers setting → is_member setting group server ≡ true →
      apart (servers setting) group server < apart (servers setting) (previous_live setting state server) server →
      is_member setting group (following_live setting state server) ≡ true

-- a new server gets what it has of a member of the group
pub sources_are : (setting : Setting) (state : ChainState) (server : ℕ) → IsAdmissible (shape setting) state.up →
    server < servers setting → IsDown state.up server →
    IsLiveBefore (servers setting) state.up server (previous_live setting state server) →
    IsLiveAfter (servers setting) state.up server (following_live setting state server) →
    ((n : ℕ) (live : ℕ → Bool) (k r s j : ℕ) → k < n → IsDown live k → IsLiveBefore n live k r →
    IsLiveAfter n live k s →
    j < n → apart n r k ≤ apart n j k → apart n j r + apart n r k ≡ apart n j k) →
    ((n : ℕ) (live : ℕ → Bool) (k r s j : ℕ) → k < n → IsDown live k → IsLiveBefore n live k r →
    IsLiveAfter n live k s →
    j < n → apart n j k < apart n r k → IsBetween n r s j × (apart n j k < apart n j s)) →
    ((ring : RingShape) (live : ℕ → Bool) (k r s j : ℕ) → k < ring.servers → IsDown live k →
    IsLiveBefore ring.servers live k r → IsLiveAfter ring.servers live k s → IsAdmissible ring live → j < ring.servers →
    IsBetween ring.servers r s j → IsMember ring j s) → AreSources setting state server
sources_are setting state server admissible inside down before after from_before from_after after_is_member =
    let first = previous_live setting state server in
    let last = following_live setting state server in
    record {
      near = λ group below member closer.
          let way = from_before (servers setting) state.up server first last group inside down before after below
          closer in
          le-leb (apart (servers setting) group first) setting.failures
          (omega (arith, way, leb-true (apart (servers setting) group server) setting.failures member));
      far = λ group below member farther. le-leb (apart (servers setting) group last) setting.failures
          (after_is_member (shape setting) state.up server first last group inside down before after admissible below
          (from_after (servers setting) state.up server first last group inside down before after below farther).0);
    }

own_member : (setting : Setting) (server : ℕ) → is_member setting server server ≡ true
own_member setting server =
    let none : apart (servers setting) server server ≡ 0 =
    ap (λ (t : Bool). if t then server - server else server + servers setting - server)
    (le-leb server server (omega arith))
    ∙ omega arith in
    le-leb (apart (servers setting) server server) setting.failures (omega (arith, none))

later_parts : (setting : Setting) (group server : ℕ) → is_later_member (shape setting) group server ≡ true →
    (group ≢ server) × (is_member setting group server ≡ true)
later_parts setting group server later =
    let parts = and_parts (not (group == server)) (is_member setting group server) later in
    (λ same. both_ways (group == server) (not-true (group == server) parts.0) (eq-eqb group server same), parts.1)

-- what a new server gets is of its own group and of those that it is a later member of
pub are_got : (setting : Setting) (state : ChainState) (server : ℕ) (previous following : Server) →
    server < servers setting →
    IsServerAt setting state (previous_live setting state server) previous →
    IsServerAt setting state (following_live setting state server) following → AreSources setting state server →
    AreGot setting state server previous following (got_of (shape setting) server previous following server)
    (all_fetched (shape setting) server previous following)
are_got setting state server previous following inside before after sources =
    let test = λ (group : ℕ). is_later_member (shape setting) group server in
    let make : ℕ → GroupReplica = λ group. record {
      group = group;
      replica = got_of (shape setting) server previous following group;
    } in
    let got = λ (group : ℕ) (below : group < servers setting) (member : is_member setting group server ≡ true).
    got_is setting state (shape setting) server previous following group refl below before after
    (sources.near group below member) (sources.far group below member) in
    record {
      head = got server inside (own_member setting server);
      each = all_made test make (IsGot setting state server previous following) (servers setting) (λ group below later.
          let parts = later_parts setting group server later in record {
            inside = below;
            member = parts.1;
            later = parts.0;
            replica = got group below parts.1;
          });
      once = once_made test make (λ number. refl) (servers setting);
      all = λ group below member later. (
        make group,
        found_made test make (λ number. refl) (servers setting) group below
            (and_from (not (group == server)) (is_member setting group server)
            (ap not (ne_eqb group server later)) member),
      );
    }

-- a server that begins anew in the ring, with the rule and the partitions of a setting
pub anew_in : (setting : Setting) (server : ℕ) (rule : Rule) (previous following made : Server) (ring : RingShape)
    (partitions : ℕ) → ring ≡ shape setting → rule ≡ rule_at setting server → partitions ≡ setting.partitions →
    IsAnew ring server rule partitions previous following made →
    IsAnew (shape setting) server (rule_at setting server) setting.partitions previous following made
anew_in setting server rule previous following made ring partitions ring_is rule_is partitions_is anew =
    subst (λ (p : ℕ). IsAnew (shape setting) server (rule_at setting server) p previous following made) partitions_is
    (subst (λ (r : Rule). IsAnew (shape setting) server r partitions previous following made) rule_is
    (subst (λ (r : RingShape). IsAnew r server rule partitions previous following made) ring_is anew))

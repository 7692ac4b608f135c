-- What the receiver of a link has after a pull, whether or not servers may fail, and what becomes of the links.
use Rattle.std.proofs.Common.{◌≡◌, ◌≢◌, ◌<◌, ◌≤◌, ◌+◌, ◌-◌, ◌==◌, ◌&&◌, ◌||◌, ◌∙◌, ℕ, Bool, true, false, not, List, []}
use Rattle.std.proofs.Common.{Option, Some, None, inl, inr, refl, sym, ap, subst, arith, nat_le, le-leb, leb-true}
use Rattle.std.proofs.Common.{leb-false, if◌then◌else◌}
use Rattle.std.proofs.lemmas.Bool.{and_parts, and_from, eq-eqb, eqb-true, ne_eqb, cases_eq, true≢false}
use Rattle.std.proofs.lemmas.Bool.{false_from_ne_true}
use Rattle.std.proofs.Math.Bool.{or-true, or-false}
use Rattle.std.specs.List.{list_any}
use Rattle.ftc_journal.specs.declared.event.Event.TheVariants.{Pull}
use Rattle.ftc_replica.specs.Held.{Held, pruned_by}
use Rattle.ftc_ring.specs.Ring.{apart, next_of}
use Rattle.ftc_serial.proofs.Functions.{with_at_cases}
use Rattle.ftc_vector.specs.Commits.{vector_of}
use Rattle.ftc_protocol.specs.Setting.{Setting, servers, shape, is_member, is_tail}
use Rattle.ftc_protocol.specs.State.{ChainState}
use Rattle.ftc_protocol.specs.Visits.{Visits}
use Rattle.ftc_protocol.specs.Known.{knows}
use Rattle.ftc_protocol.specs.Legal.{IsLegal}
use Rattle.ftc_protocol.specs.Next.{next, is_news, pulled_list}
use Rattle.ftc_protocol.proofs.RingDistances.{apart_cases, apart_after}
use Rattle.ftc_ties.specs.Servers.{is_shared}
use Rattle.ftc_ties.proofs.Informing.{knows_stay}
use Rattle.ftc_ties.proofs.Serving.{IsSteadyState, others_stay}
use Rattle.ftc_server.specs.declared.server.Server.{Server}
use Rattle.ftc_server.specs.Standing.{group_ending_at}
use Rattle.ftc_server.specs.State.{fields_of}
use Rattle.ftc_server.specs.Steps.{HasInstalled, HasRoomed}
use Rattle.ftc_standing.specs.Stand.{HeldItem, AreReplicas, IsReplicaSlot, replica_of}
use Rattle.ftc_standing.proofs.Lasting.{IsFirmState, held_stay, withheld_stay, forwarded_stay}
use Rattle.ftc_refinement.specs.Contents.{IsServerAt, contents_of}
use Rattle.ftc_refinement.specs.Pulled.{ArePulled}
use Rattle.ftc_refinement.proofs.Ring.{EndsAsSaid}
use Rattle.ftc_network.proofs.GroupNews.{made, none_made, are_pulled}
use Rattle.ftc_network.specs.Pulling.{new_of, gap_after}

-- the group that ends at a server
ending_below : (setting : Setting) (server : ℕ) → setting.failures < servers setting → server < servers setting →
    group_ending_at (shape setting) server < servers setting
ending_below setting server few inside =
    elim (nat_le setting.failures server) as (λ b. nat_le setting.failures server ≡ b →
    (if b then server - setting.failures else server + servers setting - setting.failures) < servers setting) [
      | true ↦ λ is. let least : setting.failures ≤ server = leb-true setting.failures server is in omega arith
      | false ↦ λ isnt. let less : server < setting.failures = leb-false setting.failures server isnt in omega arith
    ] refl

module _ (c : Setting) (s : ChainState) (h : IsSteadyState c s) (link : ℕ) (legal : IsLegal c s (Pull link)) where
  abbrev receiver : ℕ
  receiver = next_of (servers c) link

  here : link < servers c
  here = h.tied.order.inside link legal.0.0

  pub there : receiver < servers c
  there = h.tied.order.inside receiver legal.0.1

  pub many : servers c ≢ 1
  many = h.tied.order.gaps link legal.0.2

  pub another : receiver ≢ link
  another same = elim (apart_after (servers c) link here) [
    | inr just_one ↦ many just_one
    | inl step ↦ let one = step.0 in absurd (omega arith)
  ]

  -- where servers may fail, both ends share the group that ends at the receiver
  module _ (ends : EndsAsSaid) where
    abbrev pub tail : ℕ
    tail = group_ending_at (shape c) receiver

    pub tail_inside : tail < servers c
    tail_inside = ending_below c receiver h.run.right.ring.failures there

    pub tail_is : is_tail c tail receiver ≡ true
    tail_is = sym (ends (shape c) tail receiver h.run.right.ring tail_inside there) ∙ eq-eqb tail tail refl

    pub tail_shared : (c.failures ≡ 0 → ⊥) → is_shared c tail link receiver ≡ true
    tail_shared some =
        let far : apart (servers c) tail receiver ≡ c.failures =
        eqb-true (apart (servers c) tail receiver) c.failures tail_is in
        let to_receiver = apart_cases (servers c) tail receiver tail_inside there in
        let to_link = apart_cases (servers c) tail link tail_inside here in
        let link_inside : link < servers c = here in
        let receiver_inside : receiver < servers c = there in
        let within : tail < servers c = tail_inside in
        elim (apart_after (servers c) link here) [
          | inr just_one ↦ absurd (many just_one)
          | inl step ↦
              let one = step.0 in
              and_from (is_member c tail link && is_member c tail receiver) (not (tail == receiver))
              (and_from (is_member c tail link) (is_member c tail receiver)
              (le-leb (apart (servers c) tail link) c.failures (omega arith))
              (le-leb (apart (servers c) tail receiver) c.failures (omega arith)))
              (ap not (ne_eqb tail receiver (λ same. absurd (omega arith))))
        ]

  -- and else they share none
  pub none_shared : c.failures ≡ 0 → (group : ℕ) → group < servers c → is_shared c group link receiver ≡ false
  none_shared none group inside = false_from_ne_true (is_shared c group link receiver) (λ shared.
      let both = and_parts (is_member c group link) (is_member c group receiver)
      (and_parts (is_member c group link && is_member c group receiver) (not (group == receiver)) shared).0 in
      let first : apart (servers c) group link ≤ c.failures =
      leb-true (apart (servers c) group link) c.failures both.0 in
      let second : apart (servers c) group receiver ≤ c.failures =
      leb-true (apart (servers c) group receiver) c.failures both.1 in
      let to_receiver = apart_cases (servers c) group receiver inside there in
      let to_link = apart_cases (servers c) group link inside here in
      let differs = another in
      absurd (omega arith))

  -- then lists and knowledge stay as they are
  module _ (none : c.failures ≡ 0) where
    lists_same : (group packet : ℕ) → (next c s (Pull link)).lists receiver group packet ≡ s.lists receiver group packet
    lists_same group packet = with_at_cases (λ (v : Visits). v group packet
        ≡ s.lists receiver group packet) s.lists receiver
        (pulled_list c s link receiver) receiver (λ _. either (is_shared c group link receiver) refl) (λ ne. refl)
      where
        nothing : (server : ℕ) → is_shared c group link receiver ≡ true → s.lists server group packet ≡ false
        nothing server shared = false_from_ne_true (s.lists server group packet) (λ has.
            true≢false (sym shared ∙ none_shared none group (h.tied.order.had server group packet has).1))

        either : (b : Bool) → is_shared c group link receiver ≡ b →
            (if b then s.lists link group packet else s.lists receiver group packet) ≡ s.lists receiver group packet
        either true shared = nothing link shared ∙ sym (nothing receiver shared)
        either false apart = refl

    knows_same : (group packet : ℕ) →
        knows c (next c s (Pull link)) receiver group packet ≡ knows c s receiver group packet
    knows_same group packet =
        ap (λ (b : Bool). s.known receiver group packet || (is_tail c group receiver && b)) (lists_same group packet)

    own_apart : is_shared c receiver link receiver ≡ false
    own_apart = none_shared none receiver there

    slot_stays : (group : ℕ) → group < servers c → (known : List (List ℕ)) (o : Option Held) →
        IsReplicaSlot c s receiver known group o → IsReplicaSlot c (next c s (Pull link)) receiver known group o
    slot_stays group inside known None slot = slot
    slot_stays group inside known (Some replica) slot = (
      slot.0,
      slot.1,
      others_stay c s h receiver group (pruned_by (vector_of known group) replica) slot.2 (Pull link) legal
          (λ both. true≢false (sym both.1 ∙ none_shared none group inside)),
    )

    replicas_stay : (own : Held) (others : List (Option Held)) (known : List (List ℕ)) →
        AreReplicas c s receiver own others known → AreReplicas c (next c s (Pull link)) receiver own others known
    replicas_stay own others known are = record {
      own = others_stay c s h receiver receiver (pruned_by (vector_of known receiver) own) are.own (Pull link) legal
          (λ both. true≢false (sym both.1 ∙ own_apart));
      others = λ group inside. slot_stays group inside known (replica_of others group) (are.others group inside);
      size = are.size;
      known = knows_stay c s h (Pull link) legal receiver known knows_same are.known;
    }

module _ (c : Setting) (s : ChainState) (f : IsFirmState c s) (link : ℕ) (legal : IsLegal c s (Pull link))
    (old : Server) (is : IsServerAt c s (next_of (servers c) link) old) where
  -- where no server may fail, the receiver stays as it is
  pub stays_so : c.failures ≡ 0 → IsServerAt c (next c s (Pull link)) (next_of (servers c) link) old
  stays_so none = record {
    ring = is.ring;
    number_is = is.number_is;
    rule = is.rule;
    partitions = is.partitions;
    stands = record {
      replicas = replicas_stay c s f.steady link legal none (contents_of old).head (contents_of old).later old.known
          is.stands.replicas;
      held = held_stay c s f (Pull link) legal (next_of (servers c) link) (λ origin. refl)
          (λ (item : HeldItem). item.visited)
          (λ (item : HeldItem). item.by_ring) (λ (item : HeldItem). item.message) (contents_of old).held is.stands.held;
      withheld = withheld_stay c s f (Pull link) legal (next_of (servers c) link) (λ packet. refl) old.buffer.items
          is.stands.withheld;
      forwarded = forwarded_stay c s f (Pull link) legal (next_of (servers c) link) (λ group packet. refl) old.forwarder
          is.stands.forwarded;
    };
  }

-- ---- the receiver

module _ (c : Setting) (s : ChainState) (f : IsFirmState c s) (ends : EndsAsSaid) (link : ℕ)
    (legal : IsLegal c s (Pull link))
    (sender old new : Server) (sends : IsServerAt c s link sender) (is : IsServerAt c s (next_of (servers c) link) old)
    (done : HasInstalled old new (made c s f.steady link legal sender old sends is)) where
  abbrev Follows : Type 0
  Follows = IsServerAt c (next c s (Pull link)) (next_of (servers c) link) new

  -- what the laws say of a server that puts in place what it pulled, and of one that has the same fields
  module _ (installs : (tail : ℕ) → tail < servers c → is_tail c tail (next_of (servers c) link) ≡ true →
      is_shared c tail link (next_of (servers c) link) ≡ true →
      ArePulled c link old sender (made c s f.steady link legal sender old sends is) → Follows)
      (same : IsServerAt c (next c s (Pull link)) (next_of (servers c) link) old → HasRoomed old new →
      Follows) where
    nothing_done : c.failures ≡ 0 → HasRoomed old new
    nothing_done none =
        let empty : made c s f.steady link legal sender old sends is ≡ [] =
        none_made (λ group. is_shared c group link (next_of (servers c) link)) (new_of sender old) (servers c)
        (none_shared c s f.steady link legal none) in
        let done_so : HasInstalled old new [] = subst (HasInstalled old new) empty done in
        record {
          held = done_so.held;
          rest = done_so.rest
              ∙ (ap (λ others. record (fields_of old) { others = others; known = new.known; held = new.held })
              done_so.others
              ∙ ap (λ known. record (fields_of old) { known = known; held = new.held }) done_so.known);
        }

    pub server_follows : Follows
    server_follows = elim (cases_eq c.failures 0) [
      | inl none ↦ same (stays_so c s f link legal old is none) (nothing_done none)
      | inr some ↦ installs (tail c s f.steady link legal ends) (tail_inside c s f.steady link legal ends)
          (tail_is c s f.steady link legal ends) (tail_shared c s f.steady link legal ends some)
          (are_pulled c s f.steady link legal sender old sends is)
    ]

-- ---- the links

gap_so : (at_receiver at_link gained gap before : Bool) → (at_receiver ≡ true → at_link ≡ false) →
    (at_receiver ≡ true → gap ≡ before) →
    (if at_receiver && gained then true else (if at_link then false else gap))
    ≡ (if at_link then false else (if at_receiver then before || gained else gap))
gap_so true true gained gap before apart same = absurd (true≢false (apart refl))
gap_so true false true gap before apart same = sym (or-true before)
gap_so true false false gap before apart same = same refl ∙ sym (or-false before)
gap_so false true gained gap before apart same = refl
gap_so false false gained gap before apart same = refl

pub gap_is : (c : Setting) (s : ChainState) (link number : ℕ) (gained gap : Bool) → next_of (servers c) link ≢ link →
    gained ≡ list_any (is_news c s link (next_of (servers c) link)) s.trace → gap ≡ s.gap number →
    gap_after link (next_of (servers c) link) gained number gap ≡ (next c s (Pull link)).gap number
gap_is c s link number gained gap another gains was =
    let receiver = next_of (servers c) link in
    gap_so (number == receiver) (number == link) gained gap (s.gap receiver)
    (λ same. ne_eqb number link (λ e. another (sym (eqb-true number receiver same) ∙ e)))
    (λ same. was ∙ ap s.gap (eqb-true number receiver same))
    ∙ (ap (λ b. if number == link then false else (if number == receiver then s.gap receiver || b else gap)) gains
    ∙ ap (λ b. if number == link then false else (if number == receiver
    then s.gap receiver || list_any (is_news c s link receiver) s.trace else b)) was)

-- Servers of which one begins anew and another drops messages, and links that are cut off.
use Rattle.std.proofs.Common.{◌≡◌, ◌≢◌, ◌<◌, ◌≤◌, ◌==◌, ◌||◌, ◌∙◌, ℕ, Bool, true, false, List, [], Option, Some, None}
use Rattle.std.proofs.Common.{length, refl, sym, ap, subst, inl, inr, arith}
use Rattle.std.specs.Prelude.{if◌then◌else◌}
use Rattle.std.proofs.lemmas.Bool.{cases_eq, eqb-true, eqb-false}
use Rattle.ftc_edge.specs.declared.buffer.Withheld.{Withheld}
use Rattle.ftc_journal.specs.declared.event.Event.TheVariants as event
use Rattle.ftc_journal.specs.declared.event.VisitName.{VisitName}
use Rattle.ftc_link.specs.Queue.{Queue}
use Rattle.ftc_protocol.specs.Next.{next}
use Rattle.ftc_protocol.specs.Recovery.{following_live}
use Rattle.ftc_protocol.specs.Setting.{Setting, servers}
use Rattle.ftc_protocol.specs.State.{ChainState}
use Rattle.ftc_refinement.specs.Contents.{IsServerAt}
use Rattle.ftc_ring.specs.Ring.{next_of}
use Rattle.ftc_serial.proofs.Functions.{with_at_cases}
use Rattle.ftc_server.specs.declared.server.Server.{Server}
use Rattle.ftc_server.specs.State.{ServerState}
use Rattle.ftc_server.specs.Steps.{HasDropped}
use Rattle.ftc_standing.specs.Stand.{IsLink}
use Rattle.ftc_network.specs.Parts.{server_in, buffer_of}
use Rattle.ftc_network.specs.Recovering.{cut_off, may_drop, SlotHasDropped, AreReplaced}
use Rattle.ftc_network.specs.Slots.{head_of}
use Rattle.ftc_network.specs.Stand.{IsSlot, AreReady, RunNothingElse}
use Rattle.ftc_network.proofs.ReadySlots.{same_runs}

-- what the slots of a server that stands for a state run lacks nothing
pub slot_ready : (setting : Setting) (state : ChainState) (number : ℕ) (slot : Option Server) →
    IsSlot setting state number slot → may_drop slot ≡ true
slot_ready setting state number None is = refl
slot_ready setting state number (Some server) is = is.ready.all

module _ (old new : List (Option Server)) (server following : ℕ) (made : Server)
    (are : AreReplaced old new server following made) (apart : following ≢ server) where
  -- each of the servers has a property, where the two that are changed have it
  pub each_replaced : (Before After : ℕ → Option Server → Type 0) (size : ℕ) →
      ((number : ℕ) → number < size → Before number (server_in old number)) → After server (Some made) →
      (SlotHasDropped (server_in old following) (server_in new following) → After following (server_in new following)) →
      ((number : ℕ) (slot : Option Server) → number ≢ server → number ≢ following → Before number slot →
      After number slot) →
      (number : ℕ) → number < size → After number (server_in new number)
  each_replaced Before After size before here there others number below = elim (cases_eq number server) [
    | inl same ↦ subst (λ (n : ℕ). After n (server_in new n)) (sym same) (subst (After server) (sym are.here) here)
    | inr differs ↦ elim (cases_eq number following) [
      | inl same ↦ subst (λ (n : ℕ). After n (server_in new n)) (sym same) (there (are.dropped apart))
      | inr apart_too ↦ subst (After number) (sym (are.others number differs apart_too))
          (others number (server_in old number) differs apart_too (before number below))
    ]
  ]

  same_buffer : (before after : Option Server) → SlotHasDropped before after → buffer_of after ≡ buffer_of before
  same_buffer None after same = ap buffer_of same
  same_buffer (Some before) None none = absurd none
  same_buffer (Some before) (Some after) done = ap (λ (s : ServerState). s.buffer.items) done.rest

  same_head : (before after : Option Server) → SlotHasDropped before after → head_of after ≡ head_of before
  same_head None after same = ap head_of same
  same_head (Some before) None none = absurd none
  same_head (Some before) (Some after) done = ap (λ (s : ServerState). Some s.head) done.rest

  -- the heads of the other servers are as they were
  pub other_heads : (other : ℕ) → other ≢ server → head_of (server_in new other) ≡ head_of (server_in old other)
  other_heads other differs = elim (cases_eq other following) [
    | inl there ↦ subst (λ (n : ℕ). head_of (server_in new n) ≡ head_of (server_in old n)) (sym there)
        (same_head (server_in old following) (server_in new following) (are.dropped apart))
    | inr apart_too ↦ ap head_of (are.others other differs apart_too)
  ]

  -- no more packets are withheld at any server, where the new one withholds none
  pub fewer_withheld : made.buffer.items ≡ [] → (last : ℕ) →
      length (buffer_of (server_in new last)) ≤ length (buffer_of (server_in old last))
  fewer_withheld none last = elim (cases_eq last server) [
    | inl here ↦
        let empty : length (buffer_of (server_in new last)) ≡ 0 =
        ap (λ (n : ℕ). length (buffer_of (server_in new n))) here
        ∙ (ap (λ (o : Option Server). length (buffer_of o)) are.here
        ∙ ap (λ (list : List Withheld). length list) none) in
        omega (arith, empty)
    | inr differs ↦
        let same : length (buffer_of (server_in new last)) ≡ length (buffer_of (server_in old last)) =
        elim (cases_eq last following) [
          | inl there ↦ subst (λ (n : ℕ). length (buffer_of (server_in new n)) ≡ length (buffer_of (server_in old n)))
              (sym there)
              (ap (λ (list : List Withheld). length list)
              (same_buffer (server_in old following) (server_in new following) (are.dropped apart)))
          | inr apart_too ↦ ap (λ (o : Option Server). length (buffer_of o)) (are.others last differs apart_too)
        ] in
        omega (arith, same)
  ]

module _ (setting : Setting) (state : ChainState) (server : ℕ) (undone : List VisitName) where
  abbrev after : ChainState
  after = next setting state (event.Recover server undone)

  pub up_again : after.up server ≡ true
  up_again = with_at_cases (λ (up : Bool). up ≡ true) state.up server true server (λ same. refl)
      (λ differs. absurd (differs refl))

  -- the live server after has dropped messages
  pub slot_dropped : (old new : Option Server) →
      ((before later : Server) → IsServerAt setting state (following_live setting state server) before →
      HasDropped before later →
      IsServerAt setting after (following_live setting state server) later) →
      ((before later : Server) → IsServerAt setting state (following_live setting state server) before →
      IsServerAt setting after (following_live setting state server) later → RunNothingElse before later →
      AreReady before → AreReady later) →
      state.up (following_live setting state server) ≡ true →
      IsSlot setting state (following_live setting state server) old → SlotHasDropped old new →
      IsSlot setting after (following_live setting state server) new
  slot_dropped None new law keeps up is done = absurd cc
  slot_dropped (Some before) None law keeps up is done = absurd done
  slot_dropped (Some before) (Some later) law keeps up is done = record {
    up = with_at_cases (λ (b : Bool). b ≡ true) state.up server true (following_live setting state server)
        (λ same. refl) (λ differs. up);
    at = law before later is.at done;
    ready = keeps before later is.at (law before later is.at done)
        (same_runs before later (ap (λ (s : ServerState). s.head) done.rest)) is.ready;
  }

  abbrev gap_in : ℕ → ℕ → Bool → Bool
  gap_in following link gap =
      (gap || (link == server) || (next_of (servers setting) link == server))
      || (link == following) || (next_of (servers setting) link == following)

  -- a link that is cut off stands for what is on it after a recovery
  pub link_cut : (following link : ℕ) (queue : Queue) → following ≡ following_live setting state server →
      ((gap : Bool) → next_of (servers setting) link ≡ following_live setting state server → gap ≡ after.gap link →
      IsLink setting state link queue → IsLink setting after link (record queue { messages = []; gap = gap })) →
      ((gap : Bool) → next_of (servers setting) link ≢ following_live setting state server → gap ≡ after.gap link →
      IsLink setting state link queue → IsLink setting after link (record queue { gap = gap })) →
      IsLink setting state link queue →
      IsLink setting after link (cut_off (servers setting) server following link queue)
  link_cut following link queue there into others is =
      let gap : gap_in following link queue.gap ≡ after.gap link =
      ap (λ (number : ℕ). gap_in number link queue.gap) there
      ∙ ap (λ (b : Bool). gap_in (following_live setting state server) link b) is.gap in
      elim (next_of (servers setting) link == following) as
      (λ (t : Bool). (next_of (servers setting) link == following) ≡ t →
      IsLink setting after link
      (record queue { messages = if t then [] else queue.messages; gap = gap_in following link queue.gap })) [
        | true ↦ λ same. into (gap_in following link queue.gap) (eqb-true _ _ same ∙ there) gap is
        | false ↦ λ differs. others (gap_in following link queue.gap)
            (λ same. eqb-false _ _ differs (same ∙ sym there)) gap is
      ] refl

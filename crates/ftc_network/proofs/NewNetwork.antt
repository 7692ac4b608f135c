-- The servers and links of a network to which nothing has happened.
use Rattle.std.proofs.Common.{◌≡◌, ◌∙◌, ◌+◌, ◌<◌, ◌++◌, [], ◌∷◌, ℕ, List, length, Option, Some, None, slice_get, get_or}
use Rattle.std.proofs.Common.{inl, inr, sym, ap, subst, arith, length-append}
use Rattle.std.specs.Prelude.{slice_index_or}
use Rattle.std.proofs.lemmas.Bool.{cases_eq, lt-ltb}
use Rattle.std.proofs.lemmas.List.{get_or_append_left}
use Rattle.std.proofs.lemmas.Option.{get_or_from_slice_get}
use Rattle.std.proofs.Math.Seq.{get_or-append_seam}
use Rattle.ftc_mbox.specs.Chain.{Chain}
use Rattle.ftc_mbox.specs.declared.rule.Rule.{Rule}
use Rattle.ftc_mbox.specs.declared.rule.Rule.TheVariants.{Pass}
use Rattle.ftc_protocol.specs.Setting.{Setting, servers, shape, rule_at}
use Rattle.ftc_protocol.specs.State.{opening}
use Rattle.ftc_refinement.specs.Contents.{IsServerAt}
use Rattle.ftc_ring.specs.Ring.{RingShape}
use Rattle.ftc_server.specs.declared.server.Server.{Server}
use Rattle.ftc_server.specs.Steps.{IsOpening, empty_held}
use Rattle.ftc_network.specs.Opening.{ring_of, IsOfChain, IsNewSlot, AreNewServers}
use Rattle.ftc_network.specs.Parts.{server_in}
use Rattle.ftc_network.specs.Stand.{IsSlot}
use Rattle.ftc_network.proofs.ReadySlots.{idle_ready}

-- the item at the end of a list, and those before it
seam : {A : Type 0} (items : List A) (item other : A) (size : ℕ) → length items ≡ size →
    get_or (items ++ item ∷ []) size other ≡ item
seam items item other size is =
    ap (λ (n : ℕ). get_or (items ++ item ∷ []) n other) (sym is) ∙ get_or-append_seam items item [] other

-- one server more
pub new_server_added : (chain : Chain) (count : ℕ) (items : List (Option Server)) (server : Server) →
    AreNewServers chain count items → IsNewSlot chain count (Some server) →
    AreNewServers chain (count + 1) (items ++ Some server ∷ [])
new_server_added chain count items server are is = record {
  size = length-append items (Some server ∷ []) ∙ ap (λ (n : ℕ). n + 1) are.size;
  each = λ number below. elim (cases_eq number count) [
    | inl same ↦ subst (λ (n : ℕ). IsNewSlot chain n (server_in (items ++ Some server ∷ []) n)) (sym same)
        (subst (IsNewSlot chain count) (sym (seam items (Some server) None count are.size)) is)
    | inr differs ↦
        let size = are.size in
        let within : number < count = omega (arith, below, differs) in
        subst (IsNewSlot chain number)
        (sym (get_or_append_left items (Some server ∷ []) None number (omega (arith, within, size))))
        (are.each number within)
  ];
}

-- a server that was made for a ring, a rule and partitions that are the chain's
pub is_new_slot : (chain : Chain) (ring : RingShape) (id number : ℕ) (rule : Rule) (partitions : ℕ) (server : Server) →
    ring ≡ ring_of chain → id ≡ number → slice_get chain.rules number ≡ Some rule → partitions ≡ chain.partitions →
    IsOpening ring id rule partitions (empty_held partitions) server → IsNewSlot chain number (Some server)
is_new_slot chain ring id number rule partitions server ring_is id_is rule_is partitions_is is =
    subst (λ (r : RingShape). IsOpening r number (slice_index_or chain.rules number Pass) chain.partitions
    (empty_held chain.partitions) server) ring_is
    (subst (λ (n : ℕ). IsOpening ring n (slice_index_or chain.rules number Pass) chain.partitions
    (empty_held chain.partitions) server) id_is
    (subst (λ (r : Rule). IsOpening ring id r chain.partitions (empty_held chain.partitions) server)
    (sym (get_or_from_slice_get chain.rules number rule Pass rule_is))
    (subst (λ (n : ℕ). IsOpening ring id rule n (empty_held n) server) partitions_is is)))

-- it stands for the opening state of a setting of the chain
pub new_slot_stands : (chain : Chain) (setting : Setting) (number : ℕ) (slot : Option Server) →
    number < servers setting →
    IsOfChain chain setting →
    ((server : Server) → IsOpening (shape setting) number (rule_at setting number) setting.partitions
    (empty_held setting.partitions) server → IsServerAt setting (opening setting) number server) →
    IsNewSlot chain number slot → IsSlot setting (opening setting) number slot
new_slot_stands chain setting number None below of makes is = absurd is
new_slot_stands chain setting number (Some server) below of makes is =
    let rules_is = sym of.rules in
    let ring : ring_of chain ≡ shape setting =
    ap (λ (rules : List Rule). record { servers = length rules; failures = chain.failures }) rules_is
    ∙ ap (λ (n : ℕ). record { servers = servers setting; failures = n }) (sym of.failures) in
    record {
      up = lt-ltb number (servers setting) below;
      at = makes server
          (subst (λ (r : RingShape). IsOpening r number (rule_at setting number) setting.partitions
          (empty_held setting.partitions) server) ring
          (subst (λ (rules : List Rule). IsOpening (ring_of chain) number
          (slice_index_or rules number Pass) setting.partitions
          (empty_held setting.partitions) server) rules_is
          (subst (λ (n : ℕ). IsOpening (ring_of chain) number (slice_index_or chain.rules number Pass) n
          (empty_held n) server) (sym of.partitions) is)));
      ready = idle_ready server is.idle;
    }

-- Servers and links of which one is changed.
use Rattle.std.proofs.Common.{◌≢◌, ◌<◌, ℕ, false, List, [], Option, None, length, slice_set, inl, inr, sym, subst}
use Rattle.std.proofs.Common.{get_or-set_same, get_or-set_other}
use Rattle.std.proofs.lemmas.Bool.{cases_eq}
use Rattle.ftc_link.specs.Queue.{Queue}
use Rattle.ftc_server.specs.declared.server.Server.{Server}
use Rattle.ftc_network.specs.Parts.{server_in, link_in}

-- each of the servers below a number has a property, where one of them is changed
pub server_set : (Fits : ℕ → Option Server → Type 0) (size : ℕ) (old : List (Option Server)) (number : ℕ)
    (slot : Option Server) → number < length old → Fits number slot →
    ((server : ℕ) → server < size → server ≢ number → Fits server (server_in old server)) →
    (server : ℕ) → server < size → Fits server (server_in (slice_set old number slot) server)
server_set Fits size old number slot within here others server below = elim (cases_eq server number) [
  | inl same ↦ subst (λ (n : ℕ). Fits n (server_in (slice_set old number slot) n)) (sym same)
      (subst (λ (o : Option Server). Fits number o) (sym (get_or-set_same old number slot None within)) here)
  | inr differs ↦ subst (λ (o : Option Server). Fits server o)
      (sym (get_or-set_other old number server slot None differs)) (others server below differs)
]

-- the same of links
pub link_set : (Fits : ℕ → Queue → Type 0) (size : ℕ) (old : List Queue) (number : ℕ) (queue : Queue) →
    number < length old → Fits number queue →
    ((link : ℕ) → link < size → link ≢ number → Fits link (link_in old link)) →
    (link : ℕ) → link < size → Fits link (link_in (slice_set old number queue) link)
link_set Fits size old number queue within here others link below = elim (cases_eq link number) [
  | inl same ↦ subst (λ (n : ℕ). Fits n (link_in (slice_set old number queue) n)) (sym same)
      (subst (λ (q : Queue). Fits number q)
      (sym (get_or-set_same old number queue (record { from = 0; messages = []; gap = false }) within)) here)
  | inr differs ↦ subst (λ (q : Queue). Fits link q)
      (sym (get_or-set_other old number link queue (record { from = 0; messages = []; gap = false }) differs))
      (others link below differs)
]

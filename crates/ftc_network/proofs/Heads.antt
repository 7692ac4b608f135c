-- What heads servers have of which one is changed.
use Rattle.std.proofs.Common.{◌≡◌, ◌<◌, ◌∙◌, ℕ, List, Option, Some, None, Result, Ok, Err, length, slice_set, inl, inr}
use Rattle.std.proofs.Common.{sym, ap, get_or-set_same, get_or-set_other}
use Rattle.std.specs.Prelude.{OnOk, OnErr}
use Rattle.std.proofs.lemmas.Bool.{cases_eq}
use Rattle.ftc_server.specs.declared.server.Server.{Server}
use Rattle.ftc_txn.specs.Head.{HeadState}
use Rattle.ftc_network.specs.Parts.{server_in}
use Rattle.ftc_network.specs.Slots.{head_of, runs_in, IsIdleHead}

-- all heads are as they were where that of the one server is
pub same_heads : (items : List (Option Server)) (place : ℕ) (slot : Option Server) → place < length items →
    head_of slot ≡ head_of (server_in items place) → (server : ℕ) →
    head_of (server_in (slice_set items place slot) server) ≡ head_of (server_in items server)
same_heads items place slot within same server = elim (cases_eq server place) [
  | inl here ↦ ap (λ (n : ℕ). head_of (server_in (slice_set items place slot) n)) here
      ∙ (ap head_of (get_or-set_same items place slot None within)
      ∙ (same ∙ ap (λ (n : ℕ). head_of (server_in items n)) (sym here)))
  | inr differs ↦ ap head_of (get_or-set_other items place server slot None differs)
]

-- a server whose head is as it was
pub same_head : (slot : Option Server) (old new : Server) → slot ≡ Some old → new.head ≡ old.head →
    head_of (Some new) ≡ head_of slot
same_head slot old new is same = ap (λ (head : HeadState). Some head) same ∙ ap head_of (sym is)

-- what holds both where a call did what it is for and where it didn't
pub either_way : {A E : Type 0} (result : Result A E) (Good Bad Fact : Type 0) → (Good → Fact) → (Bad → Fact) →
    OnOk result Good → OnErr result Bad → Fact
either_way (Ok value) Good Bad Fact from_good from_bad good bad = from_good good
either_way (Err fault) Good Bad Fact from_good from_bad good bad = from_bad bad

-- no slot of an idle head runs anything
pub idle_runs : (head : Option HeadState) → IsIdleHead head → (worker : ℕ) → runs_in head worker ≡ None
idle_runs None idle worker = absurd idle
idle_runs (Some head) idle worker = idle worker

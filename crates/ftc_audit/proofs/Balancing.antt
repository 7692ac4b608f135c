-- What a balancer's visits leave in its store: each client keeps the backend that it was given.
use Rattle.std.proofs.Common.{◌≡◌, ◌≢◌, ◌∙◌, ◌⊎◌, inl, inr, refl, sym, ap, subst, ℕ, zero, suc, ◌+◌, ◌≤◌, ◌==◌, ◌&&◌}
use Rattle.std.proofs.Common.{◌%◌, Bool, true, false, List, [], ◌∷◌, length, Option, Some, None, arith, MatchOption}
use Rattle.std.specs.Prelude.{slice_index, if◌then◌else◌}
use Rattle.std.specs.List.{AllByRecursion, list_any}
use Rattle.std.specs.Int.{w32, to_be_bytes}
use Rattle.std.specs.FinMap.{get, insert}
use Rattle.std.proofs.lemmas.Nat.{from_be_bytes-to_be_bytes_4}
use Rattle.ftc_base.specs.declared.ask.Answer.{Answer}
use Rattle.ftc_base.specs.declared.ask.Ask.TheVariants.{Read, Finish}
use Rattle.ftc_base.specs.declared.ask.Finish.{Finish as End}
use Rattle.ftc_base.specs.declared.ask.Change.TheVariants.{Keep, Source, Destination}
use Rattle.ftc_base.specs.declared.ask.Verdict.{Verdict}
use Rattle.ftc_base.specs.declared.ask.Verdict.TheVariants.{Forward}
use Rattle.ftc_base.specs.declared.ask.Write.{Write}
use Rattle.ftc_base.specs.Ask.{number_in, put, forward, forward_changed}
use Rattle.ftc_packet.specs.declared.flow.Flow.{Flow}
use Rattle.ftc_packet.specs.Flow.{IsFlow, flow_in, flow_found}
use Rattle.ftc_packet.specs.Rewrite.{with_destination}
use Rattle.ftc_packet.proofs.FlowsFound.{flow_found-some, flows_are_found}
use Rattle.ftc_packet.proofs.PacketRewrites.{IsFlow-with_end, flow_in-with_destination}
use Rattle.ftc_balance.specs.declared.rule.BalanceRule.{BalanceRule}
use Rattle.ftc_balance.specs.Balance.{client_key, turn_key, turn_in, replied, balance_ask}
use Rattle.ftc_balance.specs.Bounds.{IsBalanceRule}
use Rattle.ftc_store.specs.Store.{Content, written}
use Rattle.ftc_mbox.specs.declared.rule.Rule.TheVariants.{Balance}
use Rattle.ftc_mbox.specs.Ask.{ask}
use Rattle.ftc_serial.specs.Take.{Outcome, answer_at, taken}
use Rattle.ftc_audit.specs.declared.line.ClientLine.{ClientLine}
use Rattle.ftc_audit.specs.Visits.{Seen}
use Rattle.ftc_audit.specs.Backends.{destination, client_line_of}
use Rattle.ftc_audit.proofs.Runs.{IsKept}
use Rattle.ftc_audit.proofs.Keys.{at_put, off_put}
use Rattle.ftc_audit.proofs.Asked.{of_flow, ends_at_once, ends_after_one, ends_after_two, writes_told, packet_told}
use Rattle.ftc_audit.proofs.Quiet as quiet
use Rattle.ftc_audit.proofs.Bytes.{below}

-- the backend at a key
abbrev pub backend_at : Content → List ℕ → Option ℕ
backend_at content key = number_in w32 (get content key)

abbrev pub key_of : Flow → List ℕ
key_of flow = client_key flow.protocol flow.source flow.source_port

-- the store has the backend of the line at the key of its client
abbrev pub HasBackend : Content → ClientLine → Type 0
HasBackend content line = backend_at content (client_key line.protocol line.address line.port) ≡ Some line.backend

-- the line of a client of this flow that has this backend
abbrev line_with : Flow → ℕ → ClientLine
line_with flow backend =
    record { backend = backend; protocol = flow.protocol; address = flow.source; port = flow.source_port }

-- of a balancer's store nothing else is asked
abbrev pub Holds : Content → Type 0
Holds content = Unit {0}

-- the packet that goes on shows the backend
shown : (packet : List ℕ) (flow : Flow) (address port : ℕ) → flow_found packet ≡ Some flow
    → destination (flow_found (with_destination packet address port)) ≡ address
shown packet flow address port found =
    let is = subst (λ (o : Option Flow). MatchOption o (¬ IsFlow packet) (λ f. IsFlow packet
    × (f ≡ flow_in packet))) found (flows_are_found packet) in
    ap destination (flow_found-some (with_destination packet address port) (IsFlow-with_end packet _ address port is.0))
    ∙ ap (λ (f : Flow). f.destination) (flow_in-with_destination packet address port is.0)

module _ (rule : BalanceRule) where
  -- a packet of a client
  abbrev comes : Flow → Bool
  comes flow = flow.destination == rule.address && flow.destination_port == rule.port

  module _ (packet : List ℕ) (content : Content) where
    abbrev outcome : Outcome
    outcome = taken (Balance rule) packet content

    abbrev seen : ℕ → Seen
    seen server = record { server = server; before = packet; outcome = outcome }

    -- nothing is written, and the store has the line that there is
    abbrev IsQuiet : Type 0
    IsQuiet = quiet.IsQuiet (Balance rule) (client_line_of rule) HasBackend packet content

    -- the next backend for a client that has none
    record IsNew : Type 0 where
      pub flow : Flow
      pub backend : ℕ
      pub turn : List ℕ
      pub none : backend_at content (key_of flow) ≡ None
      pub within : IsBalanceRule rule → backend ≤ 4294967295
      pub writes : outcome.writes ≡ put (key_of flow) (to_be_bytes w32 backend) ∷ put turn_key turn ∷ []
      pub gave : (server : ℕ) (line : ClientLine) → client_line_of rule (seen server) ≡ Some line
          → line_with flow backend ≡ line

    no_line : (server : ℕ) (line : ClientLine) → flow_found packet ≡ None →
        client_line_of rule (seen server) ≡ Some line → ⊥
    no_line server line none told = let is : None ≡ Some line = rw none at told in cc

    other_line : (server : ℕ) (line : ClientLine) (flow : Flow) → flow_found packet ≡ Some flow → comes flow ≡ false
        → (after : Option (List ℕ)) → outcome.packet ≡ after → client_line_of rule (seen server) ≡ Some line → ⊥
    other_line server line flow found other None is told = let same : None ≡ Some line = rw (found, is) at told in cc
    other_line server line flow found other (Some after) is told = let same : None ≡ Some line = rw
        (found, is, other) at told in cc

    line_is : (server : ℕ) (line : ClientLine) (flow : Flow) (backend : ℕ) → flow_found packet ≡ Some flow
        → comes flow ≡ true
        → outcome.packet ≡ Some (with_destination packet backend flow.destination_port)
        → client_line_of rule (seen server) ≡ Some line → line_with flow backend ≡ line
    line_is server line flow backend found goes is told =
        let after = flow_found (with_destination packet backend flow.destination_port) in
        let same : Some (line_with flow (destination after)) ≡ Some line = rw (found, is, goes) at told in
        let here : Some (line_with flow backend) ≡ Some line =
        rw (shown packet flow backend flow.destination_port found) at same in
        cc

    asks : (flow : Flow) → flow_found packet ≡ Some flow → (answers : List Answer)
        → ask (Balance rule) packet answers ≡ balance_ask rule flow answers
    asks flow found answers = of_flow (Balance rule) packet (Some flow) answers found

    -- a packet of no flow goes on unread
    of_none : flow_found packet ≡ None → IsQuiet
    of_none found =
        quiet.unread (Balance rule) (client_line_of rule) HasBackend packet content (Forward Keep) refl found
        (λ server line is. no_line server line found is)

    -- a client goes on to the backend that it has
    of_known : (flow : Flow) (backend : ℕ) → flow_found packet ≡ Some flow → comes flow ≡ true
        → backend_at content (key_of flow) ≡ Some backend → IsQuiet
    of_known flow backend found goes has =
        quiet.read_once (Balance rule) (client_line_of rule) HasBackend packet content flow (key_of flow)
        (Forward (Destination backend flow.destination_port)) found (rw goes refl) (rw (goes, has) refl)
        (λ server line is told. subst (HasBackend content) (line_is server line flow backend found goes is told) has)

    of_new : (flow : Flow) → flow_found packet ≡ Some flow → comes flow ≡ true
        → backend_at content (key_of flow) ≡ None → IsNew
    of_new flow found goes none =
        let count = length rule.backends in
        let index = turn_in count (get content turn_key) in
        let backend = slice_index rule.backends index in
        let end : End = record {
          writes = record {
            items = put (key_of flow) (to_be_bytes w32 backend) ∷ put turn_key (to_be_bytes w32
                ((index + 1) % count)) ∷ [];
          };
          verdict = Forward (Destination backend flow.destination_port);
        } in
        let first = answer_at content (key_of flow) in
        let next = answer_at content turn_key in
        let reads : balance_ask rule flow [] ≡ Read (key_of flow) true = rw goes refl in
        let more : balance_ask rule flow (first ∷ []) ≡ Read turn_key true = rw (goes, none) refl in
        let ends : balance_ask rule flow (first ∷ next ∷ []) ≡ Finish end = rw (goes, none) refl in
        let told = ends_after_two (Balance rule) packet content (key_of flow) turn_key true true end
        (asks flow found [] ∙ reads) (asks flow found (first ∷ []) ∙ more) (asks flow found (first ∷ next ∷ [])
        ∙ ends) in
        record {
          flow = flow;
          backend = backend;
          turn = to_be_bytes w32 ((index + 1) % count);
          none = none;
          within = λ fits. below 4294967295 rule.backends index fits.addresses;
          writes = writes_told _ _ _ _ told;
          gave = λ server line is. line_is server line flow backend found goes (packet_told _ _ _ _ told) is;
        }

    -- the end that a value of a backend gives a reply
    reply_end : (flow : Flow) (value : Option ℕ)
        → (verdict : Verdict) × (replied rule flow value ≡ Finish
        (record { writes = record { items = [] }; verdict = verdict }))
    reply_end flow None = (Forward Keep, refl)
    reply_end flow (Some backend) =
        elim (backend == flow.source) as (λ t. (verdict : Verdict) × ((if t then forward_changed []
        (Source rule.address rule.port) else forward []) ≡ Finish
        (record { writes = record { items = [] }; verdict = verdict }))) [
          | true ↦ (Forward (Source rule.address rule.port), refl)
          | false ↦ (Forward Keep, refl)
        ]

    reply_quiet : (flow : Flow) → flow_found packet ≡ Some flow → comes flow ≡ false
        → (list_any (λ backend. backend == flow.source) rule.backends && flow.source_port == rule.port) ≡ true
        → outcome.writes ≡ []
    reply_quiet flow found other back =
        let key = client_key flow.protocol flow.destination flow.destination_port in
        let first = answer_at content key in
        let quiet = reply_end flow (number_in w32 (get content key)) in
        let end : End = record { writes = record { items = [] }; verdict = quiet.0 } in
        let reads : balance_ask rule flow [] ≡ Read key false = rw (other, back) refl in
        let ends : balance_ask rule flow (first ∷ []) ≡ Finish end = rw (other, back) quiet.1 in
        writes_told _ _ _ _ (ends_after_one (Balance rule) packet content key false end
        (asks flow found [] ∙ reads) (asks flow found (first ∷ []) ∙ ends))

    -- what else goes through writes nothing
    of_other : (flow : Flow) → flow_found packet ≡ Some flow → comes flow ≡ false → IsQuiet
    of_other flow found other = record {
      nothing = elim (list_any (λ backend. backend == flow.source) rule.backends && flow.source_port == rule.port) as
          (λ t. (list_any (λ backend. backend == flow.source) rule.backends && flow.source_port == rule.port) ≡ t
          → outcome.writes ≡ []) [
            | true ↦ λ back. reply_quiet flow found other back
            | false ↦ λ away.
                let end : End = record { writes = record { items = [] }; verdict = Forward Keep } in
                let ends : balance_ask rule flow [] ≡ Finish end = rw (other, away) refl in
                writes_told _ _ _ _ (ends_at_once (Balance rule) packet content end (asks flow found [] ∙ ends))
          ] refl;
      had = λ server line is. absurd (other_line server line flow found other outcome.packet refl is);
    }

    of_client : (flow : Flow) → flow_found packet ≡ Some flow → comes flow ≡ true → IsQuiet ⊎ IsNew
    of_client flow found goes =
        elim (backend_at content (key_of flow)) as (λ (o : Option ℕ). backend_at content (key_of flow) ≡ o → IsQuiet
        ⊎ IsNew) [
          | Some backend ↦ λ has. inl (of_known flow backend found goes has)
          | None ↦ λ none. inr (of_new flow found goes none)
        ] refl

    -- each visit is quiet, or gives a client the next backend
    visited : IsQuiet ⊎ IsNew
    visited =
        elim (flow_found packet) as (λ (o : Option Flow). flow_found packet ≡ o → IsQuiet ⊎ IsNew) [
          | None ↦ λ found. inl (of_none found)
          | Some flow ↦ λ found. elim (comes flow) as (λ t. comes flow ≡ t → IsQuiet ⊎ IsNew) [
            | true ↦ λ goes. of_client flow found goes
            | false ↦ λ other. inl (of_other flow found other)
          ] refl
        ] refl

    -- ---- the store after a backend was given

    module _ (fits : IsBalanceRule rule) (is : IsNew) where
      abbrev own : List ℕ
      own = key_of is.flow

      abbrev with_own : Content
      with_own = insert content own (to_be_bytes w32 is.backend)

      abbrev with_turn : Content
      with_turn = insert with_own turn_key is.turn

      written_is : written outcome.writes content ≡ with_turn
      written_is = ap (λ (writes : List Write). written writes content) is.writes

      own_now : backend_at with_turn own ≡ Some is.backend
      own_now =
          ap (number_in w32) (off_put with_own turn_key is.turn own (λ same. absurd (cc))
          ∙ at_put content own (to_be_bytes w32 is.backend))
          ∙ ap Some (from_be_bytes-to_be_bytes_4 is.backend (omega (arith, is.within fits)))

      new_has : (line : ClientLine) → HasBackend content line → HasBackend with_turn line
      new_has line has =
          let key = client_key line.protocol line.address line.port in
          let apart : key ≢ own = λ same. (let none : Some line.backend ≡ None = sym has
          ∙ (ap (backend_at content) same ∙ is.none) in absurd (cc)) in
          ap (number_in w32) (off_put with_own turn_key is.turn key (λ same. absurd (cc))
          ∙ off_put content own (to_be_bytes w32 is.backend) key apart) ∙ has

  -- what a visit leaves of the store
  pub balancing : IsBalanceRule rule → IsKept (Balance rule) (client_line_of rule) Holds HasBackend
  balancing fits = record {
    holds = λ packet content held. tt;
    has = λ packet content line held has. elim (visited packet content) [
      | inl still ↦ quiet.quiet_stays _ _ _ _ _ (λ c. HasBackend c line) still has
      | inr new ↦ subst (λ (c : Content). HasBackend c line) (sym (written_is packet content fits new))
          (new_has packet content fits new line has)
    ];
    gives = λ server packet content line held told. elim (visited packet content) [
      | inl still ↦ quiet.quiet_stays _ _ _ _ _ (λ c. HasBackend c line) still (still.had server line told)
      | inr new ↦ subst (λ (c : Content). HasBackend c line) (sym (written_is packet content fits new))
          (subst (λ (l : ClientLine). HasBackend (with_turn packet content fits new) l) (new.gave server line told)
          (own_now packet content fits new))
    ];
  }

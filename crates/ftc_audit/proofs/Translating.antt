-- What a translator's visits leave in its store: each endpoint keeps the port that it was given, and no two have one.
use Rattle.std.proofs.Common.{◌≡◌, ◌≢◌, ◌∙◌, ◌⊎◌, inl, inr, refl, sym, ap, subst, ℕ, ◌+◌, ◌<◌, ◌≤◌, ◌==◌, true, false}
use Rattle.std.proofs.Common.{List, [], ◌∷◌, length, Option, Some, None, arith, MatchOption}
use Rattle.std.specs.Prelude.{nat_lt, unwrap_or, if◌then◌else◌, take, drop}
use Rattle.std.proofs.lemmas.Bool.Decides.{nat_tests}
use Rattle.std.specs.Str.{bytes_eq}
use Rattle.std.specs.Int.{w16, w32, to_be_bytes, from_be_bytes}
use Rattle.std.specs.FinMap.{get, insert}
use Rattle.std.proofs.lemmas.Nat.{from_be_bytes-to_be_bytes_2, from_be_bytes-to_be_bytes_4}
use Rattle.std.proofs.lemmas.Slice.Eq.{bytes_eq-Decides}
use Rattle.ftc_base.specs.declared.ask.Answer.{Answer}
use Rattle.ftc_base.specs.declared.ask.Ask.TheVariants.{Read, Finish}
use Rattle.ftc_base.specs.declared.ask.Finish.{Finish as End}
use Rattle.ftc_base.specs.declared.ask.Change.TheVariants.{Keep, Source, Destination}
use Rattle.ftc_base.specs.declared.ask.Verdict.{Verdict}
use Rattle.ftc_base.specs.declared.ask.Verdict.TheVariants.{Forward, Filter}
use Rattle.ftc_base.specs.declared.ask.Write.{Write}
use Rattle.ftc_base.specs.Ask.{number_in, put, forward_changed, filter_out}
use Rattle.ftc_base.specs.Endpoint.{endpoint}
use Rattle.ftc_packet.specs.declared.flow.Flow.{Flow}
use Rattle.ftc_packet.specs.Flow.{IsFlow, flow_in, flow_found}
use Rattle.ftc_packet.specs.Rewrite.{with_source}
use Rattle.ftc_packet.proofs.FlowsFound.{flow_found-some, flows_are_found}
use Rattle.ftc_packet.proofs.PacketRewrites.{IsFlow-with_end, flow_in-with_source}
use Rattle.ftc_nat.specs.declared.rule.NatRule.{NatRule}
use Rattle.ftc_nat.specs.Nat.{outside_port_key, next_port_key, inside_key, leaves, to_inside, nat_ask}
use Rattle.ftc_store.specs.Store.{Content, written}
use Rattle.ftc_mbox.specs.declared.rule.Rule.TheVariants.{Nat}
use Rattle.ftc_mbox.specs.Ask.{ask}
use Rattle.ftc_serial.specs.Take.{Outcome, answer_at, taken}
use Rattle.ftc_audit.specs.declared.line.PortLine.{PortLine}
use Rattle.ftc_audit.specs.Visits.{Seen}
use Rattle.ftc_audit.specs.Ports.{source_port, port_line_of}
use Rattle.ftc_audit.proofs.Runs.{IsKept}
use Rattle.ftc_audit.proofs.Keys.{at_put, off_put}
use Rattle.ftc_audit.proofs.Asked.{of_flow, ends_at_once, ends_after_one, ends_after_two, ends_after_three}
use Rattle.ftc_audit.proofs.Asked.{writes_told, packet_told}
use Rattle.ftc_audit.proofs.Quiet as quiet

-- the port at a key
abbrev pub port_at : Content → List ℕ → Option ℕ
port_at content key = number_in w16 (get content key)

-- a key at which outside ports stand
abbrev pub IsPortKey : List ℕ → Type 0
IsPortKey key = (rest : List ℕ) × (key ≡ 102 ∷ rest)

abbrev pub key_of : Flow → List ℕ
key_of flow = outside_port_key flow.protocol flow.source flow.source_port

-- the store has the port of the line at the key of its endpoint
abbrev pub HasPort : Content → PortLine → Type 0
HasPort content line = port_at content (outside_port_key line.protocol line.address line.port) ≡ Some line.outside

-- the line of an endpoint of this flow that has this port
abbrev line_with : Flow → ℕ → PortLine
line_with flow port =
    record { outside = port; protocol = flow.protocol; address = flow.source; port = flow.source_port }

-- a key doesn't begin by two numbers
other_key : (a b : ℕ) (key xs ys : List ℕ) → key ≡ a ∷ xs → key ≡ b ∷ ys → a ≢ b → ⊥
other_key a b key xs ys one other differs = differs (cc)

-- the packet that goes on shows the port that it was given
shown : (packet : List ℕ) (flow : Flow) (address port : ℕ) → flow_found packet ≡ Some flow
    → source_port (flow_found (with_source packet address port)) ≡ port
shown packet flow address port found =
    let is = subst (λ (o : Option Flow). MatchOption o (¬ IsFlow packet) (λ f. IsFlow packet
    × (f ≡ flow_in packet))) found (flows_are_found packet) in
    ap source_port (flow_found-some (with_source packet address port) (IsFlow-with_end packet _ address port is.0))
    ∙ ap (λ (f : Flow). f.source_port) (flow_in-with_source packet address port is.0)

module _ (rule : NatRule) where
  -- the next port
  abbrev pub next_of : Content → ℕ
  next_of content = unwrap_or (number_in w32 (get content next_port_key)) rule.first

  -- all ports are below the next one, and no port stands at two keys
  pub record Holds (content : Content) : Type 0 where
    pub below : (key : List ℕ) (port : ℕ) → IsPortKey key → port_at content key ≡ Some port → port < next_of content
    pub apart : (key other : List ℕ) (port : ℕ) → IsPortKey key → IsPortKey other → port_at content key ≡ Some port
        → port_at content other ≡ Some port → key ≡ other

  -- the visit gave the line of this key and this value
  pub record ComesFrom (key value : List ℕ) (seen : Seen) : Type 0 where
    pub line : PortLine
    pub at : key ≡ outside_port_key line.protocol line.address line.port
    pub has : value ≡ to_be_bytes w16 line.outside
    pub few : line.outside ≤ rule.last
    pub told : port_line_of rule seen ≡ Some line

  module _ (packet : List ℕ) (content : Content) where
    abbrev outcome : Outcome
    outcome = taken (Nat rule) packet content

    abbrev seen : ℕ → Seen
    seen server = record { server = server; before = packet; outcome = outcome }

    -- nothing is written, and the store has the line that there is
    abbrev IsQuiet : Type 0
    IsQuiet = quiet.IsQuiet (Nat rule) (port_line_of rule) HasPort packet content

    -- the next port is drawn for an endpoint that has none
    record IsDrawn : Type 0 where
      pub flow : Flow
      pub none : port_at content (key_of flow) ≡ None
      pub within : next_of content ≤ rule.last
      pub writes : outcome.writes
          ≡ put (key_of flow) (to_be_bytes w16 (next_of content))
          ∷ put next_port_key (to_be_bytes w32 (next_of content + 1))
          ∷ put (inside_key flow.protocol (next_of content)) (endpoint flow.source flow.source_port)
          ∷ []
      pub drawn : (server : ℕ) (line : PortLine) → port_line_of rule (seen server) ≡ Some line
          → line_with flow (next_of content) ≡ line
      pub gave : (server : ℕ) → port_line_of rule (seen server) ≡ Some (line_with flow (next_of content))

    no_line : (server : ℕ) (line : PortLine) → flow_found packet ≡ None → port_line_of rule (seen server) ≡ Some line →
        ⊥
    no_line server line none told = let is : None ≡ Some line = rw none at told in cc

    dropped : (server : ℕ) (line : PortLine) (flow : Flow) → flow_found packet ≡ Some flow → outcome.packet ≡ None
        → port_line_of rule (seen server) ≡ Some line → ⊥
    dropped server line flow found is told = let same : None ≡ Some line = rw (found, is) at told in cc

    inside : (server : ℕ) (line : PortLine) (flow : Flow) → flow_found packet ≡ Some flow → leaves rule flow ≡ false
        → (after : Option (List ℕ)) → outcome.packet ≡ after → port_line_of rule (seen server) ≡ Some line → ⊥
    inside server line flow found stays None is told = dropped server line flow found is told
    inside server line flow found stays (Some after) is told = let same : None ≡ Some line = rw
        (found, is, stays) at told in cc

    line_was : (server : ℕ) (flow : Flow) (port : ℕ) → flow_found packet ≡ Some flow → leaves rule flow ≡ true
        → outcome.packet ≡ Some (with_source packet rule.outside port)
        → port_line_of rule (seen server) ≡ Some (line_with flow port)
    line_was server flow port found goes is =
        rw (found, is, goes) (rw (shown packet flow rule.outside port found) refl)

    line_is : (server : ℕ) (line : PortLine) (flow : Flow) (port : ℕ) → flow_found packet ≡ Some flow
        → leaves rule flow ≡ true
        → outcome.packet ≡ Some (with_source packet rule.outside port) → port_line_of rule (seen server) ≡ Some line
        → line_with flow port ≡ line
    line_is server line flow port found goes is told =
        let both : Some (line_with flow port) ≡ Some line = sym (line_was server flow port found goes is) ∙ told in cc

    asks : (flow : Flow) → flow_found packet ≡ Some flow → (answers : List Answer)
        → ask (Nat rule) packet answers ≡ nat_ask rule flow answers
    asks flow found answers = of_flow (Nat rule) packet (Some flow) answers found

    -- a packet of no flow goes on unread
    of_none : flow_found packet ≡ None → IsQuiet
    of_none found =
        quiet.unread (Nat rule) (port_line_of rule) HasPort packet content (Forward Keep) refl found
        (λ server line is. no_line server line found is)

    -- an endpoint goes on with the port that it has
    of_known : (flow : Flow) (port : ℕ) → flow_found packet ≡ Some flow → leaves rule flow ≡ true
        → port_at content (key_of flow) ≡ Some port → IsQuiet
    of_known flow port found goes has =
        quiet.read_once (Nat rule) (port_line_of rule) HasPort packet content flow (key_of flow)
        (Forward (Source rule.outside port)) found (rw goes refl) (rw (goes, has) refl)
        (λ server line is told. subst (HasPort content) (line_is server line flow port found goes is told) has)

    -- where all ports are drawn, the packet is dropped
    of_full : (flow : Flow) → flow_found packet ≡ Some flow → leaves rule flow ≡ true
        → port_at content (key_of flow) ≡ None
        → nat_lt rule.last (next_of content) ≡ true → IsQuiet
    of_full flow found goes none full =
        let end : End = record { writes = record { items = [] }; verdict = Filter } in
        let first = answer_at content (key_of flow) in
        let next = answer_at content next_port_key in
        let reads : nat_ask rule flow [] ≡ Read (key_of flow) true = rw goes refl in
        let more : nat_ask rule flow (first ∷ []) ≡ Read next_port_key true = rw (goes, none) refl in
        let ends : nat_ask rule flow (first ∷ next ∷ []) ≡ Finish end = rw (goes, none, full) refl in
        let told = ends_after_two (Nat rule) packet content (key_of flow) next_port_key true true end
        (asks flow found [] ∙ reads) (asks flow found (first ∷ []) ∙ more) (asks flow found (first ∷ next ∷ [])
        ∙ ends) in
        record {
          nothing = writes_told _ _ _ _ told;
          had = λ server line is. absurd (dropped server line flow found (packet_told _ _ _ _ told) is);
        }

    of_new : (flow : Flow) → flow_found packet ≡ Some flow → leaves rule flow ≡ true
        → port_at content (key_of flow) ≡ None
        → nat_lt rule.last (next_of content) ≡ false → IsDrawn
    of_new flow found goes none room =
        let port = next_of content in
        let end : End = record {
          writes = record {
            items =
                put (key_of flow) (to_be_bytes w16 port)
                ∷ put next_port_key (to_be_bytes w32 (port + 1))
                ∷ put (inside_key flow.protocol port) (endpoint flow.source flow.source_port)
                ∷ [];
          };
          verdict = Forward (Source rule.outside port);
        } in
        let first = answer_at content (key_of flow) in
        let next = answer_at content next_port_key in
        let reverse = answer_at content (inside_key flow.protocol port) in
        let reads : nat_ask rule flow [] ≡ Read (key_of flow) true = rw goes refl in
        let more : nat_ask rule flow (first ∷ []) ≡ Read next_port_key true = rw (goes, none) refl in
        let again : nat_ask rule flow (first ∷ next ∷ []) ≡ Read (inside_key flow.protocol port) true = rw
        (goes, none, room) refl in
        let ends : nat_ask rule flow (first ∷ next ∷ reverse ∷ []) ≡ Finish end = rw (goes, none, room) refl in
        let told = ends_after_three (Nat rule) packet content (key_of flow) next_port_key
        (inside_key flow.protocol port) true true true end
        (asks flow found [] ∙ reads) (asks flow found (first ∷ []) ∙ more) (asks flow found (first ∷ next ∷ []) ∙ again)
        (asks flow found (first ∷ next ∷ reverse ∷ []) ∙ ends) in
        record {
          flow = flow;
          none = none;
          within = grind (arith, nat_tests);
          writes = writes_told _ _ _ _ told;
          drawn = λ server line is. line_is server line flow port found goes (packet_told _ _ _ _ told) is;
          gave = λ server. line_was server flow port found goes (packet_told _ _ _ _ told);
        }

    -- the end that a value of an inside endpoint gives
    quiet_end : (value : Option (List ℕ)) → (verdict : Verdict) × (to_inside value ≡ Finish
        (record { writes = record { items = [] }; verdict = verdict }))
    quiet_end None = (Filter, refl)
    quiet_end (Some value) =
        elim (length value == 6) as (λ t. (verdict : Verdict) × ((if t then forward_changed [] (Destination
        (from_be_bytes w32 (take 4 value)) (from_be_bytes w16 (drop 4 value))) else filter_out) ≡ Finish
        (record { writes = record { items = [] }; verdict = verdict }))) [
          | true ↦ (Forward (Destination (from_be_bytes w32 (take 4 value)) (from_be_bytes w16 (drop 4 value))), refl)
          | false ↦ (Filter, refl)
        ]

    incoming_quiet : (flow : Flow) → flow_found packet ≡ Some flow → leaves rule flow ≡ false
        → (flow.destination == rule.outside) ≡ true → outcome.writes ≡ []
    incoming_quiet flow found stays here =
        let key = inside_key flow.protocol flow.destination_port in
        let first = answer_at content key in
        let quiet = quiet_end (get content key) in
        let end : End = record { writes = record { items = [] }; verdict = quiet.0 } in
        let reads : nat_ask rule flow [] ≡ Read key false = rw (stays, here) refl in
        let ends : nat_ask rule flow (first ∷ []) ≡ Finish end = rw (stays, here) quiet.1 in
        writes_told _ _ _ _ (ends_after_one (Nat rule) packet content key false end (asks flow found []
        ∙ reads) (asks flow found (first ∷ []) ∙ ends))

    -- what else goes through writes nothing
    of_inside : (flow : Flow) → flow_found packet ≡ Some flow → leaves rule flow ≡ false → IsQuiet
    of_inside flow found stays = record {
      nothing = elim (flow.destination == rule.outside) as (λ t. (flow.destination == rule.outside) ≡ t
          → outcome.writes ≡ []) [
            | true ↦ λ here. incoming_quiet flow found stays here
            | false ↦ λ other.
                let end : End = record { writes = record { items = [] }; verdict = Forward Keep } in
                let ends : nat_ask rule flow [] ≡ Finish end = rw (stays, other) refl in
                writes_told _ _ _ _ (ends_at_once (Nat rule) packet content end (asks flow found [] ∙ ends))
          ] refl;
      had = λ server line is. absurd (inside server line flow found stays outcome.packet refl is);
    }

    of_leaving : (flow : Flow) → flow_found packet ≡ Some flow → leaves rule flow ≡ true → IsQuiet ⊎ IsDrawn
    of_leaving flow found goes =
        elim (port_at content (key_of flow)) as (λ (o : Option ℕ). port_at content (key_of flow) ≡ o → IsQuiet
        ⊎ IsDrawn) [
          | Some port ↦ λ has. inl (of_known flow port found goes has)
          | None ↦ λ none. elim (nat_lt rule.last (next_of content)) as (λ t. nat_lt rule.last (next_of content) ≡ t
              → IsQuiet ⊎ IsDrawn) [
                | true ↦ λ full. inl (of_full flow found goes none full)
                | false ↦ λ room. inr (of_new flow found goes none room)
              ] refl
        ] refl

    -- each visit is quiet, or draws the next port
    visited : IsQuiet ⊎ IsDrawn
    visited =
        elim (flow_found packet) as (λ (o : Option Flow). flow_found packet ≡ o → IsQuiet ⊎ IsDrawn) [
          | None ↦ λ found. inl (of_none found)
          | Some flow ↦ λ found. elim (leaves rule flow) as (λ t. leaves rule flow ≡ t → IsQuiet ⊎ IsDrawn) [
            | true ↦ λ goes. of_leaving flow found goes
            | false ↦ λ stays. inl (of_inside flow found stays)
          ] refl
        ] refl

    -- ---- the store after a port was drawn

    module _ (few : rule.last ≤ 65535) (is : IsDrawn) where
      abbrev port : ℕ
      port = next_of content

      abbrev own : List ℕ
      own = key_of is.flow

      abbrev reverse : List ℕ
      reverse = inside_key is.flow.protocol port

      abbrev with_own : Content
      with_own = insert content own (to_be_bytes w16 port)

      abbrev with_next : Content
      with_next = insert with_own next_port_key (to_be_bytes w32 (port + 1))

      abbrev with_all : Content
      with_all = insert with_next reverse (endpoint is.flow.source is.flow.source_port)

      written_is : written outcome.writes content ≡ with_all
      written_is = ap (λ (writes : List Write). written writes content) is.writes

      own_value : get with_all own ≡ Some (to_be_bytes w16 port)
      own_value =
          off_put with_next reverse (endpoint is.flow.source is.flow.source_port) own (λ same. absurd (cc))
          ∙ (off_put with_own next_port_key (to_be_bytes w32 (port + 1)) own (λ same. absurd (cc))
          ∙ at_put content own (to_be_bytes w16 port))

      own_now : port_at with_all own ≡ Some port
      own_now =
          ap (number_in w16) own_value ∙ ap Some (from_be_bytes-to_be_bytes_2 port (omega (arith, few, is.within)))

      next_now : next_of with_all ≡ port + 1
      next_now =
          ap (λ (value : Option (List ℕ)). unwrap_or (number_in w32 value) rule.first)
          (off_put with_next reverse (endpoint is.flow.source is.flow.source_port) next_port_key (λ same. absurd (cc))
          ∙ at_put with_own next_port_key (to_be_bytes w32 (port + 1)))
          ∙ from_be_bytes-to_be_bytes_4 (port + 1) (omega (arith, few, is.within))

      other_value : (key : List ℕ) → IsPortKey key → key ≢ own → get with_all key ≡ get content key
      other_value key (rest, begins) differs =
          off_put with_next reverse (endpoint is.flow.source is.flow.source_port) key
          (λ same. other_key 102 114 key rest _ begins same (λ e. omega (arith, e)))
          ∙ (off_put with_own next_port_key (to_be_bytes w32 (port + 1)) key
          (λ same. other_key 102 110 key rest _ begins same (λ e. omega (arith, e)))
          ∙ off_put content own (to_be_bytes w16 port) key differs)

      -- the key is the endpoint's own, or has what it had
      own_or_same : (key : List ℕ) → IsPortKey key → (key ≡ own) ⊎ (get with_all key ≡ get content key)
      own_or_same key begins =
          elim (bytes_eq key own) as (λ t. bytes_eq key own ≡ t → (key ≡ own) ⊎ (get with_all key ≡ get content key)) [
            | true ↦ λ same. inl ((bytes_eq-Decides key own).0 same)
            | false ↦ λ other. inr (other_value key begins (λ same. let yes =
                (bytes_eq-Decides key own).1 same in absurd (cc)))
          ] refl

      own_or_other : (key : List ℕ) → IsPortKey key → (key ≡ own) ⊎ (port_at with_all key ≡ port_at content key)
      own_or_other key begins =
          elim (own_or_same key begins) [ inl same ↦ inl same | inr stays ↦ inr (ap (number_in w16) stays) ]

      own_is : (key value : List ℕ) → key ≡ own → get with_all key ≡ Some value → value ≡ to_be_bytes w16 port
      own_is key value same has =
          let here : Some value ≡ Some (to_be_bytes w16 port) = sym has ∙ (ap (get with_all) same ∙ own_value) in
          cc

      own_port : (key : List ℕ) (other : ℕ) → key ≡ own → port_at with_all key ≡ Some other → other ≡ port
      own_port key other same has =
          let here : Some other ≡ Some port = sym has ∙ (ap (port_at with_all) same ∙ own_now) in
          cc

      drawn_holds : Holds content → Holds with_all
      drawn_holds held = record {
        below = λ key other begins has. elim (own_or_other key begins) [
          | inl same ↦ let here = own_port key other same has in omega (arith, here, next_now)
          | inr stays ↦ let before = held.below key other begins (sym stays ∙ has) in omega (arith, before, next_now)
        ];
        apart = λ key another other begins also has too. elim (own_or_other key begins) [
          | inl same ↦ elim (own_or_other another also) [
            | inl equal ↦ same ∙ sym equal
            | inr stays ↦
                let here = own_port key other same has in
                let before = held.below another other also (sym stays ∙ too) in
                absurd (omega (arith, here, before))
          ]
          | inr stays ↦ elim (own_or_other another also) [
            | inl equal ↦
                let here = own_port another other equal too in
                let before = held.below key other begins (sym stays ∙ has) in
                absurd (omega (arith, here, before))
            | inr remains ↦ held.apart key another other begins also (sym stays ∙ has) (sym remains ∙ too)
          ]
        ];
      }

      drawn_has : (line : PortLine) → HasPort content line → HasPort with_all line
      drawn_has line has = elim (own_or_other (outside_port_key line.protocol line.address line.port) (_, refl)) [
        | inl same ↦ let none : Some line.outside ≡ None = sym has ∙ (ap (port_at content) same
            ∙ is.none) in absurd (cc)
        | inr stays ↦ stays ∙ has
      ]

  -- what a visit leaves of the store
  pub translating : rule.last ≤ 65535 → IsKept (Nat rule) (port_line_of rule) Holds HasPort
  translating few = record {
    holds = λ packet content held. elim (visited packet content) [
      | inl still ↦ quiet.quiet_stays _ _ _ _ _ Holds still held
      | inr drawn ↦ subst Holds (sym (written_is packet content few drawn)) (drawn_holds packet content few drawn held)
    ];
    has = λ packet content line held has. elim (visited packet content) [
      | inl still ↦ quiet.quiet_stays _ _ _ _ _ (λ c. HasPort c line) still has
      | inr drawn ↦ subst (λ (c : Content). HasPort c line) (sym (written_is packet content few drawn))
          (drawn_has packet content few drawn line has)
    ];
    gives = λ server packet content line held told. elim (visited packet content) [
      | inl still ↦ quiet.quiet_stays _ _ _ _ _ (λ c. HasPort c line) still (still.had server line told)
      | inr drawn ↦ subst (λ (c : Content). HasPort c line) (sym (written_is packet content few drawn))
          (subst (λ (l : PortLine). HasPort (with_all packet content few drawn) l) (drawn.drawn server line told)
          (own_now packet content few drawn))
    ];
  }

  -- what the store has at an endpoint's key after a visit stood there before, or the visit gave it
  pub comes : rule.last ≤ 65535 → (server : ℕ) (packet : List ℕ) (content : Content) (key value : List ℕ)
      → IsPortKey key → get (written (taken (Nat rule) packet content).writes content) key ≡ Some value
      → (get content key ≡ Some value) ⊎ ComesFrom key value (seen packet content server)
  comes few server packet content key value begins has = elim (visited packet content) [
    | inl quiet ↦ inl (subst (λ (writes : List Write). get (written writes content) key ≡ Some value) quiet.nothing has)
    | inr drawn ↦
        let all = with_all packet content few drawn in
        let now : get all key ≡ Some value = subst (λ (c : Content). get c key ≡ Some value)
        (written_is packet content few drawn) has in
        elim (own_or_same packet content few drawn key begins) [
          | inl same ↦ inr (record {
            line = line_with drawn.flow (next_of content);
            at = same;
            has = own_is packet content few drawn key value same now;
            few = drawn.within;
            told = drawn.gave server;
          })
          | inr stays ↦ inl (sym stays ∙ now)
        ]
  ]

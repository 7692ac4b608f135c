-- A visit that writes nothing leaves the store as it is, which has the line of the visit, if there is one.
use Rattle.std.proofs.Common.{◌≡◌, ◌∙◌, sym, subst, ℕ, true, List, [], ◌∷◌, Option, Some, None}
use Rattle.ftc_base.specs.declared.ask.Ask.TheVariants.{Read, Finish}
use Rattle.ftc_base.specs.declared.ask.Finish.{Finish as End}
use Rattle.ftc_base.specs.declared.ask.Verdict.{Verdict}
use Rattle.ftc_base.specs.declared.ask.Write.{Write}
use Rattle.ftc_packet.specs.declared.flow.Flow.{Flow}
use Rattle.ftc_packet.specs.Flow.{flow_found}
use Rattle.ftc_store.specs.Store.{Content, written}
use Rattle.ftc_mbox.specs.declared.rule.Rule.{Rule}
use Rattle.ftc_mbox.specs.Ask.{ask_of}
use Rattle.ftc_mbox.specs.Change.{packet_after}
use Rattle.ftc_serial.specs.Take.{answer_at, taken}
use Rattle.ftc_audit.specs.Visits.{Seen}
use Rattle.ftc_audit.proofs.Asked.{of_flow, ends_at_once, ends_after_one, writes_told, packet_told}

module _ (rule : Rule) {Line : Type 0} (line_of : Seen → Option Line) (Has : Content → Line → Type 0)
    (packet : List ℕ) (content : Content) where
  pub record IsQuiet : Type 0 where
    pub nothing : (taken rule packet content).writes ≡ []
    pub had : (server : ℕ) (line : Line)
        → line_of (record { server = server; before = packet; outcome = taken rule packet content }) ≡ Some line
        → Has content line

  pub quiet_stays : (P : Content → Type 0) → IsQuiet → P content
      → P (written (taken rule packet content).writes content)
  quiet_stays P quiet holds = subst (λ (writes : List Write). P (written writes content)) (sym quiet.nothing) holds

  -- a packet of no flow, for which nothing is read, and whose visit has no line
  pub unread : (verdict : Verdict)
      → ask_of rule None [] ≡ Finish (record { writes = record { items = [] }; verdict = verdict })
      → flow_found packet ≡ None → ((server : ℕ) (line : Line)
      → line_of (record { server = server; before = packet; outcome = taken rule packet content }) ≡ Some line → ⊥)
      → IsQuiet
  unread verdict ends found none =
      let end : End = record { writes = record { items = [] }; verdict = verdict } in
      record {
        nothing = writes_told _ _ _ _ (ends_at_once rule packet content end (of_flow rule packet None [] found ∙ ends));
        had = λ server line is. absurd (none server line is);
      }

  -- a packet for whose flow one key is read, and whose visit has a line that the store has
  pub read_once : (flow : Flow) (key : List ℕ) (verdict : Verdict) → flow_found packet ≡ Some flow
      → ask_of rule (Some flow) [] ≡ Read key true
      → ask_of rule (Some flow) (answer_at content key ∷ [])
      ≡ Finish (record { writes = record { items = [] }; verdict = verdict })
      → ((server : ℕ) (line : Line) → (taken rule packet content).packet ≡ packet_after packet verdict
      → line_of (record { server = server; before = packet; outcome = taken rule packet content }) ≡ Some line
      → Has content line) → IsQuiet
  read_once flow key verdict found reads ends had =
      let end : End = record { writes = record { items = [] }; verdict = verdict } in
      let asks = of_flow rule packet (Some flow) in
      let told = ends_after_one rule packet content key true end (asks [] found ∙ reads)
      (asks (answer_at content key ∷ []) found ∙ ends) in
      record {
        nothing = writes_told _ _ _ _ told;
        had = λ server line. had server line (packet_told _ _ _ _ told);
      }

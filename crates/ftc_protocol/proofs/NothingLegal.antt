-- Where nothing is left to do, no event is legal.
use Rattle.std.proofs.Common.{◌≡◌, ℕ, ◌<◌, true, false, [], sym, subst, ◌∙◌, inl, inr, arith, Some, None}
use Rattle.std.proofs.lemmas.Bool.{true≢false}
use Rattle.std.proofs.lemmas.Option.{none-some}
use Rattle.ftc_journal.specs.declared.event.Event.{Event}
use Rattle.ftc_journal.specs.declared.event.Event.TheVariants.{Apply, Carry, Crash, Enter, Lose, Pass, Propagate, Pull}
use Rattle.ftc_journal.specs.declared.event.Event.TheVariants.{Recover, Release, Take, Visit}
use Rattle.ftc_script.specs.declared.line.ScriptLine.{ScriptLine}
use Rattle.ftc_protocol.specs.Setting.{Setting, servers, count}
use Rattle.ftc_protocol.specs.State.{ChainState, Message}
use Rattle.ftc_protocol.specs.Legal.{MayHappen, IsNextLine}
use Rattle.ftc_protocol.specs.Run.{IsFinished}

module _ (c : Setting) (s : ChainState) (lines : s.lines ≡ []) (entered : s.entered
    ≡ count c) (messages : (origin : ℕ) → s.message origin ≡ None)
    (forwarder : (group packet : ℕ) → s.forwarder group packet ≡ false) (gaps : (link : ℕ) → link < servers c →
    s.gap link ≡ false)
    (withheld : (packet : ℕ) → s.withheld packet ≡ None) (inside : (server : ℕ) → s.up server ≡ true →
    server < servers c) where
  no_line : (line : ScriptLine) → IsNextLine s.lines line → ⊥
  no_line line is = subst (λ l. IsNextLine l line) lines is

  no_message : (origin : ℕ) (message : Message) → s.message origin ≡ Some message → ⊥
  no_message origin message there = none-some message (sym (messages origin) ∙ there)

  nothing_happens : (event : Event) → MayHappen c s event → ⊥
  nothing_happens (Enter p) legal = let e0 : p ≡ s.entered = legal.0 in let e1 : p < count c =
      legal.1 in absurd (omega arith)
  nothing_happens (Take k p) legal = no_message p legal.0 legal.1
  nothing_happens (Apply k p j q) legal = no_message p legal.0 legal.1.0
  nothing_happens (Visit k p w) legal = no_message p legal.0 legal.3
  nothing_happens (Pass k p) legal = no_message p legal.0 legal.1.there
  nothing_happens (Lose k p) legal = no_message p legal.0 legal.1.there
  nothing_happens (Carry p) legal = no_message p legal.0 legal.1
  nothing_happens (Crash k) legal = no_line _ legal
  nothing_happens (Recover k undone) legal = no_line _ legal.0
  nothing_happens (Pull k) legal = true≢false (sym legal.2 ∙ gaps k (inside k legal.0))
  nothing_happens (Propagate p) legal = elim legal.3 [
    | inl log ↦ true≢false (sym log.2 ∙ forwarder log.0 log.1)
    | inr stalled ↦ stalled.withheld (withheld stalled.packet)
  ]
  nothing_happens (Release p) legal = none-some legal.0 (sym (withheld p) ∙ legal.1.0)

  pub nothing_left : IsFinished c s
  nothing_left event legal = nothing_happens event legal.0

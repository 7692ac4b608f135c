-- A packet enters where no other is under way.
use Rattle.std.proofs.Common.{◌≡◌, ℕ, ◌<◌, if◌then◌else◌, false, refl, sym, ap, subst, ◌∙◌, arith, Some}
use Rattle.std.specs.List.{AllByRecursion}
use Rattle.std.proofs.lemmas.Bool.{true≢false}
use Rattle.std.proofs.lemmas.Option.{none-some}
use Rattle.ftc_journal.specs.declared.event.Event.TheVariants.{Enter}
use Rattle.ftc_script.specs.declared.line.ScriptLine.{ScriptLine}
use Rattle.ftc_script.specs.Steps.{at_of}
use Rattle.ftc_serial.proofs.Functions.{with_at_here, with_at_elsewhere}
use Rattle.ftc_protocol.specs.Setting.{Setting, count, packet_at}
use Rattle.ftc_protocol.specs.State.{ChainState, Message, Held}
use Rattle.ftc_protocol.specs.Legal.{MayHappen, IsLegal}
use Rattle.ftc_protocol.specs.Next.{next, fresh_message}
use Rattle.ftc_protocol.specs.Quiet.{IsQuiet}
use Rattle.ftc_protocol.proofs.Premises.{IsGood}
use Rattle.ftc_protocol.proofs.Complete.{keeps_reached}
use Rattle.ftc_protocol.proofs.FaultFree.{keeps_calm}
use Rattle.ftc_protocol.proofs.Lone.{IsIdle, IsAt, none_due}

module _ (c : Setting) (good : IsGood c) (quiet : IsQuiet c) (s : ChainState) (p : ℕ) (idle : IsIdle c p s)
    (below : p < count c) where
  open idle.plain use {reached, calm, entered, forwarder}

  may_enter : MayHappen c s (Enter p)
  may_enter = (
    sym entered,
    below,
    subst (λ lines. AllByRecursion (λ (line : ScriptLine). at_of line ≡ p → ⊥) lines) (sym calm.lines) tt,
  )

  pub enter_legal : IsLegal c s (Enter p)
  enter_legal = (may_enter, none_due c s idle.withheld false)

  fresh : Message
  fresh = fresh_message s.events (Some (packet_at c p))

  pub entered_at : IsAt c (next c s (Enter p)) p (Held 0 false false)
  unfolding fresh
  entered_at = record {
    plain = record {
      reached = keeps_reached c good s reached (Enter p) may_enter;
      calm = keeps_calm c good quiet s reached calm (Enter p) may_enter;
      entered = omega (arith, entered);
      forwarder = forwarder;
    };
    withheld = idle.withheld;
    others = λ origin other. with_at_elsewhere s.message p _ origin other ∙ idle.messages origin;
    message = fresh;
    there = with_at_here s.message p (if s.up 0 then Some fresh else s.message p) ∙ ap (λ b. if b then Some fresh
        else s.message p) (calm.up 0 good.some);
    placed = refl;
    told = λ group needed. absurd (true≢false (sym needed));
    gone = λ no_packet. absurd (none-some (packet_at c p) (sym no_packet));
  }

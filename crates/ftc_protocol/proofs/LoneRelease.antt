-- The only packet in the buffer is released.
use Rattle.std.proofs.Common.{◌≡◌, ℕ, suc, ◌≤◌, refl, sym, ap, ◌∙◌, arith, inl, inr, None}
use Rattle.std.proofs.lemmas.Bool.{true≢false, cases_eq}
use Rattle.std.proofs.lemmas.Option.{none-some, same_Some}
use Rattle.ftc_journal.specs.declared.event.Event.TheVariants.{Release}
use Rattle.ftc_serial.proofs.Functions.{with_at_cases}
use Rattle.ftc_protocol.specs.Setting.{Setting}
use Rattle.ftc_protocol.specs.State.{ChainState, Withheld}
use Rattle.ftc_protocol.specs.Known.{IsDue}
use Rattle.ftc_protocol.specs.Legal.{MayHappen, IsLegal}
use Rattle.ftc_protocol.specs.Next.{next}
use Rattle.ftc_protocol.specs.Quiet.{IsQuiet}
use Rattle.ftc_protocol.proofs.Premises.{IsGood}
use Rattle.ftc_protocol.proofs.Complete.{keeps_reached}
use Rattle.ftc_protocol.proofs.FaultFree.{keeps_calm}
use Rattle.ftc_protocol.proofs.Lone.{IsPlain, IsIdle, IsBuffered}

module _ (c : Setting) (good : IsGood c) (quiet : IsQuiet c) (s : ChainState) (p : ℕ) (plain : IsPlain c s (suc p))
    (messages : (origin : ℕ) → s.message origin ≡ None) (buffered : IsBuffered c s p) where
  open plain use {reached, calm}

  oldest : (other : ℕ) (withheld : Withheld) → IsDue c s other withheld → buffered.withheld.since ≤ withheld.since
  oldest other withheld due = elim (cases_eq other p) [
    | inl same ↦
        let equal : buffered.withheld.since ≡ withheld.since =
        ap (λ (w : Withheld). w.since)
        (same_Some buffered.withheld withheld (sym buffered.there ∙ (ap s.withheld (sym same) ∙ due.0))) in
        omega arith
    | inr ne ↦ absurd (none-some withheld (sym (buffered.others other ne) ∙ due.0))
  ]

  may_release : MayHappen c s (Release p)
  may_release = (buffered.withheld, (buffered.there, buffered.due), oldest)

  pub release_legal : IsLegal c s (Release p)
  release_legal = (may_release, λ is. absurd (true≢false is))

  pub released_then : IsIdle c (suc p) (next c s (Release p))
  released_then = record {
    plain = record {
      reached = keeps_reached c good s reached (Release p) may_release;
      calm = keeps_calm c good quiet s reached calm (Release p) may_release;
      entered = plain.entered;
      forwarder = plain.forwarder;
    };
    messages = messages;
    withheld = λ packet. with_at_cases (λ v. v ≡ None) s.withheld p None packet (λ same. refl)
        (λ other. buffered.others packet other);
  }

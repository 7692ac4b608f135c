-- The example is a run: each of its events is legal in its turn.
use Rattle.std.proofs.Common.{◌≡◌, ℕ, ◌<◌, false, [], ◌∷◌, inl, inr, refl, sym, subst, arith}
use Rattle.std.proofs.lemmas.Bool.{true≢false, cases_eq}
use Rattle.ftc_ring.specs.Live.{HasLive, IsLive}
use Rattle.ftc_script.specs.Steps.{all_live, with_at, live_after_all}
use Rattle.ftc_protocol.specs.Setting.{Setting, shape, IsSetting}
use Rattle.std.proofs.lemmas.Option.{none-some}
use Rattle.ftc_journal.specs.declared.event.Event.TheVariants.{Enter, Visit, Crash}
use Rattle.ftc_mbox.specs.Ask.{ask}
use Rattle.ftc_mbox.specs.declared.rule.Rule.{Rule}
use Rattle.ftc_mbox.specs.declared.rule.Rule.TheVariants.{Monitor}
use Rattle.ftc_script.specs.declared.line.ScriptLine.TheVariants as line
use Rattle.ftc_packet.specs.Flow.{flow_found, flow_in, is_flow}
use Rattle.ftc_packet.specs.Layout.{word_at, transport_start}
use Rattle.ftc_serial.specs.Take.{asked, asked_from}
use Rattle.ftc_protocol.specs.Changes.{changes}
use Rattle.ftc_protocol.specs.State.{ChainState, opening}
use Rattle.ftc_protocol.specs.Recovery.{undone_visits}
use Rattle.ftc_protocol.specs.Next.{next}
use Rattle.ftc_protocol.specs.Run.{IsRun, state_after}
use Rattle.ftc_protocol.specs.Example.{two_monitors, undoing, datagram}

abbrev s1 : ChainState
s1 = next two_monitors (opening two_monitors) (Enter 0)

abbrev s2 : ChainState
s2 = next two_monitors s1 (Visit 0 0 63)

abbrev s3 : ChainState
s3 = next two_monitors s2 (Crash 0)

undone_here : record { server = 0; packet = 0 } ∷ [] ≡ undone_visits two_monitors s3 0
unfolding asked asked_from ask flow_found flow_in is_flow word_at transport_start changes
undone_here = refl

-- an event is legal, and so are those behind it
pub and_then : {A B : Type 0} → A → B → A × B
and_then here behind = (here, behind)

pub a_run : IsRun two_monitors undoing
unfolding asked asked_from ask flow_found flow_in is_flow word_at transport_start changes
a_run =
    and_then ((refl, omega arith, ((λ e. omega arith), ((λ e. omega arith), tt))), λ _ p w due. none-some w due.0)
    (and_then (
      (_, datagram, false, refl, refl, refl, λ j q is. absurd (true≢false (sym is))),
      λ _ p w due. none-some w due.0,
    )
    (and_then (refl, λ _ p w due. none-some w due.0)
    (and_then ((refl, undone_here), λ _ p w due. none-some w due.0)
    (and_then ((refl, refl, refl), λ _ p w due. none-some w due.0)
    (and_then ((refl, refl, refl), λ _ p w due. none-some w due.0) tt)))))

-- nothing is left of the visit
pub nothing_left : (state_after two_monitors (opening two_monitors) undoing).trace ≡ []
unfolding asked asked_from ask flow_found flow_in is_flow word_at transport_start changes
nothing_left = refl

pub only_two : (P : ℕ → Type 0) → P 0 → P 1 → (k : ℕ) → k < 2 → P k
only_two P first second k below = elim (cases_eq k 0) [
  | inl zero_ ↦ subst P (sym zero_) first
  | inr other ↦ let one_ : k ≡ 1 = omega arith in subst P (sym one_) second
]

-- of two servers, the first a monitor, the first crashes behind the only packet
abbrev pub crashing : Rule → Setting
crashing rule = record {
  rules = Monitor 1 ∷ rule ∷ [];
  failures = 1;
  partitions = 1;
  packets = datagram ∷ [];
  loses = λ link origin. false;
  lines = line.Crash 1 0 ∷ line.Recover 1 0 ∷ [];
}

pub crashing_setting : (rule : Rule) → IsSetting (crashing rule)
crashing_setting rule = record {
  ring = record { some = omega arith; servers = omega arith; failures = omega arith };
  some_partition = omega arith;
  few_partitions = omega arith;
  lines = (
    (
      record { within = omega arith; ordered = omega arith; entered = omega arith },
      record {
        up = refl;
        admissible = record {
          each = only_two (HasLive (shape (crashing rule)) (with_at all_live 0 false))
              (record { server = 1; within = omega arith; member = omega arith; up = refl })
              (record { server = 1; within = omega arith; member = omega arith; up = refl });
        };
      },
    ),
    ((record { within = omega arith; ordered = omega arith; entered = omega arith }, refl), tt),
  );
  ends = only_two (IsLive (live_after_all all_live (crashing rule).lines)) refl refl;
  loses = λ link origin lost. absurd (true≢false (sym lost));
}

-- and it is what a run may be given
pub a_setting : IsSetting two_monitors
a_setting = crashing_setting (Monitor 1)

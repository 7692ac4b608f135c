-- The fates of packets that are driven through a chain without replicas.
use Rattle.std.proofs.Common.{◌≡◌, ℕ, List, ap, ◌∙◌}
use Rattle.std.proofs.lemmas.Option.{same_Some}
use Rattle.ftc_journal.specs.declared.event.Event.{Event}
use Rattle.ftc_serial.specs.Serial.{State}
use Rattle.ftc_serial.specs.Drive.{IsDriven}
use Rattle.ftc_protocol.specs.declared.fate.Fate.TheVariants as became
use Rattle.ftc_protocol.specs.Setting.{Setting, IsSetting}
use Rattle.ftc_protocol.specs.State.{ChainState, opening}
use Rattle.ftc_protocol.specs.Run.{state_after}
use Rattle.ftc_protocol.specs.Quiet.{IsQuiet}
use Rattle.ftc_protocol.proofs.Places.{Filtered, Released, serial_of}
use Rattle.ftc_protocol.proofs.Complete.{fates_of_run}
use Rattle.ftc_protocol.proofs.PlacedFates.{released_given, filtered_dropped}
use Rattle.ftc_protocol.proofs.PlainRun.{journal_leads, plain_runs}

module _ (c : Setting) (is : IsSetting c) (quiet : IsQuiet c) (alone : c.failures ≡ 0) (journal : List Event)
    (end : State) (driven : IsDriven c.rules c.packets journal end) where
  -- the serial run of the machine's trace ends there
  ends_there : serial_of c (state_after c (opening c) journal).trace ≡ end
  ends_there = let all = journal_leads c is quiet alone journal end driven in same_Some _ end all.ahead

  pub plain_released : (packet : ℕ) → end.place packet ≡ Released →
      (state_after c (opening c) journal).fate packet ≡ became.Released
  plain_released packet released =
      let s : ChainState = state_after c (opening c) journal in
      let fates = fates_of_run c is journal (plain_runs c is quiet alone journal end driven) in
      (fates.released packet).1
      (released_given c s.trace packet (ap (λ (t : State). t.place packet) ends_there ∙ released))

  pub plain_filtered : (packet server : ℕ) → end.place packet ≡ Filtered server →
      (state_after c (opening c) journal).fate packet ≡ became.Filtered server
  plain_filtered packet server filtered =
      let s : ChainState = state_after c (opening c) journal in
      let fates = fates_of_run c is journal (plain_runs c is quiet alone journal end driven) in
      (fates.filtered server packet).1
      (filtered_dropped c s.trace server packet (ap (λ (t : State). t.place packet) ends_there ∙ filtered))

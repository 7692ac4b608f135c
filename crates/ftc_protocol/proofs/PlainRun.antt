-- The packets of a chain without replicas, driven through one after another, are a finished run.
use Rattle.std.proofs.Common.{◌≡◌, List, [], ◌++◌, refl, sym, ap, subst, ◌∙◌, append-nil}
use Rattle.ftc_journal.specs.declared.event.Event.{Event}
use Rattle.ftc_serial.specs.declared.step.Step.{Step}
use Rattle.ftc_serial.specs.Serial.{State}
use Rattle.ftc_serial.specs.Trace.{trace_of}
use Rattle.ftc_serial.specs.Drive.{filtered_at, packet_events, drive, IsDriven}
use Rattle.ftc_protocol.specs.Setting.{Setting, servers, count, IsSetting}
use Rattle.ftc_protocol.specs.State.{opening}
use Rattle.ftc_protocol.specs.Run.{IsRun, IsFinished, state_after}
use Rattle.ftc_protocol.specs.Quiet.{IsQuiet}
use Rattle.ftc_protocol.proofs.AcceptedSettings.{is_good}
use Rattle.ftc_protocol.proofs.Complete.{opens_reached}
use Rattle.ftc_protocol.proofs.FaultFree.{opens_calm}
use Rattle.ftc_protocol.proofs.NothingLegal.{nothing_left}
use Rattle.ftc_protocol.proofs.Driven.{steps_with, IsAhead, Leads, each_drives}
use Rattle.ftc_protocol.specs.Drive.{IsFinish}
use Rattle.ftc_protocol.proofs.LoneFirst.{next_finish}
use Rattle.ftc_protocol.proofs.DriveTrace.{drive_trace}
use Rattle.ftc_protocol.proofs.Lone.{IsIdle}
use Rattle.ftc_protocol.proofs.PlainCourse.{drives_packet}

opens_idle : (c : Setting) → IsSetting c → IsQuiet c → IsIdle c 0 (opening c)
opens_idle c is quiet = record {
  plain = record {
    reached = opens_reached c is;
    calm = opens_calm c quiet;
    entered = refl;
    forwarder = λ group packet. refl;
  };
  messages = λ origin. refl;
  withheld = λ packet. refl;
}

module _ (c : Setting) (is : IsSetting c) (quiet : IsQuiet c) (alone : c.failures ≡ 0) (journal : List Event)
    (end : State) (driven : IsDriven c.rules c.packets journal end) where
  -- the steps of the drive are a serial run from the opening state
  all_ahead : IsAhead c end (opening c) (steps_with (drive (servers c) (count c) end.place) ++ [])
  all_ahead =
      let events = drive (servers c) (count c) end.place in
      let steps : trace_of journal ≡ steps_with events ++ [] =
      ap trace_of driven.events ∙
      (drive_trace (servers c) (count c) end.place ∙ sym (append-nil (steps_with events))) in
      subst (λ (steps : List Step). IsAhead c end (opening c) steps) steps driven.run

  leads : Leads c end (opening c) (drive (servers c) (count c) end.place) (IsIdle c (count c)) []
  leads = each_drives c end (IsIdle c) (λ p. packet_events (servers c) p (filtered_at (end.place p))) (count c)
      (λ p less. drives_packet c (is_good c is) quiet alone end p less) (opening c) (opens_idle c is quiet) [] all_ahead

  pub journal_leads : Leads c end (opening c) journal (IsIdle c (count c)) []
  journal_leads = subst (λ (events : List Event). Leads c end (opening c) events (IsIdle c (count c)) [])
      (sym driven.events) leads

  pub plain_runs : IsRun c journal
  plain_runs = let all = journal_leads in all.legal

  pub plain_finishes : IsFinished c (state_after c (opening c) journal)
  plain_finishes =
      let all = journal_leads in
      let idle = all.comes in
      nothing_left c (state_after c
      (opening c) journal) idle.plain.calm.lines idle.plain.entered idle.messages idle.plain.forwarder
      (λ link less. idle.plain.calm.gap link) idle.withheld
      (λ server up. idle.plain.reached.live.inv.world.inside server up)

  -- it is the finish of the opening state
  pub plain_drives : IsFinish c [] journal
  plain_drives = record {
    rest = journal;
    parts = refl;
    finish = next_finish c journal (opening c) (let all = journal_leads in all.first) plain_finishes;
  }

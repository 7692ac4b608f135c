use Rattle.std.proofs.Common.{◌∙◌, sym}
use Rattle.ftc_serial.specs.Packets.{bytes_of_packets}
use Rattle.ftc_machine.proofs.RunInputs.{bytes_count}
use Rattle.ftc_protocol.specs.Setting.{Setting, IsSetting, setting_of}
use Rattle.ftc_check.specs.Verdict.{IsVerdict}
use Rattle.ftc_check.specs.declared.verdict.Checked.TheVariants.{Yes}
use Rattle.ftc.proofs.Moments.{sound_throughout}
use Rattle.ftc.proofs.Refusing.{judges_refused}
use Rattle.ftc.proofs.judge.judge.Goals as goal

pub returns-in-Err-clause-judges : goal.returns-in-Err-clause-judges
returns-in-Err-clause-judges g c = λ t. judges_refused _ _ _ c.in-Err.status (c.in-Err.ensures.refused t)

pub returns-in-Ok-Yes-clause-judges : goal.returns-in-Ok-Yes-clause-judges
returns-in-Ok-Yes-clause-judges g c = λ tells.
    let files = c.in-Ok.files in
    let packets = bytes_of_packets files.capture.packets in
    let setting : Setting = setting_of files.spec packets files.script in
    let is : IsSetting setting =
    c.accepted.ensures.setting files.spec packets files.script c.rules.ensures.bounds c.in-Ok.ensures.right
    c.in-Ok.ensures.ring (c.in-Ok.ensures.packets ∙ sym (bytes_count files.capture.packets)) in
    let told : IsVerdict setting files.capture c.as_slice-out.result.now files.journal.items
    c.as_slice-report.result.now c.in-Ok-Yes.field-0 = c.in-Ok-Yes.ensures in
    let yes : IsVerdict setting files.capture c.as_slice-out.result.now files.journal.items c.as_slice-report.result.now
    Yes = rw c.in-Ok-Yes.field-0-is at told in
    let verdict : IsVerdict setting files.capture files.out files.journal.items files.report Yes =
    rw (← c.as_slice-out.ensures, ← c.as_slice-report.ensures) yes in
    record {
      judged = record {
        chain = files.spec;
        capture = files.capture;
        script = files.script;
        out = files.out;
        journal = files.journal.items;
        report = files.report;
        checked = c.in-Ok.ensures.accepted tells;
        verdict_right = verdict;
      };
      sound = sound_throughout c.run_laws.ensures.moments setting is files.journal.items verdict.whole.run;
      visited = c.run_laws.ensures.visited setting is files.capture files.out files.journal.items files.report
          verdict;
      settled = λ packet below. c.run_laws.ensures.settled setting is files.capture files.out files.journal.items
          files.report verdict packet (rw (bytes_count files.capture.packets) below);
      causes = λ packet number below. c.run_laws.ensures.lost setting files.journal.items packet number;
    }

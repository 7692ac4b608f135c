use Rattle.std.proofs.Common.{◌≡◌, ℕ, true, Some, subst}
use Rattle.std.specs.List.{list_all}
use Rattle.ftc_words.specs.declared.command.Command.{Command}
use Rattle.ftc_words.specs.Given.{is_name}
use Rattle.ftc_words.specs.Command.{are_distinct, files_of, named_by, IsWithin}
use Rattle.ftc_words.specs.Shown.{named_of, shown_mode, shown}
use Rattle.ftc.specs.Porting.{port_names, PortsEnd}
use Rattle.ftc.specs.Ended.{HasTexts, HasFiles, HasRightRun, WasLeft}
use Rattle.ftc.proofs.Agreeing.{agrees, completes, judges_all}
use Rattle.ftc.proofs.DistinctLemmas.{run_differs}
use Rattle.ftc.proofs.MakeLemmas.{made_apart, make_completes}
use Rattle.ftc.proofs.PortLemmas.{ports_complete, some_is}
use Rattle.ftc.proofs.WatchLemmas.{no_output, watch_completes}
use Rattle.ftc.proofs.top.run_command.Goals as goal

pub run_names-requires : goal.run_names-requires
run_names-requires g c = (
  c.type_bounds.sync-R,
  (
    c.type_bounds.sync-G,
    (
      run_differs (named_of c.in-Run.names) (shown_mode c.in-Run.mode)
          (subst (λ (command : Command). are_distinct (files_of (shown command))
          ≡ true) c.in-Run.is c.requires.distinct),
      subst (λ (command : Command). IsWithin (shown command)) c.in-Run.is c.requires.within,
    ),
  ),
)

pub returns-in-Run-clause-complete : goal.returns-in-Run-clause-complete
returns-in-Run-clause-complete g c = λ tells texts still.
    let (chain, capture, script, schedule, are) =
    subst (λ (command : Command). HasTexts (Some (shown command))
    (g.D.Desk.file c.args.desk.now)) c.in-Run.is texts in
    completes c.text_laws.ensures _ _ _ chain capture script schedule are _ _ _ _ c.run_names.result
    (c.run_names.ensures.ends tells) (λ failed. still (c.run_names.ensures.served.rose failed))

pub returns-in-Check-clause-complete_check : goal.returns-in-Check-clause-complete_check
returns-in-Check-clause-complete_check g c = λ tells files still.
    let are = subst (λ (command : Command). HasFiles (Some (shown command))
    (g.D.Desk.file c.args.desk.now)) c.in-Check.is files in
    judges_all c.text_laws.ensures _ (g.D.Desk.file c.args.desk.now) are.chain are.capture are.script are.out
    are.journal are.report are.checked _ c.judge.result (c.judge.ensures.judges tells)
    (λ failed. still (c.judge.ensures.served.rose failed))

pub returns-in-Check-clause-exact : goal.returns-in-Check-clause-exact
returns-in-Check-clause-exact g c = λ tells files.
    let right = subst (λ (command : Command). HasRightRun (Some (shown command))
    (g.D.Desk.file c.args.desk.now)) c.in-Check.is files in
    agrees c.text_laws.ensures _ (g.D.Desk.file c.args.desk.now) right _ c.judge.result (c.judge.ensures.judges tells)

pub returns-in-Check-clause-agrees : goal.returns-in-Check-clause-agrees
returns-in-Check-clause-agrees g c = λ tells files.
    let left = subst (λ (command : Command). WasLeft (Some (shown command))
    (g.D.Desk.file c.args.desk.now)) c.in-Check.is files in
    agrees c.text_laws.ensures _ (g.D.Desk.file c.args.desk.now) left.3.right _ c.judge.result
    (c.judge.ensures.judges tells)

pub watch_beats-requires : goal.watch_beats-requires
watch_beats-requires g c = record {
  apart = no_output c.in-Watch.chain.now c.in-Watch.capture.now c.in-Watch.beats.now c.in-Watch.script.now
      (subst (λ (command : Command). list_all is_name (named_by (shown command))
      ≡ true) c.in-Watch.is c.requires.named);
  limit = (subst (λ (command : Command). IsWithin (shown command)) c.in-Watch.is c.requires.within).0;
}

pub returns-in-Watch-clause-complete : goal.returns-in-Watch-clause-complete
returns-in-Watch-clause-complete g c = λ tells texts still.
    let (beats, given) = subst
    (λ (command : Command). HasTexts (Some (shown command)) (g.D.Desk.file c.args.desk.now)) c.in-Watch.is texts in
    watch_completes c.text_laws.ensures _ (g.D.Desk.file c.args.desk.now) beats given _ _ _ c.watch_beats.result
    (c.watch_beats.ensures.ends tells) (λ failed. still (c.watch_beats.ensures.served.rose failed))

pub returns-in-Ports-clause-complete : goal.returns-in-Ports-clause-complete
returns-in-Ports-clause-complete g c = λ tells texts still.
    let (lines, given) = subst
    (λ (command : Command). HasTexts (Some (shown command)) (g.D.Desk.file c.args.desk.now)) c.in-Ports.is texts in
    let names = port_names c.in-Ports.chain.now c.in-Ports.capture.now c.in-Ports.journal.now in
    let same : c.unwrap.result ≡ c.in-Ports.server =
    some_is c.new.result c.unwrap.result c.in-Ports.server c.unwrap.ensures c.new.ensures.same in
    let ends = subst (λ (server : ℕ). PortsEnd (g.D.Desk.sound c.args.desk.now) names server
    (g.D.Desk.file c.args.desk.now)
    (g.D.Desk.file c.tell_ports.new.desk) c.tell_ports.result) same (c.tell_ports.ensures.ends tells) in
    ports_complete c.text_laws.ensures names c.in-Ports.server (g.D.Desk.file c.args.desk.now) lines given _ _
    c.tell_ports.result ends (λ failed. still (c.tell_ports.ensures.served.rose failed))

pub make_capture-requires : goal.make_capture-requires
make_capture-requires g c =
    let within = subst (λ (command : Command). IsWithin (shown command)) c.in-Make.is c.requires.within in
    record {
      few = within.1;
      apart = made_apart c.in-Make.capture.now
          (subst (λ (command : Command). list_all is_name (named_by (shown command))
          ≡ true) c.in-Make.is c.requires.named);
    }

pub returns-in-Make-clause-complete : goal.returns-in-Make-clause-complete
returns-in-Make-clause-complete g c = λ tells texts still.
    make_completes _ _ _ _ _ _ c.make_capture.result (c.make_capture.ensures.ends tells)
    (λ failed. still (c.make_capture.ensures.served.rose failed))

pub returns-in-Run-clause-ends : goal.returns-in-Run-clause-ends
returns-in-Run-clause-ends g c = λ t. rw c.in-Run.is (c.run_names.ensures.ends t)

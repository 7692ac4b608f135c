-- What the steps of a run leave is what it leaves at its end.
use Rattle.std.proofs.Common.{◌≡◌, ◌≢◌, ◌∙◌, sym, refl, ℕ, Bool, true, false, if◌then◌else◌, List, Option, Some, inl}
use Rattle.std.proofs.Common.{inr, ◌⊎◌, subst}
use Rattle.std.specs.Str.{bytes_eq}
use Rattle.std.specs.List.{AllByRecursion}
use Rattle.std.proofs.Math.Logic.{∥∥₁_map}
use Rattle.std.proofs.lemmas.Slice.Eq.{bytes_eq-Decides}
use Rattle.ftc_base.specs.declared.released.Released.{Released}
use Rattle.ftc_outside.specs.Desk.{Files, SameFiles}
use Rattle.ftc_outside.specs.Tap.{Face, HasNoFeed}
use Rattle.ftc_outside.specs.declared.desk.DeskError.{DeskError}
use Rattle.ftc_outside.specs.declared.desk.DeskError.TheVariants as desk
use Rattle.ftc_pcap.specs.declared.capture.Capture.{Capture}
use Rattle.ftc_journal.specs.declared.event.Event.{Event}
use Rattle.ftc_journal.specs.Text.{spelling}
use Rattle.ftc_mbox.specs.Chain.{Chain}
use Rattle.ftc_script.specs.Script.{ScriptShape}
use Rattle.ftc_serial.specs.Serial.{State, serial_run, serial_opening}
use Rattle.ftc_serial.specs.Trace.{trace_of}
use Rattle.ftc_serial.specs.Packets.{bytes_of_packets}
use Rattle.ftc_machine.proofs.RunInputs.{bytes_count}
use Rattle.ftc_protocol.specs.Moment.{released_in}
use Rattle.ftc_protocol.specs.Run.{IsRun, state_after}
use Rattle.ftc_protocol.specs.Setting.{Setting, IsSetting, setting_of}
use Rattle.ftc_protocol.specs.State.{opening}
use Rattle.ftc_report.specs.Output.{out_bytes}
use Rattle.ftc_check.specs.Verdict.{IsVerdict}
use Rattle.ftc_check.specs.declared.verdict.Checked.TheVariants.{Yes}
use Rattle.ftc_words.specs.Command.{Named, Mode, plain, workers, alone}
use Rattle.ftc.specs.Status.{desk_status}
use Rattle.ftc.specs.Writing.{IsUnwritten, AreDifferent, AreWritten, AreCutShort}
use Rattle.ftc.specs.Texts.{AreTexts}
use Rattle.ftc.specs.Driven.{IsFinishedRun, HasWritten, HasBegun}
use Rattle.ftc.proofs.Moments.{sound_throughout}
use Rattle.ftc.proofs.Refusing.{setup_stays, script_stays}
use Rattle.ftc.specs.Checking.{IsRightRun}
use Rattle.ftc.specs.Laws.{RunLaws}
use Rattle.ftc.specs.Done.{IsDone, IsDoneBeside, IsChosen, WereTold, IsOutOpen, IsCut, IsCutShort, Ends, lines_of}
use Rattle.ftc.specs.Done.{report_bytes}

-- ---- the files with one more

abbrev put : List ℕ → List ℕ → Files → Files
put at bytes files name = if bytes_eq name at then Some bytes else files name

put_at : (at bytes : List ℕ) (files : Files) → put at bytes files at ≡ Some bytes
put_at at bytes files = rw ((bytes_eq-Decides at at).1 refl) refl

otherwise : {X : Type 0} (same : Bool) (one other : X) → (same ≡ true → ⊥) → (if same then one else other) ≡ other
otherwise true one other not = absurd (not refl)
otherwise false one other not = refl

put_other : (at bytes : List ℕ) (files : Files) (name : List ℕ) → name ≢ at → put at bytes files name ≡ files name
put_other at bytes files name not =
    otherwise (bytes_eq name at) (Some bytes) (files name) (λ same. not ((bytes_eq-Decides name at).0 same))

module _ (laws : RunLaws) (names : Named) (mode : Mode) (old : Files) (apart : AreDifferent names) (chain : Chain)
    (capture : Capture) (script : ScriptShape) (schedule journal : List Event) (end : State)
    (texts : AreTexts names mode old chain capture script schedule)
    (run : IsFinishedRun (setting_of chain (bytes_of_packets capture.packets) script) journal end)
    (chosen : IsChosen mode chain capture script schedule journal) (lines : List (List ℕ))
    (plain : AllByRecursion HasNoFeed lines) where
  abbrev setting : Setting
  setting = setting_of chain (bytes_of_packets capture.packets) script

  abbrev out : List ℕ
  out = out_bytes capture end.released

  abbrev report : List ℕ
  report = report_bytes chain capture script journal lines

  verdict : IsVerdict setting capture out journal report Yes
  verdict = laws.right setting capture journal end lines plain run.whole

  module _ (new : Files) (written : AreWritten names out (spelling journal) report old new) where
    -- a file that a run only read is as it was
    still : (name : List ℕ) → IsUnwritten names name → new name ≡ old name
    still name not = written.others name (not.out, (not.journal, (not.report, tt)))

    right : IsRightRun names new
    right = record {
      judged = record {
        chain = chain;
        capture = capture;
        script = script;
        out = out;
        journal = journal;
        report = report;
        checked = record {
          inputs = record {
            setup = setup_stays _ _ old new chain capture (still names.chain apart.chain)
                (still names.capture apart.capture) texts.inputs.setup;
            script_right = script_stays _ old new chain _ script (still names.script apart.script)
                texts.inputs.script_right;
          };
          out_file = written.out_file;
          journal_right = record {
            text = spelling journal;
            file = written.journal_file;
            right = laws.printed journal run.numbers;
          };
          report_file = written.report_file;
        };
        verdict_right = verdict;
      };
      sound = sound_throughout laws.moments setting run.right journal run.whole.run;
      visited = laws.visited setting run.right capture out journal report verdict;
      settled = λ packet below. laws.settled setting run.right capture out journal report verdict packet
          (rw (bytes_count capture.packets) below);
      causes = λ packet number below. laws.lost setting journal packet number;
    }

    done : IsDone names mode lines old new
    unfolding right
    done = record {
      right = right;
      schedule = schedule;
      schedule_right = texts.schedule_right;
      chosen = chosen;
      journal_file = written.journal_file;
      report_file = written.report_file;
      others = written.others;
    }

  -- all was written
  pub ended_done : (mid new : Files) → SameFiles old mid → AreWritten names out (spelling journal) report mid new →
      IsDone names mode lines old new
  ended_done mid new same written = done new (record {
    out_file = written.out_file;
    journal_file = written.journal_file;
    report_file = written.report_file;
    others = λ name other. written.others name other ∙ same name;
  })

  -- all that would have been written
  abbrev all : Files
  all = put names.report report (put names.journal (spelling journal) (put names.out out old))

  all_out : all names.out ≡ Some out
  all_out = put_other names.report report
      (put names.journal (spelling journal) (put names.out out old)) names.out apart.written.out_report ∙
      (put_other names.journal (spelling journal)
      (put names.out out old) names.out apart.written.out_journal ∙ put_at names.out out old)

  all_journal : all names.journal ≡ Some (spelling journal)
  all_journal = put_other names.report report
      (put names.journal (spelling journal)
      (put names.out out old)) names.journal apart.written.journal_report ∙ put_at names.journal (spelling journal)
      (put names.out out old)

  all_written : AreWritten names out (spelling journal) report old all
  all_written = record {
    out_file = all_out;
    journal_file = all_journal;
    report_file = put_at names.report report (put names.journal (spelling journal) (put names.out out old));
    others = λ name other. put_other names.report report
        (put names.journal (spelling journal) (put names.out out old)) name other.1.1.0 ∙
        (put_other names.journal (spelling journal)
        (put names.out out old) name other.1.0 ∙ put_other names.out out old name other.0);
  }

  cut_short : (left : List Face) (new : Files) → AreCutShort names out (spelling journal) report old new →
      (new names.report ≡ old names.report) ⊎ (lines ≡ lines_of left) → IsCutShort names mode left old new
  cut_short left new cut of_taps = record {
    whole = all;
    lines = lines;
    done = done all all_written;
    out_file = (out, all_written.out_file, cut.out_file);
    journal_file = (spelling journal, all_written.journal_file, cut.journal_file);
    report_file = (report, all_written.report_file, cut.report_file);
    journal_order = subst (λ (held : Option (List ℕ)). (new names.journal ≡ old names.journal) ⊎ (new names.out ≡ held))
        (sym all_written.out_file) cut.journal_order;
    report_order = subst (λ (held : Option (List ℕ)). (new names.report ≡ old names.report)
        ⊎ ((new names.out ≡ all names.out) × (new names.journal ≡ held))) (sym all_written.journal_file)
        (subst (λ (held : Option (List ℕ)). (new names.report ≡ old names.report)
        ⊎ ((new names.out ≡ held) × (new names.journal ≡ Some (spelling journal)))) (sym all_written.out_file)
        cut.report_order);
    of_taps = of_taps;
    others = cut.others;
  }

  moved : (mid new : Files) → SameFiles old mid → AreCutShort names out (spelling journal) report mid new →
      AreCutShort names out (spelling journal) report old new
  moved mid new same cut = record {
    out_file = rw (← same names.out) cut.out_file;
    journal_file = rw (← same names.journal) cut.journal_file;
    report_file = rw (← same names.report) cut.report_file;
    others = λ name other. cut.others name other ∙ same name;
    journal_order = rw (← same names.journal) cut.journal_order;
    report_order = rw (← same names.report) cut.report_order;
  }

-- what the serial run of a run's trace released is what the run released
abbrev pub ReleasedLaw : Type 0
ReleasedLaw =
    (setting : Setting) → IsSetting setting → (journal : List Event) → IsRun setting journal →
    (end : State) → serial_run setting.rules (serial_opening setting.packets) (trace_of journal) ≡ Some end →
    end.released ≡ released_in (state_after setting (opening setting) journal).trace

-- what was said of the files as they are when the texts were read, of the files as they were
open_before : (names : Named) (mode : Mode) (old mid new : Files) → SameFiles old mid → IsOutOpen names mode mid new →
    IsOutOpen names mode old new
open_before names plain old mid new same others = λ name not. others name not ∙ same name
open_before names (workers count) old mid new same others = λ name not. others name not ∙ same name
open_before names (alone name move) old mid new same none = none

module _ (laws : RunLaws) (names : Named) (mode : Mode) (old : Files) (apart : AreDifferent names) (chain : Chain)
    (capture : Capture) (script : ScriptShape) (schedule : List Event)
    (texts : AreTexts names mode old chain capture script schedule) (taps left : List Face) (mid new : Files)
    (same : SameFiles old mid) where
  abbrev of : Setting
  of = setting_of chain (bytes_of_packets capture.packets) script

  abbrev MayBe : List Event → Type 0
  MayBe journal = IsChosen mode chain capture script schedule journal

  abbrev Told : List Released → Type 0
  Told records = WereTold mode taps left records

  -- all was written, with the lines of the taps that are left, and these were told
  pub ended_beside : ReleasedLaw → HasWritten names chain capture script MayBe Told left mid new →
      IsDoneBeside names mode taps left old new
  unfolding ended_done done right
  ended_beside law has = record {
    done = ended_done laws names mode old apart chain capture script schedule has.journal has.end texts has.run
        has.chosen
        (lines_of left) has.plain mid new same has.written;
    told = ∥∥₁_map has.run.whole.run (λ legal. subst Told
        (law of has.run.right has.journal legal has.end has.run.whole.serial) has.told);
  }

  begun : HasBegun names chain capture script MayBe left mid new → IsCutShort names mode left old new
  begun has =
      let cut = has.cut in
      cut_short laws names mode old apart chain capture script schedule has.journal has.end texts has.run has.chosen
      cut.lines cut.plain left new
      (moved laws names mode old apart chain capture script schedule has.journal has.end texts has.run has.chosen
      cut.lines cut.plain mid new same cut.cut) (rw (← same names.report) cut.of_taps)

  is_cut : IsOutOpen names mode mid new ⊎ HasBegun names chain capture script MayBe left mid new →
      IsCut names mode left old new
  is_cut (inl others) = inl (open_before names mode old mid new same others)
  is_cut (inr has) = inr (begun has)

  -- the writing failed
  pub ended_cut : (sound : Type 0) (error : DeskError) → (sound → error ≡ desk.Failed → ⊥) →
      (error ≡ desk.Failed → IsOutOpen names mode mid new ⊎ HasBegun names chain capture script MayBe left mid new) →
      SameFiles mid new ⊎ (IsOutOpen names mode mid new ⊎ HasBegun names chain capture script MayBe left mid new) →
      Ends sound names mode taps left old new (desk_status error)
  ended_cut sound desk.Failed safe failed refused = inr (is_cut (failed refl), λ s. safe s refl)
  ended_cut sound desk.NoMemory safe failed (inl as_before) = inl (λ name. as_before name ∙ same name)
  ended_cut sound desk.NoMemory safe failed (inr cut) = inr (is_cut cut)

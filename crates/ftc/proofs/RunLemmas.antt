-- What a run wrote, from what its steps did.
use Rattle.std.proofs.Common.{◌≡◌, ◌∙◌, ◌⊎◌, inl, inr, sym, ap, subst, ℕ, List, [], ◌∷◌, ◌++◌, Option, Some, None}
use Rattle.std.proofs.Common.{append-nil}
use Rattle.std.specs.Prelude.{OnOk, OnErr, Result, Ok, Err, unwrap_or}
use Rattle.std.specs.List.{AllByRecursion}
use Rattle.ftc_base.specs.declared.released.Released.{Released}
use Rattle.ftc_journal.specs.declared.event.Event.{Event}
use Rattle.ftc_journal.specs.Text.{spelling}
use Rattle.ftc_mbox.specs.Chain.{Chain}
use Rattle.ftc_outside.specs.Desk.{Files, SameButAt}
use Rattle.ftc_outside.specs.Tap.{Face, HasNoFeed}
use Rattle.ftc_pcap.specs.declared.capture.Capture.{Capture}
use Rattle.ftc_protocol.specs.Setting.{Setting, setting_of}
use Rattle.ftc_report.specs.Output.{out_bytes}
use Rattle.ftc_report.specs.Report.{report_of}
use Rattle.ftc_script.specs.Script.{ScriptShape}
use Rattle.ftc_serial.specs.Packets.{bytes_of_packets}
use Rattle.ftc_serial.specs.Serial.{State}
use Rattle.ftc_stream.specs.Records.{HasGrownBy}
use Rattle.ftc_words.specs.Command.{Named}
use Rattle.ftc.specs.Done.{lines_of}
use Rattle.ftc.specs.Driven.{IsFinishedRun, HasWritten, HasBegun}
use Rattle.ftc.specs.Output.{MayHold, SameElsewhere}
use Rattle.ftc.specs.Writing.{AreApart, AreTextsWritten, AreTextsCut}
use Rattle.ftc.proofs.WriteLemmas.{out_cut, all_written, texts_cut}

pub on_ok_both : {A E : Type 0} (r : Result A E) (P Q R : Type 0) → (P → Q → R) → OnOk r P → OnOk r Q → OnOk r R
on_ok_both (Ok x) P Q R both one other = both one other
on_ok_both (Err e) P Q R both one other = tt

pub err_of : {A E : Type 0} (r : Result A E) (e : E) (P : Type 0) → r ≡ Err e → OnErr r P → P
err_of (Ok x) e P is held = cc
err_of (Err other) e P is held = held

pub maybe_open : (P Q R : Type 0) → P ⊎ R → P ⊎ (Q ⊎ R)
maybe_open P Q R (inl one) = inl one
maybe_open P Q R (inr other) = inr (inr other)

-- a file that was there has grown
pub grown_file : (at held bytes : List ℕ) (old new : Files) → old at ≡ Some held → HasGrownBy at bytes old new →
    new at ≡ Some (held ++ bytes)
grown_file at held bytes old new there (inl grew) =
    grew ∙ ap (λ (o : Option (List ℕ)). Some (unwrap_or o [] ++ bytes)) there
grown_file at held bytes old new there (inr (none, same)) =
    same ∙ (there ∙ ap (λ (b : List ℕ). Some b) (sym (append-nil held) ∙ ap (λ (b : List ℕ). held ++ b) (sym none)))

pub not_absent : (file : Option (List ℕ)) (held : List ℕ) → file ≡ Some held → file ≡ None → ⊥
not_absent file held there gone = cc

pub others_on : (at : List ℕ) (first second third : Files) → SameButAt at first second → SameButAt at second third →
    SameButAt at first third
others_on at first second third one other name not = other name not ∙ one name not

-- a file whose front was written grew and was then completed, and no other file has changed
pub completed : (at held grown bytes : List ℕ) (old begun mid whole : Files) → begun at ≡ Some held →
    HasGrownBy at grown begun mid → (mid at ≡ Some (held ++ grown) → whole at ≡ Some bytes) →
    SameButAt at old begun → SameButAt at begun mid → SameButAt at mid whole →
    (whole at ≡ Some bytes) × SameButAt at old whole
completed at held grown bytes old begun mid whole there grew written one two three = (
  written (grown_file at held grown begun mid there grew),
  others_on at old mid whole (others_on at old begun mid one two) three,
)

pub elsewhere : (at : List ℕ) (old new : Files) → SameButAt at old new → SameElsewhere (at ∷ []) old new
elsewhere at old new others name not = others name not.0

-- the records are those that the run released
module _ (names : Named) (apart : AreApart names) (chain : Chain) (capture : Capture) (script : ScriptShape)
    (MayBe : List Event → Type 0) (journal : List Event) (end : State)
    (run : IsFinishedRun (setting_of chain (bytes_of_packets capture.packets) script) journal end)
    (chosen : MayBe journal)
    (records : List Released) (records_are : records ≡ end.released) (left : List Face) (old : Files) where
  abbrev setting : Setting
  setting = setting_of chain (bytes_of_packets capture.packets) script

  -- only OUT was begun
  pub out_begun : (new : Files) → MayHold (old names.out) (new names.out) (out_bytes capture records) →
      SameButAt names.out old new → HasBegun names chain capture script MayBe left old new
  out_begun new held others = record {
    journal = journal;
    end = end;
    run = run;
    chosen = chosen;
    cut = out_cut names apart (out_bytes capture end.released) (spelling journal) (report_of setting journal)
        (lines_of left) old new
        (subst (λ (items : List Released). MayHold (old names.out) (new names.out)
        (out_bytes capture items)) records_are
        held) others;
  }

  module _ (mid new : Files) (there : mid names.out ≡ Some (out_bytes capture records))
      (before : SameButAt names.out old mid) where
    out_there : mid names.out ≡ Some (out_bytes capture end.released)
    out_there = subst (λ (items : List Released). mid names.out ≡ Some (out_bytes capture items)) records_are there

    pub has_written : (Told : List Released → Type 0) → Told records → AllByRecursion HasNoFeed (lines_of left) →
        AreTextsWritten names (spelling journal) (report_of setting journal (lines_of left)) mid new →
        HasWritten names chain capture script MayBe Told left old new
    has_written Told told plain written = record {
      journal = journal;
      end = end;
      run = run;
      chosen = chosen;
      written = all_written names apart (out_bytes capture end.released) (spelling journal) (report_of setting journal)
          (lines_of left) old mid new out_there before written;
      plain = plain;
      told = subst Told records_are told;
    }

    pub has_begun : AreTextsCut names (spelling journal) (report_of setting journal) (lines_of left) mid new →
        HasBegun names chain capture script MayBe left old new
    has_begun cut = record {
      journal = journal;
      end = end;
      run = run;
      chosen = chosen;
      cut = texts_cut names apart (out_bytes capture end.released) (spelling journal) (report_of setting journal)
          (lines_of left) old mid new out_there before cut;
    }

-- What the steps of the writing of a run's files leave together.
use Rattle.std.proofs.Common.{◌≡◌, ◌∙◌, inl, inr, ℕ, List, [], ◌∷◌, Option, Some, ap, sym, subst, refl, append-nil}
use Rattle.std.specs.Prelude.{OnErr, Result, Ok, Err}
use Rattle.std.specs.List.{AllByRecursion}
use Rattle.ftc_outside.specs.Desk.{Files, SameButAt}
use Rattle.ftc_outside.specs.Tap.{HasNoFeed}
use Rattle.ftc_words.specs.Command.{Named}
use Rattle.ftc.specs.Output.{MayHold, SameElsewhere, written_by}
use Rattle.ftc.specs.Writing.{AreApart, AreWritten, AreTextsWritten, AreTextsCut, AreCutBeside}

-- what was written whole is a front of itself
pub whole_is_front : (old new : Option (List ℕ)) (bytes : List ℕ) → new ≡ Some bytes → MayHold old new bytes
whole_is_front old new bytes is = inr (bytes, is, ([], sym (append-nil bytes)))

-- ---- the journal and the report

module _ (names : Named) (apart : AreApart names) (journal : List ℕ) (report : List (List ℕ) → List ℕ)
    (left : List (List ℕ)) (old : Files) where
  pub journal_cut : (new : Files) → MayHold (old names.journal) (new names.journal) journal →
      SameButAt names.journal old new → AreTextsCut names journal report left old new
  journal_cut new held others =
      let still : new names.report ≡ old names.report = others names.report (λ same. apart.journal_report (sym same)) in
      record {
        lines = [];
        plain = tt;
        journal_file = held;
        report_file = inl still;
        others = λ name not. others name not.0;
        order = inl still;
      }

  pub journal_alone : (new : Files) → new names.journal ≡ Some journal → SameButAt names.journal old new →
      AreTextsCut names journal report left old new
  journal_alone new is others =
      journal_cut new (whole_is_front (old names.journal) (new names.journal) journal is) others

  module _ (mid new : Files) (there : mid names.journal ≡ Some journal) (before : SameButAt names.journal old mid)
      (behind : SameButAt names.report mid new) where
    journal_still : new names.journal ≡ Some journal
    journal_still = behind names.journal apart.journal_report ∙ there

    elsewhere : SameElsewhere (names.journal ∷ names.report ∷ []) old new
    elsewhere name not = behind name not.1.0 ∙ before name not.0

    pub texts_written : (text : List ℕ) → text ≡ report left → new names.report ≡ Some text →
        AreTextsWritten names journal (report left) old new
    texts_written text is file = record {
      journal_file = journal_still;
      report_file = file ∙ ap Some is;
      others = elsewhere;
    }

    pub report_cut : (text : List ℕ) → text ≡ report left → AllByRecursion HasNoFeed left →
        MayHold (mid names.report) (new names.report) text → AreTextsCut names journal report left old new
    report_cut text is plain held = record {
      lines = left;
      plain = plain;
      journal_file = whole_is_front (old names.journal) (new names.journal) journal journal_still;
      report_file = subst (λ (was : Option (List ℕ)). MayHold was (new names.report) (report left))
          (before names.report (λ same. apart.journal_report (sym same)))
          (subst (λ (bytes : List ℕ). MayHold (mid names.report) (new names.report) bytes) is held);
      others = elsewhere;
      order = inr (journal_still, refl);
    }

-- ---- OUT, and these behind it

module _ (names : Named) (apart : AreApart names) (out journal : List ℕ) (report : List (List ℕ) → List ℕ)
    (left : List (List ℕ)) (old : Files) where
  -- neither of the two was begun
  pub out_cut : (new : Files) → MayHold (old names.out) (new names.out) out → SameButAt names.out old new →
      AreCutBeside names out journal report left old new
  out_cut new held others =
      let journal_is : new names.journal ≡ old names.journal =
      others names.journal (λ same. apart.out_journal (sym same)) in
      let report_is : new names.report ≡ old names.report = others names.report (λ same. apart.out_report (sym same)) in
      record {
        lines = [];
        plain = tt;
        cut = record {
          out_file = held;
          journal_file = inl journal_is;
          report_file = inl report_is;
          others = λ name not. others name not.0;
          journal_order = inl journal_is;
          report_order = inl report_is;
        };
        of_taps = inl report_is;
      }

  module _ (mid new : Files) (there : mid names.out ≡ Some out) (before : SameButAt names.out old mid) where
    journal_before : mid names.journal ≡ old names.journal
    journal_before = before names.journal (λ same. apart.out_journal (sym same))

    report_before : mid names.report ≡ old names.report
    report_before = before names.report (λ same. apart.out_report (sym same))

    out_still : SameElsewhere (names.journal ∷ names.report ∷ []) mid new → new names.out ≡ Some out
    out_still behind = behind names.out (apart.out_journal, (apart.out_report, tt)) ∙ there

    only_these : SameElsewhere (names.journal ∷ names.report ∷ []) mid new → SameElsewhere (written_by names) old new
    only_these behind name not = behind name not.1 ∙ before name not.0

    pub all_written : AreTextsWritten names journal (report left) mid new →
        AreWritten names out journal (report left) old new
    all_written written = record {
      out_file = out_still written.others;
      journal_file = written.journal_file;
      report_file = written.report_file;
      others = only_these written.others;
    }

    pub texts_cut : AreTextsCut names journal report left mid new → AreCutBeside names out journal report left old new
    texts_cut cut = record {
      lines = cut.lines;
      plain = cut.plain;
      cut = record {
        out_file = whole_is_front (old names.out) (new names.out) out (out_still cut.others);
        journal_file = subst (λ (was : Option (List ℕ)). MayHold was (new names.journal) journal) journal_before
            cut.journal_file;
        report_file = subst (λ (was : Option (List ℕ)). MayHold was (new names.report) (report cut.lines)) report_before
            cut.report_file;
        others = only_these cut.others;
        journal_order = inr (out_still cut.others);
        report_order = elim cut.order [
          | inl same ↦ inl (same ∙ report_before)
          | inr begun ↦ inr (out_still cut.others, begun.0)
        ];
      };
      of_taps = elim cut.order [ inl same ↦ inl (same ∙ report_before) | inr begun ↦ inr begun.1 ];
    }

-- What a check says of files that are those of one run: nothing but Yes.
use Rattle.std.proofs.Common.{◌≡◌, ◌∙◌, ◌⊎◌, inl, inr, refl, sym, subst, ℕ, List, length, Some, Result, Ok, Err}
use Rattle.std.proofs.lemmas.Option.{same_Some}
use Rattle.ftc_outside.specs.Tap.{Face}
use Rattle.ftc_outside.specs.Desk.{Files}
use Rattle.ftc_pcap.specs.Grammar.{Spells}
use Rattle.ftc_pcap.specs.declared.capture.Capture.{Capture}
use Rattle.ftc_journal.specs.declared.event.Event.{Event}
use Rattle.ftc_journal.specs.Spelling.{IsSpelling}
use Rattle.ftc_mbox.specs.Chain.{Chain}
use Rattle.ftc_conf.specs.Grammar.{chain_of}
use Rattle.ftc_ring.specs.Ring.{RingShape}
use Rattle.ftc_script.specs.Script.{ScriptShape}
use Rattle.ftc_script.specs.Grammar.{script_of}
use Rattle.ftc_serial.specs.Packets.{bytes_of_packets}
use Rattle.ftc_protocol.specs.Setting.{setting_of}
use Rattle.ftc_check.specs.Verdict.{IsVerdict}
use Rattle.ftc_check.specs.declared.verdict.Checked.{Checked}
use Rattle.ftc_check.specs.declared.verdict.Checked.TheVariants.{Yes}
use Rattle.ftc.specs.declared.status.Status.{Status}
use Rattle.ftc.specs.declared.status.Status.TheVariants as status
use Rattle.ftc_words.specs.Command.{Named, Mode, plain, workers, alone}
use Rattle.ftc.specs.Texts.{ring_of, HasChain, HasCapture, HasSchedule, IsSetup, AreInputs, AreTexts}
use Rattle.ftc.specs.Refused.{IsTextRefused, IsWrongChain, IsWrongCapture, IsWrongScript, IsWrongSchedule}
use Rattle.ftc.specs.Refused.{IsWrongJournal, IsNeverWrong, IsSetupRefused, IsInputRefused, IsScheduleRefused}
use Rattle.ftc.specs.Refused.{IsRunRefused, IsCheckRefused}
use Rattle.ftc.specs.Laws.{TextLaws}
use Rattle.ftc.specs.Done.{Ends}
use Rattle.ftc.specs.Checking.{IsJudged, AreChecked, IsRightRun, Judges, IsYesOrRefused, IsCheckEnd}
use Rattle.ftc.proofs.Endings.{done_or_memory}

-- a text is not both right and wrong
pub not_both : {A F : Type 0} (told : Result A F) (value : A) (fault : F) → told ≡ Ok value → told ≡ Err fault → ⊥
not_both told value fault right wrong = cc

pub ok_once : {A F : Type 0} (told : Result A F) (one other : A) → told ≡ Ok one → told ≡ Ok other → one ≡ other
ok_once told one other is also = cc

-- a text that is right is refused for the desk or for memory alone
pub not_refused : (sound : Type 0) (files : Files) (name : List ℕ) (IsWrong : List ℕ → Status →
    Type 0) (ending : Status)
    → ((text : List ℕ) → files name ≡ Some text → IsWrong text ending → ⊥) → (ending ≡ status.DeskFault → ⊥) →
    IsTextRefused sound files name IsWrong ending → ending ≡ status.NoMemory
not_refused sound files name IsWrong status.Done fine no-fault refused = absurd (fine refused.0 refused.1 refused.2)
not_refused sound files name IsWrong status.Usage fine no-fault refused = absurd (fine refused.0 refused.1 refused.2)
not_refused sound files name IsWrong (status.Chain line cause) fine no-fault refused =
    absurd (fine refused.0 refused.1 refused.2)
not_refused sound files name IsWrong (status.Capture at cause) fine no-fault refused =
    absurd (fine refused.0 refused.1 refused.2)
not_refused sound files name IsWrong (status.Script line cause) fine no-fault refused =
    absurd (fine refused.0 refused.1 refused.2)
not_refused sound files name IsWrong (status.Schedule line cause) fine no-fault refused =
    absurd (fine refused.0 refused.1 refused.2)
not_refused sound files name IsWrong (status.Ports cause) fine no-fault refused =
    absurd (fine refused.0 refused.1 refused.2)
not_refused sound files name IsWrong (status.Journal line cause) fine no-fault refused =
    absurd (fine refused.0 refused.1 refused.2)
not_refused sound files name IsWrong (status.Beats line cause) fine no-fault refused =
    absurd (fine refused.0 refused.1 refused.2)
not_refused sound files name IsWrong (status.Check verdict) fine no-fault refused =
    absurd (fine refused.0 refused.1 refused.2)
not_refused sound files name IsWrong status.DeskFault fine no-fault refused = absurd (no-fault refl)
not_refused sound files name IsWrong status.NoMemory fine no-fault refused = refl

pub no_chain : (text : List ℕ) (chain : Chain) → chain_of text ≡ Ok chain → (ending : Status) →
    IsWrongChain text ending → ⊥
no_chain text chain right status.Done wrong = wrong
no_chain text chain right status.Usage wrong = wrong
no_chain text chain right (status.Chain line cause) wrong = not_both (chain_of text) chain _ right wrong
no_chain text chain right (status.Capture at cause) wrong = wrong
no_chain text chain right (status.Script line cause) wrong = wrong
no_chain text chain right (status.Schedule line cause) wrong = wrong
no_chain text chain right (status.Ports cause) wrong = wrong
no_chain text chain right (status.Journal line cause) wrong = wrong
no_chain text chain right (status.Beats line cause) wrong = wrong
no_chain text chain right (status.Check verdict) wrong = wrong
no_chain text chain right status.DeskFault wrong = wrong
no_chain text chain right status.NoMemory wrong = wrong

no_script : (ring : RingShape) (packets : ℕ) (text : List ℕ) (script : ScriptShape) →
    script_of ring packets text ≡ Ok script → (ending : Status) → IsWrongScript ring packets text ending → ⊥
no_script ring packets text script right status.Done wrong = wrong
no_script ring packets text script right status.Usage wrong = wrong
no_script ring packets text script right (status.Chain line cause) wrong = wrong
no_script ring packets text script right (status.Capture at cause) wrong = wrong
no_script ring packets text script right (status.Script line cause) wrong =
    not_both (script_of ring packets text) script _ right wrong
no_script ring packets text script right (status.Schedule line cause) wrong = wrong
no_script ring packets text script right (status.Ports cause) wrong = wrong
no_script ring packets text script right (status.Journal line cause) wrong = wrong
no_script ring packets text script right (status.Beats line cause) wrong = wrong
no_script ring packets text script right (status.Check verdict) wrong = wrong
no_script ring packets text script right status.DeskFault wrong = wrong
no_script ring packets text script right status.NoMemory wrong = wrong

same_verdict : (other chain : Chain) (taken capture : Capture) (told script : ScriptShape) (some out : List ℕ)
    (events journal : List Event) (text report : List ℕ) (verdict : Checked)
    → other ≡ chain → taken ≡ capture → told ≡ script → some ≡ out → events ≡ journal → text ≡ report
    → IsVerdict (setting_of other (bytes_of_packets taken.packets) told) taken some events text verdict →
    IsVerdict (setting_of chain (bytes_of_packets capture.packets) script) capture out journal report verdict
same_verdict other chain taken capture told script some out events journal text report verdict of_chain of_capture
    of_script of_out of_journal of_report is =
    rw (← of_chain, ← of_capture, ← of_script, ← of_out, ← of_journal, ← of_report) is

pub no_capture : (laws : TextLaws) (text : List ℕ) (capture : Capture) → Spells text capture → (ending : Status) →
    IsWrongCapture text ending → ⊥
no_capture laws text capture right status.Done wrong = wrong
no_capture laws text capture right status.Usage wrong = wrong
no_capture laws text capture right (status.Chain line cause) wrong = wrong
no_capture laws text capture right (status.Capture at cause) wrong = laws.no_fault text capture _ right wrong
no_capture laws text capture right (status.Script line cause) wrong = wrong
no_capture laws text capture right (status.Schedule line cause) wrong = wrong
no_capture laws text capture right (status.Ports cause) wrong = wrong
no_capture laws text capture right (status.Journal line cause) wrong = wrong
no_capture laws text capture right (status.Beats line cause) wrong = wrong
no_capture laws text capture right (status.Check verdict) wrong = wrong
no_capture laws text capture right status.DeskFault wrong = wrong
no_capture laws text capture right status.NoMemory wrong = wrong

no_schedule : (laws : TextLaws) (text : List ℕ) (journal : List Event) → IsSpelling journal text → (ending : Status) →
    IsWrongSchedule text ending → ⊥
no_schedule laws text journal right status.Done wrong = wrong
no_schedule laws text journal right status.Usage wrong = wrong
no_schedule laws text journal right (status.Chain line cause) wrong = wrong
no_schedule laws text journal right (status.Capture at cause) wrong = wrong
no_schedule laws text journal right (status.Script line cause) wrong = wrong
no_schedule laws text journal right (status.Schedule line cause) wrong =
    laws.no_journal_fault text journal _ right wrong
no_schedule laws text journal right (status.Ports cause) wrong = wrong
no_schedule laws text journal right (status.Journal line cause) wrong = wrong
no_schedule laws text journal right (status.Beats line cause) wrong = wrong
no_schedule laws text journal right (status.Check verdict) wrong = wrong
no_schedule laws text journal right status.DeskFault wrong = wrong
no_schedule laws text journal right status.NoMemory wrong = wrong

pub no_journal : (laws : TextLaws) (text : List ℕ) (journal : List Event) → IsSpelling journal text →
    (ending : Status) → IsWrongJournal text ending → ⊥
no_journal laws text journal right status.Done wrong = wrong
no_journal laws text journal right status.Usage wrong = wrong
no_journal laws text journal right (status.Chain line cause) wrong = wrong
no_journal laws text journal right (status.Capture at cause) wrong = wrong
no_journal laws text journal right (status.Script line cause) wrong = wrong
no_journal laws text journal right (status.Schedule line cause) wrong = wrong
no_journal laws text journal right (status.Ports cause) wrong = wrong
no_journal laws text journal right (status.Journal line cause) wrong = laws.no_journal_fault text journal _ right wrong
no_journal laws text journal right (status.Beats line cause) wrong = wrong
no_journal laws text journal right (status.Check verdict) wrong = wrong
no_journal laws text journal right status.DeskFault wrong = wrong
no_journal laws text journal right status.NoMemory wrong = wrong

-- what else a chain and a capture that are right may be said to spell is the same, and neither is refused but for the
-- desk or for memory
module _ (laws : TextLaws) (chain_name capture_name : List ℕ) (files : Files) (chain : Chain) (capture : Capture)
    (setup : IsSetup chain_name capture_name files chain capture) where
  chain_reads : (text : List ℕ) → files chain_name ≡ Some text → chain_of text ≡ Ok chain
  chain_reads text file =
      let has = setup.chain_right in
      subst (λ (t : List ℕ). chain_of t ≡ Ok chain) (same_Some has.text text (sym has.file ∙ file)) has.right

  capture_reads : (text : List ℕ) → files capture_name ≡ Some text → Spells text capture
  capture_reads text file =
      let has = setup.capture_right in
      subst (λ (t : List ℕ). Spells t capture) (same_Some has.text text (sym has.file ∙ file)) has.right

  pub chain_is : (other : Chain) → HasChain chain_name files other → other ≡ chain
  chain_is other has = ok_once (chain_of has.text) other chain has.right (chain_reads has.text has.file)

  pub capture_is : (other : Capture) → HasCapture capture_name files other → other ≡ capture
  capture_is other has = laws.one_capture has.text other capture has.right (capture_reads has.text has.file)

  pub setup_once : (sound : Type 0) (ending : Status) → (ending ≡ status.DeskFault → ⊥) →
      IsSetupRefused sound chain_name capture_name files ending → ending ≡ status.NoMemory
  setup_once sound ending no-fault refused = elim refused [
    | inl first ↦ not_refused sound files chain_name IsWrongChain ending
        (λ text file. no_chain text chain (chain_reads text file) ending) no-fault first
    | inr behind ↦ not_refused sound files capture_name IsWrongCapture ending
        (λ text file. no_capture laws text capture (capture_reads text file) ending) no-fault behind.2
  ]

module _ (laws : TextLaws) (names : Named) (files : Files) (chain : Chain) (capture : Capture) (script : ScriptShape)
    (inputs : AreInputs names files chain capture script) where
  script_reads : (other : Chain) (taken : Capture) (text : List ℕ) → other ≡ chain → taken ≡ capture →
      files names.script ≡ Some text → script_of (ring_of other) (length taken.packets) text ≡ Ok script
  script_reads other taken text is also file =
      let has = inputs.script_right in
      let same = same_Some text has.text (sym file ∙ has.file) in
      rw (is, also, same) has.right

  -- none of the three is refused, but for the desk or for memory
  input_once : (sound : Type 0) (ending : Status) → (ending ≡ status.DeskFault → ⊥) →
      IsInputRefused sound names files ending → ending ≡ status.NoMemory
  input_once sound ending no-fault refused = elim refused [
    | inl first ↦ setup_once laws names.chain names.capture files chain capture inputs.setup sound ending no-fault first
    | inr behind ↦ let (other, taken, setup, refused) = behind in not_refused sound files names.script
        (IsWrongScript (ring_of other) (length taken.packets)) ending
        (λ text file. no_script (ring_of other) (length taken.packets) text script (script_reads other taken text
        (chain_is laws names.chain names.capture files chain capture inputs.setup other setup.chain_right)
        (capture_is laws names.chain names.capture files chain capture inputs.setup taken setup.capture_right)
        file) ending) no-fault refused
  ]

module _ (laws : TextLaws) (names : Named) (files : Files) (chain : Chain) (capture : Capture) (script : ScriptShape)
    (out : List ℕ) (journal : List Event) (report : List ℕ)
    (checked : AreChecked names files chain capture script out journal report) where
  journal_reads : (text : List ℕ) → files names.journal ≡ Some text → IsSpelling journal text
  journal_reads text file =
      let has = checked.journal_right in
      subst (IsSpelling journal) (same_Some has.text text (sym has.file ∙ file)) has.right

  -- none of the six is refused, but for the desk or for memory
  refused_once : (sound : Type 0) (ending : Status) → (ending ≡ status.DeskFault → ⊥) →
      IsCheckRefused sound names files ending → ending ≡ status.NoMemory
  refused_once sound ending no-fault refused =
      elim refused [
        | inl first ↦ input_once laws names files chain capture script checked.inputs sound ending no-fault first
        | inr behind ↦ elim behind.4 [
          | inl first ↦ not_refused sound files names.out IsNeverWrong ending
              (λ text file wrong. wrong) no-fault first
          | inr behind ↦ elim behind.2 [
            | inl first ↦ not_refused sound files names.journal IsWrongJournal ending
                (λ text file. no_journal laws text journal (journal_reads text file) ending) no-fault first
            | inr behind ↦ not_refused sound files names.report IsNeverWrong ending
                (λ text file wrong. wrong) no-fault behind.2
          ]
        ]
      ]

  -- so a check ends done or says what is wrong, or for want of memory
  for_memory : (sound : Type 0) (ending : Status) → (ending ≡ status.DeskFault → ⊥) →
      IsCheckRefused sound names files ending → IsCheckEnd ending
  for_memory sound ending no-fault refused = subst IsCheckEnd (sym (refused_once sound ending no-fault refused)) tt

  pub judges_all : (sound : Type 0) (ending : Status) → Judges sound names files ending →
      (ending ≡ status.DeskFault → ⊥) → IsCheckEnd ending
  judges_all sound status.Done judged no-fault = tt
  judges_all sound status.Usage refused no-fault = for_memory sound status.Usage no-fault refused
  judges_all sound (status.Chain line cause) refused no-fault =
      for_memory sound (status.Chain line cause) no-fault refused
  judges_all sound (status.Capture at cause) refused no-fault =
      for_memory sound (status.Capture at cause) no-fault refused
  judges_all sound (status.Script line cause) refused no-fault =
      for_memory sound (status.Script line cause) no-fault refused
  judges_all sound (status.Schedule line cause) refused no-fault =
      for_memory sound (status.Schedule line cause) no-fault refused
  judges_all sound (status.Ports cause) refused no-fault = for_memory sound (status.Ports cause) no-fault refused
  judges_all sound (status.Journal line cause) refused no-fault =
      for_memory sound (status.Journal line cause) no-fault refused
  judges_all sound (status.Beats line cause) refused no-fault =
      for_memory sound (status.Beats line cause) no-fault refused
  judges_all sound (status.Check verdict) judged no-fault = tt
  judges_all sound status.DeskFault refused no-fault = absurd (no-fault refl)
  judges_all sound status.NoMemory judged no-fault = tt

  -- where one verdict is Yes, each is
  pub verdict_is : IsVerdict
      (setting_of chain (bytes_of_packets capture.packets) script) capture out journal report Yes →
      (verdict : Checked) → IsJudged names files verdict → verdict ≡ Yes
  verdict_is fine verdict judged =
      let setup = judged.checked.inputs.setup in
      let of_chain = chain_is laws names.chain names.capture files chain capture checked.inputs.setup judged.chain
      setup.chain_right in
      let of_capture = capture_is laws names.chain names.capture files chain capture checked.inputs.setup judged.capture
      setup.capture_right in
      let spelled = judged.checked.inputs.script_right in
      let of_script : judged.script ≡ script =
      ok_once _ judged.script script spelled.right
      (script_reads laws names files chain capture script checked.inputs judged.chain judged.capture spelled.text
      of_chain of_capture spelled.file) in
      let of_out = same_Some judged.out out (sym judged.checked.out_file ∙ checked.out_file) in
      let read = judged.checked.journal_right in
      let of_journal : judged.journal ≡ journal =
      laws.one_journal read.text judged.journal journal read.right (journal_reads read.text read.file) in
      let of_report = same_Some judged.report report (sym judged.checked.report_file ∙ checked.report_file) in
      laws.one_verdict (setting_of chain
      (bytes_of_packets capture.packets) script) capture out journal report verdict Yes
      (same_verdict judged.chain chain judged.capture capture judged.script script judged.out out judged.journal journal
      judged.report report verdict
      of_chain of_capture of_script of_out of_journal of_report judged.verdict_right) fine

module _ (laws : TextLaws) (names : Named) (files : Files) (right : IsRightRun names files) where
  wrong : (sound : Type 0) (ending : Status) → Judges sound names files ending → (ending ≡ status.DeskFault → ⊥) →
      IsCheckEnd ending
  wrong = judges_all laws names files right.judged.chain right.judged.capture right.judged.script right.judged.out
      right.judged.journal right.judged.report right.judged.checked

  pub agrees : (sound : Type 0) (ending : Status) → Judges sound names files ending → IsYesOrRefused ending
  agrees sound status.Done judged = tt
  agrees sound status.Usage refused = absurd (wrong sound status.Usage refused (λ same. cc))
  agrees sound (status.Chain line cause) fault = absurd (wrong sound (status.Chain line cause) fault (λ same. cc))
  agrees sound (status.Capture at cause) fault = absurd (wrong sound (status.Capture at cause) fault (λ same. cc))
  agrees sound (status.Script line cause) fault = absurd (wrong sound (status.Script line cause) fault (λ same. cc))
  agrees sound (status.Schedule line cause) fault = absurd (wrong sound (status.Schedule line cause) fault (λ same. cc))
  agrees sound (status.Ports cause) fault = absurd (wrong sound (status.Ports cause) fault (λ same. cc))
  agrees sound (status.Journal line cause) fault = absurd (wrong sound (status.Journal line cause) fault (λ same. cc))
  agrees sound (status.Beats line cause) fault = absurd (wrong sound (status.Beats line cause) fault (λ same. cc))
  agrees sound (status.Check verdict) judged =
      absurd (judged.1 (verdict_is laws names files right.judged.chain right.judged.capture right.judged.script
      right.judged.out right.judged.journal right.judged.report right.judged.checked right.judged.verdict_right verdict
      judged.0))
  agrees sound status.DeskFault judged = tt
  agrees sound status.NoMemory judged = tt

-- a run whose texts are right ends done, or for want of memory, or by a fault of the desk
module _ (laws : TextLaws) (names : Named) (mode : Mode) (files : Files) (chain : Chain) (capture : Capture)
    (script : ScriptShape) (schedule : List Event)
    (texts : AreTexts names mode files chain capture script schedule) where
  schedule_once : (sound : Type 0) (way : Mode) → HasSchedule way files schedule → (ending : Status) →
      (ending ≡ status.DeskFault → ⊥)
      → IsScheduleRefused sound way files ending → ending ≡ status.NoMemory
  schedule_once sound plain has ending no-fault refused = absurd refused
  schedule_once sound (workers count) has ending no-fault refused = absurd refused
  schedule_once sound (alone name move) has ending no-fault refused =
      not_refused sound files name IsWrongSchedule ending
      (λ text file. no_schedule laws text schedule
      (subst (IsSpelling schedule) (same_Some has.text text (sym has.file ∙ file)) has.right) ending)
      no-fault refused

  run_refused_once : (sound : Type 0) (ending : Status) → (ending ≡ status.DeskFault → ⊥) →
      IsRunRefused sound names mode files ending → ending ≡ status.NoMemory
  run_refused_once sound ending no-fault refused =
      elim refused [
        | inl first ↦ input_once laws names files chain capture script texts.inputs sound ending no-fault first
        | inr behind ↦ schedule_once sound mode texts.schedule_right ending no-fault behind.4
      ]

  pub completes : (sound : Type 0) (taps left : List Face) (new : Files) (ending : Status) →
      Ends sound names mode taps left files new ending → (ending ≡ status.DeskFault → ⊥)
      → (ending ≡ status.Done) ⊎ (ending ≡ status.NoMemory)
  completes sound taps left new = done_or_memory _ _ _ _ _ (run_refused_once sound)

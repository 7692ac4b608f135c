-- How the telling of a port table ends.
use Rattle.std.proofs.Common.{◌≡◌, ◌∙◌, ◌⊎◌, inl, inr, refl, sym, subst, ap, ℕ, zero, suc, List, [], ◌∷◌, ◌++◌, take}
use Rattle.std.proofs.Common.{Option, Some, None, Err}
use Rattle.std.specs.Prelude.{unwrap_or, IfSome, IsSome, option_and_then}
use Rattle.std.proofs.lemmas.Option.{same_Some}
use Rattle.ftc_audit.specs.Table.{IsCause}
use Rattle.ftc_audit.specs.declared.cause.PortsCause.{PortsCause}
use Rattle.ftc_audit.specs.declared.cause.PortsCause.TheVariants as cause
use Rattle.ftc_audit.specs.declared.line.PortLine.{PortLine}
use Rattle.ftc_audit.specs.Text.{ports_text}
use Rattle.ftc_base.specs.Refused.{IfBad}
use Rattle.ftc_base.specs.declared.refusal.Refuse.{Refuse}
use Rattle.ftc_base.specs.declared.refusal.Refuse.TheVariants as refuse
use Rattle.ftc_journal.specs.Spelling.{IsSpelling}
use Rattle.ftc_journal.specs.declared.event.Event.{Event}
use Rattle.ftc_mbox.specs.Chain.{Chain}
use Rattle.ftc_mbox.specs.declared.rule.Rule.{Rule}
use Rattle.ftc_outside.specs.Desk.{Files, SameFiles, SameButAt, GrewAt, MayHaveGrownAt}
use Rattle.ftc_outside.specs.declared.desk.DeskError.{DeskError}
use Rattle.ftc_outside.specs.declared.desk.DeskError.TheVariants as desk
use Rattle.ftc_pcap.specs.declared.capture.Capture.{Capture}
use Rattle.ftc_serial.specs.Illegal.{IsFirstIllegal}
use Rattle.ftc_serial.specs.Packets.{bytes_of_packets}
use Rattle.ftc_serial.specs.Serial.{State, serial_opening, serial_step, serial_run}
use Rattle.ftc_serial.specs.declared.step.Step.{Step}
use Rattle.ftc_serial.specs.Trace.{trace_of}
use Rattle.ftc.specs.declared.status.Status.{Status}
use Rattle.ftc.specs.declared.status.Status.TheVariants as status
use Rattle.ftc.specs.Status.{desk_status, ports_status}
use Rattle.ftc.specs.Refused.{IsTextRefused, IsWrongJournal}
use Rattle.ftc.specs.Texts.{HasJournal, IsSetup}
use Rattle.ftc.specs.Watching.{standard_output}
use Rattle.ftc.specs.Porting.{PortNamed, IsTableIn, HasNoTable, ArePortsRefused, ArePortsTold, ArePortsCutShort}
use Rattle.ftc.specs.Porting.{PortsEnd}
use Rattle.ftc.specs.Laws.{TextLaws}
use Rattle.ftc.proofs.Agreeing.{not_refused, no_journal, chain_is, capture_is, setup_once}
use Rattle.ftc.proofs.Endings.{refused_ends, done_or_memory}
use Rattle.ftc.proofs.Refusing.{setup_isnt_done}

-- the number of a server that there is
pub some_is : (found : Option ℕ) (one number : ℕ) → found ≡ Some one → IfSome found (λ id. id ≡ number) → one ≡ number
some_is None one number is told = cc
some_is (Some id) one number is told = sym (same_Some id one is) ∙ told

-- ---- refusals

pub port_journal_refused : (sound : Type 0) (names : PortNamed) (server : ℕ) (files : Files) (chain : Chain)
    (capture : Capture) (ending : Status) → IsSetup names.chain names.capture files chain capture
    → IsTextRefused sound files names.journal IsWrongJournal ending → ArePortsRefused sound names server files ending
port_journal_refused sound names server files chain capture ending setup refused =
    inr (chain, capture, setup, inl refused)

-- what a call told of its refusal, of the cause that the refusal has
pub cause_told : (X : Type 0) (Why : PortsCause → Type 0) (refusal : Refuse PortsCause) →
    IfBad {A = X} (Err refusal) Why
    → (cause : PortsCause) → refusal ≡ refuse.Bad cause → Why cause
cause_told X Why refusal told cause is = subst (λ (r : Refuse PortsCause). IfBad {A = X} (Err r) Why) is told

pub table_refused : (sound : Type 0) (names : PortNamed) (server : ℕ) (files : Files) (chain : Chain)
    (capture : Capture) (journal : List Event) (refusal : Refuse PortsCause)
    → IsSetup names.chain names.capture files chain capture → HasJournal names.journal files journal
    → ((why : PortsCause) → refusal ≡ refuse.Bad why →
    IsCause chain.rules (bytes_of_packets capture.packets) (trace_of journal) server why)
    → ArePortsRefused sound names server files (ports_status refusal)
table_refused sound names server files chain capture journal (refuse.Bad why) setup journal_right is =
    inr (chain, capture, setup, inr (journal, journal_right, is why refl))
table_refused sound names server files chain capture journal refuse.NoMemory setup journal_right is = inl (inl tt)

isnt_done : (sound : Type 0) (names : PortNamed) (server : ℕ) (files : Files) →
    ArePortsRefused sound names server files status.Done → ⊥
isnt_done sound names server files refused = elim refused [
  | inl first ↦ setup_isnt_done sound names.chain names.capture files first
  | inr behind ↦ elim behind.3 [ inl first ↦ first.2 | inr behind ↦ behind.2 ]
]

pub ports_refused : (sound : Type 0) (names : PortNamed) (server : ℕ) (old new : Files) (ending : Status)
    → ArePortsRefused sound names server old ending → SameFiles old new → PortsEnd sound names server old new ending
ports_refused sound names server old new = refused_ends _ _ _ _ _ (isnt_done sound names server old)

-- ---- what is told

module _ (names : PortNamed) (server : ℕ) (old between new : Files) (same : SameFiles old between)
    (lines : List PortLine)
    (given : IsTableIn names server old lines) where
  grown : (bytes : List ℕ) → GrewAt standard_output bytes between new → GrewAt standard_output bytes old new
  grown bytes is = is ∙ ap (λ (before : Option (List ℕ)). Some (unwrap_or before [] ++ bytes)) (same standard_output)

  pub ports_done : (text : List ℕ) → text ≡ ports_text lines → GrewAt standard_output text between new
      → SameButAt standard_output between new → ArePortsTold names server old new
  ports_done text told is others = record {
    lines = lines;
    given = given;
    told = subst (λ (bytes : List ℕ). GrewAt standard_output bytes old new) told (grown text is);
    others = λ other isnt. others other isnt ∙ same other;
  }

  short : (text : List ℕ) → text ≡ ports_text lines → MayHaveGrownAt standard_output text between new
      → SameButAt standard_output between new → ArePortsCutShort names server old new
  short text told is others = record {
    lines = lines;
    given = given;
    told = subst (λ (bytes : List ℕ). MayHaveGrownAt standard_output bytes old new) told
        (elim is [
          | inl stays ↦ inl (stays ∙ same standard_output)
          | inr more ↦
              inr (more.0, grown (take more.0 text) more.1)
        ]);
    others = λ other isnt. others other isnt ∙ same other;
  }

  pub ports_cut : (text : List ℕ) → text ≡ ports_text lines → (sound : Type 0) (error : DeskError) →
      (sound → error ≡ desk.Failed → ⊥)
      → MayHaveGrownAt standard_output text between new → SameButAt standard_output between new
      → PortsEnd sound names server old new (desk_status error)
  ports_cut text told sound desk.Failed safe is others = inr (short text told is others, λ s. safe s refl)
  ports_cut text told sound desk.NoMemory safe is others = inr (short text told is others)

-- ---- a trace one of whose steps is the first that isn't legal is no run

through : (found : Option State) (front whole : State → Option State) (reached : State) →
    option_and_then front found ≡ Some reached
    → ((next : State) → front next ≡ Some reached → whole next ≡ None) → option_and_then whole found ≡ None
through None front whole reached before behind = refl
through (Some next) front whole reached before behind = behind next before

first_illegal : (rules : List Rule) (start : State) (steps : List Step) (place : ℕ) →
    IsFirstIllegal rules start steps place
    → serial_run rules start steps ≡ None
first_illegal rules start [] zero is = let there = is.there in cc
first_illegal rules start [] (suc place) is = let there = is.there in cc
first_illegal rules start (step ∷ steps) zero is =
    let here : serial_step rules start step ≡ None =
    rw (same_Some start is.reached is.before, same_Some step is.step is.there) is.illegal in
    rw here refl
first_illegal rules start (step ∷ steps) (suc place) is =
    through (serial_step rules start step) (λ next. serial_run rules next (take place steps))
    (λ next. serial_run rules next steps)
    is.reached is.before
    (λ next before. first_illegal rules next steps place
    (record { reached = is.reached; step = is.step; before = before; there = is.there; illegal = is.illegal }))

no_run : (ended : Option State) → ended ≡ None → IsSome ended → ⊥
no_run None is some = cc
no_run (Some state) is some = cc

-- ---- where there is a table, it is told, but for want of memory or by a fault of the desk

module _ (laws : TextLaws) (names : PortNamed) (server : ℕ) (files : Files) (lines : List PortLine)
    (given : IsTableIn names server files lines) where
  text_of_journal : (text : List ℕ) → files names.journal ≡ Some text → IsSpelling given.journal text
  text_of_journal text file =
      let has = given.journal_right in
      subst (IsSpelling given.journal) (same_Some has.text text (sym has.file ∙ file)) has.right

  the_journal : (other : List Event) → HasJournal names.journal files other → other ≡ given.journal
  the_journal other has = laws.one_journal has.text other given.journal has.right
      (text_of_journal has.text has.file)

  -- a server with a table has no cause for none
  no_cause : (why : PortsCause) →
      IsCause given.chain.rules (bytes_of_packets given.capture.packets) (trace_of given.journal) server why → ⊥
  no_cause cause.NotNat wrong = wrong (given.table.rule, given.table.nat)
  no_cause (cause.BadStep place) wrong =
      no_run (serial_run given.chain.rules (serial_opening (bytes_of_packets given.capture.packets))
      (trace_of given.journal))
      (first_illegal given.chain.rules (serial_opening (bytes_of_packets given.capture.packets))
      (trace_of given.journal) place wrong.1) given.table.run

  not_none : (ending : Status) → HasNoTable given.chain given.capture given.journal server ending → ⊥
  not_none status.Done wrong = wrong
  not_none status.Usage wrong = wrong
  not_none (status.Chain line cause) wrong = wrong
  not_none (status.Capture at cause) wrong = wrong
  not_none (status.Script line cause) wrong = wrong
  not_none (status.Schedule line cause) wrong = wrong
  not_none (status.Journal line cause) wrong = wrong
  not_none (status.Beats line cause) wrong = wrong
  not_none (status.Check verdict) wrong = wrong
  not_none (status.Ports why) wrong = no_cause why wrong
  not_none status.DeskFault wrong = wrong
  not_none status.NoMemory wrong = wrong

  none_of : (other : Chain) (taken : Capture) (read : List Event) (ending : Status) → other ≡ given.chain →
      taken ≡ given.capture
      → read ≡ given.journal → HasNoTable other taken read server ending → ⊥
  none_of other taken read ending is also same wrong = not_none ending (rw (← is, ← also, ← same) wrong)

  refused_once : (sound : Type 0) (ending : Status) → (ending ≡ status.DeskFault → ⊥)
      → ArePortsRefused sound names server files ending → ending ≡ status.NoMemory
  refused_once sound ending no-fault refused = elim refused [
    | inl first ↦ setup_once laws names.chain names.capture files given.chain given.capture given.setup sound ending
        no-fault first
    | inr behind ↦ let (other, taken, setup, refused) = behind in elim refused [
      | inl first ↦ not_refused sound files names.journal IsWrongJournal ending
          (λ text file. no_journal laws text given.journal (text_of_journal text file) ending) no-fault first
      | inr behind ↦ let (read, read_right, none) = behind in
          absurd (none_of other taken read ending
          (chain_is laws names.chain names.capture files given.chain given.capture given.setup other setup.chain_right)
          (capture_is laws names.chain names.capture files given.chain given.capture given.setup taken
          setup.capture_right) (the_journal read read_right) none)
    ]
  ]

  pub ports_complete : (sound : Type 0) (new : Files) (ending : Status) → PortsEnd sound names server files new ending
      → (ending ≡ status.DeskFault → ⊥) → (ending ≡ status.Done) ⊎ (ending ≡ status.NoMemory)
  ports_complete sound new = done_or_memory _ _ _ _ _ (refused_once sound)

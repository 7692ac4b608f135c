-- How a watch over heartbeats ends.
use Rattle.std.proofs.Common.{◌≡◌, ◌≢◌, ◌∙◌, ◌⊎◌, inl, inr, refl, sym, subst, ap, ap₂, ℕ, Bool, true, false, ◌&&◌, List}
use Rattle.std.proofs.Common.{[], ◌∷◌, ◌++◌, append-nil, take, length, Option, Some, Result, Ok, Err, codes}
use Rattle.std.specs.Prelude.{unwrap_or}
use Rattle.std.specs.List.{list_all}
use Rattle.std.proofs.lemmas.Option.{same_Some}
use Rattle.ftc_outside.specs.Desk.{Files, SameFiles, SameButAt, GrewAt, MayHaveGrownAt}
use Rattle.ftc_outside.specs.declared.desk.DeskError.{DeskError}
use Rattle.ftc_outside.specs.declared.desk.DeskError.TheVariants as desk
use Rattle.ftc_pcap.specs.declared.capture.Capture.{Capture}
use Rattle.ftc_mbox.specs.Chain.{Chain}
use Rattle.ftc_ring.specs.Ring.{RingShape}
use Rattle.ftc_script.specs.Grammar.{script_of}
use Rattle.ftc_watch.specs.Beats.{BeatsShape}
use Rattle.ftc_watch.specs.Grammar.{beats_of, ticks_of}
use Rattle.ftc_watch.specs.declared.tick.Tick.{Tick}
use Rattle.ftc_watch.specs.declared.fault.BeatsFault.{BeatsFault}
use Rattle.ftc_base.proofs.Bools.{and_other}
use Rattle.ftc_base.specs.Reading.{◌>>=◌}
use Rattle.ftc_watch.specs.Watch.{Watching}
use Rattle.ftc_watch.specs.Lines.{crashes_in, held_text, summary, summary_of}
use Rattle.ftc.specs.Output.{MayHold}
use Rattle.ftc_words.specs.Given.{is_name}
use Rattle.ftc.specs.declared.status.Status.{Status}
use Rattle.ftc.specs.declared.status.Status.TheVariants as status
use Rattle.ftc.specs.Status.{desk_status}
use Rattle.ftc.specs.Texts.{ring_of, IsSetup}
use Rattle.ftc.specs.Refused.{IsTextRefused}
use Rattle.ftc.specs.Watching.{WatchNamed, standard_output, HasBeats, AreBeats, IsWrongBeats, IsWatchRefused, AreMade}
use Rattle.ftc.specs.Watching.{AreMadeShort, watching, script_made, script_read, IsWatched, IsWatchedShort, WatchEnds}
use Rattle.ftc.specs.Laws.{TextLaws}
use Rattle.ftc.proofs.Agreeing.{not_refused, not_both, chain_is, capture_is, setup_once}
use Rattle.ftc.proofs.Endings.{refused_ends, done_or_memory}
use Rattle.ftc.proofs.Refusing.{setup_isnt_done}

-- a name is not that of standard output
pub no_output : (chain capture beats script : List ℕ) → list_all is_name
    (chain ∷ capture ∷ beats ∷ script ∷ []) ≡ true → script ≢ codes "-"
no_output chain capture beats script named same =
    let all : list_all is_name (chain ∷ capture ∷ beats ∷ codes "-" ∷ []) ≡ true = rw same at named in
    let behind_chain = and_other (is_name chain) (list_all is_name (capture ∷ beats ∷ codes "-" ∷ [])) all in
    let behind_capture = and_other (is_name capture) (list_all is_name (beats ∷ codes "-" ∷ [])) behind_chain in
    let behind_beats : false ≡ true = and_other (is_name beats) (list_all is_name (codes "-" ∷ [])) behind_capture in
    cc

-- ---- refusals

pub beats_before : (name : List ℕ) (old new : Files) (ring : RingShape) (packets : ℕ) (beats : BeatsShape)
    → SameFiles old new → HasBeats name new ring packets beats → HasBeats name old ring packets beats
beats_before name old new ring packets beats same has = record {
  text = has.text;
  file = sym (same name)
      ∙ has.file;
  right = has.right;
}

pub beats_refused : (sound : Type 0) (names : WatchNamed) (files : Files) (chain : Chain) (capture : Capture)
    (ending : Status) → IsSetup names.chain names.capture files chain capture
    → IsTextRefused sound files names.beats (IsWrongBeats (ring_of chain) (length capture.packets)) ending
    → IsWatchRefused sound names files ending
beats_refused sound names files chain capture ending setup refused = inr (chain, capture, setup, refused)

isnt_done : (sound : Type 0) (names : WatchNamed) (files : Files) → IsWatchRefused sound names files status.Done → ⊥
isnt_done sound names files refused = elim refused [
  | inl first ↦ setup_isnt_done sound names.chain names.capture files first
  | inr behind ↦ behind.3.2
]

pub watch_refused : (sound : Type 0) (limit : ℕ) (names : WatchNamed) (old new : Files) (ending : Status)
    → IsWatchRefused sound names old ending → SameFiles old new → WatchEnds sound limit names old new ending
watch_refused sound limit names old new = refused_ends _ _ _ _ _ (isnt_done sound names old)

-- ---- what is written

module _ (name made told : List ℕ) (old between new : Files) (same : SameFiles old between) where
  grown : (bytes : List ℕ) → GrewAt standard_output bytes between new → GrewAt standard_output bytes old new
  grown bytes is = is ∙ ap (λ (before : Option (List ℕ)). Some (unwrap_or before [] ++ bytes)) (same standard_output)

  -- what was written, of the files as they were when the texts were read
  made_from : AreMade name made told between new → AreMade name made told old new
  made_from are = record {
    file = are.file;
    output = grown told are.output;
    others = λ other none. are.others other none ∙ same other;
  }

  short_from : AreMadeShort name made told between new → AreMadeShort name made told old new
  short_from are = record {
    file = elim are.file [ inl stays ↦ inl (stays ∙ same name) | inr front ↦ inr front ];
    output = elim are.output [
      | inl stays ↦ inl (stays ∙ same standard_output)
      | inr more ↦ inr (
        more.0,
        grown
            (take more.0 told) more.1,
      )
    ];
    order = elim are.order [ inl stays ↦ inl (stays ∙ same standard_output) | inr whole ↦ inr whole ];
    others = λ other none. are.others other none ∙ same other;
  }

-- what the writing of the file and then of the output leaves
module _ (name made told : List ℕ) (apart : name ≢ standard_output) (old mid new : Files) where
  abbrev apart_back : standard_output ≢ name
  apart_back = λ same. apart (sym same)

  pub made_all : mid name ≡ Some made → SameButAt name old mid → SameButAt standard_output mid new
      → GrewAt standard_output told mid new
      → AreMade name made told old new
  made_all is first second grown = record {
    file = second name apart ∙ is;
    output = grown ∙ ap (λ (before : Option (List ℕ)). Some (unwrap_or before [] ++ told))
        (first standard_output apart_back);
    others = λ other none. second other none.1.0 ∙ first other none.0;
  }

  pub made_cut : mid name ≡ Some made → SameButAt name old mid → SameButAt standard_output mid new
      → MayHaveGrownAt standard_output told mid new → AreMadeShort name made told old new
  made_cut is first second grown = record {
    file = inr (made, second name apart ∙ is, ([], sym (append-nil made)));
    output = elim grown [
      | inl stays ↦ inl (stays ∙ first standard_output apart_back)
      | inr more ↦ inr (
        more.0,
        more.1 ∙ ap (λ (before : Option (List ℕ)). Some
            (unwrap_or before [] ++ take more.0 told)) (first standard_output apart_back),
      )
    ];
    order = inr (second name apart ∙ is);
    others = λ other none. second other none.1.0 ∙ first other none.0;
  }

pub made_begun : (name made told : List ℕ) → name ≢ standard_output → (old new : Files)
    → MayHold (old name) (new name) made → SameButAt name old new
    → AreMadeShort name made told old new
made_begun name made told apart old new held others = record {
  file = held;
  output = inl (others standard_output (λ same. apart (sym same)));
  order = inl (others standard_output (λ same. apart (sym same)));
  others = λ other none. others other none.0;
}

pub made_none : (name made told : List ℕ) (files : Files) → AreMadeShort name made told files files
made_none name made told files =
    record { file = inl refl; output = inl refl; order = inl refl; others = λ other none. refl }

-- what is told of a watch
pub same_summary : (watched : Watching) (fenced refused : ℕ) (held : List ℕ) → fenced ≡ crashes_in watched.script
    → refused ≡ length watched.held → held ≡ held_text watched.held
    → summary fenced refused held ≡ summary_of watched
same_summary watched fenced refused held one two three = rw (one, two, three) refl

-- beats are of the ring and the packets for which they were read
parts : (ring : RingShape) (packets : ℕ) (beats : BeatsShape) (told : Result (List Tick) BeatsFault)
    → (told >>= λ ticks. Ok (record { ring = ring; packets = packets; ticks = ticks })) ≡ Ok beats
    → (beats.ring ≡ ring) × (beats.packets ≡ packets)
parts ring packets beats (Ok ticks) is =
    let same : record { ring = ring; packets = packets; ticks = ticks } ≡ beats = cc in
    (ap (λ (b : BeatsShape). b.ring) (sym same), ap (λ (b : BeatsShape). b.packets) (sym same))
parts ring packets beats (Err fault) is = cc

-- the script of a watch is accepted for the ring and the packets of its beats
abbrev pub IsAccepted : ℕ → BeatsShape → Type 0
IsAccepted limit beats = script_of beats.ring beats.packets (script_made limit beats) ≡ Ok (script_read limit beats)

module _ (limit : ℕ) (names : WatchNamed) (old : Files) (beats : BeatsShape) (given : AreBeats names old beats) where
  script_right : IsAccepted limit beats → script_of (ring_of given.chain) (length given.capture.packets)
      (script_made limit beats) ≡ Ok (script_read limit beats)
  script_right is =
      let of = parts (ring_of given.chain) (length given.capture.packets) beats (ticks_of
      (ring_of given.chain).servers
      (length given.capture.packets) given.beats_right.text) given.beats_right.right in
      ap₂ (λ (ring : RingShape) (packets : ℕ). script_of ring packets (script_made limit beats)) (sym of.0) (sym of.1)
      ∙ is

  pub watch_done : IsAccepted limit beats → (script told : List ℕ) → script ≡ script_made limit beats
      → told ≡ summary_of (watching limit beats) → (between new : Files) → SameFiles old between
      → AreMade names.script script told between new → IsWatched limit names old new
  watch_done accepted script told is also between new same made =
      let of : AreMade names.script (script_made limit beats) (summary_of (watching limit beats)) between new = rw
      (← is, ← also) made in
      record {
        beats = beats;
        given = given;
        made = made_from names.script (script_made limit beats) (summary_of
            (watching limit beats)) old between new same of;
        accepted = record { text = script_made limit beats; file = of.file; right = script_right accepted };
      }

  watch_short : (script told : List ℕ) → script ≡ script_made limit beats → told ≡ summary_of (watching limit beats)
      → (between new : Files) → SameFiles old between
      → AreMadeShort names.script script told between new → IsWatchedShort limit names old new
  watch_short script told is also between new same made = record {
    beats = beats;
    given = given;
    made = short_from names.script (script_made limit beats) (summary_of (watching limit beats)) old between new same
        (rw (← is, ← also) made);
  }

  pub watch_cut : (script told : List ℕ) → script ≡ script_made limit beats → told ≡ summary_of (watching limit beats)
      → (between new : Files) → SameFiles old between
      → (sound : Type 0) (error : DeskError) → (sound → error ≡ desk.Failed → ⊥)
      → AreMadeShort names.script script told between new → WatchEnds sound limit names old new (desk_status error)
  watch_cut script told is also between new same sound desk.Failed safe made = inr
      (watch_short script told is also between new same made, λ s. safe s refl)
  watch_cut script told is also between new same sound desk.NoMemory safe made = inr
      (watch_short script told is also between new same made)

-- ---- a watch whose texts are right ends done, or for want of memory, or by a fault of the desk

no_beats : (ring : RingShape) (packets : ℕ) (text : List ℕ) (beats : BeatsShape)
    → beats_of ring packets text ≡ Ok beats → (ending : Status) → IsWrongBeats ring packets text ending → ⊥
no_beats ring packets text beats right status.Done wrong = wrong
no_beats ring packets text beats right status.Usage wrong = wrong
no_beats ring packets text beats right (status.Chain line cause) wrong = wrong
no_beats ring packets text beats right (status.Capture at cause) wrong = wrong
no_beats ring packets text beats right (status.Script line cause) wrong = wrong
no_beats ring packets text beats right (status.Schedule line cause) wrong = wrong
no_beats ring packets text beats right (status.Ports cause) wrong = wrong
no_beats ring packets text beats right (status.Journal line cause) wrong = wrong
no_beats ring packets text beats right (status.Beats line cause) wrong = not_both
    (beats_of ring packets text) beats _ right wrong
no_beats ring packets text beats right (status.Check verdict) wrong = wrong
no_beats ring packets text beats right status.DeskFault wrong = wrong
no_beats ring packets text beats right status.NoMemory wrong = wrong

module _ (laws : TextLaws) (names : WatchNamed) (files : Files) (beats : BeatsShape)
    (given : AreBeats names files beats) where
  beats_read : (other : Chain) (taken : Capture) (text : List ℕ) → other ≡ given.chain → taken ≡ given.capture
      → files names.beats ≡ Some text → beats_of (ring_of other) (length taken.packets) text ≡ Ok beats
  beats_read other taken text is also file =
      let has = given.beats_right in
      let same = same_Some text has.text (sym file ∙ has.file) in
      rw (is, also, same) has.right

  refused_once : (sound : Type 0) (ending : Status) → (ending ≡ status.DeskFault → ⊥)
      → IsWatchRefused sound names files ending → ending ≡ status.NoMemory
  refused_once sound ending no-fault refused = elim refused [
    | inl first ↦ setup_once laws names.chain names.capture files given.chain given.capture given.setup sound ending
        no-fault first
    | inr behind ↦ let (other, taken, setup, refused) = behind in not_refused sound files names.beats
        (IsWrongBeats (ring_of other) (length taken.packets)) ending
        (λ text file. no_beats (ring_of other) (length taken.packets) text beats (beats_read other taken text
        (chain_is laws names.chain names.capture files given.chain given.capture given.setup other setup.chain_right)
        (capture_is laws names.chain names.capture files given.chain given.capture given.setup taken
        setup.capture_right) file) ending) no-fault refused
  ]

  pub watch_completes : (sound : Type 0) (limit : ℕ) (new : Files) (ending : Status)
      → WatchEnds sound limit names files new ending → (ending ≡ status.DeskFault → ⊥)
      → (ending ≡ status.Done) ⊎ (ending ≡ status.NoMemory)
  watch_completes sound limit new = done_or_memory _ _ _ _ _ (refused_once sound)

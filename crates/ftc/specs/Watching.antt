-- What a watch over heartbeats is given, and what it leaves.
use Rattle.std.specs.Prelude.{◌≡◌, ◌⊎◌, ℕ, List, [], ◌∷◌, length, Some, Ok, Err, codes}
use Rattle.ftc_outside.specs.Desk.{Files, SameFiles, GrewAt, MayHaveGrownAt}
use Rattle.ftc_pcap.specs.declared.capture.Capture.{Capture}
use Rattle.ftc_mbox.specs.Chain.{Chain}
use Rattle.ftc_ring.specs.Ring.{RingShape}
use Rattle.ftc_script.specs.Script.{ScriptShape}
use Rattle.ftc_script.specs.Plain.{plain_text, steps_in}
use Rattle.ftc_watch.specs.Beats.{BeatsShape}
use Rattle.ftc_watch.specs.Grammar.{beats_of}
use Rattle.ftc_watch.specs.Watch.{Watching, watch_of}
use Rattle.ftc_watch.specs.Lines.{summary_of}
use Rattle.ftc.specs.declared.status.Status.{Status}
use Rattle.ftc.specs.declared.status.Status.TheVariants as status
use Rattle.ftc.specs.declared.watching.WatchNames.{WatchNames}
use Rattle.ftc.specs.Output.{MayHold, SameElsewhere}
use Rattle.ftc.specs.Texts.{ring_of, IsSetup, HasScript}
use Rattle.ftc.specs.Refused.{IsTextRefused, IsSetupRefused}
use Rattle.ftc.specs.Ending.{EndsAs}

-- the names of the files of a watch
pub record WatchNamed : Type 0 where
  pub chain : List ℕ
  pub capture : List ℕ
  pub beats : List ℕ
  pub script : List ℕ

abbrev pub watch_names : List ℕ → List ℕ → List ℕ → List ℕ → WatchNamed
watch_names chain capture beats script = record { chain = chain; capture = capture; beats = beats; script = script }

abbrev pub watched_by : WatchNames → WatchNamed
watched_by names = watch_names names.chain.now names.capture.now names.beats.now names.script.now

-- the name of standard output
abbrev pub standard_output : List ℕ
standard_output = codes "-"

-- ---- what it is given

-- The file of that name spells these beats for a ring and a count of packets.
pub record HasBeats (name : List ℕ) (files : Files) (ring : RingShape) (packets : ℕ) (beats : BeatsShape) : Type 0 where
  pub text : List ℕ
  pub file : files name ≡ Some text
  pub right : beats_of ring packets text ≡ Ok beats

-- A chain, a capture, and beats for both.
pub record AreBeats (names : WatchNamed) (files : Files) (beats : BeatsShape) : Type 0 where
  pub chain : Chain
  pub capture : Capture
  pub setup : IsSetup names.chain names.capture files chain capture
  pub beats_right : HasBeats names.beats files (ring_of chain) (length capture.packets) beats

abbrev pub IsWrongBeats : RingShape → ℕ → List ℕ → Status → Type 0
IsWrongBeats ring packets text (status.Beats line cause) = beats_of ring packets text ≡ Err
    (record { line = line; cause = cause })
IsWrongBeats ring packets text other = ⊥

-- a text is refused, or it is right and one behind it is refused
abbrev pub IsWatchRefused : Type 0 → WatchNamed → Files → Status → Type 0
IsWatchRefused sound names files ending =
    IsSetupRefused sound names.chain names.capture files ending
    ⊎ ((chain : Chain) × (capture : Capture) × IsSetup names.chain names.capture files chain capture
    × IsTextRefused sound files names.beats (IsWrongBeats (ring_of chain) (length capture.packets)) ending)

-- ---- what it leaves

-- A file of that name has these bytes, and standard output so many more; no other file has changed.
pub record AreMade (name made told : List ℕ) (old new : Files) : Type 0 where
  pub file : new name ≡ Some made
  pub output : GrewAt standard_output told old new
  pub others : SameElsewhere (name ∷ standard_output ∷ []) old new

-- The file is as it was, or has some front of these bytes; and standard output has some front more. That was begun
-- only behind the whole file.
pub record AreMadeShort (name made told : List ℕ) (old new : Files) : Type 0 where
  pub file : MayHold (old name) (new name) made
  pub output : MayHaveGrownAt standard_output told old new
  pub order : (new standard_output ≡ old standard_output) ⊎ (new name ≡ Some made)
  pub others : SameElsewhere (name ∷ standard_output ∷ []) old new

-- what comes of beats where a server is silent that has missed so many ticks in a row
abbrev pub watching : ℕ → BeatsShape → Watching
watching limit beats = watch_of beats.ring limit beats.packets beats.ticks

abbrev pub script_made : ℕ → BeatsShape → List ℕ
script_made limit beats = plain_text (watching limit beats).script

-- what that script says: crashes and recoveries, and no lost message
abbrev pub script_read : ℕ → BeatsShape → ScriptShape
script_read limit beats = record {
  ring = beats.ring;
  packets = beats.packets;
  steps = steps_in
      (watching limit beats).script;
  loses = [];
}

-- What a watch leaves that is done: the script of the beats, which is accepted for this chain and this capture, and
-- on standard output what was fenced and held.
pub record IsWatched (limit : ℕ) (names : WatchNamed) (old new : Files) : Type 0 where
  pub beats : BeatsShape
  pub given : AreBeats names old beats
  pub made : AreMade names.script (script_made limit beats) (summary_of (watching limit beats)) old new
  pub accepted : HasScript names.script new given.chain (length given.capture.packets) (script_read limit beats)

-- What it leaves where its writing was cut short: fronts of what it would have written.
pub record IsWatchedShort (limit : ℕ) (names : WatchNamed) (old new : Files) : Type 0 where
  pub beats : BeatsShape
  pub given : AreBeats names old beats
  pub made : AreMadeShort names.script (script_made limit beats) (summary_of (watching limit beats)) old new

-- How a watch with these names ends.
abbrev pub WatchEnds : Type 0 → ℕ → WatchNamed → Files → Files → Status → Type 0
WatchEnds sound limit names old new =
    EndsAs sound (IsWatched limit names old new) (IsWatchRefused sound names old) (SameFiles old new)
    (IsWatchedShort limit names old new)

-- What calls of a writer do, over any desk: what it tells, where it is sound, its files and its faults.
use Rattle.std.specs.Prelude.{◌≡◌, ◌≢◌, ◌≤◌, ℕ, List, ◌++◌, None, codes}
use Rattle.ftc_outside.specs.Desk.{Files, SameButAt, Rose}
use Rattle.ftc_outside.specs.Tap.{Face}
use Rattle.ftc_pcap.specs.declared.capture.Capture.{Capture}
use Rattle.ftc_stream.specs.Flow.{Flow, since}
use Rattle.ftc_stream.specs.Records.{HasGrownBy, HasGrownInPart, records, writable}
use Rattle.ftc_stream.specs.Taps.{AreLeft, AreLeftInPart}
use Rattle.ftc_stream.specs.declared.fault.PutFault.{PutFault}
use Rattle.ftc_stream.specs.declared.fault.PutFault.TheVariants as fault

module _ {D : Type 0} (tells sound : D → Type 0) (file : D → Files) (faults : D → ℕ) (capture : Capture)
    (out : List ℕ) where
  -- calls that answered Ok: the items that came to the list were appended and told
  pub record Went (old new : Flow) (before after : D) (taps left : List Face) : Type 0 where
    pub room : new.room ≡ old.room
    pub added : new.items ≡ old.items ++ since old new
    pub grown : tells before → HasGrownBy out (records capture (since old new)) (file before) (file after)
    pub told : AreLeft (writable capture (since old new)) taps left
    pub others : tells before → SameButAt out (file before) (file after)
    pub tells_on : tells before → tells after
    pub sound_on : sound before → sound after
    pub still : faults after ≡ faults before

  -- the same, and then one that was refused
  pub record Broke (cause : PutFault) (old new : Flow) (before after : D) (taps left : List Face) : Type 0 where
    pub room : new.room ≡ old.room
    pub added : new.items ≡ old.items ++ since old new
    pub part : tells before → HasGrownInPart out capture (since old new) (file before) (file after)
    pub told_in_part : AreLeftInPart (writable capture (since old new)) taps left
    pub untold : cause ≡ fault.Failed → AreLeft (writable capture (since old new)) taps left
    pub others : tells before → SameButAt out (file before) (file after)
    pub tells_on : tells before → tells after
    pub sound_on : sound before → sound after
    pub count : faults before ≤ faults after
    pub rose : cause ≡ fault.Failed → Rose (faults before) (faults after)
    pub still : (cause ≡ fault.Failed → ⊥) → faults after ≡ faults before
    pub absent : tells before → sound before → cause ≡ fault.Failed → (file before out ≡ None) × (out ≢ codes "-")

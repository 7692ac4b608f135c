-- What is said of files and taps where nothing was put, and after a row of calls of which the last was refused.
use Rattle.std.proofs.Common.{◌≡◌, [], List, ℕ, sym, subst, refl, Result, Ok, Err, OnOk, OnErr}
use Rattle.std.proofs.lemmas.List.Elements.{All-nil}
use Rattle.std.specs.Prelude.{IsErrOf}
use Rattle.ftc_base.specs.declared.released.Released.{Released}
use Rattle.ftc_outside.specs.Desk.{Files}
use Rattle.ftc_outside.specs.Tap.{Face}
use Rattle.ftc_pcap.specs.declared.capture.Capture.{Capture}
use Rattle.ftc_stream.specs.Ending.{Ended}
use Rattle.ftc_stream.specs.GrowingLaws.{grown_none}
use Rattle.ftc_stream.specs.LeavingLaws.{left_none}
use Rattle.ftc_stream.specs.Records.{HasGrownInPart, writable}
use Rattle.ftc_stream.specs.Taps.{AreLeft, AreLeftInPart, StaysIfConstant}

nothing : Released
nothing = record { packet = 0; bytes = [] }

pub grown_by_none : (at : List ℕ) (capture : Capture) (items : List Released) (f : Files) → items ≡ [] →
    HasGrownInPart at capture items f f
grown_by_none at capture items f none =
    subst (λ (list : List Released). HasGrownInPart at capture list f f) (sym none) (nothing, 0, grown_none at f)

pub left_by_none : (capture : Capture) (items : List Released) (taps : List Face) → items ≡ [] →
    AreLeftInPart (writable capture items) taps taps
left_by_none capture items taps none =
    subst (λ (list : List Released). AreLeftInPart (writable capture list) taps taps) (sym none) (
      nothing,
      taps,
      left_none taps,
      record {
        front = [];
        told = [];
        rest = taps;
        before = refl;
        after = refl;
        front_told = record { told = tt; constant = All-nil (StaysIfConstant nothing) };
      },
    )

-- what a refused row of calls tells of taps, also by other names of the records and of the taps that are left
module _ {S A E : Type 0} (went : S → S → Type 0) (broke : S → S → E → Type 0) where
  pub left_after : (result : Result A E) (a b : S) → Ended went broke result a b →
      (records others : List Released) (old mid new : List Face) →
      ((fault : E) → broke a b fault → AreLeftInPart records old mid) → others ≡ records → new ≡ mid →
      OnErr result (AreLeftInPart others old new)
  left_after (Ok answer) a b ended records others old mid new tells same left = tt
  left_after (Err fault) a b ended records others old mid new tells same left =
      subst (λ (list : List Released). AreLeftInPart list old new) (sym same)
      (subst (λ (taps : List Face). AreLeftInPart records old taps) (sym left) (tells fault ended))

  same_cause : (fault cause : E) → IsErrOf {T = A} (Err fault) cause → fault ≡ cause
  same_cause fault cause same = cc

  -- of one that was not refused
  pub left_at_end : (result : Result A E) (a b : S) → Ended went broke result a b →
      (records others : List Released) (old mid new : List Face) →
      (went a b → AreLeft records old mid) → others ≡ records → new ≡ mid → OnOk result (AreLeft others old new)
  left_at_end (Ok answer) a b ended records others old mid new tells same left =
      subst (λ (list : List Released). AreLeft list old new) (sym same)
      (subst (λ (taps : List Face). AreLeft records old taps) (sym left) (tells ended))
  left_at_end (Err fault) a b ended records others old mid new tells same left = tt

  -- of one that was refused for this cause
  pub left_where : (result : Result A E) (cause : E) (a b : S) → Ended went broke result a b →
      (records others : List Released) (old mid new : List Face) →
      ((fault : E) → broke a b fault → fault ≡ cause → AreLeft records old mid) → others ≡ records → new ≡ mid →
      IsErrOf result cause → AreLeft others old new
  left_where (Ok answer) cause a b ended records others old mid new tells same left is = absurd cc
  left_where (Err fault) cause a b ended records others old mid new tells same left is =
      subst (λ (list : List Released). AreLeft list old new) (sym same)
      (subst (λ (taps : List Face). AreLeft records old taps) (sym left)
      (tells fault ended (same_cause fault cause is)))

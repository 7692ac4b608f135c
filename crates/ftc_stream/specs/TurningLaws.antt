-- Laws of calls of a writer, one after another.
use Rattle.std.proofs.Common.{◌≡◌, ℕ, List, refl, ◌∙◌, subst, arith}
use Rattle.std.proofs.Math.Seq.{drop-length}
use Rattle.ftc_outside.specs.Desk.{Files, Rose}
use Rattle.ftc_outside.specs.Tap.{Face}
use Rattle.ftc_pcap.specs.declared.capture.Capture.{Capture}
use Rattle.ftc_stream.specs.Flow.{Flow, since}
use Rattle.ftc_stream.specs.Records.{records}
use Rattle.ftc_stream.specs.GrowingLaws.{grown_start, grown_more, grown_part_more, absent_before, added_none}
use Rattle.ftc_stream.specs.GrowingLaws.{since_more, added_more, others_on}
use Rattle.ftc_stream.specs.LeavingLaws.{left_start, left_more, left_part_more}
use Rattle.ftc_stream.specs.Pages.{Went, Broke}
use Rattle.ftc_stream.specs.declared.fault.PutFault.{PutFault}

rose_on : (a b c : ℕ) → b ≡ a → Rose b c → Rose a c
rose_on a b c same rose = subst (λ (n : ℕ). Rose n c) same rose

module _ {D : Type 0} (tells sound : D → Type 0) (file : D → Files) (faults : D → ℕ) (capture : Capture)
    (out : List ℕ) where
  pub went_stays : (w : Flow) (d : D) (taps : List Face) → Went tells sound file faults capture out w w d d taps taps
  went_stays w d taps = record {
    room = refl;
    added = added_none w.items w.items refl;
    grown = λ t. grown_start out capture (since w w) (file d) (drop-length w.items);
    told = left_start capture (since w w) taps (drop-length w.items);
    others = λ t name other. refl;
    tells_on = λ t. t;
    sound_on = λ s. s;
    still = refl;
  }

  pub went_goes_on : (u v w : Flow) (d e f : D) (taps between left : List Face) →
      Went tells sound file faults capture out u v d e taps between →
      Went tells sound file faults capture out v w e f between left
      → Went tells sound file faults capture out u w d f taps left
  went_goes_on u v w d e f taps between left p q =
      let more = since_more u.items v.items w.items (since v w) p.added q.added in
      record {
        room = q.room ∙ p.room;
        added = added_more u.items v.items w.items (since v w) p.added q.added;
        grown = λ t. grown_more out capture (since u v) (since v w) (since u w) (file d) (file e) (file f) more
            (p.grown t) (q.grown (p.tells_on t));
        told = left_more capture (since u v) (since v w) (since u w) taps between left more p.told q.told;
        others = λ t. others_on out (file d) (file e) (file f) (p.others t) (q.others (p.tells_on t));
        tells_on = λ t. q.tells_on (p.tells_on t);
        sound_on = λ s. q.sound_on (p.sound_on s);
        still = q.still ∙ p.still;
      }

  pub went_breaks : (cause : PutFault) (u v w : Flow) (d e f : D) (taps between left : List Face) →
      Went tells sound file faults capture out u v d e taps between →
      Broke tells sound file faults capture out cause v w e f between left
      → Broke tells sound file faults capture out cause u w d f taps left
  went_breaks cause u v w d e f taps between left p q =
      let more = since_more u.items v.items w.items (since v w) p.added q.added in
      record {
        room = q.room ∙ p.room;
        added = added_more u.items v.items w.items (since v w) p.added q.added;
        part = λ t. grown_part_more out capture (since u v) (since v w) (since u w) (file d) (file e) (file f) more
            (p.grown t) (q.part (p.tells_on t));
        told_in_part = left_part_more capture (since u v) (since v w) (since u w) taps between left more p.told
            q.told_in_part;
        untold = λ is. left_more capture (since u v) (since v w) (since u w) taps between left more p.told
            (q.untold is);
        others = λ t. others_on out (file d) (file e) (file f) (p.others t) (q.others (p.tells_on t));
        tells_on = λ t. q.tells_on (p.tells_on t);
        sound_on = λ s. q.sound_on (p.sound_on s);
        count = omega (arith, p.still, q.count);
        rose = λ is. rose_on (faults d) (faults e) (faults f) p.still (q.rose is);
        still = λ no. q.still no ∙ p.still;
        absent = λ t s is. (
          absent_before out (records capture (since u v)) (file d) (file e) (p.grown t)
              (q.absent (p.tells_on t) (p.sound_on s) is).0,
          (q.absent (p.tells_on t) (p.sound_on s) is).1,
        );
      }

  -- the same, where the second call names its capture and its file by itself
  pub went_on_page : (capture' : Capture) (out' : List ℕ) → capture' ≡ capture → out' ≡ out →
      (u v w : Flow) (d e f : D) (taps between left : List Face)
      → Went tells sound file faults capture out u v d e taps between →
      Went tells sound file faults capture' out' v w e f between left →
      Went tells sound file faults capture out u w d f taps left
  went_on_page capture' out' same_capture same_out u v w d e f taps between left p q =
      let P : Capture → Type 0 = λ c. Went tells sound file faults c out' v w e f between left in
      let Q : List ℕ → Type 0 = λ o. Went tells sound file faults capture o v w e f between left in
      went_goes_on u v w d e f taps between left p (subst Q same_out (subst P same_capture q))

  pub went_breaks_page : (cause : PutFault) (capture' : Capture) (out' : List ℕ) → capture' ≡ capture → out' ≡ out →
      (u v w : Flow) (d e f : D) (taps between left : List Face)
      → Went tells sound file faults capture out u v d e taps between →
      Broke tells sound file faults capture' out' cause v w e f between left →
      Broke tells sound file faults capture out cause u w d f taps left
  went_breaks_page cause capture' out' same_capture same_out u v w d e f taps between left p q =
      let P : Capture → Type 0 = λ c. Broke tells sound file faults c out' cause v w e f between left in
      let Q : List ℕ → Type 0 = λ o. Broke tells sound file faults capture o cause v w e f between left in
      went_breaks cause u v w d e f taps between left p (subst Q same_out (subst P same_capture q))

-- What was released: each release adds a record, and no other event changes them.
use Rattle.std.proofs.Common.{◌≡◌, ◌∙◌, ◌++◌, ◌+◌, ◌≤◌, ℕ, zero, suc, true, false, not, List, [], ◌∷◌, length, take}
use Rattle.std.proofs.Common.{refl, sym, ap, arith, append_assoc, append-nil, length-append, if◌then◌else◌}
use Rattle.ftc_base.specs.declared.released.Released.{Released}
use Rattle.ftc_journal.specs.declared.event.Event.{Event}
use Rattle.ftc_journal.specs.declared.event.Event.TheVariants.{Enter, Take, Apply, Visit, Pass, Lose, Carry, Crash}
use Rattle.ftc_journal.specs.declared.event.Event.TheVariants.{Recover, Pull, Propagate, Release}
use Rattle.ftc_serial.specs.Removal.{left_of}
use Rattle.ftc_serial.specs.Serial.{Entry, Visited, Given}
use Rattle.ftc_serial.specs.Trace.{names}
use Rattle.ftc_protocol.specs.Legal.{is_release}
use Rattle.ftc_protocol.specs.Moment.{released_in}
use Rattle.ftc_protocol.specs.Next.{next, bytes_withheld}
use Rattle.ftc_protocol.specs.Run.{state_after}
use Rattle.ftc_protocol.specs.Setting.{Setting}
use Rattle.ftc_protocol.specs.State.{ChainState, opening}
use Rattle.ftc_protocol.specs.Visits.{Visits}
use Rattle.ftc_chain.specs.Course.{state_by}
use Rattle.ftc_chain.specs.Outlet.{Outgoing, IsOutlet}

-- ---- what events release

-- visits that are taken out of a trace leave its records
released_left : (out : Visits) (trace : List Entry) → released_in (left_of out trace) ≡ released_in trace
released_left out [] = refl
released_left out (Given packet bytes ∷ older) =
    ap (λ (records : List Released). records ++ record { packet = packet; bytes = bytes }
    ∷ []) (released_left out older)
released_left out (Visited server packet outcome ∷ older) =
    elim (out server packet) as (λ b.
    released_in (if not b then Visited server packet outcome ∷ left_of out older else left_of out older)
    ≡ released_in older) [
      | true ↦ released_left out older
      | false ↦ released_left out older
    ]

module _ (setting : Setting) where
  pub released_kept : (state : ChainState) (event : Event) → is_release event ≡ false →
      released_in (next setting state event).trace ≡ released_in state.trace
  released_kept state (Enter packet) isnt = refl
  released_kept state (Take link origin) isnt = refl
  released_kept state (Apply server origin group packet) isnt = refl
  released_kept state (Visit server packet worker) isnt = refl
  released_kept state (Pass server origin) isnt = refl
  released_kept state (Lose server origin) isnt = refl
  released_kept state (Carry origin) isnt = refl
  released_kept state (Crash server) isnt = refl
  released_kept state (Recover server undone) isnt = released_left (names undone) state.trace
  released_kept state (Pull link) isnt = refl
  released_kept state (Propagate origin) isnt = refl
  released_kept state (Release packet) isnt = absurd cc

  -- the records after one event, and after many
  record Grows (before after : List Released) (most : ℕ) : Type 0 where
    pub more : List Released
    pub few : length more ≤ most
    pub grown : after ≡ before ++ more

  nothing_more : (before after : List Released) → after ≡ before → Grows before after 1
  nothing_more before after same = record { more = []; few = omega arith; grown = same ∙ sym (append-nil before) }

  grows_by_one : (state : ChainState) (event : Event) →
      Grows (released_in state.trace) (released_in (next setting state event).trace) 1
  grows_by_one state (Release packet) = record {
    more = record { packet = packet; bytes = bytes_withheld (state.withheld packet) } ∷ [];
    few = omega arith;
    grown = refl;
  }
  grows_by_one state (Enter packet) = nothing_more _ _ refl
  grows_by_one state (Take link origin) = nothing_more _ _ refl
  grows_by_one state (Apply server origin group packet) = nothing_more _ _ refl
  grows_by_one state (Visit server packet worker) = nothing_more _ _ refl
  grows_by_one state (Pass server origin) = nothing_more _ _ refl
  grows_by_one state (Lose server origin) = nothing_more _ _ refl
  grows_by_one state (Carry origin) = nothing_more _ _ refl
  grows_by_one state (Crash server) = nothing_more _ _ refl
  grows_by_one state (Recover server undone) = nothing_more _ _ (released_left (names undone) state.trace)
  grows_by_one state (Pull link) = nothing_more _ _ refl
  grows_by_one state (Propagate origin) = nothing_more _ _ refl

  grows_on : (state : ChainState) (events : List Event) →
      Grows (released_in state.trace) (released_in (state_after setting state events).trace) (length events)
  grows_on state [] = record { more = []; few = omega arith; grown = sym (append-nil (released_in state.trace)) }
  grows_on state (event ∷ events) =
      let one = grows_by_one state event in
      let rest = grows_on (next setting state event) events in
      record {
        more = one.more ++ rest.more;
        few = omega (arith, length-append one.more rest.more, one.few, rest.few);
        grown = rest.grown
            ∙ (ap (λ (records : List Released). records ++ rest.more) one.grown
            ∙ append_assoc (released_in state.trace) one.more rest.more);
      }

  -- no more records than events
  pub few_released : (journal : List Event) → length (released_in (state_by setting journal).trace) ≤ length journal
  few_released journal =
      let all = grows_on (opening setting) journal in
      let same = ap (λ (records : List Released). length records) all.grown in
      omega (arith, same, all.few)

  state_on : (state : ChainState) (one other : List Event) →
      state_after setting state (one ++ other) ≡ state_after setting (state_after setting state one) other
  state_on state [] other = refl
  state_on state (event ∷ one) other = state_on (next setting state event) one other

  front_of : (records more : List Released) (count : ℕ) → count ≤ length records →
      take count (records ++ more) ≡ take count records
  front_of records more zero few = refl
  front_of [] more (suc count) few = absurd (omega (arith, few))
  front_of (one ∷ records) more (suc count) few =
      ap (λ (list : List Released). one ∷ list) (front_of records more count (omega (arith, few)))

  -- those that were taken out are the first of the records also after more events
  pub same_front : (journal more : List Event) (count : ℕ) →
      count ≤ length (released_in (state_by setting journal).trace) →
      take count (released_in (state_by setting (journal ++ more)).trace)
      ≡ take count (released_in (state_by setting journal).trace)
  same_front journal more count few =
      let on = grows_on (state_by setting journal) more in
      ap (λ (state : ChainState). take count (released_in state.trace)) (state_on (opening setting) journal more)
      ∙ (ap (λ (records : List Released). take count records) on.grown
      ∙ front_of (released_in (state_by setting journal).trace) on.more count few)

-- ---- the outlet

front_length : (drained waiting : List Released) (count : ℕ) → length drained ≡ count →
    take count (drained ++ waiting) ≡ drained
front_length [] waiting zero same = refl
front_length [] waiting (suc count) same = absurd (omega (arith, same))
front_length (one ∷ drained) waiting zero same = absurd (omega (arith, same))
front_length (one ∷ drained) waiting (suc count) same =
    ap (λ (list : List Released). one ∷ list) (front_length drained waiting count (omega (arith, same)))

module _ (released : List Released) where
  -- the first of the records are those that were taken out
  pub drained_are : (outlet : Outgoing) (is : IsOutlet released outlet) → take outlet.drained released ≡ is.drained
  drained_are outlet is = ap (λ (records : List Released). take outlet.drained records) is.parts
      ∙ front_length is.drained outlet.waiting outlet.drained is.count

  pub few_drained : (outlet : Outgoing) → IsOutlet released outlet →
      outlet.drained + length outlet.waiting ≤ length released
  few_drained outlet is =
      let same = ap (λ (records : List Released). length records) is.parts in
      omega (arith, same, is.count, length-append is.drained outlet.waiting)

  pub still_out : (old new : Outgoing) → new.waiting ≡ old.waiting → new.drained ≡ old.drained → IsOutlet released old →
      IsOutlet released new
  still_out old new waiting drained is = record {
    drained = is.drained;
    count = is.count ∙ sym drained;
    parts = is.parts ∙ ap (λ (list : List Released). is.drained ++ list) (sym waiting);
  }

  -- one record more waits
  pub one_waits : (old new : Outgoing) (one : Released) → new.waiting ≡ old.waiting ++ one ∷ [] →
      new.drained ≡ old.drained → IsOutlet released old → IsOutlet (released ++ one ∷ []) new
  one_waits old new one waiting drained is = record {
    drained = is.drained;
    count = is.count ∙ sym drained;
    parts = ap (λ (list : List Released). list ++ one ∷ []) is.parts
        ∙ (append_assoc is.drained old.waiting (one ∷ [])
        ∙ ap (λ (list : List Released). is.drained ++ list) (sym waiting));
  }

  -- the oldest is taken out
  abbrev pub one_out : (old new : Outgoing) (one : Released) → old.waiting ≡ one ∷ new.waiting →
      new.drained ≡ old.drained + 1 → IsOutlet released old → IsOutlet released new
  one_out old new one waiting drained is = record {
    drained = is.drained ++ one ∷ [];
    count = length-append is.drained (one ∷ []) ∙ (ap (λ (n : ℕ). n + 1) is.count ∙ sym drained);
    parts = is.parts
        ∙ (ap (λ (list : List Released). is.drained ++ list) waiting
        ∙ sym (append_assoc is.drained (one ∷ []) new.waiting));
  }

  pub drained_one : (old new : Outgoing) (one : Released) → old.waiting ≡ one ∷ new.waiting →
      new.drained ≡ old.drained + 1 → IsOutlet released old →
      take new.drained released ≡ take old.drained released ++ one ∷ []
  drained_one old new one waiting drained is =
      drained_are new (one_out old new one waiting drained is)
      ∙ ap (λ (list : List Released). list ++ one ∷ []) (sym (drained_are old is))

  -- where none waits, all were taken out
  pub all_out : (outlet : Outgoing) → outlet.waiting ≡ [] → IsOutlet released outlet →
      take outlet.drained released ≡ released
  all_out outlet none is = drained_are outlet is
      ∙ (sym (append-nil is.drained) ∙ (ap (λ (list : List Released). is.drained ++ list) (sym none) ∙ sym is.parts))

  pub as_many : (outlet : Outgoing) → IsOutlet released outlet → length (take outlet.drained released) ≡ outlet.drained
  as_many outlet is = ap (λ (list : List Released). length list) (drained_are outlet is) ∙ is.count

-- One packet's way through a chain without replicas.
use Rattle.std.proofs.Common.{◌≡◌, ◌≢◌, ◌⊎◌, ℕ, suc, ◌+◌, ◌<◌, ◌≤◌, nat_lt, if◌then◌else◌, Bool, true, false, List, []}
use Rattle.std.proofs.Common.{◌∷◌, ◌++◌, inl, inr, refl, sym, ap, subst, ◌∙◌, arith, ltb-true, Option, Some, None}
use Rattle.std.proofs.lemmas.Bool.{ltb-false}
use Rattle.ftc_base.specs.declared.limits.TheConstants.{FINISHING_SLOT}
use Rattle.ftc_journal.specs.declared.event.Event.{Event}
use Rattle.ftc_journal.specs.declared.event.Event.TheVariants.{Enter, Take, Visit, Pass, Release}
use Rattle.ftc_serial.specs.declared.step.Step.{Step}
use Rattle.ftc_serial.specs.Words.{each_below}
use Rattle.ftc_serial.specs.Serial.{State, Visited, Given}
use Rattle.ftc_serial.specs.Drive.{filtered_at, visit_events, take_events, server_events, release_events, packet_events}
use Rattle.ftc_protocol.specs.Setting.{Setting, servers, count}
use Rattle.ftc_protocol.specs.State.{ChainState, Held}
use Rattle.ftc_protocol.specs.Next.{next, outcome_at, bytes_withheld}
use Rattle.ftc_protocol.specs.Quiet.{IsQuiet}
use Rattle.ftc_protocol.proofs.Premises.{IsGood}
use Rattle.ftc_protocol.proofs.Places.{Waits, Passed, serial_of}
use Rattle.ftc_protocol.proofs.Invariant.{expected}
use Rattle.ftc_protocol.proofs.FilteredPackets.{stays_dropped, waits_visited, dropped_skips, passed_unfiltered}
use Rattle.ftc_protocol.proofs.Driven.{steps_with, IsAhead, Leads, Drives, ahead_of, none_more, one_more, both_drive}
use Rattle.ftc_protocol.proofs.Driven.{each_drives}
use Rattle.ftc_protocol.proofs.LoneFirst.{visit_first, pass_first, take_first, enter_first}
use Rattle.ftc_protocol.proofs.Lone.{IsIdle, IsAt, IsBuffered, IsGone, IsThrough, server_below}
use Rattle.ftc_protocol.proofs.Entering.{enter_legal, entered_at}
use Rattle.ftc_protocol.proofs.LoneVisit.{visit_legal, visited_here}
use Rattle.ftc_protocol.proofs.LonePass.{pass_legal, sent_on_link}
use Rattle.ftc_protocol.proofs.LoneTake.{take_legal, taken_there}
use Rattle.ftc_protocol.proofs.LastPass.{passed_through}
use Rattle.ftc_protocol.proofs.LoneRelease.{release_legal, released_then}

-- The packet's message stands before the middlebox of that server, or has left the last one.
abbrev HasCome : Setting → ℕ → ℕ → ChainState → Type 0
HasCome c p k s = ((k < servers c) × IsAt c s p (Held k false false)) ⊎ ((k ≡ servers c) × IsThrough c s p)

no_step : (k p : ℕ) (b : Bool) → steps_with (if b then Take k p ∷ [] else []) ≡ []
no_step k p true = refl
no_step k p false = refl

module _ (c : Setting) (good : IsGood c) (quiet : IsQuiet c) (alone : c.failures ≡ 0) (end : State) (p : ℕ) where
  -- the message leaves a server
  leaves : (s : ChainState) (k : ℕ) (visited : Bool) (at : IsAt c s p (Held k visited false)) →
      (visited ≡ true) ⊎ (at.message.packet ≡ None) → (rest : List Step) →
      IsAhead c end s (steps_with (take_events (servers c) k p) ++ rest)
      → Leads c end s (Pass k p ∷ take_events (servers c) k p) (HasCome c p (suc k)) rest
  leaves s k visited at done rest ahead =
      let passed = next c s (Pass k p) in
      let legal = pass_legal c good quiet alone s p k visited at done in
      let below : k < servers c = server_below c good alone s p k visited at in
      let on : IsAhead c end passed rest =
      subst (λ (steps : List Step). IsAhead c end s (steps ++ rest))
      (no_step k p (nat_lt (k + 1) (servers c))) ahead in
      elim (nat_lt (k + 1) (servers c)) as (λ b. nat_lt (k + 1) (servers c) ≡ b →
      Leads c end s (Pass k p ∷ (if b then Take k p ∷ [] else [])) (HasCome c p (suc k)) rest) [
        | true ↦ λ is.
            let less : k + 1 < servers c = ltb-true (k + 1) (servers c) is in
            let more : k + 1 ≢ servers c = λ same. absurd (omega (arith, same)) in
            let sent = sent_on_link c good quiet alone s p k visited at done more in
            let there : HasCome c p (suc k) (next c passed (Take k p)) =
            inl (omega arith, taken_there c good quiet passed p k more sent) in
            one_more c end (HasCome c p (suc k)) s (Pass k p) (Take k p
            ∷ []) rest (pass_first c good quiet alone s p k visited at done legal)
            (one_more c end (HasCome c p (suc k)) passed (Take k p) [] rest
            (take_first c passed p k sent (take_legal c good quiet passed p k more sent))
            (none_more c end (HasCome c p (suc k)) (next c passed (Take k p)) rest there on))
        | false ↦ λ isnt.
            let least : servers c ≤ k + 1 = ltb-false (k + 1) (servers c) isnt in
            let last : k + 1 ≡ servers c = omega arith in
            let there : HasCome c p (suc k) passed =
            inr (omega arith, passed_through c good quiet alone s p k visited at done last) in
            one_more c end (HasCome c p (suc k)) s (Pass k p) [] rest
            (pass_first c good quiet alone s p k visited at done legal)
            (none_more c end (HasCome c p (suc k)) passed rest there on)
      ] refl

  -- what one server does: a packet that is there visits it, and one that was dropped doesn't
  served : (s : ChainState) (k : ℕ) (at : IsAt c s p (Held k false false)) (rest : List Step) →
      IsAhead c end s (steps_with (server_events (servers c) p (filtered_at (end.place p)) k) ++ rest)
      → (packet : Option (List ℕ)) → at.message.packet ≡ packet →
      Leads c end s (server_events (servers c) p (filtered_at (end.place p)) k) (HasCome c p (suc k)) rest
  served s k at rest ahead None none_there =
      let before = at.gone none_there in
      let skips = dropped_skips c (steps_with (server_events (servers c) p (filtered_at (end.place p)) k)
      ++ rest) (serial_of c s.trace) end ahead p before.0 k before.2 before.1 in
      let visit : visit_events k p (filtered_at (end.place p)) ≡ [] =
      ap (λ b. if b then Visit k p FINISHING_SLOT ∷ [] else []) skips in
      subst (λ (events : List Event). Leads c end s (events ++ Pass k p ∷ take_events (servers c) k p)
      (HasCome c p (suc k)) rest) (sym visit)
      (leaves s k false at (inr none_there) rest
      (subst (λ (events : List Event). IsAhead c end s
      (steps_with (events ++ Pass k p ∷ take_events (servers c) k p) ++ rest)) visit ahead))
  served s k at rest ahead (Some bytes) packet =
      let inv = at.plain.reached.live.inv in
      let waits : (serial_of c s.trace).place p ≡ Waits k bytes =
      ((inv.messages p at.message at.there).under_way bytes packet).place ∙ ap
      (λ place. expected (servers c) place bytes) at.placed in
      let visited = waits_visited c (steps_with (server_events (servers c) p (filtered_at (end.place p)) k)
      ++ rest) (serial_of c s.trace) end ahead p k bytes waits in
      let visit : visit_events k p (filtered_at (end.place p)) ≡ Visit k p FINISHING_SLOT ∷ [] =
      ap (λ b. if b then Visit k p FINISHING_SLOT ∷ [] else []) visited in
      let then_there = visited_here c good quiet alone s p k at bytes packet FINISHING_SLOT in
      let entry = then_there.plain.reached.live.inv.world.serial.0 in
      let on = ahead_of c end (serial_of c s.trace) (Visited k p (outcome_at c s k p)) entry
      (steps_with (take_events (servers c) k p) ++ rest)
      (subst (λ (events : List Event). IsAhead c end s (steps_with (events ++ Pass k p ∷ take_events (servers c) k p)
      ++ rest)) visit ahead) in
      subst (λ (events : List Event). Leads c end s (events ++ Pass k p ∷ take_events (servers c) k p)
      (HasCome c p (suc k)) rest) (sym visit)
      (one_more c end (HasCome c p (suc k)) s (Visit k p FINISHING_SLOT) (Pass k p ∷ take_events (servers c) k p) rest
      (visit_first c good quiet alone s p k false at refl bytes packet
      (visit_legal c good quiet alone s p k at bytes packet FINISHING_SLOT))
      (leaves (next c s (Visit k p FINISHING_SLOT)) k true then_there (inl refl) rest on))

  serves : (k : ℕ) → k < servers c →
      Drives c end (HasCome c p k) (server_events (servers c) p (filtered_at (end.place p)) k) (HasCome c p (suc k))
  serves k less s come rest ahead = elim come [
    | inl here ↦ let at = here.1 in served s k at rest ahead at.message.packet refl
    | inr through ↦ absurd (omega (arith, through.0))
  ]

  passes_all : Drives c end (HasCome c p 0)
      (each_below (server_events (servers c) p (filtered_at (end.place p))) (servers c)) (HasCome c p (servers c))
  passes_all = each_drives c end (HasCome c p) (server_events (servers c) p (filtered_at (end.place p)))
      (servers c) serves

  -- behind the last server a packet that wasn't dropped is released
  ends : (s : ChainState) → IsThrough c s p → (rest : List Step) →
      IsAhead c end s (steps_with (release_events p (filtered_at (end.place p))) ++ rest)
      → IsBuffered c s p ⊎ IsGone c s p →
      Leads c end s (release_events p (filtered_at (end.place p))) (IsIdle c (suc p)) rest
  ends s through rest ahead (inl buffered) =
      let inv = through.plain.reached.live.inv in
      let passed : (serial_of c s.trace).place p ≡ Passed buffered.withheld.bytes =
      (inv.withheld p buffered.withheld buffered.there).place in
      let unfiltered = passed_unfiltered c (steps_with (release_events p (filtered_at (end.place p)))
      ++ rest) (serial_of c s.trace) end ahead p buffered.withheld.bytes passed in
      let idle = released_then c good quiet s p through.plain through.messages buffered in
      let entry = idle.plain.reached.live.inv.world.serial.0 in
      let on = ahead_of c end (serial_of c s.trace) (Given p (bytes_withheld (s.withheld p))) entry rest
      (subst (λ (dropped : Option ℕ). IsAhead c end s (steps_with (release_events p dropped)
      ++ rest)) unfiltered ahead) in
      subst (λ (dropped : Option ℕ). Leads c end s (release_events p dropped) (IsIdle c (suc p)) rest) (sym unfiltered)
      (one_more c end (IsIdle c (suc p)) s (Release p) [] rest
      (inl (refl, release_legal c good quiet s p through.plain through.messages buffered))
      (none_more c end (IsIdle c (suc p)) (next c s (Release p)) rest idle on))
  ends s through rest ahead (inr gone) =
      let filtered : filtered_at (end.place p) ≡ Some gone.server =
      ap filtered_at (stays_dropped c (steps_with (release_events p (filtered_at (end.place p)))
      ++ rest) (serial_of c s.trace) end ahead p gone.server gone.dropped) in
      let idle : IsIdle c (suc p) s =
      record { plain = through.plain; messages = through.messages; withheld = gone.withheld } in
      let on = subst (λ (dropped : Option ℕ). IsAhead c end s (steps_with (release_events p dropped)
      ++ rest)) filtered ahead in
      subst (λ (dropped : Option ℕ). Leads c end s (release_events p dropped) (IsIdle c (suc p)) rest) (sym filtered)
      (none_more c end (IsIdle c (suc p)) s rest idle on)

  releases : Drives c end (HasCome c p (servers c)) (release_events p (filtered_at (end.place p))) (IsIdle c (suc p))
  releases s come rest ahead = elim come [
    | inl less ↦ absurd (omega (arith, less.0))
    | inr through ↦ let out = through.1 in ends s out rest ahead out.left
  ]

  -- a packet's events lead from an idle chain to an idle chain
  pub drives_packet : p < count c →
      Drives c end (IsIdle c p) (packet_events (servers c) p (filtered_at (end.place p))) (IsIdle c (suc p))
  drives_packet below s idle rest ahead =
      let servers_do = each_below (server_events (servers c) p (filtered_at (end.place p))) (servers c) in
      let release = release_events p (filtered_at (end.place p)) in
      one_more c end (IsIdle c (suc p)) s (Enter p) (servers_do
      ++ release) rest (enter_first c s p idle (enter_legal c good quiet s p idle below))
      (both_drive c end (HasCome c p 0) (HasCome c p (servers c))
      (IsIdle c (suc p)) servers_do release passes_all releases
      (next c s (Enter p)) (inl (good.some, entered_at c good quiet s p idle below)) rest ahead)

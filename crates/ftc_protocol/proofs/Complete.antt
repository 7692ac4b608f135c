-- What is so of a finished run.
use Rattle.std.proofs.Common.{◌≡◌, ◌≢◌, ℕ, ◌+◌, ◌<◌, ◌≤◌, true, false, List, [], ◌∷◌, refl, sym, ap, subst, ◌∙◌, arith}
use Rattle.std.proofs.Common.{inl, inr, leb-true, Some, None, ◌↔◌}
use Rattle.std.specs.List.{AllByRecursion}
use Rattle.std.proofs.lemmas.Bool.{cases_eq, cases_lt, cases_Bool}
use Rattle.std.proofs.lemmas.Option.{none-some}
use Rattle.ftc_journal.specs.declared.event.Event.{Event}
use Rattle.ftc_journal.specs.declared.event.Event.TheVariants as event
use Rattle.ftc_script.specs.declared.line.ScriptLine.{ScriptLine}
use Rattle.ftc_script.specs.declared.line.ScriptLine.TheVariants.{Crash, Recover}
use Rattle.ftc_script.specs.Steps.{at_of, live_after_all}
use Rattle.ftc_protocol.specs.declared.fate.Fate.TheVariants.{Inside}
use Rattle.ftc_protocol.specs.Setting.{Setting, servers, count, is_member, IsSetting}
use Rattle.ftc_protocol.specs.Visits.{In}
use Rattle.ftc_protocol.specs.Trace.{IsChanging}
use Rattle.ftc_protocol.specs.State.{ChainState, Message, opening}
use Rattle.ftc_protocol.specs.Legal.{MayHappen}
use Rattle.ftc_protocol.specs.Recovery.{undone_visits}
use Rattle.ftc_protocol.specs.Next.{next}
use Rattle.ftc_protocol.specs.Run.{AreLegal, IsRun, IsFinished, state_after}
use Rattle.ftc_protocol.specs.Fates.{AreFates}
use Rattle.ftc_protocol.specs.Finish.{IsComplete}
use Rattle.ftc_protocol.proofs.Premises.{IsGood}
use Rattle.ftc_protocol.proofs.AcceptedSettings.{is_good, opens_fit}
use Rattle.ftc_protocol.proofs.Places.{serial_of}
use Rattle.ftc_protocol.proofs.ListStores.{store_all}
use Rattle.ftc_protocol.proofs.Soundness.{serial_runs, records_are}
use Rattle.ftc_protocol.proofs.FinishedState.{IsLive, keeps_live, live_opens, stuck, no_messages, quiet_gaps}
use Rattle.ftc_protocol.proofs.FullLists.{full}
use Rattle.ftc_protocol.proofs.ScriptLines.{IsLined, AreInOrder, all_later, keeps_lines, opens_lined}
use Rattle.ftc_protocol.proofs.InsidePackets.{AreFated, keeps_fates, opens_fated, are_fates}

-- all that holds of each state of a run
pub record IsReached (c : Setting) (s : ChainState) : Type 0 where
  pub live : IsLive c s
  pub lined : IsLined c s
  pub fated : AreFated c s

pub opens_reached : (c : Setting) → IsSetting c → IsReached c (opening c)
opens_reached c is = record {
  live = live_opens c (is_good c is) (opens_fit c is);
  lined = opens_lined c is;
  fated = opens_fated c;
}

pub keeps_reached : (c : Setting) → IsGood c → (s : ChainState) → IsReached c s → (e : Event) → MayHappen c s e →
    IsReached c (next c s e)
keeps_reached c good s r e legal = record {
  live = keeps_live c good s r.live e legal;
  lined = keeps_lines c s r.lined e legal;
  fated = keeps_fates c good s r.live.inv r.live.timed r.fated e legal;
}

pub reached_on : (c : Setting) → IsGood c → (journal : List Event) (s : ChainState) → IsReached c s →
    AreLegal c s journal → IsReached c (state_after c s journal)
reached_on c good [] s r legal = r
reached_on c good (e ∷ journal) s r legal =
    reached_on c good journal (next c s e) (keeps_reached c good s r e legal.0.0) legal.1

pub reached : (c : Setting) → IsSetting c → (journal : List Event) → IsRun c journal →
    IsReached c (state_after c (opening c) journal)
reached c is journal run = reached_on c (is_good c is) journal (opening c) (opens_reached c is) run

module _ (c : Setting) (good : IsGood c) (s : ChainState) (r : IsReached c s) (finished : IsFinished c s) where
  stop : (e : Event) → MayHappen c s e → ⊥
  stop = stuck c s finished

  -- where a line waits for more packets, one may enter
  waits : (lines : List ScriptLine) → s.lines ≡ lines → (at : ℕ) → s.entered ≤ at → at ≤ count c → at ≢ s.entered →
      AllByRecursion (λ (line : ScriptLine). at_of line ≢ s.entered) lines → ⊥
  waits lines is at le most other all =
      stop (event.Enter s.entered) (
        refl,
        omega arith,
        subst (λ l. AllByRecursion (λ (line : ScriptLine). at_of line ≢ s.entered) l) (sym is) all,
      )

  -- no line is left: the next is due, or a packet may enter
  no_lines : (lines : List ScriptLine) → s.lines ≡ lines → lines ≡ []
  no_lines [] is = refl
  no_lines (Crash at k ∷ lines) is =
      let order : AreInOrder s.entered (count c) (Crash at k ∷ lines) =
      subst (λ l. AreInOrder s.entered (count c) l) is r.lined.order in
      absurd (elim (cases_eq at s.entered) [
        | inl same ↦ stop (event.Crash k)
            (subst (λ l. Rattle.ftc_protocol.specs.Legal.IsNextLine l (Crash s.entered k)) (sym is)
            (ap (λ n. Crash n k) same))
        | inr other ↦ waits (Crash at k ∷ lines) is at (order.0) (order.1) other (
          λ e. omega arith,
          all_later lines s.entered (count c) at (let le = order.0 in omega arith) order.2,
        )
      ])
  no_lines (Recover at k ∷ lines) is =
      let order : AreInOrder s.entered (count c) (Recover at k ∷ lines) =
      subst (λ l. AreInOrder s.entered (count c) l) is r.lined.order in
      absurd (elim (cases_eq at s.entered) [
        | inl same ↦ stop (event.Recover k (undone_visits c s k)) (
          subst (λ l. Rattle.ftc_protocol.specs.Legal.IsNextLine l (Recover s.entered k)) (sym is)
              (ap (λ n. Recover n k) same),
          refl,
        )
        | inr other ↦ waits (Recover at k ∷ lines) is at (order.0) (order.1) other (
          λ e. omega arith,
          all_later lines s.entered (count c) at (let le = order.0 in omega arith) order.2,
        )
      ])

  none_left : s.lines ≡ []
  none_left = no_lines s.lines refl

  all_up : (server : ℕ) → server < servers c → s.up server ≡ true
  all_up server below = subst (λ l. live_after_all s.up l server ≡ true) none_left (r.lined.ends server below)

  gone : (p : ℕ) → s.message p ≡ None
  gone = no_messages c good s r.live all_up none_left finished

  gaps : (link : ℕ) → link < servers c → s.gap link ≡ false
  gaps = quiet_gaps c good s r.live all_up none_left finished

  all_in : s.entered ≡ count c
  all_in = elim (cases_lt s.entered (count c)) [
    | inl less ↦ absurd (stop (event.Enter s.entered) (
      refl,
      less,
      subst (λ l. AllByRecursion (λ (line : ScriptLine). at_of line ≢ s.entered) l) (sym none_left) tt,
    ))
    | inr more ↦ let most = r.live.timed.bounded in omega arith
  ]

  no_message : (p : ℕ) (m : Message) → s.message p ≡ Some m → ⊥
  no_message p m there = none-some m (sym (gone p) ∙ there)

  no_logs : (group packet : ℕ) → s.forwarder group packet ≡ false
  no_logs group packet = elim (cases_Bool (s.forwarder group packet)) [
    | inr isnt ↦ isnt
    | inl is ↦ absurd (stop (event.Propagate (count c + s.propagates)) (
      all_in,
      all_up,
      (λ q m there v place. no_message q m there),
      inl (group, packet, is),
      refl,
    ))
  ]

  none_withheld : (packet : ℕ) → s.withheld packet ≡ None
  none_withheld packet = elim (s.withheld packet) as (λ o. s.withheld packet ≡ o → o ≡ None) [
    | None ↦ λ e. refl
    | Some w ↦ λ e. absurd (stop (event.Propagate (count c + s.propagates)) (
      all_in,
      all_up,
      (λ q m there v place. no_message q m there),
      inr (record {
        messages = gone;
        gaps = gaps;
        packet = packet;
        withheld = λ none_there. none-some w (sym none_there ∙ e);
      }),
      refl,
    ))
  ] refl

  same_lists : (group server packet : ℕ) → server < servers c → is_member c group server ≡ true → group < servers c →
      In (s.lists server) group packet ↔ IsChanging c.partitions s.trace group packet
  same_lists group server packet below member group_below = (
    (λ is. (r.live.inv.world.lists.listed server group packet is).1),
    λ changing. full c s r.live all_up gone gaps no_logs group server packet below group_below
        (leb-true _ _ member) changing,
  )

  no_inside : (packet : ℕ) → packet < count c → s.fate packet ≢ Inside
  no_inside packet below is =
      let fates = are_fates c s r.fated in
      elim ((fates.inside packet (subst (λ n. packet < n) (sym all_in) below)).0 is) [
        | inl by ↦ no_message packet by.message by.there
        | inr by ↦ none-some by.withheld (sym (none_withheld packet) ∙ by.there)
      ]

  pub is_complete : IsComplete c s
  is_complete = record {
    lines = none_left;
    up = all_up;
    entered = all_in;
    message = gone;
    forwarder = no_logs;
    gap = gaps;
    withheld = none_withheld;
    lists = same_lists;
    end = serial_of c s.trace;
    serial = serial_runs c s.trace r.live.inv.world.serial;
    released = records_are c s.trace;
    stores = λ group server below member group_below.
        store_all c good.sound s.trace r.live.inv.world.serial group (s.lists server group)
        (λ packet changing. (same_lists group server packet below member group_below).1 changing);
    fates = no_inside;
  }

pub completes : (c : Setting) → IsSetting c → (journal : List Event) → IsRun c journal →
    IsFinished c (state_after c (opening c) journal) → IsComplete c (state_after c (opening c) journal)
completes c is journal run finished =
    is_complete c (is_good c is) (state_after c (opening c) journal) (reached c is journal run) finished

pub fates_of_run : (c : Setting) → IsSetting c → (journal : List Event) → IsRun c journal →
    AreFates (state_after c (opening c) journal)
fates_of_run c is journal run =
    are_fates c (state_after c (opening c) journal) (let at = reached c is journal run in at.fated)

-- The packets of a buffer that are due.
use Rattle.std.proofs.Common.{◌≡◌, ◌∙◌, ◌<◌, ◌≤◌, ◌+◌, ◌==◌, ◌⊎◌, ◌++◌, ◌∷◌, ℕ, Bool, true, false, List, [], Option}
use Rattle.std.proofs.Common.{Some, None, refl, sym, ap, subst, cond, inl, inr, arith}
use Rattle.std.specs.Prelude.{◌↔◌}
use Rattle.std.specs.List.{find, AllByRecursion, before_first, after_first}
use Rattle.std.proofs.lemmas.Bool.{eq-eqb, eqb-true}
use Rattle.ftc_base.proofs.Firsts.{around_found, none_before, test_of_found}
use Rattle.ftc_edge.specs.declared.buffer.Withheld.{Withheld as WithheldPacket}
use Rattle.ftc_edge.specs.Due.{is_due, first_due}
use Rattle.ftc_journal.specs.declared.event.Event.TheVariants as event
use Rattle.ftc_protocol.specs.Setting.{Setting, servers}
use Rattle.ftc_protocol.specs.State.{ChainState, Withheld}
use Rattle.ftc_protocol.specs.Known.{IsDue}
use Rattle.ftc_protocol.specs.Legal.{MayHappen}
use Rattle.ftc_protocol.specs.Next.{bytes_withheld}
use Rattle.ftc_standing.specs.Arrivals.{kept_of, IsKeptAs, IsSooner, AreArrived}
use Rattle.ftc_standing.specs.View.{withheld_at}
use Rattle.ftc_standing.specs.Stand.{IsWithheldAs, AreWithheld, time_of, packet_of}
use Rattle.ftc_standing.proofs.Arriving.{behind, kept_for, there_here}
use Rattle.ftc_refinement.proofs.Messages.{found_is}

-- where what is found stands
which : {A : Type 0} (test : A → Bool) (before : List A) (item : A) (after : List A) (x : A) →
    find test (before ++ item ∷ after) ≡ Some x → (find test before ≡ Some x)
    ⊎ ((item ≡ x) ⊎ (find test after ≡ Some x))
which {A} test [] item after x found =
    elim (test item) as (λ b. cond b (Some item) (find test after) ≡ Some x →
    (find test [] ≡ Some x) ⊎ ((item ≡ x) ⊎ (find test after ≡ Some x))) [
      | true ↦ λ same. inr (inl cc)
      | false ↦ λ later. inr (inr later)
    ] found
which {A} test (y ∷ before) item after x found =
    elim (test y) as (λ b. cond b (Some y) (find test (before ++ item ∷ after)) ≡ Some x →
    (cond b (Some y) (find test before) ≡ Some x) ⊎ ((item ≡ x) ⊎ (find test after ≡ Some x))) [
      | true ↦ λ same. inl same
      | false ↦ λ later. which test before item after x later
    ] found

not_later : (one other : ℕ) → one < other → one ≤ other
not_later one other less = omega (arith, less)

module _ (setting : Setting) (state : ChainState) (server : ℕ) (last : server + 1
    ≡ servers setting) (known : List (List ℕ))
    (items : List WithheldPacket) (are : AreWithheld setting state server items)
    (said : (packet : ℕ) (waiting : Withheld) (item : WithheldPacket) → state.withheld packet ≡ Some waiting →
    IsWithheldAs setting state packet waiting item →
    (is_due known item ≡ true) ↔ IsDue setting state packet waiting) where
  at_last : (packet : ℕ) → withheld_at setting state server packet ≡ state.withheld packet
  at_last packet = ap (λ b. cond b (state.withheld packet) None) (eq-eqb (server + 1) (servers setting) last)

  -- the packet that is kept for a withheld one that is due is due
  kept_due : (packet : ℕ) (waiting : Withheld) → IsDue setting state packet waiting →
      (item : WithheldPacket) × (kept_of packet_of packet items ≡ Some item) × (is_due known item ≡ true)
  kept_due packet waiting due =
      let kept = kept_for time_of packet_of (IsWithheldAs setting state) packet waiting (kept_of packet_of packet items)
      (subst (λ o. IsKeptAs (IsWithheldAs setting state) packet o (kept_of packet_of packet items))
      (at_last packet ∙ due.0)
      (are.each packet)) in
      (kept.0, kept.1, (said packet waiting kept.0 due.0 kept.2).1 due)

  pub none_due : AllByRecursion (λ item. is_due known item ≡ false) items → (packet : ℕ) (waiting : Withheld) →
      IsDue setting state packet waiting → ⊥
  none_due none packet waiting due =
      let kept = kept_due packet waiting due in
      let isnt = found_is (λ (item : WithheldPacket). is_due known item
      ≡ false) (λ item. packet_of item == packet) items kept.0
      none kept.1 in
      let is = kept.2 in
      let no = isnt.0 in
      absurd cc

  module _ (due : WithheldPacket) (first : first_due known items ≡ Some due) where
    abbrev before : List WithheldPacket
    before = before_first (is_due known) items

    abbrev after : List WithheldPacket
    after = after_first (is_due known) items

    parts : items ≡ before ++ due ∷ after
    parts = around_found (is_due known) items due first

    abbrev Are : List WithheldPacket → Type 0
    Are list = AreArrived time_of packet_of (IsWithheldAs setting state) (withheld_at setting state server) list

    apart : Are (before ++ due ∷ after)
    apart = subst Are parts are

    here : (waiting : Withheld) × (withheld_at setting state server due.packet ≡ Some waiting)
        × IsWithheldAs setting state due.packet waiting due
    here = there_here time_of packet_of (IsWithheldAs setting state)
        (withheld_at setting state server) before due after apart

    there : state.withheld due.packet ≡ Some here.0
    there = sym (at_last due.packet) ∙ here.1

    abbrev Sooner : WithheldPacket → WithheldPacket → Type 0
    Sooner one other = IsSooner time_of (withheld_at setting state server) (packet_of one) (packet_of other)

    not_sooner : (packet : ℕ) (waiting : Withheld) → IsDue setting state packet waiting → here.0.since ≤ waiting.since
    not_sooner packet waiting its =
        let kept = kept_due packet waiting its in
        let test = λ (item : WithheldPacket). packet_of item == packet in
        let found = ap (find test) (sym parts) ∙ kept.1 in
        let there_too = at_last packet ∙ its.0 in
        elim (which test before due after kept.0 found) [
          | inl sooner ↦
              let isnt = found_is (λ (item : WithheldPacket). is_due known item ≡ false) test before kept.0
              (none_before (is_due known) items) sooner in
              let no = isnt.0 in
              let is = kept.2 in
              absurd cc
          | inr (inl same) ↦
              let named = eqb-true (packet_of kept.0) packet
              (found_is (λ (item : WithheldPacket). item ≡ item) test items kept.0 (all_same items) kept.1).1 in
              let both = sym there ∙ (ap (λ (item : WithheldPacket). state.withheld item.packet) same
              ∙ (ap state.withheld named ∙ its.0)) in
              same_since here.0 waiting both
          | inr (inr later) ↦
              let behind_it = found_is (Sooner due) test after kept.0
              (behind Sooner before due after apart.order) later in
              let named = eqb-true (packet_of kept.0) packet behind_it.1 in
              not_later here.0.since waiting.since
              (behind_it.0 here.0 waiting here.1 (ap (withheld_at setting state server) named ∙ there_too))
        ]
      where
        all_same : (list : List WithheldPacket) → AllByRecursion (λ (item : WithheldPacket). item ≡ item) list
        all_same [] = tt
        all_same (item ∷ list) = (refl, all_same list)

        same_since : (one other : Withheld) → Some one ≡ Some other → one.since ≤ other.since
        same_since one other same =
            let since : one.since ≡ other.since = ap since_in same in omega (arith, since)
          where
            since_in : Option Withheld → ℕ
            since_in None = 0
            since_in (Some waiting) = waiting.since

    pub first_may : MayHappen setting state (event.Release due.packet)
    first_may = (
      here.0,
      (said due.packet here.0 due there here.2).0 (test_of_found (is_due known) items due first),
      not_sooner,
    )

    pub first_bytes : bytes_withheld (state.withheld due.packet) ≡ due.bytes
    first_bytes = ap bytes_withheld there ∙ sym here.2.bytes

-- The lines that a translator's store has after a run are the port table of the run.
use Rattle.std.proofs.Common.{◌≡◌, ◌≤◌, ◌<◌, ◌↔◌, ◌∙◌, ◌⊎◌, inl, inr, refl, sym, ap, ap₂, subst, ℕ, ◌==◌, Bool, true}
use Rattle.std.proofs.Common.{false, T, List, [], ◌∷◌, map, length, Option, Some, None, arith, eqb-true, eq-eqb}
use Rattle.std.specs.Prelude.{◌&&◌, slice_get, if◌then◌else◌, IsSome}
use Rattle.std.specs.Int.{w16, w32, to_be_bytes, from_be_bytes}
use Rattle.std.specs.List.{AllByRecursion, Contains, IsDistinct, filter_map, cons_option}
use Rattle.std.specs.List.Sorted.{IsPermutation, IsNonDecreasingBy}
use Rattle.std.specs.Ordering.{is_lt, nat_cmp}
use Rattle.std.specs.Cmp.Lexicographic.{slice_cmp}
use Rattle.std.specs.FinMap.{entries, get, get-empty, is_sorted}
use Rattle.std.specs.FinMap.Entries.{below_all}
use Rattle.std.proofs.lemmas.Nat.{from_be_bytes-to_be_bytes_2, from_be_bytes-to_be_bytes_4}
use Rattle.std.proofs.lemmas.Option.{slice_get_within, same_Some}
use Rattle.std.proofs.lemmas.List.Sorted.{Contains-permutation, IsPermutation-sym}
use Rattle.std.proofs.lemmas.Map.Keys.{IsDistinct-cons, IsDistinct-head, IsDistinct-tail}
use Rattle.ftc_base.specs.Ask.{number_in}
use Rattle.ftc_packet.specs.Layout.{AreBytes}
use Rattle.ftc_nat.specs.declared.rule.NatRule.{NatRule}
use Rattle.ftc_nat.specs.Bounds.{IsNatRule}
use Rattle.ftc_store.specs.Store.{Content}
use Rattle.ftc_store.specs.Pairs.{key_value}
use Rattle.ftc_store.specs.declared.pairs.Pair.{Pair}
use Rattle.ftc_mbox.specs.Bounds.{IsRule}
use Rattle.ftc_mbox.specs.declared.rule.Rule.{Rule}
use Rattle.ftc_mbox.specs.declared.rule.Rule.TheVariants.{Pass, Monitor, Nat, Firewall, Balance}
use Rattle.ftc_serial.specs.declared.step.Step.{Step}
use Rattle.ftc_serial.specs.Words.{AnyOf}
use Rattle.ftc_serial.specs.Serial.{State, serial_opening, serial_run}
use Rattle.ftc_serial.proofs.Functions.{any_of_all}
use Rattle.ftc_audit.specs.declared.line.PortLine.{PortLine}
use Rattle.ftc_audit.specs.Visits.{Seen, Gave, visits}
use Rattle.ftc_audit.specs.Ports.{port_line_of, SameInside}
use Rattle.ftc_audit.specs.Stored.{line_at, line_in, is_nat}
use Rattle.ftc_audit.specs.Table.{IsPortTable, IsTableOf, HasNat, AreApart, AreNamed}
use Rattle.ftc_audit.proofs.ByteRuns.{rule_at, stay_bytes}
use Rattle.ftc_audit.proofs.Runs.{end_of, ends_given}
use Rattle.ftc_audit.proofs.Translating.{IsPortKey, HasPort, Holds, translating}
use Rattle.ftc_audit.proofs.PortLaw.{IsPortLine, key_of, gave_fits, gave_named, same_inside, same_key, starts_holding}
use Rattle.ftc_audit.proofs.PortLaw.{ports_apart}
use Rattle.ftc_audit.proofs.Coming.{IsOf, ends_there, ends_come}
use Rattle.ftc_audit.proofs.Lists.{any_of_contains, contains_any, all_contained, any_weaker, from_item, of_item}
use Rattle.ftc_audit.proofs.Lists.{distinct_moved, rise}
use Rattle.ftc_audit.proofs.StoredPairs.{IsAt, front, behind, below_itself, in_order, in_content, in_pairs}

abbrev outside : PortLine → ℕ
outside line = line.outside

-- a line's pair says the line
read_back : (line : PortLine) → IsPortLine line → line.outside ≤ 65535
    → line_at (key_of line) (to_be_bytes w16 line.outside) ≡ Some line
read_back line fits few =
    let out : from_be_bytes w16 (to_be_bytes w16 line.outside) ≡ line.outside =
    from_be_bytes-to_be_bytes_2 line.outside (omega (arith, few)) in
    let address : from_be_bytes w32 (to_be_bytes w32 line.address) ≡ line.address =
    from_be_bytes-to_be_bytes_4 line.address (omega (arith, fits.address)) in
    let port : from_be_bytes w16 (to_be_bytes w16 line.port) ≡ line.port =
    from_be_bytes-to_be_bytes_2 line.port (omega (arith, fits.port)) in
    λ i. Some (record { outside = out i; protocol = line.protocol; address = address i; port = port i })

same_line : (one other : PortLine) → SameInside one other → one.outside ≡ other.outside → one ≡ other
same_line one other same out = λ i. record {
  outside = out i;
  protocol = same.protocol i;
  address = same.address i;
  port = same.port i;
}

-- only a pair at an endpoint's key says a line
second_holds : {A : Type 0} (a b c : Bool) (x y : A) → (if a && b && c then Some x else None) ≡ Some y → b ≡ true
second_holds true true c x y told = refl
second_holds true false c x y told = absurd (cc)
second_holds false b c x y told = absurd (cc)

key_begins : (key value : List ℕ) (line : PortLine) → line_at key value ≡ Some line → IsPortKey key
key_begins [] value line told = absurd (cc)
key_begins (kind ∷ rest) value line told = (
  rest,
  ap (λ (n : ℕ). n ∷ rest) (eqb-true kind 102 (second_holds (length (kind ∷ rest) == 8) (kind == 102)
      (length value == 2) _ line told)),
)

nil_distinct : IsDistinct (λ (x y : ℕ). x == y) []
unfolding IsDistinct
nil_distinct = tt

module _ (rules : List Rule) (packets : List (List ℕ)) (steps : List Step) (server : ℕ) (rule : NatRule)
    (all : AllByRecursion IsRule rules) (bytes : AllByRecursion AreBytes packets)
    (known : slice_get rules server ≡ Some (Nat rule)) where
  abbrev run : List Seen
  run = visits rules (serial_opening packets) steps

  abbrev IsGiven : PortLine → Type 0
  IsGiven line = Gave (port_line_of rule) server run line

  abbrev pub content_then : Content
  content_then = (end_of rules (serial_opening packets) steps).maps server

  is_rule : IsNatRule rule
  is_rule = rule_at rules server (Nat rule) all known

  fits : (line : PortLine) → IsGiven line → IsPortLine line
  fits line gave = gave_fits rule server run line (stay_bytes rules packets steps all bytes) gave

  law : (one other : PortLine) → IsGiven one → IsGiven other → SameInside one other ↔ (one.outside ≡ other.outside)
  law one other gave given = ports_apart rules packets steps server rule one other all bytes known gave given

  -- what stands at an endpoint's key was given
  stored : (key value : List ℕ) → IsPortKey key → get content_then key ≡ Some value → IsOf rule server run key value
  stored key value begins has =
      elim (ends_come rule is_rule.last rules server known (serial_opening packets) steps key value begins has) [
        | inl before ↦
            let none : None ≡ Some value = sym (get-empty (slice_cmp nat_cmp) key) ∙ before in
            absurd (cc)
        | inr is ↦ is
      ]

  tells : (key value : List ℕ) (is : IsOf rule server run key value) → line_at key value ≡ Some is.line
  tells key value is =
      ap₂ line_at is.at is.has
      ∙ read_back is.line (fits is.line is.gave) (omega (arith, is.few, is_rule.last))

  says : (key value : List ℕ) (line : PortLine) → get content_then key ≡ Some value → line_at key value ≡ Some line
      → (key ≡ key_of line) × IsGiven line
  says key value line has told =
      let is = stored key value (key_begins key value line told) has in
      let same : is.line ≡ line = same_Some is.line line (sym (tells key value is) ∙ told) in
      (is.at ∙ ap key_of same, subst IsGiven same is.gave)

  has_line : (line : PortLine) → IsGiven line → HasPort content_then line
  has_line line gave =
      ends_given (Nat rule) (port_line_of rule) (Holds rule) HasPort
      (translating rule is_rule.last) rules server known line
      (serial_opening packets) steps (starts_holding rule) gave

  -- the lines of the listed pairs
  module _ (pairs : List Pair) (listed : map key_value pairs ≡ entries content_then) where
    abbrev Known : Pair → Type 0
    Known pair = get content_then pair.key ≡ Some pair.value

    abbrev told : List PortLine
    told = filter_map line_in pairs

    all_known : AllByRecursion Known pairs
    all_known = all_contained Known pairs (λ pair there. in_content pairs content_then listed pair.key pair.value
        (any_weaker (λ (other : Pair). other ≡ pair) (IsAt pair.key pair.value) pairs
        (λ other same. (ap (λ (p : Pair). p.key) same, ap (λ (p : Pair). p.value) same))
        (any_of_contains pairs pair there)))

    gave_told : (line : PortLine) → Contains told line → IsGiven line
    gave_told line there =
        any_of_all (λ (pair : Pair). line_in pair ≡ Some line) Known pairs
        (λ pair is has. (says pair.key pair.value line has is).1)
        (from_item line_in pairs line (any_of_contains told line there)) all_known

    is_there : (line : PortLine) → IsGiven line → AnyOf (λ (pair : Pair). line_in pair ≡ Some line) pairs
    is_there line gave =
        elim (get content_then (key_of line)) as (λ (o : Option (List ℕ)). get content_then (key_of line) ≡ o
        → AnyOf (λ (pair : Pair). line_in pair ≡ Some line) pairs) [
          | None ↦ λ none.
              let nothing : None ≡ Some line.outside = sym (ap (number_in w16) none) ∙ has_line line gave in
              absurd (cc)
          | Some value ↦ λ has.
              let is = stored (key_of line) value (_, refl) has in
              let ends = same_inside line is.line (fits line gave) (fits is.line is.gave) is.at in
              let same : line ≡ is.line = same_line line is.line ends ((law line is.line gave is.gave).0 ends) in
              any_weaker (IsAt (key_of line) value) (λ (pair : Pair). line_in pair ≡ Some line) pairs
              (λ pair at. ap₂ line_at at.0 at.1 ∙ (tells (key_of line) value is ∙ ap Some (sym same)))
              (in_pairs pairs content_then listed (key_of line) value has)
        ] refl

    told_gave : (line : PortLine) → IsGiven line → Contains told line
    told_gave line gave = contains_any told line (of_item line_in pairs line (is_there line gave))

    -- two pairs at different keys don't say one outside port
    differ : (pair other : Pair) (line also : PortLine) → line_in pair ≡ Some line → line_in other ≡ Some also
        → Known pair → Known other → T (is_lt (slice_cmp nat_cmp pair.key other.key))
        → (line.outside == also.outside) ≡ false
    differ pair other line also is too has had less =
        elim (line.outside == also.outside) as (λ b. (line.outside == also.outside) ≡ b → b ≡ false) [
          | true ↦ λ same.
              let one = says pair.key pair.value line has is in
              let two = says other.key other.value also had too in
              let ends = (law line also one.1 two.1).1 (eqb-true line.outside also.outside same) in
              let keys : pair.key ≡ other.key = one.0 ∙ (same_key line also ends ∙ sym two.0) in
              absurd (below_itself pair.key (subst (λ (k : List ℕ). T (is_lt (slice_cmp nat_cmp pair.key k))) (sym keys)
              less))
          | false ↦ λ _. refl
        ] refl

    differ_all : (pair : Pair) (line : PortLine) → line_in pair ≡ Some line → Known pair → (others : List Pair)
        → T (below_all (slice_cmp nat_cmp) pair.key (map key_value others)) → AllByRecursion Known others
        → AllByRecursion (λ n. (line.outside == n) ≡ false) (map outside (filter_map line_in others))
    differ_all pair line is has [] below knows = tt
    differ_all pair line is has (other ∷ others) below knows =
        let more = differ_all pair line is has others (behind _ _ below) knows.1 in
        elim (line_in other) as (λ (o : Option PortLine). line_in other ≡ o
        → AllByRecursion (λ n. (line.outside == n) ≡ false) (map outside (cons_option o (filter_map line_in others)))) [
          | None ↦ λ _. more
          | Some also ↦ λ too. (differ pair other line also is too has knows.0 (front _ _ below), more)
        ] refl

    distinct : (others : List Pair) → T (is_sorted (slice_cmp nat_cmp) (map key_value others))
        → AllByRecursion Known others → IsDistinct (λ x y. x == y) (map outside (filter_map line_in others))
    distinct [] sorted knows = nil_distinct
    distinct (pair ∷ others) sorted knows =
        let more = distinct others (behind _ _ sorted) knows.1 in
        elim (line_in pair) as (λ (o : Option PortLine). line_in pair ≡ o
        → IsDistinct (λ x y. x == y) (map outside (cons_option o (filter_map line_in others)))) [
          | None ↦ λ _. more
          | Some line ↦ λ is. IsDistinct-cons (λ x y. x == y) line.outside (map outside (filter_map line_in others))
              (differ_all pair line is knows.0 others (front _ _ sorted) knows.1) more
        ] refl

    module _ (lines : List PortLine) (moved : IsPermutation told lines) (sorted : IsNonDecreasingBy outside lines) where
      given : (line : PortLine) → Contains lines line → IsGiven line
      given line there =
          gave_told line (Contains-permutation lines told line (IsPermutation-sym told lines moved) there)

      lines_distinct : IsDistinct (λ x y. x == y) (map outside lines)
      lines_distinct = distinct_moved outside told lines moved
          (distinct pairs (in_order pairs content_then listed) all_known)

      all_given : AllByRecursion IsGiven lines
      all_given = all_contained IsGiven lines given

      pub table : IsPortTable rule server run lines
      table = record {
        given = λ line. (given line, λ gave. Contains-permutation told lines line moved (told_gave line gave));
        rising = rise outside lines sorted lines_distinct;
      }

      apart_from : (line : PortLine) → IsGiven line → (others : List PortLine) → AllByRecursion IsGiven others
          → AllByRecursion (λ n. (line.outside == n) ≡ false) (map outside others)
          → AllByRecursion (λ other. ¬ SameInside line other) others
      apart_from line gave [] gives differs = tt
      apart_from line gave (other ∷ others) gives differs = (
        λ same.
            let yes = eq-eqb line.outside other.outside ((law line other gave gives.0).0 same) in
            absurd (cc),
        apart_from line gave others gives.1 differs.1,
      )

      each_apart : (others : List PortLine) → AllByRecursion IsGiven others
          → IsDistinct (λ x y. x == y) (map outside others) → AreApart others
      each_apart [] gives differs = tt
      each_apart (line ∷ others) gives differs = (
        apart_from line gives.0 others gives.1 (IsDistinct-head (λ x y. x == y) line.outside (map outside others)
            differs),
        each_apart others gives.1 (IsDistinct-tail (λ x y. x == y) line.outside (map outside others) differs),
      )

      pub apart : AreApart lines
      apart = each_apart lines all_given lines_distinct

      pub named : AreNamed lines
      named = all_contained (λ (line : PortLine). (line.protocol ≡ 6) ⊎ (line.protocol ≡ 17)) lines
          (λ line there. gave_named rule server run line (given line there))

-- a translator that a test finds at a server, and the server is one of the chain's
nat_is : (rule : Rule) → is_nat (Some rule) ≡ true → (nat : NatRule) × (rule ≡ Nat nat)
nat_is Pass is = absurd (cc)
nat_is (Monitor groups) is = absurd (cc)
nat_is (Nat nat) is = (nat, refl)
nat_is (Firewall rule) is = absurd (cc)
nat_is (Balance rule) is = absurd (cc)

pub nat_there : (rules found : List Rule) (server : ℕ) → found ≡ rules → is_nat (slice_get found server) ≡ true
    → HasNat rules server
nat_there rules found server same is =
    elim (slice_get rules server) as (λ (o : Option Rule). slice_get rules server ≡ o → is_nat o ≡ true
    → HasNat rules server) [
      | None ↦ λ _ none. absurd (cc)
      | Some rule ↦ λ there some. let nat = nat_is rule some in (nat.0, there ∙ ap Some nat.1)
    ] refl (subst (λ (xs : List Rule). is_nat (slice_get xs server) ≡ true) same is)

pub nat_within : (rules : List Rule) (server : ℕ) → HasNat rules server → server < length rules
nat_within rules server has = slice_get_within rules server _ has.1

-- what is read from the store at the end of a run
pub record IsRead (rules : List Rule) (packets : List (List ℕ)) (steps : List Step) (server : ℕ)
    (lines : List PortLine) : Type 0 where
  pub table : IsTableOf rules packets steps server lines
  pub apart : AreApart lines
  pub named : AreNamed lines

pub read : (rules : List Rule) (packets : List (List ℕ)) (steps : List Step) (server : ℕ) (end : State)
    (content : Content) (items pairs : List Pair) (lines : List PortLine) → AllByRecursion IsRule rules
    → AllByRecursion AreBytes packets → HasNat rules server
    → serial_run rules (serial_opening packets) steps ≡ Some end → content ≡ end.maps server
    → map key_value pairs ≡ entries content → items ≡ pairs → IsPermutation (filter_map line_in items) lines
    → IsNonDecreasingBy outside lines → IsRead rules packets steps server lines
read rules packets steps server end content items pairs lines all bytes (rule, known) ran is listed same moved sorted =
    let there : end_of rules (serial_opening packets) steps ≡ end =
    ends_there rules (serial_opening packets) steps end ran in
    let now : content ≡ content_then rules packets steps server rule all bytes known =
    is ∙ sym (ap (λ (state : State). state.maps server) there) in
    let whole : map key_value items ≡ entries (content_then rules packets steps server rule all bytes known) =
    ap (map key_value) same ∙ (listed ∙ ap entries now) in
    record {
      table = record {
        rule = rule;
        nat = known;
        run = subst IsSome (sym ran) refl;
        table = table rules packets steps server rule all bytes known items whole lines moved sorted;
      };
      apart = apart rules packets steps server rule all bytes known items whole lines moved sorted;
      named = named rules packets steps server rule all bytes known items whole lines moved sorted;
    }

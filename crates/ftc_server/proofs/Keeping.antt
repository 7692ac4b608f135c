-- Tickets of which only some stay.
use Rattle.std.proofs.Common.{◌≡◌, ◌∙◌, ℕ, Bool, true, false, List, [], ◌∷◌, ◌++◌}
use Rattle.std.proofs.Common.{Option, Some, None, refl, sym, ap, subst}
use Rattle.std.proofs.Common.{cond, get_or, length, not, ◌<◌, ◌≤◌, ◌+◌, arith, take}
use Rattle.std.specs.Prelude.{◌==◌, ◌&&◌, ◌||◌, is_some}
use Rattle.std.specs.List.{filter}
use Rattle.std.proofs.lemmas.Bool.{eqb-true, eq-eqb}
use Rattle.std.proofs.lemmas.Bool.Decides.{nat_tests}
use Rattle.std.proofs.lemmas.List.{append-nil, take_more}
use Rattle.ftc_server.specs.declared.held.HeldMessage.{HeldMessage}
use Rattle.ftc_server.specs.declared.tickets.Ticket.{Ticket}
use Rattle.ftc_server.specs.Holding.{rests, found, is_held, origins_of}
use Rattle.ftc_server.specs.Tickets.{AreRising, AreBelow, AreDistinct, AreTickets, awake_numbers, is_among, number_of}
use Rattle.ftc_server.specs.Tickets.{resting_origins, ticket_numbers, ticket_origins}
use Rattle.ftc_server.proofs.Ticketing.{among_head, none_resting, rising_later}

abbrev Held : Type 0
Held = HeldMessage

-- ---- messages that are forgotten one by one

held_behind : (items : List Held) (held : Held) (origin : ℕ)
    → is_held origin (items ++ held ∷ []) ≡ is_held origin items || (held.message.origin == origin)
held_behind [] held origin =
    elim (held.message.origin == origin) as (λ t. is_some (cond t (Some held) None) ≡ t) [ true ↦ refl | false ↦ refl ]
held_behind (x ∷ items) held origin =
    elim (x.message.origin == origin) as (λ t. is_some (cond t (Some x) (found origin (items ++ held ∷ [])))
    ≡ is_some (cond t (Some x) (found origin items)) || (held.message.origin == origin)) [
      | true ↦ refl
      | false ↦ held_behind items held origin
    ]

filter_behind : (test : Held → Bool) (items : List Held) (held : Held)
    → filter test (items ++ held ∷ []) ≡ filter test items ++ cond (test held) (held ∷ []) []
filter_behind test [] held = refl
filter_behind test (x ∷ items) held =
    elim (test x) as (λ t. cond t (x ∷ filter test (items ++ held ∷ [])) (filter test (items ++ held ∷ []))
    ≡ cond t (x ∷ filter test items) (filter test items) ++ cond (test held) (held ∷ []) []) [
      | true ↦ ap (λ (rest : List Held). x ∷ rest) (filter_behind test items held)
      | false ↦ filter_behind test items held
    ]

-- among those so far and one more
pub filter_next : (test : Held → Bool) (items : List Held) (place : ℕ) (held : Held) → place < length items
    → held ≡ get_or items place held
    → filter test (take (place + 1) items) ≡ filter test (take place items) ++ cond (test held) (held ∷ []) []
filter_next test items place held within is =
    ap (filter test) (take_more items place held within)
    ∙ ap (λ (x : Held). filter test (take place items ++ x ∷ [])) (sym is)
    ∙ filter_behind test (take place items) held

forgets_both : (a b : Bool) (rest : Option ℕ) → cond b None (cond a None rest) ≡ cond (a || b) None rest
forgets_both true true rest = refl
forgets_both true false rest = refl
forgets_both false b rest = refl

pub one_forgotten : (test : Held → Bool) (items : List Held) (place : ℕ) (held : Held) (origin : ℕ)
    (before after rest : Option ℕ) → place < length items → held ≡ get_or items place held → test held ≡ true
    → before ≡ cond (is_held origin (filter test (take place items))) None rest
    → after ≡ cond (held.message.origin == origin) None before
    → after ≡ cond (is_held origin (filter test (take (place + 1) items))) None rest
one_forgotten test items place held origin before after rest within is lacks was now =
    let so_far = filter test (take place items) in
    now ∙ ap (cond (held.message.origin == origin) None) was
    ∙ forgets_both (is_held origin so_far) (held.message.origin == origin) rest
    ∙ sym (ap (λ (b : Bool). cond b None rest) (held_behind so_far held origin))
    ∙ sym (ap (λ (list : List Held). cond (is_held origin list) None rest)
    (filter_next test items place held within is ∙ ap (λ (t : Bool). so_far ++ cond t (held ∷ []) []) lacks))

pub none_forgotten : (test : Held → Bool) (items : List Held) (place : ℕ) (held : Held) (origin : ℕ)
    (before rest : Option ℕ) → place < length items → held ≡ get_or items place held → test held ≡ false
    → before ≡ cond (is_held origin (filter test (take place items))) None rest
    → before ≡ cond (is_held origin (filter test (take (place + 1) items))) None rest
none_forgotten test items place held origin before rest within is lacks was =
    let so_far = filter test (take place items) in
    was ∙ sym (ap (λ (list : List Held). cond (is_held origin list) None rest)
    (filter_next test items place held within is ∙ ap (λ (t : Bool). so_far ++ cond t (held ∷ []) []) lacks
    ∙ append-nil so_far))

-- ---- tickets by their origin

-- the tickets of the origins that stay
abbrev pub kept_of : (ℕ → Bool) → List Ticket → List Ticket
kept_of stays tickets = filter (λ (ticket : Ticket). stays ticket.origin) tickets

rising_kept : (stays : ℕ → Bool) (first : ℕ) (tickets : List Ticket) → AreRising first (ticket_numbers tickets)
    → AreRising first (ticket_numbers (kept_of stays tickets))
rising_kept stays first [] rising = tt
rising_kept stays first (x ∷ tickets) rising =
    let here : first ≤ x.number = rising.0 in
    let rest = rising_kept stays (x.number + 1) tickets rising.1 in
    elim (stays x.origin) as (λ t. AreRising first (ticket_numbers (cond t (x ∷ kept_of stays tickets)
    (kept_of stays tickets)))) [
      | true ↦ (here, rest)
      | false ↦ rising_later first (x.number + 1) (ticket_numbers (kept_of stays tickets)) (omega arith) rest
    ]

below_kept : (stays : ℕ → Bool) (next : ℕ) (tickets : List Ticket) → AreBelow next (ticket_numbers tickets)
    → AreBelow next (ticket_numbers (kept_of stays tickets))
below_kept stays next [] below = tt
below_kept stays next (x ∷ tickets) below =
    let rest = below_kept stays next tickets below.1 in
    elim (stays x.origin) as (λ t. AreBelow next (ticket_numbers (cond t (x ∷ kept_of stays tickets)
    (kept_of stays tickets)))) [
      | true ↦ (below.0, rest)
      | false ↦ rest
    ]

-- an origin is among those that stay where it is there and stays
stays_first : (x origin : ℕ) (stays_x stays_it kept all : Bool) → (x ≡ origin → stays_x ≡ stays_it)
    → kept ≡ all && stays_it → cond stays_x ((x == origin) || kept) kept ≡ ((x == origin) || all) && stays_it
stays_first x origin stays_x stays_it kept all same is = grind (arith, nat_tests)

among_first : (x : Ticket) (origin : ℕ) (stays : Bool) (kept : List Ticket)
    → is_among origin (ticket_origins (cond stays (x ∷ kept) kept))
    ≡ cond stays ((x.origin == origin) || is_among origin (ticket_origins kept))
    (is_among origin (ticket_origins kept))
among_first x origin true kept = refl
among_first x origin false kept = refl

pub among_kept : (stays : ℕ → Bool) (tickets : List Ticket) (origin : ℕ)
    → is_among origin (ticket_origins (kept_of stays tickets))
    ≡ is_among origin (ticket_origins tickets) && stays origin
among_kept stays [] origin = refl
among_kept stays (x ∷ tickets) origin =
    among_first x origin (stays x.origin) (kept_of stays tickets)
    ∙ stays_first x.origin origin (stays x.origin) (stays origin)
    (is_among origin (ticket_origins (kept_of stays tickets))) (is_among origin (ticket_origins tickets))
    (λ same. ap stays same) (among_kept stays tickets origin)

distinct_kept : (stays : ℕ → Bool) (tickets : List Ticket) → AreDistinct (ticket_origins tickets)
    → AreDistinct (ticket_origins (kept_of stays tickets))
distinct_kept stays [] distinct = tt
distinct_kept stays (x ∷ tickets) distinct =
    let rest = distinct_kept stays tickets distinct.1 in
    let new : is_among x.origin (ticket_origins (kept_of stays tickets)) ≡ false =
    among_kept stays tickets x.origin ∙ ap (λ (t : Bool). t && stays x.origin) distinct.0 in
    elim (stays x.origin) as (λ t. AreDistinct (ticket_origins (cond t (x ∷ kept_of stays tickets)
    (kept_of stays tickets)))) [
      | true ↦ (new, rest)
      | false ↦ rest
    ]

number_first : (x : Ticket) (origin : ℕ) (stays : Bool) (kept : List Ticket)
    → number_of origin (cond stays (x ∷ kept) kept)
    ≡ cond stays (cond (x.origin == origin) (Some x.number) (number_of origin kept)) (number_of origin kept)
number_first x origin true kept = refl
number_first x origin false kept = refl

number_stays : (same stays_x stays_it : Bool) (x kept all : Option ℕ) → (same ≡ true → stays_x ≡ stays_it)
    → kept ≡ cond stays_it all None
    → cond stays_x (cond same x kept) kept ≡ cond stays_it (cond same x all) None
number_stays true true true x kept all alike is = refl
number_stays true true false x kept all alike is = absurd (let e : true ≡ false = alike refl in cc)
number_stays true false true x kept all alike is = absurd (let e : false ≡ true = alike refl in cc)
number_stays true false false x kept all alike is = is
number_stays false true stays_it x kept all alike is = is
number_stays false false stays_it x kept all alike is = is

none_either : (b : Bool) → number_of 0 [] ≡ cond b (number_of 0 []) None
none_either true = refl
none_either false = refl

pub number_kept : (stays : ℕ → Bool) (tickets : List Ticket) (origin : ℕ)
    → number_of origin (kept_of stays tickets) ≡ cond (stays origin) (number_of origin tickets) None
number_kept stays [] origin = none_either (stays origin)
number_kept stays (x ∷ tickets) origin =
    number_first x origin (stays x.origin) (kept_of stays tickets)
    ∙ number_stays (x.origin == origin) (stays x.origin) (stays origin) (Some x.number)
    (number_of origin (kept_of stays tickets)) (number_of origin tickets)
    (λ same. ap stays (eqb-true x.origin origin same)) (number_kept stays tickets origin)

-- who rests among those that stay
rests_first : (x : Ticket) (origin : ℕ) (stays : Bool) (kept : List Ticket)
    → rests origin (resting_origins (cond stays (x ∷ kept) kept))
    ≡ cond stays (cond x.rests ((x.origin == origin) || rests origin (resting_origins kept))
    (rests origin (resting_origins kept))) (rests origin (resting_origins kept))
rests_first x origin true kept =
    elim x.rests as (λ t. rests origin (cond t (x.origin ∷ resting_origins kept) (resting_origins kept))
    ≡ cond t ((x.origin == origin) || rests origin (resting_origins kept)) (rests origin (resting_origins kept))) [
      | true ↦ refl
      | false ↦ refl
    ]
rests_first x origin false kept = refl

rests_stays : (x origin : ℕ) (down stays_x stays_it kept all : Bool) → (x ≡ origin → stays_x ≡ stays_it)
    → kept ≡ all && stays_it
    → cond stays_x (cond down ((x == origin) || kept) kept) kept
    ≡ cond down ((x == origin) || all) all && stays_it
rests_stays x origin down stays_x stays_it kept all alike is = grind (arith, nat_tests)

rests_kept : (stays : ℕ → Bool) (tickets : List Ticket) (origin : ℕ)
    → rests origin (resting_origins (kept_of stays tickets)) ≡ rests origin (resting_origins tickets) && stays origin
rests_kept stays [] origin = refl
rests_kept stays (x ∷ tickets) origin =
    rests_first x origin (stays x.origin) (kept_of stays tickets)
    ∙ rests_stays x.origin origin x.rests (stays x.origin) (stays origin)
    (rests origin (resting_origins (kept_of stays tickets))) (rests origin (resting_origins tickets))
    (λ same. ap stays same) (rests_kept stays tickets origin)
    ∙ ap (λ (t : Bool). t && stays origin) (sym (rests_first x origin true tickets))

one_of_both : (resting there stays : Bool) → (there ≡ false → resting ≡ false)
    → resting && stays ≡ resting && (there && stays)
one_of_both true true stays none = refl
one_of_both true false stays none = absurd (let e : true ≡ false = none refl in cc)
one_of_both false there stays none = refl

pub resting_kept : (stays : ℕ → Bool) (tickets : List Ticket) (origin : ℕ)
    → rests origin (resting_origins (kept_of stays tickets))
    ≡ rests origin (resting_origins tickets) && is_among origin (ticket_origins (kept_of stays tickets))
resting_kept stays tickets origin =
    rests_kept stays tickets origin
    ∙ one_of_both (rests origin (resting_origins tickets)) (is_among origin (ticket_origins tickets)) (stays origin)
    (none_resting tickets origin)
    ∙ ap (λ (t : Bool). rests origin (resting_origins tickets) && t) (sym (among_kept stays tickets origin))

-- what is left of the numbers where some are forgotten: none but those of the tickets that stay
left_number : (forgotten : Bool) (number : Option ℕ)
    → cond forgotten None number ≡ cond (is_some (cond forgotten None number)) number None
left_number true number = refl
left_number false None = refl
left_number false (Some number) = refl

pub kept_tickets : (tickets : List Ticket) (before after : ℕ → Option ℕ) (forgotten : ℕ → Bool) (awake : List ℕ)
    (next : ℕ) → AreTickets tickets before awake next
    → ((origin : ℕ) → after origin ≡ cond (forgotten origin) None (before origin))
    → AreTickets (kept_of (λ origin. is_some (after origin)) tickets) after
    (awake_numbers (kept_of (λ origin. is_some (after origin)) tickets)) next
kept_tickets tickets before after forgotten awake next are left = record {
  rising = rising_kept (λ origin. is_some (after origin)) 0 tickets are.rising;
  below = below_kept (λ origin. is_some (after origin)) next tickets are.below;
  distinct = distinct_kept (λ origin. is_some (after origin)) tickets are.distinct;
  numbers = λ origin.
      let left_is = left origin ∙ ap (cond (forgotten origin) None) (are.numbers origin) in
      left_is ∙ left_number (forgotten origin) (number_of origin tickets)
      ∙ ap (λ (option : Option ℕ). cond (is_some option) (number_of origin tickets) None) (sym left_is)
      ∙ sym (number_kept (λ origin. is_some (after origin)) tickets origin);
  awake = refl;
}

-- ---- the messages of the tickets that stay

pub held_among : (items : List Held) (origin : ℕ) → is_held origin items ≡ is_among origin (origins_of items)
held_among [] origin = refl
held_among (x ∷ items) origin =
    elim (x.message.origin == origin) as (λ t. is_some (cond t (Some x) (found origin items))
    ≡ t || is_among origin (origins_of items)) [
      | true ↦ refl
      | false ↦ held_among items origin
    ]

-- of each message it is told whether it stays
abbrev Tells : (ℕ → Bool) → (Held → Bool) → List Held → Type 0
Tells stays ready [] = Unit {0}
Tells stays ready (held ∷ items) = (stays held.message.origin ≡ ready held) × Tells stays ready items

same_kept : (stays : ℕ → Bool) (ready : Held → Bool) (items : List Held) (tickets : List Ticket)
    → Tells stays ready items → ticket_origins tickets ≡ origins_of items
    → ticket_origins (kept_of stays tickets) ≡ origins_of (filter ready items)
same_kept stays ready [] [] tells same = refl
same_kept stays ready [] (ticket ∷ tickets) tells same = absurd cc
same_kept stays ready (held ∷ items) [] tells same = absurd cc
same_kept stays ready (held ∷ items) (ticket ∷ tickets) tells same =
    let origin : ticket.origin ≡ held.message.origin = cc in
    let rest_same : ticket_origins tickets ≡ origins_of items = cc in
    let rest = same_kept stays ready items tickets tells.1 rest_same in
    let told : stays ticket.origin ≡ ready held = ap stays origin ∙ tells.0 in
    ap (λ (t : Bool). ticket_origins (cond t (ticket ∷ kept_of stays tickets) (kept_of stays tickets))) told
    ∙ (elim (ready held) as (λ t. ticket_origins (cond t (ticket ∷ kept_of stays tickets) (kept_of stays tickets))
    ≡ origins_of (cond t (held ∷ filter ready items) (filter ready items))) [
      | true ↦ ap (λ (o : ℕ). o ∷ ticket_origins (kept_of stays tickets)) origin
          ∙ ap (λ (origins : List ℕ). held.message.origin ∷ origins) rest
      | false ↦ rest
    ])

-- those that stay are those that aren't forgotten
abbrev stay : (Held → Bool) → List Held → ℕ → Bool
stay lacks items origin = not (is_held origin (filter lacks items))

none_lacks : (lacks : Held → Bool) (items : List Held) (origin : ℕ) → is_among origin (origins_of items) ≡ false
    → is_held origin (filter lacks items) ≡ false
none_lacks lacks [] origin isnt = refl
none_lacks lacks (x ∷ items) origin isnt =
    let parts = among_head x.message.origin (origins_of items) origin isnt in
    let rest = none_lacks lacks items origin parts.1 in
    elim (lacks x) as (λ t. is_held origin (cond t (x ∷ filter lacks items) (filter lacks items)) ≡ false) [
      | true ↦ ap (λ (t : Bool). is_some (cond t (Some x) (found origin (filter lacks items)))) parts.0 ∙ rest
      | false ↦ rest
    ]

tells_more : (lacking : List Held) (first : Held) (ready : Held → Bool) (items : List Held)
    → is_among first.message.origin (origins_of items) ≡ false
    → Tells (λ origin. not (is_held origin lacking)) ready items
    → Tells (λ origin. not (is_held origin (first ∷ lacking))) ready items
tells_more lacking first ready [] isnt tells = tt
tells_more lacking first ready (x ∷ items) isnt tells =
    let parts = among_head x.message.origin (origins_of items) first.message.origin isnt in
    let differs : (x.message.origin == first.message.origin) ≡ false = parts.0 in
    let other : (first.message.origin == x.message.origin) ≡ false = grind (arith, nat_tests) in (
      ap (λ (t : Bool). not (is_some (cond t (Some first) (found x.message.origin lacking)))) other ∙ tells.0,
      tells_more lacking first ready items parts.1 tells.1,
    )

told_by : (ready : Held → Bool) (items : List Held) → AreDistinct (origins_of items)
    → Tells (stay (λ held. not (ready held)) items) ready items
told_by ready [] distinct = tt
told_by ready (x ∷ items) distinct =
    let lacking = filter (λ held. not (ready held)) items in
    let rest = told_by ready items distinct.1 in
    elim (ready x) as (λ t. (not (is_held x.message.origin (cond (not t) (x ∷ lacking) lacking)) ≡ t)
    × Tells (λ origin. not (is_held origin (cond (not t) (x ∷ lacking) lacking))) ready items) [
      | true ↦ (ap not (none_lacks (λ held. not (ready held)) items x.message.origin distinct.0), rest)
      | false ↦ (
        ap (λ (t : Bool). not (is_some (cond t (Some x) (found x.message.origin lacking))))
            (eq-eqb x.message.origin x.message.origin refl),
        tells_more lacking x ready items distinct.0 rest,
      )
    ]

-- a ticket's number is found, so that it stays where it isn't forgotten
abbrev AreNumbered : (ℕ → Option ℕ) → List Ticket → Type 0
AreNumbered numbers [] = Unit {0}
AreNumbered numbers (ticket ∷ tickets) = (is_some (numbers ticket.origin) ≡ true) × AreNumbered numbers tickets

numbered_more : (first : Ticket) (all tickets : List Ticket) → AreNumbered (λ origin. number_of origin all) tickets
    → AreNumbered (λ origin. number_of origin (first ∷ all)) tickets
numbered_more first all [] are = tt
numbered_more first all (x ∷ tickets) are = (
  found_either (first.origin == x.origin) first.number (number_of x.origin all) are.0,
  numbered_more first all tickets are.1,
)
  where
    found_either : (b : Bool) (n : ℕ) (rest : Option ℕ) → is_some rest ≡ true → is_some (cond b (Some n) rest) ≡ true
    found_either true n rest is = refl
    found_either false n rest is = is

numbered : (tickets : List Ticket) → AreNumbered (λ origin. number_of origin tickets) tickets
numbered [] = tt
numbered (x ∷ tickets) = (
  ap (λ (t : Bool). is_some (cond t (Some x.number) (number_of x.origin tickets))) (eq-eqb x.origin x.origin refl),
  numbered_more x tickets tickets (numbered tickets),
)

same_stay : (after numbers : ℕ → Option ℕ) (forgotten : ℕ → Bool) (tickets : List Ticket) → AreNumbered numbers tickets
    → ((origin : ℕ) → after origin ≡ cond (forgotten origin) None (numbers origin))
    → kept_of (λ origin. is_some (after origin)) tickets ≡ kept_of (λ origin. not (forgotten origin)) tickets
same_stay after numbers forgotten [] are left = refl
same_stay after numbers forgotten (x ∷ tickets) are left =
    let rest = same_stay after numbers forgotten tickets are.1 left in
    let alike : is_some (after x.origin) ≡ not (forgotten x.origin) =
    ap (λ (option : Option ℕ). is_some option) (left x.origin)
    ∙ stays_if (forgotten x.origin) (numbers x.origin) are.0 in
    ap (λ (t : Bool). cond t (x ∷ kept_of (λ origin. is_some (after origin)) tickets)
    (kept_of (λ origin. is_some (after origin)) tickets)) alike
    ∙ ap (λ (kept : List Ticket). cond (not (forgotten x.origin)) (x ∷ kept) kept) rest
  where
    stays_if : (b : Bool) (option : Option ℕ) → is_some option ≡ true → is_some (cond b None option) ≡ not b
    stays_if true option is = refl
    stays_if false option is = is

pub kept_origins : (tickets : List Ticket) (items : List Held) (ready : Held → Bool) (after : ℕ → Option ℕ)
    → AreDistinct (ticket_origins tickets) → ticket_origins tickets ≡ origins_of items
    → ((origin : ℕ) → after origin
    ≡ cond (is_held origin (filter (λ held. not (ready held)) items)) None (number_of origin tickets))
    → ticket_origins (kept_of (λ origin. is_some (after origin)) tickets) ≡ origins_of (filter ready items)
kept_origins tickets items ready after distinct same left =
    let lacking = filter (λ held. not (ready held)) items in
    ap ticket_origins (same_stay after (λ origin. number_of origin tickets) (λ origin. is_held origin lacking) tickets
    (numbered tickets) left)
    ∙ same_kept (λ origin. not (is_held origin lacking)) ready items tickets
    (told_by ready items (subst AreDistinct same distinct)) same

-- A ticket that leaves.
use Rattle.std.proofs.Common.{◌≡◌, ◌∙◌, ℕ, Bool, true, false, List, [], ◌∷◌, Option, Some, None, refl, sym, ap, subst}
use Rattle.std.proofs.Common.{cond, get_or, suc, zero, length, not, ◌<◌, ◌≤◌, ◌+◌, arith}
use Rattle.std.specs.Prelude.{◌==◌, ◌&&◌, ◌||◌, slice_index}
use Rattle.std.specs.List.{remove}
use Rattle.std.proofs.lemmas.List.{get_or_default}
use Rattle.std.proofs.lemmas.Bool.{eqb-true, eq-eqb}
use Rattle.std.proofs.lemmas.Bool.Decides.{nat_tests}
use Rattle.ftc_server.specs.declared.tickets.Ticket.{Ticket}
use Rattle.ftc_server.specs.Holding.{rests}
use Rattle.ftc_server.specs.Tickets.{AreRising, AreBelow, AreDistinct, AreTickets, awake_numbers, is_among, number_of}
use Rattle.ftc_server.specs.Tickets.{resting_origins, ticket_numbers, ticket_origins, without_number}
use Rattle.ftc_server.proofs.Ticketing.{among_head, first_of_two, none_numbered, none_resting, rising_awake}
use Rattle.ftc_server.proofs.Ticketing.{rising_later}

-- ---- the ticket at a place

pub apart_at : (tickets : List Ticket) (place : ℕ) (ticket : Ticket) (origin : ℕ)
    → is_among origin (ticket_origins tickets) ≡ false → place < length tickets → ticket ≡ get_or tickets place ticket
    → (ticket.origin == origin) ≡ false
apart_at [] place ticket origin isnt within is = absurd (omega arith)
apart_at (x ∷ tickets) zero ticket origin isnt within is =
    ap (λ (t : Ticket). t.origin == origin) is ∙ (among_head x.origin (ticket_origins tickets) origin isnt).0
apart_at (x ∷ tickets) (suc place) ticket origin isnt within is =
    apart_at tickets place ticket origin (among_head x.origin (ticket_origins tickets) origin isnt).1 (omega arith) is

pub above_at : (first : ℕ) (tickets : List Ticket) (place : ℕ) (ticket : Ticket)
    → AreRising first (ticket_numbers tickets) → place < length tickets → ticket ≡ get_or tickets place ticket
    → first ≤ ticket.number
above_at first [] place ticket rising within is = absurd (omega arith)
above_at first (x ∷ tickets) zero ticket rising within is = subst (λ (t : Ticket). first ≤ t.number) (sym is) rising.0
above_at first (x ∷ tickets) (suc place) ticket rising within is =
    let here : first ≤ x.number = rising.0 in
    let later = above_at (x.number + 1) tickets place ticket rising.1 (omega arith) is in
    omega arith

pub origin_at : (tickets : List Ticket) (place : ℕ) (ticket : Ticket)
    → get_or (ticket_origins tickets) place ticket.origin ≡ (get_or tickets place ticket).origin
origin_at [] place ticket = refl
origin_at (x ∷ tickets) zero ticket = refl
origin_at (x ∷ tickets) (suc place) ticket = origin_at tickets place ticket

pub count_origins : (tickets : List Ticket) → length (ticket_origins tickets) ≡ length tickets
count_origins [] = refl
count_origins (ticket ∷ tickets) = let rest = count_origins tickets in omega arith

pub same_at : (tickets : List Ticket) (place : ℕ) (ticket other : Ticket) → place < length tickets
    → ticket ≡ get_or tickets place ticket → other ≡ get_or tickets place other → ticket ≡ other
same_at tickets place ticket other within is other_is =
    is ∙ get_or_default tickets place ticket other within ∙ sym other_is

-- the origin at the place
pub origin_is : (tickets : List Ticket) (place : ℕ) (ticket : Ticket) → place < length tickets
    → ticket ≡ get_or tickets place ticket → ticket.origin ≡ slice_index (ticket_origins tickets) place
origin_is tickets place ticket within is =
    ap (λ (t : Ticket). t.origin) is ∙ sym (origin_at tickets place ticket)
    ∙ get_or_default (ticket_origins tickets) place ticket.origin 0 (omega (arith, count_origins tickets))

-- ---- the others

pub origins_removed : (tickets : List Ticket) (place : ℕ) → place < length tickets
    → ticket_origins (remove tickets place) ≡ remove (ticket_origins tickets) place
origins_removed [] place within = absurd (omega arith)
origins_removed (x ∷ tickets) zero within = refl
origins_removed (x ∷ tickets) (suc place) within =
    ap (λ (rest : List ℕ). x.origin ∷ rest) (origins_removed tickets place (omega arith))

rising_removed : (first : ℕ) (tickets : List Ticket) (place : ℕ) → AreRising first (ticket_numbers tickets)
    → place < length tickets → AreRising first (ticket_numbers (remove tickets place))
rising_removed first [] place rising within = absurd (omega arith)
rising_removed first (x ∷ tickets) zero rising within =
    let here : first ≤ x.number = rising.0 in
    rising_later first (x.number + 1) (ticket_numbers tickets) (omega arith) rising.1
rising_removed first (x ∷ tickets) (suc place) rising within =
    (rising.0, rising_removed (x.number + 1) tickets place rising.1 (omega arith))

below_removed : (next : ℕ) (tickets : List Ticket) (place : ℕ) → AreBelow next (ticket_numbers tickets)
    → place < length tickets → AreBelow next (ticket_numbers (remove tickets place))
below_removed next [] place below within = absurd (omega arith)
below_removed next (x ∷ tickets) zero below within = below.1
below_removed next (x ∷ tickets) (suc place) below within =
    (below.0, below_removed next tickets place below.1 (omega arith))

among_removed : (tickets : List Ticket) (place origin : ℕ) → is_among origin (ticket_origins tickets) ≡ false
    → place < length tickets → is_among origin (ticket_origins (remove tickets place)) ≡ false
among_removed [] place origin isnt within = absurd (omega arith)
among_removed (x ∷ tickets) zero origin isnt within = (among_head x.origin (ticket_origins tickets) origin isnt).1
among_removed (x ∷ tickets) (suc place) origin isnt within =
    let parts = among_head x.origin (ticket_origins tickets) origin isnt in
    ap (λ (t : Bool). t || is_among origin (ticket_origins (remove tickets place))) parts.0
    ∙ among_removed tickets place origin parts.1 (omega arith)

distinct_removed : (tickets : List Ticket) (place : ℕ) → AreDistinct (ticket_origins tickets)
    → place < length tickets → AreDistinct (ticket_origins (remove tickets place))
distinct_removed [] place distinct within = absurd (omega arith)
distinct_removed (x ∷ tickets) zero distinct within = distinct.1
distinct_removed (x ∷ tickets) (suc place) distinct within = (
  among_removed tickets place x.origin distinct.0 (omega arith),
  distinct_removed tickets place distinct.1 (omega arith),
)

-- two origins that differ are not both that one
pub not_both : (x y origin : ℕ) → (y == x) ≡ false → (x == origin) && (y == origin) ≡ false
not_both x y origin differs = grind (arith, nat_tests)

number_removed : (tickets : List Ticket) (place : ℕ) (ticket : Ticket) (origin : ℕ)
    → AreDistinct (ticket_origins tickets) → place < length tickets → ticket ≡ get_or tickets place ticket
    → number_of origin (remove tickets place) ≡ cond (ticket.origin == origin) None (number_of origin tickets)
number_removed [] place ticket origin distinct within is = absurd (omega arith)
number_removed (x ∷ tickets) zero ticket origin distinct within is =
    (elim (x.origin == origin) as (λ t. (x.origin == origin) ≡ t → number_of origin tickets
    ≡ cond t None (cond t (Some x.number) (number_of origin tickets))) [
      | true ↦ λ same. none_numbered tickets origin
          (subst (λ (o : ℕ). is_among o (ticket_origins tickets) ≡ false) (eqb-true x.origin origin same) distinct.0)
      | false ↦ λ differs. refl
    ] refl)
    ∙ ap (λ (t : Ticket). cond (t.origin == origin) None (number_of origin (x ∷ tickets))) (sym is)
number_removed (x ∷ tickets) (suc place) ticket origin distinct within is =
    let differs = apart_at tickets place ticket x.origin distinct.0 (omega arith) is in
    ap (λ (rest : Option ℕ). cond (x.origin == origin) (Some x.number) rest)
    (number_removed tickets place ticket origin distinct.1 (omega arith) is)
    ∙ first_of_two (x.origin == origin) (ticket.origin == origin) (Some x.number) None (number_of origin tickets)
    (not_both x.origin ticket.origin origin differs)

-- a number that is lower than all isn't there
pub lower_not_there : (number : ℕ) (numbers : List ℕ) → AreRising (number + 1) numbers
    → without_number number numbers ≡ numbers
lower_not_there number [] rising = refl
lower_not_there number (other ∷ numbers) rising =
    let here : number + 1 ≤ other = rising.0 in
    let differs : (other == number) ≡ false = grind (arith, nat_tests) in
    ap (λ (t : Bool). cond t numbers (other ∷ without_number number numbers)) differs
    ∙ ap (λ (rest : List ℕ). other ∷ rest)
    (lower_not_there number numbers (rising_later (number + 1) (other + 1) numbers (omega arith) rising.1))

-- without its number only the others that don't rest are there
pub left_here : (x : Ticket) (awake : List ℕ) → AreRising (x.number + 1) awake
    → awake ≡ without_number x.number (cond x.rests awake (x.number ∷ awake))
left_here x awake rising =
    elim x.rests as (λ t. awake ≡ without_number x.number (cond t awake (x.number ∷ awake))) [
      | true ↦ sym (lower_not_there x.number awake rising)
      | false ↦ ap (λ (t : Bool). cond t awake (x.number ∷ without_number x.number awake))
          (sym (eq-eqb x.number x.number refl))
    ]

-- the numbers behind stay where they are
pub left_behind : (x : Ticket) (number : ℕ) (left awake : List ℕ) → (x.number == number) ≡ false
    → left ≡ without_number number awake
    → cond x.rests left (x.number ∷ left) ≡ without_number number (cond x.rests awake (x.number ∷ awake))
left_behind x number left awake differs later =
    elim x.rests as (λ t. cond t left (x.number ∷ left) ≡ without_number number (cond t awake (x.number ∷ awake))) [
      | true ↦ later
      | false ↦ ap (λ (rest : List ℕ). x.number ∷ rest) later
          ∙ ap (λ (t : Bool). cond t awake (x.number ∷ without_number number awake)) (sym differs)
    ]

awake_removed : (first : ℕ) (tickets : List Ticket) (place : ℕ) (ticket : Ticket)
    → AreRising first (ticket_numbers tickets) → place < length tickets → ticket ≡ get_or tickets place ticket
    → awake_numbers (remove tickets place) ≡ without_number ticket.number (awake_numbers tickets)
awake_removed first [] place ticket rising within is = absurd (omega arith)
awake_removed first (x ∷ tickets) zero ticket rising within is =
    left_here x (awake_numbers tickets) (rising_awake (x.number + 1) tickets rising.1)
    ∙ ap (λ (t : Ticket). without_number t.number (awake_numbers (x ∷ tickets))) (sym is)
awake_removed first (x ∷ tickets) (suc place) ticket rising within is =
    let above = above_at (x.number + 1) tickets place ticket rising.1 (omega arith) is in
    let differs : (x.number == ticket.number) ≡ false = grind (arith, nat_tests) in
    left_behind x ticket.number (awake_numbers (remove tickets place)) (awake_numbers tickets) differs
    (awake_removed (x.number + 1) tickets place ticket rising.1 (omega arith) is)

-- the tickets without one
pub fewer_tickets : (tickets : List Ticket) (place : ℕ) (ticket : Ticket) (before after : ℕ → Option ℕ)
    (awake : List ℕ) (next : ℕ) → AreTickets tickets before awake next → place < length tickets
    → ticket ≡ get_or tickets place ticket
    → ((origin : ℕ) → after origin ≡ cond (ticket.origin == origin) None (before origin))
    → AreTickets (remove tickets place) after (without_number ticket.number awake) next
fewer_tickets tickets place ticket before after awake next are within is taken = record {
  rising = rising_removed 0 tickets place are.rising within;
  below = below_removed next tickets place are.below within;
  distinct = distinct_removed tickets place are.distinct within;
  numbers = λ origin. taken origin ∙ ap (cond (ticket.origin == origin) None) (are.numbers origin)
      ∙ sym (number_removed tickets place ticket origin are.distinct within is);
  awake = ap (without_number ticket.number) are.awake ∙ sym (awake_removed 0 tickets place ticket are.rising within is);
}

-- ---- who rests

pub left_resting : (origin other : ℕ) (r : Bool) → (origin ≡ other → r ≡ false)
    → r ≡ ((origin == other) || r) && not (other == origin)
left_resting origin other r none = grind (arith, nat_tests)

pub left_up : (origin other : ℕ) (r : Bool) → (origin ≡ other → r ≡ false) → r ≡ r && not (other == origin)
left_up origin other r none = grind (arith, nat_tests)

pub left_other : (x origin other : ℕ) (r : Bool) → (origin == x) ≡ false
    → (x == other) || (r && not (other == origin)) ≡ ((x == other) || r) && not (other == origin)
left_other x origin other r differs = grind (arith, nat_tests)

-- another that rests is none of the others where its origin is the first one's
pub none_behind : (x : Ticket) (tickets : List Ticket) (other : ℕ) → is_among x.origin (ticket_origins tickets) ≡ false
    → x.origin ≡ other → rests other (resting_origins tickets) ≡ false
none_behind x tickets other new same =
    none_resting tickets other (subst (λ (o : ℕ). is_among o (ticket_origins tickets) ≡ false) same new)

pub rests_removed : (tickets : List Ticket) (place : ℕ) (ticket : Ticket) (other : ℕ)
    → AreDistinct (ticket_origins tickets) → place < length tickets → ticket ≡ get_or tickets place ticket
    → rests other (resting_origins (remove tickets place))
    ≡ rests other (resting_origins tickets) && not (other == ticket.origin)
rests_removed [] place ticket other distinct within is = absurd (omega arith)
rests_removed (x ∷ tickets) zero ticket other distinct within is =
    let r = rests other (resting_origins tickets) in
    (elim x.rests as (λ t. r ≡ rests other (cond t (x.origin ∷ resting_origins tickets) (resting_origins tickets))
    && not (other == x.origin)) [
      | true ↦ left_resting x.origin other r (none_behind x tickets other distinct.0)
      | false ↦ left_up x.origin other r (none_behind x tickets other distinct.0)
    ])
    ∙ ap (λ (t : Ticket). rests other (resting_origins (x ∷ tickets)) && not (other == t.origin)) (sym is)
rests_removed (x ∷ tickets) (suc place) ticket other distinct within is =
    let differs = apart_at tickets place ticket x.origin distinct.0 (omega arith) is in
    let later = rests_removed tickets place ticket other distinct.1 (omega arith) is in
    elim x.rests as (λ t. rests other (cond t (x.origin ∷ resting_origins (remove tickets place))
    (resting_origins (remove tickets place)))
    ≡ rests other (cond t (x.origin ∷ resting_origins tickets) (resting_origins tickets))
    && not (other == ticket.origin)) [
      | true ↦ ap (λ (r : Bool). (x.origin == other) || r) later
          ∙ left_other x.origin ticket.origin other (rests other (resting_origins tickets)) differs
      | false ↦ later
    ]

-- Tickets that come, change and leave.
use Rattle.std.proofs.Common.{◌≡◌, ◌∙◌, ℕ, Bool, true, false, List, [], ◌∷◌, ◌++◌}
use Rattle.std.proofs.Common.{Option, Some, None, refl, sym, ap, subst}
use Rattle.std.proofs.Common.{cond, get_or, suc, zero, length, not, ◌<◌, ◌≤◌, ◌+◌, arith}
use Rattle.std.specs.Prelude.{◌==◌, ◌&&◌, ◌||◌, option_map, slice_get, IsNone}
use Rattle.std.specs.List.{position}
use Rattle.std.proofs.lemmas.Bool.{eq-eqb}
use Rattle.std.proofs.lemmas.Bool.Decides.{nat_tests}
use Rattle.ftc_server.specs.declared.tickets.Ticket.{Ticket}
use Rattle.ftc_server.specs.Holding.{rests}
use Rattle.ftc_server.specs.Tickets.{AreRising, AreBelow, AreDistinct, awake_numbers, is_among, is_same, is_numbered}
use Rattle.ftc_server.specs.Tickets.{number_of, places_of, resting_origins, ticket_numbers, ticket_origins}
use Rattle.ftc_server.specs.Tickets.{AreTickets}
use Rattle.ftc_server.proofs.Ascending.{position_here, position_behind, rising_from, awake_behind}
use Rattle.std.proofs.lemmas.List.{get_or_default}

-- ---- which origins are there

pub among_head : (x : ℕ) (origins : List ℕ) (origin : ℕ) → is_among origin (x ∷ origins) ≡ false
    → ((x == origin) ≡ false) × (is_among origin origins ≡ false)
among_head x origins origin isnt = neither (x == origin) (is_among origin origins) isnt
  where
    neither : (a b : Bool) → a || b ≡ false → (a ≡ false) × (b ≡ false)
    neither true b is = absurd cc
    neither false b is = (refl, is)

pub none_resting : (tickets : List Ticket) (origin : ℕ) → is_among origin (ticket_origins tickets) ≡ false
    → rests origin (resting_origins tickets) ≡ false
none_resting [] origin isnt = refl
none_resting (ticket ∷ tickets) origin isnt =
    let parts = among_head ticket.origin (ticket_origins tickets) origin isnt in
    let rest = none_resting tickets origin parts.1 in
    elim ticket.rests as (λ t. rests origin (cond t (ticket.origin ∷ resting_origins tickets) (resting_origins tickets))
    ≡ false) [
      | true ↦ ap (λ (t : Bool). t || rests origin (resting_origins tickets)) parts.0 ∙ rest
      | false ↦ rest
    ]

pub none_numbered : (tickets : List Ticket) (origin : ℕ) → is_among origin (ticket_origins tickets) ≡ false
    → number_of origin tickets ≡ None
none_numbered [] origin isnt = refl
none_numbered (ticket ∷ tickets) origin isnt =
    let parts = among_head ticket.origin (ticket_origins tickets) origin isnt in
    ap (λ (t : Bool). cond t (Some ticket.number) (number_of origin tickets)) parts.0
    ∙ none_numbered tickets origin parts.1

-- ---- where an origin stands

pub none_placed_of : (tickets : List Ticket) (origin : ℕ) → number_of origin tickets ≡ None
    → position (is_same origin) (ticket_origins tickets) ≡ None
none_placed_of [] origin none = refl
none_placed_of (ticket ∷ tickets) origin none =
    elim (ticket.origin == origin) as (λ t. (ticket.origin == origin) ≡ t
    → cond t (Some ticket.number) (number_of origin tickets) ≡ None
    → position (is_same origin) (ticket_origins (ticket ∷ tickets)) ≡ None) [
      | true ↦ λ is same. absurd cc
      | false ↦ λ isnt later. position_behind (is_same origin) ticket.origin (ticket_origins tickets) isnt
          ∙ ap (option_map (λ (p : ℕ). p + 1)) (none_placed_of tickets origin later)
    ] refl none

number_from : (first : ℕ) (tickets : List Ticket) (origin number : ℕ) → AreRising first (ticket_numbers tickets)
    → number_of origin tickets ≡ Some number → first ≤ number
number_from first [] origin number rising there = absurd cc
number_from first (ticket ∷ tickets) origin number rising there =
    let here : first ≤ ticket.number = rising.0 in
    elim (ticket.origin == origin) as (λ t. cond t (Some ticket.number) (number_of origin tickets) ≡ Some number
    → first ≤ number) [
      | true ↦ λ same. let e : ticket.number ≡ number = cc in omega arith
      | false ↦ λ later. let after = number_from (ticket.number + 1) tickets origin number rising.1 later in omega arith
    ] there

pub placed_of : (first : ℕ) (tickets : List Ticket) (origin number : ℕ) → AreRising first (ticket_numbers tickets)
    → number_of origin tickets ≡ Some number
    → position (is_numbered number) tickets ≡ position (is_same origin) (ticket_origins tickets)
placed_of first [] origin number rising there = absurd cc
placed_of first (ticket ∷ tickets) origin number rising there =
    elim (ticket.origin == origin) as (λ t. (ticket.origin == origin) ≡ t
    → cond t (Some ticket.number) (number_of origin tickets) ≡ Some number
    → position (is_numbered number) (ticket ∷ tickets)
    ≡ position (is_same origin) (ticket_origins (ticket ∷ tickets))) [
      | true ↦ λ is same.
          let e : ticket.number ≡ number = cc in
          position_here (is_numbered number) ticket tickets (eq-eqb ticket.number number e)
          ∙ sym (position_here (is_same origin) ticket.origin (ticket_origins tickets) is)
      | false ↦ λ isnt later.
          let after = number_from (ticket.number + 1) tickets origin number rising.1 later in
          let other : (ticket.number == number) ≡ false = grind (arith, nat_tests) in
          position_behind (is_numbered number) ticket tickets other
          ∙ ap (option_map (λ (p : ℕ). p + 1)) (placed_of (ticket.number + 1) tickets origin number rising.1 later)
          ∙ sym (position_behind (is_same origin) ticket.origin (ticket_origins tickets) isnt)
    ] refl there

-- ---- those that don't rest

-- each ticket rests as the list says
abbrev pub Agrees : List ℕ → List Ticket → Type 0
Agrees resting [] = Unit {0}
Agrees resting (ticket ∷ tickets) = (rests ticket.origin resting ≡ ticket.rests) × Agrees resting tickets

agrees_more : (origin : ℕ) (resting : List ℕ) (tickets : List Ticket)
    → is_among origin (ticket_origins tickets) ≡ false → Agrees resting tickets → Agrees (origin ∷ resting) tickets
agrees_more origin resting [] isnt agrees = tt
agrees_more origin resting (ticket ∷ tickets) isnt agrees =
    let parts = among_head ticket.origin (ticket_origins tickets) origin isnt in
    let differs : (ticket.origin == origin) ≡ false = parts.0 in
    let other : (origin == ticket.origin) ≡ false = grind (arith, nat_tests) in (
      ap (λ (t : Bool). t || rests ticket.origin resting) other ∙ agrees.0,
      agrees_more origin resting tickets parts.1 agrees.1,
    )

pub same_self : (n : ℕ) (b : Bool) → (n == n) || b ≡ true
same_self n b = ap (λ (t : Bool). t || b) (eq-eqb n n refl)

pub agree : (tickets : List Ticket) → AreDistinct (ticket_origins tickets) → Agrees (resting_origins tickets) tickets
agree [] distinct = tt
agree (ticket ∷ tickets) distinct =
    let rest = agree tickets distinct.1 in
    elim ticket.rests as (λ t. (rests ticket.origin (cond t (ticket.origin ∷ resting_origins tickets)
    (resting_origins tickets)) ≡ t)
    × Agrees (cond t (ticket.origin ∷ resting_origins tickets) (resting_origins tickets)) tickets) [
      | true ↦ (
        same_self ticket.origin (rests ticket.origin (resting_origins tickets)),
        agrees_more ticket.origin (resting_origins tickets) tickets distinct.0 rest,
      )
      | false ↦ (none_resting tickets ticket.origin distinct.0, rest)
    ]

abbrev pub is_up : Ticket → Bool
is_up ticket = not ticket.rests

pub same_places : (resting : List ℕ) (place : ℕ) (tickets : List Ticket) → Agrees resting tickets
    → places_of (λ origin. not (rests origin resting)) place (ticket_origins tickets) ≡ places_of is_up place tickets
same_places resting place [] agrees = refl
same_places resting place (ticket ∷ tickets) agrees =
    let later = same_places resting (place + 1) tickets agrees.1 in
    ap (λ (t : Bool). cond (not t) (place ∷ places_of (λ origin. not (rests origin resting)) (place + 1)
    (ticket_origins tickets)) (places_of (λ origin. not (rests origin resting)) (place + 1) (ticket_origins tickets)))
    agrees.0
    ∙ ap (λ (places : List ℕ). cond (not ticket.rests) (place ∷ places) places) later

pub count_up : (place : ℕ) (tickets : List Ticket) → length (places_of is_up place tickets)
    ≡ length (awake_numbers tickets)
count_up place [] = refl
count_up place (ticket ∷ tickets) =
    let rest = count_up (place + 1) tickets in
    elim ticket.rests as (λ t. length (cond (not t) (place ∷ places_of is_up (place + 1) tickets)
    (places_of is_up (place + 1) tickets)) ≡ length (cond t (awake_numbers tickets)
    (ticket.number ∷ awake_numbers tickets))) [
      | true ↦ rest
      | false ↦ omega arith
    ]

pub rising_later : (first later : ℕ) (numbers : List ℕ) → first ≤ later → AreRising later numbers
    → AreRising first numbers
rising_later first later [] order rising = tt
rising_later first later (number ∷ numbers) order rising =
    let here : later ≤ number = rising.0 in
    (omega arith, rising.1)

pub rising_awake : (first : ℕ) (tickets : List Ticket) → AreRising first (ticket_numbers tickets)
    → AreRising first (awake_numbers tickets)
rising_awake first [] rising = tt
rising_awake first (ticket ∷ tickets) rising =
    let rest = rising_awake (ticket.number + 1) tickets rising.1 in
    let here : first ≤ ticket.number = rising.0 in
    elim ticket.rests as (λ t. AreRising first (cond t (awake_numbers tickets)
    (ticket.number ∷ awake_numbers tickets))) [
      | true ↦ rising_later first (ticket.number + 1) (awake_numbers tickets) (omega arith) rest
      | false ↦ (here, rest)
    ]

-- where the ticket of that number stands, from a place on
abbrev from_place : ℕ → Option ℕ → Option ℕ
from_place place found = option_map (λ n. place + n) found

later_place : (place : ℕ) (found : Option ℕ)
    → from_place (place + 1) found ≡ from_place place (option_map (λ (n : ℕ). n + 1) found)
later_place place None = refl
later_place place (Some n) = ap (λ (m : ℕ). Some m) (omega arith)

-- the place of one that doesn't rest is found by its number
abbrev IsUpAt : ℕ → List Ticket → ℕ → Type 0
IsUpAt place tickets nth =
    slice_get (places_of is_up place tickets) nth
    ≡ from_place place (position (is_numbered (get_or (awake_numbers tickets) nth 0)) tickets)

up_behind : (first place : ℕ) (ticket : Ticket) (tickets : List Ticket) (n : ℕ)
    → AreRising first (ticket_numbers (ticket ∷ tickets)) → n < length (awake_numbers tickets)
    → IsUpAt (place + 1) tickets n → slice_get (places_of is_up (place + 1) tickets) n
    ≡ from_place place (position (is_numbered (get_or (awake_numbers tickets) n 0)) (ticket ∷ tickets))
up_behind first place ticket tickets n rising inside later =
    let number = get_or (awake_numbers tickets) n 0 in
    let after = rising_from (ticket.number + 1) (awake_numbers tickets) n
    (rising_awake (ticket.number + 1) tickets rising.1) inside in
    let isnt : (ticket.number == number) ≡ false = grind (arith, nat_tests) in
    later ∙ later_place place (position (is_numbered number) tickets)
    ∙ ap (from_place place) (sym (position_behind (is_numbered number) ticket tickets isnt))

up_here : (first place : ℕ) (ticket : Ticket) (tickets : List Ticket) (n : ℕ)
    → AreRising first (ticket_numbers (ticket ∷ tickets)) → n < length (ticket.number ∷ awake_numbers tickets)
    → ((n : ℕ) → n < length (awake_numbers tickets) → IsUpAt (place + 1) tickets n)
    → slice_get (place ∷ places_of is_up (place + 1) tickets) n
    ≡ from_place place (position (is_numbered (get_or (ticket.number ∷ awake_numbers tickets) n 0)) (ticket ∷ tickets))
up_here first place ticket tickets zero rising inside later =
    let same : place ≡ place + 0 = omega arith in
    ap (λ (m : ℕ). Some m) same
    ∙ ap (from_place place) (sym (position_here (is_numbered ticket.number) ticket tickets
    (eq-eqb ticket.number ticket.number refl)))
up_here first place ticket tickets (suc n) rising inside later =
    up_behind first place ticket tickets n rising (omega arith) (later n (omega arith))

pub awake_place : (first place : ℕ) (tickets : List Ticket) (nth : ℕ) → AreRising first (ticket_numbers tickets)
    → nth < length (awake_numbers tickets) → IsUpAt place tickets nth
awake_place first place [] nth rising within = absurd (omega arith)
awake_place first place (ticket ∷ tickets) nth rising within =
    elim ticket.rests as (λ t. nth < length (cond t (awake_numbers tickets) (ticket.number ∷ awake_numbers tickets))
    → slice_get (cond (not t) (place ∷ places_of is_up (place + 1) tickets) (places_of is_up (place + 1) tickets)) nth
    ≡ from_place place (position (is_numbered (get_or (cond t (awake_numbers tickets)
    (ticket.number ∷ awake_numbers tickets)) nth 0)) (ticket ∷ tickets))) [
      | true ↦ λ inside. up_behind first place ticket tickets nth rising inside
          (awake_place (ticket.number + 1) (place + 1) tickets nth rising.1 inside)
      | false ↦ λ inside. up_here first place ticket tickets nth rising inside
          (λ n more. awake_place (ticket.number + 1) (place + 1) tickets n rising.1 more)
    ] within

pub none_within : {A : Type 0} (items : List A) (place : ℕ) → place < length items → slice_get items place ≡ None → ⊥
none_within [] place within none = omega arith
none_within (x ∷ items) zero within none = cc
none_within (x ∷ items) (suc place) within none = none_within items place (omega arith) none

pub from_start : (found : Option ℕ) → from_place 0 found ≡ found
from_start None = refl
from_start (Some n) = ap (λ (m : ℕ). Some m) (omega arith)

pub awake_is : (tickets : List Ticket) (awake : List ℕ) (nth number : ℕ) (there : Option ℕ)
    → AreRising 0 (ticket_numbers tickets) → AreDistinct (ticket_origins tickets) → awake ≡ awake_numbers tickets
    → nth < length awake → number ≡ get_or awake nth number → there ≡ position (is_numbered number) tickets
    → slice_get (places_of (λ origin. not (rests origin (resting_origins tickets))) 0 (ticket_origins tickets)) nth
    ≡ there
awake_is tickets awake nth number there rising distinct same within is at =
    let inside = subst (λ (numbers : List ℕ). nth < length numbers) same within in
    let number_is : number ≡ get_or (awake_numbers tickets) nth 0 =
    is ∙ get_or_default awake nth number 0 within ∙ ap (λ (numbers : List ℕ). get_or numbers nth 0) same in
    ap (λ (places : List ℕ). slice_get places nth)
    (same_places (resting_origins tickets) 0 tickets (agree tickets distinct))
    ∙ awake_place 0 0 tickets nth rising inside
    ∙ from_start (position (is_numbered (get_or (awake_numbers tickets) nth 0)) tickets)
    ∙ ap (λ (n : ℕ). position (is_numbered n) tickets) (sym number_is) ∙ sym at

-- ---- one more ticket

pub numbers_behind : (tickets : List Ticket) (ticket : Ticket)
    → ticket_numbers (tickets ++ ticket ∷ []) ≡ ticket_numbers tickets ++ ticket.number ∷ []
numbers_behind [] ticket = refl
numbers_behind (x ∷ tickets) ticket = ap (λ (rest : List ℕ). x.number ∷ rest) (numbers_behind tickets ticket)

pub origins_behind : (tickets : List Ticket) (ticket : Ticket)
    → ticket_origins (tickets ++ ticket ∷ []) ≡ ticket_origins tickets ++ ticket.origin ∷ []
origins_behind [] ticket = refl
origins_behind (x ∷ tickets) ticket = ap (λ (rest : List ℕ). x.origin ∷ rest) (origins_behind tickets ticket)

pub resting_behind : (tickets : List Ticket) (ticket : Ticket) → ticket.rests ≡ false
    → resting_origins (tickets ++ ticket ∷ []) ≡ resting_origins tickets
resting_behind [] ticket up = ap (λ (t : Bool). cond t (ticket.origin ∷ []) []) up
resting_behind (x ∷ tickets) ticket up =
    ap (λ (rest : List ℕ). cond x.rests (x.origin ∷ rest) rest) (resting_behind tickets ticket up)

rising_behind : (first next : ℕ) (numbers : List ℕ) → first ≤ next → AreRising first numbers → AreBelow next numbers
    → AreRising first (numbers ++ next ∷ [])
rising_behind first next [] order rising below = (order, tt)
rising_behind first next (number ∷ numbers) order rising below =
    let here : number < next = below.0 in
    (rising.0, rising_behind (number + 1) next numbers (omega arith) rising.1 below.1)

below_behind : (next : ℕ) (numbers : List ℕ) → AreBelow next numbers → AreBelow (next + 1) (numbers ++ next ∷ [])
below_behind next [] below = (omega arith, tt)
below_behind next (number ∷ numbers) below =
    let here : number < next = below.0 in
    (omega arith, below_behind next numbers below.1)

among_behind : (origins : List ℕ) (origin other : ℕ) → is_among other origins ≡ false → (origin == other) ≡ false
    → is_among other (origins ++ origin ∷ []) ≡ false
among_behind [] origin other isnt differs = ap (λ (t : Bool). t || false) differs
among_behind (x ∷ origins) origin other isnt differs =
    let parts = among_head x origins other isnt in
    ap (λ (t : Bool). t || is_among other (origins ++ origin ∷ [])) parts.0
    ∙ among_behind origins origin other parts.1 differs

distinct_behind : (origins : List ℕ) (origin : ℕ) → AreDistinct origins → is_among origin origins ≡ false
    → AreDistinct (origins ++ origin ∷ [])
distinct_behind [] origin distinct new = (refl, tt)
distinct_behind (x ∷ origins) origin distinct new =
    let parts = among_head x origins origin new in
    let isnt : (x == origin) ≡ false = parts.0 in
    let differs : (origin == x) ≡ false = grind (arith, nat_tests) in
    (among_behind origins origin x distinct.0 differs, distinct_behind origins origin distinct.1 parts.1)

pub first_of_two : {A : Type 0} (a b : Bool) (x y rest : A) → (a && b ≡ false)
    → cond a x (cond b y rest) ≡ cond b y (cond a x rest)
first_of_two true true x y rest both = absurd cc
first_of_two true false x y rest both = refl
first_of_two false b x y rest both = refl

number_behind : (tickets : List Ticket) (ticket : Ticket) (origin : ℕ)
    → is_among ticket.origin (ticket_origins tickets) ≡ false
    → number_of origin (tickets ++ ticket ∷ [])
    ≡ cond (ticket.origin == origin) (Some ticket.number) (number_of origin tickets)
number_behind [] ticket origin new = refl
number_behind (x ∷ tickets) ticket origin new =
    let parts = among_head x.origin (ticket_origins tickets) ticket.origin new in
    let isnt : (x.origin == ticket.origin) ≡ false = parts.0 in
    ap (λ (rest : Option ℕ). cond (x.origin == origin) (Some x.number) rest)
    (number_behind tickets ticket origin parts.1)
    ∙ first_of_two (x.origin == origin) (ticket.origin == origin) (Some x.number) (Some ticket.number)
    (number_of origin tickets) (grind (arith, nat_tests))

-- the tickets with one more behind the others
pub more_tickets : (tickets : List Ticket) (ticket : Ticket) (before after : ℕ → Option ℕ) (awake : List ℕ)
    → AreTickets tickets before awake ticket.number → is_among ticket.origin (ticket_origins tickets) ≡ false
    → ticket.rests ≡ false
    → ((origin : ℕ) → after origin ≡ cond (ticket.origin == origin) (Some ticket.number) (before origin))
    → AreTickets (tickets ++ ticket ∷ []) after (awake ++ ticket.number ∷ []) (ticket.number + 1)
more_tickets tickets ticket before after awake are new up put = record {
  rising = rw (numbers_behind tickets ticket)
      (rising_behind 0 ticket.number (ticket_numbers tickets) (omega arith) are.rising are.below);
  below = rw (numbers_behind tickets ticket) (below_behind ticket.number (ticket_numbers tickets) are.below);
  distinct = rw (origins_behind tickets ticket)
      (distinct_behind (ticket_origins tickets) ticket.origin are.distinct new);
  numbers = λ origin. put origin
      ∙ ap (cond (ticket.origin == origin) (Some ticket.number)) (are.numbers origin)
      ∙ sym (number_behind tickets ticket origin new);
  awake = ap (λ (numbers : List ℕ). numbers ++ ticket.number ∷ []) are.awake
      ∙ ap (λ (t : Bool). awake_numbers tickets ++ cond t [] (ticket.number ∷ [])) (sym up)
      ∙ sym (awake_behind tickets ticket);
}

-- how many don't rest
pub awake_size : (tickets : List Ticket) (awake : List ℕ) → AreDistinct (ticket_origins tickets)
    → awake ≡ awake_numbers tickets
    → length (places_of (λ origin. not (rests origin (resting_origins tickets))) 0 (ticket_origins tickets))
    ≡ length awake
awake_size tickets awake distinct same =
    ap length (same_places (resting_origins tickets) 0 tickets (agree tickets distinct)) ∙ count_up 0 tickets
    ∙ sym (ap length same)

-- an origin that stands nowhere
pub position_none : (origins : List ℕ) (origin : ℕ) → position (is_same origin) origins ≡ None
    → is_among origin origins ≡ false
position_none [] origin none = refl
position_none (x ∷ origins) origin none =
    elim (x == origin) as (λ t. (x == origin) ≡ t → t || is_among origin origins ≡ false) [
      | true ↦ λ is. absurd (some_none (sym (position_here (is_same origin) x origins is) ∙ none))
      | false ↦ λ isnt. position_none origins origin
          (mapped_none (position (is_same origin) origins)
          (sym (position_behind (is_same origin) x origins isnt) ∙ none))
    ] refl
  where
    some_none : {n : ℕ} → Some n ≡ None → ⊥
    some_none same = cc

    mapped_none : (found : Option ℕ) → option_map (λ (p : ℕ). p + 1) found ≡ None → found ≡ None
    mapped_none None none = refl
    mapped_none (Some n) none = absurd cc

-- an origin that isn't there doesn't rest
pub absent : (tickets : List Ticket) (origin : ℕ) (place : Option ℕ)
    → place ≡ position (is_same origin) (ticket_origins tickets) → IsNone place
    → rests origin (resting_origins tickets) ≡ false
absent tickets origin None is none =
    none_resting tickets origin (position_none (ticket_origins tickets) origin (sym is))
absent tickets origin (Some place) is none = absurd cc

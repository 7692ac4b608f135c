-- A ticket that rests, or rests no more.
use Rattle.std.proofs.Common.{◌≡◌, ◌∙◌, ℕ, Bool, true, false, List, [], ◌∷◌, Option, Some, refl, sym, ap, subst}
use Rattle.std.proofs.Common.{cond, get_or, set, suc, zero, length, not, ◌<◌, ◌≤◌, ◌+◌, arith}
use Rattle.std.specs.Prelude.{◌==◌, ◌&&◌, ◌||◌, nat_lt}
use Rattle.std.specs.List.{position}
use Rattle.std.proofs.lemmas.Bool.{eqb-true}
use Rattle.std.proofs.lemmas.Bool.Decides.{nat_tests}
use Rattle.ftc_server.specs.declared.tickets.Ticket.{Ticket}
use Rattle.ftc_server.specs.Holding.{rests}
use Rattle.ftc_server.specs.Tickets.{Ticketing, AreRising, AreDistinct, AreTickets, HasRoom, awake_numbers, is_among}
use Rattle.ftc_server.specs.Tickets.{is_same, number_of, resting_origins, ticket_numbers, ticket_origins, with_number}
use Rattle.ftc_server.specs.Tickets.{without_number}
use Rattle.ftc_server.proofs.Ascending.{few_awake, among_at}
use Rattle.ftc_server.proofs.Finding.{first_at}
use Rattle.ftc_server.proofs.Leaving.{above_at, apart_at, left_behind, left_here, left_other, left_resting, none_behind}
use Rattle.ftc_server.proofs.Leaving.{origin_at, count_origins, same_at}
use Rattle.ftc_server.proofs.Ticketing.{Agrees, rising_awake, rising_later}

-- the same ticket, which rests now or doesn't
abbrev pub turned : Bool → Ticket → Ticket
turned now ticket = record ticket { rests = now }

origins_set : (now : Bool) (tickets : List Ticket) (place : ℕ) (ticket : Ticket) → place < length tickets
    → ticket ≡ get_or tickets place ticket
    → ticket_origins (set tickets place (turned now ticket)) ≡ ticket_origins tickets
origins_set now [] place ticket within is = absurd (omega arith)
origins_set now (x ∷ tickets) zero ticket within is = ap (λ (t : Ticket). t.origin ∷ ticket_origins tickets) is
origins_set now (x ∷ tickets) (suc place) ticket within is =
    ap (λ (rest : List ℕ). x.origin ∷ rest) (origins_set now tickets place ticket (omega arith) is)

numbers_set : (now : Bool) (tickets : List Ticket) (place : ℕ) (ticket : Ticket) → place < length tickets
    → ticket ≡ get_or tickets place ticket
    → ticket_numbers (set tickets place (turned now ticket)) ≡ ticket_numbers tickets
numbers_set now [] place ticket within is = absurd (omega arith)
numbers_set now (x ∷ tickets) zero ticket within is = ap (λ (t : Ticket). t.number ∷ ticket_numbers tickets) is
numbers_set now (x ∷ tickets) (suc place) ticket within is =
    ap (λ (rest : List ℕ). x.number ∷ rest) (numbers_set now tickets place ticket (omega arith) is)

number_set : (now : Bool) (tickets : List Ticket) (place : ℕ) (ticket : Ticket) (origin : ℕ) → place < length tickets
    → ticket ≡ get_or tickets place ticket
    → number_of origin (set tickets place (turned now ticket)) ≡ number_of origin tickets
number_set now [] place ticket origin within is = absurd (omega arith)
number_set now (x ∷ tickets) zero ticket origin within is =
    ap (λ (t : Ticket). cond (t.origin == origin) (Some t.number) (number_of origin tickets)) is
number_set now (x ∷ tickets) (suc place) ticket origin within is =
    ap (λ (rest : Option ℕ). cond (x.origin == origin) (Some x.number) rest)
    (number_set now tickets place ticket origin (omega arith) is)

-- ---- it rests

awake_rested : (first : ℕ) (tickets : List Ticket) (place : ℕ) (ticket : Ticket)
    → AreRising first (ticket_numbers tickets) → place < length tickets → ticket ≡ get_or tickets place ticket
    → awake_numbers (set tickets place (turned true ticket)) ≡ without_number ticket.number (awake_numbers tickets)
awake_rested first [] place ticket rising within is = absurd (omega arith)
awake_rested first (x ∷ tickets) zero ticket rising within is =
    left_here x (awake_numbers tickets) (rising_awake (x.number + 1) tickets rising.1)
    ∙ ap (λ (t : Ticket). without_number t.number (awake_numbers (x ∷ tickets))) (sym is)
awake_rested first (x ∷ tickets) (suc place) ticket rising within is =
    let above = above_at (x.number + 1) tickets place ticket rising.1 (omega arith) is in
    let differs : (x.number == ticket.number) ≡ false = grind (arith, nat_tests) in
    left_behind x ticket.number (awake_numbers (set tickets place (turned true ticket))) (awake_numbers tickets) differs
    (awake_rested (x.number + 1) tickets place ticket rising.1 (omega arith) is)

pub rested_tickets : (tickets : List Ticket) (place : ℕ) (ticket : Ticket) (numbers : ℕ → Option ℕ)
    (awake : List ℕ) (next : ℕ) → AreTickets tickets numbers awake next → place < length tickets
    → ticket ≡ get_or tickets place ticket
    → AreTickets (set tickets place (turned true ticket)) numbers (without_number ticket.number awake) next
rested_tickets tickets place ticket numbers awake next are within is = record {
  rising = rw (numbers_set true tickets place ticket within is) are.rising;
  below = rw (numbers_set true tickets place ticket within is) are.below;
  distinct = rw (origins_set true tickets place ticket within is) are.distinct;
  numbers = λ origin. are.numbers origin ∙ sym (number_set true tickets place ticket origin within is);
  awake = ap (without_number ticket.number) are.awake
      ∙ sym (awake_rested 0 tickets place ticket are.rising within is);
}

now_resting : (rested : Bool) (origin other : ℕ) (r : Bool)
    → (origin == other) || r ≡ cond rested ((origin == other) || r) r || (other == origin)
now_resting rested origin other r = grind (arith, nat_tests)

still_resting : (a b r s : Bool) → r ≡ s || b → a || r ≡ (a || s) || b
still_resting true b r s is = refl
still_resting false b r s is = is

rests_rested : (tickets : List Ticket) (place : ℕ) (ticket : Ticket) (other : ℕ) → place < length tickets
    → ticket ≡ get_or tickets place ticket
    → rests other (resting_origins (set tickets place (turned true ticket)))
    ≡ rests other (resting_origins tickets) || (other == ticket.origin)
rests_rested [] place ticket other within is = absurd (omega arith)
rests_rested (x ∷ tickets) zero ticket other within is =
    let r = rests other (resting_origins tickets) in
    ap (λ (t : Ticket). (t.origin == other) || r) is
    ∙ (elim x.rests as (λ t. (x.origin == other) || r
    ≡ rests other (cond t (x.origin ∷ resting_origins tickets) (resting_origins tickets)) || (other == x.origin)) [
      | true ↦ now_resting true x.origin other r
      | false ↦ now_resting false x.origin other r
    ])
    ∙ ap (λ (t : Ticket). rests other (resting_origins (x ∷ tickets)) || (other == t.origin)) (sym is)
rests_rested (x ∷ tickets) (suc place) ticket other within is =
    let after = resting_origins (set tickets place (turned true ticket)) in
    let later = rests_rested tickets place ticket other (omega arith) is in
    elim x.rests as (λ t. rests other (cond t (x.origin ∷ after) after)
    ≡ rests other (cond t (x.origin ∷ resting_origins tickets) (resting_origins tickets)) || (other == ticket.origin)) [
      | true ↦ still_resting (x.origin == other) (other == ticket.origin) (rests other after)
          (rests other (resting_origins tickets)) later
      | false ↦ later
    ]

-- ---- it rests no more

first_of_all : (number : ℕ) (numbers : List ℕ) → AreRising (number + 1) numbers
    → number ∷ numbers ≡ with_number number numbers
first_of_all number [] rising = refl
first_of_all number (other ∷ numbers) rising =
    let here : number + 1 ≤ other = rising.0 in
    let lower : nat_lt number other ≡ true = grind (arith, nat_tests) in
    ap (λ (t : Bool). cond t (number ∷ other ∷ numbers) (other ∷ with_number number numbers)) (sym lower)

up_behind : (x : Ticket) (number : ℕ) (more awake : List ℕ) → nat_lt number x.number ≡ false
    → more ≡ with_number number awake
    → cond x.rests more (x.number ∷ more) ≡ with_number number (cond x.rests awake (x.number ∷ awake))
up_behind x number more awake order later =
    elim x.rests as (λ t. cond t more (x.number ∷ more) ≡ with_number number (cond t awake (x.number ∷ awake))) [
      | true ↦ later
      | false ↦ ap (λ (rest : List ℕ). x.number ∷ rest) later
          ∙ ap (λ (t : Bool). cond t (number ∷ x.number ∷ awake) (x.number ∷ with_number number awake)) (sym order)
    ]

awake_roused : (first : ℕ) (tickets : List Ticket) (place : ℕ) (ticket : Ticket)
    → AreRising first (ticket_numbers tickets) → place < length tickets → ticket ≡ get_or tickets place ticket
    → ticket.rests ≡ true
    → awake_numbers (set tickets place (turned false ticket)) ≡ with_number ticket.number (awake_numbers tickets)
awake_roused first [] place ticket rising within is down = absurd (omega arith)
awake_roused first (x ∷ tickets) zero ticket rising within is down =
    let awake = awake_numbers tickets in
    let was : x.rests ≡ true = sym (ap (λ (t : Ticket). t.rests) is) ∙ down in
    ap (λ (t : Ticket). t.number ∷ awake) is
    ∙ first_of_all x.number awake (rising_awake (x.number + 1) tickets rising.1)
    ∙ ap (λ (t : Bool). with_number x.number (cond t awake (x.number ∷ awake))) (sym was)
    ∙ ap (λ (t : Ticket). with_number t.number (awake_numbers (x ∷ tickets))) (sym is)
awake_roused first (x ∷ tickets) (suc place) ticket rising within is down =
    let above = above_at (x.number + 1) tickets place ticket rising.1 (omega arith) is in
    let order : nat_lt ticket.number x.number ≡ false = grind (arith, nat_tests) in
    up_behind x ticket.number (awake_numbers (set tickets place (turned false ticket))) (awake_numbers tickets) order
    (awake_roused (x.number + 1) tickets place ticket rising.1 (omega arith) is down)

pub roused_tickets : (tickets : List Ticket) (place : ℕ) (ticket : Ticket) (numbers : ℕ → Option ℕ)
    (awake : List ℕ) (next : ℕ) → AreTickets tickets numbers awake next → place < length tickets
    → ticket ≡ get_or tickets place ticket → ticket.rests ≡ true
    → AreTickets (set tickets place (turned false ticket)) numbers (with_number ticket.number awake) next
roused_tickets tickets place ticket numbers awake next are within is down = record {
  rising = rw (numbers_set false tickets place ticket within is) are.rising;
  below = rw (numbers_set false tickets place ticket within is) are.below;
  distinct = rw (origins_set false tickets place ticket within is) are.distinct;
  numbers = λ origin. are.numbers origin ∙ sym (number_set false tickets place ticket origin within is);
  awake = ap (with_number ticket.number) are.awake
      ∙ sym (awake_roused 0 tickets place ticket are.rising within is down);
}

-- the number of one that rests is not among those of the others, and there are fewer of these
lower_not_among : (number : ℕ) (numbers : List ℕ) → AreRising (number + 1) numbers → is_among number numbers ≡ false
lower_not_among number [] rising = refl
lower_not_among number (other ∷ numbers) rising =
    let here : number + 1 ≤ other = rising.0 in
    let differs : (other == number) ≡ false = grind (arith, nat_tests) in
    ap (λ (t : Bool). t || is_among number numbers) differs
    ∙ lower_not_among number numbers (rising_later (number + 1) (other + 1) numbers (omega arith) rising.1)

pub not_awake : (first : ℕ) (tickets : List Ticket) (place : ℕ) (ticket : Ticket)
    → AreRising first (ticket_numbers tickets) → place < length tickets → ticket ≡ get_or tickets place ticket
    → ticket.rests ≡ true → is_among ticket.number (awake_numbers tickets) ≡ false
not_awake first [] place ticket rising within is down = absurd (omega arith)
not_awake first (x ∷ tickets) zero ticket rising within is down =
    let awake = awake_numbers tickets in
    let was : x.rests ≡ true = sym (ap (λ (t : Ticket). t.rests) is) ∙ down in
    ap (λ (t : Ticket). is_among t.number (awake_numbers (x ∷ tickets))) is
    ∙ ap (λ (t : Bool). is_among x.number (cond t awake (x.number ∷ awake))) was
    ∙ lower_not_among x.number awake (rising_awake (x.number + 1) tickets rising.1)
not_awake first (x ∷ tickets) (suc place) ticket rising within is down =
    let above = above_at (x.number + 1) tickets place ticket rising.1 (omega arith) is in
    let differs : (x.number == ticket.number) ≡ false = grind (arith, nat_tests) in
    let later = not_awake (x.number + 1) tickets place ticket rising.1 (omega arith) is down in
    elim x.rests as (λ t. is_among ticket.number (cond t (awake_numbers tickets) (x.number ∷ awake_numbers tickets))
    ≡ false) [
      | true ↦ later
      | false ↦ ap (λ (t : Bool). t || is_among ticket.number (awake_numbers tickets)) differs ∙ later
    ]

pub fewer_awake : (tickets : List Ticket) (place : ℕ) (ticket : Ticket) → place < length tickets
    → ticket ≡ get_or tickets place ticket → ticket.rests ≡ true → length (awake_numbers tickets) < length tickets
fewer_awake [] place ticket within is down = absurd (omega arith)
fewer_awake (x ∷ tickets) zero ticket within is down =
    let awake = awake_numbers tickets in
    let was : x.rests ≡ true = sym (ap (λ (t : Ticket). t.rests) is) ∙ down in
    let few = few_awake tickets in
    let size : length (awake_numbers (x ∷ tickets)) ≡ length awake =
    ap (λ (t : Bool). length (cond t awake (x.number ∷ awake))) was in
    omega arith
fewer_awake (x ∷ tickets) (suc place) ticket within is down =
    let later = fewer_awake tickets place ticket (omega arith) is down in
    elim x.rests as (λ t. length (cond t (awake_numbers tickets) (x.number ∷ awake_numbers tickets))
    < length (x ∷ tickets)) [
      | true ↦ omega arith
      | false ↦ omega arith
    ]

rests_roused : (tickets : List Ticket) (place : ℕ) (ticket : Ticket) (other : ℕ)
    → AreDistinct (ticket_origins tickets) → place < length tickets → ticket ≡ get_or tickets place ticket
    → ticket.rests ≡ true
    → rests other (resting_origins (set tickets place (turned false ticket)))
    ≡ rests other (resting_origins tickets) && not (other == ticket.origin)
rests_roused [] place ticket other distinct within is down = absurd (omega arith)
rests_roused (x ∷ tickets) zero ticket other distinct within is down =
    let r = rests other (resting_origins tickets) in
    let was : x.rests ≡ true = sym (ap (λ (t : Ticket). t.rests) is) ∙ down in
    left_resting x.origin other r (none_behind x tickets other distinct.0)
    ∙ ap (λ (t : Bool). rests other (cond t (x.origin ∷ resting_origins tickets) (resting_origins tickets))
    && not (other == x.origin)) (sym was)
    ∙ ap (λ (t : Ticket). rests other (resting_origins (x ∷ tickets)) && not (other == t.origin)) (sym is)
rests_roused (x ∷ tickets) (suc place) ticket other distinct within is down =
    let after = resting_origins (set tickets place (turned false ticket)) in
    let differs = apart_at tickets place ticket x.origin distinct.0 (omega arith) is in
    let later = rests_roused tickets place ticket other distinct.1 (omega arith) is down in
    elim x.rests as (λ t. rests other (cond t (x.origin ∷ after) after)
    ≡ rests other (cond t (x.origin ∷ resting_origins tickets) (resting_origins tickets))
    && not (other == ticket.origin)) [
      | true ↦ ap (λ (r : Bool). (x.origin == other) || r) later
          ∙ left_other x.origin ticket.origin other (rests other (resting_origins tickets)) differs
      | false ↦ later
    ]

-- ---- nothing changes

-- one that doesn't rest, or isn't there
pub none_roused : (resting : List ℕ) (origin other : ℕ) → rests origin resting ≡ false
    → rests other resting ≡ rests other resting && not (other == origin)
none_roused resting origin other none =
    elim (other == origin) as (λ t. (other == origin) ≡ t → rests other resting ≡ rests other resting && not t) [
      | true ↦ λ same.
          let out : rests other resting ≡ false = ap (λ (o : ℕ). rests o resting) (eqb-true other origin same) ∙ none in
          out ∙ ap (λ (t : Bool). t && false) (sym out)
      | false ↦ λ differs. unchanged (rests other resting)
    ] refl
  where
    unchanged : (r : Bool) → r ≡ r && true
    unchanged true = refl
    unchanged false = refl

pub agrees_at : (resting : List ℕ) (tickets : List Ticket) (place : ℕ) (ticket : Ticket) → Agrees resting tickets
    → place < length tickets → ticket ≡ get_or tickets place ticket → rests ticket.origin resting ≡ ticket.rests
agrees_at resting [] place ticket agrees within is = absurd (omega arith)
agrees_at resting (x ∷ tickets) zero ticket agrees within is =
    subst (λ (t : Ticket). rests t.origin resting ≡ t.rests) (sym is) agrees.0
agrees_at resting (x ∷ tickets) (suc place) ticket agrees within is =
    agrees_at resting tickets place ticket agrees.1 (omega arith) is

pub none_rested : (r b : Bool) → r ≡ r || (b && false)
none_rested true b = refl
none_rested false true = refl
none_rested false false = refl

-- ---- the ticket of an origin

-- the ticket at that place has the origin
pub record IsTicketOf (tickets : List Ticket) (place : ℕ) (ticket : Ticket) (origin : ℕ) : Type 0 where
  pub within : place < length tickets
  pub is : ticket ≡ get_or tickets place ticket
  pub same : ticket.origin ≡ origin

pub ticket_of : (tickets : List Ticket) (place : ℕ) (ticket : Ticket) (origin : ℕ)
    → position (is_same origin) (ticket_origins tickets) ≡ Some place → ticket ≡ get_or tickets place ticket
    → IsTicketOf tickets place ticket origin
ticket_of tickets place ticket origin there is =
    let first = first_at (is_same origin) (ticket_origins tickets) place ticket.origin there in
    let at : get_or (ticket_origins tickets) place ticket.origin ≡ ticket.origin =
    origin_at tickets place ticket ∙ ap (λ (t : Ticket). t.origin) (sym is) in
    record {
      within = let within = first.within in omega (arith, count_origins tickets, within);
      is = is;
      same = sym at ∙ eqb-true (get_or (ticket_origins tickets) place ticket.origin) origin first.passes;
    }

-- the ticket at the place of an origin, read and lent
pub record IsChanged (tickets : List Ticket) (place : ℕ) (ticket : Ticket) (origin : ℕ) (lent : Ticket) : Type 0 where
  pub of : IsTicketOf tickets place ticket origin
  pub same : lent ≡ ticket

pub changed_of : (tickets : List Ticket) (place : ℕ) (ticket lent : Ticket) (origin : ℕ)
    → position (is_same origin) (ticket_origins tickets) ≡ Some place → ticket ≡ get_or tickets place ticket
    → lent ≡ get_or tickets place lent → IsChanged tickets place ticket origin lent
changed_of tickets place ticket lent origin there is lent_is =
    let of = ticket_of tickets place ticket origin there is in
    record { of = of; same = same_at tickets place lent ticket of.within lent_is is }

pub now_rests : (origins : List ℕ) (place origin : ℕ) → position (is_same origin) origins ≡ Some place
    → is_among origin origins ≡ true
now_rests origins place origin there =
    let first = first_at (is_same origin) origins place 0 there in
    among_at origins place origin first.within (eqb-true (get_or origins place 0) origin first.passes)

pub and_true : (b : Bool) → b ≡ b && true
and_true true = refl
and_true false = refl

-- an origin that is found among those seen of tickets is found among theirs
pub found_there : (origin : ℕ) {view seen : Ticketing} {place : ℕ} {found : Option ℕ} → view ≡ seen →
    found ≡ position (is_same origin) seen.origins → found ≡ Some place →
    position (is_same origin) view.origins ≡ Some place
found_there origin view_is found_is is =
    ap (λ (view : Ticketing). position (is_same origin) view.origins) view_is ∙ sym found_is ∙ is

pub place_within : (tickets : List Ticket) (place origin : ℕ)
    → position (is_same origin) (ticket_origins tickets) ≡ Some place → place < length tickets
place_within tickets place origin there =
    let within = (first_at (is_same origin) (ticket_origins tickets) place 0 there).within in
    omega (arith, count_origins tickets)

-- a ticket that is found and lent may rest or not: the origins are as they were
pub origins_stay : (now : Bool) (tickets : List Ticket) (place origin : ℕ) (lent : Ticket)
    → position (is_same origin) (ticket_origins tickets) ≡ Some place → lent ≡ get_or tickets place lent
    → ticket_origins (set tickets place (turned now lent)) ≡ ticket_origins tickets
origins_stay now tickets place origin lent there =
    origins_set now tickets place lent (place_within tickets place origin there)

-- it rests from then on, or no more
pub rested_there : (tickets : List Ticket) (place origin other : ℕ) (lent : Ticket)
    → position (is_same origin) (ticket_origins tickets) ≡ Some place → lent ≡ get_or tickets place lent
    → rests other (resting_origins (set tickets place (turned true lent)))
    ≡ rests other (resting_origins tickets) || (other == origin)
rested_there tickets place origin other lent there is =
    let of = ticket_of tickets place lent origin there is in
    rests_rested tickets place lent other of.within is
    ∙ ap (λ (o : ℕ). rests other (resting_origins tickets) || (other == o)) of.same

pub roused_there : (tickets : List Ticket) (place origin other : ℕ) (lent : Ticket)
    → position (is_same origin) (ticket_origins tickets) ≡ Some place → lent ≡ get_or tickets place lent
    → AreDistinct (ticket_origins tickets) → lent.rests ≡ true
    → rests other (resting_origins (set tickets place (turned false lent)))
    ≡ rests other (resting_origins tickets) && not (other == origin)
roused_there tickets place origin other lent there is distinct down =
    let of = ticket_of tickets place lent origin there is in
    rests_roused tickets place lent other distinct of.within is down
    ∙ ap (λ (o : ℕ). rests other (resting_origins tickets) && not (other == o)) of.same

-- there is the room that there was, where that for the numbers of those awake is no less
pub still_room : {spare count most awake_most more map_spare left_numbers : ℕ}
    → HasRoom spare count most awake_most map_spare left_numbers → awake_most ≤ more
    → HasRoom spare count most more map_spare left_numbers
still_room room no_less =
    record { list = room.list; awake = omega (arith, room.awake, no_less); map = room.map; left = room.left }

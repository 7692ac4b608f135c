-- The tickets of the held messages.
use Rattle.std.specs.Prelude.{ℕ, ◌≡◌, ◌≤◌, ◌<◌, ◌+◌, ◌==◌, Bool, false, not, nat_lt, List, [], ◌∷◌, Option, Some, None}
use Rattle.std.specs.Prelude.{◌-◌, ◌^◌, if◌then◌else◌}
use Rattle.std.specs.List.{list_any}
use Rattle.ftc_server.specs.declared.tickets.Ticket.{Ticket}
use Rattle.ftc_server.specs.Holding.{rests}

-- the origins in the order of taking, those of them that rest, and for how many more there is room
pub record Ticketing : Type 0 where
  pub origins : List ℕ
  pub resting : List ℕ
  pub spare : ℕ

-- the other origin is that one
abbrev pub is_same : ℕ → ℕ → Bool
is_same origin other = other == origin

-- a message of that origin is there
abbrev pub is_among : ℕ → List ℕ → Bool
is_among origin origins = list_any (is_same origin) origins

-- no origin is there twice
abbrev pub AreDistinct : List ℕ → Type 0
AreDistinct [] = Unit {0}
AreDistinct (origin ∷ origins) = (is_among origin origins ≡ false) × AreDistinct origins

-- the places, from that one on, of those that pass
abbrev pub places_of : {A : Type 0} → (A → Bool) → ℕ → List A → List ℕ
places_of passes place [] = []
places_of passes place (item ∷ items) =
    if passes item then place ∷ places_of passes (place + 1) items else places_of passes (place + 1) items

-- the places of those that don't rest
abbrev pub awake_places : Ticketing → List ℕ
awake_places tickets = places_of (λ origin. not (rests origin tickets.resting)) 0 tickets.origins

-- ---- the tickets themselves

-- in the order of taking
abbrev pub ticket_origins : List Ticket → List ℕ
ticket_origins [] = []
ticket_origins (ticket ∷ tickets) = ticket.origin ∷ ticket_origins tickets

-- the origins of those that rest
abbrev pub resting_origins : List Ticket → List ℕ
resting_origins [] = []
resting_origins (ticket ∷ tickets) =
    if ticket.rests then ticket.origin ∷ resting_origins tickets else resting_origins tickets

-- the numbers of those that don't
abbrev pub awake_numbers : List Ticket → List ℕ
awake_numbers [] = []
awake_numbers (ticket ∷ tickets) =
    if ticket.rests then awake_numbers tickets else ticket.number ∷ awake_numbers tickets

abbrev pub is_numbered : ℕ → Ticket → Bool
is_numbered number ticket = ticket.number == number

-- the number of the ticket of that origin
abbrev pub number_of : ℕ → List Ticket → Option ℕ
number_of origin [] = None
number_of origin (ticket ∷ tickets) = if ticket.origin == origin then Some ticket.number else number_of origin tickets

-- the numbers rise, from that one on
abbrev pub AreRising : ℕ → List ℕ → Type 0
AreRising first [] = Unit {0}
AreRising first (number ∷ numbers) = (first ≤ number) × AreRising (number + 1) numbers

-- all are below the next one
abbrev pub AreBelow : ℕ → List ℕ → Type 0
AreBelow next [] = Unit {0}
AreBelow next (number ∷ numbers) = (number < next) × AreBelow next numbers

abbrev pub ticket_numbers : List Ticket → List ℕ
ticket_numbers [] = []
ticket_numbers (ticket ∷ tickets) = ticket.number ∷ ticket_numbers tickets

-- The tickets stand in the order of their numbers, no two of them have one origin, at each origin the number of its
-- ticket is found, and the list of those that don't rest is theirs.
pub record AreTickets (tickets : List Ticket) (number_at : ℕ → Option ℕ) (awake_list : List ℕ)
    (next : ℕ) : Type 0 where
  pub rising : AreRising 0 (ticket_numbers tickets)
  pub below : AreBelow next (ticket_numbers tickets)
  pub distinct : AreDistinct (ticket_origins tickets)
  pub numbers : (origin : ℕ) → number_at origin ≡ number_of origin tickets
  pub awake : awake_list ≡ awake_numbers tickets

-- how many numbers are not handed out yet
abbrev pub numbers_left : ℕ → ℕ
numbers_left next = 2 ^ 64 - 1 - next

-- There is room for so many more tickets in each list and in the map, and so many numbers are left.
pub record HasRoom (spare count most awake_most map_spare left_numbers : ℕ) : Type 0 where
  pub list : count + spare ≤ most
  pub awake : count + spare ≤ awake_most
  pub map : spare ≤ map_spare
  pub left : spare ≤ left_numbers

-- ---- numbers that rise

-- the others
abbrev pub without_number : ℕ → List ℕ → List ℕ
without_number number [] = []
without_number number (other ∷ numbers) =
    if other == number then numbers else other ∷ without_number number numbers

-- the number in its place among the others
abbrev pub with_number : ℕ → List ℕ → List ℕ
with_number number [] = number ∷ []
with_number number (other ∷ numbers) =
    if nat_lt number other then number ∷ other ∷ numbers else other ∷ with_number number numbers

-- Numbers that rise, and where one of them stands.
use Rattle.std.proofs.Common.{◌≡◌, ◌∙◌, ℕ, Bool, true, false, List, [], ◌∷◌, ◌++◌, Option}
use Rattle.std.proofs.Common.{Some, None, Ok, Err, refl, sym, ap, subst}
use Rattle.std.proofs.Common.{cond, get_or, suc, zero, length, not, ◌<◌, ◌≤◌, ◌+◌, arith, take, Result}
use Rattle.std.specs.Prelude.{nat_lt, ◌==◌, ◌||◌, option_map, MatchResult, IsSome, OnSome, IsOk, OnOk, OnErr}
use Rattle.std.specs.Result.{result_ok}
use Rattle.std.proofs.lemmas.List.{length-take, take_more}
use Rattle.std.specs.Ordering.{nat_cmp, ordering_index}
use Rattle.std.specs.List.{position, position_or_len, remove, insert}
use Rattle.std.specs.List.Sorted.{IsBinarySearchResult}
use Rattle.std.proofs.lemmas.Bool.Decides.{nat_tests}
use Rattle.std.proofs.lemmas.List.Sorted.{searched}
use Rattle.ftc_server.specs.declared.tickets.Ticket.{Ticket}
use Rattle.ftc_server.specs.Tickets.{AreRising, awake_numbers, is_among, is_numbered, ticket_numbers, with_number}
use Rattle.ftc_server.specs.Tickets.{without_number}
use Rattle.ftc_server.proofs.Finding.{true_false}

-- ---- what stands where

not_same : (number other : ℕ) → other < number → (other == number) ≡ false
not_same number other lower = grind (arith, nat_tests)

pub rising_from : (first : ℕ) (numbers : List ℕ) (k : ℕ) → AreRising first numbers → k < length numbers
    → first ≤ get_or numbers k 0
rising_from first [] k rising within = absurd (omega arith)
rising_from first (number ∷ numbers) zero rising within = rising.0
rising_from first (number ∷ numbers) (suc k) rising within =
    let later = rising_from (number + 1) numbers k rising.1 (omega arith) in
    let here : first ≤ number = rising.0 in
    omega arith

pub rises : (first : ℕ) (numbers : List ℕ) (i j : ℕ) → AreRising first numbers → i ≤ j → j < length numbers
    → get_or numbers i 0 ≤ get_or numbers j 0
rises first [] i j rising order within = absurd (omega arith)
rises first (number ∷ numbers) zero zero rising order within = omega arith
rises first (number ∷ numbers) zero (suc j) rising order within =
    let later = rising_from (number + 1) numbers j rising.1 (omega arith) in
    omega arith
rises first (number ∷ numbers) (suc i) zero rising order within = absurd (omega arith)
rises first (number ∷ numbers) (suc i) (suc j) rising order within =
    rises (number + 1) numbers i j rising.1 (omega arith) (omega arith)

pub position_here : {A : Type 0} (test : A → Bool) (x : A) (items : List A) → test x ≡ true
    → position test (x ∷ items) ≡ Some 0
position_here test x items is =
    let none : position_or_len test (x ∷ items) ≡ 0 =
    ap (λ (t : Bool). cond (not t) (1 + position_or_len test items) 0) is in
    let within : nat_lt (position_or_len test (x ∷ items)) (length (x ∷ items)) ≡ true = grind (arith, nat_tests) in
    ap (λ (t : Bool). cond t (Some (position_or_len test (x ∷ items))) None) within ∙ ap (λ (n : ℕ). Some n) none

shifted : (n size : ℕ) → nat_lt (1 + n) (suc size) ≡ nat_lt n size
shifted n size = grind (arith, nat_tests)

shifted_place : (t : Bool) (n : ℕ)
    → cond t (Some (1 + n)) None ≡ option_map (λ (place : ℕ). place + 1) (cond t (Some n) None)
shifted_place true n = ap (λ (place : ℕ). Some place) (omega arith)
shifted_place false n = refl

pub position_behind : {A : Type 0} (test : A → Bool) (x : A) (items : List A) → test x ≡ false
    → position test (x ∷ items) ≡ option_map (λ (place : ℕ). place + 1) (position test items)
position_behind test x items isnt =
    let n = position_or_len test items in
    let one : position_or_len test (x ∷ items) ≡ 1 + n =
    ap (λ (t : Bool). cond (not t) (1 + position_or_len test items) 0) isnt in
    ap (λ (m : ℕ). cond (nat_lt m (length (x ∷ items))) (Some m) None) one
    ∙ ap (λ (t : Bool). cond t (Some (1 + n)) None) (shifted n (length items))
    ∙ shifted_place (nat_lt n (length items)) n

-- ---- tickets by their number

abbrev ticket_with : ℕ → Ticket
ticket_with number = record { number = number; origin = 0; rests = false }

pub number_at : (tickets : List Ticket) (k : ℕ) (d : Ticket)
    → get_or (ticket_numbers tickets) k d.number ≡ (get_or tickets k d).number
number_at [] k d = refl
number_at (ticket ∷ tickets) zero d = refl
number_at (ticket ∷ tickets) (suc k) d = number_at tickets k d

pub count_numbers : (tickets : List Ticket) → length (ticket_numbers tickets) ≡ length tickets
count_numbers [] = refl
count_numbers (ticket ∷ tickets) = let rest = count_numbers tickets in omega arith

placed_at : (first : ℕ) (tickets : List Ticket) (place number : ℕ) → AreRising first (ticket_numbers tickets)
    → place < length (ticket_numbers tickets) → get_or (ticket_numbers tickets) place 0 ≡ number
    → position (is_numbered number) tickets ≡ Some place
placed_at first [] place number rising within here = absurd (omega arith)
placed_at first (ticket ∷ tickets) zero number rising within here =
    position_here (is_numbered number) ticket tickets (grind (arith, nat_tests))
placed_at first (ticket ∷ tickets) (suc place) number rising within here =
    let later = rising_from (ticket.number + 1) (ticket_numbers tickets) place rising.1 (omega arith) in
    position_behind (is_numbered number) ticket tickets (not_same number ticket.number (omega arith))
    ∙ ap (option_map (λ (p : ℕ). p + 1))
    (placed_at (ticket.number + 1) tickets place number rising.1 (omega arith) here)
    ∙ ap (λ (p : ℕ). Some p) (omega arith)

none_placed : (tickets : List Ticket) (number : ℕ)
    → ((k : ℕ) → k < length (ticket_numbers tickets) → get_or (ticket_numbers tickets) k 0 ≡ number → ⊥)
    → position (is_numbered number) tickets ≡ None
none_placed [] number none = refl
none_placed (ticket ∷ tickets) number none =
    let isnt : (ticket.number == number) ≡ false = grind (arith, nat_tests, none 0 (omega arith)) in
    position_behind (is_numbered number) ticket tickets isnt
    ∙ ap (option_map (λ (p : ℕ). p + 1)) (none_placed tickets number (λ k within. none (suc k) (omega arith)))

-- what a search by the number says of the numbers
plain : (tickets : List Ticket) (number : ℕ) (result : Result ℕ ℕ)
    → IsBinarySearchResult (λ (ticket : Ticket). nat_cmp ticket.number number) tickets result
    → IsBinarySearchResult (λ (other : ℕ). nat_cmp other number) (ticket_numbers tickets) result
plain tickets number (Ok place) is = λ d.
    ap (λ (n : ℕ). nat_cmp n number) (number_at tickets place (ticket_with d)) ∙ is (ticket_with d)
plain tickets number (Err place) is = λ rising.
    let parted = is (λ i j d order within.
    subst (λ (m : ℕ). ordering_index (nat_cmp (get_or tickets i d).number number) ≤ ordering_index (nat_cmp m number))
    (number_at tickets j d)
    (subst (λ (m : ℕ). ordering_index (nat_cmp m number)
    ≤ ordering_index (nat_cmp (get_or (ticket_numbers tickets) j d.number) number)) (number_at tickets i d)
    (rising i j d.number order (rw count_numbers within)))) in (
      λ k d low high. ap (λ (n : ℕ). nat_cmp n number) (number_at tickets k (ticket_with d))
          ∙ parted.0 k (ticket_with d) low high,
      λ k d low high. ap (λ (n : ℕ). nat_cmp n number) (number_at tickets k (ticket_with d))
          ∙ parted.1 k (ticket_with d) low (rw (← count_numbers tickets) high),
    )

-- where a search by the number ends
abbrev pub IsSearched : List ℕ → ℕ → Result ℕ ℕ → Type 0
IsSearched numbers number result =
    MatchResult result (λ place. (place < length numbers) × (get_or numbers place 0 ≡ number))
    (λ place. (place ≤ length numbers) × ((k : ℕ) → k < place → get_or numbers k 0 < number)
    × ((k : ℕ) → place ≤ k → k < length numbers → number < get_or numbers k 0))

pub number_searched : (numbers : List ℕ) (number : ℕ) (result : Result ℕ ℕ) → AreRising 0 numbers
    → IsBinarySearchResult (λ (other : ℕ). nat_cmp other number) numbers result → IsSearched numbers number result
number_searched numbers number result rising is =
    searched numbers number result is (λ i j order within. rises 0 numbers i j rising order within)

apart_between : (numbers : List ℕ) (number place k : ℕ)
    → ((k : ℕ) → k < place → get_or numbers k 0 < number)
    → ((k : ℕ) → place ≤ k → k < length numbers → number < get_or numbers k 0)
    → k < length numbers → get_or numbers k 0 ≡ number → ⊥
apart_between numbers number place k below above within same =
    grind (arith, below k, above k)

place_found : (tickets : List Ticket) (number : ℕ) (result : Result ℕ ℕ) → AreRising 0 (ticket_numbers tickets)
    → IsSearched (ticket_numbers tickets) number result → position (is_numbered number) tickets ≡ result_ok result
place_found tickets number (Ok place) rising is = placed_at 0 tickets place number rising is.0 is.1
place_found tickets number (Err place) rising is =
    none_placed tickets number (λ k within same.
    apart_between (ticket_numbers tickets) number place k is.1 is.2 within same)

pub ticket_searched : (tickets : List Ticket) (number : ℕ) (result : Result ℕ ℕ) → AreRising 0 (ticket_numbers tickets)
    → IsBinarySearchResult (λ (ticket : Ticket). nat_cmp ticket.number number) tickets result
    → position (is_numbered number) tickets ≡ result_ok result
ticket_searched tickets number result rising is =
    place_found tickets number result rising
    (number_searched (ticket_numbers tickets) number result rising (plain tickets number result is))

-- ---- a number leaves, and comes

pub on_some : {A P : Type 0} (option : Option A) → IsSome option → OnSome option P → P
on_some None some on = absurd cc
on_some (Some item) some on = on

pub on_ok : {A E P : Type 0} (result : Result A E) → IsOk result → OnOk result P → P
on_ok (Ok item) ok on = on
on_ok (Err error) ok on = absurd cc

pub taken_at : (first : ℕ) (numbers : List ℕ) (place number : ℕ) → AreRising first numbers → place < length numbers
    → get_or numbers place 0 ≡ number → remove numbers place ≡ without_number number numbers
taken_at first [] place number rising within here = absurd (omega arith)
taken_at first (other ∷ numbers) zero number rising within here =
    let is : (other == number) ≡ true = grind (arith, nat_tests) in
    ap (λ (t : Bool). cond t numbers (other ∷ without_number number numbers)) (sym is)
taken_at first (other ∷ numbers) (suc place) number rising within here =
    let later = rising_from (other + 1) numbers place rising.1 (omega arith) in
    ap (λ (rest : List ℕ). other ∷ rest) (taken_at (other + 1) numbers place number rising.1 (omega arith) here)
    ∙ ap (λ (t : Bool). cond t numbers (other ∷ without_number number numbers))
    (sym (not_same number other (omega arith)))

none_taken : (numbers : List ℕ) (number : ℕ) → ((k : ℕ) → k < length numbers → get_or numbers k 0 ≡ number → ⊥)
    → without_number number numbers ≡ numbers
none_taken [] number none = refl
none_taken (other ∷ numbers) number none =
    let isnt : (other == number) ≡ false = grind (arith, nat_tests, none 0 (omega arith)) in
    ap (λ (t : Bool). cond t numbers (other ∷ without_number number numbers)) isnt
    ∙ ap (λ (rest : List ℕ). other ∷ rest) (none_taken numbers number (λ k within. none (suc k) (omega arith)))

pub not_taken : (numbers : List ℕ) (number : ℕ) (result : Result ℕ ℕ) → IsSearched numbers number result
    → ((place : ℕ) → result ≡ Ok place → ⊥) → numbers ≡ without_number number numbers
not_taken numbers number (Ok place) is other = absurd (other place refl)
not_taken numbers number (Err place) is other =
    sym (none_taken numbers number (λ k within same. apart_between numbers number place k is.1 is.2 within same))

pub put_at : (numbers : List ℕ) (place number : ℕ) → place ≤ length numbers
    → ((k : ℕ) → k < place → get_or numbers k 0 < number)
    → ((k : ℕ) → place ≤ k → k < length numbers → number < get_or numbers k 0)
    → insert numbers place number ≡ with_number number numbers
put_at [] zero number within below above = refl
put_at [] (suc place) number within below above = absurd (omega arith)
put_at (other ∷ numbers) zero number within below above =
    let is : nat_lt number other ≡ true = grind (arith, nat_tests, above 0 (omega arith) (omega arith)) in
    ap (λ (t : Bool). cond t (number ∷ other ∷ numbers) (other ∷ with_number number numbers)) (sym is)
put_at (other ∷ numbers) (suc place) number within below above =
    let isnt : nat_lt number other ≡ false = grind (arith, nat_tests, below 0 (omega arith)) in
    ap (λ (rest : List ℕ). other ∷ rest) (put_at numbers place number (omega arith)
    (λ k low. below (suc k) (omega arith)) (λ k high within. above (suc k) (omega arith) (omega arith)))
    ∙ ap (λ (t : Bool). cond t (number ∷ other ∷ numbers) (other ∷ with_number number numbers)) (sym isnt)

pub or_true : (b : Bool) → b || true ≡ true
or_true true = refl
or_true false = refl

pub among_at : (numbers : List ℕ) (place number : ℕ) → place < length numbers → get_or numbers place 0 ≡ number
    → is_among number numbers ≡ true
among_at [] place number within here = absurd (omega arith)
among_at (other ∷ numbers) zero number within here =
    let is : (other == number) ≡ true = grind (arith, nat_tests) in
    ap (λ (t : Bool). t || is_among number numbers) is
among_at (other ∷ numbers) (suc place) number within here =
    ap (λ (t : Bool). (other == number) || t) (among_at numbers place number (omega arith) here)
    ∙ or_true (other == number)

pub is_put : (numbers : List ℕ) (number : ℕ) (result : Result ℕ ℕ) → IsSearched numbers number result
    → is_among number numbers ≡ false → ((place : ℕ) → result ≡ Err place → ⊥)
    → numbers ≡ with_number number numbers
is_put numbers number (Ok place) is new other =
    absurd (true_false (is_among number numbers) (among_at numbers place number is.0 is.1) new)
is_put numbers number (Err place) is new other = absurd (other place refl)

-- ---- the numbers of those that don't rest

pub awake_behind : (tickets : List Ticket) (ticket : Ticket)
    → awake_numbers (tickets ++ ticket ∷ []) ≡ awake_numbers tickets ++ cond ticket.rests [] (ticket.number ∷ [])
awake_behind [] ticket = refl
awake_behind (x ∷ tickets) ticket =
    elim x.rests as (λ t. cond t (awake_numbers (tickets ++ ticket ∷ []))
    (x.number ∷ awake_numbers (tickets ++ ticket ∷ []))
    ≡ cond t (awake_numbers tickets) (x.number ∷ awake_numbers tickets) ++ cond ticket.rests [] (ticket.number ∷ [])) [
      | true ↦ awake_behind tickets ticket
      | false ↦ ap (λ (rest : List ℕ). x.number ∷ rest) (awake_behind tickets ticket)
    ]

pub awake_next : (tickets : List Ticket) (place : ℕ) (ticket : Ticket) → place < length tickets
    → ticket ≡ get_or tickets place ticket
    → awake_numbers (take (place + 1) tickets)
    ≡ awake_numbers (take place tickets) ++ cond ticket.rests [] (ticket.number ∷ [])
awake_next tickets place ticket within is =
    ap awake_numbers (take_more tickets place ticket within)
    ∙ ap (λ (x : Ticket). awake_numbers (take place tickets ++ x ∷ [])) (sym is)
    ∙ awake_behind (take place tickets) ticket

pub few_awake : (tickets : List Ticket) → length (awake_numbers tickets) ≤ length tickets
few_awake [] = omega arith
few_awake (x ∷ tickets) =
    let rest = few_awake tickets in
    elim x.rests as (λ t. length (cond t (awake_numbers tickets) (x.number ∷ awake_numbers tickets))
    ≤ length (x ∷ tickets)) [
      | true ↦ omega arith
      | false ↦ omega arith
    ]

pub few_awake_in : (tickets : List Ticket) (place : ℕ) → length (awake_numbers (take place tickets)) ≤ place
few_awake_in tickets place = let few = few_awake (take place tickets) in omega (arith, length-take place tickets)

pub has_room : {A E : Type 0} (result : Result A E) {capacity size : ℕ} → OnErr result (capacity ≤ size)
    → size < capacity → IsOk result
has_room (Ok item) full room = refl
has_room (Err error) full room = absurd (omega arith)

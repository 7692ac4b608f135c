-- What tests of places and of lists of visits tell.
use Rattle.std.proofs.Common.{◌≡◌, ℕ, zero, suc, ◌==◌, ◌&&◌, not, Bool, true, false, List, [], ◌∷◌, Option, Some, None}
use Rattle.std.proofs.Common.{inl, inr, refl, sym, ap, subst, ◌∙◌, eqb-true, eq-eqb}
use Rattle.std.specs.List.{list_all, list_any}
use Rattle.std.proofs.lemmas.Bool.{true≢false, and_parts, and_from, or_cases, or_left, or_right}
use Rattle.ftc_journal.specs.declared.event.VisitName.{VisitName}
use Rattle.ftc_serial.specs.Trace.{names}
use Rattle.ftc_machine.specs.Slots.{slot_at, has_such}

-- an item for which the test is true
pub such_item : {A : Type 0} → (test : A → Bool) (slot : Option A) → has_such test slot ≡ true →
    (item : A) × (slot ≡ Some item) × (test item ≡ true)
such_item test None is = absurd (true≢false (sym is))
such_item test (Some item) is = (item, refl, is)

pub item_such : {A : Type 0} → (test : A → Bool) (slot : Option A) (item : A) → slot ≡ Some item → test item ≡ true →
    has_such test slot ≡ true
item_such test slot item there is = subst (λ o. has_such test o ≡ true) (sym there) is

pub any_item : {A : Type 0} → (test : A → Bool) (slots : List (Option A)) → list_any (has_such test) slots ≡ true
    → (place : ℕ) × (item : A) × (slot_at slots place ≡ Some item) × (test item ≡ true)
any_item test [] is = absurd (true≢false (sym is))
any_item test (slot ∷ slots) is = elim (or_cases (has_such test slot) (list_any (has_such test) slots) is) [
  | inl here ↦ let found = such_item test slot here in (0, found.0, found.1, found.2)
  | inr there ↦ let found = any_item test slots there in (suc found.0, found.1, found.2, found.3)
]

pub item_any : {A : Type 0} → (test : A → Bool) (slots : List (Option A)) (place : ℕ) (item : A) →
    slot_at slots place ≡ Some item → test item ≡ true
    → list_any (has_such test) slots ≡ true
item_any test [] place item there is = absurd (cc)
item_any test (slot ∷ slots) zero item there is =
    or_left (has_such test slot) (list_any (has_such test) slots) (item_such test slot item there is)
item_any test (slot ∷ slots) (suc place) item there is =
    or_right (has_such test slot) (list_any (has_such test) slots) (item_any test slots place item there is)

-- ---- lists of visits

abbrev pub name_of : ℕ → ℕ → VisitName
name_of server packet = record { server = server; packet = packet }

is_name : (name : VisitName) (server packet : ℕ) → name.server == server && name.packet == packet ≡ true →
    name ≡ name_of server packet
is_name name server packet is =
    let both = and_parts (name.server == server) (name.packet == packet) is in
    let first : name.server ≡ server = eqb-true name.server server both.0 in
    let second : name.packet ≡ packet = eqb-true name.packet packet both.1 in
    ap (λ x. name_of x name.packet) first ∙ ap (λ x. name_of server x) second

-- a test that is true of all is true of each
pub each_name : (test : VisitName → Bool) (visits : List VisitName) (server packet : ℕ) → list_all test visits ≡ true →
    names visits server packet ≡ true → test (name_of server packet) ≡ true
each_name test [] server packet all is = absurd (true≢false (sym is))
each_name test (name ∷ visits) server packet all is =
    let both = and_parts (test name) (list_all test visits) all in
    elim (or_cases (name.server == server && name.packet == packet) (names visits server packet) is) [
      | inl here ↦ subst (λ n. test n ≡ true) (is_name name server packet here) both.0
      | inr there ↦ each_name test visits server packet both.1 there
    ]

pub names_here : (name : VisitName) (visits : List VisitName) → names (name ∷ visits) name.server name.packet ≡ true
names_here name visits =
    or_left (name.server == name.server && name.packet == name.packet) (names visits name.server name.packet)
    (and_from (name.server == name.server) (name.packet == name.packet) (eq-eqb name.server name.server refl)
    (eq-eqb name.packet name.packet refl))

pub all_names : (test : VisitName → Bool) (visits : List VisitName) →
    ((server packet : ℕ) → names visits server packet ≡ true → test (name_of server packet) ≡ true) →
    list_all test visits ≡ true
all_names test [] each = refl
all_names test (name ∷ visits) each =
    and_from (test name) (list_all test visits)
    (each name.server name.packet (names_here name visits))
    (all_names test visits (λ server packet is. each server packet
    (or_right (name.server == server && name.packet == packet) (names visits server packet) is)))

-- ---- truth values

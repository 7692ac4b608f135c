-- Lists in order, into which items are put at their places.
use Rattle.std.specs.Prelude.{◌≡◌, ℕ, Bool, false, not, ◌&&◌, ◌==◌, nat_lt, List, [], ◌∷◌, filter, Some, if◌then◌else◌}
use Rattle.std.specs.List.{AllByRecursion}
use Rattle.ftc_base.specs.Sets.{has}
use Rattle.ftc_message.specs.declared.need.Need.{Need}
use Rattle.ftc_message.specs.Logged.{Logged, log_follows}

-- an item before the first that doesn't stand before it
abbrev pub with_item : {A : Type 0} → (A → A → Bool) → A → List A → List A
with_item is_before item [] = item ∷ []
with_item is_before item (other ∷ others) =
    if is_before other item then other ∷ with_item is_before item others else item ∷ other ∷ others

-- each of the first list's items among those of the second
abbrev pub with_items : {A : Type 0} → (A → A → Bool) → List A → List A → List A
with_items is_before [] others = others
with_items is_before (item ∷ items) others = with_item is_before item (with_items is_before items others)

-- logs stand by origin and then by group
abbrev pub is_earlier : Logged → Logged → Bool
is_earlier log other = log_follows (Some (log.origin, log.group)) other.origin other.group

-- it stands before the log of that packet and group
abbrev pub is_before : ℕ → ℕ → Logged → Bool
is_before origin group log = log_follows (Some (log.origin, log.group)) origin group

-- it is the log of that packet and group
abbrev pub is_log_of : ℕ → ℕ → Logged → Bool
is_log_of origin group log = log.origin == origin && log.group == group

-- none of the logs is of the same packet and group as this one
abbrev pub HasNone : Logged → List Logged → Type 0
HasNone log logs = AllByRecursion (λ other. is_log_of log.origin log.group other ≡ false) logs

-- no log of the first list has its packet and its group in the second
abbrev pub AreApart : List Logged → List Logged → Type 0
AreApart logs others = AllByRecursion (λ log. HasNone log others) logs

-- the logs of the groups that aren't in the set
abbrev pub logs_without : ℕ → List Logged → List Logged
logs_without groups logs = filter (λ log. not (has groups log.group)) logs

-- needs stand by group
abbrev pub is_lower : Need → Need → Bool
is_lower need other = nat_lt need.group other.group

-- it is the need of that group
abbrev pub is_need_of : ℕ → Need → Bool
is_need_of group need = need.group == group

-- none of the needs is of the same group as this one
abbrev pub HasNoNeed : Need → List Need → Type 0
HasNoNeed need needs = AllByRecursion (λ other. is_need_of need.group other ≡ false) needs

-- no need of the first list has its group in the second
abbrev pub AreOfOthers : List Need → List Need → Type 0
AreOfOthers needs others = AllByRecursion (λ need. HasNoNeed need others) needs

-- the needs of the groups that aren't in the set
abbrev pub needs_without : ℕ → List Need → List Need
needs_without groups needs = filter (λ need. not (has groups need.group)) needs

-- How much a run has still to do: seven numbers, of which every event lowers one and leaves those before it as they
-- are. So every run ends.
use Rattle.std.specs.Prelude.{ℕ, zero, suc, ◌≡◌, ◌+◌, ◌-◌, ◌*◌, ◌<◌, ◌≤◌, ◌⊎◌, ◌&&◌, not, Bool, true, false, List, []}
use Rattle.std.specs.Prelude.{◌∷◌, length, Option, Some, None, is_some, if◌then◌else◌}
use Rattle.ftc_serial.specs.Serial.{Entry, Visited, Given}
use Rattle.ftc_protocol.specs.Setting.{Setting, servers, count, is_member}
use Rattle.ftc_protocol.specs.Changes.{is_changing}
use Rattle.ftc_protocol.specs.State.{Where, Held, Queued, Message, ChainState}

-- the sum over the numbers below a count
abbrev pub sum_below : ℕ → (ℕ → ℕ) → ℕ
sum_below zero number = 0
sum_below (suc size) number = sum_below size number + number size

abbrev pub one_for : Bool → ℕ
one_for is = if is then 1 else 0

-- how far a message has still to go
abbrev pub way_from : ℕ → Where → ℕ
way_from size (Held server visited true) = 1
way_from size (Held server visited false) = 3 * (size - server) + one_for (not visited)
way_from size (Queued link) = 3 * (size - 1 - link) + 2

abbrev pub way_of : ℕ → Option Message → ℕ
way_of size None = 0
way_of size (Some message) = way_from size message.place

-- which changing visits of the trace a live member of a group lacks
abbrev pub lacks : Setting → ChainState → Entry → ℕ → Bool
lacks setting state (Visited group packet outcome) server =
    state.up server && is_member setting group server && is_changing setting.partitions outcome
    && not (state.lists server group packet)
lacks setting state (Given packet bytes) server = false

abbrev pub lacking : Setting → ChainState → List Entry → ℕ
lacking setting state [] = 0
lacking setting state (entry ∷ older) =
    sum_below (servers setting) (λ server. one_for (lacks setting state entry server)) + lacking setting state older

-- the numbers of messages are below this
abbrev pub most_messages : Setting → ℕ
most_messages setting = count setting + (count setting + length setting.lines + 1)

-- the lines, packets and messages without a packet that may come; the way that messages have to go; what live members
-- lack; the gaps; and the withheld packets
abbrev pub measure : Setting → ChainState → List ℕ
measure setting state =
    length state.lines
    ∷ (count setting - state.entered)
    ∷ (count setting + length setting.lines + 1 - state.propagates)
    ∷ sum_below (most_messages setting) (λ origin. way_of (servers setting) (state.message origin))
    ∷ lacking setting state state.trace
    ∷ sum_below (servers setting) (λ link. one_for (state.gap link))
    ∷ sum_below (count setting) (λ packet. one_for (is_some (state.withheld packet)))
    ∷ []

-- the first number in which the two lists differ is less in the one
abbrev pub IsBelow : List ℕ → List ℕ → Type 0
IsBelow [] others = ⊥
IsBelow (one ∷ ones) [] = ⊥
IsBelow (one ∷ ones) (other ∷ others) = (one < other) ⊎ ((one ≡ other) × IsBelow ones others)

-- None of the seven numbers is above these,
abbrev pub most_of : Setting → List ℕ
most_of setting =
    length setting.lines
    ∷ count setting
    ∷ (count setting + length setting.lines + 1)
    ∷ most_messages setting * (3 * servers setting + 2)
    ∷ (servers setting * count setting) * servers setting
    ∷ servers setting
    ∷ count setting
    ∷ []

abbrev pub AreAtMost : List ℕ → List ℕ → Type 0
AreAtMost [] [] = Unit {0}
AreAtMost [] (one ∷ ones) = ⊥
AreAtMost (most ∷ mosts) [] = ⊥
AreAtMost (most ∷ mosts) (one ∷ ones) = (one ≤ most) × AreAtMost mosts ones

-- so they are the digits of one number, which every event lowers.
abbrev pub number_of : ℕ → List ℕ → List ℕ → ℕ
number_of high [] ones = high
number_of high (most ∷ mosts) [] = high
number_of high (most ∷ mosts) (one ∷ ones) = number_of (high * (most + 1) + one) mosts ones

abbrev pub work_left : Setting → ChainState → ℕ
work_left setting state = number_of 0 (most_of setting) (measure setting state)

-- The trace: the visits and releases that count, the last of them first. What stands in it, what is before what, what
-- a set of its visits has, and the content that these visits leave.
use Rattle.std.specs.Prelude.{ℕ, ◌≡◌, ◌⊎◌, Bool, true, not, ◌==◌, ◌&&◌, ◌||◌, List, [], ◌∷◌, if◌then◌else◌}
use Rattle.std.specs.FinMap.{empty}
use Rattle.std.specs.List.{list_all}
use Rattle.ftc_store.specs.Store.{Content, written}
use Rattle.ftc_serial.specs.Words.{AnyOf}
use Rattle.ftc_serial.specs.Take.{Outcome}
use Rattle.ftc_serial.specs.Serial.{Entry, Visited, Given}
use Rattle.ftc_protocol.specs.Visits.{Visits, In, no_visits, union, just}
use Rattle.ftc_protocol.specs.Changes.{is_touching, is_changing, Meets, meets}

-- the entry is that visit, and its outcome is of that kind
abbrev pub IsVisit : (Outcome → Type 0) → ℕ → ℕ → Entry → Type 0
IsVisit Kind server packet (Visited visited passed outcome) = (visited ≡ server) × (passed ≡ packet) × Kind outcome
IsVisit Kind server packet (Given released bytes) = ⊥

-- the visit stands in the trace, with such an outcome
abbrev pub IsInTrace : (Outcome → Type 0) → List Entry → ℕ → ℕ → Type 0
IsInTrace Kind trace server packet = AnyOf (IsVisit Kind server packet) trace

abbrev pub IsSomeVisit : List Entry → ℕ → ℕ → Type 0
IsSomeVisit trace server packet = IsInTrace (λ outcome. Unit {0}) trace server packet

abbrev pub IsTouching : List Entry → ℕ → ℕ → Type 0
IsTouching trace server packet = IsInTrace (λ outcome. is_touching outcome ≡ true) trace server packet

abbrev pub IsChanging : ℕ → List Entry → ℕ → ℕ → Type 0
IsChanging partitions trace server packet =
    IsInTrace (λ outcome. is_changing partitions outcome ≡ true) trace server packet

-- the entry is a visit of the middlebox, and packet's visit there stands in the older ones and changes a partition
-- that the entry touches
abbrev pub Follows : ℕ → List Entry → ℕ → ℕ → Entry → Type 0
Follows partitions older server packet (Visited visited passed outcome) =
    (visited ≡ server) × IsInTrace (λ earlier. Meets partitions earlier outcome) older server packet
Follows partitions older server packet (Given released bytes) = ⊥

abbrev pub IsVisitOf : ℕ → Entry → Type 0
IsVisitOf packet (Visited visited passed outcome) = passed ≡ packet
IsVisitOf packet (Given released bytes) = ⊥

-- at that middlebox the visit of the one packet is before that of the other: it stands earlier in the trace and
-- changes a partition that the other touches
abbrev pub IsBefore : ℕ → List Entry → ℕ → ℕ → ℕ → Type 0
IsBefore partitions [] server packet other = ⊥
IsBefore partitions (entry ∷ older) server packet other =
    (IsVisitOf other entry × Follows partitions older server packet entry)
    ⊎ IsBefore partitions older server packet other

-- A set has a visit: a changing one is in it, and of one that changes nothing each visit that is before it is in it.
pub record Has (partitions : ℕ) (trace : List Entry) (visits : Visits) (server packet : ℕ) : Type 0 where
  pub changing : IsChanging partitions trace server packet → In visits server packet
  pub other : (IsChanging partitions trace server packet → ⊥) → (earlier : ℕ) →
      IsBefore partitions trace server earlier packet → In visits server earlier

-- The same as tests, for what has to be computed: of a visit with this outcome behind these entries ..
abbrev pub is_had_if_met : ℕ → Visits → ℕ → Outcome → Entry → Bool
is_had_if_met partitions visits server outcome (Visited visited passed earlier) =
    not ((visited == server) && meets partitions earlier outcome) || visits server passed
is_had_if_met partitions visits server outcome (Given released bytes) = true

abbrev pub is_had : ℕ → Visits → List Entry → ℕ → ℕ → Outcome → Bool
is_had partitions visits older server packet outcome =
    if is_changing partitions outcome then visits server packet
    else list_all (is_had_if_met partitions visits server outcome) older

-- .. of each visit of the trace that is among the wanted ..
abbrev pub has_each : ℕ → List Entry → Visits → Visits → Bool
has_each partitions [] visits wanted = true
has_each partitions (Visited server packet outcome ∷ older) visits wanted =
    (not (wanted server packet) || is_had partitions visits older server packet outcome)
    && has_each partitions older visits wanted
has_each partitions (Given packet bytes ∷ older) visits wanted = has_each partitions older visits wanted

-- .. and the visits of the trace that touch something and that the set lacks.
abbrev pub lacked_by : ℕ → List Entry → Visits → Visits
lacked_by partitions [] visits = no_visits
lacked_by partitions (Visited server packet outcome ∷ older) visits =
    union (just server packet (is_touching outcome && not (is_had partitions visits older server packet outcome)))
    (lacked_by partitions older visits)
lacked_by partitions (Given packet bytes ∷ older) visits = lacked_by partitions older visits

-- the content of a middlebox after the writes of those of its visits in the trace that are of these packets
abbrev pub content_of : List Entry → (ℕ → Bool) → ℕ → Content
content_of [] packets server = empty
content_of (Visited visited packet outcome ∷ older) packets server =
    if (visited == server) && packets packet then written outcome.writes (content_of older packets server)
    else content_of older packets server
content_of (Given packet bytes ∷ older) packets server = content_of older packets server

-- Which visits are undone, by their numbers.
use Rattle.std.specs.Prelude.{ℕ, ◌==◌, ◌&&◌, ◌||◌, nat_lt, nat_le, not, Bool, false, List, [], ◌∷◌, length}
use Rattle.std.specs.Prelude.{if◌then◌else◌}
use Rattle.std.specs.List.{list_all}
use Rattle.ftc_base.specs.declared.limits.TheConstants.{MOST_PARTITIONS}
use Rattle.ftc_journal.specs.declared.event.VisitName.{VisitName}
use Rattle.ftc_vector.specs.Vector.{number_at}
use Rattle.ftc_server.specs.declared.server.Server.{Server}
use Rattle.ftc_server.specs.Looks.{replica_in}
use Rattle.ftc_visits.specs.declared.visit.MadeVisit.{MadeVisit}
use Rattle.ftc_visits.specs.declared.visit.Mark.{Mark}
use Rattle.ftc_visits.specs.Made.{name_of}

-- a server lies strictly between two others on the ring: where they are one, every other does
abbrev pub is_between : ℕ → ℕ → ℕ → Bool
is_between previous following server =
    if previous == following then not (server == previous)
    else (if nat_lt previous following then nat_lt previous server && nat_lt server following
    else nat_lt previous server || nat_lt server following)

-- the vector has reached the mark
abbrev pub is_reached : List ℕ → Mark → Bool
is_reached vector mark = nat_lt mark.partition MOST_PARTITIONS && nat_le mark.number (number_at vector mark.partition)

-- a visit is undone by itself where it read something, its head lies between, and the live server after lacks it
abbrev pub is_undone_alone : ℕ → Server → MadeVisit → Bool
is_undone_alone previous following visit =
    not (length visit.needed.items == 0) && is_between previous following.id visit.server
    && not (list_all (is_reached (replica_in following visit.server).vector) visit.needed.items)

-- the names of the visits that are undone, in order: each that is so by itself, those behind it of its packet, and
-- those of packets of which an earlier visit is undone
abbrev pub undone_from : (MadeVisit → Bool) → (ℕ → Bool) → List MadeVisit → List VisitName
undone_from is_alone packets [] = []
undone_from is_alone packets (visit ∷ visits) =
    if packets visit.packet || is_alone visit
    then name_of visit ∷ undone_from is_alone (λ packet. (packet == visit.packet) || packets packet) visits
    else undone_from is_alone packets visits

-- the name is that of the visit
abbrev pub is_of : VisitName → MadeVisit → Bool
is_of name visit = (name.server == visit.server) && (name.packet == visit.packet)

-- the first of the names is that of the visit
abbrev pub is_first : List VisitName → MadeVisit → Bool
is_first [] visit = false
is_first (name ∷ names) visit = is_of name visit

-- the visits without those of these names, which stand in their order
abbrev pub without : List VisitName → List MadeVisit → List MadeVisit
without [] visits = visits
without (name ∷ names) [] = []
without (name ∷ names) (visit ∷ visits) =
    if is_of name visit then without names visits else visit ∷ without (name ∷ names) visits

-- The visits of the trace, each with what a vector of its group has to have reached where the visit is in it.
use Rattle.std.specs.Prelude.{ℕ, ◌≡◌, ◌<◌, Bool, true, false, List, map, Option, Some}
use Rattle.std.specs.List.{AllByRecursion}
use Rattle.ftc_base.specs.Partition.{partition_of}
use Rattle.ftc_base.specs.declared.ask.Answer.{Answer}
use Rattle.ftc_base.specs.declared.limits.TheConstants.{MOST_PARTITIONS}
use Rattle.ftc_journal.specs.declared.event.Event.{Event}
use Rattle.ftc_journal.specs.declared.event.Event.TheVariants as event
use Rattle.ftc_journal.specs.declared.event.VisitName.{VisitName}
use Rattle.ftc_serial.specs.Serial.{Entry}
use Rattle.ftc_serial.specs.Words.{AnyOf}
use Rattle.ftc_vector.specs.Vector.{number_at, mark_at}
use Rattle.ftc_protocol.specs.Recovery.{visits_in}
use Rattle.ftc_protocol.specs.Setting.{Setting}
use Rattle.ftc_protocol.specs.State.{ChainState}
use Rattle.ftc_ties.specs.Servers.{IsNeedIn}
use Rattle.ftc_visits.specs.declared.visit.MadeVisit.{MadeVisit}
use Rattle.ftc_visits.specs.declared.visit.Mark.{Mark}

-- visits in the order in which they were made, and for how many more there is room
pub record MadeVisitList : Type 0 where
  pub items : List MadeVisit
  pub spare : ℕ

-- the mark of a key that was read: its partition, and the number that the vector has there
abbrev pub mark_of : ℕ → List ℕ → Answer → Mark
mark_of partitions vector answer = record {
  partition = partition_of partitions answer.key;
  number = number_at vector (partition_of partitions answer.key);
}

-- the packet's visit at that server, which had these answers, and behind which the head has this vector
pub record IsMadeBy (partitions server packet : ℕ) (answers : List Answer) (vector : List ℕ) (visit : MadeVisit) :
    Type 0 where
  pub server_is : visit.server ≡ server
  pub packet_is : visit.packet ≡ packet
  pub needed : visit.needed.items ≡ map (mark_of partitions vector) answers

abbrev pub name_of : MadeVisit → VisitName
name_of visit = record { server = visit.server; packet = visit.packet }

-- the marks of a list by partition, in any order
pub record AreMarksOf (marks : List (Option ℕ)) (needed : List Mark) : Type 0 where
  pub each : AllByRecursion
      (λ (mark : Mark). mark.partition < MOST_PARTITIONS × (mark_at marks mark.partition ≡ Some mark.number)) needed
  pub all : (partition number : ℕ) → partition < MOST_PARTITIONS → mark_at marks partition ≡ Some number →
      AnyOf (λ (mark : Mark). (mark.partition ≡ partition) × (mark.number ≡ number)) needed

-- its marks are the need of the visit, as the trace gives it; a visit that read nothing has none
pub record IsMadeIn (partitions : ℕ) (trace : List Entry) (visit : MadeVisit) : Type 0 where
  pub marks : List (Option ℕ)
  pub need : IsNeedIn partitions trace visit.server visit.packet marks
  pub needed : AreMarksOf marks visit.needed.items

-- they are the visits of the trace, the first of them first, each with what it needs
pub record AreMade (setting : Setting) (state : ChainState) (visits : List MadeVisit) : Type 0 where
  pub names : map name_of visits ≡ visits_in state.trace
  pub each : AllByRecursion (IsMadeIn setting.partitions state.trace) visits

-- the event neither makes a visit nor undoes any
abbrev pub keeps_visits : Event → Bool
keeps_visits (event.Visit server packet worker) = false
keeps_visits (event.Recover server undone) = false
keeps_visits other = true

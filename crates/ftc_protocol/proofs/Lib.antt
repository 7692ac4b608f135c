pub mod Places
mod TraceRemoval
pub mod UndoneVisits
pub mod RingDistances
pub mod TraceLemmas
pub mod Sets
pub mod RunLists
pub mod EarlierVisits
mod LiveHolders
mod ServerLists
mod MemberNesting
mod CarriedLogs
mod RecoveryBetween
pub mod ReadyTest
mod Premises
mod HavingVisits
mod GroupDistance
mod VisitsPassed
pub mod ChangeLaws
pub mod ListStores
mod UndoneRemoval
mod TraceAndLists
mod Invariant
mod SmallEvents
mod ReleaseAndCrash
mod VisitEvent
mod LeavingServer
pub mod UndoneList
mod RecoveryEvent
mod Induction
mod FirstLive
mod StandingVisits
mod TraceNow
mod Soundness
mod InTransit
mod ArrivalOrder
mod MessageOrder
mod Quiescence
mod FinishedState
mod ReleasedForGood
mod AcceptedSettings
mod Prefixes
mod ScriptLines
mod InsidePackets
mod FullLists
mod Complete
mod LossEvents
mod FaultFree
mod LogShapes
mod EndedMessages
pub mod HasEach
mod PropagateCounts
mod TellingMessage
pub mod FewPropagates
mod MeasureFalls
mod Example
mod JournalTrace
pub mod NothingLegal
mod WholeTrace
mod FilteredPackets
mod Driven
mod Lone
mod Entering
mod LoneVisit
mod LonePass
mod LoneTake
mod LastPass
mod LoneRelease
mod PlainCourse
mod DriveTrace
mod PlainRun
mod PlacedFates
mod PlainFates
mod FirstJobInTurn
mod MessageWork
mod DriveLaws
pub mod OrderlyStates
mod MeasureNumber
mod LogsRideOnce
mod PacketNeeds
pub mod Fronts
mod NoOwnLogs
mod StatesOfRuns
mod SettledPlaces
mod UndoneOnce
mod OneVisit
mod Members
mod ReleasedVisits
mod RecoveryExample
mod RingTests
mod TestMeanings
mod JobOrder
mod ArrivalTimes
pub mod UniqueDrive
mod BoundedSearch
mod DecidedJobs
mod FirstJobExists
mod LoneFirst

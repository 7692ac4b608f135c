mod SlotSearch
mod FrontierTests
mod SlotTests
mod RepresentedMessages
mod RepresentedRuns
mod ScriptTests
mod LastServer
mod LegalityMeaning
mod EventEffects
pub mod RunInputs
mod SameNames
mod JournalReplay
mod OpeningState
mod EndOfRun
mod RunsOnward
mod DueMeanings
mod MessageTests
mod LinesLeft
pub mod RisingNumbers
pub mod SetFrontiers
pub mod PlacedVisits
pub mod FootprintTests
pub mod VisitMarks
pub mod MadeFootprints
pub mod MarkedPartitions
pub mod JoinedVisit
pub mod TraceGrowth
pub mod TraceRemoval
pub mod ReplacedPlaces
pub mod GroupVectors
pub mod MergedFrontiers
pub mod GroupParts
pub mod LegalEvents
pub mod MovedMessages
pub mod NextParts
pub mod GroupTails
pub mod OnwardLogs
pub mod AfterLeaving
pub mod RaisedRows
pub mod AfterApply
pub mod SameParts
pub mod AfterVisit
pub mod VisitOutcomes
pub mod AfterPull
pub mod PlaceSweep
pub mod DroppedPlaces
pub mod AfterCrash
pub mod VisitChain
pub mod UndoneTests
pub mod FilteredLosses
pub mod TransferredLists
pub mod RebuiltStore
pub mod DroppedTests
pub mod AfterRecovery
mod LawfulStates

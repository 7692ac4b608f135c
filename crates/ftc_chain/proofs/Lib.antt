mod AtRest
mod Commits
mod Drained
pub mod HeadsKept
mod HeadsSeen
mod LinkFrames
mod LiveMembers
mod Made
mod NewHeads
mod Outlets
mod Permitted
mod ReleasedOnce
mod Releases
mod Rooms
mod SeenJobs
mod SlotCalls
mod UnderWay

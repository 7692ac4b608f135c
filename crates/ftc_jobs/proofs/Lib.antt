mod AllJobs
mod ApplyNow
mod Begins
mod Below
mod Chosen
mod FirstWork
mod JobKinds
pub mod Joined
mod LinesInOrder
mod NextLine
mod RunVisit
mod Sizes
mod Standing
mod TwoParts
mod Wanted
mod WorkAt
mod WorkInTurn

mod FinishSteps
pub mod IdleRuns
mod Listed
mod PlayedParts
mod Results

pub mod Steps
pub mod Fields
pub mod Blanks
pub mod MarkLaws
pub mod PartLaws
pub mod Following
pub mod ItemLaws
pub mod WriteLaws
pub mod LogLaws
pub mod Partitions
pub mod NeedLaws
pub mod CommitLaws
pub mod MessageLaws
pub mod Members
mod Merged
pub mod InOrder
pub mod RiseLaws
pub mod Searched

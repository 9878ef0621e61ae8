pub mod RankLaws
pub mod RankSteps
pub mod Ranked

mod DigitLaws
pub mod ItemLaws
pub mod HistoryLaws
pub mod PayloadLaws
mod TellingLaws
mod TotalLaws
mod WrittenLaws

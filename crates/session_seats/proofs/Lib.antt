pub mod SupplyLaws
pub mod WantingLaws
pub mod AnswerLaws
pub mod FrameParts
pub mod StoreLaws
pub mod SeatLaws
pub mod InputLaws
pub mod EmptyStores

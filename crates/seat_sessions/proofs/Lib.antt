pub mod SeatLaws
pub mod ServingLaws

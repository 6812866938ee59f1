pub mod Openings
pub mod Serving
pub mod PassViews
pub mod Seats

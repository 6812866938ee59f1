pub mod Arguments
pub mod Requests
pub mod Fitting
pub mod Examples

mod Fronts
pub mod Nils

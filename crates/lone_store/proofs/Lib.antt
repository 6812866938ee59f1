pub mod LoneLaws

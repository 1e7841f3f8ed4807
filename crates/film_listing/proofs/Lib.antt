pub mod DemandThree
pub mod Lists

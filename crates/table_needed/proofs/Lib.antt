pub mod Covered
pub mod Laws

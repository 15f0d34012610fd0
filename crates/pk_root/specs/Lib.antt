pub mod Scanned
pub mod Installing
pub mod Laws

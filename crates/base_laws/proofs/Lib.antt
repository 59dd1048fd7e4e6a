pub mod Kit
pub mod Bools
pub mod Tests
pub mod Laws
pub mod Sums

pub mod Readers
pub mod Parts
pub mod Readings
pub mod Limited
pub mod Writings
pub mod Fitted
pub mod StreamLaws
mod OneFault

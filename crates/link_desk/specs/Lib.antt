pub mod CarriesLaws
pub mod Exchanges
pub mod Hearings
pub mod LinkDeeds
pub mod PushedValues
pub mod Readiness

pub mod LinkViews
pub mod MemoryForms
pub mod NetCauses
pub mod StepMoments
pub mod Traffics

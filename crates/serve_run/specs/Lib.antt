pub mod Endings
pub mod Lines
pub mod NetViews
pub mod ServeRuns
pub mod Tellings

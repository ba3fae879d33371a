pub mod LocalLinks
pub mod LocalTalks

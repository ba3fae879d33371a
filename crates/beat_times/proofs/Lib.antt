pub mod DueFound

pub mod AgainChanges
pub mod AgainReads
pub mod DraftsBack
pub mod Faults
pub mod Gone
pub mod KeptOrder
pub mod RetriedTexts
pub mod TasksRead

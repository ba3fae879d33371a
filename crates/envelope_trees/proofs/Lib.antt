pub mod Changes
pub mod Kept
pub mod Lengths
pub mod MarkedTrees
pub mod SortedTrees
pub mod TextsBack

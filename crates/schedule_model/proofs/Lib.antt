pub mod ArgumentTrees

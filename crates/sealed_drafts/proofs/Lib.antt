pub mod SealedTrees

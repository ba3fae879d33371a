pub mod EachBlock
pub mod ToyTexts

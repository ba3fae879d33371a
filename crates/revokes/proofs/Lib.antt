pub mod KeptRevokes

mod Cuts
mod Ends
mod Whole

mod Answered
mod Cycles
mod Declares
mod Direct
mod Limits
mod Publishes

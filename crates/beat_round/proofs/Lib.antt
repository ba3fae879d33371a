mod Sendings
mod Drafts

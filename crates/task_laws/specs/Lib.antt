pub mod Laws
pub mod Relations
pub mod SentAgain

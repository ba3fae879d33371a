pub mod KitMonths
pub mod MonthStarts
pub mod Searches
pub mod Words

pub mod CivilBack
pub mod KitCalendar
pub mod MomentsBack
pub mod TextsBack

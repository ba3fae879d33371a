mod Heard
mod Works
mod Neutral
mod Beginning

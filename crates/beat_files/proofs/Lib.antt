mod Spelled
mod Below

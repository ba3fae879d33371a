mod Said
mod Asides

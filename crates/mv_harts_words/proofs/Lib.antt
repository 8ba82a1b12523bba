mod Reading
mod Table
mod Turns

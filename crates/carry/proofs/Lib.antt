mod Carrying
mod Filling
mod Reading
mod Trams
mod Lines
mod Whole

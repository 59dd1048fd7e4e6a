mod Left
mod End
mod First
mod Timeline
mod Chain
mod Counting

mod Copies
mod Leading
mod LineTests
mod OneToOne
mod Steps

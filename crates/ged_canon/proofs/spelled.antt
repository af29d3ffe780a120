mod Comparing
mod Filling
mod Reading

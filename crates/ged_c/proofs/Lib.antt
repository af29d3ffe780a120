mod Lengths
mod Putting
mod Refusing

mod Notation
mod Types
mod Programs

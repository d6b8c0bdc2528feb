pub mod Names
pub mod Cells
pub mod States
pub mod Answers

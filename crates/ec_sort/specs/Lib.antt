pub mod Books
pub mod Answers

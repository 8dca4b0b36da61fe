pub mod Sets
pub mod SetLoops
pub mod Covers
pub mod JoinedWords
pub mod JoinedLinks
pub mod AllTests

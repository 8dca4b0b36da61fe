pub mod Places
pub mod OneColumn
pub mod OrderedLinks
pub mod Alls
pub mod ZeroBytes
pub mod Marks

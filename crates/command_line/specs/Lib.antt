pub mod Numbers
pub mod CommandLine
pub mod Spellings
pub mod inner

-- The laws of formats, by those of their parts: the law of a message is one term.
pub mod Ends
pub mod FromClient
pub mod FromServer
pub mod Lists
pub mod Logical
pub mod Nullable
pub mod Numbers
pub mod Parts
pub mod Places
pub mod Replication
pub mod Sequences
pub mod Takes
pub mod Tests
pub mod Whole

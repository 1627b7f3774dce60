pub mod Lettered
pub mod Logical
pub mod ReplicationMessage

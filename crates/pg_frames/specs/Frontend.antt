-- The stream of a client.
pub mod Error
pub mod Frame
pub mod Message
pub mod Pieces
pub mod Reader

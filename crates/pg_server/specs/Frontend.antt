-- What a client sends, as a server reads it.
pub mod Error
pub mod FirstMessageRef
pub mod FrontendMessageRef
pub mod Lists
pub mod Message
pub mod Page

-- What a server sends, as it writes it.
pub mod Authentication
pub mod Copy
pub mod Message
pub mod NegotiateProtocolVersion
pub mod NoBody
pub mod Notice
pub mod OutboundItem
pub mod OutboundMessage
pub mod ReadyForQuery
pub mod RowDescription

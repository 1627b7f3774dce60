pub mod Backend
pub mod Frontend

pub mod BackendLemmas
pub mod FrontendLemmas
pub mod RawLemmas

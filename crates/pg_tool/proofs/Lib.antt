pub mod ServerStreamLemmas

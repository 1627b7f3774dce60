pub mod CopyLoadLemmas

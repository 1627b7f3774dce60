pub mod ClientFlowLemmas
pub mod CoversLemmas
pub mod DeriveLemmas
mod Examples
pub mod HearsLemmas
pub mod PatternLemmas
pub mod PlainLemmas
pub mod RestLemmas
pub mod SaysLemmas
pub mod ServerFlowLemmas
pub mod SessionsExactLemmas
pub mod SessionsLemmas
pub mod StageLemmas
pub mod TableExactLemmas
pub mod TableLemmas
pub mod TakesLemmas
pub mod WorldLemmas

pub mod AtoiLemmas
pub mod CuttingLemmas
pub mod ErrorLemmas
pub mod IdLemmas
pub mod NumbersLemmas
pub mod ReadingLemmas
pub mod RoundTripLemmas
pub mod TaggedLemmas

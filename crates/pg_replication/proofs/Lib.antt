pub mod LogicalEncodeLemmas
pub mod LogicalLemmas
pub mod LogicalListedLemmas
pub mod LogicalTupleLemmas

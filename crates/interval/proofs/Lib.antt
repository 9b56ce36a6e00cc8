pub mod Branches
pub mod Cuts
pub mod SignRules
pub mod SumRules

pub mod DivRules

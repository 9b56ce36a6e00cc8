pub mod MagnitudeRules

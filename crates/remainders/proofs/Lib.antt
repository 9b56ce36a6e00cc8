pub mod RemRules

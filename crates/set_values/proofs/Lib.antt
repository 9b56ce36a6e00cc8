-- Laws of the sets of forms. Assumes nothing.
pub mod Cores
pub mod Layouts
pub mod Sets
pub mod Settling

-- The lines of a sheet in order, the call, and what it is for the run.
pub mod Demand3
pub mod Walking

pub mod Marked
pub mod PageSamples
pub mod Readings
pub mod Samples
pub mod SetpointSamples
pub mod ClosingSamples
pub mod SheetReadings

pub mod Cuts
pub mod Spelled
pub mod Fronts
pub mod Recovered
pub mod Whole
pub mod Printed

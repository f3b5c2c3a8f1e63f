pub mod FaultCases
pub mod HouseCases
pub mod ThinCases
pub mod HighestCases

pub mod FaultCases
pub mod Tables
pub mod Told
pub mod ValueCases

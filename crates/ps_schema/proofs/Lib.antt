mod Climbs
mod Indexes
pub mod Visits

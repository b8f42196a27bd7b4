pub mod FirstBad
pub mod ValidOrBad
pub mod PlainSchedules

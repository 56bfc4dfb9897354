pub mod UidMargins
pub mod Margins
pub mod Readings
pub mod Differing
pub mod SilentRounds
pub mod inner

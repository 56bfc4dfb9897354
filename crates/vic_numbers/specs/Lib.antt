pub mod FaultNumbers
pub mod Numbers
pub mod Buffers
pub mod ExplainedNumbers
pub mod FindingNumbers
pub mod MarginNumbers

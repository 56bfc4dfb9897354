pub mod Finding
pub mod ObjectText
pub mod Told
pub mod Object
pub mod Asking
pub mod inner

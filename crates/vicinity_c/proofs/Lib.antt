mod Words
mod CrcBytes
mod ListedLines
pub mod Beside
mod NamesInLines
mod Asked
mod TextsInBytes

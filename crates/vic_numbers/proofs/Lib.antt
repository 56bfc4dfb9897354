mod Words
mod Numbered

-- The words of a line, the line of a list and a degree bound, and what is said of a gel sheet.
pub mod Words
pub mod Line
pub mod Sheet

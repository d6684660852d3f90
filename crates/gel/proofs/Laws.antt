-- Laws of the definitions, module by module of the code.
-- the lines of a sheet, their faults, and a sheet without any
pub mod Lines
pub mod Faults
pub mod Formed
-- one column
pub mod Columns
pub mod Ones
-- keys: counted, gathered, added, and those of a sheet
pub mod Gathered
pub mod Counted
pub mod Adding
pub mod Held
pub mod Tallied
pub mod Numbered
-- the list that is made, and how it is written
pub mod Writing
pub mod Made
pub mod Imported
pub mod Ends

-- the digest of a table
pub mod Digest
-- what an import tells
pub mod Told

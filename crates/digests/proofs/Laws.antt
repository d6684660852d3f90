-- Laws of the definitions of `specs/`, a file for each.
-- digests and repeated rescorings, one step at a time
pub mod Digest

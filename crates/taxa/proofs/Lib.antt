-- the highest taxon by leading zeros, for this crate's proofs
mod Leading

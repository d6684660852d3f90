-- The rules' limits, each under one name, in one record for each width (RULES 2, 5 and 9).
--     Width         the limits that a wider record moves
--     narrow        the limits of the rules: 32 taxa, 128 rows, records of 12 bytes
--     weight_max     the largest weight, either way: the same for every width
--     is_within n z  the integer z is no further than n from zero
--     degree_low, degree_high, is_degree d     the degree bounds that are taken
--     row_cap        the room for rows in the arrays of a list or a table, which a width may leave unused
--     word_values    how many values a word of 64 bits has
-- Assumes nothing.
use Rattle.std.specs.Prelude.{Bool, ◌&&◌, ℕ, leb, ℤ, nat_abs}

pub record Width : Type 0 where
  -- taxa, and rows of a table
  pub taxa : ℕ
  pub rows : ℕ
  -- bytes of a cluster, of a record, of a list and of a text
  pub cluster_bytes : ℕ
  pub record_bytes : ℕ
  pub list_bytes : ℕ
  pub text_bytes : ℕ
  -- the largest count that is told exactly, and the largest row length
  pub count_max : ℕ
  pub length_max : ℕ

abbrev pub narrow : Width
narrow = record {
  taxa = 32;
  rows = 128;
  cluster_bytes = 4;
  record_bytes = 12;
  list_bytes = 1536;
  text_bytes = 148;
  count_max = 4294967295;
  length_max = 10676001;
}

abbrev pub weight_max : ℕ
weight_max = 1000000

abbrev pub is_within : ℕ → ℤ → Bool
is_within n z = leb (nat_abs z) n

abbrev pub degree_low : ℕ
degree_low = 3

abbrev pub degree_high : ℕ
degree_high = 5

abbrev pub is_degree : ℕ → Bool
is_degree d = leb degree_low d && leb d degree_high

-- ---- what the machine holds
abbrev pub row_cap : ℕ
row_cap = 128

-- 2 ^ 64
abbrev pub word_values : ℕ
word_values = 18446744073709551616

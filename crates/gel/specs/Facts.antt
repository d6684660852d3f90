-- A gel sheet in words, as facts (RULES 13). That they are what the tests of `Lines.antt` and the lists of `Columns.antt` say:
-- `proofs/Theorems.antt`.
--     RightLine s i       line i isn't at fault
--     WrongLine s i       it is, and none before it
--     FirstWrong s i      so, or the sheet has no bytes, which is a fault of line 0
--     RightSheet s        a sheet that has bytes, and no line at fault
--     IsRead s j          column j has no ?
--     OnesOf s j c        the taxa of the cluster c are the lines that have a 1 in column j
--     GivenBy s j c       column j gives the cluster c: it has no ?, and c is the cluster of its ones
--     IsGiven s c         a column gives it, and it isn't all-zero
--     OneLine, AreLines s c     it is the cluster of one line; of all lines
--     SheetCluster s c    it is a cluster of the list
--     SheetRow s r        r is a row of the list: such a cluster, with the number of its columns, scored
--     Numbered P n        n numbers have the property P
-- Assumes nothing.
use Rattle.std.specs.Prelude.{◌≡◌, ◌≢◌, ◌⊎◌, ◌↔◌, true, ℕ, ◌^◌, ◌≤◌, ◌<◌, T, pos, length}
use mathlib.Core.List.{List, Memᴰ as Mem}
use Rattle.laws.specs.Cluster.{inside}
use Rattle.laws.specs.Lists.{Once}
use Rattle.laws.specs.Row.{Row, is_scored}
use Rattle.gel.specs.Lines.{one, unread, is_mark, line_max, width_max, line_count, line_at, width_of}
use Rattle.gel.specs.Columns.{mark_at, columns_with}

module _ (s : List ℕ) where
  -- ---- lines
  pub record RightLine (i : ℕ) : Type 0 where
    -- 0, 1 and ? alone
    pub marks : (b : ℕ) → Mem b (line_at s i).bytes → T (is_mark b)
    -- as many as in line 0, 1 to 128
    pub long : length (line_at s i).bytes ≡ width_of s
    pub some : 1 ≤ length (line_at s i).bytes
    pub most : length (line_at s i).bytes ≤ width_max
    -- LF at its end
    pub ends : (line_at s i).ends ≡ true
    -- lines 0 to 31
    pub low : i < line_max

  pub record WrongLine (i : ℕ) : Type 0 where
    pub within : i < line_count s
    pub wrong : RightLine i → ⊥
    pub before : (j : ℕ) → j < i → RightLine j

  abbrev pub FirstWrong : ℕ → Type 0
  FirstWrong i = ((length s ≡ 0) × (i ≡ 0)) ⊎ WrongLine i

  pub record RightSheet : Type 0 where
    pub filled : length s ≢ 0
    pub right : (i : ℕ) → i < line_count s → RightLine i

  -- ---- columns
  abbrev pub IsRead : ℕ → Type 0
  IsRead j = (i : ℕ) → i < line_count s → mark_at s i j ≢ unread

  abbrev pub OnesOf : ℕ → ℕ → Type 0
  OnesOf j c = (i : ℕ) → T (inside (2 ^ i) c) ↔ ((i < line_count s) × (mark_at s i j ≡ one))

  pub record GivenBy (j c : ℕ) : Type 0 where
    pub within : j < width_of s
    pub read : IsRead j
    pub ones : OnesOf j c

  -- ---- the list
  abbrev pub IsGiven : ℕ → Type 0
  IsGiven c = (c ≢ 0) × (j : ℕ) × GivenBy j c

  abbrev pub OneLine : ℕ → Type 0
  OneLine c = (i : ℕ) × (i < line_count s) × (c ≡ 2 ^ i)

  abbrev pub AreLines : ℕ → Type 0
  AreLines c = (i : ℕ) → T (inside (2 ^ i) c) ↔ (i < line_count s)

  abbrev pub SheetCluster : ℕ → Type 0
  SheetCluster c = IsGiven c ⊎ OneLine c ⊎ AreLines c

  pub record SheetRow (r : Row) : Type 0 where
    pub cluster : SheetCluster r.cluster
    pub weight : r.weight ≡ pos (columns_with s r.cluster)
    pub scored : T (is_scored r)

pub record Numbered (P : ℕ → Type 0) (n : ℕ) : Type 0 where
  pub numbers : List ℕ
  pub once : Once numbers
  pub each : (j : ℕ) → Mem j numbers ↔ P j
  pub many : n ≡ length numbers

-- The members of the leaf set's row of a fit table.
--     members_falling, members-once     they ascend, and none stands twice
--     members-sound        none is empty, and each is within the width
--     members-listed       each is the cluster of a scored row, where the marked rows are scored
-- Assumes nothing.
use mathlib.Core.Path.{◌≡◌, sym, ◌∙◌}
use mathlib.Core.Logic.{◌≢◌}
use mathlib.Core.List.{List, map, reverse, reverse-reverse}
use mathlib.Core.List.{Memᴰ as Mem}
use Prim.Native.Nat.{ℕ, ◌^◌, ◌<◌}
use native.Mathlib.Nat.{min-le_left, lt_of_lt_of_le}
use lib.Dec.{T}
use lib.ListN.{get_or}
use Rattle.laws.specs.Limits.{Width, row_cap}
use Rattle.laws.specs.Lists.{Once}
use Rattle.laws.specs.Orders.{Falling}
use Rattle.laws.specs.Row.{is_scored}
use Rattle.laws.specs.State.{scored}
use Rattle.laws.specs.Widths.{WidthFacts}
use Rattle.laws.proofs.Appended.{once-reverse}
use Rattle.laws.proofs.Falling.{falling_once}
use Rattle.laws.proofs.Keep.{every→}
use Rattle.kept.specs.declared.table.Table.{Table}
use Rattle.kept.specs.View.{row_at}
use Rattle.kept.specs.Fit.{is_fit}
use Rattle.kept.specs.Rows.{shown_rows}
use Rattle.kept.specs.Facts.{FitTable}
use Rattle.kept.proofs.Laws.Fit.{is_fit→}
use Rattle.members.specs.Draw.{leaf_marks, marked_rows, members_of, are_scored}
use Rattle.members.proofs.Laws.Marked.{mem-marked, mem-members, falling_members}

module _ (W : Width) (facts : WidthFacts W) (t : Table) (fit : T (is_fit W t)) where
  table : FitTable W t
  table = is_fit→ W facts t fit

  shown : {i : ℕ} → i < shown_rows t → i < t.rows
  shown h = lt_of_lt_of_le h (min-le_left t.rows row_cap)

  abbrev downward : List ℕ
  downward = map (λ (i : ℕ). get_or t.clusters i 0) (marked_rows t)

  falls : Falling downward
  falls = falling_members t.clusters (leaf_marks t) (shown_rows t) (λ i j h k. table.rising i j h (shown k))

  pub members_falling : Falling (reverse (members_of t))
  members_falling = rw (reverse-reverse downward) falls

  pub members-once : Once (members_of t)
  members-once = once-reverse downward (falling_once downward falls)

  pub members-sound : (c : ℕ) → Mem c (members_of t) → (c ≢ 0) × (c < 2 ^ W.taxa)
  members-sound c k =
      let q = mem-members t.clusters (leaf_marks t) (shown_rows t) c k in
      let i = q.0 in
      let h = shown (mem-marked (leaf_marks t) (shown_rows t) i q.1).0 in
      let f = table.fit i h in
      (λ z. f.rules.has_taxon_lem (sym q.2 ∙ z), rw q.2 f.width)

  pub members-listed : T (are_scored t) → (c : ℕ) → Mem c (members_of t)
      → (i : ℕ) × (i < t.rows) × (c ≡ (row_at t i).cluster) × T (is_scored (row_at t i))
  members-listed h c k =
      let q = mem-members t.clusters (leaf_marks t) (shown_rows t) c k in
      let i = q.0 in
      let scored-row = every→ (λ (i : ℕ). scored (get_or t.states i 0)) (marked_rows t) h i q.1 in
      (i, shown (mem-marked (leaf_marks t) (shown_rows t) i q.1).0, q.2, scored-row)

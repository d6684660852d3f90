-- What the leaf set's row of a built table tells, where it has one or not; and sets of clusters that weigh the same by two lists of rows.
--     first_by                  the first heaviest by the one is so by the other
--     same_count, same-best     results that tell of the same trees have the same count, mark and best weight
--     leaf-tells                the leaf set's row tells the trees of the list; where it has none, there are none
-- Assumes nothing.
use mathlib.Core.Path.{◌≡◌, sym, ap, ◌∙◌, subst}
use mathlib.Core.Logic.{◌⊎◌, inl, inr, ◌≢◌}
use mathlib.Core.List.{List, []}
use mathlib.Core.List.{Memᴰ as Mem}
use Prim.Native.Nat.{ℕ, ◌+◌, ◌*◌, ◌≤◌, ◌<◌}
use native.Mathlib.Decide.{dec_lt}
use native.Mathlib.Omega.{arith}
use lib.Dec.{T}
use lib.IntN.{ℤ}
use lib.ListN.{length}
use lib.Signed.{lt_z}
use Rattle.laws.specs.Limits.{Width, word_values}
use Rattle.laws.specs.Row.{Row}
use Rattle.laws.specs.Widths.{WidthFacts}
use Rattle.laws.proofs.Keep.{empty-or}
use Rattle.trees.specs.Heaviest.{weight_of, tie_first}
use Rattle.trees.specs.Result.{Result}
use Rattle.trees.specs.Built.{tree_result, built_table}
use Rattle.trees.proofs.Counting.Capped.{past, count_small}
use Rattle.lists.specs.Records.{rows_of}
use Rattle.kept.specs.declared.table.Table.{Table}
use Rattle.kept.proofs.Laws.View.{table-past}
use Rattle.members.specs.Draw.{leaf_row, leaf_result}
use Rattle.table.proofs.Laws.Build.{Buildable}
use Rattle.drawing.specs.Built.{built_from}
use Rattle.demands.specs.Trees.{leaf_set_of, trees_of_list, FirstBy, TellsTrees}
use Rattle.demands.proofs.Drawn.First.{→found, first_there, tells}
use Rattle.demands.proofs.Drawn.Told.{rows_tell}

-- ---- sets that weigh the same by two lists of rows

module _ (W : Width) (rs qs : List Row) (ts : List (List ℕ)) (weigh : (ys : List ℕ) → Mem ys ts → weight_of rs ys ≡ weight_of qs ys) where
  pub first_by : (ys : List ℕ) → FirstBy tie_first rs ts ys → FirstBy tie_first qs ts ys
  first_by ys f = record {
    tree = f.tree;
    heaviest = λ zs m h. f.heaviest zs m
        (subst (λ (z : ℤ). T (lt_z z (weight_of rs zs))) (sym (weigh ys f.tree))
        (subst (λ (z : ℤ). T (lt_z (weight_of qs ys) z)) (sym (weigh zs m)) h));
    first = λ zs m e. f.first zs m (weigh zs m ∙ e ∙ sym (weigh ys f.tree));
  }

  module _ (v u : Result) (v-tells : TellsTrees W rs ts v) (u-tells : TellsTrees W qs ts u) where
    pub same_count : (v.count ≡ u.count) × (v.mark ≡ u.mark)
    same_count = go (past W.count_max (length ts))
      where
        go : (length ts ≤ W.count_max) ⊎ (W.count_max < length ts) → (v.count ≡ u.count) × (v.mark ≡ u.mark)
        go (inl h) = (v-tells.count h ∙ sym (u-tells.count h), v-tells.exact.1 h ∙ sym (u-tells.exact.1 h))
        go (inr h) = (v-tells.limit h ∙ sym (u-tells.limit h), v-tells.many.1 h ∙ sym (u-tells.many.1 h))

    pub same-best : v.best ≡ u.best
    same-best = go (empty-or ts)
      where
        go : (ts ≡ []) ⊎ (ts ≢ []) → v.best ≡ u.best
        go (inl e) = (v-tells.none e).0 ∙ sym (u-tells.none e).0
        go (inr n) =
            let f = v-tells.first n in
            v-tells.best f.0 f.1 ∙ weigh f.0 f.1.tree ∙ sym (u-tells.best f.0 (first_by f.0 f.1))

-- ---- one list: the leaf set's row tells its trees, or is none and tells that there are none

module _ (W : Width) (facts : WidthFacts W) (d : ℕ) (l : List ℕ) (k : Buildable W d (rows_of W l)) where
  abbrev rs : List Row
  rs = rows_of W l

  abbrev t : Table
  t = built_from W d rs

  pub leaf-tells : TellsTrees W (rows_of W l) (trees_of_list W d l) (leaf_result (built_from W d (rows_of W l)))
  leaf-tells = go (dec_lt (leaf_row t) t.rows)
    where
      go : Dec (leaf_row t < t.rows) → TellsTrees W rs (trees_of_list W d l) (leaf_result t)
      go (yes h) = (rows_tell W facts d l k).leaf h
      go (no n) =
          let b = table-past d (built_table W d rs) (leaf_row t) (omega (arith, n)) in
          let none-fields = count_small W.count_max 0 (omega arith) in
          let blank : leaf_result t ≡ tree_result W rs 0 [] = λ i. record {
            length = b.length i;
            count = (b.count ∙ sym none-fields.0) i;
            mark = (b.mark ∙ sym none-fields.1) i;
            best = b.best i;
            members = b.low i + word_values * b.high i;
          } in
          let none-there = (rows_tell W facts d l k).no_leaf n in
          subst (TellsTrees W rs (trees_of_list W d l)) (sym (blank ∙ ap (tree_result W rs 0) (sym none-there)))
          (tells W rs 0 (trees_of_list W d l) (→found W.taxa d rs k.facts (leaf_set_of W l))
          (first_there W.taxa d rs k.facts (leaf_set_of W l)))

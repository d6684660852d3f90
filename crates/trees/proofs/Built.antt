-- THE TABLE IS THE TREES: each row worked out by the rules' formulas, from the rows beneath it, is the row defined by trees.
--     worked_table W d rs      every row worked out from the rows beneath, from nothing
--     true_table d cs rs       the same in true counts and keys
--     all-counted             its counts are one or more, where there is a tree
--     true_table_lem              the first is the fields of the second
--     sets, nonzero           trees are sets of the rows' clusters, of which none is empty
--     worked_is_built         the theorem, for all rows at once
-- Assumes nothing.
use mathlib.Core.Path.{◌≡◌, refl, sym, ap, ap₂, ◌∙◌, subst}
use mathlib.Core.Logic.{◌≢◌}
use mathlib.Core.Bool.{Bool, true, false, not, ◌&&◌}
use mathlib.Core.Option.{Option, none, some}
use mathlib.Core.List.Memᴰ
use mathlib.Core.List.{List, [], ◌∷◌, ◌++◌, map, append_assoc}
use mathlib.Core.List.Memᴰ.{head as here}
use mathlib.Core.List.Memᴰ.{not-nil as mem-nil}
use mathlib.Core.List.Memᴰ.{tail as there}
use mathlib.Core.List.{Memᴰ as Mem}
use Prim.Native.Nat.{ℕ, ◌≤◌}
use native.Mathlib.Omega.{arith}
use lib.Dec.{T}
use lib.IntN.{pos}
use lib.ListN.{length}
use Rattle.laws.specs.Cluster.{single}
use Rattle.laws.specs.Limits.{Width}
use Rattle.laws.specs.Lists.{keep, sublists}
use Rattle.laws.specs.Row.{Row, is_scored}
use Rattle.laws.proofs.Falling.{falling_once}
use Rattle.laws.proofs.Tests.{true_T}
use Rattle.laws.proofs.Keep.{nil_of_none}
use Rattle.laws.proofs.Once.{map_inj}
use Rattle.trees.specs.Rows.{clusters_of, scored_in, Entry, cl, sc, RowFacts}
use Rattle.trees.specs.Tree.{trees_on}
use Rattle.trees.specs.Tuple.{is_tuple}
use Rattle.trees.specs.Heaviest.{first_heaviest}
use Rattle.trees.specs.Result.{Result, count_field, mark_field}
use Rattle.trees.specs.Built.{row_length, with_best, built_result, built_table}
use Rattle.trees.specs.Rescored.{worked_out}
use Rattle.trees.specs.Kind.{worked_from, value, value_if, build}
use Rattle.trees.specs.Beneath.{Key, key_first}
use Rattle.trees.specs.Solution.{Sol, sol_kind, Res}
use Rattle.trees.proofs.Formula.Kind.{map_e}
use Rattle.trees.proofs.Formula.Rows.{table-row, table-rows, mem-scored, given_of}
use Rattle.trees.proofs.Sets.TreeFacts.{Given}
use Rattle.trees.proofs.Joined.TreeTest.{tree_of}
use Rattle.trees.proofs.Ties.Marks.{marks-keep, weight-keep}
use Rattle.trees.proofs.Ties.KeyOrder.{key_irrefl}
use Rattle.trees.proofs.Ties.FirstHeaviest.{set_key, AllSets, set_of_scored, first_key}
use Rattle.trees.proofs.Counting.Keys.{AtLeast, least_antisym, least_of_first}
use Rattle.trees.proofs.Counting.Best.{Answer, row_answer}
use Rattle.trees.proofs.Counting.Capped.{encode_sol, encode, Counted, second, count_small}
use Rattle.trees.proofs.Counting.Worked.{mark_in, length_if, true_result, AllCounted, worked_encode, counted-value}
use Rattle.trees.proofs.Formula.RowLength.{length_beneath}

abbrev pub worked_table : Width → ℕ → List Row → List (Entry Result)
worked_table W d rs = worked_from (worked_out W d (clusters_of rs)) rs

-- ---- true counts and keys

module _ (d : ℕ) (cs : List ℕ) where
  abbrev pub true_table : List Row → List (Entry Res)
  true_table rs = worked_from (true_result d cs) rs

  -- its second half is the table of counts with keys
  second_table : (rs : List Row) → map second (true_table rs) ≡ build (sol_kind (mark_in cs)) d rs
  second_table [] = refl
  second_table (r ∷ rs) =
      ap (λ (t : List (Entry (Option Sol))). record { row = r; val = value (sol_kind (mark_in cs)) d r t } ∷ t) (second_table rs)

  second_counted : (t : List (Entry Res)) → AllCounted t → (e : Entry (Option Sol)) → Mem e (map second t) → Counted e.val
  second_counted [] c e x'' = elim x'' [ ]
  second_counted (x ∷ t) c e (here q) = subst (λ (z : Entry (Option Sol)). Counted z.val) (sym q) (c x (here refl))
  second_counted (x ∷ t) c e (there m) = second_counted t (λ y k. c y (there k)) e m

  pub all-counted : (rs : List Row) → AllCounted (true_table rs)
  all-counted [] e m = absurd (mem-nil m)
  all-counted (r ∷ rs) e (there m) = all-counted rs e m
  all-counted (r ∷ rs) e (here q) =
      subst (λ (z : Entry Res). Counted z.val.1) (sym q)
      (counted-value (mark_in cs) d r (map second (true_table rs)) (second_counted (true_table rs) (all-counted rs)))

  pub true_table_lem : (W : Width) → 1 ≤ W.count_max → (rs : List Row)
      → worked_from (worked_out W d cs) rs ≡ map (map_e (encode W.count_max)) (true_table rs)
  true_table_lem W p [] = refl
  true_table_lem W p (r ∷ rs) =
      ap (λ (t : List (Entry Result)). record { row = r; val = worked_out W d cs r t } ∷ t) (true_table_lem W p rs)
      ∙ ap (λ (v : Result). record { row = r; val = v } ∷ map (map_e (encode W.count_max)) (true_table rs))
      (worked_encode W p d cs r (true_table rs) (all-counted rs))

-- ---- the fields are those of the trees

module _ (w d : ℕ) (rs : List Row) (f : RowFacts w rs) where
  abbrev G : Given
  G = given_of w d rs f

  abbrev trees : ℕ → List (List ℕ)
  trees C = trees_on w d (scored_in rs) C

  pub sets : (C : ℕ) → AllSets rs (trees C)
  sets C xs m = set_of_scored rs f.falls xs (tree_of G C xs m).0

  pub nonzero : (c : ℕ) → Mem c (clusters_of rs) → c ≢ 0
  nonzero c m e = let q = Memᴰ.of_map (λ (r : Row). r.cluster) rs m in (f.fits q.0 q.1).0 (q.2 ∙ e)

  -- an unscored cluster has none
  no_trees : (r : Row) → Mem r rs → is_scored r ≡ false → trees r.cluster ≡ []
  no_trees r m e = nil_of_none (trees r.cluster) bad
    where
      bad : (xs : List ℕ) → Mem xs (trees r.cluster) → ⊥
      bad xs k =
          let tr = (tree_of G r.cluster xs k).1 in
          let q = mem-scored rs r.cluster (tr.listed r.cluster tr.top) in
          let same : q.0 ≡ r = map_inj (λ (x : Row). x.cluster) rs (falling_once (clusters_of rs) f.falls) q.0 r q.1 m q.3 in
          subst T (ap is_scored same ∙ e) q.2

  not-before : (x y : Key) → AtLeast x y → T (key_first y x) → ⊥
  not-before x y h t =
      key_irrefl x (subst (λ (z : Key). T (key_first z x)) (sym (least_antisym x y h (least_of_first y x t))) t)

  module _ (limit n : ℕ) (C : ℕ) where
    abbrev fields_of : List (List ℕ) → Result
    fields_of ts = with_best rs n (count_field limit (length ts)) (mark_field limit (length ts)) (first_heaviest rs ts)

    fields_none : ((xs : List ℕ) → Mem xs (trees C) → ⊥) → (ts : List (List ℕ)) → ts ≡ trees C → encode_sol limit n none ≡ fields_of ts
    fields_none g [] e = λ i. record {
      length = n;
      count = sym (count_small limit 0 (omega arith)).0 i;
      mark = sym (count_small limit 0 (omega arith)).1 i;
      best = pos 0;
      members = 0;
    }
    fields_none g (xs ∷ ts) e = absurd (g xs (subst (Mem xs) e (here refl)))

    module _ (x : Sol) (a : Answer w d rs f C (some x)) where
      -- the tree that the answer has the key of
      abbrev best_tree : List ℕ
      best_tree = keep a.1.0 (scored_in rs)

      best_key : x.1 ≡ set_key rs best_tree
      best_key =
          a.1.3
          ∙ (λ i. (
            sym (weight-keep rs (scored_in rs) a.1.0 a.1.2) i,
            sym (marks-keep (clusters_of rs) (scored_in rs) a.1.0 a.1.2) i,
          ))

      best_found : first_heaviest rs (trees C) ≡ some best_tree
      best_found = first_key rs f.falls nonzero (trees C) (sets C) best_tree a.1.1 (λ ys m t.
          not-before x.1 (set_key rs ys) (a.2 ys m) (subst (λ (k : Key). T (key_first (set_key rs ys) k)) (sym best_key) t))

      fields_some : encode_sol limit n (some x) ≡ fields_of (trees C)
      fields_some =
          (λ i. record {
            length = n;
            count = count_field limit (a.0 i);
            mark = mark_field limit (a.0 i);
            best = (best_key i).0;
            members = (best_key i).1;
          })
          ∙ ap (with_best rs n (count_field limit (length (trees C))) (mark_field limit (length (trees C)))) (sym best_found)

    fields_are_trees : (v : Option Sol) → Answer w d rs f C v → encode_sol limit n v ≡ fields_of (trees C)
    fields_are_trees none a = fields_none a (trees C) refl
    fields_are_trees (some x) a = fields_some x a

-- ---- all rows

module _ (W : Width) (pos-limit : 1 ≤ W.count_max) (d : ℕ) (rs : List Row) (f : RowFacts W.taxa rs) where
  abbrev cs : List ℕ
  cs = clusters_of rs

  -- the row length, in the lower part qs of the rows
  length-right : (up qs : List Row) → up ++ qs ≡ rs → (e : Entry Res) → Mem e (true_table d cs qs) → e.val.0 ≡ row_length d rs e.row
  length-right up [] s e m = absurd (mem-nil m)
  length-right up (r ∷ qs) s e (there m) = length-right (up ++ (r ∷ [])) qs (append_assoc up (r ∷ []) qs ∙ s) e m
  length-right up (r ∷ qs) s e (here q) =
      ap (λ (x : Entry Res). x.val.0) q
      ∙ ap (length_if (is_scored r && not (single r.cluster)))
      (length_beneath W.taxa d up r qs (subst (RowFacts W.taxa) (sym s) f) (true_result d cs)
      ∙ ap (λ (l : List Row). length (keep (is_tuple d r.cluster) (sublists (scored_in l)))) s)
      ∙ ap (λ (x : Entry Res). row_length d rs x.row) (sym q)

  unscored-none : (qs : List Row) (e : Entry Res) → Mem e (true_table d cs qs) → sc e ≡ false → e.val.1 ≡ none
  unscored-none [] e x'' h = elim x'' [ ]
  unscored-none (r ∷ qs) e (there m) h = unscored-none qs e m h
  unscored-none (r ∷ qs) e (here q) h =
      ap (λ (x : Entry Res). x.val.1) q
      ∙ ap (λ (b : Bool). value_if (sol_kind (mark_in cs)) b (single r.cluster) d r (map second (true_table d cs qs))) (sym (ap sc q) ∙ h)

  answer_of : (e : Entry Res) → Mem e (true_table d cs rs) → Answer W.taxa d rs f (cl e) e.val.1
  answer_of e m = go (sc e) refl
    where
      go : (b : Bool) → sc e ≡ b → Answer W.taxa d rs f (cl e) e.val.1
      go true h = row_answer W.taxa d rs f (second e) (subst (Mem (second e)) (second_table d cs rs) (Memᴰ.map second m)) (true_T h)
      go false h =
          subst (Answer W.taxa d rs f (cl e)) (sym (unscored-none rs e m h))
          (λ xs k. mem-nil (subst (Mem xs) (no_trees W.taxa d rs f e.row (table-row (true_result d cs) rs e m) h) k))

  entry_right : (e : Entry Res) → Mem e (true_table d cs rs) → encode W.count_max e.val ≡ built_result W d rs e.row
  entry_right e m =
      ap (λ (n : ℕ). encode_sol W.count_max n e.val.1) (length-right [] rs refl e m)
      ∙ fields_are_trees W.taxa d rs f W.count_max (row_length d rs e.row) (cl e) e.val.1 (answer_of e m)

  abbrev built_entry : Row → Entry Result
  built_entry r = record { row = r; val = built_result W d rs r }

  each : (t : List (Entry Res)) → ((e : Entry Res) → Mem e t → encode W.count_max e.val ≡ built_result W d rs e.row)
      → map (map_e (encode W.count_max)) t ≡ map built_entry (map (λ (e : Entry Res). e.row) t)
  each [] h = refl
  each (e ∷ t) h =
      ap₂ (λ (v : Result) (l : List (Entry Result)). record { row = e.row; val = v } ∷ l) (h e (here refl)) (each t (λ x m. h x (there m)))

  pub worked_is_built : worked_table W d rs ≡ built_table W d rs
  worked_is_built =
      true_table_lem d cs W pos-limit rs
      ∙ each (true_table d cs rs) entry_right
      ∙ ap (map built_entry) (table-rows (true_result d cs) rs)

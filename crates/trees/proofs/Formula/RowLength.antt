-- The row length over all listed scored clusters is the number of tuples of the rows beneath: no tuple of C has a cluster that isn't
-- strictly inside C.
--     tuples-clusters      tuples of entries, as tuples of their clusters
--     table-scored         the scored clusters of a table
--     tuples-strict        only what lies strictly inside C counts
--     tuples-above         so clusters that aren't, in front, play no part
--     tuples_beneath       the tuples among all rows are those among the rows beneath
--     length_beneath       so their numbers are equal
-- Assumes nothing.
use mathlib.Core.Path.{◌≡◌, refl, sym, ap, ◌∙◌}
use mathlib.Core.Logic.{◌⊎◌, inl, inr, ◌≢◌}
use mathlib.Core.Bool.{Bool, true, false, not, ◌&&◌}
use mathlib.Core.List.Memᴰ
use mathlib.Core.List.{List, [], ◌∷◌, ◌++◌, map, map-append, append_assoc}
use mathlib.Core.List.{Memᴰ as Mem}
use Prim.Native.Nat.{ℕ, ◌<◌}
use native.Mathlib.Omega.{arith}
use lib.Dec.{T, eqb}
use lib.ListN.{length, length-map}
use Rattle.laws.specs.Cluster.{inside, strict}
use Rattle.laws.specs.Lists.{keep_if, keep, every, sublists}
use Rattle.laws.specs.Orders.{Falling}
use Rattle.laws.specs.Row.{Row, is_scored}
use Rattle.laws.proofs.Falling.{falling_above}
use Rattle.laws.proofs.Tests.{T_and, and_T, bool_ext, neq→, →neq}
use Rattle.laws.proofs.Keep.{keep_ext, keep-map, keep_append, keep-none, every→, →every}
use Rattle.laws.proofs.Sublists.{sublists-map, sublists-drop, mem_of_sublist}
use Rattle.laws.proofs.Cluster.{le_of_inside, strict→, →strict}
use Rattle.trees.specs.Rows.{clusters_of, scored_in, Entry, cl, sc, RowFacts}
use Rattle.trees.specs.Tuple.{is_tuple, tuples}
use Rattle.trees.specs.Kind.{worked_from}
use Rattle.trees.proofs.Formula.Rows.{mem-scored}
use Rattle.trees.proofs.Sets.Tuples.{part_inside, part_other}

module _ {A : Type 0} where
  pub tuples-clusters : (d C : ℕ) (es : List (Entry A)) → map (map cl) (tuples d C es) ≡ keep (is_tuple d C) (sublists (map cl es))
  tuples-clusters d C es = sym (ap (keep (is_tuple d C)) (sublists-map cl es) ∙ keep-map (map cl) (is_tuple d C) (sublists es))

  pub table-scored : (F : Row → List (Entry A) → A) (rs : List Row) → map cl (keep sc (worked_from F rs)) ≡ scored_in rs
  table-scored F [] = refl
  table-scored F (r ∷ rs) = go (is_scored r) (table-scored F rs)
    where
      go : (b : Bool) → map cl (keep sc (worked_from F rs)) ≡ scored_in rs
          → map cl (keep_if b (record { row = r; val = F r (worked_from F rs) }) (keep sc (worked_from F rs)))
          ≡ clusters_of (keep_if b r (keep is_scored rs))
      go true e = ap (λ (cs : List ℕ). r.cluster ∷ cs) e
      go false e = e

-- ---- only what lies strictly inside

module _ (d C : ℕ) where
  abbrev nonzero : List ℕ → Bool
  nonzero s = every (λ (c : ℕ). not (eqb c 0)) s

  -- a tuple of nonempty clusters
  abbrev full : List ℕ → Bool
  full s = is_tuple d C s && nonzero s

  nonzero→ : (s : List ℕ) → T (nonzero s) → (c : ℕ) → Mem c s → c ≢ 0
  nonzero→ s h c m = neq→ c 0 (every→ (λ (x : ℕ). not (eqb x 0)) s h c m)

  full-strict : (s : List ℕ) → T (full s) → (c : ℕ) → Mem c s → T (strict c C)
  full-strict s h c m =
      let q = T_and (is_tuple d C s) (nonzero s) h in
      →strict c C (part_inside d C s q.0 c m) (part_other d C s (nonzero→ s q.1) q.0 c m)

  full_is : (L : List ℕ) → ((c : ℕ) → Mem c L → c ≢ 0) → keep (is_tuple d C) (sublists L) ≡ keep full (sublists L)
  full_is L nz = keep_ext (is_tuple d C) full (sublists L) same
    where
      all : (s : List ℕ) → Mem s (sublists L) → T (nonzero s)
      all s m = →every (λ (c : ℕ). not (eqb c 0)) s (λ c k. →neq c 0 (nz c (mem_of_sublist L s m c k)))

      same : (s : List ℕ) → Mem s (sublists L) → is_tuple d C s ≡ full s
      same s m =
          bool_ext (is_tuple d C s) (full s) (λ h. and_T (is_tuple d C s) (nonzero s) h (all s m))
          (λ h. (T_and (is_tuple d C s) (nonzero s) h).0)

  pub tuples-strict : (L : List ℕ) → ((c : ℕ) → Mem c L → c ≢ 0)
      → keep (is_tuple d C) (sublists L) ≡ keep full (sublists (keep (λ (c : ℕ). strict c C) L))
  tuples-strict L nz = full_is L nz ∙ sublists-drop (λ (c : ℕ). strict c C) full L full-strict

  -- clusters above C, and C itself, are in no tuple of C
  drop-above : (up L : List ℕ) → ((c : ℕ) → Mem c up → T (strict c C) → ⊥)
      → keep (λ (c : ℕ). strict c C) (up ++ L) ≡ keep (λ (c : ℕ). strict c C) L
  drop-above up L f =
      keep_append (λ (c : ℕ). strict c C) up L
      ∙ ap (λ (l : List ℕ). l ++ keep (λ (c : ℕ). strict c C) L) (keep-none (λ (c : ℕ). strict c C) up f)

  pub tuples-above : (up L : List ℕ) → ((c : ℕ) → Mem c (up ++ L) → c ≢ 0) → ((c : ℕ) → Mem c up → T (strict c C) → ⊥)
      → keep (is_tuple d C) (sublists (up ++ L)) ≡ keep (is_tuple d C) (sublists L)
  tuples-above up L nz f =
      tuples-strict (up ++ L) nz
      ∙ ap (λ (l : List ℕ). keep full (sublists l)) (drop-above up L f)
      ∙ sym (tuples-strict L (λ c m. nz c (Memᴰ.append_right up m)))

-- ---- rows above and beneath

scored-append : (up qs : List Row) → scored_in (up ++ qs) ≡ scored_in up ++ scored_in qs
scored-append up qs =
    ap clusters_of (keep_append is_scored up qs) ∙ map-append (λ (r : Row). r.cluster) (keep is_scored up) (keep is_scored qs)

module _ (w d : ℕ) (up : List Row) (r : Row) (qs : List Row) (f : RowFacts w (up ++ (r ∷ qs))) where
  above : (x : Row) → Mem x up → r.cluster < x.cluster
  above x m = falling_above (clusters_of up) r.cluster (clusters_of qs) falls x.cluster (Memᴰ.map (λ (y : Row). y.cluster) m)
    where
      falls : Falling (clusters_of up ++ (r.cluster ∷ clusters_of qs))
      falls = rw (← map-append (λ (x : Row). x.cluster) up (r ∷ qs)) f.falls

  not-strict : (c : ℕ) → Mem c (scored_in (up ++ (r ∷ []))) → T (strict c r.cluster) → ⊥
  not-strict c m h = let q = mem-scored (up ++ (r ∷ [])) c m in at q.0 q.3 (Memᴰ.append_cases up q.1)
    where
      s : T (inside c r.cluster) × (c ≢ r.cluster)
      s = strict→ c r.cluster h

      at : (x : Row) → x.cluster ≡ c → Mem x up ⊎ Mem x (r ∷ []) → ⊥
      at x e (inl j) = omega (arith, above x j, le_of_inside c r.cluster s.0, e)
      at x e (inr j) = s.1 (sym e ∙ ap (λ (y : Row). y.cluster) (Memᴰ.eq_of_singleton j))

  pub tuples_beneath : keep (is_tuple d r.cluster) (sublists (scored_in (up ++ (r ∷ qs))))
      ≡ keep (is_tuple d r.cluster) (sublists (scored_in qs))
  tuples_beneath =
      ap (λ (l : List ℕ). keep (is_tuple d r.cluster) (sublists l)) split
      ∙ tuples-above d r.cluster (scored_in (up ++ (r ∷ []))) (scored_in qs) nz not-strict
    where
      split : scored_in (up ++ (r ∷ qs)) ≡ scored_in (up ++ (r ∷ [])) ++ scored_in qs
      split = ap scored_in (sym (append_assoc up (r ∷ []) qs)) ∙ scored-append (up ++ (r ∷ [])) qs

      nz : (c : ℕ) → Mem c (scored_in (up ++ (r ∷ [])) ++ scored_in qs) → c ≢ 0
      nz c m =
          let q = mem-scored (up ++ (r ∷ qs)) c (rw split m) in
          λ e. (f.fits q.0 q.1).0 (q.3 ∙ e)

  pub length_beneath : {A : Type 0} (F : Row → List (Entry A) → A)
      → length (tuples d r.cluster (keep sc (worked_from F qs)))
      ≡ length (keep (is_tuple d r.cluster) (sublists (scored_in (up ++ (r ∷ qs)))))
  length_beneath F =
      sym (length-map (tuples d r.cluster (keep sc (worked_from F qs))) (map cl))
      ∙ ap length (tuples-clusters d r.cluster (keep sc (worked_from F qs)))
      ∙ ap (λ (l : List ℕ). length (keep (is_tuple d r.cluster) (sublists l))) (table-scored F qs)
      ∙ ap length (sym tuples_beneath)

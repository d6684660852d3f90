-- The marked rows of marks that tell a test of clusters.
--     Tells cs m p n     of the first n clusters, those are marked in m that pass p
--     members_tell       then the members are the clusters that pass
--     scored_tell        they are scored where each cluster that passes is
--     weight_tell        and their weight is that of the rows that pass
-- Assumes nothing.
use mathlib.Core.Path.{◌≡◌, refl, sym, ap, ◌∙◌, subst}
use mathlib.Core.Bool.{Bool, true, false, cond}
use mathlib.Core.List.{List, [], ◌∷◌, map, reverse}
use Prim.Native.Nat.{ℕ, ◌<◌}
use lib.Dec.{T}
use lib.IntN.{ℤ, pos, ◌+ℤ◌}
use lib.ListN.{get_or}
use Rattle.laws.specs.Lists.{keep_if, keep}
use Rattle.laws.specs.Orders.{down_to, places}
use Rattle.laws.specs.Row.{Row}
use Rattle.laws.specs.State.{scored}
use Rattle.laws.proofs.Appended.{map-through}
use Rattle.laws.proofs.Down.{mem_down, down_map}
use Rattle.laws.proofs.Keep.{→every, keep_ext, keep-map}
use Rattle.trees.specs.Heaviest.{weight_in}
use Rattle.kept.specs.declared.table.Table.{Table}
use Rattle.kept.specs.View.{row_at}
use Rattle.kept.specs.Marks.{has_mark}
use Rattle.members.specs.Marked.{marked_to, members_to, scored_to, total, weight_to}
use Rattle.members.proofs.Laws.Marked.{mem-marked}

abbrev pub Tells : List ℕ → ℕ → (ℕ → Bool) → ℕ → Type 0
Tells cs m p n = (i : ℕ) → i < n → has_mark m i ≡ p (get_or cs i 0)

-- the weights of the rows that pass, as those rows' weights added up
weight_in_is : (rs : List Row) (p : ℕ → Bool)
    → weight_in rs p ≡ total (map (λ (r : Row). r.weight) (keep (λ (r : Row). p r.cluster) rs))
weight_in_is [] p = refl
weight_in_is (r ∷ rs) p = go (p r.cluster) (weight_in_is rs p)
  where
    rest : List Row
    rest = keep (λ (r : Row). p r.cluster) rs

    go : (b : Bool) → weight_in rs p ≡ total (map (λ (r : Row). r.weight) rest)
        → cond b (r.weight +ℤ weight_in rs p) (weight_in rs p) ≡ total (map (λ (r : Row). r.weight) (keep_if b r rest))
    go true e = ap (λ (z : ℤ). r.weight +ℤ z) e
    go false e = e

module _ (m : ℕ) (p : ℕ → Bool) (cs : List ℕ) (n : ℕ) (tells : Tells cs m p n) where
  -- the marked rows are those whose cluster passes
  marked_tell : marked_to m n ≡ keep (λ (i : ℕ). p (get_or cs i 0)) (places n)
  marked_tell =
      keep_ext (has_mark m) (λ (i : ℕ). p (get_or cs i 0)) (places n)
      (λ i k. let q = mem_down (λ (i : ℕ). i) n i k in tells i (rw q.2 q.1))

  pub members_tell : members_to cs m n ≡ reverse (keep p (down_to (λ (i : ℕ). get_or cs i 0) n))
  members_tell =
      let at : ℕ → ℕ = λ i. get_or cs i 0 in
      ap (λ (l : List ℕ). reverse (map at l)) marked_tell
      ∙ ap reverse (sym (keep-map at p (places n)) ∙ ap (keep p) (down_map at (λ (i : ℕ). i) n))

  pub scored_tell : (ss : List ℕ) → ((i : ℕ) → i < n → T (p (get_or cs i 0)) → T (scored (get_or ss i 0))) → T (scored_to ss m n)
  scored_tell ss f =
      →every (λ (i : ℕ). scored (get_or ss i 0)) (marked_to m n)
      (λ i k. let q = mem-marked m n i k in f i q.0 (subst T (tells i q.0) q.1))

pub weight_tell : (m : ℕ) (p : ℕ → Bool) (t : Table) (n : ℕ) → Tells t.clusters m p n
    → weight_to t.weights m n ≡ weight_in (down_to (row_at t) n) p
weight_tell m p t n tells =
    let rows = places n in
    ap (λ (l : List ℕ). total (map (λ (i : ℕ). get_or t.weights i (pos 0)) l)) (marked_tell m p t.clusters n tells)
    ∙ ap total (sym (map-through (row_at t) (λ (r : Row). r.weight) (λ (i : ℕ). (row_at t i).weight) (λ i. refl) (keep _ rows)))
    ∙ ap (λ (rs : List Row). total (map (λ (r : Row). r.weight) rs)) (sym (keep-map (row_at t) (λ (r : Row). p r.cluster) rows))
    ∙ sym (weight_in_is (map (row_at t) rows) p)
    ∙ ap (λ (rs : List Row). weight_in rs p) (down_map (row_at t) (λ (i : ℕ). i) n)

-- What is proved of the text of a tree and of its list of clusters.
--     tree_on, trees_on_lem         a tree as a family, and a tree of the definition, have them
--     shape-top, shape-ordered, shape-clusters, shape-once     the shape has C for its top, is ordered, and has the members, each once
--     shape-only                it is the only ordered shape that has them
--     text-members, text-top    equal texts have the same members, and the same top
--     text-tree                 of trees of one list, equal texts are one tree
--     text-length               a text has at most so many bytes as the width allows: 148 for 32 taxa
--     list_length-le            the list of clusters has at most two for each taxon, less one: 63 for 32 taxa
-- That equal texts are of equal shapes is `print_inj` (`Print.antt`); how a writer meets the children of a part stands in `Parts.antt`.
-- Assumes nothing.
use mathlib.Core.Path.{◌≡◌, sym, ap, ◌∙◌, subst}
use mathlib.Core.List.{List}
use mathlib.Core.List.{Memᴰ as Mem}
use Prim.Native.Nat.{ℕ, ◌+◌, ◌*◌, ◌^◌, ◌≤◌, ◌<◌}
use native.Mathlib.Nat.{le_refl, le_trans}
use native.Mathlib.Omega.{arith}
use lib.Count.{ones-le}
use lib.Dec.{T, ltb}
use lib.ListN.{length}
use lib.Pow.{pow_mono}
use Rattle.laws.specs.Cluster.{inside, size}
use Rattle.laws.specs.Limits.{Width}
use Rattle.laws.specs.Lists.{keep, Once, Same}
use Rattle.laws.specs.Widths.{WidthFacts}
use Rattle.laws.proofs.Keep.{mem-keep, mem_of_keep, elem→, →elem}
use Rattle.laws.proofs.Once.{once-keep}
use Rattle.laws.proofs.Digits.{has_lt}
use Rattle.laws.proofs.Falling.{sublist_is_elem}
use Rattle.laws.proofs.Sort.{length_sort}
use Rattle.laws.proofs.Cluster.{inside_trans, has_of_inside}
use Rattle.trees.specs.Tree.{trees_on}
use Rattle.trees.proofs.Sets.Families.{Fam, fam_ext}
use Rattle.trees.proofs.Sets.TreeFacts.{Given, Tree}
use Rattle.trees.proofs.Bounds.TreeSize.{trees_on-length-le}
use Rattle.trees.proofs.Joined.TreeTest.{fam_of, tree_of}
use Rattle.shapes.specs.Shape.{Shape, top_of, vertices_of, is_ordered}
use Rattle.shapes.specs.Drawn.{ascending, shape_of, text_of}
use Rattle.shapes.specs.Nests.{TreeOn}
use Rattle.shapes.proofs.Print.{print_inj}
use Rattle.shapes.proofs.Drawn.{Draws, shape-draws}
use Rattle.shapes.proofs.Only.{ordered-only}
use Rattle.shapes.proofs.TextLength.{text-length-le}

-- ---- trees have these facts

module _ (G : Given) (fits : G.width ≤ 64) (C : ℕ) where
  pub tree_on : (S : Fam) → Tree G C S → TreeOn (keep S G.listed) C
  tree_on S tr = record {
    nests = record {
      once = once-keep S G.listed G.once;
      nonzero = λ c m. (G.sound c (listed c m)).0;
      small = λ c m. le_trans (G.sound c (listed c m)).1 (pow_mono fits);
      nest = λ a b m k. tr.laminar a b (is_in_lem a m) (is_in_lem b k);
      leaves = λ c t m i. leaf t (taxon c t m i) (inside_trans (2 ^ t) c C i (tr.within c (is_in_lem c m)));
    };
    top = mem-keep S G.listed (tr.listed C tr.top) tr.top;
    within = λ c m. tr.within c (is_in_lem c m);
  }
    where
      listed : (c : ℕ) → Mem c (keep S G.listed) → Mem c G.listed
      listed c m = (mem_of_keep S G.listed m).0

      is_in_lem : (c : ℕ) → Mem c (keep S G.listed) → T (S c)
      is_in_lem c m = (mem_of_keep S G.listed m).1

      taxon : (c t : ℕ) → Mem c (keep S G.listed) → T (inside (2 ^ t) c) → t < G.width
      taxon c t m i = has_lt G.width c t (G.sound c (listed c m)).1 (has_of_inside t c i)

      leaf : (t : ℕ) → t < G.width → T (inside (2 ^ t) C) → Mem (2 ^ t) (keep S G.listed)
      leaf t h i = let s = tr.leaves t h i in mem-keep S G.listed (tr.listed (2 ^ t) s) s

  pub trees_on_lem : (xs : List ℕ) → Mem xs (trees_on G.width G.degree G.listed C) → TreeOn xs C
  trees_on_lem xs m =
      let q = tree_of G C xs m in
      subst (λ (l : List ℕ). TreeOn l C) (sym (sublist_is_elem G.listed xs G.once q.0)) (tree_on (fam_of G xs) q.1)

-- ---- the shape of a tree

module _ (xs : List ℕ) (C : ℕ) (tree : TreeOn xs C) where
  abbrev shape : Shape
  shape = shape_of (size C) xs C

  drawn : Draws xs C shape
  drawn = shape-draws xs tree.nests (size C) C tree.top (le_refl (size C))

  pub shape-top : top_of shape ≡ C
  shape-top = drawn.top

  pub shape-ordered : T (is_ordered shape)
  shape-ordered = drawn.ordered

  pub shape-clusters : Same (vertices_of shape) xs
  shape-clusters = record { to = λ c m. (drawn.sound c m).0; from = λ c m. drawn.complete c m (tree.within c m) }

  pub shape-once : Once (vertices_of shape)
  shape-once = drawn.once

  pub shape-only : (s : Shape) → T (is_ordered s) → Once (vertices_of s) → Same (vertices_of s) xs → s ≡ shape
  shape-only s o p h =
      ordered-only s shape o shape-ordered p shape-once (record {
        to = λ c m. shape-clusters.from c (h.to c m);
        from = λ c m. h.from c (shape-clusters.to c m);
      })

  -- ---- the length of its text
  pub text-length : (W : Width) → WidthFacts W → C < 2 ^ W.taxa → length (text_of xs C) ≤ W.text_bytes
  text-length W facts h =
      let below = subst (λ (c : ℕ). c < 2 ^ W.taxa) (sym shape-top) h in
      omega (arith, text-length-le W.taxa shape facts.ten facts.taxa shape-ordered shape-once below, facts.text)

-- ---- texts tell trees

module _ (xs ys : List ℕ) (C D : ℕ) (t : TreeOn xs C) (u : TreeOn ys D) (e : text_of xs C ≡ text_of ys D) where
  shapes_equal : shape_of (size C) xs C ≡ shape_of (size D) ys D
  shapes_equal = print_inj (shape_of (size C) xs C) (shape_of (size D) ys D) e

  pub text-members : Same xs ys
  text-members =
      let m = subst (λ (s : Shape). Same (vertices_of s) ys) (sym shapes_equal) (shape-clusters ys D u) in
      let k = shape-clusters xs C t in
      record { to = λ c h. m.to c (k.from c h); from = λ c h. k.to c (m.from c h) }

  pub text-top : C ≡ D
  text-top = sym (shape-top xs C t) ∙ ap top_of shapes_equal ∙ shape-top ys D u

module _ (G : Given) (fits : G.width ≤ 64) where
  pub text-tree : (C D : ℕ) (xs ys : List ℕ)
      → Mem xs (trees_on G.width G.degree G.listed C) → Mem ys (trees_on G.width G.degree G.listed D)
      → text_of xs C ≡ text_of ys D → xs ≡ ys
  text-tree C D xs ys m k e =
      let h = text-members xs ys C D (trees_on_lem G fits C xs m) (trees_on_lem G fits D ys k) e in
      let f = fam_ext (fam_of G xs) (fam_of G ys) (λ c p. →elem c ys (h.to c (elem→ c xs p)))
      (λ c p. →elem c xs (h.from c (elem→ c ys p))) in
      sublist_is_elem G.listed xs G.once (tree_of G C xs m).0
      ∙ ap (λ (S : Fam). keep S G.listed) f
      ∙ sym (sublist_is_elem G.listed ys G.once (tree_of G D ys k).0)

-- ---- the list of clusters

module _ (G : Given) where
  pub list_length-le : (C : ℕ) (xs : List ℕ) → Mem xs (trees_on G.width G.degree G.listed C)
      → length (ascending xs) + 1 ≤ 2 * G.width
  list_length-le C xs m =
      let h = (tree_of G C xs m).1 in
      let k = ones-le G.width C (G.sound C (h.listed C h.top)).1 in
      let l = trees_on-length-le G C xs m in
      omega (arith, length_sort ltb xs)

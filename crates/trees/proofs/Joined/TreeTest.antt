-- The definition's test of a set, and a tree as facts about a family: the same trees, as sublists of the listed clusters.
--     tree→test, test→tree        out of the facts into the test, and back
--     fam_of xs                    a set of clusters as a family
--     tree_of, list_of            a tree of the definition as a family, and a family as a tree of the definition
--     trees-once                  no tree of the definition is listed twice
--     right_list, list_right      a list that holds the families that are trees, and the trees of the definition
--     right-count                 both have the same number
--     test_same                   the order of the members plays no part in the test
-- Assumes nothing.
use mathlib.Core.Path.{◌≡◌, sym, ap, ◌∙◌, subst}
use mathlib.Core.Logic.{◌⊎◌, inl, inr}
use mathlib.Core.Bool.{Bool, not, ◌&&◌, ◌||◌}
use mathlib.Core.List.Memᴰ
use mathlib.Core.List.{List, map, Memᴰ as Mem}
use Prim.Native.Nat.{ℕ, ◌-◌, ◌^◌, ◌<◌}
use lib.Dec.{T, eqb, leb, T_not, not_T}
use lib.ListN.{length, length-map}
use Rattle.laws.specs.Cluster.{inside, strict, nested, single, taxa}
use Rattle.laws.specs.Lists.{keep, every, any, elem, sublists, Once, Same}
use Rattle.laws.proofs.Falling.{sublist_is_elem}
use Rattle.laws.proofs.Tests.{T_and, and_T, T-or, or_l, or_r, T-dec, bool_ext}
use Rattle.laws.proofs.Keep.{mem-keep, mem_of_keep, every→, →every, any→, →any, keep_ext, keep-keep, any-keep, elem→, →elem}
use Rattle.laws.proofs.Once.{once-keep, once-map, once-length}
use Rattle.laws.proofs.Sublists.{sublists-keep, mem_of_sublist, sublists-once}
use Rattle.laws.proofs.Taxa.{taxa-mem, mem-taxa}
use Rattle.trees.specs.Tree.{children, is_tree, trees_on}
use Rattle.trees.proofs.Sets.Families.{Fam, fam_ext}
use Rattle.trees.proofs.Sets.TreeFacts.{Given, kid, kids, Tree}
use Rattle.trees.proofs.Joined.Cuts.{Right}

-- ---- the test, part by part

module _ (G : Given) (C : ℕ) (xs : List ℕ) where
  abbrev all_inside : Bool
  all_inside = every (λ (m : ℕ). inside m C) xs

  abbrev taxa_in : Bool
  taxa_in = every (λ (u : ℕ). not (inside u C) || elem u xs) (taxa G.width)

  abbrev all_nested : Bool
  all_nested = every (λ (a : ℕ). every (λ (b : ℕ). nested a b) xs) xs

  abbrev is_few : ℕ → Bool
  is_few m = single m || leb (length (children xs m)) (G.degree - 1)

  record Passed : Type 0 where
    within : T all_inside
    top : T (elem C xs)
    leaves : T taxa_in
    laminar : T all_nested
    bounded : T (every is_few xs)

  passed : T (is_tree G.width G.degree C xs) → Passed
  unfolding is_tree
  passed h =
      let p = T_and (all_inside && elem C xs && taxa_in && all_nested) (every is_few xs) h in
      let q = T_and (all_inside && elem C xs && taxa_in) all_nested p.0 in
      let r = T_and (all_inside && elem C xs) taxa_in q.0 in
      let s = T_and all_inside (elem C xs) r.0 in
      record { within = s.0; top = s.1; leaves = r.1; laminar = q.1; bounded = p.1 }

  passes : Passed → T (is_tree G.width G.degree C xs)
  unfolding is_tree
  passes p =
      and_T (all_inside && elem C xs && taxa_in && all_nested) (every is_few xs)
      (and_T (all_inside && elem C xs && taxa_in) all_nested
      (and_T (all_inside && elem C xs) taxa_in (and_T all_inside (elem C xs) p.within p.top) p.leaves)
      p.laminar)
      p.bounded

-- ---- the facts

module _ (G : Given) where
  kids_children : (S : Fam) (m : ℕ) → children (keep S G.listed) m ≡ kids G S m
  kids_children S m =
      keep-keep (λ (k : ℕ). strict k m && not (any (λ (l : ℕ). strict l m && strict k l) (keep S G.listed))) S G.listed
      ∙ keep_ext
      (λ (k : ℕ). S k && (strict k m && not (any (λ (l : ℕ). strict l m && strict k l) (keep S G.listed))))
      (kid G S m)
      G.listed
      (λ k _. ap (λ (x : Bool). S k && (strict k m && not x)) (any-keep (λ (l : ℕ). strict l m && strict k l) S G.listed))

  module _ (C : ℕ) (S : Fam) where
    abbrev members : List ℕ
    members = keep S G.listed

    member→ : (c : ℕ) → Mem c members → T (S c)
    member→ c m = (mem_of_keep S G.listed m).1

    -- the taxa of C are members, as the test says it and as a tree does
    leaf_in : Tree G C S → (u : ℕ) → (t : ℕ) × (t < G.width) × (u ≡ 2 ^ t) → T (inside u C) ⊎ (T (inside u C) → ⊥)
        → T (not (inside u C) || elem u members)
    leaf_in tr u q (inr n) = or_l (not (inside u C)) (elem u members) (not_T (inside u C) n)
    leaf_in tr u q (inl i) =
        let t : T (S (2 ^ q.0)) = tr.leaves q.0 q.1 (subst (λ (x : ℕ). T (inside x C)) q.2 i) in
        let s : T (S u) = subst (λ (x : ℕ). T (S x)) (sym q.2) t in
        or_r (not (inside u C)) (elem u members) (→elem u members (mem-keep S G.listed (tr.listed u s) s))

    leaf_of : (t : ℕ) → T (inside (2 ^ t) C) → T (not (inside (2 ^ t) C)) ⊎ T (elem (2 ^ t) members) → T (S (2 ^ t))
    leaf_of t i (inl n) = absurd (T_not (inside (2 ^ t) C) n i)
    leaf_of t i (inr m) = member→ (2 ^ t) (elem→ (2 ^ t) members m)

    pub tree→test : Tree G C S → T (is_tree G.width G.degree C members)
    tree→test tr = passes G C members (record {
      within = →every (λ (m : ℕ). inside m C) members (λ m k. tr.within m (member→ m k));
      top = →elem C members (mem-keep S G.listed (tr.listed C tr.top) tr.top);
      leaves = →every (λ (u : ℕ). not (inside u C) || elem u members) (taxa G.width)
          (λ u k. leaf_in tr u (mem-taxa G.width u k) (T-dec (inside u C)));
      laminar = →every (λ (a : ℕ). every (λ (b : ℕ). nested a b) members) members
          (λ a k. →every (λ (b : ℕ). nested a b) members (λ b j. tr.laminar a b (member→ a k) (member→ b j)));
      bounded = →every (is_few G C members) members (λ m k.
          subst (λ (x : List ℕ). T (single m || leb (length x) (G.degree - 1))) (sym (kids_children S m)) (tr.bounded m (member→ m k)));
    })

    pub test→tree : ((c : ℕ) → T (S c) → Mem c G.listed) → T (is_tree G.width G.degree C members) → Tree G C S
    test→tree all h = record {
      listed = all;
      within = λ c x. every→ (λ (m : ℕ). inside m C) members p.within c (is_member c x);
      top = member→ C (elem→ C members p.top);
      leaves = λ t l i. leaf_of t i (T-or (not (inside (2 ^ t) C)) (elem (2 ^ t) members)
          (every→ (λ (u : ℕ). not (inside u C) || elem u members) (taxa G.width) p.leaves (2 ^ t) (taxa-mem G.width t l)));
      laminar = λ a b x y. every→ (λ (b : ℕ). nested a b) members
          (every→ (λ (a : ℕ). every (λ (b : ℕ). nested a b) members) members p.laminar a (is_member a x)) b (is_member b y);
      bounded = λ m x. subst (λ (z : List ℕ). T (single m || leb (length z) (G.degree - 1))) (kids_children S m)
          (every→ (is_few G C members) members p.bounded m (is_member m x));
    }
      where
        p : Passed G C members
        p = passed G C members h

        is_member : (c : ℕ) → T (S c) → Mem c members
        is_member c x = mem-keep S G.listed (all c x) x

  -- ---- a set of the definition, as a family
  abbrev pub fam_of : List ℕ → Fam
  fam_of xs = λ c. elem c xs

  module _ (C : ℕ) where
    abbrev test : List ℕ → Bool
    test = is_tree G.width G.degree C

    abbrev trees : List (List ℕ)
    trees = trees_on G.width G.degree G.listed C

    pub tree_of : (xs : List ℕ) → Mem xs (trees_on G.width G.degree G.listed C)
        → Mem xs (sublists G.listed) × Tree G C (fam_of xs)
    unfolding trees_on
    tree_of xs m =
        let q = mem_of_keep test (sublists G.listed) m in
        let whole = sublist_is_elem G.listed xs G.once q.0 in
        let passes = subst (λ (z : List ℕ). T (test z)) whole q.1 in
        (q.0, test→tree C (fam_of xs) (λ c h. mem_of_sublist G.listed xs q.0 c (elem→ c xs h)) passes)

    pub list_of : (S : Fam) → Tree G C S → Mem (keep S G.listed) (trees_on G.width G.degree G.listed C)
    unfolding trees_on
    list_of S tr = mem-keep test (sublists G.listed) (sublists-keep S G.listed) (tree→test C S tr)

    pub trees-once : (w d : ℕ) → Once (trees_on w d G.listed C)
    unfolding trees_on
    trees-once w d = once-keep (is_tree w d C) (sublists G.listed) (sublists-once G.listed G.once)

    module _ (ts : List Fam) (r : Right G C ts) where
      pub right_list : (xs : List ℕ) → Mem xs (trees_on G.width G.degree G.listed C) → Mem (fam_of xs) ts
      right_list xs m = r.complete (fam_of xs) (tree_of xs m).1

      pub list_right : (S : Fam) → Mem S ts → Mem (keep S G.listed) (trees_on G.width G.degree G.listed C)
      list_right S m = list_of S (r.sound S m)

      -- the families, as sublists of the listed clusters, are the trees of the definition
      pub right-count : length ts ≡ length (trees_on G.width G.degree G.listed C)
      right-count =
          sym (length-map ts as_list)
          ∙ once-length (map as_list ts) trees (once-map as_list ts r.once inj) (trees-once G.width G.degree) to from
        where
          as_list : Fam → List ℕ
          as_list S = keep S G.listed

          part : (S U : Fam) → Mem S ts → keep S G.listed ≡ keep U G.listed → (c : ℕ) → T (S c) → T (U c)
          part S U m e c s = (mem_of_keep U G.listed (subst (Mem c) e (mem-keep S G.listed ((r.sound S m).listed c s) s))).1

          inj : (S U : Fam) → Mem S ts → Mem U ts → as_list S ≡ as_list U → S ≡ U
          inj S U m k e = fam_ext S U (part S U m e) (part U S k (sym e))

          to : (xs : List ℕ) → Mem xs (map as_list ts) → Mem xs trees
          to xs m = let q = Memᴰ.of_map as_list ts m in Memᴰ.cast (sym q.2) (list_right q.0 q.1)

          from : (xs : List ℕ) → Mem xs trees → Mem xs (map as_list ts)
          from xs m = Memᴰ.cast (sublist_is_elem G.listed xs G.once (tree_of xs m).0) (Memᴰ.map as_list (right_list xs m))

-- ---- the order of the members plays no part

module _ (G : Given) (C : ℕ) (xs ys : List ℕ) (once : Once xs) (alone : Once ys) (same : Same xs ys) where
  any_same : (p : ℕ → Bool) → any p xs ≡ any p ys
  any_same p =
      bool_ext (any p xs) (any p ys) (λ h. let q = any→ p xs h in →any p ys (same.to q.0 q.1) q.2)
      (λ h. let q = any→ p ys h in →any p xs (same.from q.0 q.1) q.2)

  -- a child, by the members of a list
  abbrev is_child : List ℕ → ℕ → ℕ → Bool
  is_child l m k = strict k m && not (any (λ (c : ℕ). strict c m && strict k c) l)

  child_same : (m k : ℕ) → is_child xs m k ≡ is_child ys m k
  child_same m k = ap (λ (b : Bool). strict k m && not b) (any_same (λ (c : ℕ). strict c m && strict k c))

  children-same : (m : ℕ) → length (children xs m) ≡ length (children ys m)
  children-same m =
      once-length (children xs m) (children ys m) (once-keep (is_child xs m) xs once) (once-keep (is_child ys m) ys alone)
      (λ k j. let q = mem_of_keep (is_child xs m) xs j in mem-keep (is_child ys m) ys (same.to k q.0) (subst T (child_same m k) q.1))
      (λ k j. let q = mem_of_keep (is_child ys m) ys j in
      mem-keep (is_child xs m) xs (same.from k q.0) (subst T (sym (child_same m k)) q.1))

  pub test_same : T (is_tree G.width G.degree C xs) → T (is_tree G.width G.degree C ys)
  test_same h =
      let p = passed G C xs h in passes G C ys (record {
        within = →every (λ (m : ℕ). inside m C) ys (λ m k. every→ (λ (m : ℕ). inside m C) xs p.within m (same.from m k));
        top = →elem C ys (same.to C (elem→ C xs p.top));
        leaves = →every (λ (u : ℕ). not (inside u C) || elem u ys) (taxa G.width) (λ u k.
            subst (λ (b : Bool). T (not (inside u C) || b)) (any_same (λ (x : ℕ). eqb u x))
            (every→ (λ (u : ℕ). not (inside u C) || elem u xs) (taxa G.width) p.leaves u k));
        laminar = →every (λ (a : ℕ). every (λ (b : ℕ). nested a b) ys) ys (λ a j.
            →every (λ (b : ℕ). nested a b) ys (λ b k. every→ (λ (b : ℕ). nested a b) xs
            (every→ (λ (a : ℕ). every (λ (b : ℕ). nested a b) xs) xs p.laminar a (same.from a j)) b (same.from b k)));
        bounded = →every (is_few G C ys) ys (λ m k.
            subst (λ (n : ℕ). T (single m || leb n (G.degree - 1))) (children-same m)
            (every→ (is_few G C xs) xs p.bounded m (same.from m k)));
      })

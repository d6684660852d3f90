-- The trees of the children of one tuple, joined: a family cut along clusters that are apart is a tree inside each of them.
--     TreeEntry           an entry whose value is a list of families
--     Right G C ts        the list ts holds the trees on C, each once
--     EachRight G τ        each entry's list holds the trees on its cluster
--     combos G τ          one tree out of each child's list, joined, in every way
--     Holder τ c          a child that c lies inside
--     Cut G τ U           U is a tree inside each child, and has no member elsewhere
--     cut_listed          the members of a cut are listed
--     combos→, →combos    the joins are the cuts
--     combos_once         and none repeats
-- Assumes nothing.
use mathlib.Core.Path.{◌≡◌, refl, sym, ap, ◌∙◌, subst}
use mathlib.Core.Logic.{◌⊎◌, inl, inr}
use mathlib.Core.Bool.{not}
use mathlib.Core.List.Memᴰ
use mathlib.Core.List.{List, [], ◌∷◌, map}
use mathlib.Core.List.Memᴰ.{head as here}
use mathlib.Core.List.Memᴰ.{not-nil as mem-nil}
use mathlib.Core.List.Memᴰ.{tail as there}
use mathlib.Core.List.{Memᴰ as Mem}
use Prim.Native.Nat.{ℕ}
use lib.Dec.{T, T_not, not_T}
use Rattle.laws.specs.Cluster.{inside, apart}
use Rattle.laws.specs.Lists.{Once}
use Rattle.laws.proofs.Tests.{T_and, and_T, T-or}
use Rattle.laws.proofs.Once.{once-map, once-bind}
use Rattle.trees.specs.Rows.{Entry, cl}
use Rattle.trees.specs.Tuple.{all_apart}
use Rattle.trees.proofs.Sets.Families.{Fam, fam_ext, join, empty, restrict, outside, cross, mem_cross, mem_of_cross}
use Rattle.trees.proofs.Sets.Families.{join_only_l, join_only_r, restrict_join_r, restrict_outside, join_parts}
use Rattle.trees.proofs.Sets.TreeFacts.{Given, Tree, clash}
use Rattle.trees.proofs.Sets.Tuples.{apart-first, apart_rest}

abbrev pub TreeEntry : Type 0
TreeEntry = Entry (List Fam)

abbrev pub Holder : List TreeEntry → ℕ → Type 0
Holder τ c = (e : TreeEntry) × Mem e τ × T (inside c (cl e))

module _ (G : Given) where
  -- the list holds the trees on C, each once
  pub record Right (C : ℕ) (ts : List Fam) : Type 0 where
    pub sound : (S : Fam) → Mem S ts → Tree G C S
    pub complete : (S : Fam) → Tree G C S → Mem S ts
    pub once : Once ts

  abbrev pub EachRight : List TreeEntry → Type 0
  EachRight τ = (e : TreeEntry) → Mem e τ → Right (cl e) e.val

  abbrev pub combos : List TreeEntry → List Fam
  combos [] = empty ∷ []
  combos (e ∷ τ) = cross e.val (combos τ)

  pub record Cut (τ : List TreeEntry) (U : Fam) : Type 0 where
    pub parts : (e : TreeEntry) → Mem e τ → Tree G (cl e) (restrict U (cl e))
    pub held : (c : ℕ) → T (U c) → Holder τ c

  pub cut_listed : (τ : List TreeEntry) (U : Fam) → Cut τ U → (c : ℕ) → T (U c) → Mem c G.listed
  cut_listed τ U h c u = let q = h.held c u in (h.parts q.0 q.1).listed c (and_T (U c) (inside c (cl q.0)) u q.2)

  -- ---- one child more, apart from the others
  module _ (e : TreeEntry) (τ : List TreeEntry) (away : (x : TreeEntry) → Mem x τ → T (apart (cl e) (cl x))) where
    -- a tree S on the child and a cut U along the others
    module _ (S U : Fam) (tree : Tree G (cl e) S) (cut : Cut τ U) where
      not-inside : (c : ℕ) → T (U c) → T (inside c (cl e)) → ⊥
      not-inside c u i =
          let q = cut.held c u in
          clash G c (cl e) (cl q.0) (cut_listed τ U cut c u) (away q.0 q.1) i q.2

      child_part : restrict (join S U) (cl e) ≡ S
      child_part = join_only_l (λ c. inside c (cl e)) S U tree.within not-inside

      other_part : (x : TreeEntry) → Mem x τ → restrict (join S U) (cl x) ≡ restrict U (cl x)
      other_part x m = restrict_join_r S U (cl x) (λ c s i. clash G c (cl e) (cl x) (tree.listed c s) (away x m) (tree.within c s) i)

      rest_part : outside (join S U) (cl e) ≡ U
      rest_part =
          join_only_r (λ c. not (inside c (cl e))) S U (λ c s n. T_not (inside c (cl e)) n (tree.within c s))
          (λ c u. not_T (inside c (cl e)) (not-inside c u))

      join_cut : Cut (e ∷ τ) (join S U)
      join_cut = record { parts = parts; held = λ c h. held c (T-or (S c) (U c) h) }
        where
          parts : (x : TreeEntry) → Mem x (e ∷ τ) → Tree G (cl x) (restrict (join S U) (cl x))
          parts x (here q) = rw q (subst (Tree G (cl e)) (sym child_part) tree)
          parts x (there m) = subst (Tree G (cl x)) (sym (other_part x m)) (cut.parts x m)

          held : (c : ℕ) → T (S c) ⊎ T (U c) → Holder (e ∷ τ) c
          held c (inl s) = (e, here refl, tree.within c s)
          held c (inr u) = let q = cut.held c u in (q.0, there q.1, q.2)

    -- the two can be read off the join
    rest_inj : (S U W : Fam) → Tree G (cl e) S → Cut τ U → Cut τ W → join S U ≡ join S W → U ≡ W
    rest_inj S U W h j k q = sym (rest_part S U h j) ∙ ap (λ (X : Fam). outside X (cl e)) q ∙ rest_part S W h k

    child_inj : (S S' U W : Fam) → Tree G (cl e) S → Tree G (cl e) S' → Cut τ U → Cut τ W → join S U ≡ join S' W → S ≡ S'
    child_inj S S' U W h h' j k q = sym (child_part S U h j) ∙ ap (λ (X : Fam). restrict X (cl e)) q ∙ child_part S' W h' k

    split_cut : (U : Fam) → Cut (e ∷ τ) U → Cut τ (outside U (cl e))
    split_cut U cut = record { parts = parts; held = held }
      where
        parts : (x : TreeEntry) → Mem x τ → Tree G (cl x) (restrict (outside U (cl e)) (cl x))
        parts x m =
            subst (Tree G (cl x))
            (restrict_outside U (cl e) (cl x) (λ c u i j. clash G c (cl e) (cl x) (cut_listed (e ∷ τ) U cut c u) (away x m) i j))
            (cut.parts x (there m))

        not_first : (c : ℕ) (x : TreeEntry) → T (not (inside c (cl e))) → T (inside c (cl x)) → Mem x (e ∷ τ) → Holder τ c
        not_first c x n i (here q) = absurd (T_not (inside c (cl e)) n (subst (λ (y : TreeEntry). T (inside c (cl y))) q i))
        not_first c x n i (there m) = (x, m, i)

        held : (c : ℕ) → T (outside U (cl e) c) → Holder τ c
        held c h =
            let q = T_and (U c) (not (inside c (cl e))) h in
            let p = cut.held c q.0 in
            not_first c p.0 q.1 p.2 p.1

  first_away : (e : TreeEntry) (τ : List TreeEntry) → T (all_apart (map cl (e ∷ τ))) → (x : TreeEntry) → Mem x τ → T (apart (cl e) (cl x))
  first_away e τ a x m = apart-first (cl e) (map cl τ) a (cl x) (Memᴰ.map cl m)

  pub combos→ : (τ : List TreeEntry) → T (all_apart (map cl τ)) → EachRight τ → (U : Fam) → Mem U (combos τ) → Cut τ U
  combos→ [] a r U (here q) =
      record { parts = λ e m. absurd (mem-nil m); held = λ c u. absurd (subst (λ (S : Fam). T (S c)) q u) }
  combos→ [] a r U (there m) = absurd (mem-nil m)
  combos→ (e ∷ τ) a r U m =
      let q = mem_of_cross e.val (combos τ) m in
      let rest = combos→ τ (apart_rest (cl e) (map cl τ) a) (λ x k. r x (there k)) q.1 q.3 in
      subst (Cut (e ∷ τ)) q.4 (join_cut e τ (first_away e τ a) q.0 q.1 ((r e (here refl)).sound q.0 q.2) rest)

  pub →combos : (τ : List TreeEntry) → T (all_apart (map cl τ)) → EachRight τ → (U : Fam) → Cut τ U → Mem U (combos τ)
  →combos [] a r U h = here (fam_ext U empty (λ c u. absurd (mem-nil (h.held c u).1)) (λ c u. absurd u))
  →combos (e ∷ τ) a r U h =
      subst (λ (S : Fam). Mem S (cross e.val (combos τ))) (join_parts U (cl e))
      (mem_cross e.val (combos τ) ((r e (here refl)).complete (restrict U (cl e)) (h.parts e (here refl)))
      (→combos τ (apart_rest (cl e) (map cl τ) a) (λ x k. r x (there k)) (outside U (cl e)) (split_cut e τ (first_away e τ a) U h)))

  pub combos_once : (τ : List TreeEntry) → T (all_apart (map cl τ)) → EachRight τ → Once (combos τ)
  combos_once [] a r = (mem-nil, tt)
  combos_once (e ∷ τ) a r =
      once-bind (λ (S : Fam). map (join S) (combos τ)) e.val (r e (here refl)).once
      (λ S m. once-map (join S) (combos τ) (combos_once τ (apart_rest (cl e) (map cl τ) a) (λ x k. r x (there k)))
      (λ U W j k q. rest_inj e τ (first_away e τ a) S U W (sound S m) (cut U j) (cut W k) q))
      same_child
    where
      sound : (S : Fam) → Mem S e.val → Tree G (cl e) S
      sound = (r e (here refl)).sound

      cut : (U : Fam) → Mem U (combos τ) → Cut τ U
      cut = combos→ τ (apart_rest (cl e) (map cl τ) a) (λ x k. r x (there k))

      same_child : (S S' X : Fam) → Mem S e.val → Mem S' e.val → Mem X (map (join S) (combos τ)) → Mem X (map (join S') (combos τ))
          → S ≡ S'
      same_child S S' X m m' j k =
          let p = Memᴰ.of_map (join S) (combos τ) j in
          let q = Memᴰ.of_map (join S') (combos τ) k in
          child_inj e τ (first_away e τ a) S S' p.0 q.0 (sound S m) (sound S' m') (cut p.0 p.1) (cut q.0 q.1)
          (p.2 ∙ sym q.2)

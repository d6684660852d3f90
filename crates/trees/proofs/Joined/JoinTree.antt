-- The tree that a tuple and a cut along it make: the whole cluster, with a tree inside each part.
--     joined            the cluster C, with the members of the cut
--     cut_other         C is no member of the cut
--     child→part, part→child     the children of C in it are the parts of the tuple
--     join_tree         it is a tree on C
-- Assumes nothing.
use mathlib.Core.Path.{◌≡◌, sym, subst}
use mathlib.Core.Logic.{◌⊎◌, inl, inr, ◌≢◌}
use mathlib.Core.Bool.{◌||◌}
use mathlib.Core.List.Memᴰ
use mathlib.Core.List.{List, map, Memᴰ as Mem}
use Prim.Native.Nat.{ℕ, ◌-◌, ◌^◌, ◌≤◌, ◌<◌}
use native.Mathlib.Decide.{ℕ_discrete}
use native.Mathlib.Omega.{arith}
use lib.Dec.{T, eqb, leb, eqb→eq, eqb_refl, le→leb}
use lib.ListN.{length}
use Rattle.laws.specs.Cluster.{inside, strict, apart, nested, single}
use Rattle.laws.specs.Lists.{Once}
use Rattle.laws.proofs.Tests.{T_and, and_T, T-or, or_l, or_r, bool_ext}
use Rattle.laws.proofs.Keep.{mem_of_keep}
use Rattle.laws.proofs.Once.{once-keep, once-length-le}
use Rattle.laws.proofs.Cluster.{inside_refl, inside_trans, inside_antisym, apart_of_inside, strict→, →strict}
use Rattle.laws.proofs.Cluster.{Nest, below, above, away, nested→, →nested}
use Rattle.trees.specs.Rows.{cl}
use Rattle.trees.proofs.Sets.Families.{Fam, join, one, restrict}
use Rattle.trees.proofs.Sets.TreeFacts.{Given, Tree, kid, kids, kids_local, kid→, →kid, clash}
use Rattle.trees.proofs.Sets.Tuples.{apart_of_tuple}
use Rattle.trees.proofs.Joined.Cuts.{TreeEntry, Holder, Cut, cut_listed}
use Rattle.trees.proofs.Joined.Beneath.{TupleOf, part_of_taxon}

abbrev pub joined : ℕ → Fam → Fam
joined C U = join (one C) U

module _ (G : Given) (C : ℕ) (τ : List TreeEntry) (tuple : TupleOf G C τ) (U : Fam) (cut : Cut G τ U) where
  -- ---- the members

  data Member (c : ℕ) : Type 0 where
    whole : c ≡ C → Member c
    inner : T (U c) → Member c

  member : (c : ℕ) → T (joined C U c) → Member c
  member c h = go (T-or (eqb c C) (U c) h)
    where
      go : T (eqb c C) ⊎ T (U c) → Member c
      go (inl e) = whole (eqb→eq c C e)
      go (inr u) = inner u

  inner_in : (c : ℕ) → T (U c) → T (joined C U c)
  inner_in c u = or_r (eqb c C) (U c) u

  part_inside : (e : TreeEntry) → Mem e τ → T (inside (cl e) C)
  part_inside e m = (strict→ (cl e) C (tuple.proper e m)).0

  -- a part is a member
  part_in : (e : TreeEntry) → Mem e τ → T (joined C U (cl e))
  part_in e m = inner_in (cl e) (T_and (U (cl e)) (inside (cl e) (cl e)) (cut.parts e m).top).0

  cut_within : (c : ℕ) → T (U c) → T (inside c C)
  cut_within c u = let q = cut.held c u in inside_trans c (cl q.0) C q.2 (part_inside q.0 q.1)

  pub cut_other : (c : ℕ) → T (U c) → c ≢ C
  cut_other c u e =
      let q = cut.held c u in
      let up : T (inside C (cl q.0)) = subst (λ (x : ℕ). T (inside x (cl q.0))) e q.2 in
      (strict→ (cl q.0) C (tuple.proper q.0 q.1)).1 (inside_antisym (cl q.0) C (part_inside q.0 q.1) up)

  same-or-apart : (e x : TreeEntry) → Mem e τ → Mem x τ → (cl e ≡ cl x) ⊎ T (apart (cl e) (cl x))
  same-or-apart e x m k = apart_of_tuple (map cl τ) tuple.facts.apart (cl e) (cl x) (Memᴰ.map cl m) (Memᴰ.map cl k)

  -- ---- the children of the whole

  -- a member below C lies inside a part, and a part is a member
  pub child→part : (k : ℕ) → T (kid G (joined C U) C k) → Mem k (map cl τ)
  child→part k h = go (member k (kid→ G (joined C U) C k h).0)
    where
      at : (p : Holder τ k) → Dec (k ≡ cl p.0) → Mem k (map cl τ)
      at p (yes e) = Memᴰ.cast e (Memᴰ.map cl p.1)
      at p (no n) =
          absurd ((kid→ G (joined C U) C k h).2 (cl p.0) (tuple.listed p.0 p.1) (part_in p.0 p.1)
          (tuple.proper p.0 p.1) (→strict k (cl p.0) p.2 n))

      go : Member k → Mem k (map cl τ)
      go (whole e) = absurd ((strict→ k C (kid→ G (joined C U) C k h).1).1 e)
      go (inner u) = let p = cut.held k u in at p (ℕ_discrete k (cl p.0))

  -- a member over a part would lie inside that part, or inside one that is apart from it
  pub part→child : (e : TreeEntry) → Mem e τ → T (kid G (joined C U) C (cl e))
  part→child e m = →kid G (joined C U) C (cl e) (part_in e m) (tuple.proper e m) none_over
    where
      at : (l : ℕ) → T (strict (cl e) l) → (p : Holder τ l) → (cl e ≡ cl p.0) ⊎ T (apart (cl e) (cl p.0)) → ⊥
      at l over p (inl q) =
          let s = strict→ (cl e) l over in
          s.1 (inside_antisym (cl e) l s.0 (subst (λ (x : ℕ). T (inside l x)) (sym q) p.2))
      at l over p (inr a) =
          clash G (cl e) (cl e) (cl p.0) (tuple.listed e m) a (inside_refl (cl e))
          (inside_trans (cl e) l (cl p.0) (strict→ (cl e) l over).0 p.2)

      none_over : (l : ℕ) → Mem l G.listed → T (joined C U l) → T (strict l C) → T (strict (cl e) l) → ⊥
      none_over l _ s under over = go (member l s)
        where
          go : Member l → ⊥
          go (whole q) = (strict→ l C under).1 q
          go (inner u) = let p = cut.held l u in at l over p (same-or-apart e p.0 m p.1)

  -- ---- the facts of a tree

  all_listed : (c : ℕ) → T (joined C U c) → Mem c G.listed
  all_listed c s = go (member c s)
    where
      go : Member c → Mem c G.listed
      go (whole e) = Memᴰ.cast e tuple.top
      go (inner u) = cut_listed G τ U cut c u

  all-within : (c : ℕ) → T (joined C U c) → T (inside c C)
  all-within c s = go (member c s)
    where
      go : Member c → T (inside c C)
      go (whole e) = subst (λ (x : ℕ). T (inside c x)) e (inside_refl c)
      go (inner u) = cut_within c u

  leaf_in : (t : ℕ) → t < G.width → T (inside (2 ^ t) C) → T (joined C U (2 ^ t))
  leaf_in t h i =
      let q = part_of_taxon G C τ tuple t i in
      inner_in (2 ^ t) (T_and (U (2 ^ t)) (inside (2 ^ t) (cl q.0)) ((cut.parts q.0 q.1).leaves t h q.2)).0

  -- two members of the cut nest inside one part, or lie in parts that are apart
  inner-nest : (a b : ℕ) → T (U a) → T (U b) → Nest a b
  inner-nest a b u v = go (cut.held a u) (cut.held b v)
    where
      at : (p : Holder τ a) (q : Holder τ b) → (cl p.0 ≡ cl q.0) ⊎ T (apart (cl p.0) (cl q.0)) → Nest a b
      at p q (inl e) =
          nested→ a b ((cut.parts p.0 p.1).laminar a b (and_T (U a) (inside a (cl p.0)) u p.2)
          (and_T (U b) (inside b (cl p.0)) v (subst (λ (x : ℕ). T (inside b x)) (sym e) q.2)))
      at p q (inr x) = away (apart_of_inside (cl p.0) (cl q.0) a b x p.2 q.2)

      go : Holder τ a → Holder τ b → Nest a b
      go p q = at p q (same-or-apart p.0 q.0 p.1 q.1)

  all-nest : (a b : ℕ) → T (joined C U a) → T (joined C U b) → T (nested a b)
  all-nest a b s t = →nested a b (go (member a s) (member b t))
    where
      go : Member a → Member b → Nest a b
      go x (whole e) = below (subst (λ (z : ℕ). T (inside a z)) (sym e) (all-within a s))
      go (whole e) (inner v) = above (subst (λ (z : ℕ). T (inside b z)) (sym e) (cut_within b v))
      go (inner u) (inner v) = inner-nest a b u v

  top-few : length (kids G (joined C U) C) ≤ G.degree - 1
  top-few = omega (arith, tuple.facts.few, once-length-le (kids G (joined C U) C) (map cl τ) once in_parts)
    where
      once : Once (kids G (joined C U) C)
      once = once-keep (kid G (joined C U) C) G.listed G.once

      in_parts : (k : ℕ) → Mem k (kids G (joined C U) C) → Mem k (map cl τ)
      in_parts k h = child→part k (mem_of_keep (kid G (joined C U) C) G.listed h).1

  abbrev Few : Fam → ℕ → Type 0
  Few S m = T (single m || leb (length (kids G S m)) (G.degree - 1))

  -- inside a member of the cut the whole is the part that holds it
  inner-few : (m : ℕ) → T (U m) → Few (joined C U) m
  inner-few m u =
      subst (λ (ks : List ℕ). T (single m || leb (length ks) (G.degree - 1)))
      (kids_local G (restrict U (cl p.0)) (joined C U) m same)
      ((cut.parts p.0 p.1).bounded m (and_T (U m) (inside m (cl p.0)) u p.2))
    where
      p : Holder τ m
      p = cut.held m u

      back : (c : ℕ) → T (inside c m) → Member c → T (restrict U (cl p.0) c)
      back c i (whole e) = absurd (cut_other m u (inside_antisym m C (cut_within m u) (subst (λ (x : ℕ). T (inside x m)) e i)))
      back c i (inner v) = and_T (U c) (inside c (cl p.0)) v (inside_trans c m (cl p.0) i p.2)

      same : (c : ℕ) → T (inside c m) → restrict U (cl p.0) c ≡ joined C U c
      same c i =
          bool_ext (restrict U (cl p.0) c) (joined C U c) (λ h. inner_in c (T_and (U c) (inside c (cl p.0)) h).0)
          (λ h. back c i (member c h))

  all-few : (m : ℕ) → T (joined C U m) → Few (joined C U) m
  all-few m s = go (member m s)
    where
      go : Member m → Few (joined C U) m
      go (whole e) = rw e (or_r (single C) (leb (length (kids G (joined C U) C)) (G.degree - 1)) (le→leb _ _ top-few))
      go (inner u) = inner-few m u

  pub join_tree : Tree G C (joined C U)
  join_tree = record {
    listed = all_listed;
    within = all-within;
    top = or_l (eqb C C) (U C) (eqb_refl C);
    leaves = leaf_in;
    laminar = all-nest;
    bounded = all-few;
  }

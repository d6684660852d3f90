-- The search meets the covers of R from the last to the first of `covers_of`: so it is their sum in that order, for every kind of result
-- that has the laws of a semiring but commutation.
--     Summing             those laws
--     over_append         a sum over tuples in two parts
--     search_in_order     the search is the sum over the covers, from the last to the first
-- Assumes nothing.
use mathlib.Core.Path.{◌≡◌, refl, sym, ap, ap₂, ◌∙◌}
use mathlib.Core.Bool.{Bool, true, false, cond, ◌&&◌}
use mathlib.Core.List.{List, [], ◌∷◌, ◌++◌, map, reverse, reverse-append}
use mathlib.Core.List.Memᴰ.{head as here}
use mathlib.Core.List.Memᴰ.{not-nil as mem-nil}
use mathlib.Core.List.Memᴰ.{tail as there}
use mathlib.Core.List.{Memᴰ as Mem}
use Prim.Native.Nat.{ℕ, zero, suc, ◌-◌, ◌≤◌, ◌<◌}
use native.Mathlib.Omega.{arith}
use lib.Dec.{T, eqb, eqb→eq}
use Rattle.laws.specs.Lists.{keep_if, keep}
use Rattle.laws.proofs.Tests.{T_and, T_false}
use Rattle.laws.proofs.Descends.{Descends, descends_first, descends_map-keep}
use Rattle.laws.proofs.Appended.{map-reverse}
use Rattle.laws.proofs.Cluster.{le_of_inside}
use Rattle.trees.specs.Rows.{Entry, cl, sc}
use Rattle.trees.specs.Kind.{Kind, prod_k, over_tuples}
use Rattle.trees.specs.Cover.{covers_of}
use Rattle.trees.proofs.Searching.Covers.{in_front, take_if, chosen_is}
use Rattle.trees.proofs.Searching.Leads.{leads, leads→, covers_of_lead, covers_of-one, covers_of-zero_is, covers_of_stop, covers_of-first}
use Rattle.trees.proofs.Searching.Search.{lookup, scan, gain, search, search_none, search_one, search_suc}
use Rattle.trees.proofs.Searching.Search.{gain_whole, gain_part, lookup_cons, lookup_missing, scan_ended, scan_cons}

module _ {A : Type 0} (k : Kind A) where
  pub record Summing : Type 0 where
    pub none-plus : (x : A) → k.plus k.none x ≡ x
    pub plus_none : (x : A) → k.plus x k.none ≡ x
    pub plus_assoc : (x y z : A) → k.plus (k.plus x y) z ≡ k.plus x (k.plus y z)
    pub times_none : (x : A) → k.times x k.none ≡ k.none
    pub times-unit : (x : A) → k.times x k.unit ≡ x
    pub times-plus : (x y z : A) → k.times x (k.plus y z) ≡ k.plus (k.times x y) (k.times x z)

-- the covers without e behind those with it
reverse-take : {A : Type 0} (xs : List (List (Entry A))) (b : Bool) (e : Entry A) (ys : List (List (Entry A)))
    → reverse (xs ++ take_if b e ys) ≡ take_if b e (reverse ys) ++ reverse xs
reverse-take {A} xs b e ys = reverse-append xs (take_if b e ys) ∙ ap (λ (x : List (List (Entry A))). x ++ reverse xs) (go b)
  where
    go : (a : Bool) → reverse (take_if a e ys) ≡ take_if a e (reverse ys)
    go true = sym (map-reverse (λ (τ : List (Entry A)). e ∷ τ) ys)
    go false = refl

module _ {A : Type 0} (k : Kind A) (law : Summing k) where
  pub over_append : (xs ys : List (List (Entry A))) → over_tuples k (xs ++ ys) ≡ k.plus (over_tuples k xs) (over_tuples k ys)
  over_append [] ys = sym (law.none-plus (over_tuples k ys))
  over_append (x ∷ xs) ys =
      ap (k.plus (prod_k k x)) (over_append xs ys) ∙ sym (law.plus_assoc (prod_k k x) (over_tuples k xs) (over_tuples k ys))

  over_front : (e : Entry A) (τs : List (List (Entry A))) → over_tuples k (in_front e τs) ≡ k.times e.val (over_tuples k τs)
  over_front e [] = sym (law.times_none e.val)
  over_front e (τ ∷ τs) =
      ap (k.plus (k.times e.val (prod_k k τ))) (over_front e τs) ∙ sym (law.times-plus e.val (prod_k k τ) (over_tuples k τs))

  over_take : (b : Bool) (e : Entry A) (τs : List (List (Entry A)))
      → over_tuples k (take_if b e τs) ≡ cond b (k.times e.val (over_tuples k τs)) k.none
  over_take true e τs = over_front e τs
  over_take false e τs = refl

  -- the sum over tuples from the last to the first, and so over the covers of R by scored rows
  abbrev backward : List (List (Entry A)) → A
  backward τs = over_tuples k (reverse τs)

  abbrev downward : ℕ → ℕ → List (Entry A) → A
  downward n R es = backward (covers_of n R (keep sc es))

  backward_take : (xs : List (List (Entry A))) (b : Bool) (e : Entry A) (ys : List (List (Entry A)))
      → backward (xs ++ take_if b e ys) ≡ k.plus (cond b (k.times e.val (backward ys)) k.none) (backward xs)
  backward_take xs b e ys =
      ap (over_tuples k) (reverse-take xs b e ys)
      ∙ over_append (take_if b e (reverse ys)) (reverse xs)
      ∙ ap (λ (x : A). k.plus x (backward xs)) (over_take b e (reverse ys))

  -- one row more: it leads R and what is left is covered by the rows behind it, or it plays no part
  downward_cons : (n R : ℕ) (e : Entry A) (es : List (Entry A)) → Descends (map cl (e ∷ es))
      → downward (suc n) R (e ∷ es)
      ≡ k.plus (cond (sc e && leads (cl e) R) (k.times e.val (downward n (R - cl e) es)) k.none) (downward (suc n) R es)
  downward_cons n R e es h = go (sc e) (descends_map-keep cl sc (e ∷ es) h)
    where
      go : (b : Bool) → Descends (map cl (keep_if b e (keep sc es)))
          → backward (covers_of (suc n) R (keep_if b e (keep sc es)))
          ≡ k.plus (cond (b && leads (cl e) R) (k.times e.val (downward n (R - cl e) es)) k.none) (downward (suc n) R es)
      go true f =
          ap backward (covers_of_lead n R e (keep sc es) f)
          ∙ backward_take (covers_of (suc n) R (keep sc es)) (leads (cl e) R) e (covers_of n (R - cl e) (keep sc es))
      go false f = sym (law.none-plus (downward (suc n) R es))

  -- no cover, one empty cover, and a row above R in front

  downward_none : (n R : ℕ) (es : List (Entry A)) → 0 < R → covers_of n R (keep sc es) ≡ cond (eqb 0 R) ([] ∷ []) []
      → downward n R es ≡ k.none
  downward_none n R es p e =
      ap backward e ∙ ap (λ (b : Bool). backward (cond b ([] ∷ []) [])) (T_false (eqb 0 R) (λ t. omega (arith, eqb→eq 0 R t)))

  downward_stop : (n : ℕ) (es : List (Entry A)) → Descends (map cl es) → downward n 0 es ≡ k.unit
  downward_stop n es h =
      ap backward (covers_of_stop n (keep sc es) (descends_map-keep cl sc es h))
      ∙ law.plus_none k.unit

  downward_first : (n R : ℕ) (e : Entry A) (es : List (Entry A)) → R < cl e → downward n R (e ∷ es) ≡ downward n R es
  downward_first n R e es h = go (sc e)
    where
      go : (b : Bool) → backward (covers_of n R (keep_if b e (keep sc es))) ≡ downward n R es
      go true = ap backward (covers_of-first n R e (keep sc es) h)
      go false = refl

  -- ---- scanning

  sum-joined : (b : Bool) (s x y z : A) → (T b → x ≡ y) → k.plus (cond b (k.plus s x) s) z ≡ k.plus s (k.plus (cond b y k.none) z)
  sum-joined true s x y z e = ap (λ (v : A). k.plus (k.plus s v) z) (e tt) ∙ law.plus_assoc s y z
  sum-joined false s x y z e = ap (k.plus s) (sym (law.none-plus z))

  -- what f adds for a row is its value times the sum over `all`, and below a row of es the rows es do as well as `all`
  record Inner (n R : ℕ) (f : Entry A → A) (all es : List (Entry A)) : Type 0 where
    adds : (e : Entry A) → Mem e es → T (leads (cl e) R) → f e ≡ k.times e.val (downward n (R - cl e) all)
    same : (e : Entry A) → Mem e es → (r : ℕ) → r < cl e → r < R → downward n r es ≡ downward n r all

  inner_rest : {n R : ℕ} {f : Entry A → A} {all : List (Entry A)} (e : Entry A) (es : List (Entry A)) → Descends (map cl (e ∷ es))
      → Inner n R f all (e ∷ es) → Inner n R f all es
  inner_rest {n} e es h i = record {
    adds = λ x m. i.adds x (there m);
    same = λ x m r l b. sym (downward_first n r e es (omega (arith, descends_first cl e es h x m))) ∙ i.same x (there m) r l b;
  }

  inner_first : {n R : ℕ} {f : Entry A → A} {all : List (Entry A)} (e : Entry A) (es : List (Entry A)) → Descends (map cl (e ∷ es))
      → Inner n R f all (e ∷ es) → T (sc e && leads (cl e) R) → f e ≡ k.times e.val (downward n (R - cl e) es)
  inner_first {n} {R} e es h i t =
      let q = T_and (sc e) (leads (cl e) R) t in
      let l = leads→ (cl e) R q.1 in
      let b : R - cl e < R = omega (arith, h.0.nonzero, le_of_inside (cl e) R l.0) in
      i.adds e (here refl) q.1
      ∙ ap (k.times e.val) (sym (i.same e (here refl) (R - cl e) l.1 b) ∙ downward_first n (R - cl e) e es l.1)

  scan_sum : (n R : ℕ) → 0 < R → (f : Entry A → A) (all es : List (Entry A)) → Descends (map cl es) → Inner n R f all es
      → (s : A) → scan k f R es s ≡ k.plus s (downward (suc n) R es)
  scan_sum n R p f all [] h i s =
      scan_ended k f R s ∙ sym (ap (k.plus s) (downward_none (suc n) R [] p (sym (chosen_is (suc n) R []))) ∙ law.plus_none s)
  scan_sum n R p f all (e ∷ es) h i s =
      scan_cons k f R e es s
      ∙ scan_sum n R p f all es h.1 (inner_rest e es h i) (cond (sc e && leads (cl e) R) (k.plus s (f e)) s)
      ∙ sum-joined (sc e && leads (cl e) R) s (f e) _ (downward (suc n) R es) (inner_first e es h i)
      ∙ ap (k.plus s) (sym (downward_cons n R e es h))

  -- ---- the search

  one-joined : (b : Bool) (v x z : A) → (T b → x ≡ k.none) → x ≡ z
      → cond b v x ≡ k.plus (cond b (k.times v (k.plus k.unit k.none)) k.none) z
  one-joined true v x z q e =
      sym (ap₂ k.plus (ap (k.times v) (law.plus_none k.unit) ∙ law.times-unit v) (sym e ∙ q tt) ∙ law.plus_none v)
  one-joined false v x z q e = e ∙ sym (law.none-plus z)

  lookup_sum : (R : ℕ) (es : List (Entry A)) → Descends (map cl es) → 0 < R → lookup k R es ≡ downward 1 R es
  lookup_sum R [] h p = lookup_missing k R [] (λ x m. absurd (mem-nil m)) ∙ sym (downward_none 1 R [] p (sym (chosen_is 1 R [])))
  lookup_sum R (e ∷ es) h p = lookup_cons k R e es ∙ go (sc e) (lookup_sum R es h.1 p)
    where
      gone : T (eqb (cl e) R) → lookup k R es ≡ k.none
      gone t = lookup_missing k R es (λ x m q. omega (arith, descends_first cl e es h x m, eqb→eq (cl e) R t))

      go : (b : Bool) → lookup k R es ≡ downward 1 R es
          → cond (b && eqb (cl e) R) e.val (lookup k R es) ≡ backward (covers_of 1 R (keep_if b e (keep sc es)))
      go true ih =
          one-joined (eqb (cl e) R) e.val (lookup k R es) (downward 1 R es) gone ih
          ∙ sym (ap backward (covers_of-one R e (keep sc es)) ∙ backward_take (covers_of 1 R (keep sc es)) (eqb (cl e) R) e ([] ∷ []))
      go false ih = ih

  gain_is : (n R : ℕ) (es : List (Entry A)) → Descends (map cl es) → ((r : ℕ) → 0 < r → search k n r es ≡ downward n r es)
      → (e : Entry A) → T (leads (cl e) R) → gain k n R es e ≡ k.times e.val (downward n (R - cl e) es)
  gain_is n R es h ih e t = go (R - cl e) refl
    where
      up_to : cl e ≤ R
      up_to = le_of_inside (cl e) R (leads→ (cl e) R t).0

      go : (x : ℕ) → R - cl e ≡ x → gain k n R es e ≡ k.times e.val (downward n (R - cl e) es)
      go zero q =
          gain_whole k n R es e (omega (arith, up_to))
          ∙ sym (rw q (ap (k.times e.val) (downward_stop n es h) ∙ law.times-unit e.val))
      go (suc x) q = gain_part k n R es e (omega arith) ∙ ap (k.times e.val) (ih (R - cl e) (omega arith))

  -- a scan, where the searches of what its rows leave are the sums over the covers
  scan_gain : (n R : ℕ) (es : List (Entry A)) → Descends (map cl es) → 0 < R → ((r : ℕ) → 0 < r → search k n r es ≡ downward n r es)
      → (s : A) → scan k (gain k n R es) R es s ≡ k.plus s (downward (suc n) R es)
  scan_gain n R es h p ih s =
      scan_sum n R p (gain k n R es) es es h (record { adds = λ x m t. gain_is n R es h ih x t; same = λ x m r l b. refl }) s

  pub search_in_order : (n R : ℕ) (es : List (Entry A)) → Descends (map cl es) → 0 < R
      → search k n R es ≡ over_tuples k (reverse (covers_of n R (keep sc es)))
  search_in_order zero R es h p = search_none k R es ∙ sym (downward_none 0 R es p (covers_of-zero_is R (keep sc es)))
  search_in_order (suc zero) R es h p = search_one k R es ∙ lookup_sum R es h p
  search_in_order (suc (suc n)) R es h p =
      search_suc k n R es
      ∙ scan_gain (suc n) R es h p (λ r q. search_in_order (suc n) r es h q) k.none
      ∙ law.none-plus (downward (suc (suc n)) R es)

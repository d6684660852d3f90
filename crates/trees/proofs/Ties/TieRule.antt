-- The tie rule is the order of the marks as numbers: the largest cluster that is in one of two sets only is the highest digit in which
-- their marks differ.
--     largest-le               no cluster of a list is larger than the largest
--     tie_is_marks             the tie rule on two sets that tests keep
--     tie_is_order             the same on sublists of the clusters
--     tie_irrefl, tie_trans, tie_total     a strict order; of two different sublists one comes first
-- Assumes nothing.
use mathlib.Core.Path.{◌≡◌, refl, sym, ap, ap₂, ◌∙◌, subst}
use mathlib.Core.Logic.{◌⊎◌, inl, inr, ◌≢◌}
use mathlib.Core.Bool.{Bool, true, false, not, cond}
use mathlib.Core.List.Memᴰ
use mathlib.Core.List.{List, [], ◌∷◌}
use mathlib.Core.List.Memᴰ.{head as here}
use mathlib.Core.List.Memᴰ.{not-nil as mem-nil}
use mathlib.Core.List.Memᴰ.{tail as there}
use mathlib.Core.List.{Memᴰ as Mem}
use Prim.Native.Nat.{ℕ, ◌+◌, ◌^◌, ◌≤◌, ◌<◌}
use native.Mathlib.Decide.{dec_le, dec_lt}
use native.Mathlib.Nat.{le_antisymm, le-max_left, le-max_right, max-le}
use native.Mathlib.Omega.{arith}
use lib.Dec.{T, T_not, not_T, ltb, ltb→lt, lt→ltb}
use lib.ListN.{length}
use Rattle.laws.specs.Lists.{keep, elem, sublists}
use Rattle.laws.specs.Orders.{Falling}
use Rattle.laws.proofs.Falling.{falling_once, sublist_is_elem}
use Rattle.laws.proofs.Keep.{mem-keep, mem_of_keep, elem→, →elem}
use Rattle.laws.proofs.Tests.{T-dec, T_true, T_false}
use Rattle.trees.specs.Heaviest.{in_one, largest, tie_first}
use Rattle.trees.specs.Result.{marks_in, marks_of}
use Rattle.trees.proofs.Sets.Families.{Fam}
use Rattle.trees.proofs.Ties.Marks.{marks-lt, marks_ext, marks_of_inj}

-- ---- the largest of some clusters

pub largest-le : (l : List ℕ) (x : ℕ) → Mem x l → x ≤ largest l
largest-le [] x x3 = elim x3 [ ]
largest-le (c ∷ cs) x (here e) = rw e (le-max_left c (largest cs))
largest-le (c ∷ cs) x (there m) = omega (arith, largest-le cs x m, le-max_right c (largest cs))

largest-within : (l : List ℕ) (n : ℕ) → ((x : ℕ) → Mem x l → x ≤ n) → largest l ≤ n
largest-within [] n f = omega arith
largest-within (c ∷ cs) n f = max-le (f c (here refl)) (largest-within cs n (λ x m. f x (there m)))

-- ---- where two families part

-- S has the largest cluster that is in one of the two only, and the larger marks
record Ahead (cs : List ℕ) (S U : Fam) : Type 0 where
  top : ℕ
  listed : Mem top cs
  has : T (S top)
  lacks : T (U top) → ⊥
  above : (x : ℕ) → Mem x cs → top < x → S x ≡ U x
  marks : marks_in cs U < marks_in cs S

data Parting (cs : List ℕ) (S U : Fam) : Type 0 where
  agree : ((x : ℕ) → Mem x cs → S x ≡ U x) → Parting cs S U
  first : Ahead cs S U → Parting cs S U
  second : Ahead cs U S → Parting cs S U

ahead_head : (c : ℕ) (cs : List ℕ) (S U : Fam) → Falling (c ∷ cs) → T (S c) → (T (U c) → ⊥) → Ahead (c ∷ cs) S U
ahead_head c cs S U f s u = record {
  top = c;
  listed = here refl;
  has = s;
  lacks = u;
  above = none;
  marks = rw (T_true (S c) s, T_false (U c) u) (omega (arith, marks-lt cs U));
}
  where
    none : (x : ℕ) → Mem x (c ∷ cs) → c < x → S x ≡ U x
    none x (here e) l = absurd (omega arith)
    none x (there m) l = absurd (omega (arith, f.0 x m))

same_more : (c : ℕ) (cs : List ℕ) (S U : Fam) → S c ≡ U c → (x : ℕ) → (Mem x cs → S x ≡ U x) → Mem x (c ∷ cs) → S x ≡ U x
same_more c cs S U e x g (here i) = ap S i ∙ e ∙ ap U (sym i)
same_more c cs S U e x g (there m) = g m

ahead_more : (c : ℕ) (cs : List ℕ) (S U : Fam) → S c ≡ U c → Ahead cs S U → Ahead (c ∷ cs) S U
ahead_more c cs S U e a = record {
  top = a.top;
  listed = there a.listed;
  has = a.has;
  lacks = a.lacks;
  above = λ x m l. same_more c cs S U e x (λ k. a.above x k l) m;
  marks = rw e (both (U c));
}
  where
    both : (b : Bool) → cond b (2 ^ length cs + marks_in cs U) (marks_in cs U) < cond b (2 ^ length cs + marks_in cs S) (marks_in cs S)
    both true = omega (arith, a.marks)
    both false = a.marks

parting : (cs : List ℕ) → Falling cs → (S U : Fam) → Parting cs S U
parting [] f S U = agree (λ x m. absurd (mem-nil m))
parting (c ∷ cs) f S U = go (T-dec (S c)) (T-dec (U c)) (parting cs f.1 S U)
  where
    more : S c ≡ U c → Parting cs S U → Parting (c ∷ cs) S U
    more e (agree g) = agree (λ x m. same_more c cs S U e x (g x) m)
    more e (first a) = first (ahead_more c cs S U e a)
    more e (second a) = second (ahead_more c cs U S (sym e) a)

    go : T (S c) ⊎ (T (S c) → ⊥) → T (U c) ⊎ (T (U c) → ⊥) → Parting cs S U → Parting (c ∷ cs) S U
    go (inl s) (inl u) p = more (T_true (S c) s ∙ sym (T_true (U c) u)) p
    go (inl s) (inr u) p = first (ahead_head c cs S U f s u)
    go (inr s) (inl u) p = second (ahead_head c cs U S f u s)
    go (inr s) (inr u) p = more (T_false (S c) s ∙ sym (T_false (U c) u)) p

-- ---- the clusters in one of two sets only

one_side : (cs : List ℕ) (S U : Fam) (x : ℕ) → Mem x (keep (λ (c : ℕ). not (elem c (keep U cs))) (keep S cs)) → Mem x cs × (S x ≢ U x)
one_side cs S U x m =
    let q = mem_of_keep (λ (c : ℕ). not (elem c (keep U cs))) (keep S cs) m in
    let r = mem_of_keep S cs q.0 in
    (r.0, λ e. T_not (elem x (keep U cs)) q.1 (→elem x (keep U cs) (mem-keep U cs r.0 (subst T e r.1))))

side_one : (cs : List ℕ) (S U : Fam) (x : ℕ) → Mem x cs → T (S x) → (T (U x) → ⊥)
    → Mem x (keep (λ (c : ℕ). not (elem c (keep U cs))) (keep S cs))
side_one cs S U x m s u =
    mem-keep (λ (c : ℕ). not (elem c (keep U cs))) (keep S cs) (mem-keep S cs m s)
    (not_T (elem x (keep U cs)) (λ h. u (mem_of_keep U cs (elem→ x (keep U cs) h)).1))

in_one_lem : (cs : List ℕ) (S U : Fam) (x : ℕ) → Mem x (in_one (keep S cs) (keep U cs)) → Mem x cs × (S x ≢ U x)
in_one_lem cs S U x m = go (Memᴰ.append_cases (keep (λ (c : ℕ). not (elem c (keep U cs))) (keep S cs)) m)
  where
    go : Mem x (keep (λ (c : ℕ). not (elem c (keep U cs))) (keep S cs)) ⊎ Mem x (keep (λ (c : ℕ). not (elem c (keep S cs))) (keep U cs))
        → Mem x cs × (S x ≢ U x)
    go (inl k) = one_side cs S U x k
    go (inr k) = let q = one_side cs U S x k in (q.0, λ e. q.1 (sym e))

-- past c the two agree, and c is in one only
largest-in_one : (cs : List ℕ) (S U : Fam) (c : ℕ) → Mem c (in_one (keep S cs) (keep U cs)) → ((x : ℕ) → Mem x cs → c < x → S x ≡ U x)
    → largest (in_one (keep S cs) (keep U cs)) ≡ c
largest-in_one cs S U c m f = le_antisymm (largest-within l c (λ x k. go x (in_one_lem cs S U x k) (dec_le x c))) (largest-le l c m)
  where
    l : List ℕ
    l = in_one (keep S cs) (keep U cs)

    go : (x : ℕ) → Mem x cs × (S x ≢ U x) → Dec (x ≤ c) → x ≤ c
    go x q (yes l) = l
    go x q (no n) = absurd (q.1 (f x q.0 (omega arith)))

-- ---- the tie rule

module _ (cs : List ℕ) (falling : Falling cs) (nonzero : (c : ℕ) → Mem c cs → c ≢ 0) where
  tie_first_lem : (S U : Fam) → Ahead cs S U → T (tie_first (keep S cs) (keep U cs))
  tie_first_lem S U a =
      let m = side_one cs S U a.top a.listed a.has a.lacks in
      rw (largest-in_one cs S U a.top (Memᴰ.append_left (keep (λ (c : ℕ). not (elem c (keep S cs))) (keep U cs)) m) a.above)
      (→elem a.top (keep S cs) (mem-keep S cs a.listed a.has))

  tie_second : (S U : Fam) → Ahead cs U S → T (tie_first (keep S cs) (keep U cs)) → ⊥
  tie_second S U a h =
      let m = side_one cs U S a.top a.listed a.has a.lacks in
      let k = Memᴰ.append_right (keep (λ (c : ℕ). not (elem c (keep U cs))) (keep S cs)) m in
      let e = largest-in_one cs S U a.top k (λ x j l. sym (a.above x j l)) in
      a.lacks (mem_of_keep S cs (elem→ a.top (keep S cs) (subst (λ (c : ℕ). T (elem c (keep S cs))) e h))).1

  tie_agree : (S U : Fam) → ((x : ℕ) → Mem x cs → S x ≡ U x) → T (tie_first (keep S cs) (keep U cs)) → ⊥
  tie_agree S U g h = nonzero big (mem_of_keep S cs (elem→ big (keep S cs) h)).0 (omega (arith, low))
    where
      big : ℕ
      big = largest (in_one (keep S cs) (keep U cs))

      low : big ≤ 0
      low = largest-within (in_one (keep S cs) (keep U cs)) 0 (λ x m. let q = in_one_lem cs S U x m in absurd (q.1 (g x q.0)))

  pub tie_is_marks : (S U : Fam) → tie_first (keep S cs) (keep U cs) ≡ ltb (marks_in cs U) (marks_in cs S)
  tie_is_marks S U = go (parting cs falling S U)
    where
      no_less : marks_in cs S ≤ marks_in cs U → T (ltb (marks_in cs U) (marks_in cs S)) → ⊥
      no_less l h = omega (arith, ltb→lt (marks_in cs U) (marks_in cs S) h)

      go : Parting cs S U → tie_first (keep S cs) (keep U cs) ≡ ltb (marks_in cs U) (marks_in cs S)
      go (agree g) = T_false _ (tie_agree S U g) ∙ sym (T_false _ (no_less (omega (arith, marks_ext cs S U g))))
      go (first a) = T_true _ (tie_first_lem S U a) ∙ sym (T_true _ (lt→ltb (marks_in cs U) (marks_in cs S) a.marks))
      go (second a) = T_false _ (tie_second S U a) ∙ sym (T_false _ (no_less (omega (arith, a.marks))))

  -- ---- on sublists

  pub tie_is_order : (xs ys : List ℕ) → Mem xs (sublists cs) → Mem ys (sublists cs) → tie_first xs ys ≡ ltb (marks_of cs ys) (marks_of cs xs)
  tie_is_order xs ys m k =
      let o = falling_once cs falling in
      ap₂ tie_first (sublist_is_elem cs xs o m) (sublist_is_elem cs ys o k) ∙ tie_is_marks (λ (c : ℕ). elem c xs) (λ (c : ℕ). elem c ys)

  tie→ : (xs ys : List ℕ) → Mem xs (sublists cs) → Mem ys (sublists cs) → T (tie_first xs ys) → marks_of cs ys < marks_of cs xs
  tie→ xs ys m k h = ltb→lt (marks_of cs ys) (marks_of cs xs) (subst T (tie_is_order xs ys m k) h)

  →tie : (xs ys : List ℕ) → Mem xs (sublists cs) → Mem ys (sublists cs) → marks_of cs ys < marks_of cs xs → T (tie_first xs ys)
  →tie xs ys m k l = subst T (sym (tie_is_order xs ys m k)) (lt→ltb (marks_of cs ys) (marks_of cs xs) l)

  pub tie_irrefl : (xs : List ℕ) → Mem xs (sublists cs) → T (tie_first xs xs) → ⊥
  tie_irrefl xs m h = omega (arith, tie→ xs xs m m h)

  pub tie_trans : (xs ys zs : List ℕ) → Mem xs (sublists cs) → Mem ys (sublists cs) → Mem zs (sublists cs)
      → T (tie_first xs ys) → T (tie_first ys zs) → T (tie_first xs zs)
  tie_trans xs ys zs m k j h i = →tie xs zs m j (omega (arith, tie→ xs ys m k h, tie→ ys zs k j i))

  pub tie_total : (xs ys : List ℕ) → Mem xs (sublists cs) → Mem ys (sublists cs) → xs ≢ ys → T (tie_first xs ys) ⊎ T (tie_first ys xs)
  tie_total xs ys m k n = go (dec_lt (marks_of cs ys) (marks_of cs xs)) (dec_lt (marks_of cs xs) (marks_of cs ys))
    where
      go : Dec (marks_of cs ys < marks_of cs xs) → Dec (marks_of cs xs < marks_of cs ys) → T (tie_first xs ys) ⊎ T (tie_first ys xs)
      go (yes l) d = inl (→tie xs ys m k l)
      go (no f) (yes l) = inr (→tie ys xs k m l)
      go (no f) (no g) = absurd (n (marks_of_inj cs xs ys (falling_once cs falling) m k (omega arith)))

-- A set of clusters as one number, and its weight: `marks_in` and `weight_in` over a test of clusters.
--     marks-lt, marks_ext, marks-none, marks_join     a bound, equal tests, no member, two families without a common member
--     mark_in cs c                     the mark of one cluster among those of a table
--     marks-one, marks-one-mem        the mark of one cluster is the power of two of its place
--     marks_inj                       equal marks have equal members
--     no_carry                        the low digits of two families without a common member add up without a carry
--     marks-keep, marks_of_inj         the marks of a list that a test keeps; sublists with equal marks are equal
--     weight_ext, weight-none, weight_join, weight-one, weight-keep     the same of weights
-- Assumes nothing.
use mathlib.Core.Path.{◌≡◌, refl, sym, ap, ap₂, ◌∙◌, subst₂}
use mathlib.Core.Bool.{Bool, true, false, cond, ◌||◌}
use mathlib.Core.List.Memᴰ
use mathlib.Core.List.{List, [], ◌∷◌, ◌++◌}
use mathlib.Core.List.Memᴰ.{head as here}
use mathlib.Core.List.Memᴰ.{tail as there}
use mathlib.Core.List.{Memᴰ as Mem}
use Prim.Native.Nat.{ℕ, suc, ◌+◌, ◌-◌, ◌*◌, ◌%◌, ◌^◌, ◌≤◌, ◌<◌}
use native.Mathlib.Decide.{dec_le}
use native.Mathlib.Nat.{add-mul-mod_self_left, mod-le, zero-mod}
use native.Mathlib.Omega.{arith}
use lib.Dec.{T, eqb, eqb→eq, eqb_refl}
use lib.IntN.{ℤ, pos, ◌+ℤ◌, +ℤ_assoc, +ℤ_idr}
use lib.ListN.{length}
use lib.Pow.{pow_pos, pow_mono, pow-add}
use Rattle.laws.specs.Lists.{keep, elem, sublists, Once}
use Rattle.laws.specs.Orders.{Falling}
use Rattle.laws.specs.Row.{Row}
use Rattle.laws.proofs.Falling.{elem-keep, sublist_is_elem}
use Rattle.laws.proofs.Integers.{add_swap}
use Rattle.laws.proofs.Keep.{keep_ext}
use Rattle.laws.proofs.Tests.{T_true, T_false, eq→eqb}
use Rattle.trees.specs.Rows.{clusters_of}
use Rattle.trees.specs.Heaviest.{weight_in, weight_of}
use Rattle.trees.specs.Result.{marks_in, marks_of}
use Rattle.trees.proofs.Sets.Families.{Fam, join, one, Disj}

abbrev pub mark_in : List ℕ → ℕ → ℕ
mark_in cs c = marks_in cs (one c)

pub marks-lt : (cs : List ℕ) (p : Fam) → marks_in cs p < 2 ^ length cs
marks-lt [] p = omega arith
marks-lt (c ∷ cs) p = go (p c) (marks-lt cs p)
  where
    go : (b : Bool) → marks_in cs p < 2 ^ length cs → cond b (2 ^ length cs + marks_in cs p) (marks_in cs p) < 2 ^ suc (length cs)
    go true h = omega arith
    go false h = omega arith

pub marks_ext : (cs : List ℕ) (p q : Fam) → ((c : ℕ) → Mem c cs → p c ≡ q c) → marks_in cs p ≡ marks_in cs q
marks_ext [] p q f = refl
marks_ext (c ∷ cs) p q f =
    ap₂ (λ (b : Bool) (n : ℕ). cond b (2 ^ length cs + n) n) (f c (here refl)) (marks_ext cs p q (λ x m. f x (there m)))

pub marks-none : (cs : List ℕ) (p : Fam) → ((c : ℕ) → Mem c cs → T (p c) → ⊥) → marks_in cs p ≡ 0
marks-none [] p f = refl
marks-none (c ∷ cs) p f = rw (T_false (p c) (f c (here refl))) (marks-none cs p (λ x m. f x (there m)))

pub marks_join : (cs : List ℕ) (p q : Fam) → Disj p q → marks_in cs (join p q) ≡ marks_in cs p + marks_in cs q
marks_join [] p q d = refl
marks_join (c ∷ cs) p q d = go (p c) (q c) (d c) (marks_join cs p q d)
  where
    go : (a b : Bool) → (T a → T b → ⊥) → marks_in cs (join p q) ≡ marks_in cs p + marks_in cs q
        → cond (a || b) (2 ^ length cs + marks_in cs (join p q)) (marks_in cs (join p q))
        ≡ cond a (2 ^ length cs + marks_in cs p) (marks_in cs p) + cond b (2 ^ length cs + marks_in cs q) (marks_in cs q)
    go true true n e = absurd (n tt tt)
    go true false n e = omega arith
    go false true n e = omega arith
    go false false n e = e

-- c stands before ys, the clusters smaller than it
pub marks-one : (xs : List ℕ) (c : ℕ) (ys : List ℕ) → Falling (xs ++ (c ∷ ys)) → marks_in (xs ++ (c ∷ ys)) (one c) ≡ 2 ^ length ys
marks-one [] c ys f =
    rw (T_true (eqb c c) (eqb_refl c)) (omega (arith, marks-none ys (one c) (λ x m t. omega (arith, f.0 x m, eqb→eq x c t))))
marks-one (x ∷ xs) c ys f = rw (T_false (eqb x c) other) (marks-one xs c ys f.1)
  where
    other : T (eqb x c) → ⊥
    other t = omega (arith, f.0 c (Memᴰ.append_right xs (here refl)), eqb→eq x c t)

pub marks-one-mem : (cs : List ℕ) (c : ℕ) → Falling cs → Mem c cs → (k : ℕ) × (k < length cs) × (marks_in cs (one c) ≡ 2 ^ k)
marks-one-mem [] c f x'' = elim x'' [ ]
marks-one-mem (x ∷ cs) c f (here e) =
    (length cs, omega arith, rw e (marks-one [] x cs f))
marks-one-mem (x ∷ cs) c f (there m) =
    let q = marks-one-mem cs c f.1 m in
    (q.0, omega (arith, q.1), rw (T_false (eqb x c) (λ t. omega (arith, f.0 c m, eqb→eq x c t))) q.2)

pub marks_inj : (cs : List ℕ) (p q : Fam) → marks_in cs p ≡ marks_in cs q → (c : ℕ) → Mem c cs → p c ≡ q c
marks_inj [] p q e c m = elim m [ ]
marks_inj (x ∷ cs) p q e c m = go (step (p x) (q x) e) m (λ h k. marks_inj cs p q h c k)
  where
    step : (a b : Bool) → cond a (2 ^ length cs + marks_in cs p) (marks_in cs p) ≡ cond b (2 ^ length cs + marks_in cs q) (marks_in cs q)
        → (a ≡ b) × (marks_in cs p ≡ marks_in cs q)
    step true true e = (refl, omega arith)
    step true false e = absurd (omega (arith, marks-lt cs q))
    step false true e = absurd (omega (arith, marks-lt cs p))
    step false false e = (refl, e)

    go : (p x ≡ q x) × (marks_in cs p ≡ marks_in cs q) → Mem c (x ∷ cs) → (marks_in cs p ≡ marks_in cs q → Mem c cs → p c ≡ q c) → p c ≡ q c
    go h (here i) rest = ap p i ∙ h.0 ∙ ap q (sym i)
    go h (there k) rest = rest h.1 k

-- ---- the low k digits

-- a power of two past the k-th leaves the low digits as they are
low-pow : (k j n : ℕ) → k ≤ j → (2 ^ j + n) % 2 ^ k ≡ n % 2 ^ k
low-pow k j n h =
    let e : 2 ^ j ≡ 2 ^ k * 2 ^ (j - k) = ap (λ (i : ℕ). 2 ^ i) (let q : j ≡ k + (j - k) = omega arith in q) ∙ pow-add 2 k (j - k) in
    ap (λ (i : ℕ). i % 2 ^ k) (omega (arith, e)) ∙ add-mul-mod_self_left n (2 ^ k) (2 ^ (j - k))

pub no_carry : (k : ℕ) (cs : List ℕ) (p q : Fam) → Disj p q → marks_in cs p % 2 ^ k + marks_in cs q % 2 ^ k < 2 ^ k
no_carry k [] p q d = omega (arith, zero-mod (2 ^ k), pow_pos k)
no_carry k (c ∷ cs) p q d = go (dec_le k (length cs)) (no_carry k cs p q d)
  where
    pass : (b : Bool) (n : ℕ) → k ≤ length cs → cond b (2 ^ length cs + n) n % 2 ^ k ≡ n % 2 ^ k
    pass true n h = low-pow k (length cs) n h
    pass false n h = refl

    m : ℕ
    m = marks_in (c ∷ cs) p

    n : ℕ
    n = marks_in (c ∷ cs) q

    go : Dec (k ≤ length cs) → marks_in cs p % 2 ^ k + marks_in cs q % 2 ^ k < 2 ^ k → m % 2 ^ k + n % 2 ^ k < 2 ^ k
    go (yes h) ih =
        subst₂ (λ (a b : ℕ). a + b < 2 ^ k) (sym (pass (p c) (marks_in cs p) h)) (sym (pass (q c) (marks_in cs q) h)) ih
    go (no f) ih =
        let up : 2 ^ suc (length cs) ≤ 2 ^ k = pow_mono (omega arith) in
        omega (arith, marks_join (c ∷ cs) p q d, marks-lt (c ∷ cs) (join p q), mod-le m (2 ^ k), mod-le n (2 ^ k))

-- ---- sets as lists

pub marks-keep : (cs L : List ℕ) (p : Fam) → ((c : ℕ) → T (p c) → Mem c L) → marks_of cs (keep p L) ≡ marks_in cs p
marks-keep cs L p f = marks_ext cs (λ (c : ℕ). elem c (keep p L)) p (λ c _. elem-keep p L c (f c))

pub marks_of_inj : (cs xs ys : List ℕ) → Once cs → Mem xs (sublists cs) → Mem ys (sublists cs) → marks_of cs xs ≡ marks_of cs ys → xs ≡ ys
marks_of_inj cs xs ys o m k e =
    sublist_is_elem cs xs o m
    ∙ keep_ext (λ (c : ℕ). elem c xs) (λ (c : ℕ). elem c ys) cs (marks_inj cs (λ (c : ℕ). elem c xs) (λ (c : ℕ). elem c ys) e)
    ∙ sym (sublist_is_elem cs ys o k)

-- ---- weights

pub weight_ext : (rs : List Row) (p q : Fam) → ((r : Row) → Mem r rs → p r.cluster ≡ q r.cluster) → weight_in rs p ≡ weight_in rs q
weight_ext [] p q f = refl
weight_ext (r ∷ rs) p q f =
    ap₂ (λ (b : Bool) (z : ℤ). cond b (r.weight +ℤ z) z) (f r (here refl)) (weight_ext rs p q (λ x m. f x (there m)))

pub weight-none : (rs : List Row) (p : Fam) → ((r : Row) → Mem r rs → T (p r.cluster) → ⊥) → weight_in rs p ≡ pos 0
weight-none [] p f = refl
weight-none (r ∷ rs) p f = rw (T_false (p r.cluster) (f r (here refl))) (weight-none rs p (λ x m. f x (there m)))

pub weight_join : (rs : List Row) (p q : Fam) → Disj p q → weight_in rs (join p q) ≡ weight_in rs p +ℤ weight_in rs q
weight_join [] p q d = refl
weight_join (r ∷ rs) p q d = go (p r.cluster) (q r.cluster) (d r.cluster) (weight_join rs p q d)
  where
    go : (a b : Bool) → (T a → T b → ⊥) → weight_in rs (join p q) ≡ weight_in rs p +ℤ weight_in rs q
        → cond (a || b) (r.weight +ℤ weight_in rs (join p q)) (weight_in rs (join p q))
        ≡ cond a (r.weight +ℤ weight_in rs p) (weight_in rs p) +ℤ cond b (r.weight +ℤ weight_in rs q) (weight_in rs q)
    go true true n e = absurd (n tt tt)
    go true false n e = ap (λ (z : ℤ). r.weight +ℤ z) e ∙ sym (+ℤ_assoc r.weight (weight_in rs p) (weight_in rs q))
    go false true n e = ap (λ (z : ℤ). r.weight +ℤ z) e ∙ add_swap r.weight (weight_in rs p) (weight_in rs q)
    go false false n e = e

pub weight-one : (rs : List Row) → Falling (clusters_of rs) → (r : Row) → Mem r rs → weight_in rs (one r.cluster) ≡ r.weight
weight-one [] f r x'' = elim x'' [ ]
weight-one (x ∷ rs) f r (here e) =
    let own = eq→eqb x.cluster r.cluster (ap (λ (z : Row). z.cluster) (sym e)) in
    rw (T_true (eqb x.cluster r.cluster) own, weight-none rs (one r.cluster) below, +ℤ_idr) (ap (λ (z : Row). z.weight) (sym e))
  where
    below : (s : Row) → Mem s rs → T (eqb s.cluster r.cluster) → ⊥
    below s m t =
        let h = f.0 s.cluster (Memᴰ.map (λ (z : Row). z.cluster) m) in
        omega (arith, eqb→eq s.cluster r.cluster t, ap (λ (z : Row). z.cluster) e)
weight-one (x ∷ rs) f r (there m) = rw (T_false (eqb x.cluster r.cluster) other) (weight-one rs f.1 r m)
  where
    other : T (eqb x.cluster r.cluster) → ⊥
    other t = omega (arith, f.0 r.cluster (Memᴰ.map (λ (z : Row). z.cluster) m), eqb→eq x.cluster r.cluster t)

pub weight-keep : (rs : List Row) (L : List ℕ) (p : Fam) → ((c : ℕ) → T (p c) → Mem c L) → weight_of rs (keep p L) ≡ weight_in rs p
weight-keep rs L p f = weight_ext rs (λ (c : ℕ). elem c (keep p L)) p (λ r _. elem-keep p L r.cluster (f r.cluster))

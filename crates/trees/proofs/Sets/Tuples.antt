-- What it says to be a tuple, as facts, and what follows at once.
--     TupleFacts, tuple→, →tuple     the test as a record, out of it and into it
--     apart-first, apart_rest        the first of clusters that are pairwise apart, and the others
--     apart_of_tuple                 two parts of a tuple are one part, or apart
--     apart-all                      pairwise apart, from a list that doesn't repeat
--     part_inside, part_other        a part lies inside the whole, and isn't the whole
--     tuple_mem, part_mem            a tuple of entries is a sublist of them that passes the test, and its parts are among them
--     scored_part                    so a part of a tuple of scored rows is a scored row
--     tuples-once                    no tuple of entries is listed twice
-- Assumes nothing.
use mathlib.Core.Path.{◌≡◌, refl, sym, subst}
use mathlib.Core.Logic.{◌⊎◌, inl, inr, ◌≢◌}
use mathlib.Core.Bool.{◌&&◌}
use mathlib.Core.List.Memᴰ
use mathlib.Core.List.{List, [], ◌∷◌, map}
use mathlib.Core.List.Memᴰ.{head as here}
use mathlib.Core.List.Memᴰ.{not-nil as mem-nil}
use mathlib.Core.List.Memᴰ.{tail as there}
use mathlib.Core.List.{Memᴰ as Mem}
use Prim.Native.Nat.{ℕ, ◌-◌, ◌≤◌}
use native.Mathlib.Omega.{arith}
use lib.Dec.{T, eqb, leb, eqb→eq, leb→le, le→leb}
use lib.ListN.{length}
use Rattle.laws.specs.Cluster.{inside, apart, union_of}
use Rattle.laws.specs.Lists.{keep, every, sublists, Once}
use Rattle.laws.proofs.Tests.{T_and, and_T, eq→eqb}
use Rattle.laws.proofs.Keep.{mem_of_keep, every→, →every}
use Rattle.laws.proofs.Once.{once-keep}
use Rattle.laws.proofs.Sublists.{mem_of_sublist, sublists-once}
use Rattle.laws.proofs.Cluster.{inside_refl, apart_sym, apart_of_inside, zero_of_apart, inside-union_of}
use Rattle.trees.specs.Rows.{Entry, cl, sc}
use Rattle.trees.specs.Tuple.{all_apart, is_tuple, tuples}

pub record TupleFacts (d C : ℕ) (cs : List ℕ) : Type 0 where
  pub two : 2 ≤ length cs
  pub few : length cs ≤ d - 1
  pub union : union_of cs ≡ C
  pub apart : T (all_apart cs)

pub tuple→ : (d C : ℕ) (cs : List ℕ) → T (is_tuple d C cs) → TupleFacts d C cs
tuple→ d C cs h =
    let a = T_and (leb 2 (length cs) && leb (length cs) (d - 1) && eqb (union_of cs) C) (all_apart cs) h in
    let b = T_and (leb 2 (length cs) && leb (length cs) (d - 1)) (eqb (union_of cs) C) a.0 in
    let c = T_and (leb 2 (length cs)) (leb (length cs) (d - 1)) b.0 in
    record {
      two = leb→le 2 (length cs) c.0;
      few = leb→le (length cs) (d - 1) c.1;
      union = eqb→eq (union_of cs) C b.1;
      apart = a.1;
    }

pub →tuple : (d C : ℕ) (cs : List ℕ) → TupleFacts d C cs → T (is_tuple d C cs)
→tuple d C cs f =
    and_T (leb 2 (length cs) && leb (length cs) (d - 1) && eqb (union_of cs) C) (all_apart cs)
    (and_T (leb 2 (length cs) && leb (length cs) (d - 1)) (eqb (union_of cs) C)
    (and_T (leb 2 (length cs)) (leb (length cs) (d - 1)) (le→leb 2 (length cs) f.two) (le→leb (length cs) (d - 1) f.few))
    (eq→eqb (union_of cs) C f.union))
    f.apart

-- ---- pairwise apart

pub apart-first : (c : ℕ) (cs : List ℕ) → T (all_apart (c ∷ cs)) → (x : ℕ) → Mem x cs → T (apart c x)
apart-first c cs h x m = every→ (λ (y : ℕ). apart c y) cs (T_and (every (λ (y : ℕ). apart c y) cs) (all_apart cs) h).0 x m

pub apart_rest : (c : ℕ) (cs : List ℕ) → T (all_apart (c ∷ cs)) → T (all_apart cs)
apart_rest c cs h = (T_and (every (λ (y : ℕ). apart c y) cs) (all_apart cs) h).1

pub apart_of_tuple : (cs : List ℕ) → T (all_apart cs) → (a b : ℕ) → Mem a cs → Mem b cs → (a ≡ b) ⊎ T (apart a b)
apart_of_tuple [] h a b x3 _ = elim x3 [ ]
apart_of_tuple (c ∷ cs) h a b (here p) (here q) = inl (cc)
apart_of_tuple (c ∷ cs) h a b (here p) (there k) = inr (rw p (apart-first c cs h b k))
apart_of_tuple (c ∷ cs) h a b (there m) (here q) = inr (rw q (apart_sym c a (apart-first c cs h a m)))
apart_of_tuple (c ∷ cs) h a b (there m) (there k) = apart_of_tuple cs (apart_rest c cs h) a b m k

pub apart-all : (cs : List ℕ) → Once cs → ((a b : ℕ) → Mem a cs → Mem b cs → a ≢ b → T (apart a b)) → T (all_apart cs)
apart-all [] o f = tt
apart-all (c ∷ cs) o f =
    and_T (every (λ (x : ℕ). apart c x) cs) (all_apart cs)
    (→every (λ (x : ℕ). apart c x) cs (λ x m. f c x (here refl) (there m) (λ e. o.0 (Memᴰ.cast e m))))
    (apart-all cs o.1 (λ a b m k. f a b (there m) (there k)))

-- ---- a part of a tuple

pub part_inside : (d C : ℕ) (cs : List ℕ) → T (is_tuple d C cs) → (c : ℕ) → Mem c cs → T (inside c C)
part_inside d C cs h c m = subst (λ (x : ℕ). T (inside c x)) (tuple→ d C cs h).union (inside-union_of cs c m)

-- another part is apart from c and inside C, and it isn't empty: so c isn't C
pub part_other : (d C : ℕ) (cs : List ℕ) → ((c : ℕ) → Mem c cs → c ≢ 0) → T (is_tuple d C cs) → (c : ℕ) → Mem c cs → c ≢ C
part_other d C [] nz h c m e = mem-nil m
part_other d C (x ∷ []) nz h c m e = omega (arith, (tuple→ d C (x ∷ []) h).two)
part_other d C (x ∷ y ∷ ys) nz h c m e = go m
  where
    cs : List ℕ
    cs = x ∷ y ∷ ys

    all : T (all_apart cs)
    all = (tuple→ d C cs h).apart

    -- a part z that is apart from c lies inside C, which is c
    none : (z : ℕ) → Mem z cs → T (apart c z) → ⊥
    none z k a =
        let i : T (inside z c) = subst (λ (v : ℕ). T (inside z v)) (sym e) (part_inside d C cs h z k) in
        nz z k (zero_of_apart z (apart_of_inside c z z z a i (inside_refl z)))

    go : Mem c cs → ⊥
    go (here p) = none y (there (here refl)) (rw p (apart-first x (y ∷ ys) all y (here refl)))
    go (there k) = none x (here refl) (apart_sym x c (apart-first x (y ∷ ys) all c k))

-- ---- tuples of entries

module _ {A : Type 0} (d C : ℕ) where
  pub tuple_mem : (es τ : List (Entry A)) → Mem τ (tuples d C es) → Mem τ (sublists es) × T (is_tuple d C (map cl τ))
  tuple_mem es τ m = mem_of_keep (λ (σ : List (Entry A)). is_tuple d C (map cl σ)) (sublists es) m

  pub part_mem : (es τ : List (Entry A)) → Mem τ (tuples d C es) → (e : Entry A) → Mem e τ → Mem e es
  part_mem es τ m = mem_of_sublist es τ (tuple_mem es τ m).0

  pub scored_part : (t τ : List (Entry A)) → Mem τ (tuples d C (keep sc t)) → (e : Entry A) → Mem e τ → Mem e t × T (sc e)
  scored_part t τ m e k = mem_of_keep sc t (part_mem (keep sc t) τ m e k)

  pub tuples-once : (es : List (Entry A)) → Once es → Once (tuples d C es)
  tuples-once es o = once-keep (λ (τ : List (Entry A)). is_tuple d C (map cl τ)) (sublists es) (sublists-once es o)

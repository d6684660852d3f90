-- Sets of clusters as tests: in the proofs about trees a family is a function to Bool, so that equal sets are equal functions.
--     Fam, fam_ext                     families, and that their members decide them
--     empty, one, join                 no member, one member, the members of two
--     restrict, outside, except        the members inside a cluster, the others, and those that are another cluster
--     except→, →except                 the last, out of the test and into it
--     join_only_l, join_only_r         of two families one passes a test, the other doesn't: what the test leaves is the one
--     restrict_join_r, restrict_outside      what lies elsewhere plays no part
--     join_parts                       the members inside a cluster, with the others
--     join_one, join_one_inj           a family is a member with the others; joined with one member, families are as different as before
--     cross, mem_cross, mem_of_cross, length_cross     the joins of each pair out of two lists
--     Disj                             no member in common
-- Assumes nothing.
use mathlib.Core.Path.{◌≡◌, refl, sym, ap, ap₂, ◌∙◌, fun_ext}
use mathlib.Core.Logic.{◌≢◌}
use mathlib.Core.Bool.{Bool, true, false, not, ◌&&◌, ◌||◌}
use mathlib.Core.List.Memᴰ
use mathlib.Core.List.{List, [], ◌∷◌, map}
use mathlib.Core.List.{Memᴰ as Mem}
use Prim.Native.Nat.{ℕ, ◌+◌, ◌*◌}
use native.Mathlib.Nat.{zero-mul}
use native.Mathlib.Omega.{arith}
use lib.Dec.{T, eqb, eqb→eq, T_not}
use lib.ListN.{length, length-append, length-map}
use Rattle.laws.specs.Cluster.{inside}
use Rattle.laws.specs.Lists.{bind}
use Rattle.laws.proofs.Tests.{T_and, and_T, bool_ext, or_split, neq→, →neq}
use Rattle.laws.proofs.Keep.{mem-bind, mem_of_bind}

abbrev pub Fam : Type 0
Fam = ℕ → Bool

pub fam_ext : (S U : Fam) → ((c : ℕ) → T (S c) → T (U c)) → ((c : ℕ) → T (U c) → T (S c)) → S ≡ U
fam_ext S U f g = fun_ext (λ c. bool_ext (S c) (U c) (f c) (g c))

abbrev pub join : Fam → Fam → Fam
join S U = λ c. S c || U c

abbrev pub empty : Fam
empty = λ c. false

abbrev pub one : ℕ → Fam
one C = λ c. eqb c C

abbrev pub restrict : Fam → ℕ → Fam
restrict U X = λ c. U c && inside c X

abbrev pub outside : Fam → ℕ → Fam
outside U X = λ c. U c && not (inside c X)

abbrev pub except : Fam → ℕ → Fam
except U C = λ c. U c && not (eqb c C)

pub except→ : (U : Fam) (C c : ℕ) → T (except U C c) → T (U c) × (c ≢ C)
except→ U C c h = let q = T_and (U c) (not (eqb c C)) h in (q.0, neq→ c C q.1)

pub →except : (U : Fam) (C c : ℕ) → T (U c) → c ≢ C → T (except U C c)
→except U C c u n = and_T (U c) (not (eqb c C)) u (→neq c C n)

abbrev pub cross : List Fam → List Fam → List Fam
cross xs ys = bind (λ (x : Fam). map (λ (y : Fam). join x y) ys) xs

-- no member in common
abbrev pub Disj : Fam → Fam → Type 0
Disj S U = (c : ℕ) → T (S c) → T (U c) → ⊥

-- ---- what a test leaves of two families joined

only_l : (s u p : Bool) → (T s → T p) → (T u → T p → ⊥) → ((s || u) && p) ≡ s
only_l true u true f g = refl
only_l true u false f g = absurd (f tt)
only_l false true true f g = absurd (g tt tt)
only_l false true false f g = refl
only_l false false p f g = refl

only_r : (s u p : Bool) → (T s → T p → ⊥) → (T u → T p) → ((s || u) && p) ≡ u
only_r true u true f g = absurd (f tt tt)
only_r true true false f g = absurd (g tt)
only_r true false false f g = refl
only_r false true true f g = refl
only_r false true false f g = absurd (g tt)
only_r false false p f g = refl

pub join_only_l : (p S U : Fam) → ((c : ℕ) → T (S c) → T (p c)) → ((c : ℕ) → T (U c) → T (p c) → ⊥) → (λ c. join S U c && p c) ≡ S
join_only_l p S U f g = fun_ext (λ c. only_l (S c) (U c) (p c) (f c) (g c))

pub join_only_r : (p S U : Fam) → ((c : ℕ) → T (S c) → T (p c) → ⊥) → ((c : ℕ) → T (U c) → T (p c)) → (λ c. join S U c && p c) ≡ U
join_only_r p S U f g = fun_ext (λ c. only_r (S c) (U c) (p c) (f c) (g c))

drop_l : (s u p : Bool) → (T s → T p → ⊥) → ((s || u) && p) ≡ (u && p)
drop_l true u true n = absurd (n tt tt)
drop_l true true false n = refl
drop_l true false false n = refl
drop_l false u p n = refl

pub restrict_join_r : (S U : Fam) (X : ℕ) → ((c : ℕ) → T (S c) → T (inside c X) → ⊥) → restrict (join S U) X ≡ restrict U X
restrict_join_r S U X n = fun_ext (λ c. drop_l (S c) (U c) (inside c X) (n c))

drop-not : (u p q : Bool) → (T u → T p → T q → ⊥) → (u && q) ≡ ((u && not p) && q)
drop-not true true true n = absurd (n tt tt tt)
drop-not true true false n = refl
drop-not true false q n = refl
drop-not false p q n = refl

pub restrict_outside : (U : Fam) (X Y : ℕ) → ((c : ℕ) → T (U c) → T (inside c X) → T (inside c Y) → ⊥)
    → restrict U Y ≡ restrict (outside U X) Y
restrict_outside U X Y n = fun_ext (λ c. drop-not (U c) (inside c X) (inside c Y) (n c))

pub join_parts : (U : Fam) (X : ℕ) → join (restrict U X) (outside U X) ≡ U
join_parts U X = fun_ext (λ c. or_split (U c) (inside c X))

rejoin : (s p : Bool) → (T p → T s) → (p || s && not p) ≡ s
rejoin true true f = refl
rejoin true false f = refl
rejoin false true f = absurd (f tt)
rejoin false false f = refl

pub join_one : (S : Fam) (C : ℕ) → T (S C) → join (one C) (except S C) ≡ S
join_one S C h = fun_ext (λ c. rejoin (S c) (eqb c C) (λ t. rw (eqb→eq c C t) h))

pub join_one_inj : (C : ℕ) (U W : Fam) → ((c : ℕ) → T (U c) → c ≢ C) → ((c : ℕ) → T (W c) → c ≢ C)
    → join (one C) U ≡ join (one C) W → U ≡ W
join_one_inj C U W f g e = sym (back U f) ∙ ap (λ (S : Fam). except S C) e ∙ back W g
  where
    back : (S : Fam) → ((c : ℕ) → T (S c) → c ≢ C) → except (join (one C) S) C ≡ S
    back S h = join_only_r (λ c. not (eqb c C)) (one C) S (λ c i n. T_not (eqb c C) n i) (λ c t. →neq c C (h c t))

-- ---- the joins of each pair

pub mem_of_cross : (xs ys : List Fam) {S : Fam} → Mem S (cross xs ys) → (x : Fam) × (y : Fam) × Mem x xs × Mem y ys × (join x y ≡ S)
mem_of_cross xs ys {S} m =
    let q = mem_of_bind (λ (x : Fam). map (λ (y : Fam). join x y) ys) xs m in
    let r = Memᴰ.of_map (λ (y : Fam). join q.0 y) ys q.2 in
    (q.0, r.0, q.1, r.1, r.2)

pub mem_cross : (xs ys : List Fam) {x y : Fam} → Mem x xs → Mem y ys → Mem (join x y) (cross xs ys)
mem_cross xs ys {x} m k = mem-bind (λ (x : Fam). map (λ (y : Fam). join x y) ys) xs m (Memᴰ.map (λ (y : Fam). join x y) k)

pub length_cross : (xs ys : List Fam) → length (cross xs ys) ≡ length xs * length ys
length_cross [] ys = sym (zero-mul (length ys))
length_cross (x ∷ xs) ys =
    length-append (map (λ (y : Fam). join x y) ys) (cross xs ys)
    ∙ ap₂ (λ (a b : ℕ). a + b) (length-map ys (λ (y : Fam). join x y)) (length_cross xs ys)
    ∙ omega arith

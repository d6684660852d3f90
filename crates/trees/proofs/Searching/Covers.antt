-- Covers: tuples without the lower bound on the number of children. A search for tuples looks for covers of what is left.
--     CoverFacts, cover→, →cover     the test as a record, out of it and into it
--     covers-cons                one child more: it lies inside R, and the others cover what is left
--     in_front                    an entry in front of each of some lists (passed on from laws)
--     take_if b e τs              the same; none of them where it may not be taken
--     chosen n R es              the same by recursion: each entry is taken or passed over
--     chosen_is, covers_of-cons   it gives the covers in the same order
--     tuples_are_covers          among rows below C the tuples of C are its covers
--     clusters-map, covers_of-map     the covers of the same rows with other results
-- Assumes nothing.
use mathlib.Core.Path.{◌≡◌, refl, sym, ap, ap₂, ◌∙◌, subst}
use mathlib.Core.Logic.{◌≢◌}
use mathlib.Core.Bool.{Bool, true, false, cond, ◌&&◌}
use mathlib.Core.List.Memᴰ
use mathlib.Core.List.{List, [], ◌∷◌, ◌++◌, map, append-nil}
use mathlib.Core.List.{Memᴰ as Mem}
use Prim.Native.Nat.{ℕ, zero, suc, ◌-◌, ◌≤◌, ◌<◌}
use native.Mathlib.Omega.{arith}
use lib.Bits.{bit_or}
use lib.Dec.{T, eqb, leb, eqb→eq, leb→le, le→leb, leb-zero}
use lib.ListN.{length}
use Rattle.laws.specs.Cluster.{inside, apart, union_of}
use Rattle.laws.specs.Lists.{keep_if, keep, every, sublists}
use Rattle.laws.proofs.Tests.{T_and, and_T, bool_ext, eq→eqb}
use Rattle.laws.proofs.Appended.{map-through}
use Rattle.laws.proofs.Keep.{→every, keep_ext, keep-map, keep-none}
use Rattle.laws.proofs.Sublists.{keep-sublists-cons, mem_of_sublist, sublists-map}
pub use Rattle.laws.proofs.Sublists.{in_front}
use Rattle.laws.proofs.Cluster.{inside-union_l, apart-union_of, apart_of_union_of}
use Rattle.laws.proofs.Cluster.{rest_apart, union_rest, union-apart, two_parts}
use Rattle.trees.specs.Rows.{Entry, cl}
use Rattle.trees.specs.Tuple.{all_apart, is_tuple, tuples}
use Rattle.trees.specs.Cover.{covers, is_cover, covers_of}
use Rattle.trees.proofs.Sets.Tuples.{tuple→, →tuple}

pub record CoverFacts (n R : ℕ) (cs : List ℕ) : Type 0 where
  pub few : length cs ≤ n
  pub union : union_of cs ≡ R
  pub apart : T (all_apart cs)

pub cover→ : (n R : ℕ) (cs : List ℕ) → T (covers n R cs) → CoverFacts n R cs
cover→ n R cs h =
    let a = T_and (leb (length cs) n && eqb (union_of cs) R) (all_apart cs) h in
    let b = T_and (leb (length cs) n) (eqb (union_of cs) R) a.0 in
    record { few = leb→le (length cs) n b.0; union = eqb→eq (union_of cs) R b.1; apart = a.1 }

pub →cover : (n R : ℕ) (cs : List ℕ) → CoverFacts n R cs → T (covers n R cs)
→cover n R cs f =
    and_T (leb (length cs) n && eqb (union_of cs) R) (all_apart cs)
    (and_T (leb (length cs) n) (eqb (union_of cs) R) (le→leb (length cs) n f.few) (eq→eqb (union_of cs) R f.union))
    f.apart

-- ---- one child more

module _ (n R c : ℕ) (cs : List ℕ) where
  cover_split : CoverFacts (suc n) R (c ∷ cs) → T (inside c R) × CoverFacts n (R - c) cs
  cover_split f =
      let e = T_and (every (λ (x : ℕ). apart c x) cs) (all_apart cs) f.apart in
      let j = union-apart c (union_of cs) (apart-union_of c cs e.0) in (
        subst (λ (x : ℕ). T (inside c x)) f.union (inside-union_l c (union_of cs)),
        record { few = omega (arith, f.few); union = omega (arith, j, f.union); apart = e.1 },
      )

  cover_join : T (inside c R) → CoverFacts n (R - c) cs → CoverFacts (suc n) R (c ∷ cs)
  cover_join i f = record {
    few = omega (arith, f.few);
    union = ap (bit_or c) f.union ∙ union_rest c R i;
    apart = and_T (every (λ (x : ℕ). apart c x) cs) (all_apart cs) (→every (λ (x : ℕ). apart c x) cs away) f.apart;
  }
    where
      away : (x : ℕ) → Mem x cs → T (apart c x)
      away = apart_of_union_of c cs (subst (λ (z : ℕ). T (apart c z)) (sym f.union) (rest_apart c R i))

  pub covers-cons : covers (suc n) R (c ∷ cs) ≡ (inside c R && covers n (R - c) cs)
  covers-cons = bool_ext (covers (suc n) R (c ∷ cs)) (inside c R && covers n (R - c) cs) to from
    where
      to : T (covers (suc n) R (c ∷ cs)) → T (inside c R && covers n (R - c) cs)
      to h =
          let q = cover_split (cover→ (suc n) R (c ∷ cs) h) in
          and_T (inside c R) (covers n (R - c) cs) q.0 (→cover n (R - c) cs q.1)

      from : T (inside c R && covers n (R - c) cs) → T (covers (suc n) R (c ∷ cs))
      from h =
          let q = T_and (inside c R) (covers n (R - c) cs) h in
          →cover (suc n) R (c ∷ cs) (cover_join q.0 (cover→ n (R - c) cs q.1))

-- a cover of C by clusters other than C has two at least
tuple_is_cover : (d C : ℕ) (cs : List ℕ) → 0 < C → ((c : ℕ) → Mem c cs → c ≢ C) → is_tuple d C cs ≡ covers (d - 1) C cs
tuple_is_cover d C cs p f = bool_ext (is_tuple d C cs) (covers (d - 1) C cs) to from
  where
    to : T (is_tuple d C cs) → T (covers (d - 1) C cs)
    to h = let q = tuple→ d C cs h in →cover (d - 1) C cs (record { few = q.few; union = q.union; apart = q.apart })

    from : T (covers (d - 1) C cs) → T (is_tuple d C cs)
    from h =
        let q = cover→ (d - 1) C cs h in
        let two = two_parts cs C q.union (λ z. omega arith) f in
        →tuple d C cs (record { two = two; few = q.few; union = q.union; apart = q.apart })

-- ---- the covers among entries

module _ {A : Type 0} where
  abbrev pub take_if : Bool → Entry A → List (List (Entry A)) → List (List (Entry A))
  take_if b e τs = cond b (in_front e τs) []

  abbrev pub chosen : ℕ → ℕ → List (Entry A) → List (List (Entry A))
  chosen n R [] = cond (eqb 0 R) ([] ∷ []) []
  chosen zero R (e ∷ es) = chosen zero R es
  chosen (suc n) R (e ∷ es) = chosen (suc n) R es ++ take_if (inside (cl e) R) e (chosen n (R - cl e) es)

  covers_of-nil : (n R : ℕ) → covers_of {A = A} n R [] ≡ cond (eqb 0 R) ([] ∷ []) []
  covers_of-nil n R = rw leb-zero (go (eqb 0 R))
    where
      go : (b : Bool) → keep_if {A = List (Entry A)} (b && true) [] [] ≡ cond b ([] ∷ []) []
      go true = refl
      go false = refl

  -- with no child left, no entry is taken
  covers_of-zero : (R : ℕ) (e : Entry A) (es : List (Entry A)) → covers_of 0 R (e ∷ es) ≡ covers_of 0 R es
  covers_of-zero R e es =
      keep-sublists-cons (is_cover 0 R) e es
      ∙ ap (λ (x : List (List (Entry A))). covers_of 0 R es ++ in_front e x)
      (keep-none (λ (τ : List (Entry A)). is_cover 0 R (e ∷ τ)) (sublists es) (λ τ _. many τ))
      ∙ append-nil (covers_of 0 R es)
    where
      many : (τ : List (Entry A)) → T (is_cover 0 R (e ∷ τ)) → ⊥
      many τ h = omega (arith, (cover→ 0 R (map cl (e ∷ τ)) h).few)

  pub covers_of-cons : (n R : ℕ) (e : Entry A) (es : List (Entry A))
      → covers_of (suc n) R (e ∷ es) ≡ covers_of (suc n) R es ++ take_if (inside (cl e) R) e (covers_of n (R - cl e) es)
  covers_of-cons n R e es =
      keep-sublists-cons (is_cover (suc n) R) e es
      ∙ ap (λ (x : List (List (Entry A))). covers_of (suc n) R es ++ in_front e x)
      (keep_ext _ (λ (τ : List (Entry A)). inside (cl e) R && is_cover n (R - cl e) τ) (sublists es)
      (λ τ _. covers-cons n R (cl e) (map cl τ)))
      ∙ ap (λ (x : List (List (Entry A))). covers_of (suc n) R es ++ x) (go (inside (cl e) R))
    where
      go : (b : Bool)
          → in_front e (keep (λ (τ : List (Entry A)). b && is_cover n (R - cl e) τ) (sublists es)) ≡ take_if b e (covers_of n (R - cl e) es)
      go true = refl
      go false = ap (in_front e) (keep-none (λ (τ : List (Entry A)). false) (sublists es) (λ τ _ h. h))

  pub chosen_is : (n R : ℕ) (es : List (Entry A)) → chosen n R es ≡ covers_of n R es
  chosen_is n R [] = sym (covers_of-nil n R)
  chosen_is zero R (e ∷ es) = chosen_is zero R es ∙ sym (covers_of-zero R e es)
  chosen_is (suc n) R (e ∷ es) =
      ap₂ (λ (x y : List (List (Entry A))). x ++ take_if (inside (cl e) R) e y) (chosen_is (suc n) R es) (chosen_is n (R - cl e) es)
      ∙ sym (covers_of-cons n R e es)

  pub tuples_are_covers : (d C : ℕ) (es : List (Entry A)) → 0 < C → ((x : Entry A) → Mem x es → cl x < C)
      → tuples d C es ≡ covers_of (d - 1) C es
  tuples_are_covers d C es p f =
      keep_ext (λ (τ : List (Entry A)). is_tuple d C (map cl τ)) (is_cover (d - 1) C) (sublists es)
      (λ τ m. tuple_is_cover d C (map cl τ) p (other τ m))
    where
      other : (τ : List (Entry A)) → Mem τ (sublists es) → (c : ℕ) → Mem c (map cl τ) → c ≢ C
      other τ m c k e =
          let q = Memᴰ.of_map cl τ k in
          omega (arith, q.2, f q.0 (mem_of_sublist es τ m q.0 q.1))

module _ {A B : Type 0} (g : Entry A → Entry B) (same : (e : Entry A) → cl (g e) ≡ cl e) where
  pub clusters-map : (τ : List (Entry A)) → map cl (map g τ) ≡ map cl τ
  clusters-map = map-through g cl cl same

  pub covers_of-map : (n R : ℕ) (es : List (Entry A)) → covers_of n R (map g es) ≡ map (map g) (covers_of n R es)
  covers_of-map n R es =
      ap (keep (is_cover n R)) (sublists-map g es)
      ∙ keep-map (map g) (is_cover n R) (sublists es)
      ∙ ap (map (map g)) (keep_ext _ (is_cover n R) (sublists es) (λ τ _. ap (covers n R) (clusters-map τ)))

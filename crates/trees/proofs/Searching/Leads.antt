-- The next child of a search holds the highest taxon that is left, so it is more than half of what is left, and what it leaves can be
-- looked for among all rows: a row too large takes no part.
--     leads c R, leads→, →leads      c lies inside R and is more than half of it
--     leads_reaches, leads_of_reach  which is to hold R's highest taxon
--     covers_of_lead                  one entry more, among rows that fall: it leads, or plays no part
--     covers_of-one                   the same with one child left: the entry is R itself
--     covers_of-zero_is               with no child left: nothing is left to cover
--     covers_of_stop                  nothing left to cover: the empty cover and no other
--     covers_of-first                 a row above R in front plays no part
--     within b, covers_of-within      nor do rows above any bound from R on
--     covers_of_local                 lists that agree on the rows up to such a bound have the same covers of R
--     covers_of-scored                and so have their scored rows
-- Assumes nothing.
use mathlib.Core.Path.{◌≡◌, refl, sym, ap, ◌∙◌, subst}
use mathlib.Core.Bool.{Bool, true, false, cond, ◌&&◌}
use mathlib.Core.List.Memᴰ
use mathlib.Core.List.{List, [], ◌∷◌, ◌++◌, map, append-nil}
use mathlib.Core.List.{Memᴰ as Mem}
use Prim.Native.Nat.{ℕ, zero, suc, ◌-◌, ◌^◌, ◌≤◌, ◌<◌}
use native.Mathlib.Decide.{dec_lt}
use native.Mathlib.Omega.{arith}
use lib.Bits.{or_lt}
use lib.Dec.{T, eqb, leb, ltb, eqb→eq, le→leb, ltb→lt, lt→ltb}
use Rattle.laws.specs.Cluster.{inside, apart, union_of, highest}
use Rattle.laws.specs.Lists.{keep, sublists}
use Rattle.laws.proofs.Tests.{T_and, and_T, T_false, bool_ext, eq→eqb}
use Rattle.laws.proofs.Descends.{Descends, descends_first}
use Rattle.laws.proofs.Keep.{keep-none, keep_swap}
use Rattle.laws.proofs.Sublists.{mem_of_sublist, sublists-drop}
use Rattle.laws.proofs.Cluster.{inside_refl, le_of_inside, rest_apart, union_rest, union_of-lt, inside-union_of, apart_of_union_of}
use Rattle.laws.proofs.Taxa.{highest-le, highest_gt}
use Rattle.trees.specs.Rows.{Entry, cl, sc}
use Rattle.trees.specs.Cover.{covers, is_cover, covers_of}
use Rattle.trees.proofs.Searching.Covers.{cover→, in_front, take_if, chosen, chosen_is, covers_of-cons}

abbrev pub leads : ℕ → ℕ → Bool
leads c R = inside c R && ltb (R - c) c

pub leads→ : (c R : ℕ) → T (leads c R) → T (inside c R) × (R - c < c)
leads→ c R h = let q = T_and (inside c R) (ltb (R - c) c) h in (q.0, ltb→lt (R - c) c q.1)

pub →leads : (c R : ℕ) → T (inside c R) → R - c < c → T (leads c R)
→leads c R i h = and_T (inside c R) (ltb (R - c) c) i (lt→ltb (R - c) c h)

-- ---- by the highest taxon

-- both parts of R below a power of two: so is R
pub leads_reaches : (c R : ℕ) → 0 < R → T (leads c R) → 2 ^ highest R ≤ c
leads_reaches c R p h = go (dec_lt c (2 ^ highest R))
  where
    q : T (inside c R) × (R - c < c)
    q = leads→ c R h

    go : Dec (c < 2 ^ highest R) → 2 ^ highest R ≤ c
    go (yes l) =
        absurd (omega (arith, or_lt (highest R) c (R - c) l (omega (arith, q.1)), union_rest c R q.0, highest-le R p))
    go (no n) = omega arith

pub leads_of_reach : (c R : ℕ) → 0 < R → T (inside c R) → 2 ^ highest R ≤ c → T (leads c R)
leads_of_reach c R p i h = →leads c R i (omega (arith, highest_gt R p, le_of_inside c R i))

-- ---- covers from below

-- what clusters below c cover is below c where it is apart from c
cover_lt : (n c R : ℕ) (cs : List ℕ) → 0 < c → T (apart c R) → ((x : ℕ) → Mem x cs → x < c) → T (covers n R cs) → R < c
cover_lt n c R cs p a f h = subst (λ (x : ℕ). x < c) u (union_of-lt c p cs (λ x m. (away x m, f x m))).1
  where
    u : union_of cs ≡ R
    u = (cover→ n R cs h).union

    away : (x : ℕ) → Mem x cs → T (apart c x)
    away = apart_of_union_of c cs (subst (λ (z : ℕ). T (apart c z)) (sym u) a)

-- nothing of R is left beside c
whole : (c R : ℕ) → (inside c R && eqb 0 (R - c)) ≡ eqb c R
whole c R = bool_ext (inside c R && eqb 0 (R - c)) (eqb c R) to from
  where
    to : T (inside c R && eqb 0 (R - c)) → T (eqb c R)
    to h =
        let q = T_and (inside c R) (eqb 0 (R - c)) h in
        eq→eqb c R (omega (arith, le_of_inside c R q.0, eqb→eq 0 (R - c) q.1))

    from : T (eqb c R) → T (inside c R && eqb 0 (R - c))
    from h =
        let e = eqb→eq c R h in
        and_T (inside c R) (eqb 0 (R - c)) (subst (λ (x : ℕ). T (inside c x)) e (inside_refl c)) (eq→eqb 0 (R - c) (omega arith))

module _ {A : Type 0} where
  -- what e leaves is not covered from below e unless e leads
  covers_of_dead : (n R : ℕ) (e : Entry A) (es : List (Entry A)) → Descends (map cl (e ∷ es)) → T (inside (cl e) R)
      → (T (ltb (R - cl e) (cl e)) → ⊥) → covers_of n (R - cl e) es ≡ []
  covers_of_dead n R e es h i f =
      keep-none (is_cover n (R - cl e)) (sublists es) bad
    where
      low : (τ : List (Entry A)) → Mem τ (sublists es) → (c : ℕ) → Mem c (map cl τ) → c < cl e
      low τ m c k =
          let q = Memᴰ.of_map cl τ k in
          omega (arith, q.2, descends_first cl e es h q.0 (mem_of_sublist es τ m q.0 q.1))

      bad : (τ : List (Entry A)) → Mem τ (sublists es) → T (is_cover n (R - cl e) τ) → ⊥
      bad τ m t = f (lt→ltb (R - cl e) (cl e) (cover_lt n (cl e) (R - cl e) (map cl τ) h.0.nonzero (rest_apart (cl e) R i) (low τ m) t))

  pub covers_of_lead : (n R : ℕ) (e : Entry A) (es : List (Entry A)) → Descends (map cl (e ∷ es))
      → covers_of (suc n) R (e ∷ es) ≡ covers_of (suc n) R es ++ take_if (leads (cl e) R) e (covers_of n (R - cl e) es)
  covers_of_lead n R e es h =
      covers_of-cons n R e es
      ∙ ap (λ (x : List (List (Entry A))). covers_of (suc n) R es ++ x)
      (go (inside (cl e) R) (ltb (R - cl e) (cl e)) (covers_of_dead n R e es h))
    where
      go : (i l : Bool) → (T i → (T l → ⊥) → covers_of n (R - cl e) es ≡ [])
          → take_if i e (covers_of n (R - cl e) es) ≡ take_if (i && l) e (covers_of n (R - cl e) es)
      go true true f = refl
      go true false f = ap (in_front e) (f tt (λ b. b))
      go false l f = refl

  -- ---- few children left

  pub covers_of-zero_is : (R : ℕ) (es : List (Entry A)) → covers_of 0 R es ≡ cond (eqb 0 R) ([] ∷ []) []
  covers_of-zero_is R es = sym (chosen_is 0 R es) ∙ go es
    where
      go : (l : List (Entry A)) → chosen 0 R l ≡ cond (eqb 0 R) ([] ∷ []) []
      go [] = refl
      go (x ∷ xs) = go xs

  pub covers_of-one : (R : ℕ) (e : Entry A) (es : List (Entry A))
      → covers_of 1 R (e ∷ es) ≡ covers_of 1 R es ++ take_if (eqb (cl e) R) e ([] ∷ [])
  covers_of-one R e es =
      covers_of-cons 0 R e es
      ∙ ap (λ (x : List (List (Entry A))). covers_of 1 R es ++ take_if (inside (cl e) R) e x) (covers_of-zero_is (R - cl e) es)
      ∙ ap (λ (x : List (List (Entry A))). covers_of 1 R es ++ x) (both (inside (cl e) R) (eqb 0 (R - cl e)))
      ∙ ap (λ (b : Bool). covers_of 1 R es ++ take_if b e ([] ∷ [])) (whole (cl e) R)
    where
      both : (i b : Bool) → take_if i e (cond b ([] ∷ []) []) ≡ take_if (i && b) e ([] ∷ [])
      both true true = refl
      both true false = refl
      both false b = refl

  -- ---- rows that are too large

  pub covers_of-first : (n R : ℕ) (e : Entry A) (es : List (Entry A)) → R < cl e → covers_of n R (e ∷ es) ≡ covers_of n R es
  covers_of-first zero R e es h = covers_of-zero_is R (e ∷ es) ∙ sym (covers_of-zero_is R es)
  covers_of-first (suc n) R e es h =
      covers_of-cons n R e es
      ∙ ap (λ (b : Bool). covers_of (suc n) R es ++ take_if b e (covers_of n (R - cl e) es)) out
      ∙ append-nil (covers_of (suc n) R es)
    where
      out : inside (cl e) R ≡ false
      out = T_false (inside (cl e) R) (λ i. omega (arith, le_of_inside (cl e) R i))

  pub covers_of_stop : (n : ℕ) (es : List (Entry A)) → Descends (map cl es) → covers_of n 0 es ≡ [] ∷ []
  covers_of_stop n [] h = sym (chosen_is n 0 [])
  covers_of_stop n (e ∷ es) h = covers_of-first n 0 e es h.0.nonzero ∙ covers_of_stop n es h.1

  abbrev pub within : ℕ → Entry A → Bool
  within b e = leb (cl e) b

  pub covers_of-within : (n R b : ℕ) (es : List (Entry A)) → R ≤ b → covers_of n R (keep (within b) es) ≡ covers_of n R es
  covers_of-within n R b es h = sym (sublists-drop (within b) (is_cover n R) es low)
    where
      low : (τ : List (Entry A)) → T (is_cover n R τ) → (x : Entry A) → Mem x τ → T (within b x)
      low τ t x m =
          let i = inside-union_of (map cl τ) (cl x) (Memᴰ.map cl m) in
          le→leb (cl x) b (omega (arith, le_of_inside (cl x) (union_of (map cl τ)) i, (cover→ n R (map cl τ) t).union))

  pub covers_of_local : (n R b : ℕ) (es es' : List (Entry A)) → R ≤ b → keep (within b) es ≡ keep (within b) es'
      → covers_of n R es ≡ covers_of n R es'
  covers_of_local n R b es es' h e = sym (covers_of-within n R b es h) ∙ ap (covers_of n R) e ∙ covers_of-within n R b es' h

  pub covers_of-scored : (n R b : ℕ) (es es' : List (Entry A)) → R ≤ b → keep (within b) es ≡ keep (within b) es'
      → covers_of n R (keep sc es) ≡ covers_of n R (keep sc es')
  covers_of-scored n R b es es' h e =
      covers_of_local n R b (keep sc es) (keep sc es') h (keep_swap (within b) sc es ∙ ap (keep sc) e ∙ keep_swap sc (within b) es')

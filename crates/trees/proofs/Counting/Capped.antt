-- Counts stopped at a limit: the rules' formulas, on rows whose count fields are stopped, give the fields of the true counts.
--     encode_sol, encode        the fields that hold them
--     true_count, Counted       the true count, and that it is one or more where there is a tree
--     second                   an entry without its row length
--     past                     a number is up to the limit or past it
--     count_small, count_large     its two fields, by that
--     count_hom                counting respects sums and products
--     fields_e, fields_t         an entry and several, with their fields
--     true_times, true_sum       the product of a tuple's true counts, and the sum over tuples
--     many_is                  the rules' test of "many" is that the true count is past the limit
-- Assumes nothing.
use mathlib.Core.Path.{◌≡◌, refl, sym, ap, ap₂, ◌∙◌, subst}
use mathlib.Core.Logic.{◌⊎◌, inl, inr}
use mathlib.Core.Bool.{Bool, true, false, not, cond, ◌&&◌, ◌||◌}
use mathlib.Core.Option.{Option, none, some}
use mathlib.Core.List.{List, [], ◌∷◌, map}
use Prim.Native.Nat.{ℕ, zero, suc, ◌+◌, ◌*◌, ◌≤◌, ◌<◌}
use native.Mathlib.Decide.{dec_le}
use native.Mathlib.Nat.{mul-zero, zero-mul, one-mul, mul-one, one-le-mul, mul-le-mul_left, mul-le-mul_right, le_refl}
use native.Mathlib.Omega.{arith}
use lib.Dec.{T, eqb, leb, ltb, leb→le, le→leb, ltb→lt, lt→ltb, eqb→eq}
use lib.IntN.{pos}
use lib.ListN.{length}
use Rattle.laws.specs.Lists.{any}
use Rattle.laws.proofs.Tests.{T_false, cond_true, cond_false}
use Rattle.trees.specs.Rows.{Entry}
use Rattle.trees.specs.Result.{Result, count_field, mark_field}
use Rattle.trees.specs.Beneath.{times_counts, sum_counts, is_live, is_marked, is_many}
use Rattle.trees.specs.Solution.{Res, Sol, plus_sol, times_sol, count_kind, sol_kind}
use Rattle.trees.proofs.Formula.Kind.{map_e, Hom}

abbrev pub encode_sol : ℕ → ℕ → Option Sol → Result
encode_sol limit n none = record { length = n; count = 0; mark = 0; best = pos 0; members = 0 }
encode_sol limit n (some x) =
    record { length = n; count = count_field limit x.0; mark = mark_field limit x.0; best = x.1.0; members = x.1.1 }

abbrev pub encode : ℕ → Res → Result
encode limit v = encode_sol limit v.0 v.1

abbrev pub true_count : Option Sol → ℕ
true_count none = 0
true_count (some x) = x.0

abbrev pub Counted : Option Sol → Type 0
Counted none = Unit {0}
Counted (some x) = 1 ≤ x.0

abbrev pub second : Entry Res → Entry (Option Sol)
second = map_e (λ (x : Res). x.1)

-- ---- the two fields of a count

pub count_small : (limit n : ℕ) → n ≤ limit → (count_field limit n ≡ n) × (mark_field limit n ≡ 0)
count_small limit n h =
    let t = le→leb n limit h in
    (cond_true (leb n limit) _ _ t, cond_true (leb n limit) _ _ t)

pub count_large : (limit n : ℕ) → limit < n → (count_field limit n ≡ limit) × (mark_field limit n ≡ 1)
count_large limit n h = (cond_false (leb n limit) _ _ over, cond_false (leb n limit) _ _ over)
  where
    over : T (leb n limit) → ⊥
    over t = omega (arith, leb→le n limit t)

pub past : (limit n : ℕ) → (n ≤ limit) ⊎ (limit < n)
past limit n = go (dec_le n limit)
  where
    go : Dec (n ≤ limit) → (n ≤ limit) ⊎ (limit < n)
    go (yes h) = inl h
    go (no h) = inr (omega arith)

fields_of : (limit n : ℕ) (v : Option Sol)
    → ((encode_sol limit n v).count ≡ count_field limit (true_count v)) × ((encode_sol limit n v).mark ≡ mark_field limit (true_count v))
fields_of limit n none = let q = count_small limit 0 (omega arith) in (sym q.0, sym q.1)
fields_of limit n (some x) = (refl, refl)

pub count_hom : (bit : ℕ → ℕ) → Hom (sol_kind bit) count_kind true_count
count_hom bit = record { none = refl; unit = refl; plus = plus; times = times; own = λ r. refl }
  where
    plus : (x y : Option Sol) → true_count (plus_sol x y) ≡ true_count x + true_count y
    plus none y = omega arith
    plus (some x) none = omega arith
    plus (some x) (some y) = refl

    times : (x y : Option Sol) → true_count (times_sol x y) ≡ true_count x * true_count y
    times none y = sym (zero-mul (true_count y))
    times (some x) none = sym (mul-zero x.0)
    times (some x) (some y) = refl

module _ (limit : ℕ) (pos-limit : 1 ≤ limit) where
  abbrev pub fields_e : Entry Res → Entry Result
  fields_e = map_e (encode limit)

  abbrev pub fields_t : List (Entry Res) → List (Entry Result)
  fields_t = map fields_e

  -- the true counts of a tuple's children, multiplied, and of tuples, added
  abbrev pub true_times : List (Entry Res) → ℕ
  true_times [] = 1
  true_times (e ∷ τ) = true_count e.val.1 * true_times τ

  abbrev pub true_sum : List (List (Entry Res)) → ℕ
  true_sum [] = 0
  true_sum (τ ∷ τs) = true_times τ + true_sum τs

  abbrev has_mark : List (Entry Result) → Bool
  has_mark τ = any (λ (e : Entry Result). eqb e.val.mark 1) τ

  -- ---- one tuple
  data Case (τ : List (Entry Res)) : Type 0 where
    dead : is_live (fields_t τ) ≡ false → times_counts (fields_t τ) ≡ 0 → true_times τ ≡ 0 → Case τ
    plain : is_live (fields_t τ) ≡ true → has_mark (fields_t τ) ≡ false → times_counts (fields_t τ) ≡ true_times τ → 1 ≤ true_times τ → Case τ
    large : is_live (fields_t τ) ≡ true → has_mark (fields_t τ) ≡ true → limit < true_times τ → Case τ

  -- one child more: c and m are its count and mark fields, n its true count
  module _ (e : Entry Res) (τ : List (Entry Res)) where
    abbrev n : ℕ
    n = true_count e.val.1

    abbrev live : Bool
    live = not (eqb (fields_e e).val.count 0)

    abbrev marked : Bool
    marked = eqb (fields_e e).val.mark 1

    case_none : n ≡ 0 → Case (e ∷ τ)
    case_none z =
        let c = (fields_of limit e.val.0 e.val.1).0 ∙ ap (count_field limit) z ∙ (count_small limit 0 (omega arith)).0 in
        dead (ap (λ (x : ℕ). not (eqb x 0) && is_live (fields_t τ)) c)
        (ap (λ (x : ℕ). x * times_counts (fields_t τ)) c ∙ zero-mul (times_counts (fields_t τ)))
        (ap (λ (x : ℕ). x * true_times τ) z ∙ zero-mul (true_times τ))

    live_of : (x : ℕ) → (fields_e e).val.count ≡ x → 1 ≤ x → live ≡ true
    live_of x c h = ap (λ (y : ℕ). not (eqb y 0)) c ∙ ap not (T_false (eqb x 0) (λ t. omega (arith, eqb→eq x 0 t)))

    dead_rest : is_live (fields_t τ) ≡ false → times_counts (fields_t τ) ≡ 0 → true_times τ ≡ 0 → Case (e ∷ τ)
    dead_rest a b c =
        dead (ap (λ (x : Bool). live && x) a ∙ and_false live)
        (ap (λ (x : ℕ). (fields_e e).val.count * x) b ∙ mul-zero (fields_e e).val.count)
        (ap (λ (x : ℕ). n * x) c ∙ mul-zero n)
      where
        and_false : (b : Bool) → (b && false) ≡ false
        and_false true = refl
        and_false false = refl

    case_small : 1 ≤ n → n ≤ limit → Case τ → Case (e ∷ τ)
    case_small h l = go
      where
        c : (fields_e e).val.count ≡ n
        c = (fields_of limit e.val.0 e.val.1).0 ∙ (count_small limit n l).0

        m : marked ≡ false
        m = ap (λ (x : ℕ). eqb x 1) ((fields_of limit e.val.0 e.val.1).1 ∙ (count_small limit n l).1)

        go : Case τ → Case (e ∷ τ)
        go (dead a b z) = dead_rest a b z
        go (plain a b t p) =
            plain (ap₂ (λ (x y : Bool). x && y) (live_of n c h) a) (ap₂ (λ (x y : Bool). x || y) m b)
            (ap₂ (λ (x y : ℕ). x * y) c t) (one-le-mul h p)
        go (large a b p) =
            large (ap₂ (λ (x y : Bool). x && y) (live_of n c h) a) (ap₂ (λ (x y : Bool). x || y) m b)
            (omega (arith, mul-le-mul_right (true_times τ) h, one-mul (true_times τ), p))

    case_large : limit < n → Case τ → Case (e ∷ τ)
    case_large l = go
      where
        c : (fields_e e).val.count ≡ limit
        c = (fields_of limit e.val.0 e.val.1).0 ∙ (count_large limit n l).0

        m : marked ≡ true
        m = ap (λ (x : ℕ). eqb x 1) ((fields_of limit e.val.0 e.val.1).1 ∙ (count_large limit n l).1)

        more : is_live (fields_t τ) ≡ true → 1 ≤ true_times τ → Case (e ∷ τ)
        more a p =
            large (ap₂ (λ (x y : Bool). x && y) (live_of limit c pos-limit) a) (ap (λ (x : Bool). x || has_mark (fields_t τ)) m)
            (omega (arith, mul-le-mul_left n p, mul-one n, l))

        go : Case τ → Case (e ∷ τ)
        go (dead a b z) = dead_rest a b z
        go (plain a b t p) = more a p
        go (large a b p) = more a (omega (arith, p))

  count_case : (τ : List (Entry Res)) → Case τ
  count_case [] = plain refl refl refl (le_refl 1)
  count_case (e ∷ τ) = go (true_count e.val.1) refl (count_case τ)
    where
      at : (x : ℕ) → true_count e.val.1 ≡ suc x → Case τ → (suc x ≤ limit) ⊎ (limit < suc x) → Case (e ∷ τ)
      at x q k (inl l) = case_small e τ (omega (arith, q)) (omega (arith, q, l)) k
      at x q k (inr l) = case_large e τ (omega (arith, q, l)) k

      go : (x : ℕ) → true_count e.val.1 ≡ x → Case τ → Case (e ∷ τ)
      go zero q k = case_none e τ q
      go (suc x) q k = at x q k (past limit (suc x))

  -- ---- several tuples
  data Sums (τs : List (List (Entry Res))) : Type 0 where
    exact : is_marked (map fields_t τs) ≡ false → sum_counts (map fields_t τs) ≡ true_sum τs → Sums τs
    many : is_marked (map fields_t τs) ≡ true → limit < true_sum τs → Sums τs

  sums : (τs : List (List (Entry Res))) → Sums τs
  sums [] = exact refl refl
  sums (τ ∷ τs) = go (count_case τ) (sums τs)
    where
      -- whether τ is live and has a mark, or one of the others
      marked : Bool → Bool → Bool
      marked a b = a && b || is_marked (map fields_t τs)

      go : Case τ → Sums τs → Sums (τ ∷ τs)
      go (dead a t z) (exact b s) = exact (ap (λ (x : Bool). marked x (has_mark (fields_t τ))) a ∙ b) (ap₂ ◌+◌ (t ∙ sym z) s)
      go (dead a t z) (many b s) = many (ap (λ (x : Bool). marked x (has_mark (fields_t τ))) a ∙ b) (omega (arith, s))
      go (plain a b t p) (exact c s) = exact (ap₂ marked a b ∙ c) (ap₂ ◌+◌ t s)
      go (plain a b t p) (many c s) = many (ap₂ marked a b ∙ c) (omega (arith, s))
      go (large a b p) k = many (ap₂ marked a b) (omega (arith, p))

  module _ (τs : List (List (Entry Res))) where
    -- what the rules' two fields say of the true count
    abbrev Fields : Bool → ℕ → Type 0
    Fields b s = (cond b limit s ≡ count_field limit (true_sum τs)) × (cond b 1 0 ≡ mark_field limit (true_sum τs))

    by_limit : (true_sum τs ≤ limit) ⊎ (limit < true_sum τs) → Fields (ltb limit (true_sum τs)) (true_sum τs)
    by_limit (inl h) =
        let over : T (ltb limit (true_sum τs)) → ⊥ = λ t. omega (arith, ltb→lt limit (true_sum τs) t) in
        let q = count_small limit (true_sum τs) h in
        (cond_false (ltb limit (true_sum τs)) _ _ over ∙ sym q.0, cond_false (ltb limit (true_sum τs)) _ _ over ∙ sym q.1)
    by_limit (inr h) =
        let t = lt→ltb limit (true_sum τs) h in
        let q = count_large limit (true_sum τs) h in
        (cond_true (ltb limit (true_sum τs)) _ _ t ∙ sym q.0, cond_true (ltb limit (true_sum τs)) _ _ t ∙ sym q.1)

    pub many_is : Fields (is_many limit (map fields_t τs)) (sum_counts (map fields_t τs))
    many_is = go (sums τs)
      where
        go : Sums τs → Fields (is_many limit (map fields_t τs)) (sum_counts (map fields_t τs))
        go (exact b s) =
            subst (λ (x : Bool). Fields (x || ltb limit (sum_counts (map fields_t τs))) (sum_counts (map fields_t τs))) (sym b)
            (subst (λ (x : ℕ). Fields (ltb limit x) x) (sym s) (by_limit (past limit (true_sum τs))))
        go (many b h) =
            let q = count_large limit (true_sum τs) h in
            subst (λ (x : Bool). Fields (x || ltb limit (sum_counts (map fields_t τs))) (sum_counts (map fields_t τs))) (sym b)
            (sym q.0, sym q.1)

-- The row worked out by the rules' formulas from the fields beneath is the fields of the row worked out in true counts and keys.
--     mark_in                  the mark of one cluster (passed on from `Ties/Marks.antt`)
--     length_if b n            n, or 0 where a row has no tuples
--     true_result d cs r t     the row length, and the count with the key of the first heaviest, in true counts
--     AllCounted t            each true count of t is one or more, where there is a tree
--     key_is                  the rules' choice among tuples is the first key
--     worked_encode           the theorem
--     counted-plus, counted-times, counted-value     sums, products and rows keep that
-- Assumes nothing.
use mathlib.Core.Path.{◌≡◌, refl, sym, ap, ap₂, ◌∙◌}
use mathlib.Core.Logic.{◌⊎◌, inl, inr}
use mathlib.Core.Bool.{Bool, true, false, not, cond, ◌&&◌}
use mathlib.Core.Option.{Option, none, some}
use mathlib.Core.List.{List, [], ◌∷◌, map}
use mathlib.Core.List.Memᴰ.{head as here}
use mathlib.Core.List.Memᴰ.{tail as there}
use mathlib.Core.List.{Memᴰ as Mem}
use Prim.Native.Nat.{ℕ, ◌+◌, ◌*◌, ◌≤◌, ◌<◌}
use native.Mathlib.Nat.{one-mul, one-le-mul, le_refl}
use native.Mathlib.Omega.{arith}
use lib.Dec.{eqb, eqb→eq}
use lib.IntN.{◌+ℤ◌}
use lib.ListN.{length, length-map}
use Rattle.laws.specs.Cluster.{single}
use Rattle.laws.specs.Limits.{Width}
use Rattle.laws.specs.Lists.{keep_if, keep}
use Rattle.laws.specs.Row.{Row, is_scored}
use Rattle.laws.proofs.Tests.{T_false}
use Rattle.laws.proofs.Keep.{keep-map}
use Rattle.trees.specs.Rows.{Entry, sc}
use Rattle.trees.specs.Tuple.{tuples}
use Rattle.trees.specs.Result.{Result, blank, count_field, mark_field}
use Rattle.trees.specs.Rescored.{joined, alone, together, worked_out}
use Rattle.trees.specs.Kind.{Kind, prod_k, over_tuples, value_if, value}
use Rattle.trees.specs.Beneath.{counted, is_live, Key, key_of, first_of_keys, first_key}
use Rattle.trees.specs.Solution.{join_k, Sol, plus_sol, times_sol, count_kind, sol_kind, Res}
pub use Rattle.trees.proofs.Ties.Marks.{mark_in}
use Rattle.trees.proofs.Formula.Kind.{map_e, tuples-map, hom_sum}
use Rattle.trees.proofs.Sets.Tuples.{scored_part}
use Rattle.trees.proofs.Counting.Capped.{encode_sol, encode, true_count, Counted, second, past, count_small, count_large}
use Rattle.trees.proofs.Counting.Capped.{count_hom, fields_t, true_times, true_sum, many_is}

abbrev pub length_if : Bool → ℕ → ℕ
length_if b n = cond b n 0

abbrev pub true_result : ℕ → List ℕ → Row → List (Entry Res) → Res
true_result d cs r t = (
  length_if (is_scored r && not (single r.cluster)) (length (tuples d r.cluster (counted t))),
  value (sol_kind (mark_in cs)) d r (map second t),
)

abbrev pub AllCounted : List (Entry Res) → Type 0
AllCounted t = (e : Entry Res) → Mem e t → Counted e.val.1

-- ---- the first key

abbrev key_part : Option Sol → Option Key
key_part none = none
key_part (some x) = some x.1

abbrev live_key : Bool → Key → Option Key
live_key true k = some k
live_key false k = none

abbrev key_times : Key → Option Key → Option Key
key_times k none = none
key_times k (some l) = some (join_k k l)

abbrev key_plus : Option Key → Option Key → Option Key
key_plus none l = l
key_plus (some k) l = first_of_keys k l

times_part : (x : Sol) (v : Option Sol) → key_part (times_sol (some x) v) ≡ key_times x.1 (key_part v)
times_part x none = refl
times_part x (some y) = refl

plus_part : (v u : Option Sol) → key_part (plus_sol v u) ≡ key_plus (key_part v) (key_part u)
plus_part none u = refl
plus_part (some x) none = refl
plus_part (some x) (some y) = refl

live-times : (b : Bool) (k l : Key) → live_key b (join_k k l) ≡ key_times k (live_key b l)
live-times true k l = refl
live-times false k l = refl

live-plus : (b : Bool) (τ : List (Entry Result)) (τs : List (List (Entry Result)))
    → first_key (map key_of (keep_if b τ τs)) ≡ key_plus (live_key b (key_of τ)) (first_key (map key_of τs))
live-plus true τ τs = refl
live-plus false τ τs = refl

module _ (limit : ℕ) (pos-limit : 1 ≤ limit) (bit : ℕ → ℕ) where
  abbrev F : List (Entry Res) → List (Entry Result)
  F = fields_t limit pos-limit

  count-live : (n : ℕ) → 1 ≤ n → not (eqb (count_field limit n) 0) ≡ true
  count-live n h = ap not (T_false (eqb (count_field limit n) 0) (λ t. nonzero (past limit n) (eqb→eq (count_field limit n) 0 t)))
    where
      nonzero : (n ≤ limit) ⊎ (limit < n) → count_field limit n ≡ 0 → ⊥
      nonzero (inl l) e = omega (arith, (count_small limit n l).0, e)
      nonzero (inr l) e = omega (arith, (count_large limit n l).0, e)

  tuple_key : (τ : List (Entry Res)) → AllCounted τ → live_key (is_live (F τ)) (key_of (F τ)) ≡ key_part (prod_k (sol_kind bit) (map second τ))
  tuple_key [] c = refl
  tuple_key (e ∷ τ) c = at e.val.1 (c e (here refl)) (tuple_key τ (λ x m. c x (there m)))
    where
      P : Option Sol
      P = prod_k (sol_kind bit) (map second τ)

      -- the child with the result v, in front of τ
      live : Option Sol → Bool
      live v = not (eqb (encode_sol limit e.val.0 v).count 0) && is_live (F τ)

      key : Option Sol → Key
      key v = join_k ((encode_sol limit e.val.0 v).best, (encode_sol limit e.val.0 v).members) (key_of (F τ))

      at : (v : Option Sol) → Counted v → live_key (is_live (F τ)) (key_of (F τ)) ≡ key_part P
          → live_key (live v) (key v) ≡ key_part (times_sol v P)
      at none h ih = refl
      at (some x) h ih =
          ap (λ (b : Bool). live_key (b && is_live (F τ)) (join_k x.1 (key_of (F τ)))) (count-live x.0 h)
          ∙ live-times (is_live (F τ)) x.1 (key_of (F τ))
          ∙ ap (key_times x.1) ih
          ∙ sym (times_part x P)

  pub key_is : (τs : List (List (Entry Res))) → ((τ : List (Entry Res)) → Mem τ τs → AllCounted τ)
      → first_key (map key_of (keep is_live (map F τs))) ≡ key_part (over_tuples (sol_kind bit) (map (map second) τs))
  key_is [] c = refl
  key_is (τ ∷ τs) c =
      live-plus (is_live (F τ)) (F τ) (keep is_live (map F τs))
      ∙ ap₂ key_plus (tuple_key τ (c τ (here refl))) (key_is τs (λ x m. c x (there m)))
      ∙ sym (plus_part (prod_k (sol_kind bit) (map second τ)) (over_tuples (sol_kind bit) (map (map second) τs)))

  -- ---- the true count
  prod_true : (τ : List (Entry Res)) → prod_k count_kind (map (map_e true_count) (map second τ)) ≡ true_times limit pos-limit τ
  prod_true [] = refl
  prod_true (e ∷ τ) = ap (λ (n : ℕ). true_count e.val.1 * n) (prod_true τ)

  sum_true : (τs : List (List (Entry Res)))
      → over_tuples count_kind (map (map (map_e true_count)) (map (map second) τs)) ≡ true_sum limit pos-limit τs
  sum_true [] = refl
  sum_true (τ ∷ τs) = ap₂ (λ (a b : ℕ). a + b) (prod_true τ) (sum_true τs)

  count_is : (τs : List (List (Entry Res))) → true_sum limit pos-limit τs ≡ true_count (over_tuples (sol_kind bit) (map (map second) τs))
  count_is τs = sym (sum_true τs) ∙ hom_sum (sol_kind bit) count_kind true_count (count_hom bit) (map (map second) τs)

-- ---- the row

module _ (W : Width) (pos-limit : 1 ≤ W.count_max) (d : ℕ) (cs : List ℕ) (r : Row) (t : List (Entry Res)) (c : AllCounted t) where
  abbrev limit : ℕ
  limit = W.count_max

  abbrev K : Kind (Option Sol)
  K = sol_kind (mark_in cs)

  abbrev τs : List (List (Entry Res))
  τs = tuples d r.cluster (keep sc t)

  abbrev fields : List (List (Entry Result))
  fields = map (fields_t limit pos-limit) τs

  abbrev found : Option Sol
  found = over_tuples K (map (map second) τs)

  tuple_counted : (τ : List (Entry Res)) → Mem τ τs → AllCounted τ
  tuple_counted τ m e k = c e (scored_part d r.cluster t τ m e k).0

  -- the same tuples, of rows with their fields and of rows with their true counts and keys
  abbrev field_tuples : List (List (Entry Result))
  field_tuples = tuples d r.cluster (keep sc (map (map_e (encode limit)) t))

  fields_are : field_tuples ≡ fields
  fields_are = ap (tuples d r.cluster) (keep-map (map_e (encode limit)) sc t) ∙ tuples-map (encode limit) d r.cluster (keep sc t)

  seconds_are : tuples d r.cluster (keep sc (map second t)) ≡ map (map second) τs
  seconds_are = ap (tuples d r.cluster) (keep-map second sc t) ∙ tuples-map (λ (x : Res). x.1) d r.cluster (keep sc t)

  own-times : (n : ℕ) (v : Option Sol) → true_sum limit pos-limit τs ≡ true_count v
      → joined W cs r n fields (key_part v) ≡ encode_sol limit n (times_sol (some (1, (r.weight, mark_in cs r.cluster))) v)
  own-times n none e = refl
  own-times n (some x) e = λ i. record {
    length = n;
    count = ((many_is limit pos-limit τs).0 ∙ ap (count_field limit) (e ∙ sym (one-mul x.0))) i;
    mark = ((many_is limit pos-limit τs).1 ∙ ap (mark_field limit) (e ∙ sym (one-mul x.0))) i;
    best = r.weight +ℤ x.1.0;
    members = mark_in cs r.cluster + x.1.1;
  }

  together_is : joined W cs r (length field_tuples) field_tuples (first_key (map key_of (keep is_live field_tuples)))
      ≡ encode_sol limit (length τs) (times_sol (K.own r) (over_tuples K (tuples d r.cluster (keep sc (map second t)))))
  together_is =
      ap (λ (σs : List (List (Entry Result))). joined W cs r (length σs) σs (first_key (map key_of (keep is_live σs)))) fields_are
      ∙ ap₂ (λ (n : ℕ) (k : Option Key). joined W cs r n fields k) (length-map τs (fields_t limit pos-limit))
      (key_is limit pos-limit (mark_in cs) τs tuple_counted)
      ∙ own-times (length τs) found (count_is limit pos-limit (mark_in cs) τs)
      ∙ ap (λ (σs : List (List (Entry (Option Sol)))). encode_sol limit (length τs) (times_sol (K.own r) (over_tuples K σs)))
      (sym seconds_are)

  alone_is : alone cs r ≡ encode_sol limit 0 (K.own r)
  alone_is =
      let q = count_small limit 1 pos-limit in
      λ i. record { length = 0; count = sym q.0 i; mark = sym q.1 i; best = r.weight; members = mark_in cs r.cluster }

  pub worked_encode : worked_out W d cs r (map (map_e (encode limit)) t) ≡ encode limit (true_result d cs r t)
  worked_encode = go (is_scored r) (single r.cluster)
    where
      go : (s b : Bool) → cond s (cond b (alone cs r) (together W d cs r (map (map_e (encode limit)) t))) blank
          ≡ encode_sol limit (length_if (s && not b) (length (tuples d r.cluster (counted t)))) (value_if K s b d r (map second t))
      go false b = refl
      go true true = alone_is
      go true false = together_is

-- ---- true counts are one or more

pub counted-plus : (v u : Option Sol) → Counted v → Counted u → Counted (plus_sol v u)
counted-plus none u h k = k
counted-plus (some x) none h k = h
counted-plus (some x) (some y) h k = omega (arith, h)

pub counted-times : (v u : Option Sol) → Counted v → Counted u → Counted (times_sol v u)
counted-times none u h k = tt
counted-times (some x) none h k = tt
counted-times (some x) (some y) h k = one-le-mul h k

module _ (bit : ℕ → ℕ) where
  abbrev E : Type 0
  E = Entry (Option Sol)

  counted_prod : (τ : List E) → ((e : E) → Mem e τ → Counted e.val) → Counted (prod_k (sol_kind bit) τ)
  counted_prod [] c = le_refl 1
  counted_prod (e ∷ τ) c = counted-times e.val (prod_k (sol_kind bit) τ) (c e (here refl)) (counted_prod τ (λ x m. c x (there m)))

  counted-sum : (τs : List (List E)) → ((τ : List E) → Mem τ τs → Counted (prod_k (sol_kind bit) τ)) → Counted (over_tuples (sol_kind bit) τs)
  counted-sum [] c = tt
  counted-sum (τ ∷ τs) c =
      counted-plus (prod_k (sol_kind bit) τ) (over_tuples (sol_kind bit) τs) (c τ (here refl)) (counted-sum τs (λ x m. c x (there m)))

  pub counted-value : (d : ℕ) (r : Row) (t : List (Entry (Option Sol))) → ((e : Entry (Option Sol)) → Mem e t → Counted e.val)
      → Counted (value (sol_kind bit) d r t)
  counted-value d r t c = go (is_scored r) (single r.cluster)
    where
      τs : List (List E)
      τs = tuples d r.cluster (keep sc t)

      each : (τ : List E) → Mem τ τs → Counted (prod_k (sol_kind bit) τ)
      each τ m = counted_prod τ (λ e k. c e (scored_part d r.cluster t τ m e k).0)

      go : (s b : Bool) → Counted (value_if (sol_kind bit) s b d r t)
      go false b = tt
      go true true = le_refl 1
      go true false = counted-times ((sol_kind bit).own r) (over_tuples (sol_kind bit) τs) (le_refl 1) (counted-sum τs each)

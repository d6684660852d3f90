-- Results and rows that are all zero.
--     is_zero→, nothing→, →nothing, is_blank→     the tests as facts
--     nothing_is            no mark, mark and best weight, in the order of the code's tests
--     Blank, empty→blank, blank_entry, blank→empty     row i of a table is all zero, array by array
--     empty_entry, entry_empty     and as the empty row
--     blank-past            past its rows, and past its arrays, a table shows nothing but zeros
-- Assumes nothing.
use mathlib.Core.Path.{◌≡◌, sym, ap, ◌∙◌, subst}
use mathlib.Core.Bool.{Bool, ◌&&◌, and_assoc}
use mathlib.Core.List.{List}
use Prim.Native.Nat.{ℕ, ◌+◌, ◌*◌, ◌≤◌, ◌<◌}
use native.Mathlib.Decide.{dec_le}
use native.Mathlib.Omega.{arith}
use lib.Dec.{T, eqb, eqb→eq}
use lib.IntN.{ℤ, pos, nat_abs}
use lib.ListN.{get_or, length, get_or-eq_default}
use Rattle.laws.specs.Limits.{row_cap, word_values}
use Rattle.laws.proofs.Integers.{zero_of_abs}
use Rattle.laws.proofs.Tests.{T_and, and_T, bool_ext, eq→eqb}
use Rattle.trees.specs.Rows.{Entry}
use Rattle.trees.specs.Result.{Result, blank}
use Rattle.kept.specs.declared.fields.Fields.{Fields}
use Rattle.kept.specs.declared.table.Table.{Table}
use Rattle.kept.specs.View.{row_at, result_at, entry_at}
use Rattle.kept.specs.Blank.{is_zero, is_nothing, is_blank, is_empty, empty_row}
use Rattle.kept.specs.Arrays.{Sized}
use Rattle.kept.specs.Fields.{result_in}

-- ---- results
pub is_zero→ : (z : ℤ) → T (is_zero z) → z ≡ pos 0
is_zero→ z h = zero_of_abs z (eqb→eq (nat_abs z) 0 h)

pub nothing→ : (v : Result) → T (is_nothing v) → (v.members ≡ 0) × (v.mark ≡ 0) × (v.best ≡ pos 0)
nothing→ v h =
    let p = T_and (eqb v.members 0) _ h in
    let q = T_and (eqb v.mark 0) (is_zero v.best) p.1 in
    (eqb→eq _ 0 p.0, eqb→eq _ 0 q.0, is_zero→ v.best q.1)

pub →nothing : (v : Result) → v.members ≡ 0 → v.mark ≡ 0 → v.best ≡ pos 0 → T (is_nothing v)
→nothing v a b c = rw (a, b, c) tt

pub is_blank→ : (v : Result) → T (is_blank v) → v ≡ blank
is_blank→ v h =
    let p = T_and (eqb v.length 0) _ h in
    let q = T_and (eqb v.count 0) (is_nothing v) p.1 in
    let n = nothing→ v q.1 in
    let a = eqb→eq v.length 0 p.0 in
    let b = eqb→eq v.count 0 q.0 in
    rw (a, b, n.0, n.1, n.2)

-- the members are none where both words are zero
words-zero : (lo hi : ℕ) → eqb (lo + word_values * hi) 0 ≡ (eqb lo 0 && eqb hi 0)
words-zero lo hi = bool_ext _ _ to from
  where
    to : T (eqb (lo + word_values * hi) 0) → T (eqb lo 0 && eqb hi 0)
    to h =
        let e = eqb→eq (lo + word_values * hi) 0 h in
        and_T (eqb lo 0) (eqb hi 0) (eq→eqb lo 0 (omega arith)) (eq→eqb hi 0 (omega arith))

    from : T (eqb lo 0 && eqb hi 0) → T (eqb (lo + word_values * hi) 0)
    from h =
        let q = T_and (eqb lo 0) (eqb hi 0) h in
        eq→eqb (lo + word_values * hi) 0 (omega (arith, eqb→eq lo 0 q.0, eqb→eq hi 0 q.1))

pub nothing_is : (r : Fields) → is_nothing (result_in r) ≡ (eqb r.low 0 && (eqb r.high 0 && (eqb r.mark 0 && is_zero r.best)))
nothing_is r =
    ap (λ (x : Bool). x && (eqb r.mark 0 && is_zero r.best)) (words-zero r.low r.high) ∙ and_assoc (eqb r.low 0) _ _

-- ---- rows
pub record Blank (t : Table) (i : ℕ) : Type 0 where
  pub cluster : get_or t.clusters i 0 ≡ 0
  pub weight : get_or t.weights i (pos 0) ≡ pos 0
  pub state : get_or t.states i 0 ≡ 0
  pub length : get_or t.lengths i 0 ≡ 0
  pub count : get_or t.counts i 0 ≡ 0
  pub mark : get_or t.marks i 0 ≡ 0
  pub best : get_or t.bests i (pos 0) ≡ pos 0
  pub low : get_or t.members_low i 0 ≡ 0
  pub high : get_or t.members_high i 0 ≡ 0

pub empty→blank : (t : Table) (i : ℕ) → T (is_empty (entry_at t i)) → Blank t i
empty→blank t i h =
    let r = row_at t i in
    let v = result_at t i in
    let a = T_and (eqb r.cluster 0) _ h in
    let b = T_and (is_zero r.weight) _ a.1 in
    let c = T_and (eqb r.state 0) (is_blank v) b.1 in
    let e : v ≡ blank = is_blank→ v c.1 in
    let m : v.members ≡ 0 = ap (λ (x : Result). x.members) e in
    record {
      cluster = eqb→eq r.cluster 0 a.0;
      weight = is_zero→ r.weight b.0;
      state = eqb→eq r.state 0 c.0;
      length = ap (λ (x : Result). x.length) e;
      count = ap (λ (x : Result). x.count) e;
      mark = ap (λ (x : Result). x.mark) e;
      best = ap (λ (x : Result). x.best) e;
      low = omega (arith, m);
      high = omega (arith, m);
    }

pub blank_entry : (t : Table) (i : ℕ) → Blank t i
    → entry_at t i ≡ empty_row
blank_entry t i b = λ k. record {
  row = record { cluster = b.cluster k; weight = b.weight k; state = b.state k };
  val = record {
    length = b.length k;
    count = b.count k;
    mark = b.mark k;
    best = b.best k;
    members = b.low k + word_values * b.high k;
  };
}

pub empty_entry : (t : Table) (i : ℕ) → T (is_empty (entry_at t i)) → entry_at t i ≡ empty_row
empty_entry t i h = blank_entry t i (empty→blank t i h)

pub entry_empty : {e : Entry Result} → e ≡ empty_row → T (is_empty e)
entry_empty q = subst (λ (e : Entry Result). T (is_empty e)) (sym q) tt

pub blank→empty : (t : Table) (i : ℕ) → Blank t i → T (is_empty (entry_at t i))
blank→empty t i b = entry_empty (blank_entry t i b)

-- past the array's end there is nothing but the default
pub blank-past : (t : Table) → Sized t → ((i : ℕ) → t.rows ≤ i → i < row_cap → T (is_empty (entry_at t i)))
    → (i : ℕ) → t.rows ≤ i → Blank t i
blank-past t s b i l = go (dec_le row_cap i)
  where
    out : {A : Type 0} (a : List A) (z : A) → length a ≡ row_cap → row_cap ≤ i → get_or a i z ≡ z
    out a z e k = get_or-eq_default a z (omega (arith, e, k))

    go : Dec (row_cap ≤ i) → Blank t i
    go (yes k) = record {
      cluster = out t.clusters 0 s.clusters k;
      weight = out t.weights (pos 0) s.weights k;
      state = out t.states 0 s.states k;
      length = out t.lengths 0 s.lengths k;
      count = out t.counts 0 s.counts k;
      mark = out t.marks 0 s.marks k;
      best = out t.bests (pos 0) s.bests k;
      low = out t.members_low 0 s.lows k;
      high = out t.members_high 0 s.highs k;
    }
    go (no k) = empty→blank t i (b i l (omega arith))

-- A row whose results may be added up stands for one part of a tuple: its fields, and the code's form of them, are the encoding of the
-- count and key that they decode to, and those keep what sums keep.
--     good_of_fit              a fit row may be added up
--     encode_with, encode_decoded     the fields of a row encode what they decode to, beside any row length and beside the row's own
--     tally_encode             a result as a tally: the tally of what it encodes
--     fields_tally_lem             the tally of what a row stands for has the row's own fields
--     decoded_keeps            what a row stands for keeps what sums keep
-- Assumes nothing.
use mathlib.Core.Path.{◌≡◌, refl, sym, ap, ◌∙◌}
use mathlib.Core.Logic.{◌⊎◌, inl, inr, ◌≢◌}
use mathlib.Core.Bool.{Bool, cond}
use mathlib.Core.Option.{Option, none, some}
use mathlib.Core.List.{List}
use mathlib.Core.List.{Memᴰ as Mem}
use Prim.Native.Nat.{ℕ, ◌+◌, ◌*◌, ◌/◌, ◌%◌, ◌≤◌, ◌<◌}
use native.Mathlib.Decide.{ℕ_discrete}
use native.Mathlib.Omega.{arith}
use borrow.Author.Tests.{eq-eqb, ne_eqb}
use lib.Dec.{T}
use Rattle.laws.specs.Cluster.{inside}
use Rattle.laws.specs.Limits.{Width, word_values}
use Rattle.laws.specs.Orders.{Falling}
use Rattle.laws.specs.Row.{Row}
use Rattle.laws.proofs.Cluster.{le_of_inside}
use Rattle.laws.proofs.Taxa.{size_pos}
use Rattle.trees.specs.Result.{Result, count_field, mark_field}
use Rattle.trees.specs.Rows.{Entry}
use Rattle.trees.specs.Solution.{Sol, Res}
use Rattle.trees.proofs.Counting.Capped.{encode, encode_sol, count_small, count_large}
use Rattle.kept.specs.Fit.{fit_entry}
use Rattle.kept.specs.Marks.{is_marked_in}
use Rattle.kept.specs.Facts.{Matched}
use Rattle.kept.proofs.Laws.Results.{matched→, →matched}
use Rattle.kept.proofs.Laws.Fit.{fit→}
use Rattle.table.specs.Tally.{tally_with, tally_of, fields_tally, decoded}
use Rattle.table.specs.Searched.{GoodRow}
use Rattle.table.proofs.Tallies.Held.{Keeps}
use Rattle.table.proofs.Rows.Marked.{marked-mem, every_marked→, marks_of-marked}

pub good_of_fit : (W : Width) (cs : List ℕ) (e : Entry Result) → T (fit_entry W cs e) → GoodRow W.count_max cs e.row e.val
good_of_fit W cs e h =
    let f = fit→ W cs e h in
    record { counted = f.ranged.counted; marked = f.ranged.marked; matched = →matched cs e.row e.val f.matched }

-- ---- what the fields stand for

-- a count that isn't zero, with its key
abbrev whole : Result → Sol
whole v = (v.count + v.mark, (v.best, v.members))

decoded_dead : (v : Result) → v.count ≡ 0 → decoded v ≡ none
decoded_dead v e = ap (λ (b : Bool). cond b none (some (whole v))) (eq-eqb v.count 0 e)

decoded-live : (v : Result) → v.count ≢ 0 → decoded v ≡ some (whole v)
decoded-live v n = ap (λ (b : Bool). cond b none (some (whole v))) (ne_eqb v.count 0 n)

-- a count within the limit, with a mark beside the limit only
fields_count : (limit n m : ℕ) → n ≤ limit → (m ≡ 0) ⊎ ((m ≡ 1) × (n ≡ limit))
    → (count_field limit (n + m) ≡ n) × (mark_field limit (n + m) ≡ m)
fields_count limit n m h (inl e) =
    let q = count_small limit (n + m) (omega arith) in
    (q.0 ∙ omega arith, q.1 ∙ sym e)
fields_count limit n m h (inr e) =
    let q = count_large limit (n + m) (omega (arith, e.0, e.1)) in
    (q.0 ∙ sym e.1, q.1 ∙ sym e.0)

pub tally_encode : (limit : ℕ) (x : Res) → fields_tally (encode limit x) ≡ tally_of limit x
tally_encode limit x = go x.1
  where
    go : (v : Option Sol) → fields_tally (encode_sol limit x.0 v) ≡ tally_with limit x.0 v
    go none = refl
    go (some y) = refl

module _ (limit : ℕ) (cs : List ℕ) (r : Row) (v : Result) (g : GoodRow limit cs r v) where
  tells : Matched cs r v
  tells = matched→ cs r v g.matched

  -- beside any row length
  pub encode_with : (n : ℕ)
      → encode_sol limit n (decoded v) ≡ record { length = n; count = v.count; mark = v.mark; best = v.best; members = v.members }
  encode_with n = go (ℕ_discrete v.count 0)
    where
      go : Dec (v.count ≡ 0)
          → encode_sol limit n (decoded v) ≡ record { length = n; count = v.count; mark = v.mark; best = v.best; members = v.members }
      go (yes e) =
          let u = tells.none e in
          ap (encode_sol limit n) (decoded_dead v e)
          ∙ (λ i. record { length = n; count = sym e i; mark = sym u.1 i; best = sym u.2 i; members = sym u.0 i })
      go (no d) =
          let q = fields_count limit v.count v.mark g.counted g.marked in
          ap (encode_sol limit n) (decoded-live v d)
          ∙ (λ i. record { length = n; count = q.0 i; mark = q.1 i; best = v.best; members = v.members })

  pub encode_decoded : encode limit (v.length, decoded v) ≡ v
  encode_decoded = encode_with v.length

  pub fields_tally_lem : (n low high : ℕ) → low < word_values → v.members ≡ low + word_values * high
      → record { tuples = n; count = v.count; mark = v.mark; best = v.best; low = low; high = high } ≡ tally_with limit n (decoded v)
  fields_tally_lem n low high h e =
      let l : low ≡ v.members % word_values = omega arith in
      let t : high ≡ v.members / word_values = omega arith in
      (λ i. record { tuples = n; count = v.count; mark = v.mark; best = v.best; low = l i; high = t i })
      ∙ ap fields_tally (sym (encode_with n))
      ∙ tally_encode limit (n, decoded v)

  pub decoded_keeps : (b : ℕ) → Falling cs → ((c : ℕ) → Mem c cs → c ≢ 0) → r.cluster ≢ 0 → r.cluster < b
      → Keeps cs b 1 r.cluster (decoded v)
  decoded_keeps b f full n l = go (ℕ_discrete v.count 0)
    where
      go : Dec (v.count ≡ 0) → Keeps cs b 1 r.cluster (decoded v)
      go (yes e) = rw (decoded_dead v e) tt
      go (no d) = rw (decoded-live v d) (record {
        counted = omega arith;
        members = is_marked_in cs v.members;
        coded = marks_of-marked cs v.members f tells.below;
        nonzero = λ c t. full c (marked-mem cs v.members c t);
        within = within;
        below = λ c t. omega (arith, le_of_inside c r.cluster (within c t));
        light = omega (arith, size_pos r.cluster n, tells.light d);
      })
        where
          within : (c : ℕ) → T (is_marked_in cs v.members c) → T (inside c r.cluster)
          within = every_marked→ cs v.members (λ (c : ℕ). inside c r.cluster) (tells.inner d)

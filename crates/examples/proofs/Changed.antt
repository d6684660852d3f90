-- Which rows differ between two tables: a test, and what it shows.
--     is_same_row, is_same_entry    two rows hold the same: as listed, and with their results
--     is_changed t u cs          of the rows of t, exactly those of the clusters cs differ
--     changed→                  so it is
-- Assumes nothing.
use mathlib.Core.Path.{◌≡◌, refl, sym, subst}
use mathlib.Core.Bool.{Bool, true, false, not, cond, ◌&&◌}
use mathlib.Core.List.{List}
use Prim.Native.Nat.{ℕ}
use lib.Dec.{T, eqb, eqb→eq, eqb_refl}
use Rattle.laws.specs.Lists.{every, elem}
use Rattle.laws.specs.Orders.{places}
use Rattle.laws.specs.Row.{Row}
use Rattle.laws.proofs.Down.{every→down}
use Rattle.laws.proofs.Tests.{T_and, and_T}
use Rattle.trees.specs.Rows.{Entry}
use Rattle.trees.specs.Result.{Result}
use Rattle.kept.specs.declared.table.Table.{Table}
use Rattle.kept.specs.View.{row_at, entry_at}
use Rattle.members.specs.Marked.{is_same}
use Rattle.members.proofs.Laws.Draw.{is_same_refl, is_same→}
use Rattle.examples.specs.Right.{Changes}

-- ---- rows

abbrev pub is_same_row : Row → Row → Bool
is_same_row r q = eqb r.cluster q.cluster && is_same r.weight q.weight && eqb r.state q.state

abbrev is_same_count : Result → Result → Bool
is_same_count v w = eqb v.length w.length && eqb v.count w.count && eqb v.mark w.mark

abbrev is_same_best : Result → Result → Bool
is_same_best v w = is_same v.best w.best && eqb v.members w.members

abbrev pub is_same_entry : Entry Result → Entry Result → Bool
is_same_entry e f = is_same_row e.row f.row && (is_same_count e.val f.val && is_same_best e.val f.val)

three→ : (a b c : Bool) → T (a && b && c) → T a × T b × T c
three→ a b c h = let q = T_and (a && b) c h in let p = T_and a b q.0 in (p.0, p.1, q.1)

→three : (a b c : Bool) → T a → T b → T c → T (a && b && c)
→three a b c x y z = and_T (a && b) c (and_T a b x y) z

row→ : (r q : Row) → T (is_same_row r q) → r ≡ q
row→ r q h =
    let p = three→ (eqb r.cluster q.cluster) (is_same r.weight q.weight) (eqb r.state q.state) h in
    λ i. record {
      cluster = eqb→eq r.cluster q.cluster p.0 i;
      weight = is_same→ r.weight q.weight p.1 i;
      state = eqb→eq r.state q.state p.2 i;
    }

result→ : (v w : Result) → T (is_same_count v w) → T (is_same_best v w) → v ≡ w
result→ v w h k =
    let p = three→ (eqb v.length w.length) (eqb v.count w.count) (eqb v.mark w.mark) h in
    let b = T_and (is_same v.best w.best) (eqb v.members w.members) k in
    λ i. record {
      length = eqb→eq v.length w.length p.0 i;
      count = eqb→eq v.count w.count p.1 i;
      mark = eqb→eq v.mark w.mark p.2 i;
      best = is_same→ v.best w.best b.0 i;
      members = eqb→eq v.members w.members b.1 i;
    }

entry→ : (e f : Entry Result) → T (is_same_entry e f) → e ≡ f
entry→ e f h =
    let q = T_and (is_same_row e.row f.row) (is_same_count e.val f.val && is_same_best e.val f.val) h in
    let p = T_and (is_same_count e.val f.val) (is_same_best e.val f.val) q.1 in
    λ i. record { row = row→ e.row f.row q.0 i; val = result→ e.val f.val p.0 p.1 i }

entry_refl : (e : Entry Result) → T (is_same_entry e e)
entry_refl e =
    let r = e.row in
    let v = e.val in
    let row = →three (eqb r.cluster r.cluster) (is_same r.weight r.weight) (eqb r.state r.state)
    (eqb_refl r.cluster) (is_same_refl r.weight) (eqb_refl r.state) in
    let counts = →three (eqb v.length v.length) (eqb v.count v.count) (eqb v.mark v.mark)
    (eqb_refl v.length) (eqb_refl v.count) (eqb_refl v.mark) in
    let best = and_T (is_same v.best v.best) (eqb v.members v.members)
    (is_same_refl v.best) (eqb_refl v.members) in
    and_T (is_same_row r r) (is_same_count v v && is_same_best v v) row (and_T (is_same_count v v) (is_same_best v v) counts best)

-- ---- all rows

abbrev agree : Bool → Bool → Bool
agree a b = cond a b (not b)

agree→ : (a b : Bool) → T (agree a b) → a ≡ b
agree→ true true h = refl
agree→ true false h = absurd h
agree→ false true h = absurd h
agree→ false false h = refl

module _ (t u : Table) (cs : List ℕ) where
  abbrev is_right : ℕ → Bool
  is_right i = agree (is_same_entry (entry_at t i) (entry_at u i)) (not (elem (row_at t i).cluster cs))

  abbrev pub is_changed : Bool
  is_changed = every is_right (places t.rows)

  pub changed→ : T is_changed → Changes t u cs
  changed→ h i l =
      let at = every→down is_right (λ (i : ℕ). i) t.rows h i l in
      let e = agree→ (is_same_entry (entry_at t i) (entry_at u i)) (not (elem (row_at t i).cluster cs)) at in (
        λ p. subst T e (subst (λ (f : Entry Result). T (is_same_entry (entry_at t i) f)) p (entry_refl (entry_at t i))),
        λ k. entry→ (entry_at t i) (entry_at u i) (subst T (sym e) k),
      )

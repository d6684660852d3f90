-- The results of a fit row as facts, and in the order of the code's tests.
--     ranged→, →ranged        the ranges of a row's results
--     matched→, →matched     what the count says of marks and best weight
--     matched_tests, matched_is        a count that isn't zero, as the code tests it
--     most_is, minus_fits             the bound of a best weight, as the code has it
-- Assumes nothing.
use mathlib.Core.Path.{◌≡◌, sym, ap, ◌∙◌, subst}
use mathlib.Core.Logic.{⊎_elim, ⊎_map, ◌≢◌}
use mathlib.Core.Bool.{Bool, ◌&&◌, ◌||◌, and_assoc}
use mathlib.Core.List.{List}
use Prim.Native.Nat.{ℕ, zero, suc, ◌-◌, ◌*◌, ◌^◌, ◌≤◌, ◌<◌}
use native.Mathlib.Decide.{ℕ_discrete}
use native.Mathlib.Omega.{arith}
use borrow.Author.Tests.{eq-eqb, ne_eqb}
use lib.Dec.{T, eqb, leb, ltb, eqb→eq, leb→le, le→leb, ltb→lt, lt→ltb}
use lib.IntN.{pos, neg_ℤ, ◌*ℤ◌, pos-*ℤ-pos}
use lib.ListN.{length, get_or}
use lib.Pow.{pow_pos}
use mir.Facts.{to_z_pos}
use mir.Syntax.{w64}
use mir.Val.{SFits, to_z}
use Rattle.laws.specs.Cluster.{inside, size, single}
use Rattle.laws.specs.Limits.{Width, weight_max, word_values}
use Rattle.laws.specs.Row.{Row, is_scored}
use Rattle.laws.proofs.Down.{down_length}
use Rattle.laws.proofs.Tests.{T_and, and_T, T-or, or_l, or_r, imp→, →imp, else→, →else, eq→eqb}
use Rattle.trees.specs.Result.{Result}
use Rattle.kept.specs.declared.fields.Fields.{Fields}
use Rattle.kept.specs.View.{clusters_down}
use Rattle.kept.specs.Blank.{is_blank}
use Rattle.kept.specs.Marks.{has_mark, is_marked_in, are_inside}
use Rattle.kept.specs.Results.{is_length, is_mark, is_ranged, is_light, is_matched}
use Rattle.kept.specs.Facts.{Ranged, Matched}
use Rattle.kept.specs.Fields.{listed_in, result_in, every_bit, is_mark_fit, AtRow}
use Rattle.kept.proofs.Laws.Blank.{nothing→, →nothing, is_blank→}
use Rattle.kept.proofs.Laws.Clusters.{every_marked_is, is_marked_in_is}
use Rattle.kept.proofs.Laws.Words.{words_are}

-- ---- the ranges
module _ (W : Width) (r : Row) (v : Result) where
  pub ranged→ : T (is_ranged W r v) → Ranged W r v
  ranged→ h =
      let p = T_and (is_length W r v) _ h in
      let l = T_and (leb v.length W.length_max) _ p.0 in
      let q = T_and (leb v.count W.count_max) _ p.1 in
      let s = T_and (is_mark W v.mark v.count) (is_scored r || is_blank v) q.1 in record {
        tuples = leb→le _ _ l.0;
        counted = leb→le _ _ q.0;
        marked = ⊎_map (eqb→eq _ 0) mark-one (T-or (eqb v.mark 0) _ s.0);
        taxon = λ k. eqb→eq _ 0 (imp→ (single r.cluster) _ l.1 k);
        unscored = λ n. is_blank→ v (else→ (is_scored r) (is_blank v) s.1 n);
      }
    where
      mark-one : T (eqb v.mark 1 && eqb v.count W.count_max) → (v.mark ≡ 1) × (v.count ≡ W.count_max)
      mark-one h = let q = T_and (eqb v.mark 1) _ h in (eqb→eq _ 1 q.0, eqb→eq _ _ q.1)

  pub →ranged : Ranged W r v → T (is_ranged W r v)
  →ranged f =
      and_T (is_length W r v) _ length_in
      (and_T (leb v.count W.count_max) _ (le→leb _ _ f.counted)
      (and_T (is_mark W v.mark v.count) _ mark_in_lem
      (→else (is_scored r) (is_blank v) (λ n. subst (λ (x : Result). T (is_blank x)) (sym (f.unscored n)) tt))))
    where
      length_in : T (is_length W r v)
      length_in =
          and_T (leb v.length W.length_max) _ (le→leb _ _ f.tuples) (→imp (single r.cluster) _ (λ k. eq→eqb _ 0 (f.taxon k)))

      mark_in_lem : T (is_mark W v.mark v.count)
      mark_in_lem = ⊎_elim (λ e. or_l (eqb v.mark 0) _ (eq→eqb _ _ e))
          (λ e. or_r (eqb v.mark 0) _ (and_T (eqb v.mark 1) _ (eq→eqb _ _ e.0) (eq→eqb _ _ e.1))) f.marked

-- ---- what a count of zero, and any other count, says
module _ (cs : List ℕ) (r : Row) (v : Result) where
  abbrev own_test : Bool
  own_test = is_marked_in cs v.members r.cluster

  abbrev below_test : Bool
  below_test = ltb v.members (2 ^ length cs)

  pub matched→ : T (is_matched cs r v) → Matched cs r v
  matched→ h = go (ℕ_discrete v.count 0)
    where
      go : Dec (v.count ≡ 0) → Matched cs r v
      go (yes e) =
          let q = nothing→ v (rw (eq-eqb _ _ e) at h) in record {
            below = omega (arith, q.0, pow_pos (length cs));
            none = λ _. q;
            own = λ n. absurd (n e);
            inner = λ n. absurd (n e);
            light = λ n. absurd (n e);
          }
      go (no n) =
          let p = T_and own_test _ (rw (ne_eqb _ _ n) at h) in
          let q = T_and (are_inside cs v.members r.cluster) _ p.1 in
          let s = T_and below_test _ q.0 in record {
            below = ltb→lt _ _ s.0;
            none = λ e. absurd (n e);
            own = λ _. p.0;
            inner = λ _. s.1;
            light = λ _. leb→le _ _ q.1;
          }

  pub →matched : Matched cs r v → T (is_matched cs r v)
  →matched f = go (ℕ_discrete v.count 0)
    where
      go : Dec (v.count ≡ 0) → T (is_matched cs r v)
      go (yes e) = let q = f.none e in rw (eq-eqb _ _ e) (→nothing v q.0 q.1 q.2)
      go (no n) =
          let marks = and_T below_test _ (lt→ltb _ _ f.below) (f.inner n) in
          rw (ne_eqb _ _ n)
          (and_T own_test _ (f.own n) (and_T (are_inside cs v.members r.cluster) _ marks (le→leb _ _ (f.light n))))

-- ---- a count that isn't zero, as the code tests it
abbrev pub matched_tests : List ℕ → ℕ → Fields → Bool
matched_tests cs i r =
    has_mark (result_in r).members i
    && (every_bit r.low 64 (is_mark_fit cs r.cluster 0)
    && (every_bit r.high 64 (is_mark_fit cs r.cluster 64)
    && is_light r.best (size r.cluster)))

module _ (cs : List ℕ) (i : ℕ) (r : Fields) (small : r.low < word_values) (short : r.high < word_values) where
  abbrev inner : ℕ → Bool
  inner j = inside (get_or cs j 0) r.cluster

  abbrev light_test : Bool
  light_test = is_light r.best (size r.cluster)

  -- both words, by row number
  inside_is : are_inside (clusters_down cs (length cs)) (result_in r).members r.cluster
      ≡ (every_bit r.low 64 (is_mark_fit cs r.cluster 0) && every_bit r.high 64 (is_mark_fit cs r.cluster 64))
  inside_is =
      rw (down_length (λ (j : ℕ). get_or cs j 0) (length cs), every_marked_is cs (length cs) (result_in r).members (λ c. inside c r.cluster))
      (sym (words_are (length cs) inner r.low r.high small short))

  pub matched_is : r.count ≢ 0 → AtRow cs i r
      → is_matched (clusters_down cs (length cs)) (listed_in r) (result_in r) ≡ matched_tests cs i r
  matched_is e at =
      rw (ne_eqb _ _ e, inside_is, and_assoc (every_bit r.low 64 (is_mark_fit cs r.cluster 0)) _ light_test)
      (ap (λ (b : Bool). b && rest) (ap (is_marked_in (clusters_down cs (length cs)) (result_in r).members) at.own
      ∙ is_marked_in_is cs (length cs) _ i at.rising at.place))
    where
      rest : Bool
      rest = every_bit r.low 64 (is_mark_fit cs r.cluster 0) && (every_bit r.high 64 (is_mark_fit cs r.cluster 64) && light_test)

-- ---- the bound of a best weight, as the code has it
pub most_is : (n : ℕ) → 1 ≤ n → n ≤ 64 → pos weight_max *ℤ to_z w64 (2 * n - 1) ≡ pos (weight_max * (2 * n - 1))
most_is n l h = rw (to_z_pos w64 {n = 2 * n - 1} (omega arith)) (pos-*ℤ-pos weight_max (2 * n - 1))

pub minus_fits : (m : ℕ) → m < 2 ^ 63 → SFits w64 (neg_ℤ (pos m))
minus_fits zero h = record { sfits = omega arith }
minus_fits (suc m) h = record { sfits = omega arith }

-- What stands in a row of a fit table that is worked out over all rows of the table.
--     worked-row     the row is as the rules' formulas say
-- Assumes nothing.
use mathlib.Core.Path.{◌≡◌, refl, sym, ap, ◌∙◌, subst, subst₂}
use mathlib.Core.Logic.{◌⊎◌, inl, inr, ◌≢◌, ◌↔◌}
use mathlib.Core.Bool.{Bool, true, false, not, cond, ◌&&◌}
use mathlib.Core.Option.{Option, none, some}
use mathlib.Core.List.Memᴰ
use mathlib.Core.List.{List, map}
use mathlib.Core.List.Memᴰ.{not-nil as mem-nil}
use mathlib.Core.List.{Memᴰ as Mem}
use Prim.Native.Nat.{ℕ, ◌+◌, ◌<◌}
use native.Mathlib.Decide.{dec_lt}
use native.Mathlib.Omega.{arith}
use lib.Dec.{T, eqb→eq, lt→ltb}
use lib.IntN.{◌+ℤ◌}
use lib.ListN.{length, length-map}
use Rattle.laws.specs.Cluster.{single}
use Rattle.laws.specs.Limits.{Width}
use Rattle.laws.specs.Lists.{keep, sublists}
use Rattle.laws.specs.Row.{Row, is_scored}
use Rattle.laws.proofs.Appended.{map-through}
use Rattle.laws.proofs.Down.{down_mem}
use Rattle.laws.proofs.Falling.{keep-only}
use Rattle.laws.proofs.Keep.{mem-keep, mem_of_keep, keep-map}
use Rattle.laws.proofs.Tests.{bool_ext, T-or, or_l, or_r, eq→eqb, cond_true, cond_false}
use Rattle.trees.specs.Rows.{scored_in, cl, sc}
use Rattle.trees.specs.Tuple.{is_tuple, tuples}
use Rattle.trees.specs.Heaviest.{tie_first}
use Rattle.trees.specs.Result.{Result, blank, marks_in}
use Rattle.trees.specs.Built.{row_length}
use Rattle.trees.specs.Beneath.{Beneath, is_live, is_many, sum_counts, Key, key_first, key_of, first_key}
use Rattle.trees.specs.Rescored.{own_mark, joined, alone, together, worked_out}
use Rattle.trees.proofs.Formula.RowLength.{tuples-clusters}
use Rattle.trees.proofs.Sets.Families.{Fam, one, join}
use Rattle.trees.proofs.Ties.KeyOrder.{Before, heavier, level, →before}
use Rattle.trees.proofs.Ties.Marks.{marks_join, marks_inj}
use Rattle.trees.proofs.Ties.TieRule.{tie_is_marks}
use Rattle.kept.specs.declared.table.Table.{Table}
use Rattle.kept.specs.Marks.{is_marked_in}
use Rattle.kept.specs.View.{row_at, result_at, entry_at, entries_of, clusters_in}
use Rattle.table.proofs.Fitting.FitTables.{FitRows, fit-nonzero}
use Rattle.demands.specs.Worked.{tuples_at, live_at, marked_set, joined_set, sum_bests, Chosen, Joined, WorkedRow}
use Rattle.trees.proofs.Counting.FirstKey.{Found, nothing, leads, found, dead_sum, dead_many}
use Rattle.demands.proofs.Worked.Tuples.{member_in, set_of_marks, Live, live→, key_is, no_common, member_other, same-members}

-- ---- the row length

module _ (d : ℕ) (es : List Beneath) where
  scored-rows : map cl (keep sc es) ≡ scored_in (map (λ (e : Beneath). e.row) es)
  scored-rows =
      sym (map-through (λ (e : Beneath). e.row) (λ (r : Row). r.cluster) cl (λ e. refl) (keep sc es))
      ∙ ap (map (λ (r : Row). r.cluster)) (sym (keep-map (λ (e : Beneath). e.row) is_scored es))

  tuples-count : (C : ℕ) → length (tuples d C (keep sc es))
      ≡ length (keep (is_tuple d C) (sublists (scored_in (map (λ (e : Beneath). e.row) es))))
  tuples-count C =
      sym (length-map (tuples d C (keep sc es)) (map cl))
      ∙ ap length (tuples-clusters d C (keep sc es))
      ∙ ap (λ (l : List ℕ). length (keep (is_tuple d C) (sublists l))) scored-rows

  worked-length : (W : Width) (cs : List ℕ) (r : Row) → (worked_out W d cs r es).length ≡ row_length d (map (λ (e : Beneath). e.row) es) r
  worked-length W cs r = go (is_scored r) (single r.cluster)
    where
      τs : List (List Beneath)
      τs = tuples d r.cluster (keep sc es)

      long : (o : Option Key) → (joined W cs r (length τs) τs o).length ≡ length τs
      long none = refl
      long (some k) = refl

      go : (s b : Bool) → (cond s (cond b (alone cs r) (together W d cs r es)) blank).length
          ≡ cond (s && not b) (length (keep (is_tuple d r.cluster) (sublists (scored_in (map (λ (e : Beneath). e.row) es))))) 0
      go true true = refl
      go true false = long (first_key (map key_of (keep is_live τs))) ∙ tuples-count r.cluster
      go false b = refl

-- ---- the tuple that is chosen

module _ (W : Width) (u : Table) (fit : FitRows W u.degree (entries_of u u.rows)) (i : ℕ) (l : i < u.rows) where
  abbrev es : List Beneath
  es = entries_of u u.rows

  abbrev cs : List ℕ
  cs = clusters_in u

  abbrev r : Row
  r = row_at u i

  abbrev C : ℕ
  C = r.cluster

  listed : Mem C cs
  listed = Memᴰ.map cl (down_mem (entry_at u) u.rows i l)

  living : (τ : List Beneath) → Mem τ (live_at u i) → Live es u.degree C τ
  living τ m = live→ W u.degree es fit C τ m

  -- the members of a tuple's rows, and their marks
  abbrev held : List Beneath → Fam
  held τ = member_in es τ

  abbrev marks : List Beneath → ℕ
  marks τ = marks_in cs (held τ)

  key : (τ : List Beneath) → Mem τ (live_at u i) → key_of τ ≡ (sum_bests τ, marks τ)
  key τ m = key_is W u.degree es fit C τ (living τ m)

  module _ (τ : List Beneath) (m : Mem τ (live_at u i))
      (none_before : (σ : List Beneath) → Mem σ (live_at u i) → T (key_first (key_of σ) (key_of τ)) → ⊥) where
    not-before : (σ : List Beneath) → Mem σ (live_at u i) → Before (sum_bests σ, marks σ) (sum_bests τ, marks τ) → ⊥
    not-before σ k b =
        none_before σ k (subst₂ (λ (x y : Key). T (key_first x y)) (sym (key σ k)) (sym (key τ m))
        (→before (sum_bests σ, marks σ) (sum_bests τ, marks τ) b))

    -- as heavy: the marks are the larger, or they are the same and so are the tuples
    first-set : (σ : List Beneath) → Mem σ (live_at u i) → sum_bests σ ≡ sum_bests τ → (σ ≡ τ) ⊎ T (tie_first (joined_set cs τ) (joined_set cs σ))
    first-set σ k e = go (dec_lt (marks σ) (marks τ)) (dec_lt (marks τ) (marks σ))
      where
        go : Dec (marks σ < marks τ) → Dec (marks τ < marks σ) → (σ ≡ τ) ⊎ T (tie_first (joined_set cs τ) (joined_set cs σ))
        go (yes h) b =
            inr (subst T (sym (tie_is_marks cs fit.falls (fit-nonzero W u.degree es fit) (held τ) (held σ)))
            (lt→ltb (marks σ) (marks τ) h))
        go (no f) (yes h) = absurd (not-before σ k (level e h))
        go (no f) (no g) =
            inl (same-members W u.degree es fit C σ τ (living σ k) (living τ m) (marks_inj cs (held σ) (held τ) (omega arith)))

    -- the row itself, and the members of the tuple
    abbrev both : Fam
    both = join (one C) (held τ)

    both_set : marked_set cs (own_mark cs r + (key_of τ).1) ≡ keep both cs
    both_set =
        ap (λ (x : Key). marked_set cs (own_mark cs r + x.1)) (key τ m)
        ∙ ap (marked_set cs) (sym (marks_join cs (one C) (held τ)
        (λ c s t. member_other W u.degree es fit C τ (living τ m) c t (eqb→eq c C s))))
        ∙ set_of_marks cs both fit.falls

    own-set : (c : ℕ) → Mem c (keep both cs) ↔ ((c ≡ C) ⊎ Mem c (joined_set cs τ))
    own-set c = (λ k. let q = mem_of_keep both cs k in out q.0 (T-or (one C c) (held τ c) q.1), into)
      where
        out : Mem c cs → T (one C c) ⊎ T (held τ c) → (c ≡ C) ⊎ Mem c (joined_set cs τ)
        out k (inl s) = inl (eqb→eq c C s)
        out k (inr t) = inr (mem-keep (held τ) cs k t)

        into : (c ≡ C) ⊎ Mem c (joined_set cs τ) → Mem c (keep both cs)
        into (inl e) = mem-keep both cs (Memᴰ.cast e listed) (or_l (one C c) (held τ c) (eq→eqb c C e))
        into (inr k) = let q = mem_of_keep (held τ) cs k in mem-keep both cs q.0 (or_r (one C c) (held τ c) q.1)

    chosen : (result_at u i).best ≡ r.weight +ℤ (key_of τ).0 → (result_at u i).members ≡ own_mark cs r + (key_of τ).1 → Chosen W u i τ
    chosen b s = record {
      live = m;
      heaviest = λ σ k h. not-before σ k (heavier h);
      best = b ∙ ap (λ (x : Key). r.weight +ℤ x.0) (key τ m);
      own = λ c. subst (λ (l : List ℕ). Mem c l ↔ ((c ≡ C) ⊎ Mem c (joined_set cs τ))) (sym (ap (marked_set cs) s ∙ both_set)) (own-set c);
      first = first-set;
    }

  -- ---- a row of two or more taxa, scored

  joined-row : result_at u i ≡ together W u.degree cs r es → Joined W u i
  joined-row e = go (found (live_at u i))
    where
      limit : ℕ
      limit = W.count_max

      τs : List (List Beneath)
      τs = tuples_at u i

      with_key : {o : Option Key} → first_key (map key_of (live_at u i)) ≡ o → result_at u i ≡ joined W cs r (length τs) τs o
      with_key q = e ∙ ap (joined W cs r (length τs) τs) q

      parted : (τ : List Beneath) → Mem τ (live_at u i) → (e x : Beneath) → Mem e τ → Mem x τ → cl e ≢ cl x
          → (c : ℕ) → Mem c (marked_set cs e.val.members) → Mem c (marked_set cs x.val.members) → ⊥
      parted τ m e x j k n c p q =
          no_common W u.degree es fit C τ (living τ m) e x j k n c (mem_of_keep (is_marked_in cs e.val.members) cs p).1
          (mem_of_keep (is_marked_in cs x.val.members) cs q).1

      sets : (σ τ : List Beneath) → Mem σ (live_at u i) → Mem τ (live_at u i) → joined_set cs σ ≡ joined_set cs τ → σ ≡ τ
      sets σ τ m k q =
          same-members W u.degree es fit C σ τ (living σ m) (living τ k) (λ c j. bool_ext (held σ c) (held τ c)
          (λ h. (mem_of_keep (held τ) cs (subst (Mem c) q (mem-keep (held σ) cs j h))).1)
          (λ h. (mem_of_keep (held σ) cs (subst (Mem c) (sym q) (mem-keep (held τ) cs j h))).1))

      go : Found (live_at u i) → Joined W u i
      go (nothing n) =
          let q = with_key (ap (λ (σs : List (List Beneath)). first_key (map key_of σs)) n) in record {
            many = λ h. absurd (dead_many τs n limit h);
            exact = λ _. (ap (λ (v : Result). v.mark) q, ap (λ (v : Result). v.count) q ∙ sym (dead_sum τs n));
            parted = parted;
            sets = sets;
            none = λ _. (ap (λ (v : Result). v.best) q, ap (λ (v : Result). v.members) q);
            chosen = λ f. absurd (f n);
          }
      go (leads τ m k before) =
          let q = with_key k in record {
            many = λ h. (
              ap (λ (v : Result). v.mark) q ∙ cond_true (is_many limit τs) 1 0 h,
              ap (λ (v : Result). v.count) q ∙ cond_true (is_many limit τs) limit (sum_counts τs) h,
            );
            exact = λ f. (
              ap (λ (v : Result). v.mark) q ∙ cond_false (is_many limit τs) 1 0 f,
              ap (λ (v : Result). v.count) q ∙ cond_false (is_many limit τs) limit (sum_counts τs) f,
            );
            parted = parted;
            sets = sets;
            none = λ n. absurd (mem-nil (subst (Mem τ) n m));
            chosen = λ _. (τ, chosen τ m before (ap (λ (v : Result). v.best) q) (ap (λ (v : Result). v.members) q));
          }

  -- ---- any row

  pub worked-row : result_at u i ≡ worked_out W u.degree cs r es → WorkedRow W u i
  worked-row e = record {
    length = ap (λ (v : Result). v.length) e ∙ worked-length u.degree es W cs r;
    unscored = λ n. e ∙ cond_false (is_scored r) by_taxa blank n;
    taxon = λ s h. let q = e ∙ cond_true (is_scored r) by_taxa blank s ∙ cond_true (single C) (alone cs r) many h in (
      ap (λ (v : Result). v.count) q,
      ap (λ (v : Result). v.mark) q,
      ap (λ (v : Result). v.best) q,
      ap (λ (v : Result). marked_set cs v.members) q ∙ set_of_marks cs (one C) fit.falls ∙ keep-only cs C fit.falls listed,
    );
    joined = λ s n. joined-row (e ∙ cond_true (is_scored r) by_taxa blank s ∙ cond_false (single C) (alone cs r) many n);
  }
    where
      many : Result
      many = together W u.degree cs r es

      by_taxa : Result
      by_taxa = cond (single C) (alone cs r) many

-- A row worked out from fit rows is fit, and so is every row of a table whose rows that contain a cluster are worked out again.
--     decode t                 the count and key that each row stands for
--     Over limit cs r t        the rows t beneath r may be added up
--     worked_is                the rules' row is the encoding of the true row over what the rows beneath stand for
--     found_keeps              what it sums over its tuples is in bounds
--     worked_rooted            and so is what it encodes, the row itself being a member
--     worked_fit               so the row is fit
-- Assumes nothing.
use mathlib.Core.Path.{◌≡◌, refl, sym, ap, ap₂, ◌∙◌, subst}
use mathlib.Core.Logic.{◌⊎◌, inl, inr, ◌≢◌}
use mathlib.Core.Bool.{Bool, true, false, not, cond, ◌&&◌}
use mathlib.Core.Option.{Option, none, some}
use mathlib.Core.List.Memᴰ
use mathlib.Core.List.{List, [], ◌∷◌, map}
use mathlib.Core.List.Memᴰ.{head as here}
use mathlib.Core.List.Memᴰ.{tail as there}
use mathlib.Core.List.{Memᴰ as Mem}
use Prim.Native.Nat.{ℕ, ◌-◌, ◌^◌, ◌≤◌, ◌<◌, zero-le}
use native.Mathlib.Nat.{le_refl, le_trans}
use native.Mathlib.Omega.{arith}
use lib.Dec.{T}
use lib.IntN.{nat_abs}
use lib.ListN.{length, length-map}
use lib.Pow.{pow_pos}
use Rattle.laws.specs.Cluster.{inside, single}
use Rattle.laws.specs.Limits.{Width, weight_max}
use Rattle.laws.specs.Lists.{keep}
use Rattle.laws.specs.Orders.{Falling}
use Rattle.laws.specs.Row.{Row, is_scored}
use Rattle.laws.specs.Widths.{few}
use Rattle.laws.proofs.Choose.{few_mono}
use Rattle.laws.proofs.Keep.{mem_of_keep, length-keep-le, keep_all}
use Rattle.cluster.specs.Rule.{keeps_rules}
use Rattle.cluster.proofs.Laws.Rule.{rules→}
use Rattle.trees.specs.Rows.{Entry, cl, sc}
use Rattle.trees.specs.Tuple.{tuples}
use Rattle.trees.specs.Result.{Result, blank, count_field, mark_field}
use Rattle.trees.specs.Rescored.{joined, alone, worked_out}
use Rattle.trees.specs.Kind.{over_tuples, value_if}
use Rattle.trees.specs.Beneath.{key_of, first_key, is_live}
use Rattle.trees.specs.Solution.{Sol, sol_kind, Res}
use Rattle.trees.proofs.Counting.Capped.{encode, encode_sol, Counted, second, past, count_small, count_large}
use Rattle.trees.proofs.Formula.Kind.{map_e}
use Rattle.trees.proofs.Ties.Marks.{marks-lt, marks_inj}
use Rattle.trees.proofs.Bounds.TupleBound.{entries_le}
use Rattle.trees.proofs.Counting.Worked.{mark_in, length_if, true_result, AllCounted, worked_encode}
use Rattle.kept.specs.Fit.{fit_entry}
use Rattle.kept.specs.Marks.{is_marked_in}
use Rattle.kept.specs.Facts.{Ranged, Matched}
use Rattle.kept.proofs.Laws.Fit.{→fit}
use Rattle.table.specs.Searched.{GoodRow}
use Rattle.table.specs.Tally.{decoded}
use Rattle.table.proofs.Tallies.Decoded.{encode_decoded, decoded_keeps}
use Rattle.table.proofs.Tallies.Held.{Keeps, keeps_counted}
use Rattle.table.proofs.Rows.Marked.{marked-mem, →every_marked, marks_of-marked}
use Rattle.table.proofs.Fitting.Rooted.{tuples-keep, RootedSol, own_rooted, own-times}

-- ---- what the rows beneath stand for

abbrev pub decode : Entry Result → Entry Res
decode = map_e (λ (v : Result). (v.length, decoded v))

pub record Over (limit : ℕ) (cs : List ℕ) (r : Row) (t : List (Entry Result)) : Type 0 where
  pub falls : Falling cs
  pub full : (c : ℕ) → Mem c cs → c ≢ 0
  pub listed : Mem r.cluster cs
  pub light : nat_abs r.weight ≤ weight_max
  pub nonzero : (e : Entry Result) → Mem e t → cl e ≢ 0
  pub less : (e : Entry Result) → Mem e t → cl e < r.cluster
  pub good : (e : Entry Result) → Mem e t → T (sc e) → GoodRow limit cs e.row e.val

decode_back : (limit : ℕ) (cs : List ℕ) (l : List (Entry Result)) → ((e : Entry Result) → Mem e l → GoodRow limit cs e.row e.val)
    → map (map_e (encode limit)) (map decode l) ≡ l
decode_back limit cs [] g = refl
decode_back limit cs (e ∷ l) g =
    ap₂ (λ (v : Result) (t : List (Entry Result)). record { row = e.row; val = v } ∷ t)
    (encode_decoded limit cs e.row e.val (g e (here refl))) (decode_back limit cs l (λ x m. g x (there m)))

-- ---- the row over them

module _ (W : Width) (one-limit : 1 ≤ W.count_max) (d : ℕ) (cs : List ℕ) (r : Row) (t : List (Entry Result))
    (o : Over W.count_max cs r t) where
  abbrev C : ℕ
  C = r.cluster

  abbrev pub beneath : List (Entry Res)
  beneath = map decode (keep sc t)

  scored-good : (e : Entry Result) → Mem e (keep sc t) → GoodRow W.count_max cs e.row e.val
  scored-good e m = let k = mem_of_keep sc t m in o.good e k.0 k.1

  scored_keeps : (e : Entry Result) → Mem e (keep sc t) → Keeps cs C 1 (cl e) (decoded e.val)
  scored_keeps e m =
      let k = (mem_of_keep sc t m).0 in
      decoded_keeps W.count_max cs e.row e.val (scored-good e m) C o.falls o.full (o.nonzero e k) (o.less e k)

  beneath_counted : AllCounted beneath
  beneath_counted x m =
      let q = Memᴰ.of_map decode (keep sc t) m in
      subst (λ (e : Entry Res). Counted e.val.1) q.2
      (keeps_counted cs C 1 (cl q.0) (decoded q.0.val) (scored_keeps q.0 q.1))

  -- only the scored rows count
  worked-scored : worked_out W d cs r t ≡ worked_out W d cs r (keep sc t)
  worked-scored = ap (λ (es : List (Entry Result)). worked_scored es) (sym (keep_all sc (keep sc t) (λ e m. (mem_of_keep sc t m).1)))
    where
      worked_scored : List (Entry Result) → Result
      worked_scored es =
          cond (is_scored r) (cond (single C) (alone cs r)
          (joined W cs r (length (tuples d C es)) (tuples d C es) (first_key (map key_of (keep is_live (tuples d C es)))))) blank

  pub worked_is : worked_out W d cs r t ≡ encode W.count_max (true_result d cs r beneath)
  worked_is =
      worked-scored
      ∙ ap (worked_out W d cs r) (sym (decode_back W.count_max cs (keep sc t) scored-good))
      ∙ worked_encode W one-limit d cs r beneath beneath_counted

  second_keeps : (e : Entry (Option Sol)) → Mem e (keep sc (map second beneath)) → Keeps cs C 1 (cl e) e.val
  second_keeps e m =
      let q = Memᴰ.of_map second beneath (mem_of_keep sc (map second beneath) m).0 in
      let p = Memᴰ.of_map decode (keep sc t) q.1 in
      subst (λ (x : Entry (Option Sol)). Keeps cs C 1 (cl x) x.val) (ap second p.2 ∙ q.2) (scored_keeps p.0 p.1)

  pub found_keeps : Keeps cs C 2 C (over_tuples (sol_kind (mark_in cs)) (tuples d C (keep sc (map second beneath))))
  found_keeps = tuples-keep cs C d C (mark_in cs) (keep sc (map second beneath)) second_keeps

  pub worked_rooted : RootedSol cs C (true_result d cs r beneath).1
  worked_rooted = go (is_scored r) (single C)
    where
      go : (s b : Bool) → RootedSol cs C (value_if (sol_kind (mark_in cs)) s b d r (map second beneath))
      go false b = tt
      go true true = own_rooted cs C (o.full C o.listed) r.weight o.light
      go true false =
          own-times cs C (o.full C o.listed) r.weight o.light
          (over_tuples (sol_kind (mark_in cs)) (tuples d C (keep sc (map second beneath)))) found_keeps

-- ---- an encoded row is fit

-- the two fields of a true count
abbrev InRange : ℕ → ℕ → ℕ → Type 0
InRange limit c m = (1 ≤ c) × (c ≤ limit) × ((m ≡ 0) ⊎ ((m ≡ 1) × (c ≡ limit)))

fields_range : (limit n : ℕ) → 1 ≤ limit → 1 ≤ n → InRange limit (count_field limit n) (mark_field limit n)
fields_range limit n h k = go (past limit n)
  where
    go : (n ≤ limit) ⊎ (limit < n) → InRange limit (count_field limit n) (mark_field limit n)
    go (inl l) = let q = count_small limit n l in (omega (arith, q.0), omega (arith, q.0), inl q.1)
    go (inr l) = let q = count_large limit n l in (omega (arith, q.0), omega (arith, q.0), inr (q.1, q.0))

module _ (limit : ℕ) (one-limit : 1 ≤ limit) (cs : List ℕ) (falls : Falling cs) (r : Row) (listed : Mem r.cluster cs) (n : ℕ) where
  -- the members of a rooted result, as marks
  rooted_matched : (v : Option Sol) → RootedSol cs r.cluster v → Matched cs r (encode_sol limit n v)
  rooted_matched none k = record {
    below = pow_pos (length cs);
    none = λ e. (refl, refl, refl);
    own = λ f. absurd (f refl);
    inner = λ f. absurd (f refl);
    light = λ f. absurd (f refl);
  }
  rooted_matched (some x) k = record {
    below = below;
    none = λ e. absurd (omega (arith, (fields_range limit x.0 one-limit k.held.counted).0, e));
    own = λ f. subst T (sym (same r.cluster listed)) k.own;
    inner = λ f. →every_marked cs x.1.1 (λ (c : ℕ). inside c r.cluster) within;
    light = λ f. omega (arith, k.held.light);
  }
    where
      below : x.1.1 < 2 ^ length cs
      below = rw k.held.coded (marks-lt cs k.held.members)

      same : (c : ℕ) → Mem c cs → is_marked_in cs x.1.1 c ≡ k.held.members c
      same = marks_inj cs (is_marked_in cs x.1.1) k.held.members (sym (marks_of-marked cs x.1.1 falls below) ∙ k.held.coded)

      within : (c : ℕ) → T (is_marked_in cs x.1.1 c) → T (inside c r.cluster)
      within c t = k.held.within c (subst T (same c (marked-mem cs x.1.1 c t)) t)

module _ (W : Width) (one-limit : 1 ≤ W.count_max) (cs : List ℕ) (r : Row) (n : ℕ) where
  encode_ranged : (v : Option Sol) → RootedSol cs r.cluster v → n ≤ W.length_max → (T (single r.cluster) → n ≡ 0)
      → ((T (is_scored r) → ⊥) → encode_sol W.count_max n v ≡ blank) → Ranged W r (encode_sol W.count_max n v)
  encode_ranged none k l s b = record { tuples = l; counted = zero-le; marked = inl refl; taxon = s; unscored = b }
  encode_ranged (some x) k l s b =
      let q = fields_range W.count_max x.0 one-limit k.held.counted in
      record { tuples = l; counted = q.1; marked = q.2; taxon = s; unscored = b }

-- ---- the row worked out is fit

module _ (W : Width) (one-limit : 1 ≤ W.count_max) (d : ℕ) (cs : List ℕ) (r : Row) (t : List (Entry Result))
    (rules : T (keeps_rules W r)) (short : few (length t) (d - 1) ≤ W.length_max) (o : Over W.count_max cs r t) where
  abbrev rows : List (Entry Res)
  rows = beneath W one-limit d cs r t o

  length-few : length (tuples d r.cluster (keep sc rows)) ≤ W.length_max
  length-few =
      let kept = length-map (keep sc t) decode in
      let h : length (keep sc rows) ≤ length t = omega (arith, length-keep-le sc rows, kept, length-keep-le sc t) in
      le_trans (entries_le d r.cluster (keep sc rows))
      (le_trans (few_mono (length (keep sc rows)) (length t) (d - 1) (d - 1) h (le_refl (d - 1))) short)

  length-le : (b : Bool) → length_if b (length (tuples d r.cluster (keep sc rows))) ≤ W.length_max
  length-le true = length-few
  length-le false = zero-le

  pub worked_fit : T (fit_entry W cs (record { row = r; val = worked_out W d cs r t }))
  worked_fit =
      subst (λ (v : Result). T (fit_entry W cs (record { row = r; val = v }))) (sym (worked_is W one-limit d cs r t o))
      (→fit W cs (record { row = r; val = encode W.count_max (true_result d cs r rows) }) (record {
        width = (rules→ W r rules).0;
        rules = (rules→ W r rules).1;
        ranged = encode_ranged W one-limit cs r (true_result d cs r rows).0 (true_result d cs r rows).1 rooted
            (length-le (is_scored r && not (single r.cluster))) (no_length (is_scored r) (single r.cluster))
            (no_result (is_scored r) (single r.cluster));
        matched =
            rooted_matched W.count_max one-limit cs o.falls r o.listed (true_result d cs r rows).0 (true_result d cs r rows).1
            rooted;
      }))
    where
      count : ℕ
      count = length (tuples d r.cluster (keep sc rows))

      rooted : RootedSol cs r.cluster (true_result d cs r rows).1
      rooted = worked_rooted W one-limit d cs r t o

      no_length : (s b : Bool) → T b → length_if (s && not b) count ≡ 0
      no_length true true h = refl
      no_length false true h = refl
      no_length s false h = absurd h

      no_result : (s b : Bool) → (T s → ⊥)
          → encode_sol W.count_max (length_if (s && not b) count) (value_if (sol_kind (mark_in cs)) s b d r (map second rows)) ≡ blank
      no_result true b n = absurd (n tt)
      no_result false b n = refl

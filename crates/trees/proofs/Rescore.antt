-- Rescoring: a new weight and state in one row of a built table, and the rows that contain it worked out again, is the build of the changed
-- rows. Proved for any row formula that looks only at the rows inside a row's cluster, and the rules' formula is one.
--     under C e             the entry lies inside C
--     Local F               the row formula F depends on the entries inside the row's cluster alone
--     tuples_local, worked_local     the tuples, and the rules' formula, are local
--     put_same, put_unlike     the row of the cluster gets the score, and that of another cluster stays
--     put-cluster, put-clusters, put_other         what a new score leaves alone
--     again_is_table, rescore_is_table     the theorem, for any local formula and for that of the rules
--     others F c t          the rows of t that don't contain c
--     again-rows, again-clusters, rescored-clusters     in any table the rows that there are stay, and their clusters
--     rescore_other     and so does every row without the rescored cluster
-- Assumes nothing.
use mathlib.Core.Path.{◌≡◌, refl, sym, ap, ap₂, ◌∙◌, subst}
use mathlib.Core.Logic.{◌⊎◌, inl, inr, ◌≢◌}
use mathlib.Core.Bool.{Bool, true, false, not, cond}
use mathlib.Core.List.Memᴰ
use mathlib.Core.List.{List, [], ◌∷◌, map}
use Prim.Native.Nat.{ℕ}
use borrow.Author.Tests.{eq-eqb, ne_eqb}
use lib.Dec.{T, eqb}
use lib.IntN.{ℤ}
use lib.ListN.{length}
use Rattle.laws.specs.Cluster.{inside, single}
use Rattle.laws.specs.Limits.{Width}
use Rattle.laws.specs.Lists.{keep_if, keep}
use Rattle.laws.specs.Row.{Row, is_scored}
use Rattle.laws.proofs.Tests.{T-dec, T_true, T_false}
use Rattle.laws.proofs.Appended.{map-through}
use Rattle.laws.proofs.Keep.{keep_swap}
use Rattle.laws.proofs.Sublists.{sublists-drop}
use Rattle.laws.proofs.Cluster.{inside_refl, inside_trans}
use Rattle.trees.specs.Rows.{clusters_of, Entry, cl, sc}
use Rattle.trees.specs.Tuple.{is_tuple, tuples}
use Rattle.trees.specs.Result.{Result, blank}
use Rattle.trees.specs.Rescored.{joined, alone, worked_out, put_score, again_if, again, rescored}
use Rattle.trees.specs.Kind.{worked_from}
use Rattle.trees.specs.Beneath.{key_of, first_key, is_live}
use Rattle.trees.proofs.Sets.Tuples.{part_inside}

-- ---- only what lies inside counts

module _ {A : Type 0} where
  abbrev pub under : ℕ → Entry A → Bool
  under C e = inside (cl e) C

  abbrev pub Local : (Row → List (Entry A) → A) → Type 0
  Local F = (r : Row) (t t' : List (Entry A)) → keep (under r.cluster) t ≡ keep (under r.cluster) t' → F r t ≡ F r t'

  pub tuples_local : (d C : ℕ) (es : List (Entry A)) → tuples d C es ≡ tuples d C (keep (under C) es)
  tuples_local d C es =
      sublists-drop (under C) (λ (τ : List (Entry A)). is_tuple d C (map cl τ)) es
      (λ τ h e m. part_inside d C (map cl τ) h (cl e) (Memᴰ.map cl m))

  scored_local : (d C : ℕ) (t t' : List (Entry A)) → keep (under C) t ≡ keep (under C) t' → tuples d C (keep sc t) ≡ tuples d C (keep sc t')
  scored_local d C t t' e =
      tuples_local d C (keep sc t)
      ∙ ap (tuples d C) (keep_swap (under C) sc t ∙ ap (keep sc) e ∙ sym (keep_swap (under C) sc t'))
      ∙ sym (tuples_local d C (keep sc t'))

pub worked_local : (W : Width) (d : ℕ) (cs : List ℕ) → Local (worked_out W d cs)
worked_local W d cs r t t' e =
    ap (λ (τs : List (List (Entry Result))). cond (is_scored r) (cond (single r.cluster) (alone cs r)
    (joined W cs r (length τs) τs (first_key (map key_of (keep is_live τs))))) blank)
    (scored_local d r.cluster t t' e)

-- ---- a new score

module _ (c : ℕ) (z : ℤ) (s : ℕ) where
  pub put-cluster : (r : Row) → (put_score c z s r).cluster ≡ r.cluster
  put-cluster r = go (eqb r.cluster c)
    where
      go : (b : Bool) → (cond b (record { cluster = r.cluster; weight = z; state = s }) r).cluster ≡ r.cluster
      go true = refl
      go false = refl

  -- the row of the cluster, and that of another
  pub put_same : (r : Row) → r.cluster ≡ c → put_score c z s r ≡ record { cluster = r.cluster; weight = z; state = s }
  put_same r e = ap (λ (b : Bool). cond b (record { cluster = r.cluster; weight = z; state = s }) r) (eq-eqb r.cluster c e)

  pub put_unlike : (r : Row) → r.cluster ≢ c → put_score c z s r ≡ r
  put_unlike r n = ap (λ (b : Bool). cond b (record { cluster = r.cluster; weight = z; state = s }) r) (ne_eqb r.cluster c n)

  pub put_other : (r : Row) → (T (inside c r.cluster) → ⊥) → put_score c z s r ≡ r
  put_other r n = put_unlike r (λ e. n (subst (λ (x : ℕ). T (inside c x)) (sym e) (inside_refl c)))

  pub put-clusters : (rs : List Row) → clusters_of (map (put_score c z s) rs) ≡ clusters_of rs
  put-clusters = map-through (put_score c z s) (λ (r : Row). r.cluster) (λ (r : Row). r.cluster) put-cluster

  -- ---- any local row formula
  module _ {A : Type 0} (F : Row → List (Entry A) → A) (local : Local F) where
    abbrev put : Row → Row
    put = put_score c z s

    abbrev put_e : Entry A → Entry A
    put_e e = record { row = put e.row; val = e.val }

    -- the table of the rows, and that of the changed rows
    abbrev before : List Row → List (Entry A)
    before rs = worked_from F rs

    abbrev after : List Row → List (Entry A)
    after rs = worked_from F (map put rs)

    -- they agree inside X
    abbrev Same : List Row → ℕ → Type 0
    Same rs X = keep (under X) (before rs) ≡ keep (under X) (after rs)

    -- the first entry of the one, and of the other
    abbrev old : Row → List Row → Entry A
    old r rs = record { row = r; val = F r (before rs) }

    abbrev new : Row → List Row → Entry A
    new r rs = record { row = put r; val = F (put r) (after rs) }

    same_entry : (r : Row) (rs : List Row) → (T (inside c r.cluster) → ⊥) → Same rs r.cluster → old r rs ≡ new r rs
    same_entry r rs out ih =
        ap (λ (x : A). record { row = r; val = x }) (local r (before rs) (after rs) ih)
        ∙ ap (λ (q : Row). record { row = q; val = F q (after rs) }) (sym (put_other r out))

    -- inside X, which doesn't contain c, nothing changes
    same-below : (rs : List Row) (X : ℕ) → (T (inside c X) → ⊥) → Same rs X
    same-below [] X n = refl
    same-below (r ∷ rs) X n = go (T-dec (inside r.cluster X)) (same-below rs X n) (λ out. same-below rs r.cluster out)
      where
        under_new : under X (new r rs) ≡ inside r.cluster X
        under_new = ap (λ (x : ℕ). inside x X) (put-cluster r)

        go : T (inside r.cluster X) ⊎ (T (inside r.cluster X) → ⊥) → Same rs X
            → ((T (inside c r.cluster) → ⊥) → Same rs r.cluster) → Same (r ∷ rs) X
        go (inr f) ih beneath =
            ap₂ (λ (b : Bool) (l : List (Entry A)). keep_if b (old r rs) l) (T_false (inside r.cluster X) f) ih
            ∙ ap (λ (b : Bool). keep_if b (new r rs) (keep (under X) (after rs))) (sym (under_new ∙ T_false (inside r.cluster X) f))
        go (inl i) ih beneath =
            let out : T (inside c r.cluster) → ⊥ = λ h. n (inside_trans c r.cluster X h i) in
            ap₂ (λ (x : Entry A) (l : List (Entry A)). keep_if (inside r.cluster X) x l) (same_entry r rs out (beneath out)) ih
            ∙ ap (λ (b : Bool). keep_if b (new r rs) (keep (under X) (after rs))) (sym under_new)

    pub again_is_table : (rs : List Row) → again F c (map put_e (worked_from F rs)) ≡ worked_from F (map put rs)
    again_is_table [] = refl
    again_is_table (r ∷ rs) = go (T-dec (inside c r.cluster)) (again_is_table rs)
      where
        scored : Entry A
        scored = record { row = put r; val = F r (before rs) }

        test : inside c (put r).cluster ≡ inside c r.cluster
        test = ap (inside c) (put-cluster r)

        go : T (inside c r.cluster) ⊎ (T (inside c r.cluster) → ⊥) → again F c (map put_e (before rs)) ≡ after rs
            → again_if F (inside c (put r).cluster) scored (again F c (map put_e (before rs))) ≡ worked_from F (put r ∷ map put rs)
        go (inl i) ih = ap₂ (λ (b : Bool) (l : List (Entry A)). again_if F b scored l) (test ∙ T_true (inside c r.cluster) i) ih
        go (inr n) ih =
            ap₂ (λ (b : Bool) (l : List (Entry A)). again_if F b scored l) (test ∙ T_false (inside c r.cluster) n) ih
            ∙ ap (λ (x : A). record { row = put r; val = x } ∷ after rs)
            (local r (before rs) (after rs) (same-below rs r.cluster n) ∙ ap (λ (q : Row). F q (after rs)) (sym (put_other r n)))

-- ---- any table: what a rescoring leaves alone

module _ {A : Type 0} (F : Row → List (Entry A) → A) (c : ℕ) where
  pub again-rows : (t : List (Entry A)) → map (λ (e : Entry A). e.row) (again F c t) ≡ map (λ (e : Entry A). e.row) t
  again-rows [] = refl
  again-rows (e ∷ t) = go (inside c (cl e)) ∙ ap (λ (rs : List Row). e.row ∷ rs) (again-rows t)
    where
      go : (b : Bool) → map (λ (x : Entry A). x.row) (again_if F b e (again F c t)) ≡ e.row ∷ map (λ (x : Entry A). x.row) (again F c t)
      go true = refl
      go false = refl

  pub again-clusters : (t : List (Entry A)) → map cl (again F c t) ≡ map cl t
  again-clusters [] = refl
  again-clusters (e ∷ t) = go (inside c (cl e)) ∙ ap (λ (cs : List ℕ). cl e ∷ cs) (again-clusters t)
    where
      go : (b : Bool) → map cl (again_if F b e (again F c t)) ≡ cl e ∷ map cl (again F c t)
      go true = refl
      go false = refl

  -- the rows that don't contain c, in their order
  abbrev pub others : List (Entry A) → List (Entry A)
  others t = keep (λ (e : Entry A). not (inside c (cl e))) t

  again_other : (t : List (Entry A)) → others (again F c t) ≡ others t
  again_other [] = refl
  again_other (e ∷ t) = go (inside c (cl e)) refl (again_other t)
    where
      new : Entry A
      new = record { row = e.row; val = F e.row (again F c t) }

      go : (b : Bool) → inside c (cl e) ≡ b → others (again F c t) ≡ others t
          → others (again_if F b e (again F c t)) ≡ keep_if (not b) e (others t)
      go true q ih = ap (λ (b : Bool). keep_if (not b) new (others (again F c t))) q ∙ ih
      go false q ih = ap₂ (λ (b : Bool) (l : List (Entry A)). keep_if (not b) e l) q ih

module _ (W : Width) (d : ℕ) (cs : List ℕ) (c : ℕ) (z : ℤ) (s : ℕ) where
  abbrev with_score : Entry Result → Entry Result
  with_score e = record { row = put_score c z s e.row; val = e.val }

  abbrev left : List (Entry Result) → List (Entry Result)
  left t = others (worked_out W d cs) c t

  put_list_clusters : (t : List (Entry Result)) → map cl (map with_score t) ≡ map cl t
  put_list_clusters = map-through with_score cl cl (λ e. put-cluster c z s e.row)

  put_list_other : (t : List (Entry Result)) → left (map with_score t) ≡ left t
  put_list_other [] = refl
  put_list_other (e ∷ t) =
      ap (λ (x : ℕ). keep_if (not (inside c x)) (with_score e) (left (map with_score t))) (put-cluster c z s e.row)
      ∙ go (T-dec (inside c (cl e))) (put_list_other t)
    where
      go : T (inside c (cl e)) ⊎ (T (inside c (cl e)) → ⊥) → left (map with_score t) ≡ left t
          → keep_if (not (inside c (cl e))) (with_score e) (left (map with_score t)) ≡ keep_if (not (inside c (cl e))) e (left t)
      go (inl i) ih = rw (T_true (inside c (cl e)) i) ih
      go (inr n) ih =
          ap₂ (λ (x : Entry Result) (l : List (Entry Result)). keep_if (not (inside c (cl e))) x l)
          (ap (λ (q : Row). record { row = q; val = e.val }) (put_other c z s e.row n)) ih

  pub rescored-clusters : (t : List (Entry Result)) → map cl (rescored W d cs c z s t) ≡ map cl t
  rescored-clusters t = again-clusters (worked_out W d cs) c (map with_score t) ∙ put_list_clusters t

  pub rescore_other : (t : List (Entry Result)) → others (worked_out W d cs) c (rescored W d cs c z s t) ≡ others (worked_out W d cs) c t
  rescore_other t = again_other (worked_out W d cs) c (map with_score t) ∙ put_list_other t

  pub rescore_is_table : (rs : List Row)
      → rescored W d cs c z s (worked_from (worked_out W d cs) rs) ≡ worked_from (worked_out W d cs) (map (put_score c z s) rs)
  rescore_is_table rs = again_is_table c z s (worked_out W d cs) (worked_local W d cs) rs

-- Rows worked out again, each over all rows of the table: rows that aren't smaller play no part.
--     Full cs          none of some clusters is empty
--     worked-above     a row that isn't smaller plays no part where a row is worked out
--     again_stands     each row that is worked out again, is so over the whole list
-- Assumes nothing.
use mathlib.Core.Path.{◌≡◌, refl, sym, ap, ◌∙◌, subst}
use mathlib.Core.Logic.{◌≢◌}
use mathlib.Core.Bool.{Bool, true, false, cond}
use mathlib.Core.List.Memᴰ
use mathlib.Core.List.{List, [], ◌∷◌, ◌++◌, map, append-nil}
use mathlib.Core.List.Memᴰ.{head as here}
use mathlib.Core.List.Memᴰ.{not-nil as mem-nil}
use mathlib.Core.List.Memᴰ.{tail as there}
use mathlib.Core.List.{Memᴰ as Mem}
use Prim.Native.Nat.{ℕ, ◌≤◌}
use native.Mathlib.Nat.{le_refl, le_antisymm}
use native.Mathlib.Omega.{arith}
use lib.Dec.{T}
use lib.ListN.{length}
use Rattle.laws.specs.Cluster.{inside, single}
use Rattle.laws.specs.Limits.{Width}
use Rattle.laws.specs.Lists.{keep_if, keep, sublists}
use Rattle.laws.specs.Orders.{Falling}
use Rattle.laws.specs.Row.{Row, is_scored}
use Rattle.laws.proofs.Cluster.{le_of_inside}
use Rattle.laws.proofs.Keep.{mem_of_keep, keep-none}
use Rattle.laws.proofs.Sublists.{in_front, mem_of_sublist, keep-sublists-cons}
use Rattle.trees.specs.Rows.{cl, sc}
use Rattle.trees.specs.Tuple.{is_tuple, tuples}
use Rattle.trees.specs.Result.{Result, blank}
use Rattle.trees.specs.Beneath.{Beneath, is_live, key_of, first_key}
use Rattle.trees.specs.Rescored.{joined, alone, worked_out, again_if, again}
use Rattle.trees.proofs.Rescore.{again-clusters}
use Rattle.trees.proofs.Sets.Tuples.{part_inside, part_other}

-- none of some clusters is empty
abbrev pub Full : List ℕ → Type 0
Full cs = (c : ℕ) → Mem c cs → c ≢ 0

-- ---- rows that aren't smaller play no part

module _ (d C : ℕ) (y : Beneath) (t : List Beneath) (above : C ≤ cl y) (full : Full (map cl (y ∷ t))) where
  no_part : (s : List Beneath) → Mem s (sublists (keep sc t)) → T (is_tuple d C (map cl (y ∷ s))) → ⊥
  no_part s m h =
      part_other d C (map cl (y ∷ s)) nonzero h (cl y) (here refl)
      (le_antisymm (le_of_inside (cl y) C (part_inside d C (map cl (y ∷ s)) h (cl y) (here refl))) above)
    where
      nonzero : Full (map cl (y ∷ s))
      nonzero x (here e) = full x (here e)
      nonzero x (there k) =
          let q = Memᴰ.of_map cl s k in
          let listed = (mem_of_keep sc t (mem_of_sublist (keep sc t) s m q.0 q.1)).0 in
          full x (there (subst (λ (a : ℕ). Mem a (map cl t)) q.2 (Memᴰ.map cl listed)))

  entries_above : tuples d C (keep sc (y ∷ t)) ≡ tuples d C (keep sc t)
  entries_above = go (sc y)
    where
      test : List Beneath → Bool
      test τ = is_tuple d C (map cl τ)

      rest : List Beneath
      rest = keep sc t

      go : (b : Bool) → tuples d C (keep_if b y rest) ≡ tuples d C rest
      go true =
          keep-sublists-cons test y rest
          ∙ ap (λ (ls : List (List Beneath)). keep test (sublists rest) ++ in_front y ls)
          (keep-none (λ (s : List Beneath). test (y ∷ s)) (sublists rest) no_part)
          ∙ append-nil (keep test (sublists rest))
      go false = refl

pub worked-above : (W : Width) (d : ℕ) (cs : List ℕ) (r : Row) (y : Beneath) (t : List Beneath) → r.cluster ≤ cl y
    → Full (map cl (y ∷ t)) → worked_out W d cs r (y ∷ t) ≡ worked_out W d cs r t
worked-above W d cs r y t above full =
    ap (λ (τs : List (List Beneath)). cond (is_scored r) (cond (single r.cluster) (alone cs r)
    (joined W cs r (length τs) τs (first_key (map key_of (keep is_live τs))))) blank)
    (entries_above d r.cluster y t above full)

-- ---- rows worked out again

module _ (W : Width) (d c : ℕ) (cs : List ℕ) where
  abbrev F : Row → List Beneath → Result
  F = worked_out W d cs

  -- each row that contains c is worked out over all of t
  abbrev Stand : List Beneath → Type 0
  Stand t = (x : Beneath) → Mem x t → T (inside c (cl x)) → x.val ≡ F x.row t

  stands_more : (y : Beneath) (t : List Beneath) → Falling (map cl (y ∷ t)) → Full (map cl (y ∷ t)) → Stand t
      → (T (inside c (cl y)) → y.val ≡ F y.row t) → Stand (y ∷ t)
  stands_more y t falls full stand own x (here e) =
      subst (λ (v : Beneath). T (inside c (cl v)) → v.val ≡ F v.row (y ∷ t)) (sym e)
      (λ h. own h ∙ sym (worked-above W d cs y.row y t (le_refl (cl y)) full))
  stands_more y t falls full stand own x (there m) =
      λ h. stand x m h ∙ sym (worked-above W d cs x.row y t (omega (arith, falls.0 (cl x) (Memᴰ.map cl m))) full)

  pub again_stands : (t : List Beneath) → Falling (map cl t) → Full (map cl t) → Stand (again F c t)
  again_stands [] falls full = λ x m. absurd (mem-nil m)
  again_stands (e ∷ t) falls full = go (inside c (cl e)) refl (again_stands t falls.1 (λ x m. full x (there m)))
    where
      same : map cl t ≡ map cl (again F c t)
      same = sym (again-clusters F c t)

      lower : Falling (cl e ∷ map cl (again F c t))
      lower = subst (λ (l : List ℕ). Falling (cl e ∷ l)) same falls

      filled : Full (cl e ∷ map cl (again F c t))
      filled = subst (λ (l : List ℕ). Full (cl e ∷ l)) same full

      go : (b : Bool) → inside c (cl e) ≡ b → Stand (again F c t) → Stand (again_if F b e (again F c t))
      go true q s = stands_more (record { row = e.row; val = F e.row (again F c t) }) (again F c t) lower filled s (λ _. refl)
      go false q s = stands_more e (again F c t) lower filled s (λ h. absurd (subst T q h))

-- The first heaviest of several sets, by keys: coming first is the order of the keys, so one set comes before every other.
--     set_key rs xs        the key of a set: its weight and its marks
--     set_key_inj          sublists with equal keys are equal
--     comes_is_key        coming first is the order of keys
--     SetOf, AllSets      a list is one of the sublists of the rows' clusters, and so is each of several
--     set_of_scored       so is every sublist of the scored clusters
--     Leads rs xs ys      xs is ys, or comes before it
--     first_some          among one or more sets one is found
--     first-mem           what is found is one of the sets
--     first-before        and leads each of them
--     first-only          a set that leads each of them is what is found
--     first_key           so is a set whose key no other's comes before
-- Assumes nothing.
use mathlib.Core.Path.{◌≡◌, refl, sym, ap, ◌∙◌, subst}
use mathlib.Core.Logic.{◌⊎◌, inl, inr, ◌≢◌}
use mathlib.Core.Bool.{Bool, not, ◌&&◌, ◌||◌}
use mathlib.Core.Option.{some, none-ne-some, some-injective}
use mathlib.Core.List.{List, [], ◌∷◌}
use mathlib.Core.List.Memᴰ.{head as here}
use mathlib.Core.List.Memᴰ.{not-nil as mem-nil}
use mathlib.Core.List.Memᴰ.{tail as there}
use mathlib.Core.List.{Memᴰ as Mem}
use Prim.Native.Nat.{ℕ}
use lib.Dec.{T}
use lib.Signed.{lt_z}
use Rattle.laws.specs.Lists.{sublists}
use Rattle.laws.specs.Orders.{Falling}
use Rattle.laws.specs.Row.{Row, is_scored}
use Rattle.laws.proofs.Falling.{falling_once, sublist_trans}
use Rattle.laws.proofs.Sublists.{sublists-map-keep}
use Rattle.laws.proofs.Tests.{T-dec, cond_true, cond_false}
use Rattle.trees.specs.Rows.{clusters_of, scored_in}
use Rattle.trees.specs.Heaviest.{weight_of, comes_first, first_of, first_heaviest}
use Rattle.trees.specs.Result.{marks_of}
use Rattle.trees.specs.Beneath.{Key, key_first}
use Rattle.trees.proofs.Ties.KeyOrder.{key_irrefl, key_trans, Which, ahead, same, behind, which}
use Rattle.trees.proofs.Ties.Marks.{marks_of_inj}
use Rattle.trees.proofs.Ties.TieRule.{tie_is_order}

abbrev pub set_key : List Row → List ℕ → Key
set_key rs xs = (weight_of rs xs, marks_of (clusters_of rs) xs)

module _ (rs : List Row) where
  abbrev pub Leads : List ℕ → List ℕ → Type 0
  Leads xs ys = (xs ≡ ys) ⊎ T (comes_first rs xs ys)

  abbrev pub SetOf : List ℕ → Type 0
  SetOf xs = Mem xs (sublists (clusters_of rs))

  abbrev pub AllSets : List (List ℕ) → Type 0
  AllSets xss = (xs : List ℕ) → Mem xs xss → SetOf xs

  pub set_of_scored : Falling (clusters_of rs) → (xs : List ℕ) → Mem xs (sublists (scored_in rs)) → SetOf xs
  set_of_scored f xs m = sublist_trans (clusters_of rs) (scored_in rs) xs (falling_once (clusters_of rs) f) scored m
    where
      scored : Mem (scored_in rs) (sublists (clusters_of rs))
      scored = sublists-map-keep (λ (r : Row). r.cluster) is_scored rs

module _ (rs : List Row) (falling : Falling (clusters_of rs)) (nonzero : (c : ℕ) → Mem c (clusters_of rs) → c ≢ 0) where
  pub set_key_inj : (xs ys : List ℕ) → SetOf rs xs → SetOf rs ys → set_key rs xs ≡ set_key rs ys → xs ≡ ys
  set_key_inj xs ys m k e = marks_of_inj (clusters_of rs) xs ys (falling_once (clusters_of rs) falling) m k (ap (λ (x : Key). x.1) e)

  pub comes_is_key : (xs ys : List ℕ) → SetOf rs xs → SetOf rs ys → comes_first rs xs ys ≡ key_first (set_key rs xs) (set_key rs ys)
  comes_is_key xs ys m k =
      ap (λ (b : Bool). lt_z (weight_of rs ys) (weight_of rs xs) || (not (lt_z (weight_of rs xs) (weight_of rs ys)) && b))
      (tie_is_order (clusters_of rs) falling nonzero xs ys m k)

  comes→ : (xs ys : List ℕ) → SetOf rs xs → SetOf rs ys → T (comes_first rs xs ys) → T (key_first (set_key rs xs) (set_key rs ys))
  comes→ xs ys m k h = subst T (comes_is_key xs ys m k) h

  →comes : (xs ys : List ℕ) → SetOf rs xs → SetOf rs ys → T (key_first (set_key rs xs) (set_key rs ys)) → T (comes_first rs xs ys)
  →comes xs ys m k h = subst T (sym (comes_is_key xs ys m k)) h

  leads_of_not : (xs ys : List ℕ) → SetOf rs xs → SetOf rs ys → (T (key_first (set_key rs ys) (set_key rs xs)) → ⊥) → Leads rs xs ys
  leads_of_not xs ys m k n = go (which (set_key rs xs) (set_key rs ys))
    where
      go : Which (set_key rs xs) (set_key rs ys) → Leads rs xs ys
      go (ahead h) = inr (→comes xs ys m k h)
      go (same e) = inl (set_key_inj xs ys m k e)
      go (behind h) = absurd (n h)

  leads_trans : (xs ys zs : List ℕ) → SetOf rs xs → SetOf rs ys → SetOf rs zs → Leads rs xs ys → Leads rs ys zs → Leads rs xs zs
  leads_trans xs ys zs m k j (inl e) l = subst (λ (a : List ℕ). Leads rs a zs) (sym e) l
  leads_trans xs ys zs m k j (inr h) (inl e) = inr (subst (λ (a : List ℕ). T (comes_first rs xs a)) e h)
  leads_trans xs ys zs m k j (inr h) (inr i) =
      inr (→comes xs zs m j (key_trans (set_key rs xs) (set_key rs ys) (set_key rs zs) (comes→ xs ys m k h) (comes→ ys zs k j i)))

  leads_antisym : (xs ys : List ℕ) → SetOf rs xs → SetOf rs ys → Leads rs xs ys → Leads rs ys xs → xs ≡ ys
  leads_antisym xs ys m k (inl e) l = e
  leads_antisym xs ys m k (inr h) (inl e) = sym e
  leads_antisym xs ys m k (inr h) (inr i) =
      absurd (key_irrefl (set_key rs xs) (key_trans (set_key rs xs) (set_key rs ys) (set_key rs xs) (comes→ xs ys m k h) (comes→ ys xs k m i)))

  -- a set that is found, is one of them and leads each
  record First (xss : List (List ℕ)) : Type 0 where
    set : List ℕ
    found : first_heaviest rs xss ≡ some set
    mem : Mem set xss
    before : (ys : List ℕ) → Mem ys xss → Leads rs set ys

  -- one set more, which doesn't come first, or does
  first_old : (xs : List ℕ) (xss : List (List ℕ)) (q : First xss) → T (comes_first rs q.set xs) → First (xs ∷ xss)
  first_old xs xss q h = record {
    set = q.set;
    found = ap (first_of rs xs) q.found ∙ ap some (cond_true (comes_first rs q.set xs) q.set xs h);
    mem = there q.mem;
    before = before;
  }
    where
      before : (ys : List ℕ) → Mem ys (xs ∷ xss) → Leads rs q.set ys
      before ys (here e) = inr (subst (λ (a : List ℕ). T (comes_first rs q.set a)) (sym e) h)
      before ys (there m) = q.before ys m

  first_new : (xs : List ℕ) (xss : List (List ℕ)) → AllSets rs (xs ∷ xss) → (q : First xss) → (T (comes_first rs q.set xs) → ⊥)
      → First (xs ∷ xss)
  first_new xs xss s q n = record {
    set = xs;
    found = ap (first_of rs xs) q.found ∙ ap some (cond_false (comes_first rs q.set xs) q.set xs n);
    mem = here refl;
    before = before;
  }
    where
      old : SetOf rs q.set
      old = s q.set (there q.mem)

      leads : Leads rs xs q.set
      leads = leads_of_not xs q.set (s xs (here refl)) old (λ h. n (→comes q.set xs old (s xs (here refl)) h))

      before : (ys : List ℕ) → Mem ys (xs ∷ xss) → Leads rs xs ys
      before ys (here e) = inl (sym e)
      before ys (there m) = leads_trans xs q.set ys (s xs (here refl)) old (s ys (there m)) leads (q.before ys m)

  first : (xs : List ℕ) (xss : List (List ℕ)) → AllSets rs (xs ∷ xss) → First (xs ∷ xss)
  first xs [] s = record { set = xs; found = refl; mem = here refl; before = alone }
    where
      alone : (ys : List ℕ) → Mem ys (xs ∷ []) → Leads rs xs ys
      alone ys (here e) = inl (sym e)
      alone ys (there m) = absurd (mem-nil m)
  first xs (zs ∷ xss) s = go (first zs xss (λ ys m. s ys (there m)))
    where
      go : First (zs ∷ xss) → First (xs ∷ zs ∷ xss)
      go q = pick (T-dec (comes_first rs q.set xs))
        where
          pick : T (comes_first rs q.set xs) ⊎ (T (comes_first rs q.set xs) → ⊥) → First (xs ∷ zs ∷ xss)
          pick (inl h) = first_old xs (zs ∷ xss) q h
          pick (inr n) = first_new xs (zs ∷ xss) s q n

  pub first_some : (xs : List ℕ) (xss : List (List ℕ)) → AllSets rs (xs ∷ xss) → (ys : List ℕ) × (first_heaviest rs (xs ∷ xss) ≡ some ys)
  first_some xs xss s = let q = first xs xss s in (q.set, q.found)

  pub first-mem : (xss : List (List ℕ)) → AllSets rs xss → (xs : List ℕ) → first_heaviest rs xss ≡ some xs → Mem xs xss
  first-mem [] s xs e = absurd (none-ne-some xs e)
  first-mem (ys ∷ xss) s xs e =
      let q = first ys xss s in
      subst (λ (a : List ℕ). Mem a (ys ∷ xss)) (some-injective q.set xs (sym q.found ∙ e)) q.mem

  pub first-before : (xss : List (List ℕ)) → AllSets rs xss → (xs : List ℕ) → first_heaviest rs xss ≡ some xs
      → (ys : List ℕ) → Mem ys xss → Leads rs xs ys
  first-before [] s xs e = absurd (none-ne-some xs e)
  first-before (zs ∷ xss) s xs e =
      let q = first zs xss s in
      let i = some-injective q.set xs (sym q.found ∙ e) in
      subst (λ (a : List ℕ). (ys : List ℕ) → Mem ys (zs ∷ xss) → Leads rs a ys) i q.before

  pub first-only : (xss : List (List ℕ)) → AllSets rs xss → (zs : List ℕ) → Mem zs xss
      → ((ys : List ℕ) → Mem ys xss → Leads rs zs ys) → first_heaviest rs xss ≡ some zs
  first-only [] s zs m f = absurd (mem-nil m)
  first-only (xs ∷ xss) s zs m f =
      let q = first xs xss s in
      q.found ∙ ap some (leads_antisym q.set zs (s q.set q.mem) (s zs m) (q.before zs m) (f q.set q.mem))

  pub first_key : (xss : List (List ℕ)) → AllSets rs xss → (zs : List ℕ) → Mem zs xss
      → ((ys : List ℕ) → Mem ys xss → T (key_first (set_key rs ys) (set_key rs zs)) → ⊥) → first_heaviest rs xss ≡ some zs
  first_key xss s zs m f = first-only xss s zs m (λ ys k. leads_of_not zs ys (s zs m) (s ys k) (f ys k))

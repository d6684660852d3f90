-- The search that a program runs for the tuples of a row, over any kind of result. It is asked of all rows at every level: with no child
-- left there is nothing; with one child left only the row of R itself can be it, and is looked up; with more, the rows that lead R are
-- scanned, and each adds its own value where it is all of R, and else its value times the search of what is left. That this is the sum
-- over the tuples stands in `SearchSum.antt`; here are the laws that a loop is proved with.
--     lookup R es                    the value of the scored row R, none where there is no such row
--     scan f R es s                  onto s, what f gives for each scored row that leads R
--     share, gain n R es e           what the row e adds to the search of R, with n children left beside it
--     search n R es                  the search, with n children left
--     search_none, search_one, search_more    the search, by the children left
--     search_suc                     the last, at the number's shape
--     gain_whole, gain_part          what a row adds: it is all of R, or a part
--     lookup_cons                    the first row
--     lookup_row, lookup_missing     a row that is there, by its score, and one that isn't
--     scan_ended, scan_cons          a scan by the list's shape
--     scan_added, scan_passed        a row that is added, and one that is passed over
--     scan_unscored, scan_outside    the reasons to pass over a row: it is unscored, or not inside R
--     scan_idle, scan_low            a scan that adds nothing; so it is where all rows lack R's highest taxon, and there it may stop
-- Assumes nothing.
use mathlib.Core.Path.{◌≡◌, refl, ap, ◌∙◌}
use mathlib.Core.Logic.{◌≢◌}
use mathlib.Core.Bool.{Bool, true, false, cond, ◌&&◌}
use mathlib.Core.List.{List, [], ◌∷◌, map}
use mathlib.Core.List.Memᴰ.{head as here}
use mathlib.Core.List.Memᴰ.{tail as there}
use mathlib.Core.List.{Memᴰ as Mem}
use Prim.Native.Nat.{ℕ, zero, suc, ◌-◌, ◌^◌, ◌≤◌, ◌<◌}
use native.Mathlib.Omega.{arith}
use lib.Dec.{T, eqb, eqb→eq, eqb_refl}
use Rattle.laws.specs.Cluster.{inside, highest}
use Rattle.laws.proofs.Tests.{T_and, and_T, T_true, T_false, eq→eqb}
use Rattle.laws.proofs.Descends.{Descends, descends_first}
use Rattle.trees.specs.Rows.{Entry, cl, sc}
use Rattle.trees.specs.Kind.{Kind}
use Rattle.trees.proofs.Searching.Leads.{leads, leads→, leads_reaches}

module _ {A : Type 0} (k : Kind A) where
  unfoldable pub lookup : ℕ → List (Entry A) → A
  lookup R [] = k.none
  lookup R (e ∷ es) = cond (sc e && eqb (cl e) R) e.val (lookup R es)

  -- the sum is bound by `let`, so that it is worked out only for a row that is added
  unfoldable pub scan : (Entry A → A) → ℕ → List (Entry A) → A → A
  scan f R [] s = s
  scan f R (e ∷ es) s = let t = k.plus s (f e) in scan f R es (cond (sc e && leads (cl e) R) t s)

  abbrev pub share : (ℕ → A) → ℕ → Entry A → A
  share rest R e = let x = k.times e.val (rest (R - cl e)) in cond (eqb (R - cl e) 0) e.val x

  unfoldable pub search : ℕ → ℕ → List (Entry A) → A
  search zero R es = k.none
  search (suc zero) R es = lookup R es
  search (suc (suc n)) R es = scan (share (λ (r : ℕ). search (suc n) r es) R) R es k.none

  abbrev pub gain : ℕ → ℕ → List (Entry A) → Entry A → A
  gain n R es = share (λ (r : ℕ). search n r es) R

  -- ---- the search, by its cases

  pub search_none : (R : ℕ) (es : List (Entry A)) → search 0 R es ≡ k.none
  unfolding search
  search_none R es = refl

  pub search_one : (R : ℕ) (es : List (Entry A)) → search 1 R es ≡ lookup R es
  unfolding search
  search_one R es = refl

  pub search_suc : (n R : ℕ) (es : List (Entry A)) → search (suc (suc n)) R es ≡ scan (gain (suc n) R es) R es k.none
  unfolding search
  search_suc n R es = refl

  pub search_more : (n R : ℕ) (es : List (Entry A)) → 2 ≤ n → search n R es ≡ scan (gain (n - 1) R es) R es k.none
  search_more zero R es h = absurd (omega arith)
  search_more (suc zero) R es h = absurd (omega arith)
  search_more (suc (suc n)) R es h = let e : suc (suc n) - 1 ≡ suc n = omega arith in rw e (search_suc n R es)

  pub gain_whole : (n R : ℕ) (es : List (Entry A)) (e : Entry A) → cl e ≡ R → gain n R es e ≡ e.val
  gain_whole n R es e q = rw (T_true (eqb (R - cl e) 0) (eq→eqb (R - cl e) 0 (omega arith)))

  pub gain_part : (n R : ℕ) (es : List (Entry A)) (e : Entry A) → cl e < R → gain n R es e ≡ k.times e.val (search n (R - cl e) es)
  gain_part n R es e h = rw (T_false (eqb (R - cl e) 0) (λ t. omega (arith, eqb→eq (R - cl e) 0 t)))

  -- ---- looking a row up

  pub lookup_cons : (R : ℕ) (e : Entry A) (es : List (Entry A)) → lookup R (e ∷ es) ≡ cond (sc e && eqb (cl e) R) e.val (lookup R es)
  unfolding lookup
  lookup_cons R e es = refl

  lookup_other : (R : ℕ) (e : Entry A) (es : List (Entry A)) → cl e ≢ R → lookup R (e ∷ es) ≡ lookup R es
  lookup_other R e es n = lookup_cons R e es ∙ rw (T_false (sc e && eqb (cl e) R) bad)
    where
      bad : T (sc e && eqb (cl e) R) → ⊥
      bad t = n (eqb→eq (cl e) R (T_and (sc e) (eqb (cl e) R) t).1)

  pub lookup_missing : (R : ℕ) (es : List (Entry A)) → ((x : Entry A) → Mem x es → cl x ≢ R) → lookup R es ≡ k.none
  unfolding lookup
  lookup_missing R [] f = refl
  lookup_missing R (e ∷ es) f = lookup_other R e es (f e (here refl)) ∙ lookup_missing R es (λ x m. f x (there m))

  lookup_here : (e : Entry A) (es : List (Entry A)) → Descends (map cl (e ∷ es)) → lookup (cl e) (e ∷ es) ≡ cond (sc e) e.val k.none
  lookup_here e es h =
      lookup_cons (cl e) e es
      ∙ ap (λ (b : Bool). cond (sc e && b) e.val (lookup (cl e) es)) (T_true (eqb (cl e) (cl e)) (eqb_refl (cl e)))
      ∙ go (sc e)
    where
      rest : lookup (cl e) es ≡ k.none
      rest = lookup_missing (cl e) es (λ x m q. omega (arith, descends_first cl e es h x m))

      go : (b : Bool) → cond (b && true) e.val (lookup (cl e) es) ≡ cond b e.val k.none
      go true = refl
      go false = rest

  pub lookup_row : (es : List (Entry A)) → Descends (map cl es) → (e : Entry A) → Mem e es
      → lookup (cl e) es ≡ cond (sc e) e.val k.none
  lookup_row [] h e x'' = elim x'' [ ]
  lookup_row (x ∷ xs) h e (here q) = rw q (lookup_here x xs h)
  lookup_row (x ∷ xs) h e (there m) =
      lookup_other (cl e) x xs (λ q. omega (arith, descends_first cl x xs h e m)) ∙ lookup_row xs h.1 e m

-- ---- scanning
module _ {A : Type 0} (k : Kind A) (f : Entry A → A) (R : ℕ) where
  pub scan_ended : (s : A) → scan k f R [] s ≡ s
  unfolding scan
  scan_ended s = refl

  pub scan_cons : (e : Entry A) (es : List (Entry A)) (s : A)
      → scan k f R (e ∷ es) s ≡ scan k f R es (cond (sc e && leads (cl e) R) (k.plus s (f e)) s)
  unfolding scan
  scan_cons e es s = refl

  pub scan_added : (e : Entry A) (es : List (Entry A)) (s : A) → T (sc e) → T (leads (cl e) R)
      → scan k f R (e ∷ es) s ≡ scan k f R es (k.plus s (f e))
  scan_added e es s a h = scan_cons e es s ∙ rw (T_true (sc e && leads (cl e) R) (and_T (sc e) (leads (cl e) R) a h))

  pub scan_passed : (e : Entry A) (es : List (Entry A)) (s : A) → (T (sc e) → T (leads (cl e) R) → ⊥)
      → scan k f R (e ∷ es) s ≡ scan k f R es s
  scan_passed e es s n = scan_cons e es s ∙ rw (T_false (sc e && leads (cl e) R) bad)
    where
      bad : T (sc e && leads (cl e) R) → ⊥
      bad t = let q = T_and (sc e) (leads (cl e) R) t in n q.0 q.1

  pub scan_unscored : (e : Entry A) (es : List (Entry A)) (s : A) → (T (sc e) → ⊥) → scan k f R (e ∷ es) s ≡ scan k f R es s
  scan_unscored e es s h = scan_passed e es s (λ t _. h t)

  pub scan_outside : (e : Entry A) (es : List (Entry A)) (s : A) → (T (inside (cl e) R) → ⊥) → scan k f R (e ∷ es) s ≡ scan k f R es s
  scan_outside e es s h = scan_passed e es s (λ _ t. h (leads→ (cl e) R t).0)

  -- ---- rows that add nothing

  pub scan_idle : (es : List (Entry A)) (s : A) → ((x : Entry A) → Mem x es → T (leads (cl x) R) → ⊥) → scan k f R es s ≡ s
  scan_idle [] s n = scan_ended s
  scan_idle (e ∷ es) s n = scan_passed e es s (λ _ t. n e (here refl) t) ∙ scan_idle es s (λ x m. n x (there m))

  pub scan_low : (es : List (Entry A)) (s : A) → 0 < R → ((x : Entry A) → Mem x es → cl x < 2 ^ highest R) → scan k f R es s ≡ s
  scan_low es s p h = scan_idle es s (λ x m t. omega (arith, h x m, leads_reaches (cl x) R p t))

-- The best of several families: how many they are, and the largest of their keys. Sums and products of results keep it.
--     key_in rs S           the weight and the marks of a family
--     key_join, key_empty  of two families without a common member, and of none
--     Best rs v ts         v has the number of the families ts, and the largest key of them; none exactly where there is no family
--     best-plus, best-times, best-one     of two lists, of the joins of each pair, and of one family
-- Assumes nothing.
use mathlib.Core.Path.{◌≡◌, refl, sym, ap, ap₂, ◌∙◌, subst}
use mathlib.Core.Logic.{◌⊎◌, inl, inr}
use mathlib.Core.Option.{Option, none, some}
use mathlib.Core.List.Memᴰ
use mathlib.Core.List.{List, [], ◌∷◌, ◌++◌, append-nil}
use mathlib.Core.List.Memᴰ.{head as here}
use mathlib.Core.List.Memᴰ.{not-nil as mem-nil}
use mathlib.Core.List.Memᴰ.{tail as there}
use mathlib.Core.List.{Memᴰ as Mem}
use Prim.Native.Nat.{ℕ, ◌+◌, ◌*◌}
use lib.IntN.{pos}
use lib.ListN.{length, length-append}
use Rattle.laws.specs.Row.{Row}
use Rattle.laws.proofs.Keep.{nil_of_none}
use Rattle.trees.specs.Rows.{clusters_of}
use Rattle.trees.specs.Heaviest.{weight_in}
use Rattle.trees.specs.Result.{marks_in}
use Rattle.trees.specs.Beneath.{Key}
use Rattle.trees.specs.Solution.{top, join_k, Sol, plus_sol, times_sol}
use Rattle.trees.proofs.Sets.Families.{Fam, join, empty, cross, mem_cross, mem_of_cross, length_cross, Disj}
use Rattle.trees.proofs.Ties.Marks.{marks-none, marks_join, weight-none, weight_join}
use Rattle.trees.proofs.Counting.Keys.{top_self, top-cases, AtLeast, least_trans, least-top_l, least-top_r, join_least}

abbrev pub key_in : List Row → Fam → Key
key_in rs S = (weight_in rs S, marks_in (clusters_of rs) S)

pub key_join : (rs : List Row) (S U : Fam) → Disj S U → key_in rs (join S U) ≡ join_k (key_in rs S) (key_in rs U)
key_join rs S U d = λ i. (weight_join rs S U d i, marks_join (clusters_of rs) S U d i)

pub key_empty : (rs : List Row) → key_in rs empty ≡ (pos 0, 0)
key_empty rs = λ i. (weight-none rs empty (λ r m t. t) i, marks-none (clusters_of rs) empty (λ c m t. t) i)

-- ---- v is the best of ts, and how sums and products keep that
module _ (rs : List Row) where
  abbrev pub Best : Option Sol → List Fam → Type 0
  Best none ts = (S : Fam) → Mem S ts → ⊥
  Best (some x) ts =
      (x.0 ≡ length ts)
      × ((S : Fam) × Mem S ts × (x.1 ≡ key_in rs S))
      × ((U : Fam) → Mem U ts → AtLeast x.1 (key_in rs U))

  pub best-plus : (v u : Option Sol) (ts us : List Fam) → Best v ts → Best u us → Best (plus_sol v u) (ts ++ us)
  best-plus none u ts us h k = subst (λ (z : List Fam). Best u (z ++ us)) (sym (nil_of_none ts h)) k
  best-plus (some x) none ts us h k =
      subst (λ (z : List Fam). Best (some x) (ts ++ z)) (sym (nil_of_none us k)) (subst (Best (some x)) (sym (append-nil ts)) h)
  best-plus (some x) (some y) ts us h k = (
    ap₂ (λ (a b : ℕ). a + b) h.0 k.0 ∙ sym (length-append ts us),
    holder (top-cases x.1 y.1),
    λ U m. at_least U (Memᴰ.append_cases ts m),
  )
    where
      holder : (top x.1 y.1 ≡ x.1) ⊎ (top x.1 y.1 ≡ y.1) → (S : Fam) × Mem S (ts ++ us) × (top x.1 y.1 ≡ key_in rs S)
      holder (inl e) = (h.1.0, Memᴰ.append_left us h.1.1, e ∙ h.1.2)
      holder (inr e) = (k.1.0, Memᴰ.append_right ts k.1.1, e ∙ k.1.2)

      at_least : (U : Fam) → Mem U ts ⊎ Mem U us → AtLeast (top x.1 y.1) (key_in rs U)
      at_least U (inl m) = least_trans (top x.1 y.1) x.1 (key_in rs U) (least-top_l x.1 y.1) (h.2 U m)
      at_least U (inr m) = least_trans (top x.1 y.1) y.1 (key_in rs U) (least-top_r x.1 y.1) (k.2 U m)

  pub best-times : (v u : Option Sol) (ts us : List Fam) → ((S U : Fam) → Mem S ts → Mem U us → Disj S U) → Best v ts → Best u us
      → Best (times_sol v u) (cross ts us)
  best-times none u ts us d h k = λ S m. let q = mem_of_cross ts us m in h q.0 q.2
  best-times (some x) none ts us d h k = λ S m. let q = mem_of_cross ts us m in k q.1 q.3
  best-times (some x) (some y) ts us d h k = (
    ap₂ (λ (a b : ℕ). a * b) h.0 k.0 ∙ sym (length_cross ts us),
    (join S U, mem_cross ts us h.1.1 k.1.1, ap₂ join_k h.1.2 k.1.2 ∙ sym (key_join rs S U (d S U h.1.1 k.1.1))),
    λ W m. at_least W (mem_of_cross ts us m),
  )
    where
      S : Fam
      S = h.1.0

      U : Fam
      U = k.1.0

      at_least : (W : Fam) → (a : Fam) × (b : Fam) × Mem a ts × Mem b us × (join a b ≡ W) → AtLeast (join_k x.1 y.1) (key_in rs W)
      at_least W q =
          subst (λ (z : Fam). AtLeast (join_k x.1 y.1) (key_in rs z)) q.4
          (subst (AtLeast (join_k x.1 y.1)) (sym (key_join rs q.0 q.1 (d q.0 q.1 q.2 q.3)))
          (join_least x.1 y.1 (key_in rs q.0) (key_in rs q.1) (h.2 q.0 q.2) (k.2 q.1 q.3)))

  -- a family alone
  pub best-one : (S : Fam) (k : Key) → key_in rs S ≡ k → Best (some (1, k)) (S ∷ [])
  best-one S k e = (refl, (S, here refl, sym e), alone)
    where
      alone : (U : Fam) → Mem U (S ∷ []) → AtLeast k (key_in rs U)
      alone U (here q) = subst (λ (z : Fam). AtLeast k (key_in rs z)) (sym q) (ap (top k) e ∙ top_self k)
      alone U (there m) = absurd (mem-nil m)

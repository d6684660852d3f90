-- A list changed once and again (`specs/Changes.antt`): which changes are taken, and that an accepted list stays accepted.
--     taken_iff, taken-place, place-cluster     when a change is taken, and which record it names
--     change_accepted, changes_accepted         an accepted list of bytes stays so
-- Assumes nothing.
use mathlib.Core.Path.{◌≡◌, sym}
use mathlib.Core.Logic.{◌↔◌}
use mathlib.Core.Bool.{Bool, true, false, cond}
use mathlib.Core.List.{List, [], ◌∷◌}
use Prim.Native.Nat.{ℕ, ◌<◌}
use native.Mathlib.Decide.{dec_lt}
use native.Mathlib.Omega.{arith}
use borrow.Author.Tests.{eqb-true, eqb-false}
use lib.Dec.{T, eqb, ltb, ltb→lt, lt→ltb}
use Rattle.laws.specs.Limits.{Width}
use Rattle.laws.specs.Row.{Row}
use Rattle.laws.specs.Widths.{WidthFacts}
use Rattle.laws.proofs.First.{first-before, first_at}
use Rattle.laws.proofs.Tests.{T_and, and_T}
use Rattle.cluster.specs.Rule.{is_score}
use Rattle.lists.specs.Accepted.{HasCluster}
use Rattle.lists.specs.Records.{records_in, listed_at}
use Rattle.table.specs.Changes.{AcceptedBytes, first_place, is_taken, changed_bytes, change_one, change_all}
use Rattle.table.proofs.Changing.Changed.{changed_bytes_lem, changed-accepted}

module _ (W : Width) (l : List ℕ) (c : ℕ) where
  abbrev named : ℕ → Bool
  named i = eqb (listed_at W l i).cluster c

  pub place-cluster : first_place W l c < records_in W l → c ≡ (listed_at W l (first_place W l c)).cluster
  place-cluster h = sym (eqb-true _ _ (first_at named 0 (records_in W l) (omega arith)))

  has_place : HasCluster W l c → first_place W l c < records_in W l
  has_place q = go (dec_lt (first_place W l c) (records_in W l))
    where
      go : Dec (first_place W l c < records_in W l) → first_place W l c < records_in W l
      go (yes h) = h
      go (no n) = absurd (eqb-false _ _ (first-before named 0 (records_in W l) q.0 (omega arith) (omega (arith, q.1))) (sym q.2))

module _ (W : Width) (l : List ℕ) (x : Row) where
  pub taken-place : T (is_taken W l x) → (first_place W l x.cluster < records_in W l) × T (is_score x.weight x.state)
  taken-place h =
      let q = T_and (ltb (first_place W l x.cluster) (records_in W l)) (is_score x.weight x.state) h in
      (ltb→lt _ _ q.0, q.1)

  pub taken_iff : T (is_taken W l x) ↔ (HasCluster W l x.cluster × T (is_score x.weight x.state))
  taken_iff = (to, from)
    where
      to : T (is_taken W l x) → HasCluster W l x.cluster × T (is_score x.weight x.state)
      to h = let q = taken-place h in ((first_place W l x.cluster, q.0, place-cluster W l x.cluster q.0), q.1)

      from : HasCluster W l x.cluster × T (is_score x.weight x.state) → T (is_taken W l x)
      from k =
          and_T (ltb (first_place W l x.cluster) (records_in W l)) (is_score x.weight x.state)
          (lt→ltb _ _ (has_place W l x.cluster k.0)) k.1

module _ {W : Width} (facts : WidthFacts W) where
  pub change_accepted : {l : List ℕ} (x : Row) → AcceptedBytes W l → AcceptedBytes W (change_one W l x)
  change_accepted {l} x k = go (is_taken W l x) (taken-place W l x)
    where
      after : List ℕ
      after = changed_bytes W l (first_place W l x.cluster) x.weight x.state

      go : (b : Bool) → (T b → (first_place W l x.cluster < records_in W l) × T (is_score x.weight x.state))
          → AcceptedBytes W (cond b after l)
      go true f = record {
        byte = changed_bytes_lem facts l k.byte (first_place W l x.cluster) x.weight x.state (f tt).0 (f tt).1;
        accepted = changed-accepted facts k.byte k.accepted (first_place W l x.cluster) x.weight x.state (f tt).0 (f tt).1;
      }
      go false f = k

  pub changes_accepted : {l : List ℕ} (xs : List Row) → AcceptedBytes W l → AcceptedBytes W (change_all W l xs)
  changes_accepted [] k = k
  changes_accepted {l = l} (x ∷ xs) k = changes_accepted {l = change_one W l x} xs (change_accepted x k)

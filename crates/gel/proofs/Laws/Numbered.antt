-- The numbers of columns, in words.
--     counted-columns     the weight of a cluster is the number of columns that give it
--     counted-unread      so many columns have a ?
-- Assumes nothing.
use mathlib.Core.Path.{◌≡◌, refl, sym, ap, ◌∙◌, subst}
use mathlib.Core.Logic.{◌≢◌, ◌⊎◌, inl, inr, ◌↔◌}
use mathlib.Core.Bool.{Bool, true, false, cond}
use mathlib.Core.List.{List, ◌∷◌}
use Prim.Native.Nat.{ℕ, zero, suc, ◌^◌, ◌<◌}
use lib.Dec.{T, eqb, eqb→eq}
use lib.ListN.{length, length-map}
use Rattle.laws.specs.Cluster.{inside}
use Rattle.laws.specs.Lists.{keep, keep_if}
use Rattle.laws.specs.Orders.{down_to, places}
use Rattle.laws.proofs.Down.{down_map}
use Rattle.laws.proofs.Keep.{keep-map}
use Rattle.laws.proofs.Places.{places-once, places_iff}
use Rattle.laws.proofs.Tests.{eq→eqb, T_false, T-dec, cond_true, cond_false}
use Rattle.gel.specs.Lines.{one, line_count, width_of}
use Rattle.gel.specs.Columns.{is_unread, cluster_of, scores_in, mark_at, column_at, unread_columns, columns_with}
use Rattle.gel.specs.Form.{given}
use Rattle.gel.specs.Facts.{IsRead, GivenBy, Numbered}
use Rattle.gel.proofs.Laws.Ones.{ones_iff, ones-only, read_iff}
use Rattle.gel.proofs.Laws.Tallied.{scores_more}

module _ (s : List ℕ) where
  -- ---- the columns of a cluster
  module _ (c : ℕ) (some : c ≢ 0) where
    gives : ℕ → Bool
    gives j = eqb c (given (column_at s j))

    counted : (n : ℕ) → length (keep (eqb c) (scores_in (down_to (column_at s) n))) ≡ length (keep gives (places n))
    unfolding gives
    counted zero = refl
    counted (suc n) =
        ap (λ (l : List ℕ). length (keep (eqb c) l)) (scores_more (column_at s n) (down_to (column_at s) n))
        ∙ go (eqb g 0) refl (counted n)
      where
        g : ℕ
        g = given (column_at s n)

        rest : List ℕ
        rest = scores_in (down_to (column_at s) n)

        same : (b : Bool) → length (keep (eqb c) rest) ≡ length (keep gives (places n))
            → length (keep_if b g (keep (eqb c) rest)) ≡ length (keep_if b n (keep gives (places n)))
        same true e = ap suc e
        same false e = e

        go : (b : Bool) → eqb g 0 ≡ b → length (keep (eqb c) rest) ≡ length (keep gives (places n))
            → length (keep (eqb c) (cond b rest (g ∷ rest))) ≡ length (keep_if (eqb c g) n (keep gives (places n)))
        go true e ih =
            ih
            ∙ ap (λ (b : Bool). length (keep_if b n (keep gives (places n))))
            (sym (T_false (eqb c g) (λ t. some (eqb→eq c g t ∙ eqb→eq g 0 (subst T (sym e) tt)))))
        go false e ih = same (eqb c g) ih

    given_iff : (j : ℕ) → ((j < width_of s) × T (eqb c (given (column_at s j)))) ↔ GivenBy s j c
    given_iff j = (λ q. to q.0 (eqb→eq c (given (column_at s j)) q.1) (T-dec (is_unread (column_at s j))), from)
      where
        to : j < width_of s → c ≡ given (column_at s j) → T (is_unread (column_at s j)) ⊎ (T (is_unread (column_at s j)) → ⊥) → GivenBy s j c
        to h e (inl t) = absurd (some (e ∙ cond_true (is_unread (column_at s j)) 0 (cluster_of (column_at s j)) t))
        to h e (inr n) = record {
          within = h;
          read = (read_iff s j).0 n;
          ones = λ i. subst (λ (k : ℕ). T (inside (2 ^ i) k) ↔ ((i < line_count s) × (mark_at s i j ≡ one)))
              (sym (e ∙ cond_false (is_unread (column_at s j)) 0 (cluster_of (column_at s j)) n)) (ones_iff s j i);
        }

        from : GivenBy s j c → (j < width_of s) × T (eqb c (given (column_at s j)))
        from k = (
          k.within,
          eq→eqb c (given (column_at s j))
              (ones-only s j c k.ones
              ∙ sym (cond_false (is_unread (column_at s j)) 0 (cluster_of (column_at s j)) ((read_iff s j).1 k.read))),
        )

    pub counted-columns : Numbered (λ (j : ℕ). GivenBy s j c) (columns_with s c)
    unfolding gives
    counted-columns = record {
      numbers = keep gives (places (width_of s));
      once = places-once gives (width_of s);
      each = λ j. let q = places_iff gives (width_of s) j in let r = given_iff j in (λ m. r.0 (q.0 m), λ k. q.1 (r.1 k));
      many = counted (width_of s);
    }

  -- ---- those with a ?
  pub counted-unread : Numbered (λ (j : ℕ). (j < width_of s) × (IsRead s j → ⊥)) (unread_columns s)
  counted-unread = record {
    numbers = keep (λ (j : ℕ). is_unread (column_at s j)) (places (width_of s));
    once = places-once (λ (j : ℕ). is_unread (column_at s j)) (width_of s);
    each = λ j. let q = places_iff (λ (k : ℕ). is_unread (column_at s k)) (width_of s) j in (
      λ m. let k = q.0 m in (k.0, λ r. (read_iff s j).1 r k.1),
      λ k. q.1 (k.0, unread_of j k.1),
    );
    many = ap (λ (l : List (List ℕ)). length (keep is_unread l)) (sym (down_map (column_at s) (λ (i : ℕ). i) (width_of s)))
        ∙ ap length (keep-map (column_at s) is_unread (places (width_of s)))
        ∙ length-map (keep (λ (j : ℕ). is_unread (column_at s j)) (places (width_of s))) (column_at s);
  }
    where
      unread_of : (j : ℕ) → (IsRead s j → ⊥) → T (is_unread (column_at s j))
      unread_of j n = go (T-dec (is_unread (column_at s j)))
        where
          go : T (is_unread (column_at s j)) ⊎ (T (is_unread (column_at s j)) → ⊥) → T (is_unread (column_at s j))
          go (inl t) = t
          go (inr k) = absurd (n ((read_iff s j).0 k))

-- One field of rows in an array, `column` of `specs/Column.antt`: what it holds at a row and past the rows, and when an array is such a
-- column.
--     length-column, column-past     its length, and what stands past the rows
--     column-first, column_rest      the element in front is the last row; the others stay where they are
--     column-more, column-keep       one more row: one store, or none where it holds zero
--     column_at_lem, column_is           the column of what stands in ascending places
-- Assumes nothing.
use mathlib.Core.Path.{◌≡◌, refl, sym, ap, ◌∙◌, subst}
use mathlib.Core.List.{List, [], ◌∷◌, ◌++◌, map, reverse, reverse-cons, append_assoc}
use Prim.Native.Nat.{ℕ, zero, suc, ◌+◌, ◌-◌, ◌≤◌, ◌<◌}
use native.Mathlib.Decide.{dec_le}
use native.Mathlib.Omega.{arith}
use lib.ListN.{get_or, set, length, replicate, length-map, length-reverse, length-replicate, length-append, length-set, get_or-append}
use lib.Seq.{ext_get_or, get_or-append-add, get_or-append_seam, get_or-set_same, get_or-set_other, set-get_or}
use Rattle.laws.specs.Limits.{row_cap}
use Rattle.laws.specs.Orders.{down_to}
use Rattle.laws.specs.Column.{column}
use Rattle.laws.proofs.Down.{down_length}

module _ {A B : Type 0} (z : A) (f : B → A) where
  abbrev front : List B → List A
  front es = reverse (map f es)

  length_front : (es : List B) → length (front es) ≡ length es
  length_front es = length-reverse (map f es) ∙ length-map es f

  front-cons : (e : B) (es : List B) (l : List A) → front (e ∷ es) ++ l ≡ front es ++ (f e ∷ l)
  front-cons e es l = ap (λ (x : List A). x ++ l) (reverse-cons (f e) (map f es)) ∙ append_assoc (front es) (f e ∷ []) l

  zero-past : (n i : ℕ) → get_or (replicate n z) i z ≡ z
  zero-past zero i = refl
  zero-past (suc n) zero = refl
  zero-past (suc n) (suc i) = zero-past n i

  pub length-column : (es : List B) → length es ≤ row_cap → length (column z f es) ≡ row_cap
  length-column es h =
      length-append (front es) (replicate (row_cap - length es) z)
      ∙ omega (arith, length_front es, length-replicate (row_cap - length es) z)

  pub column-past : (es : List B) (i : ℕ) → length es ≤ i → get_or (column z f es) i z ≡ z
  column-past es i h =
      ap (λ (j : ℕ). get_or (column z f es) j z) (let q : i ≡ length (front es) + (i - length es) = omega (arith, length_front es) in q)
      ∙ get_or-append-add (front es) (replicate (row_cap - length es) z) (i - length es) z
      ∙ zero-past (row_cap - length es) (i - length es)

  -- the first element is the last of the rows
  pub column-first : (e : B) (es : List B) → get_or (column z f (e ∷ es)) (length es) z ≡ f e
  column-first e es =
      ap (λ (l : List A). get_or l (length es) z) (front-cons e es (replicate (row_cap - suc (length es)) z))
      ∙ ap (λ (j : ℕ). get_or (front es ++ (f e ∷ replicate (row_cap - suc (length es)) z)) j z) (sym (length_front es))
      ∙ get_or-append_seam (front es) (f e) (replicate (row_cap - suc (length es)) z) z

  pub column_rest : (e : B) (es : List B) (i : ℕ) → i < length es → get_or (column z f (e ∷ es)) i z ≡ get_or (column z f es) i z
  column_rest e es i h =
      let l : i < length (front es) = omega (arith, length_front es) in
      ap (λ (x : List A). get_or x i z) (front-cons e es (replicate (row_cap - suc (length es)) z))
      ∙ get_or-append (front es) (f e ∷ replicate (row_cap - suc (length es)) z) z i l
      ∙ sym (get_or-append (front es) (replicate (row_cap - length es) z) z i l)

  -- ---- one more row
  module _ (e : B) (es : List B) (h : length es < row_cap) where
    room : length (column z f es) ≡ row_cap
    room = length-column es (omega arith)

    pub column-more : column z f (e ∷ es) ≡ set (column z f es) (length es) (f e)
    column-more =
        ext_get_or z (column z f (e ∷ es)) (set (column z f es) (length es) (f e)) (length-column (e ∷ es) h ∙ sym long)
        (λ i _. each i (dec_le (length es) i) (dec_le i (length es)))
      where
        long : length (set (column z f es) (length es) (f e)) ≡ row_cap
        long = length-set (column z f es) (length es) (f e) ∙ room

        each : (i : ℕ) → Dec (length es ≤ i) → Dec (i ≤ length es)
            → get_or (column z f (e ∷ es)) i z ≡ get_or (set (column z f es) (length es) (f e)) i z
        each i (yes a) (yes b) =
            let q : length es ≡ i = omega arith in
            subst (λ (j : ℕ). get_or (column z f (e ∷ es)) j z ≡ get_or (set (column z f es) (length es) (f e)) j z) q
            (column-first e es ∙ sym (get_or-set_same (column z f es) (length es) (f e) z (omega (arith, room))))
        each i (yes a) (no b) =
            column-past (e ∷ es) i (omega arith)
            ∙ sym (get_or-set_other (column z f es) (length es) i (f e) z (λ (q : i ≡ length es). omega arith) ∙ column-past es i a)
        each i (no a) b =
            column_rest e es i (omega arith)
            ∙ sym (get_or-set_other (column z f es) (length es) i (f e) z (λ (q : i ≡ length es). omega arith))

    pub column-keep : f e ≡ z → column z f es ≡ column z f (e ∷ es)
    column-keep q =
        sym (column-more
        ∙ ap (set (column z f es) (length es)) (q ∙ sym (column-past es (length es) (omega arith)))
        ∙ set-get_or (column z f es) (length es) z)

  -- ---- rows in ascending places
  pub column_at_lem : (g : ℕ → B) (n i : ℕ) → i < n → get_or (column z f (down_to g n)) i z ≡ f (g i)
  column_at_lem g zero i h = absurd (omega arith)
  column_at_lem g (suc n) i h = go (dec_le n i) (λ l. column_at_lem g n i l)
    where
      go : Dec (n ≤ i) → (i < n → get_or (column z f (down_to g n)) i z ≡ f (g i)) → get_or (column z f (down_to g (suc n))) i z ≡ f (g i)
      go (yes l) ih =
          let e : i ≡ length (down_to g n) = omega (arith, down_length g n) in
          ap (λ (j : ℕ). get_or (column z f (down_to g (suc n))) j z) e
          ∙ column-first (g n) (down_to g n)
          ∙ ap (λ (j : ℕ). f (g j)) (sym (down_length g n) ∙ sym e)
      go (no l) ih = column_rest (g n) (down_to g n) i (omega (arith, down_length g n)) ∙ ih (omega arith)

  -- a full array that agrees with the rows, and is zero past them, is their column
  pub column_is : (l : List A) (g : ℕ → B) (n : ℕ) → length l ≡ row_cap → n ≤ row_cap
      → ((i : ℕ) → i < n → get_or l i z ≡ f (g i)) → ((i : ℕ) → n ≤ i → get_or l i z ≡ z) → l ≡ column z f (down_to g n)
  column_is l g n s h at past =
      ext_get_or z l (column z f (down_to g n))
      (s ∙ sym (length-column (down_to g n) (subst (λ (k : ℕ). k ≤ row_cap) (sym (down_length g n)) h))) (λ i _. each i (dec_le n i))
    where
      each : (i : ℕ) → Dec (n ≤ i) → get_or l i z ≡ get_or (column z f (down_to g n)) i z
      each i (yes k) = past i k ∙ sym (column-past (down_to g n) i (omega (arith, down_length g n)))
      each i (no k) = at i (omega arith) ∙ sym (column_at_lem g n i (omega arith))

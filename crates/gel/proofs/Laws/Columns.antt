-- One column of a sheet, read up its lines.
--     cluster-lt             the cluster of so many marks has no taxon beyond them
--     bit_is                 what a mark that isn't a ? counts is the mark less a 0
--     marks_to s j i          the first i marks of column j, the last first
--     ReadUp s j n w ..      column j is read but for the lines above: the cluster of their marks, with what is in hand in front of it, is
--                            the column's; the column has a ? where they have one
--     read_none, read_all    nothing is read; all lines are
--     read_small             the cluster in hand is far below what a word holds
--     read_bit               a mark that isn't a ? is 0 or 1
--     read_stopped, read_more     the reading ends at a ?, and goes on past another mark
-- Assumes nothing.
use mathlib.Core.Path.{◌≡◌, refl, sym, ap, ap₂, ◌∙◌, subst}
use mathlib.Core.Logic.{◌⊎◌, inl, inr, ◌≢◌}
use mathlib.Core.Bool.{Bool, true, false, cond, ◌||◌}
use Rattle.std.specs.Prelude.{Some, None}
use mathlib.Core.List.{List, [], ◌∷◌, ◌++◌}
use Prim.Native.Nat.{ℕ, zero, suc, ◌+◌, ◌-◌, ◌*◌, ◌%◌, ◌^◌, ◌≤◌, ◌<◌}
use native.Mathlib.Nat.{suc-mul, pow-suc, mul-mod_left}
use native.Mathlib.Nat.{pow-succ', mul_assoc, mul_comm, add-mul, le-mul_of_pos_right}
use native.Mathlib.Omega.{arith}
use borrow.Author.Tests.{ne_eqb}
use lib.Dec.{T, eqb, eqb→eq}
use lib.ListN.{length, length-append, get_or, get_or-append}
use lib.Seq.{get_or-append-add}
use Rattle.std.proofs.lemmas.List.{append_assoc, append-nil, nil_from_length}
use lib.Pow.{pow_mono, pow_pos}
use Rattle.laws.specs.Orders.{down_to}
use Rattle.laws.proofs.Down.{down_length, elem_down_iff}
use Rattle.laws.proofs.Tests.{T-or, T_true}
use Rattle.gel.specs.Lines.{nought, one, unread, line_max, line_count}
use Rattle.gel.specs.Columns.{mark_at, column_at, is_unread, cluster_of}
use Rattle.gel.specs.Form.{is_bit, Formed, read_of}

-- a taxon that is taken or not is no more than itself
cond-le : (b : Bool) (t : ℕ) → cond b t 0 ≤ t
cond-le true t = omega arith
cond-le false t = omega arith

pub cluster-lt : (x : List ℕ) → cluster_of x < 2 ^ length x
cluster-lt [] = omega arith
cluster-lt (b ∷ x) = omega (arith, cluster-lt x, cond-le (eqb b one) (2 ^ length x), pow-suc 2 (length x))

pub bit_is : (b : ℕ) → T (is_bit b) → (nought ≤ b) × (b - nought ≡ cond (eqb b one) 1 0)
bit_is b h = go (T-or (eqb b nought) (eqb b one) h)
  where
    go : T (eqb b nought) ⊎ T (eqb b one) → (nought ≤ b) × (b - nought ≡ cond (eqb b one) 1 0)
    go (inl k) = let e = eqb→eq b nought k in (omega (arith, e), rw e refl)
    go (inr k) = let e = eqb→eq b one k in (omega (arith, e), rw e refl)

-- one that counts or not, so many times
cond-mul : (b : Bool) (t : ℕ) → cond b 1 0 * t ≡ cond b t 0
cond-mul true t = omega arith
cond-mul false t = omega arith

module _ (s : List ℕ) (j : ℕ) where
  abbrev pub marks_to : ℕ → List ℕ
  marks_to i = down_to (λ (k : ℕ). mark_at s k j) i

  -- of the lines above, so many are left
  pub record ReadUp (n w cluster : ℕ) (above : List ℕ) : Type 0 where
    pub left : ℕ
    pub below : List ℕ
    pub parts : s ≡ above ++ below
    pub high : left ≤ n
    pub long : length above ≡ left * (w + 1)
    pub ones : cluster * 2 ^ left + cluster_of (marks_to left) ≡ cluster_of (marks_to n)
    pub clear : is_unread (marks_to n) ≡ is_unread (marks_to left)

  module _ (n w : ℕ) (formed : Formed s n w) (inside : j < w) where
    -- no bytes stand in front of the lines
    pub read_none : (front above : List ℕ) → s ≡ front ++ above → length front ≡ length s % (w + 1) → ReadUp n w 0 above
    read_none front above parts rest =
        let none : front ≡ [] = nil_from_length front (rest ∙ ap (λ (k : ℕ). k % (w + 1)) formed.long ∙ mul-mod_left n (w + 1)) in
        let whole : s ≡ above = parts ∙ ap (λ (l : List ℕ). l ++ above) none in
        record {
          left = n;
          below = [];
          parts = whole ∙ sym (append-nil above);
          high = omega arith;
          long = ap length (sym whole) ∙ formed.long;
          ones = omega arith;
          clear = refl;
        }

    module _ (cluster : ℕ) (above : List ℕ) (r : ReadUp n w cluster above) where
      pub read_small : cluster < 2 ^ line_max
      read_small =
          omega (
            arith,
            le-mul_of_pos_right cluster (pow_pos r.left),
            r.ones,
            rw (down_length (λ (k : ℕ). mark_at s k j) n) at (cluster-lt (marks_to n)),
            pow_mono formed.most,
          )

      -- a line more has bytes
      lines-left : (i m : ℕ) → length above ≡ i * (w + 1) → length above ≡ m + (w + 1) → i ≢ 0
      lines-left zero m e k z = omega (arith, e, k)
      lines-left (suc i) m e k z = omega (arith, z)

      pub read_all : length above < w + 1 → Some cluster ≡ read_of (column_at s j)
      read_all short = go r.left r.long r.ones r.clear
        where
          go : (i : ℕ) → length above ≡ i * (w + 1) → cluster * 2 ^ i + cluster_of (marks_to i) ≡ cluster_of (marks_to n)
              → is_unread (marks_to n) ≡ is_unread (marks_to i) → Some cluster ≡ read_of (column_at s j)
          go zero long ones clear = sym (rw (sym formed.lines, clear, sym ones) (ap Some (omega arith)))
          go (suc i) long ones clear = absurd (omega (arith, short, long, suc-mul i (w + 1)))

      module _ (rest line : List ℕ) (cut : above ≡ rest ++ line) (size : length line ≡ w + 1) where
        -- which line it is
        abbrev pub last : ℕ
        last = r.left - 1

        some : r.left ≡ suc last
        some =
            let k = lines-left r.left (length rest) r.long (omega (arith, ap length cut, length-append rest line, size)) in
            omega (arith, k)

        rest_long : length rest ≡ last * (w + 1)
        rest_long =
            omega (arith, ap length cut, length-append rest line, size, r.long, ap (λ (k : ℕ). k * (w + 1)) some, suc-mul last (w + 1))

        parts_more : s ≡ rest ++ (line ++ r.below)
        parts_more = r.parts ∙ ap (λ (l : List ℕ). l ++ r.below) cut ∙ append_assoc rest line r.below

        -- the mark of that line
        abbrev mark : ℕ
        mark = get_or line j 0

        mark_is : mark ≡ mark_at s last j
        mark_is =
            sym (get_or-append line r.below 0 j (omega (arith, inside, size)))
            ∙ sym (get_or-append-add rest (line ++ r.below) j 0)
            ∙ ap₂ (λ (l : List ℕ) (k : ℕ). get_or l (k + j) 0) (sym parts_more) rest_long
            ∙ formed.marks last j (omega (arith, r.high, some)) inside

        pub read_stopped : mark ≡ unread → None ≡ read_of (column_at s j)
        read_stopped e = sym (rw found refl)
          where
            found : is_unread (column_at s j) ≡ true
            found =
                T_true (is_unread (column_at s j))
                ((elem_down_iff (λ (k : ℕ). mark_at s k j) (line_count s) unread).1
                (last, omega (arith, r.high, some, formed.lines), sym e ∙ mark_is))

        module _ (other : mark ≢ unread) where
          pub read_bit : T (is_bit mark)
          read_bit = subst (λ (b : ℕ). T (is_bit b)) (sym mark_is) (go (T-or (is_bit m) (eqb m unread) told))
            where
              m : ℕ
              m = mark_at s last j

              told : T (is_bit m || eqb m unread)
              told = formed.marked last j (omega (arith, r.high, some)) inside

              go : T (is_bit m) ⊎ T (eqb m unread) → T (is_bit m)
              go (inl h) = h
              go (inr h) = absurd (other (mark_is ∙ eqb→eq m unread h))

          -- t is what the mark counts
          pub read_more : (t : ℕ) → t ≡ cond (eqb mark one) 1 0 → ReadUp n w (2 * cluster + t) rest
          read_more t is = record {
            left = last;
            below = line ++ r.below;
            parts = parts_more;
            high = omega (arith, r.high);
            long = rest_long;
            ones = omega (arith, ones, adds, doubled, add-mul (2 * cluster) t (2 ^ last));
            clear =
                clear
                ∙ rw (ne_eqb unread (mark_at s last j) (λ (e : unread ≡ mark_at s last j). other (mark_is ∙ sym e))) refl;
          }
            where
              ones : cluster * 2 ^ suc last + cluster_of (marks_to (suc last)) ≡ cluster_of (marks_to n)
              ones = subst (λ (k : ℕ). cluster * 2 ^ k + cluster_of (marks_to k) ≡ cluster_of (marks_to n)) some r.ones

              clear : is_unread (marks_to n) ≡ is_unread (marks_to (suc last))
              clear = subst (λ (k : ℕ). is_unread (marks_to n) ≡ is_unread (marks_to k)) some r.clear

              adds : t * 2 ^ last ≡ cond (eqb (mark_at s last j) one) (2 ^ length (marks_to last)) 0
              adds =
                  ap (λ (x : ℕ). x * 2 ^ last) (is ∙ ap (λ (m : ℕ). cond (eqb m one) 1 0) mark_is)
                  ∙ cond-mul (eqb (mark_at s last j) one) (2 ^ last)
                  ∙ ap (λ (k : ℕ). cond (eqb (mark_at s last j) one) (2 ^ k) 0) (sym (down_length (λ (k : ℕ). mark_at s k j) last))

              doubled : cluster * 2 ^ suc last ≡ 2 * cluster * 2 ^ last
              doubled =
                  ap (λ (x : ℕ). cluster * x) (pow-succ' 2 last)
                  ∙ sym (mul_assoc cluster 2 (2 ^ last))
                  ∙ ap (λ (x : ℕ). x * 2 ^ last) (mul_comm cluster 2)

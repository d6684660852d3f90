-- Tuples of a fit table's rows with no zero count, by the sets of their members: es are the rows, the largest cluster first.
--     member_in es τ        a cluster is marked in one row of the tuple τ or more
--     set_of_marks         the clusters that the marks of a family mark are the family's
--     Live es d C τ        a tuple of C without a zero count; live→ reads it out of the list of them
--     key_is               its key is the sum of bests and the marks of its members
--     no_common            two rows of it have no member in common
--     member_other         no member is C
--     same-members         two such tuples with the same members are equal
-- Assumes nothing.
use mathlib.Core.Path.{◌≡◌, refl, sym, ap, ap₂, ◌∙◌, subst}
use mathlib.Core.Logic.{◌⊎◌, inl, inr, ◌≢◌}
use mathlib.Core.Bool.{not}
use mathlib.Core.List.Memᴰ
use mathlib.Core.List.{List, [], ◌∷◌, map}
use mathlib.Core.List.Memᴰ.{head as here}
use mathlib.Core.List.Memᴰ.{tail as there}
use mathlib.Core.List.{Memᴰ as Mem}
use Prim.Native.Nat.{ℕ, ◌+◌}
use lib.Dec.{T, eqb}
use lib.IntN.{ℤ, ◌+ℤ◌}
use Rattle.laws.specs.Cluster.{inside, apart}
use Rattle.laws.specs.Limits.{Width}
use Rattle.laws.specs.Lists.{keep, any, sublists}
use Rattle.laws.specs.Orders.{Falling}
use Rattle.laws.proofs.Cluster.{inside_trans, inside_antisym, zero_of_apart, apart_of_inside, inside_refl}
use Rattle.laws.proofs.Falling.{falling_once, sublist-only}
use Rattle.laws.proofs.Keep.{mem_of_keep, every→, any→, →any, keep_ext}
use Rattle.laws.proofs.Once.{once-map-keep}
use Rattle.laws.proofs.Tests.{neq→}
use Rattle.trees.specs.Rows.{cl, sc}
use Rattle.trees.specs.Tuple.{all_apart, is_tuple, tuples}
use Rattle.trees.specs.Result.{marks_in}
use Rattle.trees.specs.Beneath.{Beneath, is_live, key_of}
use Rattle.trees.proofs.Sets.Families.{Fam, Disj}
use Rattle.trees.proofs.Sets.Tuples.{tuple→, tuple_mem, scored_part, part_inside, part_other, apart-first, apart_rest, apart_of_tuple}
use Rattle.trees.proofs.Ties.Marks.{marks-lt, marks-none, marks_join, marks_inj}
use Rattle.kept.specs.Marks.{is_marked_in}
use Rattle.kept.proofs.Laws.Fit.{fit→}
use Rattle.table.proofs.Fitting.FitTables.{FitRows, fit-nonzero}
use Rattle.table.proofs.Rows.Marked.{marked-mem, every_marked→, marks_of-marked}
use Rattle.demands.specs.Worked.{marked_set, sum_bests}

pub set_of_marks : (cs : List ℕ) (S : Fam) → Falling cs → marked_set cs (marks_in cs S) ≡ keep S cs
set_of_marks cs S f =
    keep_ext (is_marked_in cs (marks_in cs S)) S cs
    (marks_inj cs (is_marked_in cs (marks_in cs S)) S (sym (marks_of-marked cs (marks_in cs S) f (marks-lt cs S))))

sum_of_key : (τ : List Beneath) → (key_of τ).0 ≡ sum_bests τ
sum_of_key [] = refl
sum_of_key (e ∷ τ) = ap (λ (z : ℤ). e.val.best +ℤ z) (sum_of_key τ)

module _ (es : List Beneath) where
  abbrev cs : List ℕ
  cs = map cl es

  abbrev marked : Beneath → Fam
  marked e = is_marked_in cs e.val.members

  abbrev pub member_in : List Beneath → Fam
  member_in τ = λ c. any (λ (e : Beneath). is_marked_in cs e.val.members c) τ

  -- a row with a count: it is a member of its own, its members lie inside it, and its marks are theirs
  record Part (e : Beneath) : Type 0 where
    own : T (marked e (cl e))
    within : (c : ℕ) → T (marked e c) → T (inside c (cl e))
    coded : e.val.members ≡ marks_in cs (marked e)

  pub record Live (d C : ℕ) (τ : List Beneath) : Type 0 where
    among : Mem τ (sublists (keep sc es))
    tuple : T (is_tuple d C (map cl τ))
    part : (e : Beneath) → Mem e τ → Part e

module _ (W : Width) (d : ℕ) (es : List Beneath) (k : FitRows W d es) where
  nonzero : (c : ℕ) → Mem c (map cl es) → c ≢ 0
  nonzero = fit-nonzero W d es k

  part_of : (e : Beneath) → Mem e es → e.val.count ≢ 0 → Part es e
  part_of e m n =
      let f = (fit→ W (map cl es) e (k.each e m)).matched in
      record {
        own = f.own n;
        within = every_marked→ (map cl es) e.val.members (λ (c : ℕ). inside c (cl e)) (f.inner n);
        coded = marks_of-marked (map cl es) e.val.members k.falls f.below;
      }

  pub live→ : (C : ℕ) (τ : List Beneath) → Mem τ (keep is_live (tuples d C (keep sc es))) → Live es d C τ
  live→ C τ m =
      let q = mem_of_keep is_live (tuples d C (keep sc es)) m in
      let p = tuple_mem d C (keep sc es) τ q.0 in
      record {
        among = p.0;
        tuple = p.1;
        part = λ e i. part_of e (scored_part d C es τ q.0 e i).0
            (neq→ e.val.count 0 (every→ (λ (x : Beneath). not (eqb x.val.count 0)) τ q.1 e i));
      }

  -- a cluster that is marked in a row is no row's that is apart from that one
  apart-marked : (e : Beneath) (τ : List Beneath) → Part es e → ((x : Beneath) → Mem x τ → Part es x) → T (all_apart (map cl (e ∷ τ)))
      → Disj (marked es e) (member_in es τ)
  apart-marked e τ p g a c s u =
      let q = any→ (λ (x : Beneath). marked es x c) τ u in
      let away = apart-first (cl e) (map cl τ) a (cl q.0) (Memᴰ.map cl q.1) in
      nonzero c (marked-mem (map cl es) e.val.members c s)
      (zero_of_apart c (apart_of_inside (cl e) (cl q.0) c c away (p.within c s) ((g q.0 q.1).within c q.2)))

  key_marks : (τ : List Beneath) → ((e : Beneath) → Mem e τ → Part es e) → T (all_apart (map cl τ))
      → (key_of τ).1 ≡ marks_in (map cl es) (member_in es τ)
  key_marks [] g a = sym (marks-none (map cl es) (member_in es []) (λ c m t. t))
  key_marks (e ∷ τ) g a =
      ap₂ (λ (m n : ℕ). m + n) (g e (here refl)).coded (key_marks τ (λ x m. g x (there m)) (apart_rest (cl e) (map cl τ) a))
      ∙ sym (marks_join (map cl es) (marked es e) (member_in es τ) (apart-marked e τ (g e (here refl)) (λ x m. g x (there m)) a))

  module _ (C : ℕ) where
    pub key_is : (τ : List Beneath) → Live es d C τ → key_of τ ≡ (sum_bests τ, marks_in (map cl es) (member_in es τ))
    key_is τ f = λ i. (sum_of_key τ i, key_marks τ f.part (tuple→ d C (map cl τ) f.tuple).apart i)

    -- ---- members, and the rows that have them

    part_nonzero : (τ : List Beneath) → Live es d C τ → (c : ℕ) → Mem c (map cl τ) → c ≢ 0
    part_nonzero τ f c m =
        let q = Memᴰ.of_map cl τ m in
        nonzero c (subst (λ (x : ℕ). Mem x (map cl es)) q.2
        (marked-mem (map cl es) q.0.val.members (cl q.0) (f.part q.0 q.1).own))

    -- two rows of a tuple have no member in common
    pub no_common : (τ : List Beneath) → Live es d C τ → (e x : Beneath) → Mem e τ → Mem x τ → cl e ≢ cl x → (c : ℕ)
        → T (is_marked_in (map cl es) e.val.members c) → T (is_marked_in (map cl es) x.val.members c) → ⊥
    no_common τ f e x m n other c s u =
        go (apart_of_tuple (map cl τ) (tuple→ d C (map cl τ) f.tuple).apart (cl e) (cl x) (Memᴰ.map cl m) (Memᴰ.map cl n))
      where
        go : (cl e ≡ cl x) ⊎ T (apart (cl e) (cl x)) → ⊥
        go (inl q) = other q
        go (inr a) =
            nonzero c (marked-mem (map cl es) e.val.members c s)
            (zero_of_apart c (apart_of_inside (cl e) (cl x) c c a ((f.part e m).within c s) ((f.part x n).within c u)))

    pub member_other : (τ : List Beneath) → Live es d C τ → (c : ℕ) → T (member_in es τ c) → c ≢ C
    member_other τ f c t e =
        let q = any→ (λ (x : Beneath). marked es x c) τ t in
        let m = Memᴰ.map cl q.1 in
        let whole = subst (λ (x : ℕ). T (inside x (cl q.0))) e ((f.part q.0 q.1).within c q.2) in
        part_other d C (map cl τ) (part_nonzero τ f) f.tuple (cl q.0) m
        (inside_antisym (cl q.0) C (part_inside d C (map cl τ) f.tuple (cl q.0) m) whole)

    own_member : (τ : List Beneath) → Live es d C τ → (e : Beneath) → Mem e τ → Mem (cl e) (map cl es) × T (member_in es τ (cl e))
    own_member τ f e m =
        let own = (f.part e m).own in
        (marked-mem (map cl es) e.val.members (cl e) own, →any (λ (x : Beneath). marked es x (cl e)) τ m own)

    -- the row that has a member
    holder : (τ : List Beneath) → Live es d C τ → (c : ℕ) → T (member_in es τ c) → (e : Beneath) × Mem e τ × T (inside c (cl e))
    holder τ f c t =
        let q = any→ (λ (x : Beneath). marked es x c) τ t in
        (q.0, q.1, (f.part q.0 q.1).within c q.2)

    -- two rows of a tuple, the one inside the other, are one
    nested_same : (τ : List Beneath) → Live es d C τ → (e x : Beneath) → Mem e τ → Mem x τ → T (inside (cl e) (cl x)) → cl e ≡ cl x
    nested_same τ f e x m n i =
        go (apart_of_tuple (map cl τ) (tuple→ d C (map cl τ) f.tuple).apart (cl e) (cl x) (Memᴰ.map cl m) (Memᴰ.map cl n))
      where
        go : (cl e ≡ cl x) ⊎ T (apart (cl e) (cl x)) → cl e ≡ cl x
        go (inl q) = q
        go (inr a) =
            absurd (part_nonzero τ f (cl e) (Memᴰ.map cl m)
            (zero_of_apart (cl e) (apart_of_inside (cl e) (cl x) (cl e) (cl e) a (inside_refl (cl e)) i)))

    -- ---- tuples with the same members

    abbrev Agree : List Beneath → List Beneath → Type 0
    Agree σ τ = (c : ℕ) → Mem c (map cl es) → member_in es σ c ≡ member_in es τ c

    -- a row of τ that lies inside a row of σ, which lies inside a row of τ, has that one's cluster
    between : (σ τ : List Beneath) → Live es d C τ → (e x y : Beneath) → Mem e τ → Mem x σ → Mem y τ → T (inside (cl e) (cl x))
        → T (inside (cl x) (cl y)) → Mem (cl e) (map cl σ)
    between σ τ g e x y m n k i j =
        let q = nested_same τ g e y m k (inside_trans (cl e) (cl x) (cl y) i j) in
        Memᴰ.cast (inside_antisym (cl e) (cl x) i (subst (λ (c : ℕ). T (inside (cl x) c)) (sym q) j)) (Memᴰ.map cl n)

    shared : (σ τ : List Beneath) → Live es d C σ → Live es d C τ → Agree σ τ → (e : Beneath) → Mem e τ → Mem (cl e) (map cl σ)
    shared σ τ f g same e m = above (holder σ f (cl e) (subst T (sym (same (cl e) own.0)) own.1))
      where
        own : Mem (cl e) (map cl es) × T (member_in es τ (cl e))
        own = own_member τ g e m

        above : (x : Beneath) × Mem x σ × T (inside (cl e) (cl x)) → Mem (cl e) (map cl σ)
        above x =
            let b = own_member σ f x.0 x.1 in
            let y = holder τ g (cl x.0) (subst T (same (cl x.0) b.0) b.1) in
            between σ τ g e x.0 y.0 m x.1 y.1 x.2 y.2

    pub same-members : (σ τ : List Beneath) → Live es d C σ → Live es d C τ → Agree σ τ → σ ≡ τ
    same-members σ τ f g same =
        sublist-only cl (keep sc es) (once-map-keep cl sc es (falling_once (map cl es) k.falls)) σ τ f.among g.among
        (shared τ σ g f (λ c m. sym (same c m))) (shared σ τ f g same)

-- The tuples that the search meets: the same search, run over lists of tuples, in which a row's value is the row itself. It meets the
-- tuples of a row from the last to the first of `tuples`, so exactly them and each once.
--     before, tuple_kind    lists of tuples: the sum puts one behind the other, and the product joins each with each
--     lone e               the entry whose value is the one tuple of e alone
--     met n R es           the tuples that the search meets, in the order in which it meets them
--     met_is, met_tuples   they are the covers of R, and for a row its tuples, from the last to the first
--     Exactly xs ys        xs has each element of ys and no other, and none twice
--     met_exactly          the search of a row meets exactly its tuples, each once
-- Assumes nothing.
use mathlib.Core.Path.{◌≡◌, refl, sym, ap, ap₂, ◌∙◌, subst}
use mathlib.Core.List.{List, [], ◌∷◌, ◌++◌, map, append-nil, append_assoc, reverse, Memᴰ as Mem}
use Prim.Native.Nat.{ℕ, ◌-◌, ◌<◌}
use Rattle.laws.specs.Lists.{keep, bind, Once}
use Rattle.laws.proofs.Keep.{mem_of_keep, keep-map}
use Rattle.laws.proofs.Once.{once-keep, once_of_map}
use Rattle.laws.proofs.Descends.{Descends, descends_once}
use Rattle.laws.proofs.Appended.{bind-append, map-reverse, mem-reverse, mem_of_reverse, once-reverse}
use Rattle.trees.specs.Rows.{Entry, cl, sc}
use Rattle.trees.specs.Tuple.{tuples}
use Rattle.trees.specs.Kind.{Kind, prod_k, over_tuples}
use Rattle.trees.specs.Cover.{covers_of}
use Rattle.trees.proofs.Sets.Tuples.{tuples-once}
use Rattle.trees.proofs.Searching.Covers.{tuples_are_covers, clusters-map, covers_of-map}
use Rattle.trees.proofs.Searching.Search.{search}
use Rattle.trees.proofs.Searching.SearchOrder.{Summing, search_in_order}

pub record Exactly {B : Type 0} (xs ys : List B) : Type 0 where
  pub each : (x : B) → Mem x ys → Mem x xs
  pub only : (x : B) → Mem x xs → Mem x ys
  pub once : Once xs

module _ {A : Type 0} where
  -- each of xs with y behind it
  abbrev pub before : List (List (Entry A)) → List (Entry A) → List (List (Entry A))
  before xs y = map (λ (x : List (Entry A)). x ++ y) xs

  abbrev pub tuple_kind : Kind (List (List (Entry A)))
  tuple_kind = record { none = []; unit = [] ∷ []; plus = λ xs ys. xs ++ ys; times = λ xs ys. bind (before xs) ys; own = λ r. [] }

  abbrev pub lone : Entry A → Entry (List (List (Entry A)))
  lone e = record { row = e.row; val = (e ∷ []) ∷ [] }

  abbrev pub met : ℕ → ℕ → List (Entry A) → List (List (Entry A))
  met n R es = search tuple_kind n R (map lone es)

  -- ---- the sum over tuples of lone entries is the list of the tuples

  before-nil : (xs : List (List (Entry A))) → before xs [] ≡ xs
  before-nil [] = refl
  before-nil (x ∷ xs) = ap₂ (λ (y : List (Entry A)) (ys : List (List (Entry A))). y ∷ ys) (append-nil x) (before-nil xs)

  tuple_summing : Summing tuple_kind
  tuple_summing = record {
    none-plus = λ xs. refl;
    plus_none = append-nil;
    plus_assoc = append_assoc;
    times_none = λ xs. refl;
    times-unit = λ xs. append-nil (before xs []) ∙ before-nil xs;
    times-plus = λ xs. bind-append (before xs);
  }

  prod_lone : (τ : List (Entry A)) → prod_k tuple_kind (map lone τ) ≡ τ ∷ []
  prod_lone [] = refl
  prod_lone (e ∷ τ) = ap (bind (before ((e ∷ []) ∷ []))) (prod_lone τ)

  over_lone : (τs : List (List (Entry A))) → over_tuples tuple_kind (map (map lone) τs) ≡ τs
  over_lone [] = refl
  over_lone (τ ∷ τs) = ap₂ (λ (x y : List (List (Entry A))). x ++ y) (prod_lone τ) (over_lone τs)

  over_back : (n R : ℕ) (es : List (Entry A)) → over_tuples tuple_kind (reverse (covers_of n R (map lone es))) ≡ reverse (covers_of n R es)
  over_back n R es =
      ap (λ (τs : List (List (Entry (List (List (Entry A)))))). over_tuples tuple_kind (reverse τs)) (covers_of-map lone (λ e. refl) n R es)
      ∙ ap (over_tuples tuple_kind) (sym (map-reverse (map lone) (covers_of n R es)))
      ∙ over_lone (reverse (covers_of n R es))

  -- ---- what is met

  pub met_is : (n R : ℕ) (es : List (Entry A)) → Descends (map cl es) → 0 < R → met n R es ≡ reverse (covers_of n R (keep sc es))
  met_is n R es h p =
      search_in_order tuple_kind tuple_summing n R (map lone es) (subst Descends (sym (clusters-map lone (λ e. refl) es)) h) p
      ∙ ap (λ (l : List (Entry (List (List (Entry A))))). over_tuples tuple_kind (reverse (covers_of n R l))) (keep-map lone sc es)
      ∙ over_back n R (keep sc es)

  pub met_tuples : (d C : ℕ) (es : List (Entry A)) → Descends (map cl es) → 0 < C → ((x : Entry A) → Mem x es → cl x < C)
      → met (d - 1) C es ≡ reverse (tuples d C (keep sc es))
  met_tuples d C es h p f =
      met_is (d - 1) C es h p ∙ ap reverse (sym (tuples_are_covers d C (keep sc es) p (λ x m. f x (mem_of_keep sc es m).0)))

  pub met_exactly : (d C : ℕ) (es : List (Entry A)) → Descends (map cl es) → 0 < C → ((x : Entry A) → Mem x es → cl x < C)
      → Exactly (met (d - 1) C es) (tuples d C (keep sc es))
  met_exactly d C es h p f =
      subst (λ (τs : List (List (Entry A))). Exactly τs (tuples d C (keep sc es))) (sym (met_tuples d C es h p f))
      (record { each = λ τ. mem-reverse {x = τ} all; only = λ τ. mem_of_reverse {x = τ} all; once = once-reverse all no_two })
    where
      all : List (List (Entry A))
      all = tuples d C (keep sc es)

      no_two : Once all
      no_two = tuples-once d C (keep sc es) (once-keep sc es (once_of_map cl es (descends_once (map cl es) h)))

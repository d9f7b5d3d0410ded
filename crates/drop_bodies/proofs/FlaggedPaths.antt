-- The flags of the paths that need one are flags of the body: each of these paths stands once, and is watched.
use Rattle.std.proofs.Common.{◌≡◌, ◌∙◌, ◌∷◌, [], ℕ, zero, suc, Bool, true, false, List, Some, filter, length, slice_get, refl, sym, ap, subst, arith, if◌then◌else◌}
use Rattle.std.proofs.lemmas.Bool.{false≢true}
use Rattle.std.proofs.lemmas.Option.{none-some, same_Some}
use Rattle.mir_ty.specs.ItemTable.{ItemTable}
use Rattle.mir_ty.proofs.ListLemmas.{Contains-slice_get}
use Rattle.store_model.specs.Places.Place as plain
use Rattle.store_model.specs.Places.Place.{Step, watched}
use Rattle.cfg_graph.specs.declared.graph.Body.{Body}
use Rattle.cfg_graph.specs.Moves.Gone.{counts, reaches_whole}
use Rattle.cfg_graph.specs.Places.{named}
use Rattle.move_paths.specs.Forest.{PathForest, IsForest, is_local, is_path}
use Rattle.move_paths.specs.Trie.{AreOnce}
use Rattle.drop_elaborate.proofs.PathSpares.{changed-below, use-below}
use Rattle.drop_elaborate.specs.Kinds.{AreFlagged}
use Rattle.drop_flags.specs.Flags.{AreFlags, paths_of}
use Rattle.drop_flags.specs.declared.flags.Flags.{Flags}
use Rattle.drop_laws.proofs.Elsewhere.{watched-upper}

filter-in : {A : Type 0} (test : A → Bool) (xs : List A) (j : ℕ) (x : A) → slice_get (filter test xs) j ≡ Some x →
    (k : ℕ) × (slice_get xs k ≡ Some x)
filter-in test [] j x e = absurd (none-some x e)
filter-in {A} test (y ∷ xs) j x e = by (test y) j e (filter-in test xs)
  where
    by : (b : Bool) (j : ℕ) → slice_get (if b then y ∷ filter test xs else filter test xs) j ≡ Some x →
        ((j : ℕ) (x : A) → slice_get (filter test xs) j ≡ Some x → (k : ℕ) × (slice_get xs k ≡ Some x)) →
        (k : ℕ) × (slice_get (y ∷ xs) k ≡ Some x)
    by true zero e again = (0, e)
    by true (suc j) e again = let r = again j x e in (suc r.0, r.1)
    by false j e again = let r = again j x e in (suc r.0, r.1)

once-tail : {A : Type 0} (y : A) (xs : List A) → AreOnce (y ∷ xs) → AreOnce xs
once-tail y xs once i j x a b = let e = once (suc i) (suc j) x a b in omega (e, arith)

pub filter-once : {A : Type 0} (test : A → Bool) (xs : List A) → AreOnce xs → AreOnce (filter test xs)
filter-once test [] once i j x a b = absurd (none-some x a)
filter-once {A} test (y ∷ xs) once i j x a b = by (test y) (filter-once test xs (once-tail y xs once)) i j x a b
  where
    apart : (k : ℕ) (x : A) → x ≡ y → slice_get (filter test xs) k ≡ Some x → ⊥
    apart k x same at =
        let r = filter-in test xs k x at in
        let e = once 0 (suc r.0) y refl (r.1 ∙ ap Some same) in omega (e, arith)

    by : (b : Bool) → AreOnce (filter test xs) → (i j : ℕ) (x : A) →
        slice_get (if b then y ∷ filter test xs else filter test xs) i ≡ Some x →
        slice_get (if b then y ∷ filter test xs else filter test xs) j ≡ Some x → i ≡ j
    by true rest zero zero x a b = refl
    by true rest zero (suc j) x a b = absurd (apart j x (sym (same_Some y x a)) b)
    by true rest (suc i) zero x a b = absurd (apart i x (sym (same_Some y x b)) a)
    by true rest (suc i) (suc j) x a b = (let e = rest i j x a b in omega (e, arith))
    by false rest i j x a b = rest i j x a b

module _ (items : ItemTable) (body : Body) (forest : PathForest) (is : IsForest items body forest) where
  -- a path is watched to its end
  path-counts : (path : plain.Place) → is_path items body path ≡ true → counts items body path ≡ true
  path-counts path h = by (is_local path.steps) refl
    where
      none : (l : List Step) → is_local l ≡ true → l ≡ []
      none [] e = refl
      none (step ∷ l) e = absurd (false≢true e)

      by : (b : Bool) → is_local path.steps ≡ b → counts items body path ≡ true
      by true e =
          ap (λ (l : List Step). reaches_whole (watched items (slice_get body.locals path.local) l)) (none path.steps e)
      by false e =
          let x = changed-below items body path h e in
          let u = use-below items body path x.x x.passes in
          watched-upper items path.steps u.more (slice_get body.locals path.local)
          (ap (λ (l : List Step). reaches_whole (watched items (slice_get body.locals path.local) l)) (sym u.steps_are)
          ∙ ap (λ (k : ℕ). reaches_whole (watched items (slice_get body.locals k) (named x.x.1).steps)) (sym u.local_is) ∙ u.counted)

  pub flags-are : (flags : Flags) → flags.params ≡ body.params → flags.first ≡ length body.locals →
      AreFlagged items body forest.paths (paths_of flags) → AreFlags items body flags
  flags-are flags params first are = record {
    params = params;
    first = first;
    watched = λ n path at.
        let r = filter-in are.test forest.paths n path (ap (λ l. slice_get l n) (sym are.those) ∙ at) in
        path-counts path ((is.each path).0 (Contains-slice_get forest.paths r.0 path r.1));
  }

  pub flagged-once : (flagged : List plain.Place) → AreFlagged items body forest.paths flagged → AreOnce flagged
  flagged-once flagged are = subst AreOnce (sym are.those) (filter-once are.test forest.paths is.once)

-- What stands around a node with the names of a pattern in scope: in a block they are entries, in a guard they stand
-- for parts of what is matched.
use Rattle.std.proofs.Common.{◌≡◌, ◌⊎◌, inl, inr, ℕ, zero, suc, ◌==◌, ◌&&◌, not, Bool, true, false, List, [], ◌∷◌, ◌++◌, Option, Some, None, is_none, if◌then◌else◌, refl, ap, sym, ◌∙◌, subst}
use Rattle.std.specs.List.{find, filter_map}
use Rattle.std.proofs.lemmas.Bool.{false≢true}
use Rattle.std.proofs.lemmas.Bool.Decides.{Decides-eqb}
use Rattle.std.proofs.lemmas.Option.{none-some}
use Rattle.std.specs.Prelude.{replicate}
use Rattle.mir_base.specs.declared.place_in_text.Pos.{Pos}
use Rattle.mir_ty.specs.declared.ty.TyId.{TyId}
use Rattle.mir_ty.specs.Facts.{has_drop_impl}
use Rattle.mir_ty.specs.ItemTable.{ItemTable}
use Rattle.mir_ty.specs.Parts.{field_ty}
use Rattle.store_model.specs.Effects.{Effects}
use Rattle.store_model.specs.Places.Place.{Step, ToPart, ToField, Place, whole_local}
use Rattle.typed_tree.specs.declared.node.Use.{Use}
use Rattle.typed_tree.specs.Nodes.{number_of, nodes_of, nodes_in, nodes_among, nodes_of_fields}
use Rattle.typed_tree.specs.Tree as tree
use Rattle.typed_tree.specs.Tree.{Node, node, Form, Nodes, no_node, a_node, Fields, no_field, a_field}
use Rattle.src_meaning.specs.Forms as forms
use Rattle.src_meaning.specs.Forms.{Destination, LoopsAndGuards, Meaning, in_guard}
use Rattle.src_meaning.specs.Scopes.{Entry, Scopes, Exit, Does}
use Rattle.src_meaning.specs.Shape.{BoundName, extended, head, shape, shape_of, Parts, in_fields, in_parts, Aliases, place_of_key}
use Rattle.well_typed.specs.Claim.{Claim, Holds, fact, both, some}
use Rattle.well_typed.specs.Patterns as typing
use Rattle.well_typed.specs.Patterns.{Matched, binding_name, binding_entry, entries_of, has_no_names}
use Rattle.well_typed.specs.Places as places
use Rattle.well_typed.specs.Places.{InScope, LoopAround, Context, with_entries, entry_with, loop_with}
use Rattle.well_typed.specs.Types as types
use Rattle.soundness_values.proofs.Leaving.{Among}
use Rattle.soundness_cells.proofs.PassClear.{KeepsClear}
use Rattle.soundness_values.proofs.PassHeads.{IsName}
use Rattle.soundness_cells.proofs.PassNames as names
use Rattle.soundness_cells.proofs.PassNames.{NameIn, named_by}
use Rattle.soundness_cells.proofs.PassNodes as nodes
use Rattle.soundness_cells.proofs.PassPatterns as patterns
use Rattle.soundness_cells.proofs.PassScopes as scopes
use Rattle.soundness_cells.proofs.PassRules as rules
use Rattle.soundness_cells.proofs.PassSteps as steps
use Rattle.soundness_values.proofs.PlaceTypes.{some_holds}

module _ {V : Type 0} (items : ItemTable) (needs : ℕ → Bool) (q : Effects V) (clear : V → ℕ → Type 0)
    (keeps : KeepsClear q needs clear) (fuel : ℕ) where
  abbrev Held : (ℕ → Type 0) → List Entry → V → Type 0
  Held = scopes.Held items needs q clear keeps

  abbrev After : Context → LoopsAndGuards → (ℕ → Type 0) → (Scopes → Type 0) → Exit → Scopes → V → Type 0
  After = scopes.After items needs q clear keeps

  abbrev AroundOk : Context → LoopsAndGuards → Scopes → Type 0
  AroundOk = scopes.AroundOk items needs

  abbrev Inside : Bool → Scopes → Scopes → Type 0
  Inside = scopes.Inside items needs

  abbrev Grown : Bool → Scopes → Scopes → Type 0
  Grown = scopes.Grown items needs

  abbrev Grows : Scopes → Scopes → Type 0
  Grows = scopes.Grows items needs

  abbrev Lands : Scopes → ℕ → Type 0
  Lands = scopes.Lands items needs

  abbrev Typed : Entry → Type 0
  Typed = scopes.Typed items needs

  abbrev Suits : TyId → Destination → Type 0
  Suits = scopes.Suits items needs

  abbrev Sound : Context → Meaning V → Type 0
  Sound = rules.Sound items needs q clear keeps

  abbrev DoesSo : Context → LoopsAndGuards → (ℕ → Type 0) → Does V → Type 0
  DoesSo = steps.DoesSo items needs q clear keeps

  abbrev AllBound : List BoundName → Type 0
  AllBound = patterns.AllBound items needs q clear keeps

  abbrev BoundIn : List BoundName → ℕ → Type 0
  BoundIn = patterns.BoundIn items needs q clear keeps

  abbrev AllRooted : Place → List BoundName → Type 0
  AllRooted = names.AllRooted items needs q clear keeps fuel

  pub found_in : (key : ℕ) (new old : List InScope) (x : InScope) → entry_with key (new ++ old) ≡ Some x →
      ((y : InScope) × (entry_with key new ≡ Some y)) ⊎ (entry_with key old ≡ Some x)
  found_in key [] old x e = inr e
  found_in key (y ∷ new) old x e = by (y.key == key) e (λ k. found_in key new old x k)
    where
      by : (b : Bool) → (if b then Some y else entry_with key (new ++ old)) ≡ Some x →
          (entry_with key (new ++ old) ≡ Some x →
          ((z : InScope) × (entry_with key new ≡ Some z)) ⊎ (entry_with key old ≡ Some x)) →
          ((z : InScope) × ((if b then Some y else entry_with key new) ≡ Some z)) ⊎ (entry_with key old ≡ Some x)
      by true e later = inl (y, refl)
      by false e later = later e

  pub around_named : (c : Context) (new : List InScope) (around : LoopsAndGuards) (S : Scopes) → AroundOk c around S →
      ((key : ℕ) (x : InScope) → entry_with key new ≡ Some x → Among (scopes.entries_of S) key) →
      AroundOk (with_entries new c) around S
  around_named c new around S ok named = record {
    answer = ok.answer;
    answer_suits = ok.answer_suits;
    loops = ok.loops;
    loops_suit = ok.loops_suit;
    names = λ key x e k p. by key x k p (found_in key new c.entries x e);
    rooted = ok.rooted;
    temporary = ok.temporary;
  }
    where
      own : (key k : ℕ) → Among (scopes.entries_of S) key → Among (scopes.entries_of S) k ⊎ (k ≡ key) →
          Among (scopes.entries_of S) k
      own key k a (inl b) = b
      own key k a (inr e) = subst (Among (scopes.entries_of S)) (sym e) a

      by : (key : ℕ) (x : InScope) (k : ℕ) → place_of_key key around.aliases ≡ whole_local k →
          ((y : InScope) × (entry_with key new ≡ Some y)) ⊎ (entry_with key c.entries ≡ Some x) →
          Among (scopes.entries_of S) k
      by key x k p (inl y) = own key k (named key y.0 y.1) (ok.rooted key k p)
      by key x k p (inr e) = ok.names key x e k p

  -- in a guard: names stand for what they would take of the place that is matched
  module _ (around : LoopsAndGuards) (S : Scopes) (matched : Place)
      (roots : (key : ℕ) → matched ≡ whole_local key → Among (scopes.entries_of S) key) where
    aliased : (bounds : List BoundName) → AllRooted matched bounds → (key k : ℕ) →
        place_of_key key (forms.aliases_with bounds around.aliases) ≡ whole_local k →
        Among (scopes.entries_of S) k ⊎ ((BoundIn bounds key → ⊥) × (place_of_key key around.aliases ≡ whole_local k))
    aliased [] r key k e = inr ((λ n. n), e)
    aliased (b ∷ bounds) r key k e = by (key == b.key) refl e (λ x. aliased bounds r.1 key k x)
      where
        later : (key == b.key) ≡ false →
            Among (scopes.entries_of S) k ⊎ ((BoundIn bounds key → ⊥) × (place_of_key key around.aliases ≡ whole_local k)) →
            Among (scopes.entries_of S) k
            ⊎ ((BoundIn (b ∷ bounds) key → ⊥) × (place_of_key key around.aliases ≡ whole_local k))
        later n (inl a) = inl a
        later n (inr x) = inr ((λ y. none y), x.1)
          where
            none : (b.key ≡ key) ⊎ BoundIn bounds key → ⊥
            none (inl same) = false≢true (sym n ∙ (Decides-eqb key b.key).1 (sym same))
            none (inr y) = x.0 y

        by : (z : Bool) → (key == b.key) ≡ z →
            (if z then b.site.place else place_of_key key (forms.aliases_with bounds around.aliases)) ≡ whole_local k →
            (place_of_key key (forms.aliases_with bounds around.aliases) ≡ whole_local k →
            Among (scopes.entries_of S) k ⊎ ((BoundIn bounds key → ⊥) × (place_of_key key around.aliases ≡ whole_local k))) →
            Among (scopes.entries_of S) k
            ⊎ ((BoundIn (b ∷ bounds) key → ⊥) × (place_of_key key around.aliases ≡ whole_local k))
        by true n e f = inl (roots k (r.0 k e))
        by false n e f = later n (f e)

    guard_key : (key : ℕ) (new : List InScope) (x : InScope) → entry_with key (places.in_guard new) ≡ Some x →
        (y : InScope) × (entry_with key new ≡ Some y)
    guard_key key [] x e = absurd (none-some x e)
    guard_key key (y ∷ new) x e = by (y.key == key) e (λ k. guard_key key new x k)
      where
        by : (b : Bool) →
            (if b then Some (record y { is_in_guard = true }) else entry_with key (places.in_guard new)) ≡ Some x →
            (entry_with key (places.in_guard new) ≡ Some x → (z : InScope) × (entry_with key new ≡ Some z)) →
            (z : InScope) × ((if b then Some y else entry_with key new) ≡ Some z)
        by true e later = (y, refl)
        by false e later = later e

    pub around_guarded : (c : Context) (new : List InScope) (bounds : List BoundName) → AroundOk c around S →
        AllRooted matched bounds →
        ((key : ℕ) (x : InScope) → entry_with key new ≡ Some x → BoundIn bounds key) →
        AroundOk (with_entries (places.in_guard new) c) (in_guard bounds around) S
    around_guarded c new bounds ok rooted covers = record {
      answer = ok.answer;
      answer_suits = ok.answer_suits;
      loops = ok.loops;
      loops_suit = ok.loops_suit;
      names = λ key x e k p. by key x k (found_in key (places.in_guard new) c.entries x e) (aliased bounds rooted key k p);
      rooted = λ key k p. root key k (aliased bounds rooted key k p);
      temporary = ok.temporary;
    }
      where
        by : (key : ℕ) (x : InScope) (k : ℕ) →
            ((y : InScope) × (entry_with key (places.in_guard new) ≡ Some y)) ⊎ (entry_with key c.entries ≡ Some x) →
            Among (scopes.entries_of S) k ⊎ ((BoundIn bounds key → ⊥) × (place_of_key key around.aliases ≡ whole_local k)) →
            Among (scopes.entries_of S) k
        by key x k y (inl a) = a
        by key x k (inl y) (inr z) = let w = guard_key key new y.0 y.1 in absurd (z.0 (covers key w.0 w.1))
        by key x k (inr e) (inr z) = ok.names key x e k z.1

        root : (key k : ℕ) →
            Among (scopes.entries_of S) k ⊎ ((BoundIn bounds key → ⊥) × (place_of_key key around.aliases ≡ whole_local k)) →
            Among (scopes.entries_of S) k ⊎ (k ≡ key)
        root key k (inl a) = inl a
        root key k (inr z) = ok.rooted key k z.1

  -- what the rules of typing bring into scope is bound
  pub scope_covered : (p : Node) (bounds : List BoundName) → ((key : ℕ) → NameIn (nodes_of p) key → BoundIn bounds key) →
      (key : ℕ) (x : InScope) → entry_with key (entries_of p) ≡ Some x → BoundIn bounds key
  scope_covered p bounds covers key x e = covers key (named_by (nodes_of p) key x e)

-- What stands around a node: the bindings of the guards that it is in stand for parts of their scrutinees, all other
-- names in scope for their own locals, with numbers below all nodes behind them.
use Rattle.std.proofs.Common.{◌≡◌, ◌⊎◌, inl, inr, ℕ, ◌==◌, ◌<◌, ◌≤◌, Bool, true, false, List, [], ◌∷◌, ◌++◌, Option, Some, None, refl, sym, ◌∙◌, subst, arith, append_assoc}
use Rattle.std.proofs.lemmas.Bool.{false≢true}
use Rattle.std.proofs.lemmas.Bool.Decides.{Decides-eqb}
use Rattle.std.proofs.lemmas.Option.{none-some, same_Some}
use Rattle.mir_ty.specs.declared.ty.TyId.{TyId}
use Rattle.mir_ty.specs.ItemTable.{ItemTable}
use Rattle.mir_ty.specs.Parts.{field_ty}
use Rattle.store_model.specs.Places.Place.{Place, whole_local}
use Rattle.typed_tree.specs.Nodes.{nodes_of, nodes_in, nodes_among, nodes_if_any, number_of}
use Rattle.typed_tree.specs.Tree as tree
use Rattle.typed_tree.specs.Tree.{Node, node, Form, Nodes, no_node, a_node, ParamTree, BodyTree}
use Rattle.typing_rules.specs.Accesses as rules
use Rattle.typing_rules.specs.Accesses.{CollectedAccesses, root_of, root_of_form}
use Rattle.src_meaning.specs.Shape as shapes
use Rattle.src_meaning.specs.Shape.{shape}
use Rattle.well_typed.specs.Claim.{Holds, fact, both, some}
use Rattle.well_typed.specs.Nodes as typing
use Rattle.well_typed.specs.Patterns.{entries_of}
use Rattle.well_typed.specs.Places.{InScope, LoopAround, Context, entry_with, Standing, Base}
use Rattle.well_typed.specs.Types as types
use Rattle.soundness_values.proofs.Facts.{takes_index}
use Rattle.soundness_cells.proofs.PassCellNames.{Names, no_names}
use Rattle.soundness_cells.proofs.PassCellPatterns.{Told}
use Rattle.soundness_cells.proofs.PassCells.{Above}
use Rattle.soundness_cells.proofs.PassCellPlaces.{Scoped}
use Rattle.soundness_cells.proofs.PassFacts.{Standpoint, context, with_names, in_a_loop, behind, beside}
use Rattle.soundness_frame.proofs.PassFrameBodies.{any_place}
use Rattle.soundness.proofs.PassMovable.{Unaliased, RootPlain}
use Rattle.soundness_cells.proofs.PassNames.{named_by}
use Rattle.soundness_cells.proofs.PassNumbers.{Numbered, above_numbered}
use Rattle.soundness.proofs.PassPlaceMade.{Made, Elsewhere, made_place}
use Rattle.soundness_frame.proofs.PassTold as here
use Rattle.soundness_frame.proofs.PassTold.{KnownOf, Here}
use Rattle.soundness_frame.proofs.PassBlockTold.{in_block}
use Rattle.soundness_cells.proofs.PassCells.{NodeIn, node_left, node_right}
use Rattle.soundness_frame.proofs.PassToldParts as told_parts
use Rattle.soundness_frame.proofs.PassToldPatterns.{name_left}
use Rattle.soundness_frame.proofs.PassToldPlaces as told_places
use Rattle.soundness_frame.proofs.PassToldPlaces.{Rises, name_above, found_in, no_name, above_left, is_alias}
use Rattle.soundness_frame.proofs.PassWithin.{Outer}
use Rattle.soundness_values.proofs.PlaceTypes.{some_holds}

-- the nodes of the block, and its names
abbrev pub Of : ItemTable → BodyTree → KnownOf
Of items body = in_block items body (λ m. NodeIn (nodes_of body.block) m)

abbrev pub nothing : shapes.Aliases → Outer → ℕ → Form → Type 0
nothing places loops id form = Unit {0}

-- ---- what stands around some nodes

-- the own local of a place is no index on its way
abbrev pub Unmet : Place → Type 0
Unmet place = takes_index place.local place.steps ≡ false

-- the bindings of guards around, for the rule of borrows and as they stand for places, and a number that no node is
-- below
pub record Bindings (items : ItemTable) (body : BodyTree) : Type 0 where
  pub outer : rules.Aliases
  pub aliases : shapes.Aliases
  pub least : ℕ
  pub names : Names items body aliases
  pub unmet : (key : ℕ) → Unmet (shapes.place_of_key key aliases)

-- outside of guards
abbrev pub no_bindings : (items : ItemTable) (body : BodyTree) → Bindings items body
no_bindings items body = record {
  outer = [];
  aliases = [];
  least = 0;
  names = no_names items body;
  unmet = λ key. refl;
}

module _ (items : ItemTable) (body : BodyTree) (bs : Bindings items body) where
  abbrev K : Standpoint → Context
  K = context items

  -- names that the rule of borrows knows as bindings of guards are such
  abbrev pub Marked : Standpoint → Type 0
  Marked x = (key : ℕ) (y : InScope) → entry_with key x.entries ≡ Some y → is_alias bs.outer key ≡ true →
      y.is_in_guard ≡ true

  -- nothing conflicts in what is told, and it replaces no binding of a guard
  abbrev pub Free : CollectedAccesses → Type 0
  Free = here.Told items any_place (Of items body) bs.outer

  pub record Stood (x : Standpoint) (ns : List Node) : Type 0 where
    pub here : Here items any_place (Of items body) bs.outer bs.aliases x ns
    pub marked : Marked x
    pub above : (m : Node) → NodeIn ns m → bs.least ≤ number_of m

  -- names of a pattern are none
  marked_names : (p : Node) (x : Standpoint) → told_places.Past items any_place bs.outer (nodes_of p) → Marked x →
      Marked (with_names (entries_of p) x)
  marked_names p x past u key y e a = by (found_in key (entries_of p) x.entries y e)
    where
      by : (entry_with key (entries_of p) ≡ Some y)
          ⊎ ((entry_with key (entries_of p) ≡ None) × (entry_with key x.entries ≡ Some y)) → y.is_in_guard ≡ true
      by (inl f) = absurd (no_name (nodes_of p) key (past key a) (named_by (nodes_of p) key y f))
      by (inr f) = u key y f.1 a

  marked_statement : (form : Form) (x : Standpoint) → told_places.Past items any_place bs.outer (nodes_in form) →
      Marked x → Marked (with_names (typing.entries_in form) x)
  marked_statement (tree.Let pattern value) x past u =
      marked_names pattern x (λ key a. above_left key (nodes_of pattern) (nodes_if_any value) (past key a)) u
  marked_statement form x past u = u

  pub stood_left : (x : Standpoint) (a b : List Node) → Stood x (a ++ b) → Stood x a
  stood_left x a b s = record {
    here = here.here_left items any_place (Of items body) bs.outer bs.aliases x a b s.here;
    marked = s.marked;
    above = λ m i. s.above m (node_left a b m i);
  }

  pub stood_right : (x : Standpoint) (a b : List Node) → Stood x (a ++ b) → Stood x b
  stood_right x a b s = record {
    here = here.here_right items any_place (Of items body) bs.outer bs.aliases x a b s.here;
    marked = s.marked;
    above = λ m i. s.above m (node_right a b m i);
  }

  pub stood_in : (x : Standpoint) (n : Node) (ns : List Node) → Stood x (n ∷ ns) → Stood x ns
  stood_in x n ns s = stood_right x (n ∷ []) ns s

  pub stood_beside : (x : Standpoint) (n : Node) (ns : List Node) → Stood x (n ∷ ns) → Stood (beside (number_of n) x) ns
  stood_beside x n ns s = record {
    here = here.here_beside items any_place (Of items body) bs.outer bs.aliases x n ns s.here;
    marked = s.marked;
    above = λ m i. s.above m (inr i);
  }

  pub scoped_beside : (id : ℕ) (x : Standpoint) → Scoped items body x → Scoped items body (beside id x)
  scoped_beside id x s = record { names = s.names; roots = s.roots; listed = s.listed; closure = s.closure }

  pub stood_loop : (a : LoopAround) (x : Standpoint) (ns : List Node) → Stood x ns → Stood (in_a_loop a x) ns
  stood_loop a x ns s = record {
    here = here.here_loop items any_place (Of items body) bs.outer bs.aliases x a ns s.here;
    marked = s.marked;
    above = s.above;
  }

  -- with the names of a pattern, which stands before these nodes
  pub stood_names : (x : Standpoint) (p : Node) (more ns : List Node) → Stood x ((nodes_of p ++ more) ++ ns) →
      Stood (with_names (entries_of p) x) ns
  stood_names x p more ns s = record {
    here = here.here_names items any_place (Of items body) bs.outer bs.aliases x p ns own.past
        (λ key i. name_above (nodes_of p ++ more) ns key s.here.rises (name_left (nodes_of p) more key i))
        own.names own.under own.name_types
        (here.here_right items any_place (Of items body) bs.outer bs.aliases x (nodes_of p ++ more) ns s.here);
    marked = marked_names p x own.past s.marked;
    above = λ m i. s.above m (node_right (nodes_of p ++ more) ns m i);
  }
    where
      own : Here items any_place (Of items body) bs.outer bs.aliases x (nodes_of p)
      own = here.here_left items any_place (Of items body) bs.outer bs.aliases x (nodes_of p) more
          (here.here_left items any_place (Of items body) bs.outer bs.aliases x (nodes_of p ++ more) ns s.here)

  -- behind a statement, and behind several
  stood_statement : (form : Form) (x : Standpoint) (ns : List Node) → Stood x (nodes_in form) →
      Rises (nodes_in form ++ ns) → Stood x ns → Stood (with_names (typing.entries_in form) x) ns
  stood_statement form x ns g r s = record {
    here = told_parts.statement_names items any_place (Of items body) nothing form bs.outer bs.aliases x ns g.here r
        s.here;
    marked = marked_statement form x g.here.past s.marked;
    above = s.above;
  }

  pub stood_next : (first : Node) (x : Standpoint) (more : List Node) → Stood x (nodes_of first ++ more) →
      Stood (with_names (typing.entries_in (Rattle.well_typed.specs.Places.form_of first)) x) more
  stood_next (node id at ty by form) x more s = stood_statement form x more
      (stood_in x (node id at ty by form) (nodes_in form) (stood_left x (nodes_of (node id at ty by form)) more s))
      (told_places.rises_right (node id at ty by form ∷ []) (nodes_in form ++ more) s.here.rises)
      (stood_right x (nodes_of (node id at ty by form)) more s)

  pub stood_grouped : (x : Standpoint) (a b c : List Node) → Stood x ((a ++ b) ++ c) → Stood x (a ++ (b ++ c))
  stood_grouped x a b c s = record {
    here = told_parts.regrouped items any_place (Of items body) nothing a b c bs.outer bs.aliases x s.here;
    marked = s.marked;
    above = subst (λ l. (m : Node) → NodeIn l m → bs.least ≤ number_of m) (append_assoc a b c) s.above;
  }

  pub stood_behind : (ns : Nodes) (x : Standpoint) (more : List Node) → Stood x (nodes_among ns ++ more) →
      Stood (behind x ns) more
  stood_behind no_node x more s = s
  stood_behind (a_node (node id at ty by form) rest) x more s =
      stood_behind rest (with_names (typing.entries_in form) x) more
      (stood_next (node id at ty by form) x (nodes_among rest ++ more)
      (stood_grouped x (nodes_of (node id at ty by form)) (nodes_among rest) more s))

  -- ---- the place of a node

  alias_or : (key : ℕ) → (is_alias bs.outer key ≡ true) ⊎ (is_alias bs.outer key ≡ false)
  alias_or key = by (is_alias bs.outer key)
    where
      by : (b : Bool) → (b ≡ true) ⊎ (b ≡ false)
      by true = inl refl
      by false = inr refl

  pub unaliased : (x : Standpoint) (ns : List Node) → Stood x ns → Unaliased x bs.aliases
  unaliased x ns s = record {
    names = λ key y e f. name key y e f (alias_or key);
    closure = λ y e. self y e (alias_or y.key);
  }
    where
      name : (key : ℕ) (y : InScope) → entry_with key x.entries ≡ Some y → y.is_in_guard ≡ false →
          (is_alias bs.outer key ≡ true) ⊎ (is_alias bs.outer key ≡ false) →
          shapes.place_of_key key bs.aliases ≡ whole_local key
      name key y e f (inl a) = absurd (false≢true (sym f ∙ s.marked key y e a))
      name key y e f (inr a) = s.here.sees.plain key a

      self : (y : InScope) → x.closure ≡ Some y → (is_alias bs.outer y.key ≡ true) ⊎ (is_alias bs.outer y.key ≡ false) →
          shapes.place_of_key y.key bs.aliases ≡ whole_local y.key
      self y e (inl a) = absurd (s.here.sees.closure y e a)
      self y e (inr a) = s.here.sees.plain y.key a

  -- a root that is no binding of a guard stands for itself
  pub root_plain : (x : Standpoint) (ns : List Node) → Stood x ns → (root : Option ℕ) →
      ((key : ℕ) → root ≡ Some key → is_alias bs.outer key ≡ true → ⊥) → RootPlain bs.aliases root
  root_plain x ns s root f key e = by (alias_or key)
    where
      by : (is_alias bs.outer key ≡ true) ⊎ (is_alias bs.outer key ≡ false) →
          shapes.place_of_key key bs.aliases ≡ whole_local key
      by (inl a) = absurd (f key e a)
      by (inr a) = s.here.sees.plain key a

  -- the variable at the root of a place is in scope
  abbrev Named : Standpoint → ℕ → Type 0
  Named x key = ((y : InScope) × (entry_with key x.entries ≡ Some y))
      ⊎ ((y : InScope) × ((x.closure ≡ Some y) × (y.key ≡ key)))

  same_key : (a b : ℕ) → Some a ≡ Some b → a ≡ b
  same_key a b e = same_Some a b e

  mutual
    root_named : (n : Node) (x : Standpoint) (standing : Standing) → Holds (typing.typed (K x) standing n) → (key : ℕ) →
        root_of n ≡ Some key → Named x key
    root_named (node id at ty by form) x standing h key e = form_named form x id ty h.1 key e

    form_named : (form : Form) (x : Standpoint) (id : ℕ) (ty : TyId) → Holds (typing.row (K x) id ty form) → (key : ℕ) →
        root_of_form form ≡ Some key → Named x key
    form_named (tree.Variable k) x id ty h key e =
        let y = some_holds (entry_with k x.entries) (λ y. fact (types.is_same ty y.ty)) h in
        inl (y.0, subst (λ z. entry_with z x.entries ≡ Some y.0) (same_key k key e) y.1.0)
    form_named (tree.Captured closure part name) x id ty h key e =
        let y = some_holds x.closure (λ y. both (fact (y.key == closure))
        (some (field_ty items y.ty 0 part) (λ t. fact (types.is_same ty t)))) h in
        inr (y.0, (y.1.0, (Decides-eqb y.0.key closure).0 y.1.1.0 ∙ same_key closure key e))
    form_named (tree.Field base part) x id ty h key e = root_named base x Base h.0 key e
    form_named (tree.Index base index count) x id ty h key e = root_named base x Base h.0 key e
    form_named (tree.Deref base) x id ty h key e = root_named base x Base h.0 key e
    form_named form x id ty h key e = absurd (none-some key e)

  pub not_behind : (key : ℕ) (ns : List Node) → Above key ns → Numbered ns key → ⊥
  not_behind key ns a n = let less : key < key = above_numbered key ns key a n in omega (less, arith)

  -- and is none of the nodes behind
  pub elsewhere : (n : Node) (x : Standpoint) (standing : Standing) → Holds (typing.typed (K x) standing n) →
      (ns : List Node) → Stood x ns → RootPlain bs.aliases (root_of n) → Elsewhere (root_of n) ns
  elsewhere n x standing h ns s plain key e i = by (root_named n x standing h key e)
    where
      by : Named x key → ⊥
      by (inl y) = not_behind key ns (subst (λ (q : Place). Above q.local ns) (plain key e)
          (s.here.low key y.0 y.1).0) i
      by (inr y) = not_behind key ns (subst (λ k. Above k ns) y.1.1 (s.here.outer y.0 y.1.0)) i

  pub made_at : (told : Told items) (fuel : ℕ) (n : Node) (x : Standpoint) (standing : Standing) →
      Holds (typing.typed (K x) standing n) → Stood x (nodes_of n) → RootPlain bs.aliases (root_of n) →
      Made (nodes_of n) (root_of n) ((shape items n).place bs.aliases)
  made_at told fuel n x standing h s plain = made_place items body told fuel n x standing h bs.aliases plain
      s.here.rises (elsewhere n x standing h (nodes_of n) s plain)

-- What stands around the block of a body of a sound program: names stand for their own locals, numbers rise, and
-- nothing
-- conflicts. So of each call, each borrow and each assignment in the block is known what is known where such a node
-- stands.
use Rattle.std.proofs.Common.{◌≡◌, ◌⊎◌, inl, inr, ℕ, zero, suc, ◌+◌, ◌<◌, Bool, true, false, List, [], ◌∷◌, ◌++◌, map, Option, Some, None, refl, ap, sym, ◌∙◌, subst, arith}
use Rattle.std.specs.Prelude.{slice_get}
use Rattle.std.specs.List.{flat_map}
use Rattle.std.proofs.lemmas.Bool.{false≢true}
use Rattle.std.proofs.lemmas.Option.{none-some, same_Some}
use Rattle.mir_ty.specs.declared.def.ClosureDef.{ClosureDef}
use Rattle.mir_ty.specs.declared.def.Sig.{Sig}
use Rattle.mir_ty.specs.ItemTable.{ItemTable}
use Rattle.store_model.specs.Places.Place.{whole_local}
use Rattle.typed_tree.specs.Nodes.{number_of, nodes_of, param_nodes}
use Rattle.typed_tree.specs.Tree.{Node, node, Form, ParamTree, BodyTree, ProgramTree}
use Rattle.src_meaning.specs.Shape as shapes
use Rattle.typing_rules.specs.Accesses as rules
use Rattle.typing_rules.specs.Accesses.{AccessPlace, Accessed, told}
use Rattle.typing_rules.specs.Borrows.{broken_borrow, overlaps, replaced_self, all_broken, first_of}
use Rattle.typing_rules.specs.Check.{Broken}
use Rattle.typing_rules.specs.Replaced.{replaceable}
use Rattle.well_typed.specs.Claim.{Holds}
use Rattle.well_typed.specs.Nodes.{typed}
use Rattle.well_typed.specs.Patterns.{entries_of}
use Rattle.well_typed.specs.Places.{InScope, Wanted, entry_with, form_of}
use Rattle.well_typed.specs.Program.{WellTyped, is_body, is_inside, closure_with}
use Rattle.mir_ty.specs.declared.ty.TyId.{TyId}
use Rattle.src_meaning.specs.Locals.OfBody.{local_of, local_ty}
use Rattle.soundness_values.proofs.CheckedBodies.{is_reference_param}
use Rattle.soundness_cells.proofs.PassCellEnds as ends
use Rattle.soundness_cells.proofs.PassCellItems.{told as items_told}
use Rattle.soundness_cells.proofs.PassCellPatterns.{Told as Told_}
use Rattle.soundness_cells.proofs.PassCellPlaces.{Scoped}
use Rattle.soundness_cells.proofs.PassNumbers.{Numbered}
use Rattle.soundness_frame.proofs.PassPastParams.{no_param}
use Rattle.soundness_values.proofs.NoOverlap.{is_seen}
use Rattle.soundness_cells.proofs.PassCells.{Above, NodeIn, above_in, one_node, rising}
use Rattle.soundness_cells.proofs.PassFacts.{Standpoint, context}
use Rattle.soundness_cells.proofs.PassFirst.{body_at}
use Rattle.soundness_frame.proofs.PassFrameBodies.{any_place}
use Rattle.soundness_cells.proofs.PassNames.{NameIn, named_by}
use Rattle.soundness_values.proofs.PassHeads.{IsName}
use Rattle.soundness_frame.proofs.PassTold.{KnownOf, Here, IfRoot, no_append}
use Rattle.soundness_frame.proofs.PassToldBelow.{Saying}
use Rattle.soundness_frame.proofs.PassToldForms.{node_within}
use Rattle.soundness_frame.proofs.PassToldPatterns.{name_left, name_right}
use Rattle.soundness_frame.proofs.PassToldPlaces.{name_above, found_in, Rises, rises_right, above_right, AllOwned, AllPermit, MaySeen}
use Rattle.soundness_frame.proofs.PassWithin.{is_among, Within, Outer, outermost}

-- ---- nothing is broken

first_none : (l : List Broken) → first_of l ≡ None → l ≡ []
first_none [] e = refl
first_none (b ∷ l) e = absurd (none-some _ (sym e))

map_none : {A B : Type 0} (f : A → B) (l : List A) → map f l ≡ [] → l ≡ []
map_none f [] e = refl
map_none f (x ∷ l) e = absurd (false≢true (sym (ap has e)))
  where
    has : {A : Type 0} → List A → Bool
    has [] = false
    has (y ∷ ys) = true

flat_none : {A B : Type 0} (f : A → List B) (l : List A) (n : ℕ) (x : A) → flat_map f l ≡ [] →
    slice_get l n ≡ Some x → f x ≡ []
flat_none f [] n x e s = absurd (none-some x s)
flat_none f (y ∷ l) zero x e s =
    subst (λ z. f z ≡ []) (same_Some y x s) (no_append (f y) (flat_map f l) e).0
flat_none f (y ∷ l) (suc n) x e s = flat_none f l n x (no_append (f y) (flat_map f l) e).1 s

-- ---- what stands around a block

-- the numbers of a body's block that only names have
abbrev pub RootIn : List Node → ℕ → Type 0
RootIn ns key = (m : Node) → NodeIn ns m → number_of m ≡ key → IsName (form_of m)

-- a local that is a parameter of a reference type has this type
abbrev pub ParamTyped : ItemTable → BodyTree → ℕ → TyId → Type 0
ParamTyped items b key ty = is_reference_param items b (local_of items b key) ≡ true →
    local_ty items b (local_of items b key) ≡ Some ty

abbrev pub in_block : ItemTable → BodyTree → (Node → Type 0) → KnownOf
in_block items b Of =
    record { node = Of; root = RootIn (nodes_of b.block); typed = ParamTyped items b }

name_node : (ns : List Node) (key : ℕ) → NameIn ns key →
    (m : Node) × (NodeIn ns m × ((number_of m ≡ key) × IsName (form_of m)))
name_node [] key i = absurd i
name_node (node id at ty by form ∷ ns) key (inl i) = (node id at ty by form, (inl refl, (i.1, i.0)))
name_node (node id at ty by form ∷ ns) key (inr i) =
    let t = name_node ns key i in (t.0, (inr t.1.0, t.1.1))

pub name_numbered : (ns : List Node) (key : ℕ) → NameIn ns key → Numbered ns key
name_numbered [] key i = i
name_numbered (node id at ty by form ∷ ns) key (inl i) = inl i.1
name_numbered (node id at ty by form ∷ ns) key (inr i) = inr (name_numbered ns key i)

-- names among nodes have such numbers, and so have all keys below
pub name_root : (ns : List Node) → Rises ns → (key : ℕ) → NameIn ns key → RootIn ns key
name_root ns r key i m j e =
    let t = name_node ns key i in
    subst (λ n. IsName (form_of n)) (one_node ns r t.0 m t.1.0 j (t.1.1.0 ∙ sym e)) t.1.1.1

pub below_root : (ns : List Node) (key : ℕ) → Above key ns → RootIn ns key
below_root ns key a m j e =
    let less : key < number_of m = above_in key ns m a j in
    let same : number_of m ≡ key = e in
    let never : ⊥ = omega (less, same, arith) in absurd never

module _ (items : ItemTable) (Of : KnownOf) where
  all_owned : (ns : List Node) → AllOwned items any_place ns
  all_owned [] = tt
  all_owned (n ∷ ns) = (λ steps. tt, all_owned ns)

  any_seen : (a : Option AccessPlace) → MaySeen items (IfRoot items any_place Of) a
  any_seen None = tt
  any_seen (Some a) = λ q s r. tt

  pub all_permit : (as_ : List Accessed) → AllPermit items (IfRoot items any_place Of) [] as_
  all_permit [] = tt
  all_permit (a ∷ as_) = (
    record { changed = λ c. any_seen a.place; replaced = λ key r e u. false≢true u },
    all_permit as_,
  )

  pub here_first : (x : Standpoint) (ns : List Node) → Rises ns → ((m : Node) → NodeIn ns m → Of.node m) →
      ((y : InScope) → x.closure ≡ Some y → Above y.key ns) →
      ((key : ℕ) (y : InScope) → entry_with key x.entries ≡ Some y → Above key ns) →
      ((key : ℕ) → NameIn ns key → Of.root key) →
      ((m : Node) → NodeIn ns m → (IsName (form_of m) → ⊥) → Of.root (number_of m) → ⊥) →
      ((key : ℕ) → Above key ns → Of.root key) → x.outside ≡ [] →
      ((key : ℕ) (y : InScope) → entry_with key x.entries ≡ Some y → Of.typed key y.ty) →
      ((y : InScope) → x.closure ≡ Some y → Of.typed y.key y.ty) →
      ((key : ℕ) → NameIn ns key → (ty : TyId) → Of.typed key ty) → Here items any_place Of [] [] x ns
  here_first x ns r all outer low names others below none types self_type name_types = record {
    sees = record {
      seen = λ key. is_seen (rules.variable_place key) (whole_local key)
          (record { key_is = refl; steps_are = refl; end_is = refl });
      guarded = λ key y u e. absurd (none-some (rules.variable_place key) (sym u));
      closure = λ y e u. false≢true u;
      plain = λ key e. refl;
    };
    past = λ key u. absurd (false≢true u);
    outer = outer;
    rises = r;
    owned = all_owned ns;
    all = all;
    low = λ key y e. (low key y e, tt);
    names = names;
    others = others;
    stand = λ key y e. (below key (low key y e), tt);
    self = λ y e. below y.key (outer y e);
    types = types;
    self_type = self_type;
    name_types = name_types;
    under = λ d i. absurd (false≢true (sym (ap (is_among d) none) ∙ i));
    away = λ d i. absurd (false≢true (sym (ap (is_among d) none) ∙ i));
  }

-- ---- the block of a body

module _ (p : ProgramTree) (well : WellTyped p) (borrows : broken_borrow p ≡ None) (n : ℕ) (b : BodyTree)
    (at : slice_get p.bodies n ≡ Some b)
    (Of : Node → Type 0) (all : (m : Node) → NodeIn (nodes_of b.block) m → Of m)
    (Says : shapes.Aliases → Outer → ℕ → Form → Type 0) (says : Saying p.items any_place (in_block p.items b Of) Says) where
  pub found : (sig : Sig) × ((slice_get p.items.bodies n ≡ Some sig) × Holds (is_body p.items (0 + n) sig b))
  found = body_at p.items 0 p.items.bodies p.bodies well.1 n b at

  pub no_conflicts : (told [] b.block).conflicts ≡ []
  no_conflicts = map_none _ (told [] b.block).conflicts (no_append (overlaps b)
      (replaced_self p.items (replaceable p) b)
      (flat_none (λ body. overlaps body ++ replaced_self p.items (replaceable p) body) p.bodies n b
      (first_none (all_broken p) borrows) at)).0

  pub all_rise : Rises (param_nodes b.params ++ nodes_of b.block)
  all_rise = found.1.1.1.1.1.0

  block_rises : Rises (nodes_of b.block)
  block_rises = rises_right (param_nodes b.params) (nodes_of b.block) all_rise

  abbrev Typed : ℕ → TyId → Type 0
  Typed = ParamTyped p.items b

  -- a name in the block is no parameter
  pub name_typed : (key : ℕ) → NameIn (nodes_of b.block) key → (ty : TyId) → Typed key ty
  name_typed key i ty r =
      absurd (false≢true (sym (no_param p.items b all_rise key (name_numbered (nodes_of b.block) key i)) ∙ r))

  at_block : (x : Standpoint) → x.loops ≡ [] → x.outside ≡ [] → Holds (typed (context p.items x) (Wanted b.answer) b.block) →
      ((y : InScope) → x.closure ≡ Some y → Above y.key (nodes_of b.block)) →
      ((key : ℕ) (y : InScope) → entry_with key x.entries ≡ Some y → Above key (nodes_of b.block)) →
      ((key : ℕ) (y : InScope) → entry_with key x.entries ≡ Some y → Typed key y.ty) →
      ((y : InScope) → x.closure ≡ Some y → Typed y.key y.ty) → Within p.items any_place Says [] outermost b.block
  at_block x none empty h outer low types self_type = subst (λ l. Within p.items any_place Says [] l b.block)
      (ap (λ l. record {
        loops = map (λ (a : Rattle.well_typed.specs.Places.LoopAround). a.loop) l;
        keys = x.outside;
      }) none ∙ ap (λ (l : List ℕ). record { loops = []; keys = l }) empty)
      (node_within p.items any_place (in_block p.items b Of) Says says b.block (Wanted b.answer) [] [] x tt
      (here_first p.items (in_block p.items b Of) x (nodes_of b.block) block_rises all outer low
      (name_root (nodes_of b.block) block_rises) (λ m i none r. none (r m i refl)) (below_root (nodes_of b.block))
      empty types self_type name_typed) h
      (all_permit p.items (in_block p.items b Of) (told [] b.block).accesses, no_conflicts))

  abbrev pub standing : Option InScope → List ParamTree → Standpoint
  standing closure scoped = record {
    entries = flat_map (λ q. entries_of q.pattern) scoped;
    closure = closure;
    loops = [];
    answer = b.answer;
    outside = [];
  }

  -- the first number of all is below those of the block
  pub first_above : (params : List ParamTree) (self : ParamTree) (ns : List Node) →
      Rises (param_nodes (self ∷ params) ++ ns) → Above (number_of self.pattern) ns
  first_above params self ns r = above_right (number_of self.pattern) (behind self.pattern ++ param_nodes params) ns
      (rising self.pattern ((behind self.pattern ++ param_nodes params) ++ ns)
      (subst (λ l. Rises (l ++ ns)) (first_node self.pattern (param_nodes params)) r)).0
    where
      behind : Node → List Node
      behind (Rattle.typed_tree.specs.Tree.node id at ty by form) = Rattle.typed_tree.specs.Nodes.nodes_in form

      first_node : (m : Node) (rest : List Node) → nodes_of m ++ rest ≡ m ∷ (behind m ++ rest)
      first_node (Rattle.typed_tree.specs.Tree.node id at ty by form) rest = refl

  -- a name of a parameter is one of a node of its pattern, with a number below those of the block
  pub name_of : (params : List ParamTree) (key : ℕ) (y : InScope) →
      entry_with key (flat_map (λ (q : ParamTree). entries_of q.pattern) params) ≡ Some y →
      NameIn (param_nodes params) key
  name_of [] key y e = absurd (none-some y e)
  name_of (q ∷ params) key y e = by (found_in key (entries_of q.pattern)
      (flat_map (λ (r : ParamTree). entries_of r.pattern) params) y e) (λ f. name_of params key y f)
    where
      by : (entry_with key (entries_of q.pattern) ≡ Some y) ⊎ ((entry_with key (entries_of q.pattern) ≡ None)
          × (entry_with key (flat_map (λ (r : ParamTree). entries_of r.pattern) params) ≡ Some y)) →
          (entry_with key (flat_map (λ (r : ParamTree). entries_of r.pattern) params) ≡ Some y →
          NameIn (param_nodes params) key) → NameIn (nodes_of q.pattern ++ param_nodes params) key
      by (inl f) later =
          name_left (nodes_of q.pattern) (param_nodes params) key (named_by (nodes_of q.pattern) key y f)
      by (inr f) later = name_right (nodes_of q.pattern) (param_nodes params) key (later f.1)

  pub names_above : (params : List ParamTree) (ns : List Node) → Rises (param_nodes params ++ ns) → (key : ℕ) →
      NameIn (param_nodes params) key → Above key ns
  names_above params ns r key i = name_above (param_nodes params) ns key r i

  -- names of parameters are of their types
  told_items : Told_ p.items
  told_items = items_told p well

  there : slice_get p.items.bodies (0 + n) ≡ Some found.0
  there = let plus : n ≡ 0 + n = omega arith in subst (λ k. slice_get p.items.bodies k ≡ Some found.0) plus found.1.0

  scoped_none : (params : List ParamTree) → b.params ≡ params → Scoped p.items b (standing None params)
  scoped_none params e = subst (λ ps. Scoped p.items b (standing None ps)) e
      (ends.plain_scoped p.items told_items (0 + n) found.0 b found.1.1 there (told_items.results n found.0 found.1.0) 0)

  scoped_self : (def : ClosureDef) (self : ParamTree) (rest : List ParamTree) →
      closure_with p.items (0 + n) ≡ Some def → b.params ≡ self ∷ rest →
      Scoped p.items b (standing (Some (record { key = number_of self.pattern; ty = self.ty; is_in_guard = false })) rest)
  scoped_self def self rest d e = ends.closure_scoped p.items told_items (0 + n) found.0 b found.1.1 there
      (told_items.results n found.0 found.1.0) 0 def self rest d e

  by_closure : (o : Option ClosureDef) (params : List ParamTree) → closure_with p.items (0 + n) ≡ o →
      b.params ≡ params →
      Holds (is_inside p.items o b params) → Within p.items any_place Says [] outermost b.block
  by_closure None params d e k = at_block (standing None params) refl refl k.0 (λ y c. absurd (none-some y c))
      (λ key y f. names_above params (nodes_of b.block)
      (subst (λ ps. Rises (param_nodes ps ++ nodes_of b.block)) e all_rise) key (name_of params key y f))
      (λ key y f r. (scoped_none params e).names key y f) (λ y c. absurd (none-some y c))
  by_closure (Some def) [] d e k = absurd (false≢true k)
  by_closure (Some def) (self ∷ rest) d e k =
      let y : InScope = record { key = number_of self.pattern; ty = self.ty; is_in_guard = false } in
      at_block (standing (Some y) rest) refl refl k.0
      (λ z c. subst (λ (z : InScope). Above z.key (nodes_of b.block)) (same_Some y z c)
      (first_above rest self (nodes_of b.block)
      (subst (λ ps. Rises (param_nodes ps ++ nodes_of b.block)) e all_rise)))
      (λ key z f. names_above (self ∷ rest) (nodes_of b.block)
      (subst (λ ps. Rises (param_nodes ps ++ nodes_of b.block)) e all_rise) key
      (name_right (nodes_of self.pattern) (param_nodes rest) key (name_of rest key z f)))
      (λ key z f r. (scoped_self def self rest d e).names key z f) (λ z c r. ((scoped_self def self rest d e).closure z c).0)

  pub block_within : Within p.items any_place Says [] outermost b.block
  block_within = by_closure (closure_with p.items (0 + n)) b.params refl refl found.1.1.1.1.1.1.1.1

-- Rows of patterns whose first lines are known to hold.
use Rattle.std.proofs.Common.{◌≡◌, ℕ, suc, Bool, true, false, not, ◌||◌, List, ◌∷◌, ◌++◌, [], Option, Some, None, Ok, refl, ap, ◌∙◌}
use Rattle.std.specs.Prelude.{is_some, if◌then◌else◌}
use Rattle.mir_base.specs.declared.place_in_text.Pos.{Pos}
use Rattle.mir_base.specs.declared.rule.Rule.{Rule}
use Rattle.mir_ty.specs.Facts.{is_copy}
use Rattle.mir_ty.specs.ItemTable.{ItemTable}
use Rattle.mir_ty.specs.declared.ty.TyId.{TyId}
use Rattle.src_ast.specs.Syntax.{Word}
use Rattle.typed_tree.specs.Tree as tree
use Rattle.typing_rules.specs.Check.{Check, TypingState, and_then, ◌>>=◌, ◌>>◌, pure, breaks, obeys, known, number, the_items}
use Rattle.typing_rules.specs.Patterns.{BoundPattern, PatternTarget, bind, bind_end, is_unit_kind, lone_by, lone_struct, no_parts, of_target, path_alone, target, target_of}
use Rattle.typing_rules.specs.Places.{a_node_of, used}
use Rattle.typing_rules.specs.Rows.{PatternContext, taking}
use Rattle.typing_rules.specs.Scope.{Env, NamedEntry, Local, kind_at, variable}
use Rattle.well_typed.specs.Types.{is_dyn, is_enum}

-- once a node has its number
pub numbered : {B : Type 0} (f : ℕ → Check B) (s t : TypingState) (id : ℕ) → number s ≡ Ok (id, t) →
    f s.next_node (record s { next_node = suc s.next_node }) ≡ f id t
numbered f s t id h = ap (λ o. and_then o f) h

fresh_name : (id : ℕ) (at : Pos) (e : PatternContext) (ty : TyId) (name : Word) (xs : List NamedEntry) (b : Bool) (s : TypingState) → b ≡ true →
    (obeys Rule.T02 at b >> bind_end id at e.is_fixed ty name xs) s ≡ bind_end id at e.is_fixed ty name xs s
fresh_name id at e ty name xs true s h = refl
fresh_name id at e ty name xs false s h = absurd (cc)

pub bind_is : (at : Pos) (e : PatternContext) (ty : TyId) (name : Word) (xs : List NamedEntry) (s t : TypingState) (id : ℕ) → number s ≡ Ok (id, t) →
    not (is_some (variable xs name)) ≡ true → bind at e ty name xs s ≡ bind_end id at e.is_fixed ty name xs t
bind_is at e ty name xs s t id h fresh =
    fresh_name s.next_node at e ty name xs (not (is_some (variable xs name))) (record s { next_node = suc s.next_node }) fresh
    ∙ numbered (λ id. bind_end id at e.is_fixed ty name xs) s t id h

pub unit_struct : (w : Env) (at : Pos) (e : PatternContext) (ty : TyId) (adt : ℕ) (xs : List NamedEntry) (s : TypingState) →
    is_unit_kind (kind_at w.kinds adt 0) ≡ true → lone_struct w at e ty adt xs s ≡ of_target at e ty (target adt 0) (no_parts xs true) s
unit_struct w at e ty adt xs s h = by (is_unit_kind (kind_at w.kinds adt 0)) h
  where
    by : (b : Bool) → b ≡ true → (if b then of_target at e ty (target adt 0) (no_parts xs true) else breaks Rule.T18 at) s ≡ of_target at e ty (target adt 0) (no_parts xs true) s
    by true h = refl
    by false h = absurd (cc)

pub lone_named : (w : Env) (at : Pos) (e : PatternContext) (ty : TyId) (name : Word) (xs : List NamedEntry) (o : Option ℕ) (adt : ℕ) (items : ItemTable) (s : TypingState) →
    o ≡ Some adt → is_enum items adt ≡ false → lone_by w at e ty name xs o items s ≡ lone_struct w at e ty adt xs s
lone_named w at e ty name xs o adt items s h plain =
    ap (λ z. lone_by w at e ty name xs z items s) h
    ∙ ap (λ (b : Bool). (if b then bind at e ty name xs else lone_struct w at e ty adt xs) s) plain

pub self_named : (w : Env) (at : Pos) (e : PatternContext) (ty : TyId) (first : Option Word) (adt : ℕ) (xs : List NamedEntry) (s : TypingState) →
    w.self_adt ≡ Some adt → not (is_enum s.items adt) ≡ true → path_alone w at e ty first None xs s ≡ lone_struct w at e ty adt xs s
self_named w at e ty first adt xs s h plain =
    ap (λ (o : Option ℕ). and_then (known Rule.T01 at o s) (λ adt. the_items >>= (λ items. obeys Rule.T01 at (not (is_enum items adt)) >> lone_struct w at e ty adt xs))) h
    ∙ ap (λ (b : Bool). (obeys Rule.T01 at b >> lone_struct w at e ty adt xs) s) plain

pub variant_named : (w : Env) (at : Pos) (e : PatternContext) (ty : TyId) (first : Option Word) (second : Word) (t : PatternTarget) (xs : List NamedEntry) (s : TypingState) →
    target_of s.items w first (Some second) ≡ Some t →
    path_alone w at e ty first (Some second) xs s ≡ of_target at e ty t (no_parts xs (is_unit_kind (kind_at w.kinds t.adt t.variant))) s
variant_named w at e ty first second t xs s h =
    ap (λ (o : Option PatternTarget). and_then (known Rule.T01 at o s) (λ t. of_target at e ty t (no_parts xs (is_unit_kind (kind_at w.kinds t.adt t.variant))))) h

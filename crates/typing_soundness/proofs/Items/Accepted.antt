-- The items of an accepted text keep all rules as they are written, and so they are ready.
use Rattle.std.proofs.Common.{◌≡◌, ℕ, Bool, true, false, ◌&&◌, not, nat_le, List, [], ◌∷◌, length, slice_get, Option, Some, None, Result, Ok, Err, IsTrue, Contains, refl, sym, subst, arith}
use Rattle.std.specs.Prelude.{option_and_then, codes}
use Rattle.std.specs.Str.{bytes_eq}
use Rattle.std.proofs.lemmas.Bool.{false≢true}
use Rattle.std.proofs.lemmas.Option.{none-some}
use Rattle.mir_base.specs.declared.place_in_text.Pos.{Pos}
use Rattle.mir_base.specs.declared.rule.Rule.{Rule}
use Rattle.mir_ty.specs.declared.ty.Ty.{Ty}
use Rattle.mir_ty.specs.declared.ty.TyId.{TyId}
use Rattle.mir_ty.specs.AreItems.{types_in}
use Rattle.mir_ty.specs.ItemTable.{ItemTable, type_at}
use Rattle.mir_ty.specs.Parts.{held_by, parts_of}
use Rattle.src_tree.specs.Layout.{Parts}
use Rattle.typed_tree.specs.Tree.{BodyTree, ProgramTree}
use Rattle.well_typed.specs.Names.{is_among}
use Rattle.well_typed.specs.Types.{inside_in}
use Rattle.typing_rules.specs.Bodies as bodies
use Rattle.typing_rules.specs.Bodies.{all_rules}
use Rattle.typing_rules.specs.Check.{Check, TypingState, Broken, in_new_body, within_body}
use Rattle.typing_rules.specs.Collected as collected
use Rattle.typing_rules.specs.Items.{ItemSyn, items_of, item_syns, impl_owner}
use Rattle.typing_rules.specs.Places.{scalars}
use Rattle.typing_rules.specs.Program as rules
use Rattle.typing_rules.specs.Promises.{AreReady, made_of}
use Rattle.typing_rules.specs.Scope.{Env, adt_named}
use Rattle.typing_rules.specs.Written as types
use Rattle.src_ast.specs.Syntax.{Word, Syn, syn, AnExpression, AnItem, AField, AVariant, MoveOf, StructItem, EnumItem, TraitItem, FnItem, Syns, list_of, MaybeSyn}
use Rattle.typing_soundness.specs.Closures.{BodySyn, Tape, program_text}
use Rattle.typing_soundness.specs.Met.{IsBodyOf, AreMade, behind, text_legal}
use Rattle.typing_soundness.specs.Heads.{body_text, bodies_text, TellBodies}
use Rattle.typing_soundness.specs.Legal.{legal_param, params_legal, head_legal, field_legal, fields_legal, variants_legal, trait_heads_legal, body_legal, item_legal}
use Rattle.typing_soundness.specs.Walks.{Walked}
use Rattle.typing_soundness.proofs.Items.Collected.{AreHeads, all_names, listed_text}
use Rattle.typing_soundness.proofs.Items.Headed.{ok_same, no_ok as no_items_ok, heads_of_text, items_listed, words_collected, scalars_distinct}
use Rattle.typing_soundness.proofs.Bodies.Order.{no_ok, walk_adds}
use Rattle.typing_soundness.proofs.Items.Ready.{All, all_at, ItemKeeps, collecting_ready}
use Rattle.typing_soundness.proofs.Walking.Lawful.{whatever, and_so, written_legal, written_param_legal, params_are_legal, answer_is_legal}
use Rattle.typing_soundness.proofs.Walking.Steps.{walk, walk_map, walk_obeyed, walk_ends}

-- ---- items, by the rules on heads

in_body_so : {A : Type 0} {P : Type 0} (check : Check A) (s : TypingState) → Walked (λ a t. P) (check (record s {
  next_node = 0;
  breaks = [];
})) → Walked (λ a t. P) (in_new_body check s)
in_body_so {A} {P} check s h = by (check (record s { next_node = 0; breaks = [] })) h
  where
    by : (r : Result (A × TypingState) Broken) → Walked (λ a t. P) r → Walked (λ a t. P) (within_body s r)
    by (Ok a) h = walk_ends h.so
    by (Err e) h = record { so = tt }

module _ (env : Env) where
  field_accepted : (earlier : List Word) (f : Syn) (s : TypingState) → Walked (λ a t. IsTrue (field_legal f)) (rules.field env
      earlier f s)
  field_accepted earlier (syn at (AField name ty)) s =
      walk (written_legal (all_rules env) ty s) λ x t h. walk_obeyed Rule.T02 at (not (is_among name earlier)) _ λ _.
      walk_ends h
  field_accepted earlier (syn at form) s =
      walk (written_legal (all_rules env) (syn at form) s) λ x t h. walk_ends {a = earlier} {t = t} h

  fields_accepted : (earlier : List Word) (fs : List Syn) (s : TypingState) → Walked (λ a t. IsTrue (fields_legal fs))
      (rules.fields env earlier fs s)
  fields_accepted earlier [] s = walk_ends refl
  fields_accepted earlier (f ∷ fs) s =
      walk (field_accepted earlier f s) λ ns t h. walk_map (fields_accepted ns fs t) λ a u k. and_so (field_legal f) _ h k

  variants_accepted : (earlier : List Word) (vs : List Syn) (s : TypingState) → Walked (λ a t. IsTrue (variants_legal vs))
      (rules.variants env earlier vs s)
  variants_accepted earlier [] s = walk_ends refl
  variants_accepted earlier (syn at (AVariant name kind fs) ∷ vs) s =
      walk (fields_accepted [] (list_of fs) s) λ _ t h. walk_obeyed Rule.T02 at (not (is_among name earlier)) _ λ _.
      walk_obeyed Rule.T19 at (nat_le (rules.count_of fs) 32) _ λ _. walk_map (variants_accepted (name ∷ earlier) vs t) λ a
      u k. and_so (fields_legal (list_of fs)) _ h k
  variants_accepted earlier (syn at _ ∷ vs) s = record { so = tt }

  head_accepted : (params : Syns) (answer : MaybeSyn) (s : TypingState) → Walked (λ a t. IsTrue (head_legal legal_param params
      answer)) (rules.head_rules env params answer s)
  head_accepted params answer s =
      walk (in_body_so (bodies.params_of env (types.written_param (all_rules env)) params []) s (params_are_legal env
      legal_param (types.written_param (all_rules env)) (λ p t. written_param_legal (all_rules env) p t) params [] (record s
      { next_node = 0; breaks = [] }))) λ _ t h. walk (answer_is_legal env answer t) λ _ u k. walk_ends (and_so
      (params_legal legal_param params) _ h k)

  trait_heads_accepted : (earlier : List Word) (hs : List Syn) (s : TypingState) → Walked (λ a t. IsTrue (trait_heads_legal hs))
      (rules.trait_heads env earlier hs s)
  trait_heads_accepted earlier [] s = walk_ends refl
  trait_heads_accepted earlier (syn at (AnItem (FnItem name params answer block)) ∷ hs) s =
      walk (head_accepted (rules.behind_self params) answer s) λ _ t h. walk_obeyed Rule.T02 name.0 (not (is_among name.1
      earlier)) _ λ _. walk_obeyed Rule.T11 at (rules.takes_reference params && not (bytes_eq name.1 (codes "drop"))) _ λ _.
      walk_map (trait_heads_accepted (name.1 ∷ earlier) hs t) λ a u k. and_so (head_legal legal_param (rules.behind_self
      params) answer) _ h k
  trait_heads_accepted earlier (syn at _ ∷ hs) s = record { so = tt }

item_accepted : (env : Env) (before : rules.Before) (i : Syn) (s : TypingState) → Walked (λ a t. IsTrue (item_legal i))
    (rules.item_rules env before i s)
item_accepted env before (syn at (AnItem (StructItem ds name kind fs))) s =
    walk (fields_accepted (rules.in_impl env (adt_named s.items name.1)) [] (list_of fs) s) λ _ t h. walk_obeyed Rule.T19
    at (nat_le (rules.count_of fs) 32) _ λ _. walk_ends h
item_accepted env before (syn at (AnItem (EnumItem ds name vs))) s =
    walk (variants_accepted (rules.in_impl env (adt_named s.items name.1)) [] (list_of vs) s) λ _ t h. walk_obeyed
    Rule.T19 at (nat_le (rules.count_of vs) 64) _ λ _. walk_ends h
item_accepted env before (syn at (AnItem (TraitItem name heads))) s =
    walk (trait_heads_accepted env [] (list_of heads) s) λ _ t h. walk_ends h
item_accepted env before (syn at form) s = whatever _ refl

items_accepted : (env : Env) (before : rules.Before) (is : List Syn) (s : TypingState) → Walked (λ a t. All (λ i. IsTrue (item_legal
    i)) is) (rules.all_items env before is s)
items_accepted env before [] s = walk_ends tt
items_accepted env before (i ∷ is) s =
    walk (item_accepted env before i s) λ next t h. walk (whatever {P = Unit {0}} (rules.bodies_of env i t) tt) λ _ u _.
    walk_map (items_accepted env next is u) λ a v k. (h, k)

-- ---- bodies, by what is met

made_legal : (items : ItemTable) (from to : ℕ) (texts : List BodySyn) (bodies : List BodyTree) → AreMade (IsBodyOf items) from
    to texts [] bodies → All (λ t. IsTrue (text_legal t)) texts
made_legal items from to texts [] h = subst (All (λ t. IsTrue (text_legal t))) (sym h.0) tt
made_legal items from to [] (body ∷ bodies) h = absurd h
made_legal items from to (text ∷ texts) (body ∷ bodies) h =
    (h.0.2, made_legal items (behind text from) to texts bodies h.1)

module _ (around : types.WrittenScope) where
  body_listed : (b : Syn) (rest : List BodySyn) → All (λ t. IsTrue (text_legal t)) (body_text around b rest) → IsTrue
      (body_legal b) × All (λ t. IsTrue (text_legal t)) rest
  body_listed (syn at (AnItem (FnItem name params answer block))) rest h = h
  body_listed (syn at (AnExpression (MoveOf captures params answer body))) rest h = h
  body_listed (syn at _) rest h = (refl, h)

  bodies_listed : (bs : List Syn) (rest : List BodySyn) → All (λ t. IsTrue (text_legal t)) (bodies_text around bs rest) → All
      (λ b. IsTrue (body_legal b)) bs × All (λ t. IsTrue (text_legal t)) rest
  bodies_listed [] rest h = (tt, h)
  bodies_listed (b ∷ bs) rest h =
      let first = body_listed b (bodies_text around bs rest) h in
      let others = bodies_listed bs rest first.1 in
      ((first.0, others.0), others.1)

items_keep : (k : collected.Known) (is : List ItemSyn) → All (λ i. IsTrue (item_legal i)) (item_syns is) → All (λ t. IsTrue
    (text_legal t)) (listed_text k is []) → All ItemKeeps is
items_keep k [] h texts = tt
items_keep k (i ∷ is) h texts =
    let b = bodies_listed (all_names k (impl_owner i.item)) i.bodies (listed_text k is []) texts in
    ((h.0, b.0), items_keep k is h.1 b.1)

-- ---- the table at the beginning

-- types that have nothing in them
abbrev is_scalar : Ty → Bool
is_scalar (Ty.Int kind) = true
is_scalar Ty.Bool = true
is_scalar Ty.Unit = true
is_scalar Ty.Never = true
is_scalar _ = false

scalars_are : All (λ ty. IsTrue (is_scalar ty)) scalars
scalars_are = (refl, (refl, (refl, (refl, (refl, (refl, (refl, (refl, tt))))))))

nothing_in : (ty : Ty) (part : TyId) → IsTrue (is_scalar ty) → Contains (types_in ty) part → ⊥
nothing_in (Ty.Int kind) part h has = omega (arith, has.1)
nothing_in Ty.Bool part h has = omega (arith, has.1)
nothing_in Ty.Unit part h has = omega (arith, has.1)
nothing_in Ty.Never part h has = omega (arith, has.1)
nothing_in _ part h has = false≢true h

none_held : (ty : Ty) (part : TyId) → IsTrue (is_scalar ty) → Contains (held_by collected.no_items ty) part → ⊥
none_held (Ty.Int kind) part h has = omega (arith, has.1)
none_held Ty.Bool part h has = omega (arith, has.1)
none_held Ty.Unit part h has = omega (arith, has.1)
none_held Ty.Never part h has = omega (arith, has.1)
none_held _ part h has = false≢true h

none_made : (ty : Ty) (part : TyId) → IsTrue (is_scalar ty) → Contains (made_of ty) part → ⊥
none_made (Ty.Tuple tys) part h has = false≢true h
none_made (Ty.Array element count) part h has = false≢true h
none_made _ part h has = omega (arith, has.1)

no_part : (ty : Ty) (part : TyId) (variant n : ℕ) → IsTrue (is_scalar ty) → slice_get (parts_of collected.no_items ty variant) n
    ≡ Some part → ⊥
no_part (Ty.Int kind) part variant n h is = none-some part is
no_part Ty.Bool part variant n h is = none-some part is
no_part Ty.Unit part variant n h is = none-some part is
no_part Ty.Never part variant n h is = none-some part is
no_part _ part variant n h is = false≢true h

nothing_inside : (ty : Ty) (to : TyId) → IsTrue (is_scalar ty) → inside_in ty ≡ Some to → ⊥
nothing_inside (Ty.Int kind) to h is = none-some to is
nothing_inside Ty.Bool to h is = none-some to is
nothing_inside Ty.Unit to h is = none-some to is
nothing_inside Ty.Never to h is = none-some to is
nothing_inside _ to h is = false≢true h

scalar_at : (id : TyId) (ty : Ty) → type_at collected.no_items id ≡ Some ty → IsTrue (is_scalar ty)
scalar_at id ty at = all_at (λ t. IsTrue (is_scalar t)) scalars id.0 ty scalars_are at

pub ready_at_first : AreReady collected.no_items
ready_at_first = record {
  begins = λ n ty h. h;
  distinct = scalars_distinct;
  parts_first = λ id part ty at has. absurd (nothing_in ty part (scalar_at id ty at) has);
  held = λ id part ty at has. absurd (none_held ty part (scalar_at id ty at) has);
  parts = λ id part variant n is. absurd (part_at id part variant n (type_at collected.no_items id) refl is);
  held_fields = λ n part has. absurd (omega (arith, has.1));
  fields = λ n variant k part is. absurd (none-some part is);
  inside = λ id to is. absurd (inside_at id to (type_at collected.no_items id) refl is);
  results = λ n sig at. absurd (none-some sig at);
  methods = λ n k def sig at is. absurd (none-some def at);
  params = λ n sig ty at has. absurd (none-some sig at);
  method_params = λ n k def sig ty at is has. absurd (none-some def at);
  order = λ n ty part at has. absurd (none_made ty part (all_at (λ t. IsTrue (is_scalar t)) scalars n ty scalars_are at) has);
  after = λ k def at. absurd (none-some def at);
}
  where
    part_at : (id part : TyId) (variant n : ℕ) (o : Option Ty) → type_at collected.no_items id ≡ o → option_and_then (λ ty.
        slice_get (parts_of collected.no_items ty variant) n) o ≡ Some part → ⊥
    part_at id part variant n None at is = none-some part is
    part_at id part variant n (Some ty) at is = no_part ty part variant n (scalar_at id ty at) is

    inside_at : (id to : TyId) (o : Option Ty) → type_at collected.no_items id ≡ o → option_and_then inside_in o ≡ Some to → ⊥
    inside_at id to None at is = none-some to is
    inside_at id to (Some ty) at is = nothing_inside ty to (scalar_at id ty at) is

-- ---- the whole

-- each item and each body that is listed for it keeps all rules, as it is written
pub items_kept : (parts : Parts Pos) (end : Pos) (items : ItemTable) (p : ProgramTree) → collected.collected parts end ≡ Ok
    items → rules.checked parts items ≡ Ok p → TellBodies (items_of parts) → All ItemKeeps (items_of parts)
items_kept parts end items p is_collected is_checked tell =
    items_keep (collected.known_of (items_of parts)) (items_of parts) (legal_items _ walked_items is_checked) legal_texts
  where
    walked_items : Walked (λ a t. All (λ i. IsTrue (item_legal i)) (item_syns (items_of parts))) (rules.all_items
        (rules.outermost (item_syns (items_of parts))) (record { methods = []; impls = [] }) (item_syns (items_of parts))
        (collected.starting_with items))
    walked_items =
        items_accepted (rules.outermost (item_syns (items_of parts))) (record { methods = []; impls = [] }) (item_syns
        (items_of parts)) (collected.starting_with items)

    legal_items : (r : Result (Unit {0} × TypingState) Broken) → Walked (λ a t. All (λ i. IsTrue (item_legal i)) (item_syns (items_of
        parts))) r → rules.program_in r ≡ Ok p → All (λ i. IsTrue (item_legal i)) (item_syns (items_of parts))
    legal_items (Ok a) w e = w.so
    legal_items (Err x) w e = absurd (no_ok x p e)

    heads : AreHeads parts items
    heads = heads_of_text parts end items is_collected

    legal_texts : All (λ t. IsTrue (text_legal t)) (listed_text (collected.known_of (items_of parts)) (items_of parts) [])
    legal_texts =
        let w = walk_adds parts items p is_checked in
        subst (λ (f : Tape). All (λ t. IsTrue (text_legal t)) (f [])) (sym (items_listed (items_of parts) items.adts
        (words_collected (items_of parts) items.adts heads.adts) (items_of parts) tell)) (made_legal w.0.items (length
        items.closures) (length w.0.items.closures) (program_text items.adts parts []) w.1.met.new (w.1.met.made []))

pub items_ready : (parts : Parts Pos) (end : Pos) (items : ItemTable) (p : ProgramTree) → collected.collected parts end ≡ Ok
    items → rules.checked parts items ≡ Ok p → TellBodies (items_of parts) → AreReady items
items_ready parts end items p is_collected is_checked tell =
    by (collected.collecting (items_of parts) end (collected.starting_with collected.no_items)) (collecting_ready (items_of
    parts) end (items_kept parts end items p is_collected is_checked tell)) is_collected
  where
    by : (r : Result (Unit {0} × TypingState) Broken) → Walked (λ a t. AreReady collected.no_items → AreReady t.items) r →
        collected.items_in r ≡ Ok items → AreReady items
    by (Ok a) w e = subst AreReady (ok_same a.1.items items e) (w.so ready_at_first)
    by (Err x) w e = absurd (no_items_ok x e)

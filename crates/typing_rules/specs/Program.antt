-- The typed program of a text, or the first broken rule: item by item, of each its head and then its bodies.
use Rattle.std.specs.Prelude.{ℕ, Bool, true, false, ◌==◌, ◌&&◌, ◌||◌, not, List, [], ◌∷◌, map, length, nat_le, Option, Some, None, Result, Ok, Err, is_some, if◌then◌else◌, codes, option_and_then, slice_get}
use Rattle.std.specs.List.{list_any, list_all, filter_map, find}
use Rattle.std.specs.Option.{option_map_or}
use Rattle.std.specs.Str.{bytes_eq}
use Rattle.mir_base.specs.declared.place_in_text.Pos.{Pos}
use Rattle.mir_base.specs.declared.rule.Rule.{Rule}
use Rattle.mir_ty.specs.declared.def.Sig.{Sig}
use Rattle.mir_ty.specs.declared.ty.TyId.{TyId}
use Rattle.mir_ty.specs.ItemTable.{ItemTable}
use Rattle.src_tree.specs.Layout.{Parts}
use Rattle.typed_tree.specs.Tree.{Node, ProgramTree}
use Rattle.well_typed.specs.Names.{is_among}
use Rattle.well_typed.specs.Types.{is_same, are_same, is_unit, reference_of}
use Rattle.typing_rules.specs.Bodies.{all_rules, answer_of, params_of, fn_body}
use Rattle.typing_rules.specs.Check.{Check, TypingState, Broken, ◌>>=◌, ◌>>◌, pure, breaks, obeys, the_items, in_new_body}
use Rattle.typing_rules.specs.Collected.{collected, starting_with}
use Rattle.typing_rules.specs.Items.{items_of, item_syns, adt_names, trait_names, all_kinds, self_methods}
use Rattle.typing_rules.specs.Places.{unit}
use Rattle.typing_rules.specs.Scope.{Env, adt_named, trait_named, body_named, method_word}
use Rattle.src_ast.specs.Syntax.{Word, Named, ByShared, ByUnique, Syn, syn, AnItem, AParam, AField, AVariant, StructItem, EnumItem, TraitItem, ImplItem, FnItem, SelfParam, Syns, no_syn, a_syn, list_of, MaybeSyn, nothing, just}
use Rattle.typing_rules.specs.Typed.{typed}
use Rattle.typing_rules.specs.Written.{written, written_param}

-- ---- fields and variants

abbrev pub count_of : Syns → ℕ
count_of ss = length (list_of ss)

-- a field by its name, once; a field by its order
abbrev pub field : Env → List Word → Syn → Check (List Word)
field env earlier (syn at (AField name ty)) = do
  _ ← written (all_rules env) ty
  obeys Rule.T02 at (not (is_among name earlier))
  pure (name ∷ earlier)
field env earlier ty = do
  _ ← written (all_rules env) ty
  pure earlier

abbrev pub fields : Env → List Word → List Syn → Check (Unit {0})
fields env earlier [] = pure tt
fields env earlier (f ∷ fs) = do
  names ← field env earlier f
  fields env names fs

abbrev pub variants : Env → List Word → List Syn → Check (Unit {0})
variants env earlier [] = pure tt
variants env earlier (syn at (AVariant name kind fs) ∷ vs) = do
  fields env [] (list_of fs)
  obeys Rule.T02 at (not (is_among name earlier))
  obeys Rule.T19 at (nat_le (count_of fs) 32)
  variants env (name ∷ earlier) vs
variants env earlier (syn at form ∷ vs) = breaks Rule.T20 at

-- ---- heads

abbrev pub is_by_reference : Syn → Bool
is_by_reference (syn at (AParam (SelfParam ByShared))) = true
is_by_reference (syn at (AParam (SelfParam ByUnique))) = true
is_by_reference _ = false

abbrev pub takes_reference : Syns → Bool
takes_reference no_syn = false
takes_reference (a_syn first rest) = is_by_reference first

-- the parameters and the result of a head; what its patterns are is looked at again with its body
abbrev pub head_rules : Env → Syns → MaybeSyn → Check (Unit {0})
head_rules env params answer = do
  _ ← in_new_body (params_of env (written_param (all_rules env)) params [])
  _ ← answer_of env answer
  pure tt

-- in a trait a parameter `self` is of no struct or enum: it is passed over
abbrev pub behind_self : Syns → Syns
behind_self (a_syn (syn at (AParam (SelfParam receiver))) rest) = rest
behind_self ss = ss

abbrev pub trait_heads : Env → List Word → List Syn → Check (Unit {0})
trait_heads env earlier [] = pure tt
trait_heads env earlier (syn at (AnItem (FnItem name params answer block)) ∷ hs) = do
  head_rules env (behind_self params) answer
  obeys Rule.T02 name.0 (not (is_among name.1 earlier))
  obeys Rule.T11 at (takes_reference params && not (bytes_eq name.1 (codes "drop")))
  trait_heads env (name.1 ∷ earlier) hs
trait_heads env earlier (syn at form ∷ hs) = breaks Rule.T20 at

-- ---- impls

-- the same head, where the struct or enum stands for `dyn` of the trait
abbrev pub is_unique : ItemTable → TyId → Bool
is_unique items ty = option_map_or (λ r. r.0) (reference_of items ty) false

abbrev pub is_reference : ItemTable → TyId → Bool
is_reference items ty = is_some (reference_of items ty)

abbrev pub is_same_truth : Bool → Bool → Bool
is_same_truth a b = if a then b else not b

abbrev pub are_same_params : ItemTable → List TyId → List TyId → Bool
are_same_params items (self ∷ tys) (own ∷ others) =
    is_reference items own && (is_same_truth (is_unique items self) (is_unique items own) && are_same tys others)
are_same_params items _ _ = false

abbrev pub is_same_head : ItemTable → Option Sig → Option Sig → Bool
is_same_head items (Some method) (Some sig) =
    are_same_params items method.params sig.params && is_same method.result sig.result
is_same_head items _ _ = false

abbrev pub trait_method : ItemTable → Word → Word → Option Sig
trait_method items trait_ name =
    option_and_then (λ def. find (λ m. bytes_eq m.name name) def.methods)
    (option_and_then (slice_get items.traits) (trait_named items trait_))

abbrev pub body_head : ItemTable → Word → Word → Option Sig
body_head items owner name = option_and_then (slice_get items.bodies) (body_named items (method_word owner name))

-- `fn drop(&mut self)` alone
abbrev pub is_one_unique : ItemTable → List TyId → Bool
is_one_unique items (ty ∷ []) = is_unique items ty
is_one_unique items _ = false

abbrev pub is_drop_sig : ItemTable → Option Sig → Bool
is_drop_sig items None = false
is_drop_sig items (Some sig) = is_one_unique items sig.params && is_unit items sig.result

abbrev pub takes_unique : Syns → Bool
takes_unique (a_syn (syn at (AParam (SelfParam ByUnique))) rest) = true
takes_unique _ = false

abbrev pub is_drop : Word → Bool
is_drop name = bytes_eq name (codes "Drop")

abbrev pub is_called_drop : Word → Bool
is_called_drop name = bytes_eq name (codes "drop")

-- a method has the head that its impl asks for, and no other method is called `drop`
abbrev pub has_head : ItemTable → Option Named → Word → Word → Syns → Bool
has_head items None owner name params = not (is_called_drop name)
has_head items (Some trait_) owner name params =
    if is_drop trait_.1 then is_called_drop name && (takes_unique params && is_drop_sig items (body_head items owner
    name))
    else not (is_called_drop name) && (takes_reference params && is_same_head items (trait_method items trait_.1
    name) (body_head items owner name))

-- the methods that a type has had so far
abbrev pub Seen : Type 0
Seen = List (Word × Word)

abbrev pub is_seen : Word → Word → Seen → Bool
is_seen owner name seen = list_any (λ s. bytes_eq s.0 owner && bytes_eq s.1 name) seen

abbrev pub method_heads : Env → Option Named → Word → Seen → List Syn → Check Seen
method_heads env trait_ owner seen [] = pure seen
method_heads env trait_ owner seen (syn at (AnItem (FnItem name params answer block)) ∷ ms) = do
  head_rules env params answer
  items ← the_items
  obeys Rule.T02 name.0 (not (is_seen owner name.1 seen))
  obeys Rule.T11 at (has_head items trait_ owner name.1 params)
  method_heads env trait_ owner ((owner, name.1) ∷ seen) ms
method_heads env trait_ owner seen (syn at form ∷ ms) = breaks Rule.T20 at

abbrev pub method_name : Syn → Option Word
method_name (syn at (AnItem (FnItem name params answer block))) = Some name.1
method_name _ = None

abbrev pub method_names : Syns → List Word
method_names ms = filter_map method_name (list_of ms)

-- the names of the methods that an impl has to have
abbrev pub asked_for : ItemTable → Option Named → List Word
asked_for items None = []
asked_for items (Some trait_) =
    if is_drop trait_.1 then codes "drop" ∷ []
    else option_map_or (λ def. map (λ m. m.name) def.methods) (option_and_then (slice_get items.traits) (trait_named
    items trait_.1)) []

abbrev pub has_all : List Word → List Word → Bool
has_all names given = list_all (λ n. is_among n given) names

abbrev pub is_repeated : Option Named → Word → Seen → Bool
is_repeated None owner impls = false
is_repeated (Some trait_) owner impls = is_seen owner trait_.1 impls

abbrev pub with_impl : Option Named → Word → Seen → Seen
with_impl None owner impls = impls
with_impl (Some trait_) owner impls = (owner, trait_.1) ∷ impls

-- what came before: methods, each with its type, and impls, each with its type and trait
pub record Before : Type 0 where
  pub methods : Seen
  pub impls : Seen

abbrev pub is_main_head : Word → Syns → Sig → ItemTable → Bool
is_main_head name params sig items =
    not (bytes_eq name (codes "main")) || (count_of params == 0 && is_unit items sig.result)

abbrev pub main_rule : Pos → Word → Syns → ItemTable → Option Sig → Check (Unit {0})
main_rule at name params items None = pure tt
main_rule at name params items (Some sig) = obeys Rule.T03 at (is_main_head name params sig items)

-- ---- items

abbrev pub in_impl : Env → Option ℕ → Env
in_impl env self_adt = record env { self_adt = self_adt }

abbrev pub item_rules : Env → Before → Syn → Check Before
item_rules env before (syn at (AnItem (StructItem ds name kind fs))) = do
  items ← the_items
  fields (in_impl env (adt_named items name.1)) [] (list_of fs)
  obeys Rule.T19 at (nat_le (count_of fs) 32)
  pure before
item_rules env before (syn at (AnItem (EnumItem ds name vs))) = do
  items ← the_items
  variants (in_impl env (adt_named items name.1)) [] (list_of vs)
  obeys Rule.T19 at (nat_le (count_of vs) 64)
  pure before
item_rules env before (syn at (AnItem (TraitItem name heads))) = do
  trait_heads env [] (list_of heads)
  pure before
item_rules env before (syn at (AnItem (ImplItem trait_ name methods))) = do
  items ← the_items
  seen ← method_heads (in_impl env (adt_named items name.1)) trait_ name.1 before.methods (list_of methods)
  obeys Rule.T11 at (not (is_repeated trait_ name.1 before.impls) && has_all (asked_for items trait_) (method_names
      methods))
  pure (record { methods = seen; impls = with_impl trait_ name.1 before.impls })
item_rules env before (syn at (AnItem (FnItem name params answer block))) = do
  head_rules env params answer
  items ← the_items
  main_rule at name.1 params items (option_and_then (slice_get items.bodies) (body_named items name.1))
  pure before
item_rules env before (syn at _) = breaks Rule.T20 at

-- ---- bodies

abbrev pub block_of : MaybeSyn → Pos → Env → Option TyId → Check Node
block_of nothing at env expected = breaks Rule.T20 at
block_of (just block) at env expected = typed env block expected

abbrev pub fn_rules : Env → Syn → Check (Unit {0})
fn_rules env (syn at (AnItem (FnItem name params answer block))) = do
  _ ← fn_body env at params answer (block_of block at)
  pure tt
fn_rules env (syn at _) = breaks Rule.T20 at

abbrev pub all_fn_rules : Env → List Syn → Check (Unit {0})
all_fn_rules env [] = pure tt
all_fn_rules env (f ∷ fs) = fn_rules env f >> all_fn_rules env fs

abbrev pub bodies_of : Env → Syn → Check (Unit {0})
bodies_of env (syn at (AnItem (ImplItem trait_ name methods))) = do
  items ← the_items
  all_fn_rules (in_impl env (adt_named items name.1)) (list_of methods)
bodies_of env (syn at (AnItem (FnItem name params answer block))) =
    fn_rules env (syn at (AnItem (FnItem name params answer block)))
bodies_of env _ = pure tt

abbrev pub all_items : Env → Before → List Syn → Check (Unit {0})
all_items env before [] = pure tt
all_items env before (i ∷ is) = do
  next ← item_rules env before i
  bodies_of env i
  all_items env next is

abbrev pub outermost : List Syn → Env
outermost items = record {
  adts = adt_names items;
  traits = trait_names items;
  kinds = all_kinds items;
  methods = self_methods items;
  self_adt = None;
  variables = [];
  loops = [];
  answer = unit;
}

abbrev pub program_in : {A : Type 0} → Result (A × TypingState) Broken → Result ProgramTree Broken
program_in (Ok a) = Ok (record { items = a.1.items; bodies = a.1.bodies })
program_in (Err e) = Err e

-- the typed program of items that were collected
abbrev pub checked : Parts Pos → ItemTable → Result ProgramTree Broken
checked parts items =
    program_in (all_items (outermost (item_syns (items_of parts))) (record { methods = []; impls = [] })
    (item_syns (items_of parts)) (starting_with items))

abbrev pub then_checked : Parts Pos → Result ItemTable Broken → Result ProgramTree Broken
then_checked parts (Ok items) = checked parts items
then_checked parts (Err e) = Err e

-- the typed program of a text, or the first broken rule with its place; the end of the text is given
abbrev pub typed_program : Parts Pos → Pos → Result ProgramTree Broken
typed_program parts end = then_checked parts (collected parts end)

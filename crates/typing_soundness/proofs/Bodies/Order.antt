-- Bodies of a typed program stand in the order of their numbers, which is that of the text.
use Rattle.std.proofs.Common.{◌≡◌, ℕ, zero, suc, ◌+◌, Bool, true, false, ◌&&◌, not, nat_le, List, [], ◌∷◌, ◌++◌, map, length, slice_get, Option, Some, None, Result, Ok, Err, refl, ap, sym, subst, ◌∙◌, arith}
use Rattle.std.specs.Prelude.{option_and_then, codes}
use Rattle.std.specs.Str.{bytes_eq}
use Rattle.std.proofs.lemmas.Bool.{false≢true}
use Rattle.std.proofs.lemmas.List.{append_assoc, length-map}
use Rattle.mir_base.specs.declared.place_in_text.Pos.{Pos}
use Rattle.mir_base.specs.declared.rule.Rule.{Rule}
use Rattle.std.specs.List.{position as position_of}
use Rattle.mir_ty.specs.AreItems.{AreDistinct}
use Rattle.mir_ty.specs.declared.adt.Adt.{Adt}
use Rattle.mir_ty.specs.declared.def.Sig.{Sig}
use Rattle.mir_ty.specs.ItemTable.{ItemTable}
use Rattle.src_tree.specs.Layout.{Parts}
use Rattle.typed_tree.specs.Nodes.{numbers_of}
use Rattle.typed_tree.specs.Tree.{ParamTree, BodyTree, ProgramTree}
use Rattle.well_typed.specs.Names.{is_among}
use Rattle.typing_rules.specs.Bodies as bodies
use Rattle.typing_rules.specs.Check.{Check, TypingState, Broken, and_then, obeys, in_new_body, within_body}
use Rattle.typing_rules.specs.Collected.{starting_with}
use Rattle.typing_rules.specs.Items.{items_of, item_syns}
use Rattle.typing_rules.specs.Program as rules
use Rattle.typing_rules.specs.Scope.{Env, adt_named, body_named}
use Rattle.typing_rules.specs.Written as types
use Rattle.src_ast.specs.Syntax.{Word, Named, Syn, syn, AnItem, AField, AVariant, StructItem, EnumItem, TraitItem, ImplItem, FnItem, Syns, list_of, MaybeSyn, nothing, just}
use Rattle.typing_soundness.specs.Closures.{BodySyn, Function, WrittenHead, Tape, closures_if_any, function_text, functions_text, around_impl, item_text, items_text, program_text}
use Rattle.typing_soundness.specs.Met.{AreTypesOf, HaveClosures, IsBodyOf, AreMade, Met, types_of}
use Rattle.typing_soundness.specs.Types.{HaveTypes}
use Rattle.typing_soundness.specs.Walks.{counted, numbers_of_bodies, Ordered, InOrder, Walked}
use Rattle.typing_soundness.proofs.Bodies.Functions.{in_function}
use Rattle.typing_soundness.proofs.Bodies.Closures.{both_walk}
use Rattle.typing_soundness.proofs.Items.Meanings.{param_given}
use Rattle.typing_soundness.proofs.Walking.Adding.{Stays, stays_refl, met_none, ordered_of, ordered_both, counted_join}
use Rattle.typing_soundness.proofs.Walking.Heads.{params_given, answer_given, types_kept}
use Rattle.typing_soundness.specs.Legal.{legal_param, params_legal, head_legal}
use Rattle.typing_soundness.proofs.Walking.Lawful.{written_param_legal, params_are_legal, answer_is_legal, and_so}
use Rattle.typing_soundness.proofs.Walking.Later.{params_later, answer_later, types_later, met_both}
use Rattle.typing_soundness.proofs.Walking.Rows.{no_closure, ◌⨾◌}
use Rattle.typing_soundness.proofs.Walking.Expressions.{typed_walks, IsOf, IsAdded, body_added}
use Rattle.typing_soundness.proofs.Walking.Params.{written_still, written_param_still, params_walk, answer_still}
use Rattle.typing_soundness.proofs.Walking.Steps.{walk, walk_map, walk_obeyed, walk_ends}

-- ---- results

abbrev or_given : ProgramTree → Result ProgramTree Broken → ProgramTree
or_given q (Ok p) = p
or_given q (Err e) = q

abbrev is_given : Result ProgramTree Broken → Bool
is_given (Ok p) = true
is_given (Err e) = false

pub same_ok : (p q : ProgramTree) → ◌≡◌ {A = Result ProgramTree Broken} (Ok p) (Ok q) → p ≡ q
same_ok p q e = ap (or_given p) e

pub no_ok : (x : Broken) (p : ProgramTree) → ◌≡◌ {A = Result ProgramTree Broken} (Err x) (Ok p) → ⊥
no_ok x p e = false≢true (ap is_given e)

-- ---- orders

order_of : {s t : TypingState} → Ordered s t → InOrder s t
order_of o = record { count = o.count; next = o.next; bodies = o.bodies }

order_stays : {s t : TypingState} → Stays s t → InOrder s t
order_stays e = order_of (ordered_of e)

order_refl : (s : TypingState) → InOrder s s
order_refl s = order_stays (stays_refl s)

order_both : {s t u : TypingState} → InOrder s t → InOrder t u → InOrder s u
order_both {s} {t} {u} p q = record {
  count = p.count + q.count;
  next = let a = p.next in let b = q.next in omega (arith, a, b);
  bodies = q.bodies ∙ (ap (λ ns. ns ++ counted t.next_body q.count) p.bodies ∙ (append_assoc (numbers_of_bodies s)
      (counted s.next_body p.count) (counted t.next_body q.count) ∙ ap (λ ns. numbers_of_bodies s ++ ns) (ap (λ n.
      counted s.next_body p.count ++ counted n q.count) p.next ∙ counted_join s.next_body p.count q.count)));
}

-- what only adds bodies in order, those of a text
pub record Adds (f : Tape) (s t : TypingState) : Type 0 where
  pub order : InOrder s t
  pub met : Met f s t

adds_stays : {s t : TypingState} → Stays s t → Adds no_closure s t
adds_stays e = record { order = order_stays e; met = met_none e }

adds_none : (s : TypingState) → Adds no_closure s s
adds_none s = adds_stays (stays_refl s)

adds_both : {f g : Tape} {s t u : TypingState} → Adds f s t → Adds g t u → Adds (f ⨾ g) s u
adds_both p q = record { order = order_both p.order q.order; met = met_both p.met q.met }

abbrev pub Keeps : {A : Type 0} → Tape → TypingState → Result (A × TypingState) Broken → Type 0
Keeps f s r = Walked (λ a t. Adds f s t) r

-- one such check after another
then_ : {A B : Type 0} {f g : Tape} {s : TypingState} {r : Result (A × TypingState) Broken} {k : A → Check B} → Keeps f s r → ((a : A)
    (t : TypingState) → Keeps g t (k a t)) → Keeps (f ⨾ g) s (and_then r k)
then_ {r = Ok a} h k = walk_map (k a.0 a.1) λ b u o. adds_both h.so o
then_ {r = Err e} h k = record { so = tt }

then_so : {A B : Type 0} {f g : Tape} {s : TypingState} {r : Result (A × TypingState) Broken} {k : A → Check B} → Keeps f s r → ((a :
    A) (t : TypingState) → Adds f s t → Keeps g t (k a t)) → Keeps (f ⨾ g) s (and_then r k)
then_so {r = Ok a} h k = walk_map (k a.0 a.1 h.so) λ b u o. adds_both h.so o
then_so {r = Err e} h k = record { so = tt }

new_keeps : {A : Type 0} {f : Tape} (check : Check A) (s : TypingState) → Keeps f (record s { next_node = 0; breaks = [] })
    (check (record s { next_node = 0; breaks = [] })) → Keeps f s (in_new_body check s)
new_keeps {A} {f} check s h = by (check (record s { next_node = 0; breaks = [] })) h
  where
    by : (r : Result (A × TypingState) Broken) → Keeps f (record s { next_node = 0; breaks = [] }) r → Keeps f s (within_body s
        r)
    by (Ok a) h =
        walk_ends (record {
          order = record { count = h.so.order.count; next = h.so.order.next; bodies = h.so.order.bodies };
          met = record {
            types = h.so.met.types;
            distinct = h.so.met.distinct;
            adts = h.so.met.adts;
            heads = h.so.met.heads;
            closures = h.so.met.closures;
            new = h.so.met.new;
            bodies = h.so.met.bodies;
            made = h.so.met.made;
          };
        })
    by (Err e) h = record { so = tt }

-- ---- heads of items

module _ (env : Env) where
  type_keeps : (ty : Syn) (s : TypingState) → Keeps no_closure s (types.written (bodies.all_rules env) ty s)
  type_keeps ty s = walk_map (written_still (bodies.all_rules env) ty s) λ t u e. adds_stays e.stays

  field_keeps : (earlier : List Word) (f : Syn) (s : TypingState) → Keeps no_closure s (rules.field env earlier f s)
  field_keeps earlier (syn at (AField name ty)) s =
      then_ (type_keeps ty s) λ _ t. walk_obeyed Rule.T02 at (not (is_among name earlier)) _ λ _. walk_ends (adds_none
      t)
  field_keeps earlier (syn at form) s = then_ (type_keeps (syn at form) s) λ _ t. walk_ends {a = earlier} (adds_none t)

  fields_keep : (earlier : List Word) (fs : List Syn) (s : TypingState) → Keeps no_closure s (rules.fields env earlier fs s)
  fields_keep earlier [] s = walk_ends (adds_none s)
  fields_keep earlier (f ∷ fs) s = then_ (field_keeps earlier f s) λ names t. fields_keep names fs t

  variants_keep : (earlier : List Word) (vs : List Syn) (s : TypingState) → Keeps no_closure s (rules.variants env earlier vs s)
  variants_keep earlier [] s = walk_ends (adds_none s)
  variants_keep earlier (syn at (AVariant name kind fs) ∷ vs) s =
      then_ (fields_keep [] (list_of fs) s) λ _ t. walk_obeyed Rule.T02 at (not (is_among name earlier)) _ λ _.
      walk_obeyed Rule.T19 at (nat_le (rules.count_of fs) 32) _ λ _. variants_keep (name ∷ earlier) vs t
  variants_keep earlier (syn at _ ∷ vs) s = record { so = tt }

  head_keeps : (params : Syns) (answer : MaybeSyn) (s : TypingState) → Keeps no_closure s (rules.head_rules env params answer s)
  head_keeps params answer s =
      then_ (new_keeps (bodies.params_of env (types.written_param (bodies.all_rules env)) params []) s (walk_map
      (params_walk env (types.written_param (bodies.all_rules env)) (λ p t. written_param_still (bodies.all_rules env) p
      t) params [] (record s { next_node = 0; breaks = [] })) λ ps t w. record { order = order_of w.ordered; met = w.met })) λ _ t. then_ (walk_map
      (answer_still env answer t) λ _ u e. adds_stays e.stays) λ _ u. walk_ends (adds_none u)

  trait_heads_keep : (earlier : List Word) (hs : List Syn) (s : TypingState) → Keeps no_closure s (rules.trait_heads env earlier hs s)
  trait_heads_keep earlier [] s = walk_ends (adds_none s)
  trait_heads_keep earlier (syn at (AnItem (FnItem name params answer block)) ∷ hs) s =
      then_ (head_keeps (rules.behind_self params) answer s) λ _ t. walk_obeyed Rule.T02 name.0 (not (is_among name.1
      earlier)) _ λ _. walk_obeyed Rule.T11 at (rules.takes_reference params && not (bytes_eq name.1 (codes "drop"))) _
      λ _. trait_heads_keep (name.1 ∷ earlier) hs t
  trait_heads_keep earlier (syn at _ ∷ hs) s = record { so = tt }

  method_heads_keep : (trait_ : Option Named) (owner : Word) (seen : rules.Seen) (ms : List Syn) (s : TypingState) → Keeps no_closure s
      (rules.method_heads env trait_ owner seen ms s)
  method_heads_keep trait_ owner seen [] s = walk_ends (adds_none s)
  method_heads_keep trait_ owner seen (syn at (AnItem (FnItem name params answer block)) ∷ ms) s =
      then_ (head_keeps params answer s) λ _ t. walk_obeyed Rule.T02 name.0 (not (rules.is_seen owner name.1 seen)) _ λ
      _. walk_obeyed Rule.T11 at (rules.has_head t.items trait_ owner name.1 params) _ λ _. method_heads_keep trait_
      owner ((owner, name.1) ∷ seen) ms t
  method_heads_keep trait_ owner seen (syn at _ ∷ ms) s = record { so = tt }

main_keeps : (at : Pos) (name : Word) (params : Syns) (o : Option Sig) (s : TypingState) → Keeps no_closure s (rules.main_rule at name
    params s.items o s)
main_keeps at name params None s = walk_ends (adds_none s)
main_keeps at name params (Some sig) s = by (rules.is_main_head name params sig s.items)
  where
    by : (b : Bool) → Keeps no_closure s (obeys Rule.T03 at b s)
    by true = walk_ends (adds_none s)
    by false = record { so = tt }

pub item_keeps : (env : Env) (before : rules.Before) (i : Syn) (s : TypingState) → Keeps no_closure s (rules.item_rules env before i s)
item_keeps env before (syn at (AnItem (StructItem ds name kind fs))) s =
    then_ (fields_keep (rules.in_impl env (adt_named s.items name.1)) [] (list_of fs) s) λ _ t. walk_obeyed Rule.T19 at
    (nat_le (rules.count_of fs) 32) _ λ _. walk_ends (adds_none t)
item_keeps env before (syn at (AnItem (EnumItem ds name vs))) s =
    then_ (variants_keep (rules.in_impl env (adt_named s.items name.1)) [] (list_of vs) s) λ _ t. walk_obeyed Rule.T19
    at (nat_le (rules.count_of vs) 64) _ λ _. walk_ends (adds_none t)
item_keeps env before (syn at (AnItem (TraitItem name heads))) s =
    then_ (trait_heads_keep env [] (list_of heads) s) λ _ t. walk_ends (adds_none t)
item_keeps env before (syn at (AnItem (ImplItem trait_ name methods))) s =
    then_ (method_heads_keep (rules.in_impl env (adt_named s.items name.1)) trait_ name.1 before.methods (list_of
    methods) s) λ seen t. walk_obeyed Rule.T11 at (not (rules.is_repeated trait_ name.1 before.impls) && rules.has_all
    (rules.asked_for s.items trait_) (rules.method_names methods)) _ λ _. walk_ends (adds_none t)
item_keeps env before (syn at (AnItem (FnItem name params answer block))) s =
    then_ (head_keeps env params answer s) λ _ t. then_ (main_keeps at name.1 params (option_and_then (slice_get
    t.items.bodies) (body_named t.items name.1)) t) λ _ u. walk_ends (adds_none u)
item_keeps env before (syn at _) s = record { so = tt }

-- ---- bodies

function_inner : (env : Env) (at : Pos) (n : ℕ) (params : Syns) (answer : MaybeSyn) (block : MaybeSyn) (s : TypingState) →
    Walked (λ b t. (b.number ≡ n) × Ordered s t × IsOf (bodies.all_rules env) (head_legal legal_param params answer) params answer [] (closures_if_any
    (bodies.all_rules env) block) s b t) (in_function env at n params answer (rules.block_of block at) s)
function_inner env at n params answer (just body) s =
    walk (both_walk (bodies.params_of env (types.written_param (bodies.all_rules env)) params [] s) (params_walk env
    (types.written_param (bodies.all_rules env)) (λ p t. written_param_still (bodies.all_rules env) p t) params [] s)
    (both_walk (bodies.params_of env (types.written_param (bodies.all_rules env)) params [] s) (params_given env
    (types.written_param (bodies.all_rules env)) (λ p t. param_given (bodies.all_rules env) p t) params [] s)
    (params_are_legal env legal_param (types.written_param (bodies.all_rules env)) (λ p t. written_param_legal
    (bodies.all_rules env) p t) params [] s))) λ ps t w1. walk (both_walk (bodies.answer_of env answer t) (answer_still env answer t) (both_walk (bodies.answer_of env answer t) (answer_given env answer t) (answer_is_legal env answer t))) λ
    a u e. walk (typed_walks (bodies.inside env a ps.1) body (Some a) u) λ b v w2. walk_obeyed Rule.T19 at (nat_le
    (length (numbers_of (bodies.body_of n ps.0 a b))) 2048) _ λ _. walk_ends (
      refl,
      ordered_both w1.0.ordered (ordered_both (ordered_of e.0.stays) w2.ordered),
      (
        (
          map (λ (p : ParamTree). p.ty) ps.0,
          types_kept _ ps.0,
          (
            params_later t.items v.items (λ k x h. w2.met.types k x (e.1.0.0 k x h)) (bodies.all_rules env) params _ w1.1.0.1,
            answer_later u.items v.items w2.met.types (bodies.all_rules env) answer a e.1.0.1,
          ),
          and_so (params_legal legal_param params) _ w1.1.1 e.1.1,
        ),
        met_both w1.0.met (met_both (met_none e.0.stays) w2.met),
      ),
    )
function_inner env at n params answer nothing s =
    walk (params_walk env (types.written_param (bodies.all_rules env)) (λ p t. written_param_still (bodies.all_rules
    env) p t) params [] s) λ ps t w1. walk (answer_still env answer t) λ a u e. record { so = tt }

module _ (env : Env) (name : Word) (params : Syns) (answer : MaybeSyn) (block : MaybeSyn) where
  abbrev head : WrittenHead
  head = record { around = bodies.all_rules env; name = name; params = params; answer = answer }

  added_text : (s v : TypingState) → IsAdded s.next_body (IsOf (bodies.all_rules env) (head_legal legal_param params answer) params answer [] (closures_if_any
      (bodies.all_rules env) block) (record s { next_body = suc s.next_body; bodies = []; next_node = 0; breaks = [] }))
      (record s { next_body = suc s.next_body }) v → Adds (λ rest. Function head ∷ closures_if_any (bodies.all_rules env)
      block rest) s v
  added_text s v added = record {
    order = record {
      count = suc added.ordered.count;
      next = let a = added.next in let b = added.ordered.next in omega (arith, a, b);
      bodies = added.bodies ∙ ap (λ ns. numbers_of_bodies s ++ s.next_body ∷ ns) added.ordered.bodies;
    };
    met = record {
      types = λ n x h. later n x (inner.types n x h);
      distinct = λ h. subst AreDistinct (ap (λ (i : ItemTable). i.types) (sym added.items)) (inner.distinct h);
      adts = ap (λ (i : ItemTable). i.adts) added.items ∙ inner.adts;
      heads = ap (λ (i : ItemTable). i.bodies) added.items ∙ inner.heads;
      closures = subst (HaveClosures s.items) (sym added.items) inner.closures;
      new = added.body ∷ inner.new;
      bodies = added.whole ∙ ap (λ bs. s.bodies ++ added.body ∷ bs) inner.bodies;
      made = λ rest. ((first, tt, added.is.0.3), others rest);
    };
  }
    where
      inner : Met (closures_if_any (bodies.all_rules env) block) (record s {
        next_body = suc s.next_body;
        bodies = [];
        next_node = 0;
        breaks = [];
      }) added.inner
      inner = added.is.1

      later : HaveTypes added.inner.items v.items
      later = subst (HaveTypes added.inner.items) (sym added.items) (λ n x h. h)

      first : AreTypesOf v.items (length s.items.closures) (Function head) (types_of added.body) added.body.answer
      first =
          subst (λ tys. AreTypesOf v.items (length s.items.closures) (Function head) tys added.body.answer) (sym
          added.is.0.1) (types_later added.inner.items v.items later head added.is.0.0 added.body.answer added.is.0.2)

      others : (rest : List BodySyn) → AreMade (IsBodyOf v.items) (length s.items.closures) (length v.items.closures)
          (closures_if_any (bodies.all_rules env) block rest) rest inner.new
      others rest =
          subst (λ (i : ItemTable). AreMade (IsBodyOf i) (length s.items.closures) (length i.closures) (closures_if_any
          (bodies.all_rules env) block rest) rest inner.new) (sym added.items) (inner.made rest)

  function_keeps : (at : Pos) (s : TypingState) → Keeps (λ rest. Function head ∷ closures_if_any (bodies.all_rules env) block
      rest) s (bodies.fn_body env at params answer (rules.block_of block at) s)
  function_keeps at s =
      walk_map (body_added {Q = IsOf (bodies.all_rules env) (head_legal legal_param params answer) params answer [] (closures_if_any (bodies.all_rules env)
      block) (record s' { bodies = []; next_node = 0; breaks = [] })} s.next_body (in_function env at s.next_body params
      answer (rules.block_of block at)) s' (function_inner env at s.next_body params answer block (record s' {
        bodies =
            [];
        next_node = 0;
        breaks = [];
      }))) λ b v added. added_text s v added
    where
      s' : TypingState
      s' = record s { next_body = suc s.next_body }

fn_keeps : (env : Env) (f : Syn) (s : TypingState) → Keeps (function_text (bodies.all_rules env) f) s (rules.fn_rules env f s)
fn_keeps env (syn at (AnItem (FnItem name params answer block))) s =
    then_ (function_keeps env name.1 params answer block at s) λ _ t. walk_ends (adds_none t)
fn_keeps env (syn at _) s = record { so = tt }

all_fn_keep : (env : Env) (fs : List Syn) (s : TypingState) → Keeps (functions_text (bodies.all_rules env) fs) s
    (rules.all_fn_rules env fs s)
all_fn_keep env [] s = walk_ends (adds_none s)
all_fn_keep env (f ∷ fs) s = then_ (fn_keeps env f s) λ _ t. all_fn_keep env fs t

-- a struct or an enum has the same number in all states of a walk
same_number : (env : Env) (adts : List Adt) (name : Word) (s : TypingState) → s.items.adts ≡ adts → bodies.all_rules
    (rules.in_impl env (adt_named s.items name)) ≡ around_impl (bodies.all_rules env) adts name
same_number env adts name s e = λ i. record (bodies.all_rules env) { self_adt = position_of (λ adt. bytes_eq adt.name name) (e i) }

pub bodies_keep : (env : Env) (adts : List Adt) (i : Syn) (s : TypingState) → s.items.adts ≡ adts → Keeps (item_text (bodies.all_rules
    env) adts i) s (rules.bodies_of env i s)
bodies_keep env adts (syn at (AnItem (ImplItem trait_ name methods))) s e =
    subst (λ around. Keeps (functions_text around (list_of methods)) s (rules.all_fn_rules (rules.in_impl env (adt_named
    s.items name.1)) (list_of methods) s)) (same_number env adts name.1 s e) (all_fn_keep (rules.in_impl env (adt_named
    s.items name.1)) (list_of methods) s)
bodies_keep env adts (syn at (AnItem (FnItem name params answer block))) s e =
    fn_keeps env (syn at (AnItem (FnItem name params answer block))) s
bodies_keep env adts (syn at _) s e = walk_ends (adds_none s)

items_keep : (env : Env) (adts : List Adt) (before : rules.Before) (is : List Syn) (s : TypingState) → s.items.adts ≡ adts →
    Keeps (items_text (bodies.all_rules env) adts is) s (rules.all_items env before is s)
items_keep env adts before [] s e = walk_ends (adds_none s)
items_keep env adts before (i ∷ is) s e =
    then_so (item_keeps env before i s) λ next t a. then_so (bodies_keep env adts i t (a.met.adts ∙ e)) λ _ u b.
    items_keep env adts next is u (b.met.adts ∙ (a.met.adts ∙ e))

-- ---- the whole

counted_length : (from count : ℕ) → length (counted from count) ≡ count
counted_length from zero = refl
counted_length from (suc count) = ap suc (counted_length (suc from) count)

-- the walk over a text adds the bodies of the text
pub walk_adds : (parts : Parts Pos) (items : ItemTable) (p : ProgramTree) → rules.checked parts items ≡ Ok p → (t : TypingState) ×
    Adds (program_text items.adts parts) (starting_with items) t × (p ≡ record { items = t.items; bodies = t.bodies })
walk_adds parts items p e =
    by (rules.all_items (rules.outermost (item_syns (items_of parts))) (record { methods = []; impls = [] }) (item_syns
    (items_of parts)) (starting_with items)) (items_keep (rules.outermost (item_syns (items_of parts))) items.adts
    (record { methods = []; impls = [] }) (item_syns (items_of parts)) (starting_with items) refl) e
  where
    by : (r : Result (Unit {0} × TypingState) Broken) → Keeps (program_text items.adts parts) (starting_with items) r →
        rules.program_in r ≡ Ok p → (t : TypingState) × Adds (program_text items.adts parts) (starting_with items) t × (p ≡
        record { items = t.items; bodies = t.bodies })
    by (Ok a) h e = (a.1, h.so, sym (same_ok _ p e))
    by (Err x) h e = absurd (no_ok x p e)

pub bodies_in_order : (parts : Parts Pos) (items : ItemTable) (p : ProgramTree) → rules.checked parts items ≡ Ok p → map
    (λ (b : BodyTree). b.number) p.bodies ≡ counted 0 (length p.bodies)
bodies_in_order parts items p e =
    let w = walk_adds parts items p e in
    subst (λ (q : ProgramTree). map (λ (b : BodyTree). b.number) q.bodies ≡ counted 0 (length q.bodies)) (sym w.2)
    (numbered_by w.0.bodies w.1.order.count w.1.order.bodies)
  where
    numbered_by : (bs : List BodyTree) (count : ℕ) → map (λ (b : BodyTree). b.number) bs ≡ counted 0 count → map (λ (b :
        BodyTree). b.number) bs ≡ counted 0 (length bs)
    numbered_by bs count is =
        is ∙ ap (counted 0) (sym (sym (length-map bs (λ (b : BodyTree). b.number)) ∙ (ap length is ∙ counted_length 0
        count)))

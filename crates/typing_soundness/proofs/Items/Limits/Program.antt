-- The walk over an accepted text keeps types within their limits, and so they are in the end.
use Rattle.std.proofs.Common.{◌≡◌, ℕ, suc, ◌≤◌, Bool, true, false, ◌&&◌, not, nat_le, List, [], ◌∷◌, length, slice_get, Option, Some, None, Result, Ok, Err, IsTrue, inl, inr, refl, ap, sym, subst, ◌∙◌, arith}
use Rattle.std.specs.Prelude.{option_and_then, codes}
use Rattle.std.specs.List.{list_all}
use Rattle.std.specs.Str.{bytes_eq}
use Rattle.std.proofs.lemmas.Bool.{and_from, lt-ltb}
use Rattle.std.proofs.lemmas.List.{length-map}
use Rattle.std.proofs.lemmas.Option.{none-some}
use Rattle.mir_base.specs.declared.place_in_text.Pos.{Pos}
use Rattle.mir_base.specs.declared.rule.Rule.{Rule}
use Rattle.mir_ty.specs.declared.adt.Adt.{Adt}
use Rattle.mir_ty.specs.declared.def.Sig.{Sig}
use Rattle.mir_ty.specs.declared.ty.Ty.{Ty}
use Rattle.mir_ty.specs.ItemTable.{ItemTable}
use Rattle.src_tree.specs.Layout.{Parts}
use Rattle.typed_tree.specs.Nodes.{numbers_of}
use Rattle.typed_tree.specs.Tree.{ProgramTree}
use Rattle.well_typed.specs.Names.{is_among}
use Rattle.typing_rules.specs.Bodies as bodies
use Rattle.typing_rules.specs.Check.{Check, TypingState, Broken, obeys, in_new_body, within_body}
use Rattle.typing_rules.specs.Collected as collected
use Rattle.typing_rules.specs.Items.{items_of, item_syns, adt_names, trait_names}
use Rattle.typing_rules.specs.Program as rules
use Rattle.typing_rules.specs.Promises.{Extends}
use Rattle.typing_rules.specs.Scope.{Env, adt_named, body_named}
use Rattle.typing_rules.specs.Written as types
use Rattle.src_ast.specs.Syntax.{Word, Named, Syn, syn, AnItem, AField, AVariant, StructItem, EnumItem, TraitItem, ImplItem, FnItem, Syns, list_of, MaybeSyn, nothing, just}
use Rattle.typing_soundness.specs.Closures.{BodySyn, Tape, program_text}
use Rattle.typing_soundness.specs.Items.{is_within_limits}
use Rattle.typing_soundness.specs.Met.{IsBodyOf, AreMade, behind}
use Rattle.typing_soundness.specs.Program.{IsAccepted}
use Rattle.typing_soundness.specs.Walks.{Walked}
use Rattle.typing_soundness.proofs.Bodies.Functions.{in_function}
use Rattle.typing_soundness.proofs.Bodies.Order.{no_ok, same_ok, walk_adds}
use Rattle.typing_soundness.proofs.Bodies.Program.{bodies_typed}
use Rattle.typing_soundness.proofs.Items.Accepted.{items_kept}
use Rattle.typing_soundness.proofs.Items.Accepting.{are_collected}
use Rattle.typing_soundness.proofs.Items.Collected.{AreHeads, listed_text}
use Rattle.typing_soundness.proofs.Items.Headed.{ok_same, no_ok as no_items_ok, heads_of_text, items_listed, words_collected}
use Rattle.typing_soundness.proofs.Items.Limits.Collected.{IsCollected, bounds, behind_all, collecting_kept}
use Rattle.typing_soundness.proofs.Items.Limits.Expressions.{typed_kept, body_kept}
use Rattle.typing_soundness.proofs.Items.Limits.Patterns.{type_kept, param_type_kept, answer_kept, params_kept}
use Rattle.typing_soundness.proofs.Items.Limits.Rows.{Inside, Keeps, IsNamed, named_below}
use Rattle.typing_soundness.proofs.Items.Limits.Types.{Bounds, IsIn, AreIn}
use Rattle.typing_soundness.proofs.Walking.Steps.{walk, walk_obeyed, walk_ends}

module _ (b : Bounds) where
  new_kept : {A : Type 0} (check : Check A) (s : TypingState) → Walked (λ _ t. Inside b t.items) (check (record s {
    next_node = 0;
    breaks = [];
  })) → Walked (λ _ t. Inside b t.items) (in_new_body check s)
  new_kept {A} check s h = by (check (record s { next_node = 0; breaks = [] })) h
    where
      by : (r : Result (A × TypingState) Broken) → Walked (λ _ t. Inside b t.items) r → Walked (λ _ t. Inside b t.items)
          (within_body s r)
      by (Ok a) h = walk_ends h.so
      by (Err e) h = record { so = tt }

  obeyed_kept : (rule : Rule) (at : Pos) (holds : Bool) → Keeps b (obeys rule at holds)
  obeyed_kept rule at true s h = walk_ends h
  obeyed_kept rule at false s h = record { so = tt }

  -- ---- heads of items

  module _ (env : Env) (named : IsNamed b env) where
    field_kept : (earlier : List Word) (f : Syn) → Keeps b (rules.field env earlier f)
    field_kept earlier (syn at (AField name ty)) s h =
        walk (type_kept b env named ty s h) λ _ t k. walk_obeyed Rule.T02 at (not (is_among name earlier)) _ λ _. walk_ends k
    field_kept earlier (syn at form) s h =
        walk (type_kept b env named (syn at form) s h) λ _ t k. walk_ends {a = earlier} {t = t} k

    fields_kept : (earlier : List Word) (fs : List Syn) → Keeps b (rules.fields env earlier fs)
    fields_kept earlier [] s h = walk_ends h
    fields_kept earlier (f ∷ fs) s h = walk (field_kept earlier f s h) λ ns t k. fields_kept ns fs t k

    variants_kept : (earlier : List Word) (vs : List Syn) → Keeps b (rules.variants env earlier vs)
    variants_kept earlier [] s h = walk_ends h
    variants_kept earlier (syn at (AVariant name kind fs) ∷ vs) s h =
        walk (fields_kept [] (list_of fs) s h) λ _ t k. walk_obeyed Rule.T02 at (not (is_among name earlier)) _ λ _.
        walk_obeyed Rule.T19 at (nat_le (rules.count_of fs) 32) _ λ _. variants_kept (name ∷ earlier) vs t k
    variants_kept earlier (syn at _ ∷ vs) s h = record { so = tt }

    head_kept : (params : Syns) (answer : MaybeSyn) → Keeps b (rules.head_rules env params answer)
    head_kept params answer s h =
        walk (new_kept (bodies.params_of env (types.written_param (bodies.all_rules env)) params []) s (params_kept b env named
        (types.written_param (bodies.all_rules env)) (param_type_kept b env named) params [] (record s {
          next_node = 0;
          breaks = [];
        }) h)) λ _ t k. walk (answer_kept b env named answer t k) λ _ u l. walk_ends l

    trait_heads_kept : (earlier : List Word) (hs : List Syn) → Keeps b (rules.trait_heads env earlier hs)
    trait_heads_kept earlier [] s h = walk_ends h
    trait_heads_kept earlier (syn at (AnItem (FnItem name params answer block)) ∷ hs) s h =
        walk (head_kept (rules.behind_self params) answer s h) λ _ t k. walk_obeyed Rule.T02 name.0 (not (is_among name.1
        earlier)) _ λ _. walk_obeyed Rule.T11 at (rules.takes_reference params && not (bytes_eq name.1 (codes "drop"))) _ λ
        _. trait_heads_kept (name.1 ∷ earlier) hs t k
    trait_heads_kept earlier (syn at _ ∷ hs) s h = record { so = tt }

    method_heads_kept : (trait_ : Option Named) (owner : Word) (seen : rules.Seen) (ms : List Syn) → Keeps b
        (rules.method_heads env trait_ owner seen ms)
    method_heads_kept trait_ owner seen [] s h = walk_ends h
    method_heads_kept trait_ owner seen (syn at (AnItem (FnItem name params answer block)) ∷ ms) s h =
        walk (head_kept params answer s h) λ _ t k. walk_obeyed Rule.T02 name.0 (not (rules.is_seen owner name.1 seen)) _ λ _.
        walk_obeyed Rule.T11 at (rules.has_head t.items trait_ owner name.1 params) _ λ _. method_heads_kept trait_ owner
        ((owner, name.1) ∷ seen) ms t k
    method_heads_kept trait_ owner seen (syn at _ ∷ ms) s h = record { so = tt }

    -- ---- bodies

    function_kept : (at : Pos) (n : ℕ) (params : Syns) (answer : MaybeSyn) (block : MaybeSyn) → Keeps b (in_function env at n
        params answer (rules.block_of block at))
    function_kept at n params answer (just body) s h =
        walk (params_kept b env named (types.written_param (bodies.all_rules env)) (param_type_kept b env named) params [] s h) λ
        ps t k. walk (answer_kept b env named answer t k) λ a u l. walk (typed_kept b (bodies.inside env a ps.1) named body (Some
        a) u l) λ m v q. walk_obeyed Rule.T19 at (nat_le (length (numbers_of (bodies.body_of n ps.0 a m))) 2048) _ λ _.
        walk_ends q
    function_kept at n params answer nothing s h =
        walk (params_kept b env named (types.written_param (bodies.all_rules env)) (param_type_kept b env named) params [] s h) λ
        ps t k. walk (answer_kept b env named answer t k) λ a u l. record { so = tt }

    fn_kept : (f : Syn) → Keeps b (rules.fn_rules env f)
    fn_kept (syn at (AnItem (FnItem name params answer block))) s h =
        walk (body_kept b (in_function env at s.next_body params answer (rules.block_of block at)) s' (function_kept at
        s.next_body params answer block (record s' { bodies = []; next_node = 0; breaks = [] }) h)) λ _ t k. walk_ends k
      where
        s' : TypingState
        s' = record s { next_body = suc s.next_body }
    fn_kept (syn at _) s h = record { so = tt }

    all_fn_kept : (fs : List Syn) → Keeps b (rules.all_fn_rules env fs)
    all_fn_kept [] s h = walk_ends h
    all_fn_kept (f ∷ fs) s h = walk (fn_kept f s h) λ _ t k. all_fn_kept fs t k

  main_kept : (at : Pos) (name : Word) (params : Syns) (o : Option Sig) (s : TypingState) → Inside b s.items → Walked (λ _ t. Inside b
      t.items) (rules.main_rule at name params s.items o s)
  main_kept at name params None s h = walk_ends h
  main_kept at name params (Some sig) s h = obeyed_kept Rule.T03 at (rules.is_main_head name params sig s.items) s h

  -- ---- all items

  module _ (env : Env) (named : IsNamed b env) where
    impl_named : (name : Word) (items : ItemTable) → Inside b items → IsNamed b (rules.in_impl env (adt_named items name))
    impl_named name items h = record {
      adts = named.adts;
      traits = named.traits;
      self = λ n is. named_below b items h name n is;
    }

    item_kept : (before : rules.Before) (i : Syn) → Keeps b (rules.item_rules env before i)
    item_kept before (syn at (AnItem (StructItem ds name kind fs))) s h =
        walk (fields_kept (rules.in_impl env (adt_named s.items name.1)) (impl_named name.1 s.items h) [] (list_of fs) s h) λ _
        t k. walk_obeyed Rule.T19 at (nat_le (rules.count_of fs) 32) _ λ _. walk_ends k
    item_kept before (syn at (AnItem (EnumItem ds name vs))) s h =
        walk (variants_kept (rules.in_impl env (adt_named s.items name.1)) (impl_named name.1 s.items h) [] (list_of vs) s h) λ
        _ t k. walk_obeyed Rule.T19 at (nat_le (rules.count_of vs) 64) _ λ _. walk_ends k
    item_kept before (syn at (AnItem (TraitItem name heads))) s h =
        walk (trait_heads_kept env named [] (list_of heads) s h) λ _ t k. walk_ends k
    item_kept before (syn at (AnItem (ImplItem trait_ name methods))) s h =
        walk (method_heads_kept (rules.in_impl env (adt_named s.items name.1)) (impl_named name.1 s.items h) trait_ name.1
        before.methods (list_of methods) s h) λ seen t k. walk_obeyed Rule.T11 at (not (rules.is_repeated trait_ name.1
        before.impls) && rules.has_all (rules.asked_for s.items trait_) (rules.method_names methods)) _ λ _. walk_ends k
    item_kept before (syn at (AnItem (FnItem name params answer block))) s h =
        walk (head_kept env named params answer s h) λ _ t k. walk (main_kept at name.1 params (option_and_then (slice_get
        t.items.bodies) (body_named t.items name.1)) t k) λ _ u l. walk_ends l
    item_kept before (syn at _) s h = record { so = tt }

    bodies_kept : (i : Syn) → Keeps b (rules.bodies_of env i)
    bodies_kept (syn at (AnItem (ImplItem trait_ name methods))) s h =
        all_fn_kept (rules.in_impl env (adt_named s.items name.1)) (impl_named name.1 s.items h) (list_of methods) s h
    bodies_kept (syn at (AnItem (FnItem name params answer block))) s h = fn_kept env named (syn at (AnItem (FnItem name params answer block))) s h
    bodies_kept (syn at _) s h = walk_ends h

    all_kept : (before : rules.Before) (is : List Syn) → Keeps b (rules.all_items env before is)
    all_kept before [] s h = walk_ends h
    all_kept before (i ∷ is) s h =
        walk (item_kept before i s h) λ next t k. walk (bodies_kept i t k) λ _ u l. all_kept next is u l

-- ---- the whole

-- all bodies of a text, and so all its closures, are made
made_behind : {B : Type 0} (P : ℕ → BodySyn → B → Type 0) (from to : ℕ) (texts : List BodySyn) (bs : List B) → AreMade P from
    to texts [] bs → behind_all texts from ≡ to
made_behind P from to texts [] h = ap (λ ts. behind_all ts from) h.0 ∙ h.1
made_behind P from to [] (x ∷ bs) h = absurd h
made_behind P from to (text ∷ texts) (x ∷ bs) h = made_behind P (behind text from) to texts bs h.1

-- a type within its limits, among items
within_so : (items : ItemTable) (b : Bounds) → b.adts ≤ length items.adts → b.traits ≤ length items.traits → b.closures ≤
    length items.closures → (ty : Ty) → IsIn b (length items.closures) ty → IsTrue (is_within_limits items ty)
within_so items b adts traits closures (Ty.Tuple parts) h = h
within_so items b adts traits closures (Ty.Array element count) h = h
within_so items b adts traits closures (Ty.Adt n) h = lt-ltb n (length items.adts) (omega (arith, h, adts))
within_so items b adts traits closures (Ty.Dyn n) h = lt-ltb n (length items.traits) (omega (arith, h, traits))
within_so items b adts traits closures (Ty.Closure n) (inl h) =
    lt-ltb n (length items.closures) (omega (arith, h, closures))
within_so items b adts traits closures (Ty.Closure n) (inr h) = lt-ltb n (length items.closures) h
within_so items b adts traits closures _ h = refl

all_within : (p : Ty → Bool) (tys : List Ty) → ((n : ℕ) (ty : Ty) → slice_get tys n ≡ Some ty → IsTrue (p ty)) → IsTrue
    (list_all p tys)
all_within p [] h = refl
all_within p (ty ∷ tys) h = and_from (p ty) _ (h 0 ty refl) (all_within p tys (λ n x at. h (suc n) x at))

module _ (parts : Parts Pos) (items : ItemTable) (p : ProgramTree) (h : IsAccepted parts items p) where
  extends : Extends items p.items
  extends = (bodies_typed parts items p (are_collected parts items p h) h.checked).0

  heads : AreHeads parts items
  heads = heads_of_text parts h.end items h.collected

  abbrev all : List Syn
  all = item_syns (items_of parts)

  abbrev IsWithin : ItemTable → Type 0
  IsWithin t =
      (n : ℕ) × IsCollected (bounds (length (adt_names all)) (length (trait_names all)) n) (length (trait_names all)) t ×
      (behind_all (listed_text (collected.known_of (items_of parts)) (items_of parts) []) 0 ≡ n)

  first : IsWithin items
  first =
      by _ (collecting_kept (items_of parts) h.end (items_kept parts h.end items p h.collected h.checked h.text.listed))
      h.collected
    where
      by : (r : Result (Unit {0} × TypingState) Broken) → Walked (λ _ t. IsWithin t.items) r → collected.items_in r ≡ Ok items →
          IsWithin items
      by (Ok a) w e = subst IsWithin (ok_same a.1.items items e) w.so
      by (Err x) w e = absurd (no_items_ok x e)

  abbrev b : Bounds
  b = bounds (length (adt_names all)) (length (trait_names all)) first.0

  -- there are as many structs and enums as names of them, and as many closures as heads of them
  as_many_adts : length items.adts ≡ length (adt_names all)
  as_many_adts =
      sym (length-map items.adts (λ (adt : Adt). adt.name)) ∙ ap length (words_collected (items_of parts) items.adts
      heads.adts)

  as_many_closures : first.0 ≡ length p.items.closures
  as_many_closures =
      let w = walk_adds parts items p h.checked in
      sym first.2 ∙ (ap (λ (f : Tape). behind_all (f []) 0) (items_listed (items_of parts) items.adts (words_collected
      (items_of parts) items.adts heads.adts) (items_of parts) h.text.listed) ∙ (ap (behind_all (program_text items.adts parts
      [])) (sym (ap length heads.closures)) ∙ (made_behind (IsBodyOf w.0.items) (length items.closures) (length
      w.0.items.closures) (program_text items.adts parts []) w.1.met.new (w.1.met.made []) ∙ ap (λ (q : ProgramTree). length
      q.items.closures) (sym w.2))))

  named : IsNamed b (rules.outermost all)
  named = record { adts = omega arith; traits = omega arith; self = λ n is. absurd (none-some n is) }

  last : AreIn b p.items
  last =
      by _ (all_kept b (rules.outermost all) named (record { methods = []; impls = [] }) all (collected.starting_with items)
      (record { adts = let e = as_many_adts in omega (arith, e); types = first.1.types })) h.checked
    where
      by : (r : Result (Unit {0} × TypingState) Broken) → Walked (λ _ t. Inside b t.items) r → rules.program_in r ≡ Ok p → AreIn b
          p.items
      by (Ok a) w e = subst (λ (q : ProgramTree). AreIn b q.items) (same_ok _ p e) w.so.types
      by (Err x) w e = absurd (no_ok x p e)

  pub text_limits : IsTrue (list_all (is_within_limits p.items) p.items.types)
  text_limits =
      all_within (is_within_limits p.items) p.items.types λ n ty at. within_so p.items b (let e = as_many_adts in let
      f = ap length extends.adts in omega (arith, e, f)) (let e = first.1.traits in let f = ap length extends.traits in omega
      (arith, e, f)) (let e = as_many_closures in omega (arith, e)) ty (last n ty at)

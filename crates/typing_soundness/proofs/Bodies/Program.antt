-- The walk over all items, and what it gives.
use Rattle.std.proofs.Common.{◌≡◌, ℕ, suc, ◌+◌, Bool, true, false, ◌&&◌, not, nat_le, List, [], ◌∷◌, map, length, slice_get, Option, Some, None, Result, Ok, Err, IsTrue, Contains, ◌⊎◌, inl, inr, refl, ap, subst, ◌∙◌, arith}
use Rattle.std.specs.Prelude.{option_and_then, codes}
use Rattle.std.specs.Str.{bytes_eq}
use Rattle.mir_base.specs.declared.place_in_text.Pos.{Pos}
use Rattle.mir_base.specs.declared.rule.Rule.{Rule}
use Rattle.mir_ty.specs.declared.adt.Adt.{Adt}
use Rattle.mir_ty.specs.declared.def.Sig.{Sig}
use Rattle.mir_ty.specs.ItemTable.{ItemTable}
use Rattle.src_tree.specs.Layout.{Parts}
use Rattle.typed_tree.specs.Tree.{BodyTree, ProgramTree}
use Rattle.well_typed.specs.Claim.{Holds, each}
use Rattle.typing_rules.specs.Bodies as bodies
use Rattle.typing_rules.specs.Check.{Check, TypingState, Broken, obeys, in_new_body, within_body}
use Rattle.typing_rules.specs.Collected.{starting_with}
use Rattle.typing_rules.specs.Items.{items_of, item_syns}
use Rattle.typing_rules.specs.Program as rules
use Rattle.typing_rules.specs.Promises.{AreReady, AreClosures, IsBodyIn, IsWhole, Extends, Grows, Gives, KnowsItems}
use Rattle.typing_rules.specs.Scope.{Env, NamedEntry, adt_named, body_named}
use Rattle.typing_rules.specs.Written as types
use Rattle.well_typed.specs.Names.{is_among}
use Rattle.well_typed.specs.Program.{are_bodies, is_body}
use Rattle.typing_soundness.specs.Program.{AreCollected, HaveHeads}
use Rattle.src_ast.specs.Syntax.{Word, Named, FieldsKind, Syn, syn, AnItem, AParam, AField, AVariant, StructItem, EnumItem, TraitItem, ImplItem, FnItem, SelfParam, Syns, no_syn, a_syn, list_of, MaybeSyn, nothing, just}
use Rattle.typing_rules.proofs.Sound.Gives.{bind, weaker, obeyed, given, then_map, grows_trans, items_later}
use Rattle.typing_rules.proofs.Sound.Later.{alone_later, extends_refl, is_some_by}
use Rattle.typing_rules.proofs.Sound.Written.{written_sound}
use Rattle.typing_soundness.specs.Shapes.{self_first, no_self, function_shaped, item_shaped}
use Rattle.typing_soundness.proofs.Bodies.Functions.{in_function, function_sound}
use Rattle.typing_soundness.proofs.Bodies.Closures.{grows_body}
use Rattle.typing_soundness.proofs.Bodies.Inner.{inner_state, new_body_sound, answer_sound}
use Rattle.typing_soundness.proofs.Bodies.Params.{params_bound}
use Rattle.typing_soundness.proofs.Bodies.Types.{written_param_sound}
use Rattle.typing_soundness.specs.Walks.{counted}
use Rattle.typing_soundness.proofs.Bodies.Order.{same_ok, no_ok}
use Rattle.typing_soundness.proofs.Sound.Names.{found_there}

-- a check that only adds what is well typed
abbrev pub Keeps : {A : Type 0} → TypingState → Result (A × TypingState) Broken → Type 0
Keeps s r = Gives s (λ w a. Unit {0}) r

keeps : {A : Type 0} {s : TypingState} {Q : TypingState → A → Type 0} {r : Result (A × TypingState) Broken} → Gives s Q r → Keeps s r
keeps h = weaker (λ w a. Unit {0}) h λ a w all g q. tt

pub done : {A : Type 0} {s : TypingState} (a : A) → Gives s (λ w b. Unit {0}) (Ok (a, s))
done a = given a λ ready w g. tt

-- a walk of its own whose bodies stay
new_keeps : {A : Type 0} (check : Check A) (s : TypingState) → Keeps (record s { next_node = 0; breaks = [] }) (check (record s
    { next_node = 0; breaks = [] })) → Keeps s (in_new_body check s)
new_keeps {A} check s h = by (check (record s { next_node = 0; breaks = [] })) h
  where
    by : (r : Result (A × TypingState) Broken) → Keeps (record s { next_node = 0; breaks = [] }) r → Keeps s (within_body s r)
    by (Ok a) h = record {
      so = λ ready. let g = h.so ready in (
        record {
          items = g.0.items;
          ready = g.0.ready;
          breaks = λ b has. has;
          numbers = omega arith;
          below = λ k b has. let is = k b has in (is.0, alone_later g.0.items b.1 is.1);
          made = g.0.made;
        },
        λ w l. tt,
      );
    }
    by (Err e) h = record { so = λ ready. tt }

-- ---- heads of items

no_self_first : (ss : Syns) → IsTrue (no_self ss) → IsTrue (self_first ss)
no_self_first no_syn h = h
no_self_first (a_syn (syn at (AParam (SelfParam receiver))) rest) h = absurd (let no_ : IsTrue false = h in cc)
no_self_first (a_syn (syn at form) rest) h = h

behind_first : (ss : Syns) → IsTrue (self_first ss) → IsTrue (self_first (rules.behind_self ss))
behind_first no_syn h = h
behind_first (a_syn (syn at (AParam (SelfParam receiver))) rest) h = no_self_first rest h
behind_first (a_syn (syn at form) rest) h = h

module _ (env : Env) where
  field_keeps : (earlier : List Word) (f : Syn) (s : TypingState) → Keeps s (rules.field env earlier f s)
  field_keeps earlier (syn at (AField name ty)) s =
      bind (written_sound (bodies.all_rules env) refl ty s) λ t u g d. obeyed Rule.T02 at (not (is_among name earlier))
      _ λ h. done (name ∷ earlier)
  field_keeps earlier (syn at form) s =
      bind (written_sound (bodies.all_rules env) refl (syn at form) s) λ t u g d. done earlier

  fields_keep : (earlier : List Word) (fs : List Syn) (s : TypingState) → Keeps s (rules.fields env earlier fs s)
  fields_keep earlier [] s = done tt
  fields_keep earlier (f ∷ fs) s = bind (field_keeps earlier f s) λ names t g d. fields_keep names fs t

  variants_keep : (earlier : List Word) (vs : List Syn) (s : TypingState) → Keeps s (rules.variants env earlier vs s)
  variants_keep earlier [] s = done tt
  variants_keep earlier (syn at (AVariant name kind fs) ∷ vs) s =
      bind (fields_keep [] (list_of fs) s) λ _ t g d. obeyed Rule.T02 at (not (is_among name earlier)) _ λ _. obeyed
      Rule.T19 at (nat_le (rules.count_of fs) 32) _ λ _. variants_keep (name ∷ earlier) vs t
  variants_keep earlier (syn at _ ∷ vs) s = record { so = λ ready. tt }

  pub head_keeps : (params : Syns) (answer : MaybeSyn) (s : TypingState) → IsTrue (self_first params) → Keeps s (rules.head_rules
      env params answer s)
  head_keeps params answer s first =
      bind (new_keeps (bodies.params_of env (types.written_param (bodies.all_rules env)) params []) s (keeps
      (params_bound env (types.written_param (bodies.all_rules env)) (λ p t. written_param_sound (bodies.all_rules env)
      refl p t) params first (record s { next_node = 0; breaks = [] })))) λ _ t g d. bind (answer_sound env answer t) λ
      _ u h e. done tt

  trait_heads_keep : (earlier : List Word) (hs : List Syn) (s : TypingState) → Holds (each function_shaped hs) → Keeps s
      (rules.trait_heads env earlier hs s)
  trait_heads_keep earlier [] s h = done tt
  trait_heads_keep earlier (syn at (AnItem (FnItem name params answer block)) ∷ hs) s h =
      bind (head_keeps (rules.behind_self params) answer s (behind_first params h.0.0)) λ _ t g d. obeyed Rule.T02
      name.0 (not (is_among name.1 earlier)) _ λ _. obeyed Rule.T11 at (rules.takes_reference params && not (bytes_eq
      name.1 (codes "drop"))) _ λ _. trait_heads_keep (name.1 ∷ earlier) hs t h.1
  trait_heads_keep earlier (syn at _ ∷ hs) s h = record { so = λ ready. tt }

  method_heads_keep : (trait_ : Option Named) (owner : Word) (seen : rules.Seen) (ms : List Syn) (s : TypingState) → Holds
      (each function_shaped ms) → Keeps s (rules.method_heads env trait_ owner seen ms s)
  method_heads_keep trait_ owner seen [] s h = done seen
  method_heads_keep trait_ owner seen (syn at (AnItem (FnItem name params answer block)) ∷ ms) s h =
      bind (head_keeps params answer s h.0.0) λ _ t g d. obeyed Rule.T02 name.0 (not (rules.is_seen owner name.1 seen))
      _ λ _. obeyed Rule.T11 at (rules.has_head t.items trait_ owner name.1 params) _ λ _. method_heads_keep trait_
      owner ((owner, name.1) ∷ seen) ms t h.1
  method_heads_keep trait_ owner seen (syn at _ ∷ ms) s h = record { so = λ ready. tt }

main_keeps : (at : Pos) (name : Word) (params : Syns) (o : Option Sig) (s : TypingState) → Keeps s (rules.main_rule at name
    params s.items o s)
main_keeps at name params None s = done tt
main_keeps at name params (Some sig) s =
    by (rules.is_main_head name params sig s.items)
  where
    by : (b : Bool) → Keeps s (obeys Rule.T03 at b s)
    by true = done tt
    by false = record { so = λ ready. tt }

pub item_keeps : (env : Env) (before : rules.Before) (i : Syn) (s : TypingState) → Holds (item_shaped i) → Keeps s
    (rules.item_rules env before i s)
item_keeps env before (syn at (AnItem (StructItem ds name kind fs))) s h =
    bind (fields_keep (rules.in_impl env (adt_named s.items name.1)) [] (list_of fs) s) λ _ t g d. obeyed Rule.T19 at
    (nat_le (rules.count_of fs) 32) _ λ _. done before
item_keeps env before (syn at (AnItem (EnumItem ds name vs))) s h =
    bind (variants_keep (rules.in_impl env (adt_named s.items name.1)) [] (list_of vs) s) λ _ t g d. obeyed Rule.T19 at
    (nat_le (rules.count_of vs) 64) _ λ _. done before
item_keeps env before (syn at (AnItem (TraitItem name heads))) s h =
    bind (trait_heads_keep env [] (list_of heads) s h) λ _ t g d. done before
item_keeps env before (syn at (AnItem (ImplItem trait_ name methods))) s h =
    bind (method_heads_keep (rules.in_impl env (adt_named s.items name.1)) trait_ name.1 before.methods (list_of
    methods) s h) λ seen t g d. obeyed Rule.T11 at (not (rules.is_repeated trait_ name.1 before.impls) && rules.has_all
    (rules.asked_for s.items trait_) (rules.method_names methods)) _ λ _. done _
item_keeps env before (syn at (AnItem (FnItem name params answer block))) s h =
    bind (head_keeps env params answer s h.0) λ _ t g d. bind (main_keeps at name.1 params (option_and_then (slice_get
    t.items.bodies) (body_named t.items name.1)) t) λ _ u i e. done before
item_keeps env before (syn at _) s h = record { so = λ ready. tt }

-- ---- bodies

-- the items that are known, inside an impl
knows_impl : {kinds : List (List FieldsKind)} {self_adt : Option ℕ} (items : ItemTable) → KnowsItems kinds self_adt items →
    (name : Word) → KnowsItems kinds (adt_named items name) items
knows_impl items k name = record {
  structs = k.structs;
  units = k.units;
  named = k.named;
  self = λ n is. let f = found_there (λ (adt : Adt). bytes_eq adt.name name) items.adts n is in is_some_by (slice_get
      items.adts n) f.0 f.1;
  adts = k.adts;
  functions = k.functions;
}

-- a function without a block is broken
no_block_keeps : (env : Env) (at : Pos) (params : Syns) (answer : MaybeSyn) (s : TypingState) → IsTrue (self_first params) →
    Keeps s (bodies.fn_body env at params answer (rules.block_of nothing at) s)
no_block_keeps env at params answer s first =
    after_body (new_body_sound (in_function env at s.next_body params answer (rules.block_of nothing at)) s' (bind
    (params_bound env (types.written_param (bodies.all_rules env)) (λ p t. written_param_sound (bodies.all_rules env)
    refl p t) params first (inner_state s')) λ ps t g d. bind (answer_sound env answer t) λ a u h e. record {
      so = λ ready. tt;
    }))
  where
    s' : TypingState
    s' = record s { next_body = suc s.next_body }

    after_body : {r : Result (BodyTree × TypingState) Broken} → Gives s' (λ w b. Unit {0}) r → Gives s (λ w b. Unit {0}) r
    after_body {r} h = record { so = λ ready. then_map r (h.so ready) λ b t g. (grows_trans (grows_body s) g.0, g.1) }

module _ (env : Env) (bare : (x : NamedEntry) → Contains env.variables x → ⊥) where
  fn_keeps : (f : Syn) (s : TypingState) → Holds (function_shaped f) → KnowsItems env.kinds env.self_adt s.items → Keeps s
      (rules.fn_rules env f s)
  fn_keeps (syn at (AnItem (FnItem name params answer (just b)))) s h k =
      bind (function_sound env at params answer b s k bare h.1.0 h.0 h.1.1) λ _ t g d. done tt
  fn_keeps (syn at (AnItem (FnItem name params answer nothing))) s h k =
      bind (no_block_keeps env at params answer s h.0) λ _ t g d. done tt
  fn_keeps (syn at _) s h k = record { so = λ ready. tt }

  all_fn_keep : (fs : List Syn) (s : TypingState) → Holds (each function_shaped fs) → KnowsItems env.kinds env.self_adt
      s.items → Keeps s (rules.all_fn_rules env fs s)
  all_fn_keep [] s h k = done tt
  all_fn_keep (f ∷ fs) s h k =
      bind (fn_keeps f s h.0 k) λ _ t g d. all_fn_keep fs t h.1 (items_later g.items k)

pub bodies_keep : (env : Env) → ((x : NamedEntry) → Contains env.variables x → ⊥) → (i : Syn) (s : TypingState) → Holds (item_shaped i)
    → KnowsItems env.kinds env.self_adt s.items → Keeps s (rules.bodies_of env i s)
bodies_keep env bare (syn at (AnItem (ImplItem trait_ name methods))) s h k =
    all_fn_keep (rules.in_impl env (adt_named s.items name.1)) bare (list_of methods) s h (knows_impl s.items k name.1)
bodies_keep env bare (syn at (AnItem (FnItem name params answer block))) s h k =
    fn_keeps env bare (syn at (AnItem (FnItem name params answer block))) s h k
bodies_keep env bare (syn at _) s h k = done tt

pub items_keep : (env : Env) → ((x : NamedEntry) → Contains env.variables x → ⊥) → (before : rules.Before) (is : List Syn) (s
    : TypingState) → Holds (each item_shaped is) → KnowsItems env.kinds env.self_adt s.items → Gives s (λ w u. Unit {0})
    (rules.all_items env before is s)
items_keep env bare before [] s h k = done tt
items_keep env bare before (i ∷ is) s h k =
    bind (item_keeps env before i s h.0) λ next t g d. bind (bodies_keep env bare i t h.0 (items_later g.items k)) λ _ u
    l e. items_keep env bare next is u h.1 (items_later (grows_trans g l).items k)

-- ---- the whole

pub bodies_typed : (parts : Parts Pos) (items : ItemTable) (p : ProgramTree) → AreCollected parts items →
    rules.checked parts items ≡ Ok p → Extends items p.items × AreReady p.items × (AreClosures p.items → (body : BodyTree) → Contains
    p.bodies body → IsBodyIn p.items body)
bodies_typed parts items p c e =
    by (rules.all_items (rules.outermost (item_syns (items_of parts))) (record { methods = []; impls = [] }) (item_syns
    (items_of parts)) (starting_with items)) (items_keep (rules.outermost (item_syns (items_of parts))) (λ x none.
    absurd (omega (arith, none.1))) (record { methods = []; impls = [] }) (item_syns (items_of parts)) (starting_with
    items) c.shaped c.known) e
  where
    typed_in : (t : TypingState) → Grows (starting_with items) t → AreClosures t.items → (body : BodyTree) → Contains []
        body ⊎ IsWhole t.items body → IsBodyIn t.items body
    typed_in t g heads body (inl none) = absurd (omega (arith, none.1))
    typed_in t g heads body (inr whole) = whole t.items (extends_refl t.items) (g.ready c.ready) heads

    given_by : (t : TypingState) → Grows (starting_with items) t → Extends items t.items × AreReady t.items × (AreClosures
        t.items → (body : BodyTree) → Contains t.bodies body → IsBodyIn t.items body)
    given_by t g = (g.items, g.ready c.ready, λ heads body has. typed_in t g heads body (g.made body has))

    by : (r : Result (Unit {0} × TypingState) Broken) → Gives (starting_with items) (λ w u. Unit {0}) r → rules.program_in r ≡
        Ok p → Extends items p.items × AreReady p.items × (AreClosures p.items → (body : BodyTree) → Contains p.bodies
        body → IsBodyIn p.items body)
    by (Ok a) g e =
        subst (λ (q : ProgramTree). Extends items q.items × AreReady q.items × (AreClosures q.items → (body : BodyTree)
        → Contains q.bodies body → IsBodyIn q.items body)) (same_ok _ p e) (given_by a.1 (g.so c.ready).0)
    by (Err x) g e = absurd (no_ok x p e)

-- ---- programs

abbrev pub first_of : List ℕ → ℕ
first_of [] = 0
first_of (n ∷ ns) = n

abbrev pub others_of : List ℕ → List ℕ
others_of [] = []
others_of (n ∷ ns) = ns

pub heads_typed : (items : ItemTable) (n : ℕ) (heads : List Sig) (bs : List BodyTree) → ((k : ℕ) (head : Sig) → slice_get
    heads k ≡ Some head → slice_get items.bodies (n + k) ≡ Some head) → ((body : BodyTree) → Contains bs body → IsBodyIn
    items body) → map (λ (b : BodyTree). b.number) bs ≡ counted n (length bs) → HaveHeads heads bs → Holds (are_bodies
    items n heads bs)
heads_typed items n [] [] at good order h = refl
heads_typed items n (head ∷ heads) (body ∷ bs) at good order h =
    let number : body.number ≡ n = ap first_of order in (
      subst (λ k. Holds (is_body items k head body)) number (good body (0, omega arith, refl) head (ap (slice_get
          items.bodies) (number ∙ omega arith) ∙ at 0 head refl) h.0.0 h.0.1),
      heads_typed items (suc n) heads bs (λ k other is. ap (slice_get items.bodies) (omega arith) ∙ at (suc k) other is)
          (λ other has. good other (suc has.0, omega (arith, has.1), has.2)) (ap others_of order) h.1,
    )
heads_typed items n [] (body ∷ bs) at good order h = absurd h
heads_typed items n (head ∷ heads) [] at good order h = absurd h

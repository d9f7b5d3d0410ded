-- What the rules on impls ask of heads is so among all later items.
use Rattle.std.proofs.Common.{◌≡◌, ℕ, suc, Bool, true, false, ◌&&◌, not, if◌then◌else◌, List, [], ◌∷◌, map, slice_get, Option, Some, None, Result, Ok, Err, IsTrue, Contains, refl, ap, sym, subst, ◌∙◌, arith}
use Rattle.std.specs.Prelude.{codes, is_some, option_and_then}
use Rattle.std.specs.List.{find, position as position_of}
use Rattle.std.specs.Option.{option_map_or}
use Rattle.std.specs.Str.{bytes_eq}
use Rattle.std.proofs.lemmas.Bool.{false≢true, and_parts}
use Rattle.mir_base.specs.declared.place_in_text.Pos.{Pos}
use Rattle.mir_base.specs.declared.rule.Rule.{Rule}
use Rattle.mir_ty.specs.declared.def.Sig.{Sig}
use Rattle.mir_ty.specs.declared.def.TraitDef.{TraitDef}
use Rattle.mir_ty.specs.declared.ty.TyId.{TyId}
use Rattle.mir_ty.specs.ItemTable.{ItemTable, type_at}
use Rattle.src_tree.specs.Layout.{Parts}
use Rattle.typed_tree.specs.Tree.{ProgramTree}
use Rattle.well_typed.specs.Claim.{Holds, each}
use Rattle.well_typed.specs.Types.{is_unit, is_unit_ty, is_same, are_same, reference_in, reference_of}
use Rattle.typing_rules.specs.Check.{Check, TypingState, Broken}
use Rattle.typing_rules.specs.Collected.{starting_with}
use Rattle.typing_rules.specs.Items.{items_of, item_syns}
use Rattle.typing_rules.specs.Program as rules
use Rattle.typing_rules.specs.Promises.{AreReady, IsKnown, Extends, Grows, Gives, KnowsItems}
use Rattle.typing_rules.specs.Scope.{Env, NamedEntry, adt_named, trait_named, body_named, method_word}
use Rattle.src_ast.specs.Syntax.{Word, Named, Syn, syn, AnItem, ImplItem, FnItem, Syns, list_of, MaybeSyn}
use Rattle.typing_rules.proofs.Sound.Gives.{bind, weaker, with_ready, obeyed, given, grows_refl, grows_trans, items_later}
use Rattle.typing_soundness.specs.Program.{AreCollected}
use Rattle.typing_soundness.specs.Shapes.{function_shaped, item_shaped}
use Rattle.typing_soundness.proofs.Bodies.Order.{same_ok, no_ok}
use Rattle.typing_soundness.proofs.Bodies.Program.{done, head_keeps, item_keeps, bodies_keep}
use Rattle.typing_soundness.proofs.Items.Ready.{All}

-- ---- what a look-up finds

-- what is found through another is found there
through : {A B : Type 0} (f : A → Option B) (o : Option A) (b : B) → option_and_then f o ≡ Some b → (a : A) × (o ≡ Some a) × (f
    a ≡ Some b)
through f (Some a) b is = (a, refl, is)
through f None b is = absurd (false≢true (ap is_some is))

pub member_found : {A : Type 0} (p : A → Bool) (xs : List A) (x : A) → find p xs ≡ Some x → (k : ℕ) × (slice_get xs k ≡ Some
    x)
member_found p [] x is = absurd (false≢true (ap is_some is))
member_found p (y ∷ ys) x is = by (p y) is (member_found p ys x)
  where
    by : (b : Bool) → (if b then Some y else find p ys) ≡ Some x → (find p ys ≡ Some x → (k : ℕ) × (slice_get ys k ≡ Some x)) →
        (k : ℕ) × (slice_get (y ∷ ys) k ≡ Some x)
    by true is on = (0, is)
    by false is on = let f = on is in (suc f.0, f.1)

-- ---- later items

module _ (old new : ItemTable) (e : Extends old new) (ready : AreReady old) where
  -- the types of a head are in the table
  record AreKnown (sig : Sig) : Type 0 where
    params : (ty : TyId) → Contains sig.params ty → IsKnown old ty
    result : IsKnown old sig.result

  abbrev AreKnownIn : Option Sig → Type 0
  AreKnownIn o = (sig : Sig) → o ≡ Some sig → AreKnown sig

  same_at : (ty : TyId) → IsKnown old ty → type_at new ty ≡ type_at old ty
  same_at ty known = e.types ty.0 known.0 known.1 ∙ sym known.1

  same_reference : (ty : TyId) → IsKnown old ty → reference_of new ty ≡ reference_of old ty
  same_reference ty known = ap (option_and_then reference_in) (same_at ty known)

  first_known : (ty : TyId) (tys : List TyId) → ((x : TyId) → Contains (ty ∷ tys) x → IsKnown old x) → IsKnown old ty
  first_known ty tys h = h ty (0, omega arith, refl)

  same_drop : (o : Option Sig) → AreKnownIn o → rules.is_drop_sig new o ≡ rules.is_drop_sig old o
  same_drop None known = refl
  same_drop (Some sig) known = λ i. one sig.params (known sig refl).params i && unit i
    where
      one : (tys : List TyId) → ((ty : TyId) → Contains tys ty → IsKnown old ty) → rules.is_one_unique new tys ≡
          rules.is_one_unique old tys
      one [] known = refl
      one (ty ∷ []) known =
          ap (λ o. option_map_or (λ (r : Bool × TyId). r.0) o false) (same_reference ty (first_known ty [] known))
      one (ty ∷ other ∷ tys) known = refl

      unit : is_unit new sig.result ≡ is_unit old sig.result
      unit = ap (λ o. option_map_or is_unit_ty o false) (same_at sig.result (known sig refl).result)

  same_params : (as_ bs : List TyId) → ((ty : TyId) → Contains as_ ty → IsKnown old ty) → ((ty : TyId) → Contains bs ty →
      IsKnown old ty) → rules.are_same_params new as_ bs ≡ rules.are_same_params old as_ bs
  same_params [] bs known others = refl
  same_params (a ∷ as_) [] known others = refl
  same_params (a ∷ as_) (b ∷ bs) known others =
      let x = same_reference a (first_known a as_ known) in
      let y = same_reference b (first_known b bs others) in
      λ i. is_some (y i) && (rules.is_same_truth (option_map_or (λ (r : Bool × TyId). r.0) (x i) false) (option_map_or (λ (r :
      Bool × TyId). r.0) (y i) false) && are_same as_ bs)

  same_heads : (m b : Option Sig) → AreKnownIn m → AreKnownIn b → rules.is_same_head new m b ≡ rules.is_same_head old m b
  same_heads None b known others = refl
  same_heads (Some method) None known others = refl
  same_heads (Some method) (Some sig) known others =
      ap (λ t. t && is_same method.result sig.result) (same_params method.params sig.params (known method refl).params (others
      sig refl).params)

  same_body : (owner name : Word) → rules.body_head new owner name ≡ rules.body_head old owner name
  same_body owner name =
      ap (λ bs. option_and_then (slice_get bs) (position_of (λ (sig : Sig). bytes_eq sig.name (method_word owner name)) bs))
      e.bodies

  same_method : (trait_ name : Word) → rules.trait_method new trait_ name ≡ rules.trait_method old trait_ name
  same_method trait_ name =
      ap (λ ts. option_and_then (λ (def : TraitDef). find (λ (m : Sig). bytes_eq m.name name) def.methods) (option_and_then
      (slice_get ts) (position_of (λ (def : TraitDef). bytes_eq def.name trait_) ts))) e.traits

  body_known : (owner name : Word) → AreKnownIn (rules.body_head old owner name)
  body_known owner name sig is =
      let f = through (slice_get old.bodies) (body_named old (method_word owner name)) sig is in
      let a = ready.results f.0 sig f.2 in
      record { params = λ ty has. ready.params f.0 sig ty f.2 has; result = (a.0, a.1) }

  method_known : (trait_ name : Word) → AreKnownIn (rules.trait_method old trait_ name)
  method_known trait_ name sig is =
      let d = through (λ (def : TraitDef). find (λ (m : Sig). bytes_eq m.name name) def.methods) (option_and_then (slice_get
      old.traits) (trait_named old trait_)) sig is in
      let t = through (slice_get old.traits) (trait_named old trait_) d.0 d.1 in
      let f = member_found (λ (m : Sig). bytes_eq m.name name) d.0.methods sig d.2 in
      let a = ready.methods t.0 f.0 d.0 sig t.2 f.1 in
      record { params = λ ty has. ready.method_params t.0 f.0 d.0 sig ty t.2 f.1 has; result = (a.0, a.1) }

  head_later : (trait_ : Option Named) (owner name : Word) (params : Syns) → rules.has_head new trait_ owner name params ≡
      rules.has_head old trait_ owner name params
  head_later None owner name params = refl
  head_later (Some trait_) owner name params =
      let d : rules.is_drop_sig new (rules.body_head new owner name) ≡ rules.is_drop_sig old (rules.body_head old owner name) =
      ap (rules.is_drop_sig new) (same_body owner name) ∙ same_drop (rules.body_head old owner name) (body_known owner name) in
      let h : rules.is_same_head new (rules.trait_method new trait_.1 name) (rules.body_head new owner name) ≡
      rules.is_same_head old (rules.trait_method old trait_.1 name) (rules.body_head old owner name) = (λ i. rules.is_same_head
      new (same_method trait_.1 name i) (same_body owner name i)) ∙ same_heads (rules.trait_method old trait_.1 name)
      (rules.body_head old owner name) (method_known trait_.1 name) (body_known owner name) in
      λ i. if rules.is_drop trait_.1 then rules.is_called_drop name && (rules.takes_unique params && d i) else not
      (rules.is_called_drop name) && (rules.takes_reference params && h i)

-- ---- what is asked of each method, and of each impl

abbrev pub HeadsAsked : ItemTable → Option Named → Word → List Syn → Type 0
HeadsAsked items trait_ owner [] = Unit {0}
HeadsAsked items trait_ owner (syn at (AnItem (FnItem name params answer block)) ∷ ms) =
    IsTrue (rules.has_head items trait_ owner name.1 params) × HeadsAsked items trait_ owner ms
HeadsAsked items trait_ owner (syn at _ ∷ ms) = ⊥

abbrev pub IsAsked : ItemTable → Syn → Type 0
IsAsked items (syn at (AnItem (ImplItem trait_ name methods))) =
    HeadsAsked items trait_ name.1 (list_of methods) × IsTrue (rules.has_all (rules.asked_for items trait_) (rules.method_names
    methods))
IsAsked items _ = Unit {0}

one_more : {A : Type 0} (t : TypingState) (trait_ : Option Named) (owner : Word) (at : Pos) (name : Named) (params : Syns) (answer
    block : MaybeSyn) (ms : List Syn) → IsTrue (rules.has_head t.items trait_ owner name.1 params) → {r : Result (A × TypingState)
    Broken} → Gives t (λ w _. HeadsAsked w.items trait_ owner ms) r → Gives t (λ w _. HeadsAsked w.items trait_ owner (syn at
    (AnItem (FnItem name params answer block)) ∷ ms)) r
one_more t trait_ owner at name params answer block ms asked h =
    with_ready λ ready. weaker (λ w _. HeadsAsked w.items trait_ owner (syn at (AnItem (FnItem name params answer block)) ∷ ms)) h λ a w _
    g q. (head_later t.items w.items g.items ready trait_ owner name.1 params ∙ asked, q)

methods_asked : (env : Env) (trait_ : Option Named) (owner : Word) (seen : rules.Seen) (ms : List Syn) (s : TypingState) → Holds (each
    function_shaped ms) → Gives s (λ w _. HeadsAsked w.items trait_ owner ms) (rules.method_heads env trait_ owner seen ms s)
methods_asked env trait_ owner seen [] s h = given seen λ ready w g. tt
methods_asked env trait_ owner seen (syn at (AnItem (FnItem name params answer block)) ∷ ms) s h =
    bind (head_keeps env params answer s h.0.0) λ _ t g d. obeyed Rule.T02 name.0 (not (rules.is_seen owner name.1 seen)) _ λ
    _. obeyed Rule.T11 at (rules.has_head t.items trait_ owner name.1 params) _ λ asked. one_more t trait_ owner at name params
    answer block ms asked (methods_asked env trait_ owner ((owner, name.1) ∷ seen) ms t h.1)
methods_asked env trait_ owner seen (syn at _ ∷ ms) s h = record { so = λ ready. tt }

asked_later : (old new : ItemTable) → Extends old new → (trait_ : Option Named) → rules.asked_for new trait_ ≡ rules.asked_for
    old trait_
asked_later old new e None = refl
asked_later old new e (Some trait_) =
    ap (λ ts. if rules.is_drop trait_.1 then codes "drop" ∷ [] else option_map_or (λ (def : TraitDef). map (λ (m : Sig). m.name)
    def.methods) (option_and_then (slice_get ts) (position_of (λ (def : TraitDef). bytes_eq def.name trait_.1) ts)) [])
    e.traits

no_more : (env : Env) (before : rules.Before) (i : Syn) (s : TypingState) → Holds (item_shaped i) → ((items : ItemTable) → IsAsked
    items i) → Gives s (λ w _. IsAsked w.items i) (rules.item_rules env before i s)
no_more env before i s h all = weaker (λ w _. IsAsked w.items i) (item_keeps env before i s h) λ a w _ g q. all w.items

item_asked : (env : Env) (before : rules.Before) (i : Syn) (s : TypingState) → Holds (item_shaped i) → Gives s (λ w _. IsAsked w.items
    i) (rules.item_rules env before i s)
item_asked env before (syn at (AnItem (ImplItem trait_ name methods))) s h =
    bind (methods_asked (rules.in_impl env (adt_named s.items name.1)) trait_ name.1 before.methods (list_of methods) s h) λ
    seen t g d. obeyed Rule.T11 at (not (rules.is_repeated trait_ name.1 before.impls) && rules.has_all (rules.asked_for s.items
    trait_) (rules.method_names methods)) _ λ ok. given _ λ ready w l. (
      d w l,
      ap (λ names. rules.has_all names (rules.method_names methods)) (asked_later s.items w.items (grows_trans g l).items
          trait_) ∙ (and_parts (not (rules.is_repeated trait_ name.1 before.impls)) _ ok).1,
    )
item_asked env before (syn at form) s h = no_more env before (syn at form) s h λ items. tt

all_asked : (env : Env) → ((x : NamedEntry) → Contains env.variables x → ⊥) → (before : rules.Before) (is : List Syn) (s : TypingState) →
    Holds (each item_shaped is) → KnowsItems env.kinds env.self_adt s.items → Gives s (λ w _. All (IsAsked w.items) is)
    (rules.all_items env before is s)
all_asked env bare before [] s h k = given tt λ ready w g. tt
all_asked env bare before (i ∷ is) s h k =
    bind (item_asked env before i s h.0) λ next t g d. bind (bodies_keep env bare i t h.0 (items_later g.items k)) λ _ u l e.
    weaker (λ w _. All (IsAsked w.items) (i ∷ is)) (all_asked env bare next is u h.1 (items_later (grows_trans g l).items k)) λ
    a w _ m q. (d w (grows_trans l m), q)

-- ---- the whole

pub text_asked : (parts : Parts Pos) (items : ItemTable) (p : ProgramTree) → AreCollected parts items → rules.checked parts items
    ≡ Ok p → All (IsAsked p.items) (item_syns (items_of parts))
text_asked parts items p c e =
    by (rules.all_items (rules.outermost texts) (record { methods = []; impls = [] }) texts (starting_with items)) (all_asked
    (rules.outermost texts) (λ x none. absurd (omega (arith, none.1))) (record { methods = []; impls = [] }) texts
    (starting_with items) c.shaped c.known) e
  where
    texts : List Syn
    texts = item_syns (items_of parts)

    by : (r : Result (Unit {0} × TypingState) Broken) → Gives (starting_with items) (λ w _. All (IsAsked w.items) (item_syns (items_of
        parts))) r → rules.program_in r ≡ Ok p → All (IsAsked p.items) (item_syns (items_of parts))
    by (Ok a) g e =
        subst (λ (q : ProgramTree). All (IsAsked q.items) (item_syns (items_of parts))) (same_ok _ p e) ((g.so c.ready).1 a.1
        (grows_refl a.1))
    by (Err x) g e = absurd (no_ok x p e)

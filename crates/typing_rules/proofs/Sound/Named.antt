-- Calls of functions, of constructors, and of `ask`; structs and variants without parts.
use Rattle.std.proofs.Common.{Contains, ◌≡◌, ℕ, suc, ◌≤◌, ◌+◌, Bool, true, false, ◌&&◌, ◌||◌, ◌==◌, not, List, [], ◌∷◌, length, slice_get, Option, Some, None, IsTrue, refl, ap, sym, subst, ◌∙◌, arith, ◌⊎◌, inl, inr}
use Rattle.std.specs.Prelude.{option_and_then, nat_eq}
use Rattle.std.specs.List.{list_any}
use Rattle.std.specs.Option.{option_map_or}
use Rattle.std.proofs.lemmas.Bool.{eqb-true}
use Rattle.std.proofs.lemmas.Option.{none-some}
use Rattle.mir_base.specs.declared.int_kind.IntKind.{IntKind}
use Rattle.mir_base.specs.declared.place_in_text.Pos.{Pos}
use Rattle.mir_base.specs.declared.rule.Rule.{Rule}
use Rattle.mir_ty.specs.declared.adt.Adt.{Adt}
use Rattle.mir_ty.specs.declared.adt.Variant.{Variant}
use Rattle.mir_ty.specs.declared.def.Sig.{Sig}
use Rattle.mir_ty.specs.declared.ty.Ty.{Ty}
use Rattle.mir_ty.specs.declared.ty.TyId.{TyId}
use Rattle.mir_ty.specs.ItemTable.{ItemTable, type_at}
use Rattle.mir_ty.specs.Parts.{fields_of, variants_of}
use Rattle.mir_ty.proofs.ListLemmas.{slice_get-Contains}
use Rattle.typed_tree.specs.Tree as tree
use Rattle.typed_tree.specs.Tree.{Node, node, Form, Nodes, no_node, a_node, Fields, no_field, a_field}
use Rattle.well_typed.specs.Claim.{Holds, some, fact, both}
use Rattle.well_typed.specs.Names.{are_distinct_numbers, is_number_among}
use Rattle.mir_ty.specs.DropBodies.{is_drop_body}
use Rattle.well_typed.specs.Nodes.{typed, row, arguments, made_fields, is_closure_body}
use Rattle.well_typed.specs.Patterns.{count_of, field_numbers}
use Rattle.well_typed.specs.Places.{Context, Wanted}
use Rattle.well_typed.specs.Types.{is_same, is_kind, is_reference, kind_in, adt_in, variant_at}
use Rattle.well_typed.proofs.ClaimLemmas.{and_true}
use Rattle.typing_rules.specs.Check.{Check, TypingState, interned, ◌>>=◌}
use Rattle.typing_rules.specs.Places.{int, a_node_of}
use Rattle.typing_rules.specs.Promises.{Extends, IsAlone, IsKnown, AreReady, AreClosures, Gives, at_spot, Knows, IsTemporary, SoundTemporary, Grows}
use Rattle.typing_rules.specs.RowPromises.{IsMade, SoundArgs, IsFunction}
use Rattle.typing_rules.specs.Rows.{call, built_in, ask_form, make, numbered_fields}
use Rattle.typing_rules.specs.Named.{Makes}
use Rattle.typing_rules.specs.Scope.{Env}
use Rattle.typing_rules.specs.Typed.{makes_unit}
use Rattle.typing_rules.proofs.Sound.Calls.{call_sound, from_passed, none_known}
use Rattle.typing_rules.proofs.Sound.Fitted.{fitted_gives, leaf_ends, passed_ends, same_self}
use Rattle.typing_rules.proofs.Sound.Gives.{◌⋆◌, bind, with_ready, obeyed, after_number, numbered, grows_trans, grows_refl, grows_number, knows_later, knows_number}
use Rattle.typing_rules.proofs.Sound.Interned.{interned_sound}
use Rattle.typing_rules.proofs.Sound.Later.{alone_no_reference, type_later}
use Rattle.typing_rules.proofs.Sound.Operators.{int_ready, int_at, as_wanted, or_cases}
use Rattle.typing_rules.proofs.Sound.Places.{not_true}
use Rattle.mir_ty.specs.declared.def.ClosureDef.{ClosureDef}

-- ---- functions

pub drop_later : {old new : ItemTable} → Extends old new → (body : ℕ) → is_drop_body new body ≡ is_drop_body old body
drop_later e body =
    ap (λ adts. list_any (λ (adt : Adt). option_map_or (λ b. b == body) adt.drop_body false) adts) e.adts

any_at : {A : Type 0} (p : A → Bool) (xs : List A) → IsTrue (list_any p xs) → (k : ℕ) × (x : A) × (slice_get xs k ≡
    Some x)
    × IsTrue (p x)
any_at {A = A} p [] h = absurd (let no_ : IsTrue false = h in cc)
any_at {A = A} p (y ∷ ys) h = by (any_at p ys) (or_cases (p y) (list_any p ys) h)
  where
    by : (IsTrue (list_any p ys) → (k : ℕ) × (x : A) × (slice_get ys k ≡ Some x) × IsTrue (p x)) → IsTrue (p y) ⊎ IsTrue
        (list_any p ys) → (k : ℕ) × (x : A) × (slice_get (y ∷ ys) k ≡ Some x) × IsTrue (p x)
    by on (inl here_) = (0, y, refl, here_)
    by on (inr more) = let f = on more in (suc f.0, f.1, f.2, f.3)

-- a type that was in the table is what it was
pub was_type : {s w : TypingState} → AreReady s.items → Grows s w → (body : ℕ) (head : Sig) (self : TyId) (rest : List TyId)
    (ty : Ty) →
    slice_get s.items.bodies body ≡ Some head → head.params ≡ self ∷ rest → type_at w.items self ≡ Some ty → type_at
    s.items
    self ≡ Some ty
was_type all g body head self rest ty is params at =
    let known = all.params body head self is (subst (λ tys. Contains tys self) (sym params) (0, omega arith, refl)) in
    known.1 ∙ (sym (type_later g.items self known.0 known.1) ∙ at)

-- a function's body is no closure's
pub no_closure : {s w : TypingState} → AreReady s.items → Grows s w → AreClosures w.items → (body : ℕ) (head : Sig) →
    IsFunction s body head → IsTrue (not (is_closure_body w.items body))
no_closure {s} {w} all g heads body head is = by (is_closure_body w.items body) refl
  where
    by : (b : Bool) → is_closure_body w.items body ≡ b → IsTrue (not b)
    by true e =
        let f = any_at (λ (def : ClosureDef). def.body == body) w.items.closures e in
        let same = eqb-true f.1.body body f.3 in
        let begins = heads f.0 f.1 head f.2 (ap (slice_get w.items.bodies) same ∙ (ap (λ bodies.
        slice_get bodies
        body) g.items.bodies ∙ is.0)) in
        absurd (is.1 begins.0 begins.1 f.0 begins.2 (was_type all g body head begins.0 begins.1 (Ty.Closure f.0) is.0
        begins.2
        begins.3))
    by false e = refl

pub function_sound : (env : Env) (at : Pos) (body : ℕ) (head : Sig) (count : ℕ) (args : List TyId → Check Nodes) →
    SoundArgs
    env count args → (expected : Option TyId) (s : TypingState) → Knows env s → IsFunction s body head → Gives s (IsTemporary env
    expected) (call at (tree.Call body) head.result count head.params args (not (is_drop_body s.items body)) expected s)
function_sound env at body head count args good expected s k is =
    with_ready λ all.
    call_sound env at (tree.Call body) head.result count head.params args (not (is_drop_body s.items body)) (λ ns.
    refl) (λ
    ns. refl) (λ w ns p. refl) good s (all.results body head is.0) (λ ty has. all.params body head ty is.0 has)
    (λ may w id ns p ready g stands given_.
    subst (λ o. Holds (some o (λ (sig : Sig). both (fact (is_same head.result sig.result)) (arguments (at_spot w.items
    env.answer p) sig.params ns)))) (sym (ap (λ bodies. slice_get bodies body) g.items.bodies ∙ is.0)) (same_self
    head.result.0 ⋆ given_) ⋆
    and_true (not (is_drop_body w.items body)) _ (subst (λ b. IsTrue (not b)) (sym (drop_later g.items body)) may)
    (no_closure all g stands.closures body head is)) expected k

-- ---- structs and variants by the order of their parts

module _ (items : ItemTable) (adt variant : ℕ) (v : Variant) where
  pub adt_fields : variant_at items adt variant ≡ Some v → fields_of (slice_get (variants_of (slice_get items.adts
      adt)) variant)
      ≡ v.fields
  adt_fields h = by (slice_get items.adts adt) h
    where
      by : (o : Option Adt) → option_and_then (λ (def : Adt). slice_get def.variants variant) o ≡ Some v → fields_of
          (slice_get (variants_of o) variant) ≡ v.fields
      by None h = absurd (none-some v h)
      by (Some def) h = ap fields_of h

numbered_from : (k : ℕ) (ns : Nodes) → List ℕ
numbered_from k no_node = []
numbered_from k (a_node first rest) = k ∷ numbered_from (suc k) rest

not_among : (n k : ℕ) (ns : Nodes) → suc n ≤ k → IsTrue (not (is_number_among n (field_numbers (numbered_fields k ns))))
not_among n k no_node h = refl
not_among n k (a_node first rest) h = by (nat_eq n k) refl (not_among n (suc k) rest (omega (arith, h)))
  where
    by : (b : Bool) → nat_eq n k ≡ b → IsTrue (not (is_number_among n (field_numbers (numbered_fields (suc k) rest)))) →
        IsTrue (not (b || is_number_among n (field_numbers (numbered_fields (suc k) rest))))
    by true e on = absurd (let same = eqb-true n k e in omega (arith, h, same))
    by false e on = on

pub distinct_from : (k : ℕ) (ns : Nodes) → IsTrue (are_distinct_numbers (field_numbers (numbered_fields k ns)))
distinct_from k no_node = refl
distinct_from k (a_node first rest) =
    and_true (not (is_number_among k (field_numbers (numbered_fields (suc k) rest)))) _ (not_among k (suc k) rest (omega
    arith)) (distinct_from (suc k) rest)

as_many : (k : ℕ) (ns : Nodes) → length (field_numbers (numbered_fields k ns)) ≡ count_of ns
as_many k no_node = refl
as_many k (a_node first rest) = ap suc (as_many (suc k) rest)

-- the arguments are values for the fields
fields_hold : (c : Context) (tys : List TyId) (all : List TyId) (k : ℕ) (ns : Nodes) → ((n : ℕ) (ty : TyId) →
    slice_get tys
    n ≡ Some ty → (slice_get all (k + n) ≡ Some ty) × (is_reference c.items ty ≡ false)) → Holds (arguments c tys ns) →
    Holds (made_fields c all (numbered_fields k ns))
fields_hold c [] all k no_node at h = refl
fields_hold c (ty ∷ tys) all k no_node at h = refl
fields_hold c [] all k (a_node first rest) at h = absurd (let no_ : IsTrue false = h in cc)
fields_hold c (ty ∷ tys) all k (a_node first rest) at h =
    let here_ = at 0 ty refl in
    let so = from_passed c ty first here_.1 h.0 in (
      subst (λ o. Holds (some o (λ t. typed c (Wanted t) first))) (sym (ap (slice_get all) (omega arith) ∙ here_.0))
          (as_wanted c ty first so.0 so.1),
      fields_hold c tys all (suc k) rest (λ n t is. let later = at (suc n) t is in (
        ap (slice_get all) (omega arith) ∙
            later.0,
        later.1,
      )) h.1,
    )

pub adt_made : (items : ItemTable) → AreReady items → (adt : ℕ) → IsMade items (Ty.Adt adt)
adt_made items all adt =
    record {
      held = λ part has. all.held_fields adt part has;
      parts = λ part variant n is. all.fields adt variant n part is;
      inside = λ to is. absurd (none-some to is);
    }

-- a struct or a variant with these fields
pub make_row : (c : Context) (ty : TyId) (id adt variant : ℕ) (v : Variant) (fields : Fields) → type_at c.items ty ≡
    Some
    (Ty.Adt
    adt) → variant_at c.items adt variant ≡ Some v → IsTrue (are_distinct_numbers (field_numbers fields) && length
    (field_numbers fields) == length v.fields) → Holds (made_fields c v.fields fields) → Holds (row c id ty (tree.Make
    adt
    variant fields))
make_row c ty id adt variant v fields is at numbers holds =
    subst (λ o. IsTrue (option_map_or (λ n. n == adt) (option_and_then adt_in o) false)) (sym is) (same_self adt) ⋆
    subst (λ o. Holds (some o (λ (u : Variant). both (fact (are_distinct_numbers (field_numbers fields) && length
    (field_numbers fields) == length u.fields)) (made_fields c u.fields fields)))) (sym at) (numbers ⋆ holds)

pub variant_later : {old new : ItemTable} → Extends old new → (adt variant : ℕ) → variant_at new adt variant ≡
    variant_at
    old adt
    variant
variant_later e adt variant =
    ap (λ adts. option_and_then (λ (def : Adt). slice_get def.variants variant) (slice_get adts adt)) e.adts

-- `S`, `E::V` of a struct or a variant without parts
pub unit_struct_sound : (env : Env) (at : Pos) (adt variant : ℕ) (v : Variant) (expected : Option TyId) (s : TypingState) →
    variant_at
    s.items adt variant ≡ Some v → v.fields ≡ [] → Knows env s → Gives s (IsTemporary env expected) (makes_unit at (Makes
    adt
    variant) expected s)
unit_struct_sound env at adt variant v expected s has none k =
    with_ready λ all. bind (interned_sound (Ty.Adt adt) s (adt_made s.items all adt)) λ ty t g d.
    after_number (leaf_ends env expected (numbered t) t.next_node at ty (tree.Make adt variant no_field) refl refl (λ w p.
    refl) λ
    w ready l.
    let on = grows_trans (grows_number t) l in (
      (Ty.Adt adt, d w on, tt),
      λ p stands.
          make_row (at_spot w.items env.answer p) ty t.next_node adt variant v no_field (d w on) (variant_later
          (grows_trans g
          on).items adt variant ∙ has) (subst (λ (tys : List TyId). IsTrue (true && 0 == length tys)) (sym none) refl)
          refl,
    ))

-- `S(a)`, `E::V(a)`
pub constructor_sound : (env : Env) (at : Pos) (adt variant : ℕ) (v : Variant) (count : ℕ) (args : List TyId → Check
    Nodes) →
    SoundArgs env count args → (expected : Option TyId) (s : TypingState) → variant_at s.items adt variant ≡ Some v → Knows env
    s →
    Gives s (IsTemporary env expected) ((interned (Ty.Adt adt) >>= (λ ty. call at (make adt variant) ty count v.fields args
    true expected)) s)
constructor_sound env at adt variant v count args good expected s has k =
    with_ready λ all. bind (interned_sound (Ty.Adt adt) s (adt_made s.items all adt)) λ ty t g d.
    with_ready λ ready.
    let at_t = variant_later g.items adt variant ∙ has in
    call_sound env at (make adt variant) ty count v.fields args true (λ ns. refl) (λ ns. refl) (λ w ns p. refl) good t (
      Ty.Adt
          adt,
      d t (grows_refl t),
      tt,
    ) (λ part c. known t ready at_t part c.0 (slice_get-Contains v.fields part c))
    (λ may w id ns p all_w h stands given_.
    let at_w = variant_later h.items adt variant ∙ at_t in
    make_row (at_spot w.items env.answer p) ty id adt variant v (numbered_fields 0 ns) (d w h) at_w
    (and_true _ _ (distinct_from 0 ns) (subst (λ n. IsTrue (n == length v.fields)) (sym (as_many 0 ns ∙ counted
    (at_spot w.items env.answer p) v.fields ns given_)) (same_self (length v.fields))))
    (fields_hold (at_spot w.items env.answer p) v.fields v.fields 0 ns (λ n u is. (
      ap (slice_get v.fields) (omega arith) ∙ is,
      not_true _ (alone_no_reference
          w.items u (alone w all_w at_w u n is)),
    )) given_)) expected (knows_later env g k)
  where
    alone : (w : TypingState) → AreReady w.items → variant_at w.items adt variant ≡ Some v → (part : TyId) (n : ℕ) → slice_get
        v.fields n ≡ Some part → IsAlone w.items part
    alone w all at_w part n is =
        all.fields adt variant n part (ap (λ tys. slice_get tys n) (adt_fields w.items adt variant v at_w) ∙ is)

    known : (w : TypingState) → AreReady w.items → variant_at w.items adt variant ≡ Some v → (part : TyId) (n : ℕ) → slice_get
        v.fields n ≡ Some part → IsKnown w.items part
    known w all at_w part n is = let a = alone w all at_w part n is in (a.0, a.1)

    counted : (c : Context) (tys : List TyId) (ns : Nodes) → Holds (arguments c tys ns) → count_of ns ≡ length tys
    counted c [] no_node h = refl
    counted c (ty ∷ tys) no_node h = absurd (let no_ : IsTrue false = h in cc)
    counted c [] (a_node first rest) h = absurd (let no_ : IsTrue false = h in cc)
    counted c (ty ∷ tys) (a_node first rest) h = ap suc (counted c tys rest h.1)

pub ask_sound : (env : Env) (at : Pos) (count : ℕ) (args : List TyId → Check Nodes) → SoundArgs env count args →
    SoundTemporary env (built_in at (int IntKind.I32) ask_form count 0 (args []))
ask_sound env at count args good expected s k =
    after_number (bind (good [] (numbered s) (knows_number env k) (none_known s.items)) λ ns t g d.
    bind (fitted_gives env expected (a_node_of s.next_node at (int IntKind.I32) tree.Ask) t refl) λ n u h e.
    obeyed Rule.T04 at (count == 0) _ λ counted.
    passed_ends env expected u s.next_node at (int IntKind.I32) tree.Ask n refl (λ w p. refl) e λ w all l. (
      int_ready w.items all IntKind.I32,
      λ p stands. subst (λ o. IsTrue (option_map_or (is_kind IntKind.I32) o false)) (sym
          (ap (option_and_then kind_in) (int_at w.items all IntKind.I32))) refl,
    ))

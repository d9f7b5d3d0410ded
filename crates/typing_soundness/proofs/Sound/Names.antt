-- What paths and callees name is as the rows of forms ask.
use Rattle.std.proofs.Common.{◌≡◌, ℕ, Bool, true, false, ◌||◌, not, if◌then◌else◌, List, [], ◌∷◌, ◌++◌, slice_get, Option, Some, None, IsTrue, refl, ap, sym, subst, ◌∙◌}
use Rattle.std.specs.Prelude.{option_and_then, option_map, is_some, codes, get_or}
use Rattle.std.specs.List.{list_any, position as position_of}
use Rattle.std.specs.Option.{option_map_or}
use Rattle.std.specs.Str.{bytes_eq}
use Rattle.std.proofs.lemmas.List.Folds.{list_any-append}
use Rattle.std.proofs.lemmas.List.Quantifiers.{position-Some}
use Rattle.std.proofs.lemmas.Option.{none-some, same_Some, slice_get-get_or}
use Rattle.std.proofs.lemmas.Slice.Eq.{bytes_eq-Decides}
use Rattle.mir_base.specs.declared.rule.Rule.{Rule}
use Rattle.mir_ty.specs.declared.adt.Adt.{Adt}
use Rattle.mir_ty.specs.declared.adt.Variant.{Variant}
use Rattle.mir_ty.specs.declared.def.Sig.{Sig}
use Rattle.mir_ty.specs.declared.ty.Ty.{Ty}
use Rattle.mir_ty.specs.ItemTable.{ItemTable}
use Rattle.well_typed.specs.Claim.{Holds}
use Rattle.mir_ty.specs.DropBodies.{is_drop_body}
use Rattle.well_typed.specs.Types.{closure_in, closure_of, is_enum, variant_at}
use Rattle.typing_rules.specs.Check.{TypingState}
use Rattle.typing_rules.specs.Named as looks
use Rattle.typing_rules.specs.Named.{PathValue, Makes, IsBroken, Callee, Function, Constructor, Prints, Asks, Drops, Forgets, Boxes, AValue, Unnamed, NoCallee, is_tuple_kind, is_unit_kind}
use Rattle.typing_rules.specs.Patterns.{PatternTarget, target, target_of}
use Rattle.typing_rules.specs.Promises.{KnowsItems, is_plain_name}
use Rattle.typing_rules.specs.RowPromises.{IsFunction}
use Rattle.typing_rules.specs.Scope.{Env, NamedEntry, variable, adt_named, body_named, method_of, method_word, variant_named, kind_at, adt_at_head}
use Rattle.typing_rules.specs.Typed.{no_variant, variant_of}
use Rattle.src_ast.specs.Syntax.{Word, Syn, syn, AnExpression, Expression, Path, Parens}
use Rattle.typing_rules.proofs.Sound.Later.{some_got, is_some_got}
use Rattle.typing_rules.specs.Written.{is_box}
use Rattle.typing_soundness.specs.Shapes.{shaped, shaped_expression}

-- ---- tables

-- what is found by its place is there
pub found_there : {A : Type 0} (p : A → Bool) (xs : List A) (n : ℕ) → position_of p xs ≡ Some n → (x : A) × (slice_get
    xs n ≡ Some x) × IsTrue (p x)
found_there p [] n h = absurd (none-some n h)
found_there {A} p (x ∷ xs) n h =
    let at = position-Some p (x ∷ xs) n x h in
    (get_or (x ∷ xs) n x, slice_get-get_or (x ∷ xs) n x at.0, at.1)

same_bytes : (a b : Word) → IsTrue (bytes_eq a b) → a ≡ b
same_bytes a b h = (bytes_eq-Decides a b).0 h

plain_join : (a b : Word) → IsTrue (is_plain_name a) → IsTrue (is_plain_name b) → IsTrue (is_plain_name (a ++ b))
plain_join a b ha hb =
    subst (λ c. IsTrue (not c)) (sym (list_any-append _ a b)) (by (list_any _ a) (list_any _ b) ha hb)
  where
    by : (x y : Bool) → IsTrue (not x) → IsTrue (not y) → IsTrue (not (x || y))
    by true y h k = absurd (let no_ : IsTrue false = h in cc)
    by false y h k = k

module _ (items : ItemTable) (env : Env) (k : KnowsItems env.kinds env.self_adt items) where
  adt_there : (first : Option Word) (n : ℕ) → adt_at_head items env first ≡ Some n → (def : Adt) × (slice_get items.adts
      n ≡ Some def)
  adt_there None n h = is_some_got (slice_get items.adts n) (k.self n h)
  adt_there (Some name) n h =
      let f = found_there (λ (adt : Adt). bytes_eq adt.name name) items.adts n h in (f.0, f.1)

  -- a struct has a variant
  struct_there : (n : ℕ) (def : Adt) → slice_get items.adts n ≡ Some def → is_enum items n ≡ false → (v : Variant) ×
      (variant_at items n 0 ≡ Some v)
  struct_there n def at is =
      k.structs n def at (sym (ap (λ o. option_map_or (λ (d : Adt). d.is_enum) o false) at) ∙ is)

  variant_there : (n : ℕ) (name : Word) (m : ℕ) → variant_named items n name ≡ Some m → (v : Variant) × (variant_at
      items n m ≡ Some v)
  variant_there n name m h =
      let def = some_got (λ (def : Adt). position_of (λ (v : Variant). bytes_eq v.name name) def.variants) (slice_get
      items.adts n) m h in
      let f = found_there (λ (v : Variant). bytes_eq v.name name) def.0.variants m def.2 in
      (f.0, ap (option_and_then (λ (d : Adt). slice_get d.variants m)) def.1 ∙ f.1)

  -- ---- paths that stand as values

  -- a struct or a variant that is there, and has no parts
  abbrev pub IsUnit : PathValue → Type 0
  IsUnit (Makes adt variant) = (v : Variant) × (variant_at items adt variant ≡ Some v) × (v.fields ≡ [])
  IsUnit (IsBroken rule) = Unit {0}

  unit_is : (adt variant : ℕ) (v : Variant) → variant_at items adt variant ≡ Some v → IsUnit (looks.unit_value env adt
      variant)
  unit_is adt variant v at = by (is_unit_kind (kind_at env.kinds adt variant)) refl
    where
      by : (b : Bool) → is_unit_kind (kind_at env.kinds adt variant) ≡ b → IsUnit (if b then Makes adt variant else
          IsBroken Rule.T13)
      by true e = (v, at, k.units adt variant v at e)
      by false e = tt

  struct_is : (n : ℕ) (def : Adt) → slice_get items.adts n ≡ Some def → IsUnit (looks.struct_value items env n)
  struct_is n def at = by (is_enum items n) refl
    where
      by : (b : Bool) → is_enum items n ≡ b → IsUnit (if b then IsBroken
          Rule.T01 else looks.unit_value env n 0)
      by true e = tt
      by false e = let v = struct_there n def at e in unit_is n 0 v.0 v.1

  enum_variant : (n : ℕ) (name : Word) (m : ℕ) → looks.variant_of_enum items n name ≡ Some m → (v : Variant) ×
      (variant_at items n m ≡ Some v)
  enum_variant n name m h = by (is_enum items n) h
    where
      by : (b : Bool) → (if b then variant_named items n name else None) ≡ Some m → (v : Variant) × (variant_at items n
          m ≡ Some v)
      by true h = variant_there n name m h
      by false h = absurd (none-some m h)

  broken_if : (b : Bool) (x y : Rule) → IsUnit (if b then IsBroken x else
      IsBroken y)
  broken_if true x y = tt
  broken_if false x y = tt

  pub path_is : (first second : Option Word) → IsUnit (looks.path_value items env first second)
  path_is (Some name) None = by (adt_named items name) refl
    where
      by : (o : Option ℕ) → adt_named items name ≡ o → IsUnit (looks.name_value items env name o)
      by (Some n) e = let def = adt_there (Some name) n e in struct_is n def.0 def.1
      by None e = tt
  path_is None None = by env.self_adt refl
    where
      by : (o : Option ℕ) → env.self_adt ≡ o → IsUnit (looks.or_broken items env o)
      by (Some n) e = let def = adt_there None n e in struct_is n def.0 def.1
      by None e = tt
  path_is first (Some name) = by (adt_at_head items env first) refl
    where
      member : (n : ℕ) (o : Option ℕ) → looks.variant_of_enum items n name ≡ o → IsUnit (looks.member_value items env n
          name o)
      member n (Some m) e = let v = enum_variant n name m e in unit_is n m v.0 v.1
      member n None e = tt

      boxed : (o : Option Word) → IsUnit (looks.box_member o name)
      boxed None = tt
      boxed (Some first_) = broken_if (is_box first_) _ _

      by : (o : Option ℕ) → adt_at_head items env first ≡ o → IsUnit (looks.path_member items env first name o)
      by (Some n) e = member n (looks.variant_of_enum items n name) refl
      by None e = boxed first

  -- ---- structs that are made by their fields

  pub target_there : (first second : Option Word) (t : PatternTarget) → target_of items env first second ≡ Some t → variant_at
      items t.adt t.variant ≡ Some (variant_of items t)
  target_there first None t h =
      let n = some_got (λ n. if is_enum items n then None else Some (target n 0)) (adt_at_head items env first) t h in
      by n.0 (adt_there first n.0 n.1) (is_enum items n.0) refl n.2
    where
      shown : (u : PatternTarget) (v : Variant) → variant_at items u.adt u.variant ≡ Some v → variant_at items u.adt u.variant
          ≡ Some (variant_of items u)
      shown u v at = at ∙ ap Some (sym (ap (λ o. option_map_or (λ (x : Variant). x) o no_variant) at))

      by : (n : ℕ) → ((def : Adt) × (slice_get items.adts n ≡ Some def)) → (b : Bool) → is_enum items n ≡ b → (if b then
          None else Some (target n 0)) ≡ Some t → variant_at items t.adt t.variant ≡ Some (variant_of items t)
      by n def true e h = absurd (none-some t h)
      by n def false e h =
          let v = struct_there n def.0 def.1 e in
          subst (λ (u : PatternTarget). variant_at items u.adt u.variant ≡ Some (variant_of items u)) (same_Some (target n 0) t
          h) (shown (target n 0) v.0 v.1)
  target_there first (Some second) t h =
      let n = some_got (λ n. if is_enum items n then option_map (target n) (variant_named items n second) else None)
      (adt_at_head items env first) t h in
      by n.0 (is_enum items n.0) n.2
    where
      shown : (u : PatternTarget) (v : Variant) → variant_at items u.adt u.variant ≡ Some v → variant_at items u.adt u.variant
          ≡ Some (variant_of items u)
      shown u v at = at ∙ ap Some (sym (ap (λ o. option_map_or (λ (x : Variant). x) o no_variant) at))

      at_ : (n : ℕ) (o : Option ℕ) → variant_named items n second ≡ o → option_map (target n) o ≡ Some t → variant_at
          items t.adt t.variant ≡ Some (variant_of items t)
      at_ n None e h = absurd (none-some t h)
      at_ n (Some m) e h =
          let v = variant_there n second m e in
          subst (λ (u : PatternTarget). variant_at items u.adt u.variant ≡ Some (variant_of items u)) (same_Some (target n m) t
          h) (shown (target n m) v.0 v.1)

      by : (n : ℕ) (b : Bool) → (if b then option_map (target n) (variant_named items n second) else None) ≡ Some t →
          variant_at items t.adt t.variant ≡ Some (variant_of items t)
      by n true h = at_ n (variant_named items n second) refl h
      by n false h = absurd (none-some t h)

module _ (s : TypingState) (env : Env) (k : KnowsItems env.kinds env.self_adt s.items) where
  -- ---- what is called

  abbrev pub IsCallee : Callee → Type 0
  IsCallee (Function body is_drop head) = IsFunction s body head × (is_drop ≡ is_drop_body s.items body)
  IsCallee (Constructor adt variant tys) =
      (v : Variant) × (variant_at s.items adt variant ≡ Some v) × (tys ≡ v.fields)
  IsCallee c = Unit {0}

  function_is : (body : ℕ) (name : Word) → IsTrue (is_plain_name name) → body_named s.items name ≡ Some body → IsCallee
      (looks.function_by s.items body (slice_get s.items.bodies body))
  function_is body name plain h =
      let f = found_there (λ (sig : Sig). bytes_eq sig.name name) s.items.bodies body h in
      subst (λ o. IsCallee (looks.function_by s.items body o)) (sym f.1) (
        (
          f.1,
          λ self rest n is closure.
              let t = k.functions body f.0 self rest f.1 (subst (λ w. IsTrue (is_plain_name w)) (sym (same_bytes
              f.0.name name f.2)) plain) is in
              none-some n (sym t.2 ∙ ap closure_in (same_Some t.0 (Ty.Closure n) (sym t.1 ∙ closure))),
        ),
        refl,
      )

  constructor_is : (adt variant : ℕ) (v : Variant) → variant_at s.items adt variant ≡ Some v → IsCallee
      (looks.constructor_of s.items env adt variant)
  constructor_is adt variant v at = by (is_tuple_kind (kind_at env.kinds adt variant))
    where
      by : (b : Bool) → IsCallee (if b then Constructor adt variant (option_map_or (λ (x : Variant). x.fields)
          (variant_at s.items adt variant) []) else NoCallee)
      by true = (v, at, ap (λ o. option_map_or (λ (x : Variant). x.fields) o []) at)
      by false = tt

  built_in_is : (name : Word) → IsCallee (looks.built_in_callee name)
  built_in_is name =
      by (bytes_eq name (codes "print")) (bytes_eq name (codes "ask")) (bytes_eq name (codes "drop")) (bytes_eq name
      (codes "forget"))
    where
      by : (a b c d : Bool) → IsCallee (if a then Prints else (if b then Asks else (if c then Drops else (if d then
          Forgets else Unnamed Rule.T01))))
      by true b c d = tt
      by false true c d = tt
      by false false true d = tt
      by false false false true = tt
      by false false false false = tt

  struct_or : (n : ℕ) (def : Adt) → slice_get s.items.adts n ≡ Some def → IsCallee (if is_enum s.items n then Unnamed
      Rule.T01 else looks.constructor_of s.items env n 0)
  struct_or n def at = by (is_enum s.items n) refl
    where
      by : (b : Bool) → is_enum s.items n ≡ b → IsCallee (if b then Unnamed
          Rule.T01 else looks.constructor_of s.items env n 0)
      by true e = tt
      by false e = let v = struct_there s.items env k n def at e in constructor_is n 0 v.0 v.1

  body_is : (name : Word) → IsTrue (is_plain_name name) → IsCallee (looks.body_callee s.items env name (body_named
      s.items name))
  body_is name plain = by (body_named s.items name) refl
    where
      adt : (o : Option ℕ) → adt_named s.items name ≡ o → IsCallee (looks.adt_callee s.items env name o)
      adt None e = built_in_is name
      adt (Some n) e = let def = adt_there s.items env k (Some name) n e in struct_or n def.0 def.1

      by : (o : Option ℕ) → body_named s.items name ≡ o → IsCallee (looks.body_callee s.items env name o)
      by (Some body) e = function_is body name plain e
      by None e = adt (adt_named s.items name) refl

  no_callee_is : (c : Callee) → IsCallee c → IsCallee (looks.or_no_callee c)
  no_callee_is (Function body is_drop head) h = h
  no_callee_is (Constructor adt variant tys) h = h
  no_callee_is other h = tt

  variable_is : (name : Word) → IsTrue (is_plain_name name) → (x : Option NamedEntry) → IsCallee (looks.variable_callee
      s.items env name x)
  variable_is name plain None = body_is name plain
  variable_is name plain (Some x) = by (is_some (closure_of s.items x.ty))
    where
      by : (b : Bool) → IsCallee (if b then AValue else looks.or_no_callee (looks.body_callee s.items env name
          (body_named s.items name)))
      by true = tt
      by false = no_callee_is (looks.body_callee s.items env name (body_named s.items name)) (body_is name plain)

  method_is : (n : ℕ) (name : Word) → IsTrue (is_plain_name name) → (o : Option ℕ) → method_of s.items n name ≡ o →
      IsCallee (looks.method_callee s.items n o)
  method_is n name plain None e = tt
  method_is n name plain (Some body) e =
      let def = some_got (λ (def : Adt). body_named s.items (method_word def.name name)) (slice_get s.items.adts n) body
      e in
      function_is body (method_word def.0.name name) (plain_method def.0.name (k.adts n def.0 def.1)) def.2
    where
      plain_method : (adt : Word) → IsTrue (is_plain_name adt) → IsTrue (is_plain_name (method_word adt name))
      plain_method adt h = plain_join (adt ++ codes "::") name (plain_join adt (codes "::") h refl) plain

  member_is : (n : ℕ) (name : Word) → IsTrue (is_plain_name name) → (o : Option ℕ) → looks.variant_of_enum s.items n
      name ≡ o → IsCallee (looks.member_callee s.items env n name o)
  member_is n name plain (Some m) e = let v = enum_variant s.items env k n name m e in constructor_is n m v.0 v.1
  member_is n name plain None e = method_is n name plain (method_of s.items n name) refl

  box_is : (first : Option Word) (name : Word) → IsCallee (looks.box_callee first name)
  box_is None name = tt
  box_is (Some first) name = by (is_box first) (bytes_eq name (codes "new"))
    where
      by : (a b : Bool) → IsCallee (if a then (if b then Boxes else Unnamed
          Rule.T12) else Unnamed
          Rule.T01)
      by true true = tt
      by true false = tt
      by false b = tt

  path_callee_is : (first : Option Word) (name : Word) → IsTrue (is_plain_name name) → IsCallee (looks.path_callee
      s.items env first name (adt_at_head s.items env first))
  path_callee_is first name plain = by (adt_at_head s.items env first) refl
    where
      by : (o : Option ℕ) → adt_at_head s.items env first ≡ o → IsCallee (looks.path_callee s.items env first name o)
      by None e = box_is first name
      by (Some n) e = member_is n name plain (looks.variant_of_enum s.items n name) refl

  self_is : (o : Option ℕ) → env.self_adt ≡ o → IsCallee (looks.self_callee s.items env o)
  self_is None e = tt
  self_is (Some n) e = let def = adt_there s.items env k None n e in struct_or n def.0 def.1

  mutual
    pub callee_is : (e : Syn) → Holds (shaped e) → IsCallee (looks.callee_of s.items env e)
    callee_is (syn at (AnExpression e)) h = callee_form_is e h
    callee_is _ h = tt

    callee_form_is : (form : Expression) → Holds (shaped_expression form) → IsCallee (looks.callee_by s.items env form)
    callee_form_is (Parens inside) h = callee_is inside h
    callee_form_is (Path (Some name) None) h = variable_is name h.0 (variable env.variables name)
    callee_form_is (Path None None) h = self_is env.self_adt refl
    callee_form_is (Path (Some first) (Some name)) h = path_callee_is (Some first) name h.1
    callee_form_is (Path None (Some name)) h = path_callee_is None name h.1
    callee_form_is _ h = tt

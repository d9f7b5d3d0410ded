-- Parameters.
use Rattle.std.proofs.Common.{◌≡◌, ℕ, Bool, true, false, ◌&&◌, ◌||◌, not, if◌then◌else◌, List, [], ◌∷◌, ◌++◌, Option, Some, None, Result, Ok, Err, IsTrue, ◌⊎◌, inl, inr, refl, ap, sym, subst, ◌∙◌, arith}
use Rattle.std.specs.Prelude.{option_and_then, is_some}
use Rattle.std.specs.List.{filter_map}
use Rattle.std.proofs.lemmas.List.Elements.{filter_map-append}
use Rattle.std.proofs.lemmas.Option.{same_Some}
use Rattle.mir_base.specs.declared.place_in_text.Pos.{Pos}
use Rattle.mir_base.specs.declared.rule.Rule.{Rule}
use Rattle.mir_ty.specs.declared.ty.Ty.{Ty}
use Rattle.mir_ty.specs.declared.ty.TyId.{TyId}
use Rattle.mir_ty.specs.Facts.{is_copy}
use Rattle.mir_ty.specs.ItemTable.{ItemTable, type_at}
use Rattle.typed_tree.specs.declared.node.Use.{Use}
use Rattle.typed_tree.specs.Nodes.{nodes_of, param_nodes}
use Rattle.typed_tree.specs.Tree as tree
use Rattle.typed_tree.specs.Tree.{Node, node, ParamTree}
use Rattle.well_typed.specs.Claim.{Holds}
use Rattle.well_typed.specs.Patterns.{pattern, names_of, entries_of, binding_name, binding_entry}
use Rattle.well_typed.specs.Places.{is_by}
use Rattle.well_typed.specs.Types.{dyn_in, is_dyn, is_enum, is_reference, is_same, reference_in}
use Rattle.typing_rules.specs.Bodies as bodies
use Rattle.typing_rules.specs.Bodies.{param_pattern_context, is_name_or_wildcard, is_name_or_wildcard_form}
use Rattle.typing_rules.specs.Check.{Check, TypingState, Broken, and_then, breaks}
use Rattle.typing_rules.specs.Patterns as rules
use Rattle.typing_rules.specs.Places.{used, a_node_of}
use Rattle.typing_rules.specs.Promises.{IsThere, IsReady, AreReady, Grows, Fact, Gives}
use Rattle.typing_rules.specs.Rows.{PatternContext, taking}
use Rattle.typing_rules.specs.Scope.{Env, NamedEntry, Local, adt_named, kind_at, variable}
use Rattle.src_ast.specs.Syntax.{Word, Syn, syn, APattern, AParam, Pattern, AnyPattern, BindPattern, ParensPattern, ParamOf, SelfParam, Syns, no_syn, a_syn}
use Rattle.src_ast.specs.View.{self_name}
use Rattle.typing_rules.proofs.Sound.AllPatterns.{pattern_sound}
use Rattle.typing_rules.proofs.Sound.Bindings.{Binds, binds_none, binds_from, binds_join, binds_one}
use Rattle.typing_rules.proofs.Sound.Fitted.{same_self, or_right}
use Rattle.typing_rules.proofs.Sound.Gives.{◌⋆◌, bind, weaker, with_ready, obeyed, given, gives_nothing, after_number, numbered, grows_refl, grows_trans}
use Rattle.typing_rules.proofs.Sound.Interned.{interned_sound}
use Rattle.typing_rules.proofs.Sound.Later.{same_reference, same_copy, ready_later, type_later}
use Rattle.typing_rules.proofs.Sound.Named.{adt_made}
use Rattle.typing_rules.proofs.Sound.Operators.{or_cases, same_id}
use Rattle.typing_soundness.specs.Shapes.{no_self, self_first}
use Rattle.typing_soundness.proofs.Bodies.Types.{IsParamTy, param_ready, receiver_sound}
use Rattle.typing_soundness.proofs.Bodies.Whole.{IsSimple, AreParams, names_in, entries_of_params}

-- ---- two facts of one check

pub both_give : {A : Type 0} {s : TypingState} {Q R : Fact A} (r : Result (A × TypingState) Broken) → Gives s Q r → Gives s R r →
    Gives s (λ w a. Q w a × R w a) r
both_give (Ok a) h k =
    record { so = λ ready. let g = h.so ready in let f = k.so ready in (g.0, λ w l. (g.1 w l, f.1 w l)) }
both_give (Err e) h k = record { so = λ ready. tt }

-- ---- a name or `_`, where the type is a reference

bind_simple : (at : Pos) (e : PatternContext) (ty : TyId) (name : Word) (earlier : List NamedEntry) (s : TypingState) → Gives s (λ w b.
    IsSimple w.items ty b.0) (rules.bind at e ty name earlier s)
bind_simple at e ty name earlier s =
    after_number (obeyed Rule.T02 at (not (is_some (variable earlier name))) _ λ new_. obeyed Rule.T07 at (is_copy
    s.items ty || not (e.is_fixed || is_dyn s.items ty)) _ λ moves. given _ λ ready w g. inr (inr (name, refl)))

adt_no_reference : (items : ItemTable) (ty : TyId) (n : ℕ) → type_at items ty ≡ Some (Ty.Adt n) → IsTrue (not
    (is_reference items ty))
adt_no_reference items ty n is =
    subst (λ o. IsTrue (not (is_some (option_and_then reference_in o)))) (sym is) refl

lone_simple : (env : Env) (at : Pos) (e : PatternContext) (ty : TyId) (adt : ℕ) (earlier : List NamedEntry) (s : TypingState) → Gives s
    (λ w b. IsSimple w.items ty b.0) (rules.lone_struct env at e ty adt earlier s)
lone_simple env at e ty adt earlier s = by (rules.is_unit_kind (kind_at env.kinds adt 0))
  where
    by : (b : Bool) → Gives s (λ w x. IsSimple w.items ty x.0) ((if b then rules.of_target at e ty (rules.target adt 0)
        (rules.no_parts earlier true) else breaks Rule.T18 at) s)
    by true =
        with_ready λ all. after_number (bind (interned_sound (Ty.Adt adt) (numbered s) (adt_made s.items all adt)) λ
        self t g d. obeyed Rule.T03 at (is_same ty self) _ λ same. obeyed Rule.T18 at (not (e.takes_all && rules.is_test
        t.items (rules.target adt 0))) _ λ tests. given _ λ ready w l. inl (adt_no_reference w.items ty adt (ap (type_at
        w.items) (same_id ty self same) ∙ d w l)))
    by false = gives_nothing Rule.T18 at

lone_name_simple : (env : Env) (at : Pos) (e : PatternContext) (ty : TyId) (name : Word) (earlier : List NamedEntry) (s : TypingState) →
    Gives s (λ w b. IsSimple w.items ty b.0) (rules.lone_name env at e ty name earlier s)
lone_name_simple env at e ty name earlier s = by (adt_named s.items name)
  where
    if_enum : (adt : ℕ) (b : Bool) → Gives s (λ w x. IsSimple w.items ty x.0) ((if b then rules.bind at e ty name
        earlier else rules.lone_struct env at e ty adt earlier) s)
    if_enum adt true = bind_simple at e ty name earlier s
    if_enum adt false = lone_simple env at e ty adt earlier s

    by : (o : Option ℕ) → Gives s (λ w x. IsSimple w.items ty x.0) (rules.lone_by env at e ty name earlier o s.items s)
    by None = bind_simple at e ty name earlier s
    by (Some adt) = if_enum adt (is_enum s.items adt)

mutual
  simple_sound : (env : Env) (e : PatternContext) (ty : TyId) (p : Syn) (earlier : List NamedEntry) (s : TypingState) → IsTrue
      (is_name_or_wildcard p) → Gives s (λ w b. IsSimple w.items ty b.0) (rules.pattern env e ty p earlier s)
  simple_sound env e ty (syn at (APattern p)) earlier s = simple_form env e ty at p earlier s
  simple_sound env e ty _ earlier s = λ h. absurd (let no_ : IsTrue false = h in cc)

  simple_form : (env : Env) (e : PatternContext) (ty : TyId) (at : Pos) (form : Pattern) (earlier : List NamedEntry) (s : TypingState) →
      IsTrue (is_name_or_wildcard_form form) → Gives s (λ w b. IsSimple w.items ty b.0) (rules.pattern_form env e ty at
      form earlier s)
  simple_form env e ty at AnyPattern earlier s = λ h. after_number (given _ λ ready w g. inr (inl refl))
  simple_form env e ty at (BindPattern name) earlier s = λ h. lone_name_simple env at e ty name earlier s
  simple_form env e ty at (ParensPattern inside) earlier s = λ h. simple_sound env e ty inside earlier s h
  simple_form env e ty at _ earlier s = λ h. absurd (let no_ : IsTrue false = h in cc)

-- ---- a parameter that is one name

use_itself : (b : Bool) → IsTrue (is_by (if b then Use.Copy else Use.Move) (Some (if b then Use.Copy else Use.Move)))
use_itself true = refl
use_itself false = refl

name_use : (a b : Bool) → a ≡ b → IsTrue (is_by (if a then Use.Copy else Use.Move) (Some (if b then Use.Copy else
    Use.Move)))
name_use a b e = subst (λ c. IsTrue (is_by (if c then Use.Copy else Use.Move) (Some (if b then Use.Copy else Use.Move))))
    (sym e) (use_itself b)

not_dyn : (items : ItemTable) (id : TyId) (ty : Ty) → type_at items id ≡ Some ty → dyn_in ty ≡ None → IsTrue (not
    (is_dyn items id))
not_dyn items id ty is none =
    subst (λ o. IsTrue (not (is_some (option_and_then dyn_in o)))) (sym is) (subst (λ o. IsTrue (not (is_some o))) (sym
    none) refl)

-- a binding of a whole value
pub name_holds : (s w : TypingState) (id : ℕ) (at : Pos) (name : Word) (ty : TyId) (t : Ty) → AreReady s.items → Grows s w →
    IsReady s.items ty → type_at s.items ty ≡ Some t → dyn_in t ≡ None → Holds (pattern w.items (record {
      takes_all = true;
      may_move = true;
    }) ty (used (taking s.items ty) (a_node_of id at ty (tree.Binding name))))
name_holds s w id at name ty t all g ready is none =
    same_self ty.0 ⋆ name_use (is_copy w.items ty) (is_copy s.items ty) (same_copy g.items all ty ready) ⋆ or_right
    (is_copy w.items ty) _ (not_dyn w.items ty t (type_later g.items ty t is) none)

-- ---- all parameters

-- the first parameter, if there is one, is no closure
abbrev pub FirstPlain : ItemTable → List ParamTree → Type 0
FirstPlain items [] = Unit {0}
FirstPlain items (p ∷ ps) = IsParamTy items p.ty

pub record AreBound (earlier : List NamedEntry) (n : ℕ) (w : TypingState) (ps : List ParamTree × List NamedEntry) : Type 0 where
  pub params : AreParams w.items ps.0
  pub binds : Binds earlier n (param_nodes ps.0) w ps.1
  pub first : FirstPlain w.items ps.0

-- a parameter, after names of earlier ones
record IsBound (earlier : List NamedEntry) (n : ℕ) (w : TypingState) (p : ParamTree × List NamedEntry) : Type 0 where
  holds : Holds (pattern w.items (record { takes_all = true; may_move = true }) p.0.ty p.0.pattern)
  simple : IsSimple w.items p.0.ty p.0.pattern
  binds : Binds earlier n (nodes_of p.0.pattern) w p.1
  ty : IsParamTy w.items p.0.ty

param_later : {old new : TypingState} (ty : TyId) → Grows old new → IsParamTy old.items ty → IsParamTy new.items ty
param_later {new = new} ty g h =
    let r = ready_later g.items ty (h.0, h.1, h.2) in (
      h.0,
      type_later g.items ty h.0 h.1,
      subst (IsThere new.items) (same_Some r.0 h.0 (sym r.1 ∙
          type_later g.items ty h.0 h.1)) r.2,
      h.3,
      h.4,
    )

module _ (env : Env) (ty_of_param : Syn → Check TyId) (good : (ty : Syn) (s : TypingState) → Gives s (λ w t. IsParamTy
    w.items t) (ty_of_param ty s)) where
  one_bound : (at : Pos) (p ty : Syn) (earlier : List NamedEntry) (s : TypingState) → Gives s (IsBound earlier s.next_node)
      (bodies.param env ty_of_param (syn at (AParam (ParamOf p ty))) earlier s)
  one_bound at p ty earlier s =
      bind (good ty s) λ t u g d.
      obeyed Rule.T08 at (is_name_or_wildcard p || not (is_reference u.items t)) _ λ simple.
      let now = d u (grows_refl u) in
      bind (both_give (rules.pattern env param_pattern_context t p earlier u) (pattern_sound env param_pattern_context t p earlier u
      (param_ready u.items t now)) (by t u now (or_cases (is_name_or_wildcard p) _ simple))) λ n v h e. given _ λ ready
      w l.
      let is = e w l in
      record {
        holds = is.0.holds (record { takes_all = true; may_move = true }) (refl, λ x. refl);
        simple = is.1;
        binds = binds_from earlier s.next_node u.next_node (nodes_of n.0) w n.1 g.numbers is.0.binds;
        ty = d w (grows_trans h l);
      }
    where
      by : (t : TyId) (u : TypingState) → IsParamTy u.items t → IsTrue (is_name_or_wildcard p) ⊎ IsTrue (not (is_reference
          u.items t)) → Gives u (λ w b. IsSimple w.items t b.0) (rules.pattern env param_pattern_context t p earlier u)
      by t u now (inl is) = simple_sound env param_pattern_context t p earlier u is
      by t u now (inr plain) =
          weaker (λ w b. IsSimple w.items t b.0) (pattern_sound env param_pattern_context t p earlier u (param_ready u.items t
          now)) λ b w all g is. inl (subst (λ b. IsTrue (not b)) (sym (same_reference g.items t (param_ready u.items t
          now))) plain)

  join_bound : (earlier : List NamedEntry) (n : ℕ) (p : ParamTree × List NamedEntry) (ps : List ParamTree × List NamedEntry) (t w :
      TypingState) → IsBound earlier n t p → IsBound earlier n w p → AreBound p.1 t.next_node w ps → AreBound earlier n w (
        p.0 ∷ ps.0,
        ps.1,
      )
  join_bound earlier n p ps t w now later rest =
      record {
        params = ((later.holds, later.simple), rest.params);
        binds = binds_join earlier p.1 ps.1 n (nodes_of p.0.pattern) (param_nodes ps.0) t w now.binds later.binds
            rest.binds;
        first = later.ty;
      }

  -- parameters without `self`
  rest_bound : (params : Syns) → IsTrue (no_self params) → (earlier : List NamedEntry) (s : TypingState) → Gives s (AreBound
      earlier s.next_node) (bodies.params_of env ty_of_param params earlier s)
  rest_bound no_syn h earlier s =
      given ([], earlier) λ ready w g. record {
        params = tt;
        binds = binds_none earlier s.next_node [] w g.numbers refl refl;
        first = tt;
      }
  rest_bound (a_syn (syn at (AParam (ParamOf p ty))) rest) h earlier s =
      bind (one_bound at p ty earlier s) λ x t g d. bind (rest_bound rest h x.1 t) λ xs u i e. given (x.0 ∷ xs.0, xs.1)
      λ ready w l. join_bound earlier s.next_node x xs t w (d t (grows_refl t)) (d w (grows_trans i l)) (e w l)
  rest_bound (a_syn (syn at (AParam (SelfParam receiver))) rest) h earlier s = absurd (let no_ : IsTrue false = h in cc)
  rest_bound (a_syn (syn at _) rest) h earlier s = record { so = λ ready. tt }

  self_bound : (at : Pos) (ty : TyId) (s : TypingState) → IsParamTy s.items ty → Gives s (IsBound [] s.next_node) (and_then
      (bodies.name_param at self_name ty s) (λ p t. Ok ((p.0, [] ++ p.1 ∷ []), t)))
  self_bound at ty s is =
      with_ready λ all. after_number (given _ λ ready w g. record {
        holds = name_holds (numbered s) w s.next_node at self_name ty is.0 all g (param_ready s.items ty is) is.1 is.4;
        simple = inr (inr (self_name, refl));
        binds = binds_one [] s.next_node _ w (record { name = self_name; ty = ty; meaning = Local s.next_node })
            s.next_node refl (omega arith) g.numbers (ready_later g.items ty (param_ready s.items ty is)) refl refl refl;
        ty = param_later ty g is;
      })

  pub params_bound : (params : Syns) → IsTrue (self_first params) → (s : TypingState) → Gives s (AreBound [] s.next_node)
      (bodies.params_of env ty_of_param params [] s)
  params_bound no_syn h s = rest_bound no_syn refl [] s
  params_bound (a_syn (syn at (AParam (ParamOf p ty))) rest) h s = rest_bound (a_syn (syn at (AParam (ParamOf p ty))) rest) h [] s
  params_bound (a_syn (syn at (AParam (SelfParam receiver))) rest) h s =
      bind (bind (receiver_sound env at receiver s) λ ty t g d. weaker (IsBound [] s.next_node) (self_bound at ty t (d t
      (grows_refl t))) λ p w all l is. record {
        holds = is.holds;
        simple = is.simple;
        binds = binds_from [] s.next_node t.next_node (nodes_of p.0.pattern) w p.1 g.numbers is.binds;
        ty = is.ty;
      }) λ x t g d. bind (rest_bound rest h x.1 t) λ xs u i e. given (x.0 ∷ xs.0, xs.1) λ ready w l. join_bound []
      s.next_node x xs t w (d t (grows_refl t)) (d w (grows_trans i l)) (e w l)
  params_bound (a_syn (syn at _) rest) h s = record { so = λ ready. tt }

-- ---- names and entries

pub names_same : (ps : List ParamTree) → names_in ps ≡ filter_map binding_name (param_nodes ps)
names_same [] = refl
names_same (p ∷ ps) =
    ap (λ ws. names_of p.pattern ++ ws) (names_same ps) ∙ sym (filter_map-append binding_name (nodes_of p.pattern)
    (param_nodes ps))

pub entries_same : (ps : List ParamTree) → entries_of_params ps ≡ filter_map binding_entry (param_nodes ps)
entries_same [] = refl
entries_same (p ∷ ps) =
    ap (λ es. entries_of p.pattern ++ es) (entries_same ps) ∙ sym (filter_map-append binding_entry (nodes_of p.pattern)
    (param_nodes ps))

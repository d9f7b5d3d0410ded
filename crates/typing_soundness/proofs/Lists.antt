-- Parts behind parts, and what the rows of functions and closures are made of.
use Rattle.std.proofs.Common.{◌≡◌, Bool, true, false, List, [], ◌∷◌, ◌++◌, IsTrue, refl, ap, ◌∙◌, if◌then◌else◌}
use Rattle.src_tree.specs.Layout.{end, tok, sub}
use Rattle.src_ast.specs.Syntax.{Named, Syn, syn, Shape, AParam, SelfParam, Syns, no_syn, a_syn, MaybeSyn, nothing, just}
use Rattle.src_ast.specs.View.{view, views, is_ident, named, idents, behind_idents, last_of, but_last, from_just, behind_params}
use Rattle.typing_rules.specs.Written.{WrittenScope}
use Rattle.typing_soundness.specs.Closures.{BodySyn, closures_among}
use Rattle.typing_soundness.specs.Shapes.{no_self, self_first}
use Rattle.typing_soundness.proofs.Due.{◌⊕◌}
use Rattle.typing_soundness.proofs.Good.{Tree, Held, IsName, IsParam, Each, EachBut}
use Rattle.typing_soundness.proofs.Telling.{IsStill}

infixr 5 ◌⧺◌
abbrev pub ◌⧺◌ : Syns → Syns → Syns
no_syn ⧺ m = m
(a_syn first rest) ⧺ m = a_syn first (rest ⧺ m)

pub views_join : (gs m : Held) → views (gs ⊕ m) ≡ views gs ⧺ views m
views_join end m = refl
views_join (tok t gs) m = views_join gs m
views_join (sub g gs) m = ap (a_syn (view g)) (views_join gs m)

pub join_none : (ss : Syns) → ss ⧺ no_syn ≡ ss
join_none no_syn = refl
join_none (a_syn s ss) = ap (a_syn s) (join_none ss)

pub last_one : (ss : Syns) (x : Syn) → last_of (ss ⧺ a_syn x no_syn) ≡ just x
last_one no_syn x = refl
last_one (a_syn a no_syn) x = refl
last_one (a_syn a (a_syn b ss)) x = last_one (a_syn b ss) x

pub but_one : (ss : Syns) (x : Syn) → but_last (ss ⧺ a_syn x no_syn) ≡ ss
but_one no_syn x = refl
but_one (a_syn a no_syn) x = refl
but_one (a_syn a (a_syn b ss)) x = ap (a_syn a) (but_one (a_syn b ss) x)

join_two : (ss : Syns) (x y : Syn) → ss ⧺ a_syn x (a_syn y no_syn) ≡ (ss ⧺ a_syn x no_syn) ⧺ a_syn y no_syn
join_two no_syn x y = refl
join_two (a_syn a ss) x y = ap (a_syn a) (join_two ss x y)

pub silent_behind : (around : WrittenScope) (gs m : Held) → Each IsStill gs → (rest : List BodySyn) → closures_among around
    (views (gs ⊕ m)) rest ≡ closures_among around (views m) rest
silent_behind around end m h rest = refl
silent_behind around (tok t gs) m h rest = silent_behind around gs m h rest
silent_behind around (sub g gs) m h rest = h.0.silent around _ ∙ silent_behind around gs m h.1 rest

-- ---- what stands behind parameters

module _ (f : Syns → MaybeSyn → Syn → Shape) (ps : Syns) where
  pub behind_plain : (b : Syn) → behind_params false f (ps ⧺ a_syn b no_syn) ≡ f ps nothing b
  behind_plain b =
      ap (λ m. from_just (λ block. f (but_last (ps ⧺ a_syn b no_syn)) nothing block) m) (last_one ps b)
      ∙ ap (λ x. f x nothing b) (but_one ps b)

  pub behind_typed : (ty b : Syn) → behind_params true f (ps ⧺ a_syn ty (a_syn b no_syn)) ≡ f ps (just ty) b
  behind_typed ty b =
      let qs = ps ⧺ a_syn ty no_syn in
      let all = qs ⧺ a_syn b no_syn in
      ap (behind_params true f) (join_two ps ty b)
      ∙ ap (λ m. from_just (λ block. f (but_last (but_last all)) (last_of (but_last all)) block) m) (last_one qs b)
      ∙ ap (λ x. f (but_last x) (last_of x) b) (but_one qs b)
      ∙ ap (λ x. f x (last_of qs) b) (but_one ps ty) ∙ ap (λ m. f ps m b) (last_one ps ty)

-- ---- names that stand first

name_is : (g : Tree) → IsName g → is_ident (view g) ≡ true
name_is g k = ap is_ident k.is

abbrev pub IsUnnamed : Syns → Type 0
IsUnnamed no_syn = Unit {0}
IsUnnamed (a_syn first rest) = is_ident first ≡ false

pub behind_unnamed : (ss : Syns) → IsUnnamed ss → behind_idents ss ≡ ss
behind_unnamed no_syn h = refl
behind_unnamed (a_syn first rest) h = ap (λ b. if b then behind_idents rest else a_syn first rest) h

pub idents_unnamed : (ss : Syns) → IsUnnamed ss → idents ss ≡ []
idents_unnamed no_syn h = refl
idents_unnamed (a_syn first rest) h = ap (λ b. if b then named first ∷ idents rest else []) h

pub behind_names : (gs m : Held) → Each IsName gs → behind_idents (views (gs ⊕ m)) ≡ behind_idents (views m)
behind_names end m h = refl
behind_names (tok t gs) m h = behind_names gs m h
behind_names (sub g gs) m h =
    ap (λ b. if b then behind_idents (views (gs ⊕ m)) else a_syn (view g) (views (gs ⊕ m))) (name_is g h.0)
    ∙ behind_names gs m h.1

-- the names in some parts
abbrev pub names_in : Held → List Named
names_in end = []
names_in (tok t gs) = names_in gs
names_in (sub g gs) = named (view g) ∷ names_in gs

pub idents_names : (gs m : Held) → Each IsName gs → idents (views (gs ⊕ m)) ≡ names_in gs ++ idents (views m)
idents_names end m h = refl
idents_names (tok t gs) m h = idents_names gs m h
idents_names (sub g gs) m h =
    ap (λ b. if b then named (view g) ∷ idents (views (gs ⊕ m)) else []) (name_is g h.0)
    ∙ ap (λ z. named (view g) ∷ z) (idents_names gs m h.1)

pub unnamed_join : (gs m : Held) → Each (λ g. is_ident (view g) ≡ false) gs → IsUnnamed (views m) → IsUnnamed (views
    (gs ⊕ m))
unnamed_join end m h k = k
unnamed_join (tok t gs) m h k = unnamed_join gs m h k
unnamed_join (sub g gs) m h k = h.0

-- ---- `self`

self_first_is : (v : Syn) (rest : Syns) → self_first (a_syn v rest) ≡ no_self rest
self_first_is (syn at (AParam (SelfParam receiver))) rest = refl
self_first_is (syn at form) rest = refl

pub params_free : (gs : Held) → Each (IsParam false) gs → IsTrue (no_self (views gs))
params_free end h = refl
params_free (tok t gs) h = params_free gs h
params_free (sub g gs) h = h.0.other refl (views gs) ∙ params_free gs h.1

pub params_first : (self : Bool) (gs : Held) → EachBut (IsParam self) (IsParam false) gs → IsTrue (self_first (views gs))
params_first self end h = refl
params_first self (tok t gs) h = params_first self gs h
params_first self (sub g gs) h = self_first_is (view g) (views gs) ∙ params_free gs h.1

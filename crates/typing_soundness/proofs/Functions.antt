-- The rows of functions, methods, heads and closures.
use Rattle.std.proofs.Common.{◌≡◌, Bool, true, false, List, ◌∷◌, IsTrue, refl, sym, ap, ◌∙◌, subst}
use Rattle.std.specs.Prelude.{is_some}
use Rattle.mir_base.specs.declared.place_in_text.Pos.{Pos}
use Rattle.src_token.specs.declared.mark.Mark.{Mark}
use Rattle.src_token.specs.declared.token.Token.{Token}
use Rattle.src_token.specs.declared.word.Word.{Word as Keyword}
use Rattle.src_tree.specs.declared.kind.TokenKind.{TokenKind}
use Rattle.src_tree.specs.declared.row.GrammarRow.{GrammarRow}
use Rattle.src_tree.specs.Grammar as grammar
use Rattle.src_tree.specs.Layout.{node, end, tok, sub}
use Rattle.src_ast.specs.Syntax.{Syn, syn, Shape, AnExpression, AnItem, MoveOf, FnItem, Syns, no_syn, a_syn, MaybeSyn, nothing, just}
use Rattle.src_ast.specs.View.{view, made, tokens_in, views, has, is_ident, ident_in, label_name, named, idents, behind_idents, behind_params, fn_row, closure_row, syns_of}
use Rattle.typing_rules.specs.Items.{bodies_among}
use Rattle.typing_rules.specs.Written.{WrittenScope}
use Rattle.well_typed.specs.Claim.{Holds}
use Rattle.typing_soundness.specs.Closures.{BodySyn, closures_of, closures_in, closures_among, function_text}
use Rattle.typing_soundness.specs.Heads.{body_text, bodies_text}
use Rattle.typing_soundness.specs.Named.{is_own_name, head_named}
use Rattle.typing_soundness.specs.Shapes.{is_block, no_self, shaped, shaped_form, function_shaped}
use Rattle.typing_soundness.proofs.Due.{◌⊕◌, IsLoose, DuePart}
use Rattle.typing_soundness.proofs.Good.{Tree, Held, Tells, IsName, IsParam, IsExpr, IsBlock, IsMethod, RowIs, Each, EachBut}
use Rattle.typing_soundness.proofs.Lists.{◌⧺◌, views_join, silent_behind, behind_plain, behind_typed, behind_unnamed, behind_names, unnamed_join, IsUnnamed, params_free, params_first}
use Rattle.typing_soundness.proofs.Tokens.{IsPlain}
use Rattle.typing_soundness.proofs.Types.{EntryDue}
use Rattle.typing_soundness.proofs.Telling.{IsStill, of_quiet, of_name, tell_all, each_join, each_map, each_of, has_behind, still_tells}

-- ---- names

pub own_name : (g : Tree) → IsName g → IsTrue (is_own_name (named (view g)).1)
own_name g k = subst (λ v. IsTrue (is_own_name (named v).1)) (sym k.is) k.named.is_own

-- ---- closures

closure_is : (at : Pos) (parts : Held) (captures ps : Syns) (answer : MaybeSyn) (block : Syn) → made GrammarRow.Closure
    (tokens_in parts) (views parts) ≡ AnExpression (MoveOf captures ps answer block) → Each Tells parts → ((around : WrittenScope) (rest :
    List BodySyn) → closures_among around (views parts) rest ≡ closures_of around block rest) → IsTrue (is_block block)
    → IsTrue (no_self ps) → Holds (shaped block) → IsExpr (node at GrammarRow.Closure parts)
closure_is at parts captures ps answer block e h k b n s = record {
  tells = λ around rest.
      ap (λ x. body_text around (syn at x) (bodies_text around (bodies_among parts) rest)) e
      ∙ ap (body_text around (syn at (AnExpression (MoveOf captures ps answer block)))) (tell_all around parts h rest ∙ k around rest)
      ∙ sym (ap (λ x. closures_in around x rest) e);
  shape = subst (λ x. Holds (shaped_form x)) (sym e) (b, (n, s));
  no_name = ap (λ x. is_some (ident_in x)) e;
  no_label = ap (λ x. is_some (label_name x)) e;
}

pub param_still : (self : Bool) (gs : Held) → EachBut (IsParam self) (IsParam false) gs → Each IsStill gs
param_still self end h = tt
param_still self (tok t gs) h = param_still self gs h
param_still self (sub g gs) h = (of_quiet h.0.quiet, each_map (λ g k. of_quiet k.quiet) gs h.1)

abbrev arrow : TokenKind
arrow = TokenKind.Mark Mark.RArrow

-- a closure with what stands behind its captures
module _ (at : Pos) (gs m : Held) (names : Each IsName gs) (loose : IsLoose gs) (unnamed : IsUnnamed (views m)) (tells :
    Each Tells m) where
  abbrev whole : Held
  whole = tok (Token.Word Keyword.Move) (tok (Token.Mark Mark.OpenBracket) (gs ⊕ m))

  abbrev moves : Syns → MaybeSyn → Syn → Shape
  moves ps answer block = AnExpression (MoveOf (syns_of (idents (views (gs ⊕ m)))) ps answer block)

  behind : behind_idents (views (gs ⊕ m)) ≡ views m
  behind = behind_names gs m names ∙ behind_unnamed (views m) unnamed

  all_tell : Each Tells (gs ⊕ m)
  all_tell = each_join Tells gs m (each_map (λ g k. k.tells) gs names) tells

  module _ (ps : Syns) (b : Tree) (kb : IsBlock b) (no : IsTrue (no_self ps)) (silent : (around : WrittenScope) (rest : List
      BodySyn) → closures_among around (views m) rest ≡ closures_of around (view b) rest) where
    only_block : (around : WrittenScope) (rest : List BodySyn) → closures_among around (views whole) rest ≡ closures_of around
        (view b) rest
    only_block around rest =
        silent_behind around gs m (each_map (λ g k. of_name k) gs names) rest ∙ silent around rest

    closure_plain : has arrow (tokens_in m) ≡ false → views m ≡ ps ⧺ a_syn (view b) no_syn → IsExpr (node at GrammarRow.Closure
        whole)
    closure_plain a v =
        let is_row = ap (λ x. closure_row x (views (gs ⊕ m))) (has_behind arrow gs m refl refl loose ∙ a) in
        closure_is at whole (syns_of (idents (views (gs ⊕ m)))) ps nothing (view b) (is_row ∙ ap (behind_params false
        moves) (behind ∙ v) ∙ behind_plain moves ps (view b)) all_tell only_block kb.block no kb.expr.shape

    closure_typed : (ty : Syn) → has arrow (tokens_in m) ≡ true → views m ≡ ps ⧺ a_syn ty (a_syn (view b) no_syn) → IsExpr
        (node at GrammarRow.Closure whole)
    closure_typed ty a v =
        let is_row = ap (λ x. closure_row x (views (gs ⊕ m))) (has_behind arrow gs m refl refl loose ∙ a) in
        closure_is at whole (syns_of (idents (views (gs ⊕ m)))) ps (just ty) (view b) (is_row ∙ ap (behind_params true
        moves) (behind ∙ v) ∙ behind_typed moves ps ty (view b)) all_tell only_block kb.block no kb.expr.shape

param_named : (self : Bool) (gs : Held) → EachBut (IsParam self) (IsParam false) gs → Each (λ g. is_ident (view g) ≡
    false) gs
param_named self end h = tt
param_named self (tok t gs) h = param_named self gs h
param_named self (sub g gs) h = (h.0.quiet.no_name, each_map (λ g k. k.quiet.no_name) gs h.1)

pub closure_due : (at : Pos) (self : Bool) → DuePart self grammar.closure (λ r rest. RowIs self r (node at r (tok (Token.Word
    Keyword.Move) rest)))
closure_due at self = λ gs e l.
    let names = each_of IsName gs e in (
      (
        λ ty kt b kb.
            let m = tok (Token.Mark Mark.CloseBracket) (tok (Token.Mark Mark.OrOr) (tok (Token.Mark Mark.RArrow) (sub ty
            (sub b end)))) in
            closure_typed at gs m names l kt.no_name (kt.tells, (kb.expr.tells, tt)) no_syn b kb refl (λ a r. kt.silent
            a _) (view ty) refl refl,
        λ b kb.
            let m = tok (Token.Mark Mark.CloseBracket) (tok (Token.Mark Mark.OrOr) (sub b end)) in
            closure_plain at gs m names l kb.expr.no_name (kb.expr.tells, tt) no_syn b kb refl (λ a r. refl) refl refl,
      ),
      λ qs d n.
          let still = param_still false qs d in
          let free = params_free qs (each_of (IsParam false) qs d) in (
            λ ty kt b kb.
                let tail = tok (Token.Mark Mark.Or) (tok (Token.Mark Mark.RArrow) (sub ty (sub b end))) in
                let m = tok (Token.Mark Mark.CloseBracket) (tok (Token.Mark Mark.Or) (qs ⊕ tail)) in
                closure_typed at gs m names l (unnamed_join qs tail (param_named false qs d) kt.no_name) (each_join Tells
                qs tail (still_tells qs still) (kt.tells, (kb.expr.tells, tt))) (views qs) b kb free (λ a r. silent_behind
                a qs tail still r ∙ kt.silent a _) (view ty) (has_behind arrow qs tail refl refl n) (views_join qs tail),
            λ b kb.
                let tail = tok (Token.Mark Mark.Or) (sub b end) in
                let m = tok (Token.Mark Mark.CloseBracket) (tok (Token.Mark Mark.Or) (qs ⊕ tail)) in
                closure_plain at gs m names l (unnamed_join qs tail (param_named false qs d) kb.expr.no_name) (each_join
                Tells qs tail (still_tells qs still) (kb.expr.tells, tt)) (views qs) b kb free (λ a r. silent_behind a
                qs tail still r) (has_behind arrow qs tail refl refl n) (views_join qs tail),
          ),
    )

-- ---- functions, methods and heads

-- with the name, parentheses and parameters of a function
abbrev pub Headed : Tree → Held → Held → Held
Headed name gs m =
    tok (Token.Word Keyword.Fn) (sub name (tok (Token.Mark Mark.OpenParenthesis) (gs ⊕ tok (Token.Mark
    Mark.CloseParenthesis) m)))

module _ (at : Pos) (self : Bool) (name : Tree) (kn : IsName name) (gs : Held) (params : EachBut (IsParam self) (IsParam
    false) gs) (loose : IsLoose gs) where
  abbrev pub fn_form : Syns → MaybeSyn → Syn → Shape
  fn_form ps answer block = AnItem (FnItem (named (view name)) ps answer (just block))

  still_params : Each IsStill gs
  still_params = param_still self gs params

  pub has_arrow : (m : Held) → has arrow (tokens_in (Headed name gs m)) ≡ has arrow (tokens_in m)
  has_arrow m = has_behind arrow gs (tok (Token.Mark Mark.CloseParenthesis) m) refl refl loose

  -- a row with a block
  pub fn_plain : (b : Tree) → fn_row (has arrow (tokens_in (Headed name gs (sub b end)))) true (views (Headed name gs
      (sub b end))) ≡ fn_form (views gs) nothing (view b)
  fn_plain b =
      ap (λ x. fn_row x true (views (Headed name gs (sub b end)))) (has_arrow (sub b end))
      ∙ ap (behind_params false fn_form) (views_join gs (tok (Token.Mark Mark.CloseParenthesis) (sub b end)))
      ∙ behind_plain fn_form (views gs) (view b)

  pub fn_typed : (ty b : Tree) → fn_row (has arrow (tokens_in (Headed name gs (tok (Token.Mark Mark.RArrow) (sub ty (sub
      b end)))))) true (views (Headed name gs (tok (Token.Mark Mark.RArrow) (sub ty (sub b end))))) ≡ fn_form (views
      gs) (just (view ty)) (view b)
  fn_typed ty b =
      let m = tok (Token.Mark Mark.RArrow) (sub ty (sub b end)) in
      ap (λ x. fn_row x true (views (Headed name gs m))) (has_arrow m)
      ∙ ap (behind_params true fn_form) (views_join gs (tok (Token.Mark Mark.CloseParenthesis) m))
      ∙ behind_typed fn_form (views gs) (view ty) (view b)

  -- bodies and form of a function with its block
  pub fn_tells : (m : Held) (b : Tree) → IsBlock b → Each Tells m → ((around : WrittenScope) (rest : List BodySyn) → closures_among
      around (views m) rest ≡ closures_of around (view b) rest) → (answer : MaybeSyn) (form : Shape) → form ≡ fn_form
      (views gs) answer (view b) → (around : WrittenScope) (rest : List BodySyn) → bodies_text around (syn at form ∷
      bodies_among (Headed name gs m)) rest ≡ function_text around (syn at form) rest
  fn_tells m b kb h k answer form e around rest =
      let tail = tok (Token.Mark Mark.CloseParenthesis) m in
      let inside = tell_all around (Headed name gs m) (kn.tells, each_join Tells gs tail (still_tells gs still_params) h)
      rest ∙ kn.silent around _ ∙ silent_behind around gs tail still_params rest ∙ k around rest in
      ap (λ x. body_text around (syn at x) (bodies_text around (bodies_among (Headed name gs m)) rest)) e
      ∙ ap (body_text around (syn at (fn_form (views gs) answer (view b)))) inside
      ∙ sym (ap (λ x. function_text around (syn at x) rest) e)

  pub fn_shape : (b : Tree) → IsBlock b → (answer : MaybeSyn) (form : Shape) → form ≡ fn_form (views gs) answer (view b) →
      Holds (function_shaped (syn at form))
  fn_shape b kb answer form e =
      subst (λ x. Holds (function_shaped (syn at x))) (sym e) (params_first self gs params, (kb.block, kb.expr.shape))

  pub method_is : (m : Held) (b : Tree) → IsBlock b → Each Tells m → ((around : WrittenScope) (rest : List BodySyn) →
      closures_among around (views m) rest ≡ closures_of around (view b) rest) → (answer : MaybeSyn) → made GrammarRow.Method
      (tokens_in (Headed name gs m)) (views (Headed name gs m)) ≡ fn_form (views gs) answer (view b) → IsMethod (node at
      GrammarRow.Method (Headed name gs m))
  method_is m b kb h k answer e = record {
    tells = fn_tells m b kb h k answer _ e;
    no_name = ap (λ x. is_some (ident_in x)) e;
    shape = fn_shape b kb answer _ e;
    name = subst (λ x. Holds (head_named (syn at x))) (sym e) (own_name name kn);
  }

pub method_due : (at : Pos) (self : Bool) (t : Token) → IsPlain t → EntryDue at self t (grammar.method t)
method_due at self (Token.Word Keyword.Fn) p = λ name kn gs e l. (
  λ ty kt b kb. method_is at true name kn gs e l (tok (Token.Mark Mark.RArrow) (sub ty (sub b end))) b kb (
    kt.tells,
    (kb.expr.tells, tt),
  ) (λ a r. kt.silent a _) (just (view ty)) (fn_typed at true name kn gs e l ty b),
  λ b kb. method_is at true name kn gs e l (sub b end) b kb (kb.expr.tells, tt) (λ a r. refl) nothing (fn_plain at true
      name kn gs e l b),
)
method_due at self _ p = tt

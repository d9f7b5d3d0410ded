-- What is so of a row, from what is so of its parts.
use Rattle.std.proofs.Common.{◌≡◌, false, ◌||◌, List, [], ◌∷◌, ◌++◌, IsTrue, refl, sym, ap, ◌∙◌}
use Rattle.std.specs.Prelude.{is_some}
use Rattle.mir_base.specs.declared.place_in_text.Pos.{Pos}
use Rattle.src_token.specs.declared.mark.Mark.{Mark}
use Rattle.src_token.specs.declared.token.Token.{Token}
use Rattle.src_tree.specs.declared.kind.TokenKind.{TokenKind}
use Rattle.src_tree.specs.declared.row.GrammarRow.{GrammarRow}
use Rattle.src_tree.specs.Grammar.{is}
use Rattle.src_tree.specs.Layout.{node, end, tok, sub}
use Rattle.src_ast.specs.Syntax.{Syn, syn}
use Rattle.src_ast.specs.View.{view, views, made, tokens_in, has, ident_in, label_name}
use Rattle.typing_rules.specs.Items.{bodies_in, bodies_among, is_body_row, with_body}
use Rattle.typing_rules.specs.Written.{WrittenScope}
use Rattle.well_typed.specs.Claim.{Holds}
use Rattle.typing_soundness.specs.Closures.{BodySyn, closures_in, closures_among}
use Rattle.typing_soundness.specs.Heads.{body_text, bodies_text}
use Rattle.typing_soundness.specs.Named.{field_named}
use Rattle.typing_soundness.specs.Shapes.{shaped_form}
use Rattle.typing_soundness.proofs.Due.{◌⊕◌, IsLoose, is_loose}
use Rattle.typing_soundness.proofs.Good.{Tree, Held, Tells, IsSilent, IsName, IsQuiet, IsExpr, Each, EachBut}

pub text_join : (around : WrittenScope) (xs ys : List Syn) (rest : List BodySyn) → bodies_text around (xs ++ ys) rest ≡
    bodies_text around xs (bodies_text around ys rest)
text_join around [] ys rest = refl
text_join around (x ∷ xs) ys rest = ap (body_text around x) (text_join around xs ys rest)

pub tell_all : (around : WrittenScope) (parts : Held) → Each Tells parts → (rest : List BodySyn) → bodies_text around
    (bodies_among parts) rest ≡ closures_among around (views parts) rest
tell_all around end h rest = refl
tell_all around (tok t parts) h rest = tell_all around parts h rest
tell_all around (sub g parts) h rest =
    text_join around (bodies_in g) (bodies_among parts) rest ∙ ap (bodies_text around (bodies_in g)) (tell_all around
    parts h.1 rest) ∙ h.0 around (closures_among around (views parts) rest)

pub silent_all : (around : WrittenScope) (parts : Held) → Each IsSilent parts → (rest : List BodySyn) → closures_among around
    (views parts) rest ≡ rest
silent_all around end h rest = refl
silent_all around (tok t parts) h rest = silent_all around parts h rest
silent_all around (sub g parts) h rest =
    h.0 around (closures_among around (views parts) rest) ∙ silent_all around parts h.1 rest

-- ---- parts

pub each_join : (F : Tree → Type 0) (gs m : Held) → Each F gs → Each F m → Each F (gs ⊕ m)
each_join F end m h k = k
each_join F (tok t gs) m h k = each_join F gs m h k
each_join F (sub g gs) m h k = (h.0, each_join F gs m h.1 k)

pub each_map : {F G : Tree → Type 0} → ((g : Tree) → F g → G g) → (gs : Held) → Each F gs → Each G gs
each_map f end h = tt
each_map f (tok t gs) h = each_map f gs h
each_map f (sub g gs) h = (f g h.0, each_map f gs h.1)

pub each_of : (F : Tree → Type 0) (gs : Held) → EachBut F F gs → Each F gs
each_of F end h = tt
each_of F (tok t gs) h = each_of F gs h
each_of F (sub g gs) h = h

-- without closures and bodies
pub record IsStill (g : Tree) : Type 0 where
  pub tells : Tells g
  pub silent : IsSilent g

pub of_quiet : {g : Tree} → IsQuiet g → IsStill g
of_quiet h = record { tells = h.tells; silent = h.silent }

pub of_name : {g : Tree} → IsName g → IsStill g
of_name h = record { tells = h.tells; silent = h.silent }

pub quiet_list : (gs : Held) (close : Token) → EachBut IsQuiet IsQuiet gs → Each IsStill (gs ⊕ tok close end)
quiet_list gs close h = each_join IsStill gs (tok close end) (each_map (λ g k. of_quiet k) gs (each_of IsQuiet gs h)) tt

pub still_tells : (gs : Held) → Each IsStill gs → Each Tells gs
still_tells gs h = each_map (λ g k. k.tells) gs h

pub still_silent : (gs : Held) → Each IsStill gs → Each IsSilent gs
still_silent gs h = each_map (λ g k. k.silent) gs h

-- tokens between the parts of a list say nothing
apart_loose : (kind : TokenKind) (t : Token) → is kind (Token.Mark Mark.Comma) ≡ false → is kind (Token.Mark
    Mark.DotDot) ≡ false → IsTrue (is_loose t) → is kind t ≡ false
apart_loose kind (Token.Mark Mark.Comma) a b l = a
apart_loose kind (Token.Mark Mark.DotDot) a b l = b
apart_loose kind _ a b l = absurd (cc)

pub has_behind : (kind : TokenKind) (gs m : Held) → is kind (Token.Mark Mark.Comma) ≡ false → is kind (Token.Mark
    Mark.DotDot) ≡ false → IsLoose gs → has kind (tokens_in (gs ⊕ m)) ≡ has kind (tokens_in m)
has_behind kind end m a b l = refl
has_behind kind (tok t gs) m a b l =
    ap (λ z. z || has kind (tokens_in (gs ⊕ m))) (apart_loose kind t a b l.0) ∙ has_behind kind gs m a b l.1
has_behind kind (sub g gs) m a b l = has_behind kind gs m a b l

-- ---- rows

module _ (at : Pos) (r : GrammarRow) (parts : Held) where
  pub no_body : (around : WrittenScope) → is_body_row r ≡ false → (rest : List BodySyn) → bodies_text around (bodies_in (node at r
      parts)) rest ≡ bodies_text around (bodies_among parts) rest
  no_body around e rest = ap (λ b. bodies_text around (with_body b (view (node at r parts)) (bodies_among parts)) rest) e

  pub row_tells : is_body_row r ≡ false → Each Tells parts → ((around : WrittenScope) (rest : List BodySyn) → closures_among
      around (views parts) rest ≡ closures_in around (made r (tokens_in parts) (views parts)) rest) → Tells (node at r
      parts)
  row_tells e h k around rest = no_body around e rest ∙ tell_all around parts h rest ∙ k around rest

module _ {at : Pos} {r : GrammarRow} {parts : Held} where
  pub quiet : is_body_row r ≡ false → Each IsStill parts → ((around : WrittenScope) (rest : List BodySyn) → closures_in around
      (made r (tokens_in parts) (views parts)) rest ≡ rest) → is_some (ident_in (made r (tokens_in parts) (views
      parts))) ≡ false → Holds (field_named (syn at (made r (tokens_in parts) (views parts)))) → IsQuiet (node at r parts)
  quiet e h k n f = record {
    tells = row_tells at r parts e (still_tells parts h) (λ around rest. silent_all around parts (still_silent parts h) rest ∙ sym (k
        around rest));
    silent = k;
    no_name = n;
    field = f;
  }

  pub expr : is_body_row r ≡ false → Each Tells parts → ((around : WrittenScope) (rest : List BodySyn) → closures_among
      around (views parts) rest ≡ closures_in around (made r (tokens_in parts) (views parts)) rest) → Holds (shaped_form
      (made r (tokens_in parts) (views parts))) → is_some (ident_in (made r (tokens_in parts) (views parts))) ≡ false →
      is_some (label_name (made r (tokens_in parts) (views parts))) ≡ false → IsExpr (node at r parts)
  expr e h k s n l = record {
    tells = row_tells at r parts e h k;
    shape = s;
    no_name = n;
    no_label = l;
  }

-- The rows of items: what they list, and how they are shaped.
use Rattle.std.proofs.Common.{◌≡◌, Bool, true, false, List, [], ◌∷◌, ◌++◌, Option, Some, None, IsTrue, refl, sym, ap, ◌∙◌, subst, if◌then◌else◌}
use Rattle.std.specs.Prelude.{is_some}
use Rattle.mir_base.specs.declared.place_in_text.Pos.{Pos}
use Rattle.src_token.specs.declared.mark.Mark.{Mark}
use Rattle.src_token.specs.declared.token.Token.{Token}
use Rattle.src_token.specs.declared.word.Word.{Word as Keyword}
use Rattle.src_tree.specs.declared.kind.TokenKind.{TokenKind}
use Rattle.src_tree.specs.declared.row.GrammarRow.{GrammarRow}
use Rattle.src_tree.specs.declared.row.Sort.{Sort}
use Rattle.src_tree.specs.Grammar as grammar
use Rattle.src_tree.specs.Layout.{node, end, tok, sub}
use Rattle.src_ast.specs.Syntax.{Named, FieldsKind, Syn, syn, Shape, AnItem, StructItem, EnumItem, ImplItem, FnItem, Syns, no_syn, a_syn, list_of, MaybeSyn, nothing, just}
use Rattle.src_ast.specs.View.{view, made, tokens_in, views, has_mark, ident_in, named, idents, behind_idents, last_of, but_last, fn_row, with_last_name, kind_of, kind_by, behind_word, impl_row}
use Rattle.typing_rules.specs.Items.{bodies_in, bodies_among, is_body_row}
use Rattle.typing_rules.specs.Promises.{is_plain_name}
use Rattle.typing_rules.specs.Written.{WrittenScope}
use Rattle.well_typed.specs.Claim.{Holds, each}
use Rattle.typing_soundness.specs.Closures.{BodySyn, closures_of, closures_in, closures_among, functions_text, function_text}
use Rattle.typing_soundness.specs.Heads.{bodies_text, inner_text}
use Rattle.typing_soundness.specs.Named.{is_type_name, is_own_name, field_named, variant_named, head_named, item_named}
use Rattle.typing_soundness.specs.Shapes.{has_kind, function_shaped, variant_shaped, item_shaped}
use Rattle.typing_soundness.proofs.Due.{◌⊕◌, IsLoose, is_loose, DuePart}
use Rattle.typing_soundness.proofs.Functions.{own_name, Headed, fn_plain, fn_typed, fn_tells, has_arrow, param_still}
use Rattle.typing_soundness.proofs.Good.{Tree, Held, Tells, IsName, IsQuiet, IsParam, IsBlock, IsMethod, IsHead, IsVariant, IsItem, RowIs, Each, EachBut}
use Rattle.typing_soundness.proofs.Lists.{◌⧺◌, views_join, join_none, last_one, but_one, behind_unnamed, behind_names, idents_names, idents_unnamed, names_in, unnamed_join, IsUnnamed, params_first}
use Rattle.typing_soundness.proofs.Telling.{IsStill, no_body, quiet_list, of_quiet, of_name, quiet, tell_all, silent_all, each_join, each_map, each_of, has_behind, still_tells, still_silent, text_join}
use Rattle.typing_soundness.proofs.Tokens.{IsPlain}
use Rattle.typing_soundness.proofs.Types.{EntryDue}

-- ---- names

plain_name : (g : Tree) → IsName g → IsTrue (is_plain_name (named (view g)).1)
plain_name g k = subst (λ v. IsTrue (is_plain_name (named v).1)) (sym k.is) k.named.plain

type_name : (g : Tree) → IsName g → IsTrue (is_type_name (named (view g)).1)
type_name g k = subst (λ v. IsTrue (is_type_name (named v).1)) (sym k.is) k.named.is_type

-- ---- heads of traits

head_is : (at : Pos) (name : Tree) (kn : IsName name) (gs m : Held) → EachBut (IsParam true) (IsParam false) gs → Each
    IsStill m → (answer : MaybeSyn) → made GrammarRow.Head (tokens_in (Headed name gs m)) (views (Headed name gs m)) ≡ AnItem (FnItem
    (named (view name)) (views gs) answer nothing) → IsHead (node at GrammarRow.Head (Headed name gs m))
head_is at name kn gs m params still answer e =
    let tail = tok (Token.Mark Mark.CloseParenthesis) m in
    record {
      quiet = quiet refl (of_name kn, each_join IsStill gs tail (param_still true gs params) still) (λ a r. ap (λ x.
          closures_in a x r) e) (ap (λ x. is_some (ident_in x)) e) (subst (λ x. Holds (field_named (syn at x))) (sym e) refl);
      shape = subst (λ x. Holds (function_shaped (syn at x))) (sym e) (params_first true gs params, refl);
      name = subst (λ x. Holds (head_named (syn at x))) (sym e) (own_name name kn);
    }

pub head_due : (at : Pos) (self : Bool) (t : Token) → IsPlain t → EntryDue at self t (grammar.head t)
head_due at self (Token.Word Keyword.Fn) p = λ name kn gs e l.
    let form = λ (ps : Syns) (answer : MaybeSyn). AnItem (FnItem (named (view name)) ps answer nothing) in (
      λ ty kt.
          let m = tok (Token.Mark Mark.RArrow) (sub ty (tok (Token.Mark Mark.Semi) end)) in
          let joined = views_join gs (tok (Token.Mark Mark.CloseParenthesis) m) in
          head_is at name kn gs m e (of_quiet kt, tt) (just (view ty))
          (ap (λ x. fn_row x false (views (Headed name gs m))) (has_arrow at true name kn gs e l m)
          ∙ ap (λ x. form (but_last x) (last_of x)) joined
          ∙ ap (λ x. form x (last_of (views gs ⧺ a_syn (view ty) no_syn))) (but_one (views gs) (view ty))
          ∙ ap (form (views gs)) (last_one (views gs) (view ty))),
      (
          let m = tok (Token.Mark Mark.Semi) end in
          let joined = views_join gs (tok (Token.Mark Mark.CloseParenthesis) m) ∙ join_none (views gs) in
          head_is at name kn gs m e tt nothing
          (ap (λ x. fn_row x false (views (Headed name gs m))) (has_arrow at true name kn gs e l m)
          ∙ ap (λ x. form x nothing) joined)),
    )
head_due at self _ p = tt

-- ---- functions that are items

fn_both : (at : Pos) (form : Shape) (name : Named) (ps : Syns) (answer block : MaybeSyn) → form ≡ AnItem (FnItem name ps answer
    block) → (around : WrittenScope) (rest : List BodySyn) → function_text around (syn at form) rest ≡ inner_text around (syn at
    form) rest
fn_both at form name ps answer block e around rest =
    ap (λ x. function_text around (syn at x) rest) e ∙ sym (ap (λ x. inner_text around (syn at x) rest) e)

fn_is : (at : Pos) (name : Tree) (kn : IsName name) (gs : Held) (params : EachBut (IsParam false) (IsParam false) gs)
    (loose : IsLoose gs) (m : Held) (b : Tree) → IsBlock b → Each Tells m → ((around : WrittenScope) (rest : List BodySyn) →
    closures_among around (views m) rest ≡ closures_of around (view b) rest) → (answer : MaybeSyn) → made GrammarRow.Fn
    (tokens_in (Headed name gs m)) (views (Headed name gs m)) ≡ AnItem (FnItem (named (view name)) (views gs) answer (just (view
    b))) → IsItem (node at GrammarRow.Fn (Headed name gs m))
fn_is at name kn gs params loose m b kb h k answer e = record {
  tells = λ around rest. fn_tells at false name kn gs params loose m b kb h k answer _ e around rest ∙ fn_both at _ _ _ _
      _ e around rest;
  shape = subst (λ x. Holds (item_shaped (syn at x))) (sym e) (params_first false gs params, (kb.block, kb.expr.shape));
  names = subst (λ x. Holds (item_named (syn at x))) (sym e) (own_name name kn);
}

fn_due : (at : Pos) (self : Bool) → DuePart self (grammar.head_rest false (grammar.part grammar.block (grammar.ends
    GrammarRow.Fn))) (λ r rest. RowIs self r (node at r (tok (Token.Word Keyword.Fn) rest)))
fn_due at self = λ name kn gs e l. (
  λ ty kt b kb. fn_is at name kn gs e l (tok (Token.Mark Mark.RArrow) (sub ty (sub b end))) b kb (
    kt.tells,
    (kb.expr.tells, tt),
  ) (λ a r. kt.silent a _) (just (view ty)) (fn_typed at false name kn gs e l ty b),
  λ b kb. fn_is at name kn gs e l (sub b end) b kb (kb.expr.tells, tt) (λ a r. refl) nothing (fn_plain at false name kn
      gs e l b),
)

-- ---- variants

some_kind : (b : Bool) (ss : Syns) → IsTrue (has_kind (kind_by b true) ss)
some_kind true ss = refl
some_kind false ss = refl

-- names of fields, where there are any
fields_named : (gs : Held) → Each IsQuiet gs → Holds (each field_named (list_of (views gs)))
fields_named end h = refl
fields_named (tok t gs) h = fields_named gs h
fields_named (sub g gs) h = (h.0.field, fields_named gs h.1)

with_mark : (gs : Held) (t : Token) → EachBut IsQuiet IsQuiet gs → Holds (each field_named (list_of (views (gs ⊕ tok t end))))
with_mark gs t e = fields_named (gs ⊕ tok t end) (each_join IsQuiet gs (tok t end) (each_of IsQuiet gs e) tt)

pub variant_due : (at : Pos) (self : Bool) (t : Token) → IsPlain t → EntryDue at self t (grammar.variant t)
variant_due at self (Token.Name n) p = (
  λ gs e l.
      let parts = gs ⊕ tok (Token.Mark Mark.CloseParenthesis) end in
      record {
        quiet = quiet refl (quiet_list gs _ e) (λ a r. refl) refl refl;
        shape = some_kind (has_mark Mark.OpenBrace (tokens_in parts)) (views parts);
        name = (p.is_word, with_mark gs (Token.Mark Mark.CloseParenthesis) e);
      },
  (
    λ gs e l. record { quiet = quiet refl (quiet_list gs _ e) (λ a r. refl) refl refl; shape = refl; name = (p.is_word, with_mark gs (Token.Mark Mark.CloseBrace) e) },
    record { quiet = quiet refl tt (λ a r. refl) refl refl; shape = refl; name = (p.is_word, refl) },
  ),
)
variant_due at self _ p = tt

-- ---- structs and enums

last_name_is : (f : List Named → Named → Shape) (ds : List Named) (n : Named) → with_last_name f (ds ++ n ∷ []) ≡ f ds n
last_name_is f [] n = refl
last_name_is f (d ∷ []) n = refl
last_name_is f (d ∷ e ∷ ds) n = last_name_is (λ earlier. f (d ∷ earlier)) (e ∷ ds) n

apart_word : (w : Keyword) (t : Token) → IsTrue (is_loose t) → grammar.is (TokenKind.Word w) t ≡ false
apart_word w (Token.Mark m) l = refl
apart_word w _ l = absurd (cc)

word_behind : (w : Keyword) (gs m : Held) → IsLoose gs → behind_word w (tokens_in (gs ⊕ m)) ≡ behind_word w (tokens_in m)
word_behind w end m l = refl
word_behind w (tok t gs) m l =
    ap (λ b. if b then tokens_in (gs ⊕ m) else behind_word w (tokens_in (gs ⊕ m))) (apart_word w t l.0)
    ∙ word_behind w gs m l.1
word_behind w (sub g gs) m l = word_behind w gs m l

-- an item without bodies
still_item : (at : Pos) (r : GrammarRow) (parts : Held) → is_body_row r ≡ false → Each IsStill parts → ((around : WrittenScope) (rest
    : List BodySyn) → inner_text around (syn at (made r (tokens_in parts) (views parts))) rest ≡ rest) → (around :
    WrittenScope) (rest : List BodySyn) → bodies_text around (bodies_in (node at r parts)) rest ≡ inner_text around (view (node
    at r parts)) rest
still_item at r parts e h k around rest =
    no_body at r parts around e rest ∙ tell_all around parts (still_tells parts h) rest ∙ silent_all around parts
    (still_silent parts h) rest ∙ sym (k around rest)

struct_is : (at : Pos) (parts m : Held) (ds : List Named) (name : Tree) → IsName name → Each IsStill parts → idents
    (views parts) ≡ ds ++ named (view name) ∷ [] → behind_idents (views parts) ≡ views m → behind_word Keyword.Struct
    (tokens_in parts) ≡ tokens_in m → IsTrue (has_kind (kind_of (tokens_in m)) (views m)) → Each IsQuiet m → IsItem
    (node at GrammarRow.Struct parts)
struct_is at parts m ds name kn still is_named is_behind is_word kind quiets =
    let form = λ (kind : FieldsKind) (fields : Syns) (ds : List Named) (n : Named). AnItem (StructItem ds n kind fields) in
    let e = ap (with_last_name (form (kind_of (behind_word Keyword.Struct (tokens_in parts))) (behind_idents (views
    parts)))) is_named ∙ last_name_is (form (kind_of (behind_word Keyword.Struct (tokens_in parts))) (behind_idents (views
    parts))) ds (named (view name)) ∙ ap (λ x. AnItem (StructItem ds (named (view name)) (kind_of x) (behind_idents (views
    parts)))) is_word ∙ ap (λ z. AnItem (StructItem ds (named (view name))
    (kind_of (tokens_in m)) z)) is_behind in
    record {
      tells = still_item at GrammarRow.Struct parts refl still (λ a r. ap (λ x. inner_text a (syn at x) r) e);
      shape = subst (λ x. Holds (item_shaped (syn at x))) (sym e) (plain_name name kn, kind);
      names = subst (λ x. Holds (item_named (syn at x))) (sym e) (type_name name kn, (own_name name kn, fields_named m quiets));
    }

all_variants : (gs : Held) → Each IsVariant gs → Holds (each variant_shaped (list_of (views gs)))
all_variants end h = refl
all_variants (tok t gs) h = all_variants gs h
all_variants (sub g gs) h = (h.0.shape, all_variants gs h.1)

variants_named : (gs : Held) → Each IsVariant gs → Holds (each variant_named (list_of (views gs)))
variants_named end h = refl
variants_named (tok t gs) h = variants_named gs h
variants_named (sub g gs) h = (h.0.name, variants_named gs h.1)

enum_is : (at : Pos) (parts m : Held) (ds : List Named) (name : Tree) → IsName name → Each IsStill parts → idents (views
    parts) ≡ ds ++ named (view name) ∷ [] → behind_idents (views parts) ≡ views m → Each IsVariant m → IsItem (node at
    GrammarRow.Enum parts)
enum_is at parts m ds name kn still is_named is_behind variants =
    let form = λ (ds : List Named) (n : Named). AnItem (EnumItem ds n (behind_idents (views parts))) in
    let e = ap (with_last_name form) is_named ∙ last_name_is form ds (named (view name)) ∙ ap (λ z. AnItem (EnumItem ds
    (named (view name)) z)) is_behind in
    record {
      tells = still_item at GrammarRow.Enum parts refl still (λ a r. ap (λ x. inner_text a (syn at x) r) e);
      shape = subst (λ x. Holds (item_shaped (syn at x))) (sym e) (plain_name name kn, all_variants m variants);
      names = subst (λ x. Holds (item_named (syn at x))) (sym e) (type_name name kn, (own_name name kn, variants_named m variants));
    }

-- the name of an item, and with what is derived before it
module _ (name : Tree) (kn : IsName name) where
  own_names : (m : Held) → IsUnnamed (views m) → idents (views (sub name m)) ≡ named (view name) ∷ []
  own_names m u = idents_names (sub name end) m (kn, tt) ∙ ap (λ z. named (view name) ∷ z) (idents_unnamed (views m) u)

  own_behind : (m : Held) → IsUnnamed (views m) → behind_idents (views (sub name m)) ≡ views m
  own_behind m u = behind_names (sub name end) m (kn, tt) ∙ behind_unnamed (views m) u

  module _ (gs : Held) (names : Each IsName gs) (t u v : Token) where
    abbrev listed : Held → Held
    listed m = gs ⊕ tok t (tok u (tok v (sub name m)))

    listed_names : (m : Held) → IsUnnamed (views m) → idents (views (listed m)) ≡ names_in gs ++ named (view name) ∷ []
    listed_names m u =
        idents_names gs _ names ∙ ap (λ z. names_in gs ++ z) (own_names m u)

    listed_behind : (m : Held) → IsUnnamed (views m) → behind_idents (views (listed m)) ≡ views m
    listed_behind m u = behind_names gs _ names ∙ own_behind m u

    listed_still : (m : Held) → Each IsStill m → Each IsStill (listed m)
    listed_still m h = each_join IsStill gs _ (each_map (λ g k. of_name k) gs names) (of_name kn, h)

quiet_unnamed : (gs m : Held) → Each IsQuiet gs → IsUnnamed (views m) → IsUnnamed (views (gs ⊕ m))
quiet_unnamed gs m h u = unnamed_join gs m (each_map (λ g k. k.no_name) gs h) u

-- a struct and an enum by themselves
struct_due : (at : Pos) (self : Bool) → DuePart self grammar.struct_rest (λ r rest. RowIs self r (node at r (tok (Token.Word
    Keyword.Struct) rest)))
struct_due at self = λ name kn. (
  struct_is at _ (tok (Token.Mark Mark.Semi) end) [] name kn (of_name kn, tt) (own_names name kn (tok (Token.Mark
      Mark.Semi) end) tt) (own_behind name kn (tok (Token.Mark Mark.Semi) end) tt) refl refl tt,
  (
    λ gs e l.
        let tail = tok (Token.Mark Mark.CloseParenthesis) (tok (Token.Mark Mark.Semi) end) in
        let m = tok (Token.Mark Mark.OpenParenthesis) (gs ⊕ tail) in
        let all = each_of IsQuiet gs e in
        let u = quiet_unnamed gs tail all tt in
        struct_is at _ m [] name kn (of_name kn, each_join IsStill gs tail (each_map (λ g k. of_quiet k) gs all) tt)
        (own_names name kn m u) (own_behind name kn m u) refl (some_kind (has_mark Mark.OpenBrace (tokens_in (gs ⊕
        tail))) (views (gs ⊕ tail))) (each_join IsQuiet gs tail all tt),
    λ gs e l.
        let tail = tok (Token.Mark Mark.CloseBrace) end in
        let m = tok (Token.Mark Mark.OpenBrace) (gs ⊕ tail) in
        let all = each_of IsQuiet gs e in
        let u = quiet_unnamed gs tail all tt in
        struct_is at _ m [] name kn (of_name kn, quiet_list gs _ e) (own_names name kn m u) (own_behind name kn m u) refl
        refl (each_join IsQuiet gs tail all tt),
  ),
)

enum_due : (at : Pos) (self : Bool) → DuePart self grammar.enum_rest (λ r rest. RowIs self r (node at r (tok (Token.Word
    Keyword.Enum) rest)))
enum_due at self = λ name kn gs e l.
    let tail = tok (Token.Mark Mark.CloseBrace) end in
    let m = tok (Token.Mark Mark.OpenBrace) (gs ⊕ tail) in
    let all = each_of IsVariant gs e in
    let u = quiet_unnamed gs tail (each_map (λ g k. k.quiet) gs all) tt in
    enum_is at _ m [] name kn (of_name kn, each_join IsStill gs tail (each_map (λ g k. of_quiet k.quiet) gs all) tt)
    (own_names name kn m u) (own_behind name kn m u) (each_join IsVariant gs tail all tt)

-- with what is derived
derived_due : (at : Pos) (self : Bool) → DuePart self grammar.derived (λ r rest. RowIs self r (node at r (tok (Token.Mark
    Mark.Pound) rest)))
derived_due at self = λ d ns f k.
    let names = each_of IsName ns f in
    let close = Token.Mark Mark.CloseParenthesis in
    let behind = Token.Mark Mark.CloseBracket in
    let s = Token.Word Keyword.Struct in
    let t = Token.Word Keyword.Enum in (
      λ name kn. (
        let m = tok (Token.Mark Mark.Semi) end in
            struct_is at _ m (names_in ns) name kn (listed_still name kn ns names close behind s m tt) (listed_names name kn
            ns names close behind s m tt) (listed_behind name kn ns names close behind s m tt) (word_behind Keyword.Struct
            ns _ k) refl tt,
        (
          λ gs e l.
              let tail = tok (Token.Mark Mark.CloseParenthesis) (tok (Token.Mark Mark.Semi) end) in
              let m = tok (Token.Mark Mark.OpenParenthesis) (gs ⊕ tail) in
              let all = each_of IsQuiet gs e in
              let u = quiet_unnamed gs tail all tt in
              struct_is at _ m (names_in ns) name kn (listed_still name kn ns names close behind s m (each_join IsStill gs
              tail (each_map (λ g k. of_quiet k) gs all) tt)) (listed_names name kn ns names close behind s m u)
              (listed_behind name kn ns names close behind s m u) (word_behind Keyword.Struct ns _ k) (some_kind (has_mark
              Mark.OpenBrace (tokens_in (gs ⊕ tail))) (views (gs ⊕ tail))) (each_join IsQuiet gs tail all tt),
          λ gs e l.
              let tail = tok (Token.Mark Mark.CloseBrace) end in
              let m = tok (Token.Mark Mark.OpenBrace) (gs ⊕ tail) in
              let all = each_of IsQuiet gs e in
              let u = quiet_unnamed gs tail all tt in
              struct_is at _ m (names_in ns) name kn (listed_still name kn ns names close behind s m (quiet_list gs _ e))
              (listed_names name kn ns names close behind s m u) (listed_behind name kn ns names close behind s m u)
              (word_behind Keyword.Struct ns _ k) refl (each_join IsQuiet gs tail all tt),
        ),
      ),
      λ name kn gs e l.
          let tail = tok (Token.Mark Mark.CloseBrace) end in
          let m = tok (Token.Mark Mark.OpenBrace) (gs ⊕ tail) in
          let all = each_of IsVariant gs e in
          let u = quiet_unnamed gs tail (each_map (λ g k. k.quiet) gs all) tt in
          enum_is at _ m (names_in ns) name kn (listed_still name kn ns names close behind t m (each_join IsStill gs tail
          (each_map (λ g k. of_quiet k.quiet) gs all) tt)) (listed_names name kn ns names close behind t m u)
          (listed_behind name kn ns names close behind t m u) (each_join IsVariant gs tail all tt),
    )

-- ---- traits and impls

all_heads : (gs : Held) → Each IsHead gs → Holds (each function_shaped (list_of (views gs)))
all_heads end h = refl
all_heads (tok t gs) h = all_heads gs h
all_heads (sub g gs) h = (h.0.shape, all_heads gs h.1)

heads_named : (gs : Held) → Each IsHead gs → Holds (each head_named (list_of (views gs)))
heads_named end h = refl
heads_named (tok t gs) h = heads_named gs h
heads_named (sub g gs) h = (h.0.name, heads_named gs h.1)

all_methods : (gs : Held) → Each IsMethod gs → Holds (each function_shaped (list_of (views gs)))
all_methods end h = refl
all_methods (tok t gs) h = all_methods gs h
all_methods (sub g gs) h = (h.0.shape, all_methods gs h.1)

methods_named : (gs : Held) → Each IsMethod gs → Holds (each head_named (list_of (views gs)))
methods_named end h = refl
methods_named (tok t gs) h = methods_named gs h
methods_named (sub g gs) h = (h.0.name, methods_named gs h.1)

methods_tell : (around : WrittenScope) (gs : Held) → Each IsMethod gs → (rest : List BodySyn) → bodies_text around
    (bodies_among gs) rest ≡ functions_text around (list_of (views gs)) rest
methods_tell around end h rest = refl
methods_tell around (tok t gs) h rest = methods_tell around gs h rest
methods_tell around (sub g gs) h rest =
    text_join around (bodies_in g) (bodies_among gs) rest ∙ ap (bodies_text around (bodies_in g)) (methods_tell around gs
    h.1 rest) ∙ h.0.tells around _

trait_due : (at : Pos) (self : Bool) → DuePart self (grammar.part grammar.a_name (grammar.mark Mark.OpenBrace (grammar.many
    (grammar.of_sort Sort.Head) (TokenKind.Mark Mark.CloseBrace) (grammar.ends GrammarRow.Trait)))) (λ r rest. RowIs self r
    (node at r (tok (Token.Word Keyword.Trait) rest)))
trait_due at self = λ name kn gs e l.
    let tail = tok (Token.Mark Mark.CloseBrace) end in
    record {
      tells = still_item at GrammarRow.Trait (tok (Token.Word Keyword.Trait) (sub name (tok (Token.Mark Mark.OpenBrace) (gs ⊕
          tail)))) refl (
            of_name kn,
            each_join IsStill gs tail (each_map (λ g k. of_quiet k.quiet)
                gs e) tt,
          ) (λ a r. refl);
      shape = all_heads (gs ⊕ tail) (each_join IsHead gs tail e tt);
      names = (own_name name kn, heads_named (gs ⊕ tail) (each_join IsHead gs tail e tt));
    }

skip_name : (around : WrittenScope) (name : Tree) → IsName name → (bodies : List Syn) (rest : List BodySyn) → bodies_text
    around (bodies_in name ++ bodies) rest ≡ bodies_text around bodies rest
skip_name around name kn bodies rest =
    text_join around (bodies_in name) bodies rest ∙ kn.tells around _ ∙ kn.silent around _

impl_is : (at : Pos) (parts m : Held) (trait_ : Option Named) (owner : Named) → IsTrue (is_own_name owner.1) → Each IsMethod m → made GrammarRow.Impl (tokens_in
    parts) (views parts) ≡ AnItem (ImplItem trait_ owner (views m)) → ((around : WrittenScope) (rest : List BodySyn) → bodies_text
    around (bodies_among parts) rest ≡ bodies_text around (bodies_among m) rest) → IsItem (node at GrammarRow.Impl parts)
impl_is at parts m trait_ owner own methods e h = record {
  tells = λ around rest.
      h around rest ∙ methods_tell around m methods rest ∙ sym (ap (λ x. inner_text around (syn at x) rest) e);
  shape = subst (λ x. Holds (item_shaped (syn at x))) (sym e) (all_methods m methods);
  names = subst (λ x. Holds (item_named (syn at x))) (sym e) (own, methods_named m methods);
}

impl_due : (at : Pos) (self : Bool) → DuePart self (grammar.part grammar.a_name (grammar.if_word Keyword.For (grammar.part
    grammar.a_name grammar.impl_rest) grammar.impl_rest)) (λ r rest. RowIs self r (node at r (tok (Token.Word
    Keyword.Impl) rest)))
impl_due at self = λ name kn. (
  λ other ko gs e l.
      let tail = tok (Token.Mark Mark.CloseBrace) end in
      let m = tok (Token.Mark Mark.OpenBrace) (gs ⊕ tail) in
      let u = unnamed_join gs tail (each_map (λ g k. k.no_name) gs e) tt in
      let front = sub name (tok (Token.Word Keyword.For) (sub other end)) in
      let is_named = idents_names front m (kn, (ko, tt)) ∙ ap (λ z. named (view name) ∷ named (view other) ∷ z)
      (idents_unnamed (views m) u) in
      let is_behind = behind_names front m (kn, (ko, tt)) ∙ behind_unnamed (views m) u in
      impl_is at _ m (Some (named (view name))) (named (view other)) (own_name other ko) (each_join IsMethod gs tail e tt)
      (ap (λ z. impl_row true z (behind_idents (views (front ⊕ m)))) is_named ∙ ap (λ z. AnItem (ImplItem (Some (named
      (view name))) (named (view other)) z)) is_behind) (λ a r. skip_name a name kn _ r ∙ skip_name a other ko _ r),
  λ gs e l.
      let tail = tok (Token.Mark Mark.CloseBrace) end in
      let m = tok (Token.Mark Mark.OpenBrace) (gs ⊕ tail) in
      let u = unnamed_join gs tail (each_map (λ g k. k.no_name) gs e) tt in
      let front = sub name end in
      let is_named = idents_names front m (kn, tt) ∙ ap (λ z. named (view name) ∷ z) (idents_unnamed (views m) u) in
      let is_behind = behind_names front m (kn, tt) ∙ behind_unnamed (views m) u in
      impl_is at _ m None (named (view name)) (own_name name kn) (each_join IsMethod gs tail e tt)
      (ap (λ b. impl_row b (idents (views (front ⊕ m))) (behind_idents (views (front ⊕ m)))) (has_behind (TokenKind.Word
      Keyword.For) gs tail refl refl l) ∙ ap (λ z. impl_row false z (behind_idents (views (front ⊕ m)))) is_named ∙ ap
      (λ z. AnItem (ImplItem None (named (view name)) z)) is_behind) (λ a r. skip_name a name kn _ r),
)

pub item_due : (at : Pos) (self : Bool) (t : Token) → IsPlain t → EntryDue at self t (grammar.item t)
item_due at self (Token.Mark Mark.Pound) p = derived_due at self
item_due at self (Token.Word Keyword.Struct) p = struct_due at self
item_due at self (Token.Word Keyword.Enum) p = enum_due at self
item_due at self (Token.Word Keyword.Trait) p = trait_due at self
item_due at self (Token.Word Keyword.Impl) p = impl_due at self
item_due at self (Token.Word Keyword.Fn) p = fn_due at self
item_due at self _ p = tt

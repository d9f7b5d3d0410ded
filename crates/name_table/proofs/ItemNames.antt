-- Names of items, one behind another.
use Rattle.std.proofs.Common.{◌≡◌, ℕ, suc, ◌+◌, ◌<◌, Bool, true, false, not, ◌||◌, List, [], ◌∷◌, ◌++◌, length, drop, map, get_or, Option, Some, None, Result, Ok, refl, ap, sym, subst, ◌∙◌, add-one, drop-cons}
use Rattle.std.specs.List.{filter_map}
use Rattle.mir_base.specs.declared.place_in_text.Pos.{Pos}
use Rattle.mir_base.specs.declared.rule.Rule.{Rule}
use Rattle.mir_base.specs.declared.rule.RuleError.{RuleError}
use Rattle.src_token.specs.declared.token.Token.{Token}
use Rattle.src_tree.specs.declared.node.SyntaxNode.{SyntaxNode}
use Rattle.src_tree.specs.declared.node.NodePiece
use Rattle.src_tree.specs.declared.node.NodePiece.{NodePiece}
use Rattle.src_tree.specs.View.{parts_from, piece_of, Single, a_token, a_node}
use Rattle.src_tree.proofs.Pieces.{node_seen, token_seen}
use Rattle.src_ast.specs.Seen.{syn_of}
use Rattle.src_ast.specs.Sorts.{item_part}
use Rattle.src_ast.specs.Syntax.{Word, Named, Syn, syn, shape_of, AnItem, StructItem}
use Rattle.src_ast.specs.View.{view}
use Rattle.typing_rules.specs.Check.{TypingState, Broken, and_then, obeys, pure}
use Rattle.typing_rules.specs.Collected.{item_name, names_differ}
use Rattle.typing_rules.specs.Items.{items_of, item_syns}
use Rattle.well_typed.specs.Names.{is_among, built_in}
use Rattle.typeck_heads.specs.Answers.{Refuses}
use Rattle.name_table.specs.Forms.{item_name_by, name_in_piece, with_name_by}
use Rattle.typeck_heads.specs.Forms.{listed}
use Rattle.typeck_heads.proofs.Sequences.{stopped}
use Rattle.typeck_heads.proofs.Numbering.{position_any}
use Rattle.std.specs.List.{position as position_of}
use Rattle.std.specs.Prelude.{is_some}
use Rattle.std.specs.Str.{bytes_eq}

item_name_as : (x : Syn) → item_name x ≡ item_name_by (item_part (shape_of x))
item_name_as (syn at (AnItem (StructItem a b c d))) = refl
item_name_as (syn at _) = refl

pub item_name_seen : (n : SyntaxNode) → item_name (syn_of n) ≡ item_name_by (item_part (shape_of (syn_of n)))
item_name_seen n = item_name_as (syn_of n)

pub at_token : (t : Token) → name_in_piece (piece_of (NodePiece.Token t)) ≡ None
at_token t = ap name_in_piece (token_seen t)

pub at_node : (n : SyntaxNode) → name_in_piece (piece_of (NodePiece.Node n)) ≡ item_name (syn_of n)
at_node n = ap name_in_piece (node_seen n)

abbrev names_in : List Single → List Named
names_in ps = filter_map item_name (item_syns (items_of (parts_from ps)))

first_named : (x : Syn) (o : Option Named) → item_name x ≡ o → (xs : List Syn) → filter_map item_name (x ∷ xs) ≡ listed o ++ filter_map item_name xs
first_named x None is xs = rw is refl
first_named x (Some b) is xs = rw is refl

first_piece : (o : Single) (ys : List Single) → names_in (o ∷ ys) ≡ listed (name_in_piece o) ++ names_in ys
first_piece (a_token t) ys = refl
first_piece (a_node g) ys = first_named (view g) (item_name (view g)) refl (item_syns (items_of (parts_from ys)))

named_at : (ps : List NodePiece) (i : ℕ) (p : NodePiece) → i < length ps → p ≡ get_or ps i p →
    names_in (map piece_of (drop i ps)) ≡ listed (name_in_piece (piece_of p)) ++ names_in (map piece_of (drop (i + 1) ps))
named_at ps i p h is =
    ap (λ z. names_in (map piece_of z)) (drop-cons ps i p h)
    ∙ ap (λ z. names_in (map piece_of (z ∷ drop (suc i) ps))) (sym is)
    ∙ first_piece (piece_of p) (map piece_of (drop (suc i) ps))
    ∙ ap (λ z. listed (name_in_piece (piece_of p)) ++ names_in (map piece_of (drop z ps))) (sym (add-one i))

one_name : (rule : Rule) (at : Pos) (b : Bool) (more : List Word) (rest : List Named) (s : TypingState) →
    and_then (obeys rule at b s) (λ _. names_differ rest more)
    ≡ and_then (and_then (obeys rule at b s) (λ _. pure more)) (λ z. names_differ rest z)
one_name rule at true more rest s = refl
one_name rule at false more rest s = refl

next_name : (o : Option Named) (seen : List Word) (rest : List Named) (s : TypingState) →
    names_differ (listed o ++ rest) seen s ≡ and_then (with_name_by o seen s) (λ more. names_differ rest more)
next_name None seen rest s = refl
next_name (Some n) seen rest s =
    one_name Rule.T02 n.0 (not (is_among n.1 seen || is_among n.1 built_in)) (seen ++ n.1 ∷ []) rest s

pieces_named : (ps : List NodePiece) (i : ℕ) (p : NodePiece) (o : Option Named) (seen : List Word) (s : TypingState) → i < length ps → p ≡ get_or ps i p →
    o ≡ name_in_piece (piece_of p) →
    names_differ (names_in (map piece_of (drop i ps))) seen s
    ≡ and_then (with_name_by o seen s) (λ more. names_differ (names_in (map piece_of (drop (i + 1) ps))) more)
pieces_named ps i p o seen s h is of_p =
    ap (λ z. names_differ z seen s) (named_at ps i p h is)
    ∙ ap (λ z. names_differ (listed z ++ names_in (map piece_of (drop (i + 1) ps))) seen s) (sym of_p)
    ∙ next_name o seen (names_in (map piece_of (drop (i + 1) ps))) s

pub on_names : (whole : Result (Unit {0} × TypingState) Broken) (ps : List NodePiece) (i : ℕ) (p : NodePiece) (o : Option Named) (seen more : List Word) (s t : TypingState) →
    i < length ps → p ≡ get_or ps i p → o ≡ name_in_piece (piece_of p) →
    whole ≡ names_differ (names_in (map piece_of (drop i ps))) seen s → with_name_by o seen s ≡ Ok (more, t) →
    whole ≡ names_differ (names_in (map piece_of (drop (i + 1) ps))) more t
on_names whole ps i p o seen more s t h is of_p so here =
    so ∙ pieces_named ps i p o seen s h is of_p
    ∙ ap (λ r. and_then r (λ z. names_differ (names_in (map piece_of (drop (i + 1) ps))) z)) here

pub stopped_name : (whole : Result (Unit {0} × TypingState) Broken) (ps : List NodePiece) (i : ℕ) (p : NodePiece) (o : Option Named) (seen : List Word) (s : TypingState) (e : RuleError) →
    i < length ps → p ≡ get_or ps i p → o ≡ name_in_piece (piece_of p) →
    whole ≡ names_differ (names_in (map piece_of (drop i ps))) seen s → Refuses (with_name_by o seen s) e → Refuses whole e
stopped_name whole ps i p o seen s e h is of_p so here =
    subst (λ r. Refuses r e) (sym (so ∙ pieces_named ps i p o seen s h is of_p))
    (stopped (with_name_by o seen s) (λ z. names_differ (names_in (map piece_of (drop (i + 1) ps))) z) e here)

passes : (rule : Rule) (at : Pos) (b : Bool) (more : List Word) (s : TypingState) → b ≡ false →
    and_then (obeys rule at (not b) s) (λ _. pure more) ≡ Ok (more, s)
passes rule at true more s h = absurd (cc)
passes rule at false more s h = refl

pub fresh : (n : Named) (seen more : List Word) (s : TypingState) (at : Pos) (word : Word) (b : Bool) → (at, word) ≡ n →
    b ≡ (is_among word seen || is_among word built_in) → b ≡ false → more ≡ seen ++ word ∷ [] →
    with_name_by (Some n) seen s ≡ Ok (more, s)
fresh n seen more s at word b same is free pushed =
    ap (λ z. with_name_by (Some z) seen s) (sym same)
    ∙ passes Rule.T02 at (is_among word seen || is_among word built_in) (seen ++ word ∷ []) s (sym is ∙ free)
    ∙ ap (λ z. Ok (z, s)) (sym pushed)

pub any_named : (name : Word) (names : List Word) → is_some (position_of (bytes_eq name) names) ≡ is_among name names
any_named name names = position_any (bytes_eq name) names

-- The lines of a listing as values: structs, enums and traits stand by their names, types are trees, and all else is as
-- in the graph.
use Rattle.std.specs.Prelude.{◌≡◌, ℕ, zero, suc, Bool, true, false, List, [], ◌∷◌, ◌++◌, map, flat_map, codes, Option, Some, None, slice_get}
use Rattle.std.specs.Fmt.{decimal}
use Rattle.mir_base.specs.declared.int_kind.IntKind.{IntKind}
use Rattle.mir_ty.specs.declared.ty.Ty.{Ty}
use Rattle.mir_ty.specs.declared.ty.TyId.{TyId}
use Rattle.mir_ty.specs.declared.adt.Adt.{Adt}
use Rattle.mir_ty.specs.declared.adt.Variant.{Variant}
use Rattle.mir_ty.specs.declared.def.Sig.{Sig}
use Rattle.mir_ty.specs.declared.def.TraitDef.{TraitDef}
use Rattle.mir_ty.specs.declared.def.ImplDef.{ImplDef}
use Rattle.mir_ty.specs.declared.def.ClosureDef.{ClosureDef}
use Rattle.mir_ty.specs.ItemTable.{ItemTable, no_items, type_at}
use Rattle.mir_ty.specs.Named.{adt_name, body_name}
use Rattle.mir_ty.specs.Parts.{fields_of}
use Rattle.cfg_graph.specs.declared.place.Place.{Place}
use Rattle.cfg_graph.specs.declared.place.Operand.{Operand}
use Rattle.cfg_graph.specs.declared.statement.Stmt.{Stmt}
use Rattle.cfg_graph.specs.declared.terminator.Term.{Term}
use Rattle.cfg_graph.specs.declared.terminator.Unwind.{Unwind}
use Rattle.cfg_graph.specs.declared.graph.Block.{Block}
use Rattle.cfg_graph.specs.declared.graph.Body.{Body}
use Rattle.cfg_graph.specs.declared.graph.Graph.{Graph}
use Rattle.cfg_graph.specs.declared.graph.Kind.{Kind}
use Rattle.listing_write.specs.Compared.{numbered}
use Rattle.listing_write.specs.Items.{copy_text, drop_text}
use Rattle.listing_write.specs.Lists.{in_parentheses, in_braces, line}
use Rattle.listing_write.specs.Listing.{kind_word, listing}
use Rattle.listing_write.specs.Parts.{place_text, operand_text, operands_text, stmt_text, term_text, ways_text}
use Rattle.listing_write.specs.Types.{kind_text, trait_name, tuple_text, deepest}

mutual
  -- a type; `Missing` where a number is in no table
  pub data Tree : Type 0 where
    Number : (kind : IntKind) → Tree
    Truth : Tree
    Nothing : Tree
    Never : Tree
    Named : (name : List ℕ) → Tree
    Tuple : (parts : Trees) → Tree
    Array : (element : Tree) (count : ℕ) → Tree
    Boxed : (inside : Tree) → Tree
    Object : (name : List ℕ) → Tree
    Shared : (to : Tree) → Tree
    Unique : (to : Tree) → Tree
    Closed : (n : ℕ) → Tree
    Missing : Tree

  pub data Trees : Type 0 where
    no_more : Trees
    and_more : (first : Tree) (others : Trees) → Trees

abbrev mutual
  pub tree_text : Tree → List ℕ
  tree_text (Number kind) = kind_text kind
  tree_text Truth = codes "bool"
  tree_text Nothing = codes "()"
  tree_text Never = codes "!"
  tree_text (Named name) = name
  tree_text (Tuple parts) = tuple_text (trees_text parts)
  tree_text (Array element count) = codes "[" ++ tree_text element ++ codes "; " ++ decimal count ++ codes "]"
  tree_text (Boxed inside) = codes "Box<" ++ tree_text inside ++ codes ">"
  tree_text (Object name) = codes "dyn " ++ name
  tree_text (Shared to) = codes "&" ++ tree_text to
  tree_text (Unique to) = codes "&mut " ++ tree_text to
  tree_text (Closed n) = codes "closure#" ++ decimal n
  tree_text Missing = []

  pub trees_text : Trees → List (List ℕ)
  trees_text no_more = []
  trees_text (and_more first others) = tree_text first ∷ trees_text others

abbrev pub trees_of : (TyId → Tree) → List TyId → Trees
trees_of tree [] = no_more
trees_of tree (id ∷ ids) = and_more (tree id) (trees_of tree ids)

-- a type of the table, where the types in it have these trees
abbrev pub form_tree : ItemTable → (TyId → Tree) → Ty → Tree
form_tree items inner (Ty.Int kind) = Number kind
form_tree items inner Ty.Bool = Truth
form_tree items inner Ty.Unit = Nothing
form_tree items inner Ty.Never = Never
form_tree items inner (Ty.Adt n) = Named (adt_name items n)
form_tree items inner (Ty.Tuple parts) = Tuple (trees_of inner parts)
form_tree items inner (Ty.Array element count) = Array (inner element) count
form_tree items inner (Ty.Boxed inside) = Boxed (inner inside)
form_tree items inner (Ty.Dyn n) = Object (trait_name items n)
form_tree items inner (Ty.Shared to) = Shared (inner to)
form_tree items inner (Ty.Unique to) = Unique (inner to)
form_tree items inner (Ty.Closure n) = Closed n

abbrev pub found_tree : ItemTable → (TyId → Tree) → Option Ty → Tree
found_tree items inner None = Missing
found_tree items inner (Some ty) = form_tree items inner ty

abbrev pub tree_within : ItemTable → ℕ → TyId → Tree
tree_within items zero id = Missing
tree_within items (suc depth) id = found_tree items (tree_within items depth) (type_at items id)

unfoldable pub tree_of : ItemTable → TyId → Tree
tree_of items id = tree_within items deepest id

-- a line; `make`, `unsize` and `virtual` have lines of their own, for the names in them
pub data Line : Type 0 where
  HeadLine : Line
  StructLine : (name : List ℕ) (fields : List Tree) (copy : Bool) (drop_body : Option ℕ) → Line
  EnumLine : (name : List ℕ) (variants : List (List ℕ × List Tree)) (copy : Bool) (drop_body : Option ℕ) → Line
  TraitLine : (name : List ℕ) (methods : List (List ℕ × List Tree × Tree)) → Line
  ImplLine : (trait_called adt_called : List ℕ) (bodies : List ℕ) → Line
  ClosureLine : (n : ℕ) (captures : List Tree) (body : ℕ) → Line
  BodyLine : (n : ℕ) (name : List ℕ) (params : ℕ) → Line
  LocalLine : (n : ℕ) (ty : Tree) → Line
  BlockLine : (n : ℕ) (kind : Kind) (rank : ℕ) → Line
  MakeLine : (to : Place) (name : List ℕ) (variant : ℕ) (parts : List Operand) → Line
  UnsizeLine : (to : Place) (name : List ℕ) (from : Operand) → Line
  StmtLine : (stmt : Stmt) → Line
  VirtualLine : (to : Place) (name : List ℕ) (method : ℕ) (args : List Operand) (next : ℕ) (unwind : Unwind) → Line
  TermLine : (term : Term) → Line
  EndLine : Line

abbrev pub trees_in_row : List Tree → List ℕ
trees_in_row trees = in_parentheses (map tree_text trees)

abbrev pub variant_words : List ℕ × List Tree → List ℕ
variant_words variant = variant.0 ++ codes " " ++ trees_in_row variant.1

abbrev pub method_words : List ℕ × List Tree × Tree → List ℕ
method_words method = method.0 ++ codes " " ++ trees_in_row method.1 ++ codes " " ++ tree_text method.2

abbrev pub line_text : Line → List ℕ
line_text HeadLine = codes "mirdrop 1"
line_text (StructLine name fields copy drop_body) =
    codes "struct " ++ name ++ codes " " ++ trees_in_row fields ++ copy_text copy ++ drop_text drop_body
line_text (EnumLine name variants copy drop_body) =
    codes "enum " ++ name ++ codes " " ++ in_braces (map variant_words variants) ++ copy_text copy ++
    drop_text drop_body
line_text (TraitLine name methods) = codes "trait " ++ name ++ codes " " ++ in_braces (map method_words methods)
line_text (ImplLine trait_called adt_called bodies) =
    codes "impl " ++ trait_called ++ codes " for " ++ adt_called ++ flat_map (λ body. codes " " ++ decimal body) bodies
line_text (ClosureLine n captures body) =
    codes "closure " ++ decimal n ++ codes " " ++ trees_in_row captures ++ codes " " ++ decimal body
line_text (BodyLine n name params) = codes "body " ++ decimal n ++ codes " " ++ name ++ codes " " ++ decimal params
line_text (LocalLine n ty) = codes "local " ++ decimal n ++ codes " " ++ tree_text ty
line_text (BlockLine n kind rank) =
    codes "block " ++ decimal n ++ codes " " ++ kind_word kind ++ codes " rank " ++ decimal rank
line_text (MakeLine to name variant parts) =
    place_text to ++ codes " = make " ++ name ++ codes " " ++ decimal variant ++ codes " " ++ operands_text parts
line_text (UnsizeLine to name from) = place_text to ++ codes " = unsize " ++ name ++ codes " " ++ operand_text from
line_text (StmtLine stmt) = stmt_text no_items stmt
line_text (VirtualLine to name method args next unwind) =
    place_text to ++ codes " = virtual " ++ name ++ codes " " ++ decimal method ++ codes " " ++ operands_text args ++
    ways_text next unwind
line_text (TermLine term) = term_text no_items term
line_text EndLine = codes "end"

-- the lines of things that are counted from a number on
abbrev pub lines_each : {X : Type 0} → (ℕ → X → List Line) → ℕ → List X → List Line
lines_each lines n [] = []
lines_each lines n (x ∷ xs) = lines n x ++ lines_each lines (suc n) xs

module _ (items : ItemTable) where
  abbrev pub trees : List TyId → List Tree
  trees ids = map (tree_of items) ids

  abbrev pub variant_of : Variant → List ℕ × List Tree
  variant_of variant = (variant.name, trees variant.fields)

  abbrev pub method_of : Sig → List ℕ × List Tree × Tree
  method_of sig = (sig.name, trees sig.params, tree_of items sig.result)

  -- an enum, or a struct with its one variant
  abbrev pub adt_in_line : Bool → Adt → Line
  adt_in_line true adt = EnumLine adt.name (map variant_of adt.variants) adt.copy adt.drop_body
  adt_in_line false adt = StructLine adt.name (trees (fields_of (slice_get adt.variants 0))) adt.copy adt.drop_body

  abbrev pub line_of_adt : Adt → Line
  line_of_adt adt = adt_in_line adt.is_enum adt

  abbrev pub line_of_trait : TraitDef → Line
  line_of_trait def = TraitLine def.name (map method_of def.methods)

  abbrev pub line_of_impl : ImplDef → Line
  line_of_impl def = ImplLine (trait_name items def.trait_no) (adt_name items def.adt) def.bodies

  abbrev pub line_of_closure : ℕ → ClosureDef → Line
  line_of_closure n def = ClosureLine n (trees def.captures) def.body

  abbrev pub line_of_stmt : Stmt → Line
  line_of_stmt (Stmt.Make to adt variant parts) = MakeLine to (adt_name items adt) variant parts
  line_of_stmt (Stmt.Unsize to trait_no from) = UnsizeLine to (trait_name items trait_no) from
  line_of_stmt stmt = StmtLine stmt

  abbrev pub line_of_term : Term → Line
  line_of_term (Term.Virtual to trait_no method args next unwind) =
      VirtualLine to (trait_name items trait_no) method args next unwind
  line_of_term term = TermLine term

  abbrev pub line_of_local : ℕ → TyId → Line
  line_of_local n id = LocalLine n (tree_of items id)

  abbrev pub lines_of_block : ℕ → Block → List Line
  lines_of_block n block =
      BlockLine n block.kind block.rank ∷ map line_of_stmt block.stmts ++ line_of_term block.term ∷ []

  abbrev pub lines_of_body : ℕ → Body → List Line
  lines_of_body n body =
      BodyLine n (body_name items n) body.params ∷ numbered line_of_local 0 body.locals ++
      lines_each lines_of_block 0 body.blocks

-- all lines of a graph, in the order of its listing
abbrev pub lines_of : Graph → List Line
lines_of graph =
    HeadLine ∷ map (line_of_adt graph.items) graph.items.adts
    ++ map (line_of_trait graph.items) graph.items.traits
    ++ map (line_of_impl graph.items) graph.items.impls
    ++ numbered (line_of_closure graph.items) 0 graph.items.closures
    ++ lines_each (lines_of_body graph.items) 0 graph.bodies
    ++ EndLine ∷ []

-- what the law of listings says of lines: a listing is the texts of the lines of its graph, each with its line feed
abbrev pub ListingIsItsLines : Type 0
ListingIsItsLines = (graph : Graph) → listing graph ≡ flat_map (λ one. line (line_text one)) (lines_of graph)

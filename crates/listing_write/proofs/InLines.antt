-- A listing is the texts of the lines of its graph.
use Rattle.std.proofs.Common.{◌≡◌, ℕ, zero, suc, Bool, true, false, List, [], ◌∷◌, ◌++◌, map, flat_map, codes, Option, Some, None, decimal, slice_get, refl, ap, sym, ◌∙◌, append-nil}
use Rattle.std.proofs.lemmas.List.Concat.{flat_map-append}
use Rattle.mir_ty.specs.declared.ty.Ty.{Ty}
use Rattle.mir_ty.specs.declared.ty.TyId.{TyId}
use Rattle.mir_ty.specs.declared.adt.Adt.{Adt}
use Rattle.mir_ty.specs.declared.adt.Variant.{Variant}
use Rattle.mir_ty.specs.declared.def.Sig.{Sig}
use Rattle.mir_ty.specs.ItemTable.{ItemTable, type_at}
use Rattle.mir_ty.specs.Named.{body_name}
use Rattle.mir_ty.specs.Parts.{fields_of}
use Rattle.cfg_graph.specs.declared.statement.Stmt.{Stmt}
use Rattle.cfg_graph.specs.declared.terminator.Term.{Term}
use Rattle.cfg_graph.specs.declared.graph.Block.{Block}
use Rattle.cfg_graph.specs.declared.graph.Body.{Body}
use Rattle.listing_write.specs.Compared.{numbered}
use Rattle.listing_write.specs.Items.{variant_text, copy_text, drop_text, shape_text, adt_line, method_text, trait_line, impl_line, closure_line, counted}
use Rattle.listing_write.specs.Lists.{line, in_parentheses, in_braces}
use Rattle.listing_write.specs.Listing.{local_line, block_line, block_text, whole_body_text}
use Rattle.listing_write.specs.Parts.{stmt_text, term_text}
use Rattle.listing_write.specs.Types.{tuple_text, form_text, found_text, type_within, type_text, deepest}
use Rattle.listing_write.specs.Lines.{Tree, tree_text, trees_text, trees_of, form_tree, found_tree, tree_within, tree_of, Line, HeadLine, EndLine, BodyLine, BlockLine, line_text, lines_each, trees, variant_of, variant_words, method_of, method_words, adt_in_line, line_of_adt, line_of_trait, line_of_impl, line_of_closure, line_of_stmt, line_of_term, line_of_local, lines_of_block, lines_of_body, lines_of, ListingIsItsLines}
use Rattle.listing_write.proofs.Reading.Basics.{behind3, behind4}

-- types
module _ (items : ItemTable) where
  row_texts : (inner : TyId → Tree) (f : TyId → List ℕ) → ((id : TyId) → tree_text (inner id) ≡ f id) → (ids : List TyId) → trees_text (trees_of inner ids) ≡ map f ids
  row_texts inner f h [] = refl
  row_texts inner f h (id ∷ ids) = λ i. h id i ∷ row_texts inner f h ids i

  form_same : (inner : TyId → Tree) (f : TyId → List ℕ) → ((id : TyId) → tree_text (inner id) ≡ f id) → (ty : Ty) → tree_text (form_tree items inner ty) ≡ form_text items f ty
  form_same inner f h (Ty.Tuple parts) = ap tuple_text (row_texts inner f h parts)
  form_same inner f h (Ty.Array element count) = ap (λ (w : List ℕ). codes "[" ++ w ++ codes "; " ++ decimal count ++ codes "]") (h element)
  form_same inner f h (Ty.Boxed inside) = ap (λ (w : List ℕ). codes "Box<" ++ w ++ codes ">") (h inside)
  form_same inner f h (Ty.Shared to) = ap (λ (w : List ℕ). codes "&" ++ w) (h to)
  form_same inner f h (Ty.Unique to) = ap (λ (w : List ℕ). codes "&mut " ++ w) (h to)
  form_same inner f h other = refl

  found_same : (inner : TyId → Tree) (f : TyId → List ℕ) → ((id : TyId) → tree_text (inner id) ≡ f id) → (o : Option Ty) → tree_text (found_tree items inner o) ≡ found_text items f o
  found_same inner f h None = refl
  found_same inner f h (Some ty) = form_same inner f h ty

  within_same : (d : ℕ) (id : TyId) → tree_text (tree_within items d id) ≡ type_within items d id
  within_same zero id = refl
  within_same (suc d) id = found_same (tree_within items d) (type_within items d) (within_same d) (type_at items id)

  tree_same : (id : TyId) → tree_text (tree_of items id) ≡ type_text items id
  unfolding tree_of type_text
  tree_same id = within_same deepest id

  types_same : (ids : List TyId) → map tree_text (trees items ids) ≡ map (type_text items) ids
  types_same [] = refl
  types_same (id ∷ ids) = λ i. tree_same id i ∷ types_same ids i

  -- lines of items
  variants_same : (vs : List Variant) → map variant_words (map (variant_of items) vs) ≡ map (variant_text items) vs
  variants_same [] = refl
  variants_same (v ∷ vs) = λ i. (v.name ++ codes " " ++ in_parentheses (types_same v.fields i)) ∷ variants_same vs i

  methods_same : (ms : List Sig) → map method_words (map (method_of items) ms) ≡ map (method_text items) ms
  methods_same [] = refl
  methods_same (m ∷ ms) = λ i. (m.name ++ codes " " ++ in_parentheses (types_same m.params i) ++ codes " " ++ tree_same m.result i) ∷ methods_same ms i

  adt_same : (is_enum : Bool) (adt : Adt) → line_text (adt_in_line items is_enum adt) ≡ shape_text items is_enum adt ++ copy_text adt.copy ++ drop_text adt.drop_body
  adt_same true adt = λ i. codes "enum " ++ adt.name ++ codes " " ++ in_braces (variants_same adt.variants i) ++ copy_text adt.copy ++ drop_text adt.drop_body
  adt_same false adt = λ i. codes "struct " ++ adt.name ++ codes " " ++ in_parentheses (types_same (fields_of (slice_get adt.variants 0)) i) ++ copy_text adt.copy ++ drop_text adt.drop_body

  stmt_same : (stmt : Stmt) → line_text (line_of_stmt items stmt) ≡ stmt_text items stmt
  stmt_same (Stmt.Make to adt variant parts) = refl
  stmt_same (Stmt.Unsize to trait_no from) = refl
  stmt_same _ = refl

  term_same : (term : Term) → line_text (line_of_term items term) ≡ term_text items term
  term_same (Term.Virtual to trait_no method args next unwind) = refl
  term_same _ = refl

-- many lines
abbrev texts : List Line → List ℕ
texts lines = flat_map (λ (one : Line). line (line_text one)) lines

texts-append : (xs ys : List Line) → texts (xs ++ ys) ≡ texts xs ++ texts ys
texts-append xs ys = flat_map-append (λ (one : Line). line (line_text one)) xs ys

over_map : {X : Type 0} (g : X → Line) (text : X → List ℕ) → ((x : X) → line (line_text (g x)) ≡ text x) → (xs : List X) → texts (map g xs) ≡ flat_map text xs
over_map g text h [] = refl
over_map g text h (x ∷ xs) = λ i. h x i ++ over_map g text h xs i

over_numbered : {X : Type 0} (g : ℕ → X → Line) (text : ℕ → X → List ℕ) → ((n : ℕ) (x : X) → line (line_text (g n x)) ≡ text n x) → (n : ℕ) (xs : List X)
    → texts (numbered g n xs) ≡ counted text n xs
over_numbered g text h n [] = refl
over_numbered g text h n (x ∷ xs) = λ i. h n x i ++ over_numbered g text h (suc n) xs i

over_each : {X : Type 0} (g : ℕ → X → List Line) (text : ℕ → X → List ℕ) → ((n : ℕ) (x : X) → texts (g n x) ≡ text n x) → (n : ℕ) (xs : List X)
    → texts (lines_each g n xs) ≡ counted text n xs
over_each g text h n [] = refl
over_each g text h n (x ∷ xs) = texts-append (g n x) (lines_each g (suc n) xs) ∙ (λ i. h n x i ++ over_each g text h (suc n) xs i)

module _ (items : ItemTable) where
  stmts_same : (stmts : List Stmt) → texts (map (line_of_stmt items) stmts) ≡ flat_map (λ stmt. line (stmt_text items stmt)) stmts
  stmts_same = over_map (line_of_stmt items) (λ stmt. line (stmt_text items stmt)) (λ stmt. ap line (stmt_same items stmt))

  block_same : (n : ℕ) (block : Block) → texts (lines_of_block items n block) ≡ block_text items n block
  block_same n block =
      texts-append (BlockLine n block.kind block.rank ∷ map (line_of_stmt items) block.stmts) (line_of_term items block.term ∷ [])
      ∙ (λ i. (block_line n block ++ stmts_same block.stmts i) ++ (append-nil (line (term_same items block.term i)) i))

  body_same : (n : ℕ) (body : Body) → texts (lines_of_body items n body) ≡ whole_body_text items n body
  body_same n body =
      texts-append (BodyLine n (body_name items n) body.params ∷ numbered (line_of_local items) 0 body.locals) (lines_each (lines_of_block items) 0 body.blocks)
      ∙ (λ i. (line (codes "body " ++ decimal n ++ codes " " ++ body_name items n ++ codes " " ++ decimal body.params)
      ++ over_numbered (line_of_local items) (local_line items) (λ n id. ap (λ (w : List ℕ). line (codes "local " ++ decimal n ++ codes " " ++ w)) (tree_same items id)) 0 body.locals i)
      ++ over_each (lines_of_block items) (block_text items) block_same 0 body.blocks i)

pub listing-lines : ListingIsItsLines
listing-lines graph =
    let items : ItemTable = graph.items in
    let a : List Line = map (line_of_adt items) items.adts in
    let t : List Line = map (line_of_trait items) items.traits in
    let m : List Line = map (line_of_impl items) items.impls in
    let c : List Line = numbered (line_of_closure items) 0 items.closures in
    let b : List Line = lines_each (lines_of_body items) 0 graph.bodies in
    let head : List ℕ = line (codes "mirdrop 1") in
    let split : texts (lines_of graph) ≡ head ++ texts a ++ texts t ++ texts m ++ texts c ++ texts b ++ texts (EndLine ∷ []) =
    texts-append (HeadLine ∷ a ++ t ++ m ++ c ++ b) (EndLine ∷ [])
    ∙ ap (λ (w : List ℕ). w ++ texts (EndLine ∷ [])) (texts-append (HeadLine ∷ a ++ t ++ m ++ c) b
    ∙ ap (λ (w : List ℕ). w ++ texts b) (texts-append (HeadLine ∷ a ++ t ++ m) c
    ∙ ap (λ (w : List ℕ). w ++ texts c) (texts-append (HeadLine ∷ a ++ t) m
    ∙ ap (λ (w : List ℕ). w ++ texts m) (texts-append (HeadLine ∷ a) t)))) in
    let adts = over_map (line_of_adt items) (adt_line items) (λ adt. ap line (adt_same items adt.is_enum adt)) items.adts in
    let traits = over_map (line_of_trait items) (trait_line items) (λ def. ap (λ (ws : List (List ℕ)). line (codes "trait " ++ def.name ++ codes " " ++ in_braces ws)) (methods_same items def.methods)) items.traits in
    let impls = over_map (line_of_impl items) (impl_line items) (λ def. refl) items.impls in
    let closures = over_numbered (line_of_closure items) (closure_line items)
    (λ n def. ap (λ (ws : List (List ℕ)). line (codes "closure " ++ decimal n ++ codes " " ++ in_parentheses ws ++ codes " " ++ decimal def.body)) (types_same items def.captures)) 0 items.closures in
    let bodies = over_each (lines_of_body items) (whole_body_text items) (body_same items) 0 graph.bodies in
    let la : List ℕ = flat_map (adt_line items) items.adts in
    let lt : List ℕ = flat_map (trait_line items) items.traits in
    let lm : List ℕ = flat_map (impl_line items) items.impls in
    let lc : List ℕ = counted (closure_line items) 0 items.closures in
    let grouped : head ++ la ++ lt ++ lm ++ lc ≡ head ++ (la ++ lt ++ lm ++ lc) = behind4 head la lt lm lc ∙ ap (λ (w : List ℕ). head ++ w) (sym (behind3 la lt lm lc)) in
    sym (split ∙ (λ i. head ++ adts i ++ traits i ++ impls i ++ closures i ++ bodies i ++ line (codes "end"))
    ∙ ap (λ (w : List ℕ). w ++ counted (whole_body_text items) 0 graph.bodies ++ line (codes "end")) grouped)

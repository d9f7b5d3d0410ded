-- With more closures in the table, each line of the others is written as before, and looks as before.
use Rattle.std.proofs.Common.{◌≡◌, ℕ, suc, Bool, true, false, List, [], ◌∷◌, ◌++◌, map, flat_map, codes, decimal, slice_get, refl}
use Rattle.mir_ty.specs.declared.adt.Adt.{Adt}
use Rattle.mir_ty.specs.declared.def.ClosureDef.{ClosureDef}
use Rattle.mir_ty.specs.declared.def.Sig.{Sig}
use Rattle.mir_ty.specs.declared.def.TraitDef.{TraitDef}
use Rattle.mir_ty.specs.ItemTable.{ItemTable}
use Rattle.mir_ty.specs.Named.{body_name}
use Rattle.mir_ty.specs.Parts.{fields_of}
use Rattle.cfg_graph.specs.declared.graph.Block.{Block}
use Rattle.cfg_graph.specs.declared.graph.Body.{Body}
use Rattle.cfg_graph.specs.declared.statement.Stmt.{Stmt}
use Rattle.cfg_graph.specs.declared.terminator.Term.{Term}
use Rattle.listing_write.specs.Compared.{numbered, variant_seen, adt_seen, sig_seen, trait_seen, closure_seen}
use Rattle.listing_write.specs.Items.{copy_text, drop_text, shape_text, adt_line, trait_line, closure_line, counted}
use Rattle.listing_write.specs.Lists.{in_parentheses, in_braces, line}
use Rattle.listing_write.specs.Listing.{local_line, block_line, block_text, whole_body_text}
use Rattle.listing_write.specs.Parts.{stmt_text, term_text}
use Rattle.listing_write.proofs.Reading.Bodies.{body_read_seen}
use Rattle.mir_text.proofs.Alike.Enough.{enough, text_same}

flat_same : {X : Type 0} (f g : X → List ℕ) → ((x : X) → f x ≡ g x) → (xs : List X) → flat_map f xs ≡ flat_map g xs
flat_same f g h [] = refl
flat_same f g h (x ∷ xs) = λ i. h x i ++ flat_same f g h xs i

counted_same : {X : Type 0} (f g : ℕ → X → List ℕ) → ((n : ℕ) (x : X) → f n x ≡ g n x) → (n : ℕ) (xs : List X) → counted f n xs ≡ counted g n xs
counted_same f g h n [] = refl
counted_same f g h n (x ∷ xs) = λ i. h n x i ++ counted_same f g h (suc n) xs i

map_same : {X Z : Type 0} (f g : X → Z) → ((x : X) → f x ≡ g x) → (xs : List X) → map f xs ≡ map g xs
map_same f g h [] = refl
map_same f g h (x ∷ xs) = λ i. h x i ∷ map_same f g h xs i

numbered_same : {X Z : Type 0} (f g : ℕ → X → Z) → ((n : ℕ) (x : X) → f n x ≡ g n x) → (n : ℕ) (xs : List X) → numbered f n xs ≡ numbered g n xs
numbered_same f g h n [] = refl
numbered_same f g h n (x ∷ xs) = λ i. h n x i ∷ numbered_same f g h (suc n) xs i

module _ (items : ItemTable) (many : List ClosureDef) where
  abbrev E : ItemTable
  E = enough items many

  -- lines
  shape_same : (is_enum : Bool) (adt : Adt) → shape_text items is_enum adt ≡ shape_text E is_enum adt
  shape_same true adt =
      λ i. codes "enum " ++ adt.name ++ codes " " ++ in_braces (map (λ variant. variant.name ++ codes " " ++ in_parentheses (map (λ id. text_same items many id i) variant.fields)) adt.variants)
  shape_same false adt = λ i. codes "struct " ++ adt.name ++ codes " " ++ in_parentheses (map (λ id. text_same items many id i) (fields_of (slice_get adt.variants 0)))

  pub adts_written : (adts : List Adt) → flat_map (adt_line items) adts ≡ flat_map (adt_line E) adts
  adts_written = flat_same (adt_line items) (adt_line E) (λ adt. λ i. line (shape_same adt.is_enum adt i ++ copy_text adt.copy ++ drop_text adt.drop_body))

  pub traits_written : (traits : List TraitDef) → flat_map (trait_line items) traits ≡ flat_map (trait_line E) traits
  traits_written =
      flat_same (trait_line items) (trait_line E) (λ def. λ i. line (codes "trait " ++ def.name ++ codes " " ++ in_braces
      (map (λ sig. sig.name ++ codes " " ++ in_parentheses (map (λ id. text_same items many id i) sig.params) ++ codes " " ++ text_same items many sig.result i) def.methods)))

  pub closures_written : (closures : List ClosureDef) → counted (closure_line items) 0 closures ≡ counted (closure_line E) 0 closures
  closures_written =
      counted_same (closure_line items) (closure_line E)
      (λ n def. λ i. line (codes "closure " ++ decimal n ++ codes " " ++ in_parentheses (map (λ id. text_same items many id i) def.captures) ++ codes " " ++ decimal def.body)) 0

  stmt_same : (stmt : Stmt) → stmt_text items stmt ≡ stmt_text E stmt
  stmt_same (Stmt.Make to adt variant parts) = refl
  stmt_same (Stmt.Unsize to trait from) = refl
  stmt_same _ = refl

  term_same : (term : Term) → term_text items term ≡ term_text E term
  term_same (Term.Virtual to trait method args next unwind) = refl
  term_same _ = refl

  block_same : (n : ℕ) (block : Block) → block_text items n block ≡ block_text E n block
  block_same n block =
      λ i. block_line n block ++ flat_same (λ stmt. line (stmt_text items stmt)) (λ stmt. line (stmt_text E stmt)) (λ stmt. λ j. line (stmt_same stmt j)) block.stmts i ++ line (term_same block.term i)

  pub bodies_written : (bodies : List Body) → counted (whole_body_text items) 0 bodies ≡ counted (whole_body_text E) 0 bodies
  bodies_written =
      counted_same (whole_body_text items) (whole_body_text E) (λ n body. λ i.
      (line (codes "body " ++ decimal n ++ codes " " ++ body_name items n ++ codes " " ++ decimal body.params)
      ++ counted_same (local_line items) (local_line E) (λ k id. λ j. line (codes "local " ++ decimal k ++ codes " " ++ text_same items many id j)) 0 body.locals i)
      ++ counted_same (block_text items) (block_text E) block_same 0 body.blocks i) 0

  -- looks
  pub adts_look : (adts : List Adt) → map (adt_seen items) adts ≡ map (adt_seen E) adts
  adts_look =
      map_same (adt_seen items) (adt_seen E) (λ adt. λ i. record {
        is_enum = adt.is_enum;
        name = adt.name;
        variants = map_same (variant_seen items) (variant_seen E) (λ variant. λ j. (variant.name, map (λ id. text_same items many id j) variant.fields)) adt.variants i;
        copy = adt.copy;
        drop_body = adt.drop_body;
      })

  sig_look : (sig : Sig) → sig_seen items sig ≡ sig_seen E sig
  sig_look sig = λ i. (sig.name, map (λ id. text_same items many id i) sig.params, text_same items many sig.result i)

  pub traits_look : (traits : List TraitDef) → map (trait_seen items) traits ≡ map (trait_seen E) traits
  traits_look = map_same (trait_seen items) (trait_seen E) (λ def. λ i. (def.name, map_same (sig_seen items) (sig_seen E) sig_look def.methods i))

  pub closures_look : (closures : List ClosureDef) → map (closure_seen items) closures ≡ map (closure_seen E) closures
  closures_look = map_same (closure_seen items) (closure_seen E) (λ def. λ i. (map (λ id. text_same items many id i) def.captures, def.body))

  pub bodies_look : (bodies : List Body) → numbered (body_read_seen items) 0 bodies ≡ numbered (body_read_seen E) 0 bodies
  bodies_look =
      numbered_same (body_read_seen items) (body_read_seen E)
      (λ n body. λ i. record { name = body_name items n; params = body.params; locals = map (λ id. text_same items many id i) body.locals; blocks = body.blocks }) 0

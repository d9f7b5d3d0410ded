-- A graph that was read, and whose lines stand, has names that stand in a listing and tell what they name.
use Rattle.std.proofs.Common.{◌≡◌, ℕ, zero, suc, ◌+◌, ◌<◌, Bool, true, false, List, [], ◌∷◌, ◌++◌, map, length, Some, slice_get, refl, ap, sym, subst, ◌∙◌, arith}
use Rattle.std.proofs.lemmas.Option.{none-some, same_Some}
use Rattle.mir_ty.specs.declared.adt.Adt.{Adt}
use Rattle.mir_ty.specs.declared.adt.Variant.{Variant}
use Rattle.mir_ty.specs.declared.def.ImplDef.{ImplDef}
use Rattle.mir_ty.specs.declared.def.Sig.{Sig}
use Rattle.mir_ty.specs.declared.def.TraitDef.{TraitDef}
use Rattle.mir_ty.specs.AreItems.{IsAdt}
use Rattle.mir_ty.specs.ItemTable.{ItemTable}
use Rattle.mir_ty.specs.Named.{body_name, name_of_adt}
use Rattle.cfg_graph.specs.declared.graph.Block.{Block}
use Rattle.cfg_graph.specs.declared.graph.Body.{Body}
use Rattle.cfg_graph.specs.declared.graph.Graph.{Graph}
use Rattle.cfg_graph.specs.declared.statement.Stmt.{Stmt}
use Rattle.cfg_graph.specs.declared.terminator.Term.{Term}
use Rattle.cfg_graph.specs.declared.graph.GraphFault.{GraphFault}
use Rattle.cfg_graph.specs.WellFormed.Broken.{first_of}
use Rattle.cfg_graph.specs.WellFormed.Faults.{first_fault}
use Rattle.cfg_graph.specs.WellFormed.NameFaults.{is_name, is_adt_name}
use Rattle.listing_write.specs.Compared.{numbered}
use Rattle.listing_write.specs.Lines.{EndLine, lines_of, lines_each, variant_of, method_of, adt_in_line, line_of_adt, line_of_trait, line_of_impl, line_of_stmt, line_of_term, line_of_local, lines_of_block, lines_of_body}
use Rattle.listing_write.specs.Listing.{listing}
use Rattle.listing_write.specs.Types.{name_of_trait}
use Rattle.listing_write.proofs.InLines.{listing-lines}
use Rattle.listing_write.proofs.Reading.Basics.{Every}
use Rattle.listing_write.proofs.Reading.Types.{adt_name_stands}
use Rattle.mir_text.specs.Answers.{WasRead, HasNoGraph}
use Rattle.mir_text.specs.Beginning.{LineStands}
use Rattle.mir_text.specs.Laws.{OneGraphIsRead, OneGraphWasRead}
use Rattle.mir_text.proofs.Alike.Apart.{apart_seen}
use Rattle.mir_text.proofs.Alike.One.{one_seen, well_formed_too}
use Rattle.mir_text.proofs.Alike.Readable.{StmtNames, TermNames, BlockNames, Readable}
use Rattle.mir_text.proofs.Fit.{graph_fits}
use Rattle.mir_text.proofs.GraphLines.{named_within}
use Rattle.mir_text.proofs.Longest.{adt_lines, trait_lines, impl_lines, closure_lines, body_lines_of, lines_are}
use Rattle.mir_text.proofs.Sections.{every_append}
use Rattle.mir_text.proofs.Whole.{lines_between, are_between}
use Rattle.listing_lines.specs.ItemsFound.{VariantsStand}
use Rattle.listing_lines.specs.TraitsFound.{MethodsStand}
use Rattle.listing_parts.proofs.Texts.{every_from_all}

module _ (items : ItemTable) where
  -- structs, enums and traits
  variants_named : (vs : List Variant) → VariantsStand items (map (variant_of items) vs) → Every (λ v. is_name v.name ≡ true) vs
  variants_named [] h = tt
  variants_named (v ∷ vs) h = (h.0.0, variants_named vs h.1)

  adt_named : (is_enum : Bool) (adt : Adt) → adt.is_enum ≡ is_enum → LineStands items (adt_in_line items is_enum adt) → IsAdt items.types adt → (is_adt_name adt.name ≡ true) × Every (λ v. is_name v.name ≡ true) adt.variants
  adt_named true adt e h are = (h.0, variants_named adt.variants h.2)
  adt_named false adt e h are =
      let (variant, is, own) = are.of_struct e in
      let name : is_name variant.name ≡ true = subst (λ (name : List ℕ). is_name name ≡ true) (sym own) (adt_name_stands adt.name h.0).0 in
      (h.0, subst (Every (λ (v : Variant). is_name v.name ≡ true)) (sym is) (name, tt))

  adts_named : (adts : List Adt) → Every (LineStands items) (map (line_of_adt items) adts) → Every (IsAdt items.types) adts → Every (λ adt. (is_adt_name adt.name ≡ true) × Every (λ v. is_name v.name ≡ true) adt.variants) adts
  adts_named [] h are = tt
  adts_named (adt ∷ adts) h are = (adt_named adt.is_enum adt refl h.0 are.0, adts_named adts h.1 are.1)

  methods_named : (name : List ℕ) (sigs : List Sig) → MethodsStand items name (map (method_of items) sigs) → Every (λ sig. is_name sig.name ≡ true) sigs
  methods_named name [] h = tt
  methods_named name (sig ∷ sigs) h = (h.0.named, methods_named name sigs h.1)

  traits_named : (traits : List TraitDef) → Every (LineStands items) (map (line_of_trait items) traits) → Every (λ def. (is_name def.name ≡ true) × Every (λ sig. is_name sig.name ≡ true) def.methods) traits
  traits_named [] h = tt
  traits_named (def ∷ traits) h = ((h.0.0, methods_named def.name def.methods h.0.2), traits_named traits h.1)

  impls_named : (impls : List ImplDef) → Every (LineStands items) (map (line_of_impl items) impls) → Every (λ def. (def.adt < length items.adts) × (def.trait_no < length items.traits)) impls
  impls_named [] h = tt
  impls_named (def ∷ impls) h = (
    (named_within items.adts def.adt name_of_adt refl h.0.1.0, named_within items.traits def.trait_no name_of_trait refl h.0.0.0),
    impls_named impls h.1,
  )

  -- bodies
  body_at : (k : ℕ) (bodies : List Body) → Every (LineStands items) (lines_each (lines_of_body items) k bodies) → (n : ℕ) (body : Body) → slice_get bodies n ≡ Some body → Every (LineStands items) (lines_of_body items (k + n) body)
  body_at k [] h n body is = absurd (none-some body is)
  body_at k (b ∷ bodies) h zero body is =
      let own = (every_append (LineStands items) (lines_of_body items k b) (lines_each (lines_of_body items) (suc k) bodies) h).0 in
      subst (λ (m : ℕ). Every (LineStands items) (lines_of_body items m body)) (let same : k ≡ k + 0 = omega arith in same) (subst (λ (b : Body). Every (LineStands items) (lines_of_body items k b)) (same_Some b body is) own)
  body_at k (b ∷ bodies) h (suc n) body is =
      let others = (every_append (LineStands items) (lines_of_body items k b) (lines_each (lines_of_body items) (suc k) bodies) h).1 in
      subst (λ (m : ℕ). Every (LineStands items) (lines_of_body items m body)) (let same : suc k + n ≡ k + suc n = omega arith in same) (body_at (suc k) bodies others n body is)

  stmt_names : (stmt : Stmt) → LineStands items (line_of_stmt items stmt) → StmtNames items stmt
  stmt_names (Stmt.Make to adt variant parts) s = named_within items.adts adt name_of_adt refl s.1.0
  stmt_names (Stmt.Unsize to trait from) s = named_within items.traits trait name_of_trait refl s.1.0
  stmt_names _ s = tt

  term_names : (term : Term) → LineStands items (line_of_term items term) → TermNames items term
  term_names (Term.Virtual to trait method args next unwind) s = named_within items.traits trait name_of_trait refl s.1.0
  term_names _ s = tt

  stmts_name : (stmts : List Stmt) → Every (LineStands items) (map (line_of_stmt items) stmts) → Every (StmtNames items) stmts
  stmts_name [] h = tt
  stmts_name (stmt ∷ stmts) h = (stmt_names stmt h.0, stmts_name stmts h.1)

  blocks_name : (n : ℕ) (blocks : List Block) → Every (LineStands items) (lines_each (lines_of_block items) n blocks) → Every (BlockNames items) blocks
  blocks_name n [] h = tt
  blocks_name n (block ∷ blocks) h =
      let parts = every_append (LineStands items) (lines_of_block items n block) (lines_each (lines_of_block items) (suc n) blocks) h in
      let own = every_append (LineStands items) (map (line_of_stmt items) block.stmts) (line_of_term items block.term ∷ []) parts.0.1 in
      ((stmts_name block.stmts own.0, term_names block.term own.1.0), blocks_name (suc n) blocks parts.1)

  bodies_name : (n : ℕ) (bodies : List Body) → Every (LineStands items) (lines_each (lines_of_body items) n bodies) → Every (λ body. Every (BlockNames items) body.blocks) bodies
  bodies_name n [] h = tt
  bodies_name n (body ∷ bodies) h =
      let parts = every_append (LineStands items) (lines_of_body items n body) (lines_each (lines_of_body items) (suc n) bodies) h in
      let own = every_append (LineStands items) (numbered (line_of_local items) 0 body.locals) (lines_each (lines_of_block items) 0 body.blocks) parts.0.1 in
      (blocks_name 0 body.blocks own.1, bodies_name (suc n) bodies parts.1)

pub readable : (text : List ℕ) (graph : Graph) → WasRead text graph → Readable graph
readable text graph was =
    let items : ItemTable = graph.items in
    let all = subst (Every (LineStands items)) (lines_are graph) (every_from_all (LineStands items) (lines_of graph) was.listed.stand) in
    let between = (every_append (LineStands items) (lines_between graph) (EndLine ∷ []) (subst (Every (LineStands items)) (are_between graph) all.1)).0 in
    let a = every_append (LineStands items) (adt_lines graph) (trait_lines graph ++ (impl_lines graph ++ (closure_lines graph ++ body_lines_of graph))) between in
    let b = every_append (LineStands items) (trait_lines graph) (impl_lines graph ++ (closure_lines graph ++ body_lines_of graph)) a.1 in
    let c = every_append (LineStands items) (impl_lines graph) (closure_lines graph ++ body_lines_of graph) b.1 in
    let d = every_append (LineStands items) (closure_lines graph) (body_lines_of graph) c.1 in
    record {
      items = was.listed.items;
      fits = graph_fits items graph was.types between;
      types = was.types;
      locals = was.locals;
      signed = was.signed;
      adts = adts_named items items.adts a.0 (every_from_all (IsAdt items.types) items.adts was.listed.items.adts);
      traits = traits_named items items.traits b.0;
      impls = impls_named items items.impls c.0;
      bodies = λ n body is.
          let own = body_at items 0 graph.bodies d.1 n body is in
          subst (λ (m : ℕ). is_name (body_name items m) ≡ true) (let same : 0 + n ≡ n = omega arith in same) own.0.1;
      blocks = bodies_name items 0 graph.bodies d.1;
    }

pub one_graph_is_read : OneGraphIsRead
one_graph_is_read text graph read listed is was =
    let r = readable text read was in
    let same : listing graph ≡ listing read = sym is ∙ was.listed.same ∙ sym (listing-lines read) in
    (one_seen graph read listed r same, well_formed_too graph read listed r same)

pub one_graph_was_read : OneGraphWasRead
one_graph_was_read text left right l r apart =
    apart_seen left right (readable text left l) (readable text right r) apart (listing-lines left ∙ sym l.listed.same ∙ r.listed.same ∙ sym (listing-lines right))

-- so a text of which a graph with a fault was read is the listing of no well formed one
pub has_no_graph : (text : List ℕ) (read : Graph) (fault : GraphFault) → WasRead text read → first_fault read ≡ Some fault → HasNoGraph text
has_no_graph text read fault was first graph listed is =
    absurd (none-some fault (ap first_of (sym (one_graph_is_read text graph read listed is was).1) ∙ first))

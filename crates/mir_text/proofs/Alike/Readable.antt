-- A graph that was read, whose names stand in a listing and tell what they name.
use Rattle.std.proofs.Common.{◌≡◌, ℕ, ◌^◌, ◌<◌, ◌≤◌, true, ◌+◌, List, [], ◌∷◌, length, Some, Option, All, IfSome, nat_lt, slice_get, sym, subst, arith, lt-ltb}
use Rattle.std.specs.Prelude.{⊤}
use Rattle.std.specs.List.{list_all}
use Rattle.mir_ty.specs.declared.adt.Adt.{Adt}
use Rattle.mir_ty.specs.declared.adt.Variant.{Variant}
use Rattle.mir_ty.specs.declared.def.ClosureDef.{ClosureDef}
use Rattle.mir_ty.specs.declared.def.ImplDef.{ImplDef}
use Rattle.mir_ty.specs.declared.def.Sig.{Sig}
use Rattle.mir_ty.specs.declared.def.TraitDef.{TraitDef}
use Rattle.mir_ty.specs.declared.ty.Ty.{Ty}
use Rattle.mir_ty.specs.declared.ty.TyId.{TyId}
use Rattle.mir_ty.specs.AreItems.{AreItems, AreTypes, AreMethods, HasParts, IsAdt, IsMethod, IsTy, IsVariant}
use Rattle.mir_ty.specs.ItemTable.{ItemTable, type_at}
use Rattle.mir_ty.specs.Named.{adt_name, body_name, name_of_adt}
use Rattle.cfg_graph.specs.declared.graph.Block.{Block}
use Rattle.cfg_graph.specs.declared.graph.Body.{Body}
use Rattle.cfg_graph.specs.declared.graph.Graph.{Graph}
use Rattle.cfg_graph.specs.declared.statement.Stmt.{Stmt}
use Rattle.cfg_graph.specs.declared.terminator.Term.{Term}
use Rattle.cfg_graph.specs.WellFormed.NameFaults.{stands_in_names, is_name, is_adt_name}
use Rattle.cfg_graph.specs.WellFormed.TypeFaults.{ty_exists}
use Rattle.listing_write.specs.Fields.{Fits, TyFits, StmtFits, BlockFits, BodyFits, GraphFits}
use Rattle.listing_write.specs.Types.{trait_name, name_of_trait}
use Rattle.listing_write.proofs.Reading.Basics.{Every}
use Rattle.listing_write.proofs.Reading.Bodies.{GoodStmt, GoodBlock, GoodBody}
use Rattle.listing_write.proofs.Reading.Items.{GoodVariant, GoodAdt, GoodSig, GoodTrait, GoodClosure, GoodImpl}
use Rattle.listing_write.proofs.Reading.Lines.{Named, TermNamed}
use Rattle.listing_write.proofs.Reading.Listed.{every_by, every_from_by, all_at, found_at, ty_numbers}
use Rattle.listing_write.proofs.Reading.Parts.{every_from_all}
use Rattle.listing_write.proofs.Reading.Rows.{EveryFrom}
use Rattle.listing_write.proofs.Reading.Types.{AreNamed, every_more, name_stands, adt_name_stands}
use Rattle.mir_text.proofs.Alike.Enough.{enough, there_exists}
use Rattle.listing_write.proofs.Reading.Same.{every_at}
use Rattle.mir_text.specs.BodiesRead.{AreSigned}
use Rattle.listing_parts.specs.Table.{AreRead}

-- the structs, enums and traits that lines name are there
abbrev pub StmtNames : ItemTable → Stmt → Type 0
StmtNames items (Stmt.Make to adt variant parts) = adt < length items.adts
StmtNames items (Stmt.Unsize to trait from) = trait < length items.traits
StmtNames items _ = ⊤

abbrev pub TermNames : ItemTable → Term → Type 0
TermNames items (Term.Virtual to trait method args next unwind) = trait < length items.traits
TermNames items _ = ⊤

abbrev pub BlockNames : ItemTable → Block → Type 0
BlockNames items block = Every (StmtNames items) block.stmts × TermNames items block.term

pub record Readable (graph : Graph) : Type 0 where
  pub items : AreItems graph.items
  pub fits : GraphFits graph
  pub types : AreRead graph.items graph.items.types
  pub locals : All (λ body. AreTypes graph.items.types body.locals) graph.bodies
  pub signed : AreSigned graph.items graph.items.bodies graph.bodies
  pub adts : Every (λ adt. (is_adt_name adt.name ≡ true) × Every (λ variant. is_name variant.name ≡ true) adt.variants) graph.items.adts
  pub traits : Every (λ def. (is_name def.name ≡ true) × Every (λ sig. is_name sig.name ≡ true) def.methods) graph.items.traits
  pub impls : Every (λ def. (def.adt < length graph.items.adts) × (def.trait_no < length graph.items.traits)) graph.items.impls
  pub bodies : (n : ℕ) (body : Body) → slice_get graph.bodies n ≡ Some body → is_name (body_name graph.items n) ≡ true
  pub blocks : Every (λ body. Every (BlockNames graph.items) body.blocks) graph.bodies

module _ (graph : Graph) (r : Readable graph) (many : List ClosureDef) (much : 2 ^ 32 ≤ length many) where
  abbrev items : ItemTable
  items = graph.items

  abbrev E : ItemTable
  E = enough items many

  pub has_parts : (id : TyId) (ty : Ty) → type_at items id ≡ Some ty → HasParts ty
  has_parts id ty is = (all_at (IsTy items.types) items.types id.0 ty r.items.types is).parts

  exists : (id : TyId) → id.0 < length items.types → ty_exists E id ≡ true
  exists = there_exists items many r.types much

  all_exist : (ids : List TyId) → AreTypes items.types ids → Every (λ id. ty_exists E id ≡ true) ids
  all_exist ids all = every_more E (λ (id : TyId). id.0 < length items.types) (λ (id : TyId). ty_exists E id ≡ true) exists ids (every_from_all (λ (id : TyId). id.0 < length items.types) ids all)

  pub names : AreNamed E
  names = record {
    adts = λ n h. let (adt, is) = found_at items.adts n h in subst (λ (o : Option Adt). is_adt_name (name_of_adt o) ≡ true) (sym is) (every_at (λ (adt : Adt). (is_adt_name adt.name ≡ true) × Every (λ variant. is_name variant.name ≡ true) adt.variants) items.adts n adt r.adts is).0;
    traits = λ n h. let (def, is) = found_at items.traits n h in subst (λ (o : Option TraitDef). is_name (name_of_trait o) ≡ true) (sym is) (every_at (λ (def : TraitDef). (is_name def.name ≡ true) × Every (λ sig. is_name sig.name ≡ true) def.methods) items.traits n def r.traits is).0;
    numbers = λ id ty is. ty_numbers ty (all_at TyFits items.types id.0 ty r.fits.items.types is);
    types = let short = r.items.short.types in omega (arith, short);
  }

  stands : (name : List ℕ) → is_name name ≡ true → list_all stands_in_names name ≡ true
  stands name h = (name_stands name h).1

  variants_good : (vs : List Variant) → Every (λ variant. is_name variant.name ≡ true) vs → Every (IsVariant items.types) vs → Every (GoodVariant E names) vs
  variants_good [] h k = tt
  variants_good (v ∷ vs) h k = (record { name = stands v.name h.0; fields = all_exist v.fields k.0.fields }, variants_good vs h.1 k.1)

  pub good_adts : Every (GoodAdt E names) items.adts
  good_adts =
      every_by (GoodAdt E names) items.adts (λ n adt is.
      let own = every_at (λ (adt : Adt). (is_adt_name adt.name ≡ true) × Every (λ variant. is_name variant.name ≡ true) adt.variants) items.adts n adt r.adts is in
      let are = all_at (IsAdt items.types) items.adts n adt r.items.adts is in
      record {
        name = stands adt.name (adt_name_stands adt.name own.0).0;
        variants = variants_good adt.variants own.1 (every_from_all (IsVariant items.types) adt.variants are.variants);
        one = are.of_struct;
        drops = all_at (λ (a : Adt). IfSome a.drop_body Fits) items.adts n adt r.fits.items.drops is;
      })

  methods_good : (n : ℕ) (sigs : List Sig) → Every (λ sig. is_name sig.name ≡ true) sigs → Every (IsMethod items.types n) sigs → Every (GoodSig E names) sigs
  methods_good n [] h k = tt
  methods_good n (sig ∷ sigs) h k =
      (record { name = stands sig.name h.0; params = all_exist sig.params k.0.head.params; answer = exists sig.result k.0.head.answer }, methods_good n sigs h.1 k.1)

  pub good_traits : Every (GoodTrait E names) items.traits
  good_traits =
      every_by (GoodTrait E names) items.traits (λ n def is.
      let own = every_at (λ (def : TraitDef). (is_name def.name ≡ true) × Every (λ sig. is_name sig.name ≡ true) def.methods) items.traits n def r.traits is in
      let are : All (IsMethod items.types n) def.methods = subst (AreMethods items.types n) is (r.items.traits n) in
      record { name = stands def.name own.0; methods = methods_good n def.methods own.1 (every_from_all (IsMethod items.types n) def.methods are) })

  pub good_closures : Every (GoodClosure E names) items.closures
  good_closures =
      every_by (GoodClosure E names) items.closures (λ n def is. record {
        captures = all_exist def.captures (all_at (λ (d : ClosureDef). AreTypes items.types d.captures) items.closures n def r.items.closures is);
        body = all_at (λ (d : ClosureDef). Fits d.body) items.closures n def r.fits.items.closures is;
      })

  -- where numbers are told by names
  module _ (adt_no trait_no : List ℕ → ℕ)
      (adts : (n : ℕ) → nat_lt n (length items.adts) ≡ true → (list_all stands_in_names (adt_name items n) ≡ true) × (adt_no (adt_name items n) ≡ n))
      (traits : (n : ℕ) → nat_lt n (length items.traits) ≡ true → (list_all stands_in_names (trait_name items n) ≡ true) × (trait_no (trait_name items n) ≡ n)) where
    pub good_impls : Every (GoodImpl adt_no trait_no E) items.impls
    good_impls =
        every_by (GoodImpl adt_no trait_no E) items.impls (λ n def is.
        let own = every_at (λ (def : ImplDef). (def.adt < length items.adts) × (def.trait_no < length items.traits)) items.impls n def r.impls is in
        record {
          adt = adts def.adt (lt-ltb def.adt (length items.adts) own.0);
          trait = traits def.trait_no (lt-ltb def.trait_no (length items.traits) own.1);
          bodies = every_from_all Fits def.bodies (all_at (λ (d : ImplDef). All Fits d.bodies) items.impls n def r.fits.items.impls is);
        })

    stmt_named : (stmt : Stmt) → StmtNames items stmt → Named adt_no trait_no E adts traits stmt
    stmt_named (Stmt.Make to adt variant parts) h = lt-ltb adt (length items.adts) h
    stmt_named (Stmt.Unsize to trait from) h = lt-ltb trait (length items.traits) h
    stmt_named _ h = tt

    term_named : (term : Term) → TermNames items term → TermNamed adt_no trait_no E traits term
    term_named (Term.Virtual to trait method args next unwind) h = lt-ltb trait (length items.traits) h
    term_named _ h = tt

    stmts_good : (stmts : List Stmt) → Every (StmtNames items) stmts → Every StmtFits stmts → Every (GoodStmt adt_no trait_no E adts traits) stmts
    stmts_good [] h k = tt
    stmts_good (stmt ∷ stmts) h k = ((k.0, stmt_named stmt h.0), stmts_good stmts h.1 k.1)

    blocks_good : (blocks : List Block) → Every (BlockNames items) blocks → Every BlockFits blocks → Every (GoodBlock adt_no trait_no E adts traits) blocks
    blocks_good [] h k = tt
    blocks_good (block ∷ blocks) h k = (
      record { rank = k.0.rank; stmts = stmts_good block.stmts h.0.0 (every_from_all StmtFits block.stmts k.0.stmts); term = k.0.term; named = term_named block.term h.0.1 },
      blocks_good blocks h.1 k.1,
    )

    pub good_bodies : EveryFrom (GoodBody adt_no trait_no E names adts traits) 0 graph.bodies
    good_bodies =
        every_from_by (GoodBody adt_no trait_no E names adts traits) 0 graph.bodies (λ n body is.
        let fits = all_at BodyFits graph.bodies n body r.fits.bodies is in
        let own = every_at (λ (body : Body). Every (BlockNames items) body.blocks) graph.bodies n body r.blocks is in
        let good : GoodBody adt_no trait_no E names adts traits n body = record {
          name = stands (body_name items n) (r.bodies n body is);
          params = fits.params;
          locals = all_exist body.locals (all_at (λ (body : Body). AreTypes items.types body.locals) graph.bodies n body r.locals is);
          blocks = blocks_good body.blocks own (every_from_all BlockFits body.blocks fits.blocks);
        } in
        subst (λ (m : ℕ). GoodBody adt_no trait_no E names adts traits m body) (let same : n ≡ 0 + n = omega arith in same) good)

-- Each line of a well formed graph stands.
use Rattle.std.proofs.Common.{◌≡◌, ℕ, zero, suc, ◌+◌, ◌-◌, ◌^◌, ◌<◌, ◌≤◌, Bool, true, false, ◌&&◌, nat_lt, List, [], ◌∷◌, ◌++◌, map, length, codes, Option, Some, None, All, IfSome, slice_get, refl, ap, sym, subst, ◌∙◌, arith, ltb-true}
use Rattle.std.specs.Prelude.{option_and_then}
use Rattle.std.specs.Str.{is_utf8}
use Rattle.std.specs.Option.{option_map_or}
use Rattle.std.proofs.lemmas.Bool.{and_parts, false≢true}
use Rattle.std.proofs.lemmas.Option.{slice_get_within}
use Rattle.cfg_graph.specs.declared.graph.Block.{Block}
use Rattle.cfg_graph.specs.declared.graph.Body.{Body}
use Rattle.cfg_graph.specs.declared.graph.Graph.{Graph}
use Rattle.cfg_graph.specs.declared.statement.Stmt.{Stmt}
use Rattle.cfg_graph.specs.declared.terminator.Term.{Term}
use Rattle.cfg_graph.specs.WellFormed.Faults.{IsCounted, IsCountedBody}
use Rattle.cfg_graph.specs.WellFormed.ItemFaults.{impl_tests, impl_exists}
use Rattle.cfg_graph.specs.WellFormed.LineFaults.{body_tests, has_sig, has_own_name}
use Rattle.cfg_graph.specs.WellFormed.NameFaults.{is_name, is_adt_name}
use Rattle.cfg_graph.specs.WellFormed.TypeFaults.{ty_exists, own_number_exists, existing}
use Rattle.mir_ty.specs.Facts.{in_rounds}
use Rattle.cfg_graph.proofs.NoFaults.{broken-holds}
use Rattle.mir_ty.specs.declared.adt.Adt.{Adt}
use Rattle.mir_ty.specs.declared.adt.Variant.{Variant}
use Rattle.mir_ty.specs.declared.def.ClosureDef.{ClosureDef}
use Rattle.mir_ty.specs.declared.def.ImplDef.{ImplDef}
use Rattle.mir_ty.specs.declared.def.Sig.{Sig}
use Rattle.mir_ty.specs.declared.def.TraitDef.{TraitDef}
use Rattle.mir_ty.specs.declared.ty.Ty.{Ty}
use Rattle.mir_ty.specs.declared.ty.TyId.{TyId}
use Rattle.mir_ty.specs.AreItems.{AreMethods, IsMethod, IsSelfTy, IsTy, types_in}
use Rattle.mir_ty.specs.ItemTable.{ItemTable}
use Rattle.mir_ty.specs.Named.{body_name, sig_name}
use Rattle.mir_ty.specs.Parts.{fields_of}
use Rattle.listing_write.specs.Compared.{IsListed, numbered}
use Rattle.listing_write.specs.Fields.{Fits, TermFits, TyFits}
use Rattle.listing_write.specs.Lines.{EndLine, BodyLine, tree_text, tree_of, tree_within, found_tree, trees, variant_of, method_of, adt_in_line, line_of_adt, line_of_trait, line_of_impl, line_of_closure, line_of_stmt, line_of_term, line_of_local, lines_of_block, lines_of_body, lines_each, lines_of}
use Rattle.listing_write.specs.Types.{trait_name, name_of_trait, deepest}
use Rattle.listing_write.proofs.InLines.{listing-lines}
use Rattle.listing_write.proofs.Reading.Basics.{Every}
use Rattle.listing_write.proofs.Reading.Bodies.{GoodStmt, GoodBlock, GoodBody}
use Rattle.listing_write.proofs.Reading.Items.{GoodVariant, GoodAdt, GoodSig, GoodTrait, GoodClosure}
use Rattle.listing_write.proofs.Reading.Lines.{TermNamed}
use Rattle.listing_write.proofs.Reading.Listed.{every_by, adt_names, trait_names, are_named, good_adts, good_traits, good_closures, impl_holds, adt_no, trait_no, adts_told, traits_told, good_bodies, own_holds}
use Rattle.listing_write.proofs.Reading.Rows.{EveryFrom}
use Rattle.listing_write.proofs.Reading.Types.{IsShown, shown_parts, every_of}
use Rattle.mir_text.specs.Beginning.{LineStands}
use Rattle.mir_text.specs.Laws.{AreInUtf8, WellFormedIsListed, WellFormedIsNotWrong}
use Rattle.mir_text.proofs.Longest.{adt_lines, trait_lines, impl_lines, closure_lines, body_lines_of, lines_are}
use Rattle.mir_text.proofs.Sections.{every_joined}
use Rattle.mir_text.proofs.Standing.{all_at, trait_stands, adt_named, form_stands}
use Rattle.mir_text.proofs.Told.{all_from_every}
use Rattle.listing_lines.specs.CodeStands.{AreNames}
use Rattle.listing_lines.specs.ItemsFound.{VariantsStand}
use Rattle.listing_lines.specs.TraitReading.{self_text}
use Rattle.listing_lines.specs.TraitsFound.{ParamsStand, MethodsStand}
use Rattle.listing_parts.specs.Table.{HasHead}
use Rattle.listing_parts.specs.TypesFound.{Stands, EachStands}
use Rattle.listing_parts.proofs.Texts.{every_from_all}

module _ (graph : Graph) (listed : IsListed graph) (counted : IsCounted graph) (utf : AreInUtf8 graph.items) where
  items : ItemTable
  items = graph.items

  names : AreNames graph.items
  names = record {
    adts = all_from_every (λ (adt : Adt). is_adt_name adt.name ≡ true) graph.items.adts (every_by (λ (adt : Adt). is_adt_name adt.name ≡ true) graph.items.adts (λ n adt is. (adt_names graph listed n adt is).0));
    traits = all_from_every (λ (def : TraitDef). is_name def.name ≡ true) graph.items.traits (every_by (λ (def : TraitDef). is_name def.name ≡ true) graph.items.traits (λ n def is. (trait_names graph listed n def is).0));
  }

  -- types
  head_of : (ty : Ty) → own_number_exists graph.items ty ≡ true → HasHead graph.items ty
  head_of (Ty.Adt n) h = ltb-true n (length graph.items.adts) h
  head_of (Ty.Dyn n) h = ltb-true n (length graph.items.traits) h
  head_of _ h = tt

  shown_stands : (k : ℕ) (id : TyId) → IsShown graph.items k id → (d : ℕ) → k ≤ d → Stands graph.items (tree_within graph.items d id)
  shown_stands zero id h d le = absurd (false≢true h)
  shown_stands (suc k) id h zero le = absurd (omega (arith, le))
  shown_stands (suc k) id h (suc d) le =
      let (ty, is, own, parts) = shown_parts graph.items k id h in
      subst (λ (o : Option Ty). Stands graph.items (found_tree graph.items (tree_within graph.items d) o)) (sym is)
      (form_stands graph.items names (tree_within graph.items d) ty
      (deeper (types_in ty) (every_of (in_rounds graph.items.types (existing graph.items) k) (types_in ty) parts) (λ part shown. shown_stands k part shown d (omega (arith, le)))) (head_of ty own)
      (all_at TyFits graph.items.types listed.fits.items.types id.0 ty is) (all_at (IsTy graph.items.types) graph.items.types listed.items.types id.0 ty is).parts)
    where
      deeper : (ids : List TyId) → Every (λ part. in_rounds graph.items.types (existing graph.items) k part ≡ true) ids → ((part : TyId) → IsShown graph.items k part → Stands graph.items (tree_within graph.items d part))
          → Every (λ part. Stands graph.items (tree_within graph.items d part)) ids
      deeper [] h each = tt
      deeper (part ∷ ids) h each = (each part h.0, deeper ids h.1 each)

  type_stands : (id : TyId) → ty_exists graph.items id ≡ true → Stands graph.items (tree_of graph.items id)
  unfolding tree_of
  type_stands id h = let short = listed.items.short.types in shown_stands (length graph.items.types) id h deepest (omega (arith, short))

  types_stand : (ids : List TyId) → Every (λ id. ty_exists graph.items id ≡ true) ids → EachStands graph.items (trees graph.items ids)
  types_stand [] h = tt
  types_stand (id ∷ ids) h = (type_stands id h.0, types_stand ids h.1)

  -- structs and enums
  variants_stand : (vs : List Variant) → Every (GoodVariant graph.items (are_named graph listed)) vs → Every (λ v. is_name v.name ≡ true) vs → Every (λ v. is_utf8 v.name ≡ true) vs
      → VariantsStand graph.items (map (variant_of graph.items) vs)
  variants_stand [] good named in_utf = tt
  variants_stand (v ∷ vs) good named in_utf = ((named.0, in_utf.0, types_stand v.fields good.0.fields), variants_stand vs good.1 named.1 in_utf.1)

  fields_stand : (vs : List Variant) → Every (GoodVariant graph.items (are_named graph listed)) vs → EachStands graph.items (trees graph.items (fields_of (slice_get vs 0)))
  fields_stand [] good = tt
  fields_stand (v ∷ vs) good = types_stand v.fields good.0.fields

  adt_stands_so : (is_enum : Bool) (adt : Adt) → is_adt_name adt.name ≡ true → is_utf8 adt.name ≡ true → Every (GoodVariant graph.items (are_named graph listed)) adt.variants → Every (λ v. is_name v.name ≡ true) adt.variants
      → Every (λ v. is_utf8 v.name ≡ true) adt.variants → IfSome adt.drop_body Fits → LineStands graph.items (adt_in_line graph.items is_enum adt)
  adt_stands_so true adt own in_utf good named variants fits = (own, in_utf, variants_stand adt.variants good named variants, fits)
  adt_stands_so false adt own in_utf good named variants fits = (own, in_utf, fields_stand adt.variants good, fits)

  adts_stand : (adts : List Adt) → Every (λ adt. LineStands graph.items (line_of_adt graph.items adt)) adts → Every (LineStands graph.items) (map (line_of_adt graph.items) adts)
  adts_stand [] h = tt
  adts_stand (adt ∷ adts) h = (h.0, adts_stand adts h.1)

  each_adt : Every (λ adt. LineStands graph.items (line_of_adt graph.items adt)) graph.items.adts
  each_adt =
      every_by (λ adt. LineStands graph.items (line_of_adt graph.items adt)) graph.items.adts (λ n adt is.
      let (own, variants, fresh) = adt_names graph listed n adt is in
      let good = every_at (GoodAdt graph.items (are_named graph listed)) graph.items.adts (good_adts graph listed) n adt is in
      adt_stands_so adt.is_enum adt own (all_at (λ (adt : Adt). is_utf8 adt.name ≡ true) graph.items.adts utf.adts n adt is) good.variants (every_of (λ (v : Variant). is_name v.name) adt.variants variants)
      (every_from_all (λ (v : Variant). is_utf8 v.name ≡ true) adt.variants (all_at (λ (adt : Adt). All (λ variant. is_utf8 variant.name ≡ true) adt.variants) graph.items.adts utf.variants n adt is)) good.drops)
    where
      every_at : {X : Type 0} (P : X → Type 0) (xs : List X) → Every P xs → (n : ℕ) (x : X) → slice_get xs n ≡ Some x → P x
      every_at P xs h n x is = all_at P xs (all_from_every P xs h) n x is

  -- traits
  self_named : (n : ℕ) (def : TraitDef) → slice_get graph.items.traits n ≡ Some def → (id : TyId) → IsSelfTy graph.items.types n (slice_get graph.items.types id.0) → (unique : Bool) × (tree_text (tree_of graph.items id) ≡ self_text unique def.name)
  unfolding tree_of
  self_named n def at id self = by (slice_get graph.items.types id.0) refl self
    where
      name : trait_name graph.items n ≡ def.name
      name = ap name_of_trait at

      inside : (to : TyId) → slice_get graph.items.types to.0 ≡ Some (Ty.Dyn n) → (d : ℕ) → 0 < d → tree_text (tree_within graph.items d to) ≡ codes "dyn " ++ def.name
      inside to is zero h = absurd (omega (arith, h))
      inside to is (suc d) h = ap (λ (o : Option Ty). tree_text (found_tree graph.items (tree_within graph.items d) o)) is ∙ ap (λ (w : List ℕ). codes "dyn " ++ w) name

      by : (o : Option Ty) → slice_get graph.items.types id.0 ≡ o → IsSelfTy graph.items.types n o → (unique : Bool) × (tree_text (tree_within graph.items deepest id) ≡ self_text unique def.name)
      by (Some (Ty.Shared to)) e self = (
        false,
        ap (λ (o : Option Ty). tree_text (found_tree graph.items (tree_within graph.items (deepest - 1)) o)) e ∙ ap (λ (w : List ℕ). codes "&" ++ w) (inside to self (deepest - 1) (omega arith)),
      )
      by (Some (Ty.Unique to)) e self = (
        true,
        ap (λ (o : Option Ty). tree_text (found_tree graph.items (tree_within graph.items (deepest - 1)) o)) e ∙ ap (λ (w : List ℕ). codes "&mut " ++ w) (inside to self (deepest - 1) (omega arith)),
      )
      by _ e self = absurd self

  params_stand : (n : ℕ) (def : TraitDef) → slice_get graph.items.traits n ≡ Some def → (params : List TyId) → IsSelfTy graph.items.types n (option_and_then (λ id. slice_get graph.items.types id.0) (slice_get params 0))
      → Every (λ id. ty_exists graph.items id ≡ true) params → ParamsStand graph.items def.name (trees graph.items params)
  params_stand n def at [] self exist = absurd self
  params_stand n def at (id ∷ ids) self exist = (self_named n def at id self, types_stand ids exist.1)

  methods_stand : (n : ℕ) (def : TraitDef) → slice_get graph.items.traits n ≡ Some def → (sigs : List Sig) → Every (IsMethod graph.items.types n) sigs → Every (GoodSig graph.items (are_named graph listed)) sigs
      → Every (λ sig. is_name sig.name ≡ true) sigs → Every (λ sig. is_utf8 sig.name ≡ true) sigs → MethodsStand graph.items def.name (map (method_of graph.items) sigs)
  methods_stand n def at [] are good named in_utf = tt
  methods_stand n def at (sig ∷ sigs) are good named in_utf = (
    record { named = named.0; utf8 = in_utf.0; params = params_stand n def at sig.params are.0.receiver good.0.params; answer = type_stands sig.result good.0.answer },
    methods_stand n def at sigs are.1 good.1 named.1 in_utf.1,
  )

  traits_stand : (traits : List TraitDef) → Every (λ def. LineStands graph.items (line_of_trait graph.items def)) traits → Every (LineStands graph.items) (map (line_of_trait graph.items) traits)
  traits_stand [] h = tt
  traits_stand (def ∷ traits) h = (h.0, traits_stand traits h.1)

  each_trait : Every (λ def. LineStands graph.items (line_of_trait graph.items def)) graph.items.traits
  each_trait =
      every_by (λ def. LineStands graph.items (line_of_trait graph.items def)) graph.items.traits (λ n def is.
      let (own, methods, fresh) = trait_names graph listed n def is in
      let good = all_at (GoodTrait graph.items (are_named graph listed)) graph.items.traits (all_from_every (GoodTrait graph.items (are_named graph listed)) graph.items.traits (good_traits graph listed)) n def is in
      let are : All (IsMethod graph.items.types n) def.methods = subst (AreMethods graph.items.types n) is (listed.items.traits n) in (
        own,
        all_at (λ (def : TraitDef). is_utf8 def.name ≡ true) graph.items.traits utf.traits n def is,
        methods_stand n def is def.methods (every_from_all (IsMethod graph.items.types n) def.methods are) good.methods (every_of (λ (sig : Sig). is_name sig.name) def.methods methods)
            (every_from_all (λ (sig : Sig). is_utf8 sig.name ≡ true) def.methods (all_at (λ (def : TraitDef). All (λ sig. is_utf8 sig.name ≡ true) def.methods) graph.items.traits utf.methods n def is)),
      ))

  -- impls and closures
  impls_stand : (impls : List ImplDef) → Every (λ def. LineStands graph.items (line_of_impl graph.items def)) impls → Every (LineStands graph.items) (map (line_of_impl graph.items) impls)
  impls_stand [] h = tt
  impls_stand (def ∷ impls) h = (h.0, impls_stand impls h.1)

  each_impl : Every (λ def. LineStands graph.items (line_of_impl graph.items def)) graph.items.impls
  each_impl =
      every_by (λ def. LineStands graph.items (line_of_impl graph.items def)) graph.items.impls (λ n def is.
      let tested = broken-holds (impl_tests graph.items (length graph.bodies) n def) (impl_holds graph listed n def is) 0 (1, impl_exists graph.items (length graph.bodies) def) refl in
      let (front, rest) = and_parts (nat_lt def.trait_no (length graph.items.traits) && nat_lt def.adt (length graph.items.adts)) _ tested in
      let (trait, adt) = and_parts (nat_lt def.trait_no (length graph.items.traits)) _ front in (
        trait_stands graph.items names def.trait_no (ltb-true def.trait_no (length graph.items.traits) trait),
        adt_named graph.items names def.adt (ltb-true def.adt (length graph.items.adts) adt),
        all_at (λ (d : ImplDef). All Fits d.bodies) graph.items.impls listed.fits.items.impls n def is,
      ))

  closures_stand : (n : ℕ) (closures : List ClosureDef) → n + length closures < 2 ^ 32 → Every (GoodClosure graph.items (are_named graph listed)) closures → Every (LineStands graph.items) (numbered (line_of_closure graph.items) n closures)
  closures_stand n [] few h = tt
  closures_stand n (def ∷ closures) few h = ((omega (arith, few), types_stand def.captures h.0.captures, h.0.body), closures_stand (suc n) closures (omega (arith, few)) h.1)

  -- bodies
  locals_stand : (n : ℕ) (ids : List TyId) → n + length ids < 2 ^ 32 → Every (λ id. ty_exists graph.items id ≡ true) ids → Every (LineStands graph.items) (numbered (line_of_local graph.items) n ids)
  locals_stand n [] few h = tt
  locals_stand n (id ∷ ids) few h = ((omega (arith, few), type_stands id h.0), locals_stand (suc n) ids (omega (arith, few)) h.1)

  stmt_stands : (stmt : Stmt) → GoodStmt (adt_no graph listed) (trait_no graph listed) graph.items (adts_told graph listed) (traits_told graph listed) stmt → LineStands graph.items (line_of_stmt graph.items stmt)
  stmt_stands (Stmt.Make to adt variant parts) g = (g.0.0, adt_named graph.items names adt (ltb-true adt (length graph.items.adts) g.1), g.0.1, g.0.2)
  stmt_stands (Stmt.Unsize to trait from) g = (g.0.0, trait_stands graph.items names trait (ltb-true trait (length graph.items.traits) g.1), g.0.1)
  stmt_stands other g = (g.0, tt)

  term_stands : (term : Term) → TermFits term → TermNamed (adt_no graph listed) (trait_no graph listed) graph.items (traits_told graph listed) term → LineStands graph.items (line_of_term graph.items term)
  term_stands (Term.Virtual to trait method args next unwind) f g = (f.0, trait_stands graph.items names trait (ltb-true trait (length graph.items.traits) g), f.1, f.2, f.3)
  term_stands other f g = (f, tt)

  abbrev Good : Block → Type 0
  Good = GoodBlock (adt_no graph listed) (trait_no graph listed) graph.items (adts_told graph listed) (traits_told graph listed)

  stmts_stand : (stmts : List Stmt) → Every (GoodStmt (adt_no graph listed) (trait_no graph listed) graph.items (adts_told graph listed) (traits_told graph listed)) stmts → Every (LineStands graph.items) (map (line_of_stmt graph.items) stmts)
  stmts_stand [] h = tt
  stmts_stand (stmt ∷ stmts) h = (stmt_stands stmt h.0, stmts_stand stmts h.1)

  blocks_stand : (n : ℕ) (blocks : List Block) → n + length blocks < 2 ^ 32 → Every Good blocks → Every (LineStands graph.items) (lines_each (lines_of_block graph.items) n blocks)
  blocks_stand n [] few h = tt
  blocks_stand n (block ∷ blocks) few h =
      every_joined (LineStands graph.items) (lines_of_block graph.items n block) (lines_each (lines_of_block graph.items) (suc n) blocks)
      ((omega (arith, few), h.0.rank), every_joined (LineStands graph.items) (map (line_of_stmt graph.items) block.stmts) (line_of_term graph.items block.term ∷ []) (stmts_stand block.stmts h.0.stmts) (term_stands block.term h.0.term h.0.named, tt))
      (blocks_stand (suc n) blocks (omega (arith, few)) h.1)

  body_named : (n : ℕ) (body : Body) → slice_get graph.bodies n ≡ Some body → (is_name (body_name graph.items n) ≡ true) × (is_utf8 (body_name graph.items n) ≡ true)
  body_named n body at =
      by (slice_get graph.items.bodies n) refl
      (broken-holds (body_tests graph.items (length graph.bodies) n body) (own_holds graph listed n body at) 2 (3, has_sig graph.items (length graph.bodies) body (slice_get graph.items.bodies n)) refl)
      (broken-holds (body_tests graph.items (length graph.bodies) n body) (own_holds graph listed n body at) 3 (7, option_map_or (has_own_name graph.items (length graph.bodies) n) (slice_get graph.items.bodies n) true) refl)
    where
      by : (o : Option Sig) → slice_get graph.items.bodies n ≡ o → has_sig graph.items (length graph.bodies) body (slice_get graph.items.bodies n) ≡ true
          → option_map_or (has_own_name graph.items (length graph.bodies) n) (slice_get graph.items.bodies n) true ≡ true → (is_name (body_name graph.items n) ≡ true) × (is_utf8 (body_name graph.items n) ≡ true)
      by None e signed h = absurd (false≢true (sym (ap (has_sig graph.items (length graph.bodies) body) e) ∙ signed))
      by (Some sig) e signed h =
          let own = subst (λ (o : Option Sig). option_map_or (has_own_name graph.items (length graph.bodies) n) o true ≡ true) e h in (
            ap (λ (o : Option Sig). is_name (sig_name o)) e ∙ (and_parts (is_name sig.name) _ own).0,
            ap (λ (o : Option Sig). is_utf8 (sig_name o)) e ∙ all_at (λ (sig : Sig). is_utf8 sig.name ≡ true) graph.items.bodies utf.bodies n sig e,
          )

  bodies_stand : (n : ℕ) (bodies : List Body) → EveryFrom (λ n body. Every (LineStands graph.items) (lines_of_body graph.items n body)) n bodies → Every (LineStands graph.items) (lines_each (lines_of_body graph.items) n bodies)
  bodies_stand n [] h = tt
  bodies_stand n (body ∷ bodies) h = every_joined (LineStands graph.items) (lines_of_body graph.items n body) (lines_each (lines_of_body graph.items) (suc n) bodies) h.0 (bodies_stand (suc n) bodies h.1)

  body_stands : (n : ℕ) (body : Body) → slice_get graph.bodies n ≡ Some body → GoodBody (adt_no graph listed) (trait_no graph listed) graph.items (are_named graph listed) (adts_told graph listed) (traits_told graph listed) n body
      → Every (LineStands graph.items) (lines_of_body graph.items n body)
  body_stands n body at good =
      let named = body_named n body at in
      let within = slice_get_within graph.bodies n body at in
      let few = counted.bodies in
      let own : IsCountedBody body = all_at IsCountedBody graph.bodies counted.each n body at in
      let locals = own.locals in
      let blocks = own.blocks in
      every_joined (LineStands graph.items) (BodyLine n (body_name graph.items n) body.params ∷ numbered (line_of_local graph.items) 0 body.locals) (lines_each (lines_of_block graph.items) 0 body.blocks)
      ((omega (arith, within, few), named.0, named.1, good.params), locals_stand 0 body.locals (omega (arith, locals)) good.locals)
      (blocks_stand 0 body.blocks (omega (arith, blocks)) good.blocks)

  each_body : EveryFrom (λ n body. Every (LineStands graph.items) (lines_of_body graph.items n body)) 0 graph.bodies
  each_body = up 0 graph.bodies (good_bodies graph listed) (λ k body is. let same : 0 + k ≡ k = omega arith in subst (λ (m : ℕ). slice_get graph.bodies m ≡ Some body) (sym same) is)
    where
      up : (n : ℕ) (bodies : List Body) → EveryFrom (GoodBody (adt_no graph listed) (trait_no graph listed) graph.items (are_named graph listed) (adts_told graph listed) (traits_told graph listed)) n bodies
          → ((k : ℕ) (body : Body) → slice_get bodies k ≡ Some body → slice_get graph.bodies (n + k) ≡ Some body) → EveryFrom (λ n body. Every (LineStands graph.items) (lines_of_body graph.items n body)) n bodies
      up n [] h at = tt
      up n (body ∷ bodies) h at = (
        body_stands n body (let own = at 0 body refl in let same : n + 0 ≡ n = omega arith in subst (λ (m : ℕ). slice_get graph.bodies m ≡ Some body) same own) h.0,
        up (suc n) bodies h.1 (λ k other is. let own = at (suc k) other is in let same : n + suc k ≡ suc n + k = omega arith in subst (λ (m : ℕ). slice_get graph.bodies m ≡ Some other) same own),
      )

  pub lines_stand : Every (LineStands graph.items) (lines_of graph)
  lines_stand =
      let few = listed.items.short.others in
      let closures : 0 + length graph.items.closures < 2 ^ 32 = omega (arith, few) in
      subst (Every (LineStands graph.items)) (sym (lines_are graph)) (
        tt,
        every_joined (LineStands graph.items) (adt_lines graph) _ (adts_stand graph.items.adts each_adt)
            (every_joined (LineStands graph.items) (trait_lines graph) _ (traits_stand graph.items.traits each_trait)
            (every_joined (LineStands graph.items) (impl_lines graph) _ (impls_stand graph.items.impls each_impl)
            (every_joined (LineStands graph.items) (closure_lines graph) _ (closures_stand 0 graph.items.closures closures (good_closures graph listed))
            (every_joined (LineStands graph.items) (body_lines_of graph) (EndLine ∷ []) (bodies_stand 0 graph.bodies each_body) (tt, tt))))),
      )

pub well_formed_is_listed : WellFormedIsListed
well_formed_is_listed graph listed counted utf = record {
  items = listed.items;
  stand = all_from_every (LineStands graph.items) (lines_of graph) (lines_stand graph listed counted utf);
  same = listing-lines graph;
}

pub well_formed_is_not_wrong : WellFormedIsNotWrong
well_formed_is_not_wrong graph n listed counted utf wrong = wrong.no_listing graph (well_formed_is_listed graph listed counted utf)

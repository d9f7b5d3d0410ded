-- What holds of each line of a well formed graph: its names stand in a listing, its types exist, and the numbers of structs, enums and
-- traits are told by their names.
use Rattle.std.proofs.Common.{◌≡◌, ℕ, zero, suc, ◌+◌, ◌<◌, true, false, ◌&&◌, List, [], ◌∷◌, ◌++◌, map, flat_map, take, length, Option, Some, None, All, IfSome, is_some, nat_eq, nat_lt, slice_get, refl, ap, sym, subst, ◌∙◌, arith, eq-eqb, lt-ltb, ltb-true}
use Rattle.std.specs.Prelude.{option_map, option_and_then}
use Rattle.std.specs.List.{list_all}
use Rattle.std.specs.Option.{option_map_or}
use Rattle.std.proofs.lemmas.Bool.{and_parts, and_from, false≢true}
use Rattle.std.proofs.lemmas.Option.{none-some, same_Some, slice_get-map, slice_get_within, get_or_from_slice_get}
use Rattle.std.proofs.lemmas.List.Folds.{list_all-append}
use Rattle.mir_ty.specs.declared.ty.Ty.{Ty}
use Rattle.mir_ty.specs.declared.ty.TyId.{TyId}
use Rattle.mir_ty.specs.declared.adt.Adt.{Adt}
use Rattle.mir_ty.specs.declared.adt.Variant.{Variant}
use Rattle.mir_ty.specs.declared.def.Sig.{Sig}
use Rattle.mir_ty.specs.declared.def.TraitDef.{TraitDef}
use Rattle.mir_ty.specs.declared.def.ImplDef.{ImplDef}
use Rattle.mir_ty.specs.declared.def.ClosureDef.{ClosureDef}
use Rattle.mir_ty.specs.AreItems.{IsAdt}
use Rattle.mir_ty.specs.ItemTable.{ItemTable}
use Rattle.mir_ty.specs.Named.{adt_name, body_name, name_of_adt, sig_name}
use Rattle.cfg_graph.specs.declared.statement.Stmt.{Stmt}
use Rattle.cfg_graph.specs.declared.terminator.Term.{Term}
use Rattle.cfg_graph.specs.declared.graph.Block.{Block}
use Rattle.cfg_graph.specs.declared.graph.Body.{Body}
use Rattle.cfg_graph.specs.declared.graph.Graph.{Graph}
use Rattle.cfg_graph.specs.Edges.{targets}
use Rattle.cfg_graph.specs.WellFormed.Faults.{nowhere, at_line, of_each, of_items, adts_faults, traits_faults, impls_faults, closures_faults, item_faults, own_faults, locals_faults, stmts_faults, block_faults, faults_of_body, end_faults}
use Rattle.cfg_graph.specs.WellFormed.ItemFaults.{field_types, types_of_sig, types_of_trait, exist, adt_tests, adt_faults, adt_has_names, trait_tests, trait_faults, trait_has_names, impl_tests, impl_faults, impl_exists, closure_tests, closure_faults}
use Rattle.cfg_graph.specs.WellFormed.LineFaults.{stmt_numbers_exist, term_numbers_exist, blocks_exist, stmt_tests, stmt_faults, term_tests, term_faults, local_tests, local_faults, has_sig, has_own_name, body_tests, body_faults}
use Rattle.cfg_graph.specs.WellFormed.NameFaults.{same_name, is_among, stands_in_names, is_name, is_adt_name, is_repeated}
use Rattle.cfg_graph.specs.WellFormed.TypeFaults.{ty_exists}
use Rattle.cfg_graph.specs.WellFormed.Typing.{method_at}
use Rattle.cfg_graph.proofs.NoFaults.{first_empty, second_empty, map_empty, of_each-empty, broken-holds}
use Rattle.listing_write.specs.Compared.{IsListed, AdtSeen, SigSeen, adt_seen, trait_seen}
use Rattle.listing_write.specs.Fields.{Fits, TyFits, BodyFits, BlockFits, StmtFits}
use Rattle.listing_write.specs.Types.{trait_name, name_of_trait}
use Rattle.listing_write.specs.Reading.Words.{place_in}
use Rattle.listing_write.proofs.Reading.Basics.{Every}
use Rattle.listing_write.proofs.Reading.Rows.{EveryFrom}
use Rattle.listing_write.proofs.Reading.Types.{HasNumbers, AreNamed, every_of, name_stands, adt_name_stands, not_true, or_parts}
use Rattle.listing_write.proofs.Reading.Parts.{every_from_all}
use Rattle.listing_write.proofs.Reading.Lines.{Named, TermNamed}
use Rattle.listing_write.proofs.Reading.Bodies.{GoodStmt, GoodBlock, GoodBody}
use Rattle.listing_write.proofs.Reading.Items.{GoodVariant, GoodAdt, GoodSig, GoodTrait, GoodClosure, GoodImpl}

-- what holds of each by its number, holds of all
pub every_by : {X : Type 0} (P : X → Type 0) (xs : List X) → ((n : ℕ) (x : X) → slice_get xs n ≡ Some x → P x) → Every P xs
every_by P [] h = tt
every_by P (x ∷ xs) h = (h 0 x refl, every_by P xs (λ n y e. h (suc n) y e))

pub every_from_by : {X : Type 0} (P : ℕ → X → Type 0) (k : ℕ) (xs : List X) → ((n : ℕ) (x : X) → slice_get xs n ≡ Some x → P (k + n) x) → EveryFrom P k xs
every_from_by P k [] h = tt
every_from_by P k (x ∷ xs) h = (
  subst (λ m. P m x) (let e : k + 0 ≡ k = omega arith in e) (h 0 x refl),
  every_from_by P (suc k) xs (λ n y e. subst (λ m. P m y) (let s : k + suc n ≡ suc k + n = omega arith in s) (h (suc n) y e)),
)

pub all_at : {X : Type 0} (P : X → Type 0) (xs : List X) (n : ℕ) (x : X) → All P xs → slice_get xs n ≡ Some x → P x
all_at P xs n x all e = subst P (get_or_from_slice_get xs n x x e) (all n x (slice_get_within xs n x e))

-- there is one with each number below the length
pub found_at : {X : Type 0} (xs : List X) (n : ℕ) → nat_lt n (length xs) ≡ true → (x : X) × (slice_get xs n ≡ Some x)
found_at [] n h = absurd (let k : n < 0 = ltb-true n 0 h in omega arith)
found_at (x ∷ xs) zero h = (x, refl)
found_at (x ∷ xs) (suc n) h = let k : suc n < suc (length xs) = ltb-true (suc n) (suc (length xs)) h in found_at xs n (lt-ltb n (length xs) (omega arith))

-- names
pub same_as_itself : (name : List ℕ) → same_name name name ≡ true
same_as_itself [] = refl
same_as_itself (b ∷ bs) = and_from (nat_eq b b) _ (eq-eqb b b refl) (same_as_itself bs)

pub placed : (names : List (List ℕ)) (n : ℕ) (name : List ℕ) → slice_get names n ≡ Some name → is_among (take n names) name ≡ false → place_in names name ≡ n
placed [] n name e h = absurd (none-some name e)
placed (x ∷ xs) zero name e h =
    let same : same_name name x ≡ true = subst (λ y. same_name name y ≡ true) (sym (same_Some x name e)) (same_as_itself name) in
    rw same refl
placed (x ∷ xs) (suc n) name e h =
    let (other, rest) = or_parts (same_name name x) (is_among (take n xs) name) h in
    let deeper : place_in xs name ≡ n = placed xs n name e rest in
    rw other (ap suc deeper)

pub ty_numbers : (ty : Ty) → TyFits ty → HasNumbers ty
ty_numbers (Ty.Array element count) fits = omega arith
ty_numbers (Ty.Closure n) fits = omega arith
ty_numbers _ fits = tt

variants_good : (items : ItemTable) (variants : List Variant) → list_all (λ variant. is_name variant.name) variants ≡ true
    → list_all (ty_exists items) (flat_map (λ variant. variant.fields) variants) ≡ true → (names : AreNamed items) → Every (GoodVariant items names) variants
variants_good items [] h k names = tt
variants_good items (variant ∷ variants) h k names =
    let (own, others) = and_parts (is_name variant.name) _ h in
    let (mine, rest) = and_parts (list_all (ty_exists items) variant.fields) _ (sym (list_all-append (ty_exists items) variant.fields (flat_map (λ variant. variant.fields) variants)) ∙ k) in
    (record { name = (name_stands variant.name own).1; fields = every_of (ty_exists items) variant.fields mine }, variants_good items variants others rest names)

methods_good : (items : ItemTable) (methods : List Sig) → list_all (λ method. is_name method.name) methods ≡ true
    → list_all (ty_exists items) (flat_map types_of_sig methods) ≡ true → (names : AreNamed items) → Every (GoodSig items names) methods
methods_good items [] h k names = tt
methods_good items (sig ∷ methods) h k names =
    let (own, others) = and_parts (is_name sig.name) _ h in
    let (mine, rest) = and_parts (list_all (ty_exists items) (types_of_sig sig)) _ (sym (list_all-append (ty_exists items) (types_of_sig sig) (flat_map types_of_sig methods)) ∙ k) in
    let (answer, params) = and_parts (ty_exists items sig.result) _ mine in
    (record { name = (name_stands sig.name own).1; params = every_of (ty_exists items) sig.params params; answer = answer }, methods_good items methods others rest names)

module _ (graph : Graph) (listed : IsListed graph) where
  abbrev items : ItemTable
  items = graph.items

  abbrev bodies : ℕ
  bodies = length graph.bodies

  no_item_fault : item_faults graph ≡ []
  no_item_fault = first_empty (item_faults graph) (of_each (faults_of_body graph) 0 graph.bodies ++ end_faults graph) listed.well_formed

  no_body_fault : of_each (faults_of_body graph) 0 graph.bodies ≡ []
  no_body_fault =
      first_empty (of_each (faults_of_body graph) 0 graph.bodies) (end_faults graph)
      (second_empty (item_faults graph) (of_each (faults_of_body graph) 0 graph.bodies ++ end_faults graph) listed.well_formed)

  behind_adts : traits_faults graph ++ (impls_faults graph ++ closures_faults graph) ≡ []
  behind_adts = second_empty (adts_faults graph) (traits_faults graph ++ (impls_faults graph ++ closures_faults graph)) no_item_fault

  behind_traits : impls_faults graph ++ closures_faults graph ≡ []
  behind_traits = second_empty (traits_faults graph) (impls_faults graph ++ closures_faults graph) behind_adts

  no_fault_of : {X : Type 0} → (before : ℕ) (faults : ℕ → X → List ℕ) (xs : List X) → of_items graph before faults xs ≡ [] → (n : ℕ) (x : X) → slice_get xs n ≡ Some x → faults n x ≡ []
  no_fault_of before faults xs none n x is =
      let own = of_each-empty (λ n x. at_line nowhere nowhere (before + n) (faults n x)) 0 xs none n x is in
      let empty = map_empty (λ (k : ℕ). record { number = k; body = nowhere; block = nowhere; line = before + (0 + n) }) (faults (0 + n) x) own in
      subst (λ m. faults m x ≡ []) (let e : 0 + n ≡ n = omega arith in e) empty

  pub adt_holds : (n : ℕ) (adt : Adt) → slice_get items.adts n ≡ Some adt → adt_faults items bodies n adt ≡ []
  adt_holds = no_fault_of 0 (adt_faults items bodies) items.adts (first_empty (adts_faults graph) (traits_faults graph ++ (impls_faults graph ++ closures_faults graph)) no_item_fault)

  pub trait_holds : (n : ℕ) (def : TraitDef) → slice_get items.traits n ≡ Some def → trait_faults items bodies n def ≡ []
  trait_holds = no_fault_of (length items.adts) (trait_faults items bodies) items.traits (first_empty (traits_faults graph) (impls_faults graph ++ closures_faults graph) behind_adts)

  pub impl_holds : (n : ℕ) (def : ImplDef) → slice_get items.impls n ≡ Some def → impl_faults items bodies n def ≡ []
  impl_holds = no_fault_of (length items.adts + length items.traits) (impl_faults items bodies) items.impls (first_empty (impls_faults graph) (closures_faults graph) behind_traits)

  pub closure_holds : (n : ℕ) (def : ClosureDef) → slice_get items.closures n ≡ Some def → closure_faults items bodies n def ≡ []
  closure_holds =
      no_fault_of (length items.adts + length items.traits + length items.impls) (closure_faults items bodies) items.closures
      (second_empty (impls_faults graph) (closures_faults graph) behind_traits)

  -- structs and enums
  adt_named : (n : ℕ) (adt : Adt) → slice_get items.adts n ≡ Some adt → adt_has_names items bodies n adt ≡ true
  adt_named n adt is = broken-holds (adt_tests items bodies n adt) (adt_holds n adt is) 2 (7, adt_has_names items bodies n adt) refl

  pub adt_names : (n : ℕ) (adt : Adt) → slice_get items.adts n ≡ Some adt
      → (is_adt_name adt.name ≡ true) × (list_all (λ variant. is_name variant.name) adt.variants ≡ true) × (is_repeated (map (λ other. other.name) items.adts) n adt.name ≡ false)
  adt_names n adt is =
      let (front, fresh) = and_parts (is_adt_name adt.name && list_all (λ variant. is_name variant.name) adt.variants) _ (adt_named n adt is) in
      let (own, variants) = and_parts (is_adt_name adt.name) _ front in
      (own, variants, not_true (is_repeated (map (λ other. other.name) items.adts) n adt.name) fresh)

  pub trait_names : (n : ℕ) (def : TraitDef) → slice_get items.traits n ≡ Some def
      → (is_name def.name ≡ true) × (list_all (λ method. is_name method.name) def.methods ≡ true) × (is_repeated (map (λ other. other.name) items.traits) n def.name ≡ false)
  trait_names n def is =
      let named = broken-holds (trait_tests items bodies n def) (trait_holds n def is) 2 (7, trait_has_names items bodies n def) refl in
      let (front, fresh) = and_parts (is_name def.name && list_all (λ method. is_name method.name) def.methods) _ named in
      let (own, methods) = and_parts (is_name def.name) _ front in
      (own, methods, not_true (is_repeated (map (λ other. other.name) items.traits) n def.name) fresh)

  pub are_named : AreNamed items
  are_named = record {
    adts = λ n h. let (adt, is) = found_at items.adts n h in subst (λ o. is_adt_name (name_of_adt o) ≡ true) (sym is) (adt_names n adt is).0;
    traits = λ n h. let (def, is) = found_at items.traits n h in subst (λ o. is_name (name_of_trait o) ≡ true) (sym is) (trait_names n def is).0;
    numbers = λ id ty is. ty_numbers ty (all_at TyFits items.types id.0 ty listed.fits.items.types is);
    types = let short = listed.items.short.types in omega arith;
  }

  pub good_adts : Every (GoodAdt items are_named) items.adts
  good_adts = every_by (GoodAdt items are_named) items.adts one
    where
      one : (n : ℕ) (adt : Adt) → slice_get items.adts n ≡ Some adt → GoodAdt items are_named adt
      one n adt is =
          let (own, variants, fresh) = adt_names n adt is in
          let tested = broken-holds (adt_tests items bodies n adt) (adt_holds n adt is) 0 (1, exist items bodies (field_types adt) && option_map_or (λ body. nat_lt body bodies) adt.drop_body true) refl in
          let types = (and_parts (exist items bodies (field_types adt)) _ tested).0 in
          record {
            name = (name_stands adt.name (adt_name_stands adt.name own).0).1;
            variants = variants_good items adt.variants variants types are_named;
            one = (all_at (IsAdt items.types) items.adts n adt listed.items.adts is).of_struct;
            drops = all_at (λ (a : Adt). IfSome a.drop_body Fits) items.adts n adt listed.fits.items.drops is;
          }

  pub good_traits : Every (GoodTrait items are_named) items.traits
  good_traits = every_by (GoodTrait items are_named) items.traits one
    where
      one : (n : ℕ) (def : TraitDef) → slice_get items.traits n ≡ Some def → GoodTrait items are_named def
      one n def is =
          let (own, methods, fresh) = trait_names n def is in
          let types = broken-holds (trait_tests items bodies n def) (trait_holds n def is) 0 (1, exist items bodies (types_of_trait def)) refl in
          record { name = (name_stands def.name own).1; methods = methods_good items def.methods methods types are_named }

  pub good_closures : Every (GoodClosure items are_named) items.closures
  good_closures = every_by (GoodClosure items are_named) items.closures one
    where
      one : (n : ℕ) (def : ClosureDef) → slice_get items.closures n ≡ Some def → GoodClosure items are_named def
      one n def is =
          let tested = broken-holds (closure_tests items bodies n def) (closure_holds n def is) 0 (1, exist items bodies def.captures && nat_lt def.body bodies) refl in
          record {
            captures = every_of (ty_exists items) def.captures (and_parts (exist items bodies def.captures) _ tested).0;
            body = all_at (λ (d : ClosureDef). Fits d.body) items.closures n def listed.fits.items.closures is;
          }

  -- numbers by names
  abbrev pub adt_no : List ℕ → ℕ
  adt_no = place_in (map (λ (adt : AdtSeen). adt.name) (map (adt_seen items) items.adts))

  abbrev pub trait_no : List ℕ → ℕ
  trait_no = place_in (map (λ (def : List ℕ × List SigSeen). def.0) (map (trait_seen items) items.traits))

  names_seen : (adts : List Adt) → map (λ (adt : AdtSeen). adt.name) (map (adt_seen items) adts) ≡ map (λ (adt : Adt). adt.name) adts
  names_seen [] = refl
  names_seen (adt ∷ adts) = ap (λ (w : List (List ℕ)). adt.name ∷ w) (names_seen adts)

  trait_names_seen : (traits : List TraitDef) → map (λ (def : List ℕ × List SigSeen). def.0) (map (trait_seen items) traits) ≡ map (λ (def : TraitDef). def.name) traits
  trait_names_seen [] = refl
  trait_names_seen (def ∷ traits) = ap (λ (w : List (List ℕ)). def.name ∷ w) (trait_names_seen traits)

  pub adts_told : (n : ℕ) → nat_lt n (length items.adts) ≡ true → (list_all stands_in_names (adt_name items n) ≡ true) × (adt_no (adt_name items n) ≡ n)
  adts_told n h =
      let (adt, is) = found_at items.adts n h in
      let (own, variants, fresh) = adt_names n adt is in
      let names : List (List ℕ) = map (λ (other : Adt). other.name) items.adts in
      let at : slice_get names n ≡ Some adt.name = slice_get-map (λ (other : Adt). other.name) items.adts n ∙ ap (option_map (λ (other : Adt). other.name)) is in
      subst (λ o. (list_all stands_in_names (name_of_adt o) ≡ true) × (adt_no (name_of_adt o) ≡ n)) (sym is)
      ((name_stands adt.name (adt_name_stands adt.name own).0).1, ap (λ (ns : List (List ℕ)). place_in ns adt.name) (names_seen items.adts) ∙ placed names n adt.name at fresh)

  pub traits_told : (n : ℕ) → nat_lt n (length items.traits) ≡ true → (list_all stands_in_names (trait_name items n) ≡ true) × (trait_no (trait_name items n) ≡ n)
  traits_told n h =
      let (def, is) = found_at items.traits n h in
      let (own, methods, fresh) = trait_names n def is in
      let names : List (List ℕ) = map (λ (other : TraitDef). other.name) items.traits in
      let at : slice_get names n ≡ Some def.name = slice_get-map (λ (other : TraitDef). other.name) items.traits n ∙ ap (option_map (λ (other : TraitDef). other.name)) is in
      subst (λ o. (list_all stands_in_names (name_of_trait o) ≡ true) × (trait_no (name_of_trait o) ≡ n)) (sym is)
      ((name_stands def.name own).1, ap (λ (ns : List (List ℕ)). place_in ns def.name) (trait_names_seen items.traits) ∙ placed names n def.name at fresh)

  pub good_impls : Every (GoodImpl adt_no trait_no items) items.impls
  good_impls = every_by (GoodImpl adt_no trait_no items) items.impls one
    where
      one : (n : ℕ) (def : ImplDef) → slice_get items.impls n ≡ Some def → GoodImpl adt_no trait_no items def
      one n def is =
          let tested = broken-holds (impl_tests items bodies n def) (impl_holds n def is) 0 (1, impl_exists items bodies def) refl in
          let (front, rest) = and_parts (nat_lt def.trait_no (length items.traits) && nat_lt def.adt (length items.adts)) _ tested in
          let (trait, adt) = and_parts (nat_lt def.trait_no (length items.traits)) _ front in
          record {
            adt = adts_told def.adt adt;
            trait = traits_told def.trait_no trait;
            bodies = every_from_all Fits def.bodies (all_at (λ (d : ImplDef). All Fits d.bodies) items.impls n def listed.fits.items.impls is);
          }

  -- bodies
  abbrev IsGoodStmt : Stmt → Type 0
  IsGoodStmt = GoodStmt adt_no trait_no items adts_told traits_told

  stmt_named : (stmt : Stmt) → stmt_numbers_exist items bodies stmt ≡ true → Named adt_no trait_no items adts_told traits_told stmt
  stmt_named (Stmt.Make to adt variant parts) h = h
  stmt_named (Stmt.Unsize to trait from) h = h
  stmt_named _ h = tt

  trait_of_method : (trait method : ℕ) → is_some (method_at items trait method) ≡ true → nat_lt trait (length items.traits) ≡ true
  trait_of_method trait method h = by (slice_get items.traits trait) refl
    where
      by : (o : Option TraitDef) → slice_get items.traits trait ≡ o → nat_lt trait (length items.traits) ≡ true
      by None e = absurd (false≢true (subst (λ (o : Option TraitDef). is_some (option_and_then (λ def. slice_get def.methods method) o) ≡ true) e h))
      by (Some def) e = lt-ltb trait (length items.traits) (slice_get_within items.traits trait def e)

  term_named : (term : Term) → term_numbers_exist items bodies term ≡ true → TermNamed adt_no trait_no items traits_told term
  term_named (Term.Virtual to trait method args next unwind) h = trait_of_method trait method h
  term_named _ h = tt

  module _ (number : ℕ) (body : Body) (at : slice_get graph.bodies number ≡ Some body) where
    body_fits : BodyFits body
    body_fits = all_at BodyFits graph.bodies number body listed.fits.bodies at

    pub of_body : faults_of_body graph (0 + number) body ≡ []
    of_body = of_each-empty (faults_of_body graph) 0 graph.bodies no_body_fault number body at

    pub behind_own : locals_faults graph (0 + number) body ++ of_each (block_faults graph (0 + number) body) 0 body.blocks ≡ []
    behind_own = second_empty (own_faults graph (0 + number) body) (locals_faults graph (0 + number) body ++ of_each (block_faults graph (0 + number) body) 0 body.blocks) of_body

    pub own_holds : body_faults items bodies number body ≡ []
    own_holds =
        let empty = map_empty (λ (k : ℕ). record { number = k; body = 0 + number; block = nowhere; line = nowhere }) (body_faults items bodies (0 + number) body)
        (first_empty (own_faults graph (0 + number) body) (locals_faults graph (0 + number) body ++ of_each (block_faults graph (0 + number) body) 0 body.blocks) of_body) in
        subst (λ m. body_faults items bodies m body ≡ []) (let e : 0 + number ≡ number = omega arith in e) empty

    pub sig_holds : has_sig items bodies body (slice_get items.bodies number) ≡ true
    sig_holds = broken-holds (body_tests items bodies number body) own_holds 2 (3, has_sig items bodies body (slice_get items.bodies number)) refl

    name_holds : list_all stands_in_names (body_name items number) ≡ true
    name_holds =
        by (slice_get items.bodies number) refl
        (broken-holds (body_tests items bodies number body) own_holds 3 (7, option_map_or (has_own_name items bodies number) (slice_get items.bodies number) true) refl)
      where
        by : (o : Option Sig) → slice_get items.bodies number ≡ o → option_map_or (has_own_name items bodies number) (slice_get items.bodies number) true ≡ true
            → list_all stands_in_names (body_name items number) ≡ true
        by None e h = ap (λ (o : Option Sig). list_all stands_in_names (sig_name o)) e
        by (Some sig) e h =
            let own = subst (λ (o : Option Sig). option_map_or (has_own_name items bodies number) o true ≡ true) e h in
            ap (λ (o : Option Sig). list_all stands_in_names (sig_name o)) e ∙ (name_stands sig.name (and_parts (is_name sig.name) _ own).0).1

    pub local_holds : (n : ℕ) (id : TyId) → slice_get body.locals n ≡ Some id → local_faults items bodies id ≡ []
    local_holds n id is =
        let none = of_each-empty (λ n id. at_line (0 + number) nowhere n (local_faults items bodies id)) 0 body.locals
        (first_empty (locals_faults graph (0 + number) body) (of_each (block_faults graph (0 + number) body) 0 body.blocks) behind_own) n id is in
        map_empty (λ (k : ℕ). record { number = k; body = 0 + number; block = nowhere; line = 0 + n }) (local_faults items bodies id) none

    pub local_exists : (n : ℕ) (id : TyId) → slice_get body.locals n ≡ Some id → ty_exists items id ≡ true
    local_exists n id is = broken-holds (local_tests items bodies id) (local_holds n id is) 0 (1, ty_exists items id) refl

    module _ (m : ℕ) (block : Block) (here : slice_get body.blocks m ≡ Some block) where
      pub of_block : block_faults graph (0 + number) body (0 + m) block ≡ []
      of_block =
          of_each-empty (block_faults graph (0 + number) body) 0 body.blocks
          (second_empty (locals_faults graph (0 + number) body) (of_each (block_faults graph (0 + number) body) 0 body.blocks) behind_own) m block here

      block_fits : BlockFits block
      block_fits = all_at BlockFits body.blocks m block body_fits.blocks here

      pub stmt_holds : (k : ℕ) (stmt : Stmt) → slice_get block.stmts k ≡ Some stmt → stmt_faults items bodies body stmt ≡ []
      stmt_holds k stmt is =
          let none = of_each-empty (λ line stmt. at_line (0 + number) (0 + m) line (stmt_faults items bodies body stmt)) 0 block.stmts
          (first_empty (stmts_faults graph (0 + number) body (0 + m) block) (at_line (0 + number) (0 + m) (length block.stmts) (term_faults items bodies body block)) of_block) k stmt is in
          map_empty (λ (j : ℕ). record { number = j; body = 0 + number; block = 0 + m; line = 0 + k }) (stmt_faults items bodies body stmt) none

      stmt_exists : (k : ℕ) (stmt : Stmt) → slice_get block.stmts k ≡ Some stmt → stmt_numbers_exist items bodies stmt ≡ true
      stmt_exists k stmt is = broken-holds (stmt_tests items bodies body stmt) (stmt_holds k stmt is) 0 (1, stmt_numbers_exist items bodies stmt) refl

      pub term_holds : term_faults items bodies body block ≡ []
      term_holds =
          map_empty (λ (j : ℕ). record { number = j; body = 0 + number; block = 0 + m; line = length block.stmts }) (term_faults items bodies body block)
          (second_empty (stmts_faults graph (0 + number) body (0 + m) block) (at_line (0 + number) (0 + m) (length block.stmts) (term_faults items bodies body block)) of_block)

      pub term_exists : term_numbers_exist items bodies block.term ≡ true
      term_exists =
          (and_parts (term_numbers_exist items bodies block.term) _
          (broken-holds (term_tests items bodies body block) term_holds 0 (1, term_numbers_exist items bodies block.term && blocks_exist items bodies body (targets block.term)) refl)).0

      good_block : GoodBlock adt_no trait_no items adts_told traits_told block
      good_block = record {
        rank = block_fits.rank;
        stmts = every_by IsGoodStmt block.stmts (λ k stmt is. (all_at StmtFits block.stmts k stmt block_fits.stmts is, stmt_named stmt (stmt_exists k stmt is)));
        term = block_fits.term;
        named = term_named block.term term_exists;
      }

    pub good_body : GoodBody adt_no trait_no items are_named adts_told traits_told number body
    good_body = record {
      name = name_holds;
      params = body_fits.params;
      locals = every_by (λ id. ty_exists items id ≡ true) body.locals local_exists;
      blocks = every_by (GoodBlock adt_no trait_no items adts_told traits_told) body.blocks good_block;
    }

  pub good_bodies : EveryFrom (GoodBody adt_no trait_no items are_named adts_told traits_told) 0 graph.bodies
  good_bodies =
      every_from_by (GoodBody adt_no trait_no items are_named adts_told traits_told) 0 graph.bodies
      (λ n body is. subst (λ m. GoodBody adt_no trait_no items are_named adts_told traits_told m body) (let e : n ≡ 0 + n = omega arith in e) (good_body n body is))

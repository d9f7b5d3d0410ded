-- The lines of structs, enums, traits, impls and closures, read as they are written.
use Rattle.std.proofs.Common.{◌≡◌, ℕ, Bool, true, false, List, [], ◌∷◌, ◌++◌, map, flat_map, codes, Option, Some, None, IfSome, decimal, slice_get, refl, ap, sym, subst, ◌∙◌, arith, append_assoc, length-append, map-id}
use Rattle.std.specs.Prelude.{⊤, IsFalse}
use Rattle.std.specs.List.{list_all}
use Rattle.mir_ty.specs.declared.ty.TyId.{TyId}
use Rattle.mir_ty.specs.declared.adt.Adt.{Adt}
use Rattle.mir_ty.specs.declared.adt.Variant.{Variant}
use Rattle.mir_ty.specs.declared.def.Sig.{Sig}
use Rattle.mir_ty.specs.declared.def.TraitDef.{TraitDef}
use Rattle.mir_ty.specs.declared.def.ImplDef.{ImplDef}
use Rattle.mir_ty.specs.declared.def.ClosureDef.{ClosureDef}
use Rattle.mir_ty.specs.AreItems.{HasOneVariant}
use Rattle.mir_ty.specs.ItemTable.{ItemTable}
use Rattle.mir_ty.specs.Named.{adt_name}
use Rattle.mir_ty.specs.Parts.{fields_of}
use Rattle.cfg_graph.specs.WellFormed.NameFaults.{stands_in_names}
use Rattle.cfg_graph.specs.WellFormed.TypeFaults.{ty_exists}
use Rattle.listing_write.specs.Compared.{Written, VariantSeen, AdtSeen, SigSeen, variant_seen, adt_seen, sig_seen, trait_seen, closure_seen}
use Rattle.listing_write.specs.Fields.{Fits}
use Rattle.listing_write.specs.Items.{types_text, variant_text, copy_text, drop_text, shape_text, adt_line, method_text, trait_line, impl_line, closure_line, counted}
use Rattle.listing_write.specs.Lists.{in_braces, joined}
use Rattle.listing_write.specs.Types.{trait_name, type_text}
use Rattle.listing_write.proofs.Reading.Basics.{FoundInText, Every, bind, or_else, strip, span, span_run, stops, is_digit, any_decimal, number, behind3, behind4, behind5, behind6}
use Rattle.listing_write.proofs.Reading.Rows.{many, many_reads, row, row_of_none, row_reads, flat_counted, in_row}
use Rattle.listing_write.proofs.Reading.Types.{AreNamed, closes, type_reader, type_reads, types_read}
use Rattle.listing_write.specs.Reading.Words.{said, as_}
use Rattle.listing_write.proofs.Reading.Parts.{number_of}
use Rattle.listing_write.proofs.Reading.Lines.{ended}

-- things in braces
abbrev closed_braces : {Z : Type 0} → List Z × List ℕ → FoundInText (List Z)
closed_braces ([], r) = bind (strip (codes "}") r) (λ r. Some ([], r))
closed_braces (z ∷ zs, r) = bind (strip (codes " }") r) (λ r. Some (z ∷ zs, r))

abbrev braces_read : {Z : Type 0} → (List ℕ → FoundInText Z) → List ℕ → FoundInText (List Z)
braces_read read t = bind (strip (codes "{ ") t) (λ t. closed_braces (row read t))

braces_reads : {X Z : Type 0} (read : List ℕ → FoundInText Z) (text : X → List ℕ) (seen : X → Z) (Good : X → Type 0) (Ends : List ℕ → Type 0)
    → ((x : X) → Good x → (r : List ℕ) → Ends r → read (text x ++ r) ≡ Some (seen x, r)) → ((t : List ℕ) → Ends (codes ", " ++ t)) → ((t : List ℕ) → Ends (codes " }" ++ t))
    → ((t : List ℕ) → read (codes "}" ++ t) ≡ None) → (xs : List X) → Every Good xs → (r : List ℕ) → braces_read read (in_braces (map text xs) ++ r) ≡ Some (map seen xs, r)
braces_reads read text seen Good Ends one at_comma at_close none [] good r =
    ap closed_braces (row_of_none read text seen Good Ends one at_comma (codes "}" ++ r) (none r))
braces_reads read text seen Good Ends one at_comma at_close none (x ∷ xs) good r =
    let words : List (List ℕ) = map text (x ∷ xs) in
    ap (λ (t : List ℕ). closed_braces (row read t)) (append_assoc (joined words) (codes " }") r)
    ∙ ap closed_braces (row_reads read text seen Good Ends one at_comma x xs (codes " }" ++ r) good (at_close r) refl)

-- structs and enums
abbrev variant_from : List ℕ × List ℕ → FoundInText VariantSeen
variant_from q = bind (strip (codes " ") q.1) (λ t. as_ (λ types. (q.0, types)) (in_row type_reader t))

abbrev variant_read : List ℕ → FoundInText VariantSeen
variant_read t = variant_from (span stands_in_names t)

abbrev Shape : Type 0
Shape = Bool × List ℕ × List VariantSeen

abbrev enum_from : List ℕ × List ℕ → FoundInText Shape
enum_from q = bind (strip (codes " ") q.1) (λ t. as_ (λ variants. (true, q.0, variants)) (braces_read variant_read t))

abbrev struct_from : List ℕ × List ℕ → FoundInText Shape
struct_from q = bind (strip (codes " ") q.1) (λ t. as_ (λ types. (false, q.0, (q.0, types) ∷ [])) (in_row type_reader t))

abbrev shape_read : List ℕ → FoundInText Shape
shape_read t =
    or_else (bind (strip (codes "enum ") t) (λ t. enum_from (span stands_in_names t))) (bind (strip (codes "struct ") t) (λ t. struct_from (span stands_in_names t)))

abbrev copy_read : List ℕ → FoundInText Bool
copy_read t = or_else (said (codes " copy") true t) (Some (false, t))

abbrev drop_read : List ℕ → FoundInText (Option ℕ)
drop_read t = or_else (bind (strip (codes " drop ") t) (λ t. as_ (λ body. Some body) (number t))) (Some (None, t))

abbrev with_drop : Shape → Bool → Option ℕ × List ℕ → FoundInText AdtSeen
with_drop shape copy d = ended (Some (record { is_enum = shape.0; name = shape.1; variants = shape.2; copy = copy; drop_body = d.0 }, d.1))

abbrev with_copy : Shape → Bool × List ℕ → FoundInText AdtSeen
with_copy shape c = bind (drop_read c.1) (with_drop shape c.0)

abbrev pub adt_read : List ℕ → FoundInText AdtSeen
adt_read t = bind (shape_read t) (λ s. bind (copy_read s.1) (with_copy s.0))

copy_reads : (copy : Bool) (drop_body : Option ℕ) (r : List ℕ) → copy_read (copy_text copy ++ (drop_text drop_body ++ (10 ∷ r))) ≡ Some (copy, drop_text drop_body ++ (10 ∷ r))
copy_reads true drop_body r = refl
copy_reads false None r = refl
copy_reads false (Some body) r = refl

drop_reads : (drop_body : Option ℕ) → IfSome drop_body Fits → (r : List ℕ) → drop_read (drop_text drop_body ++ (10 ∷ r)) ≡ Some (drop_body, 10 ∷ r)
drop_reads None fits r = refl
drop_reads (Some body) fits r = ap (λ (f : FoundInText ℕ). or_else (as_ (λ (b : ℕ). Some b) f) (Some (None, codes " drop " ++ (decimal body ++ (10 ∷ r))))) (number_of body (10 ∷ r) fits refl)

module _ (items : ItemTable) (names : AreNamed items) where
  abbrev Exist : List TyId → Type 0
  Exist ids = Every (λ id. ty_exists items id ≡ true) ids

  pub record GoodVariant (variant : Variant) : Type 0 where
    pub name : list_all stands_in_names variant.name ≡ true
    pub fields : Exist variant.fields

  variant_reads : (variant : Variant) → GoodVariant variant → (r : List ℕ) → ⊤ → variant_read (variant_text items variant ++ r) ≡ Some (variant_seen items variant, r)
  variant_reads variant good r e =
      ap variant_read (behind3 variant.name (codes " ") (types_text items variant.fields) r)
      ∙ ap variant_from (span_run stands_in_names variant.name (codes " " ++ (types_text items variant.fields ++ r)) good.name refl)
      ∙ ap (as_ (λ (types : List Written). (variant.name, types))) (types_read items names variant.fields good.fields r)

  pub record GoodAdt (adt : Adt) : Type 0 where
    pub name : list_all stands_in_names adt.name ≡ true
    pub variants : Every GoodVariant adt.variants
    pub one : IsFalse adt.is_enum → HasOneVariant adt
    pub drops : IfSome adt.drop_body Fits

  abbrev shape_seen : Bool → Adt → Shape
  shape_seen is_enum adt = (is_enum, adt.name, map (variant_seen items) adt.variants)

  struct_seen : (adt : Adt) → HasOneVariant adt → (adt.name, map (type_text items) (fields_of (slice_get adt.variants 0))) ∷ [] ≡ map (variant_seen items) adt.variants
  struct_seen adt h =
      let (variant, is, named) = h in
      subst (λ (vs : List Variant). (adt.name, map (type_text items) (fields_of (slice_get vs 0))) ∷ [] ≡ map (variant_seen items) vs) (sym is)
      (ap (λ (name : List ℕ). (name, map (type_text items) variant.fields) ∷ []) (sym named))

  struct_fields : (adt : Adt) → HasOneVariant adt → Every GoodVariant adt.variants → Exist (fields_of (slice_get adt.variants 0))
  struct_fields adt h good =
      let (variant, is, named) = h in
      subst (λ (vs : List Variant). Exist (fields_of (slice_get vs 0))) (sym is) (subst (Every GoodVariant) is good).0.fields

  shape_reads : (is_enum : Bool) (adt : Adt) → adt.is_enum ≡ is_enum → GoodAdt adt → (r : List ℕ) → shape_read (shape_text items is_enum adt ++ r) ≡ Some (shape_seen is_enum adt, r)
  shape_reads true adt is good r =
      let variants : List ℕ = in_braces (map (variant_text items) adt.variants) in
      ap (λ (t : List ℕ). or_else (enum_from (span stands_in_names t)) None) (behind3 adt.name (codes " ") variants r)
      ∙ ap (λ (q : List ℕ × List ℕ). or_else (enum_from q) None) (span_run stands_in_names adt.name (codes " " ++ (variants ++ r)) good.name refl)
      ∙ ap (λ (f : FoundInText (List VariantSeen)). or_else (as_ (λ (vs : List VariantSeen). (true, adt.name, vs)) f) None)
      (braces_reads variant_read (variant_text items) (variant_seen items) GoodVariant (λ r. ⊤) variant_reads (λ t. tt) (λ t. tt) (λ t. refl) adt.variants good.variants r)
  shape_reads false adt is good r =
      let one : HasOneVariant adt = good.one is in
      let fields : List TyId = fields_of (slice_get adt.variants 0) in
      ap (λ (t : List ℕ). struct_from (span stands_in_names t)) (behind3 adt.name (codes " ") (types_text items fields) r)
      ∙ ap struct_from (span_run stands_in_names adt.name (codes " " ++ (types_text items fields ++ r)) good.name refl)
      ∙ ap (as_ (λ (types : List Written). (false, adt.name, (adt.name, types) ∷ []))) (types_read items names fields (struct_fields adt one good.variants) r)
      ∙ ap (λ (vs : List VariantSeen). Some ((false, adt.name, vs), r)) (struct_seen adt one)

  adt_reads : (adt : Adt) → GoodAdt adt → (r : List ℕ) → adt_read (adt_line items adt ++ r) ≡ Some (adt_seen items adt, r)
  adt_reads adt good r =
      let shape : Shape = shape_seen adt.is_enum adt in
      ap adt_read (behind4 (shape_text items adt.is_enum adt) (copy_text adt.copy) (drop_text adt.drop_body) (10 ∷ []) r)
      ∙ ap (λ (f : FoundInText Shape). bind f (λ s. bind (copy_read s.1) (with_copy s.0)))
      (shape_reads adt.is_enum adt refl good (copy_text adt.copy ++ (drop_text adt.drop_body ++ (10 ∷ r))))
      ∙ ap (λ (f : FoundInText Bool). bind f (with_copy shape)) (copy_reads adt.copy adt.drop_body r)
      ∙ ap (λ (f : FoundInText (Option ℕ)). bind f (with_drop shape adt.copy)) (drop_reads adt.drop_body good.drops r)

  pub adts_read : (adts : List Adt) → Every GoodAdt adts → (r : List ℕ) → adt_read r ≡ None → many adt_read (flat_map (adt_line items) adts ++ r) ≡ (map (adt_seen items) adts, r)
  adts_read adts good r stop =
      ap (λ (w : List ℕ). many adt_read (w ++ r)) (flat_counted (adt_line items) 0 adts)
      ∙ many_reads adt_read (λ (n : ℕ). adt_line items) (adt_seen items) GoodAdt (λ r. ⊤) (λ n adt good r e. adt_reads adt good r) (λ n adt good r. tt)
      (λ n adt. omega (arith, length-append (shape_text items adt.is_enum adt ++ copy_text adt.copy ++ drop_text adt.drop_body) (10 ∷ []))) 0 adts r good tt stop

-- traits
abbrev method_types : List ℕ → List Written × List ℕ → FoundInText SigSeen
method_types name q = bind (strip (codes " ") q.1) (λ t. as_ (λ answer. (name, q.0, answer)) (type_reader t))

abbrev method_from : List ℕ × List ℕ → FoundInText SigSeen
method_from q = bind (strip (codes " ") q.1) (λ t. bind (in_row type_reader t) (method_types q.0))

abbrev method_read : List ℕ → FoundInText SigSeen
method_read t = method_from (span stands_in_names t)

abbrev trait_from : List ℕ × List ℕ → FoundInText (List ℕ × List SigSeen)
trait_from q = bind (strip (codes " ") q.1) (λ t. ended (as_ (λ methods. (q.0, methods)) (braces_read method_read t)))

abbrev pub trait_read : List ℕ → FoundInText (List ℕ × List SigSeen)
trait_read t = bind (strip (codes "trait ") t) (λ t. trait_from (span stands_in_names t))

module _ (items : ItemTable) (names : AreNamed items) where
  pub record GoodSig (sig : Sig) : Type 0 where
    pub name : list_all stands_in_names sig.name ≡ true
    pub params : Every (λ id. ty_exists items id ≡ true) sig.params
    pub answer : ty_exists items sig.result ≡ true

  method_reads : (sig : Sig) → GoodSig sig → (r : List ℕ) → closes r ≡ true → method_read (method_text items sig ++ r) ≡ Some (sig_seen items sig, r)
  method_reads sig good r e =
      let at_answer : List ℕ = codes " " ++ (type_text items sig.result ++ r) in
      ap method_read (behind5 sig.name (codes " ") (types_text items sig.params) (codes " ") (type_text items sig.result) r)
      ∙ ap method_from (span_run stands_in_names sig.name (codes " " ++ (types_text items sig.params ++ at_answer)) good.name refl)
      ∙ ap (λ (f : FoundInText (List Written)). bind f (method_types sig.name)) (types_read items names sig.params good.params at_answer)
      ∙ ap (as_ (λ (answer : Written). (sig.name, map (type_text items) sig.params, answer))) (type_reads items names sig.result good.answer r e)

  pub record GoodTrait (def : TraitDef) : Type 0 where
    pub name : list_all stands_in_names def.name ≡ true
    pub methods : Every GoodSig def.methods

  trait_reads : (def : TraitDef) → GoodTrait def → (r : List ℕ) → trait_read (trait_line items def ++ r) ≡ Some (trait_seen items def, r)
  trait_reads def good r =
      let methods : List ℕ = in_braces (map (method_text items) def.methods) in
      ap (λ (t : List ℕ). trait_from (span stands_in_names t)) (behind4 def.name (codes " ") methods (10 ∷ []) r)
      ∙ ap trait_from (span_run stands_in_names def.name (codes " " ++ (methods ++ (10 ∷ r))) good.name refl)
      ∙ ap (λ (f : FoundInText (List SigSeen)). ended (as_ (λ (ms : List SigSeen). (def.name, ms)) f))
      (braces_reads method_read (method_text items) (sig_seen items) GoodSig (λ r. closes r ≡ true) method_reads (λ t. refl) (λ t. refl) (λ t. refl) def.methods good.methods (10 ∷ r))

  pub traits_read : (traits : List TraitDef) → Every GoodTrait traits → (r : List ℕ) → trait_read r ≡ None → many trait_read (flat_map (trait_line items) traits ++ r) ≡ (map (trait_seen items) traits, r)
  traits_read traits good r stop =
      ap (λ (w : List ℕ). many trait_read (w ++ r)) (flat_counted (trait_line items) 0 traits)
      ∙ many_reads trait_read (λ (n : ℕ). trait_line items) (trait_seen items) GoodTrait (λ r. ⊤) (λ n def good r e. trait_reads def good r) (λ n def good r. tt)
      (λ n def. omega arith) 0 traits r good tt stop

-- closures
abbrev closure_body : List Written × List ℕ → FoundInText (List Written × ℕ)
closure_body q = bind (strip (codes " ") q.1) (λ t. ended (as_ (λ body. (q.0, body)) (number t)))

abbrev closure_from : List ℕ × List ℕ → FoundInText (List Written × ℕ)
closure_from q = bind (strip (codes " ") q.1) (λ t. bind (in_row type_reader t) closure_body)

abbrev pub closure_read : List ℕ → FoundInText (List Written × ℕ)
closure_read t = bind (strip (codes "closure ") t) (λ t. closure_from (span is_digit t))

module _ (items : ItemTable) (names : AreNamed items) where
  pub record GoodClosure (def : ClosureDef) : Type 0 where
    pub captures : Every (λ id. ty_exists items id ≡ true) def.captures
    pub body : Fits def.body

  closure_reads : (n : ℕ) (def : ClosureDef) → GoodClosure def → (r : List ℕ) → ⊤ → closure_read (closure_line items n def ++ r) ≡ Some (closure_seen items def, r)
  closure_reads n def good r e =
      let at_body : List ℕ = codes " " ++ (decimal def.body ++ (10 ∷ r)) in
      let at_types : List ℕ = codes " " ++ (types_text items def.captures ++ at_body) in
      ap (λ (t : List ℕ). closure_from (span is_digit t)) (behind6 (decimal n) (codes " ") (types_text items def.captures) (codes " ") (decimal def.body) (10 ∷ []) r)
      ∙ ap closure_from (span_run is_digit (decimal n) at_types (any_decimal n) refl)
      ∙ ap (λ (f : FoundInText (List Written)). bind f closure_body) (types_read items names def.captures good.captures at_body)
      ∙ ap (λ (f : FoundInText ℕ). ended (as_ (λ (body : ℕ). (map (type_text items) def.captures, body)) f)) (number_of def.body (10 ∷ r) good.body refl)

  pub closures_read : (closures : List ClosureDef) → Every GoodClosure closures → (r : List ℕ) → closure_read r ≡ None
      → many closure_read (counted (closure_line items) 0 closures ++ r) ≡ (map (closure_seen items) closures, r)
  closures_read closures good r stop =
      many_reads closure_read (closure_line items) (closure_seen items) GoodClosure (λ r. ⊤) closure_reads (λ n def good r. tt) (λ n def. omega arith) 0 closures r good tt stop

-- impls, with the numbers that the names have
abbrev blank_number : List ℕ → FoundInText ℕ
blank_number t = bind (strip (codes " ") t) number

module _ (adt_no trait_no : List ℕ → ℕ) where
  abbrev impl_bodies : ℕ → List ℕ × List ℕ → FoundInText ImplDef
  impl_bodies trait q = ended (Some (record { trait_no = trait; adt = adt_no q.0; bodies = (many blank_number q.1).0 }, (many blank_number q.1).1))

  abbrev impl_from : List ℕ × List ℕ → FoundInText ImplDef
  impl_from q = bind (strip (codes " for ") q.1) (λ t. impl_bodies (trait_no q.0) (span stands_in_names t))

  abbrev pub impl_read : List ℕ → FoundInText ImplDef
  impl_read t = bind (strip (codes "impl ") t) (λ t. impl_from (span stands_in_names t))

  module _ (items : ItemTable) where
    pub record GoodImpl (def : ImplDef) : Type 0 where
      pub adt : (list_all stands_in_names (adt_name items def.adt) ≡ true) × (adt_no (adt_name items def.adt) ≡ def.adt)
      pub trait : (list_all stands_in_names (trait_name items def.trait_no) ≡ true) × (trait_no (trait_name items def.trait_no) ≡ def.trait_no)
      pub bodies : Every Fits def.bodies

    bodies_end : (bodies : List ℕ) (r : List ℕ) → stops stands_in_names (flat_map (λ body. codes " " ++ decimal body) bodies ++ (10 ∷ r)) ≡ true
    bodies_end [] r = refl
    bodies_end (body ∷ bodies) r = refl

    numbers_read : (bodies : List ℕ) → Every Fits bodies → (r : List ℕ) → many blank_number (flat_map (λ body. codes " " ++ decimal body) bodies ++ (10 ∷ r)) ≡ (bodies, 10 ∷ r)
    numbers_read bodies good r =
        ap (λ (w : List ℕ). many blank_number (w ++ (10 ∷ r))) (flat_counted (λ body. codes " " ++ decimal body) 0 bodies)
        ∙ many_reads blank_number (λ (n : ℕ) (body : ℕ). codes " " ++ decimal body) (λ b. b) Fits (λ r. stops is_digit r ≡ true) (λ n body fits r e. number_of body r fits e)
        (λ n body fits r. refl) (λ n body. omega arith) 0 bodies (10 ∷ r) good refl refl
        ∙ ap (λ (xs : List ℕ). (xs, 10 ∷ r)) (map-id bodies)

    impl_reads : (def : ImplDef) → GoodImpl def → (r : List ℕ) → impl_read (impl_line items def ++ r) ≡ Some (def, r)
    impl_reads def good r =
        let numbers : List ℕ = flat_map (λ body. codes " " ++ decimal body) def.bodies in
        let at_numbers : List ℕ = numbers ++ (10 ∷ r) in
        let at_adt : List ℕ = adt_name items def.adt ++ at_numbers in
        ap (λ (t : List ℕ). impl_from (span stands_in_names t)) (behind5 (trait_name items def.trait_no) (codes " for ") (adt_name items def.adt) numbers (10 ∷ []) r)
        ∙ ap impl_from (span_run stands_in_names (trait_name items def.trait_no) (codes " for " ++ at_adt) good.trait.0 refl)
        ∙ ap (impl_bodies (trait_no (trait_name items def.trait_no))) (span_run stands_in_names (adt_name items def.adt) at_numbers good.adt.0 (bodies_end def.bodies r))
        ∙ ap (λ (q : List ℕ × List ℕ). ended (Some (record { trait_no = trait_no (trait_name items def.trait_no); adt = adt_no (adt_name items def.adt); bodies = q.0 }, q.1)))
        (numbers_read def.bodies good.bodies r)
        ∙ (λ i. Some (record { trait_no = good.trait.1 i; adt = good.adt.1 i; bodies = def.bodies }, r))

    pub impls_read : (impls : List ImplDef) → Every GoodImpl impls → (r : List ℕ) → impl_read r ≡ None → many impl_read (flat_map (impl_line items) impls ++ r) ≡ (impls, r)
    impls_read impls good r stop =
        ap (λ (w : List ℕ). many impl_read (w ++ r)) (flat_counted (impl_line items) 0 impls)
        ∙ many_reads impl_read (λ (n : ℕ). impl_line items) (λ d. d) GoodImpl (λ r. ⊤) (λ n def good r e. impl_reads def good r) (λ n def good r. tt) (λ n def. omega arith) 0 impls r good tt stop
        ∙ ap (λ (xs : List ImplDef). (xs, r)) (map-id impls)

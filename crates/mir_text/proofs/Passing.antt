-- The lines of items, section by section: each is found under heads that have the names, and none of a later section is found by an earlier one.
use Rattle.std.proofs.Common.{◌≡◌, ℕ, suc, ◌+◌, ◌<◌, Bool, true, false, List, [], ◌∷◌, ◌++◌, map, length, Some, None, slice_get, refl, ap, sym, subst, ◌∙◌, arith, append_assoc, length-append}
use Rattle.std.specs.Prelude.{⊤}
use Rattle.std.specs.Str.{is_utf8}
use Rattle.cfg_graph.specs.WellFormed.NameFaults.{is_name}
use Rattle.mir_ty.specs.declared.adt.Adt.{Adt}
use Rattle.mir_ty.specs.declared.def.TraitDef.{TraitDef}
use Rattle.mir_ty.specs.declared.def.ImplDef.{ImplDef}
use Rattle.mir_ty.specs.declared.def.ClosureDef.{ClosureDef}
use Rattle.mir_ty.specs.ItemTable.{ItemTable}
use Rattle.mir_ty.specs.Named.{adt_name}
use Rattle.cfg_graph.specs.declared.graph.Body.{Body}
use Rattle.listing_write.specs.Compared.{AdtSeen, SigSeen, Written, numbered}
use Rattle.listing_write.specs.Lines.{Tree, Line, HeadLine, StructLine, EnumLine, TraitLine, ImplLine, ClosureLine, BodyLine, LocalLine, BlockLine, MakeLine, UnsizeLine, StmtLine, VirtualLine, TermLine, EndLine, line_text, tree_text, trees, variant_of, method_of, adt_in_line, line_of_adt, line_of_trait, line_of_impl, line_of_closure, lines_each, lines_of_body}
use Rattle.listing_write.specs.Lists.{line}
use Rattle.listing_write.specs.Reading.Words.{FoundInText, bind}
use Rattle.listing_write.specs.Types.{trait_name, name_of_trait}
use Rattle.mir_text.specs.Beginning.{LineStands}
use Rattle.mir_text.proofs.Named.{Extends, no_fewer_traits, each_up, variants_up, methods_up, adt_name_up, trait_name_up, trait_same}
use Rattle.mir_text.proofs.Sections.{Begin, Passes, Grows}
use Rattle.mir_text.proofs.Until.{begin_up}
use Rattle.mir_text.specs.HeadReading.{adt_head}
use Rattle.listing_lines.specs.ItemReading.{adt_read}
use Rattle.listing_lines.specs.ItemsFound.{found_variant}
use Rattle.listing_lines.proofs.ItemsComplete.{structs_read, enums_read}
use Rattle.listing_lines.specs.LineReading.{impl_read, closure_read}
use Rattle.listing_lines.proofs.Complete.{closures_read_, impls_read_}
use Rattle.listing_parts.specs.Numbers.{adt_no, trait_no}
use Rattle.mir_text.specs.SectionReading.{ItemsSeen, one_adt, one_trait, one_impl, one_closure}
use Rattle.listing_lines.specs.TraitReading.{trait_read}
use Rattle.listing_lines.specs.TraitsFound.{found_method, MethodsStand}
use Rattle.listing_lines.proofs.TraitsComplete.{traits_read}
use Rattle.listing_parts.proofs.Splits.{split, same_found}

-- how many items there are
abbrev pub count_seen : ItemsSeen → ℕ
count_seen s = length s.adts + length s.traits + length s.impls + length s.closures

-- what may stand behind the sections
abbrev pub BehindAdts : Line → Type 0
BehindAdts (TraitLine name methods) = ⊤
BehindAdts (ImplLine trait adt bodies) = ⊤
BehindAdts (ClosureLine n captures body) = ⊤
BehindAdts (BodyLine n name params) = ⊤
BehindAdts EndLine = ⊤
BehindAdts _ = ⊥

abbrev pub BehindTraits : Line → Type 0
BehindTraits (ImplLine trait adt bodies) = ⊤
BehindTraits (ClosureLine n captures body) = ⊤
BehindTraits (BodyLine n name params) = ⊤
BehindTraits EndLine = ⊤
BehindTraits _ = ⊥

abbrev pub BehindImpls : Line → Type 0
BehindImpls (ClosureLine n captures body) = ⊤
BehindImpls (BodyLine n name params) = ⊤
BehindImpls EndLine = ⊤
BehindImpls _ = ⊥

abbrev pub BehindClosures : Line → Type 0
BehindClosures (BodyLine n name params) = ⊤
BehindClosures EndLine = ⊤
BehindClosures _ = ⊥

-- what is found of the line of a struct or enum
abbrev pub found_adt : Line → AdtSeen
found_adt (StructLine name fields copy drop_body) =
    record { is_enum = false; name = name; variants = (name, map tree_text fields) ∷ []; copy = copy; drop_body = drop_body }
found_adt (EnumLine name variants copy drop_body) =
    record { is_enum = true; name = name; variants = map found_variant variants; copy = copy; drop_body = drop_body }
found_adt _ = record { is_enum = true; name = []; variants = []; copy = false; drop_body = None }

module _ (items heads : ItemTable) (x : Extends items heads) where
  adt_found : (is_enum : Bool) (adt : Adt) (r : List ℕ) → LineStands items (adt_in_line items is_enum adt) → adt_read heads (line (line_text (adt_in_line items is_enum adt)) ++ r) ≡ Some (found_adt (adt_in_line items is_enum adt), r)
  adt_found true adt r s = enums_read heads adt.name (map (variant_of items) adt.variants) adt.copy adt.drop_body r s.0 s.1 (variants_up items heads x (map (variant_of items) adt.variants) s.2) s.3
  adt_found false adt r s = structs_read heads adt.name _ adt.copy adt.drop_body r s.0 s.1 (each_up items heads x _ s.2) s.3

  module _ (count : ItemsSeen → ℕ) (adds : (s : ItemsSeen) (y : AdtSeen) → count (record s { adts = s.adts ++ y ∷ [] }) ≡ suc (count s)) where
    pub adts_pass : (adts : List Adt) (s : ItemsSeen) → (u : ItemsSeen) × Passes (one_adt heads) count (LineStands items) s (map (line_of_adt items) adts) u × (u.traits ≡ s.traits) × (u.closures ≡ s.closures)
    adts_pass [] s = (s, refl, refl, refl)
    adts_pass (adt ∷ adts) s =
        let seen : AdtSeen = found_adt (line_of_adt items adt) in
        let next : ItemsSeen = record s { adts = s.adts ++ seen ∷ [] } in
        let deeper = adts_pass adts next in (
          deeper.0,
          (
            next,
            λ stands r. ap (λ (f : FoundInText AdtSeen). bind f (λ f. Some (record s { adts = s.adts ++ f.0 ∷ [] }, f.1))) (adt_found adt.is_enum adt r stands),
            adds s seen,
            deeper.1,
          ),
          deeper.2,
          deeper.3,
        )

    pub adts_grow : Grows (one_adt heads) count (LineStands items)
    adts_grow s u t r h =
        let (f, found, last) = split (adt_read heads t) (λ f. Some (record s { adts = s.adts ++ f.0 ∷ [] }, f.1)) (u, r) h in
        let (own, back) = same_found (record s { adts = s.adts ++ f.0 ∷ [] }) f.1 u r last in
        let same = ap count own in
        let one = adds s f.0 in
        omega (arith, same, one)

  -- traits have the numbers that are due
  trait_found : (n : ℕ) (def : TraitDef) (r : List ℕ) → n < length items.traits → trait_name items n ≡ def.name → LineStands items (line_of_trait items def)
      → trait_read heads n (line (line_text (line_of_trait items def)) ++ r) ≡ Some ((def.name, map found_method (map (method_of items) def.methods)), r)
  trait_found n def r within called s =
      let ms : List (List ℕ × List Tree × Tree) = map (method_of items) def.methods in
      let same : def.name ≡ trait_name heads n = sym (trait_same items heads x n within ∙ called) in
      let most = no_fewer_traits items heads x in
      let is : is_name (trait_name heads n) ≡ true = subst (λ (w : List ℕ). is_name w ≡ true) same s.0 in
      let utf : is_utf8 (trait_name heads n) ≡ true = subst (λ (w : List ℕ). is_utf8 w ≡ true) same s.1 in
      let up : MethodsStand heads (trait_name heads n) ms = subst (λ (w : List ℕ). MethodsStand heads w ms) same (methods_up items heads x def.name ms s.2) in
      subst (λ (w : List ℕ). trait_read heads n (line (line_text (TraitLine w ms)) ++ r) ≡ Some ((w, map found_method ms), r)) (sym same)
      (traits_read heads n ms r (omega (arith, within, most)) is utf up)

  seam : {X : Type 0} (xs : List X) (y : X) (ys : List X) → slice_get (xs ++ y ∷ ys) (length xs) ≡ Some y
  seam [] y ys = refl
  seam (z ∷ xs) y ys = seam xs y ys

  module _ (count : ItemsSeen → ℕ) (adds : (s : ItemsSeen) (y : List ℕ × List SigSeen) → count (record s { traits = s.traits ++ y ∷ [] }) ≡ suc (count s)) where
    pub traits_pass : (traits front : List TraitDef) (s : ItemsSeen) → items.traits ≡ front ++ traits → length front ≡ length s.traits
        → (u : ItemsSeen) × Passes (one_trait heads) count (LineStands items) s (map (line_of_trait items) traits) u × (u.closures ≡ s.closures)
    traits_pass [] front s all due = (s, refl, refl)
    traits_pass (def ∷ traits) front s all due =
        let seen : List ℕ × List SigSeen = (def.name, map found_method (map (method_of items) def.methods)) in
        let next : ItemsSeen = record s { traits = s.traits ++ seen ∷ [] } in
        let within : length front < length items.traits = (let sum = ap length all ∙ length-append front (def ∷ traits) in omega (arith, sum)) in
        let called : trait_name items (length front) ≡ def.name = ap name_of_trait (ap (λ (xs : List TraitDef). slice_get xs (length front)) all ∙ seam front def traits) in
        let sum = length-append s.traits (seen ∷ []) in
        let sum2 = length-append front (def ∷ []) in
        let deeper = traits_pass traits (front ++ def ∷ []) next (all ∙ sym (append_assoc front (def ∷ []) traits)) (omega (arith, sum, sum2, due)) in (
          deeper.0,
          (
            next,
            λ stands r. ap (λ (f : FoundInText (List ℕ × List SigSeen)). bind f (λ f. Some (record s { traits = s.traits ++ f.0 ∷ [] }, f.1)))
                (ap (λ (k : ℕ). trait_read heads k (line (line_text (line_of_trait items def)) ++ r)) (sym due) ∙ trait_found (length front) def r within called stands),
            adds s seen,
            deeper.1,
          ),
          deeper.2,
        )

    pub traits_grow : Grows (one_trait heads) count (LineStands items)
    traits_grow s u t r h =
        let (f, found, last) = split (trait_read heads (length s.traits) t) (λ f. Some (record s { traits = s.traits ++ f.0 ∷ [] }, f.1)) (u, r) h in
        let (own, back) = same_found (record s { traits = s.traits ++ f.0 ∷ [] }) f.1 u r last in
        let same = ap count own in
        let one = adds s f.0 in
        omega (arith, same, one)

  module _ (count : ItemsSeen → ℕ) (adds : (s : ItemsSeen) (y : ImplDef) → count (record s { impls = s.impls ++ y ∷ [] }) ≡ suc (count s)) where
    pub impls_pass : (impls : List ImplDef) (s : ItemsSeen) → (u : ItemsSeen) × Passes (one_impl heads) count (LineStands items) s (map (line_of_impl items) impls) u × (u.closures ≡ s.closures)
    impls_pass [] s = (s, refl, refl)
    impls_pass (def ∷ impls) s =
        let trait : List ℕ = trait_name items def.trait_no in
        let adt : List ℕ = adt_name items def.adt in
        let seen : ImplDef = record { trait_no = trait_no heads trait; adt = adt_no heads adt; bodies = def.bodies } in
        let next : ItemsSeen = record s { impls = s.impls ++ seen ∷ [] } in
        let deeper = impls_pass impls next in (
          deeper.0,
          (
            next,
            λ stands r. ap (λ (f : FoundInText ImplDef). bind f (λ f. Some (record s { impls = s.impls ++ f.0 ∷ [] }, f.1)))
                (impls_read_ heads trait adt def.bodies r stands.0.0 stands.1.0 (trait_name_up items heads x trait stands.0).1 (adt_name_up items heads x adt stands.1).1 stands.2),
            adds s seen,
            deeper.1,
          ),
          deeper.2,
        )

    pub impls_grow : Grows (one_impl heads) count (LineStands items)
    impls_grow s u t r h =
        let (f, found, last) = split (impl_read heads t) (λ f. Some (record s { impls = s.impls ++ f.0 ∷ [] }, f.1)) (u, r) h in
        let (own, back) = same_found (record s { impls = s.impls ++ f.0 ∷ [] }) f.1 u r last in
        let same = ap count own in
        let one = adds s f.0 in
        omega (arith, same, one)

  module _ (count : ItemsSeen → ℕ) (adds : (s : ItemsSeen) (y : List Written × ℕ) → count (record s { closures = s.closures ++ y ∷ [] }) ≡ suc (count s)) where
    pub closures_pass : (closures : List ClosureDef) (n : ℕ) (s : ItemsSeen) → n ≡ length s.closures → (u : ItemsSeen) × Passes (one_closure heads) count (LineStands items) s (numbered (line_of_closure items) n closures) u
    closures_pass [] n s due = (s, refl)
    closures_pass (def ∷ closures) n s due =
        let captures : List Tree = trees items def.captures in
        let seen : List Written × ℕ = (map tree_text captures, def.body) in
        let next : ItemsSeen = record s { closures = s.closures ++ seen ∷ [] } in
        let sum = length-append s.closures (seen ∷ []) in
        let deeper = closures_pass closures (suc n) next (omega (arith, sum, due)) in (
          deeper.0,
          (
            next,
            λ stands r. ap (λ (f : FoundInText (List Written × ℕ)). bind f (λ f. Some (record s { closures = s.closures ++ f.0 ∷ [] }, f.1)))
                (ap (λ (k : ℕ). closure_read heads k (line (line_text (line_of_closure items n def)) ++ r)) (sym due) ∙ closures_read_ heads n captures def.body r stands.0 (each_up items heads x captures stands.1) stands.2),
            adds s seen,
            deeper.1,
          ),
        )

    pub closures_grow : Grows (one_closure heads) count (LineStands items)
    closures_grow s u t r h =
        let (f, found, last) = split (closure_read heads (length s.closures) t) (λ f. Some (record s { closures = s.closures ++ f.0 ∷ [] }, f.1)) (u, r) h in
        let (own, back) = same_found (record s { closures = s.closures ++ f.0 ∷ [] }) f.1 u r last in
        let same = ap count own in
        let one = adds s f.0 in
        omega (arith, same, one)

-- a line of a later section is none of this one
pub no_adt_at : (heads : ItemTable) (l : Line) → BehindAdts l → (s : ItemsSeen) (r : List ℕ) → one_adt heads s (line (line_text l) ++ r) ≡ None
no_adt_at heads (TraitLine name methods) h s r = refl
no_adt_at heads (ImplLine trait adt bodies) h s r = refl
no_adt_at heads (ClosureLine n captures body) h s r = refl
no_adt_at heads (BodyLine n name params) h s r = refl
no_adt_at heads EndLine h s r = refl
no_adt_at heads other h s r = absurd h

pub no_trait_at : (heads : ItemTable) (l : Line) → BehindTraits l → (s : ItemsSeen) (r : List ℕ) → one_trait heads s (line (line_text l) ++ r) ≡ None
no_trait_at heads (ImplLine trait adt bodies) h s r = refl
no_trait_at heads (ClosureLine n captures body) h s r = refl
no_trait_at heads (BodyLine n name params) h s r = refl
no_trait_at heads EndLine h s r = refl
no_trait_at heads other h s r = absurd h

pub no_impl_at : (heads : ItemTable) (l : Line) → BehindImpls l → (s : ItemsSeen) (r : List ℕ) → one_impl heads s (line (line_text l) ++ r) ≡ None
no_impl_at heads (ClosureLine n captures body) h s r = refl
no_impl_at heads (BodyLine n name params) h s r = refl
no_impl_at heads EndLine h s r = refl
no_impl_at heads other h s r = absurd h

pub no_closure_at : (heads : ItemTable) (l : Line) → BehindClosures l → (s : ItemsSeen) (r : List ℕ) → one_closure heads s (line (line_text l) ++ r) ≡ None
no_closure_at heads (BodyLine n name params) h s r = refl
no_closure_at heads EndLine h s r = refl
no_closure_at heads other h s r = absurd h

pub no_adt_head_at : (l : Line) → BehindAdts l → (r : List ℕ) → adt_head (line (line_text l) ++ r) ≡ None
no_adt_head_at (TraitLine name methods) h r = refl
no_adt_head_at (ImplLine trait adt bodies) h r = refl
no_adt_head_at (ClosureLine n captures body) h r = refl
no_adt_head_at (BodyLine n name params) h r = refl
no_adt_head_at EndLine h r = refl
no_adt_head_at other h r = absurd h

-- what stands behind each section
pub behind_closures : (items : ItemTable) (n : ℕ) (bodies : List Body) → Begin BehindClosures (lines_each (lines_of_body items) n bodies ++ EndLine ∷ [])
behind_closures items n [] = tt
behind_closures items n (body ∷ bodies) = tt

pub behind_impls : (items : ItemTable) (n : ℕ) (closures : List ClosureDef) (rest : List Line) → Begin BehindClosures rest → Begin BehindImpls (numbered (line_of_closure items) n closures ++ rest)
behind_impls items n (def ∷ closures) rest h = tt
behind_impls items n [] rest h = begin_up BehindClosures BehindImpls later rest h
  where
    later : (l : Line) → BehindClosures l → BehindImpls l
    later (BodyLine n name params) h = tt
    later EndLine h = tt
    later other h = absurd h

pub behind_traits : (items : ItemTable) (impls : List ImplDef) (rest : List Line) → Begin BehindImpls rest → Begin BehindTraits (map (line_of_impl items) impls ++ rest)
behind_traits items (def ∷ impls) rest h = tt
behind_traits items [] rest h = begin_up BehindImpls BehindTraits later rest h
  where
    later : (l : Line) → BehindImpls l → BehindTraits l
    later (ClosureLine n captures body) h = tt
    later (BodyLine n name params) h = tt
    later EndLine h = tt
    later other h = absurd h

pub behind_adts : (items : ItemTable) (traits : List TraitDef) (rest : List Line) → Begin BehindTraits rest → Begin BehindAdts (map (line_of_trait items) traits ++ rest)
behind_adts items (def ∷ traits) rest h = tt
behind_adts items [] rest h = begin_up BehindTraits BehindAdts later rest h
  where
    later : (l : Line) → BehindTraits l → BehindAdts l
    later (ImplLine trait adt bodies) h = tt
    later (ClosureLine n captures body) h = tt
    later (BodyLine n name params) h = tt
    later EndLine h = tt
    later other h = absurd h

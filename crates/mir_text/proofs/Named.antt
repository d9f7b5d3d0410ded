-- Items that have the names of others at their front: what stands under these stands under them.
use Rattle.std.proofs.Common.{◌≡◌, ℕ, zero, suc, ◌<◌, ◌≤◌, Bool, true, false, if◌then◌else◌, List, [], ◌∷◌, ◌++◌, map, length, Some, slice_get, refl, ap, sym, ◌∙◌, arith, length-append}
use Rattle.std.proofs.lemmas.Option.{same_Some, none-some}
use Rattle.mir_ty.specs.declared.adt.Adt.{Adt}
use Rattle.mir_ty.specs.declared.def.TraitDef.{TraitDef}
use Rattle.mir_ty.specs.ItemTable.{ItemTable}
use Rattle.mir_ty.specs.Named.{adt_name, name_of_adt}
use Rattle.cfg_graph.specs.WellFormed.NameFaults.{same_name}
use Rattle.cfg_graph.specs.declared.statement.Stmt.{Stmt}
use Rattle.cfg_graph.specs.declared.terminator.Term.{Term}
use Rattle.listing_write.specs.Lines.{Tree, Trees, Number, Truth, Nothing, Never, Named, Tuple, Array, Boxed, Object, Shared, Unique, Closed, Missing, no_more, and_more, line_of_stmt, line_of_term}
use Rattle.listing_write.specs.Reading.Words.{place_in}
use Rattle.listing_write.specs.Types.{trait_name, name_of_trait}
use Rattle.mir_text.specs.Beginning.{LineStands}
use Rattle.listing_lines.specs.CodeStands.{IsAdtName, IsTraitName, StmtLineStands, TermLineStands}
use Rattle.listing_lines.specs.ItemsFound.{VariantsStand}
use Rattle.listing_parts.specs.Numbers.{adt_no, trait_no}
use Rattle.listing_lines.specs.TraitsFound.{ParamsStand, MethodsStand}
use Rattle.listing_parts.specs.TypesFound.{Stands, AllStand, EachStands}
use Rattle.listing_parts.proofs.Complete.{found_at}

abbrev pub adt_names : ItemTable → List (List ℕ)
adt_names items = map (λ adt. adt.name) items.adts

abbrev pub trait_names : ItemTable → List (List ℕ)
trait_names items = map (λ def. def.name) items.traits

-- the second have the names of the first at their front
pub record Extends (items heads : ItemTable) : Type 0 where
  pub adts : List (List ℕ)
  pub adts_are : adt_names heads ≡ adt_names items ++ adts
  pub traits : List (List ℕ)
  pub traits_are : trait_names heads ≡ trait_names items ++ traits

pub length_map : {X Z : Type 0} (f : X → Z) (xs : List X) → length (map f xs) ≡ length xs
length_map f [] = refl
length_map f (x ∷ xs) = ap suc (length_map f xs)

placed_before : (xs ys : List (List ℕ)) (name : List ℕ) → place_in xs name < length xs → place_in (xs ++ ys) name ≡ place_in xs name
placed_before [] ys name h = absurd (omega arith)
placed_before (x ∷ xs) ys name h = by (same_name name x) h (placed_before xs ys name)
  where
    by : (v : Bool) → (if v then 0 else suc (place_in xs name)) < suc (length xs) → (place_in xs name < length xs → place_in (xs ++ ys) name ≡ place_in xs name)
        → (if v then 0 else suc (place_in (xs ++ ys) name)) ≡ (if v then 0 else suc (place_in xs name))
    by true h deeper = refl
    by false h deeper = ap suc (deeper (omega (arith, h)))

module _ (items heads : ItemTable) (x : Extends items heads) where
  pub no_fewer_adts : length items.adts ≤ length heads.adts
  no_fewer_adts =
      let own = length_map (λ (adt : Adt). adt.name) items.adts in
      let all = length_map (λ (adt : Adt). adt.name) heads.adts in
      let sum = ap length x.adts_are ∙ length-append (adt_names items) x.adts in
      omega (arith, own, all, sum)

  pub no_fewer_traits : length items.traits ≤ length heads.traits
  no_fewer_traits =
      let own = length_map (λ (def : TraitDef). def.name) items.traits in
      let all = length_map (λ (def : TraitDef). def.name) heads.traits in
      let sum = ap length x.traits_are ∙ length-append (trait_names items) x.traits in
      omega (arith, own, all, sum)

  adt_up : (name : List ℕ) → adt_no items name < length items.adts → adt_no heads name < length heads.adts
  adt_up name h =
      let own = length_map (λ (adt : Adt). adt.name) items.adts in
      let within : place_in (adt_names items) name < length (adt_names items) = omega (arith, own, h) in
      let same = ap (λ (xs : List (List ℕ)). place_in xs name) x.adts_are ∙ placed_before (adt_names items) x.adts name within in
      let most = no_fewer_adts in
      omega (arith, same, h, most)

  trait_up : (name : List ℕ) → trait_no items name < length items.traits → trait_no heads name < length heads.traits
  trait_up name h =
      let own = length_map (λ (def : TraitDef). def.name) items.traits in
      let within : place_in (trait_names items) name < length (trait_names items) = omega (arith, own, h) in
      let same = ap (λ (xs : List (List ℕ)). place_in xs name) x.traits_are ∙ placed_before (trait_names items) x.traits name within in
      let most = no_fewer_traits in
      omega (arith, same, h, most)

  mutual
    pub tree_up : (t : Tree) → Stands items t → Stands heads t
    tree_up (Number kind) s = tt
    tree_up Truth s = tt
    tree_up Nothing s = tt
    tree_up Never s = tt
    tree_up (Named name) s = (s.0, adt_up name s.1)
    tree_up (Tuple parts) s = (s.0, trees_up parts s.1)
    tree_up (Array element count) s = (tree_up element s.0, s.1)
    tree_up (Boxed inside) s = tree_up inside s
    tree_up (Object name) s = (s.0, trait_up name s.1)
    tree_up (Shared to) s = tree_up to s
    tree_up (Unique to) s = tree_up to s
    tree_up (Closed n) s = s
    tree_up Missing s = s

    pub trees_up : (ts : Trees) → AllStand items ts → AllStand heads ts
    trees_up no_more s = tt
    trees_up (and_more first others) s = (tree_up first s.0, trees_up others s.1)

  pub each_up : (ts : List Tree) → EachStands items ts → EachStands heads ts
  each_up [] s = tt
  each_up (t ∷ ts) s = (tree_up t s.0, each_up ts s.1)

  pub variants_up : (vs : List (List ℕ × List Tree)) → VariantsStand items vs → VariantsStand heads vs
  variants_up [] s = tt
  variants_up (v ∷ vs) s = ((s.0.0, s.0.1, each_up v.1 s.0.2), variants_up vs s.1)

  params_up : (name : List ℕ) (ts : List Tree) → ParamsStand items name ts → ParamsStand heads name ts
  params_up name [] s = s
  params_up name (t ∷ ts) s = (s.0, each_up ts s.1)

  pub methods_up : (name : List ℕ) (ms : List (List ℕ × List Tree × Tree)) → MethodsStand items name ms → MethodsStand heads name ms
  methods_up name [] s = tt
  methods_up name (m ∷ ms) s = (
    record { named = s.0.named; utf8 = s.0.utf8; params = params_up name m.1 s.0.params; answer = tree_up m.2 s.0.answer },
    methods_up name ms s.1,
  )

  pub adt_name_up : (name : List ℕ) → IsAdtName items name → IsAdtName heads name
  adt_name_up name s = (s.0, adt_up name s.1)

  pub trait_name_up : (name : List ℕ) → IsTraitName items name → IsTraitName heads name
  trait_name_up name s = (s.0, trait_up name s.1)

  pub stmt_up : (stmt : Stmt) → LineStands items (line_of_stmt items stmt) → StmtLineStands heads (line_of_stmt items stmt)
  stmt_up (Stmt.Make to adt variant parts) s = (s.0, adt_name_up (adt_name items adt) s.1, s.2, s.3)
  stmt_up (Stmt.Unsize to trait from) s = (s.0, trait_name_up (trait_name items trait) s.1, s.2)
  stmt_up _ s = s

  pub term_up : (term : Term) → LineStands items (line_of_term items term) → TermLineStands heads (line_of_term items term)
  term_up (Term.Virtual to trait method args next unwind) s = (s.0, trait_name_up (trait_name items trait) s.1, s.2, s.3, s.4)
  term_up _ s = s

-- a name with a number is the name of the head with this number
at_front : {X : Type 0} (f : X → List ℕ) (xs ys : List X) (more : List (List ℕ)) → map f ys ≡ map f xs ++ more → (n : ℕ) (x : X) → slice_get xs n ≡ Some x → (y : X) × (slice_get ys n ≡ Some y) × (f y ≡ f x)
at_front f [] ys more same n x h = absurd (none-some x h)
at_front f (a ∷ xs) [] more same n x h = absurd (cc same)
at_front f (a ∷ xs) (b ∷ ys) more same zero x h = (b, refl, first_same same ∙ ap f (same_Some a x h))
  where
    first_same : f b ∷ map f ys ≡ f a ∷ (map f xs ++ more) → f b ≡ f a
    first_same e = cc e
at_front f (a ∷ xs) (b ∷ ys) more same (suc n) x h = at_front f xs ys more (rest_same same) n x h
  where
    rest_same : f b ∷ map f ys ≡ f a ∷ (map f xs ++ more) → map f ys ≡ map f xs ++ more
    rest_same e = cc e

module _ (items heads : ItemTable) (x : Extends items heads) where
  pub adt_same : (n : ℕ) → n < length items.adts → adt_name heads n ≡ adt_name items n
  adt_same n h =
      let (adt, is) = found_at items.adts n h in
      let (other, at, same) = at_front (λ (adt : Adt). adt.name) items.adts heads.adts x.adts x.adts_are n adt is in
      ap name_of_adt at ∙ same ∙ ap name_of_adt (sym is)

  pub trait_same : (n : ℕ) → n < length items.traits → trait_name heads n ≡ trait_name items n
  trait_same n h =
      let (def, is) = found_at items.traits n h in
      let (other, at, same) = at_front (λ (def : TraitDef). def.name) items.traits heads.traits x.traits x.traits_are n def is in
      ap name_of_trait at ∙ same ∙ ap name_of_trait (sym is)

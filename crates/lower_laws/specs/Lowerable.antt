-- What a program has beside being well typed, so that its graph is well formed. Each fact can be tested, and each holds
-- of the typed program of an accepted text, for the reason that stands with it.
use Rattle.std.specs.Prelude.{ℕ, suc, Bool, true, ◌&&◌, List, [], ◌∷◌, nat_lt}
use Rattle.std.specs.List.{list_all}
use Rattle.mir_ty.specs.declared.adt.Adt.{Adt}
use Rattle.mir_ty.specs.declared.def.TraitDef.{TraitDef}
use Rattle.mir_ty.specs.declared.ty.Ty.{Ty}
use Rattle.mir_ty.specs.AreItems.{types_in}
use Rattle.cfg_graph.specs.WellFormed.NameFaults.{is_name, is_adt_name}
use Rattle.typed_tree.specs.Tree.{ProgramTree}
use Rattle.well_typed.specs.Claim.{Claim, Holds, is_so, fact, ◌&◌}

-- ---- types

-- The types in a type have lower numbers, since each type is interned after those in it. So no type holds itself,
-- through boxes or references either.
abbrev pub are_parts_first : ℕ → List Ty → Bool
are_parts_first n [] = true
are_parts_first n (ty ∷ tys) = list_all (λ id. nat_lt id.0 n) (types_in ty) && are_parts_first (suc n) tys

-- ---- names

-- The names of structs, enums and variants, and of the methods of traits, are identifiers: so they have none of the
-- marks of a listing, no struct or enum is called `dyn`, which is a keyword, and no name has the `#` of `closure#0`.
abbrev pub adt_is_named : Adt → Bool
adt_is_named adt = is_adt_name adt.name && list_all (λ variant. is_name variant.name) adt.variants

abbrev pub trait_is_named : TraitDef → Bool
trait_is_named def = list_all (λ method. is_name method.name) def.methods

-- ---- programs

abbrev pub lowerable : ProgramTree → Claim
lowerable p =
    fact (are_parts_first 0 p.items.types) & fact (list_all adt_is_named p.items.adts) &
    fact (list_all trait_is_named p.items.traits)

abbrev pub IsLowerable : ProgramTree → Type 0
IsLowerable p = Holds (lowerable p)

abbrev pub is_lowerable : ProgramTree → Bool
is_lowerable p = is_so (lowerable p)

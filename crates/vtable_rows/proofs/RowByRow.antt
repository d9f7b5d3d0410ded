-- Rows are made one after the other, in the order of the impls.
use Rattle.std.proofs.Common.{◌≡◌, ℕ, zero, suc, ◌<◌, ◌^◌, List, [], ◌∷◌, ◌++◌, map, drop, length, slice_get, Option, Some, None, refl, sym, ap, ◌∙◌, arith, append_assoc, append-nil}
use Rattle.std.proofs.lemmas.List.{length-append}
use Rattle.std.specs.Prelude.{option_map}
use Rattle.std.proofs.lemmas.Option.{same_Some, slice_get_within, slice_get-map}
use Rattle.mir_ty.proofs.ItemFacts.{needs_drop-at}
use Rattle.mir_ty.specs.AreItems.{AreItems}
use Rattle.mir_ty.specs.declared.def.ImplDef.{ImplDef}
use Rattle.mir_ty.specs.declared.ty.Ty.{Ty}
use Rattle.mir_ty.specs.declared.ty.TyId.{TyId}
use Rattle.mir_ty.specs.Facts.{needs_drop}
use Rattle.mir_ty.specs.ItemTable.{ItemTable, type_at}
use Rattle.vtable_rows.specs.declared.table.Row.{Row}
use Rattle.vtable_rows.specs.RowTable.{row_of, rows_of, adt_needs_drop, NeedsDropAsItsType}

pub record SoFar (items : ItemTable) (made : List Row) : Type 0 where
  pub split : rows_of items ≡ made ++ map (row_of items) (drop (length made) items.impls)
  pub short : length made < 2 ^ 32

drop_one : {A : Type 0} (xs : List A) (n : ℕ) (x : A) → slice_get xs n ≡ Some x → drop n xs ≡ x ∷ drop (suc n) xs
drop_one [] n x h = absurd (let never : None ≡ Some x = h in cc)
drop_one (y ∷ ys) zero x h = ap (λ z. z ∷ ys) (same_Some y x h)
drop_one (y ∷ ys) (suc n) x h = drop_one ys n x h

drop_none : {A : Type 0} (xs : List A) (n : ℕ) → slice_get xs n ≡ None → drop n xs ≡ []
drop_none [] zero h = refl
drop_none [] (suc n) h = refl
drop_none (y ∷ ys) zero h = absurd (let never : Some y ≡ None = h in cc)
drop_none (y ∷ ys) (suc n) h = drop_none ys n h

length_one_more : {A : Type 0} (xs : List A) (x : A) → length (xs ++ x ∷ []) ≡ suc (length xs)
length_one_more xs x = let e = length-append xs (x ∷ []) in omega (arith, e)

pub begins : (items : ItemTable) → SoFar items []
begins items = record { split = refl; short = omega arith }

pub goes_on : (items : ItemTable) (made : List Row) (def : ImplDef) (row : Row) → SoFar items made → AreItems items →
    slice_get items.impls (length made) ≡ Some def → row ≡ row_of items def → SoFar items (made ++ row ∷ [])
goes_on items made def row so_far are at is = record {
  split =
      so_far.split
      ∙ ap (λ rest. made ++ map (row_of items) rest) (drop_one items.impls (length made) def at)
      ∙ ap (λ r. made ++ r ∷ map (row_of items) (drop (suc (length made)) items.impls)) (sym is)
      ∙ sym (append_assoc made (row ∷ []) (map (row_of items) (drop (suc (length made)) items.impls)))
      ∙ ap (λ n. (made ++ row ∷ []) ++ map (row_of items) (drop n items.impls)) (sym (length_one_more made row));
  short =
      let within = slice_get_within items.impls (length made) def at in
      let few = are.short.others in
      let one = length_one_more made row in
      omega (arith, within, few, one);
}

pub ends : (items : ItemTable) (made : List Row) → SoFar items made → slice_get items.impls (length made) ≡ None → made ≡ rows_of items
ends items made so_far at =
    sym (so_far.split ∙ ap (λ rest. made ++ map (row_of items) rest) (drop_none items.impls (length made) at) ∙ append-nil made)

-- of a type of the table the fields tell what it needs
of_type : (items : ItemTable) (n : ℕ) (id : TyId) → type_at items id ≡ Some (Ty.Adt n) → adt_needs_drop items n ≡ needs_drop items id
of_type items n id is = sym (needs_drop-at items id (Ty.Adt n) is)

of_row : (items : ItemTable) (o : Option ImplDef) (row : Row) (id : TyId) → option_map (row_of items) o ≡ Some row →
    type_at items id ≡ Some (Ty.Adt row.adt) → row.needs_drop ≡ needs_drop items id
of_row items None row id at is = absurd (let never : None ≡ Some row = at in cc)
of_row items (Some def) row id at is =
    let e = same_Some (row_of items def) row at in
    sym (ap (λ r. r.needs_drop) e) ∙ ap (λ r. adt_needs_drop items r.adt) e ∙ of_type items row.adt id is

pub as_types : (items : ItemTable) (rows : List Row) → rows ≡ rows_of items → NeedsDropAsItsType items rows
as_types items rows e n row id at is =
    of_row items (slice_get items.impls n) row id (sym (slice_get-map (row_of items) items.impls n) ∙ ap (λ r. slice_get r n) (sym e) ∙ at) is

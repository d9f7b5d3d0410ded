-- The sections of items, read from the front of a text: structs and enums, traits, impls, closures, each line exactly
-- as it is written, as long as such lines come.
use Rattle.std.specs.Prelude.{ℕ, zero, suc, List, [], ◌∷◌, ◌++◌, length, Some, None}
use Rattle.mir_ty.specs.declared.def.ImplDef.{ImplDef}
use Rattle.mir_ty.specs.ItemTable.{ItemTable}
use Rattle.listing_write.specs.Compared.{AdtSeen, SigSeen, Written}
use Rattle.listing_write.specs.Reading.Words.{FoundInText, bind}
use Rattle.listing_lines.specs.ItemReading.{adt_read}
use Rattle.listing_lines.specs.LineReading.{impl_read, closure_read}
use Rattle.listing_lines.specs.TraitReading.{trait_read}

-- items, with types as they are written, and without the names of fields
pub record ItemsSeen : Type 0 where
  pub adts : List AdtSeen
  pub traits : List (List ℕ × List SigSeen)
  pub impls : List ImplDef
  pub closures : List (List Written × ℕ)

-- one thing after the other, as long as they come; each has a byte, so no more than bytes
abbrev pub onward : {S : Type 0} → FoundInText S → (S → List ℕ → S × List ℕ) → S → List ℕ → S × List ℕ
onward None more s t = (s, t)
onward (Some f) more s t = more f.0 f.1

abbrev pub on_within : {S : Type 0} → ℕ → (S → List ℕ → FoundInText S) → S → List ℕ → S × List ℕ
on_within zero step s t = (s, t)
on_within (suc k) step s t = onward (step s t) (on_within k step) s t

abbrev pub as_long_as : {S : Type 0} → (S → List ℕ → FoundInText S) → S → List ℕ → S × List ℕ
as_long_as step s t = on_within (length t) step s t

module _ (heads : ItemTable) where
  -- one struct or enum, trait, impl or closure more; a trait and a closure have the number that is due
  abbrev pub one_adt : ItemsSeen → List ℕ → FoundInText ItemsSeen
  one_adt s t = bind (adt_read heads t) (λ f. Some (record s { adts = s.adts ++ f.0 ∷ [] }, f.1))

  abbrev pub one_trait : ItemsSeen → List ℕ → FoundInText ItemsSeen
  one_trait s t =
      bind (trait_read heads (length s.traits) t) (λ f. Some (record s { traits = s.traits ++ f.0 ∷ [] }, f.1))

  abbrev pub one_impl : ItemsSeen → List ℕ → FoundInText ItemsSeen
  one_impl s t = bind (impl_read heads t) (λ f. Some (record s { impls = s.impls ++ f.0 ∷ [] }, f.1))

  abbrev pub one_closure : ItemsSeen → List ℕ → FoundInText ItemsSeen
  one_closure s t =
      bind (closure_read heads (length s.closures) t) (λ f. Some (record s { closures = s.closures ++ f.0 ∷ [] }, f.1))

  -- a section behind another
  abbrev pub then_section : (ItemsSeen → List ℕ → FoundInText ItemsSeen) → ItemsSeen × List ℕ → ItemsSeen × List ℕ
  then_section step q = as_long_as step q.0 q.1

  abbrev pub items_read : ItemsSeen → List ℕ → ItemsSeen × List ℕ
  items_read s t =
      then_section one_closure (then_section one_impl (then_section one_trait (then_section one_adt (s, t))))

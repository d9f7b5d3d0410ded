-- The fields of items, where one more is added.
use Rattle.std.proofs.Common.{◌≡◌, ℕ, ◌+◌, ◌-◌, ◌^◌, ◌<◌, Bool, [], ◌∷◌, ◌++◌, length, slice_get, All, Contains, inr, refl, sym, ap, subst, ◌∙◌, arith}
use Rattle.std.specs.declared.vec.Vec.{Vec}
use Rattle.std.specs.declared.alloc.Global.{Global}
use Rattle.std.proofs.lemmas.List.{length_push}
use Rattle.std.proofs.lemmas.List.Elements.{All-weaker}
use Rattle.mir_ty.specs.declared.items.Items.TheInside.{Inside}
use Rattle.mir_ty.specs.declared.ty.Ty.{Ty}
use Rattle.mir_ty.specs.declared.adt.Adt.{Adt}
use Rattle.mir_ty.specs.declared.def.TraitDef.{TraitDef}
use Rattle.mir_ty.specs.declared.def.ImplDef.{ImplDef}
use Rattle.mir_ty.specs.declared.def.ClosureDef.{ClosureDef}
use Rattle.mir_ty.specs.declared.def.Sig.{Sig}
use Rattle.mir_ty.specs.ItemTable.{ItemTable, item_count, with_type, Interns}
use Rattle.mir_ty.specs.AreItems.{types_in, AreTypes, IsTy, IsVariant, IsAdt, IsSig, IsMethod, IsShort, AdtIsShort, TraitIsShort}
use Rattle.mir_ty.specs.Facts.{copy_rule, drop_rule}
use Rattle.mir_ty.specs.Known.{known_by, IsAllShown, IsBehindAt}
use Rattle.mir_ty.specs.Tables.{table_of, AreTables}
use Rattle.mir_ty.proofs.ListLemmas.{slice_get-last}
use Rattle.mir_ty.proofs.KnownLemmas.{all_more, shown_wider, shown_from_all, settled_from_all}
use Rattle.mir_ty.proofs.Rules.{AreBelow, AdtBelow, FieldsBelow, copy_rule-growing, drop_rule-growing, copy_rule-asks, drop_rule-asks, copy_more_adts, copy_more_closures, drop_more_adts, drop_more_closures, copy_other_adts, copy_other_closures, drop_other_adts, drop_other_closures}
use Rattle.mir_ty.proofs.ItemLemmas.{more_body, more_impl, more_trait, more_adt, more_closure, more_type}

module _ (s : Inside) (h : AreTables s) where
  pub tables_body : (sig : Sig) → IsSig s.types sig → IsShort sig.params → length s.bodies + 1 < 2 ^ 32 - 1 → AreTables (record s { bodies = s.bodies ++ sig ∷ [] })
  tables_body sig is short few = record {
    items = more_body (table_of s) sig h.items is short few;
    copies_length = h.copies_length;
    drops_length = h.drops_length;
    copies = h.copies;
    drops = h.drops;
  }

  pub tables_impl : (def : ImplDef) → IsShort def.bodies → item_count (table_of s) + 1 < 2 ^ 32 - 1 → AreTables (record s { impls = s.impls ++ def ∷ [] })
  tables_impl def short few = record {
    items = more_impl (table_of s) def h.items short few;
    copies_length = h.copies_length;
    drops_length = h.drops_length;
    copies = h.copies;
    drops = h.drops;
  }

  pub tables_trait : (def : TraitDef) → All (IsMethod s.types (length s.traits)) def.methods → TraitIsShort def → item_count (table_of s) + 1 < 2 ^ 32 - 1 → AreTables (record s { traits = s.traits ++ def ∷ [] })
  tables_trait def are short few = record {
    items = more_trait (table_of s) def h.items are short few;
    copies_length = h.copies_length;
    drops_length = h.drops_length;
    copies = h.copies;
    drops = h.drops;
  }

  -- the same marks in other vectors
  pub tables_alike : (copies drops : Vec Bool Global) → copies.items ≡ s.copies.items → drops.items ≡ s.drops.items → AreTables (record s { copies = copies; drops = drops })
  tables_alike copies drops copied dropped = record {
    items = h.items;
    copies_length = ap length copied ∙ h.copies_length;
    drops_length = ap length dropped ∙ h.drops_length;
    copies = subst (IsAllShown s.types (copy_rule s.adts s.closures)) (sym copied) h.copies;
    drops = subst (IsAllShown s.types (drop_rule s.adts s.closures)) (sym dropped) h.drops;
  }

  -- equal tables
  pub tables_equal : (t : Inside) → t.types ≡ s.types → t.copies.items ≡ s.copies.items → t.drops.items ≡ s.drops.items → t.adts ≡ s.adts → t.traits ≡ s.traits → t.impls ≡ s.impls
      → t.closures ≡ s.closures → t.bodies ≡ s.bodies → AreTables t
  tables_equal t types copies drops adts traits impls closures bodies =
      rw (types, adts, traits, impls, closures, bodies) (tables_alike t.copies t.drops copies drops)

  fields_below : FieldsBelow (length s.types) s.adts s.closures
  fields_below = record {
    fields = All-weaker (IsAdt s.types) (AdtBelow (length s.types))
        (λ adt is. All-weaker (IsVariant s.types) (λ variant. AreBelow (length s.types) variant.fields) (λ variant i. i.fields) adt.variants is.variants) s.adts h.items.adts;
    captures = h.items.closures;
  }

  types_below : All (λ t. AreBelow (length s.types) (types_in t)) s.types
  types_below = All-weaker (IsTy s.types) (λ t. AreBelow (length s.types) (types_in t)) (λ t i. i.within) s.types h.items.types

  -- a new type, with what the rules show of it
  pub tables_type : (ty : Ty) → ¬ Contains s.types ty → IsTy s.types ty → IsShort (types_in ty) → length s.types + 1 < 2 ^ 32 - 1
      → (copies drops : Vec Bool Global)
      → copies.items ≡ s.copies.items ++ copy_rule s.adts s.closures (known_by s.copies.items) ty ∷ []
      → drops.items ≡ s.drops.items ++ drop_rule s.adts s.closures (known_by s.drops.items) ty ∷ []
      → AreTables (record s { types = s.types ++ ty ∷ []; copies = copies; drops = drops })
  tables_type ty absent is short few copies drops copied dropped = record {
    items = more_type (table_of s) ty h.items absent is short few;
    copies_length = omega (arith, h.copies_length, length_push s.types ty, length_push s.copies.items (copy_rule s.adts s.closures (known_by s.copies.items) ty), ap length copied);
    drops_length = omega (arith, h.drops_length, length_push s.types ty, length_push s.drops.items (drop_rule s.adts s.closures (known_by s.drops.items) ty), ap length dropped);
    copies = subst (IsAllShown (s.types ++ ty ∷ []) (copy_rule s.adts s.closures)) (sym copied)
        (all_more s.types (copy_rule s.adts s.closures) (copy_rule-growing s.adts s.closures) s.copies.items ty (copy_rule-asks (length s.types) s.adts s.closures fields_below) h.copies_length types_below is.within h.copies);
    drops = subst (IsAllShown (s.types ++ ty ∷ []) (drop_rule s.adts s.closures)) (sym dropped)
        (all_more s.types (drop_rule s.adts s.closures) (drop_rule-growing s.adts s.closures) s.drops.items ty (drop_rule-asks (length s.types) s.adts s.closures fields_below) h.drops_length types_below is.within h.drops);
  }

  -- with one more struct or enum, or one more closure, the rules show more of its type alone
  module _ (adt : Adt) where
    pub copies_behind_adt : IsBehindAt s.types (copy_rule (s.adts ++ adt ∷ []) s.closures) s.copies.items (Ty.Adt (length s.adts))
    copies_behind_adt = record {
      long = h.copies_length;
      shown = shown_wider s.types (copy_rule s.adts s.closures) (copy_rule (s.adts ++ adt ∷ []) s.closures) (copy_rule-growing s.adts s.closures) (copy_rule-growing (s.adts ++ adt ∷ []) s.closures)
          (copy_more_adts s.adts s.closures adt) s.copies.items (shown_from_all s.types (copy_rule s.adts s.closures) (copy_rule-growing s.adts s.closures) s.copies.items h.copies);
      settled = λ id ty is other shows.
          settled_from_all s.types (copy_rule s.adts s.closures) (copy_rule-growing s.adts s.closures) s.copies.items h.copies id ty is
          (sym (copy_other_adts s.adts s.closures adt (known_by s.copies.items) ty other) ∙ shows);
    }

    pub drops_behind_adt : IsBehindAt s.types (drop_rule (s.adts ++ adt ∷ []) s.closures) s.drops.items (Ty.Adt (length s.adts))
    drops_behind_adt = record {
      long = h.drops_length;
      shown = shown_wider s.types (drop_rule s.adts s.closures) (drop_rule (s.adts ++ adt ∷ []) s.closures) (drop_rule-growing s.adts s.closures) (drop_rule-growing (s.adts ++ adt ∷ []) s.closures)
          (drop_more_adts s.adts s.closures adt) s.drops.items (shown_from_all s.types (drop_rule s.adts s.closures) (drop_rule-growing s.adts s.closures) s.drops.items h.drops);
      settled = λ id ty is other shows.
          settled_from_all s.types (drop_rule s.adts s.closures) (drop_rule-growing s.adts s.closures) s.drops.items h.drops id ty is
          (sym (drop_other_adts s.adts s.closures adt (known_by s.drops.items) ty other) ∙ shows);
    }

    pub tables_adt : IsAdt s.types adt → AdtIsShort adt → item_count (table_of s) + 1 < 2 ^ 32 - 1 → (copies drops : Vec Bool Global) → length copies.items ≡ length s.types → length drops.items ≡ length s.types
        → IsAllShown s.types (copy_rule (s.adts ++ adt ∷ []) s.closures) copies.items → IsAllShown s.types (drop_rule (s.adts ++ adt ∷ []) s.closures) drops.items
        → AreTables (record s { adts = s.adts ++ adt ∷ []; copies = copies; drops = drops })
    tables_adt is short few copies drops copies_long drops_long copied dropped = record {
      items = more_adt (table_of s) adt h.items is short few;
      copies_length = copies_long;
      drops_length = drops_long;
      copies = copied;
      drops = dropped;
    }

  module _ (def : ClosureDef) where
    pub copies_behind_closure : IsBehindAt s.types (copy_rule s.adts (s.closures ++ def ∷ [])) s.copies.items (Ty.Closure (length s.closures))
    copies_behind_closure = record {
      long = h.copies_length;
      shown = shown_wider s.types (copy_rule s.adts s.closures) (copy_rule s.adts (s.closures ++ def ∷ [])) (copy_rule-growing s.adts s.closures) (copy_rule-growing s.adts (s.closures ++ def ∷ []))
          (copy_more_closures s.adts s.closures def) s.copies.items (shown_from_all s.types (copy_rule s.adts s.closures) (copy_rule-growing s.adts s.closures) s.copies.items h.copies);
      settled = λ id ty is other shows.
          settled_from_all s.types (copy_rule s.adts s.closures) (copy_rule-growing s.adts s.closures) s.copies.items h.copies id ty is
          (sym (copy_other_closures s.adts s.closures def (known_by s.copies.items) ty other) ∙ shows);
    }

    pub drops_behind_closure : IsBehindAt s.types (drop_rule s.adts (s.closures ++ def ∷ [])) s.drops.items (Ty.Closure (length s.closures))
    drops_behind_closure = record {
      long = h.drops_length;
      shown = shown_wider s.types (drop_rule s.adts s.closures) (drop_rule s.adts (s.closures ++ def ∷ [])) (drop_rule-growing s.adts s.closures) (drop_rule-growing s.adts (s.closures ++ def ∷ []))
          (drop_more_closures s.adts s.closures def) s.drops.items (shown_from_all s.types (drop_rule s.adts s.closures) (drop_rule-growing s.adts s.closures) s.drops.items h.drops);
      settled = λ id ty is other shows.
          settled_from_all s.types (drop_rule s.adts s.closures) (drop_rule-growing s.adts s.closures) s.drops.items h.drops id ty is
          (sym (drop_other_closures s.adts s.closures def (known_by s.drops.items) ty other) ∙ shows);
    }

    pub tables_closure : AreTypes s.types def.captures → IsShort def.captures → item_count (table_of s) + 1 < 2 ^ 32 - 1 → (copies drops : Vec Bool Global) → length copies.items ≡ length s.types
        → length drops.items ≡ length s.types
        → IsAllShown s.types (copy_rule s.adts (s.closures ++ def ∷ [])) copies.items → IsAllShown s.types (drop_rule s.adts (s.closures ++ def ∷ [])) drops.items
        → AreTables (record s { closures = s.closures ++ def ∷ []; copies = copies; drops = drops })
    tables_closure are short few copies drops copies_long drops_long copied dropped = record {
      items = more_closure (table_of s) def h.items are short few;
      copies_length = copies_long;
      drops_length = drops_long;
      copies = copied;
      drops = dropped;
    }

-- the next number for a type that has none
pub interned : (items : ItemTable) (ty : Ty) (n : ℕ) → ¬ Contains items.types ty → n ≡ length items.types → Interns items ty (with_type items ty) (record { 0 = n })
interned items ty n absent next =
    (ap (slice_get (items.types ++ ty ∷ [])) next ∙ slice_get-last items.types ty, inr (absent, next, refl))

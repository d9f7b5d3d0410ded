-- All structs and enums with their numbers as types, and an order of the types with them.
use Rattle.std.proofs.Common.{◌≡◌, ℕ, suc, ◌+◌, ◌<◌, drop, length, get_or, Bool, true, false, not, List, [], ◌∷◌, ◌++◌, slice_get, add-one, Option, Some, None, Result, Ok, Err, refl, ap, sym, subst, ◌∙◌}
use Rattle.std.specs.List.{filter_map, position as position_of}
use Rattle.mir_base.specs.declared.rule.Rule.{Rule}
use Rattle.mir_base.specs.declared.rule.RuleError.{RuleError}
use Rattle.mir_base.specs.declared.place_in_text.Pos.{Pos}
use Rattle.mir_ty.specs.ItemTable.{ItemTable}
use Rattle.mir_ty.specs.declared.ty.Ty.{Ty}
use Rattle.mir_ty.specs.declared.ty.TyId.{TyId}
use Rattle.mir_ty.proofs.ListLemmas.{slice_get-append_left}
use Rattle.well_typed.specs.Items.{is_equal}
use Rattle.typing_rules.specs.Check.{TypingState, Broken, and_then, obeys, pure, interned, interned_at}
use Rattle.typing_rules.specs.Collected.{holds, is_finite, starting_with}
use Rattle.typing_rules.specs.Items.{item_syns, items_of}
use Rattle.typeck_heads.proofs.Kept.{state_in}
use Rattle.name_table.specs.Forms.{Adt_, all_numbered, numbered_by}
use Rattle.src_tree.specs.declared.node.NodePiece.{NodePiece}
use Rattle.src_tree.specs.View.{parts_in, piece_of}
use Rattle.typing_rules.specs.Collected.{adt_item}
use Rattle.typeck_heads.specs.Answers.{Refuses}
use Rattle.std.specs.Prelude.{IfSome}
use Rattle.name_table.specs.AdtForms.{adt_seen}
use Rattle.name_table.specs.declared.derives.AdtForm.{AdtForm}
use Rattle.name_table.specs.Forms.{told_by, finite_by}
use Rattle.name_table.specs.Holding.{IsOrderOf, IsOrderWith}
use Rattle.name_table.proofs.EachItem.{IsStep, of_all, numbered_at, on_numbered, stopped_numbered}
use Rattle.name_table.proofs.HeldTypes.{Grows, grows_self, grows_on, order_before}
use Rattle.name_table.proofs.TraitHeads.{bound}

interned_grows : (ty : Ty) (s t : TypingState) (id : TyId) → interned ty s ≡ Ok (id, t) → Grows s.items t.items
interned_grows ty s t id h = by (position_of (is_equal ty) s.items.types) h
  where
    by : (o : Option ℕ) → interned_at ty o s ≡ Ok (id, t) → Grows s.items t.items
    by (Some n) h = subst (λ (z : TypingState). Grows s.items z.items) (ap (state_in s) h) (grows_self s.items)
    by None h =
        subst (λ (z : TypingState). Grows s.items z.items) (ap (state_in s) h)
        (record { types = λ id ty_ is. slice_get-append_left s.items.types (ty ∷ []) id.0 ty_ is; adts = refl; closures = refl })

numbered_grows : (n : ℕ) (as_ : List Adt_) (s t : TypingState) (u : Unit {0}) → all_numbered n as_ s ≡ Ok (u, t) → Grows s.items t.items
numbered_grows n [] s t u h = subst (λ (z : TypingState). Grows s.items z.items) (ap (state_in s) h) (grows_self s.items)
numbered_grows n (a ∷ as_) s t u h =
    let (ty, v, one, rest) = bound (interned (Ty.Adt n) s) _ u t h in
    grows_on s.items v.items t.items (interned_grows (Ty.Adt n) s v ty one) (numbered_grows (n + 1) as_ v t u rest)

interned_done : (ty : Ty) (s : TypingState) → (id : TyId) × (t : TypingState) × (interned ty s ≡ Ok (id, t))
interned_done ty s = by (position_of (is_equal ty) s.items.types)
  where
    by : (o : Option ℕ) → (id : TyId) × (t : TypingState) × (interned_at ty o s ≡ Ok (id, t))
    by (Some n) = (_, _, refl)
    by None = (_, _, refl)

numbered_done : (n : ℕ) (as_ : List Adt_) (s : TypingState) → (t : TypingState) × (all_numbered n as_ s ≡ Ok (tt, t))
numbered_done n [] s = (s, refl)
numbered_done n (a ∷ as_) s =
    let (ty, v, one) = interned_done (Ty.Adt n) s in
    let (t, rest) = numbered_done (n + 1) as_ v in
    (t, ap (λ o. and_then o (λ _. all_numbered (n + 1) as_)) one ∙ rest)

numbered_first : (o : Result (TyId × TypingState) Broken) (n : ℕ) (as_ : List Adt_) →
    and_then o (λ _. all_numbered (n + 1) as_) ≡ and_then (and_then o (λ _. pure (n + 1))) (λ m. all_numbered m as_)
numbered_first (Ok a) n as_ = refl
numbered_first (Err e) n as_ = refl

pub numbered_steps : IsStep all_numbered numbered_by
numbered_steps =
    record {
      on_none = λ n s. refl;
      on_some = λ n a as_ s. numbered_first (interned (Ty.Adt n) s) n as_;
    }

-- ---- part by part

pub on_counted : (whole : Result (Unit {0} × TypingState) Broken) (n m : ℕ) (ps : List NodePiece) (i : ℕ) (p : NodePiece) (o : Option Adt_) (s t : TypingState) →
    i < length ps → p ≡ get_or ps i p → whole ≡ of_all all_numbered numbered_by numbered_steps n (drop i ps) s → o ≡ told_by adt_item (piece_of p) →
    numbered_by n o s ≡ Ok (m, t) → whole ≡ of_all all_numbered numbered_by numbered_steps m (drop (i + 1) ps) t
on_counted whole n m ps i p o s t h is so of_p here =
    on_numbered all_numbered numbered_by numbered_steps whole n m ps i p s t h is so (ap (λ z. numbered_by n z s) (sym of_p) ∙ here)

pub stopped_counted : (whole : Result (Unit {0} × TypingState) Broken) (n : ℕ) (ps : List NodePiece) (i : ℕ) (p : NodePiece) (o : Option Adt_) (s : TypingState) (e : RuleError) →
    i < length ps → p ≡ get_or ps i p → whole ≡ of_all all_numbered numbered_by numbered_steps n (drop i ps) s → o ≡ told_by adt_item (piece_of p) →
    Refuses (numbered_by n o s) e → Refuses whole e
stopped_counted whole n ps i p o s e h is so of_p here =
    stopped_numbered all_numbered numbered_by numbered_steps whole n ps i p s e h is so (subst (λ z. Refuses (numbered_by n z s) e) of_p here)

-- ---- an order of what the items become

abbrev adts_from : ℕ → List NodePiece → List Adt_
adts_from i ps = filter_map adt_item (item_syns (items_of (parts_in (drop i ps))))

-- all that are left are numbered as the first of them is, and then the others
first_then : (n : ℕ) (ps : List NodePiece) (i : ℕ) (p : NodePiece) (o : Option Adt_) (s : TypingState) → i < length ps → p ≡ get_or ps i p → o ≡ told_by adt_item (piece_of p) →
    all_numbered n (adts_from i ps) s ≡ and_then (numbered_by n o s) (λ m. all_numbered m (adts_from (i + 1) ps))
first_then n ps i p o s h is of_p =
    numbered_at all_numbered numbered_by numbered_steps n ps i p s h is
    ∙ ap (λ z. and_then (numbered_by n z s) (λ m. all_numbered m (adts_from (i + 1) ps))) (sym of_p)

-- it is one where the next struct or enum is among the types
pub order_here : (n : ℕ) (ps : List NodePiece) (i : ℕ) (p : NodePiece) (o : Option AdtForm) (items : ItemTable) (order : List ℕ) → i < length ps → p ≡ get_or ps i p →
    adt_seen o ≡ told_by adt_item (piece_of p) → IsOrderOf items order n (adts_from i ps) → IfSome o (λ _. IsOrderWith items order (Ty.Adt n))
order_here n ps i p None items order h is of_p given = tt
order_here n ps i p (Some form) items order h is of_p given = λ id t one.
    let (u, done) = numbered_done (n + 1) (adts_from (i + 1) ps) t in
    let whole : all_numbered n (adts_from i ps) (starting_with items) ≡ Ok (tt, u) =
    first_then n ps i p (adt_seen (Some form)) (starting_with items) h is of_p
    ∙ ap (λ r. and_then (and_then r (λ _. pure (n + 1))) (λ m. all_numbered m (adts_from (i + 1) ps))) one ∙ done in
    order_before t.items u.items order (numbered_grows (n + 1) (adts_from (i + 1) ps) t u tt done) (given u whole)

obeyed_state : (at : Pos) (b : Bool) (s t : TypingState) (u : Unit {0}) → obeys Rule.T09 at b s ≡ Ok (u, t) → s ≡ t
obeyed_state at true s t u h = ap (state_in s) h
obeyed_state at false s t u h = absurd (cc)

-- a struct or an enum that holds itself not is numbered
finite_numbers : (n m : ℕ) (o : Option Adt_) (s t : TypingState) → finite_by n o s ≡ Ok (m, t) → numbered_by n o s ≡ Ok (m, t)
finite_numbers n m None s t h = h
finite_numbers n m (Some a) s t h =
    let (u, v, tested, rest) = bound (is_finite n a.0 s) _ m t h in
    let (ty, w, one, asked) = bound (interned (Ty.Adt n) s) _ u v tested in
    let same : w ≡ v = obeyed_state a.0 (not (holds w.items ty ty)) w v u asked in
    ap (λ r. and_then r (λ _. pure (n + 1))) one ∙ ap (pure (n + 1)) same ∙ rest

-- and one of what they are behind it
pub order_next : (n m : ℕ) (ps : List NodePiece) (i : ℕ) (p : NodePiece) (o : Option Adt_) (items after : ItemTable) (order : List ℕ) → i < length ps → p ≡ get_or ps i p →
    o ≡ told_by adt_item (piece_of p) → finite_by n o (starting_with items) ≡ Ok (m, starting_with after) →
    IsOrderOf items order n (adts_from i ps) → IsOrderOf after order m (adts_from (i + 1) ps)
order_next n m ps i p o items after order h is of_p here given = λ t all_.
    given t (first_then n ps i p o (starting_with items) h is of_p
    ∙ ap (λ r. and_then r (λ m. all_numbered m (adts_from (i + 1) ps))) (finite_numbers n m o (starting_with items) (starting_with after) here) ∙ all_)

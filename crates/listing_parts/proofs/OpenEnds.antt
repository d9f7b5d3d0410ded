-- What a reader of types does at the end of a type, and at its beginning, seen from all types that are open.
use Rattle.std.proofs.Common.{◌≡◌, ℕ, ◌<◌, ◌≤◌, List, [], ◌∷◌, ◌++◌, map, length, codes, Option, Some, None, decimal, refl, ap, sym, ◌∙◌, arith, length-append}
use Rattle.std.specs.Prelude.{Result, Ok, Err}
use Rattle.std.specs.Borrow.{Bor}
use Rattle.std.proofs.lemmas.Option.{same_Some}
use Rattle.mir_ty.specs.AreItems.{AreTypes}
use Rattle.mir_ty.specs.ItemTable.{ItemTable}
use Rattle.mir_ty.specs.declared.ty.Ty.{Ty}
use Rattle.mir_ty.specs.declared.ty.TyId.{TyId}
use Rattle.listing_write.specs.Reading.Words.{FoundInText, as_, bind, said, strip}
use Rattle.listing_write.specs.Types.{form_text, tuple_text}
use Rattle.listing_parts.specs.OpenTypes.{Ends, row_of}
use Rattle.listing_parts.specs.Table.{AreRead, text_under, under}
use Rattle.listing_parts.specs.TypeReading.{around_end, around_text, around_type, plain_number, row_end, type_read}
use Rattle.listing_parts.specs.TypesRead.{FindsType}
use Rattle.listing_parts.specs.declared.begin.TypeAround.{TypeAround}
use Rattle.listing_parts.specs.declared.error.ReadError.{ReadError}
use Rattle.listing_parts.specs.declared.types.Ended.{Ended}
use Rattle.listing_parts.specs.declared.types.Open.{Open}
use Rattle.listing_parts.proofs.DepthFree.{said_left, stripped}
use Rattle.listing_parts.proofs.FoundRows.{map-append}
use Rattle.listing_parts.proofs.OpenTypes.{row_goes_on, row_stops_here}
use Rattle.listing_parts.proofs.PlainNumbers.{plain_sound}
use Rattle.listing_parts.proofs.Splits.{split}
use Rattle.listing_parts.proofs.Texts.{same_types}

-- ---- what is left is no longer
around_left : (around : TypeAround) (t : List ℕ) (f : ℕ × List ℕ) → around_end around t ≡ Some f → length f.1 ≤ length t
around_left TypeAround.Box t f h = let e = said_left (codes ">") 0 t f h in omega (arith, e)
around_left TypeAround.Array t f h =
    let (u, mark, rest) = split (strip (codes "; ") t) (λ t. bind (plain_number t) (λ n. said (codes "]") n.0 n.1)) f h in
    let (n, number, last) = split (plain_number u) (λ n. said (codes "]") n.0 n.1) f rest in
    let a = stripped (codes "; ") t u mark in
    let b = ap length (plain_sound u n.0 n.1 number).0 ∙ length-append (decimal n.0) n.1 in
    let c = said_left (codes "]") n.0 n.1 f last in
    omega (arith, a, b, c)
around_left TypeAround.Shared t f h = let e = ap (λ (q : ℕ × List ℕ). length q.1) (same_Some (0, t) f h) in omega (arith, e)
around_left TypeAround.Unique t f h = let e = ap (λ (q : ℕ × List ℕ). length q.1) (same_Some (0, t) f h) in omega (arith, e)

row_left : {X : Type 0} (parts : List X) (t r : List ℕ) → row_end parts t ≡ Some r → length r ≤ length t
row_left [] t r h = let e = stripped (codes ")") t r h in omega (arith, e)
row_left (x ∷ []) t r h = let e = stripped (codes ",)") t r h in omega (arith, e)
row_left (x ∷ y ∷ xs) t r h = let e = stripped (codes ")") t r h in omega (arith, e)

ok_no_error : {X : Type 0} (x : X) (e : ReadError) (A : Type 0) → ◌≡◌ {A = Result X ReadError} (Ok x) (Err e) → A
ok_no_error x e A h = absurd (cc)

-- a type that was given a number is the end
pub ends_whole : (heads old new : ItemTable) (ty : Ty) (r : List ℕ) (limit : ℕ) (found : FoundInText (List ℕ)) (id : TyId) (rest : Bor (List ℕ)) →
    found ≡ Some (form_text (under heads old) (text_under heads old) ty, r) → length r ≤ limit →
    FindsType heads old new (Ok (id, rest)) (Some (form_text (under heads old) (text_under heads old) ty, r)) →
    Ends heads old new (Ok (Ended.Whole id rest)) found limit
ends_whole heads old new ty r limit found id rest is short f = record {
  there = is ∙ f.there;
  within = f.within;
  shorter = let e = ap length (ap (λ (q : List ℕ × List ℕ). q.1) (same_Some (form_text (under heads old) (text_under heads old) ty, r) (text_under heads new id, rest.now) f.there)) in omega (arith, e, short);
  missing = λ h. ok_no_error (Ended.Whole id rest) ReadError.Unreadable _ h;
  grow = f.grow;
}

around_form : (heads old : ItemTable) (around : TypeAround) (id : TyId) (n : ℕ) →
    form_text (under heads old) (text_under heads old) (around_type around id n) ≡ around_text around (text_under heads old id) n
around_form heads old TypeAround.Box id n = refl
around_form heads old TypeAround.Array id n = refl
around_form heads old TypeAround.Shared id n = refl
around_form heads old TypeAround.Unique id n = refl

pub around_ends : (heads old new : ItemTable) (around : TypeAround) (inside : TyId) (t : List ℕ) (n : ℕ) (r : List ℕ) (id : TyId) (rest : Bor (List ℕ)) →
    around_end around t ≡ Some (n, r) →
    FindsType heads old new (Ok (id, rest)) (Some (form_text (under heads old) (text_under heads old) (around_type around inside n), r)) →
    Ends heads old new (Ok (Ended.Whole id rest)) (as_ (around_text around (text_under heads old inside)) (around_end around t)) (length t)
around_ends heads old new around inside t n r id rest is f =
    ends_whole heads old new (around_type around inside n) r (length t) _ id rest
    (ap (as_ (around_text around (text_under heads old inside))) is ∙ ap (λ (w : List ℕ). Some (w, r)) (sym (around_form heads old around inside n)))
    (around_left around t (n, r) is) f

-- a row goes on behind a comma
pub row_more : (heads items : ItemTable) (words : List TyId) (word : TyId) (parts : List TyId) (t : List ℕ) (rest : Bor (List ℕ)) → AreRead heads items.types → AreTypes items.types parts →
    parts ≡ words ++ word ∷ [] → strip (codes ", ") t ≡ Some rest.now →
    Ends heads items items (Ok (Ended.More (Open.Row parts) rest)) (row_of heads (map (text_under heads items) parts) t) (length t)
row_more heads items words word parts t rest read within is at = record {
  there =
      ap (λ (ids : List TyId). row_of heads (map (text_under heads items) ids) t) is
      ∙ ap (λ (ws : List (List ℕ)). row_of heads ws t) (map-append (text_under heads items) words (word ∷ []))
      ∙ row_goes_on heads (map (text_under heads items) words) (text_under heads items word) t rest.now at
      ∙ ap (λ (ws : List (List ℕ)). bind (type_read heads rest.now) (λ f. row_of heads (ws ++ f.0 ∷ []) f.1)) (sym (map-append (text_under heads items) words (word ∷ [])) ∙ ap (map (text_under heads items)) (sym is));
  within = within;
  shorter = let e = stripped (codes ", ") t rest.now at in omega (arith, e);
  missing = λ h. ok_no_error (Ended.More (Open.Row parts) rest) ReadError.Unreadable _ h;
  grow = record { types = read; others = same_types items };
}

-- a row that is not empty has a last part
pub last_part : (parts : List TyId) → 0 < length parts → (front : List TyId) × (last : TyId) × (parts ≡ front ++ last ∷ [])
last_part [] some = absurd (omega arith)
last_part (x ∷ []) some = ([], x, refl)
last_part (x ∷ y ∷ xs) some = let (front, last, is) = last_part (y ∷ xs) (omega arith) in (x ∷ front, last, ap (λ (l : List TyId). x ∷ l) is)

-- and one that ends is a tuple
end_mapped : {X Z : Type 0} (g : X → Z) (parts : List X) (t : List ℕ) → row_end (map g parts) t ≡ row_end parts t
end_mapped g [] t = refl
end_mapped g (x ∷ []) t = refl
end_mapped g (x ∷ y ∷ xs) t = refl

pub row_ends : (heads old new : ItemTable) (parts : List TyId) (t r : List ℕ) (id : TyId) (rest : Bor (List ℕ)) → strip (codes ", ") t ≡ None → row_end parts t ≡ Some r →
    FindsType heads old new (Ok (id, rest)) (Some (form_text (under heads old) (text_under heads old) (Ty.Tuple parts), r)) →
    Ends heads old new (Ok (Ended.Whole id rest)) (row_of heads (map (text_under heads old) parts) t) (length t)
row_ends heads old new parts t r id rest none is f =
    ends_whole heads old new (Ty.Tuple parts) r (length t) _ id rest
    (row_stops_here heads (map (text_under heads old) parts) t none
    ∙ ap (λ (o : Option (List ℕ)). bind o (λ (r : List ℕ). Some (tuple_text (map (text_under heads old) parts), r))) (end_mapped (text_under heads old) parts t ∙ is))
    (row_left parts t r is) f

pub row_fails : (heads items : ItemTable) (parts : List TyId) (t : List ℕ) → strip (codes ", ") t ≡ None → row_end parts t ≡ None →
    row_of heads (map (text_under heads items) parts) t ≡ None
row_fails heads items parts t none is =
    row_stops_here heads (map (text_under heads items) parts) t none
    ∙ ap (λ (o : Option (List ℕ)). bind o (λ (r : List ℕ). Some (tuple_text (map (text_under heads items) parts), r))) (end_mapped (text_under heads items) parts t ∙ is)

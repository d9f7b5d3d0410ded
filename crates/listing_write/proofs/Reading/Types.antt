-- Types, read as they are written.
use Rattle.std.proofs.Common.{◌≡◌, ℕ, zero, suc, ◌-◌, ◌^◌, ◌<◌, ◌≤◌, Bool, true, false, not, ◌&&◌, ◌||◌, if◌then◌else◌, nat_eq, nat_lt, List, [], ◌∷◌, ◌++◌, map, length, codes, Option, Some, None, decimal, refl, ap, sym, subst, ◌∙◌, arith, append_assoc, append-nil, eqb-true, ltb-true}
use Rattle.std.specs.Prelude.{⊤}
use Rattle.std.specs.List.{list_all, list_any}
use Rattle.std.specs.Option.{option_map_or}
use Rattle.std.proofs.lemmas.Bool.{and_parts, and_from, false≢true}
use Rattle.std.proofs.lemmas.Grind.{common_steps}
use Rattle.mir_base.specs.declared.int_kind.IntKind.{IntKind}
use Rattle.mir_ty.specs.declared.ty.Ty.{Ty}
use Rattle.mir_ty.specs.declared.ty.TyId.{TyId}
use Rattle.mir_ty.specs.AreItems.{types_in}
use Rattle.mir_ty.specs.Facts.{in_rounds}
use Rattle.mir_ty.specs.ItemTable.{ItemTable, type_at}
use Rattle.mir_ty.specs.Named.{adt_name}
use Rattle.cfg_graph.specs.WellFormed.NameFaults.{same_name, is_among, stands_in_names, is_name, is_adt_name, type_words}
use Rattle.cfg_graph.specs.WellFormed.TypeFaults.{own_number_exists, existing, ty_exists}
use Rattle.listing_write.specs.Lists.{joined, in_parentheses}
use Rattle.listing_write.specs.Types.{kind_text, trait_name, tuple_text, form_text, found_text, type_within, type_text, deepest}
use Rattle.listing_write.proofs.Reading.Basics.{FoundInText, Every, bind, or_else, strip, span, stops, span_run, one_of, is_digit, decimal_digits, behind4}
use Rattle.listing_write.proofs.Reading.Rows.{row, row_of_none, row_reads, closed_row, in_row}

-- what stands behind a type: the end of the text, a mark that closes, or a blank before a brace
abbrev begins_brace : List ℕ → Bool
begins_brace [] = false
begins_brace (b ∷ bs) = nat_eq b 125

abbrev pub closes : List ℕ → Bool
closes [] = true
closes (b ∷ bs) = if nat_eq b 32 then begins_brace bs else list_any (nat_eq b) (10 ∷ codes ",;)]>")

by_test : {P : Type 0} (t : Bool) → (t ≡ true → P) → (t ≡ false → P) → P
by_test true yes_ no_ = yes_ refl
by_test false yes_ no_ = no_ refl

pub closes_stops : (r : List ℕ) → closes r ≡ true → stops stands_in_names r ≡ true
closes_stops [] h = refl
closes_stops (b ∷ bs) h =
    by_test (nat_eq b 32)
    (λ e. subst (λ (c : ℕ). not (stands_in_names c) ≡ true) (sym (eqb-true b 32 e)) refl)
    (λ e. one_of (λ c. not (stands_in_names c) ≡ true) b (10 ∷ codes ",;)]>") (refl, (refl, (refl, (refl, (refl, (refl, tt))))))
    (subst (λ (t : Bool). (if t then begins_brace bs else list_any (nat_eq b) (10 ∷ codes ",;)]>")) ≡ true) e h))

-- digits stand in names
digit_stands : (b : ℕ) → is_digit b ≡ true → stands_in_names b ≡ true
digit_stands b h = grind (arith, common_steps)

pub digits_stand : (ds : List ℕ) → list_all is_digit ds ≡ true → list_all stands_in_names ds ≡ true
digits_stand [] h = refl
digits_stand (d ∷ ds) h = let (this, others) = and_parts (is_digit d) _ h in and_from (stands_in_names d) _ (digit_stands d this) (digits_stand ds others)

-- what begins with no byte of a name does not begin with a word
strip_stopped : (c : ℕ) (cs r : List ℕ) → stands_in_names c ≡ true → stops stands_in_names r ≡ true → strip (c ∷ cs) r ≡ None
strip_stopped c cs [] h s = refl
strip_stopped c cs (b ∷ bs) h s =
    by_test (nat_eq c b)
    (λ e. absurd (false≢true (sym (ap not (sym (ap stands_in_names (eqb-true c b e)) ∙ h)) ∙ s)))
    (λ e. rw e refl)

-- a type that was read, with the types in it as they are written: a word (an integer type, `bool`, a name or a closure), a tuple or `()`,
-- an array, `!`, a box, a `dyn` type, and a reference, `&mut` where it is unique
pub data Shape : Type 0 where
  Word : List ℕ → Shape
  Row : List (List ℕ) → Shape
  Count : List ℕ → List ℕ → Shape
  Naught : Shape
  InBox : List ℕ → Shape
  Object : List ℕ → Shape
  Refers : Bool → List ℕ → Shape

abbrev pub shape_text : Shape → List ℕ
shape_text (Word w) = w
shape_text (Row words) = tuple_text words
shape_text (Count element digits) = codes "[" ++ element ++ codes "; " ++ digits ++ codes "]"
shape_text Naught = codes "!"
shape_text (InBox w) = codes "Box<" ++ w ++ codes ">"
shape_text (Object name) = codes "dyn " ++ name
shape_text (Refers true w) = codes "&mut " ++ w
shape_text (Refers false w) = codes "&" ++ w

-- the shape of a type, where the types in it are written so
abbrev pub shape_of : ItemTable → (TyId → List ℕ) → Ty → Shape
shape_of items inner (Ty.Int kind) = Word (kind_text kind)
shape_of items inner Ty.Bool = Word (codes "bool")
shape_of items inner Ty.Unit = Row []
shape_of items inner Ty.Never = Naught
shape_of items inner (Ty.Adt n) = Word (adt_name items n)
shape_of items inner (Ty.Tuple parts) = Row (map inner parts)
shape_of items inner (Ty.Array element count) = Count (inner element) (decimal count)
shape_of items inner (Ty.Boxed inside) = InBox (inner inside)
shape_of items inner (Ty.Dyn n) = Object (trait_name items n)
shape_of items inner (Ty.Shared to) = Refers false (inner to)
shape_of items inner (Ty.Unique to) = Refers true (inner to)
shape_of items inner (Ty.Closure n) = Word (codes "closure#" ++ decimal n)

shape-text : (items : ItemTable) (inner : TyId → List ℕ) (ty : Ty) → shape_text (shape_of items inner ty) ≡ form_text items inner ty
shape-text items inner (Ty.Int kind) = refl
shape-text items inner _ = refl

abbrev as_text : FoundInText Shape → FoundInText (List ℕ)
as_text o = bind o (λ f. Some (shape_text f.0, f.1))

abbrev referring : Bool → FoundInText (List ℕ) → FoundInText Shape
referring unique o = bind o (λ f. Some (Refers unique f.0, f.1))

abbrev tuple_from : List (List ℕ) × List ℕ → FoundInText Shape
tuple_from q = or_else (bind (strip (codes ",)") q.1) (λ r. Some (Row q.0, r))) (bind (strip (codes ")") q.1) (λ r. Some (Row q.0, r)))

abbrev count_from : List ℕ → List ℕ × List ℕ → FoundInText Shape
count_from element q = bind (strip (codes "]") q.1) (λ r. Some (Count element q.0, r))

abbrev element_from : List ℕ × List ℕ → FoundInText Shape
element_from f = bind (strip (codes "; ") f.1) (λ t. count_from f.0 (span is_digit t))

abbrev box_from : List ℕ × List ℕ → FoundInText Shape
box_from f = bind (strip (codes ">") f.1) (λ r. Some (InBox f.0, r))

abbrev object_from : List ℕ × List ℕ → FoundInText Shape
object_from n = Some (Object n.0, n.1)

module _ (inner : List ℕ → FoundInText (List ℕ)) where
  abbrev reference : List ℕ → FoundInText Shape
  reference t = or_else (referring true (bind (strip (codes "mut ") t) inner)) (referring false (inner t))

  -- a type that begins with a mark
  abbrev marked : List ℕ → FoundInText Shape
  marked t =
      or_else (bind (strip (codes "(") t) (λ t. tuple_from (row inner t)))
      (or_else (bind (strip (codes "[") t) (λ t. bind (inner t) element_from))
      (or_else (bind (strip (codes "!") t) (λ r. Some (Naught, r))) (bind (strip (codes "&") t) reference)))

  -- and one that begins with a word
  abbrev worded : List ℕ → List ℕ → List ℕ → FoundInText Shape
  worded [] r t = marked t
  worded (b ∷ bs) r t =
      if same_name (b ∷ bs) (codes "Box") then bind (strip (codes "<") r) (λ t. bind (inner t) box_from)
      else (if same_name (b ∷ bs) (codes "dyn") then bind (strip (codes " ") r) (λ t. object_from (span stands_in_names t))
      else Some (Word (b ∷ bs), r))

  abbrev pub type_form : List ℕ → FoundInText Shape
  type_form t = worded (span stands_in_names t).0 (span stands_in_names t).1 t

-- a type with no more than so many types in one another
abbrev pub type_read : ℕ → List ℕ → FoundInText (List ℕ)
type_read zero t = None
type_read (suc k) t = as_text (type_form (type_read k) t)

-- no type begins with a mark that closes
pub no_type_at : (k : ℕ) (r : List ℕ) → type_read k (codes ")" ++ r) ≡ None
no_type_at zero r = refl
no_type_at (suc k) r = refl

pub no_type_at_brace : (k : ℕ) (r : List ℕ) → type_read k (codes "}" ++ r) ≡ None
no_type_at_brace zero r = refl
no_type_at_brace (suc k) r = refl

module _ (read : List ℕ → FoundInText (List ℕ)) where
  in_tuple : (t : List ℕ) (f : Shape × List ℕ) → tuple_from (row read t) ≡ Some f → type_form read (codes "(" ++ t) ≡ Some f
  in_tuple t f h = rw h refl

  in_bracket : (t : List ℕ) (f : Shape × List ℕ) → bind (read t) element_from ≡ Some f → type_form read (codes "[" ++ t) ≡ Some f
  in_bracket t f h = rw h refl

  plain_word : (w r t : List ℕ) → 0 < length w → same_name w (codes "Box") ≡ false → same_name w (codes "dyn") ≡ false → worded read w r t ≡ Some (Word w, r)
  plain_word [] r t some b d = absurd (omega arith)
  plain_word (c ∷ cs) r t some b d = rw b (rw d refl)

  word_reads : (w r : List ℕ) → list_all stands_in_names w ≡ true → 0 < length w → same_name w (codes "Box") ≡ false → same_name w (codes "dyn") ≡ false
      → closes r ≡ true → type_form read (w ++ r) ≡ Some (Word w, r)
  word_reads w r all some b d e =
      ap (λ (q : List ℕ × List ℕ). worded read q.0 q.1 (w ++ r)) (span_run stands_in_names w r all (closes_stops r e)) ∙ plain_word w r (w ++ r) some b d

  -- no type stands before a brace that closes
  module _ (brace : (t : List ℕ) → read (codes "}" ++ t) ≡ None) where
    before_brace : (bs : List ℕ) → begins_brace bs ≡ true → read bs ≡ None
    before_brace [] h = absurd (false≢true h)
    before_brace (b ∷ bs) h = ap (λ (c : ℕ). read (c ∷ bs)) (eqb-true b 125 h) ∙ brace bs

    -- a name, with what closes it, is no word, a blank and a type
    no_word : (w name r : List ℕ) → list_all stands_in_names w ≡ true → list_all stands_in_names name ≡ true → closes r ≡ true
        → bind (strip (w ++ codes " ") (name ++ r)) read ≡ None
    no_word [] [] [] w n e = refl
    no_word [] [] (b ∷ bs) w n e =
        by_test (nat_eq 32 b)
        (λ h. let same = eqb-true 32 b h in
        let brace_at : begins_brace bs ≡ true = subst (λ (c : ℕ). (if nat_eq c 32 then begins_brace bs else list_any (nat_eq c) (10 ∷ codes ",;)]>")) ≡ true) (sym same) e in
        rw h (before_brace bs brace_at))
        (λ h. rw h refl)
    no_word [] (a ∷ name) r w n e =
        by_test (nat_eq 32 a)
        (λ h. absurd (false≢true (subst (λ (c : ℕ). stands_in_names c ≡ true) (sym (eqb-true 32 a h)) (and_parts (stands_in_names a) _ n).0)))
        (λ h. rw h refl)
    no_word (c ∷ w) [] r all n e = ap (λ (o : Option (List ℕ)). bind o read) (strip_stopped c (w ++ codes " ") r (and_parts (stands_in_names c) _ all).0 (closes_stops r e))
    no_word (c ∷ w) (a ∷ name) r all n e =
        let deeper = no_word w name r (and_parts (stands_in_names c) _ all).1 (and_parts (stands_in_names a) _ n).1 e in
        by_test (nat_eq c a) (λ h. rw h deeper) (λ h. rw h refl)

-- what is in a name of a struct or an enum
pub name_stands : (name : List ℕ) → is_name name ≡ true → (0 < length name) × (list_all stands_in_names name ≡ true)
name_stands name h = let (some, all) = and_parts (nat_lt 0 (length name)) _ h in (ltb-true 0 (length name) some, all)

pub not_true : (b : Bool) → not b ≡ true → b ≡ false
not_true true h = absurd (false≢true h)
not_true false h = refl

pub or_parts : (a b : Bool) → (a || b) ≡ false → (a ≡ false) × (b ≡ false)
or_parts true b h = absurd (false≢true (sym h))
or_parts false b h = (refl, h)

pub adt_name_stands : (name : List ℕ) → is_adt_name name ≡ true
    → is_name name ≡ true × (same_name name (codes "Box") ≡ false) × (same_name name (codes "dyn") ≡ false)
adt_name_stands name h =
    let (front, last) = and_parts (is_name name && not (is_among type_words name)) _ h in
    let (own, others) = and_parts (is_name name) _ front in
    let none = not_true (is_among type_words name) others in
    let at1 = (or_parts (same_name name (codes "i32")) _ none).1 in
    let at2 = (or_parts (same_name name (codes "i64")) _ at1).1 in
    let at3 = (or_parts (same_name name (codes "u32")) _ at2).1 in
    let at4 = (or_parts (same_name name (codes "u64")) _ at3).1 in
    let at5 = (or_parts (same_name name (codes "usize")) _ at4).1 in
    let at6 = (or_parts (same_name name (codes "bool")) _ at5).1 in
    let (no_box, at7) = or_parts (same_name name (codes "Box")) _ at6 in
    (own, no_box, (or_parts (same_name name (codes "dyn")) _ at7).0)

-- the numbers that a type itself has: a length, and that of a closure
abbrev pub HasNumbers : Ty → Type 0
HasNumbers (Ty.Array element count) = count < 10 ^ 64
HasNumbers (Ty.Closure n) = n < 10 ^ 64
HasNumbers _ = ⊤

module _ (items : ItemTable)
    (adts : (n : ℕ) → nat_lt n (length items.adts) ≡ true → is_adt_name (adt_name items n) ≡ true)
    (traits : (n : ℕ) → nat_lt n (length items.traits) ≡ true → is_name (trait_name items n) ≡ true) where
  module _ (inner : TyId → List ℕ) (read : List ℕ → FoundInText (List ℕ)) (Good : TyId → Type 0)
      (closed : (t : List ℕ) → read (codes ")" ++ t) ≡ None) (brace : (t : List ℕ) → read (codes "}" ++ t) ≡ None) where
    -- a type that is written with `&` is not read as one with `&mut `
    no_mut : (ty : Ty) → own_number_exists items ty ≡ true → (r : List ℕ) → closes r ≡ true → bind (strip (codes "mut ") (form_text items inner ty ++ r)) read ≡ None
    no_mut (Ty.Adt n) own r e = no_word read brace (codes "mut") (adt_name items n) r refl (name_stands (adt_name items n) (adt_name_stands (adt_name items n) (adts n own)).0).1 e
    no_mut (Ty.Int IntKind.I32) own r e = refl
    no_mut (Ty.Int IntKind.I64) own r e = refl
    no_mut (Ty.Int IntKind.U32) own r e = refl
    no_mut (Ty.Int IntKind.U64) own r e = refl
    no_mut (Ty.Int IntKind.Usize) own r e = refl
    no_mut (Ty.Tuple []) own r e = refl
    no_mut (Ty.Tuple (part ∷ [])) own r e = refl
    no_mut (Ty.Tuple (part ∷ next ∷ parts)) own r e = refl
    no_mut other own r e = refl

    module _ (one : (id : TyId) → Good id → (r : List ℕ) → closes r ≡ true → read (inner id ++ r) ≡ Some (inner id, r))
        (unmut : (id : TyId) → Good id → (r : List ℕ) → closes r ≡ true → bind (strip (codes "mut ") (inner id ++ r)) read ≡ None) where
      Ends : List ℕ → Type 0
      Ends r = closes r ≡ true

      abbrev tuple_row : (x : TyId) (xs : List TyId) (r : List ℕ) → Every Good (x ∷ xs) → closes r ≡ true → strip (codes ", ") r ≡ None
          → row read (joined (map inner (x ∷ xs)) ++ r) ≡ (map inner (x ∷ xs), r)
      tuple_row = row_reads read inner inner Good (λ r. closes r ≡ true) one (λ t. refl)

      tuple_reads : (ids : List TyId) → Every Good ids → (r : List ℕ) → type_form read (tuple_text (map inner ids) ++ r) ≡ Some (Row (map inner ids), r)
      tuple_reads [] good r = in_tuple read (codes ")" ++ r) (Row [], r) (ap tuple_from (row_of_none read inner inner Good (λ r. closes r ≡ true) one (λ t. refl) (codes ")" ++ r) (closed r)))
      tuple_reads (id ∷ []) good r =
          let split : (inner id ++ codes ",)") ++ r ≡ joined (map inner (id ∷ [])) ++ (codes ",)" ++ r) =
          append_assoc (inner id) (codes ",)") r ∙ ap (λ (w : List ℕ). w ++ (codes ",)" ++ r)) (sym (append-nil (inner id))) in
          in_tuple read ((inner id ++ codes ",)") ++ r) (Row (inner id ∷ []), r)
          (ap (λ (t : List ℕ). tuple_from (row read t)) split ∙ ap tuple_from (tuple_row id [] (codes ",)" ++ r) good refl refl))
      tuple_reads (id ∷ next ∷ ids) good r =
          let words : List (List ℕ) = map inner (id ∷ next ∷ ids) in
          in_tuple read ((joined words ++ codes ")") ++ r) (Row words, r)
          (ap (λ (t : List ℕ). tuple_from (row read t)) (append_assoc (joined words) (codes ")") r)
          ∙ ap tuple_from (tuple_row id (next ∷ ids) (codes ")" ++ r) good refl refl))

      form_reads : (ty : Ty) → own_number_exists items ty ≡ true → HasNumbers ty → Every Good (types_in ty) → (r : List ℕ) → closes r ≡ true
          → type_form read (form_text items inner ty ++ r) ≡ Some (shape_of items inner ty, r)
      form_reads (Ty.Int IntKind.I32) own numbers good r e = word_reads read (codes "i32") r refl (omega arith) refl refl e
      form_reads (Ty.Int IntKind.I64) own numbers good r e = word_reads read (codes "i64") r refl (omega arith) refl refl e
      form_reads (Ty.Int IntKind.U32) own numbers good r e = word_reads read (codes "u32") r refl (omega arith) refl refl e
      form_reads (Ty.Int IntKind.U64) own numbers good r e = word_reads read (codes "u64") r refl (omega arith) refl refl e
      form_reads (Ty.Int IntKind.Usize) own numbers good r e = word_reads read (codes "usize") r refl (omega arith) refl refl e
      form_reads Ty.Bool own numbers good r e = word_reads read (codes "bool") r refl (omega arith) refl refl e
      form_reads Ty.Unit own numbers good r e = tuple_reads [] tt r
      form_reads Ty.Never own numbers good r e = refl
      form_reads (Ty.Adt n) own numbers good r e =
          let name = adt_name_stands (adt_name items n) (adts n own) in
          let stands = name_stands (adt_name items n) name.0 in
          word_reads read (adt_name items n) r stands.1 stands.0 name.1 name.2 e
      form_reads (Ty.Tuple parts) own numbers good r e = tuple_reads parts good r
      form_reads (Ty.Array element count) own numbers good r e =
          let behind_element : List ℕ = codes "; " ++ (decimal count ++ (codes "]" ++ r)) in
          let split : (inner element ++ codes "; " ++ decimal count ++ codes "]") ++ r ≡ inner element ++ behind_element =
          behind4 (inner element) (codes "; ") (decimal count) (codes "]") r in
          in_bracket read ((inner element ++ codes "; " ++ decimal count ++ codes "]") ++ r) (Count (inner element) (decimal count), r)
          (ap (λ (t : List ℕ). bind (read t) element_from) split ∙ ap (λ (f : FoundInText (List ℕ)). bind f element_from) (one element good.0 behind_element refl)
          ∙ ap (count_from (inner element)) (span_run is_digit (decimal count) (codes "]" ++ r) (decimal_digits count numbers) refl))
      form_reads (Ty.Boxed inside) own numbers good r e =
          ap (λ (t : List ℕ). bind (read t) box_from) (append_assoc (inner inside) (codes ">") r) ∙ ap (λ (f : FoundInText (List ℕ)). bind f box_from) (one inside good.0 (codes ">" ++ r) refl)
      form_reads (Ty.Dyn n) own numbers good r e =
          ap object_from (span_run stands_in_names (trait_name items n) r (name_stands (trait_name items n) (traits n own)).1 (closes_stops r e))
      form_reads (Ty.Shared to) own numbers good r e =
          ap (λ (o : FoundInText (List ℕ)). or_else (referring true o) (referring false (read (inner to ++ r)))) (unmut to good.0 r e)
          ∙ ap (referring false) (one to good.0 r e)
      form_reads (Ty.Unique to) own numbers good r e =
          ap (λ (o : FoundInText (List ℕ)). or_else (referring true o) (referring false (read (codes "mut " ++ (inner to ++ r))))) (one to good.0 r e)
      form_reads (Ty.Closure n) own numbers good r e =
          word_reads read (codes "closure#" ++ decimal n) r (digits_stand (decimal n) (decimal_digits n numbers)) (omega arith) refl refl e

-- what is shown of a type in one round more
abbrev pub IsShown : ItemTable → ℕ → TyId → Type 0
IsShown items k id = in_rounds items.types (existing items) k id ≡ true

pub shown_parts : (items : ItemTable) (k : ℕ) (id : TyId) → IsShown items (suc k) id
    → (ty : Ty) × (type_at items id ≡ Some ty) × (own_number_exists items ty ≡ true) × (list_all (in_rounds items.types (existing items) k) (types_in ty) ≡ true)
shown_parts items k id h = by (type_at items id) refl
  where
    by : (o : Option Ty) → type_at items id ≡ o
        → (ty : Ty) × (type_at items id ≡ Some ty) × (own_number_exists items ty ≡ true) × (list_all (in_rounds items.types (existing items) k) (types_in ty) ≡ true)
    by None e = absurd (false≢true (subst (λ (o : Option Ty). option_map_or (existing items (in_rounds items.types (existing items) k)) o false ≡ true) e h))
    by (Some ty) e =
        let shown = subst (λ (o : Option Ty). option_map_or (existing items (in_rounds items.types (existing items) k)) o false ≡ true) e h in
        let (own, parts) = and_parts (own_number_exists items ty) _ shown in
        (ty, e, own, parts)

pub every_of : {X : Type 0} (p : X → Bool) (xs : List X) → list_all p xs ≡ true → Every (λ x. p x ≡ true) xs
every_of p [] h = tt
every_of p (x ∷ xs) h = let (this, others) = and_parts (p x) _ h in (this, every_of p xs others)

-- a type of a graph, as its listing has it
pub type_reader : List ℕ → FoundInText (List ℕ)
type_reader t = type_read deepest t

pub no_reader_at : (r : List ℕ) → type_reader (codes ")" ++ r) ≡ None
unfolding type_reader
no_reader_at r = no_type_at deepest r

pub no_reader_at_brace : (r : List ℕ) → type_reader (codes "}" ++ r) ≡ None
unfolding type_reader
no_reader_at_brace r = no_type_at_brace deepest r

-- the names of structs, enums and traits stand in a listing, and numbers in types are those of their fields
pub record AreNamed (items : ItemTable) : Type 0 where
  pub adts : (n : ℕ) → nat_lt n (length items.adts) ≡ true → is_adt_name (adt_name items n) ≡ true
  pub traits : (n : ℕ) → nat_lt n (length items.traits) ≡ true → is_name (trait_name items n) ≡ true
  pub numbers : (id : TyId) (ty : Ty) → type_at items id ≡ Some ty → HasNumbers ty
  pub types : length items.types ≤ deepest

module _ (items : ItemTable) (names : AreNamed items) where
  unmut_within : (k : ℕ) (id : TyId) → IsShown items k id → (d : ℕ) → k ≤ d → (e : ℕ) → (r : List ℕ) → closes r ≡ true
      → bind (strip (codes "mut ") (type_within items d id ++ r)) (type_read e) ≡ None
  unmut_within zero id h d le e r c = absurd (false≢true h)
  unmut_within (suc k) id h zero le e r c = absurd (omega arith)
  unmut_within (suc k) id h (suc d) le e r c =
      let (ty, is, own, parts) = shown_parts items k id h in
      ap (λ (o : Option Ty). bind (strip (codes "mut ") (found_text items (type_within items d) o ++ r)) (type_read e)) is
      ∙ no_mut items names.adts names.traits (type_within items d) (type_read e) (λ id. ⊤) (no_type_at e) (no_type_at_brace e) ty own r c

  within_reads : (k : ℕ) (id : TyId) → IsShown items k id → (d : ℕ) → k ≤ d → (r : List ℕ) → closes r ≡ true
      → type_read d (type_within items d id ++ r) ≡ Some (type_within items d id, r)
  within_reads zero id h d le r c = absurd (false≢true h)
  within_reads (suc k) id h zero le r c = absurd (omega arith)
  within_reads (suc k) id h (suc d) le r c =
      let (ty, is, own, parts) = shown_parts items k id h in
      let below : k ≤ d = omega arith in
      subst (λ (o : Option Ty). as_text (type_form (type_read d) (found_text items (type_within items d) o ++ r)) ≡ Some (found_text items (type_within items d) o, r)) (sym is)
      (ap as_text (form_reads items names.adts names.traits (type_within items d) (type_read d) (IsShown items k) (no_type_at d) (no_type_at_brace d)
      (λ id h r c. within_reads k id h d below r c) (λ id h r c. unmut_within k id h d below d r c)
      ty own (names.numbers id ty is) (every_of (in_rounds items.types (existing items) k) (types_in ty) parts) r c)
      ∙ ap (λ (w : List ℕ). Some (w, r)) (shape-text items (type_within items d) ty))

  -- a type that exists is read
  pub type_reads : (id : TyId) → ty_exists items id ≡ true → (r : List ℕ) → closes r ≡ true → type_reader (type_text items id ++ r) ≡ Some (type_text items id, r)
  unfolding type_reader type_text
  type_reads id h r c = within_reads (length items.types) id h deepest names.types r c

-- what is shown stays shown, and a type is written alike whatever depth is allowed beyond its own
list_all_more : {X : Type 0} (p q : X → Bool) → ((x : X) → p x ≡ true → q x ≡ true) → (xs : List X) → list_all p xs ≡ true → list_all q xs ≡ true
list_all_more p q up [] h = refl
list_all_more p q up (x ∷ xs) h = let (this, others) = and_parts (p x) _ h in and_from (q x) _ (up x this) (list_all_more p q up xs others)

module _ (items : ItemTable) where
  shown_from_parts : (k : ℕ) (id : TyId) (ty : Ty) → type_at items id ≡ Some ty → own_number_exists items ty ≡ true
      → list_all (in_rounds items.types (existing items) k) (types_in ty) ≡ true → IsShown items (suc k) id
  shown_from_parts k id ty is own parts =
      subst (λ (o : Option Ty). option_map_or (existing items (in_rounds items.types (existing items) k)) o false ≡ true) (sym is) (and_from (own_number_exists items ty) _ own parts)

  shown_more : (k : ℕ) (id : TyId) → IsShown items k id → IsShown items (suc k) id
  shown_more zero id h = absurd (false≢true h)
  shown_more (suc k) id h =
      let (ty, is, own, parts) = shown_parts items k id h in
      shown_from_parts (suc k) id ty is own (list_all_more (in_rounds items.types (existing items) k) (in_rounds items.types (existing items) (suc k)) (shown_more k) (types_in ty) parts)

  shape_same : (f g : TyId → List ℕ) (ty : Ty) → Every (λ id. f id ≡ g id) (types_in ty) → shape_of items f ty ≡ shape_of items g ty
  shape_same f g (Ty.Tuple parts) h = ap Row (map_same parts h)
    where
      map_same : (ids : List TyId) → Every (λ id. f id ≡ g id) ids → map f ids ≡ map g ids
      map_same [] h = refl
      map_same (id ∷ ids) h = λ i. h.0 i ∷ map_same ids h.1 i
  shape_same f g (Ty.Array element count) h = ap (λ (w : List ℕ). Count w (decimal count)) h.0
  shape_same f g (Ty.Boxed inside) h = ap InBox h.0
  shape_same f g (Ty.Shared to) h = ap (Refers false) h.0
  shape_same f g (Ty.Unique to) h = ap (Refers true) h.0
  shape_same f g _ h = refl

  pub every_more : {X : Type 0} (P Q : X → Type 0) → ((x : X) → P x → Q x) → (xs : List X) → Every P xs → Every Q xs
  every_more P Q up [] h = tt
  every_more P Q up (x ∷ xs) h = (up x h.0, every_more P Q up xs h.1)

  stable : (k : ℕ) (id : TyId) → IsShown items k id → (d e : ℕ) → k ≤ d → k ≤ e → type_within items d id ≡ type_within items e id
  stable zero id h d e a b = absurd (false≢true h)
  stable (suc k) id h zero e a b = absurd (omega arith)
  stable (suc k) id h (suc d) zero a b = absurd (omega arith)
  stable (suc k) id h (suc d) (suc e) a b =
      let (ty, is, own, parts) = shown_parts items k id h in
      let shown = every_of (in_rounds items.types (existing items) k) (types_in ty) parts in
      let within : k ≤ d = omega arith in
      let within_e : k ≤ e = omega arith in
      let same = every_more (IsShown items k) (λ id. type_within items d id ≡ type_within items e id) (λ id h. stable k id h d e within within_e) (types_in ty) shown in
      ap (found_text items (type_within items d)) is ∙ sym (shape-text items (type_within items d) ty)
      ∙ ap shape_text (shape_same (type_within items d) (type_within items e) ty same)
      ∙ shape-text items (type_within items e) ty ∙ sym (ap (found_text items (type_within items e)) is)

-- the shape of a type, from its text
pub shape_reader : List ℕ → Option Shape
shape_reader t = bind (type_form (type_read (deepest - 1)) t) (λ f. Some f.0)

-- what is known of a type that exists
pub record Known (items : ItemTable) (id : TyId) (ty : Ty) : Type 0 where
  pub is : type_at items id ≡ Some ty
  pub own : own_number_exists items ty ≡ true
  pub parts : Every (λ part. ty_exists items part ≡ true) (types_in ty)
  pub shape : shape_reader (type_text items id) ≡ Some (shape_of items (type_text items) ty)

pub known : (items : ItemTable) → AreNamed items → (id : TyId) → ty_exists items id ≡ true → (ty : Ty) × Known items id ty
unfolding type_text shape_reader
known items names id h = by (length items.types) refl h
  where
    by : (k : ℕ) → length items.types ≡ k → IsShown items k id → (ty : Ty) × Known items id ty
    by zero e h = absurd (false≢true h)
    by (suc k) e h =
        let (ty, is, own, parts) = shown_parts items k id h in
        let shown = every_of (in_rounds items.types (existing items) k) (types_in ty) parts in
        let low : k ≤ deepest - 1 = omega (arith, names.types) in
        let full : k ≤ deepest = omega arith in
        let exists = every_more items (IsShown items k) (λ part. ty_exists items part ≡ true) (λ part h. subst (λ m. IsShown items m part) (sym e) (shown_more items k part h)) (types_in ty) shown in
        let same = every_more items (IsShown items k) (λ part. type_within items (deepest - 1) part ≡ type_within items deepest part)
        (λ part h. stable items k part h (deepest - 1) deepest low full) (types_in ty) shown in
        let read = form_reads items names.adts names.traits (type_within items (deepest - 1)) (type_read (deepest - 1)) (IsShown items k) (no_type_at (deepest - 1)) (no_type_at_brace (deepest - 1))
        (λ id h r c. within_reads items names k id h (deepest - 1) low r c) (λ id h r c. unmut_within items names k id h (deepest - 1) low (deepest - 1) r c)
        ty own (names.numbers id ty is) shown [] refl in (
          ty,
          record {
            is = is;
            own = own;
            parts = exists;
            shape =
                ap (λ (w : List ℕ). shape_reader w) (ap (found_text items (type_within items (deepest - 1))) is ∙ sym (append-nil (form_text items (type_within items (deepest - 1)) ty)))
                ∙ ap (λ (o : FoundInText Shape). bind o (λ f. Some f.0)) read
                ∙ ap (λ (shape : Shape). Some shape) (shape_same items (type_within items (deepest - 1)) (type_within items deepest) ty same);
          },
        )

pub in_row_reads : {X Z : Type 0} (read : List ℕ → FoundInText Z) (text : X → List ℕ) (seen : X → Z) (Good : X → Type 0) (Ends : List ℕ → Type 0)
    → ((x : X) → Good x → (r : List ℕ) → Ends r → read (text x ++ r) ≡ Some (seen x, r)) → ((t : List ℕ) → Ends (codes ", " ++ t)) → ((t : List ℕ) → Ends (codes ")" ++ t))
    → ((t : List ℕ) → read (codes ")" ++ t) ≡ None) → (xs : List X) → Every Good xs → (r : List ℕ) → in_row read (in_parentheses (map text xs) ++ r) ≡ Some (map seen xs, r)
in_row_reads read text seen Good Ends one at_comma at_close none [] good r = ap closed_row (row_of_none read text seen Good Ends one at_comma (codes ")" ++ r) (none r))
in_row_reads read text seen Good Ends one at_comma at_close none (x ∷ xs) good r =
    let words : List (List ℕ) = map text (x ∷ xs) in
    ap (λ (t : List ℕ). closed_row (row read t)) (append_assoc (joined words) (codes ")") r)
    ∙ ap closed_row (row_reads read text seen Good Ends one at_comma x xs (codes ")" ++ r) good (at_close r) refl)

pub types_read : (items : ItemTable) → AreNamed items → (ids : List TyId) → Every (λ id. ty_exists items id ≡ true) ids → (r : List ℕ)
    → in_row type_reader (in_parentheses (map (type_text items) ids) ++ r) ≡ Some (map (type_text items) ids, r)
types_read items names ids good r =
    in_row_reads type_reader (type_text items) (type_text items) (λ id. ty_exists items id ≡ true) (λ r. closes r ≡ true) (type_reads items names)
    (λ t. refl) (λ t. refl) no_reader_at ids good r

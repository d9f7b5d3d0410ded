-- Types, read from the front of a text: what is found is the text of the type. How it begins decides what else is read.
use Rattle.std.specs.Prelude.{ℕ, zero, suc, if◌then◌else◌, List, [], ◌∷◌, ◌++◌, length, codes, Option, Some, None, slice_get}
use Rattle.std.specs.Fmt.{decimal}
use Rattle.mir_base.specs.declared.int_kind.IntKind.{IntKind}
use Rattle.mir_ty.specs.declared.ty.Ty.{Ty}
use Rattle.mir_ty.specs.ItemTable.{ItemTable}
use Rattle.cfg_graph.specs.WellFormed.NameFaults.{same_name, stands_in_names}
use Rattle.listing_parts.specs.Numbers.{adt_no, trait_no}
use Rattle.mir_ty.specs.declared.ty.TyId.{TyId}
use Rattle.listing_write.specs.Reading.Rows.{many, comma, row, closed_row}
use Rattle.listing_write.specs.Reading.Words.{FoundInText, bind, or_else, chosen, as_, said, strip, span, number}
use Rattle.listing_write.specs.Types.{form_text, tuple_text}
use Rattle.listing_parts.specs.declared.begin.TypeAround.{TypeAround}
use Rattle.listing_parts.specs.declared.begin.Begin.{Begin}

-- a number as it is written: a zero stands alone
abbrev pub plain_number : List ℕ → FoundInText ℕ
plain_number t = chosen (strip (codes "0") t) (λ r. Some (0, r)) (number t)

abbrev pub nothing_behind : {X : Type 0} → X × List ℕ → Option X
nothing_behind (x, []) = Some x
nothing_behind (x, b ∷ bs) = None

-- a whole text that is a number
abbrev pub whole_number : List ℕ → Option ℕ
whole_number t = bind (plain_number t) nothing_behind

-- the type that a word is
abbrev pub word_type : List ℕ → Option Ty
word_type w =
    if same_name w (codes "i32") then Some (Ty.Int IntKind.I32)
    else (if same_name w (codes "i64") then Some (Ty.Int IntKind.I64)
    else (if same_name w (codes "u32") then Some (Ty.Int IntKind.U32)
    else (if same_name w (codes "u64") then Some (Ty.Int IntKind.U64)
    else (if same_name w (codes "usize") then Some (Ty.Int IntKind.Usize)
    else (if same_name w (codes "bool") then Some Ty.Bool else None)))))

abbrev pub closure_type : List ℕ → Option Ty
closure_type t = bind (whole_number t) (λ n. Some (Ty.Closure n))

module _ (heads : ItemTable) where
  -- the struct or enum of a name
  abbrev pub adt_type : List ℕ → Option Ty
  adt_type w = bind (slice_get heads.adts (adt_no heads w)) (λ adt. Some (Ty.Adt (adt_no heads w)))

  -- a closure, or a struct or enum
  abbrev pub named_type : List ℕ → Option Ty
  named_type w = chosen (strip (codes "closure#") w) closure_type (adt_type w)

  -- a type that is one word
  abbrev pub type_of_word : List ℕ → Option Ty
  type_of_word w = or_else (word_type w) (named_type w)

-- behind `&`: `mut` and a blank, but not before a brace
abbrev pub unique_mark : List ℕ → Option (List ℕ)
unique_mark t = bind (strip (codes "mut ") t) (λ r. chosen (strip (codes "}") r) (λ s. None) (Some r))

abbrev pub reference_from : List ℕ → Option (List ℕ) → Begin × List ℕ
reference_from t None = (Begin.Around TypeAround.Shared, t)
reference_from t (Some r) = (Begin.Around TypeAround.Unique, r)

abbrev pub reference_begin : List ℕ → Begin × List ℕ
reference_begin t = reference_from t (unique_mark t)

-- a type that begins with a mark
abbrev pub marked_begin : List ℕ → FoundInText Begin
marked_begin t =
    or_else (said (codes "(") Begin.Row t)
    (or_else (said (codes "[") (Begin.Around TypeAround.Array) t)
    (or_else (said (codes "!") (Begin.Whole Ty.Never) t) (bind (strip (codes "&") t) (λ r. Some (reference_begin r)))))

module _ (heads : ItemTable) where
  -- behind `dyn`
  abbrev pub object_from : List ℕ × List ℕ → FoundInText Begin
  object_from n =
      bind (slice_get heads.traits (trait_no heads n.0)) (λ def. Some (Begin.Whole (Ty.Dyn (trait_no heads n.0)), n.1))

  abbrev pub object_begin : List ℕ → FoundInText Begin
  object_begin t = bind (strip (codes " ") t) (λ t. object_from (span stands_in_names t))

  -- a type that begins with a word
  abbrev pub worded_begin : List ℕ → List ℕ → FoundInText Begin
  worded_begin w r =
      if same_name w (codes "Box") then said (codes "<") (Begin.Around TypeAround.Box) r
      else (if same_name w (codes "dyn") then object_begin r
      else bind (type_of_word heads w) (λ ty. Some (Begin.Whole ty, r)))

  abbrev pub begin_from : List ℕ × List ℕ → List ℕ → FoundInText Begin
  begin_from ([], r) t = marked_begin t
  begin_from (b ∷ bs, r) t = worded_begin (b ∷ bs) r

  -- what a type begins with
  abbrev pub begin_read : List ℕ → FoundInText Begin
  begin_read t = begin_from (span stands_in_names t) t

abbrev pub array_end : List ℕ → FoundInText ℕ
array_end t = bind (strip (codes "; ") t) (λ t. bind (plain_number t) (λ n. said (codes "]") n.0 n.1))

-- behind the type in another: the length of an array, and else 0
abbrev pub around_end : TypeAround → List ℕ → FoundInText ℕ
around_end TypeAround.Box t = said (codes ">") 0 t
around_end TypeAround.Array t = array_end t
around_end TypeAround.Shared t = Some (0, t)
around_end TypeAround.Unique t = Some (0, t)

abbrev pub around_type : TypeAround → TyId → ℕ → Ty
around_type TypeAround.Box inside n = Ty.Boxed inside
around_type TypeAround.Array inside n = Ty.Array inside n
around_type TypeAround.Shared inside n = Ty.Shared inside
around_type TypeAround.Unique inside n = Ty.Unique inside

abbrev pub around_text : TypeAround → List ℕ → ℕ → List ℕ
around_text TypeAround.Box w n = codes "Box<" ++ w ++ codes ">"
around_text TypeAround.Array w n = codes "[" ++ w ++ codes "; " ++ decimal n ++ codes "]"
around_text TypeAround.Shared w n = codes "&" ++ w
around_text TypeAround.Unique w n = codes "&mut " ++ w

-- behind a row of types: one type has a comma behind it
abbrev pub row_end : {X : Type 0} → List X → List ℕ → Option (List ℕ)
row_end [] t = strip (codes ")") t
row_end (x ∷ []) t = strip (codes ",)") t
row_end (x ∷ y ∷ xs) t = strip (codes ")") t

abbrev pub tuple_type : List TyId → Ty
tuple_type [] = Ty.Unit
tuple_type (id ∷ ids) = Ty.Tuple (id ∷ ids)

-- types, where those in them are read so
module _ (inner : List ℕ → FoundInText (List ℕ)) where
  abbrev pub around_read : TypeAround → List ℕ → FoundInText (List ℕ)
  around_read around t = bind (inner t) (λ f. as_ (around_text around f.0) (around_end around f.1))

  abbrev pub tuple_from : List (List ℕ) × List ℕ → FoundInText (List ℕ)
  tuple_from q = bind (row_end q.0 q.1) (λ r. Some (tuple_text q.0, r))

  abbrev pub rest_read : ItemTable → Begin × List ℕ → FoundInText (List ℕ)
  rest_read heads (Begin.Whole ty, t) = Some (form_text heads (λ id. []) ty, t)
  rest_read heads (Begin.Around around, t) = around_read around t
  rest_read heads (Begin.Row, t) = tuple_from (row inner t)

-- a type with no more than so many types in one another
abbrev pub type_within : ItemTable → ℕ → List ℕ → FoundInText (List ℕ)
type_within heads zero t = None
type_within heads (suc depth) t = bind (begin_read heads t) (rest_read (type_within heads depth) heads)

-- a type: each type that another stands in has a byte
abbrev pub type_read : ItemTable → List ℕ → FoundInText (List ℕ)
type_read heads t = type_within heads (length t) t

-- types behind commas
abbrev pub more_types : ItemTable → List ℕ → List (List ℕ) × List ℕ
more_types heads t = many (comma (type_within heads (length t))) t

-- types with commas between them, behind the parenthesis that opens
abbrev pub types_behind : ItemTable → List ℕ → FoundInText (List (List ℕ))
types_behind heads t = closed_row (row (type_within heads (length t)) t)

-- types in parentheses
abbrev pub types_read : ItemTable → List ℕ → FoundInText (List (List ℕ))
types_read heads t = bind (strip (codes "(") t) (types_behind heads)

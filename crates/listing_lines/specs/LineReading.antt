-- Lines, read from the front of a text with their line feed: those of impls and closures, and of bodies, locals and
-- blocks. Each is read exactly as it is written; a line with a number in its place has the number that is due.
use Rattle.std.specs.Prelude.{ℕ, ◌&&◌, if◌then◌else◌, nat_eq, nat_lt, List, length, codes, Some, None, Option, slice_get}
use Rattle.std.specs.Str.{is_utf8}
use Rattle.mir_ty.specs.declared.def.ImplDef.{ImplDef}
use Rattle.mir_ty.specs.ItemTable.{ItemTable}
use Rattle.cfg_graph.specs.WellFormed.NameFaults.{stands_in_names}
use Rattle.cfg_graph.specs.declared.graph.Kind.{Kind}
use Rattle.listing_write.specs.Reading.Lines.{ended}
use Rattle.listing_write.specs.Reading.Rows.{many}
use Rattle.listing_write.specs.Reading.Words.{FoundInText, bind, or_else, as_, said, strip, span}
use Rattle.listing_parts.specs.Numbers.{adt_no, trait_no}
use Rattle.listing_parts.specs.TypeReading.{plain_number, type_read, types_read}

-- behind the number that is due
abbrev pub due_number : ℕ → List ℕ → Option (List ℕ)
due_number n t = bind (plain_number t) (λ k. if nat_eq k.0 n then Some k.1 else None)

-- a name: one or more bytes, in UTF-8
abbrev pub named : List ℕ × List ℕ → FoundInText (List ℕ)
named q = if nat_lt 0 (length q.0) && is_utf8 q.0 then Some q else None

abbrev pub name_read : List ℕ → FoundInText (List ℕ)
name_read t = named (span stands_in_names t)

-- `body B NAME P`
abbrev pub params_from : List ℕ × List ℕ → FoundInText (List ℕ × ℕ)
params_from name = bind (strip (codes " ") name.1) (λ t. as_ (λ params. (name.0, params)) (plain_number t))

abbrev pub body_read : ℕ → List ℕ → FoundInText (List ℕ × ℕ)
body_read n t =
    bind (strip (codes "body ") t) (λ t. bind (due_number n t) (λ t. bind (strip (codes " ") t) (λ t.
    bind (name_read t) (λ name. ended (params_from name)))))

-- `local K T`, before its type
abbrev pub local_head : ℕ → List ℕ → Option (List ℕ)
local_head n t = bind (strip (codes "local ") t) (λ t. bind (due_number n t) (strip (codes " ")))

abbrev pub local_read : ItemTable → ℕ → List ℕ → FoundInText (List ℕ)
local_read heads n t = bind (local_head n t) (λ t. ended (type_read heads t))

-- `block K KIND rank R`
abbrev pub kind_read : List ℕ → FoundInText Kind
kind_read t =
    or_else (said (codes "plain") Kind.Plain t)
    (or_else (said (codes "turn") Kind.Turn t) (said (codes "cleanup") Kind.Cleanup t))

abbrev pub rank_from : Kind × List ℕ → FoundInText (Kind × ℕ)
rank_from kind = bind (strip (codes " rank ") kind.1) (λ t. as_ (λ rank. (kind.0, rank)) (plain_number t))

abbrev pub block_read : ℕ → List ℕ → FoundInText (Kind × ℕ)
block_read n t =
    bind (strip (codes "block ") t) (λ t. bind (due_number n t) (λ t. bind (strip (codes " ") t) (λ t.
    bind (kind_read t) (λ kind. ended (rank_from kind)))))

-- `closure K (T, T) B`
abbrev pub closure_head : ℕ → List ℕ → Option (List ℕ)
closure_head n t = bind (strip (codes "closure ") t) (λ t. bind (due_number n t) (strip (codes " ")))

-- a blank, and the number that ends the line
abbrev pub last_number : List ℕ → FoundInText ℕ
last_number t = bind (strip (codes " ") t) (λ t. ended (plain_number t))

abbrev pub captures_from : List (List ℕ) × List ℕ → FoundInText (List (List ℕ) × ℕ)
captures_from q = as_ (λ body. (q.0, body)) (last_number q.1)

abbrev pub closure_read : ItemTable → ℕ → List ℕ → FoundInText (List (List ℕ) × ℕ)
closure_read heads n t = bind (closure_head n t) (λ t. bind (types_read heads t) captures_from)

-- `impl TRAIT for NAME B B`
abbrev pub blank_number : List ℕ → FoundInText ℕ
blank_number t = bind (strip (codes " ") t) plain_number

abbrev pub bodies_read : ℕ → ℕ → List ℕ → FoundInText ImplDef
bodies_read trait_no adt t =
    ended (Some (record { trait_no = trait_no; adt = adt; bodies = (many blank_number t).0 }, (many blank_number t).1))

module _ (heads : ItemTable) where
  -- the number of the struct or enum, or of the trait, whose name stands in front
  abbrev pub adt_called : List ℕ × List ℕ → FoundInText ℕ
  adt_called q = bind (slice_get heads.adts (adt_no heads q.0)) (λ adt. Some (adt_no heads q.0, q.1))

  abbrev pub known_adt_read : List ℕ → FoundInText ℕ
  known_adt_read t = adt_called (span stands_in_names t)

  abbrev pub trait_called : List ℕ × List ℕ → FoundInText ℕ
  trait_called q = bind (slice_get heads.traits (trait_no heads q.0)) (λ def. Some (trait_no heads q.0, q.1))

  abbrev pub known_trait_read : List ℕ → FoundInText ℕ
  known_trait_read t = trait_called (span stands_in_names t)

  abbrev pub for_adt : ℕ × List ℕ → FoundInText (ℕ × ℕ)
  for_adt trait = bind (strip (codes " for ") trait.1) (λ t. as_ (λ adt. (trait.0, adt)) (known_adt_read t))

  abbrev pub impl_head : List ℕ → FoundInText (ℕ × ℕ)
  impl_head t = bind (strip (codes "impl ") t) (λ t. bind (known_trait_read t) for_adt)

  abbrev pub impl_read : List ℕ → FoundInText ImplDef
  impl_read t = bind (impl_head t) (λ q. bodies_read q.0.0 q.0.1 q.1)

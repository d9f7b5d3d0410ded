-- What the law of lines says: each line that may stand in its place is found by its reader, and nothing but a line in
-- front.
use Rattle.std.specs.Prelude.{◌≡◌, ℕ, ◌<◌, true, List, ◌++◌, map, length, codes, Some, All}
use Rattle.std.specs.Fmt.{decimal}
use Rattle.std.specs.Str.{is_utf8}
use Rattle.mir_ty.specs.declared.def.ImplDef.{ImplDef}
use Rattle.mir_ty.specs.ItemTable.{ItemTable}
use Rattle.mir_ty.specs.Named.{adt_name}
use Rattle.cfg_graph.specs.declared.graph.Kind.{Kind}
use Rattle.cfg_graph.specs.WellFormed.NameFaults.{is_name}
use Rattle.listing_write.specs.Fields.{Fits}
use Rattle.listing_write.specs.Lines.{Tree, tree_text, line_text, ImplLine, ClosureLine, BodyLine, LocalLine, BlockLine}
use Rattle.listing_write.specs.Lists.{in_parentheses, line}
use Rattle.listing_write.specs.Types.{trait_name}
use Rattle.listing_parts.specs.Numbers.{adt_no, trait_no}
use Rattle.listing_parts.specs.TypesFound.{Stands, EachStands}
use Rattle.listing_lines.specs.LineReading.{body_read, local_read, block_read, closure_read, impl_read}

abbrev pub BodiesAreRead : Type 0
BodiesAreRead =
    (n : ℕ) (name : List ℕ) (params : ℕ) (behind : List ℕ) →
    Fits n → is_name name ≡ true → is_utf8 name ≡ true → Fits params →
    body_read n (line (line_text (BodyLine n name params)) ++ behind) ≡ Some ((name, params), behind)

abbrev pub BodiesAreSound : Type 0
BodiesAreSound =
    (n : ℕ) (text name : List ℕ) (params : ℕ) (behind : List ℕ) →
    body_read n text ≡ Some ((name, params), behind) →
    (text ≡ line (line_text (BodyLine n name params)) ++ behind) × (is_name name ≡ true) × (is_utf8 name ≡ true)

abbrev pub LocalsAreRead : Type 0
LocalsAreRead =
    (heads : ItemTable) (n : ℕ) (type : Tree) (behind : List ℕ) → Fits n → Stands heads type →
    local_read heads n (line (line_text (LocalLine n type)) ++ behind) ≡ Some (tree_text type, behind)

abbrev pub LocalsAreSound : Type 0
LocalsAreSound =
    (heads : ItemTable) (n : ℕ) (text word behind : List ℕ) → local_read heads n text ≡ Some (word, behind) →
    text ≡ line (codes "local " ++ decimal n ++ codes " " ++ word) ++ behind

abbrev pub BlocksAreRead : Type 0
BlocksAreRead =
    (n : ℕ) (kind : Kind) (rank : ℕ) (behind : List ℕ) → Fits n → Fits rank →
    block_read n (line (line_text (BlockLine n kind rank)) ++ behind) ≡ Some ((kind, rank), behind)

abbrev pub BlocksAreSound : Type 0
BlocksAreSound =
    (n : ℕ) (text : List ℕ) (kind : Kind) (rank : ℕ) (behind : List ℕ) →
    block_read n text ≡ Some ((kind, rank), behind) →
    text ≡ line (line_text (BlockLine n kind rank)) ++ behind

abbrev pub ClosuresAreRead : Type 0
ClosuresAreRead =
    (heads : ItemTable) (n : ℕ) (captures : List Tree) (body : ℕ) (behind : List ℕ) →
    Fits n → EachStands heads captures → Fits body →
    closure_read heads n (line (line_text (ClosureLine n captures body)) ++ behind)
    ≡ Some ((map tree_text captures, body), behind)

abbrev pub ClosuresAreSound : Type 0
ClosuresAreSound =
    (heads : ItemTable) (n : ℕ) (text : List ℕ) (captures : List (List ℕ)) (body : ℕ) (behind : List ℕ) →
    closure_read heads n text ≡ Some ((captures, body), behind) →
    text
    ≡ line (codes "closure " ++ decimal n ++ codes " " ++ in_parentheses captures ++ codes " " ++ decimal body)
    ++ behind

abbrev pub ImplsAreRead : Type 0
ImplsAreRead =
    (heads : ItemTable) (trait adt : List ℕ) (bodies : List ℕ) (behind : List ℕ) →
    is_name trait ≡ true → is_name adt ≡ true →
    trait_no heads trait < length heads.traits → adt_no heads adt < length heads.adts → All Fits bodies →
    impl_read heads (line (line_text (ImplLine trait adt bodies)) ++ behind)
    ≡ Some (record { trait_no = trait_no heads trait; adt = adt_no heads adt; bodies = bodies }, behind)

abbrev pub ImplsAreSound : Type 0
ImplsAreSound =
    (heads : ItemTable) (text : List ℕ) (def : ImplDef) (behind : List ℕ) → impl_read heads text ≡ Some (def, behind) →
    text ≡ line (line_text (ImplLine (trait_name heads def.trait_no) (adt_name heads def.adt) def.bodies)) ++ behind

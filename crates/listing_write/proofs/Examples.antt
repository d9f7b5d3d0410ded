-- Listings that were written by hand, closed by computation: the short one, and lines of each form.
use Rattle.std.proofs.Common.{◌≡◌, ℕ, refl, true, false, List, [], ◌∷◌, ◌++◌, codes, pos, negsuc, Some, None}
use Rattle.std.specs.Fmt.{digits}
use Rattle.mir_base.specs.declared.int_kind.IntKind.{IntKind}
use Rattle.mir_base.specs.declared.operator.Cmp.{Cmp}
use Rattle.mir_base.specs.declared.operator.Math.{Math}
use Rattle.mir_base.specs.declared.trace.Why.{Why}
use Rattle.mir_ty.specs.declared.ty.Ty.{Ty}
use Rattle.mir_ty.specs.declared.ty.TyId.{TyId}
use Rattle.mir_ty.specs.declared.adt.Variant.{Variant}
use Rattle.mir_ty.specs.declared.def.Sig.{Sig}
use Rattle.mir_ty.specs.ItemTable.{ItemTable}
use Rattle.cfg_graph.specs.declared.place.Step.{Step}
use Rattle.cfg_graph.specs.declared.place.Place.{Place}
use Rattle.cfg_graph.specs.declared.place.Operand.{Operand}
use Rattle.cfg_graph.specs.declared.statement.Stmt.{Stmt}
use Rattle.cfg_graph.specs.declared.terminator.Term.{Term}
use Rattle.cfg_graph.specs.declared.terminator.Unwind.{Unwind}
use Rattle.cfg_graph.specs.declared.graph.Kind.{Kind}
use Rattle.cfg_graph.specs.declared.graph.Block.{Block}
use Rattle.cfg_graph.specs.declared.graph.Graph.{Graph}
use Rattle.listing_write.specs.Items.{items_text}
use Rattle.listing_write.specs.Lists.{line}
use Rattle.listing_write.specs.Listing.{listing, block_text}
use Rattle.listing_write.specs.Parts.{term_text}
use Rattle.listing_write.specs.Types.{type_text}

abbrev id : ℕ → TyId
id n = record { 0 = n }

abbrev var : ℕ → Place
var n = record { local = n; steps = [] }

abbrev sig : List ℕ → List TyId → ℕ → Sig
sig name params answer = record { name = name; params = params; result = id answer }

abbrev variant : List ℕ → List TyId → Variant
variant name fields = record { name = name; fields = fields; field_names = [] }

-- 0 i32, D, (), &mut D | 4 bool, usize, Box<D>, dyn Show | 8 Box<dyn Show>, &dyn Show, (D, i32), [D; 2] | 12 !, closure#0, (D,), E
abbrev items : ItemTable
items = record {
  types =
      Ty.Int IntKind.I32 ∷ Ty.Adt 0 ∷ Ty.Unit ∷ Ty.Unique (id 1) ∷ Ty.Bool ∷ Ty.Int IntKind.Usize ∷ Ty.Boxed (id 1) ∷ Ty.Dyn 0 ∷ Ty.Boxed (id 7) ∷ Ty.Shared (id 7)
      ∷ Ty.Tuple (id 1 ∷ id 0 ∷ []) ∷ Ty.Array (id 1) 2 ∷ Ty.Never ∷ Ty.Closure 0 ∷ Ty.Tuple (id 1 ∷ []) ∷ Ty.Adt 1 ∷ [];
  adts =
      record { name = codes "D"; is_enum = false; copy = false; drop_body = Some 0; variants = variant (codes "D") (id 0 ∷ []) ∷ [] }
      ∷ record { name = codes "E"; is_enum = true; copy = true; drop_body = None; variants = variant (codes "A") [] ∷ variant (codes "B") (id 0 ∷ id 4 ∷ []) ∷ [] }
      ∷ record { name = codes "N"; is_enum = true; copy = false; drop_body = None; variants = [] }
      ∷ [];
  traits = record { name = codes "Show"; methods = sig (codes "show") (id 9 ∷ []) 2 ∷ sig (codes "by") (id 9 ∷ id 0 ∷ []) 14 ∷ [] }
      ∷ record { name = codes "Bare"; methods = [] } ∷ [];
  impls = record { trait_no = 0; adt = 1; bodies = 2 ∷ 3 ∷ [] } ∷ record { trait_no = 1; adt = 0; bodies = [] } ∷ [];
  closures = record { captures = id 6 ∷ id 8 ∷ []; body = 4 } ∷ [];
  bodies = sig (codes "D::drop") (id 3 ∷ []) 2 ∷ sig (codes "main") [] 2 ∷ [];
}

-- structs, enums, traits, impls and closures
each_item : items_text items ≡
    line (codes "struct D (i32) drop 0")
    ++ line (codes "enum E { A (), B (i32, bool) } copy")
    ++ line (codes "enum N { }")
    ++ line (codes "trait Show { show (&dyn Show) (), by (&dyn Show, i32) (D,) }")
    ++ line (codes "trait Bare { }")
    ++ line (codes "impl Show for E 2 3")
    ++ line (codes "impl Bare for D")
    ++ line (codes "closure 0 (Box<D>, Box<dyn Show>) 4")
unfolding type_text digits
each_item = refl

-- types that are not in these
other_types : type_text items (id 10) ++ codes " | " ++ type_text items (id 11) ++ codes " | " ++ type_text items (id 12) ++ codes " | " ++ type_text items (id 13) ++ codes " | "
    ++ type_text items (id 3) ++ codes " | " ++ type_text items (id 5)
    ≡ codes "(D, i32) | [D; 2] | ! | closure#0 | &mut D | usize"
unfolding type_text digits
other_types = refl

abbrev seven : Operand
seven = Operand.Number (pos 7) IntKind.I32

abbrev block : Kind → ℕ → List Stmt → Term → Block
block kind rank stmts term = record { kind = kind; rank = rank; stmts = stmts; term = term }

-- each statement
each_statement : block_text items 3 (block Kind.Cleanup 12
    (Stmt.Put (var 0) Operand.Unit
    ∷ Stmt.Put (record { local = 1; steps = Step.Part 3 ∷ Step.Field 2 0 ∷ Step.Inside ∷ Step.Index 5 ∷ [] }) (Operand.Moved (var 2))
    ∷ Stmt.Compare (var 1) Cmp.Eq (Operand.Copied (var 2)) seven
    ∷ Stmt.Compare (var 1) Cmp.Ge seven (Operand.Number (negsuc 6) IntKind.I64)
    ∷ Stmt.Not (var 1) (Operand.Truth true)
    ∷ Stmt.Tuple (var 1) (seven ∷ Operand.Truth false ∷ [])
    ∷ Stmt.Array (var 1) []
    ∷ Stmt.Make (var 1) 1 1 (seven ∷ [])
    ∷ Stmt.Close (var 1) 0 []
    ∷ Stmt.NewBox (var 1) seven
    ∷ Stmt.Unsize (var 1) 0 (Operand.Moved (var 2))
    ∷ Stmt.Borrow (var 1) false (var 2)
    ∷ Stmt.Borrow (var 1) true (var 2)
    ∷ Stmt.Touch (var 1)
    ∷ Stmt.Print seven
    ∷ Stmt.Forget (Operand.Moved (var 1))
    ∷ Stmt.Free (var 1) ∷ []) Term.Resume)
    ≡ line (codes "block 3 cleanup rank 12")
    ++ (line (codes "_0 = const ()")
    ++ (line (codes "_1.3.2:0.*[_5] = move _2")
    ++ (line (codes "_1 = eq copy _2 const 7_i32")
    ++ (line (codes "_1 = ge const 7_i32 const -7_i64")
    ++ (line (codes "_1 = not const true")
    ++ (line (codes "_1 = tuple (const 7_i32, const false)")
    ++ (line (codes "_1 = array ()")
    ++ (line (codes "_1 = make E 1 (const 7_i32)")
    ++ (line (codes "_1 = close 0 ()")
    ++ (line (codes "_1 = box const 7_i32")
    ++ (line (codes "_1 = unsize Show move _2")
    ++ (line (codes "_1 = & _2")
    ++ (line (codes "_1 = &mut _2")
    ++ (line (codes "touch _1")
    ++ (line (codes "print const 7_i32")
    ++ (line (codes "forget move _1")
    ++ line (codes "free _1")))))))))))))))))
    ++ line (codes "resume")
unfolding digits
each_statement = refl

-- each terminator, one behind the other
abbrev terms : List Term → List ℕ
terms [] = []
terms (term ∷ rest) = line (term_text items term) ++ terms rest

each_terminator : terms
    (Term.Goto 4
    ∷ Term.If (Operand.Copied (var 2)) 1 12
    ∷ Term.Case (var 3) 1 2 3
    ∷ Term.Math (var 1) Math.Add seven seven 3 (Unwind.Block 13)
    ∷ Term.Math (var 1) Math.Rem seven seven 3 Unwind.Abort
    ∷ Term.Negate (var 1) seven 4 Unwind.Resume
    ∷ Term.Bounds seven 2 5 Unwind.Resume
    ∷ Term.Call (var 0) 1 [] 9 Unwind.Resume
    ∷ Term.Virtual (var 0) 0 1 (Operand.Copied (var 6) ∷ seven ∷ []) 7 Unwind.Resume
    ∷ Term.Ask (var 1) 6 Unwind.Abort
    ∷ Term.DropAt (var 5) 8 Unwind.Abort
    ∷ Term.Panic Why.Explicit Unwind.Resume
    ∷ Term.Panic Why.Match (Unwind.Block 4)
    ∷ Term.Return ∷ Term.Resume ∷ [])
    ≡ line (codes "goto 4")
    ++ (line (codes "if copy _2 1 12")
    ++ (line (codes "case _3 1 2 3")
    ++ (line (codes "_1 = add const 7_i32 const 7_i32 then 3 unwind 13")
    ++ (line (codes "_1 = rem const 7_i32 const 7_i32 then 3 unwind abort")
    ++ (line (codes "_1 = neg const 7_i32 then 4 unwind resume")
    ++ (line (codes "bounds const 7_i32 2 then 5 unwind resume")
    ++ (line (codes "_0 = call 1 () then 9 unwind resume")
    ++ (line (codes "_0 = virtual Show 1 (copy _6, const 7_i32) then 7 unwind resume")
    ++ (line (codes "_1 = ask then 6 unwind abort")
    ++ (line (codes "drop _5 then 8 unwind abort")
    ++ (line (codes "panic explicit unwind resume")
    ++ (line (codes "panic match unwind 4")
    ++ (line (codes "return")
    ++ line (codes "resume"))))))))))))))
unfolding digits
each_terminator = refl

-- the short listing
abbrev last : Block
last = block Kind.Plain 0 (Stmt.Put (var 0) Operand.Unit ∷ []) Term.Return

abbrev short : Graph
short = record {
  items = record {
    types = Ty.Int IntKind.I32 ∷ Ty.Adt 0 ∷ Ty.Unit ∷ Ty.Unique (id 1) ∷ [];
    adts = record { name = codes "D"; is_enum = false; copy = false; drop_body = Some 0; variants = variant (codes "D") (id 0 ∷ []) ∷ [] } ∷ [];
    traits = [];
    impls = [];
    closures = [];
    bodies = sig (codes "D::drop") (id 3 ∷ []) 2 ∷ sig (codes "main") [] 2 ∷ [];
  };
  bodies =
      record { params = 1; locals = id 2 ∷ id 3 ∷ []; blocks = last ∷ [] }
      ∷ record {
        params = 0;
        locals = id 2 ∷ id 1 ∷ [];
        blocks = block Kind.Plain 1 (Stmt.Make (var 1) 0 0 (seven ∷ []) ∷ []) (Term.DropAt (var 1) 1 Unwind.Resume) ∷ last ∷ [];
      }
      ∷ [];
}

short_listing : listing short ≡
    line (codes "mirdrop 1")
    ++ (line (codes "struct D (i32) drop 0")
    ++ (line (codes "body 0 D::drop 1")
    ++ (line (codes "local 0 ()")
    ++ (line (codes "local 1 &mut D")
    ++ (line (codes "block 0 plain rank 0")
    ++ (line (codes "_0 = const ()")
    ++ (line (codes "return")
    ++ (line (codes "body 1 main 0")
    ++ (line (codes "local 0 ()")
    ++ (line (codes "local 1 D")
    ++ (line (codes "block 0 plain rank 1")
    ++ (line (codes "_1 = make D 0 (const 7_i32)")
    ++ (line (codes "drop _1 then 1 unwind resume")
    ++ (line (codes "block 1 plain rank 0")
    ++ (line (codes "_0 = const ()")
    ++ (line (codes "return")
    ++ line (codes "end")))))))))))))))))
unfolding type_text digits
short_listing = refl

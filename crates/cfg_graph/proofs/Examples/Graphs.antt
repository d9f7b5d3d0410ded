-- The graphs of the examples: the one of the short listing in `docs/GRAPHS.md`, and a larger one whose `main` varies.
use Rattle.std.specs.Prelude.{ℕ, pos, true, false, List, [], ◌∷◌, codes, Some, None}
use Rattle.mir_base.specs.declared.int_kind.IntKind.{IntKind}
use Rattle.mir_ty.specs.declared.ty.Ty.{Ty}
use Rattle.mir_ty.specs.declared.ty.TyId.{TyId}
use Rattle.mir_ty.specs.declared.adt.Adt.{Adt}
use Rattle.mir_ty.specs.declared.def.Sig.{Sig}
use Rattle.mir_ty.specs.declared.def.TraitDef.{TraitDef}
use Rattle.mir_ty.specs.declared.def.ImplDef.{ImplDef}
use Rattle.mir_ty.specs.declared.def.ClosureDef.{ClosureDef}
use Rattle.mir_ty.specs.ItemTable.{ItemTable}
use Rattle.cfg_graph.specs.declared.place.Step.{Step}
use Rattle.cfg_graph.specs.declared.place.Place.{Place}
use Rattle.cfg_graph.specs.declared.place.Operand.{Operand}
use Rattle.cfg_graph.specs.declared.statement.Stmt.{Stmt}
use Rattle.cfg_graph.specs.declared.terminator.Term.{Term}
use Rattle.cfg_graph.specs.declared.terminator.Unwind.{Unwind}
use Rattle.cfg_graph.specs.declared.graph.Kind.{Kind}
use Rattle.cfg_graph.specs.declared.graph.Block.{Block}
use Rattle.cfg_graph.specs.declared.graph.Body.{Body}
use Rattle.cfg_graph.specs.declared.graph.Graph.{Graph}
use Rattle.cfg_graph.specs.declared.graph.GraphFault.{GraphFault}
use Rattle.cfg_graph.specs.WellFormed.Faults.{nowhere}

abbrev pub id : ℕ → TyId
id n = record { 0 = n }

abbrev pub var : ℕ → Place
var local = record { local = local; steps = [] }

abbrev pub along : ℕ → List Step → Place
along local steps = record { local = local; steps = steps }

abbrev pub seven : Operand
seven = Operand.Number (pos 7) IntKind.I32

-- `_0 = const ()`
abbrev pub give_unit : Stmt
give_unit = Stmt.Put (var 0) Operand.Unit

abbrev pub block : Kind → ℕ → List Stmt → Term → Block
block kind rank stmts term = record { kind = kind; rank = rank; stmts = stmts; term = term }

abbrev pub plain : ℕ → List Stmt → Term → Block
plain rank stmts term = block Kind.Plain rank stmts term

-- gives `()` and returns
abbrev pub last : Block
last = plain 0 (give_unit ∷ []) Term.Return

abbrev pub body : ℕ → List TyId → List Block → Body
body params locals blocks = record { params = params; locals = locals; blocks = blocks }

abbrev pub head : List ℕ → List TyId → ℕ → Sig
head name params answer = record { name = name; params = params; result = id answer }

-- struct D (i32) drop 0
abbrev pub d : Adt
d = record {
  name = codes "D";
  is_enum = false;
  copy = false;
  drop_body = Some 0;
  variants = record { name = codes "D"; fields = id 0 ∷ []; field_names = codes "0" ∷ [] } ∷ [];
}

-- i32, D, (), &mut D
abbrev first_types : List Ty
first_types = Ty.Int IntKind.I32 ∷ Ty.Adt 0 ∷ Ty.Unit ∷ Ty.Unique (id 1) ∷ []

-- body 0 D::drop 1 | local 0 () | local 1 &mut D | block 0 plain rank 0 | _0 = const () | return
abbrev pub drop_of_d : Body
drop_of_d = body 1 (id 2 ∷ id 3 ∷ []) (last ∷ [])

abbrev pub make_d : ℕ → Stmt
make_d local = Stmt.Make (var local) 0 0 (seven ∷ [])

-- the short listing
abbrev pub short : Graph
short = record {
  items = record {
    types = first_types;
    adts = d ∷ [];
    traits = [];
    impls = [];
    closures = [];
    bodies = head (codes "D::drop") (id 3 ∷ []) 2 ∷ head (codes "main") [] 2 ∷ [];
  };
  bodies = drop_of_d ∷ body 0 (id 2 ∷ id 1 ∷ []) (plain 1 (make_d 1 ∷ []) (Term.DropAt (var 1) 1 Unwind.Resume) ∷
      last ∷ []) ∷ [];
}

-- the types of the larger graph
abbrev pub types : List Ty
types =
    Ty.Int IntKind.I32 ∷ Ty.Adt 0 ∷ Ty.Unit ∷ Ty.Unique (id 1)
    -- 4 bool, usize, Box<D>, dyn Show
    ∷ Ty.Bool ∷ Ty.Int IntKind.Usize ∷ Ty.Boxed (id 1) ∷ Ty.Dyn 0
    -- 8 Box<dyn Show>, &dyn Show, (D, D), [D; 2]
    ∷ Ty.Boxed (id 7) ∷ Ty.Shared (id 7) ∷ Ty.Tuple (id 1 ∷ id 1 ∷ []) ∷ Ty.Array (id 1) 2
    -- 12 E, !, closure#0, &D
    ∷ Ty.Adt 1 ∷ Ty.Never ∷ Ty.Closure 0 ∷ Ty.Shared (id 1)
    -- 16 Box<E>, u32, and a tuple of a struct that has no line
    ∷ Ty.Boxed (id 12) ∷ Ty.Int IntKind.U32 ∷ Ty.Tuple (id 0 ∷ id 19 ∷ []) ∷ Ty.Adt 9 ∷ []

-- enum E { A (D), B () }
abbrev pub e : Adt
e = record {
  name = codes "E";
  is_enum = true;
  copy = false;
  drop_body = None;
  variants = record { name = codes "A"; fields = id 1 ∷ []; field_names = codes "0" ∷ [] }
      ∷ record { name = codes "B"; fields = []; field_names = [] } ∷ [];
}

-- trait Show { show (&dyn Show) () }
abbrev pub show : TraitDef
show = record { name = codes "Show"; methods = head (codes "show") (id 9 ∷ []) 2 ∷ [] }

-- impl Show for D 2
abbrev pub show_d : ImplDef
show_d = record { trait_no = 0; adt = 0; bodies = 2 ∷ [] }

-- closure 0 (i32) 3
abbrev pub closure : ClosureDef
closure = record { captures = id 0 ∷ []; body = 3 }

abbrev pub heads : List Sig
heads =
    head (codes "D::drop") (id 3 ∷ []) 2 ∷ head (codes "main") [] 2 ∷ head (codes "D::show") (id 15 ∷ []) 2
    ∷ head (codes "main::closure#1") (id 14 ∷ []) 0 ∷ head (codes "stop") [] 13 ∷ []

abbrev pub items : ItemTable
items = record {
  types = types;
  adts = d ∷ e ∷ [];
  traits = show ∷ [];
  impls = show_d ∷ [];
  closures = closure ∷ [];
  bodies = heads;
}

abbrev show_of_d : Body
show_of_d = body 1 (id 2 ∷ id 15 ∷ []) (last ∷ [])

abbrev closure_body : Body
closure_body = body 1 (id 0 ∷ id 14 ∷ [])
    (plain 0 (Stmt.Put (var 0) (Operand.Copied (along 1 (Step.Part 0 ∷ []))) ∷ []) Term.Return ∷ [])

-- a body that never returns
abbrev stop : Body
stop = body 0 (id 13 ∷ []) (plain 0 [] (Term.Goto 1) ∷ block Kind.Turn 1 [] (Term.Goto 1) ∷ [])

-- the larger graph with these items, and with these locals and blocks of `main`
abbrev pub graph : ItemTable → List TyId → List Block → Graph
graph its locals blocks =
    record { items = its; bodies = drop_of_d ∷ body 0 locals blocks ∷ show_of_d ∷ closure_body ∷ stop ∷ [] }

abbrev pub with_main : List TyId → List Block → Graph
with_main locals blocks = graph items locals blocks

abbrev pub with_items : ItemTable → Graph
with_items its = graph its (id 2 ∷ []) (last ∷ [])

-- one block before the last, with rank 1
abbrev pub with_block : List TyId → List Stmt → Term → Graph
with_block locals stmts term = with_main locals (plain 1 stmts term ∷ last ∷ [])

-- a fault of a body, and of an item
abbrev pub fault : (number body block line : ℕ) → GraphFault
fault number body block line = record { number = number; body = body; block = block; line = line }

abbrev pub item_fault : (number line : ℕ) → GraphFault
item_fault number line = fault number nowhere nowhere line

-- Words in which the examples write graphs and items.
use Rattle.std.specs.Prelude.{ℕ, List, [], ◌∷◌, Option, false, codes}
use Rattle.cfg_graph.specs.declared.graph.Block.{Block}
use Rattle.cfg_graph.specs.declared.graph.Body.{Body}
use Rattle.cfg_graph.specs.declared.graph.Kind.{Kind}
use Rattle.cfg_graph.specs.declared.place.Operand.{Operand}
use Rattle.cfg_graph.specs.declared.place.Place.{Place}
use Rattle.cfg_graph.specs.declared.place.Step.{Step}
use Rattle.cfg_graph.specs.declared.statement.Stmt.{Stmt}
use Rattle.cfg_graph.specs.declared.terminator.Term.{Term}
use Rattle.mir_ty.specs.declared.adt.Adt.{Adt}
use Rattle.mir_ty.specs.declared.adt.Variant.{Variant}
use Rattle.mir_ty.specs.declared.def.Sig.{Sig}
use Rattle.mir_ty.specs.declared.ty.TyId.{TyId}

abbrev pub block : Kind → ℕ → List Stmt → Term → Block
block kind rank stmts term = record { kind = kind; rank = rank; stmts = stmts; term = term }

abbrev pub body : ℕ → List TyId → List Block → Body
body params locals blocks = record { params = params; locals = locals; blocks = blocks }

-- a local, and a place in one
abbrev pub at : ℕ → Place
at local = record { local = local; steps = [] }

abbrev pub within : ℕ → List Step → Place
within local steps = record { local = local; steps = steps }

abbrev pub ty_no : ℕ → TyId
ty_no k = record { 0 = k }

abbrev pub i32 : TyId
i32 = ty_no 0

abbrev pub unit : TyId
unit = ty_no 1

-- a body with one parameter that gives `()`
abbrev pub gives_unit : TyId → Body
gives_unit param = body 1 (unit ∷ param ∷ []) (block Kind.Plain 0 (Stmt.Put (at 0) Operand.Unit ∷ []) Term.Return ∷ [])

abbrev field_names : {A : Type 0} → List A → List (List ℕ)
field_names [] = []
field_names (a ∷ rest) = codes "f" ∷ field_names rest

abbrev pub variant : List ℕ → List TyId → Variant
variant name fields = record { name = name; fields = fields; field_names = field_names fields }

abbrev pub struct : List ℕ → List TyId → Option ℕ → Adt
struct name fields drop_body =
    record { name = name; is_enum = false; variants = variant name fields ∷ []; copy = false; drop_body = drop_body }

abbrev pub head : List ℕ → List TyId → TyId → Sig
head name params answer = record { name = name; params = params; result = answer }

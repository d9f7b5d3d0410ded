-- Lines of a body without a fault have none where the body has flags behind its locals; nor have stores into the flags, and
-- what drops, frees or tests a place of a type.
use Rattle.std.proofs.Common.{◌≡◌, ◌∙◌, ◌∷◌, [], ◌++◌, ◌+◌, ◌<◌, ◌&&◌, ℕ, zero, suc, nat_lt, Bool, true, false, not, List, Option, Some, None, is_some, length, replicate, slice_get, refl, ap, subst, arith}
use Rattle.std.specs.Prelude.{option_and_then}
use Rattle.std.specs.List.{list_all}
use Rattle.std.specs.Option.{option_map_or}
use Rattle.std.specs.Cmp.{first_so, second_so}
use Rattle.std.specs.Cmp.Derive.{both_true}
use Rattle.std.proofs.lemmas.Bool.{false≢true, ltb-true, lt-ltb}
use Rattle.std.proofs.lemmas.List.{length-append, length-replicate}
use Rattle.std.proofs.lemmas.Option.{none-some, same_Some}
use Rattle.mir_base.specs.declared.int_kind.IntKind.{IntKind}
use Rattle.mir_ty.specs.declared.adt.Variant.{Variant}
use Rattle.mir_ty.specs.declared.ty.Ty.{Ty}
use Rattle.mir_ty.specs.declared.ty.TyId.{TyId}
use Rattle.mir_ty.specs.Facts.{needs_drop, drop_rule, in_rounds}
use Rattle.mir_ty.specs.ItemTable.{ItemTable, type_at}
use Rattle.mir_ty.specs.Parts.{variants_of}
use Rattle.store_model.specs.Places.Place.{is_enum}
use Rattle.store_model.specs.Places.TypeForms.{is_int, is_bool, is_dyn, adt_of, box_content}
use Rattle.cfg_graph.specs.declared.graph.Block.{Block}
use Rattle.cfg_graph.specs.declared.graph.Body.{Body}
use Rattle.cfg_graph.specs.declared.place.Operand.{Operand}
use Rattle.cfg_graph.specs.declared.place.Place.{Place}
use Rattle.cfg_graph.specs.declared.statement.Stmt.{Stmt}
use Rattle.cfg_graph.specs.declared.terminator.Term.{Term}
use Rattle.cfg_graph.specs.Places.{index_locals, place_id, ty_of_place}
use Rattle.cfg_graph.specs.Uses.{places_of_stmt, places_of_term}
use Rattle.cfg_graph.specs.WellFormed.LineFaults.{stmt_numbers_exist, term_numbers_exist, locals_exist, stmt_has_row, stmt_tests, stmt_faults}
use Rattle.cfg_graph.specs.WellFormed.Typing.{is_typed_place, stmt_is_typed, term_is_typed, enum_variant}
use Rattle.cfg_graph.proofs.NoFaults.{broken-holds}
use Rattle.drop_elaborate.specs.Ladder.{local_place}
use Rattle.drop_bodies.proofs.LadderKept.{DropFine, FreeFine, FlagFine, CaseFine}
use Rattle.drop_bodies.proofs.BodyFaults.{all-hold}
use Rattle.drop_bodies.proofs.MoreLocals.{stmt-same, term-same, row-same}
use Rattle.drop_bodies.proofs.PlansFine.{At}

-- a body with these locals; the faults of a line ask for no more of a body
abbrev pub of_locals : List TyId → Body
of_locals locals = record { params = 0; locals = locals; blocks = [] }

module _ (items : ItemTable) (bodies : ℕ) (locals : List TyId) (flag_ty : TyId) (count : ℕ)
    (flag_is : type_at items flag_ty ≡ Some Ty.Bool) where
  abbrev pub wider : List TyId
  wider = locals ++ replicate count flag_ty

  abbrev pub StmtFine : Stmt → Type 0
  StmtFine stmt = stmt_faults items bodies (of_locals wider) stmt ≡ []

  abbrev pub AllFine : List Stmt → Type 0
  AllFine [] = Unit {0}
  AllFine (stmt ∷ stmts) = StmtFine stmt × AllFine stmts

  -- whatever blocks it leads to
  pub record TermFine (term : Term) : Type 0 where
    pub numbers : term_numbers_exist items bodies term ≡ true
    pub exist : list_all (locals_exist items bodies (of_locals wider)) (places_of_term term) ≡ true
    pub typed : term_is_typed items wider term ≡ true

  abbrev pub Fine : Block → Type 0
  Fine block = AllFine block.stmts × TermFine block.term

  pub all-fine : (a b : List Stmt) → AllFine a → AllFine b → AllFine (a ++ b)
  all-fine [] b f g = g
  all-fine (stmt ∷ a) b f g = (f.0, all-fine a b f.1 g)

  pub each-fine : (stmts : List Stmt) (k : ℕ) (stmt : Stmt) → AllFine stmts → slice_get stmts k ≡ Some stmt → StmtFine stmt
  each-fine [] k stmt f at = absurd (none-some stmt at)
  each-fine (first ∷ stmts) zero stmt f at = subst StmtFine (same_Some first stmt at) f.0
  each-fine (first ∷ stmts) (suc k) stmt f at = each-fine stmts k stmt f.1 at

  -- ---- lines of the body itself

  wider-by : length wider ≡ length locals + count
  wider-by =
      let a = length-append locals (replicate count flag_ty) in
      let b = length-replicate count flag_ty in omega (a, b, arith)

  local-wider : (l : ℕ) → nat_lt l (length locals) ≡ true → nat_lt l (length wider) ≡ true
  local-wider l h =
      let a = ltb-true l (length locals) h in
      let w = wider-by in
      let less : l < length wider = omega (a, w, arith) in lt-ltb l (length wider) less

  all-wider : (ls : List ℕ) → list_all (λ l. nat_lt l (length locals)) ls ≡ true →
      list_all (λ l. nat_lt l (length wider)) ls ≡ true
  all-wider [] h = refl
  all-wider (l ∷ ls) h =
      both_true (local-wider l (first_so (nat_lt l (length locals)) (list_all (λ l. nat_lt l (length locals)) ls) h))
      (all-wider ls (second_so (nat_lt l (length locals)) (list_all (λ l. nat_lt l (length locals)) ls) h))

  abbrev within : Place → Bool
  within place = list_all (λ l. nat_lt l (length locals)) (place.local ∷ index_locals place.steps)

  exist-wider : (places : List Place) → list_all within places ≡ true →
      list_all (locals_exist items bodies (of_locals wider)) places ≡ true
  exist-wider [] h = refl
  exist-wider (place ∷ places) h =
      both_true (all-wider (place.local ∷ index_locals place.steps) (first_so (within place) (list_all within places) h))
      (exist-wider places (second_so (within place) (list_all within places) h))

  pub stmt-fine : (stmt : Stmt) → stmt_faults items bodies (of_locals locals) stmt ≡ [] → StmtFine stmt
  stmt-fine stmt none =
      let tests = stmt_tests items bodies (of_locals locals) stmt in
      let exist = broken-holds tests none 1 (2, list_all within (places_of_stmt stmt)) refl in
      let numbers = broken-holds tests none 0 (1, stmt_numbers_exist items bodies stmt) refl in
      let typed = stmt-same items locals (replicate count flag_ty) stmt exist
      ∙ broken-holds tests none 2 (3, stmt_is_typed items locals stmt) refl in
      let row = row-same items locals (replicate count flag_ty) bodies stmt exist
      ∙ broken-holds tests none 3 (6, stmt_has_row items bodies locals stmt) refl in
      all-hold (stmt_tests items bodies (of_locals wider) stmt)
      (numbers, (exist-wider (places_of_stmt stmt) exist, (typed, (row, tt))))

  pub term-fine : (term : Term) → term_numbers_exist items bodies term ≡ true →
      list_all (locals_exist items bodies (of_locals locals)) (places_of_term term) ≡ true →
      term_is_typed items locals term ≡ true → TermFine term
  term-fine term numbers exist typed = record {
    numbers = numbers;
    exist = exist-wider (places_of_term term) exist;
    typed = term-same items locals (replicate count flag_ty) term exist ∙ typed;
  }

  -- ---- flags

  -- the local of a flag
  pub record IsFlag (flag : ℕ) : Type 0 where
    pub number : ℕ
    pub less : number < count
    pub is : flag ≡ length locals + number

  replicated : (n k : ℕ) → k < n → slice_get (replicate n flag_ty) k ≡ Some flag_ty
  replicated zero k less = absurd (let never : ⊥ = omega (less, arith) in never)
  replicated (suc n) zero less = refl
  replicated (suc n) (suc k) less = replicated n k (omega (less, arith))

  behind : (xs ys : List TyId) (k : ℕ) → slice_get (xs ++ ys) (length xs + k) ≡ slice_get ys k
  behind [] ys k = (let z : 0 + k ≡ k = omega arith in ap (slice_get ys) z)
  behind (x ∷ xs) ys k =
      (let z : suc (length xs) + k ≡ suc (length xs + k) = omega arith in ap (slice_get (x ∷ (xs ++ ys))) z) ∙ behind xs ys k

  flag-local : (flag : ℕ) → IsFlag flag → slice_get wider flag ≡ Some flag_ty
  flag-local flag f =
      ap (slice_get wider) f.is ∙ behind locals (replicate count flag_ty) f.number
      ∙ replicated count f.number f.less

  flag-bool : (flag : ℕ) → IsFlag flag → ty_of_place items wider (local_place flag) ≡ Some Ty.Bool
  flag-bool flag f =
      ap (λ (o : Option TyId). option_and_then (type_at items) (option_and_then (λ id. Some id) o)) (flag-local flag f) ∙ flag_is

  flag-there : (flag : ℕ) → IsFlag flag → nat_lt flag (length wider) ≡ true
  flag-there flag f =
      let w = wider-by in
      let i = f.is in
      let l = f.less in
      let less : flag < length wider = omega (w, i, l, arith) in lt-ltb flag (length wider) less

  -- a store of `true` or `false` into a flag
  pub store-fine : (flag : ℕ) (present : Bool) → IsFlag flag → StmtFine (Stmt.Put (local_place flag) (Operand.Truth present))
  store-fine flag present f =
      let there = flag-there flag f in
      let bool = flag-bool flag f in
      let id : place_id items wider (local_place flag) ≡ Some flag_ty =
      ap (λ (o : Option TyId). option_and_then (λ id. Some id) o) (flag-local flag f) in
      let typed = by (ty_of_place items wider (local_place flag)) (place_id items wider (local_place flag)) bool id in
      all-hold (stmt_tests items bodies (of_locals wider) (Stmt.Put (local_place flag) (Operand.Truth present)))
      (refl, (ap (λ b. (b && true) && true) there, (typed, (refl, tt))))
    where
      by : (t : Option Ty) (o : Option TyId) → t ≡ Some Ty.Bool → o ≡ Some flag_ty →
          ((((is_some t && true) && true) && (not (is_dyn t) && true)) && ((not (is_dyn (Some Ty.Bool)) && true) && true)
          && option_map_or (λ id. is_bool (type_at items id)) o false) ≡ true
      by t o e d =
          ap (λ (t : Option Ty). ((((is_some t && true) && true) && (not (is_dyn t) && true)) && ((not (is_dyn (Some Ty.Bool)) && true) && true)
          && option_map_or (λ id. is_bool (type_at items id)) o false)) e
          ∙ ap (λ (o : Option TyId). option_map_or (λ id. is_bool (type_at items id)) o false) d ∙ ap is_bool flag_is

  pub flags-fine : (flag : ℕ) → IsFlag flag → FlagFine Fine flag
  flags-fine flag f kind rank there to = (
    tt,
    record {
      numbers = refl;
      exist = ap (λ b. (b && true) && true) (flag-there flag f);
      typed = by (ty_of_place items wider (local_place flag)) (flag-bool flag f);
    },
  )
    where
      by : (t : Option Ty) → t ≡ Some Ty.Bool →
          ((((is_some t && true) && true) && true && ((not (is_dyn t) && true) && true)) && is_bool t) ≡ true
      by t e = ap (λ (t : Option Ty). ((((is_some t && true) && true) && true && ((not (is_dyn t) && true) && true)) && is_bool t)) e

  -- ---- places

  -- the local and the indices of a place are there, and the indices are of the type `usize`
  pub record Good (local : ℕ) (indices : List ℕ) : Type 0 where
    pub exist : list_all (λ l. nat_lt l (length locals)) (local ∷ indices) ≡ true
    pub are_indices : list_all (λ l. is_int IntKind.Usize (option_and_then (type_at items) (slice_get locals l))) indices ≡ true

  abbrev Here : Place → TyId → Type 0
  Here place id = At items locals Good place id

  -- what needs dropping has a type
  has-type : (id : TyId) → needs_drop items id ≡ true → is_some (type_at items id) ≡ true
  has-type id n = by (length items.types) n
    where
      by : (rounds : ℕ) → in_rounds items.types (drop_rule items.adts items.closures) rounds id ≡ true →
          is_some (slice_get items.types id.0) ≡ true
      by zero h = absurd (false≢true h)
      by (suc rounds) h = there (slice_get items.types id.0) h
        where
          there : (o : Option Ty) →
              option_map_or (drop_rule items.adts items.closures (in_rounds items.types (drop_rule items.adts items.closures) rounds)) o false ≡ true →
              is_some o ≡ true
          there None h = absurd (false≢true h)
          there (Some ty) h = refl

  place-typed : (place : Place) (id : TyId) → Here place id → is_some (type_at items id) ≡ true →
      is_typed_place items locals place ≡ true
  place-typed place id at h =
      both_true (ap (λ (o : Option TyId). is_some (option_and_then (type_at items) o)) at.typed ∙ h) at.good.are_indices

  pub drops-fine : (place : Place) (id : TyId) → Here place id → needs_drop items id ≡ true → DropFine Fine place
  drops-fine place id at n kind rank to unwind = (
    tt,
    term-fine (Term.DropAt place to unwind) refl
        (both_true at.good.exist refl)
        (both_true (both_true (both_true (both_true (place-typed place id at (has-type id n)) refl) refl) refl) refl),
  )

  pub frees-fine : (place : Place) (id inside : TyId) → Here place id → type_at items id ≡ Some (Ty.Boxed inside) →
      FreeFine Fine place
  frees-fine place id inside at e kind rank to = (
    (
      stmt-fine (Stmt.Free place)
          (all-hold (stmt_tests items bodies (of_locals locals) (Stmt.Free place)) (
            refl,
            (
              both_true at.good.exist refl,
              (
                both_true
                    (both_true (both_true (both_true (place-typed place id at (ap is_some e)) refl) refl) refl)
                    (ap (λ (t : Option Ty). is_some (box_content t))
                    (ap (λ (o : Option TyId). option_and_then (type_at items) o) at.typed ∙ e)),
                (refl, tt),
              ),
            ),
          )),
      tt,
    ),
    record { numbers = refl; exist = refl; typed = refl },
  )

  pub cases-fine : (place : Place) (id : TyId) (n v : ℕ) (variant : Variant) → Here place id →
      type_at items id ≡ Some (Ty.Adt n) → is_enum items (Ty.Adt n) ≡ true →
      slice_get (variants_of (slice_get items.adts n)) v ≡ Some variant → CaseFine Fine place v
  cases-fine place id n v variant at e enum there kind rank inside other = (
    tt,
    term-fine (Term.Case place v inside other) refl
        (both_true at.good.exist refl)
        (both_true (both_true (both_true (both_true (place-typed place id at (ap is_some e)) refl) refl) refl)
        (ap (λ (t : Option Ty). option_map_or (λ adt. enum_variant items adt v) (adt_of t) false)
        (ap (λ (o : Option TyId). option_and_then (type_at items) o) at.typed ∙ e)
        ∙ both_true enum (by (slice_get items.adts n) there))),
  )
    where
      by : (o : Option _) → slice_get (variants_of o) v ≡ Some variant →
          is_some (option_and_then (λ def. slice_get def.variants v) o) ≡ true
      by None e = absurd (none-some variant e)
      by (Some adt) e = ap is_some e

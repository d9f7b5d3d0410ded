-- A local with a reference, and the statement of a body that makes it: their types, and what the reference names.
use Rattle.std.proofs.Common.{◌≡◌, ℕ, ◌+◌, ◌<◌, ◌==◌, ◌||◌, not, cond, Bool, true, false, [], ◌∷◌, flat_map, length, Option, Some, None, if◌then◌else◌, slice_get, refl, ap, sym, ◌∙◌, subst, arith}
use Rattle.std.specs.Prelude.{find, option_and_then}
use Rattle.std.specs.List.{range_with_len}
use Rattle.std.specs.Option.{option_map_or}
use Rattle.std.specs.Cmp.{second_so}
use Rattle.std.proofs.lemmas.Bool.{false≢true}
use Rattle.std.proofs.lemmas.Bool.Decides.{Decides-eqb}
use Rattle.std.proofs.lemmas.List.FromFn.{get_or-range_with_len, length-range_with_len}
use Rattle.std.proofs.lemmas.Option.{none-some, slice_get_within, slice_get-get_or}
use Rattle.mir_ty.specs.declared.ty.Ty.{Ty}
use Rattle.mir_ty.specs.declared.ty.TyId.{TyId}
use Rattle.mir_ty.specs.ItemTable.{ItemTable, type_at}
use Rattle.cfg_graph.specs.declared.graph.Block.{Block}
use Rattle.cfg_graph.specs.declared.graph.Body.{Body}
use Rattle.cfg_graph.specs.declared.place.Place as graph
use Rattle.cfg_graph.specs.declared.statement.Stmt.{Stmt}
use Rattle.cfg_graph.specs.NamedPlaces.{same_place, reference_made, references_made, named_by}
use Rattle.cfg_graph.specs.Places.{named, place_id, ty_of_place}
use Rattle.cfg_graph.specs.Ready.{holds_reference_well, local_well, references_in_locals, references_stand_alone}
use Rattle.cfg_graph.specs.Uses.{operands_of_stmt, stored_by_stmt, places_of_stmt}
use Rattle.cfg_graph.specs.WellFormed.Typing.{places_have_types, stmt_has_types, stmt_is_typed}
use Rattle.store_model.specs.Concrete.Location.{named_by as type_named_by}
use Rattle.store_model.specs.Places.Place.{ToContent, Place, whole_local, is_reference, content_of, ty_along}
use Rattle.store_model.specs.Places.TypeForms.{same_id, referent}
use Rattle.drop_elaborate.proofs.Counted.{found-in}
use Rattle.drop_elaborate.proofs.LinesTyped.{is-alone}
use Rattle.drop_elaborate.proofs.OperandTypes.{same-ty, some-so}
use Rattle.drop_elaborate.proofs.StandAlone.{all-at, place-is, step-free}

module _ (items : ItemTable) (alone : references_stand_alone items ≡ true) (body : Body)
    (well : references_in_locals items body ≡ true)
    (typed : (n line : ℕ) (block : Block) (stmt : Stmt) → slice_get body.blocks n ≡ Some block →
    slice_get block.stmts line ≡ Some stmt → stmt_is_typed items body.locals stmt ≡ true) where
  -- a local with a reference holds it well
  pub local-holds : (k : ℕ) (id : TyId) → slice_get body.locals k ≡ Some id → is_reference (type_at items id) ≡ true →
      holds_reference_well items body k ≡ true
  local-holds k id e r =
      or-second (not (is_reference (option_and_then (type_at items) (slice_get body.locals k))))
      (holds_reference_well items body k)
      (ap not (ap (λ o. is_reference (option_and_then (type_at items) o)) e ∙ r))
      (all-at (local_well items body) (range_with_len 0 (length body.locals)) k k well
      (in-range (length body.locals) (slice_get_within body.locals k id e)))
    where
      or-second : (a b : Bool) → a ≡ false → (a || b) ≡ true → b ≡ true
      or-second false b n h = h
      or-second true b n h = absurd (false≢true (sym n))

      in-range : (n : ℕ) → k < n → slice_get (range_with_len 0 n) k ≡ Some k
      in-range n l =
          slice_get-get_or (range_with_len 0 n) k 0 (subst (λ m. k < m) (sym (length-range_with_len 0 n)) l)
          ∙ ap Some (get_or-range_with_len 0 n k 0 l ∙ (let z : 0 + k ≡ k = omega arith in z))

  -- ---- the types of a reference that is made

  -- what a reference names, by its type
  referent-is : (unique : Bool) (o : Option Ty) (to : TyId) → referent unique o ≡ Some to →
      (ty : Ty) × (o ≡ Some ty) × (is_reference (Some ty) ≡ true) × (content_of ty ≡ Some to)
      × (type_named_by (Some ty) ≡ Some to)
  referent-is false None to e = absurd (none-some to e)
  referent-is true None to e = absurd (none-some to e)
  referent-is false (Some (Ty.Shared t)) to e = (Ty.Shared t, refl, refl, e, e)
  referent-is true (Some (Ty.Unique t)) to e = (Ty.Unique t, refl, refl, e, e)
  referent-is false (Some other) to e = absurd (none-some to e)
  referent-is true (Some other) to e = absurd (none-some to e)

  pub record BorrowTyped (to of : graph.Place) : Type 0 where
    pub id : TyId
    pub target : TyId
    pub ty : Ty
    pub to_is : place_id items body.locals to ≡ Some id
    pub of_is : place_id items body.locals of ≡ Some target
    pub ty_is : type_at items id ≡ Some ty
    pub reference : is_reference (type_at items id) ≡ true
    pub names : content_of ty ≡ Some target
    pub free : is_reference (type_at items target) ≡ false
    pub whole : (named to).steps ≡ []
    pub local_is : slice_get body.locals to.local ≡ Some id

  pub place-of : (place : graph.Place) (id : TyId) → place_id items body.locals place ≡ Some id →
      is_reference (type_at items id) ≡ true → ((named place).steps ≡ []) × (slice_get body.locals place.local ≡ Some
      id)
  place-of place id e r =
      let nothing = is-alone items alone (λ n k. slice_get body.locals k) 0 (named place) id
      (place-is items alone (λ n k. slice_get body.locals k) 0 (named place) id e) r in (
        nothing,
        at-local (slice_get body.locals place.local) (ap (λ steps. option_and_then (ty_along items steps)
            (slice_get body.locals place.local)) (sym nothing) ∙ e),
      )
    where
      at-local : (o : Option TyId) → option_and_then (ty_along items []) o ≡ Some id → o ≡ Some id
      at-local None h = absurd (none-some id h)
      at-local (Some x) h = h

  pub borrow-typed : (to of : graph.Place) (unique : Bool) →
      stmt_is_typed items body.locals (Stmt.Borrow to unique of) ≡ true → BorrowTyped to of
  borrow-typed to of unique h =
      let t = second_so (places_have_types items body.locals (stored_by_stmt (Stmt.Borrow to unique of))
      (operands_of_stmt (Stmt.Borrow to unique of)) (places_of_stmt (Stmt.Borrow to unique of)))
      (stmt_has_types items body.locals (Stmt.Borrow to unique of)) h in
      let o = some-so (λ id. option_map_or (same_id id) (referent unique (ty_of_place items body.locals to)) false)
      (place_id items body.locals of) t in
      let r = some-so (same_id o.0) (referent unique (ty_of_place items body.locals to)) o.2 in
      let same : o.0 ≡ r.0 = same-ty o.0 r.0 r.2 in
      let k = referent-is unique (ty_of_place items body.locals to) r.0 r.1 in
      let i = some-id (place_id items body.locals to) k.0 k.1 in
      let reference : is_reference (type_at items i.0) ≡ true = ap is_reference i.2 ∙ k.2 in
      let p = place-of to i.0 i.1 reference in
      let names : content_of k.0 ≡ Some o.0 = k.3 ∙ ap Some (sym same) in record {
        id = i.0;
        target = o.0;
        ty = k.0;
        to_is = i.1;
        of_is = o.1;
        ty_is = i.2;
        reference = reference;
        names = names;
        free = step-free items alone ToContent k.0 i.0 o.0 i.2 names;
        whole = p.0;
        local_is = p.1;
      }
    where
      some-id : (o : Option TyId) (ty : Ty) → option_and_then (type_at items) o ≡ Some ty →
          (id : TyId) × (o ≡ Some id) × (type_at items id ≡ Some ty)
      some-id None ty e = absurd (none-some ty e)
      some-id (Some id) ty e = (id, refl, e)

  -- ---- the statement that makes it

  pub record Making (k : ℕ) (place : Place) : Type 0 where
    pub n : ℕ
    pub line : ℕ
    pub block : Block
    pub to : graph.Place
    pub of : graph.Place
    pub unique : Bool
    pub there : slice_get body.blocks n ≡ Some block
    pub here : slice_get block.stmts line ≡ Some (Stmt.Borrow to unique of)
    pub local : to.local ≡ k
    pub names : named of ≡ place

  pub making : (k : ℕ) (place : Place) → named_by k (references_made body) ≡ Some place → Making k place
  making k place e = by (find is_it (references_made body)) refl e
    where
      is_it : (ℕ × Place) → Bool
      is_it one = one.0 == k

      in-stmt : (n line : ℕ) (block : Block) (stmt : Stmt) (one : ℕ × Place) → slice_get body.blocks n ≡ Some block →
          slice_get block.stmts line ≡ Some stmt → find is_it (reference_made stmt) ≡ Some one → one.1 ≡ place →
          Making k place
      in-stmt n line block (Stmt.Borrow to unique of) one b s f p =
          of-it (same_place (named to) (whole_local to.local)) f
        where
          of-it : (w : Bool) → find is_it (if w then (to.local, named of) ∷ [] else []) ≡ Some one → Making k place
          of-it false f = absurd (none-some one f)
          of-it true f = so (to.local == k) refl f
            where
              so : (c : Bool) → (to.local == k) ≡ c → cond c (Some (to.local, named of)) None ≡ Some one →
                  Making k place
              so false ec f = absurd (none-some one f)
              so true ec f = record {
                n = n;
                line = line;
                block = block;
                to = to;
                of = of;
                unique = unique;
                there = b;
                here = s;
                local = (Decides-eqb to.local k).0 ec;
                names = ap (λ (x : ℕ × Place). x.1) (let z : Some (to.local, named of) ≡ Some one = f in
                    let y : (to.local, named of) ≡ one = cc in y) ∙ p;
              }
      in-stmt n line block other one b s f p = absurd (none-some one f)

      by : (o : Option (ℕ × Place)) → find is_it (references_made body) ≡ o →
          option_map_or (λ (one : ℕ × Place). Some one.1) o None ≡ Some place → Making k place
      by None f p = absurd (none-some place p)
      by (Some one) f p =
          let b = found-in is_it (λ (block : Block). flat_map reference_made block.stmts) body.blocks one f in
          let s = found-in is_it reference_made b.x.stmts one b.found in
          in-stmt b.at s.at b.x s.x one b.there s.there s.found
          (let z : Some one.1 ≡ Some place = p in let y : one.1 ≡ place = cc in y)
      -- ---- how often a local is stored into, and how often a reference is made there

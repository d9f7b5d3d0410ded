-- What a block of a lowered body does: where it copies or stores a value of type `!`, no use behind it is bad, and the block
-- leads to the one that returns.
use Rattle.std.proofs.Common.{◌≡◌, inl, inr, ℕ, suc, ◌==◌, ◌&&◌, ◌||◌, not, Bool, true, false, List, [], ◌∷◌, ◌++◌, map, Option, Some, None, slice_get, if◌then◌else◌, refl, sym, ap, subst, ◌∙◌}
use Rattle.std.specs.Prelude.{option_and_then, unwrap_or, flat_map}
use Rattle.std.specs.List.{list_any, list_all}
use Rattle.std.specs.Option.{option_map_or, option_or}
use Rattle.std.specs.Cmp.{first_so, second_so}
use Rattle.std.proofs.lemmas.Bool.{false≢true, eqb-true}
use Rattle.std.proofs.lemmas.Option.{none-some, same_Some}
use Rattle.std.proofs.lemmas.List.{append_assoc}
use Rattle.std.proofs.lemmas.List.Folds.{list_any-append}
use Rattle.mir_base.specs.declared.int_kind.IntKind.{IntKind}
use Rattle.mir_ty.specs.declared.ty.Ty.{Ty}
use Rattle.mir_ty.specs.declared.ty.TyId.{TyId}
use Rattle.mir_ty.specs.ItemTable.{ItemTable, type_at}
use Rattle.store_model.specs.Places.TypeForms.{is_never, is_bool, is_int, are_compared, same_id, tuple_parts, box_content, referent, is_adt, is_closure, is_dyn_of}
use Rattle.store_model.specs.Places.Place as plain
use Rattle.cfg_graph.specs.declared.graph.Body.{Body}
use Rattle.cfg_graph.specs.declared.place.Operand.{Operand}
use Rattle.cfg_graph.specs.declared.place.Place.{Place}
use Rattle.cfg_graph.specs.declared.place.Step.{Step}
use Rattle.cfg_graph.specs.declared.statement.Stmt.{Stmt}
use Rattle.cfg_graph.specs.declared.terminator.Term.{Term}
use Rattle.cfg_graph.specs.Places.{named, named_step, place_id, ty_of_place, ty_of_operand}
use Rattle.cfg_graph.specs.Uses.{PlaceUse, Copies, Moves, Borrows, Touches, Tests, Stores, Drops, Frees, operand_uses, stmt_uses, term_uses}
use Rattle.cfg_graph.specs.WellFormed.Typing.{stmt_is_typed, stmt_has_types, term_is_typed, term_has_types, operand_is, are_elements, operands_are}
use Rattle.cfg_graph.specs.Moves.BadUses.{BadUse, may_not_store}
use Rattle.cfg_graph.specs.Moves.Gone.{PathAction, counts, is_at_or_above, are_first, is_param, last_left, is_gone_after, is_whole_after, leaves_gone}
use Rattle.move_errors.specs.Reaches.{rule_of, is_bad, first_bad}
use Rattle.lower_laws.specs.Meets.{ends_runs, before_bad}
use Rattle.lower_laws.proofs.Lines.{at_line, stmt_actions}
use Rattle.lower_laws.proofs.Performing.{before-append, some-rest}
use Rattle.lower_rules.specs.Build.{LoweringFrame}
use Rattle.lower_rules.proofs.Stops.{CopiesNone, AllCopyNone, StmtCopies, TermCopies, IsNever, IsOwn, Behind, BlockStops}

pub untrue : false ≡ true → ⊥
untrue e = let never : false ≡ true = e in cc

-- a type that passes a test that `!` does not pass is not `!`
never_is : (o : Option Ty) → is_never o ≡ true → o ≡ Some Ty.Never
never_is (Some Ty.Never) h = refl
never_is None h = absurd (untrue h)
never_is (Some other) h = absurd (untrue h)

pub made : (o : Option Ty) (test : Option Ty → Bool) → test (Some Ty.Never) ≡ false → test o ≡ true → is_never o ≡ false
made o test none passes = by (is_never o) refl
  where
    by : (b : Bool) → is_never o ≡ b → is_never o ≡ false
    by true e = absurd (untrue (sym none ∙ ap test (sym (never_is o e)) ∙ passes))
    by false e = e

module _ (items : ItemTable) (body : Body) where
  abbrev pub ends : PathAction → Bool
  ends = ends_runs items body

  abbrev pub ends_any : List PathAction → Bool
  ends_any acts = list_any ends acts

  -- ---- what actions come to, after earlier ones
  -- a use among them is bad, and no value of type `!` is copied or stored before it; or none is bad, and none is copied
  -- or stored; or none is bad, and something else is so
  pub data Comes (stop : Type 0) (earlier acts : List PathAction) : Type 0 where
    meets : (bad : BadUse) → first_bad items body earlier acts ≡ Some bad → ends_any (before_bad items body earlier acts) ≡ false → Comes stop earlier acts
    clear : first_bad items body earlier acts ≡ None → ends_any acts ≡ false → Comes stop earlier acts
    stops : first_bad items body earlier acts ≡ None → stop → Comes stop earlier acts

  -- of actions of which none copies or stores such a value
  none_before : (earlier acts : List PathAction) → ends_any acts ≡ false → ends_any (before_bad items body earlier acts) ≡ false
  none_before earlier [] h = refl
  none_before earlier (a ∷ acts) h = by (is_bad items body earlier a a.how) (ends a) refl h (none_before (earlier ++ a ∷ []) acts)
    where
      by : (b c : Bool) → ends a ≡ c → (c || ends_any acts) ≡ false → (ends_any acts ≡ false → ends_any (before_bad items body (earlier ++ a ∷ []) acts) ≡ false) →
          ends_any (if b then [] else a ∷ before_bad items body (earlier ++ a ∷ []) acts) ≡ false
      by true c e h later = refl
      by false true e h later = absurd (false≢true (sym h))
      by false false e h later = ap (λ (c : Bool). c || ends_any (before_bad items body (earlier ++ a ∷ []) acts)) e ∙ later h

  pub calm : {stop : Type 0} (earlier acts : List PathAction) → ends_any acts ≡ false → Comes stop earlier acts
  calm {stop} earlier acts h = by (first_bad items body earlier acts) refl
    where
      by : (o : Option BadUse) → first_bad items body earlier acts ≡ o → Comes stop earlier acts
      by None e = clear e h
      by (Some bad) e = meets bad e (none_before earlier acts h)

  -- what is bad among the first ones is bad among all
  pub bad_first : (earlier xs ys : List PathAction) (bad : BadUse) → first_bad items body earlier xs ≡ Some bad → (first_bad items body earlier (xs ++ ys) ≡ Some bad) × (before_bad items body earlier (xs ++ ys) ≡ before_bad items body earlier xs)
  bad_first earlier [] ys bad h = absurd (none-some bad h)
  bad_first earlier (a ∷ xs) ys bad h = by (is_bad items body earlier a a.how) (bad_first (earlier ++ a ∷ []) xs ys bad) h
    where
      by : (b : Bool) → (first_bad items body (earlier ++ a ∷ []) xs ≡ Some bad → (first_bad items body (earlier ++ a ∷ []) (xs ++ ys) ≡ Some bad) × (before_bad items body (earlier ++ a ∷ []) (xs ++ ys) ≡ before_bad items body (earlier ++ a ∷ []) xs))
          → (if b then Some (record { rule = rule_of a.how; action = a }) else first_bad items body (earlier ++ a ∷ []) xs) ≡ Some bad
          → ((if b then Some (record { rule = rule_of a.how; action = a }) else first_bad items body (earlier ++ a ∷ []) (xs ++ ys)) ≡ Some bad)
          × ((if b then [] else a ∷ before_bad items body (earlier ++ a ∷ []) (xs ++ ys)) ≡ (if b then [] else a ∷ before_bad items body (earlier ++ a ∷ []) xs))
      by true later h = (h, refl)
      by false later h = let it = later h in (it.0, ap (λ (z : List PathAction). a ∷ z) it.1)

  none_both : (xs ys : List PathAction) → ends_any xs ≡ false → ends_any ys ≡ false → ends_any (xs ++ ys) ≡ false
  none_both xs ys h k = list_any-append ends xs ys ∙ ap (λ (b : Bool). b || ends_any ys) h ∙ k

  -- one after the other: behind what stops no use is bad
  pub then_comes : {stop end : Type 0} (earlier xs ys : List PathAction) → ends_any earlier ≡ false → Comes stop earlier xs → (ends_any (earlier ++ xs) ≡ false → Comes end (earlier ++ xs) ys) →
      (stop → (first_bad items body (earlier ++ xs) ys ≡ None) × end) → Comes end earlier (xs ++ ys)
  then_comes earlier xs ys none (meets bad is before) more halts =
      let it = bad_first earlier xs ys bad is in meets bad it.0 (ap ends_any it.1 ∙ before)
  then_comes earlier xs ys none (stops is stop) more halts =
      let it = halts stop in stops (some-rest items body earlier xs ys is ∙ it.0) it.1
  then_comes {stop} {end} earlier xs ys none (clear is calm_) more halts = by (more (none_both earlier xs none calm_))
    where
      by : Comes end (earlier ++ xs) ys → Comes end earlier (xs ++ ys)
      by (meets bad some before) = meets bad (some-rest items body earlier xs ys is ∙ some) (ap ends_any (before-append items body earlier xs ys is) ∙ none_both xs (before_bad items body (earlier ++ xs) ys) calm_ before)
      by (clear free long) = clear (some-rest items body earlier xs ys is ∙ free) (none_both xs ys calm_ long)
      by (stops free stop) = stops (some-rest items body earlier xs ys is ∙ free) stop

  -- ---- uses of a line
  abbrev pub never_at : Place → Bool
  never_at place = is_never (ty_of_place items body.locals place)

  abbrev is_copy_or_store : PlaceUse → Bool
  is_copy_or_store Copies = true
  is_copy_or_store Stores = true
  is_copy_or_store how = false

  abbrev pub AreCalm : List (PlaceUse × Place) → Type 0
  AreCalm [] = Unit {0}
  AreCalm (u ∷ us) = (is_copy_or_store u.0 && never_at u.1 ≡ false) × AreCalm us

  pub calm_line : (n line : ℕ) (us : List (PlaceUse × Place)) → AreCalm us → ends_any (at_line n line us) ≡ false
  calm_line n line [] h = refl
  calm_line n line (u ∷ us) h = ap (λ (b : Bool). b || ends_any (at_line n line us)) h.0 ∙ calm_line n line us h.1

  calm_both : (us vs : List (PlaceUse × Place)) → AreCalm us → AreCalm vs → AreCalm (us ++ vs)
  calm_both [] vs h k = k
  calm_both (u ∷ us) vs h k = (h.0, calm_both us vs h.1 k)

  calm_operand : (operand : Operand) → CopiesNone operand → AreCalm (operand_uses operand)
  calm_operand (Operand.Copied place) h = absurd h
  calm_operand (Operand.Moved place) h = (refl, tt)
  calm_operand (Operand.Number value kind) h = tt
  calm_operand (Operand.Truth value) h = tt
  calm_operand Operand.Unit h = tt

  -- an operand whose type is not `!`
  calm_made : (operand : Operand) → is_never (ty_of_operand items body.locals operand) ≡ false → AreCalm (operand_uses operand)
  calm_made (Operand.Copied place) h = (h, tt)
  calm_made (Operand.Moved place) h = (refl, tt)
  calm_made (Operand.Number value kind) h = tt
  calm_made (Operand.Truth value) h = tt
  calm_made Operand.Unit h = tt

  calm_operands : (operands : List Operand) → AllCopyNone operands → AreCalm (flat_map operand_uses operands)
  calm_operands [] h = tt
  calm_operands (x ∷ xs) h = calm_both (operand_uses x) (flat_map operand_uses xs) (calm_operand x h.0) (calm_operands xs h.1)

  calm_one : (operand : Operand) → AreCalm (operand_uses operand) → AreCalm (flat_map operand_uses (operand ∷ []))
  calm_one operand h = calm_both (operand_uses operand) [] h tt

  calm_two : (left right : Operand) → AreCalm (operand_uses left) → AreCalm (operand_uses right) → AreCalm (flat_map operand_uses (left ∷ right ∷ []))
  calm_two left right h k = calm_both (operand_uses left) (flat_map operand_uses (right ∷ [])) h (calm_one right k)

  -- operands, and what is stored into a place whose type is not `!`
  with_store : (us : List (PlaceUse × Place)) (to : Place) → AreCalm us → never_at to ≡ false → AreCalm (us ++ (Stores, to) ∷ [])
  with_store us to h k = calm_both us ((Stores, to) ∷ []) h (k, tt)

  -- ---- statements
  abbrev IsStop : List Stmt → Term → Type 0
  IsStop stmts term = (stmts ≡ []) × (term ≡ Term.Goto 1)

  typed_so : (stmt : Stmt) → stmt_is_typed items body.locals stmt ≡ true → stmt_has_types items body.locals stmt ≡ true
  typed_so stmt h = second_so _ (stmt_has_types items body.locals stmt) h

  two_bools : (a b : Bool) → a && b ≡ true → b ≡ true
  two_bools true b h = h
  two_bools false b h = absurd (untrue h)

  compared_left : (l r : Option Ty) → are_compared l r ≡ true → is_never l ≡ false
  compared_left l r h = made l (λ o. are_compared o r) refl h

  compared_right : (l r : Option Ty) → are_compared l r ≡ true → is_never r ≡ false
  compared_right l r h = made r (λ o. are_compared l o) (none l) h
    where
      none : (l : Option Ty) → are_compared l (Some Ty.Never) ≡ false
      none None = refl
      none (Some Ty.Never) = refl
      none (Some other) = refl

  referent_of_never : (unique : Bool) → referent unique (Some Ty.Never) ≡ None
  referent_of_never true = refl
  referent_of_never false = refl

  copied_calm : (p : Place) → never_at p ≡ false → AreCalm (operand_uses (Operand.Copied p))
  copied_calm p e = (e, tt)

  -- all statements but those that put
  abbrev puts : Stmt → Bool
  puts (Stmt.Put to from) = true
  puts stmt = false

  calm_stmt : (stmt : Stmt) → StmtCopies stmt → stmt_has_types items body.locals stmt ≡ true → puts stmt ≡ false → AreCalm (stmt_uses stmt)
  calm_stmt (Stmt.Put to from) c h other = absurd (false≢true (sym other))
  calm_stmt (Stmt.Compare to op left right) c h other =
      let both = two_bools (is_bool (ty_of_place items body.locals to)) (are_compared (ty_of_operand items body.locals left) (ty_of_operand items body.locals right)) h in
      with_store (flat_map operand_uses (left ∷ right ∷ []) ++ []) to
      (calm_both (flat_map operand_uses (left ∷ right ∷ [])) [] (calm_two left right
      (calm_made left (compared_left (ty_of_operand items body.locals left) (ty_of_operand items body.locals right) both))
      (calm_made right (compared_right (ty_of_operand items body.locals left) (ty_of_operand items body.locals right) both))) tt)
      (made (ty_of_place items body.locals to) is_bool refl (first_so (is_bool (ty_of_place items body.locals to)) _ h))
  calm_stmt (Stmt.Not to operand) c h other =
      with_store (flat_map operand_uses (operand ∷ []) ++ []) to (calm_both (flat_map operand_uses (operand ∷ [])) [] (calm_one operand (calm_operand operand c)) tt)
      (made (ty_of_place items body.locals to) is_bool refl (first_so (is_bool (ty_of_place items body.locals to)) _ h))
  calm_stmt (Stmt.Tuple to parts) c h other =
      with_store (flat_map operand_uses parts ++ []) to (calm_both (flat_map operand_uses parts) [] (calm_operands parts c) tt)
      (made (ty_of_place items body.locals to) (λ o. option_map_or (λ types. operands_are items body.locals types parts) (tuple_parts o) false) refl h)
  calm_stmt (Stmt.Array to parts) c h other =
      with_store (flat_map operand_uses parts ++ []) to (calm_both (flat_map operand_uses parts) [] (calm_operands parts c) tt)
      (made (ty_of_place items body.locals to) (λ o. are_elements items body.locals parts o) refl h)
  calm_stmt (Stmt.Make to adt variant parts) c h other =
      with_store (flat_map operand_uses parts ++ []) to (calm_both (flat_map operand_uses parts) [] (calm_operands parts c) tt)
      (made (ty_of_place items body.locals to) (is_adt adt) refl (first_so (is_adt adt (ty_of_place items body.locals to)) _ h))
  calm_stmt (Stmt.Close to closure parts) c h other =
      with_store (flat_map operand_uses parts ++ []) to (calm_both (flat_map operand_uses parts) [] (calm_operands parts c) tt)
      (made (ty_of_place items body.locals to) (is_closure closure) refl (first_so (is_closure closure (ty_of_place items body.locals to)) _ h))
  calm_stmt (Stmt.NewBox to operand) c h other =
      with_store (flat_map operand_uses (operand ∷ []) ++ []) to (calm_both (flat_map operand_uses (operand ∷ [])) [] (calm_one operand (calm_operand operand c)) tt)
      (made (ty_of_place items body.locals to) (λ o. option_map_or (λ id. operand_is items body.locals id operand) (box_content o) false) refl h)
  calm_stmt (Stmt.Unsize to trait_no from) c h other =
      with_store (flat_map operand_uses (from ∷ []) ++ []) to (calm_both (flat_map operand_uses (from ∷ [])) [] (calm_one from (calm_operand from c)) tt)
      (made (ty_of_place items body.locals to) (λ o. is_dyn_of trait_no (option_and_then (type_at items) (box_content o))) refl (first_so (is_dyn_of trait_no (option_and_then (type_at items) (box_content (ty_of_place items body.locals to)))) _ h))
  calm_stmt (Stmt.Borrow to unique of) c h other =
      (refl, (by (is_never (ty_of_place items body.locals to)) refl, tt))
    where
      by : (b : Bool) → is_never (ty_of_place items body.locals to) ≡ b → true && never_at to ≡ false
      by false e = e
      by true e = absurd (none (place_id items body.locals of) (subst (λ (o : Option Ty). option_map_or (λ id. option_map_or (same_id id) (referent unique o) false) (place_id items body.locals of) false ≡ true) (never_is (ty_of_place items body.locals to) e) h))
        where
          none : (o : Option TyId) → option_map_or (λ id. option_map_or (same_id id) (referent unique (Some Ty.Never)) false) o false ≡ true → ⊥
          none None h = untrue h
          none (Some id) h = untrue (subst (λ (r : Option TyId). option_map_or (same_id id) r false ≡ true) (referent_of_never unique) h)
  calm_stmt (Stmt.Touch place) c h other = (refl, tt)
  calm_stmt (Stmt.Print operand) c h other = calm_both (flat_map operand_uses (operand ∷ []) ++ []) [] (calm_both (flat_map operand_uses (operand ∷ [])) [] (calm_one operand (calm_operand operand c)) tt) tt
  calm_stmt (Stmt.Forget operand) c h other = calm_both (flat_map operand_uses (operand ∷ []) ++ []) [] (calm_both (flat_map operand_uses (operand ∷ [])) [] (calm_one operand (calm_operand operand c)) tt) tt
  calm_stmt (Stmt.Free place) c h other = (refl, tt)

  -- ---- a statement that puts
  -- a place of type `!` without steps that has a value had one put into it
  is_first_of_none : (steps : List plain.Step) → are_first steps [] ≡ true → steps ≡ []
  is_first_of_none [] h = refl
  is_first_of_none (x ∷ steps) h = absurd (untrue h)

  was_stored : (local : ℕ) → is_never (option_and_then (type_at items) (plain.place_ty items (slice_get body.locals) (plain.whole_local local))) ≡ true → (earlier : List PathAction) →
      last_left items body (plain.whole_local local) earlier ≡ Some false → ends_any earlier ≡ true
  was_stored local never [] h = absurd (none-some false h)
  was_stored local never (a ∷ earlier) h = by (last_left items body (plain.whole_local local) earlier) refl h (was_stored local never earlier)
    where
      second : (b c : Bool) → c ≡ true → (b || c) ≡ true
      second true c e = refl
      second false c e = e

      first : (b c : Bool) → b ≡ true → (b || c) ≡ true
      first true c e = refl
      first false c e = absurd (untrue e)

      stores : (how : PlaceUse) → leaves_gone how ≡ Some false → is_copy_or_store how ≡ true
      stores Copies h = absurd (none-some false h)
      stores Moves h = absurd (untrue (sym (same_Some true false h)))
      stores Borrows h = absurd (none-some false h)
      stores Touches h = absurd (none-some false h)
      stores Tests h = absurd (none-some false h)
      stores Stores h = refl
      stores Drops h = absurd (untrue (sym (same_Some true false h)))
      stores Frees h = absurd (untrue (sym (same_Some true false h)))

      here : (c : Bool) → (counts items body a.place && is_at_or_above a.place (plain.whole_local local)) ≡ c → (if c then leaves_gone a.how else None) ≡ Some false → ends a ≡ true
      here true e h =
          let at = second_so (counts items body a.place) (is_at_or_above a.place (plain.whole_local local)) e in
          let same : a.place ≡ plain.whole_local local = λ i. record {
            local = eqb-true a.place.local local (first_so (a.place.local == local) (are_first a.place.steps []) at) i;
            steps = is_first_of_none a.place.steps (second_so (a.place.local == local) (are_first a.place.steps []) at) i;
          } in
          (λ i. stores a.how h i && is_never (option_and_then (type_at items) (plain.place_ty items (slice_get body.locals) (same i)))) ∙ never
      here false e h = absurd (none-some false h)

      by : (o : Option Bool) → last_left items body (plain.whole_local local) earlier ≡ o →
          option_or o (if (counts items body a.place && is_at_or_above a.place (plain.whole_local local)) then leaves_gone a.how else None) ≡ Some false →
          (last_left items body (plain.whole_local local) earlier ≡ Some false → ends_any earlier ≡ true) → (ends a || ends_any earlier) ≡ true
      by (Some b) e h later = second (ends a) (ends_any earlier) (later (e ∙ h))
      by None e h later = first (ends a) (ends_any earlier) (here (counts items body a.place && is_at_or_above a.place (plain.whole_local local)) refl h)

  -- so no such value is moved out of a cell that is no parameter's
  not_moved : (local : ℕ) → is_never (option_and_then (type_at items) (plain.place_ty items (slice_get body.locals) (plain.whole_local local))) ≡ true → is_param items body local ≡ false → (earlier : List PathAction) → ends_any earlier ≡ false →
      (a : PathAction) → a.place ≡ plain.whole_local local → is_bad items body earlier a Moves ≡ false → ⊥
  not_moved local never param earlier none a at fine = by (last_left items body (plain.whole_local local) earlier) refl present
    where
      or_first : (b c : Bool) → (b || c) ≡ false → b ≡ false
      or_first true c h = absurd (false≢true (sym h))
      or_first false c h = refl

      not_false : (b : Bool) → not b ≡ false → b ≡ true
      not_false true h = refl
      not_false false h = absurd (false≢true (sym h))

      not_true : (b : Bool) → not b ≡ true → b ≡ false
      not_true true h = absurd (untrue h)
      not_true false h = refl

      whole : is_whole_after items body earlier (plain.whole_local local) ≡ true
      whole = not_false _ (or_first (not (is_whole_after items body earlier (plain.whole_local local))) _ (or_first _ _ (subst (λ (p : plain.Place). is_bad items body earlier (record a { place = p }) Moves ≡ false) at fine)))

      present : is_gone_after items body earlier (plain.whole_local local) ≡ false
      present = not_true _ (first_so (not (is_gone_after items body earlier (plain.whole_local local))) _ whole)

      by : (o : Option Bool) → last_left items body (plain.whole_local local) earlier ≡ o → unwrap_or o (not (is_param items body local)) ≡ false → ⊥
      by None e h = false≢true (sym h ∙ ap not param)
      by (Some true) e h = untrue (sym h)
      by (Some false) e h = false≢true (sym none ∙ was_stored local never earlier e)

  -- its type is that of its operand
  same_types : (a b : TyId) → same_id a b ≡ true → a ≡ b
  same_types a b h = ap (λ (n : ℕ). record { 0 = n }) (eqb-true a.0 b.0 h)

  moved_type : (to p : Place) → option_map_or (λ id. operand_is items body.locals id (Operand.Moved p)) (place_id items body.locals to) false ≡ true → place_id items body.locals to ≡ place_id items body.locals p
  moved_type to p h = by (place_id items body.locals to) (place_id items body.locals p) h
    where
      by : (o q : Option TyId) → option_map_or (λ id. option_map_or (same_id id) q false) o false ≡ true → o ≡ q
      by None q h = absurd (untrue h)
      by (Some a) None h = absurd (untrue h)
      by (Some a) (Some b) h = ap (λ (z : TyId). Some z) (same_types a b h)

  -- a store into a whole local is not bad
  whole_is_fine : (earlier : List PathAction) (n line : ℕ) (to : Place) → to.steps ≡ [] → is_bad items body earlier (record { how = Stores; place = named to; block = n; line = line }) Stores ≡ false
  whole_is_fine earlier n line to e = ap (λ (steps : List Step). may_not_store items body earlier (record { local = to.local; steps = map named_step steps })) e

  module _ (f : LoweringFrame) (own : ℕ → Type 0) (same_items : f.items ≡ items) (same_tys : f.tys ≡ body.locals) (owned : (key : ℕ) → own key → is_param items body (f.local_of key) ≡ false) where
    is_never_there : (to : Place) → never_at to ≡ true → IsNever f own to
    is_never_there to e = (λ i. is_never (ty_of_place (same_items i) (same_tys i) to)) ∙ e

    put : (earlier : List PathAction) → ends_any earlier ≡ false → (n line : ℕ) (to : Place) (from : Operand) (stmts : List Stmt) (term : Term) → StmtCopies (Stmt.Put to from) → Behind f own (Stmt.Put to from) stmts term → stmt_has_types items body.locals (Stmt.Put to from) ≡ true →
        Comes (IsStop stmts term) earlier (at_line n line (stmt_uses (Stmt.Put to from)))
    put earlier none n line to from stmts term copies behind typed = by (never_at to) refl from copies behind typed
      where
        stored : PathAction
        stored = record { how = Stores; place = named to; block = n; line = line }

        used : PlaceUse → Place → PathAction
        used how p = record { how = how; place = named p; block = n; line = line }

        -- a store alone
        alone : IsStop stmts term → Comes (IsStop stmts term) earlier (stored ∷ [])
        alone stop = by (is_bad items body earlier stored Stores) refl
          where
            by : (b : Bool) → is_bad items body earlier stored Stores ≡ b → Comes (IsStop stmts term) earlier (stored ∷ [])
            by true e =
                meets (record { rule = rule_of Stores; action = stored }) (ap (λ (b : Bool). if b then Some (record { rule = rule_of Stores; action = stored }) else None) e)
                (ap (λ (b : Bool). ends_any (if b then [] else stored ∷ [])) e)
            by false e = stops (ap (λ (b : Bool). if b then Some (record { rule = rule_of Stores; action = stored }) else None) e) stop

        calm_put : (from : Operand) → AreCalm (operand_uses from) → never_at to ≡ false → Comes (IsStop stmts term) earlier (at_line n line (stmt_uses (Stmt.Put to from)))
        calm_put from h e = calm earlier (at_line n line (stmt_uses (Stmt.Put to from))) (calm_line n line (stmt_uses (Stmt.Put to from)) (with_store (flat_map operand_uses (from ∷ []) ++ []) to (calm_both (flat_map operand_uses (from ∷ [])) [] (calm_one from h) tt) e))

        -- a copy that is not bad; the store behind it is not bad either
        after_copy : (p : Place) → to.steps ≡ [] → IsStop stmts term → Comes (IsStop stmts term) earlier (used Copies p ∷ stored ∷ [])
        after_copy p steps stop = by (is_bad items body earlier (used Copies p) Copies) refl
          where
            rest : first_bad items body (earlier ++ used Copies p ∷ []) (stored ∷ []) ≡ None
            rest = ap (λ (b : Bool). if b then Some (record { rule = rule_of Stores; action = stored }) else None) (whole_is_fine (earlier ++ used Copies p ∷ []) n line to steps)

            by : (b : Bool) → is_bad items body earlier (used Copies p) Copies ≡ b → Comes (IsStop stmts term) earlier (used Copies p ∷ stored ∷ [])
            by true e =
                meets (record { rule = rule_of Copies; action = used Copies p })
                (ap (λ (b : Bool). if b then Some (record { rule = rule_of Copies; action = used Copies p }) else first_bad items body (earlier ++ used Copies p ∷ []) (stored ∷ [])) e)
                (ap (λ (b : Bool). ends_any (if b then [] else used Copies p ∷ before_bad items body (earlier ++ used Copies p ∷ []) (stored ∷ []))) e)
            by false e = stops (ap (λ (b : Bool). if b then Some (record { rule = rule_of Copies; action = used Copies p }) else first_bad items body (earlier ++ used Copies p ∷ []) (stored ∷ [])) e ∙ rest) stop

        -- a move that is not bad, and a store behind it
        after_move : (p : Place) → IsStop stmts term → Comes (IsStop stmts term) earlier (used Moves p ∷ stored ∷ [])
        after_move p stop = by (is_bad items body earlier (used Moves p) Moves) refl (is_bad items body (earlier ++ used Moves p ∷ []) stored Stores) refl
          where
            first : Bool → Bool → Option BadUse
            first b c = if b then Some (record { rule = rule_of Moves; action = used Moves p }) else (if c then Some (record { rule = rule_of Stores; action = stored }) else None)

            before : Bool → Bool → Bool
            before b c = ends_any (if b then [] else used Moves p ∷ (if c then [] else stored ∷ []))

            by : (b : Bool) → is_bad items body earlier (used Moves p) Moves ≡ b → (c : Bool) → is_bad items body (earlier ++ used Moves p ∷ []) stored Stores ≡ c → Comes (IsStop stmts term) earlier (used Moves p ∷ stored ∷ [])
            by true e c d = meets (record { rule = rule_of Moves; action = used Moves p }) (λ i. first (e i) (d i)) (λ i. before (e i) (d i))
            by false e true d = meets (record { rule = rule_of Stores; action = stored }) (λ i. first (e i) (d i)) (λ i. before (e i) (d i))
            by false e false d = stops (λ i. first (e i) (d i)) stop

        -- a value of an assignment
        never_moved : (p : Place) → never_at to ≡ true → IsOwn f own (Operand.Moved p) → stmt_has_types items body.locals (Stmt.Put to (Operand.Moved p)) ≡ true → Comes (IsStop stmts term) earlier (used Moves p ∷ stored ∷ [])
        never_moved p never its typed = by (is_bad items body earlier (used Moves p) Moves) refl
          where
            at : named p ≡ plain.whole_local (f.local_of its.1.0)
            at = λ i. record { local = its.1.2 i; steps = map named_step (its.0 i) }

            is_such : is_never (option_and_then (type_at items) (plain.place_ty items (slice_get body.locals) (plain.whole_local (f.local_of its.1.0)))) ≡ true
            is_such =
                ap (λ (q : plain.Place). is_never (option_and_then (type_at items) (plain.place_ty items (slice_get body.locals) q))) (sym at)
                ∙ ap (λ (o : Option TyId). is_never (option_and_then (type_at items) o)) (sym (moved_type to p typed)) ∙ never

            by : (b : Bool) → is_bad items body earlier (used Moves p) Moves ≡ b → Comes (IsStop stmts term) earlier (used Moves p ∷ stored ∷ [])
            by true e =
                meets (record { rule = rule_of Moves; action = used Moves p })
                (ap (λ (b : Bool). if b then Some (record { rule = rule_of Moves; action = used Moves p }) else first_bad items body (earlier ++ used Moves p ∷ []) (stored ∷ [])) e)
                (ap (λ (b : Bool). ends_any (if b then [] else used Moves p ∷ before_bad items body (earlier ++ used Moves p ∷ []) (stored ∷ []))) e)
            by false e = absurd (not_moved (f.local_of its.1.0) is_such (owned its.1.0 its.1.1) earlier none (used Moves p) at e)

        by : (b : Bool) → never_at to ≡ b → (from : Operand) → StmtCopies (Stmt.Put to from) → Behind f own (Stmt.Put to from) stmts term → stmt_has_types items body.locals (Stmt.Put to from) ≡ true →
            Comes (IsStop stmts term) earlier (at_line n line (stmt_uses (Stmt.Put to from)))
        by true e (Operand.Copied p) (inl steps) behind typed = elim (behind (is_never_there to e)) [ inl stop ↦ after_copy p steps stop | inr its ↦ absurd its ]
        by true e (Operand.Copied p) (inr copies) behind typed = absurd copies
        by true e (Operand.Moved p) copies behind typed = elim (behind (is_never_there to e)) [ inl stop ↦ after_move p stop | inr its ↦ never_moved p e its typed ]
        by true e (Operand.Number value kind) copies behind typed = elim (behind (is_never_there to e)) [ inl stop ↦ alone stop | inr its ↦ absurd its ]
        by true e (Operand.Truth value) copies behind typed = elim (behind (is_never_there to e)) [ inl stop ↦ alone stop | inr its ↦ absurd its ]
        by true e Operand.Unit copies behind typed = elim (behind (is_never_there to e)) [ inl stop ↦ alone stop | inr its ↦ absurd its ]
        by false e (Operand.Copied p) copies behind typed = calm_put (Operand.Copied p) (copied_calm p (ap (λ (o : Option TyId). is_never (option_and_then (type_at items) o)) (sym (moved_type to p typed)) ∙ e)) e
        by false e (Operand.Moved p) copies behind typed = calm_put (Operand.Moved p) (refl, tt) e
        by false e (Operand.Number value kind) copies behind typed = calm_put (Operand.Number value kind) tt e
        by false e (Operand.Truth value) copies behind typed = calm_put (Operand.Truth value) tt e
        by false e Operand.Unit copies behind typed = calm_put Operand.Unit tt e

    stmt_comes : (earlier : List PathAction) → ends_any earlier ≡ false → (n line : ℕ) (stmt : Stmt) (stmts : List Stmt) (term : Term) → StmtCopies stmt → Behind f own stmt stmts term → stmt_has_types items body.locals stmt ≡ true →
        Comes (IsStop stmts term) earlier (at_line n line (stmt_uses stmt))
    stmt_comes earlier none n line (Stmt.Put to from) stmts term copies behind typed = put earlier none n line to from stmts term copies behind typed
    stmt_comes earlier none n line other stmts term copies behind typed = calm earlier _ (calm_line n line (stmt_uses other) (calm_stmt other copies typed refl))

    -- ---- terminators, before a way out is taken
    calm_term : (term : Term) → TermCopies term → term_has_types items body.locals term ≡ true → AreCalm (term_uses term)
    calm_term (Term.Goto block) c h = tt
    calm_term (Term.If on if_true if_false) c h = calm_both (flat_map operand_uses (on ∷ [])) [] (calm_one on (calm_operand on c)) tt
    calm_term (Term.Case on variant if_true if_false) c h = (refl, tt)
    calm_term (Term.Math to op left right next unwind) c h = calm_both (flat_map operand_uses (left ∷ right ∷ [])) [] (calm_two left right (calm_operand left c.0) (calm_operand right c.1)) tt
    calm_term (Term.Negate to of next unwind) c h = calm_both (flat_map operand_uses (of ∷ [])) [] (calm_one of (calm_operand of c)) tt
    calm_term (Term.Bounds index count next unwind) c h =
        calm_both (flat_map operand_uses (index ∷ [])) [] (calm_one index (calm_made index (made (ty_of_operand items body.locals index) (is_int IntKind.Usize) refl h))) tt
    calm_term (Term.Call to body args next unwind) c h = calm_both (flat_map operand_uses args) [] (calm_operands args c) tt
    calm_term (Term.Virtual to trait_no method args next unwind) c h = calm_both (flat_map operand_uses args) [] (calm_operands args c) tt
    calm_term (Term.Ask to next unwind) c h = tt
    calm_term (Term.DropAt place next unwind) c h = (refl, tt)
    calm_term (Term.Panic why unwind) c h = tt
    calm_term Term.Return c h = tt
    calm_term Term.Resume c h = tt

    -- ---- blocks
    pub block_comes : (stmts : List Stmt) (term : Term) (earlier : List PathAction) → ends_any earlier ≡ false → (n line last : ℕ) → BlockStops f own stmts term → list_all (stmt_is_typed items body.locals) stmts ≡ true → term_is_typed items body.locals term ≡ true →
        Comes (term ≡ Term.Goto 1) earlier (stmt_actions n line stmts ++ at_line n last (term_uses term))
    block_comes [] term earlier none n line last stops_so typed term_typed =
        calm earlier (at_line n last (term_uses term)) (calm_line n last (term_uses term) (calm_term term stops_so (second_so _ (term_has_types items body.locals term) term_typed)))
    block_comes (stmt ∷ stmts) term earlier none n line last stops_so typed term_typed =
        subst (Comes (term ≡ Term.Goto 1) earlier) (sym (append_assoc (at_line n line (stmt_uses stmt)) (stmt_actions n (suc line) stmts) (at_line n last (term_uses term))))
        (then_comes earlier (at_line n line (stmt_uses stmt)) (stmt_actions n (suc line) stmts ++ at_line n last (term_uses term)) none
        (stmt_comes earlier none n line stmt stmts term stops_so.0.0 stops_so.0.1 (typed_so stmt (first_so (stmt_is_typed items body.locals stmt) (list_all (stmt_is_typed items body.locals) stmts) typed)))
        (λ still. block_comes stmts term (earlier ++ at_line n line (stmt_uses stmt)) still n (suc line) last stops_so.1 (second_so (stmt_is_typed items body.locals stmt) (list_all (stmt_is_typed items body.locals) stmts) typed) term_typed)
        (λ stop. ((λ i. first_bad items body (earlier ++ at_line n line (stmt_uses stmt)) (stmt_actions n (suc line) (stop.0 i) ++ at_line n last (term_uses (stop.1 i)))), stop.1)))

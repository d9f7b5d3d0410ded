-- What is built of code, beside one local of a reference type: how many borrows into it, and that no other line stores
-- there; that no line names it but that borrow and calls that take it whole; that none does where nothing is borrowed
-- into it; and that no jump leaves a loop of a reference type. One lemma a rule of `Build`.
use Rattle.std.proofs.Common.{◌≡◌, ◌⊎◌, inl, inr, ℕ, ◌+◌, ◌≤◌, ◌==◌, ◌&&◌, ◌||◌, not, Bool, true, false, List, [], ◌∷◌, ◌++◌, Some, slice_get, cond, if◌then◌else◌, refl, sym, ap, subst, ◌∙◌, arith}
use Rattle.std.proofs.lemmas.Bool.{eqb-true}
use Rattle.std.specs.List.{list_any, list_all}
use Rattle.cfg_graph.specs.declared.place.Place as graph_place
use Rattle.cfg_graph.specs.declared.statement.Stmt.{Stmt}
use Rattle.cfg_graph.specs.declared.terminator.Term.{Term}
use Rattle.cfg_graph.specs.declared.terminator.Unwind.{Unwind}
use Rattle.cfg_graph.specs.NamedPlaces.{same_place}
use Rattle.cfg_graph.specs.Places.{named}
use Rattle.cfg_graph.specs.Uses.{stored_by_stmt, stored_by_term, places_of_stmt, places_of_term}
use Rattle.mir_base.specs.declared.trace.Why.{Why}
use Rattle.mir_ty.specs.declared.def.Sig.{Sig}
use Rattle.mir_ty.specs.declared.def.TraitDef.{TraitDef}
use Rattle.mir_ty.specs.declared.ty.TyId.{TyId}
use Rattle.mir_ty.specs.Facts.{needs_drop}
use Rattle.mir_ty.specs.Parts.{field_ty}
use Rattle.store_model.specs.Places.Place.{whole_local}
use Rattle.src_meaning.specs.Forms.{site_in}
use Rattle.src_meaning.specs.Locals.OfBody.{bool_ty}
use Rattle.src_meaning.specs.Scopes.{Entry, Scopes, with_scope, Exit, Value, Breaks, Continues, Returns, Panics}
use Rattle.well_typed.specs.Places.{LoopAround, loop_with}
use Rattle.well_typed.specs.Types as types
use Rattle.lower_rules.specs.Build as build
use Rattle.lower_rules.specs.Build.{LoweringFrame, BlockRest, Building, Lowers, ending, closed, jumps_if, names, outside, breaks_from, is_left_by, naming, act, act_by, is_last, done_by, Done, ByStmt, ByTerm, change, nothing, from_changed, back_in, then_lower, branches, looped, leave, in_scope, exits, jump, panics, panic_drops, drop_one, replaces, taken, tests, if_true, unwinding, compared, joined}
use Rattle.lower_rules.proofs.LaidBlocks.{Grows}
use Rattle.lower_rules.proofs.Lines as lines
use Rattle.lower_laws.proofs.Base as base
use Rattle.lower_laws.proofs.Base.{Ground, untrue, and_first, and_second, and_false, both_false}
use Rattle.lower_ready.proofs.Counted as counted
use Rattle.lower_ready.proofs.OnceUses.{UsedWell, PassedWell}

-- the local, the key under which its values are made, and that reference types stand alone
pub record About (g : Ground) (L K : ℕ) : Type 0 where
  pub only : (k : ℕ) → (g.local_of k == L) ≡ true → k ≡ K
  pub here : (g.local_of K == L) ≡ true
  pub ty : TyId
  pub typed : slice_get g.tys L ≡ Some ty
  pub is_ref : types.is_reference g.items ty ≡ true
  pub truth : types.is_reference g.items (bool_ty g.items) ≡ false
  pub fields : (id : TyId) (v n : ℕ) (j : TyId) → field_ty g.items id v n ≡ Some j → types.is_reference g.items j ≡ false
  pub tuples : (id : TyId) (tys : List TyId) → types.tuple_of g.items id ≡ Some tys → list_all (λ j. not (types.is_reference g.items j)) tys ≡ true
  pub arrays : (id : TyId) (a : TyId × ℕ) → types.array_of g.items id ≡ Some a → types.is_reference g.items a.0 ≡ false
  pub results : (n : ℕ) (sig : Sig) → slice_get g.items.bodies n ≡ Some sig → types.is_reference g.items sig.result ≡ false
  pub methods : (n m : ℕ) (def : TraitDef) (sig : Sig) → slice_get g.items.traits n ≡ Some def → slice_get def.methods m ≡ Some sig → types.is_reference g.items sig.result ≡ false

module _ (g : Ground) (L K : ℕ) (about : About g L K) (Q : Type 0) where
  abbrev pub F : LoweringFrame
  F = base.F g

  abbrev pub Ref : LoopAround → Type 0
  Ref l = types.is_reference g.items l.ty ≡ true

  -- ---- lines
  abbrev pub whole : graph_place.Place → Bool
  whole place = same_place (named place) (whole_local L)

  abbrev pub elsewhere : graph_place.Place → Bool
  elsewhere place = not (place.local == L)

  -- a borrow into the local
  abbrev pub borrows : Stmt → Bool
  borrows (Stmt.Borrow to unique of) = whole to
  borrows stmt = false

  -- another statement that stores there
  abbrev pub stores : Stmt → Bool
  stores (Stmt.Borrow to unique of) = false
  stores stmt = list_any whole (stored_by_stmt stmt)

  abbrev pub StmtIs : Bool → Stmt → Type 0
  StmtIs false stmt = (stores stmt ≡ false) × (Q → UsedWell L stmt)
  StmtIs true stmt = list_all elsewhere (places_of_stmt stmt) ≡ true

  abbrev pub TermIs : Bool → Term → Type 0
  TermIs false term = (list_any whole (stored_by_term term) ≡ false) × (Q → PassedWell L term)
  TermIs true term = list_all elsewhere (places_of_term term) ≡ true

  -- an entry that is dropped is another one
  abbrev pub Entered : Entry → Type 0
  Entered e = needs_drop g.items e.ty ≡ true → e.key ≡ K → ⊥

  pub away : (k : ℕ) → (k ≡ K → ⊥) → (g.local_of k == L) ≡ false
  away k h = by (g.local_of k == L) refl
    where
      by : (b : Bool) → (g.local_of k == L) ≡ b → b ≡ false
      by true e = absurd (h (about.only k e))
      by false e = refl

  is_away : (k : ℕ) → (k ≡ K → ⊥) → not (g.local_of k == L) ≡ true
  is_away k h = ap not (away k h)

  both_so : (a b : Bool) → a ≡ true → b ≡ true → a && b ≡ true
  both_so true b e d = d
  both_so false b e d = e

  pub goto_is : (b : Bool) (n : ℕ) → TermIs b (Term.Goto n)
  goto_is true n = refl
  goto_is false n = (refl, λ q. refl)

  pub resume_is : (b : Bool) → TermIs b Term.Resume
  resume_is true = refl
  resume_is false = (refl, λ q. refl)

  pub return_is : (b : Bool) → TermIs b Term.Return
  return_is true = refl
  return_is false = (refl, λ q. refl)

  pub panic_is : (b : Bool) (why : Why) (u : Unwind) → TermIs b (Term.Panic why u)
  panic_is true why u = refl
  panic_is false why u = (refl, λ q. refl)

  pub dropped_is : (b : Bool) (k : ℕ) → (k ≡ K → ⊥) → (n : ℕ) (u : Unwind) → TermIs b (Term.DropAt (build.place_of F (site_in k k)) n u)
  dropped_is true k h n u = both_so _ _ (is_away k h) refl
  dropped_is false k h n u = (refl, λ q. both_so _ _ (is_away k h) refl)

  abbrev pub W : Bool → lines.Wanted F
  W b = record {
    stmt = λ stmt n. StmtIs b stmt;
    term = λ term n. TermIs b term;
    entry = Entered;
    goto = λ n node. goto_is b n;
    resume = λ node. resume_is b;
    drop = λ e ok d n u. dropped_is b e.key (ok d) n u;
    behind = λ stmt stmts term. Unit {0};
    returns = 1;
    follows = λ action. lines.follows_any (done_by F action) (is_last F action);
    compares = λ site value stmts term. tt;
  }

  abbrev pub Sound : Bool → Lowers → Type 0
  Sound b = lines.Sound F (W b)

  abbrev pub Adds : Lowers → ℕ → Type 0
  Adds = counted.Adds F borrows (λ site value. refl)

  -- ---- jumps
  abbrev pub Stays : List LoopAround → List Exit → Type 0
  Stays loops jumps = (loop : ℕ) (l : LoopAround) → loop_with loop loops ≡ Some l → Ref l → is_left_by loop jumps ≡ false

  left_append : (loop : ℕ) (xs ys : List Exit) → is_left_by loop xs ≡ false → is_left_by loop ys ≡ false → is_left_by loop (xs ++ ys) ≡ false
  left_append loop [] ys h k = k
  left_append loop (x ∷ xs) ys h k = by (breaks_from loop x) h (λ d. left_append loop xs ys d k)
    where
      by : (b : Bool) → b || is_left_by loop xs ≡ false → (is_left_by loop xs ≡ false → is_left_by loop (xs ++ ys) ≡ false) → b || is_left_by loop (xs ++ ys) ≡ false
      by true h more = h
      by false h more = more h

  pub stays_append : (loops : List LoopAround) (xs ys : List Exit) → Stays loops xs → Stays loops ys → Stays loops (xs ++ ys)
  stays_append loops xs ys h k loop l is r = left_append loop xs ys (h loop l is r) (k loop l is r)

  pub stays_if : (loops : List LoopAround) (z : Bool) (js : List Exit) → (z ≡ true → Stays loops js) → Stays loops (jumps_if z js)
  stays_if loops true js h = h refl
  stays_if loops false js h = λ loop l is r. refl

  -- ---- code
  pub record Once (H : Type 0) (loops : List LoopAround) (P : Lowers) (most : ℕ) : Type 0 where
    pub count : ℕ
    pub adds : Adds P count
    pub bound : count ≤ most
    pub plain : Sound false P
    pub quiet : H → Q → count ≡ 0 → Sound true P
    pub stays : Stays loops P.jumps

  abbrev pub Free : Type 0
  Free = Unit {0}

  pub more : (H : Type 0) (loops : List LoopAround) (P : Lowers) (m n : ℕ) → m ≤ n → Once H loops P m → Once H loops P n
  more H loops P m n le p = record { count = p.count; adds = p.adds; bound = let b = p.bound in let r : p.count ≤ n = omega (b, le, arith) in r; plain = p.plain; quiet = p.quiet; stays = p.stays }

  pub given : (H H' : Type 0) (loops : List LoopAround) (P : Lowers) (m : ℕ) → (H' → H) → Once H loops P m → Once H' loops P m
  given H H' loops P m f p = record { count = p.count; adds = p.adds; bound = p.bound; plain = p.plain; quiet = λ h q z. p.quiet (f h) q z; stays = p.stays }

  -- code without borrows into the local and without jumps
  pub simply : (H : Type 0) (loops : List LoopAround) (P : Lowers) → Adds P 0 → Sound false P → (H → Q → Sound true P) → P.jumps ≡ [] → Once H loops P 0
  simply H loops P a p q j = record {
    count = 0;
    adds = a;
    bound = let r : 0 ≤ 0 = omega arith in r;
    plain = p;
    quiet = λ h k z. q h k;
    stays = λ loop l is r. ap (is_left_by loop) j;
  }

  abbrev pub KeepsAll : (Scopes → Scopes) → Type 0
  KeepsAll f = (b : Bool) (S : Scopes) → lines.ScopesOk F (W b) S → lines.ScopesOk F (W b) (f S)

  pub changes : (H : Type 0) (loops : List LoopAround) (f : Scopes → Scopes) → KeepsAll f → Once H loops (change f) 0
  changes H loops f keeps = simply H loops (change f) (counted.change_adds F borrows (λ site value. refl) f) (lines.change_sound F (W false) f (keeps false)) (λ h q. lines.change_sound F (W true) f (keeps true)) refl

  pub nothing_done : (H : Type 0) (loops : List LoopAround) → Once H loops nothing 0
  nothing_done H loops = changes H loops (λ S. S) (λ b S o. o)

  -- where code has an end and a mark is set, something is borrowed into the local
  abbrev pub Keeps : Lowers → Type 0 → ℕ → Type 0
  Keeps P M n = P.has_end ≡ true → M → n ≡ 0 → ⊥

  pub changed : (H : Type 0) (loops : List LoopAround) (f : Scopes → Scopes) (P : Lowers) (m : ℕ) → KeepsAll f → Once H loops P m → Once H loops (from_changed f P) m
  changed H loops f P m keeps p = record {
    count = p.count;
    adds = counted.changed_adds F borrows (λ site value. refl) f P p.count p.adds;
    bound = p.bound;
    plain = lines.changed_sound F (W false) f P (keeps false) p.plain;
    quiet = λ h q z. lines.changed_sound F (W true) f P (keeps true) (p.quiet h q z);
    stays = p.stays;
  }

  pub changed_kept : (H M : Type 0) (loops : List LoopAround) (f : Scopes → Scopes) (P : Lowers) (m : ℕ) → KeepsAll f → (p : Once H loops P m) → Keeps P M p.count → (q : Once H loops (from_changed f P) m) × Keeps (from_changed f P) M q.count
  changed_kept H M loops f P m keeps p k = (
    record {
      count = p.count;
      adds = counted.changed_adds F borrows (λ site value. refl) f P p.count p.adds;
      bound = p.bound;
      plain = lines.changed_sound F (W false) f P (keeps false) p.plain;
      quiet = λ h q z. lines.changed_sound F (W true) f P (keeps true) (p.quiet h q z);
      stays = p.stays;
    },
    k,
  )

  pub back : (H : Type 0) (loops : List LoopAround) (P : Lowers) (m : ℕ) → Once H loops P m → Once H loops (back_in P) m
  back H loops P m p = record {
    count = p.count;
    adds = counted.back_adds F borrows (λ site value. refl) P p.count p.adds;
    bound = p.bound;
    plain = lines.back_sound F (W false) P p.plain;
    quiet = λ h q z. lines.back_sound F (W true) P (p.quiet h q z);
    stays = p.stays;
  }

  pub first_none : (m n : ℕ) → m + n ≡ 0 → m ≡ 0
  first_none m n e = let r : m ≡ 0 = omega (e, arith) in r

  pub second_none : (m n : ℕ) → m + n ≡ 0 → n ≡ 0
  second_none m n e = let r : n ≡ 0 = omega (e, arith) in r

  pub sum_under : (m n o r : ℕ) → m ≤ o → n ≤ r → m + n ≤ o + r
  sum_under m n o r a b = let x : m + n ≤ o + r = omega (a, b, arith) in x

  one_under : (m o r : ℕ) → m ≤ o → m ≤ o + r
  one_under m o r a = let x : m ≤ o + r = omega (a, arith) in x

  -- one before the other, which may name the local where the first borrows into it
  pub then_kept : (H First Second M : Type 0) → (M → First ⊎ Second) → (loops : List LoopAround) (P Q' : Lowers) (o r : ℕ) (p : Once H loops P o) → Keeps P First p.count →
      (P.has_end ≡ true → (q : Once (H × (p.count ≡ 0)) loops Q' r) × Keeps Q' Second q.count) → (t : Once H loops (then_lower P Q') (o + r)) × Keeps (then_lower P Q') M t.count
  then_kept H First Second M split loops P Q' o r p kp next = by P.has_end refl
    where
      by : (z : Bool) → P.has_end ≡ z → (t : Once H loops (then_lower P Q') (o + r)) × Keeps (then_lower P Q') M t.count
      by true e =
          let it = next e in
          let q = it.0 in (
            record {
              count = p.count + q.count;
              adds = subst (λ (n : ℕ). Adds (then_lower P Q') (p.count + n)) (ap (λ (z : Bool). counted.if_end z q.count) e) (counted.then_adds F borrows (λ site value. refl) P Q' p.count q.count p.adds q.adds);
              bound = sum_under p.count q.count o r p.bound q.bound;
              plain = lines.then_sound F (W false) P Q' p.plain (λ d. q.plain);
              quiet = λ h k z. lines.then_sound F (W true) P Q' (p.quiet h k (first_none p.count q.count z)) (λ d. q.quiet (h, first_none p.count q.count z) k (second_none p.count q.count z));
              stays = stays_append loops P.jumps (jumps_if P.has_end Q'.jumps) p.stays (stays_if loops P.has_end Q'.jumps (λ d. q.stays));
            },
            λ d m z. elim (split m) [
              | inl one ↦ kp e one (first_none p.count q.count z)
              | inr other ↦ it.1 (and_second P.has_end Q'.has_end d) other (second_none p.count q.count z)
            ],
          )
      by false e = (
        record {
          count = p.count;
          adds = counted.cut_adds F borrows (λ site value. refl) P Q' p.count e p.adds;
          bound = one_under p.count o r p.bound;
          plain = lines.then_sound F (W false) P Q' p.plain (λ d. absurd (untrue (sym e ∙ d)));
          quiet = λ h k z. lines.then_sound F (W true) P Q' (p.quiet h k z) (λ d. absurd (untrue (sym e ∙ d)));
          stays = stays_append loops P.jumps (jumps_if P.has_end Q'.jumps) p.stays (stays_if loops P.has_end Q'.jumps (λ d. absurd (untrue (sym e ∙ d))));
        },
        λ d m z. untrue (sym e ∙ and_first P.has_end Q'.has_end d),
      )

  pub then_given : (H : Type 0) (loops : List LoopAround) (P Q' : Lowers) (o r : ℕ) (p : Once H loops P o) → (P.has_end ≡ true → Once (H × (p.count ≡ 0)) loops Q' r) → Once H loops (then_lower P Q') (o + r)
  then_given H loops P Q' o r p next = (then_kept H ⊥ ⊥ ⊥ (λ m. inl m) loops P Q' o r p (λ e m z. m) (λ e. (next e, λ d m z. m))).0

  pub and_then : (H : Type 0) (loops : List LoopAround) (P Q' : Lowers) (o r : ℕ) → Once H loops P o → (P.has_end ≡ true → Once H loops Q' r) → Once H loops (then_lower P Q') (o + r)
  and_then H loops P Q' o r p next = then_given H loops P Q' o r p (λ e. given H (H × (p.count ≡ 0)) loops Q' r (λ h. h.0) (next e))

  pub leaves : (H : Type 0) (loops : List LoopAround) → Once H loops (leave F) 0
  leaves H loops = simply H loops (leave F) (counted.leave_adds F borrows (λ site value. refl)) (lines.leave_sound F (W false)) (λ h q. lines.leave_sound F (W true)) refl

  entered : (b : Bool) (node : ℕ) (own : Bool) (S : Scopes) → lines.ScopesOk F (W b) S → lines.ScopesOk F (W b) (with_scope node own S)
  entered b node own S o = (tt, tt, o)

  no_more : (m : ℕ) → m + 0 ≤ m
  no_more m = let r : m + 0 ≤ m = omega arith in r

  pub in_new_scope : (H : Type 0) (loops : List LoopAround) (node : ℕ) (own : Bool) (P : Lowers) (m : ℕ) → Once H loops P m → Once H loops (from_changed (with_scope node own) P) m
  in_new_scope H loops node own P m p = changed H loops (with_scope node own) P m (λ b S o. entered b node own S o) p

  pub scoped : (H : Type 0) (loops : List LoopAround) (node : ℕ) (own : Bool) (P : Lowers) (m : ℕ) → Once H loops P m → Once H loops (in_scope F node own P) m
  scoped H loops node own P m p = in_new_scope H loops node own (then_lower P (leave F)) m (more H loops (then_lower P (leave F)) (m + 0) m (no_more m) (and_then H loops P (leave F) m 0 p (λ e. leaves H loops)))

  pub branched : (loops : List LoopAround) (node : ℕ) (test : ℕ → ℕ → Building → BlockRest × Building) (P Q' : Lowers) (o r : ℕ) →
      ((y n : ℕ) (s : Building) → counted.both F borrows (λ site value. refl) (test y n s) ≡ counted.total F borrows (λ site value. refl) s) → ((y n : ℕ) (s : Building) → Grows s (test y n s).1) →
      lines.TestOk F (W false) test → (Q → lines.TestOk F (W true) test) → Once Free loops P o → Once Free loops Q' r → Once Free loops (branches node test P Q') (o + r)
  branched loops node test P Q' o r tested grows plain quiet p q = record {
    count = p.count + q.count;
    adds = counted.branches_adds F borrows (λ site value. refl) node test P Q' p.count q.count tested grows p.adds q.adds;
    bound = sum_under p.count q.count o r p.bound q.bound;
    plain = lines.branches_sound F (W false) node test P Q' plain p.plain q.plain;
    quiet = λ h k z. lines.branches_sound F (W true) node test P Q' (quiet k) (p.quiet h k (first_none p.count q.count z)) (q.quiet h k (second_none p.count q.count z));
    stays = stays_append loops P.jumps Q'.jumps p.stays q.stays;
  }

  -- ---- loops
  left_outside : (id loop : ℕ) (js : List Exit) → is_left_by loop js ≡ false → is_left_by loop (outside id js) ≡ false
  left_outside id loop [] h = refl
  left_outside id loop (j ∷ js) h = by (breaks_from loop j) refl h (names id j) (λ d. left_outside id loop js d)
    where
      by : (x : Bool) → breaks_from loop j ≡ x → x || is_left_by loop js ≡ false → (b : Bool) → (is_left_by loop js ≡ false → is_left_by loop (outside id js) ≡ false) → is_left_by loop (if b then outside id js else j ∷ outside id js) ≡ false
      by true e h b rest = absurd (untrue (sym h))
      by false e h true rest = rest h
      by false e h false rest = ap (λ (z : Bool). z || is_left_by loop (outside id js)) e ∙ rest h

  own_outside : (id : ℕ) (js : List Exit) → is_left_by id (outside id js) ≡ false
  own_outside id [] = refl
  own_outside id (Value ∷ js) = own_outside id js
  own_outside id (Returns ∷ js) = own_outside id js
  own_outside id (Panics ∷ js) = own_outside id js
  own_outside id (Continues loop ∷ js) = by (id == loop) (own_outside id js)
    where
      by : (b : Bool) → is_left_by id (outside id js) ≡ false → is_left_by id (if b then outside id js else Continues loop ∷ outside id js) ≡ false
      by true h = h
      by false h = h
  own_outside id (Breaks loop ∷ js) = by (id == loop) refl (own_outside id js)
    where
      by : (b : Bool) → (id == loop) ≡ b → is_left_by id (outside id js) ≡ false → is_left_by id (if b then outside id js else Breaks loop ∷ outside id js) ≡ false
      by true e h = h
      by false e h = ap (λ (z : Bool). z || is_left_by id (outside id js)) e ∙ h

  stays_outside : (l : LoopAround) (loops : List LoopAround) (js : List Exit) → Stays (l ∷ loops) js → Stays loops (outside l.loop js)
  stays_outside l loops js h loop k is r = by (l.loop == loop) refl
    where
      by : (b : Bool) → (l.loop == loop) ≡ b → is_left_by loop (outside l.loop js) ≡ false
      by true e = subst (λ (z : ℕ). is_left_by z (outside l.loop js) ≡ false) (eqb-true l.loop loop e) (own_outside l.loop js)
      by false e = left_outside l.loop loop js (h loop k (ap (λ (z : Bool). cond z (Some l) (loop_with loop loops)) e ∙ is) r)

  pub loops_back : (l : LoopAround) (loops : List LoopAround) (turn : Lowers) (m : ℕ) → Once Free (l ∷ loops) turn m → Once Free loops (looped l.loop turn) m
  loops_back l loops turn m p = record {
    count = p.count;
    adds = counted.looped_adds F borrows (λ site value. refl) l.loop turn p.count p.adds;
    bound = p.bound;
    plain = lines.looped_sound F (W false) l.loop turn p.plain;
    quiet = λ h q z. lines.looped_sound F (W true) l.loop turn (p.quiet h q z);
    stays = stays_outside l loops turn.jumps p.stays;
  }

  -- ---- jumps and panics
  nothing_jumps : (b : Bool) → Sound b nothing
  nothing_jumps b = lines.nothing_sound F (W b)

  exit_sound : (b : Bool) (node : ℕ) (exit : Exit) → Sound b (exits F node exit)
  exit_sound b node exit =
      let j = lines.jump_sound F (W b) node exit nothing (nothing_jumps b) in
      record { after = λ e S o. o; lines = λ c t S k s o h l. j.lines c t S k s o h l }

  pub leaves_by : (loops : List LoopAround) (node : ℕ) (exit : Exit) → Stays loops (naming exit) → Once Free loops (exits F node exit) 0
  leaves_by loops node exit stays = record {
    count = 0;
    adds = counted.exits_adds F borrows (λ site value. refl) node exit;
    bound = let r : 0 ≤ 0 = omega arith in r;
    plain = exit_sound false node exit;
    quiet = λ h q z. exit_sound true node exit;
    stays = stays;
  }

  pub panicked : (loops : List LoopAround) (node : ℕ) (why : Why) → Once Free loops (panics F node why) 0
  panicked loops node why = simply Free loops (panics F node why) (counted.panics_add F borrows (λ site value. refl) node why) (lines.panics_sound F (W false) node why (panic_is false why)) (λ h q. lines.panics_sound F (W true) node why (panic_is true why)) refl

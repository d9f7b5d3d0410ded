-- Boxes, tuples and arrays.
use Rattle.std.proofs.Common.{◌≡◌, ℕ, zero, suc, Bool, true, false, ◌||◌, ◌==◌, not, if◌then◌else◌, List, [], ◌∷◌, length, map, nat_le, slice_get, replicate, Option, Some, None, IsTrue, Contains, ◌⊎◌, inl, inr, refl, ap, sym, subst, ◌∙◌, arith}
use Rattle.std.specs.Prelude.{option_and_then, option_map, is_some}
use Rattle.std.specs.List.{list_any, list_all}
use Rattle.std.specs.Option.{option_map_or}
use Rattle.std.proofs.lemmas.Option.{none-some, same_Some}
use Rattle.mir_base.specs.declared.place_in_text.Pos.{Pos}
use Rattle.mir_base.specs.declared.rule.Rule.{Rule}
use Rattle.mir_ty.specs.declared.ty.Ty.{Ty}
use Rattle.mir_ty.specs.declared.ty.TyId.{TyId}
use Rattle.mir_ty.specs.ItemTable.{ItemTable, type_at}
use Rattle.mir_ty.specs.Parts.{held_by}
use Rattle.mir_ty.proofs.ListLemmas.{slice_get-Contains}
use Rattle.typed_tree.specs.Tree as tree
use Rattle.typed_tree.specs.Tree.{Node, node, Form, Nodes, no_node, a_node}
use Rattle.well_typed.specs.Claim.{Holds, some, fact, both}
use Rattle.well_typed.specs.Nodes.{typed, made_parts, elements_of}
use Rattle.well_typed.specs.Patterns.{count_of}
use Rattle.well_typed.specs.Places.{ty_of, Wanted}
use Rattle.well_typed.specs.Types.{fits, is_same, is_never, is_dyn, is_common, is_reference, boxed_of, boxed_in, tuple_of, tuple_in, array_of, array_in, inside_in}
use Rattle.well_typed.proofs.ClaimLemmas.{and_true, true_left, true_right}
use Rattle.typing_rules.specs.Check.{Check, TypingState}
use Rattle.typing_rules.specs.Places.{never, a_node_of, wanted}
use Rattle.typing_rules.specs.Promises.{Extends, IsReady, IsAlone, IsKnown, AreReady, Grows, Gives, TypingSpot, at_spot, Stands, IsTemporary, SoundTemporary}
use Rattle.typing_rules.specs.RowPromises.{AreElements, AreGiven, AreParts, IsGiven, IsMade, SoundArgs, SoundElements, SoundParts}
use Rattle.typing_rules.specs.Rows.{new_box, box_by, box_wanted, part_ty, first_node, listed, tuple_row, parts_wanted, array_row, element_wanted, element_ty, one_type, one_of_two}
use Rattle.typing_rules.specs.Scope.{Env}
use Rattle.typing_rules.proofs.Sound.Calls.{from_passed, one_known, none_known}
use Rattle.typing_rules.proofs.Sound.Fitted.{fitted_gives, passed_ends, or_left, or_right, same_self, fits_self}
use Rattle.typing_rules.proofs.Sound.Gives.{◌⋆◌, bind, with_ready, gives_nothing, obeyed, found, after_number, numbered, grows_trans, grows_refl, knows_number}
use Rattle.typing_rules.proofs.Sound.Interned.{interned_sound}
use Rattle.typing_rules.proofs.Sound.Later.{alone_later, alone_ready, alone_no_dyn, alone_no_reference, ready_later, fits_later, same_reference, same_dyn, some_got}
use Rattle.typing_rules.proofs.Sound.Operators.{never_is, never_ready, or_cases, same_id, as_wanted, is_one, either_one}
use Rattle.typing_rules.proofs.Sound.Places.{not_true, truth_of, contains_cases}

-- ---- boxes

-- a type that a box may hold
abbrev IsContent : ItemTable → TyId → Type 0
IsContent items ty = IsReady items ty × IsTrue (not (is_reference items ty)) × IsTrue (not (is_dyn items ty))

content_later : {old new : ItemTable} → Extends old new → (ty : TyId) → IsContent old ty → IsContent new ty
content_later e ty h = (
  ready_later e ty h.0,
  subst (λ b. IsTrue (not b)) (sym (same_reference e ty h.0)) h.1,
  subst (λ b. IsTrue (not b))
      (sym (same_dyn e ty h.0)) h.2,
)

box_made : (items : ItemTable) (content : TyId) → IsContent items content → IsMade items (Ty.Boxed content)
box_made items content h =
    record {
      held = λ part has. absurd (omega (arith, has.1));
      parts = λ part variant n is. absurd (none-some part is);
      inside = λ to is. subst (λ t. IsReady items t × IsTrue (not (is_reference items t))) (same_Some content to is) (
        h.0,
        h.1,
      );
    }

-- the content that a required type asks for
box_content : (items : ItemTable) → AreReady items → (expected : Option TyId) (inside : TyId) → wanted box_wanted items
    expected ≡
    Some inside → IsContent items inside
box_content items all expected inside h =
    let w = some_got (box_wanted items) expected inside h in
    let b = some_got (λ i. if is_dyn items i then None else Some i) (boxed_of items w.0) inside w.2 in
    by w.0 b.0 b.1 (is_dyn items b.0) refl b.2
  where
    inside_is : (ty : Ty) (i : TyId) → boxed_in ty ≡ Some i → inside_in ty ≡ Some i
    inside_is (Ty.Boxed content) i h = h
    inside_is _ i h = absurd (none-some i h)

    by : (id i : TyId) → boxed_of items id ≡ Some i → (b : Bool) → is_dyn items i ≡ b → (if b then None else Some i) ≡
        Some inside → IsContent items inside
    by id i is true e h = absurd (none-some inside h)
    by id i is false e h =
        let known = some_got boxed_in (type_at items id) i is in
        let so = all.inside id i (ap (option_and_then inside_in) known.1 ∙ inside_is known.0 i known.2) in
        subst (IsContent items) (same_Some i inside h) (so.0, so.1, truth_of _ e)

-- what is put into a box, whether a type was required of it or not
abbrev IsPutIn : Env → Option TyId → TypingState → Node → Type 0
IsPutIn env content w n = IsContent w.items (part_ty content n) × ((p : TypingSpot) → Stands env w p → Holds (typed (at_spot
    w.items env.answer p) (Wanted (part_ty content n)) n))

put_in : (env : Env) (content : Option TyId) (w : TypingState) (n : Node) (rest : Nodes) → ((inside : TyId) → content ≡ Some
    inside → IsContent w.items inside) → AreGiven env (listed content) w (a_node n rest) → IsPutIn env content w n
put_in env None w n rest is are = (
  (
    alone_ready w.items (ty_of n) are.0.alone,
    alone_no_reference w.items (ty_of n) are.0.alone,
    alone_no_dyn w.items
        (ty_of n) are.0.alone,
  ),
  λ p stands. as_wanted (at_spot w.items env.answer p) (ty_of n) n (are.0.holds p stands) (fits_self w.items (ty_of
      n)),
)
put_in env (Some inside) w n rest is are =
    let content = is inside refl in (
      content,
      λ p stands.
          let so = from_passed (at_spot w.items env.answer p) inside n (not_true _ content.1) (are.0.holds p stands) in
          as_wanted (at_spot w.items env.answer p) inside n so.0 so.1,
    )

listed_known : (items : ItemTable) (content : Option TyId) → ((inside : TyId) → content ≡ Some inside → IsContent items
    inside) → (ty : TyId) → Contains (listed content) ty → IsKnown items ty
listed_known items None is ty has = none_known items ty has
listed_known items (Some inside) is ty has =
    let c = is inside refl in one_known items inside (c.0.0, c.0.1) ty has

pub new_box_sound : (env : Env) (at : Pos) (count : ℕ) (args : List TyId → Check Nodes) → SoundArgs env count args →
    SoundTemporary env (new_box at count args)
new_box_sound env at count args good expected s k =
    with_ready λ all₀. after_number (bind (good (listed content) s' (knows_number env k) (listed_known s.items content
    (λ
    i e. box_content s.items all₀ expected i e))) λ ns t g d.
    by t ns g (λ i e. content_later g.items i (box_content s.items all₀ expected i e)) d)
  where
    s' : TypingState
    s' = numbered s

    content : Option TyId
    content = wanted box_wanted s.items expected

    by : (t : TypingState) (ns : Nodes) → Grows s' t → ((i : TyId) → content ≡ Some i → IsContent t.items i) → ((w : TypingState) →
        Grows t w → IsGiven env (listed content) count w ns) → Gives t (IsTemporary env expected) (box_by at s.next_node
        count
        expected content (first_node ns) t)
    by t no_node g is d = gives_nothing Rule.T04 at
    by t (a_node c rest) g is d =
        with_ready λ all. let now = put_in env content t c rest is (d t (grows_refl t)).are in
        bind (interned_sound (Ty.Boxed (part_ty content c)) t (box_made t.items (part_ty content c) now.0)) λ ty u h e.
        bind (fitted_gives env expected (a_node_of s.next_node at ty (tree.NewBox c)) u refl) λ n v i f.
        obeyed Rule.T04 at (count == 1) _ λ counted.
        passed_ends env expected v s.next_node at ty (tree.NewBox c) n refl (λ w p. refl) f λ w ready l.
        let is_box = e w (grows_trans i l) in
        let on = grows_trans (grows_trans h i) l in
        let so = put_in env content w c rest (λ j x. content_later on.items j (is j x)) (d w on).are in (
          (Ty.Boxed (part_ty content c), is_box, tt),
          λ p stands.
              subst (λ o. Holds (some (option_and_then boxed_in o) (λ inside. both (typed (at_spot w.items env.answer
              p) (Wanted
              inside) c) (fact (not (is_dyn w.items inside)))))) (sym is_box) (so.1 p stands ⋆ so.0.2),
        )

-- ---- tuples

parts_hold : (env : Env) (w : TypingState) (p : TypingSpot) → Stands env w p → (ns : Nodes) (tys : List TyId) → AreParts env w ns
    tys
    → Holds (made_parts (at_spot w.items env.answer p) tys ns)
parts_hold env w p stands no_node [] are = refl
parts_hold env w p stands no_node (ty ∷ tys) are = absurd are
parts_hold env w p stands (a_node first rest) [] are = absurd are
parts_hold env w p stands (a_node first rest) (ty ∷ tys) are =
    (are.0.1 p stands, parts_hold env w p stands rest tys are.1)

parts_alone : (env : Env) (w : TypingState) (ns : Nodes) (tys : List TyId) → AreParts env w ns tys → (n : ℕ) (ty : TyId) →
    slice_get tys n ≡ Some ty → IsAlone w.items ty
parts_alone env w no_node [] are n ty h = absurd (none-some ty h)
parts_alone env w no_node (t ∷ tys) are n ty h = absurd are
parts_alone env w (a_node first rest) [] are n ty h = absurd are
parts_alone env w (a_node first rest) (t ∷ tys) are zero ty h = subst (IsAlone w.items) (same_Some t ty h) are.0.0
parts_alone env w (a_node first rest) (t ∷ tys) are (suc n) ty h = parts_alone env w rest tys are.1 n ty h

of_one : (xs : List TyId) (b : Bool) (n : ℕ) (ty : TyId) → slice_get (if b then xs else []) n ≡ Some ty → slice_get xs
    n ≡
    Some ty
of_one xs true n ty h = h
of_one xs false n ty h = absurd (none-some ty h)

pub tuple_made : (items : ItemTable) (tys : List TyId) → ((n : ℕ) (ty : TyId) → slice_get tys n ≡ Some ty → IsAlone
    items
    ty) →
    IsMade items (Ty.Tuple tys)
tuple_made items tys alone =
    record {
      held = λ part has. alone has.0 part (slice_get-Contains tys part has);
      parts = λ part variant n is. alone n part (of_one tys (variant == 0) n part is);
      inside = λ to is. absurd (none-some to is);
    }

wants_alone : (items : ItemTable) → AreReady items → (count : ℕ) (expected : Option TyId) (ty : TyId) → Contains
    (parts_wanted
    items count expected) (Some ty) → IsAlone items ty
wants_alone items all count expected ty has = by (option_and_then (tuple_of items) expected) refl has
  where
    mapped : (tys : List TyId) → ((t : TyId) → Contains tys t → IsAlone items t) → Contains (map Some tys) (Some ty) →
        IsAlone items ty
    mapped [] alone has = absurd (omega (arith, has.1))
    mapped (t ∷ tys) alone has =
        first (contains_cases (Some t) (map Some tys) (Some ty) has) (alone t (0, omega arith, refl)) (mapped tys (λ u
        h.
        alone u (suc h.0, omega (arith, h.1), h.2)))
      where
        first : (Some t ≡ Some ty) ⊎ Contains (map Some tys) (Some ty) → IsAlone items t → (Contains (map Some tys)
            (Some
            ty) → IsAlone items ty) → IsAlone items ty
        first (inl same) one on = subst (IsAlone items) (same_Some t ty same) one
        first (inr more) one on = on more

    by : (o : Option (List TyId)) → option_and_then (tuple_of items) expected ≡ o → Contains (option_map_or (λ tys. if
        length
        tys == count then map Some tys else []) o []) (Some ty) → IsAlone items ty
    by None is has = absurd (omega (arith, has.1))
    by (Some tys) is has =
        let w = some_got (tuple_of items) expected tys is in
        let known = some_got tuple_in (type_at items w.0) tys w.2 in
        if_so (length tys == count) (tuple_parts w.0 known.0 known.1 tys known.2) has
      where
        tuple_parts : (id : TyId) (t : Ty) → type_at items id ≡ Some t → (tys : List TyId) → tuple_in t ≡ Some tys →
            (u :
            TyId) → Contains tys u → IsAlone items u
        tuple_parts id (Ty.Tuple parts) at tys is u has =
            all.held id u (Ty.Tuple parts) at (subst (λ xs. Contains xs u) (sym (same_Some parts tys is)) has)
        tuple_parts id _ at tys is u has = absurd (none-some tys is)

        if_so : (b : Bool) → ((u : TyId) → Contains tys u → IsAlone items u) → Contains (if b then map Some tys else [])
            (Some ty) → IsAlone items ty
        if_so true alone has = mapped tys alone has
        if_so false alone has = absurd (omega (arith, has.1))

pub tuple_sound : (env : Env) (at : Pos) (count : ℕ) (parts : List (Option TyId) → Check (Nodes × List TyId)) →
    SoundParts
    env parts → SoundTemporary env (tuple_row at count parts)
tuple_sound env at count parts good expected s k =
    with_ready λ all. after_number (bind (good (parts_wanted s.items count expected) (numbered s) (knows_number env k)
    (wants_alone s.items all count expected)) λ ps t g d.
    bind (interned_sound (Ty.Tuple ps.1) t (tuple_made t.items ps.1 (parts_alone env t ps.0 ps.1 (d t (grows_refl
    t))))) λ
    ty u h e.
    bind (fitted_gives env expected (a_node_of s.next_node at ty (tree.Tuple ps.0)) u refl) λ n v i f.
    obeyed Rule.T19 at (nat_le count 12) _ λ few.
    passed_ends env expected v s.next_node at ty (tree.Tuple ps.0) n refl (λ w p. refl) f λ w ready l.
    let is = e w (grows_trans i l) in (
      (Ty.Tuple ps.1, is, tt),
      λ p stands. subst (λ o. Holds (some (option_and_then tuple_in o) (λ tys. made_parts (at_spot
          w.items env.answer p) tys ps.0))) (sym is) (parts_hold env w p stands ps.0 ps.1 (d w (grows_trans
          (grows_trans h i)
          l))),
    ))

-- ---- the one type of many

module _ (items : ItemTable) (all : AreReady items) where
  fits_through : (a b c : TyId) → IsTrue (fits items a b) → IsTrue (fits items b c) → IsTrue (fits items a c)
  fits_through a b c h g = by (or_cases (is_same b a) (is_never items b) h) (or_cases (is_same c b) (is_never items c)
      g)
    where
      by : IsTrue (is_same b a) ⊎ IsTrue (is_never items b) → IsTrue (is_same c b) ⊎ IsTrue (is_never items c) → IsTrue
          (fits items a c)
      by x (inr never) = or_right (is_same c a) _ never
      by (inl same) (inl e) = subst (λ t. IsTrue (fits items t c)) (same_id b a same) (or_left (is_same c b) _ e)
      by (inr never) (inl e) =
          or_right (is_same c a) _ (subst (λ t. IsTrue (is_never items t)) (sym (same_id c b e)) never)

  all_fit : (a b : TyId) (tys : List TyId) → IsTrue (fits items a b) → IsTrue (list_all (fits items b) tys) → IsTrue
      (list_all (fits items a) tys)
  all_fit a b [] h g = refl
  all_fit a b (t ∷ tys) h g =
      and_true (fits items a t) (list_all (fits items a) tys) (fits_through a b t h (true_left (fits items b t)
      (list_all
      (fits items b) tys) g)) (all_fit a b tys h (true_right (fits items b t) (list_all (fits items b) tys) g))

  -- the types have it in common, and it is one of them, or `!`
  pub one_is_common : (tys : List TyId) (ty : TyId) → one_type items tys ≡ Some ty → IsTrue (is_common items ty tys)
  one_is_common [] ty h =
      subst (λ t. IsTrue (is_never items t || false)) (same_Some never ty h) (or_left (is_never items never) false
      (never_is items all))
  one_is_common (t ∷ tys) ty h =
      let r = some_got (one_of_two items t) (one_type items tys) ty h in
      let is = is_one items t r.0 ty r.2 in
      let rest = one_is_common tys r.0 r.1 in
      and_true _ _
      (and_true (fits items ty t) (list_all (fits items ty) tys) is.0 (all_fit ty r.0 tys is.1 (true_left (list_all
      (fits
      items r.0) tys) _ rest)))
      (has r.0 (either_one items t r.0 ty r.2) (true_right (list_all (fits items r.0) tys) _ rest))
    where
      has : (r : TyId) → (t ≡ ty) ⊎ (r ≡ ty) → IsTrue (is_never items r || list_any (is_same r) tys) → IsTrue (is_never
          items ty || list_any (is_same ty) (t ∷ tys))
      has r (inl same) rest =
          or_right (is_never items ty) _ (or_left (is_same ty t) _ (subst (λ u. IsTrue (is_same ty u)) (sym same)
          (same_self ty.0)))
      has r (inr same) rest = either (or_cases (is_never items ty) (list_any (is_same ty) tys) (subst (λ u. IsTrue
          (is_never items u || list_any (is_same u) tys)) same rest))
        where
          either : IsTrue (is_never items ty) ⊎ IsTrue (list_any (is_same ty) tys) → IsTrue (is_never items ty ||
              list_any (is_same ty) (t ∷ tys))
          either (inl never) = or_left _ _ never
          either (inr any) = or_right (is_never items ty) _ (or_right (is_same ty t) _ any)

  -- what is so of `!` and of each of the types is so of the one
  pub one_has : (P : TyId → Type 0) → P never → (tys : List TyId) → ((n : ℕ) (t : TyId) → slice_get tys n ≡ Some t → P
      t) →
      (ty : TyId) → one_type items tys ≡ Some ty → P ty
  one_has P base [] each ty h = subst P (same_Some never ty h) base
  one_has P base (t ∷ tys) each ty h =
      let r = some_got (one_of_two items t) (one_type items tys) ty h in
      by r.0 (either_one items t r.0 ty r.2) (one_has P base tys (λ n u is. each (suc n) u is) r.0 r.1)
    where
      by : (r : TyId) → (t ≡ ty) ⊎ (r ≡ ty) → P r → P ty
      by r (inl same) p = subst P same (each 0 t refl)
      by r (inr same) p = subst P same p

pub fits_all_later : {old new : ItemTable} → Extends old new → (ty : TyId) (tys : List TyId) → IsTrue (list_all (fits
    old
    ty) tys) → IsTrue (list_all (fits new ty) tys)
fits_all_later e ty [] h = refl
fits_all_later {old} {new} e ty (t ∷ tys) h =
    and_true (fits new ty t) (list_all (fits new ty) tys) (fits_later e ty t (true_left (fits old ty t) (list_all
    (fits old
    ty) tys) h)) (fits_all_later e ty tys (true_right (fits old ty t) (list_all (fits old ty) tys) h))

-- ---- arrays

elements_hold : (env : Env) (expected : Option TyId) (w : TypingState) (p : TypingSpot) → Stands env w p → (ty : TyId) (ns : Nodes)
    (tys :
    List TyId) → AreElements env expected w ns tys → IsTrue (list_all (fits w.items ty) tys) → Holds (elements_of (at_spot
    w.items env.answer p) ty ns)
elements_hold env expected w p stands ty no_node [] are h = refl
elements_hold env expected w p stands ty no_node (t ∷ tys) are h = absurd are
elements_hold env expected w p stands ty (a_node first rest) [] are h = absurd are
elements_hold env expected w p stands ty (a_node first rest) (t ∷ tys) are h = (
  as_wanted (at_spot w.items env.answer p) ty first (are.0.0.holds p stands) (subst (λ u. IsTrue (fits w.items ty u))
      are.0.1 (true_left (fits w.items ty t) (list_all (fits w.items ty) tys) h)),
  elements_hold env expected w p stands ty rest tys are.1 (true_right (fits w.items ty t) (list_all (fits w.items ty) tys)
      h),
)

elements_alone : (env : Env) (expected : Option TyId) (w : TypingState) (ns : Nodes) (tys : List TyId) → AreElements env expected w ns
    tys → (n : ℕ) (ty : TyId) → slice_get tys n ≡ Some ty → IsAlone w.items ty
elements_alone env expected w no_node [] are n ty h = absurd (none-some ty h)
elements_alone env expected w no_node (t ∷ tys) are n ty h = absurd are
elements_alone env expected w (a_node first rest) [] are n ty h = absurd are
elements_alone env expected w (a_node first rest) (t ∷ tys) are zero ty h =
    subst (IsAlone w.items) (sym are.0.1 ∙ same_Some t ty h) are.0.0.alone
elements_alone env expected w (a_node first rest) (t ∷ tys) are (suc n) ty h = elements_alone env expected w rest tys are.1 n
    ty h

elements_fit : (env : Env) (ty : TyId) (w : TypingState) (ns : Nodes) (tys : List TyId) → AreElements env (Some ty) w ns tys →
    IsTrue (list_all (fits w.items ty) tys)
elements_fit env ty w no_node [] are = refl
elements_fit env ty w no_node (t ∷ tys) are = absurd are
elements_fit env ty w (a_node first rest) [] are = absurd are
elements_fit env ty w (a_node first rest) (t ∷ tys) are =
    and_true (fits w.items ty t) (list_all (fits w.items ty) tys) (subst (λ u. IsTrue (fits w.items ty u)) (sym are.0.1)
    are.0.0.fit) (elements_fit env ty w rest tys are.1)

pub array_made : (items : ItemTable) (ty : TyId) (count : ℕ) → IsAlone items ty → IsMade items (Ty.Array ty count)
array_made items ty count alone =
    record {
      held = λ part has. by part has;
      parts = λ part variant n is. of_many count n part (of_one (replicate count ty) (variant == 0) n part is);
      inside = λ to is. absurd (none-some to is);
    }
  where
    by : (part : TyId) → Contains (ty ∷ []) part → IsAlone items part
    by part (zero, below, is) = subst (IsAlone items) is alone
    by part (suc k, below, is) = absurd (omega (arith, below))

    of_many : (count n : ℕ) (part : TyId) → slice_get (replicate count ty) n ≡ Some part → IsAlone items part
    of_many zero n part h = absurd (none-some part h)
    of_many (suc count) zero part h = subst (IsAlone items) (same_Some ty part h) alone
    of_many (suc count) (suc n) part h = of_many count n part h

array_wanted : (items : ItemTable) → AreReady items → (expected : Option TyId) (ty : TyId) → wanted element_wanted items
    expected ≡
    Some ty → IsAlone items ty
array_wanted items all expected ty h =
    let w = some_got (element_wanted items) expected ty h in
    by w.0 (array_of items w.0) refl w.2
  where
    at : (t : Ty) (a : TyId × ℕ) → array_in t ≡ Some a → Contains (held_by items t) a.0
    at (Ty.Array element n) a h = (0, omega arith, ap (λ (x : TyId × ℕ). x.0) (same_Some (element, n) a h))
    at _ a h = absurd (none-some a h)

    by : (id : TyId) (o : Option (TyId × ℕ)) → array_of items id ≡ o → option_map (λ (a : TyId × ℕ). a.0) o ≡ Some ty →
        IsAlone items ty
    by id None is e = absurd (none-some ty e)
    by id (Some a) is e =
        let known = some_got array_in (type_at items id) a is in
        subst (IsAlone items) (same_Some a.0 ty e) (all.held id a.0 known.0 known.1 (at known.0 a known.2))

pub array_sound : (env : Env) (at : Pos) (count : ℕ) (elements : Option TyId → Check (Nodes × List TyId)) →
    SoundElements
    env count elements → SoundTemporary env (array_row at count elements)
array_sound env at count elements good expected s k =
    with_ready λ all₀. after_number (bind (good wants (numbered s) (knows_number env k)) λ es t g d.
    found Rule.T03 at (element_ty t.items wants es.1) _ λ ty is_ty.
    obeyed Rule.T16 at (is_some expected || not (count == 0)) _ λ some_.
    with_ready λ all.
    let now = d t (grows_refl t) in
    let so = by t all es.0 es.1 wants refl ty is_ty now.0 (λ u e. alone_later g.items u (array_wanted s.items all₀
    expected u e))
    in
    bind (interned_sound (Ty.Array ty count) t (array_made t.items ty count so.0)) λ id u h e.
    bind (fitted_gives env expected (a_node_of s.next_node at id (tree.Array es.0)) u refl) λ n v i f.
    obeyed Rule.T19 at (nat_le count 32) _ λ few.
    passed_ends env expected v s.next_node at id (tree.Array es.0) n refl (λ w p. refl) f λ w ready l.
    let is = e w (grows_trans i l) in
    let on = grows_trans (grows_trans h i) l in
    let dw = d w on in (
      (Ty.Array ty count, is, tt),
      λ p stands. subst (λ o. Holds (some (option_and_then array_in o) (λ (a : TyId × ℕ). both
          (fact (count_of es.0 == a.1)) (elements_of (at_spot w.items env.answer p) a.0 es.0)))) (sym is)
          (subst (λ n. IsTrue (n == count)) (sym dw.1) (same_self count) ⋆ elements_hold env wants w p stands ty es.0
          es.1 dw.0
          (fits_all_later on.items ty es.1 so.1)),
    ))
  where
    wants : Option TyId
    wants = wanted element_wanted s.items expected

    by : (t : TypingState) → AreReady t.items → (ns : Nodes) (tys : List TyId) (o : Option TyId) → wants ≡ o → (ty : TyId) →
        element_ty t.items o tys ≡ Some ty → AreElements env o t ns tys → ((u : TyId) → o ≡ Some u → IsAlone t.items
        u) →
        IsAlone t.items ty × IsTrue (list_all (fits t.items ty) tys)
    by t all ns tys None e ty is are wanted_ = (
      one_has t.items all (IsAlone t.items) (never_ready t.items all) tys (elements_alone env None t ns tys are) ty is,
      true_left (list_all (fits t.items ty) tys) _ (one_is_common t.items all tys ty is),
    )
    by t all ns tys (Some u) e ty is are wanted_ =
        let same = same_Some u ty is in (
          wanted_ ty (ap Some same),
          subst (λ x. IsTrue (list_all (fits t.items x) tys)) same (elements_fit env u t ns tys
              are),
        )

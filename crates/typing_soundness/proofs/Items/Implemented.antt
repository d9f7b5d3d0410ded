-- The bodies of an accepted text's impls have the heads of their trait's methods.
use Rattle.std.proofs.Common.{◌≡◌, ℕ, zero, suc, Bool, true, false, ◌&&◌, ◌||◌, ◌==◌, not, if◌then◌else◌, List, [], ◌∷◌, ◌++◌, map, slice_get, Option, Some, None, IsTrue, Contains, ◌⊎◌, inl, inr, refl, ap, sym, subst, ◌∙◌, arith}
use Rattle.std.specs.Prelude.{codes, is_some, option_and_then, option_map}
use Rattle.std.specs.Cmp.Lexicographic.{nat_list_eq_equiv}
use Rattle.std.specs.List.{find, filter_map, list_all, list_any, cons_option}
use Rattle.std.specs.Option.{option_map_or}
use Rattle.std.specs.Str.{bytes_eq}
use Rattle.std.proofs.lemmas.Bool.{false≢true, and_from, and_parts, eq-eqb}
use Rattle.std.proofs.lemmas.List.Elements.{Contains-append_left, Contains-append_right}
use Rattle.std.proofs.lemmas.Option.{same_Some, none-some, slice_get-map}
use Rattle.mir_base.specs.declared.place_in_text.Pos.{Pos}
use Rattle.mir_ty.specs.declared.adt.Adt.{Adt}
use Rattle.mir_ty.specs.declared.def.ImplDef.{ImplDef}
use Rattle.mir_ty.specs.declared.def.Sig.{Sig}
use Rattle.mir_ty.specs.declared.def.TraitDef.{TraitDef}
use Rattle.mir_ty.specs.declared.ty.Ty.{Ty}
use Rattle.mir_ty.specs.declared.ty.TyId.{TyId}
use Rattle.mir_ty.specs.ItemTable.{ItemTable, type_at}
use Rattle.mir_ty.proofs.ListLemmas.{slice_get-Contains, Contains-slice_get}
use Rattle.src_tree.specs.Layout.{Parts}
use Rattle.typed_tree.specs.Tree.{ProgramTree}
use Rattle.well_typed.specs.Claim.{Claim, Holds, fact, ◌&◌, each, some, nothing}
use Rattle.well_typed.specs.Names.{are_distinct, is_among, is_word}
use Rattle.well_typed.specs.Types.{adt_in, adt_of, is_same, are_same, reference_in, reference_of}
use Rattle.typing_rules.specs.Collected as rules
use Rattle.typing_rules.specs.Items.{ItemSyn, items_of, item_syns, body_path, body_paths, method_body, method_path, path_in, impl_owner}
use Rattle.typing_rules.specs.Program as checks
use Rattle.typing_rules.specs.Promises.{Extends}
use Rattle.typing_rules.specs.Scope.{trait_named, method_word}
use Rattle.typing_rules.specs.Written as types
use Rattle.typing_rules.proofs.Sound.Places.{contains_cases}
use Rattle.src_ast.specs.Syntax.{Word, Named, ByValue, ByShared, ByUnique, Syn, syn, AnItem, AParam, ImplItem, FnItem, SelfParam, Syns, no_syn, a_syn, list_of, MaybeSyn}
use Rattle.typing_soundness.specs.Closures.{BodySyn, Function, Closure, WrittenHead, functions_text, closures_if_any}
use Rattle.typing_soundness.specs.Heads.{bodies_text, inner_text, TellBodies, TellsBodies}
use Rattle.typing_soundness.specs.Items.{is_to, are_same_params, implements_head, implements_all, is_impl, ImplsAreTyped}
use Rattle.typing_soundness.specs.Met.{MeanParams}
use Rattle.typing_soundness.specs.Program.{IsAccepted}
use Rattle.typing_soundness.proofs.Items.Collected.{all_names, word_at}
use Rattle.typing_soundness.proofs.Items.Differing.{words_of_text, bodies_differ, traits_differ}
use Rattle.typing_soundness.proofs.Items.Dropped.{named_adts, adt_worded, extended}
use Rattle.typing_soundness.proofs.Items.Impls.{IsImplOf, AreImplsOf, unless_drop, impls_in, all_impls, impls_of_text}
use Rattle.typing_soundness.proofs.Items.Main.{has_position, one_of, same_word, word_self, each_if_any}
use Rattle.typing_soundness.proofs.Items.Asked.{IsAsked}
use Rattle.typing_soundness.proofs.Items.Numbered.{IsWorded, IsMethod, method_is, asked_of_text, bodies_of_text, traits_worded, found_by_name, mapped_at}
use Rattle.typing_soundness.proofs.Items.Paths.{AreBodies, HasPath, Aligned, aligned_from, paths_of_bodies}
use Rattle.typing_soundness.proofs.Items.Ready.{All, all_at}
use Rattle.typing_soundness.proofs.Items.Traits.{named_traits, text_traits}

-- ---- lists

-- what is mapped comes from a member
mapped_from : {A B : Type 0} (f : A → B) (xs : List A) (n : ℕ) (y : B) → slice_get (map f xs) n ≡ Some y → (x : A) × (slice_get xs
    n ≡ Some x) × (f x ≡ y)
mapped_from f xs n y is = by (slice_get xs n) refl
  where
    by : (o : Option _) → slice_get xs n ≡ o → (x : _) × (slice_get xs n ≡ Some x) × (f x ≡ y)
    by (Some x) e = (x, e, same_Some (f x) y (ap (option_map f) (sym e) ∙ (sym (slice_get-map f xs n) ∙ is)))
    by None e = absurd (none-some y (ap (option_map f) (sym e) ∙ (sym (slice_get-map f xs n) ∙ is)))

-- a member is found by its name, where names differ
find_named : (xs : List Sig) → IsTrue (are_distinct (map (λ (m : Sig). m.name) xs)) → (k : ℕ) (x : Sig) → slice_get xs k ≡ Some x →
    find (λ (m : Sig). bytes_eq m.name x.name) xs ≡ Some x
find_named [] d k x is = absurd (none-some x is)
find_named (y ∷ ys) d zero x is =
    ap (λ b. if b then Some y else find (λ (m : Sig). bytes_eq m.name x.name) ys) (ap (λ (z : Sig). bytes_eq z.name x.name)
    (same_Some y x is) ∙ word_self x.name) ∙ is
find_named (y ∷ ys) d (suc k) x is =
    let apart = and_parts (not (is_among y.name (map (λ (m : Sig). m.name) ys))) _ d in
    by (bytes_eq y.name x.name) refl apart.0 (find_named ys apart.1 k x is)
  where
    by : (b : Bool) → bytes_eq y.name x.name ≡ b → IsTrue (not (is_among y.name (map (λ (m : Sig). m.name) ys))) → find (λ (m :
        Sig). bytes_eq m.name x.name) ys ≡ Some x → (if b then Some y else find (λ (m : Sig). bytes_eq m.name x.name) ys) ≡ Some
        x
    by true e apart on =
        absurd (false≢true (ap not (sym (one_of (bytes_eq y.name) (map (λ (m : Sig). m.name) ys) k x.name (mapped_at (λ (m :
        Sig). m.name) ys k x is) e)) ∙ apart))
    by false e apart on = on

among_them : (name : Word) (names : List Word) → is_among name names ≡ true → Contains names name
among_them name [] h = absurd (false≢true h)
among_them name (w ∷ ws) h = by (bytes_eq name w) refl h (among_them name ws)
  where
    by : (b : Bool) → bytes_eq name w ≡ b → (b || is_among name ws) ≡ true → (is_among name ws ≡ true → Contains ws name) →
        Contains (w ∷ ws) name
    by true e h on = (0, omega arith, sym (same_word name w e))
    by false e h on = let c = on h in (suc c.0, omega (arith, c.1), c.2)

all_pass : {A : Type 0} (p : A → Bool) (xs : List A) (k : ℕ) (x : A) → IsTrue (list_all p xs) → slice_get xs k ≡ Some x → IsTrue
    (p x)
all_pass p [] k x h is = absurd (none-some x is)
all_pass p (y ∷ ys) zero x h is = subst (λ z. IsTrue (p z)) (same_Some y x is) (and_parts (p y) _ h).0
all_pass p (y ∷ ys) (suc k) x h is = all_pass p ys k x (and_parts (p y) _ h).1 is

-- ---- each method of an impl has a path

abbrev names_in : Syn → List Word
names_in (syn at (AnItem (ImplItem trait_ name methods))) = checks.method_names methods
names_in (syn at _) = []

later_member : {A : Type 0} (y : A) (ys : List A) (x : A) → Contains ys x → Contains (y ∷ ys) x
later_member y ys x c = (suc c.0, omega (arith, c.1), c.2)

-- a text of this name
abbrev HasText : Word → List BodySyn → Type 0
HasText name texts = (head : WrittenHead) × Contains texts (Function head) × (head.name ≡ name)

text_later : (name : Word) (text : BodySyn) (texts : List BodySyn) → HasText name texts → HasText name (text ∷ texts)
text_later name text texts h = (h.0, later_member text texts (Function h.0) h.1, h.2)

module _ (around : types.WrittenScope) where
  over_closures : (name : Word) (block : MaybeSyn) (rest : List BodySyn) → HasText name rest → HasText name (closures_if_any
      around block rest)
  over_closures name block rest h = each_if_any (HasText name) (λ head texts. text_later name (Closure head) texts) around block rest h

  method_text : (name : Word) (ms : List Syn) → Contains (filter_map checks.method_name ms) name → HasText name (functions_text
      around ms [])
  method_text name [] has = absurd (omega (arith, has.1))
  method_text name (syn at (AnItem (FnItem own params answer block)) ∷ ms) has =
      by (contains_cases own.1 (filter_map checks.method_name ms) name has) (method_text name ms)
    where
      by : (own.1 ≡ name) ⊎ Contains (filter_map checks.method_name ms) name → (Contains (filter_map checks.method_name ms) name →
          HasText name (functions_text around ms [])) → HasText name (functions_text around (syn at (AnItem (FnItem own params answer
          block)) ∷ ms) [])
      by (inl e) on = (_, (0, omega arith, refl), e)
      by (inr more) on = text_later name _ _ (over_closures name block _ (on more))
  method_text name (syn at _ ∷ ms) has = method_text name ms has

-- ---- paths of methods

abbrev HasPaths : List Word → ItemSyn → Type 0
HasPaths paths i = (name : Word) → Contains (names_in i.item) name → Contains paths (path_in i.item name)

module _ (k : rules.Known) where
  item_paths : (i : ItemSyn) → AreBodies (i ∷ []) → TellsBodies i → HasPaths (map (body_path i.item) i.bodies) i
  item_paths i bodies tell name has = by i.item refl has
    where
      around : types.WrittenScope
      around = all_names k (impl_owner i.item)

      found : HasText name (bodies_text around i.bodies []) → Contains (map (body_path i.item) i.bodies) (path_in i.item name)
      found t =
          let f = aligned_from (HasPath i.item) (map (body_path i.item) i.bodies) (bodies_text around i.bodies []) (paths_of_bodies
          around i.item i.bodies bodies.0) t.1.0 (Function t.0) (slice_get-Contains (bodies_text around i.bodies []) (Function
          t.0) t.1) in
          Contains-slice_get (map (body_path i.item) i.bodies) t.1.0 (path_in i.item name) (f.1 ∙ ap Some (f.2 ∙ ap (path_in
          i.item) t.2))

      by : (item : Syn) → i.item ≡ item → Contains (names_in i.item) name → Contains (map (body_path i.item) i.bodies) (path_in
          i.item name)
      by (syn at (AnItem (ImplItem trait_ owner methods))) e has =
          found (subst (λ (f : List BodySyn → List BodySyn). HasText name (f [])) (sym (tell around)) (subst (λ x. HasText name
          (inner_text around x [])) (sym e) (method_text around name (list_of methods) (subst (λ x. Contains (names_in x) name) e
          has))))
      by (syn at _) e has = absurd (none_there (subst (λ x. Contains (names_in x) name) e has))
        where
          none_there : Contains [] name → ⊥
          none_there c = absurd (omega (arith, c.1))

  all_paths : (all : List Word) (is : List ItemSyn) → AreBodies is → TellBodies is → ((w : Word) → Contains (body_paths is) w →
      Contains all w) → All (HasPaths all) is
  all_paths all [] bodies tell up = tt
  all_paths all (i ∷ is) bodies tell up = (
    λ name has. up _ (Contains-append_left (map (body_path i.item) i.bodies) (body_paths is) _ (item_paths i (bodies.0, tt) tell.0
        name has)),
    all_paths all is bodies.1 tell.1 λ w has. up w (Contains-append_right (map (body_path i.item) i.bodies) (body_paths is) w
        has),
  )

-- ---- impls in the order of the text

module _ (k : rules.Known) (traits : List TraitDef) where
  abbrev IsOwnImpl : Syn → ImplDef → Type 0
  IsOwnImpl (syn at (AnItem (ImplItem (Some trait_) name methods))) def =
      (rules.is_drop trait_.1 ≡ false) × IsImplOf k traits (syn at (AnItem (ImplItem (Some trait_) name methods))) def
  IsOwnImpl (syn at _) def = ⊥

  -- an impl with its item, of which something is so
  abbrev HasItem : (ItemSyn → Type 0) → ImplDef → Type 0
  HasItem P def = (i : ItemSyn) × P i × IsOwnImpl i.item def

  abbrev RestHave : (ItemSyn → Type 0) → List ItemSyn → Syn → Type 0
  RestHave P is item =
      (defs : List ImplDef) → AreImplsOf k traits (impls_in k item ++ all_impls k (item_syns is)) defs → All (HasItem P) defs

  impl_at : (P : ItemSyn → Type 0) (is : List ItemSyn) → All P is → (defs : List ImplDef) → AreImplsOf k traits (all_impls k
      (item_syns is)) defs → All (HasItem P) defs
  impl_at P [] h [] are = tt
  impl_at P [] h (d ∷ defs) are = absurd are
  impl_at P (i ∷ is) h defs are = by i.item refl (impl_at P is h.1) defs are
    where
      by : (item : Syn) → i.item ≡ item → ((defs : List ImplDef) → AreImplsOf k traits (all_impls k (item_syns is)) defs → All
          (HasItem P) defs) → RestHave P is item
      by (syn at (AnItem (ImplItem (Some t) name methods))) e on = which (rules.is_drop t.1) refl
        where
          which : (b : Bool) → rules.is_drop t.1 ≡ b → (defs : List ImplDef) → AreImplsOf k traits (unless_drop k b (syn at
              (AnItem (ImplItem (Some t) name methods))) ++ all_impls k (item_syns is)) defs → All (HasItem P) defs
          which true drops defs are = on defs are
          which false drops [] are = tt
          which false drops (d ∷ defs) are =
              ((i, h.0, subst (λ x. IsOwnImpl x d) (sym e) (drops, are.0)), on defs are.1)
      by (syn at _) e on = on

-- ---- the whole

module _ (parts : Parts Pos) (items : ItemTable) (p : ProgramTree) (h : IsAccepted parts items p) (words : All IsWorded (item_syns
    (items_of parts))) (bodies : IsTrue (are_distinct (map (λ (sig : Sig). sig.name) p.items.bodies))) (traits : IsTrue
    (are_distinct (map (λ (def : TraitDef). def.name) p.items.traits))) where
  abbrev known : rules.Known
  known = rules.known_of (items_of parts)

  abbrev IsOfText : ItemSyn → Type 0
  IsOfText i = IsAsked p.items i.item × HasPaths (body_paths (items_of parts)) i

  both_so : (is : List ItemSyn) → All (IsAsked p.items) (item_syns is) → All (HasPaths (body_paths (items_of parts))) is → All
      IsOfText is
  both_so [] a b = tt
  both_so (i ∷ is) a b = ((a.0, b.0), both_so is a.1 b.1)

  of_text : All IsOfText (items_of parts)
  of_text =
      both_so (items_of parts) (asked_of_text parts items p h words bodies) (all_paths known (body_paths (items_of parts))
      (items_of parts) (bodies_of_text parts items p h words bodies) h.text.listed λ w has. has)

  -- a receiver by reference is one to the struct or enum
  own_self : (owner : Word) (n : ℕ) → types.number_of known.adts owner ≡ Some n → (params : Syns) → IsTrue (checks.takes_reference
      params) → (ty : TyId) (tys : List TyId) → MeanParams (all_names known (Some owner)) p.items params (ty ∷ tys) → IsTrue (is_to
      p.items n ty)
  own_self owner n is no_syn takes ty tys means = absurd means
  own_self owner n is (a_syn (syn at (AParam (SelfParam ByShared))) rest) takes ty tys means = to means.0
    where
      to : (m : ℕ) × (own : TyId) × (types.number_of known.adts owner ≡ Some m) × (type_at p.items own ≡ Some (Ty.Adt m)) ×
          (type_at p.items ty ≡ Some (Ty.Shared own)) → IsTrue (is_to p.items n ty)
      to self = ap (λ o. option_map_or (λ (r : Bool × TyId). option_map_or (λ m. m == n) (adt_of p.items r.1) false) o false) (ap
          (option_and_then reference_in) self.4) ∙ (ap (λ o. option_map_or (λ m. m == n) o false) (ap (option_and_then adt_in)
          self.3) ∙ eq-eqb self.0 n (same_Some self.0 n (sym self.2 ∙ is)))
  own_self owner n is (a_syn (syn at (AParam (SelfParam ByUnique))) rest) takes ty tys means = to means.0
    where
      to : (m : ℕ) × (own : TyId) × (types.number_of known.adts owner ≡ Some m) × (type_at p.items own ≡ Some (Ty.Adt m)) ×
          (type_at p.items ty ≡ Some (Ty.Unique own)) → IsTrue (is_to p.items n ty)
      to self = ap (λ o. option_map_or (λ (r : Bool × TyId). option_map_or (λ m. m == n) (adt_of p.items r.1) false) o false) (ap
          (option_and_then reference_in) self.4) ∙ (ap (λ o. option_map_or (λ m. m == n) o false) (ap (option_and_then adt_in)
          self.3) ∙ eq-eqb self.0 n (same_Some self.0 n (sym self.2 ∙ is)))
  own_self owner n is (a_syn (syn at (AParam (SelfParam ByValue))) rest) takes ty tys means = absurd (false≢true takes)
  own_self owner n is (a_syn (syn at _) rest) takes ty tys means = absurd (false≢true takes)

  with_self : (owner : Word) (n : ℕ) → types.number_of known.adts owner ≡ Some n → (params : Syns) → IsTrue
      (checks.takes_reference params) → (as_ bs : List TyId) (r : Bool) → IsTrue (checks.are_same_params p.items as_ bs && r) →
      MeanParams (all_names known (Some owner)) p.items params bs → IsTrue (are_same_params p.items n as_ bs && r)
  with_self owner n is params takes [] bs r same means = absurd (false≢true same)
  with_self owner n is params takes (a ∷ as_) [] r same means = absurd (false≢true same)
  with_self owner n is params takes (a ∷ as_) (b ∷ bs) r same means =
      let x = and_parts (checks.are_same_params p.items (a ∷ as_) (b ∷ bs)) r same in
      let y = and_parts (checks.is_reference p.items b) _ x.0 in
      and_from (are_same_params p.items n (a ∷ as_) (b ∷ bs)) r (and_from (is_to p.items n b) _ (own_self owner n is params takes b bs
      means) y.1) x.1

  -- a trait is found by its name
  found_trait : (word : Word) (n : ℕ) (tr : TraitDef) → slice_get p.items.traits n ≡ Some tr → tr.name ≡ word → option_and_then
      (slice_get p.items.traits) (trait_named p.items word) ≡ Some tr
  found_trait word n tr at e =
      ap (option_and_then (slice_get p.items.traits)) (subst (λ w. trait_named p.items w ≡ Some n) e (found_by_name (λ (d :
      TraitDef). d.name) p.items.traits traits n tr at)) ∙ at

  -- one impl of a trait
  module _ (t o : Named) (def : ImplDef) (drops : rules.is_drop t.1 ≡ false) (trait_is : types.number_of known.traits t.1 ≡ Some
      def.trait_no) (adt_is : types.number_of known.adts o.1 ≡ Some def.adt) (tr : TraitDef) (tr_at : slice_get p.items.traits
      def.trait_no ≡ Some tr) (tr_name : tr.name ≡ t.1) (adt : Adt) (adt_at : slice_get p.items.adts def.adt ≡ Some adt) (adt_name
      : adt.name ≡ o.1) (given : List Word) (asked : IsTrue (checks.has_all (map (λ (m : Sig). m.name) tr.methods) given))
      (has_paths : (name : Word) → Contains given name → Contains known.paths (method_path o.1 t.1 name)) where
    method_there : (k : ℕ) (m : Sig) → slice_get tr.methods k ≡ Some m → checks.trait_method p.items t.1 m.name ≡ Some m
    method_there k m at =
        ap (option_and_then (λ (d : TraitDef). find (λ (x : Sig). bytes_eq x.name m.name) d.methods)) (found_trait t.1 def.trait_no
        tr tr_at tr_name) ∙ find_named tr.methods (text_traits parts items p h def.trait_no tr
        tr_at).names k m at

    body_there : (k : ℕ) (m : Sig) → slice_get tr.methods k ≡ Some m → (n : ℕ) × (method_body known.paths o.1 t.1 m.name ≡ Some n)
    body_there k m at =
        let named = all_pass (λ w. is_among w given) (map (λ (x : Sig). x.name) tr.methods) k m.name asked (mapped_at (λ (x :
        Sig). x.name) tr.methods k m at) in
        let has = has_paths m.name (among_them m.name given named) in
        has_position (bytes_eq (method_path o.1 t.1 m.name)) known.paths has.0 (method_path o.1 t.1 m.name) (slice_get-Contains
        known.paths (method_path o.1 t.1 m.name) has) (word_self (method_path o.1 t.1 m.name))

    one_method : (k : ℕ) (m : Sig) → slice_get tr.methods k ≡ Some m → (n : ℕ) → method_body known.paths o.1 t.1 m.name ≡ Some n →
        Holds (some (slice_get p.items.bodies n) (implements_head p.items def.adt adt.name m))
    one_method k m at n is =
        subst (λ x. Holds (some x (implements_head p.items def.adt adt.name m))) (sym own.there) (
          ap (λ w. bytes_eq w (adt.name ++ codes "::" ++ m.name)) (own.is_named ∙ ap (λ w. method_word w m.name) (sym adt_name)) ∙
              word_self (adt.name ++ codes "::" ++ m.name),
          with_self o.1 def.adt adt_is own.params heads.0 m.params own.head.params (is_same m.result own.head.result) (sym (λ i.
              checks.is_same_head p.items (method_there k m at i) (own.found i)) ∙ heads.1) own.means,
        )
      where
        own : IsMethod p.items known o.1 t.1 m.name n
        own = method_is parts items p h words bodies o.1 t.1 m.name (subst (λ w. IsTrue (is_word w)) adt_name (adt_worded parts
            items p h words def.adt adt adt_at)) (all_at (λ w. IsTrue (is_word w)) known.traits def.trait_no t.1 (traits_worded
            (item_syns (items_of parts)) words) (word_at known.traits t.1 def.trait_no trait_is)) n (word_at known.paths (method_path
            o.1 t.1 m.name) n is)

        heads : IsTrue (checks.takes_reference own.params) × IsTrue (checks.is_same_head p.items (checks.trait_method p.items t.1
            m.name) (checks.body_head p.items o.1 m.name))
        heads =
            and_parts (checks.takes_reference own.params) _ (and_parts (not (checks.is_called_drop m.name)) _ (subst (λ b. IsTrue
            (if b then checks.is_called_drop m.name && (checks.takes_unique own.params && checks.is_drop_sig p.items
            (checks.body_head p.items o.1 m.name)) else not (checks.is_called_drop m.name) && (checks.takes_reference own.params &&
            checks.is_same_head p.items (checks.trait_method p.items t.1 m.name) (checks.body_head p.items o.1 m.name)))) drops
            (subst (λ w. IsTrue (if checks.is_drop w then checks.is_called_drop m.name && (checks.takes_unique own.params &&
            checks.is_drop_sig p.items (checks.body_head p.items o.1 m.name)) else not (checks.is_called_drop m.name) &&
            (checks.takes_reference own.params && checks.is_same_head p.items (checks.trait_method p.items w m.name)
            (checks.body_head p.items o.1 m.name)))) own.of_trait own.asked))).1

    each_method : (ms : List Sig) → ((m : Sig) → Contains ms m → (k : ℕ) × (slice_get tr.methods k ≡ Some m)) → Holds (implements_all
        p.items def.adt adt.name ms (rules.impl_bodies known.paths o.1 t.1 ms))
    each_method [] there = refl
    each_method (m ∷ ms) there = by (method_body known.paths o.1 t.1 m.name) refl (each_method ms λ x has. there x (later_member m
        ms x has))
      where
        by : (b : Option ℕ) → method_body known.paths o.1 t.1 m.name ≡ b → Holds (implements_all p.items def.adt adt.name ms
            (rules.impl_bodies known.paths o.1 t.1 ms)) → Holds (implements_all p.items def.adt adt.name (m ∷ ms) (cons_option b
            (rules.impl_bodies known.paths o.1 t.1 ms)))
        by (Some n) e rest = let f = there m (0, omega arith, refl) in (one_method f.0 m f.1 n e, rest)
        by None e rest =
            let f = there m (0, omega arith, refl) in
            let b = body_there f.0 m f.1 in
            absurd (none-some b.0 (sym e ∙ b.1))

    this_impl : def.bodies ≡ rules.impl_bodies known.paths o.1 t.1 tr.methods → Holds (is_impl p.items def)
    this_impl is =
        subst (λ x. Holds (some x (λ (d : TraitDef). some (slice_get p.items.adts def.adt) (λ (a : Adt). implements_all p.items def.adt
        a.name d.methods def.bodies)))) (sym tr_at) (subst (λ x. Holds (some x (λ (a : Adt). implements_all p.items def.adt a.name
        tr.methods def.bodies))) (sym adt_at) (subst (λ bs. Holds (implements_all p.items def.adt adt.name tr.methods bs)) (sym is)
        (each_method tr.methods λ m has. (has.0, slice_get-Contains tr.methods m has))))

  one_impl : (def : ImplDef) → HasItem known items.traits IsOfText def → Holds (is_impl p.items def)
  one_impl def has = by has.0.item has.1.0 (has.1.1) has.2
    where
      by : (item : Syn) → IsAsked p.items item → ((name : Word) → Contains (names_in item) name → Contains known.paths (path_in item
          name)) → IsOwnImpl known items.traits item def → Holds (is_impl p.items def)
      by (syn at (AnItem (ImplItem (Some t) o methods))) asked paths own =
          let of = own.1 in
          let tr = mapped_from (λ (d : TraitDef). d.name) p.items.traits def.trait_no t.1 (ap (λ ws. slice_get ws def.trait_no)
          (named_traits parts items p h) ∙ word_at known.traits t.1 def.trait_no of.0) in
          let adt = mapped_from (λ (a : Adt). a.name) p.items.adts def.adt o.1 (ap (λ ws. slice_get ws def.adt) (named_adts parts
          items p h) ∙ word_at known.adts o.1 def.adt of.1) in
          this_impl t o def own.0 of.0 of.1 tr.0 tr.1 tr.2 adt.0 adt.1 adt.2 (checks.method_names methods) (subst (λ x. IsTrue
          (checks.has_all (option_map_or (λ (d : TraitDef). map (λ (m : Sig). m.name) d.methods) x []) (checks.method_names
          methods))) (found_trait t.1 def.trait_no tr.0 tr.1 tr.2) (subst (λ b. IsTrue (checks.has_all (if b then codes "drop" ∷ []
          else option_map_or (λ (d : TraitDef). map (λ (m : Sig). m.name) d.methods) (option_and_then (slice_get p.items.traits)
          (trait_named p.items t.1)) []) (checks.method_names methods))) own.0 asked.1)) paths (of.2 ∙ ap (λ x. rules.impl_bodies
          known.paths o.1 t.1 (rules.methods_of x)) (ap (λ ts. slice_get ts def.trait_no) (sym (extended parts items p
          h).traits) ∙ tr.1))
      by (syn at _) asked paths own = absurd own

  all_impls_so : (defs : List ImplDef) → All (HasItem known items.traits IsOfText) defs → Holds (each (is_impl p.items) defs)
  all_impls_so [] has = refl
  all_impls_so (def ∷ defs) has = (one_impl def has.0, all_impls_so defs has.1)

  implemented : Holds (each (is_impl p.items) p.items.impls)
  implemented =
      subst (λ defs. Holds (each (is_impl p.items) defs)) (sym (extended parts items p h).impls) (all_impls_so items.impls
      (impl_at known items.traits IsOfText (items_of parts) of_text items.impls (impls_of_text parts items p h)))

pub text_implemented : ImplsAreTyped
text_implemented parts items p h =
    implemented parts items p h (words_of_text parts items p h) (bodies_differ parts items p h) (traits_differ parts items p h)

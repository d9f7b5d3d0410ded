-- Two listed graphs that are equal as compared: what a run asks of their items has one answer, their bodies have the
-- same blocks, and `main` has one number.
use Rattle.std.proofs.Common.{◌≡◌, ℕ, suc, ◌+◌, ◌<◌, Bool, true, false, not, cond, ◌&&◌, ◌||◌, ◌==◌, List, [], ◌∷◌, ◌++◌, map, zip, length, codes, Option, Some, None, nat_lt, slice_get, refl, ap, sym, subst, ◌∙◌, arith, eq-eqb, lt-ltb}
use Rattle.std.specs.Prelude.{option_map, option_and_then, position}
use Rattle.std.specs.List.{list_any, position_or_len}
use Rattle.std.specs.Option.{option_map_or}
use Rattle.std.proofs.lemmas.Bool.{false≢true}
use Rattle.std.proofs.lemmas.Option.{none-some, same_Some}
use Rattle.mir_ty.specs.declared.ty.Ty.{Ty}
use Rattle.mir_ty.specs.declared.ty.TyId.{TyId}
use Rattle.mir_ty.specs.declared.adt.Adt.{Adt}
use Rattle.mir_ty.specs.declared.def.Sig.{Sig}
use Rattle.mir_ty.specs.AreItems.{IsTy}
use Rattle.mir_ty.specs.ItemTable.{ItemTable}
use Rattle.mir_ty.specs.Named.{adt_name}
use Rattle.mir_ty.specs.Parts.{fields_of, variants_of, captures_of}
use Rattle.store_model.specs.Concrete.Bodies.{main_of}
use Rattle.store_model.specs.Places.Place.{is_enum}
use Rattle.store_model.specs.Places.TypeForms.{same_id}
use Rattle.cfg_graph.specs.declared.graph.Body.{Body}
use Rattle.cfg_graph.specs.declared.graph.Graph.{Graph}
use Rattle.cfg_graph.specs.WellFormed.Faults.{item_faults, faults_of_body, of_each, end_faults, main_faults, is_main}
use Rattle.cfg_graph.specs.WellFormed.NameFaults.{same_name}
use Rattle.cfg_graph.specs.WellFormed.TypeFaults.{ty_exists}
use Rattle.cfg_graph.proofs.NoFaults.{second_empty}
use Rattle.listing_write.specs.Compared.{AdtSeen, SigSeen, BodySeen, GraphSeen, VariantSeen, variant_seen, adt_seen, sig_seen, trait_seen, closure_seen, body_seen, seen, IsListed}
use Rattle.listing_write.specs.Reading.Words.{place_in}
use Rattle.listing_write.specs.Types.{trait_name, type_text}
use Rattle.listing_write.proofs.Reading.Alike.{Side, TyAlike, ListsAlike, FormsAlike, lists_alike, forms_alike, one_type}
use Rattle.listing_write.proofs.Reading.Held.{types_alike}
use Rattle.listing_write.proofs.Reading.Items.{GoodVariant, GoodAdt, GoodClosure}
use Rattle.listing_write.proofs.Reading.Law.{one_id}
use Rattle.listing_write.proofs.Reading.Listed.{all_at, are_named, good_adts, good_closures, good_body, adt_no, trait_no, adts_told, traits_told}
use Rattle.listing_write.proofs.Reading.Same.{Both, both_at, both_from, every_at}
use Rattle.listing_write.proofs.Reading.Tested.{OptId, bool_iff, slice_alike}
use Rattle.listing_runs.proofs.Asked.{AnswersAlike}

-- one graph
module _ (graph : Graph) (listed : IsListed graph) where
  abbrev items : ItemTable
  items = graph.items

  one_adt : (n m : ℕ) → nat_lt n (length items.adts) ≡ true → nat_lt m (length items.adts) ≡ true →
      adt_name items n ≡ adt_name items m → n ≡ m
  one_adt n m a b e = sym (adts_told graph listed n a).1 ∙ ap (adt_no graph listed) e ∙ (adts_told graph listed m b).1

  one_trait : (n m : ℕ) → nat_lt n (length items.traits) ≡ true → nat_lt m (length items.traits) ≡ true →
      trait_name items n ≡ trait_name items m → n ≡ m
  one_trait n m a b e = sym (traits_told graph listed n a).1 ∙ ap (trait_no graph listed) e ∙
      (traits_told graph listed m b).1

  side : Side items
  side = record {
    named = are_named graph listed;
    parts = λ id ty is. (all_at (IsTy items.types) items.types id.0 ty listed.items.types is).parts;
    distinct = listed.items.distinct;
  }

  one_of_a_text : (a b : TyId) → ty_exists items a ≡ true → ty_exists items b ≡ true →
      type_text items a ≡ type_text items b → a ≡ b
  one_of_a_text = one_type items side one_adt one_trait

  has_main : list_any (is_main graph) (zip items.bodies graph.bodies) ≡ true
  has_main =
      by (list_any (is_main graph) (zip items.bodies graph.bodies))
      (second_empty (of_each (faults_of_body graph) 0 graph.bodies) (end_faults graph)
      (second_empty (item_faults graph) (of_each (faults_of_body graph) 0 graph.bodies ++ end_faults graph)
      listed.well_formed))
    where
      by : (t : Bool) → main_faults graph t ≡ [] → t ≡ true
      by true h = refl
      by false h = absurd (cc)

-- the name of `main` among signatures, where the names of two lists are the same as far as there are bodies
abbrev is_named_main : Sig → Bool
is_named_main sig = same_name sig.name (codes "main")

abbrev pub name_of : Sig → List ℕ
name_of sig = sig.name

pub record MainAt (ss ts : List Sig) (bs : List Body) : Type 0 where
  pub at : ℕ
  pub left_is : position_or_len is_named_main ss ≡ at
  pub right_is : position_or_len is_named_main ts ≡ at
  pub left_within : at < length ss
  pub right_within : at < length ts
  pub body_within : at < length bs

abbrev pub NamesSame : List Sig → List Sig → List Body → Type 0
NamesSame ss ts bs =
    (n : ℕ) (body : Body) → slice_get bs n ≡ Some body →
    option_map name_of (slice_get ss n) ≡ option_map name_of (slice_get ts n)

main_next : (s t : Sig) (ss ts : List Sig) (b : Body) (bs : List Body) → s.name ≡ t.name → (named : Bool) →
    is_named_main s ≡ named → (alone rest : Bool) →
    ((named && alone) || rest) ≡ true → (rest ≡ true → MainAt ss ts bs) →
    MainAt (s ∷ ss) (t ∷ ts) (b ∷ bs)
main_next s t ss ts b bs name true e alone rest any next = record {
  at = 0;
  left_is = ap (λ (b : Bool). cond (not b) (1 + position_or_len is_named_main ss) 0) e;
  right_is = ap (λ (b : Bool). cond (not b) (1 + position_or_len is_named_main ts) 0)
      (ap (λ (w : List ℕ). same_name w (codes "main")) (sym name) ∙ e);
  left_within = omega arith;
  right_within = omega arith;
  body_within = omega arith;
}
main_next s t ss ts b bs name false e alone rest any next =
    let later : MainAt ss ts bs = next any in
    let here = later.left_is in
    let there = later.right_is in
    let short = later.left_within in
    let low = later.right_within in
    let deep = later.body_within in
    let one : 1 + position_or_len is_named_main ss ≡ suc later.at = omega (arith, here) in
    let two : 1 + position_or_len is_named_main ts ≡ suc later.at = omega (arith, there) in
    record {
      at = suc later.at;
      left_is = ap (λ (b : Bool). cond (not b) (1 + position_or_len is_named_main ss) 0) e ∙ one;
      right_is = ap (λ (b : Bool). cond (not b) (1 + position_or_len is_named_main ts) 0)
          (ap (λ (w : List ℕ). same_name w (codes "main")) (sym name) ∙ e) ∙ two;
      left_within = omega (arith, short);
      right_within = omega (arith, low);
      body_within = omega (arith, deep);
    }

main_at : (graph : Graph) (ss ts : List Sig) (bs : List Body) → NamesSame ss ts bs →
    list_any (is_main graph) (zip ss bs) ≡ true → MainAt ss ts bs
main_at graph [] ts bs h any = absurd (false≢true any)
main_at graph (s ∷ ss) ts [] h any = absurd (false≢true any)
main_at graph (s ∷ ss) [] (b ∷ bs) h any = absurd (none-some (name_of s) (sym (h 0 b refl)))
main_at graph (s ∷ ss) (t ∷ ts) (b ∷ bs) h any =
    main_next s t ss ts b bs (same_Some s.name t.name (h 0 b refl)) (is_named_main s) refl (b.params == 0)
    (list_any (is_main graph) (zip ss bs)) any (main_at graph ss ts bs (λ n body is. h (suc n) body is))

found_there : (sigs : List Sig) (k : ℕ) → position_or_len is_named_main sigs ≡ k → k < length sigs →
    option_map_or (λ n. n) (position is_named_main sigs) 0 ≡ k
found_there sigs k h within =
    let found : nat_lt (position_or_len is_named_main sigs) (length sigs) ≡ true =
    ap (λ (n : ℕ). nat_lt n (length sigs)) h ∙ lt-ltb k (length sigs) within in
    ap (λ (b : Bool). option_map_or (λ n. n) (cond b (Some (position_or_len is_named_main sigs)) None) 0) found ∙ h

-- what is said of two that are missing, or that look the same
pub of_both : {X Y Z : Type 0} (f : X → Z) (g : Y → Z) (P : Option X → Option Y → Type 0) → P None None →
    (o : Option X) (p : Option Y) → ((x : X) (y : Y) → o ≡ Some x → p ≡ Some y → f x ≡ g y → P (Some x) (Some y)) →
    Both f g o p → P o p
of_both f g P none None None some h = none
of_both f g P none (Some x) (Some y) some h = some x y refl refl h
of_both f g P none None (Some y) some h = absurd h
of_both f g P none (Some x) None some h = absurd h

module _ (left right : Graph) (l : IsListed left) (r : IsListed right) (same : seen left ≡ seen right) where
  abbrev L : ItemTable
  L = left.items

  abbrev R : ItemTable
  R = right.items

  adts_same : map (adt_seen L) L.adts ≡ map (adt_seen R) R.adts
  adts_same = ap (λ (s : GraphSeen). s.adts) same

  traits_same : map (trait_seen L) L.traits ≡ map (trait_seen R) R.traits
  traits_same = ap (λ (s : GraphSeen). s.traits) same

  closures_same : map (closure_seen L) L.closures ≡ map (closure_seen R) R.closures
  closures_same = ap (λ (s : GraphSeen). s.closures) same

  pub adts_both : (n : ℕ) → Both (adt_seen L) (adt_seen R) (slice_get L.adts n) (slice_get R.adts n)
  adts_both = both_at (adt_seen L) (adt_seen R) L.adts R.adts adts_same

  bodies_both : (n : ℕ) → Both (body_seen L n) (body_seen R n) (slice_get left.bodies n) (slice_get right.bodies n)
  bodies_both n =
      subst (λ m. Both (body_seen L m) (body_seen R m) (slice_get left.bodies n) (slice_get right.bodies n))
      (let e : 0 + n ≡ n = omega arith in e)
      (both_from (body_seen L) (body_seen R) 0 left.bodies right.bodies (ap (λ (s : GraphSeen). s.bodies) same) n)

  -- types that are written alike
  adt_no_same : adt_no left l ≡ adt_no right r
  adt_no_same = ap (λ (s : List AdtSeen). place_in (map (λ (adt : AdtSeen). adt.name) s)) adts_same

  trait_no_same : trait_no left l ≡ trait_no right r
  trait_no_same =
      ap (λ (s : List (List ℕ × List SigSeen)). place_in (map (λ (def : List ℕ × List SigSeen). def.0) s)) traits_same

  adt_of_name : (n m : ℕ) → nat_lt n (length L.adts) ≡ true → nat_lt m (length R.adts) ≡ true →
      adt_name L n ≡ adt_name R m → n ≡ m
  adt_of_name n m a b e = sym (adts_told left l n a).1 ∙ (λ i. adt_no_same i (e i)) ∙ (adts_told right r m b).1

  trait_of_name : (n m : ℕ) → nat_lt n (length L.traits) ≡ true → nat_lt m (length R.traits) ≡ true →
      trait_name L n ≡ trait_name R m → n ≡ m
  trait_of_name n m a b e = sym (traits_told left l n a).1 ∙ (λ i. trait_no_same i (e i)) ∙ (traits_told right r m b).1

  forms : (a b : TyId) → TyAlike L R a b → FormsAlike L R a b
  forms =
      forms_alike L R (are_named left l) (are_named right r) adt_of_name trait_of_name (side left l).parts
      (side right r).parts

  ids_alike : (a b c d : TyId) → TyAlike L R a b → TyAlike L R c d → same_id a c ≡ same_id b d
  ids_alike a b c d h k = bool_iff (same_id a c) (same_id b d) there back
    where
      there : same_id a c ≡ true → same_id b d ≡ true
      there e =
          let text : type_text R b ≡ type_text R d = sym h.text ∙ ap (type_text L) (one_id a c e) ∙ k.text in
          eq-eqb b.0 d.0
          (ap (λ (id : TyId). id.0) (one_of_a_text right r b d h.right_exists k.right_exists text))

      back : same_id b d ≡ true → same_id a c ≡ true
      back e =
          let text : type_text L a ≡ type_text L c = h.text ∙ ap (type_text R) (one_id b d e) ∙ sym k.text in
          eq-eqb a.0 c.0 (ap (λ (id : TyId). id.0) (one_of_a_text left l a c h.left_exists k.left_exists text))

  -- fields, captures, `Drop` bodies
  fields_alike : (n v : ℕ) → ListsAlike L R (fields_of (slice_get (variants_of (slice_get L.adts n)) v))
      (fields_of (slice_get (variants_of (slice_get R.adts n)) v))
  fields_alike n v =
      of_both (adt_seen L) (adt_seen R)
      (λ o p. ListsAlike L R (fields_of (slice_get (variants_of o) v)) (fields_of (slice_get (variants_of p) v))) tt
      (slice_get L.adts n) (slice_get R.adts n) of_adts (adts_both n)
    where
      of_adts : (x y : Adt) → slice_get L.adts n ≡ Some x → slice_get R.adts n ≡ Some y → adt_seen L x ≡ adt_seen R y →
          ListsAlike L R (fields_of (slice_get x.variants v)) (fields_of (slice_get y.variants v))
      of_adts x y e f h =
          let good = (every_at (GoodAdt L (are_named left l)) L.adts n x (good_adts left l) e).variants in
          let fine = (every_at (GoodAdt R (are_named right r)) R.adts n y (good_adts right r) f).variants in
          of_both (variant_seen L) (variant_seen R) (λ o p. ListsAlike L R (fields_of o) (fields_of p)) tt
          (slice_get x.variants v) (slice_get y.variants v)
          (λ u w d k is. lists_alike L R u.fields w.fields
          (every_at (GoodVariant L (are_named left l)) x.variants v u good d).fields
          (every_at (GoodVariant R (are_named right r)) y.variants v w fine k).fields
          (ap (λ (s : VariantSeen). s.1) is))
          (both_at (variant_seen L) (variant_seen R) x.variants y.variants (ap (λ (s : AdtSeen). s.variants) h) v)

  captures_alike : (n : ℕ) →
      ListsAlike L R (captures_of (slice_get L.closures n)) (captures_of (slice_get R.closures n))
  captures_alike n =
      of_both (closure_seen L) (closure_seen R) (λ o p. ListsAlike L R (captures_of o) (captures_of p)) tt
      (slice_get L.closures n) (slice_get R.closures n)
      (λ x y e f h. lists_alike L R x.captures y.captures
      (every_at (GoodClosure L (are_named left l)) L.closures n x (good_closures left l) e).captures
      (every_at (GoodClosure R (are_named right r)) R.closures n y (good_closures right r) f).captures
      (ap (λ (s : List (List ℕ) × ℕ). s.0) h))
      (both_at (closure_seen L) (closure_seen R) L.closures R.closures closures_same n)

  enums_same : (n : ℕ) → is_enum L (Ty.Adt n) ≡ is_enum R (Ty.Adt n)
  enums_same n =
      of_both (adt_seen L) (adt_seen R)
      (λ o p. option_map_or (λ adt. adt.is_enum) o false ≡ option_map_or (λ adt. adt.is_enum) p false) refl
      (slice_get L.adts n) (slice_get R.adts n) (λ x y e f h. ap (λ (s : AdtSeen). s.is_enum) h) (adts_both n)

  drops_same : (n : ℕ) → option_map_or (λ adt. adt.drop_body) (slice_get L.adts n) None
      ≡ option_map_or (λ adt. adt.drop_body) (slice_get R.adts n) None
  drops_same n =
      of_both (adt_seen L) (adt_seen R)
      (λ o p. option_map_or (λ adt. adt.drop_body) o None ≡ option_map_or (λ adt. adt.drop_body) p None) refl
      (slice_get L.adts n) (slice_get R.adts n) (λ x y e f h. ap (λ (s : AdtSeen). s.drop_body) h) (adts_both n)

  pub answers_alike : AnswersAlike L R
  answers_alike = record {
    held = record { fields = fields_alike; enums = enums_same; captures = captures_alike };
    types = types_alike L R forms;
    ids = ids_alike;
    impls = ap (λ (s : GraphSeen). s.impls) same;
    drops = drops_same;
  }

  -- locals, and blocks
  pub locals_alike : (n local : ℕ) →
      OptId L R (option_and_then (λ body. slice_get body.locals local) (slice_get left.bodies n))
      (option_and_then (λ body. slice_get body.locals local) (slice_get right.bodies n))
  locals_alike n local =
      of_both (body_seen L n) (body_seen R n)
      (λ o p. OptId L R (option_and_then (λ body. slice_get body.locals local) o)
      (option_and_then (λ body. slice_get body.locals local) p)) tt (slice_get left.bodies n) (slice_get right.bodies n)
      (λ b c e f h. slice_alike L R b.locals c.locals
      (lists_alike L R b.locals c.locals (good_body left l n b e).locals (good_body right r n c f).locals
      (ap (λ (s : BodySeen). s.locals) h)) local) (bodies_both n)

  pub blocks_both : (n : ℕ) → Both (λ (b : Body). b.blocks) (λ (c : Body). c.blocks) (slice_get left.bodies n)
      (slice_get right.bodies n)
  blocks_both n =
      of_both (body_seen L n) (body_seen R n) (Both (λ (b : Body). b.blocks) (λ (c : Body). c.blocks)) tt
      (slice_get left.bodies n) (slice_get right.bodies n)
      (λ b c e f h. ap (λ (s : BodySeen). s.blocks) h) (bodies_both n)

  -- the number of `main`
  names_seen : (table : ItemTable) (o : Option Sig) →
      option_map name_of o ≡ option_map (λ (s : SigSeen). s.0) (option_map (sig_seen table) o)
  names_seen table None = refl
  names_seen table (Some s) = refl

  pub names_same : NamesSame L.bodies R.bodies left.bodies
  names_same n body is = by (slice_get left.bodies n) (slice_get right.bodies n) is (bodies_both n)
    where
      by : (o p : Option Body) → o ≡ Some body → Both (body_seen L n) (body_seen R n) o p →
          option_map name_of (slice_get L.bodies n) ≡ option_map name_of (slice_get R.bodies n)
      by (Some b) (Some c) e h =
          names_seen L (slice_get L.bodies n) ∙ ap (option_map (λ (s : SigSeen). s.0))
          (ap (λ (s : BodySeen). s.signature) h)
          ∙ sym (names_seen R (slice_get R.bodies n))
      by None p e h = absurd (none-some body e)
      by (Some b) None e h = absurd h

  main_found : MainAt L.bodies R.bodies left.bodies
  main_found = main_at left L.bodies R.bodies left.bodies names_same (has_main left l)

  main_is : main_of L ≡ main_found.at
  main_is = found_there L.bodies main_found.at main_found.left_is main_found.left_within

  pub main_same : main_of L ≡ main_of R
  main_same = main_is ∙ sym (found_there R.bodies main_found.at main_found.right_is main_found.right_within)

  -- a body of the graph
  pub main_within : main_of L < length left.bodies
  main_within = let within = main_found.body_within in let is = main_is in omega (arith, within, is)

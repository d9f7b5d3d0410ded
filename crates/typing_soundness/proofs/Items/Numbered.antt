-- Bodies of an accepted text by their numbers: the body at the number of a method's path is that method.
use Rattle.std.proofs.Common.{◌≡◌, ℕ, zero, suc, Bool, true, false, ◌||◌, ◌&&◌, not, List, [], ◌∷◌, ◌++◌, map, slice_get, Option, Some, None, Result, Ok, Err, IsTrue, Contains, refl, ap, sym, subst, ◌∙◌, arith}
use Rattle.std.specs.Prelude.{codes, is_some, option_and_then, option_map}
use Rattle.std.specs.List.{list_any, filter_map, position as position_of}
use Rattle.std.specs.Str.{bytes_eq}
use Rattle.std.proofs.lemmas.Bool.{false≢true, and_parts}
use Rattle.std.proofs.lemmas.List.Quantifiers.{position-Some}
use Rattle.std.proofs.lemmas.Option.{none-some, same_Some, slice_get-get_or, slice_get-map}
use Rattle.mir_base.specs.declared.place_in_text.Pos.{Pos}
use Rattle.mir_base.specs.declared.rule.Rule.{Rule}
use Rattle.mir_ty.specs.declared.def.Sig.{Sig}
use Rattle.mir_ty.specs.declared.ty.TyId.{TyId}
use Rattle.mir_ty.specs.ItemTable.{ItemTable}
use Rattle.src_tree.specs.Layout.{Parts}
use Rattle.typed_tree.specs.Tree.{ProgramTree}
use Rattle.well_typed.specs.Names.{are_distinct, is_among, is_word}
use Rattle.typing_rules.specs.Check.{TypingState, Broken, each_checked, obeys}
use Rattle.typing_rules.specs.Collected as rules
use Rattle.typing_rules.specs.Items.{ItemSyn, items_of, item_syns, adt_names, trait_names, body_paths, body_path, method_path, full_name, impl_owner}
use Rattle.typing_rules.specs.Program as checks
use Rattle.typing_rules.specs.Promises.{Extends}
use Rattle.typing_rules.specs.Scope.{body_named, method_word}
use Rattle.typing_rules.specs.Written as types
use Rattle.src_ast.specs.Syntax.{Word, Named, Syn, syn, AnItem, StructItem, EnumItem, TraitItem, ImplItem, FnItem, Syns, list_of}
use Rattle.typing_soundness.specs.Closures.{BodySyn, Function, Closure, WrittenHead, functions_text}
use Rattle.typing_soundness.specs.Heads.{IsHeadOf, owner_of, inner_text}
use Rattle.typing_soundness.specs.Met.{MeanParams}
use Rattle.typing_soundness.specs.Program.{IsAccepted}
use Rattle.typing_soundness.specs.Walks.{Walked}
use Rattle.typing_soundness.proofs.Bodies.Program.{bodies_typed}
use Rattle.typing_soundness.proofs.Items.Accepting.{are_collected}
use Rattle.typing_soundness.proofs.Items.Collected.{IsOwner, all_names, both_tell, listed_text, word_at}
use Rattle.typing_soundness.proofs.Items.Headed.{heads_of_text, no_ok as no_items_ok}
use Rattle.typing_soundness.proofs.Items.Main.{IsOwned, owners_known, has_position, one_of, same_word, word_self, each_if_any, head_of}
use Rattle.typing_soundness.proofs.Items.Asked.{HeadsAsked, IsAsked, text_asked}
use Rattle.typing_soundness.proofs.Items.Paths.{AreBodies, all_bodies_seen, HasPath, IsOf, IsListed, FactsOf, all_listed, Aligned, aligned_at, path_tells, path_is_other, path_is_no_name}
use Rattle.typing_soundness.proofs.Items.Ready.{All, all_at}
use Rattle.typing_soundness.proofs.Walking.Later.{types_later}
use Rattle.typing_soundness.proofs.Walking.Lawful.{whatever}
use Rattle.typing_soundness.proofs.Walking.Steps.{walk, walk_map, walk_obeyed, walk_ends}

-- ---- names that differ

-- one number a name
pub distinct_once : (ws : List Word) → IsTrue (are_distinct ws) → (n m : ℕ) (w : Word) → slice_get ws n ≡ Some w → slice_get ws
    m ≡ Some w → n ≡ m
distinct_once [] d n m w at_n at_m = absurd (none-some w at_n)
distinct_once (v ∷ ws) d zero zero w at_n at_m = refl
distinct_once (v ∷ ws) d zero (suc m) w at_n at_m =
    absurd (false≢true (ap not (sym (one_of (bytes_eq v) ws m w at_m (ap (bytes_eq v) (sym (same_Some v w at_n)) ∙ word_self v)))
    ∙ (and_parts (not (is_among v ws)) _ d).0))
distinct_once (v ∷ ws) d (suc n) zero w at_n at_m =
    absurd (false≢true (ap not (sym (one_of (bytes_eq v) ws n w at_n (ap (bytes_eq v) (sym (same_Some v w at_m)) ∙ word_self v)))
    ∙ (and_parts (not (is_among v ws)) _ d).0))
distinct_once (v ∷ ws) d (suc n) (suc m) w at_n at_m =
    ap suc (distinct_once ws (and_parts (not (is_among v ws)) _ d).1 n m w at_n at_m)

pub mapped_at : {A B : Type 0} (f : A → B) (xs : List A) (n : ℕ) (x : A) → slice_get xs n ≡ Some x → slice_get (map f xs) n ≡ Some (f
    x)
mapped_at f xs n x is = slice_get-map f xs n ∙ ap (option_map f) is

-- what has a name is found by it, where names differ
pub found_by_name : {A : Type 0} (name_of : A → Word) (xs : List A) → IsTrue (are_distinct (map name_of xs)) → (n : ℕ) (x : A) →
    slice_get xs n ≡ Some x → position_of (λ y. bytes_eq (name_of y) (name_of x)) xs ≡ Some n
found_by_name name_of xs d n x is =
    let p = has_position (λ y. bytes_eq (name_of y) (name_of x)) xs n x is (word_self (name_of x)) in
    let first = position-Some (λ y. bytes_eq (name_of y) (name_of x)) xs p.0 x p.1 in
    let there = slice_get-get_or xs p.0 x first.0 in
    p.1 ∙ ap Some (distinct_once (map name_of xs) d p.0 n (name_of x) (mapped_at name_of xs p.0 _ there ∙ ap Some (same_word _
    (name_of x) first.1)) (mapped_at name_of xs n x is))

-- ---- the words of a text

-- the names of items in a text are words
abbrev pub IsWorded : Syn → Type 0
IsWorded (syn at (AnItem (StructItem derives name kind fields))) = IsTrue (is_word name.1)
IsWorded (syn at (AnItem (EnumItem derives name variants))) = IsTrue (is_word name.1)
IsWorded (syn at (AnItem (TraitItem name heads))) = IsTrue (is_word name.1)
IsWorded (syn at (AnItem (FnItem name params answer block))) = IsTrue (is_word name.1)
IsWorded (syn at _) = Unit {0}

pub adts_worded : (is : List Syn) → All IsWorded is → All (λ w. IsTrue (is_word w)) (adt_names is)
adts_worded [] h = tt
adts_worded (syn at (AnItem (StructItem derives name kind fields)) ∷ is) h = (h.0, adts_worded is h.1)
adts_worded (syn at (AnItem (EnumItem derives name variants)) ∷ is) h = (h.0, adts_worded is h.1)
adts_worded (syn at _ ∷ is) h = adts_worded is h.1

pub traits_worded : (is : List Syn) → All IsWorded is → All (λ w. IsTrue (is_word w)) (trait_names is)
traits_worded [] h = tt
traits_worded (syn at (AnItem (TraitItem name heads)) ∷ is) h = (h.0, traits_worded is h.1)
traits_worded (syn at _ ∷ is) h = traits_worded is h.1

-- one of some names, which are words
number_worded : (ws : List Word) → All (λ w. IsTrue (is_word w)) ws → (w : Word) → IsTrue (is_some (types.number_of ws w)) →
    IsTrue (is_word w)
number_worded ws h w known = by (types.number_of ws w) refl known
  where
    by : (o : Option ℕ) → types.number_of ws w ≡ o → IsTrue (is_some o) → IsTrue (is_word w)
    by None e known = absurd (false≢true known)
    by (Some n) e known = all_at (λ v. IsTrue (is_word v)) ws n w h (word_at ws w n e)

-- ---- what the collection asks of impls

abbrev pub IsTraitKnown : rules.Known → Syn → Type 0
IsTraitKnown k (syn at (AnItem (ImplItem (Some trait_) name methods))) =
    IsTrue (rules.is_drop trait_.1 || is_some (types.number_of k.traits trait_.1)) × IsTrue (is_some (types.number_of k.adts
    name.1))
IsTraitKnown k (syn at (AnItem (ImplItem None name methods))) = IsTrue (is_some (types.number_of k.adts name.1))
IsTraitKnown k (syn at _) = Unit {0}

obeyed_so : {P : Type 0} (rule : Rule) (at : Pos) (b : Bool) (s : TypingState) → (IsTrue b → P) → Walked (λ _ t. P) (obeys rule at b s)
obeyed_so rule at true s h = walk_ends (h refl)
obeyed_so rule at false s h = record { so = tt }

impl_known : (k : rules.Known) (i : Syn) (s : TypingState) → Walked (λ _ t. IsTraitKnown k i) (rules.item_head k i s)
impl_known k (syn at (AnItem (ImplItem (Some trait_) name methods))) s =
    walk_obeyed Rule.T01 trait_.0 (rules.is_drop trait_.1 || is_some (types.number_of k.traits trait_.1)) _ λ h. obeyed_so
    Rule.T01 name.0 (is_some (types.number_of k.adts name.1)) s λ g. (h, g)
impl_known k (syn at (AnItem (ImplItem None name methods))) s =
    obeyed_so Rule.T01 name.0 (is_some (types.number_of k.adts name.1)) s λ g. g
impl_known k (syn at _) s = whatever _ tt

impls_known : (k : rules.Known) (c : rules.Count) (is : List ItemSyn) (s : TypingState) → Walked (λ _ t. All (λ i. IsTraitKnown k
    i.item) is) (rules.heads_collected k c is s)
impls_known k c [] s = walk_ends tt
impls_known k c (i ∷ is) s =
    walk (impl_known k i.item s) λ _ t h. walk (whatever {P = Unit {0}} (rules.body_sigs k (impl_owner i.item) c i.bodies t)
    tt) λ d u _. walk_map (impls_known k d is u) λ _ v g. (h, g)

record IsSeen (is : List ItemSyn) : Type 0 where
  bodies : AreBodies is
  owned : All (IsOwned (rules.known_of is)) is
  known : All (λ i. IsTraitKnown (rules.known_of is) i.item) is

collecting_seen : (is : List ItemSyn) (end : Pos) (s : TypingState) → Walked (λ _ t. IsSeen is) (rules.collecting is end s)
collecting_seen is end s =
    walk (whatever {P = Unit {0}} (rules.names_differ (filter_map rules.item_name (item_syns is)) [] s) tt) λ _ t _. walk
    (both_tell (rules.heads_collected k c is t) (all_bodies_seen k c is t) (both_tell (rules.heads_collected k c is t)
    (owners_known k c is t) (impls_known k c is t))) λ _ u h. whatever _ (record { bodies = h.0; owned = h.1.0; known = h.1.1 })
  where
    k : rules.Known
    k = rules.known_of is

    c : rules.Count
    c = record { outer = []; in_outer = 0; closures = 0 }

-- ---- what is so of each method

module _ (items : ItemTable) (k : rules.Known) where
  abbrev IsTraitWord : Option Named → Type 0
  IsTraitWord None = Unit {0}
  IsTraitWord (Some trait_) = IsTrue (is_word trait_.1)

  -- a method with what is asked of it; a function, whose name is a word
  abbrev Fact : Syn → WrittenHead → Type 0
  Fact (syn at (AnItem (ImplItem trait_ owner methods))) head =
      (head.around ≡ all_names k (Some owner.1)) × IsTrue (is_word owner.1) × IsTraitWord trait_ × IsTrue (checks.has_head items
      trait_ owner.1 head.name head.params) × IsOwner k (Some owner.1)
  Fact (syn at _) head = IsTrue (is_word head.name)

  methods_so : (at : Pos) (trait_ : Option Named) (owner : Named) (methods : Syns) → IsTrue (is_word owner.1) → IsTraitWord
      trait_ → IsOwner k (Some owner.1) → (ms : List Syn) → HeadsAsked items trait_ owner.1 ms → (rest : List BodySyn) → All (IsOf Fact (syn at (AnItem (ImplItem
      trait_ owner methods)))) rest → All (IsOf Fact (syn at (AnItem (ImplItem trait_ owner methods)))) (functions_text (all_names k (Some
      owner.1)) ms rest)
  methods_so at trait_ owner methods ow tw own [] h rest p = p
  methods_so at trait_ owner methods ow tw own (syn here (AnItem (FnItem name params answer block)) ∷ ms) h rest p = (
    (refl, ow, tw, h.0, own),
    each_if_any (All (IsOf Fact (syn at (AnItem (ImplItem trait_ owner methods))))) (λ head texts q. (tt, q)) (all_names k (Some owner.1)) block _ (methods_so
        at trait_ owner methods ow tw own ms h.1 rest p),
  )
  methods_so at trait_ owner methods ow tw own (syn here _ ∷ ms) h rest p = absurd h

  item_so : (traits : All (λ w. IsTrue (is_word w)) k.traits) (adts : All (λ w. IsTrue (is_word w)) k.adts) (i : Syn) → IsWorded
      i → IsAsked items i → IsTraitKnown k i → IsOwner k (impl_owner i) → All (IsOf Fact i) (inner_text (all_names k (impl_owner i)) i [])
  item_so traits adts (syn at (AnItem (ImplItem (Some trait_) owner methods))) w h known own =
      methods_so at (Some trait_) owner methods (number_worded k.adts adts owner.1 known.1) (by (rules.is_drop trait_.1) refl
      known.0) own (list_of methods) h.0 [] tt
    where
      by : (b : Bool) → rules.is_drop trait_.1 ≡ b → IsTrue (b || is_some (types.number_of k.traits trait_.1)) → IsTrue (is_word
          trait_.1)
      by true e known = subst (λ v. IsTrue (is_word v)) (sym (same_word trait_.1 (codes "Drop") e)) refl
      by false e known = number_worded k.traits traits trait_.1 known
  item_so traits adts (syn at (AnItem (ImplItem None owner methods))) w h known own =
      methods_so at None owner methods (number_worded k.adts adts owner.1 known) tt own (list_of methods) h.0 [] tt
  item_so traits adts (syn at (AnItem (FnItem name params answer block))) w h known own = (
    w,
    each_if_any (All (IsOf Fact (syn at (AnItem (FnItem name params answer block))))) (λ head texts q. (tt, q)) (all_names k None) block [] tt,
  )
  item_so traits adts (syn at _) w h known own = tt

  all_so : (traits : All (λ w. IsTrue (is_word w)) k.traits) (adts : All (λ w. IsTrue (is_word w)) k.adts) (is : List ItemSyn) →
      All IsWorded (item_syns is) → All (IsAsked items) (item_syns is) → All (λ i. IsTraitKnown k i.item) is → All (IsOwned k) is → All
      (FactsOf Fact k) is
  all_so traits adts [] w h known own = tt
  all_so traits adts (i ∷ is) w h known own =
      (item_so traits adts i.item w.0 h.0 known.0 own.0, all_so traits adts is w.1 h.1 known.1 own.1)

-- ---- the whole

-- the body at a number is the method of a type's impl of a trait
pub record IsMethod (items : ItemTable) (k : rules.Known) (owner trait_ name : Word) (n : ℕ) : Type 0 where
  pub head : Sig
  pub there : slice_get items.bodies n ≡ Some head
  pub is_named : head.name ≡ method_word owner name
  pub params : Syns
  pub means : MeanParams (all_names k (Some owner)) items params head.params
  pub of : Named
  pub of_trait : of.1 ≡ trait_
  pub asked : IsTrue (checks.has_head items (Some of) owner name params)
  pub found : checks.body_head items owner name ≡ Some head

module _ (parts : Parts Pos) (items : ItemTable) (p : ProgramTree) (h : IsAccepted parts items p) (words : All IsWorded (item_syns
    (items_of parts))) (distinct : IsTrue (are_distinct (map (λ (sig : Sig). sig.name) p.items.bodies))) where
  abbrev all : List ItemSyn
  all = items_of parts

  abbrev k : rules.Known
  k = rules.known_of (items_of parts)

  pub extends : Extends items p.items
  extends = (bodies_typed parts items p (are_collected parts items p h) h.checked).0

  pub asked_of_text : All (IsAsked p.items) (item_syns (items_of parts))
  asked_of_text = text_asked parts items p (are_collected parts items p h) h.checked

  seen : IsSeen (items_of parts)
  seen = by _ (collecting_seen (items_of parts) h.end (rules.starting_with rules.no_items)) h.collected
    where
      by : (r : Result (Unit {0} × TypingState) Broken) → Walked (λ _ t. IsSeen (items_of parts)) r → rules.items_in r ≡ Ok items →
          IsSeen (items_of parts)
      by (Ok a) w e = w.so
      by (Err x) w e = absurd (no_items_ok x e)

  pub bodies_of_text : AreBodies (items_of parts)
  bodies_of_text = seen.bodies

  pub listed : Aligned (IsListed (Fact p.items k)) (body_paths all) (listed_text k all [])
  listed = all_listed (Fact p.items k) k all seen.bodies h.text.listed (all_so p.items k (traits_worded (item_syns all) words)
      (adts_worded (item_syns all) words) all words asked_of_text seen.known seen.owned)

  module _ (owner trait_ name : Word) (ow : IsTrue (is_word owner)) (tw : IsTrue (is_word trait_)) where
    abbrev path : Word
    path = method_path owner trait_ name

    path_is_begun : path ≡ [] → ⊥
    path_is_begun e = false≢true (sym (ap is_begun e))
      where
        is_begun : Word → Bool
        is_begun [] = false
        is_begun (byte ∷ bytes) = true

    -- the head of a text at a number
    head_at : (n : ℕ) (head : WrittenHead) → slice_get (listed_text k all []) n ≡ Some (Function head) → head.around ≡
        all_names k (Some owner) → IsOwner k (Some owner) → head.name ≡ name → (of : Named) → of.1 ≡ trait_ → IsTrue
        (checks.has_head p.items (Some of) owner name head.params) → IsMethod p.items k owner trait_ name n
    head_at n head at around own named of of_trait asked =
        let heads = heads_of_text parts h.end items h.collected in
        let f = head_of (IsHeadOf items) 0 heads.count (listed_text k all []) [] items.bodies heads.made n (Function head) at in
        let is_named : f.0.name ≡ method_word owner name = f.3.1 ∙ (λ i. full_name (owner_of (around i)) (named i)) ∙ ap (λ o.
        full_name o name) own in
        let there : slice_get p.items.bodies n ≡ Some f.0 = ap (λ bs. slice_get bs n) extends.bodies ∙ f.2 in
        record {
          head = f.0;
          there = there;
          is_named = is_named;
          params = head.params;
          means = subst (λ a. MeanParams a p.items head.params f.0.params) around (types_later items p.items extends.types head
              f.0.params f.0.result f.3.0).0;
          of = of;
          of_trait = of_trait;
          asked = asked;
          found = ap (option_and_then (slice_get p.items.bodies)) (ap (λ w. body_named p.items w) (sym is_named) ∙ found_by_name
              (λ (sig : Sig). sig.name) p.items.bodies distinct n f.0 there) ∙ there;
        }

    by_text : (n : ℕ) (text : BodySyn) → slice_get (listed_text k all []) n ≡ Some text → (i : Syn) → HasPath i path text → IsOf
        (Fact p.items k) i text → IsMethod p.items k owner trait_ name n
    by_text n (Closure head) at i e fact = absurd (path_is_begun e)
    by_text n (Function head) at (syn here (AnItem (ImplItem (Some t) o methods))) e fact =
        let s = path_tells o.1 t.1 head.name owner trait_ name fact.1 fact.2 ow tw (sym e) in
        head_at n head at (fact.0 ∙ ap (λ w. all_names k (Some w)) s.0) (subst (λ w. IsOwner k (Some w)) s.0 fact.4) s.2 t s.1
        (sym (λ i. checks.has_head p.items (Some t) (s.0 i) (s.2 i) head.params) ∙ fact.3)
    by_text n (Function head) at (syn here (AnItem (ImplItem None o methods))) e fact =
        absurd (path_is_other o.1 head.name owner trait_ name fact.1 ow (sym e))
    by_text n (Function head) at (syn here _) e fact = absurd (path_is_no_name head.name owner trait_ name fact (sym e))

    pub method_is : (n : ℕ) → slice_get (body_paths all) n ≡ Some path → IsMethod p.items k owner trait_ name n
    method_is n at =
        let a = aligned_at (IsListed (Fact p.items k)) (body_paths all) (listed_text k all []) listed n path at in
        by_text n a.0 a.1 a.2.0 a.2.1 a.2.2
